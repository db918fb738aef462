mod ChangeMembers
