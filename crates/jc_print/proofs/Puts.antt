-- One member put after another.
use Rattle.std.proofs.Common.{◌≡◌, List, ℕ, Option}
use Rattle.serde_json.specs.Data.{Data, Members}
use Rattle.jc_print.specs.PrintedMembers.{with_json_member}

-- a member that is said to be that, behind members that are those
pub put_over : (name : List ℕ) (given said : Option Data) (new old front : Members) → new ≡ with_json_member name given old
    → given ≡ said → old ≡ front → new ≡ with_json_member name said front
put_over name given said new old front put same before = cc
