-- Printed ends of pods are read back.
use Rattle.std.proofs.Common.{◌≡◌, ℕ, ◌+◌, pos, ◌≤◌, List, [], ◌∷◌, length, map, true, ◌&&◌, cond, codes, Option, Some, None, option_map, IfSome, Result, Ok, Err, nat_lt, nat_le, refl, sym, ap, ap₂, ◌∙◌, le-leb, lt-ltb, arith}
use Rattle.std.specs.List.{AllByRecursion as Each}
use Rattle.std.specs.Prelude.{ok_or, unwrap_or}
use Rattle.std.proofs.lemmas.List.{length-map}
use Rattle.serde_json.specs.Data.{Data, string, object}
use Rattle.serde_json.specs.View.{items_of}
use Rattle.jc_json.specs.Field.{◌>>=◌, bounded_number, item_object, member_of, missing, needed_number, out_of_range}
use Rattle.jc_json.specs.Place.{path_at, path_to}
use Rattle.jc_json.proofs.Items.{items_listed as listed}
use Rattle.jc_lines.specs.ChangeTexts.{end_data, ends_data, exit_data}
use Rattle.jc_members.specs.declared.causes.Cause.{Cause}
use Rattle.jc_members.specs.declared.causes.Cause.TheVariants.{Invalid}
use Rattle.jc_members.specs.LineCauses.{read_as}
use Rattle.jc_members.specs.EndMembers.{end_members, end_said, end_said_at, ends_said, rightly_many}
use Rattle.jc_members.specs.Items.{each_said, then_each, with_front}
use Rattle.jc_members.specs.Members.{given_number_in, given_tested, given_text_in}
use Rattle.jc_manifest.specs.FailurePolicies.{is_type}
use Rattle.jc_print.specs.PrintedMembers.{list_data, number_data, with_json_member}
use Rattle.jc_types.specs.declared.actions.End.{End}
use Rattle.jc_types.specs.declared.limits.TheConstants.{GREATEST_LIMIT}
use Rattle.jc_reading.specs.Proper.{AreAllowedEnds, IsAllowedEnd, IsAllowedType}
use Rattle.jc_reading.specs.Turned.{of_member}
use Rattle.jc_reading.proofs.AgainHead.{given_text, no_text}
use Rattle.jc_reading.proofs.AgainTemplate.{list_needed}
use Rattle.jc_reading.proofs.Found.{member_found, puts}
use Rattle.jc_reading.proofs.MemberFacts.{given_in, rows_known, whole_given}

-- ---- a type that may be given, and a number that must be

type_again : (path name : List ℕ) (d : Data) (o : Option (List ℕ)) → member_of name d ≡ option_map string o → IfSome o IsAllowedType
    → given_text_in path name 30 is_type d ≡ Ok o
unfolding given_text_in
type_again path name d None is allowed = ap (λ r. read_as r >>= given_tested (path_to path name) 30 is_type) (no_text path name d is)
type_again path name d (Some s) is allowed =
    ap (λ r. read_as r >>= given_tested (path_to path name) 30 is_type) (given_text path name d s is)
    ∙ ap (λ b. cond b (Ok (Some s)) (Err (Invalid (path_to path name) 30))) allowed.0

exit_again : (path name : List ℕ) (d : Data) (n : ℕ) → member_of name d ≡ Some (exit_data (pos n)) → n ≤ 255 → needed_number path name (pos 0) (pos 255) d ≡ Ok (pos n)
unfolding needed_number
exit_again path name d n is few =
    ap (λ o. ok_or o (missing (path_to path name)) >>= bounded_number (path_to path name) (pos 0) (pos 255)) is
    ∙ ap₂ (λ a b. cond (a && b) (Ok (pos n)) (Err (out_of_range (path_to path name)))) (le-leb 0 n (omega arith)) (le-leb n 255 few)

-- ---- one end

module _ (end : End) where
  abbrev rows : List (List ℕ × Option Data)
  rows =
      (codes "restarts", Some (number_data end.restarts)) ∷ (codes "exitCode", Some (exit_data end.exit))
      ∷ (codes "condition", option_map string end.condition) ∷ []

  abbrev made : Data
  made = object (puts rows)

  end_puts : end_data end ≡ made
  unfolding end_data with_json_member
  end_puts = refl

  module _ (allowed : IsAllowedEnd end) where
    code_again : (path : List ℕ) → needed_number path (codes "exitCode") (pos 0) (pos 255) made ≡ Ok end.exit
    code_again path =
        exit_again path (codes "exitCode") made allowed.exit.code (member_found (codes "exitCode") rows ∙ ap (λ z. Some (exit_data z)) allowed.exit.is) allowed.exit.few
        ∙ ap Ok (sym allowed.exit.is)

    said_again : (path : List ℕ) → end_said path made ≡ Ok end
    unfolding end_said
    said_again path =
        ap (λ r. read_as r >>= λ exit. given_number_in path (codes "restarts") 0 GREATEST_LIMIT made >>= λ restarts.
        given_text_in path (codes "condition") 30 is_type made >>= λ condition. Ok
        (record { exit = exit; restarts = unwrap_or restarts 0; condition = condition })) (code_again path)
        ∙ ap (λ r. r >>= λ restarts. given_text_in path (codes "condition") 30 is_type made >>= λ condition. Ok (record { exit = end.exit; restarts = unwrap_or restarts 0; condition = condition }))
        (given_in path (codes "restarts") GREATEST_LIMIT made (Some end.restarts) (member_found (codes "restarts") rows) allowed.restarts)
        ∙ ap (λ r. r >>= λ condition. Ok (record { exit = end.exit; restarts = end.restarts; condition = condition }))
        (type_again path (codes "condition") made end.condition (member_found (codes "condition") rows ∙ whole_given string (λ s. refl) end.condition) allowed.condition)

    pub end_again : (list : List ℕ) (place : ℕ) → end_said_at list place (end_data end) ≡ Ok end
    unfolding end_said_at item_object
    end_again list place =
        ap (end_said_at list place) end_puts
        ∙ ap (λ r. r >>= λ known. end_said (path_at list place) made) (rows_known (path_at list place) end_members rows refl)
        ∙ said_again (path_at list place)

-- ---- all of them

pub each_again : {A : Type 0} (read : ℕ → Data → Result A Cause) (f : A → Data) (P : A → Type 0) → ((place : ℕ) (a : A) → P a → read place (f a) ≡ Ok a)
    → (place : ℕ) (as_they_are : List A) → Each P as_they_are → each_said read place (map f as_they_are) ≡ Ok as_they_are
each_again read f P again place [] all = refl
each_again read f P again place (a ∷ more) all =
    ap (λ r. then_each r (each_said read (place + 1) (map f more))) (again place a all.0)
    ∙ ap (with_front (a ∷ [])) (each_again read f P again (place + 1) more all.1)

ends_given : (ends : List End) → member_of (codes "ends") (of_member (codes "ends") (ends_data ends)) ≡ Some (list_data (map end_data ends))
unfolding member_of ends_data
ends_given ends = refl

pub ends_again : (ends : List End) → AreAllowedEnds ends → ends_said (of_member (codes "ends") (ends_data ends)) ≡ Ok ends
unfolding ends_said rightly_many
ends_again ends allowed =
    let path : List ℕ = path_to [] (codes "ends") in
    let many : length (map end_data ends) ≡ length ends = length-map ends end_data in
    let some = allowed.some in
    let more : nat_lt 0 (length ends) ≡ true = lt-ltb 0 (length ends) (omega (arith, some)) in
    let less : nat_le (length ends) 100 ≡ true = le-leb (length ends) 100 allowed.few in
    ap (λ r. read_as r >>= λ items. rightly_many path items >>= λ many. each_said (end_said_at path) 0 items)
    (list_needed [] (codes "ends") (of_member (codes "ends") (ends_data ends)) (items_of (map end_data ends)) (ends_given ends) ∙ ap Ok (listed (map end_data ends)))
    ∙ ap (λ n. cond (nat_lt 0 n && nat_le n 100) (Ok tt) (Err (Invalid path 30)) >>= λ many. each_said (end_said_at path) 0 (map end_data ends)) many
    ∙ ap₂ (λ a b. cond (a && b) (Ok tt) (Err (Invalid path 30)) >>= λ many. each_said (end_said_at path) 0 (map end_data ends)) more less
    ∙ each_again (end_said_at path) end_data IsAllowedEnd (λ place end allowed. end_again end allowed path place) 0 ends allowed.each
