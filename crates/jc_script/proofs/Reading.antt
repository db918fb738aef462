-- Reading a script line by line.
use Rattle.std.proofs.Common.{◌≡◌, refl, sym, ◌∙◌, ap, ℕ, ◌+◌, ◌≤◌, List, [], ◌∷◌, ◌++◌, length, nat_le, true, false, cond, Option, Some, None, Result, Ok, Err, append_assoc, arith}
use Rattle.std.specs.Option.{option_map_or}
use Rattle.std.proofs.lemmas.Bool.{leb-true}
use Rattle.std.proofs.lemmas.List.{append-nil, length-append, length-replicate}
use Rattle.jc_types.specs.declared.actions.Command.{Command}
use Rattle.jc_types.specs.declared.runs.Shape.{Shape}
use Rattle.jc_members.specs.declared.causes.Cause.TheVariants.{TooMany}
use Rattle.jc_script.specs.declared.commands.Said.{Said}
use Rattle.jc_script.specs.declared.scripts.ScriptFault.{ScriptFault}
use Rattle.jc_script.specs.declared.scripts.ScriptFault.TheVariants as fault
use Rattle.jc_script.specs.Commands.{commands_of}
use Rattle.jc_members.specs.Items.{with_front}
use Rattle.jc_script.specs.TextLines.{lines_of, lines_left}
use Rattle.jc_script.specs.Scripts.{BadLine, line_before, line_says, lines_say, script_of, most_commands}

-- how much is left to read
abbrev pub left_len : Option (List ℕ) → ℕ
left_len None = 0
left_len (Some rest) = length rest + 1

-- what was read and what is left make the script, and the number of the line is small
pub record IsReading (shape : Shape) (bytes : List ℕ) (commands : List Command) (number : ℕ) (left : Option (List ℕ)) : Type 0 where
  pub read : with_front commands (lines_say shape number (length commands) (lines_left left)) ≡ script_of shape bytes
  pub few : length commands ≤ most_commands
  pub within : number + left_len left ≤ length bytes + 2

-- ---- fronts

pub front_nil : {A E : Type 0} (said : Result (List A) E) → with_front [] said ≡ said
front_nil (Ok rest) = refl
front_nil (Err fault) = refl

pub front_twice : {A E : Type 0} (front more : List A) (said : Result (List A) E)
    → with_front (front ++ more) said ≡ with_front front (with_front more said)
front_twice front more (Ok rest) = ap (λ xs. Ok xs) (append_assoc front more rest)
front_twice front more (Err fault) = refl

-- ---- one line

-- a line's commands go behind those before it
taken : (shape : Shape) (number : ℕ) (before said : List Command) (line : List ℕ) (more : List (List ℕ)) (count : ℕ)
    → line_says shape line ≡ Ok said → nat_le (length before + length said) most_commands ≡ true
    → count ≡ length before + length said
    → with_front (before ++ said) (lines_say shape (number + 1) count more)
    ≡ with_front before (lines_say shape number (length before) (line ∷ more))
taken shape number before said line more count says few counted =
    front_twice before said (lines_say shape (number + 1) count more)
    ∙ ap (λ n. with_front before (with_front said (lines_say shape (number + 1) n more))) counted
    ∙ ap (λ b. with_front before (cond b (with_front said (lines_say shape (number + 1) (length before + length said) more))
    (Err (record { number = number; cause = TooMany })))) (sym few)
    ∙ ap (λ r. with_front before (line_before number (length before) r (λ n. lines_say shape (number + 1) n more))) (sym says)

-- a line with too many commands is the first bad one
too_many : (shape : Shape) (number before : ℕ) (said : List Command) (line : List ℕ) (more : List (List ℕ))
    → line_says shape line ≡ Ok said → nat_le (before + length said) most_commands ≡ false
    → lines_say shape number before (line ∷ more) ≡ Err (record { number = number; cause = TooMany })
too_many shape number before said line more says many =
    ap (λ r. line_before number before r (λ n. lines_say shape (number + 1) n more)) says
    ∙ ap (λ b. cond b (with_front said (lines_say shape (number + 1) (before + length said) more))
    (Err (record { number = number; cause = TooMany }))) many

-- a command that is given some times goes behind those before it
pub taken_times : (shape : Shape) (number : ℕ) (before after : List Command) (given : Option Said) (said : Said)
    (line : List ℕ) → line_says shape line ≡ Ok (option_map_or commands_of given []) → given ≡ Some said
    → nat_le (length before + said.times) most_commands ≡ true → after ≡ before ++ commands_of said
    → (more : List (List ℕ))
    → with_front after (lines_say shape (number + 1) (length after) more)
    ≡ with_front before (lines_say shape number (length before) (line ∷ more))
taken_times shape number before after given said line says is few added more =
    ap (λ cs. with_front cs (lines_say shape (number + 1) (length cs) more)) added
    ∙ taken shape number before (commands_of said) line more (length (before ++ commands_of said))
    (says ∙ ap (λ o. Ok (option_map_or commands_of o [])) is)
    (ap (λ n. nat_le (length before + n) most_commands) (length-replicate said.times said.command) ∙ few)
    (length-append before (commands_of said))

-- so it does not where there are then too many
pub many_times : (shape : Shape) (number before : ℕ) (given : Option Said) (said : Said) (line : List ℕ)
    → line_says shape line ≡ Ok (option_map_or commands_of given []) → given ≡ Some said
    → nat_le (before + said.times) most_commands ≡ false → (more : List (List ℕ))
    → lines_say shape number before (line ∷ more) ≡ Err (record { number = number; cause = TooMany })
many_times shape number before given said line says is many more =
    too_many shape number before (commands_of said) line more
    (says ∙ ap (λ o. Ok (option_map_or commands_of o [])) is)
    (ap (λ n. nat_le (before + n) most_commands) (length-replicate said.times said.command) ∙ many)

-- and there are not too many
pub few_times : (before after : List Command) (said : Said) → nat_le (length before + said.times) most_commands ≡ true
    → after ≡ before ++ commands_of said → length after ≤ most_commands
few_times before after said few added =
    let longer = ap length added in
    let both = length-append before (commands_of said) in
    let times = length-replicate said.times said.command in
    let small = leb-true (length before + said.times) most_commands few in
    omega (arith, longer, both, times, small)

-- the bad line of an answer
abbrev pub bad_line : {A : Type 0} → Result A ScriptFault → Result (List Command) BadLine
bad_line (Ok a) = Ok []
bad_line (Err (fault.BadLine number cause)) = Err (record { number = number; cause = cause })
bad_line (Err fault.Want) = Ok []

-- ---- all lines

pub begins : (shape : Shape) (bytes : List ℕ) → IsReading shape bytes [] 1 (Some bytes)
unfolding script_of
begins shape bytes = record { read = front_nil _; few = omega arith; within = omega arith }

-- the line that is read is the first bad one
pub ends_bad : (shape : Shape) (bytes : List ℕ) (commands : List Command) (number : ℕ) (left : Option (List ℕ))
    (text line : List ℕ) (after : Option (List ℕ)) (bad : BadLine)
    → IsReading shape bytes commands number left → left ≡ Some text → lines_of text ≡ line ∷ lines_left after
    → ((more : List (List ℕ)) → lines_say shape number (length commands) (line ∷ more) ≡ Err bad)
    → script_of shape bytes ≡ Err bad
ends_bad shape bytes commands number left text line after bad reading left_is lines refused =
    sym reading.read
    ∙ ap (λ l. with_front commands (lines_say shape number (length commands) (lines_left l))) left_is
    ∙ ap (λ ls. with_front commands (lines_say shape number (length commands) ls)) lines
    ∙ ap (with_front commands) (refused (lines_left after))

-- nothing is left
pub ends_well : (shape : Shape) (bytes : List ℕ) (commands : List Command) (number : ℕ) (left : Option (List ℕ))
    → IsReading shape bytes commands number left → left ≡ None → script_of shape bytes ≡ Ok commands
ends_well shape bytes commands number left reading left_is =
    sym reading.read
    ∙ ap (λ l. with_front commands (lines_say shape number (length commands) (lines_left l))) left_is
    ∙ ap (λ cs. Ok cs) (append-nil commands)
