-- Reading the TTLs of a script line by line.
use Rattle.std.proofs.Common.{◌≡◌, refl, sym, ◌∙◌, ap, ℕ, ◌+◌, ◌≤◌, Bool, true, false, cond, nat_le, List, [], ◌∷◌, ◌++◌, length, replicate, Option, Some, None, Result, Ok, Err, append_assoc, arith}
use Rattle.std.specs.Str.Lines.{strip_carriage_return}
use Rattle.std.proofs.lemmas.List.{append-nil, length-append, length-replicate}
use Rattle.jc_json.specs.Field.{◌>>=◌}
use Rattle.jc_json.specs.Line.{data_of}
use Rattle.jc_types.specs.declared.actions.Command.{Command}
use Rattle.jc_types.specs.declared.runs.Shape.{Shape}
use Rattle.jc_script.specs.Cause.{Cause}
use Rattle.jc_script.specs.Cause.TheVariants.{TooMany}
use Rattle.jc_script.specs.declared.commands.Said.{Said}
use Rattle.jc_script.specs.Commands.{commands_of}
use Rattle.jc_script.specs.Items.{with_front}
use Rattle.jc_script.specs.TextLines.{lines_of, lines_left}
use Rattle.jc_script.specs.Scripts.{BadLine, commands_said, line_before, line_says, lines_say, most_commands, script_of, text_says}
use Rattle.jc_reap.specs.TtlLines.{line_ttls, text_ttls, ttl_of_command, ttls_before, ttls_of, ttls_say}
use Rattle.jc_script.proofs.Reading.{front_nil, front_twice}

-- how much is left to read
abbrev pub left_len : Option (List ℕ) → ℕ
left_len None = 0
left_len (Some rest) = length rest + 1

-- What was read and what is left make the TTLs, and the number of the line is small.
pub record IsTtlReading (shape : Shape) (bytes : List ℕ) (ttls : List (Option ℕ)) (number : ℕ) (left : Option (List ℕ)) : Type 0 where
  pub read : with_front ttls (ttls_say shape number (lines_left left)) ≡ ttls_of shape bytes
  pub within : number + left_len left ≤ length bytes + 2

-- A line's entries go behind those before it.
pub taken : (shape : Shape) (number : ℕ) (before said after : List (Option ℕ)) (line : List ℕ)
    → line_ttls shape line ≡ Ok said → after ≡ before ++ said → (more : List (List ℕ))
    → with_front after (ttls_say shape (number + 1) more) ≡ with_front before (ttls_say shape number (line ∷ more))
taken shape number before said after line says added more =
    ap (λ ts. with_front ts (ttls_say shape (number + 1) more)) added
    ∙ front_twice before said (ttls_say shape (number + 1) more)
    ∙ ap (λ r. with_front before (ttls_before number r (ttls_say shape (number + 1) more))) (sym says)

-- A bad line is the first one.
pub refused : (shape : Shape) (number : ℕ) (line : List ℕ) (cause : Cause) → line_ttls shape line ≡ Err cause → (more : List (List ℕ))
    → ttls_say shape number (line ∷ more) ≡ Err (record { number = number; cause = cause })
refused shape number line cause says more =
    ap (λ r. ttls_before number r (ttls_say shape (number + 1) more)) says

pub begins : (shape : Shape) (bytes : List ℕ) → IsTtlReading shape bytes [] 1 (Some bytes)
unfolding ttls_of
begins shape bytes = record { read = front_nil _; within = omega arith }

-- The line that is read is the first bad one.
pub ends_bad : (shape : Shape) (bytes : List ℕ) (ttls : List (Option ℕ)) (number : ℕ) (left : Option (List ℕ))
    (text line : List ℕ) (after : Option (List ℕ)) (bad : BadLine)
    → IsTtlReading shape bytes ttls number left → left ≡ Some text → lines_of text ≡ line ∷ lines_left after
    → ((more : List (List ℕ)) → ttls_say shape number (line ∷ more) ≡ Err bad)
    → ttls_of shape bytes ≡ Err bad
ends_bad shape bytes ttls number left text line after bad reading left_is lines refuses =
    sym reading.read
    ∙ ap (λ l. with_front ttls (ttls_say shape number (lines_left l))) left_is
    ∙ ap (λ ls. with_front ttls (ttls_say shape number ls)) lines
    ∙ ap (with_front ttls) (refuses (lines_left after))

-- Nothing is left.
pub ends_well : (shape : Shape) (bytes : List ℕ) (ttls : List (Option ℕ)) (number : ℕ) (left : Option (List ℕ))
    → IsTtlReading shape bytes ttls number left → left ≡ None → ttls_of shape bytes ≡ Ok ttls
ends_well shape bytes ttls number left reading left_is =
    sym reading.read
    ∙ ap (λ l. with_front ttls (ttls_say shape number (lines_left l))) left_is
    ∙ ap (λ ts. Ok ts) (append-nil ttls)

-- ---- as many entries as commands

-- What was said behind a front.
pub behind : {A E : Type 0} (front all : List A) (said : Result (List A) E) → with_front front said ≡ Ok all
    → (rest : List A) × (said ≡ Ok rest) × (all ≡ front ++ rest)
behind front all (Ok rest) e = (rest, refl, cc)
behind front all (Err fault) e = absurd (cc)

as_many_of_text : (shape : Shape) (text : List ℕ) (commands : List Command) (ttls : List (Option ℕ))
    → commands_said shape text ≡ Ok commands → text_ttls shape text ≡ Ok ttls → length ttls ≡ length commands
as_many_of_text shape [] commands ttls c t =
    let x : [] ≡ commands = cc in let y : [] ≡ ttls = cc in sym (ap length y) ∙ ap length x
as_many_of_text shape (b ∷ bs) commands ttls c t = by (text_says shape (b ∷ bs)) c t
  where
    given : (said : Said) (o : Result (Option ℕ) Cause) → ◌≡◌ {A = Result (List Command) Cause} (Ok (commands_of said)) (Ok commands)
        → (o >>= λ ttl. Ok (replicate said.times ttl)) ≡ Ok ttls → length ttls ≡ length commands
    given said (Ok ttl) c t =
        let x : commands_of said ≡ commands = cc in
        let y : replicate said.times ttl ≡ ttls = cc in
        sym (ap length y) ∙ length-replicate said.times ttl ∙ sym (length-replicate said.times said.command) ∙ ap length x
    given said (Err cause) c t = absurd (cc)

    by : (o : Result Said Cause) → (o >>= λ said. Ok (commands_of said)) ≡ Ok commands
        → (o >>= λ said. ttl_of_command said.command (data_of (b ∷ bs)) >>= λ ttl. Ok (replicate said.times ttl)) ≡ Ok ttls
        → length ttls ≡ length commands
    by (Ok said) c t = given said (ttl_of_command said.command (data_of (b ∷ bs))) c t
    by (Err cause) c t = absurd (cc)

as_many_of_lines : (shape : Shape) (lines : List (List ℕ)) (number before : ℕ) (commands : List Command) (ttls : List (Option ℕ))
    → lines_say shape number before lines ≡ Ok commands → ttls_say shape number lines ≡ Ok ttls → length ttls ≡ length commands
as_many_of_lines shape [] number before commands ttls c t =
    let x : [] ≡ commands = cc in let y : [] ≡ ttls = cc in sym (ap length y) ∙ ap length x
as_many_of_lines shape (line ∷ lines) number before commands ttls c t =
    by (line_says shape line) refl (line_ttls shape line) refl
    (λ count cs ts says gives. as_many_of_lines shape lines (number + 1) count cs ts says gives) c t
  where
    by : (o : Result (List Command) Cause) → line_says shape line ≡ o → (p : Result (List (Option ℕ)) Cause) → line_ttls shape line ≡ p
        → ((count : ℕ) (cs : List Command) (ts : List (Option ℕ)) → lines_say shape (number + 1) count lines ≡ Ok cs
        → ttls_say shape (number + 1) lines ≡ Ok ts → length ts ≡ length cs)
        → line_before number before o (λ count. lines_say shape (number + 1) count lines) ≡ Ok commands
        → ttls_before number p (ttls_say shape (number + 1) lines) ≡ Ok ttls → length ttls ≡ length commands
    by (Err cause) x p y rest c t = absurd (cc)
    by (Ok cs) x (Err cause) y rest c t = absurd (cc)
    by (Ok cs) x (Ok ts) y rest c t = within (nat_le (before + length cs) most_commands) c
      where
        within : (b : Bool) → cond b (with_front cs (lines_say shape (number + 1) (before + length cs) lines)) (Err (record { number = number; cause = TooMany })) ≡ Ok commands → length ttls ≡ length commands
        within true c =
            let f = behind cs commands (lines_say shape (number + 1) (before + length cs) lines) c in
            let g = behind ts ttls (ttls_say shape (number + 1) lines) t in
            let first = as_many_of_text shape (strip_carriage_return line) cs ts x y in
            let others = rest (before + length cs) f.0 g.0 f.1 g.1 in
            ap length g.2 ∙ length-append ts g.0 ∙ ap (λ n. n + length g.0) first ∙ ap (λ n. length cs + n) others
            ∙ sym (length-append cs f.0) ∙ sym (ap length f.2)
        within false c = absurd (cc)

-- A script that was read has as many entries as commands.
pub as_many : (shape : Shape) (text : List ℕ) (commands : List Command) (ttls : List (Option ℕ))
    → script_of shape text ≡ Ok commands → ttls_of shape text ≡ Ok ttls → length ttls ≡ length commands
unfolding script_of ttls_of
as_many shape text commands ttls c t = as_many_of_lines shape (lines_of text) 1 0 commands ttls c t
