-- Of a script that was read nothing is refused but the TTL of a create.
use Rattle.std.proofs.Common.{◌≡◌, inl, inr, ℕ, ℤ, pos, ◌+◌, Bool, true, false, cond, nat_le, List, [], ◌∷◌, length, replicate, Option, Some, None, Result, Ok, Err, refl, sym, ap, ◌∙◌, subst}
use Rattle.std.specs.Prelude.{◌&&◌, codes, int_le, nat_abs, ok_or, option_and_then, option_map}
use Rattle.std.specs.Str.Lines.{strip_carriage_return}
use Rattle.serde_json.specs.Data.{Data}
use Rattle.serde_json.specs.Find.{as_integer, as_number}
use Rattle.jc_json.specs.Field.{◌>>=◌, bounded_number, may_be, member_of, optional_number, out_of_range, within_bounds, wrong_type}
use Rattle.jc_json.specs.Line.{data_of}
use Rattle.jc_types.specs.declared.actions.Command.{Command}
use Rattle.jc_types.specs.declared.runs.Shape.{Shape}
use Rattle.jc_script.specs.Cause.{Cause}
use Rattle.jc_script.specs.Cause.TheVariants.{OutOfRange, TooMany, WrongType}
use Rattle.jc_script.specs.declared.commands.Said.{Said}
use Rattle.jc_script.specs.LineCauses.{read_as}
use Rattle.jc_script.specs.Commands.{commands_of}
use Rattle.jc_script.specs.Items.{with_front}
use Rattle.jc_script.specs.TextLines.{lines_of}
use Rattle.jc_script.specs.Members.{given_number_in}
use Rattle.jc_script.specs.Scripts.{BadLine, commands_said, line_before, line_says, lines_say, most_commands, script_of, text_says}
use Rattle.jc_reap.specs.TtlLines.{RefusesTtl, greatest_ttl, line_ttls, makes_job, spec_member, spec_path, text_ttls, ttl_given, ttl_of_command, ttl_of_spec, ttl_path, ttls_before, ttls_of, ttls_say}
use Rattle.jc_reap.proofs.TtlReading.{behind}

-- ---- one value

of-number : (d : Data) (cause : Cause) → given_number_in spec_path (codes "ttlSecondsAfterFinished") 0 greatest_ttl d ≡ Err cause → RefusesTtl cause
unfolding given_number_in optional_number
of-number d cause e = by (member_of (codes "ttlSecondsAfterFinished") d) e
  where
    ranged : (n : ℤ) (b : Bool) → (read_as (cond b (Ok n) (Err (out_of_range ttl_path)) >>= λ n. Ok (Some n)) >>= λ o. Ok (option_map nat_abs o)) ≡ Err cause → RefusesTtl cause
    ranged n true e = absurd (cc)
    ranged n false e = let is : OutOfRange ttl_path ≡ cause = cc in inr (sym is)

    number : (o : Option ℤ) → (read_as ((ok_or o (wrong_type ttl_path) >>= λ n. within_bounds ttl_path (pos 0) (pos greatest_ttl) n) >>= λ n. Ok (Some n)) >>= λ o. Ok (option_map nat_abs o)) ≡ Err cause → RefusesTtl cause
    number None e = let is : WrongType ttl_path ≡ cause = cc in inl (sym is)
    number (Some n) e = ranged n (int_le (pos 0) n && int_le n (pos greatest_ttl)) e

    by : (o : Option Data) → (read_as (may_be (bounded_number ttl_path (pos 0) (pos greatest_ttl)) o) >>= λ o. Ok (option_map nat_abs o)) ≡ Err cause → RefusesTtl cause
    by None e = absurd (cc)
    by (Some found) e = number (option_and_then as_integer (as_number found)) e

of-spec : (o : Option Data) (cause : Cause) → ttl_of_spec o ≡ Err cause → RefusesTtl cause
of-spec None cause e = absurd (cc)
of-spec (Some spec) cause e = of-number spec cause e

of-given : (o : Option Data) (cause : Cause) → ttl_given o ≡ Err cause → RefusesTtl cause
of-given None cause e = absurd (cc)
of-given (Some d) cause e = of-spec (spec_member d) cause e

of-command : (command : Command) (o : Option Data) (cause : Cause) → ttl_of_command command o ≡ Err cause → RefusesTtl cause
of-command command o cause e = by (makes_job command.action) e
  where
    by : (b : Bool) → cond b (ttl_given o) (Ok None) ≡ Err cause → RefusesTtl cause
    by true e = of-given o cause e
    by false e = absurd (cc)

-- ---- lines

of-text : (shape : Shape) (text : List ℕ) (commands : List Command) (cause : Cause)
    → commands_said shape text ≡ Ok commands → text_ttls shape text ≡ Err cause → RefusesTtl cause
of-text shape [] commands cause c t = absurd (cc)
of-text shape (b ∷ bs) commands cause c t = by (text_says shape (b ∷ bs)) c t
  where
    given : (said : Said) (o : Result (Option ℕ) Cause) → ttl_of_command said.command (data_of (b ∷ bs)) ≡ o
        → (o >>= λ ttl. Ok (replicate said.times ttl)) ≡ Err cause → RefusesTtl cause
    given said (Ok ttl) is t = absurd (cc)
    given said (Err other) is t =
        let same : other ≡ cause = cc in of-command said.command (data_of (b ∷ bs)) cause (is ∙ ap (λ (x : Cause). Err x) same)

    by : (o : Result Said Cause) → (o >>= λ said. Ok (commands_of said)) ≡ Ok commands
        → (o >>= λ said. ttl_of_command said.command (data_of (b ∷ bs)) >>= λ ttl. Ok (replicate said.times ttl)) ≡ Err cause
        → RefusesTtl cause
    by (Ok said) c t = given said (ttl_of_command said.command (data_of (b ∷ bs))) refl t
    by (Err other) c t = absurd (cc)

-- What stands behind a front that is refused is refused.
behind-refused : {A E : Type 0} (front : List A) (said : Result (List A) E) (fault : E) → with_front front said ≡ Err fault → said ≡ Err fault
behind-refused front (Ok rest) fault e = absurd (cc)
behind-refused front (Err other) fault e = e

of-lines : (shape : Shape) (lines : List (List ℕ)) (number before : ℕ) (commands : List Command) (bad : BadLine)
    → lines_say shape number before lines ≡ Ok commands → ttls_say shape number lines ≡ Err bad → RefusesTtl bad.cause
of-lines shape [] number before commands bad c t = absurd (cc)
of-lines shape (line ∷ lines) number before commands bad c t =
    by (line_says shape line) refl (line_ttls shape line) refl
    (λ count cs says refuses. of-lines shape lines (number + 1) count cs bad says refuses) c t
  where
    by : (o : Result (List Command) Cause) → line_says shape line ≡ o → (p : Result (List (Option ℕ)) Cause) → line_ttls shape line ≡ p
        → ((count : ℕ) (cs : List Command) → lines_say shape (number + 1) count lines ≡ Ok cs
        → ttls_say shape (number + 1) lines ≡ Err bad → RefusesTtl bad.cause)
        → line_before number before o (λ count. lines_say shape (number + 1) count lines) ≡ Ok commands
        → ttls_before number p (ttls_say shape (number + 1) lines) ≡ Err bad → RefusesTtl bad.cause
    by (Err cause) x p y rest c t = absurd (cc)
    by (Ok cs) x (Err cause) y rest c t =
        let is : record { number = number; cause = cause } ≡ bad = cc in
        subst (λ (b : BadLine). RefusesTtl b.cause) is (of-text shape (strip_carriage_return line) cs cause x y)
    by (Ok cs) x (Ok ts) y rest c t = counted (nat_le (before + length cs) most_commands) c
      where
        counted : (b : Bool) → cond b (with_front cs (lines_say shape (number + 1) (before + length cs) lines)) (Err (record { number = number; cause = TooMany })) ≡ Ok commands → RefusesTtl bad.cause
        counted true c =
            let f = behind cs commands (lines_say shape (number + 1) (before + length cs) lines) c in
            rest (before + length cs) f.0 f.1 (behind-refused ts (ttls_say shape (number + 1) lines) bad t)
        counted false c = absurd (cc)

pub of-script : (shape : Shape) (text : List ℕ) (commands : List Command) (bad : BadLine)
    → script_of shape text ≡ Ok commands → ttls_of shape text ≡ Err bad → RefusesTtl bad.cause
unfolding script_of ttls_of
of-script shape text commands bad c t = of-lines shape (lines_of text) 1 0 commands bad c t
