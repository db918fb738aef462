-- The audit: what holds after each line, and what is said at last.
use Rattle.std.proofs.Common.{◌≡◌, ℕ, zero, suc, ◌+◌, ◌-◌, ◌<◌, ◌≤◌, true, false, List, [], ◌∷◌, ◌++◌, length, map, reverse, take, drop, refl, sym, ap, ap₂, ◌∙◌, subst, arith, ◌⊎◌, inl, inr}
use Rattle.std.proofs.lemmas.List.{length-reverse, length_push as one_longer}
use Rattle.jc_types.specs.declared.runs.Past.{Past}
use Rattle.jc_types.specs.declared.runs.Shape.{Shape}
use Rattle.jc_log.specs.Deeds.{deed}
use Rattle.jc_runs.specs.Seen.{Seen, deeds_seen}
use Rattle.jc_audit.specs.declared.verdicts.Verdict.{Verdict}
use Rattle.jc_audit.specs.declared.verdicts.Verdict.TheVariants.{Yes, No}
use Rattle.jc_audit.specs.Audits.{VerdictHolds, begins_event}
use Rattle.jc_audit.specs.Tails.{tail_verdict}
use Rattle.jc_audit.specs.Walks.{Begins, GoesOn, HasTaken, NoneIsTaken, TakesLine, TakesCommand, TakesSystem, Walks, at_first, begun_command, last_line}
use Rattle.jc_audit.proofs.TailFacts.{tail_yes}
use Rattle.std.proofs.Math.Seq.{take-append_seam as take_whole}

-- The lines in front of this place were taken.
pub record IsUnderWay (shape : Shape) (bytes : List ℕ) (at : ℕ) (seen : Seen) : Type 0 where
  pub within : at ≤ length bytes
  pub walked : Walks shape seen (take at bytes)
  pub of_shape : seen.shape ≡ shape
  pub used : length seen.script.commands ≤ length seen.pasts

pub at_begin : (shape : Shape) (bytes : List ℕ) (seen : Seen) → seen ≡ at_first shape → IsUnderWay shape bytes 0 seen
at_begin shape bytes seen is = subst (IsUnderWay shape bytes 0) (sym is)
    (record { within = omega arith; walked = Begins; of_shape = refl; used = omega arith })

-- ---- a line more

pub long : (xs ys : List ℕ) → length (xs ++ ys) ≡ length xs + length ys
long [] ys = omega arith
long (x ∷ xs) ys = let more = long xs ys in omega (arith, more)

left_over : (n : ℕ) (xs : List ℕ) → length (drop n xs) ≡ length xs - n
left_over zero xs = omega arith
left_over (suc n) [] = omega arith
left_over (suc n) (x ∷ xs) = let more = left_over n xs in omega (arith, more)

-- The line is the front of the rest.
line_is : (line rest : List ℕ) (n : ℕ) → rest ≡ line ++ drop n rest → n ≤ length rest → take n rest ≡ line
line_is line rest n e within =
    let all = ap length e in
    let both = long line (drop n rest) in
    let left = left_over n rest in
    let same : n ≡ length line = omega (arith, all, both, left, within) in
    ap₂ take same e ∙ take_whole line (drop n rest)

take_both : (a n : ℕ) (xs : List ℕ) → a ≤ length xs → take (a + n) xs ≡ take a xs ++ take n (drop a xs)
take_both zero n xs within = let same : 0 + n ≡ n = omega arith in ap (λ m. take m xs) same
take_both (suc a) n [] within = absurd (omega (arith, within))
take_both (suc a) n (x ∷ xs) within =
    let same : suc a + n ≡ suc (a + n) = omega arith in
    ap (λ m. take m (x ∷ xs)) same ∙ ap (λ l. x ∷ l) (take_both a n xs (omega (arith, within)))

same_shape : (old new : Seen) → TakesLine old new → new.shape ≡ old.shape
same_shape old new t = by t.one
  where
    by : TakesCommand old new ⊎ TakesSystem old new → new.shape ≡ old.shape
    by (inl c) = ap (λ (s : Seen). s.shape) c.is
    by (inr s) = ap (λ (s : Seen). s.shape) s.is

still_used : (old new : Seen) → TakesLine old new → length old.script.commands ≤ length old.pasts → length new.script.commands ≤ length new.pasts
still_used old new t used = by t.one
  where
    by : TakesCommand old new ⊎ TakesSystem old new → length new.script.commands ≤ length new.pasts
    by (inl c) =
        let commands = ap (λ (s : Seen). length s.script.commands) c.is in
        let pasts = ap (λ (s : Seen). length s.pasts) c.is in
        let more = one_longer old.script.commands (begun_command c.command) in
        omega (arith, used, commands, pasts, more)
    by (inr s) =
        let commands = ap (λ (s : Seen). length s.script.commands) s.is in
        let pasts = ap (λ (s : Seen). length s.pasts) s.is in
        omega (arith, used, commands, pasts)

one_line_more : (shape : Shape) (bytes : List ℕ) (at n : ℕ) (old new : Seen) → IsUnderWay shape bytes at old → HasTaken old new (drop at bytes) n → IsUnderWay shape bytes (at + n) new
one_line_more shape bytes at n old new h t =
    let within = h.within in
    let few = t.within in
    let left = left_over at bytes in
    let text : take (at + n) bytes ≡ take at bytes ++ last_line new =
    take_both at n bytes h.within ∙ ap (λ l. take at bytes ++ l) (line_is (last_line new) (drop at bytes) n t.begins t.within) in
    record {
      within = omega (arith, within, few, left);
      walked = subst (Walks shape new) (sym text) (GoesOn old new (take at bytes) h.walked t.takes);
      of_shape = same_shape old new t.takes ∙ h.of_shape;
      used = still_used old new t.takes h.used;
    }

module _ (shape : Shape) (bytes : List ℕ) (at n : ℕ) (old new : Seen) (rest : List ℕ) (h : IsUnderWay shape bytes at old) (is : rest ≡ drop at bytes) (t : HasTaken old new rest n) where
  pub goes_on : IsUnderWay shape bytes (at + n) new
  goes_on = one_line_more shape bytes at n old new h (subst (λ r. HasTaken old new r n) is t)

  -- The line has a byte, and stands within the bytes.
  pub less_left : length bytes - (at + n) < length bytes - at
  less_left =
      let some = t.some in
      let few = t.within in
      let long = ap length is in
      let left = left_over at bytes in
      omega (arith, some, few, long, left)

  pub still_within : at + n ≤ length bytes
  still_within =
      let few = t.within in
      let within = h.within in
      let long = ap length is in
      let left = left_over at bytes in
      omega (arith, few, long, left, within)

-- ---- what is said

pub cut_back : (n : ℕ) (xs : List ℕ) → xs ≡ take n xs ++ drop n xs
cut_back zero xs = refl
cut_back (suc n) [] = refl
cut_back (suc n) (x ∷ xs) = ap (λ l. x ∷ l) (cut_back n xs)

-- The number of the line behind those of all events.
pub line_number : (items pasts : List Past) (n : ℕ) → reverse items ≡ pasts → n ≡ length items → n + 1 ≡ 1 + length pasts
line_number items pasts n turned is =
    let long = length-reverse items in
    let same = ap length turned in
    omega (arith, is, long, same)

pub not_taken : (shape : Shape) (bytes : List ℕ) (at line : ℕ) (seen : Seen) (rest here : List ℕ) → IsUnderWay shape bytes at seen → rest ≡ drop at bytes → here ≡ drop at bytes
    → begins_event rest ≡ true → NoneIsTaken seen here → line ≡ 1 + length seen.pasts → VerdictHolds shape bytes (No line)
not_taken shape bytes at line seen rest here h of_rest of_here begins none is = record {
  last = seen;
  text = take at bytes;
  rest = drop at bytes;
  walked = h.walked;
  are = cut_back at bytes;
  line = inl (record { begins = ap begins_event (sym of_rest) ∙ begins; none = subst (NoneIsTaken seen) of_here none }, is);
}

pub many : (seen : Seen) → length (deeds_seen seen) ≡ length seen.pasts
many seen = by seen.pasts
  where
    by : (pasts : List Past) → length (map (deed seen.script) pasts) ≡ length pasts
    by [] = refl
    by (p ∷ pasts) = let more = by pasts in omega (arith, more)

pub said_at_last : (shape : Shape) (bytes : List ℕ) (at : ℕ) (seen : Seen) (v : Verdict) (rest here : List ℕ) → IsUnderWay shape bytes at seen → rest ≡ drop at bytes → here ≡ drop at bytes
    → begins_event rest ≡ false → v ≡ tail_verdict seen.shape (deeds_seen seen) here → VerdictHolds shape bytes v
said_at_last shape bytes at seen v rest here h of_rest of_here none is =
    by v (is ∙ ap (tail_verdict seen.shape (deeds_seen seen)) of_here ∙ ap (λ (s : Shape). tail_verdict s (deeds_seen seen) (drop at bytes)) h.of_shape)
  where
    begins : begins_event (drop at bytes) ≡ false
    begins = ap begins_event (sym of_rest) ∙ none

    by : (v : Verdict) → v ≡ tail_verdict shape (deeds_seen seen) (drop at bytes) → VerdictHolds shape bytes v
    by Yes e =
        let t = tail_yes shape (deeds_seen seen) (drop at bytes) (sym e) in
        record {
          last = seen;
          text = take at bytes;
          full = t.full;
          walked = h.walked;
          are = cut_back at bytes ∙ ap (λ l. take at bytes ++ l) t.are;
          history_full = λ full. sym (many seen) ∙ t.history_full full;
        }
    by (No n) e = record {
      last = seen;
      text = take at bytes;
      rest = drop at bytes;
      walked = h.walked;
      are = cut_back at bytes;
      line = inr (record { begins = begins; other = sym e });
    }
