-- The lines that stand behind those of the events, one by one.
use Rattle.std.proofs.Common.{◌≡◌, ℕ, suc, ◌+◌, ◌-◌, ◌<◌, ◌≤◌, ◌==◌, ◌^◌, Bool, true, false, cond, List, [], ◌∷◌, ◌++◌, length, take, drop, reverse, bytes_eq, codes, nat_eq, refl, sym, ap, ap₂, ◌∙◌, subst, arith, true≢false, eqb-true, ◌&&◌}
use Rattle.std.specs.Cmp.Lexicographic.{bytes_decides}
use Rattle.std.proofs.Math.ListN.{drop_of_length-le}
use Rattle.std.proofs.lemmas.List.{drop-drop, length-drop, length-map, length-reverse, length-take-le}
use Rattle.jc_types.specs.declared.objects.Entry.{Entry}
use Rattle.jc_types.specs.declared.runs.Shape.{Shape}
use Rattle.jc_log.specs.Deeds.{Deed, deed}
use Rattle.jc_lines.specs.Summaries.{full_line}
use Rattle.jc_runs.specs.Seen.{Seen, deeds_seen, log_seen}
use Rattle.jc_runs.proofs.BackoffFacts.{log_short}
use Rattle.jc_audit.specs.declared.verdicts.Verdict.{Verdict}
use Rattle.jc_audit.specs.declared.verdicts.Verdict.TheVariants.{Yes, No}
use Rattle.jc_audit.specs.Tails.{at_end, lines_compared, byte_in_front, line_len, whole_lines, tail_text, tail_verdict}

-- ---- what the tail needs of a history

-- The log that a machine keeps has fewer than 2^32 entries.
pub log_fits : (seen : Seen) (log : List Entry) → reverse log ≡ log_seen seen → length seen.pasts ≤ seen.shape.events → seen.shape.events ≤ 200000 → length log < 2 ^ 32
log_fits seen log e few bound =
    let short = log_short seen.shape (deeds_seen seen) in
    let same = ap (λ (l : List Entry). length l) e in
    let back = length-reverse log in
    let deeds = length-map seen.pasts (deed seen.script) in
    omega (arith, few, bound, short, same, back, deeds)

-- ---- the first line

pub first_line : (b : ℕ) (bs : List ℕ) → whole_lines (b ∷ bs) ≡ take (line_len (b ∷ bs)) (b ∷ bs) ∷ whole_lines (drop (line_len (b ∷ bs)) (b ∷ bs))
first_line b [] = by (b == 10)
  where
    by : (t : Bool) → cond t ((b ∷ []) ∷ []) ((b ∷ []) ∷ []) ≡ take (cond t 1 1) (b ∷ []) ∷ whole_lines (drop (cond t 1 1) (b ∷ []))
    by true = refl
    by false = refl
first_line b (c ∷ cs) = by (b == 10) (first_line c cs)
  where
    by : (t : Bool) → whole_lines (c ∷ cs) ≡ take (line_len (c ∷ cs)) (c ∷ cs) ∷ whole_lines (drop (line_len (c ∷ cs)) (c ∷ cs))
        → cond t ((b ∷ []) ∷ whole_lines (c ∷ cs)) (byte_in_front b (whole_lines (c ∷ cs)))
        ≡ take (cond t 1 (suc (line_len (c ∷ cs)))) (b ∷ c ∷ cs) ∷ whole_lines (drop (cond t 1 (suc (line_len (c ∷ cs)))) (b ∷ c ∷ cs))
    by true ih = refl
    by false ih = ap (byte_in_front b) ih

some_len : (b : ℕ) (bs : List ℕ) → 0 < line_len (b ∷ bs)
some_len b bs = by (b == 10)
  where
    by : (t : Bool) → 0 < cond t 1 (suc (line_len bs))
    by true = omega arith
    by false = omega arith

pub line_some : (bs : List ℕ) → 0 < length bs → 0 < line_len bs
line_some [] some = absurd (omega (arith, some))
line_some (b ∷ bs) some = some_len b bs

pub line_within : (bs : List ℕ) → line_len bs ≤ length bs
line_within [] = omega arith
line_within (b ∷ bs) = by (b == 10) (line_within bs)
  where
    by : (t : Bool) → line_len bs ≤ length bs → cond t 1 (suc (line_len bs)) ≤ length (b ∷ bs)
    by true ih = omega arith
    by false ih = omega (arith, ih)

pub first_of : (bs : List ℕ) → 0 < length bs → whole_lines bs ≡ take (line_len bs) bs ∷ whole_lines (drop (line_len bs) bs)
first_of [] some = absurd (omega (arith, some))
first_of (b ∷ bs) some = first_line b bs

-- ---- lines against lines

module _ (n : ℕ) (rest wanted : List ℕ) (full : Bool) (due : 0 < length wanted) where
  abbrev found : List ℕ
  found = take (line_len rest) rest

  abbrev next : List ℕ
  next = take (line_len wanted) wanted

  abbrev behind_found : List (List ℕ)
  behind_found = whole_lines (drop (line_len rest) rest)

  abbrev behind_next : List (List ℕ)
  behind_next = whole_lines (drop (line_len wanted) wanted)

  step : 0 < length rest → lines_compared n (whole_lines rest) (whole_lines wanted) full ≡ cond (bytes_eq found next) (lines_compared (n + 1) behind_found behind_next full) (No n)
  step some = ap₂ (λ l w. lines_compared n l w full) (first_of rest some) (first_of wanted due)

  pub step_same : 0 < length rest → bytes_eq found next ≡ true → lines_compared n (whole_lines rest) (whole_lines wanted) full ≡ lines_compared (n + 1) behind_found behind_next full
  step_same some same = step some ∙ ap (λ b. cond b (lines_compared (n + 1) behind_found behind_next full) (No n)) same

  pub step_other : bytes_eq found next ≡ false → No n ≡ lines_compared n (whole_lines rest) (whole_lines wanted) full
  step_other other = by rest refl
    where
      by : (bs : List ℕ) → rest ≡ bs → No n ≡ lines_compared n (whole_lines rest) (whole_lines wanted) full
      by [] is = sym (ap₂ (λ l w. lines_compared n (whole_lines l) w full) is (first_of wanted due))
      by (b ∷ bs) is =
          let long = ap length is in
          sym (step (omega (arith, long)) ∙ ap (λ t. cond t (lines_compared (n + 1) behind_found behind_next full) (No n)) other)

-- The lines so far were those that are wanted, and the next one has this number.
pub record IsSameSoFar (first line at due : ℕ) (rest wanted : List ℕ) (full : Bool) : Type 0 where
  pub within : at ≤ length rest
  pub known : due ≤ length wanted
  pub number : line + (length rest - at) ≤ first + length rest
  pub same : lines_compared line (whole_lines (drop at rest)) (whole_lines (drop due wanted)) full ≡ lines_compared first (whole_lines rest) (whole_lines wanted) full

module _ (first line at due : ℕ) (rest wanted : List ℕ) (full : Bool) (h : IsSameSoFar first line at due rest wanted full) (more : due < length wanted) where
  abbrev here : List ℕ
  here = drop at rest

  abbrev there : List ℕ
  there = drop due wanted

  more_there : 0 < length there
  more_there = let long = length-drop due wanted in omega (arith, long, more)

  same_len : bytes_eq (take (line_len here) here) (take (line_len there) there) ≡ true → line_len here ≡ line_len there
  same_len same =
      sym (length-take-le (line_len here) here (line_within here)) ∙ ap length ((bytes_decides (take (line_len here) here) (take (line_len there) there)).0 same)
      ∙ length-take-le (line_len there) there (line_within there)

  still_same : bytes_eq (take (line_len here) here) (take (line_len there) there) ≡ true
      → IsSameSoFar first (line + 1) (at + line_len here) (due + line_len there) rest wanted full
  still_same same =
      let some = line_some there more_there in
      let long = same_len same in
      let few = line_within here in
      let little = line_within there in
      let left = length-drop at rest in
      let wide = length-drop due wanted in
      let within = h.within in
      let known = h.known in
      let number = h.number in
      record {
        within = omega (arith, few, left, within);
        known = omega (arith, little, wide, known);
        number = omega (arith, some, long, few, left, within, number);
        same =
            ap₂ (λ l w. lines_compared (line + 1) (whole_lines l) (whole_lines w) full) (sym (drop-drop (line_len here) at rest)) (sym (drop-drop (line_len there) due wanted))
            ∙ sym (step_same line here there full more_there (omega (arith, some, long, few)) same) ∙ h.same;
      }

  other_line : bytes_eq (take (line_len here) here) (take (line_len there) there) ≡ false → No line ≡ lines_compared first (whole_lines rest) (whole_lines wanted) full
  other_line other = step_other line here there full more_there other ∙ h.same

  -- Of the two lines, whatever they are called.
  module _ (found wants : List ℕ) (m n : ℕ) (at_found : found ≡ drop at rest) (at_wants : wants ≡ drop due wanted) (is_m : m ≡ line_len found) (is_n : n ≡ line_len wants) where
    m_here : m ≡ line_len here
    m_here = is_m ∙ ap line_len at_found

    n_there : n ≡ line_len there
    n_there = is_n ∙ ap line_len at_wants

    of_lines : bytes_eq (take m found) (take n wants) ≡ bytes_eq (take (line_len here) here) (take (line_len there) there)
    of_lines = ap₂ bytes_eq (ap₂ take m_here at_found) (ap₂ take n_there at_wants)

    pub next_some : 0 < n
    next_some = let some = line_some there more_there in let same = n_there in omega (arith, some, same)

    pub same_lines : bytes_eq (take m found) (take n wants) ≡ true → IsSameSoFar first (line + 1) (at + m) (due + n) rest wanted full
    same_lines same =
        subst (λ m. IsSameSoFar first (line + 1) (at + m) (due + n) rest wanted full) (sym m_here)
        (subst (λ n. IsSameSoFar first (line + 1) (at + line_len here) (due + n) rest wanted full) (sym n_there) (still_same (sym of_lines ∙ same)))

    pub other_lines : bytes_eq (take m found) (take n wants) ≡ false → No line ≡ lines_compared first (whole_lines rest) (whole_lines wanted) full
    other_lines other = other_line (sym of_lines ∙ other)

-- ---- where nothing is wanted any more

pub end_of_none : (n : ℕ) (rest : List ℕ) (full : Bool) → length rest ≡ 0 → Yes ≡ at_end n (whole_lines rest) full
end_of_none n [] full none = refl
end_of_none n (b ∷ bs) full none = absurd (omega (arith, none))

abbrev pub no_lines : List (List ℕ) → Bool
no_lines [] = true
no_lines (l ∷ ls) = false

pub end_of_some : (n : ℕ) (line : List ℕ) (lines : List (List ℕ)) (full : Bool)
    → at_end n (line ∷ lines) full ≡ cond (full && bytes_eq line (codes "full\n")) (cond (no_lines lines) Yes (No (n + 1))) (No n)
end_of_some n line [] true = refl
end_of_some n line (more ∷ lines) true = refl
end_of_some n line lines false = refl

-- Nothing is wanted any more.
pub none_wanted : (n : ℕ) (lines : List (List ℕ)) (full : Bool) → lines_compared n lines [] full ≡ at_end n lines full
none_wanted n [] full = refl
none_wanted n (line ∷ lines) full = refl

-- All that was wanted stood there.
pub at_last : (first line at due : ℕ) (rest wanted : List ℕ) (full : Bool) → IsSameSoFar first line at due rest wanted full → length wanted ≤ due
    → at_end line (whole_lines (drop at rest)) full ≡ lines_compared first (whole_lines rest) (whole_lines wanted) full
at_last first line at due rest wanted full h all =
    sym (none_wanted line (whole_lines (drop at rest)) full)
    ∙ ap (λ (w : List ℕ). lines_compared line (whole_lines (drop at rest)) (whole_lines w) full) (sym (drop_of_length-le wanted all)) ∙ h.same

no_more : (bs : List ℕ) → length bs ≡ 0 → no_lines (whole_lines bs) ≡ true
no_more [] none = refl
no_more (b ∷ bs) none = absurd (omega (arith, none))

one_more : (bs : List ℕ) → 0 < length bs → no_lines (whole_lines bs) ≡ false
one_more bs some = ap no_lines (first_of bs some)

module _ (n : ℕ) (rest : List ℕ) (full : Bool) (some : 0 < length rest) where
  abbrev pub is_last : Bool
  is_last = full && bytes_eq (take (line_len rest) rest) (codes "full\n")

  end_step : at_end n (whole_lines rest) full ≡ cond is_last (cond (no_lines (whole_lines (drop (line_len rest) rest))) Yes (No (n + 1))) (No n)
  end_step = ap (λ l. at_end n l full) (first_of rest some) ∙ end_of_some n (take (line_len rest) rest) (whole_lines (drop (line_len rest) rest)) full

  pub end_other : is_last ≡ false → No n ≡ at_end n (whole_lines rest) full
  end_other other = sym (end_step ∙ ap (λ b. cond b (cond (no_lines (whole_lines (drop (line_len rest) rest))) Yes (No (n + 1))) (No n)) other)

  full_step : is_last ≡ true → at_end n (whole_lines rest) full ≡ cond (no_lines (whole_lines (drop (line_len rest) rest))) Yes (No (n + 1))
  full_step last = end_step ∙ ap (λ b. cond b (cond (no_lines (whole_lines (drop (line_len rest) rest))) Yes (No (n + 1))) (No n)) last

  pub end_only : is_last ≡ true → line_len rest ≡ length rest → Yes ≡ at_end n (whole_lines rest) full
  end_only last all =
      let left = length-drop (line_len rest) rest in
      sym (full_step last ∙ ap (λ b. cond b Yes (No (n + 1))) (no_more (drop (line_len rest) rest) (omega (arith, left, all))))

  pub end_more : is_last ≡ true → line_len rest < length rest → No (n + 1) ≡ at_end n (whole_lines rest) full
  end_more last less =
      let left = length-drop (line_len rest) rest in
      sym (full_step last ∙ ap (λ b. cond b Yes (No (n + 1))) (one_more (drop (line_len rest) rest) (omega (arith, left, less))))

-- ---- a tail that is right

abbrev joined : List (List ℕ) → List ℕ
joined [] = []
joined (line ∷ lines) = line ++ joined lines

append_more : (a b c : List ℕ) → (a ++ b) ++ c ≡ a ++ (b ++ c)
append_more [] b c = refl
append_more (x ∷ a) b c = ap (λ l. x ∷ l) (append_more a b c)

joined_front : (b : ℕ) (lines : List (List ℕ)) → joined (byte_in_front b lines) ≡ b ∷ joined lines
joined_front b [] = refl
joined_front b (line ∷ lines) = refl

-- The lines, put one behind the other, are the bytes.
joined_lines : (bs : List ℕ) → joined (whole_lines bs) ≡ bs
joined_lines [] = refl
joined_lines (b ∷ bs) = by (b == 10) (joined_lines bs)
  where
    by : (t : Bool) → joined (whole_lines bs) ≡ bs → joined (cond t ((b ∷ []) ∷ whole_lines bs) (byte_in_front b (whole_lines bs))) ≡ b ∷ bs
    by true ih = ap (λ l. b ∷ l) ih
    by false ih = joined_front b (whole_lines bs) ∙ ap (λ l. b ∷ l) ih

joined_both : (xs ys : List (List ℕ)) → joined (xs ++ ys) ≡ joined xs ++ joined ys
joined_both [] ys = refl
joined_both (x ∷ xs) ys = ap (λ l. x ++ l) (joined_both xs ys) ∙ sym (append_more x (joined xs) (joined ys))

-- The last line may stand, where the history is full.
pub record IsMatch (lines wanted : List (List ℕ)) (full : Bool) : Type 0 where
  pub last : Bool
  pub are : joined lines ≡ joined wanted ++ full_line last
  pub history_full : last ≡ true → full ≡ true

no_is_yes : {A : Type 0} (n : ℕ) → No n ≡ Yes → A
no_is_yes n e = absurd (cc (e))

end_match : (n : ℕ) (lines : List (List ℕ)) (full : Bool) → at_end n lines full ≡ Yes → IsMatch lines [] full
end_match n [] full e = record { last = false; are = refl; history_full = λ h. absurd (true≢false (sym h)) }
end_match n (line ∷ []) true e = by (bytes_eq line (codes "full\n")) refl e
  where
    nothing_more : (xs : List ℕ) → xs ++ [] ≡ xs
    nothing_more [] = refl
    nothing_more (x ∷ xs) = ap (λ l. x ∷ l) (nothing_more xs)

    by : (t : Bool) → bytes_eq line (codes "full\n") ≡ t → cond t Yes (No n) ≡ Yes → IsMatch (line ∷ []) [] true
    by true is e = record { last = true; are = nothing_more line ∙ (bytes_decides line (codes "full\n")).0 is; history_full = λ h. refl }
    by false is e = no_is_yes n e
end_match n (line ∷ more ∷ lines) true e = by (bytes_eq line (codes "full\n")) e
  where
    by : (t : Bool) → cond t (No (n + 1)) (No n) ≡ Yes → IsMatch (line ∷ more ∷ lines) [] true
    by true e = no_is_yes (n + 1) e
    by false e = no_is_yes n e
end_match n (line ∷ lines) false e = no_is_yes n e

all_match : (n : ℕ) (lines wanted : List (List ℕ)) (full : Bool) → lines_compared n lines wanted full ≡ Yes → IsMatch lines wanted full
all_match n lines [] full e = end_match n lines full (sym (none_wanted n lines full) ∙ e)
all_match n [] (w ∷ ws) full e = no_is_yes n e
all_match n (line ∷ lines) (w ∷ ws) full e = by (bytes_eq line w) refl (all_match (n + 1) lines ws full) e
  where
    by : (t : Bool) → bytes_eq line w ≡ t → (lines_compared (n + 1) lines ws full ≡ Yes → IsMatch lines ws full)
        → cond t (lines_compared (n + 1) lines ws full) (No n) ≡ Yes → IsMatch (line ∷ lines) (w ∷ ws) full
    by true is more e =
        let m = more e in
        record {
          last = m.last;
          are = ap₂ (λ a b. a ++ b) ((bytes_decides line w).0 is) m.are ∙ sym (append_more w (joined ws) (full_line m.last));
          history_full = m.history_full;
        }
    by false is more e = no_is_yes n e

-- A tail of which Yes is said is that of the history, and perhaps `full`.
pub record IsTail (shape : Shape) (past : List Deed) (rest : List ℕ) : Type 0 where
  pub full : Bool
  pub are : rest ≡ tail_text shape past ++ full_line full
  pub history_full : full ≡ true → length past ≡ shape.events

pub tail_yes : (shape : Shape) (past : List Deed) (rest : List ℕ) → tail_verdict shape past rest ≡ Yes → IsTail shape past rest
unfolding tail_verdict
tail_yes shape past rest e =
    let text = tail_text shape past in
    let m = all_match (1 + length past) (whole_lines rest) (whole_lines text) (nat_eq (length past) shape.events) e in
    record {
      full = m.last;
      are = sym (joined_lines rest) ∙ m.are ∙ ap (λ t. t ++ full_line m.last) (joined_lines text);
      history_full = λ h. eqb-true (length past) shape.events (m.history_full h);
    }

-- What the comparison says, in the words of the tail.
pub verdict_is : (shape : Shape) (past : List Deed) (rest text : List ℕ) (count : ℕ) (full : Bool) (v : Verdict) → count ≡ length past → text ≡ tail_text shape past → full ≡ nat_eq count shape.events
    → v ≡ lines_compared (count + 1) (whole_lines rest) (whole_lines text) full → v ≡ tail_verdict shape past rest
unfolding tail_verdict
verdict_is shape past rest text count full v many is last e =
    let first : count + 1 ≡ 1 + length past = omega (arith, many) in
    e ∙ ap (λ n. lines_compared n (whole_lines rest) (whole_lines text) full) first
    ∙ ap (λ (t : List ℕ). lines_compared (1 + length past) (whole_lines rest) (whole_lines t) full) is
    ∙ ap (λ b. lines_compared (1 + length past) (whole_lines rest) (whole_lines (tail_text shape past)) b) (last ∙ ap (λ n. nat_eq n shape.events) many)
