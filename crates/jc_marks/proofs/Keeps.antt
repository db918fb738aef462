-- Each step keeps the rule of a log and its marks.
use Rattle.std.proofs.Common.{◌≡◌, ◌≢◌, ℕ, zero, suc, true, List, [], ◌∷◌, ◌++◌, set, refl, sym, ap, ◌∙◌, subst, ⊎_elim}
use mathlib.Core.Option as maybe
use mathlib.Core.Option.{some, some-ne-none, some-injective}
use mathlib.Core.List.{IsPrefix}
use mathlib.Core.Logic.{dite}
use native.Mathlib.Decide.{ℕ_discrete}
use lib.ListN.{get_elem?}
use Rattle.atomic_table.specs.Table.{State, Step, keeps, step, Allows, Splits, Joins, opening}
use Rattle.atomic_table.proofs.Lists.{at_set, at_snoc, at_longer, set_else, set_again}
use Rattle.jc_types.specs.declared.runs.Past.{Past}
use Rattle.jc_turn.proofs.Places.{there_set}
use Rattle.jc_turn.proofs.Prefixes.{prefix_self, prefix_trans}
use Rattle.jc_marks.specs.declared.board.LogPlaceView.{LogPlaceView}
use Rattle.jc_marks.specs.MarkRules.{IsMarkOf, KeepsLog, Mine, log_view, mark_of, blank_mark, met_views, now_grown, now_compared}

-- each view but one is behind this list
abbrev Behind : List LogPlaceView → ℕ → List Past → Type 0
Behind vs log list = (j : ℕ) (u : LogPlaceView) → j ≢ log → get_elem? vs j ≡ some u → IsMarkOf list u

-- a longer list has the same beginnings
behind_longer : (vs : List LogPlaceView) (id : ℕ) (xs ys : List Past) → Behind vs id xs → IsPrefix xs ys → Behind vs id ys
behind_longer vs id xs ys b p j u apart e =
    let before = b j u apart e in record { mark = before.mark; seen = prefix_trans u.seen xs ys before.seen p }

module _ (vs : List LogPlaceView) (k : KeepsLog vs) (id : ℕ) (v : LogPlaceView) (at : get_elem? vs id ≡ some v) (is : v.is_log ≡ true) where
  -- the one view that is the log's
  the_log : (k.log ≡ id) × (k.view ≡ v)
  the_log = dite (ℕ_discrete id k.log)
      (λ (same : id ≡ k.log).
      let there : get_elem? vs k.log ≡ some v = ap (λ (i : ℕ). get_elem? vs i) (sym same) ∙ at in
      (sym same, some-injective k.view v (sym k.there ∙ there)))
      (λ (not : id ≢ k.log). let is_mark = (k.marks id v not at).mark in absurd (cc (is_mark, is)))

  met_before : IsPrefix v.met v.seen
  met_before = subst (λ (x : LogPlaceView). IsPrefix x.met x.seen) the_log.1 k.met

  -- the others are behind it
  behind : Behind vs id v.seen
  behind j u apart e =
      let not : j ≢ k.log = λ same. apart (same ∙ the_log.0) in
      subst (λ (x : LogPlaceView). IsMarkOf x.seen u) the_log.1 (k.marks j u not e)

  -- it has another view, which has seen no less
  moves : (w : LogPlaceView) → w.is_log ≡ true → IsPrefix w.met w.seen → IsPrefix v.seen w.seen → KeepsLog (set vs id w)
  moves w log met more = record {
    log = id;
    view = w;
    there = there_set vs id v w at;
    is_log = log;
    met = met;
    marks = λ j u apart e. behind_longer vs id v.seen w.seen behind more j u apart (sym (set_else vs id j w apart) ∙ e);
  }

  -- a mark is cut from it
  cut : KeepsLog (vs ++ mark_of v ∷ [])
  cut = record {
    log = id;
    view = v;
    there = at_longer vs (mark_of v ∷ []) id v at;
    is_log = is;
    met = met_before;
    marks = λ j u apart e. ⊎_elim
        (behind j u apart)
        (λ (t : mark_of v ≡ u). subst (IsMarkOf v.seen) t record { mark = refl; seen = prefix_self v.seen })
        (at_snoc vs (mark_of v) u j e);
  }

  -- another view is spent
  spend : (other : ℕ) → other ≢ id → KeepsLog (set vs other blank_mark)
  spend other apart = record {
    log = id;
    view = v;
    there = set_else vs other id blank_mark (λ (h : id ≡ other). apart (sym h)) ∙ at;
    is_log = is;
    met = met_before;
    marks = λ j u other_than e. ⊎_elim
        (λ (t : (j ≡ other) × (blank_mark ≡ u)).
        subst (IsMarkOf v.seen) t.1 record { mark = refl; seen = (v.seen, refl) })
        (λ (t : (j ≢ other) × (get_elem? vs j ≡ some u)). behind j u other_than t.1)
        (at_set vs other j blank_mark u e);
  }

abbrev Rule : State (Unit {0}) LogPlaceView → Type 0
Rule s = KeepsLog s.views

-- what a load may tell a seat
abbrev Loads : (Step (Unit {0}) → Mine → ℕ → Mine → Type 0) → ℕ → ℕ → Mine → Type 0
Loads then slots id m = Allows Rule slots id m 0 (λ n. n) (then (step slots 0 0 0 maybe.none) m)

-- the log has seen more
grows : (slots id : ℕ) (list : List Past) (v : LogPlaceView) → v.is_log ≡ true → IsPrefix v.seen list
    → Loads (now_grown list) slots id (v, [])
grows slots id list v is more s k long at small =
    (log_view list, keeps, tt, moves s.views k id v at is (log_view list) refl (list, refl) more, refl)

-- what it has met is now_compared
compares : (slots id : ℕ) (v : LogPlaceView) → v.is_log ≡ true → Loads now_compared slots id (v, [])
compares slots id v is s k long at small = (
  log_view v.seen,
  keeps,
  tt,
  moves s.views k id v at is (log_view v.seen) refl (v.seen, refl) (prefix_self v.seen),
  (refl, met_before s.views k id v at is),
)

-- the same, at a seat that is known
pub grows_at : (slots id : ℕ) (list seen : List Past) (m : Mine) → m ≡ (log_view seen, []) → IsPrefix seen list
    → Allows Rule slots id m 0 (λ n. n) (now_grown list (step slots 0 0 0 maybe.none) m)
grows_at slots id list seen m e more =
    subst (Loads (now_grown list) slots id) (sym e) (grows slots id list (log_view seen) refl more)

pub compares_at : (slots id : ℕ) (v : LogPlaceView) (m : Mine) → v.is_log ≡ true → m ≡ (v, [])
    → Allows Rule slots id m 0 (λ n. n) (now_compared (step slots 0 0 0 maybe.none) m)
compares_at slots id v m is e = subst (Loads now_compared slots id) (sym e) (compares slots id v is)

-- a mark of what the log has seen
pub cuts : (id : ℕ) (v : LogPlaceView) → v.is_log ≡ true → Splits Rule id v v (mark_of v)
cuts id v is s k at =
    let same : set s.views id v ≡ s.views = set_again s.views id v at in
    subst (λ (vs : List LogPlaceView). KeepsLog (vs ++ mark_of v ∷ [])) (sym same) (cut s.views k id v at is)

-- the log meets a mark
pub meets : (id : ℕ) (v : LogPlaceView) (other : ℕ) (w : LogPlaceView) → v.is_log ≡ true
    → Joins Rule id v other w (met_views v w) blank_mark
meets id v other w is s k at apart there =
    let both : LogPlaceView = met_views v w in
    let before : get_elem? s.views other ≡ some w = sym (set_else s.views id other both apart) ∙ there in
    let met : IsPrefix w.seen v.seen = (behind s.views k id v at is other w apart before).seen in
    let k' : KeepsLog (set s.views id both) = moves s.views k id v at is both is met (prefix_self v.seen) in
    spend (set s.views id both) k' id both (there_set s.views id v both at) is other apart

-- the table at the start
pub opens : Rule (opening (0 ∷ []) [] (log_view []))
opens = record {
  log = 0;
  view = log_view [];
  there = refl;
  is_log = refl;
  met = ([], refl);
  marks = λ j u apart e. others j u apart e;
}
  where
    others : (j : ℕ) (u : LogPlaceView) → j ≢ 0 → get_elem? (log_view [] ∷ []) j ≡ some u → IsMarkOf [] u
    others zero u apart e = absurd (apart refl)
    others (suc j) u apart e = absurd (some-ne-none u (sym e))
