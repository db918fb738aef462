-- What holds where it holds of something with a lesser count, holds of all.
use Rattle.std.proofs.Common.{ℕ, zero, suc, ◌<◌, ◌≤◌, arith, ◌⊎◌, inl, inr}

-- Four numbers.
pub record Count : Type 0 where
  pub faults : ℕ
  pub statuses : ℕ
  pub moments : ℕ
  pub keys : ℕ

-- The first of the later ones that differs from the earlier ones is less.
pub data Falls (earlier later : Count) : Type 0 where
  InFaults : later.faults < earlier.faults → Falls earlier later
  InStatuses : later.faults ≤ earlier.faults → later.statuses < earlier.statuses → Falls earlier later
  InMoments : later.faults ≤ earlier.faults → later.statuses ≤ earlier.statuses
      → later.moments < earlier.moments → Falls earlier later
  InKeys : later.faults ≤ earlier.faults → later.statuses ≤ earlier.statuses
      → later.moments ≤ earlier.moments → later.keys < earlier.keys → Falls earlier later

module _ {A : Type 0} (count : A → Count) (P Q : A → Type 0) where
  -- It holds, or it does where it holds of this one, whose count is less.
  pub record Lowers (x : A) : Type 0 where
    pub next : A
    pub goes : P next
    pub falls : Falls (count x) (count next)
    pub back : Q next → Q x

  module _ (one : (x : A) → P x → Q x ⊎ Lowers x) where
    module _ (f : ℕ) (by-faults : (x : A) → (count x).faults < f → P x → Q x) where
      module _ (s : ℕ) (by-statuses : (x : A) → (count x).faults ≤ f → (count x).statuses < s → P x → Q x) where
        module _ (m : ℕ) (by-moments : (x : A) → (count x).faults ≤ f → (count x).statuses ≤ s → (count x).moments < m → P x → Q x) where
          on-keys : (k : ℕ) → (x : A) → (count x).faults ≤ f → (count x).statuses ≤ s → (count x).moments ≤ m → (count x).keys < k → P x → Q x
          on-keys zero x a b c lt p = absurd (omega (arith, lt))
          on-keys (suc k) x a b c lt p = by (one x p) (λ y. on-keys k y)
            where
              by : Q x ⊎ Lowers x → ((y : A) → (count y).faults ≤ f → (count y).statuses ≤ s → (count y).moments ≤ m → (count y).keys < k → P y → Q y) → Q x
              by (inl q) more = q
              by (inr l) more = l.back (of l.falls)
                where
                  of : Falls (count x) (count l.next) → Q l.next
                  of (InFaults less) = by-faults l.next (omega (arith, a, less)) l.goes
                  of (InStatuses same less) = by-statuses l.next (omega (arith, a, same)) (omega (arith, b, less)) l.goes
                  of (InMoments same still less) = by-moments l.next (omega (arith, a, same)) (omega (arith, b, still)) (omega (arith, c, less)) l.goes
                  of (InKeys same still stays less) = more l.next (omega (arith, a, same)) (omega (arith, b, still)) (omega (arith, c, stays)) (omega (arith, lt, less)) l.goes

        on-moments : (m : ℕ) → (x : A) → (count x).faults ≤ f → (count x).statuses ≤ s → (count x).moments < m → P x → Q x
        on-moments zero x a b lt p = absurd (omega (arith, lt))
        on-moments (suc m) x a b lt p = on-keys m (λ y. on-moments m y) (suc (count x).keys) x a b (omega (arith, lt)) (omega arith) p

      on-statuses : (s : ℕ) → (x : A) → (count x).faults ≤ f → (count x).statuses < s → P x → Q x
      on-statuses zero x a lt p = absurd (omega (arith, lt))
      on-statuses (suc s) x a lt p = on-moments s (λ y. on-statuses s y) (suc (count x).moments) x a (omega (arith, lt)) (omega arith) p

    on-faults : (f : ℕ) → (x : A) → (count x).faults < f → P x → Q x
    on-faults zero x lt p = absurd (omega (arith, lt))
    on-faults (suc f) x lt p = on-statuses f (λ y. on-faults f y) (suc (count x).statuses) x (omega (arith, lt)) (omega arith) p

    pub holds-of-all : (x : A) → P x → Q x
    holds-of-all x p = on-faults (suc (count x).faults) x (omega arith) p
