-- LockSeats that have done nothing, and seats that were lent: for the callers of `make` and `as_mut_slice`.
use Rattle.std.proofs.Common.{◌≡◌, ℕ, zero, suc, ◌≤◌, List, [], ◌∷◌, length, refl, sym, ap, ◌∙◌, subst, arith}
use Rattle.std.specs.List.{refill}
use Rattle.atomic_table.specs.Seated.{TableId}
use Rattle.jc_turn.specs.LockSeats.{NoSeatHolds, AreSeatsOf, BelongTo, LockSeatView, TurnLockView, fresh_seats}

fresh_length : (t : TableId) (k n : ℕ) → length (fresh_seats t k n) ≡ n
fresh_length t k zero = refl
fresh_length t k (suc n) = ap suc (fresh_length t (suc k) n)

fresh_belong : (t : TableId) (k n : ℕ) → BelongTo t (fresh_seats t k n)
fresh_belong t k zero = tt
fresh_belong t k (suc n) = (refl, fresh_belong t (suc k) n)

fresh_free : (t : TableId) (k n : ℕ) → NoSeatHolds (fresh_seats t k n)
fresh_free t k zero = tt
fresh_free t k (suc n) = (refl, fresh_free t (suc k) n)

-- as many as there were: they are what was left
pub whole_refill : {A : Type 0} (xs ws : List A) → length ws ≡ length xs → refill (length xs) xs ws ≡ ws
whole_refill [] [] e = refl
whole_refill [] (w ∷ ws) e = absurd (omega arith)
whole_refill (x ∷ xs) [] e = absurd (omega arith)
whole_refill (x ∷ xs) (w ∷ ws) e = ap (λ l. w ∷ l) (whole_refill xs ws (omega arith))

-- ---- seats of a lock

module _ (lock : TurnLockView) (n : ℕ) (seats : List LockSeatView) (fresh : seats ≡ fresh_seats lock.name 0 n) where
  pub few_fresh : length seats ≤ n
  few_fresh = let long : length seats ≡ n = ap length fresh ∙ fresh_length lock.name 0 n in omega (arith, long)

  pub own_fresh : BelongTo lock.name seats
  own_fresh = subst (BelongTo lock.name) (sym fresh) (fresh_belong lock.name 0 n)

  pub free_fresh : NoSeatHolds seats
  free_fresh = subst NoSeatHolds (sym fresh) (fresh_free lock.name 0 n)

  -- As many as were lent are all of them.
  pub lent_all : (left : List LockSeatView) → lock.seats ≡ n → length left ≡ length seats → BelongTo lock.name left → AreSeatsOf lock (refill (length seats) seats left)
  lent_all left count long own =
      let whole = whole_refill seats left long in
      (subst (BelongTo lock.name) (sym whole) own, ap length whole ∙ (long ∙ (ap length fresh ∙ (fresh_length lock.name 0 n ∙ sym count))))

  -- None of them holds.
  pub lent_free : (left : List LockSeatView) → length left ≡ length seats → NoSeatHolds left → NoSeatHolds (refill (length seats) seats left)
  lent_free left long free = subst NoSeatHolds (sym (whole_refill seats left long)) free
