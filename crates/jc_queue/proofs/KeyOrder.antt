-- The order of keys is total, and keys that are equal in it are equal.
use Rattle.std.proofs.Common.{◌≡◌, ℕ, Bool, true, false, cond, ◌==◌, nat_lt, eqb-true, List, [], ◌∷◌, refl, sym, ap, true≢false}
use Rattle.std.proofs.lemmas.Cmp.{nat_list_cmp_total, on_total, then_total}
use Rattle.std.specs.Cmp.{IsTotalOrder}
use Rattle.std.specs.Cmp.Lexicographic.{slice_cmp}
use Rattle.std.specs.Ordering.{is_eq, nat_cmp, ordering_then}
use Rattle.std.specs.declared.cmp.Ordering.{Ordering}
use Rattle.std.specs.declared.cmp.Ordering.TheVariants.{Less, Equal, Greater}
use Rattle.jc_types.specs.declared.objects.KeyNames.{KeyNames as Key}
use Rattle.jc_queue.specs.Queued.{key_order}

pub key_total : IsTotalOrder key_order
key_total = then_total (on_total (λ (key : Key). key.namespace) nat_list_cmp_total) (on_total (λ (key : Key). key.name) nat_list_cmp_total)

pub both_equal : (m n : Ordering) → ordering_then m n ≡ Equal → (m ≡ Equal) × (n ≡ Equal)
both_equal Equal n h = (refl, h)
both_equal Less n h = absurd (true≢false (sym (ap is_eq h)))
both_equal Greater n h = absurd (true≢false (sym (ap is_eq h)))

pub number_is : (x y : ℕ) → nat_cmp x y ≡ Equal → x ≡ y
number_is x y h = by (nat_lt x y) (x == y) refl h
  where
    by : (l e : Bool) → (x == y) ≡ e → cond l Less (cond e Equal Greater) ≡ Equal → x ≡ y
    by true e s h = absurd (true≢false (sym (ap is_eq h)))
    by false true s h = eqb-true x y s
    by false false s h = absurd (true≢false (sym (ap is_eq h)))

pub text_is : (xs ys : List ℕ) → slice_cmp nat_cmp xs ys ≡ Equal → xs ≡ ys
text_is [] [] h = refl
text_is [] (y ∷ ys) h = absurd (true≢false (sym (ap is_eq h)))
text_is (x ∷ xs) [] h = absurd (true≢false (sym (ap is_eq h)))
text_is (x ∷ xs) (y ∷ ys) h = let e = both_equal (nat_cmp x y) (slice_cmp nat_cmp xs ys) h in λ i. number_is x y e.0 i ∷ text_is xs ys e.1 i
