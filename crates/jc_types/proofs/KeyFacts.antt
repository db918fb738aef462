-- Keys and UIDs that are the same are equal, and each is the same as itself.
use Rattle.std.proofs.Common.{◌≡◌, Bool, true, false, nat_eq, refl, sym, ap, ◌∙◌, eqb-true, eq-eqb}
use Rattle.std.specs.Cmp.{first_so, second_so}
use Rattle.std.specs.Cmp.Lexicographic.{pointwise, bytes_decides}
use Rattle.std.proofs.lemmas.Bool.{and_from, false_from_ne_true, both_ways}
use Rattle.jc_types.specs.declared.numbers.Uid.{Uid}
use Rattle.jc_types.specs.Keys.{Key, same_key, same_uid}

-- Keys that are the same are equal.
pub same_key-eq : (a b : Key) → same_key a b ≡ true → a ≡ b
same_key-eq a b h =
    let spaces = pointwise nat_eq a.namespace b.namespace in
    let names = pointwise nat_eq a.name b.name in
    let n = (bytes_decides a.namespace b.namespace).0 (first_so spaces names h) in
    let m = (bytes_decides a.name b.name).0 (second_so spaces names h) in
    λ i. record { namespace = n i; name = m i }

-- A key is the same as itself.
pub same_key-itself : (a : Key) → same_key a a ≡ true
same_key-itself a =
    and_from (pointwise nat_eq a.namespace a.namespace) (pointwise nat_eq a.name a.name)
    ((bytes_decides a.namespace a.namespace).1 refl) ((bytes_decides a.name a.name).1 refl)

-- UIDs that are the same are equal.
pub same_uid-eq : (a b : Uid) → same_uid a b ≡ true → a ≡ b
same_uid-eq a b h = let e = eqb-true a.0 b.0 h in λ i. record { 0 = e i }

-- A UID is the same as itself.
pub same_uid-itself : (a : Uid) → same_uid a a ≡ true
same_uid-itself a = eq-eqb a.0 a.0 refl

-- A test that is true just of equal values.
module _ {K : Type 0} (same : K → K → Bool) (eq : (a b : K) → same a b ≡ true → a ≡ b) (itself : (a : K) → same a a ≡ true) where
  -- Equal values are the same.
  pub same_from_eq : (a b : K) → a ≡ b → same a b ≡ true
  same_from_eq a b e = ap (λ c. same a c) (sym e) ∙ itself a

  -- It does not matter which stands first.
  pub same_either_way : (a b : K) → same a b ≡ same b a
  same_either_way a b = by (same a b) refl
    where
      by : (s : Bool) → same a b ≡ s → s ≡ same b a
      by true h = sym (same_from_eq b a (sym (eq a b h)))
      by false h = sym (false_from_ne_true (same b a) (λ g. both_ways (same a b) h (same_from_eq a b (sym (eq b a g)))))

-- It does not matter which key stands first.
pub same_key-either_way : (a b : Key) → same_key a b ≡ same_key b a
same_key-either_way = same_either_way same_key same_key-eq same_key-itself

-- It does not matter which UID stands first.
pub same_uid-either_way : (a b : Uid) → same_uid a b ≡ same_uid b a
same_uid-either_way = same_either_way same_uid same_uid-eq same_uid-itself
