-- What the words of a line say is within bounds: numbers, pods, versions, lanes and keys.
use Rattle.std.proofs.Common.{◌≡◌, ℕ, ◌+◌, ◌-◌, ◌*◌, ◌<◌, ◌^◌, ◌==◌, Bool, true, false, cond, ◌&&◌, nat_lt, List, [], ◌∷◌, bytes_eq, codes, Option, Some, None, option_map, option_and_then, IfSome, Result, Ok, Err, refl, sym, ap, ◌∙◌, subst, arith}
use Rattle.std.specs.Prelude.{IfOk}
use Rattle.std.specs.Result.{result_ok}
use Rattle.std.proofs.lemmas.Bool.{ltb-true}
use Rattle.std.proofs.lemmas.Option.{none-some, same_Some, cond_some as tested_by}
use Rattle.jc_rows.specs.NameForms.{is_label, is_subdomain}
use Rattle.jc_types.specs.declared.numbers.Uid.{Uid}
use Rattle.jc_types.specs.declared.numbers.Version.{Version}
use Rattle.jc_types.specs.declared.objects.KeyNames.{KeyNames as Key}
use Rattle.jc_reading.specs.Allowed.{IsAllowedKey}
use Rattle.jc_reading.specs.Proper.{IsPod}
use Rattle.jc_reading.specs.LineReadings.{number_below, digits_from, is_digit, key_said, label_if, lane_behind, digits_said, parted, pod_said, subdomain_if, tag_said, uid_at, version_from, version_behind, version_printed}
use Rattle.jc_manifest.proofs.IndexSetFacts.{right}

-- ---- steps that said something

pub said_by : {A B : Type 0} (f : A → Option B) (o : Option A) (b : B) → option_and_then f o ≡ Some b → (a : A) × (o ≡ Some a) × (f a ≡ Some b)
said_by f None b e = absurd (none-some b e)
said_by f (Some a) b e = (a, refl, e)

pub mapped_by : {A B : Type 0} (f : A → B) (o : Option A) (b : B) → option_map f o ≡ Some b → (a : A) × (o ≡ Some a) × (f a ≡ b)
mapped_by f None b e = absurd (none-some b e)
mapped_by f (Some a) b e = (a, refl, same_Some (f a) b e)

pub guarded_by : {A : Type 0} (t : Bool) (o : Option A) (b : A) → cond t o None ≡ Some b → (t ≡ true) × (o ≡ Some b)
guarded_by true o b e = (refl, e)
guarded_by false o b e = absurd (none-some b e)

pub answered : {A E : Type 0} (r : Result A E) (a : A) → result_ok r ≡ Some a → r ≡ Ok a
answered (Ok b) a e = ap Ok (same_Some b a e)
answered (Err fault) a e = absurd (none-some a e)

pub at_ok : {A E : Type 0} (P : A → Type 0) (r : Result A E) (a : A) → IfOk r P → r ≡ Ok a → P a
at_ok P r a known e = subst (λ r. IfOk r P) e known

-- ---- numbers

pub digits_few : (m : ℕ) (ds : List ℕ) (n : ℕ) → m < 2 ^ 64 → digits_from m ds ≡ Some n → n < 2 ^ 64
digits_few m [] n few e = subst (λ k. k < 2 ^ 64) (same_Some m n e) few
digits_few m (d ∷ ds) n few e =
    let p = guarded_by (is_digit d && nat_lt (m * 10 + (d - 48)) 18446744073709551616) _ n e in
    digits_few (m * 10 + (d - 48)) ds n (ltb-true (m * 10 + (d - 48)) 18446744073709551616 (right (is_digit d) _ p.0)) p.1

pub number_few : (word : List ℕ) (n : ℕ) → digits_said word ≡ Some n → n < 2 ^ 64
unfolding digits_said
number_few word n e = digits_few 0 word n (omega arith) e

pub below_less : (word : List ℕ) (bound n : ℕ) → number_below word bound ≡ Some n → n < bound
below_less word bound n e =
    let p = said_by (λ n. cond (nat_lt n bound) (Some n) None) (digits_said word) n e in
    let q = tested_by (nat_lt p.0 bound) p.0 n p.2 in
    subst (λ k. k < bound) q.1 (ltb-true p.0 bound q.0)

pub pod_proper : (word : List ℕ) (pod : Uid) → pod_said word ≡ Some pod → IsPod pod
pod_proper word pod e =
    let p = said_by (λ n. cond (nat_lt 0 n) (Some (uid_at n)) None) (number_below word 4294967296) pod e in
    let q = tested_by (nat_lt 0 p.0) (uid_at p.0) pod p.2 in
    let some = ltb-true 0 p.0 q.0 in
    let few = below_less word 4294967296 p.0 p.1 in
    subst IsPod q.1 (record { some = omega (arith, some); few = omega (arith, few) })

abbrev pub IsFewVersion : Option Version → Type 0
IsFewVersion version = IfSome version (λ (v : Version). v.0 < 2 ^ 32)

pub behind_few : (word : List ℕ) (version : Option Version) → version_behind word ≡ Some version → IsFewVersion version
behind_few [] version e = absurd (none-some version e)
behind_few (b ∷ digits) version e =
    let p = guarded_by (b == 118) (option_map (λ n. Some (version_from n)) (number_below digits 4294967296)) version e in
    let q = mapped_by (λ n. Some (version_from n)) (number_below digits 4294967296) version p.1 in
    let few = below_less digits 4294967296 q.0 q.1 in
    subst IsFewVersion q.2 (omega (arith, few))

pub version_few : (word : List ℕ) (version : Option Version) → version_printed word ≡ Some version → IsFewVersion version
version_few word version e = by (bytes_eq word (codes "any")) e
  where
    by : (t : Bool) → cond t (Some None) (version_behind word) ≡ Some version → IsFewVersion version
    by true e = subst IsFewVersion (same_Some None version e) tt
    by false e = behind_few word version e

pub lane_few : (word : List ℕ) (lane : ℕ) → lane_behind word ≡ Some (Some lane) → lane < 16
lane_few [] lane e = absurd (none-some (Some lane) e)
lane_few (b ∷ digits) lane e =
    let p = guarded_by (b == 64) (option_map (λ n. Some n) (number_below digits 16)) (Some lane) e in
    let q = mapped_by (λ n. Some n) (number_below digits 16) (Some lane) p.1 in
    subst (λ k. k < 16) (same_Some q.0 lane q.2) (below_less digits 16 q.0 q.1)

pub tag_few : (word : List ℕ) (lane : ℕ) → tag_said word ≡ Some (Some lane) → lane < 16
tag_few word lane e = by (bytes_eq word (codes "-")) e
  where
    by : (t : Bool) → cond t (Some None) (lane_behind word) ≡ Some (Some lane) → lane < 16
    by true e = absurd (none-some lane (same_Some None (Some lane) e))
    by false e = lane_few word lane e

-- ---- keys

abbrev pub key_at : List ℕ → List ℕ → Key
key_at namespace name = record { namespace = namespace; name = name }

pub key_allowed : (word : List ℕ) (key : Key) → key_said word ≡ Some key → IsAllowedKey key
unfolding key_said
key_allowed word key e =
    let parts = parted word in
    let p = said_by (λ namespace. option_and_then (λ name. Some (key_at namespace name)) (subdomain_if parts.1)) (label_if parts.0) key e in
    let q = said_by (λ name. Some (key_at p.0 name)) (subdomain_if parts.1) key p.2 in
    let label = tested_by (is_label parts.0) parts.0 p.0 p.1 in
    let subdomain = tested_by (is_subdomain parts.1) parts.1 q.0 q.1 in
    subst IsAllowedKey (same_Some (key_at p.0 q.0) key q.2)
    (record { name = ap is_subdomain (sym subdomain.1) ∙ subdomain.0; namespace = ap is_label (sym label.1) ∙ label.0 })
