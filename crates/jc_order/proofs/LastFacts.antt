-- The last entry of the log of which a kind of cache tells the key.
use Rattle.std.proofs.Common.{◌≡◌, ℕ, suc, ◌≤◌, ◌<◌, ◌==◌, Bool, true, false, cond, List, [], ◌∷◌, length, Option, Some, None, is_some, option_and_then, refl, sym, ap, ◌∙◌, arith, eqb-true, true≢false, nat_lt, ltb-true}
use Rattle.std.specs.Option.{option_map_or}
use Rattle.std.proofs.lemmas.Bool.{ltb-false}
use Rattle.jc_control.specs.ControllerCalls.{told}
use Rattle.jc_types.specs.declared.objects.Entry.{Entry}
use Rattle.jc_types.specs.declared.objects.Entry.TheVariants.{JobPut, JobGone, PodPut, PodGone}
use Rattle.jc_types.specs.declared.objects.Kind.{Kind}
use Rattle.jc_types.specs.declared.objects.Kind.TheVariants.{Jobs}
use Rattle.jc_types.specs.declared.objects.KeyNames.{KeyNames as Key}
use Rattle.jc_types.specs.Keys.{same_key}
use Rattle.jc_types.proofs.KeyFacts.{same_key-eq, same_key-itself}
use Rattle.jc_log.specs.Log.{entry_at, job_in, upto}
use Rattle.jc_log.proofs.LogFacts.{upto-all, upto-fixed, entry_at-newest, entry_at-older}

-- A cache of the kind tells the key of the entry.
abbrev pub tells : Kind → Key → Entry → Bool
tells kind k e = option_map_or (λ key. same_key key k) (told kind e) false

-- The version of the last such entry, or 0.
abbrev pub last_told : Kind → Key → List Entry → ℕ
last_told kind k [] = 0
last_told kind k (e ∷ older) = cond (tells kind k e) (suc (length older)) (last_told kind k older)

pub last-within : (kind : Kind) (k : Key) (log : List Entry) → last_told kind k log ≤ length log
last-within kind k [] = omega arith
last-within kind k (e ∷ older) = by (tells kind k e) (last-within kind k older)
  where
    by : (t : Bool) → last_told kind k older ≤ length older → cond t (suc (length older)) (last_told kind k older) ≤ suc (length older)
    by true ih = omega arith
    by false ih = omega (arith, ih)

-- An entry that is told raises it past all versions that were.
pub last-new : (kind : Kind) (k : Key) (e : Entry) (log : List Entry) → tells kind k e ≡ true → last_told kind k (e ∷ log) ≡ suc (length log)
last-new kind k e log t = ap (λ b. cond b (suc (length log)) (last_told kind k log)) t

-- It never falls.
pub last-grows : (kind : Kind) (k : Key) (e : Entry) (log : List Entry) → last_told kind k log ≤ last_told kind k (e ∷ log)
last-grows kind k e log = by (tells kind k e) (last-within kind k log)
  where
    by : (t : Bool) → last_told kind k log ≤ length log → last_told kind k log ≤ cond t (suc (length log)) (last_told kind k log)
    by true le = omega (arith, le)
    by false le = omega arith

told-key : (k : Key) (o : Option Key) → option_map_or (λ key. same_key key k) o false ≡ true → o ≡ Some k
told-key k None h = absurd (true≢false (sym h))
told-key k (Some key) h = ap (λ k. Some k) (same_key-eq key k h)

-- The entry at it is told under the key.
pub last-told_at : (kind : Kind) (k : Key) (log : List Entry) → 0 < last_told kind k log → option_and_then (told kind) (entry_at (last_told kind k log) log) ≡ Some k
last-told_at kind k [] lt = absurd (omega (arith, lt))
last-told_at kind k (e ∷ older) lt = by (tells kind k e) refl lt (last-told_at kind k older)
  where
    by : (t : Bool) → tells kind k e ≡ t → 0 < cond t (suc (length older)) (last_told kind k older)
        → (0 < last_told kind k older → option_and_then (told kind) (entry_at (last_told kind k older) older) ≡ Some k)
        → option_and_then (told kind) (entry_at (cond t (suc (length older)) (last_told kind k older)) (e ∷ older)) ≡ Some k
    by true s lt ih = ap (option_and_then (told kind)) (entry_at-newest e older) ∙ told-key k (told kind e) s
    by false s lt ih = ap (option_and_then (told kind)) (entry_at-older (last_told kind k older) e older (last-within kind k older)) ∙ ih lt

-- From it on the Job of the key stays as it is.
pub job-kept : (k : Key) (e : Entry) (older : List Entry) → tells Jobs k e ≡ false → job_in k (e ∷ older) ≡ job_in k older
job-kept k (JobPut job) older n = ap (λ b. cond b (Some job) (job_in k older)) n
job-kept k (JobGone job) older n = ap (λ b. cond b None (job_in k older)) n
job-kept k (PodPut pod) older n = refl
job-kept k (PodGone pod) older n = refl

pub last-job : (k : Key) (log : List Entry) (n : ℕ) → last_told Jobs k log ≤ n → n ≤ length log → job_in k (upto n log) ≡ job_in k log
last-job k [] n low high = ap (job_in k) (let z : n ≡ 0 = omega (arith, high) in ap (λ n. upto n []) z)
last-job k (e ∷ older) n low high = by (nat_lt (length older) n) refl (tells Jobs k e) refl low (last-job k older n)
  where
    by : (x : Bool) → nat_lt (length older) n ≡ x → (t : Bool) → tells Jobs k e ≡ t → cond t (suc (length older)) (last_told Jobs k older) ≤ n
        → (last_told Jobs k older ≤ n → n ≤ length older → job_in k (upto n older) ≡ job_in k older) → job_in k (upto n (e ∷ older)) ≡ job_in k (e ∷ older)
    by true s t i low ih = let lt = ltb-true (length older) n s in let same : n ≡ suc (length older) = omega (arith, lt, high) in ap (λ n. job_in k (upto n (e ∷ older))) same ∙ ap (job_in k) (upto-all (suc (length older)) (e ∷ older) (omega arith))
    by false s true i low ih = let le = ltb-false (length older) n s in absurd (omega (arith, le, low))
    by false s false i low ih = let le = ltb-false (length older) n s in ap (job_in k) (upto-fixed n e older le) ∙ ih low le ∙ sym (job-kept k e older i)

-- An entry that is told under the key is no later than it, and there is one.
pub last-from : (kind : Kind) (k : Key) (log : List Entry) (n : ℕ) → option_and_then (told kind) (entry_at n log) ≡ Some k → (0 < n) × (n ≤ last_told kind k log)
last-from kind k [] n e = absurd (true≢false (sym (ap is_some e)))
last-from kind k (new ∷ older) n e = by (suc (length older) == n) refl e (last-from kind k older n)
  where
    it : told kind new ≡ Some k → tells kind k new ≡ true
    it e = ap (λ o. option_map_or (λ key. same_key key k) o false) e ∙ same_key-itself k

    by : (t : Bool) → (suc (length older) == n) ≡ t → option_and_then (told kind) (cond t (Some new) (entry_at n older)) ≡ Some k
        → (option_and_then (told kind) (entry_at n older) ≡ Some k → (0 < n) × (n ≤ last_told kind k older)) → (0 < n) × (n ≤ last_told kind k (new ∷ older))
    by true s e ih = let same = eqb-true (suc (length older)) n s in let last = last-new kind k new older (it e) in (omega (arith, same), omega (arith, same, last))
    by false s e ih = let h = ih e in let low = h.0 in let high = h.1 in let grows = last-grows kind k new older in (low, omega (arith, high, grows))
