-- Facts on logs, newest first: prefixes and places, and the plain reading of the words.
use Rattle.std.proofs.Common.{◌≡◌, ℕ, zero, suc, ◌<◌, ◌≤◌, ◌==◌, nat_lt, Bool, true, false, cond, List, [], ◌∷◌, ◌++◌, length, reverse, take, Option, Some, None, is_some, slice_get, refl, sym, ap, ◌∙◌, arith, lt-ltb, le-ltb, ltb-true}
use Rattle.std.proofs.Common.{ltb-false, eqb-true, eq-eqb, ne_eqb, true≢false}
use Rattle.std.proofs.lemmas.Bool.{cond-true, cond-false, eqb-false}
use Rattle.std.proofs.lemmas.Option.{slice_get_past}
use Rattle.std.proofs.lemmas.List.{reverse-append, reverse-reverse, length-reverse, take-append-le, take_all}
use Rattle.jc_log.specs.Log.{upto, entry_at}

module _ {A : Type 0} where
  -- A prefix of the older log is that of the log: what stands in it is fixed.
  pub upto-fixed : (n : ℕ) (e : A) (older : List A) → n ≤ length older → upto n (e ∷ older) ≡ upto n older
  upto-fixed n e older h = cond-false (nat_lt (length older) n) (e ∷ older) (upto n older) (le-ltb (length older) n h)

  -- A prefix as long as the log is the log.
  pub upto-all : (n : ℕ) (log : List A) → length log ≤ n → upto n log ≡ log
  upto-all n [] h = refl
  upto-all n (e ∷ older) h = cond-true (nat_lt (length older) n) (e ∷ older) (upto n older) (lt-ltb (length older) n (omega (arith, h)))

  -- The length of a prefix.
  pub length-upto : (n : ℕ) (log : List A) → n ≤ length log → length (upto n log) ≡ n
  length-upto n [] h = omega (arith, h)
  length-upto n (e ∷ older) h = by (length-upto n older) (nat_lt (length older) n) refl
    where
      by : (n ≤ length older → length (upto n older) ≡ n) → (b : Bool) → nat_lt (length older) n ≡ b → length (cond b (e ∷ older) (upto n older)) ≡ n
      by ih true t = let lt = ltb-true (length older) n t in omega (arith, lt, h)
      by ih false t = ih (ltb-false (length older) n t)

  -- A prefix of a prefix.
  pub upto-upto : (m n : ℕ) (log : List A) → m ≤ n → upto m (upto n log) ≡ upto m log
  upto-upto m n [] h = refl
  upto-upto m n (e ∷ older) h = by (upto-upto m n older h) (nat_lt (length older) n) refl
    where
      by : upto m (upto n older) ≡ upto m older → (b : Bool) → nat_lt (length older) n ≡ b → upto m (cond b (e ∷ older) (upto n older)) ≡ upto m (e ∷ older)
      by ih true t = refl
      by ih false t =
          let le = ltb-false (length older) n t in
          ih ∙ sym (upto-fixed m e older (omega (arith, le, h)))

  -- An entry of the log has a place in it.
  pub entry_at-place : (v : ℕ) (log : List A) (e : A) → entry_at v log ≡ Some e → (0 < v) × (v ≤ length log)
  entry_at-place v [] e h = absurd (true≢false (sym (ap is_some h)))
  entry_at-place v (x ∷ older) e h = by (entry_at-place v older e) (length (x ∷ older) == v) refl h
    where
      by : (entry_at v older ≡ Some e → (0 < v) × (v ≤ length older)) → (b : Bool) → (length (x ∷ older) == v) ≡ b → cond b (Some x) (entry_at v older) ≡ Some e → (0 < v) × (v ≤ length (x ∷ older))
      by ih true t g = let is = eqb-true (length (x ∷ older)) v t in (omega (arith, is), omega (arith, is))
      by ih false t g = let rest = ih g in (rest.0, omega (arith, rest.1))

  -- The entry of the greatest version is the newest.
  pub entry_at-newest : (e : A) (older : List A) → entry_at (length (e ∷ older)) (e ∷ older) ≡ Some e
  entry_at-newest e older = cond-true (length (e ∷ older) == length (e ∷ older)) (Some e) (entry_at (length (e ∷ older)) older) (eq-eqb (length (e ∷ older)) (length (e ∷ older)) refl)

  -- The other entries stand where they stood.
  pub entry_at-older : (v : ℕ) (e : A) (older : List A) → v ≤ length older → entry_at v (e ∷ older) ≡ entry_at v older
  entry_at-older v e older h = cond-false (length (e ∷ older) == v) (Some e) (entry_at v older) (ne_eqb (length (e ∷ older)) v (λ is. omega (arith, is, h)))

  -- What stood stays where it stood.
  pub entry_at-stays : (v : ℕ) (e x : A) (older : List A) → entry_at v older ≡ Some x → entry_at v (e ∷ older) ≡ Some x
  entry_at-stays v e x older h = let place = entry_at-place v older x h in entry_at-older v e older place.1 ∙ h

  -- An entry of a prefix is that of the log.
  pub entry_at-upto : (v n : ℕ) (log : List A) → v ≤ n → entry_at v (upto n log) ≡ entry_at v log
  entry_at-upto v n [] h = refl
  entry_at-upto v n (e ∷ older) h = by (entry_at-upto v n older h) (nat_lt (length older) n) refl
    where
      by : entry_at v (upto n older) ≡ entry_at v older → (b : Bool) → nat_lt (length older) n ≡ b → entry_at v (cond b (e ∷ older) (upto n older)) ≡ entry_at v (e ∷ older)
      by ih true t = refl
      by ih false t =
          let le = ltb-false (length older) n t in
          ih ∙ sym (entry_at-older v e older (omega (arith, le, h)))

  -- The prefix that ends with the entry of version v.
  pub upto-entry_at : (v : ℕ) (log : List A) (e : A) → entry_at (suc v) log ≡ Some e → upto (suc v) log ≡ e ∷ upto v log
  upto-entry_at v [] e h = absurd (true≢false (sym (ap is_some h)))
  upto-entry_at v (x ∷ older) e h = by (upto-entry_at v older e) (length (x ∷ older) == suc v) refl h
    where
      by : (entry_at (suc v) older ≡ Some e → upto (suc v) older ≡ e ∷ upto v older) → (b : Bool) → (length (x ∷ older) == suc v) ≡ b → cond b (Some x) (entry_at (suc v) older) ≡ Some e → upto (suc v) (x ∷ older) ≡ e ∷ upto v (x ∷ older)
      by ih true t g =
          let is = eqb-true (length (x ∷ older)) (suc v) t in
          let same : x ≡ e = ap (λ (o : Option A). elim o [ None ↦ x | Some y ↦ y ]) g in
          upto-all (suc v) (x ∷ older) (omega (arith, is))
          ∙ ap (λ y. y ∷ older) same
          ∙ ap (λ rest. e ∷ rest) (sym (upto-fixed v x older (omega (arith, is)) ∙ upto-all v older (omega (arith, is))))
      by ih false t g =
          let place = entry_at-place (suc v) older e g in
          upto-fixed (suc v) x older place.1
          ∙ ih g
          ∙ ap (λ rest. e ∷ rest) (sym (upto-fixed v x older (omega (arith, place.1))))

  -- ---- the same log oldest first

  -- An entry that is appended is the newest.
  pub newest_first : (es : List A) (e : A) → reverse (es ++ e ∷ []) ≡ e ∷ reverse es
  newest_first es e = reverse-append es (e ∷ [])

  -- The newest entry is the last of the log oldest first.
  pub oldest_first : (e : A) (older : List A) → reverse (e ∷ older) ≡ reverse older ++ e ∷ []
  oldest_first e older = reverse-append (e ∷ []) older

  -- The first n entries of the log oldest first.
  pub upto-taken : (n : ℕ) (log : List A) → upto n log ≡ reverse (take n (reverse log))
  upto-taken n [] = sym (ap reverse (take_all n [] (omega arith)))
  upto-taken n (e ∷ older) = by (upto-taken n older) (nat_lt (length older) n) refl
    where
      by : upto n older ≡ reverse (take n (reverse older)) → (b : Bool) → nat_lt (length older) n ≡ b → cond b (e ∷ older) (upto n older) ≡ reverse (take n (reverse (e ∷ older)))
      by ih true t =
          let lt = ltb-true (length older) n t in
          let long = length-reverse (e ∷ older) in
          sym (ap reverse (take_all n (reverse (e ∷ older)) (omega (arith, lt, long))) ∙ reverse-reverse (e ∷ older))
      by ih false t =
          let le = ltb-false (length older) n t in
          let long = length-reverse older in
          ih
          ∙ sym (ap reverse (ap (take n) (oldest_first e older) ∙ take-append-le n (reverse older) (e ∷ []) (omega (arith, le, long))))

  -- The first n entries, either way.
  pub upto-reverse : (n : ℕ) (es : List A) → upto n (reverse es) ≡ reverse (take n es)
  upto-reverse n es = upto-taken n (reverse es) ∙ ap (λ (l : List A). reverse (take n l)) (reverse-reverse es)

  slice_get-front : (xs ys : List A) (i : ℕ) → i < length xs → slice_get (xs ++ ys) i ≡ slice_get xs i
  slice_get-front [] ys i h = absurd (omega (arith, h))
  slice_get-front (x ∷ xs) ys zero h = refl
  slice_get-front (x ∷ xs) ys (suc i) h = slice_get-front xs ys i (omega (arith, h))

  pub slice_get-after : (xs : List A) (y : A) → slice_get (xs ++ y ∷ []) (length xs) ≡ Some y
  slice_get-after [] y = refl
  slice_get-after (x ∷ xs) y = slice_get-after xs y

  -- The entry of version v is the v-th, counted from 1.
  pub entry_at-taken : (i : ℕ) (log : List A) → entry_at (suc i) log ≡ slice_get (reverse log) i
  entry_at-taken i [] = refl
  entry_at-taken i (e ∷ older) = by (entry_at-taken i older) (length (e ∷ older) == suc i) refl
    where
      long : length (reverse older) ≡ length older
      long = length-reverse older

      by : entry_at (suc i) older ≡ slice_get (reverse older) i → (b : Bool) → (length (e ∷ older) == suc i) ≡ b → cond b (Some e) (entry_at (suc i) older) ≡ slice_get (reverse (e ∷ older)) i
      by ih true t =
          let is = eqb-true (length (e ∷ older)) (suc i) t in
          let there : length (reverse older) ≡ i = omega (arith, is, long) in
          sym (ap (λ (l : List A). slice_get l i) (oldest_first e older) ∙ ap (slice_get (reverse older ++ e ∷ [])) (sym there) ∙ slice_get-after (reverse older) e)
      by ih false t = either (nat_lt i (length older)) refl
        where
          either : (c : Bool) → nat_lt i (length older) ≡ c → entry_at (suc i) older ≡ slice_get (reverse (e ∷ older)) i
          either true s =
              let lt = ltb-true i (length older) s in
              ih ∙ sym (ap (λ (l : List A). slice_get l i) (oldest_first e older) ∙ slice_get-front (reverse older) (e ∷ []) i (omega (arith, lt, long)))
          either false s =
              let le = ltb-false i (length older) s in
              let ne = eqb-false (length (e ∷ older)) (suc i) t in
              let whole = length-reverse (e ∷ older) in
              ih
              ∙ slice_get_past (reverse older) i (omega (arith, le, long))
              ∙ sym (slice_get_past (reverse (e ∷ older)) i (omega (arith, le, ne, whole)))

  -- The entry of version v, either way.
  pub entry_at-reverse : (i : ℕ) (es : List A) → entry_at (suc i) (reverse es) ≡ slice_get es i
  entry_at-reverse i es = entry_at-taken i (reverse es) ∙ ap (λ (l : List A). slice_get l i) (reverse-reverse es)
