-- The list of the Jobs that may go: it is in order, and has just these Jobs.
use Rattle.std.proofs.Common.{◌≡◌, ◌⊎◌, inl, inr, ℕ, suc, ◌+◌, ◌<◌, Bool, true, false, cond, nat_lt, List, [], ◌∷◌, Option, Some, None, is_some, refl, sym, ap, ◌∙◌, subst, arith, true≢false, ltb-true, lt-ltb, ne_eqb}
use Rattle.std.specs.BTreeMap.{insert_entry}
use Rattle.std.specs.Cmp.{IsTotalOrder}
use Rattle.std.specs.List.{AllByRecursion as Each, Contains}
use Rattle.std.specs.List.Sorted.{IsStrictlySortedBy}
use Rattle.std.specs.Map.{keys_of, lookup}
use Rattle.std.specs.Ordering.{match_ordering, nat_cmp, ordering_reverse}
use Rattle.std.specs.declared.cmp.Ordering.{Ordering}
use Rattle.std.specs.declared.cmp.Ordering.TheVariants.{Less, Equal, Greater}
use Rattle.std.proofs.lemmas.Cmp.{nat_cmp_total, on_total, then_total}
use Rattle.jc_log.specs.Range.{end_of_moments}
use Rattle.jc_types.specs.declared.numbers.Uid.{Uid}
use Rattle.jc_types.specs.declared.objects.Entry.{Entry}
use Rattle.jc_types.specs.declared.objects.Entry.TheVariants.{JobPut, JobGone, PodPut, PodGone}
use Rattle.jc_types.specs.declared.objects.Job.{Job}
use Rattle.jc_types.specs.declared.objects.KeyNames.{KeyNames as Key}
use Rattle.jc_types.specs.Keys.{same_key, same_uid}
use Rattle.jc_types.proofs.KeyFacts.{same_key-either_way, same_key-eq, same_key-itself, same_uid-either_way}
use Rattle.jc_types.proofs.ListFacts.{Each-both, Each-weaker}
use Rattle.jc_log.specs.Log.{RowsRise, job_in, jobs_in}
use Rattle.jc_log.specs.Tables.{at, puts}
use Rattle.jc_log.proofs.ObjectFacts.{Apart-jobs_in, jobs_in-at}
use Rattle.jc_log.proofs.TableFacts.{Apart, Each-takes}
use Rattle.jc_log.proofs.WriteFacts.{job_in-key}
use Rattle.jc_queue.specs.Delayed.{key_order}
use Rattle.jc_queue.proofs.KeyOrder.{both_equal, key_total, number_is}
use Rattle.jc_queue.proofs.KeySets.{key_is}
use Rattle.jc_reap.specs.declared.expiries.Expiry.{Expiry}
use Rattle.jc_reap.specs.Expiries.{MayGo, after_end, ended_at, expired, expires_at, expiry_order, with_expiry}

-- ---- the order

expiry_total : IsTotalOrder expiry_order
expiry_total = then_total (on_total (λ (e : Expiry). e.moment) nat_cmp_total) (on_total (λ (e : Expiry). e.key) key_total)

expiry_is : (a b : Expiry) → expiry_order a b ≡ Equal → a ≡ b
expiry_is a b e =
    let both = both_equal (nat_cmp a.moment b.moment) (key_order a.key b.key) e in
    λ i. record { moment = number_is a.moment b.moment both.0 i; key = key_is a.key b.key both.1 i }

turned : (a b : Expiry) → expiry_order a b ≡ Greater → expiry_order b a ≡ Less
turned a b e = expiry_total.antisymm b a ∙ ap ordering_reverse e

-- ---- one row more

abbrev pub Row : Type 0
Row = Expiry × Uid

abbrev inserted : List Row → Row → List Row
inserted rows row = insert_entry expiry_order rows row.0 row.1

-- The row is one of them.
abbrev pub Among : Row → List Row → Type 0
Among row [] = ⊥
Among row (first ∷ rows) = (first ≡ row) ⊎ Among row rows

-- Where one more row is put, by its order to the first.
placed : (P : List Row → Type 0) (first : Row) (rows : List Row) (row : Row) → (o : Ordering)
    → expiry_order row.0 first.0 ≡ o
    → (expiry_order row.0 first.0 ≡ Less → P (row ∷ first ∷ rows))
    → (row.0 ≡ first.0 → P (row ∷ rows))
    → (expiry_order row.0 first.0 ≡ Greater → P (first ∷ inserted rows row))
    → P (match_ordering o (row ∷ first ∷ rows) ((first.0, row.1) ∷ rows) (first ∷ inserted rows row))
placed P first rows row Less o less equal greater = less o
placed P first rows row Equal o less equal greater =
    let is = expiry_is row.0 first.0 o in subst (λ (e : Expiry). P ((e, row.1) ∷ rows)) is (equal is)
placed P first rows row Greater o less equal greater = greater o

-- What holds of it and of each holds of each then.
each-inserted : (P : Row → Type 0) (rows : List Row) (row : Row) → P row → Each P rows → Each P (inserted rows row)
each-inserted P [] row p all = (p, tt)
each-inserted P (first ∷ rows) row p all =
    let more = each-inserted P rows row p all.1 in
    placed (Each P) first rows row (expiry_order row.0 first.0) refl
    (λ o. (p, all)) (λ e. (p, all.1)) (λ o. (all.0, more))

among-inserted : (rows : List Row) (row : Row) → Among row (inserted rows row)
among-inserted [] row = inl refl
among-inserted (first ∷ rows) row =
    let more = among-inserted rows row in
    placed (Among row) first rows row (expiry_order row.0 first.0) refl (λ o. inl refl) (λ e. inl refl) (λ o. inr more)

-- Each that was there is there still, where none has its expiry.
among-kept : (q : Row) (rows : List Row) (row : Row) → ¬ (row.0 ≡ q.0) → Among q rows → Among q (inserted rows row)
among-kept q [] row other there = absurd there
among-kept q (first ∷ rows) row other there =
    let more : Among q rows → Among q (inserted rows row) = λ (h : Among q rows). among-kept q rows row other h in
    placed (Among q) first rows row (expiry_order row.0 first.0) refl (λ o. inr there) (λ e. same e there) (λ o. later there more)
  where
    same : row.0 ≡ first.0 → (first ≡ q) ⊎ Among q rows → (row ≡ q) ⊎ Among q rows
    same e (inl is) = absurd (other (e ∙ ap (λ (r : Row). r.0) is))
    same e (inr h) = inr h

    later : (first ≡ q) ⊎ Among q rows → (Among q rows → Among q (inserted rows row)) → (first ≡ q) ⊎ Among q (inserted rows row)
    later (inl is) more = inl is
    later (inr h) more = inr (more h)

-- The order stays.
less-each : (a b : Expiry) (rows : List Row) → expiry_order a b ≡ Less → Each (λ (y : Expiry). expiry_order b y ≡ Less) (keys_of rows) → Each (λ (y : Expiry). expiry_order a y ≡ Less) (keys_of rows)
less-each a b [] l h = tt
less-each a b (row ∷ rows) l h = (expiry_total.trans a b row.0 l h.0, less-each a b rows l h.1)

each-keys : (P : Expiry → Type 0) (rows : List Row) → Each (λ (row : Row). P row.0) rows → Each P (keys_of rows)
each-keys P [] h = tt
each-keys P (row ∷ rows) h = (h.0, each-keys P rows h.1)

each-rows : (P : Expiry → Type 0) (rows : List Row) → Each P (keys_of rows) → Each (λ (row : Row). P row.0) rows
each-rows P [] h = tt
each-rows P (row ∷ rows) h = (h.0, each-rows P rows h.1)

sorted-inserted : (rows : List Row) (row : Row) → IsStrictlySortedBy expiry_order (keys_of rows) → IsStrictlySortedBy expiry_order (keys_of (inserted rows row))
unfolding IsStrictlySortedBy
sorted-inserted [] row s = (tt, tt)
sorted-inserted (first ∷ rows) row s =
    let more = sorted-inserted rows row s.1 in
    let P : Expiry → Type 0 = λ y. expiry_order first.0 y ≡ Less in
    placed (λ (all : List Row). IsStrictlySortedBy expiry_order (keys_of all)) first rows row (expiry_order row.0 first.0) refl
    (λ o. ((o, less-each row.0 first.0 rows o s.0), s))
    (λ e. (subst (λ (a : Expiry). Each (λ (y : Expiry). expiry_order a y ≡ Less) (keys_of rows)) (sym e) s.0, s.1))
    (λ o. (each-keys P (inserted rows row) (each-inserted (λ (r : Row). P r.0) rows row (turned row.0 first.0 o) (each-rows P rows s.0)), more))

-- ---- rows that are apart

-- No two of them pass the test.
abbrev pub ApartBy : {A : Type 0} → (A → A → Bool) → List A → Type 0
ApartBy test [] = Unit {0}
ApartBy test (x ∷ xs) = Each (λ y. test x y ≡ false) xs × ApartBy test xs

apart-inserted : (test : Row → Row → Bool) → ((a b : Row) → test a b ≡ test b a) → (rows : List Row) (row : Row)
    → Each (λ (r : Row). test row r ≡ false) rows → ApartBy test rows → ApartBy test (inserted rows row)
apart-inserted test turns [] row other apart = (tt, tt)
apart-inserted test turns (first ∷ rows) row other apart =
    let more = apart-inserted test turns rows row other.1 apart.1 in
    placed (ApartBy test) first rows row (expiry_order row.0 first.0) refl
    (λ o. (other, apart))
    (λ e. (other.1, apart.1))
    (λ o. (each-inserted (λ (r : Row). test first r ≡ false) rows row (turns first row ∙ other.0) apart.0, more))

-- ---- the Jobs that may go

module _ (ttl : Uid → Option ℕ) where
  -- The row of a Job that may go at the moment.
  abbrev pub row_of : ℕ → Job → Row
  row_of moment job = (record { moment = moment; key = job.key }, job.uid)

  abbrev pub Goes : Job → ℕ → Type 0
  Goes job moment = expires_at job (ttl job.uid) ≡ Some moment

  -- What holds of each row of a Job that may go.
  each-expired : (P : Row → Type 0) (jobs : List (Key × Job)) → Each (λ (row : Key × Job). (moment : ℕ) → Goes row.1 moment → P (row_of moment row.1)) jobs → Each P (expired ttl jobs)
  each-expired P [] all = tt
  each-expired P (row ∷ jobs) all = by (expires_at row.1 (ttl row.1.uid)) refl (each-expired P jobs all.1)
    where
      by : (o : Option ℕ) → expires_at row.1 (ttl row.1.uid) ≡ o → Each P (expired ttl jobs) → Each P (with_expiry o row.1 (expired ttl jobs))
      by None o rest = rest
      by (Some moment) o rest = each-inserted P (expired ttl jobs) (row_of moment row.1) (all.0 moment o) rest

  pub sorted-expired : (jobs : List (Key × Job)) → IsStrictlySortedBy expiry_order (keys_of (expired ttl jobs))
  unfolding IsStrictlySortedBy
  sorted-expired [] = tt
  sorted-expired (row ∷ jobs) = by (expires_at row.1 (ttl row.1.uid)) (sorted-expired jobs)
    where
      by : (o : Option ℕ) → IsStrictlySortedBy expiry_order (keys_of (expired ttl jobs)) → IsStrictlySortedBy expiry_order (keys_of (with_expiry o row.1 (expired ttl jobs)))
      by None rest = rest
      by (Some moment) rest = sorted-inserted (expired ttl jobs) (row_of moment row.1) rest

  -- Rows whose Jobs are apart are apart.
  apart-expired : (test : Row → Row → Bool) (alike : Job → Job → Bool) → ((a b : Row) → test a b ≡ test b a)
      → ((m n : ℕ) (a b : Job) → test (row_of m a) (row_of n b) ≡ alike a b)
      → (jobs : List (Key × Job)) → ApartBy (λ (a b : Key × Job). alike a.1 b.1) jobs → ApartBy test (expired ttl jobs)
  apart-expired test alike turns is [] apart = tt
  apart-expired test alike turns is (row ∷ jobs) apart =
      by (expires_at row.1 (ttl row.1.uid)) (apart-expired test alike turns is jobs apart.1)
    where
      by : (o : Option ℕ) → ApartBy test (expired ttl jobs) → ApartBy test (with_expiry o row.1 (expired ttl jobs))
      by None rest = rest
      by (Some moment) rest =
          apart-inserted test turns (expired ttl jobs) (row_of moment row.1)
          (each-expired (λ (r : Row). test (row_of moment row.1) r ≡ false) jobs
          (Each-weaker (λ (other : Key × Job). alike row.1 other.1 ≡ false)
          (λ (other : Key × Job). (n : ℕ) → Goes other.1 n → test (row_of moment row.1) (row_of n other.1) ≡ false)
          (λ other h n goes. is moment n row.1 other.1 ∙ h) jobs apart.0)) rest

  -- Each that may go is among them, where the keys are apart.
  among-expired : (jobs : List (Key × Job)) → ApartBy (λ (a b : Key × Job). same_key a.1.key b.1.key) jobs
      → (k : Key) (job : Job) (moment : ℕ) → at same_key jobs k ≡ Some job → Goes job moment → Among (row_of moment job) (expired ttl jobs)
  among-expired [] apart k job moment there goes = absurd (true≢false (sym (ap is_some there)))
  among-expired (row ∷ jobs) apart k job moment there goes =
      by (same_key k row.0) there (λ (h : at same_key jobs k ≡ Some job). among-expired jobs apart.1 k job moment h goes)
    where
      some_is : (a b : Job) → Some a ≡ Some b → a ≡ b
      some_is a b e = ap (λ (o : Option Job). elim o [ None ↦ a | Some j ↦ j ]) e

      found : (rows : List (Key × Job)) → at same_key rows k ≡ Some job → Each (λ (other : Key × Job). same_key row.1.key other.1.key ≡ false) rows → same_key row.1.key job.key ≡ false
      found [] there others = absurd (true≢false (sym (ap is_some there)))
      found (first ∷ rows) there others = at_first (same_key k first.0) there (λ (h : at same_key rows k ≡ Some job). found rows h others.1)
        where
          at_first : (b : Bool) → cond b (Some first.1) (lookup (same_key k) rows) ≡ Some job → (lookup (same_key k) rows ≡ Some job → same_key row.1.key job.key ≡ false) → same_key row.1.key job.key ≡ false
          at_first true there rest = ap (λ (j : Job). same_key row.1.key j.key) (sym (some_is first.1 job there)) ∙ others.0
          at_first false there rest = rest there

      first : (o : Option ℕ) → o ≡ Some moment → Among (row_of moment row.1) (with_expiry o row.1 (expired ttl jobs))
      first None e = absurd (true≢false (sym (ap is_some e)))
      first (Some m) e =
          let is : m ≡ moment = ap (λ (o : Option ℕ). elim o [ None ↦ m | Some n ↦ n ]) e in
          subst (λ (n : ℕ). Among (row_of n row.1) (inserted (expired ttl jobs) (row_of m row.1))) is
          (among-inserted (expired ttl jobs) (row_of m row.1))

      later : (o : Option ℕ) → same_key row.1.key job.key ≡ false → Among (row_of moment job) (expired ttl jobs) → Among (row_of moment job) (with_expiry o row.1 (expired ttl jobs))
      later None other rest = rest
      later (Some m) other rest =
          among-kept (row_of moment job) (expired ttl jobs) (row_of m row.1)
          (λ e. true≢false (sym (ap (λ (x : Expiry). same_key row.1.key x.key) (sym e) ∙ same_key-itself row.1.key) ∙ other)) rest

      by : (b : Bool) → cond b (Some row.1) (lookup (same_key k) jobs) ≡ Some job → (lookup (same_key k) jobs ≡ Some job → Among (row_of moment job) (expired ttl jobs)) → Among (row_of moment job) (expired ttl (row ∷ jobs))
      by true there rest =
          let is = some_is row.1 job there in
          subst (λ (j : Job). Among (row_of moment j) (expired ttl (row ∷ jobs))) is
          (first (expires_at row.1 (ttl row.1.uid)) (ap (λ (j : Job). expires_at j (ttl j.uid)) is ∙ goes))
      by false there rest = later (expires_at row.1 (ttl row.1.uid)) (found jobs there apart.0) (rest there)

-- ---- the Jobs of a log

-- Each row of the table of Jobs has its Job's key.
keyed : (log : List Entry) → Each (λ (row : Key × Job). row.0 ≡ row.1.key) (jobs_in log)
keyed [] = tt
keyed (JobPut job ∷ older) = put (jobs_in older) (keyed older)
  where
    put : (rows : List (Key × Job)) → Each (λ (row : Key × Job). row.0 ≡ row.1.key) rows → Each (λ (row : Key × Job). row.0 ≡ row.1.key) (puts same_key rows job.key job)
    put [] all = (refl, tt)
    put (row ∷ rows) all = by (same_key job.key row.0) refl (put rows all.1)
      where
        by : (b : Bool) → same_key job.key row.0 ≡ b → Each (λ (r : Key × Job). r.0 ≡ r.1.key) (puts same_key rows job.key job) → Each (λ (r : Key × Job). r.0 ≡ r.1.key) (cond b ((row.0, job) ∷ rows) (row ∷ puts same_key rows job.key job))
        by true same rest = (sym (same_key-eq job.key row.0 same), all.1)
        by false same rest = (all.0, rest)
keyed (JobGone job ∷ older) = Each-takes same_key same_key-eq same_key-itself (λ (row : Key × Job). row.0 ≡ row.1.key) job.key (jobs_in older) (keyed older)
keyed (PodPut pod ∷ older) = keyed older
keyed (PodGone pod ∷ older) = keyed older

-- The keys of the Jobs are apart.
pub jobs-apart : (log : List Entry) → ApartBy (λ (a b : Key × Job). same_key a.1.key b.1.key) (jobs_in log)
jobs-apart log = by (jobs_in log) (keyed log) (Apart-jobs_in log)
  where
    others : (row : Key × Job) (rows : List (Key × Job)) → row.0 ≡ row.1.key
        → Each (λ (r : Key × Job). r.0 ≡ r.1.key) rows → Each (λ (r : Key × Job). same_key row.0 r.0 ≡ false) rows
        → Each (λ (r : Key × Job). same_key row.1.key r.1.key ≡ false) rows
    others row [] own all apart = tt
    others row (r ∷ rows) own all apart =
        (ap (λ (k : Key). same_key k r.1.key) (sym own) ∙ ap (same_key row.0) (sym all.0) ∙ apart.0, others row rows own all.1 apart.1)

    by : (rows : List (Key × Job)) → Each (λ (r : Key × Job). r.0 ≡ r.1.key) rows → Apart same_key rows → ApartBy (λ (a b : Key × Job). same_key a.1.key b.1.key) rows
    by [] all apart = tt
    by (row ∷ rows) all apart = (others row rows all.0 all.1 apart.0, by rows all.1 apart.1)

-- Each row is the Job of its key.
pub rows-there : (log : List Entry) → Each (λ (row : Key × Job). job_in row.1.key log ≡ Some row.1) (jobs_in log)
rows-there log =
    Each-weaker (λ (row : Key × Job). (row.0 ≡ row.1.key) × (at same_key (jobs_in log) row.0 ≡ Some row.1))
    (λ (row : Key × Job). job_in row.1.key log ≡ Some row.1)
    (λ row h. ap (λ (k : Key). job_in k log) (sym h.0) ∙ sym (jobs_in-at row.0 log) ∙ h.1) (jobs_in log)
    (Each-both (λ (row : Key × Job). row.0 ≡ row.1.key) (λ (row : Key × Job). at same_key (jobs_in log) row.0 ≡ Some row.1) (jobs_in log)
    (keyed log) (found (jobs_in log) (Apart-jobs_in log)))
  where
    found : (rows : List (Key × Job)) → Apart same_key rows → Each (λ (row : Key × Job). at same_key rows row.0 ≡ Some row.1) rows
    found [] apart = tt
    found (row ∷ rows) apart = (
      ap (λ (b : Bool). cond b (Some row.1) (lookup (same_key row.0) rows)) (same_key-itself row.0),
      behind rows apart.0 (found rows apart.1),
    )
      where
        behind : (others : List (Key × Job)) → Each (λ (r : Key × Job). same_key row.0 r.0 ≡ false) others → Each (λ (r : Key × Job). at same_key rows r.0 ≡ Some r.1) others → Each (λ (r : Key × Job). at same_key (row ∷ rows) r.0 ≡ Some r.1) others
        behind [] apart all = tt
        behind (r ∷ others) apart all = (
          ap (λ (b : Bool). cond b (Some row.1) (lookup (same_key r.0) rows)) (same_key-either_way r.0 row.0 ∙ apart.0) ∙ all.0,
          behind others apart.1 all.1,
        )

-- ---- exactly the Jobs that may go

-- When a moment is the end and the TTL.
record Expires (ended ttl : Option ℕ) (moment : ℕ) : Type 0 where
  end : ℕ
  ended_is : ended ≡ Some end
  seconds : ℕ
  ttl_is : ttl ≡ Some seconds
  due : moment ≡ end + seconds
  within : moment < end_of_moments

expires : (ended ttl : Option ℕ) (moment : ℕ) → after_end ended ttl ≡ Some moment → Expires ended ttl moment
expires None ttl moment e = absurd (true≢false (sym (ap is_some e)))
expires (Some end) None moment e = absurd (true≢false (sym (ap is_some e)))
expires (Some end) (Some seconds) moment e = by (nat_lt (end + seconds) end_of_moments) refl e
  where
    by : (b : Bool) → nat_lt (end + seconds) end_of_moments ≡ b → cond b (Some (end + seconds)) None ≡ Some moment → Expires (Some end) (Some seconds) moment
    by true t e =
        let is : end + seconds ≡ moment = ap (λ (o : Option ℕ). elim o [ None ↦ end + seconds | Some n ↦ n ]) e in
        record {
          end = end;
          ended_is = refl;
          seconds = seconds;
          ttl_is = refl;
          due = sym is;
          within = subst (λ (n : ℕ). n < end_of_moments) is (ltb-true (end + seconds) end_of_moments t);
        }
    by false t e = absurd (true≢false (sym (ap is_some e)))

expires-at : (end seconds moment : ℕ) → moment ≡ end + seconds → moment < end_of_moments → after_end (Some end) (Some seconds) ≡ Some moment
expires-at end seconds moment is within =
    ap (λ (b : Bool). cond b (Some (end + seconds)) None) (lt-ltb (end + seconds) end_of_moments (subst (λ (n : ℕ). n < end_of_moments) is within))
    ∙ ap (λ (n : ℕ). Some n) (sym is)

pub each-may_go : (ttl : Uid → Option ℕ) (log : List Entry) → Each (MayGo ttl log) (expired ttl (jobs_in log))
each-may_go ttl log =
    each-expired ttl (MayGo ttl log) (jobs_in log)
    (Each-weaker (λ (row : Key × Job). job_in row.1.key log ≡ Some row.1) (λ (row : Key × Job). (moment : ℕ) → Goes ttl row.1 moment → MayGo ttl log (row_of ttl moment row.1))
    (λ row there moment goes. let x = expires (ended_at row.1.status.conditions) (ttl row.1.uid) moment goes in record {
      job = row.1;
      there = there;
      uid = refl;
      end = x.end;
      ended = x.ended_is;
      seconds = x.seconds;
      given = x.ttl_is;
      due = x.due;
      within = x.within;
    }) (jobs_in log) (rows-there log))

pub among-all : (ttl : Uid → Option ℕ) (log : List Entry) (row : Row) → MayGo ttl log row → Among row (expired ttl (jobs_in log))
among-all ttl log row may =
    let key : may.job.key ≡ row.0.key = job_in-key row.0.key log may.job may.there in
    let goes : Goes ttl may.job row.0.moment =
    ap (λ (o : Option ℕ). after_end o (ttl may.job.uid)) may.ended
    ∙ ap (after_end (Some may.end)) (ap ttl may.uid ∙ may.given)
    ∙ expires-at may.end may.seconds row.0.moment may.due may.within in
    let among = among-expired ttl (jobs_in log) (jobs-apart log) row.0.key may.job row.0.moment (jobs_in-at row.0.key log ∙ may.there) goes in
    subst (λ (r : Row). Among r (expired ttl (jobs_in log))) (λ i. (record { moment = row.0.moment; key = key i }, may.uid i)) among

contains : (row : Row) (rows : List Row) → Among row rows → Contains rows row
contains row [] h = absurd h
contains row (first ∷ rows) (inl is) = (0, omega arith, is)
contains row (first ∷ rows) (inr h) = let more = contains row rows h in let below = more.1 in (suc more.0, omega (arith, below), more.2)

pub all-expired : (ttl : Uid → Option ℕ) (log : List Entry) (row : Row) → MayGo ttl log row → Contains (expired ttl (jobs_in log)) row
all-expired ttl log row may = contains row (expired ttl (jobs_in log)) (among-all ttl log row may)

-- ---- the rows are apart

pub rows-apart : (ttl : Uid → Option ℕ) (log : List Entry) → ApartBy (λ (a b : Row). same_key a.0.key b.0.key) (expired ttl (jobs_in log))
rows-apart ttl log =
    apart-expired ttl (λ (a b : Row). same_key a.0.key b.0.key) (λ (a b : Job). same_key a.key b.key)
    (λ a b. same_key-either_way a.0.key b.0.key) (λ m n a b. refl) (jobs_in log) (jobs-apart log)

pub uids-apart : (ttl : Uid → Option ℕ) (jobs : List (Key × Job)) → RowsRise 0 jobs → ApartBy (λ (a b : Row). same_uid a.1 b.1) (expired ttl jobs)
uids-apart ttl jobs rise =
    apart-expired ttl (λ (a b : Row). same_uid a.1 b.1) (λ (a b : Job). same_uid a.uid b.uid)
    (λ a b. same_uid-either_way a.1 b.1) (λ m n a b. refl) jobs (by 0 jobs rise)
  where
    above : (low : ℕ) (u : Uid) (rows : List (Key × Job)) → u.0 < low → RowsRise low rows → Each (λ (r : Key × Job). same_uid u r.1.uid ≡ false) rows
    above low u [] less rise = tt
    above low u (row ∷ rows) less rise =
        let first = rise.0 in
        (ne_eqb u.0 row.1.uid.0 (λ e. omega (arith, e, less, first)), above (row.1.uid.0 + 1) u rows (omega (arith, less, first)) rise.1)

    by : (low : ℕ) (rows : List (Key × Job)) → RowsRise low rows → ApartBy (λ (a b : Key × Job). same_uid a.1.uid b.1.uid) rows
    by low [] rise = tt
    by low (row ∷ rows) rise = (above (row.1.uid.0 + 1) row.1.uid rows (omega arith) rise.1, by (row.1.uid.0 + 1) rows rise.1)
