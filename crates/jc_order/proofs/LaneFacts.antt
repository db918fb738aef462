-- The places of a lane's commands, and which commands were played.
use Rattle.std.proofs.Common.{◌≡◌, ℕ, zero, suc, ◌+◌, ◌<◌, ◌≤◌, ◌==◌, nat_lt, Bool, true, false, cond, ◌||◌, List, [], ◌∷◌, length, filter, slice_get, Option, Some, None, refl, sym, ap, ◌∙◌, subst, arith, ltb-true, ltb-false}
use Rattle.std.proofs.Common.{eqb-true, eq-eqb, true≢false}
use Rattle.std.proofs.lemmas.Bool.{eqb-false}
use Rattle.std.specs.List.{list_any}
use Rattle.jc_types.specs.declared.actions.Command.{Command}
use Rattle.jc_types.specs.declared.runs.Event.{Event}
use Rattle.jc_types.specs.declared.runs.Event.TheVariants as event
use Rattle.jc_types.specs.declared.runs.Past.{Past}
use Rattle.jc_history.specs.Legal.{AreUsed, ComesNext, InLanes, is_of_lane, lane_places, next_command, places_from, lane_count}
use Rattle.jc_history.specs.Play.{is_command}
use Rattle.std.proofs.lemmas.Option.{none-some, same_Some as some-same}

-- ---- the places of a lane

-- A place of the lane: a command of the lane stands there.
pub record IsPlace (lane from : ℕ) (commands : List Command) (n : ℕ) : Type 0 where
  pub at : ℕ
  pub command : Command
  pub stands : slice_get commands at ≡ Some command
  pub of_lane : command.lane ≡ lane
  pub is : n ≡ from + at

-- The r-th place of the lane.
abbrev pub rank-is : ℕ → ℕ → List Command → ℕ → ℕ → Type 0
rank-is lane from commands r n = slice_get (places_from lane from commands) r ≡ Some n

-- Where a rank has a place, a command of the lane stands there.
pub place-of : (lane from : ℕ) (commands : List Command) (r n : ℕ) → rank-is lane from commands r n → IsPlace lane from commands n
place-of lane from [] zero n e = absurd (none-some n e)
place-of lane from [] (suc r) n e = absurd (none-some n e)
place-of lane from (command ∷ commands) r n e = by (command.lane == lane) refl r e (λ r e. later (place-of lane (from + 1) commands r n e))
  where
    later : IsPlace lane (from + 1) commands n → IsPlace lane from (command ∷ commands) n
    later h = record { at = suc h.at; command = h.command; stands = h.stands; of_lane = h.of_lane; is = let s = h.is in omega (arith, s) }

    by : (b : Bool) → (command.lane == lane) ≡ b → (r : ℕ) → slice_get (cond b (from ∷ places_from lane (from + 1) commands) (places_from lane (from + 1) commands)) r ≡ Some n
        → ((r : ℕ) → rank-is lane (from + 1) commands r n → IsPlace lane from (command ∷ commands) n) → IsPlace lane from (command ∷ commands) n
    by true s zero e more = record { at = 0; command = command; stands = refl; of_lane = eqb-true command.lane lane s; is = let same = some-same from n e in omega (arith, same) }
    by true s (suc r) e more = more r e
    by false s r e more = more r e

-- Each command has its rank.
pub record HasRank (lane from : ℕ) (commands : List Command) (n : ℕ) : Type 0 where
  pub rank : ℕ
  pub is : rank-is lane from commands rank n

pub rank-of : (from : ℕ) (commands : List Command) (i : ℕ) (command : Command) → slice_get commands i ≡ Some command → HasRank command.lane from commands (from + i)
rank-of from [] zero command e = absurd (none-some command e)
rank-of from [] (suc i) command e = absurd (none-some command e)
rank-of from (c ∷ commands) zero command e = record {
  rank = 0;
  is = ap (λ b. slice_get (cond b (from ∷ places_from command.lane (from + 1) commands) (places_from command.lane (from + 1) commands)) 0) (eq-eqb c.lane command.lane (ap (λ (c : Command). c.lane) (some-same c command e)))
      ∙ (let same : from ≡ from + 0 = omega arith in ap (λ n. Some n) same);
}
rank-of from (c ∷ commands) (suc i) command e = by (c.lane == command.lane) refl (rank-of (from + 1) commands i command e)
  where
    further : from + 1 + i ≡ from + suc i
    further = omega arith

    by : (b : Bool) → (c.lane == command.lane) ≡ b → HasRank command.lane (from + 1) commands (from + 1 + i) → HasRank command.lane from (c ∷ commands) (from + suc i)
    by true s h = record { rank = suc h.rank; is = ap (λ b. slice_get (cond b (from ∷ places_from command.lane (from + 1) commands) (places_from command.lane (from + 1) commands)) (suc h.rank)) s ∙ h.is ∙ ap (λ n. Some n) further }
    by false s h = record { rank = h.rank; is = ap (λ b. slice_get (cond b (from ∷ places_from command.lane (from + 1) commands) (places_from command.lane (from + 1) commands)) h.rank) s ∙ h.is ∙ ap (λ n. Some n) further }

-- What comes before in the lane has a lesser place.
pub record Before (lane from : ℕ) (commands : List Command) (a n : ℕ) : Type 0 where
  pub place : ℕ
  pub is : rank-is lane from commands a place
  pub less : place < n

pub ranks-rise : (lane from : ℕ) (commands : List Command) (a b n : ℕ) → rank-is lane from commands b n → a < b → Before lane from commands a n
ranks-rise lane from [] a zero n e lt = absurd (none-some n e)
ranks-rise lane from [] a (suc b) n e lt = absurd (none-some n e)
ranks-rise lane from (c ∷ commands) a b n e lt = by (c.lane == lane) refl a b e lt (λ a b e lt. ranks-rise lane (from + 1) commands a b n e lt)
  where
    by : (t : Bool) → (c.lane == lane) ≡ t → (a b : ℕ) → slice_get (cond t (from ∷ places_from lane (from + 1) commands) (places_from lane (from + 1) commands)) b ≡ Some n → a < b
        → ((a b : ℕ) → rank-is lane (from + 1) commands b n → a < b → Before lane (from + 1) commands a n) → Before lane from (c ∷ commands) a n
    by true s a zero e lt more = absurd (omega (arith, lt))
    by true s zero (suc b) e lt more = record {
      place = from;
      is = ap (λ t. slice_get (cond t (from ∷ places_from lane (from + 1) commands) (places_from lane (from + 1) commands)) 0) s;
      less = let h = (place-of lane (from + 1) commands b n e).is in omega (arith, h);
    }
    by true s (suc a) (suc b) e lt more = record {
      place = (more a b e (omega (arith, lt))).place;
      is = ap (λ t. slice_get (cond t (from ∷ places_from lane (from + 1) commands) (places_from lane (from + 1) commands)) (suc a)) s ∙ (more a b e (omega (arith, lt))).is;
      less = (more a b e (omega (arith, lt))).less;
    }
    by false s a b e lt more = record {
      place = (more a b e lt).place;
      is = ap (λ t. slice_get (cond t (from ∷ places_from lane (from + 1) commands) (places_from lane (from + 1) commands)) a) s ∙ (more a b e lt).is;
      less = (more a b e lt).less;
    }

-- A place has one rank.
ranks-apart : (lane from : ℕ) (commands : List Command) (a b n : ℕ) → rank-is lane from commands a n → rank-is lane from commands b n → a ≡ b
ranks-apart lane from commands a b n e f = by (nat_lt a b) refl (nat_lt b a) refl
  where
    clash : (x y : ℕ) → rank-is lane from commands x n → rank-is lane from commands y n → x < y → ⊥
    clash x y e f lt =
        let h = ranks-rise lane from commands x y n f lt in
        let same : n ≡ h.place = some-same n h.place (sym e ∙ h.is) in
        let less = h.less in
        omega (arith, same, less)

    by : (s : Bool) → nat_lt a b ≡ s → (t : Bool) → nat_lt b a ≡ t → a ≡ b
    by true s t u = absurd (clash a b e f (ltb-true a b s))
    by false s true u = absurd (clash b a f e (ltb-true b a u))
    by false s false u = let x = ltb-false a b s in let y = ltb-false b a u in omega (arith, x, y)

-- ---- what was played

same-lane : (lane other : ℕ) (commands : List Command) (n : ℕ) → IsPlace lane 0 commands n → IsPlace other 0 commands n → lane ≡ other
same-lane lane other commands n h g =
    let same : h.at ≡ g.at = let s = h.is in let t = g.is in omega (arith, s, t) in
    sym h.of_lane ∙ ap (λ (c : Command). c.lane) (some-same h.command g.command (sym h.stands ∙ ap (slice_get commands) same ∙ g.stands)) ∙ g.of_lane

-- The command of a place was played where its lane has played more commands than its rank.
pub played-is : (commands : List Command) (pasts : List Past) → InLanes commands pasts → (lane r n : ℕ) → rank-is lane 0 commands r n → list_any (is_command n) pasts ≡ nat_lt r (lane_count lane pasts)
played-is commands [] h lane r n e = none (nat_lt r 0) refl
  where
    none : (b : Bool) → nat_lt r 0 ≡ b → false ≡ b
    none true s = let lt = ltb-true r 0 s in absurd (omega (arith, lt))
    none false s = refl
played-is commands (past ∷ before) h lane r n e = by past.event h.0 (played-is commands before h.1 lane r n e)
  where
    more : (b : Bool) → nat_lt r (lane_count lane before) ≡ b → (r ≡ lane_count lane before → ⊥) → nat_lt r (lane_count lane before) ≡ nat_lt r (suc (lane_count lane before))
    more b s other = both b s (nat_lt r (suc (lane_count lane before))) refl
      where
        both : (b : Bool) → nat_lt r (lane_count lane before) ≡ b → (c : Bool) → nat_lt r (suc (lane_count lane before)) ≡ c → nat_lt r (lane_count lane before) ≡ nat_lt r (suc (lane_count lane before))
        both true s true t = s ∙ sym t
        both false s false t = s ∙ sym t
        both true s false t = let lt = ltb-true r (lane_count lane before) s in let le = ltb-false r (suc (lane_count lane before)) t in absurd (omega (arith, lt, le))
        both false s true t = let le = ltb-false r (lane_count lane before) s in let lt = ltb-true r (suc (lane_count lane before)) t in absurd (other (omega (arith, lt, le)))

    just : true ≡ nat_lt (lane_count lane before) (suc (lane_count lane before))
    just = sure (nat_lt (lane_count lane before) (suc (lane_count lane before))) refl
      where
        sure : (b : Bool) → nat_lt (lane_count lane before) (suc (lane_count lane before)) ≡ b → true ≡ b
        sure true s = refl
        sure false s = let le = ltb-false (lane_count lane before) (suc (lane_count lane before)) s in absurd (omega (arith, le))

    -- A command of its lane.
    command : (other m : ℕ) → rank-is other 0 commands (lane_count other before) m → (hit mine : Bool) → (m == n) ≡ hit → (other == lane) ≡ mine → list_any (is_command n) before ≡ nat_lt r (lane_count lane before)
        → (hit || list_any (is_command n) before) ≡ nat_lt r (length (cond mine (past ∷ filter (is_of_lane lane) before) (filter (is_of_lane lane) before)))
    command other m f true true s t ih =
        let same : other ≡ lane = eqb-true other lane t in
        let there : rank-is lane 0 commands (lane_count lane before) n = subst (λ m. rank-is lane 0 commands (lane_count lane before) m) (eqb-true m n s) (subst (λ l. rank-is l 0 commands (lane_count l before) m) same f) in
        just ∙ ap (λ x. nat_lt x (suc (lane_count lane before))) (sym (ranks-apart lane 0 commands r (lane_count lane before) n e there))
    command other m f true false s t ih =
        let there : rank-is other 0 commands (lane_count other before) n = subst (λ m. rank-is other 0 commands (lane_count other before) m) (eqb-true m n s) f in
        absurd (eqb-false other lane t (same-lane other lane commands n (place-of other 0 commands (lane_count other before) n there) (place-of lane 0 commands r n e)))
    command other m f false true s t ih =
        ih ∙ more (nat_lt r (lane_count lane before)) refl
        (λ same. eqb-false m n s (some-same m n
        (sym f ∙ (λ i. slice_get (places_from (eqb-true other lane t i) 0 commands)
        (lane_count (eqb-true other lane t i) before)) ∙ ap (slice_get (places_from lane 0 commands)) (sym same) ∙ e)))
    command other m f false false s t ih = ih

    by : (x : Event) → ComesNext commands before x → list_any (is_command n) before ≡ nat_lt r (lane_count lane before)
        → (is_command n (record past { event = x }) || list_any (is_command n) before) ≡ nat_lt r (length (cond (is_of_lane lane (record past { event = x })) (past ∷ filter (is_of_lane lane) before) (filter (is_of_lane lane) before)))
    by (event.Command other m) f ih = command other m f (m == n) (other == lane) refl refl ih
    by (event.System system) f ih = ih

-- ---- the next command of a lane

-- The commands at the places below this one were played.
abbrev pub AllPlayed : ℕ → List Past → Type 0
AllPlayed place pasts = (n : ℕ) → n < place → list_any (is_command n) pasts ≡ true

-- The first command that was not played is its lane's next one.
pub comes-next : (commands : List Command) (pasts : List Past) → InLanes commands pasts → (place : ℕ) (command : Command) → slice_get commands place ≡ Some command
    → AllPlayed place pasts → list_any (is_command place) pasts ≡ false → next_command commands command.lane pasts ≡ Some place
comes-next commands pasts h place command e all not-yet = by (nat_lt (lane_count command.lane pasts) ranked.rank) refl
  where
    ranked : HasRank command.lane 0 commands (0 + place)
    ranked = rank-of 0 commands place command e

    zero-plus : 0 + place ≡ place
    zero-plus = omega arith

    is : rank-is command.lane 0 commands ranked.rank place
    is = ranked.is ∙ ap (λ n. Some n) zero-plus

    le : lane_count command.lane pasts ≤ ranked.rank
    le = ltb-false ranked.rank (lane_count command.lane pasts) (sym (played-is commands pasts h command.lane ranked.rank place is) ∙ not-yet)

    itself : (n : ℕ) → nat_lt n n ≡ true → ⊥
    itself n s = let lt = ltb-true n n s in omega (arith, lt)

    by : (b : Bool) → nat_lt (lane_count command.lane pasts) ranked.rank ≡ b → next_command commands command.lane pasts ≡ Some place
    by true s =
        let less = ltb-true (lane_count command.lane pasts) ranked.rank s in
        let before = ranks-rise command.lane 0 commands (lane_count command.lane pasts) ranked.rank place is less in
        absurd (itself (lane_count command.lane pasts) (sym (played-is commands pasts h command.lane (lane_count command.lane pasts) before.place before.is) ∙ all before.place before.less))
    by false s = let ge = ltb-false (lane_count command.lane pasts) ranked.rank s in let same : lane_count command.lane pasts ≡ ranked.rank = omega (arith, ge, le) in ap (slice_get (lane_places command.lane commands)) same ∙ is

-- Where all commands were played the lanes are used up.
pub all-used : (commands : List Command) (pasts : List Past) → InLanes commands pasts → ((n : ℕ) (command : Command) → slice_get commands n ≡ Some command → list_any (is_command n) pasts ≡ true) → AreUsed commands pasts
all-used commands pasts h all lane = by (next_command commands lane pasts) refl
  where
    itself : (n : ℕ) → nat_lt n n ≡ true → ⊥
    itself n s = let lt = ltb-true n n s in omega (arith, lt)

    by : (o : Option ℕ) → next_command commands lane pasts ≡ o → o ≡ None
    by None e = refl
    by (Some n) e =
        let there = place-of lane 0 commands (lane_count lane pasts) n e in
        let same : there.at ≡ n = let s = there.is in omega (arith, s) in
        absurd (itself (lane_count lane pasts) (sym (played-is commands pasts h lane (lane_count lane pasts) n e) ∙ all n there.command (ap (slice_get commands) (sym same) ∙ there.stands)))
