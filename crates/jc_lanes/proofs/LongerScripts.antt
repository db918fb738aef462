-- A legal history of a script is one of the script with a command more.
use Rattle.std.proofs.Common.{◌≡◌, ℕ, zero, suc, ◌+◌, ◌<◌, ◌≤◌, ◌==◌, Bool, true, false, cond, List, [], ◌∷◌, ◌++◌, length, map, filter, slice_get, Some, is_some, refl, sym, ap, ap₂, ◌∙◌, subst, arith, append-nil, eqb-true, true≢false}
use Rattle.std.specs.Option.{option_or, unwrap_or}
use Rattle.jc_types.specs.declared.actions.Command.{Command}
use Rattle.jc_types.specs.declared.actions.Script.{Script}
use Rattle.jc_types.specs.declared.runs.Event.{Event}
use Rattle.jc_types.specs.declared.runs.Event.TheVariants as event
use Rattle.jc_types.specs.declared.runs.Past.{Past}
use Rattle.jc_log.specs.Deeds.{act_of_command, act_of_event, deed}
use Rattle.jc_history.specs.Legal.{ComesNext, InLanes, is_of_lane, lane_count, lane_places, next_command, places_from}
use Rattle.jc_lanes.specs.LongerScripts.{longer, longer_place}
use Rattle.std.proofs.lemmas.Option.{slice_get_within as get_within}

-- ---- places

-- The new command's place, where it is of the lane.
abbrev place_if : Bool → ℕ → List ℕ
place_if true n = n ∷ []
place_if false n = []

places_more : (lane p : ℕ) (cs : List Command) (c : Command) → places_from lane p (cs ++ c ∷ []) ≡ places_from lane p cs ++ place_if (c.lane == lane) (p + length cs)
places_more lane p [] c = one (c.lane == lane)
  where
    one : (b : Bool) → cond b (p ∷ []) [] ≡ place_if b (p + 0)
    one true = let same : p ≡ p + 0 = omega arith in ap (λ n. n ∷ []) same
    one false = refl
places_more lane p (d ∷ cs) c = by (d.lane == lane) (places_more lane (p + 1) cs c ∙ ap (λ n. places_from lane (p + 1) cs ++ place_if (c.lane == lane) n) same)
  where
    same : p + 1 + length cs ≡ p + length (d ∷ cs)
    same = omega arith

    by : (b : Bool) → places_from lane (p + 1) (cs ++ c ∷ []) ≡ places_from lane (p + 1) cs ++ place_if (c.lane == lane) (p + length (d ∷ cs))
        → cond b (p ∷ places_from lane (p + 1) (cs ++ c ∷ [])) (places_from lane (p + 1) (cs ++ c ∷ [])) ≡ cond b (p ∷ places_from lane (p + 1) cs) (places_from lane (p + 1) cs) ++ place_if (c.lane == lane) (p + length (d ∷ cs))
    by true ih = ap (λ l. p ∷ l) ih
    by false ih = ih

-- What stands in a list stands there in a longer one.
get_more : {A : Type 0} (xs ys : List A) (i : ℕ) (x : A) → slice_get xs i ≡ Some x → slice_get (xs ++ ys) i ≡ Some x
get_more [] ys i x e = absurd (true≢false (sym (ap is_some e)))
get_more (y ∷ xs) ys zero x e = e
get_more (y ∷ xs) ys (suc i) x e = get_more xs ys i x e

get_end : {A : Type 0} (xs : List A) (i : ℕ) (x : A) → i ≤ length xs → slice_get (xs ++ x ∷ []) i ≡ option_or (slice_get xs i) (Some x)
get_end [] zero x le = refl
get_end [] (suc i) x le = absurd (omega (arith, le))
get_end (y ∷ xs) zero x le = refl
get_end (y ∷ xs) (suc i) x le = get_end xs i x (omega (arith, le))

module _ (commands : List Command) (command : Command) where
  abbrev more : List Command
  more = commands ++ command ∷ []

  stays : (lane n : ℕ) (before : List Past) → next_command commands lane before ≡ Some n → next_command more lane before ≡ Some n
  stays lane n before e =
      ap (λ l. slice_get l (lane_count lane before)) (places_more lane 0 commands command)
      ∙ get_more (lane_places lane commands) _ (lane_count lane before) n e

  still_next : (before : List Past) (e : Event) → ComesNext commands before e → ComesNext more before e
  still_next before (event.Command lane number) next = stays lane number before next
  still_next before (event.System system) next = tt

  pub still_in_lanes : (events : List Past) → InLanes commands events → InLanes more events
  still_in_lanes [] lanes = tt
  still_in_lanes (past ∷ before) lanes = (still_next before past.event lanes.0, still_in_lanes before lanes.1)

  -- ---- what the events do

  places_below : (lane p : ℕ) (cs : List Command) (k n : ℕ) → slice_get (places_from lane p cs) k ≡ Some n → n < p + length cs
  places_below lane p [] k n e = absurd (true≢false (sym (ap is_some e)))
  places_below lane p (c ∷ cs) k n e = by (λ k e. places_below lane (p + 1) cs k n e) (c.lane == lane) k e
    where
      by : ((k : ℕ) → slice_get (places_from lane (p + 1) cs) k ≡ Some n → n < p + 1 + length cs) → (b : Bool) (k : ℕ) → slice_get (cond b (p ∷ places_from lane (p + 1) cs) (places_from lane (p + 1) cs)) k ≡ Some n → n < p + length (c ∷ cs)
      by ih true zero e = let f = ap (λ o. unwrap_or o n) e in omega (arith, f)
      by ih true (suc k) e = let f = ih k e in omega (arith, f)
      by ih false k e = let f = ih k e in omega (arith, f)

  same_here : (n : ℕ) → n < length commands → slice_get more n ≡ slice_get commands n
  same_here n within = by commands n within
    where
      by : (cs : List Command) (n : ℕ) → n < length cs → slice_get (cs ++ command ∷ []) n ≡ slice_get cs n
      by [] n within = absurd (omega (arith, within))
      by (c ∷ cs) zero within = refl
      by (c ∷ cs) (suc n) within = by cs n (omega (arith, within))

  same_act : (before : List Past) (e : Event) → ComesNext commands before e → act_of_event more e ≡ act_of_event commands e
  same_act before (event.Command lane number) next = let below = places_below lane 0 commands (lane_count lane before) number next in ap act_of_command (same_here number (omega (arith, below)))
  same_act before (event.System system) next = refl

  -- ---- the new command's place

  fewer : (lane : ℕ) (events : List Past) → InLanes commands events → lane_count lane events ≤ length (lane_places lane commands)
  fewer lane [] lanes = omega arith
  fewer lane (past ∷ before) lanes = by past.event refl lanes.0 (fewer lane before lanes.1)
    where
      by : (e : Event) → past.event ≡ e → ComesNext commands before e → lane_count lane before ≤ length (lane_places lane commands) → lane_count lane (past ∷ before) ≤ length (lane_places lane commands)
      by (event.System system) is next rest = let other : is_of_lane lane past ≡ false = ap (λ e. is_of_lane lane (record past { event = e })) is in
          subst (λ b. length (cond b (past ∷ filter (is_of_lane lane) before) (filter (is_of_lane lane) before)) ≤ length (lane_places lane commands)) (sym other) rest
      by (event.Command other number) is next rest = decide (other == lane) refl
        where
          decide : (b : Bool) → (other == lane) ≡ b → lane_count lane (past ∷ before) ≤ length (lane_places lane commands)
          decide true same =
              let mine : is_of_lane lane past ≡ true = ap (λ e. is_of_lane lane (record past { event = e })) is ∙ same in
              let less : lane_count lane before < length (lane_places lane commands) = get_within (lane_places lane commands) (lane_count lane before) number
              (subst (λ l. next_command commands l before ≡ Some number) (eqb-true other lane same) next) in
              subst (λ b. length (cond b (past ∷ filter (is_of_lane lane) before) (filter (is_of_lane lane) before)) ≤ length (lane_places lane commands)) (sym mine) (omega (arith, less))
          decide false apart =
              let mine : is_of_lane lane past ≡ false = ap (λ e. is_of_lane lane (record past { event = e })) is ∙ apart in
              subst (λ b. length (cond b (past ∷ filter (is_of_lane lane) before) (filter (is_of_lane lane) before)) ≤ length (lane_places lane commands)) (sym mine) rest

  pub longer_next : (lane : ℕ) (events : List Past) → InLanes commands events → next_command more lane events ≡ longer_place commands command lane events
  longer_next lane events lanes = ap (λ l. slice_get l (lane_count lane events)) (places_more lane 0 commands command) ∙ by (command.lane == lane)
    where
      by : (b : Bool) → slice_get (lane_places lane commands ++ place_if b (0 + length commands)) (lane_count lane events) ≡ cond b (option_or (next_command commands lane events) (Some (length commands))) (next_command commands lane events)
      by true =
          let same : 0 + length commands ≡ length commands = omega arith in
          ap (λ n. slice_get (lane_places lane commands ++ n ∷ []) (lane_count lane events)) same
          ∙ get_end (lane_places lane commands) (lane_count lane events) (length commands) (fewer lane events lanes)
      by false = ap (λ l. slice_get l (lane_count lane events)) (append-nil (lane_places lane commands))

-- ---- deeds and histories

module _ (script : Script) (command : Command) where
  same_deed : (before : List Past) (past : Past) → ComesNext script.commands before past.event → deed (longer script command) past ≡ deed script past
  same_deed before past next = ap (λ a. record (deed script past) { act = a }) (same_act script.commands command before past.event next)

  pub same_deeds : (events : List Past) → InLanes script.commands events → map (deed (longer script command)) events ≡ map (deed script) events
  same_deeds [] lanes = refl
  same_deeds (past ∷ before) lanes = ap₂ (λ d ds. d ∷ ds) (same_deed before past lanes.0) (same_deeds before lanes.1)
