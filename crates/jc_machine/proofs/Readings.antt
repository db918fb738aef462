-- What is read of a controller is what its notes say.
use Rattle.std.proofs.Common.{◌≡◌, ℕ, ◌<◌, Bool, true, List, [], ◌∷◌, length, reverse, get_or, set, slice_get, Option, Some, None, is_some, is_none, refl, sym, ap, ◌∙◌, subst, arith, true≢false}
use Rattle.std.proofs.lemmas.Option.{slice_get-get_or}
use Rattle.std.specs.List.{IsDistinct}
use Rattle.std.specs.Map.{keys_of}
use Rattle.std.specs.Option.{option_map, unwrap_or}
use Rattle.jc_types.specs.declared.actions.End.{End}
use Rattle.jc_types.specs.declared.actions.Script.{Script}
use Rattle.jc_types.specs.declared.objects.Entry.{Entry}
use Rattle.jc_types.specs.declared.numbers.Version.{Version}
use Rattle.jc_types.specs.declared.objects.Kind.{Kind}
use Rattle.jc_types.specs.declared.objects.Kind.TheVariants.{Jobs, Pods}
use Rattle.jc_types.specs.declared.runs.Past.{Past}
use Rattle.jc_types.specs.declared.runs.Shape.{Shape}
use Rattle.jc_types.specs.declared.objects.KeyNames.{KeyNames as Key}
use Rattle.jc_types.specs.Keys.{same_key}
use Rattle.jc_runs.specs.Basis.{Basis}
use Rattle.jc_log.specs.Deeds.{Deed}
use Rattle.jc_log.specs.Tables.{at}
use Rattle.jc_runs.specs.Steps.{Sync}
use Rattle.jc_team.specs.Delayed.{first_of, in_turn}
use Rattle.jc_team.proofs.DueFacts.{in_turn-first}
use Rattle.jc_team.specs.Schedules.{MirrorsLog, log_end, number_of}
use Rattle.jc_team.specs.ControllerCalls.{can_begin, is_begun}
use Rattle.jc_team.proofs.LawFacts.{begun-ready}
use Rattle.jc_history.specs.Agrees.{IsScheduleOf}
use Rattle.jc_history.specs.Delays.{delays, least_delay}
use Rattle.jc_history.specs.Diaries.{notes}
use Rattle.jc_history.specs.Fresh.{begin_at, begin_first, may_begin}
use Rattle.jc_history.specs.Lines.{line}
use Rattle.jc_history.specs.Notes.{Note}
use Rattle.jc_history.specs.Numbers.{number}
use Rattle.jc_history.specs.Registers.{register}
use Rattle.jc_history.proofs.BeginSteps.{begun-answer_is}
use Rattle.jc_history.proofs.DelayFacts.{apart-delays, at-delays}
use Rattle.jc_order.specs.Ends.{IsUpToDate}
use Rattle.jc_order.proofs.EndFacts.{end-begins}
use Rattle.jc_runs.specs.Machines.{IsTeam}
use Rattle.jc_runs.specs.Seen.{Seen, deeds_in, log_seen}
use Rattle.jc_runs.specs.Teams.{Team}
use Rattle.jc_machine.specs.DiariesSeen.{diary_seen}
use Rattle.jc_machine.specs.MachineKept.{IsMachineKept}
use Rattle.jc_machine.proofs.Closing.{view_of}
use Rattle.jc_runs.proofs.ClusterFacts.{member_at}
use Rattle.jc_runs.proofs.ListFacts.{set_itself}
use Rattle.jc_team.proofs.OrderFacts.{apart, distinct, in_turn-same}

-- ---- the row that is due first

-- It is the first of the rows in turn.
head_is : (rows : List (Key × ℕ)) → IsDistinct same_key (keys_of rows) → slice_get (in_turn rows) 0 ≡ first_of rows
head_is rows d = by (first_of rows) refl
  where
    none : (rows : List (Key × ℕ)) → first_of rows ≡ None → rows ≡ []
    none [] e = refl
    none (x ∷ xs) e = absurd (true≢false (ap is_some e))

    by : (o : Option (Key × ℕ)) → first_of rows ≡ o → slice_get (in_turn rows) 0 ≡ o
    by None e = ap (λ rows. slice_get (in_turn rows) 0) (none rows e)
    by (Some f) e = ap (λ rows. slice_get rows 0) (in_turn-first rows f d e)

-- So it is the same, where each key has the same moment.
first-same : (xs ys : List (Key × ℕ)) → IsDistinct same_key (keys_of xs) → IsDistinct same_key (keys_of ys) → ((k : Key) → at same_key xs k ≡ at same_key ys k) → first_of xs ≡ first_of ys
first-same xs ys a b e = sym (head_is xs a) ∙ ap (λ rows. slice_get rows 0) (in_turn-same (length xs) xs ys (omega arith) (apart xs a) (apart ys b) e) ∙ head_is ys b

-- ---- of one controller

none-mapped : {A B : Type 0} (f : A → B) (o : Option A) → is_none (option_map f o) ≡ is_none o
none-mapped f None = refl
none-mapped f (Some x) = refl

module _ (older : List Note) (team : Team) (held : IsScheduleOf older team.con.schedule) where
  least_is : option_map (λ (row : Key × ℕ). row.1) (first_of team.con.schedule.delays.moments) ≡ least_delay older
  least_is = ap (option_map (λ (row : Key × ℕ). row.1)) (first-same team.con.schedule.delays.moments (delays older) held.moments_once (distinct (delays older) (apart-delays older)) (λ k. held.delayed.moment_is k ∙ sym (at-delays older k)))

  begins_is : (log : List Entry) → MirrorsLog log team.con → can_begin team.con ≡ may_begin older log
  begins_is log mirrors = begun-ready 0 team.con ∙ ap is_begun (begun-answer_is older log 0 team.con 0 held mirrors)

-- ---- of a machine

module _ (script : Script) (shape : Shape) (items : List Past) (places : List (Option ℕ)) (log : List Entry)
    (teams : List Team) (rows : List (Key × List End)) (now : ℕ) (seen : Seen)
    (kept : IsMachineKept script shape (reverse items) places log teams rows now)
    (view : view_of script shape items ≡ seen) (c : ℕ) (team : Team) (inside : c < seen.shape.controllers)
    (value : team ≡ get_or teams c team) where
  -- What the controller has noted.
  abbrev noted : List Note
  noted = notes shape c (deeds_in script (reverse items)) log

  same_notes : noted ≡ diary_seen seen c
  same_notes = ap (λ l. notes shape c (deeds_in script (reverse items)) l) kept.machine.run.log_is ∙ ap (λ (s : Seen). diary_seen s c) view

  same_log : log ≡ log_seen seen
  same_log = kept.machine.run.log_is ∙ ap (λ (s : Seen). log_seen s) view

  there : slice_get teams c ≡ Some team
  there = member_at teams c team shape.controllers (subst (λ (s : Seen). c < s.shape.controllers) (sym view) inside) (sym kept.machine.run.count) value

  -- The controller that is put in its place, where it is the same.
  pub put_back : (new : Team) → new ≡ team → IsMachineKept script shape (reverse items) places log (set teams c new) rows now
  put_back new is = subst (λ ts. IsMachineKept script shape (reverse items) places log ts rows now) (sym (ap (set teams c) is ∙ set_itself teams c team there)) kept

  of : IsTeam shape (deeds_in script (reverse items)) log c team
  of = kept.machine.run.each c team there

  pub cache_read : (kind : Kind) → number_of kind team.con.schedule ≡ number kind (diary_seen seen c)
  cache_read kind = of.schedule.number_is kind ∙ ap (number kind) same_notes

  pub begin_read : can_begin team.con ≡ may_begin (diary_seen seen c) (log_seen seen)
  begin_read = begins_is noted team of.schedule log of.holds ∙ ap (λ n. may_begin n log) same_notes ∙ ap (may_begin (diary_seen seen c)) same_log

  -- Where both caches have seen the whole log, it may begin just where a key waits.
  pub begin_read_at_end : (has : Bool) (end : Version) → end.0 ≡ length log → number_of Jobs team.con.schedule ≡ Some end → number_of Pods team.con.schedule ≡ Some end
      → has ≡ is_some (slice_get team.con.schedule.queue.line 0) → has ≡ may_begin (diary_seen seen c) (log_seen seen)
  begin_read_at_end has end placed jobs pods is =
      is ∙ ap (λ keys. is_some (slice_get keys 0)) of.schedule.queued.line_is ∙ waits (line noted) refl
      ∙ ap (λ n. may_begin n log) same_notes ∙ ap (may_begin (diary_seen seen c)) same_log
    where
      at_end : Some end ≡ Some (log_end log)
      at_end = λ i. Some (record { 0 = placed i })

      up : IsUpToDate noted log
      up Jobs = sym (of.schedule.number_is Jobs) ∙ jobs ∙ at_end
      up Pods = sym (of.schedule.number_is Pods) ∙ pods ∙ at_end

      deeds : List Deed
      deeds = deeds_in script (reverse items)

      begins : (k : Key) (rest : List Key) → line noted ≡ k ∷ rest → may_begin noted log ≡ true
      begins =
          subst (λ l. IsUpToDate (notes shape c deeds l) l → (k : Key) (rest : List Key) → line (notes shape c deeds l) ≡ k ∷ rest → may_begin (notes shape c deeds l) l ≡ true) (sym kept.machine.run.log_is)
          (λ up k rest first. ap is_begun (end-begins shape c deeds kept.machine.run.legal up 0 k rest first)) up

      waits : (keys : List Key) → line noted ≡ keys → is_some (slice_get keys 0) ≡ may_begin noted log
      waits [] first =
          sym ((λ i. is_begun (begin_at noted log 0 (up Jobs i) (up Pods i))) ∙ ap (λ keys. is_begun (begin_first noted log 0 (log_end log) (log_end log) keys)) first)
      waits (k ∷ rest) first = sym (begins k rest first)

  pub delay_read : option_map (λ (row : Key × ℕ). row.1) (first_of team.con.schedule.delays.moments) ≡ least_delay (diary_seen seen c)
  delay_read = least_is noted team of.schedule ∙ ap least_delay same_notes

  module _ (w : ℕ) (within : w < seen.shape.workers) where
    pub worker_within : w < length team.registers
    worker_within = subst (λ n. w < n) (sym of.count) (subst (λ (s : Seen). w < s.shape.workers) (sym view) within)

    -- The worker's register.
    abbrev mine : Option Sync
    mine = get_or team.registers w None

    mine-there : slice_get team.registers w ≡ Some mine
    mine-there = slice_get-get_or team.registers w None worker_within

    pub free_read : (b : Bool) → ((r : Option Sync) → slice_get team.registers w ≡ Some r → b ≡ is_none r) → b ≡ is_none (register w (diary_seen seen c))
    free_read b h = h mine mine-there ∙ sym (none-mapped (λ (s : Sync). s.flight.basis) mine) ∙ ap is_none (sym (of.workers.syncs w mine mine-there)) ∙ ap (λ n. is_none (register w n)) same_notes

    pub basis_read : (o : Option Basis) → ((r : Option Sync) → slice_get team.registers w ≡ Some r → o ≡ option_map (λ (s : Sync). s.flight.basis) r) → o ≡ register w (diary_seen seen c)
    basis_read o h = h mine mine-there ∙ sym (of.workers.syncs w mine mine-there) ∙ ap (register w) same_notes

    pub own_read : (basis : Basis) → register w (diary_seen seen c) ≡ Some basis → (sync : Sync) → slice_get team.registers w ≡ Some (Some sync) → basis ≡ sync.flight.basis
    own_read basis is sync at = ap (λ o. unwrap_or o basis) (sym is ∙ ap (register w) (sym same_notes) ∙ of.workers.syncs w (Some sync) at)
