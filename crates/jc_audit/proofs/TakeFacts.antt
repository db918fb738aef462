-- What was read of a line happens, or no event that is taken has that line.
use Rattle.std.proofs.Common.{◌≡◌, ℕ, zero, suc, ◌+◌, ◌<◌, ◌≤◌, ◌^◌, true, false, List, [], ◌∷◌, ◌++◌, length, take, drop, bytes_eq, codes, decimal, Option, Some, None, IfSome, refl, sym, ap, ap₂, ◌∙◌, subst, arith, true≢false, ◌⊎◌, inl}
use Rattle.std.proofs.Common.{inr, append_assoc}
use Rattle.std.specs.Cmp.Lexicographic.{bytes_decides}
use Rattle.std.proofs.lemmas.List.{length-append, length-map, length-take}
use Rattle.jc_types.specs.declared.actions.Action1.{Action1}
use Rattle.jc_types.specs.declared.actions.Command.{Command}
use Rattle.jc_types.specs.declared.runs.Event.TheVariants as event
use Rattle.jc_types.specs.declared.runs.Shape.{Shape}
use Rattle.jc_types.specs.declared.runs.Sys.{Sys}
use Rattle.jc_types.specs.declared.runs.Sys.TheVariants as sys
use Rattle.jc_log.specs.Deeds.{Deed, act_of_system, deed}
use Rattle.jc_lines.specs.ActTexts.{act_text}
use Rattle.jc_reading.specs.Cuts.{IsWord, behind_word, first_word_in}
use Rattle.jc_lines.specs.Events.{tag_text}
use Rattle.jc_reading.specs.Proper.{IsProperSystem, as_begin}
use Rattle.jc_reading.specs.Reads.{BeginsWith, IsProperOf, IsProperRead, act_of_line, begun_read, front_text}
use Rattle.jc_reading.specs.declared.reads.LineAct.{LineAct}
use Rattle.jc_reading.specs.declared.reads.LineAct.TheVariants as read
use Rattle.jc_reading.specs.declared.reads.LineRead.{LineRead}
use Rattle.jc_reading.proofs.CutFacts.{after_word, decimal_word, first_word}
use Rattle.jc_play.specs.Longer.{extended}
use Rattle.jc_runs.specs.Seen.{Admits, Seen, deeds_seen, happened}
use Rattle.jc_play.specs.Actors.{CanCome}
use Rattle.jc_audit.specs.AuditLimits.{IsSmallShape}
use Rattle.jc_audit.specs.Clocks.{FitsClock, IsClock}
use Rattle.jc_audit.specs.Walks.{HasTaken, IsLineLen, IsOnlyTaken, IsRead, NoneIsTaken, TakesLine, TakesCommand, TakesSystem, begun_command, last_line, line_of_last, read_of_command, read_of_system, with_command}
use Rattle.jc_audit.proofs.OnlyFacts.{command_begins, command_proper, system_begins}
use Rattle.jc_audit.proofs.AuditFacts.{cut_back}
use Rattle.jc_reading.proofs.ReadFacts.{front_parts, tag_word as tag_is_word}
use Rattle.std.proofs.Math.Seq.{take-append_seam as take_front}

-- ---- two fronts of the same bytes

front_same : (n : ℕ) (read : LineRead) (rest line : List ℕ) → line ≡ front_text n read.lane (act_of_line read.act) ++ rest
    → line ≡ decimal n ++ 32 ∷ (tag_text read.lane ++ 32 ∷ (act_text (act_of_line read.act) ++ 32 ∷ (45 ∷ 62 ∷ 32 ∷ rest)))
front_same n read rest line is = is ∙ front_parts (decimal n) (tag_text read.lane) (act_text (act_of_line read.act)) rest

-- The second word is the lane's, and behind it stands the act.
tag_of : (line : List ℕ) (read : LineRead) → BeginsWith line read → first_word_in (behind_word line) ≡ tag_text read.lane
tag_of line read b =
    let act = act_text (act_of_line read.act) ++ 32 ∷ (45 ∷ 62 ∷ 32 ∷ b.rest) in
    ap (λ l. first_word_in (behind_word l)) (front_same b.number read b.rest line b.is)
    ∙ ap first_word_in (after_word (decimal b.number) (tag_text read.lane ++ 32 ∷ act) (decimal_word b.number)) ∙ first_word (tag_text read.lane) act (tag_is_word read.lane)

act_of : (line : List ℕ) (read : LineRead) (b : BeginsWith line read) → behind_word (behind_word line) ≡ act_text (act_of_line read.act) ++ 32 ∷ (45 ∷ 62 ∷ 32 ∷ b.rest)
act_of line read b =
    let act = act_text (act_of_line read.act) ++ 32 ∷ (45 ∷ 62 ∷ 32 ∷ b.rest) in
    ap (λ l. behind_word (behind_word l)) (front_same b.number read b.rest line b.is)
    ∙ ap behind_word (after_word (decimal b.number) (tag_text read.lane ++ 32 ∷ act) (decimal_word b.number)) ∙ after_word (tag_text read.lane) act (tag_is_word read.lane)

-- The verb of an event of the system.
abbrev pub verb_of : Sys → List ℕ
verb_of (sys.List c k) = codes "list"
verb_of (sys.Deliver c k) = codes "deliver"
verb_of (sys.Begin c w) = codes "begin"
verb_of (sys.Step c w) = codes "step"
verb_of sys.Node = codes "node"
verb_of (sys.Clock add) = codes "clock"

verb_first : (s : Sys) (more : List ℕ) → first_word_in (act_text (act_of_system s) ++ 32 ∷ more) ≡ verb_of s
verb_first (sys.List c k) more = refl
verb_first (sys.Deliver c k) more = refl
verb_first (sys.Begin c w) more = refl
verb_first (sys.Step c w) more = refl
verb_first sys.Node more = refl
verb_first (sys.Clock add) more = refl

pub same_verbs : (line : List ℕ) (s t : Sys) → BeginsWith line (record { lane = None; act = read.System s }) → BeginsWith line (record { lane = None; act = read.System t })
    → verb_of s ≡ verb_of t
same_verbs line s t b c =
    sym (verb_first s (45 ∷ 62 ∷ 32 ∷ b.rest)) ∙ ap first_word_in (sym (act_of line _ b) ∙ act_of line _ c) ∙ verb_first t (45 ∷ 62 ∷ 32 ∷ c.rest)

not_clock : (verb : List ℕ) → bytes_eq verb (codes "clock") ≡ false → verb ≡ codes "clock" → ⊥
not_clock verb other e = true≢false (sym ((bytes_decides verb (codes "clock")).1 e) ∙ other)

-- The clock's verb is that of no other event.
pub clock_verb : (s : Sys) (add : ℕ) → verb_of s ≡ verb_of (sys.Clock add) → IsClock s
clock_verb (sys.List c k) add e = absurd (not_clock (codes "list") refl e)
clock_verb (sys.Deliver c k) add e = absurd (not_clock (codes "deliver") refl e)
clock_verb (sys.Begin c w) add e = absurd (not_clock (codes "begin") refl e)
clock_verb (sys.Step c w) add e = absurd (not_clock (codes "step") refl e)
clock_verb sys.Node add e = absurd (not_clock (codes "node") refl e)
clock_verb (sys.Clock more) add e = tt

-- The front of a command is that of no event of the system.
pub no_lane : (line : List ℕ) (lane : ℕ) (a b : LineAct) → BeginsWith line (record { lane = Some lane; act = a }) → BeginsWith line (record { lane = None; act = b }) → ⊥
no_lane line lane a b one other = by (sym (tag_of line _ one) ∙ tag_of line _ other)
  where
    by : 64 ∷ decimal lane ≡ 45 ∷ [] → ⊥
    by e = absurd (cc (e))

-- ---- parts of what was read

lane_is : (a b : LineRead) → a ≡ b → a.lane ≡ b.lane
lane_is a b e = ap (λ (r : LineRead). r.lane) e

pub same_action : (a b : Action1) → read.Command a ≡ read.Command b → a ≡ b
same_action a b e = cc (e)

pub same_system : (a b : Sys) → read.System a ≡ read.System b → a ≡ b
same_system a b e = cc (e)

pub same_number : (a b : ℕ) → Some a ≡ Some b → a ≡ b
same_number a b e = cc (e)

-- ---- commands

abbrev line_read : Option ℕ → LineAct → LineRead
line_read lane act = record { lane = lane; act = act }

abbrev pub command_read : ℕ → Action1 → LineRead
command_read lane action = record { lane = Some lane; act = read.Command action }

abbrev pub command_of : ℕ → Action1 → Command
command_of lane action = record { lane = lane; action = action }

module _ (seen : Seen) (lane : ℕ) (action : Action1) (rest : List ℕ) (is : IsRead rest (command_read lane action)) (few : length seen.pasts + 1 < 2 ^ 64) where
  -- A sync stands as its begin in what was read.
  begun_is : begun_command (command_of lane action) ≡ command_of lane action
  begun_is =
      let e : action ≡ as_begin action = same_action action (as_begin action) (ap (λ (r : LineRead). r.act) (is.only (command_read lane action) is.proper is.begins)) in
      ap (λ a. command_of lane a) (sym e)

  pub taken : (new : Seen) → length seen.pasts < seen.shape.events
      → Admits (extended seen (command_of lane action)) (event.Command lane (length seen.script.commands)) → new ≡ with_command seen (command_of lane action) → TakesLine seen new
  taken new room admits same = record {
    few = room;
    one = inl (record {
      command = command_of lane action;
      proper = record { lane = is.proper.0; action = is.proper.1 };
      admits = subst (λ c. Admits (extended seen c) (event.Command lane (length seen.script.commands))) (sym begun_is) admits;
      is = same ∙ ap (with_command seen) (sym begun_is);
    });
  }

  -- Of a command whose line the bytes begin with.
  command_same : (new : Seen) (t : TakesCommand seen new) (more : List ℕ) → rest ≡ last_line new ++ more → begun_command t.command ≡ command_of lane action
  command_same new t more e =
      let other = read_of_command seen new t in
      let same = is.only other (command_proper seen new t) (command_begins seen new t rest more few e) in
      let lane_same : lane ≡ t.command.lane = same_number lane t.command.lane (lane_is _ _ same) in
      let action_same : action ≡ as_begin t.command.action = same_action action (as_begin t.command.action) (ap (λ (r : LineRead). r.act) same) in
      sym (ap₂ command_of lane_same action_same)

  pub only_command : (new : Seen) → (has_happened : Type 0)
      → (Admits (extended seen (command_of lane action)) (event.Command lane (length seen.script.commands)) → has_happened)
      → (has_happened → new ≡ with_command seen (command_of lane action)) → IsOnlyTaken seen new rest has_happened
  only_command new has_happened may took other more t e = by t.one
    where
      by : TakesCommand seen other ⊎ TakesSystem seen other → has_happened × (other ≡ new)
      by (inl c) =
          let same = command_same other c more e in
          let admits = subst (λ d. Admits (extended seen d) (event.Command d.lane (length seen.script.commands))) same c.admits in
          let yes = may admits in
          (yes, c.is ∙ ap (with_command seen) same ∙ sym (took yes))
      by (inr s) = absurd (no_lane rest lane (read.Command action) (read.System s.system) is.begins (system_begins seen other s rest more few e))

-- ---- events of the system

abbrev pub system_read : Sys → LineRead
system_read s = record { lane = None; act = read.System s }

pub fits : (shape : Shape) → IsSmallShape shape → (seen : Seen) (s : Sys) → seen.shape ≡ shape → Admits seen (event.System s) → (IsClock s → IsProperSystem s) → IsProperSystem s
fits shape fit seen (sys.List c k) same admits clock =
    let few = fit.few_controllers in let within = admits.within in let eq = ap (λ (s : Shape). s.controllers) same in omega (arith, few, within, eq)
fits shape fit seen (sys.Deliver c k) same admits clock =
    let few = fit.few_controllers in let within = admits.within in let eq = ap (λ (s : Shape). s.controllers) same in omega (arith, few, within, eq)
fits shape fit seen (sys.Begin c w) same admits clock =
    let few = fit.few_controllers in let some = fit.few_workers in let within = admits.within.0 in let more = admits.within.1 in
    let eq = ap (λ (s : Shape). s.controllers) same in let ew = ap (λ (s : Shape). s.workers) same in
    record { controllers = omega (arith, few, within, eq); workers = omega (arith, some, more, ew) }
fits shape fit seen (sys.Step c w) same admits clock =
    let few = fit.few_controllers in let some = fit.few_workers in let within = admits.within.0 in let more = admits.within.1 in
    let eq = ap (λ (s : Shape). s.controllers) same in let ew = ap (λ (s : Shape). s.workers) same in
    record { controllers = omega (arith, few, within, eq); workers = omega (arith, some, more, ew) }
fits shape fit seen sys.Node same admits clock = tt
fits shape fit seen (sys.Clock add) same admits clock = clock tt

-- The clock's seconds fit, where all do by which it can pass.
clock_proper : (seen : Seen) → FitsClock seen → (s : Sys) → CanCome seen (event.System s) → IsClock s → IsProperSystem s
clock_proper seen clock (sys.Clock add) can of = clock add can
clock_proper seen clock (sys.List c k) can of = absurd of
clock_proper seen clock (sys.Deliver c k) can of = absurd of
clock_proper seen clock (sys.Begin c w) can of = absurd of
clock_proper seen clock (sys.Step c w) can of = absurd of
clock_proper seen clock sys.Node can of = absurd of

module _ (seen : Seen) (s : Sys) (rest : List ℕ) (is : IsRead rest (system_read s)) (few : length seen.pasts + 1 < 2 ^ 64) (fit : IsSmallShape seen.shape)
    (clock : IsClock s → FitsClock seen) where
  pub took : (new : Seen) → length seen.pasts < seen.shape.events → CanCome seen (event.System s) → new ≡ happened seen (event.System s) → TakesLine seen new
  took new room can same = record {
    few = room;
    one = inr (record { system = s; admits = can.admits; among = can.among; is = same });
  }

  can_come : (new : Seen) (t : TakesSystem seen new) → CanCome seen (event.System t.system)
  can_come new t = record { admits = t.admits; among = t.among }

  both_clocks : (t : Sys) → BeginsWith rest (system_read t) → IsClock t → IsClock s
  both_clocks (sys.Clock add) b of = clock_verb s add (same_verbs rest s (sys.Clock add) is.begins b)
  both_clocks (sys.List c k) b of = absurd of
  both_clocks (sys.Deliver c k) b of = absurd of
  both_clocks (sys.Begin c w) b of = absurd of
  both_clocks (sys.Step c w) b of = absurd of
  both_clocks sys.Node b of = absurd of

  system_same : (new : Seen) (t : TakesSystem seen new) (more : List ℕ) → rest ≡ last_line new ++ more → t.system ≡ s
  system_same new t more e =
      let b = system_begins seen new t rest more few e in
      let proper = fits seen.shape fit seen t.system refl t.admits (λ of. clock_proper seen (clock (both_clocks t.system b of)) t.system (can_come new t) of) in
      sym (same_system s t.system (ap (λ (r : LineRead). r.act) (is.only (system_read t.system) proper b)))

  pub only_system : (new : Seen) → (has_happened : Type 0) → (CanCome seen (event.System s) → has_happened) → (has_happened → new ≡ happened seen (event.System s))
      → IsOnlyTaken seen new rest has_happened
  only_system new has_happened may took other more t e = by t.one
    where
      by : TakesCommand seen other ⊎ TakesSystem seen other → has_happened × (other ≡ new)
      by (inl c) = absurd (no_lane rest c.command.lane (read.Command c.command.action) (read.System s) (command_begins seen other c rest more few e) is.begins)
      by (inr u) =
          let same = system_same other u more e in
          let yes = may (subst (λ t. CanCome seen (event.System t)) same (can_come other u)) in
          (yes, u.is ∙ ap (λ t. happened seen (event.System t)) same ∙ sym (took yes))

-- ---- a line

pub small_count : (seen : Seen) → IsSmallShape seen.shape → length seen.pasts < seen.shape.events → length seen.pasts + 1 < 2 ^ 64
small_count seen fit room = let most = fit.few_events in omega (arith, most, room)

-- What was read of the bytes, where nothing else can be.
pub is_read : (rest : List ℕ) (read : LineRead) → IsProperRead read → BeginsWith rest read
    → ((other : LineRead) → IsProperRead other → BeginsWith rest other → Some read ≡ Some (begun_read other)) → IsRead rest read
is_read rest read proper begins only = record { proper = proper; begins = begins; only = λ other p b. same read (begun_read other) (only other p b) }
  where
    same : (a b : LineRead) → Some a ≡ Some b → a ≡ b
    same a b e = cc (e)

-- A full history takes no event more.
pub full_takes_none : (seen : Seen) (rest : List ℕ) → seen.shape.events ≤ length seen.pasts → NoneIsTaken seen rest
full_takes_none seen rest all new more t e = let room = t.few in absurd (omega (arith, all, room))

-- Where nothing can be read of the bytes, they begin with the line of no event that is taken.
pub none_is_read : (seen : Seen) (rest : List ℕ) → IsSmallShape seen.shape → FitsClock seen → ((read : LineRead) → IsProperRead read → BeginsWith rest read → ⊥) → NoneIsTaken seen rest
none_is_read seen rest fit clock none new more t e = by t.one
  where
    by : TakesCommand seen new ⊎ TakesSystem seen new → ⊥
    by (inl c) = none (read_of_command seen new c) (command_proper seen new c) (command_begins seen new c rest more (small_count seen fit t.few) e)
    by (inr s) =
        let can : CanCome seen (event.System s.system) = record { admits = s.admits; among = s.among } in
        none (read_of_system seen new s) (fits seen.shape fit seen s.system refl s.admits (clock_proper seen clock s.system can)) (system_begins seen new s rest more (small_count seen fit t.few) e)

-- Where what was read did not happen, none is taken.
pub none_happened : (old new : Seen) (rest : List ℕ) (has_happened : Type 0) → IsOnlyTaken old new rest has_happened → (has_happened → ⊥) → NoneIsTaken old rest
none_happened old new rest has_happened only not other more t e = not (only other more t e).0

-- Where another line stands there than that of what happened, none is taken.
pub none_stands : (old new : Seen) (rest : List ℕ) (has_happened : Type 0) (o : Option ℕ) → IsOnlyTaken old new rest has_happened → IsLineLen new rest o → o ≡ None → NoneIsTaken old rest
none_stands old new rest has_happened o only is none other more t e =
    subst (IsLineLen new rest) none is more (e ∙ ap (λ (s : Seen). last_line s ++ more) (only other more t e).1)

-- A command has a lane, and an event of the system has none.
pub no_command : (rest : List ℕ) (found : LineRead) (action : Action1) → IsRead rest found → found.lane ≡ None → found.act ≡ read.Command action → ⊥
no_command rest found action is lane act = subst (λ l. IsProperOf l (read.Command action)) lane (subst (IsProperOf found.lane) act is.proper)

pub no_system : (rest : List ℕ) (found : LineRead) (lane : ℕ) (s : Sys) → IsRead rest found → found.lane ≡ Some lane → found.act ≡ read.System s → ⊥
no_system rest found lane s is some act = subst (λ l. IsProperOf l (read.System s)) some (subst (IsProperOf found.lane) act is.proper)

pub is_command : (rest : List ℕ) (found : LineRead) (lane : ℕ) (action : Action1) → IsRead rest found → found.lane ≡ Some lane → found.act ≡ read.Command action → IsRead rest (command_read lane action)
is_command rest found lane action is some act = subst (IsRead rest) (ap₂ (λ l a. line_read l a) some act) is

pub is_system : (rest : List ℕ) (found : LineRead) (s : Sys) → IsRead rest found → found.lane ≡ None → found.act ≡ read.System s → IsRead rest (system_read s)
is_system rest found s is none act = subst (IsRead rest) (ap₂ (λ l a. line_read l a) none act) is

longer : (xs : List ℕ) (y : ℕ) (ys : List ℕ) → 0 < length (xs ++ y ∷ ys)
longer xs y ys = let all = length-append xs (y ∷ ys) in omega (arith, all)

some_line : (ds : List Deed) → 0 < length ds → 0 < length (line_of_last ds)
some_line [] some = absurd (omega (arith, some))
some_line (d ∷ past) some = longer (decimal (1 + length past)) 32 _

-- Once an event was taken, there is one.
pub some_past : (old new : Seen) → TakesLine old new → 0 < length new.pasts
some_past old new t = by t.one
  where
    by : TakesCommand old new ⊎ TakesSystem old new → 0 < length new.pasts
    by (inl c) = let more = ap (λ (s : Seen). length s.pasts) c.is in omega (arith, more)
    by (inr s) = let more = ap (λ (s : Seen). length s.pasts) s.is in omega (arith, more)

has_taken : (old new : Seen) (rest : List ℕ) (n : ℕ) → TakesLine old new → IsLineLen new rest (Some n) → HasTaken old new rest n
has_taken old new rest n t is =
    let long = is.1 in
    let some = some_past old new t in
    let deeds = length-map new.pasts (deed new.script) in
    let line = some_line (deeds_seen new) (omega (arith, some, deeds)) in
    record { takes = t; begins = is.0; some = omega (arith, long, line); within = is.2 }

pub if_taken : (old new : Seen) (rest : List ℕ) (o : Option ℕ) → TakesLine old new → IsLineLen new rest o → IfSome o (HasTaken old new rest)
if_taken old new rest (Some n) t is = has_taken old new rest n t is
if_taken old new rest None t is = tt

-- ---- the line that stands there

pub begins_len : (rest line text : List ℕ) (n : ℕ) → text ≡ line → n ≡ length text → bytes_eq text (take (length text) rest) ≡ true
    → (rest ≡ line ++ drop n rest) × (n ≡ length line) × (n ≤ length rest)
begins_len rest line text n same long is =
    let front : text ≡ take (length text) rest = (bytes_decides text (take (length text) rest)).0 is in
    let all = ap length front in
    let cut = length-take (length text) rest in
    (cut_back n rest ∙ ap (λ l. l ++ drop n rest) (ap (λ m. take m rest) long ∙ sym front ∙ same), long ∙ ap length same, omega (arith, all, cut, long))

pub begins_not : (rest line text : List ℕ) → text ≡ line → bytes_eq text (take (length text) rest) ≡ false → (more : List ℕ) → rest ≡ line ++ more → ⊥
begins_not rest line text same is more e =
    let front : take (length text) rest ≡ text = ap (take (length text)) (e ∙ ap (λ l. l ++ more) (sym same)) ∙ take_front text more in
    true≢false (sym ((bytes_decides text (take (length text) rest)).1 (sym front)) ∙ is)
