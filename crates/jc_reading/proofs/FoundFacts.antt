-- What is read of a line is proper, and the line begins with what is printed of it.
use Rattle.std.proofs.Common.{◌≡◌, ℕ, pos, ◌<◌, true, cond, List, [], ◌++◌, length, take, drop, codes, Option, Some, None, option_and_then, IfSome, Result, Ok, Err, refl, sym, ap, ◌∙◌, subst, arith, true≢false}
use Rattle.std.specs.Prelude.{IfOk, is_none}
use Rattle.std.specs.Cmp.Lexicographic.{bytes_decides}
use Rattle.std.specs.Result.{result_ok}
use Rattle.std.proofs.lemmas.List.{take-append-drop}
use Rattle.std.proofs.lemmas.Option.{none-some, same_Some, cond_some as tested_by}
use Rattle.jc_json.specs.Line.{data_of}
use Rattle.jc_manifest.specs.Manifests.{key_of, manifest_refusal, spec_of}
use Rattle.jc_script.specs.EndMembers.{ends_said}
use Rattle.jc_script.specs.Phases.{report_in}
use Rattle.jc_script.specs.Updates.{change_in}
use Rattle.jc_types.specs.declared.actions.Action1.{Action1}
use Rattle.jc_types.specs.declared.actions.Action1.TheVariants as act
use Rattle.jc_types.specs.declared.actions.End.{End}
use Rattle.jc_types.specs.declared.actions.PhaseChange.{PhaseChange}
use Rattle.jc_types.specs.declared.actions.SpecChange.{SpecChange}
use Rattle.jc_types.specs.declared.objects.KeyNames.{KeyNames as Key}
use Rattle.jc_types.specs.declared.runs.Sys.{Sys}
use Rattle.jc_types.specs.declared.runs.Sys.TheVariants as sys
use Rattle.jc_types.specs.declared.specifications.JobSpec.{JobSpec}
use Rattle.jc_reading.specs.Cuts.{behind_word, first_word_in}
use Rattle.jc_reading.specs.Manifested.{manifest_data}
use Rattle.jc_reading.specs.Proper.{AreAllowedEnds, IsAllowedChange, IsAllowedReport, IsPossibleSeat, IsProperAction, IsProperSystem}
use Rattle.jc_reading.specs.Turned.{of_member, report_of}
use Rattle.jc_reading.specs.LineReadings.{action_by, act_said, number_below, change_said, create_said, delete_said, ends_printed, fate_said, fault_said, job_if, printed_job, key_said, kind_said, digits_said, pod_said, report_said}
use Rattle.jc_reading.specs.LineReadings.{reported_said, system_said, tag_said, update_said, verb_said, version_printed}
use Rattle.jc_reading.specs.Reads.{BeginsWith, IsProperRead, act_of_line, begun_read, event_said, front_text, if_printed, read_by, begins_with, system_by}
use Rattle.jc_reading.specs.declared.reads.LineAct.TheVariants.{Command, System}
use Rattle.jc_reading.specs.declared.reads.LineRead.{LineRead}
use Rattle.jc_reading.specs.declared.reading.Verb.{Verb}
use Rattle.jc_reading.specs.declared.reading.Verb.TheVariants as verb
use Rattle.jc_reading.proofs.AllowedWhole.{manifest_allowed, names_allowed}
use Rattle.jc_reading.proofs.ReadFacts.{event_again}
use Rattle.jc_reading.proofs.JobTexts.{IsAllowedJob, named}
use Rattle.jc_reading.proofs.AllowedEnds.{ends_allowed}
use Rattle.jc_reading.proofs.AllowedReports.{report_allowed}
use Rattle.jc_reading.proofs.RangeFacts.{change_allowed}
use Rattle.jc_reading.proofs.SpelledFacts.{spelled_value}
use Rattle.jc_reading.proofs.TurnedFacts.{manifest_types, member_turned, report_turned}
use Rattle.jc_reading.proofs.NumberFacts.{answered, at_ok, below_less, key_allowed, mapped_by, number_few, pod_proper, said_by, tag_few, version_few}

-- ---- JSON

job_found : (key : Key) (word : List ℕ) (job : Key × JobSpec) → printed_job key word ≡ Some job → IsAllowedJob job
unfolding printed_job
job_found key word job e =
    let p = said_by (λ d. job_if (manifest_data key d)) (data_of word) job e in
    let m = manifest_data key p.0 in
    let q = tested_by (is_none (manifest_refusal [] m)) (key_of [] m, spec_of [] m) job p.2 in
    let accepted = nothing (manifest_refusal [] m) q.0 in
    subst IsAllowedJob q.1 (names_allowed [] m accepted, manifest_allowed [] m accepted, manifest_types key p.0 (spelled_value word p.0 p.1))
  where
    nothing : {A : Type 0} (o : Option A) → is_none o ≡ true → o ≡ None
    nothing None e = refl
    nothing (Some a) e = absurd (true≢false (sym e))

change_found : (word : List ℕ) (change : SpecChange) → change_said word ≡ Some change → IsAllowedChange change
unfolding change_said
change_found word change e =
    let p = said_by (λ d. result_ok (change_in (of_member (codes "spec") d))) (data_of word) change e in
    let line = of_member (codes "spec") p.0 in
    at_ok IsAllowedChange (change_in line) change (change_allowed line) (answered (change_in line) change p.2)

report_found : (word : List ℕ) (change : PhaseChange) → report_said word ≡ Some change → IsAllowedReport change
unfolding report_said
report_found word change e =
    let p = said_by (λ d. result_ok (report_in (report_of d))) (data_of word) change e in
    let line = report_of p.0 in
    at_ok IsAllowedReport (report_in line) change (report_allowed line (report_turned p.0 (spelled_value word p.0 p.1))) (answered (report_in line) change p.2)

ends_found : (word : List ℕ) (ends : List End) → ends_printed word ≡ Some ends → AreAllowedEnds ends
unfolding ends_printed
ends_found word ends e =
    let p = said_by (λ d. result_ok (ends_said (of_member (codes "ends") d))) (data_of word) ends e in
    let line = of_member (codes "ends") p.0 in
    let spelled = member_turned (codes "ends") p.0 (named (codes "ends") refl) (spelled_value word p.0 p.1) in
    at_ok AreAllowedEnds (ends_said line) ends (ends_allowed line spelled) (answered (ends_said line) ends p.2)

-- ---- acts

module _ (first second third : List ℕ) (a : Action1) where
  create_found : create_said first second ≡ Some a → IsProperAction a
  create_found e =
      let p = said_by (λ key. option_and_then (λ (j : Key × JobSpec). Some (act.Create j.0 j.1)) (printed_job key second)) (key_said first) a e in
      let q = said_by (λ (j : Key × JobSpec). Some (act.Create j.0 j.1)) (printed_job p.0 second) a p.2 in
      let job = job_found p.0 second q.0 q.1 in
      subst IsProperAction (same_Some (act.Create q.0.0 q.0.1) a q.2) job

  update_found : update_said first second third ≡ Some a → IsProperAction a
  update_found e =
      let p = said_by (λ key. option_and_then (λ version. option_and_then (λ change. Some (act.Update key version change)) (change_said third)) (version_printed second)) (key_said first) a e in
      let q = said_by (λ version. option_and_then (λ change. Some (act.Update p.0 version change)) (change_said third)) (version_printed second) a p.2 in
      let r = said_by (λ change. Some (act.Update p.0 q.0 change)) (change_said third) a q.2 in
      subst IsProperAction (same_Some (act.Update p.0 q.0 r.0) a r.2)
      (key_allowed first p.0 p.1, version_few second q.0 q.1, change_found third r.0 r.1)

  delete_found : delete_said first ≡ Some a → IsProperAction a
  delete_found e =
      let p = said_by (λ key. Some (act.Delete key)) (key_said first) a e in
      subst IsProperAction (same_Some (act.Delete p.0) a p.2) (key_allowed first p.0 p.1)

  reported_found : reported_said first second ≡ Some a → IsProperAction a
  reported_found e =
      let p = said_by (λ pod. option_and_then (λ change. Some (act.Report pod change)) (report_said second)) (pod_said first) a e in
      let q = said_by (λ change. Some (act.Report p.0 change)) (report_said second) a p.2 in
      subst IsProperAction (same_Some (act.Report p.0 q.0) a q.2)
      (pod_proper first p.0 p.1, report_found second q.0 q.1)

  fate_found : fate_said first second ≡ Some a → IsProperAction a
  fate_found e =
      let p = said_by (λ key. option_and_then (λ ends. Some (act.Fate key ends)) (ends_printed second)) (key_said first) a e in
      let q = said_by (λ ends. Some (act.Fate p.0 ends)) (ends_printed second) a p.2 in
      subst IsProperAction (same_Some (act.Fate p.0 q.0) a q.2)
      (key_allowed first p.0 p.1, ends_found second q.0 q.1)

  mark_found : option_and_then (λ pod. Some (act.Mark pod)) (pod_said first) ≡ Some a → IsProperAction a
  mark_found e =
      let p = said_by (λ pod. Some (act.Mark pod)) (pod_said first) a e in
      subst IsProperAction (same_Some (act.Mark p.0) a p.2) (pod_proper first p.0 p.1)

  strip_found : option_and_then (λ pod. Some (act.Strip pod)) (pod_said first) ≡ Some a → IsProperAction a
  strip_found e =
      let p = said_by (λ pod. Some (act.Strip pod)) (pod_said first) a e in
      subst IsProperAction (same_Some (act.Strip p.0) a p.2) (pod_proper first p.0 p.1)

  finish_found : option_and_then (λ pod. option_and_then (λ code. Some (act.Finish pod (pos code))) (number_below second 256)) (pod_said first) ≡ Some a → IsProperAction a
  finish_found e =
      let p = said_by (λ pod. option_and_then (λ code. Some (act.Finish pod (pos code))) (number_below second 256)) (pod_said first) a e in
      let q = said_by (λ code. Some (act.Finish p.0 (pos code))) (number_below second 256) a p.2 in
      let few = below_less second 256 q.0 q.1 in
      subst IsProperAction (same_Some (act.Finish p.0 (pos q.0)) a q.2)
      (pod_proper first p.0 p.1, record { code = q.0; few = omega (arith, few); is = refl })

  clock_found : option_and_then (λ add. Some (act.Clock add)) (number_below first 4294967296) ≡ Some a → IsProperAction a
  clock_found e =
      let p = said_by (λ add. Some (act.Clock add)) (number_below first 4294967296) a e in
      let few = below_less first 4294967296 p.0 p.1 in
      subst IsProperAction (same_Some (act.Clock p.0) a p.2) (omega (arith, few))

  -- an act on a controller, and what is read beside it
  of_controller : {B : Type 0} (make : ℕ → B → Action1) (other : Option B) → ((c : ℕ) (b : B) → c < 4 → IsProperAction (make c b))
      → option_and_then (λ c. option_and_then (λ b. Some (make c b)) other) (number_below first 4) ≡ Some a → IsProperAction a
  of_controller make other proper e =
      let p = said_by (λ c. option_and_then (λ b. Some (make c b)) other) (number_below first 4) a e in
      let q = said_by (λ b. Some (make p.0 b)) other a p.2 in
      subst IsProperAction (same_Some (make p.0 q.0) a q.2) (proper p.0 q.0 (below_less first 4 p.0 p.1))

  restart_found : option_and_then (λ c. Some (act.Restart c)) (number_below first 4) ≡ Some a → IsProperAction a
  restart_found e =
      let p = said_by (λ c. Some (act.Restart c)) (number_below first 4) a e in
      subst IsProperAction (same_Some (act.Restart p.0) a p.2) (below_less first 4 p.0 p.1)

  -- an act on a worker
  of_seat : (make : ℕ → ℕ → Action1) → ((c w : ℕ) → IsPossibleSeat c w → IsProperAction (make c w))
      → option_and_then (λ c. option_and_then (λ w. Some (make c w)) (number_below second 16)) (number_below first 4) ≡ Some a → IsProperAction a
  of_seat make proper e =
      let p = said_by (λ c. option_and_then (λ w. Some (make c w)) (number_below second 16)) (number_below first 4) a e in
      let q = said_by (λ w. Some (make p.0 w)) (number_below second 16) a p.2 in
      let seat : IsPossibleSeat p.0 q.0 = record { controllers = below_less first 4 p.0 p.1; workers = below_less second 16 q.0 q.1 } in
      subst IsProperAction (same_Some (make p.0 q.0) a q.2) (proper p.0 q.0 seat)

  fault_found : option_and_then (λ c. option_and_then (λ w. option_and_then (λ f. Some (act.PutFault c w f)) (fault_said third)) (number_below second 16)) (number_below first 4) ≡ Some a
      → IsProperAction a
  fault_found e =
      let p = said_by (λ c. option_and_then (λ w. option_and_then (λ f. Some (act.PutFault c w f)) (fault_said third)) (number_below second 16)) (number_below first 4) a e in
      let q = said_by (λ w. option_and_then (λ f. Some (act.PutFault p.0 w f)) (fault_said third)) (number_below second 16) a p.2 in
      let r = said_by (λ f. Some (act.PutFault p.0 q.0 f)) (fault_said third) a q.2 in
      let seat : IsPossibleSeat p.0 q.0 = record { controllers = below_less first 4 p.0 p.1; workers = below_less second 16 q.0 q.1 } in
      subst IsProperAction (same_Some (act.PutFault p.0 q.0 r.0) a r.2) seat

  found_action : (v : Verb) → act_said v first second third ≡ Some a → IsProperAction a
  unfolding act_said
  found_action verb.Create e = create_found e
  found_action verb.Update e = update_found e
  found_action verb.Delete e = delete_found e
  found_action verb.Mark e = mark_found e
  found_action verb.Strip e = strip_found e
  found_action verb.Finish e = finish_found e
  found_action verb.Report e = reported_found e
  found_action verb.Fate e = fate_found e
  found_action verb.Clock e = clock_found e
  found_action verb.List e = of_controller (λ c k. act.List c k) (kind_said second) (λ c k less. less) e
  found_action verb.Deliver e = of_controller (λ c k. act.Deliver c k) (kind_said second) (λ c k less. less) e
  found_action verb.Begin e = of_seat (λ c w. act.Begin c w) (λ c w seat. seat) e
  found_action verb.Step e = of_seat (λ c w. act.Step c w) (λ c w seat. seat) e
  found_action verb.Node e = subst IsProperAction (same_Some act.Node a e) tt
  found_action verb.Restart e = restart_found e
  found_action verb.Fault e = fault_found e
  found_action verb.Settle e = subst IsProperAction (same_Some act.Settle a e) tt

-- ---- events of the system

module _ (first second : List ℕ) (s : Sys) where
  system_of_controller : {B : Type 0} (make : ℕ → B → Sys) (other : Option B) → ((c : ℕ) (b : B) → c < 4 → IsProperSystem (make c b))
      → option_and_then (λ c. option_and_then (λ b. Some (make c b)) other) (number_below first 4) ≡ Some s → IsProperSystem s
  system_of_controller make other proper e =
      let p = said_by (λ c. option_and_then (λ b. Some (make c b)) other) (number_below first 4) s e in
      let q = said_by (λ b. Some (make p.0 b)) other s p.2 in
      subst IsProperSystem (same_Some (make p.0 q.0) s q.2) (proper p.0 q.0 (below_less first 4 p.0 p.1))

  system_of_seat : (make : ℕ → ℕ → Sys) → ((c w : ℕ) → IsPossibleSeat c w → IsProperSystem (make c w))
      → option_and_then (λ c. option_and_then (λ w. Some (make c w)) (number_below second 16)) (number_below first 4) ≡ Some s → IsProperSystem s
  system_of_seat make proper e =
      let p = said_by (λ c. option_and_then (λ w. Some (make c w)) (number_below second 16)) (number_below first 4) s e in
      let q = said_by (λ w. Some (make p.0 w)) (number_below second 16) s p.2 in
      subst IsProperSystem (same_Some (make p.0 q.0) s q.2)
      (proper p.0 q.0 (record { controllers = below_less first 4 p.0 p.1; workers = below_less second 16 q.0 q.1 }))

  system_clock : option_and_then (λ add. Some (sys.Clock add)) (digits_said first) ≡ Some s → IsProperSystem s
  system_clock e =
      let p = said_by (λ add. Some (sys.Clock add)) (digits_said first) s e in
      subst IsProperSystem (same_Some (sys.Clock p.0) s p.2) (number_few first p.0 p.1)

  found_system : (v : Verb) → system_said v first second ≡ Some s → IsProperSystem s
  unfolding system_said
  found_system verb.List e = system_of_controller (λ c k. sys.List c k) (kind_said second) (λ c k less. less) e
  found_system verb.Deliver e = system_of_controller (λ c k. sys.Deliver c k) (kind_said second) (λ c k less. less) e
  found_system verb.Begin e = system_of_seat (λ c w. sys.Begin c w) (λ c w seat. seat) e
  found_system verb.Step e = system_of_seat (λ c w. sys.Step c w) (λ c w seat. seat) e
  found_system verb.Node e = subst IsProperSystem (same_Some sys.Node s e) tt
  found_system verb.Clock e = system_clock e
  found_system verb.Create e = absurd (none-some s e)
  found_system verb.Update e = absurd (none-some s e)
  found_system verb.Delete e = absurd (none-some s e)
  found_system verb.Mark e = absurd (none-some s e)
  found_system verb.Strip e = absurd (none-some s e)
  found_system verb.Finish e = absurd (none-some s e)
  found_system verb.Report e = absurd (none-some s e)
  found_system verb.Fate e = absurd (none-some s e)
  found_system verb.Restart e = absurd (none-some s e)
  found_system verb.Fault e = absurd (none-some s e)
  found_system verb.Settle e = absurd (none-some s e)

-- ---- the whole line

proper_of : (word text : List ℕ) (lane : Option ℕ) (r : LineRead) → tag_said word ≡ Some lane → read_by lane text ≡ Some r → IsProperRead r
proper_of word text (Some lane) r tag e =
    let first = first_word_in (behind_word text) in
    let second = first_word_in (behind_word (behind_word text)) in
    let third = first_word_in (behind_word (behind_word (behind_word text))) in
    let make : Action1 → LineRead = λ a. record { lane = Some lane; act = Command a } in
    let p = mapped_by make (action_by (first_word_in text) first second third) r e in
    let q = said_by (λ v. act_said v first second third) (verb_said (first_word_in text)) p.0 p.1 in
    subst IsProperRead p.2 (tag_few word lane tag, found_action first second third p.0 q.0 q.2)
proper_of word text None r tag e =
    let first = first_word_in (behind_word text) in
    let second = first_word_in (behind_word (behind_word text)) in
    let make : Sys → LineRead = λ s. record { lane = None; act = System s } in
    let p = mapped_by make (system_by (first_word_in text) first second) r e in
    let q = said_by (λ v. system_said v first second) (verb_said (first_word_in text)) p.0 p.1 in
    subst IsProperRead p.2 (found_system first second p.0 q.0 q.2)

begins : (front line : List ℕ) → begins_with front line ≡ true → line ≡ front ++ drop (length front) line
begins front line e =
    sym (take-append-drop (length front) line)
    ∙ ap (λ l. l ++ drop (length front) line) (sym ((bytes_decides front (take (length front) line)).0 e))

pub event_found : (line : List ℕ) (r : LineRead) → event_said line ≡ Some r → IsProperRead r × BeginsWith line r
unfolding event_said
event_found line r e =
    let text = behind_word (behind_word line) in
    let word = first_word_in (behind_word line) in
    let p = said_by (if_printed line) (option_and_then (λ lane. read_by lane text) (tag_said word)) r e in
    let q = said_by (λ lane. read_by lane text) (tag_said word) p.0 p.1 in
    let front : ℕ → List ℕ = λ n. front_text n p.0.lane (act_of_line p.0.act) in
    let m = said_by (λ n. cond (begins_with (front n) line) (Some p.0) None) (digits_said (first_word_in line)) r p.2 in
    let s = tested_by (begins_with (front m.0) line) p.0 r m.2 in
    let rest = drop (length (front m.0)) line in
    let is : line ≡ front m.0 ++ rest = begins (front m.0) line s.0 in
    subst (λ (r : LineRead). IsProperRead r × BeginsWith line r) s.1
    (proper_of word text q.0 p.0 q.1 q.2, record { number = m.0; few = number_few (first_word_in line) m.0 m.1; rest = rest; is = is })

-- ---- an answer that is what the line says

pub found_of : {E : Type 0} (line : List ℕ) (r : Result (Option LineRead) E) → IfOk r (λ o. o ≡ event_said line)
    → IfOk r (λ o. IfSome o (λ read. IsProperRead read × BeginsWith line read))
found_of line (Ok None) is = tt
found_of line (Ok (Some found)) is = event_found line found (sym is)
found_of line (Err fault) is = tt

pub only_of : {E : Type 0} (line : List ℕ) (r : Result (Option LineRead) E) → IfOk r (λ o. o ≡ event_said line)
    → (found : LineRead) → IsProperRead found → BeginsWith line found → IfOk r (λ o. o ≡ Some (begun_read found))
only_of line (Ok o) is found proper b = is ∙ ap event_said b.is ∙ event_again b.number found b.rest b.few proper
only_of line (Err fault) is found proper b = tt
