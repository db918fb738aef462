-- What is printed of a proper act is read back from its words.
use Rattle.std.proofs.Common.{◌≡◌, ℕ, ◌+◌, ◌-◌, ◌*◌, ◌<◌, ◌≤◌, ◌^◌, ◌/◌, ◌%◌, ◌==◌, ℤ, pos, Bool, true, false, cond, ◌&&◌, ◌||◌, List, [], ◌∷◌, ◌++◌, length, take, codes, decimal, Option, Some, None, is_some, option_map, option_and_then}
use Rattle.std.proofs.Common.{IfSome, refl, sym, ap, ap₂, ◌∙◌, arith, append_assoc, true≢false, le-leb, lt-ltb, ne_eqb, eqb-true}
use Rattle.std.specs.Prelude.{nat_le, nat_lt, is_none}
use Rattle.std.specs.Fmt.{signed_decimal}
use Rattle.std.specs.List.{list_all, onto_first, slice_split}
use Rattle.std.specs.Result.{result_ok}
use Rattle.std.proofs.lemmas.Bool.{leb-true}
use Rattle.std.proofs.lemmas.Str.{is_utf8-from_IsUtf8}
use Rattle.json.proofs.Printed.Utf8.{IsUtf8-are_ascii, are_ascii}
use Rattle.std.specs.Cmp.Lexicographic.{bytes_decides}
use Rattle.std.proofs.lemmas.Fmt.{decimal_by_steps}
use Rattle.serde_json.specs.Written.{compact_text}
use Rattle.jc_log.specs.Deeds.{act_of_action, act_of_system}
use Rattle.jc_manifest.specs.Manifests.{key_of, spec_of}
use Rattle.jc_manifest.proofs.IndexSetFacts.{left, right}
use Rattle.jc_print.specs.PrintedSpecs.{change_data, spec_data}
use Rattle.jc_rows.specs.NameForms.{has_length_of_name, is_part, is_plain}
use Rattle.jc_script.specs.EndMembers.{ends_said}
use Rattle.jc_script.specs.Phases.{report_in}
use Rattle.jc_script.specs.Updates.{change_in}
use Rattle.jc_types.specs.declared.actions.Action1.{Action1}
use Rattle.jc_types.specs.declared.actions.Action1.TheVariants as act
use Rattle.jc_types.specs.declared.actions.End.{End}
use Rattle.jc_types.specs.declared.actions.Fault.{Fault}
use Rattle.jc_types.specs.declared.actions.Fault.TheVariants.{Drop, Lose}
use Rattle.jc_types.specs.declared.actions.PhaseChange.{PhaseChange}
use Rattle.jc_types.specs.declared.actions.SpecChange.{SpecChange}
use Rattle.jc_types.specs.declared.numbers.Uid.{Uid}
use Rattle.jc_types.specs.declared.numbers.Version.{Version}
use Rattle.jc_types.specs.declared.objects.KeyNames.{KeyNames as Key}
use Rattle.jc_types.specs.declared.objects.Kind.{Kind}
use Rattle.jc_types.specs.declared.objects.Kind.TheVariants.{Jobs, Pods}
use Rattle.jc_types.specs.declared.specifications.JobSpec.{JobSpec}
use Rattle.jc_lines.specs.ActTexts.{act_text, wanted_text}
use Rattle.jc_reading.specs.Allowed.{IsAllowedKey}
use Rattle.jc_lines.specs.ChangeTexts.{ends_data, phase_change_data}
use Rattle.jc_reading.specs.Cuts.{IsWord, behind_word, first_word_in}
use Rattle.jc_reading.specs.Manifested.{manifest_data}
use Rattle.jc_reading.specs.Proper.{IsPod, IsPossibleSeat, IsExit, IsProperAction, IsProperSystem, as_begin}
use Rattle.jc_reading.specs.LineReadings.{action_read, act_said, number_below, change_said, digits_from, ends_printed, fault_said, is_digit, job_if, printed_job, key_if, key_said, kind_said, digits_said, parted, onto_front, pod_said}
use Rattle.jc_reading.specs.LineReadings.{report_said, subdomain_if, system_said, tag_said, uid_at, verb_named, verb_said, version_from, version_printed}
use Rattle.jc_reading.specs.Turned.{of_member, report_of, ReadAsEnds, ReadsAsChange, ReadsAsJob, ReadsAsReport}
use Rattle.jc_lines.specs.Events.{tag_text}
use Rattle.jc_reading.specs.Reads.{IsProperOf, IsProperRead, act_of_line, begun_act, begun_read, event_said, front_text, if_printed, read_by, begins_with, system_read}
use Rattle.jc_reading.specs.declared.reads.LineAct.{LineAct}
use Rattle.jc_reading.specs.declared.reads.LineAct.TheVariants.{Command, System}
use Rattle.jc_reading.specs.declared.reads.LineRead.{LineRead}
use Rattle.jc_types.specs.declared.runs.Sys.{Sys}
use Rattle.jc_types.specs.declared.runs.Sys.TheVariants as sys
use Rattle.jc_lines.specs.ReportWords.{fault_word, key_text, objects_word}
use Rattle.jc_reading.specs.declared.reading.Verb.{Verb}
use Rattle.jc_reading.specs.declared.reading.Verb.TheVariants as verb
use Rattle.jc_reading.proofs.CutFacts.{ArePlain, IsPlain, after_word, decimal_word, first_word, plain_word, text_word}
use Rattle.jc_reading.proofs.PartsAgain.{change_reads, ends_read, job_reads, report_reads}
use Rattle.std.proofs.Math.Seq.{take-append_seam as take_front}

-- ---- numbers

digits_more : (m : ℕ) (ds : List ℕ) (b : ℕ) (n : ℕ) → digits_from m ds ≡ Some n → digits_from m (ds ++ b ∷ []) ≡ digits_from n (b ∷ [])
digits_more m [] b n e = ap (λ o. elim o as (λ o. Option ℕ) [ None ↦ None | Some k ↦ digits_from k (b ∷ []) ]) e
digits_more m (d ∷ ds) b n e = by (is_digit d && nat_lt (m * 10 + (d - 48)) 18446744073709551616) (digits_more (m * 10 + (d - 48)) ds b n) e
  where
    by : (t : Bool) → (digits_from (m * 10 + (d - 48)) ds ≡ Some n → digits_from (m * 10 + (d - 48)) (ds ++ b ∷ []) ≡ digits_from n (b ∷ []))
        → cond t (digits_from (m * 10 + (d - 48)) ds) None ≡ Some n → cond t (digits_from (m * 10 + (d - 48)) (ds ++ b ∷ [])) None ≡ digits_from n (b ∷ [])
    by true ih e = ih e
    by false ih e = absurd (true≢false (sym (ap is_some e)))

one_digit : (m d n : ℕ) → d < 10 → m * 10 + d ≡ n → n < 2 ^ 64 → digits_from m ((48 + d) ∷ []) ≡ Some n
one_digit m d n less is few =
    let back : 48 + d - 48 ≡ d = omega arith in
    let sum : m * 10 + (48 + d - 48) ≡ n = ap (λ k. m * 10 + k) back ∙ is in
    let low : nat_le 48 (48 + d) ≡ true = le-leb 48 (48 + d) (omega arith) in
    let high : nat_le (48 + d) 57 ≡ true = le-leb (48 + d) 57 (omega (arith, less)) in
    let fits : nat_lt (m * 10 + (48 + d - 48)) 18446744073709551616 ≡ true = lt-ltb _ _ (omega (arith, sum, few)) in
    ap₂ (λ a b. cond ((a && b) && nat_lt (m * 10 + (48 + d - 48)) 18446744073709551616) (Some (m * 10 + (48 + d - 48))) None) low high
    ∙ ap (λ b. cond b (Some (m * 10 + (48 + d - 48))) None) fits ∙ ap Some sum

abbrev IsBack : ℕ → List ℕ → Type 0
IsBack n ds = n < 2 ^ 64 → digits_from 0 ds ≡ Some n

number_again : (n : ℕ) → n < 2 ^ 64 → digits_said (decimal n) ≡ Some n
unfolding digits_said
number_again n few =
    decimal_by_steps IsBack
    (λ n less few. one_digit 0 n n less (omega arith) few)
    (λ n ds ten ih few. digits_more 0 ds (48 + n % 10) (n / 10) (ih (omega (arith, few))) ∙ one_digit (n / 10) (n % 10) n (omega arith) (omega arith) few)
    n few few

below_again : (n bound : ℕ) → n < bound → bound ≤ 2 ^ 64 → number_below (decimal n) bound ≡ Some n
below_again n bound less few =
    ap (option_and_then (λ m. cond (nat_lt m bound) (Some m) None)) (number_again n (omega (arith, less, few)))
    ∙ ap (λ b. cond b (Some n) None) (lt-ltb n bound less)

pod_again : (pod : Uid) → IsPod pod → pod_said (decimal pod.0) ≡ Some pod
pod_again pod proper =
    let few = proper.few in
    ap (option_and_then (λ n. cond (nat_lt 0 n) (Some (uid_at n)) None)) (below_again pod.0 4294967296 (omega (arith, few)) (omega arith))
    ∙ ap (λ b. cond b (Some (uid_at pod.0)) None) (lt-ltb 0 pod.0 proper.some)

-- ---- versions

version_again : (v : Option Version) → IfSome v (λ (v : Version). v.0 < 2 ^ 32) → version_printed (wanted_text v) ≡ Some v
version_again None few = refl
version_again (Some v) few = ap (option_map (λ n. Some (version_from n))) (below_again v.0 4294967296 (omega (arith, few)) (omega arith))

pub wanted_word : (v : Option Version) → IsWord (wanted_text v)
wanted_word None = refl
wanted_word (Some v) = decimal_word v.0

-- ---- keys

-- A letter, a digit or a dash is none of the bytes below but the dash.
abbrev pub is_name_byte : ℕ → Bool
is_name_byte b = is_plain b || b == 45

byte_apart : (b n : ℕ) → is_name_byte b ≡ true → n < 48 → (n ≡ 45 → ⊥) → (b == n) ≡ false
byte_apart b n plain less dash = ne_eqb b n (λ e. by (nat_le 97 b && nat_le b 122) (nat_le 48 b && nat_le b 57) (b == 45) refl refl refl e plain)
  where
    by : (p q r : Bool) → (nat_le 97 b && nat_le b 122) ≡ p → (nat_le 48 b && nat_le b 57) ≡ q → (b == 45) ≡ r → b ≡ n → ((p || q) || r) ≡ true → ⊥
    by true q r is e f g plain = let more = leb-true 97 b (left (nat_le 97 b) (nat_le b 122) is) in omega (arith, more, g, less)
    by false true r e is f g plain = let more = leb-true 48 b (left (nat_le 48 b) (nat_le b 57) is) in omega (arith, more, g, less)
    by false false true e f is g plain = dash (sym g ∙ eqb-true b 45 is)
    by false false false e f h g plain = true≢false (sym plain)

name_byte_plain : (b : ℕ) → is_name_byte b ≡ true → IsPlain b
name_byte_plain b is = (byte_apart b 32 is (omega arith) (λ e. omega (arith, e)), byte_apart b 34 is (omega arith) (λ e. omega (arith, e)))

part_plain : (s : List ℕ) → list_all is_name_byte s ≡ true → ArePlain s
part_plain [] all = tt
part_plain (b ∷ s) all = (name_byte_plain b (left (is_name_byte b) _ all), part_plain s (right (is_name_byte b) _ all))

pub all_bytes : (s : List ℕ) → is_part s ≡ true → list_all is_name_byte s ≡ true
unfolding is_part
all_bytes s e = left (list_all is_name_byte s) _ e

-- ---- names of parts that are joined by points

abbrev pub parts_of : List ℕ → List (List ℕ)
parts_of s = slice_split (λ b. b == 46) s

pub weaker : (ps : List (List ℕ)) → list_all is_part ps ≡ true → list_all (λ p. list_all is_name_byte p) ps ≡ true
weaker [] all = refl
weaker (p ∷ ps) all = ap₂ (λ a b. a && b) (all_bytes p (left (is_part p) _ all)) (weaker ps (right (is_part p) _ all))

parts_plain : (s : List ℕ) → list_all (λ p. list_all is_name_byte p) (parts_of s) ≡ true → ArePlain s
parts_plain [] all = tt
parts_plain (b ∷ s) all = by (b == 46) refl (parts_of s) (parts_plain s) all
  where
    by : (t : Bool) → (b == 46) ≡ t → (ps : List (List ℕ)) → (list_all (λ p. list_all is_name_byte p) ps ≡ true → ArePlain s)
        → list_all (λ p. list_all is_name_byte p) (cond t ([] ∷ ps) (onto_first b ps)) ≡ true → ArePlain (b ∷ s)
    by true is ps ih all =
        let point : b ≡ 46 = eqb-true b 46 is in
        ((ne_eqb b 32 (λ e. omega (arith, point, e)), ne_eqb b 34 (λ e. omega (arith, point, e))), ih all)
    by false is [] ih all = (name_byte_plain b (left (is_name_byte b) true (left (is_name_byte b && true) true all)), ih refl)
    by false is (p ∷ ps) ih all =
        let first = left (is_name_byte b && list_all is_name_byte p) _ all in (
          name_byte_plain b (left (is_name_byte b) _ first),
          ih (ap₂ (λ x y. x && y) (right (is_name_byte b) _ first) (right (is_name_byte b && list_all is_name_byte p) _ all)),
        )

plain_both : (v w : List ℕ) → ArePlain v → ArePlain w → ArePlain (v ++ w)
plain_both [] w one other = other
plain_both (b ∷ v) w one other = (one.0, plain_both v w one.1 other)

module _ (key : Key) (allowed : IsAllowedKey key) where
  own_bytes : list_all is_name_byte key.namespace ≡ true
  own_bytes = all_bytes key.namespace (right (has_length_of_name key.namespace) (is_part key.namespace) allowed.namespace)

  pub key_word : IsWord (key_text key)
  key_word =
      plain_word (key_text key) (plain_both key.namespace (47 ∷ key.name) (part_plain key.namespace own_bytes)
      ((refl, refl), parts_plain key.name (weaker (parts_of key.name) (right (has_length_of_name key.name) _ allowed.name))))

  cut_there : (s rest : List ℕ) → list_all is_name_byte s ≡ true → parted (s ++ 47 ∷ rest) ≡ (s, rest)
  cut_there [] rest all = refl
  cut_there (b ∷ s) rest all =
      ap (λ t. cond t ([], s ++ 47 ∷ rest) (onto_front b (parted (s ++ 47 ∷ rest)))) (byte_apart b 47 (left (is_name_byte b) _ all) (omega arith) (λ e. omega (arith, e)))
      ∙ ap (onto_front b) (cut_there s rest (right (is_name_byte b) _ all))

  key_again : key_said (key_text key) ≡ Some key
  unfolding key_said
  key_again =
      ap key_if (cut_there key.namespace key.name own_bytes)
      ∙ ap (λ b. option_and_then (λ s. option_and_then (λ n. Some (record { namespace = s; name = n })) (subdomain_if key.name)) (cond b (Some key.namespace) None)) allowed.namespace
      ∙ ap (λ b. option_and_then (λ n. Some (record { namespace = key.namespace; name = n })) (cond b (Some key.name) None)) allowed.name

-- ---- JSON

job_again : (key : Key) (spec : JobSpec) → ReadsAsJob key spec → printed_job key (compact_text (spec_data spec)) ≡ Some (key, spec)
unfolding printed_job
job_again key spec job =
    ap (option_and_then (λ d. job_if (manifest_data key d))) job.reads
    ∙ ap (λ row. cond (is_none row) (Some (key_of [] (manifest_data key (spec_data spec)), spec_of [] (manifest_data key (spec_data spec)))) None) job.accepted
    ∙ ap₂ (λ k s. Some (k, s)) job.names job.says

change_again : (change : SpecChange) → ReadsAsChange change → change_said (compact_text (change_data change)) ≡ Some change
unfolding change_said
change_again change is = ap (option_and_then (λ d. result_ok (change_in (of_member (codes "spec") d)))) is.reads ∙ ap result_ok is.said

report_again : (change : PhaseChange) → ReadsAsReport change → report_said (compact_text (phase_change_data change)) ≡ Some change
unfolding report_said
report_again change is = ap (option_and_then (λ d. result_ok (report_in (report_of d)))) is.reads ∙ ap result_ok is.said

ends_again : (ends : List End) → ReadAsEnds ends → ends_printed (compact_text (ends_data ends)) ≡ Some ends
unfolding ends_printed
ends_again ends is = ap (option_and_then (λ d. result_ok (ends_said (of_member (codes "ends") d)))) is.reads ∙ ap result_ok is.said

-- ---- words behind a verb

-- A verb of ASCII is text.
verb_is : (v : List ℕ) (kind : Verb) → are_ascii v ≡ true → verb_named v ≡ Some kind → verb_said v ≡ Some kind
unfolding verb_said
verb_is v kind ascii is = ap (λ b. cond b (verb_named v) None) (is_utf8-from_IsUtf8 v (IsUtf8-are_ascii v ascii)) ∙ is

module _ (v : List ℕ) (kind : Verb) (word : IsWord v) (is : verb_said v ≡ Some kind) where
  read_none : (more : List ℕ) → action_read (v ++ 32 ∷ more) ≡ act_said kind (first_word_in more) (first_word_in (behind_word more)) (first_word_in (behind_word (behind_word more)))
  read_none more =
      ap₂ (λ w r. option_and_then (λ k. act_said k (first_word_in r) (first_word_in (behind_word r)) (first_word_in (behind_word (behind_word r)))) (verb_said w)) (first_word v more word) (after_word v more word)
      ∙ ap (option_and_then (λ k. act_said k (first_word_in more) (first_word_in (behind_word more)) (first_word_in (behind_word (behind_word more))))) is

  read_one : (a more : List ℕ) → IsWord a → action_read (v ++ 32 ∷ (a ++ 32 ∷ more)) ≡ act_said kind a (first_word_in more) (first_word_in (behind_word more))
  read_one a more one =
      read_none (a ++ 32 ∷ more)
      ∙ ap₂ (λ w r. act_said kind w (first_word_in r) (first_word_in (behind_word r))) (first_word a more one) (after_word a more one)

  read_two : (a b more : List ℕ) → IsWord a → IsWord b → action_read (v ++ 32 ∷ (a ++ 32 ∷ (b ++ 32 ∷ more))) ≡ act_said kind a b (first_word_in more)
  read_two a b more one two =
      read_one a (b ++ 32 ∷ more) one
      ∙ ap₂ (λ w r. act_said kind a w (first_word_in r)) (first_word b more two) (after_word b more two)

  read_three : (a b c more : List ℕ) → IsWord a → IsWord b → IsWord c → action_read (v ++ 32 ∷ (a ++ 32 ∷ (b ++ 32 ∷ (c ++ 32 ∷ more)))) ≡ act_said kind a b c
  read_three a b c more one two three =
      read_two a b (c ++ 32 ∷ more) one two ∙ ap (act_said kind a b) (first_word c more three)

-- The same, of a text whose parts are put together before what follows.
pub two_parts : (a b more : List ℕ) → (a ++ 32 ∷ b) ++ 32 ∷ more ≡ a ++ 32 ∷ (b ++ 32 ∷ more)
two_parts a b more = append_assoc a (32 ∷ b) (32 ∷ more)

pub three_parts : (a b c more : List ℕ) → (a ++ 32 ∷ (b ++ 32 ∷ c)) ++ 32 ∷ more ≡ a ++ 32 ∷ (b ++ 32 ∷ (c ++ 32 ∷ more))
three_parts a b c more = append_assoc a (32 ∷ (b ++ 32 ∷ c)) (32 ∷ more) ∙ ap (λ l. a ++ 32 ∷ l) (two_parts b c more)

kind_word : (k : Kind) → IsWord (objects_word k)
kind_word Jobs = refl
kind_word Pods = refl

kind_again : (k : Kind) → kind_said (objects_word k) ≡ Some k
kind_again Jobs = refl
kind_again Pods = refl

fault_is_word : (f : Fault) → IsWord (fault_word f)
fault_is_word Drop = refl
fault_is_word Lose = refl

fault_again : (f : Fault) → fault_said (fault_word f) ≡ Some f
fault_again Drop = refl
fault_again Lose = refl

seat_first : (c w : ℕ) → IsPossibleSeat c w → number_below (decimal c) 4 ≡ Some c
seat_first c w seat = below_again c 4 seat.controllers (omega arith)

seat_second : (c w : ℕ) → IsPossibleSeat c w → number_below (decimal w) 16 ≡ Some w
seat_second c w seat = below_again w 16 seat.workers (omega arith)

exit_is : (exit : ℤ) (e : IsExit exit) → signed_decimal exit ≡ decimal e.code
exit_is exit e = ap signed_decimal e.is

-- ---- all acts

pub action_again : (a : Action1) (more : List ℕ) → IsProperAction a → action_read (act_text (act_of_action a) ++ 32 ∷ more) ≡ Some (as_begin a)
unfolding act_said
action_again (act.Create key spec) more proper =
    ap (λ l. action_read (codes "create" ++ 32 ∷ l)) (two_parts (key_text key) (compact_text (spec_data spec)) more)
    ∙ read_two (codes "create") verb.Create refl (verb_is _ verb.Create refl refl) (key_text key) (compact_text (spec_data spec)) more (key_word key proper.0) (text_word (spec_data spec))
    ∙ ap (option_and_then (λ k. option_and_then (λ (j : Key × JobSpec). Some (act.Create j.0 j.1)) (printed_job k (compact_text (spec_data spec))))) (key_again key proper.0)
    ∙ ap (option_and_then (λ (j : Key × JobSpec). Some (act.Create j.0 j.1))) (job_again key spec (job_reads key spec proper.0 proper.1 proper.2))
action_again (act.Update key version change) more proper =
    ap (λ l. action_read (codes "update" ++ 32 ∷ l)) (three_parts (key_text key) (wanted_text version) (compact_text (change_data change)) more)
    ∙ read_three (codes "update") verb.Update refl (verb_is _ verb.Update refl refl) (key_text key) (wanted_text version) (compact_text (change_data change)) more (key_word key proper.0) (wanted_word version) (text_word (change_data change))
    ∙ ap (option_and_then (λ k. option_and_then (λ v. option_and_then (λ c. Some (act.Update k v c)) (change_said (compact_text (change_data change)))) (version_printed (wanted_text version)))) (key_again key proper.0)
    ∙ ap (option_and_then (λ v. option_and_then (λ c. Some (act.Update key v c)) (change_said (compact_text (change_data change))))) (version_again version proper.1)
    ∙ ap (option_and_then (λ c. Some (act.Update key version c))) (change_again change (change_reads change proper.2))
action_again (act.Delete key) more proper =
    read_one (codes "delete") verb.Delete refl (verb_is _ verb.Delete refl refl) (key_text key) more (key_word key proper)
    ∙ ap (option_and_then (λ k. Some (act.Delete k))) (key_again key proper)
action_again (act.Mark pod) more proper =
    read_one (codes "mark") verb.Mark refl (verb_is _ verb.Mark refl refl) (decimal pod.0) more (decimal_word pod.0)
    ∙ ap (option_and_then (λ p. Some (act.Mark p))) (pod_again pod proper)
action_again (act.Strip pod) more proper =
    read_one (codes "strip") verb.Strip refl (verb_is _ verb.Strip refl refl) (decimal pod.0) more (decimal_word pod.0)
    ∙ ap (option_and_then (λ p. Some (act.Strip p))) (pod_again pod proper)
action_again (act.Finish pod exit) more proper =
    ap (λ l. action_read (codes "finish" ++ 32 ∷ l)) (two_parts (decimal pod.0) (signed_decimal exit) more ∙ ap (λ l. decimal pod.0 ++ 32 ∷ (l ++ 32 ∷ more)) (exit_is exit proper.1))
    ∙ read_two (codes "finish") verb.Finish refl (verb_is _ verb.Finish refl refl) (decimal pod.0) (decimal proper.1.code) more (decimal_word pod.0) (decimal_word proper.1.code)
    ∙ ap (option_and_then (λ p. option_and_then (λ n. Some (act.Finish p (pos n))) (number_below (decimal proper.1.code) 256))) (pod_again pod proper.0)
    ∙ ap (option_and_then (λ n. Some (act.Finish pod (pos n)))) (let few = proper.1.few in below_again proper.1.code 256 (omega (arith, few)) (omega arith))
    ∙ ap (λ z. Some (act.Finish pod z)) (sym proper.1.is)
action_again (act.Report pod change) more proper =
    ap (λ l. action_read (codes "report" ++ 32 ∷ l)) (two_parts (decimal pod.0) (compact_text (phase_change_data change)) more)
    ∙ read_two (codes "report") verb.Report refl (verb_is _ verb.Report refl refl) (decimal pod.0) (compact_text (phase_change_data change)) more (decimal_word pod.0) (text_word (phase_change_data change))
    ∙ ap (option_and_then (λ p. option_and_then (λ c. Some (act.Report p c)) (report_said (compact_text (phase_change_data change))))) (pod_again pod proper.0)
    ∙ ap (option_and_then (λ c. Some (act.Report pod c))) (report_again change (report_reads change proper.1))
action_again (act.Fate key ends) more proper =
    ap (λ l. action_read (codes "fate" ++ 32 ∷ l)) (two_parts (key_text key) (compact_text (ends_data ends)) more)
    ∙ read_two (codes "fate") verb.Fate refl (verb_is _ verb.Fate refl refl) (key_text key) (compact_text (ends_data ends)) more (key_word key proper.0) (text_word (ends_data ends))
    ∙ ap (option_and_then (λ k. option_and_then (λ e. Some (act.Fate k e)) (ends_printed (compact_text (ends_data ends))))) (key_again key proper.0)
    ∙ ap (option_and_then (λ e. Some (act.Fate key e))) (ends_again ends (ends_read ends proper.1))
action_again (act.Clock add) more proper =
    read_one (codes "clock") verb.Clock refl (verb_is _ verb.Clock refl refl) (decimal add) more (decimal_word add)
    ∙ ap (option_and_then (λ n. Some (act.Clock n))) (below_again add 4294967296 (omega (arith, proper)) (omega arith))
action_again (act.List c k) more proper =
    ap (λ l. action_read (codes "list" ++ 32 ∷ l)) (two_parts (decimal c) (objects_word k) more)
    ∙ read_two (codes "list") verb.List refl (verb_is _ verb.List refl refl) (decimal c) (objects_word k) more (decimal_word c) (kind_word k)
    ∙ ap (option_and_then (λ n. option_and_then (λ k. Some (act.List n k)) (kind_said (objects_word k)))) (below_again c 4 proper (omega arith))
    ∙ ap (option_and_then (λ k. Some (act.List c k))) (kind_again k)
action_again (act.Deliver c k) more proper =
    ap (λ l. action_read (codes "deliver" ++ 32 ∷ l)) (two_parts (decimal c) (objects_word k) more)
    ∙ read_two (codes "deliver") verb.Deliver refl (verb_is _ verb.Deliver refl refl) (decimal c) (objects_word k) more (decimal_word c) (kind_word k)
    ∙ ap (option_and_then (λ n. option_and_then (λ k. Some (act.Deliver n k)) (kind_said (objects_word k)))) (below_again c 4 proper (omega arith))
    ∙ ap (option_and_then (λ k. Some (act.Deliver c k))) (kind_again k)
action_again (act.Begin c w) more proper =
    ap (λ l. action_read (codes "begin" ++ 32 ∷ l)) (two_parts (decimal c) (decimal w) more)
    ∙ read_two (codes "begin") verb.Begin refl (verb_is _ verb.Begin refl refl) (decimal c) (decimal w) more (decimal_word c) (decimal_word w)
    ∙ ap (option_and_then (λ n. option_and_then (λ m. Some (act.Begin n m)) (number_below (decimal w) 16))) (seat_first c w proper)
    ∙ ap (option_and_then (λ m. Some (act.Begin c m))) (seat_second c w proper)
action_again (act.Sync c w) more proper =
    ap (λ l. action_read (codes "begin" ++ 32 ∷ l)) (two_parts (decimal c) (decimal w) more)
    ∙ read_two (codes "begin") verb.Begin refl (verb_is _ verb.Begin refl refl) (decimal c) (decimal w) more (decimal_word c) (decimal_word w)
    ∙ ap (option_and_then (λ n. option_and_then (λ m. Some (act.Begin n m)) (number_below (decimal w) 16))) (seat_first c w proper)
    ∙ ap (option_and_then (λ m. Some (act.Begin c m))) (seat_second c w proper)
action_again (act.Step c w) more proper =
    ap (λ l. action_read (codes "step" ++ 32 ∷ l)) (two_parts (decimal c) (decimal w) more)
    ∙ read_two (codes "step") verb.Step refl (verb_is _ verb.Step refl refl) (decimal c) (decimal w) more (decimal_word c) (decimal_word w)
    ∙ ap (option_and_then (λ n. option_and_then (λ m. Some (act.Step n m)) (number_below (decimal w) 16))) (seat_first c w proper)
    ∙ ap (option_and_then (λ m. Some (act.Step c m))) (seat_second c w proper)
action_again act.Node more proper = read_none (codes "node") verb.Node refl (verb_is _ verb.Node refl refl) more
action_again (act.Restart c) more proper =
    read_one (codes "restart") verb.Restart refl (verb_is _ verb.Restart refl refl) (decimal c) more (decimal_word c)
    ∙ ap (option_and_then (λ n. Some (act.Restart n))) (below_again c 4 proper (omega arith))
action_again (act.PutFault c w f) more proper =
    ap (λ l. action_read (codes "fault" ++ 32 ∷ l)) (append_assoc (decimal c ++ 32 ∷ decimal w) (32 ∷ fault_word f) (32 ∷ more) ∙ append_assoc (decimal c) (32 ∷ decimal w) (32 ∷ (fault_word f ++ 32 ∷ more)))
    ∙ read_three (codes "fault") verb.Fault refl (verb_is _ verb.Fault refl refl) (decimal c) (decimal w) (fault_word f) more (decimal_word c) (decimal_word w) (fault_is_word f)
    ∙ ap (option_and_then (λ n. option_and_then (λ m. option_and_then (λ f. Some (act.PutFault n m f)) (fault_said (fault_word f))) (number_below (decimal w) 16))) (seat_first c w proper)
    ∙ ap (option_and_then (λ m. option_and_then (λ f. Some (act.PutFault c m f)) (fault_said (fault_word f)))) (seat_second c w proper)
    ∙ ap (option_and_then (λ f. Some (act.PutFault c w f))) (fault_again f)
action_again act.Settle more proper = read_none (codes "settled") verb.Settle refl (verb_is _ verb.Settle refl refl) more

-- ---- events of the system

module _ (v : List ℕ) (kind : Verb) (word : IsWord v) (is : verb_said v ≡ Some kind) where
  system_none : (more : List ℕ) → system_read (v ++ 32 ∷ more) ≡ system_said kind (first_word_in more) (first_word_in (behind_word more))
  system_none more =
      ap₂ (λ w r. option_and_then (λ k. system_said k (first_word_in r) (first_word_in (behind_word r))) (verb_said w)) (first_word v more word) (after_word v more word)
      ∙ ap (option_and_then (λ k. system_said k (first_word_in more) (first_word_in (behind_word more)))) is

  system_one : (a more : List ℕ) → IsWord a → system_read (v ++ 32 ∷ (a ++ 32 ∷ more)) ≡ system_said kind a (first_word_in more)
  system_one a more one = system_none (a ++ 32 ∷ more) ∙ ap₂ (λ w r. system_said kind w (first_word_in r)) (first_word a more one) (after_word a more one)

  system_two : (a b more : List ℕ) → IsWord a → IsWord b → system_read (v ++ 32 ∷ (a ++ 32 ∷ (b ++ 32 ∷ more))) ≡ system_said kind a b
  system_two a b more one two = system_one a (b ++ 32 ∷ more) one ∙ ap (system_said kind a) (first_word b more two)

pub system_again : (s : Sys) (more : List ℕ) → IsProperSystem s → system_read (act_text (act_of_system s) ++ 32 ∷ more) ≡ Some s
unfolding system_said
system_again (sys.List c k) more proper =
    ap (λ l. system_read (codes "list" ++ 32 ∷ l)) (two_parts (decimal c) (objects_word k) more)
    ∙ system_two (codes "list") verb.List refl (verb_is _ verb.List refl refl) (decimal c) (objects_word k) more (decimal_word c) (kind_word k)
    ∙ ap (option_and_then (λ n. option_and_then (λ k. Some (sys.List n k)) (kind_said (objects_word k)))) (below_again c 4 proper (omega arith))
    ∙ ap (option_and_then (λ k. Some (sys.List c k))) (kind_again k)
system_again (sys.Deliver c k) more proper =
    ap (λ l. system_read (codes "deliver" ++ 32 ∷ l)) (two_parts (decimal c) (objects_word k) more)
    ∙ system_two (codes "deliver") verb.Deliver refl (verb_is _ verb.Deliver refl refl) (decimal c) (objects_word k) more (decimal_word c) (kind_word k)
    ∙ ap (option_and_then (λ n. option_and_then (λ k. Some (sys.Deliver n k)) (kind_said (objects_word k)))) (below_again c 4 proper (omega arith))
    ∙ ap (option_and_then (λ k. Some (sys.Deliver c k))) (kind_again k)
system_again (sys.Begin c w) more proper =
    ap (λ l. system_read (codes "begin" ++ 32 ∷ l)) (two_parts (decimal c) (decimal w) more)
    ∙ system_two (codes "begin") verb.Begin refl (verb_is _ verb.Begin refl refl) (decimal c) (decimal w) more (decimal_word c) (decimal_word w)
    ∙ ap (option_and_then (λ n. option_and_then (λ m. Some (sys.Begin n m)) (number_below (decimal w) 16))) (seat_first c w proper)
    ∙ ap (option_and_then (λ m. Some (sys.Begin c m))) (seat_second c w proper)
system_again (sys.Step c w) more proper =
    ap (λ l. system_read (codes "step" ++ 32 ∷ l)) (two_parts (decimal c) (decimal w) more)
    ∙ system_two (codes "step") verb.Step refl (verb_is _ verb.Step refl refl) (decimal c) (decimal w) more (decimal_word c) (decimal_word w)
    ∙ ap (option_and_then (λ n. option_and_then (λ m. Some (sys.Step n m)) (number_below (decimal w) 16))) (seat_first c w proper)
    ∙ ap (option_and_then (λ m. Some (sys.Step c m))) (seat_second c w proper)
system_again sys.Node more proper = system_none (codes "node") verb.Node refl (verb_is _ verb.Node refl refl) more
system_again (sys.Clock add) more proper =
    system_one (codes "clock") verb.Clock refl (verb_is _ verb.Clock refl refl) (decimal add) more (decimal_word add)
    ∙ ap (option_and_then (λ n. Some (sys.Clock n))) (number_again add proper)

-- ---- the whole front of a line

pub tag_word : (lane : Option ℕ) → IsWord (tag_text lane)
tag_word None = refl
tag_word (Some lane) = decimal_word lane

tag_again : (lane : ℕ) → lane < 16 → tag_said (tag_text (Some lane)) ≡ Some (Some lane)
tag_again lane few = ap (option_map (λ n. Some n)) (below_again lane 16 few (omega arith))

-- The front of a line, with a blank between its parts, and what follows it.
pub front_parts : (a b c rest : List ℕ) → (a ++ 32 ∷ (b ++ 32 ∷ (c ++ 32 ∷ 45 ∷ 62 ∷ 32 ∷ []))) ++ rest ≡ a ++ 32 ∷ (b ++ 32 ∷ (c ++ 32 ∷ (45 ∷ 62 ∷ 32 ∷ rest)))
front_parts a b c rest =
    append_assoc a (32 ∷ (b ++ 32 ∷ (c ++ 32 ∷ 45 ∷ 62 ∷ 32 ∷ []))) rest
    ∙ ap (λ l. a ++ 32 ∷ l) (append_assoc b (32 ∷ (c ++ 32 ∷ 45 ∷ 62 ∷ 32 ∷ [])) rest ∙ ap (λ l. b ++ 32 ∷ l) (append_assoc c (32 ∷ 45 ∷ 62 ∷ 32 ∷ []) rest))

begun_does : (a : LineAct) → act_of_line (begun_act a) ≡ act_of_line a
begun_does (Command (act.Sync c w)) = refl
begun_does (Command (act.Create key spec)) = refl
begun_does (Command (act.Update key version change)) = refl
begun_does (Command (act.Delete key)) = refl
begun_does (Command (act.Mark pod)) = refl
begun_does (Command (act.Strip pod)) = refl
begun_does (Command (act.Finish pod exit)) = refl
begun_does (Command (act.Report pod change)) = refl
begun_does (Command (act.Fate key ends)) = refl
begun_does (Command (act.Clock add)) = refl
begun_does (Command (act.List c k)) = refl
begun_does (Command (act.Deliver c k)) = refl
begun_does (Command (act.Begin c w)) = refl
begun_does (Command (act.Step c w)) = refl
begun_does (Command act.Node) = refl
begun_does (Command (act.Restart c)) = refl
begun_does (Command (act.PutFault c w f)) = refl
begun_does (Command act.Settle) = refl
begun_does (System s) = refl

starts_front : (front rest : List ℕ) → begins_with front (front ++ rest) ≡ true
starts_front front rest = (bytes_decides front (take (length front) (front ++ rest))).1 (sym (take_front front rest))

read_again : (lane : Option ℕ) (a : LineAct) (more : List ℕ) → IsProperOf lane a
    → option_and_then (λ l. read_by l (act_text (act_of_line a) ++ 32 ∷ more)) (tag_said (tag_text lane)) ≡ Some (record { lane = lane; act = begun_act a })
read_again (Some lane) (Command action) more proper =
    ap (option_and_then (λ l. read_by l (act_text (act_of_action action) ++ 32 ∷ more))) (tag_again lane proper.0)
    ∙ ap (option_map (λ a. record { lane = Some lane; act = Command a })) (action_again action more proper.1)
read_again (Some lane) (System s) more proper = absurd proper
read_again None (Command action) more proper = absurd proper
read_again None (System s) more proper = ap (option_map (λ s. record { lane = None; act = System s })) (system_again s more proper)

pub event_again : (n : ℕ) (read : LineRead) (rest : List ℕ) → n < 2 ^ 64 → IsProperRead read
    → event_said (front_text n read.lane (act_of_line read.act) ++ rest) ≡ Some (begun_read read)
unfolding event_said
event_again n read rest few proper =
    let a = act_text (act_of_line read.act) in
    let tag = tag_text read.lane in
    let more = 45 ∷ 62 ∷ 32 ∷ rest in
    let line = front_text n read.lane (act_of_line read.act) ++ rest in
    let same : line ≡ decimal n ++ 32 ∷ (tag ++ 32 ∷ (a ++ 32 ∷ more)) = front_parts (decimal n) tag a rest in
    let one : behind_word line ≡ tag ++ 32 ∷ (a ++ 32 ∷ more) = ap behind_word same ∙ after_word (decimal n) _ (decimal_word n) in
    let two : behind_word (behind_word line) ≡ a ++ 32 ∷ more = ap behind_word one ∙ after_word tag _ (tag_word read.lane) in
    let number : digits_said (first_word_in line) ≡ Some n = ap digits_said (ap first_word_in same ∙ first_word (decimal n) _ (decimal_word n)) ∙ number_again n few in
    let tagged : first_word_in (behind_word line) ≡ tag = ap first_word_in one ∙ first_word tag _ (tag_word read.lane) in
    ap₂ (λ t r. option_and_then (if_printed line) (option_and_then (λ lane. read_by lane r) (tag_said t))) tagged two
    ∙ ap (option_and_then (if_printed line)) (read_again read.lane read.act more proper)
    ∙ ap (option_and_then (λ m. cond (begins_with (front_text m read.lane (act_of_line (begun_act read.act))) line) (Some (begun_read read)) None)) number
    ∙ ap (λ d. cond (begins_with (front_text n read.lane d) line) (Some (begun_read read)) None) (begun_does read.act)
    ∙ ap (λ b. cond b (Some (begun_read read)) None) (starts_front (front_text n read.lane (act_of_line read.act)) rest)
