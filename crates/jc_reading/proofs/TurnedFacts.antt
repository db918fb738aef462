-- What a spelled value is turned into is spelled: so what is read of it is allowed.
use Rattle.std.proofs.Common.{◌≡◌, List, [], ℕ, codes, Option, Some, None, option_and_then, IfSome, IsUtf8, refl, sym, subst}
use Rattle.std.specs.Prelude.{unwrap_or}
use Rattle.serde_json.specs.Data.{Data, null, boolean, number, string, array, object, Items, no_items, item, Members, no_members, put}
use Rattle.serde_json.specs.Find.{as_array, as_str, get}
use Rattle.jc_json.specs.Field.{member_of, needed_object}
use Rattle.jc_manifest.specs.Manifests.{spec_of}
use Rattle.jc_rows.specs.ManifestRows.{object_in}
use Rattle.jc_types.specs.declared.objects.KeyNames.{KeyNames as Key}
use Rattle.jc_reading.specs.Manifested.{all_named, items_named, manifest_data, manifest_spec, members_in, pod_spec_of}
use Rattle.jc_reading.specs.Proper.{HasUnicodeTypes}
use Rattle.jc_reading.specs.Spelled.{AreSpelled, HasSpelled, IsSpelled}
use Rattle.jc_reading.specs.Turned.{items_at, numbers_by_name, of_member, put_named, report_of}
use Rattle.jc_reading.proofs.JobTexts.{named, types_in}
use Rattle.jc_reading.proofs.SpelledMembers.{found_spelled}
use Rattle.jc_reading.proofs.SpelledFacts.{put_spelled}

pub member_turned : (name : List ℕ) (d : Data) → IsUtf8 name → IsSpelled d → IsSpelled (of_member name d)
member_turned name d text h = put_spelled name d no_members text h tt

-- ---- the manifest of a specification

members_spelled : (o : Option Data) → IfSome o IsSpelled → HasSpelled (members_in o)
members_spelled None h = tt
members_spelled (Some null) h = tt
members_spelled (Some (boolean b)) h = tt
members_spelled (Some (number n)) h = tt
members_spelled (Some (string s)) h = tt
members_spelled (Some (array ds)) h = tt
members_spelled (Some (object ms)) h = h

items_spelled : (ds : Items) → AreSpelled ds → AreSpelled (items_named ds)
items_spelled no_items h = tt
items_spelled (item d ds) h = (put_spelled (codes "name") d no_members (named (codes "name") refl) h.0 tt, items_spelled ds h.1)

names_spelled : (o : Option Data) → IfSome o IsSpelled → IsSpelled (all_named o)
names_spelled None h = tt
names_spelled (Some null) h = tt
names_spelled (Some (boolean b)) h = tt
names_spelled (Some (number n)) h = tt
names_spelled (Some (string s)) h = tt
names_spelled (Some (array ds)) h = items_spelled ds h
names_spelled (Some (object ms)) h = tt

found_in : (k : List ℕ) (o : Option Data) → IfSome o IsSpelled → IfSome (option_and_then (get k) o) IsSpelled
found_in k None h = tt
found_in k (Some d) h = found_spelled k d h

pod_spelled : (o : Option Data) → IfSome o IsSpelled → IsSpelled (pod_spec_of o)
unfolding pod_spec_of
pod_spelled o h =
    put_spelled _ _ _ (named (codes "initContainers") refl) (names_spelled _ (found_in (codes "initContainers") o h))
    (put_spelled _ _ _ (named (codes "containers") refl) (names_spelled _ (found_in (codes "containers") o h)) (members_spelled o h))

spec_turned : (d : Data) → IsSpelled d → IsSpelled (manifest_spec d)
unfolding manifest_spec
spec_turned d h =
    put_spelled _ _ _ (named (codes "template") refl)
    (put_spelled _ _ no_members (named (codes "spec") refl) (pod_spelled (get (codes "template") d) (found_spelled (codes "template") d h)) tt)
    (members_spelled (Some d) h)

spec_given : (key : Key) (d : Data) → object_in [] (manifest_data key d) (codes "spec") ≡ manifest_spec d
unfolding object_in needed_object member_of manifest_data manifest_spec
spec_given key d = refl

pub manifest_types : (key : Key) (d : Data) → IsSpelled d → HasUnicodeTypes (spec_of [] (manifest_data key d))
manifest_types key d h = types_in [] (manifest_data key d) (subst IsSpelled (sym (spec_given key d)) (spec_turned d h))

-- ---- the line of a report

or_null : (o : Option Data) → IfSome o IsSpelled → IsSpelled (unwrap_or o null)
or_null None h = tt
or_null (Some d) h = h

items_of_array : (o : Option Data) → IfSome o IsSpelled → AreSpelled (unwrap_or (option_and_then as_array o) no_items)
items_of_array None h = tt
items_of_array (Some null) h = tt
items_of_array (Some (boolean b)) h = tt
items_of_array (Some (number n)) h = tt
items_of_array (Some (string s)) h = tt
items_of_array (Some (array ds)) h = h
items_of_array (Some (object ms)) h = tt

text_of_string : (o : Option Data) → IfSome o IsSpelled → IfSome (option_and_then as_str o) IsUtf8
text_of_string None h = tt
text_of_string (Some null) h = tt
text_of_string (Some (boolean b)) h = tt
text_of_string (Some (number n)) h = tt
text_of_string (Some (string s)) h = h
text_of_string (Some (array ds)) h = tt
text_of_string (Some (object ms)) h = tt

put_turned : (name : Option (List ℕ)) (given : Option Data) (ms : Members) → IfSome name IsUtf8 → IfSome given IsSpelled → HasSpelled ms
    → HasSpelled (put_named name given ms)
put_turned None given ms text one all = all
put_turned (Some name) None ms text one all = all
put_turned (Some name) (Some d) ms text one all = put_spelled name d ms text one all

numbers_turned : (field : List ℕ) (ds : Items) (ms : Members) → AreSpelled ds → HasSpelled ms → HasSpelled (numbers_by_name field ds ms)
numbers_turned field no_items ms h all = all
numbers_turned field (item d ds) ms h all =
    numbers_turned field ds _ h.1
    (put_turned _ (get field d) ms (text_of_string (get (codes "name") d) (found_spelled (codes "name") d h.0)) (found_spelled field d h.0) all)

pub report_turned : (d : Data) → IsSpelled d → IsSpelled (report_of d)
unfolding report_of
report_turned d h =
    let items : Items = items_at (codes "containers") d in
    let containers : AreSpelled items = items_of_array (get (codes "containers") d) (found_spelled (codes "containers") d h) in
    put_spelled (codes "conditions") (unwrap_or (get (codes "conditions") d) null)
    (put (codes "exitCodes") (object (numbers_by_name (codes "exitCode") items no_members))
    (put (codes "restartCounts") (object (numbers_by_name (codes "restartCount") items no_members)) (put (codes "phase") (unwrap_or (get (codes "phase") d) null) no_members)))
    (named (codes "conditions") refl) (or_null (get (codes "conditions") d) (found_spelled (codes "conditions") d h))
    (put_spelled (codes "exitCodes") (object (numbers_by_name (codes "exitCode") items no_members))
    (put (codes "restartCounts") (object (numbers_by_name (codes "restartCount") items no_members)) (put (codes "phase") (unwrap_or (get (codes "phase") d) null) no_members))
    (named (codes "exitCodes") refl) (numbers_turned (codes "exitCode") items no_members containers tt)
    (put_spelled (codes "restartCounts") (object (numbers_by_name (codes "restartCount") items no_members)) (put (codes "phase") (unwrap_or (get (codes "phase") d) null) no_members)
    (named (codes "restartCounts") refl) (numbers_turned (codes "restartCount") items no_members containers tt)
    (put_spelled (codes "phase") (unwrap_or (get (codes "phase") d) null) no_members
    (named (codes "phase") refl) (or_null (get (codes "phase") d) (found_spelled (codes "phase") d h)) tt)))
