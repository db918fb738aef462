-- What some values of lines say, by computation.
use Rattle.std.proofs.Common.{◌≡◌, refl, [], codes, Err}
use Rattle.serde_json.specs.Data.{number, string, array, object, unsigned, no_items, no_members, member}
use Rattle.jc_json.specs.Field.{member_of, needed_text, needed_number, needed_object, optional_number}
use Rattle.jc_json.specs.Place.{path_to}
use Rattle.jc_types.specs.declared.runs.Shape.{Shape}
use Rattle.jc_members.specs.declared.causes.Cause.TheVariants.{Missing, WrongType, OutOfRange, Invalid}
use Rattle.jc_script.specs.Commands.{value_says, object_says, command_in, lane_in, create_in, mark_in}
use Rattle.jc_members.specs.Members.{only_known, unknown_in, word_in, whole_number_in, given_number_in}
use Rattle.jc_members.specs.Named.{pod_named}
use Rattle.jc_script.specs.Verbs.{verb_in}

-- `[]`
no_object : (shape : Shape) → value_says shape (array no_items) ≡ Err (WrongType [])
unfolding value_says
no_object shape = refl

-- `{"do":"walk"}`
no_command : (shape : Shape) → value_says shape (object (member (codes "do") (string (codes "walk")) no_members)) ≡ Err (Invalid (codes "do") 29)
unfolding value_says object_says verb_in word_in needed_text member_of path_to
no_command shape = refl

-- `{"do":"settle","times":2}`
no_times : (shape : Shape) → value_says shape (object (member (codes "do") (string (codes "settle")) (member (codes "times") (number (unsigned 2)) no_members))) ≡ Err (Invalid (codes "times") 28)
unfolding value_says object_says verb_in word_in needed_text member_of path_to only_known unknown_in
no_times shape = refl

-- `{"do":"mark","pod":0}`
no_pod : (shape : Shape) → value_says shape (object (member (codes "do") (string (codes "mark")) (member (codes "pod") (number (unsigned 0)) no_members))) ≡ Err (OutOfRange (codes "pod"))
unfolding value_says object_says verb_in word_in needed_text member_of path_to only_known unknown_in command_in lane_in given_number_in optional_number mark_in pod_named whole_number_in needed_number
no_pod shape = refl

-- `{"do":"create"}`
no_job : (shape : Shape) → value_says shape (object (member (codes "do") (string (codes "create")) no_members)) ≡ Err (Missing (codes "job"))
unfolding value_says object_says verb_in word_in needed_text member_of path_to only_known unknown_in command_in lane_in given_number_in optional_number create_in needed_object
no_job shape = refl
