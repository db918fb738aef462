-- Values as a text spells them: each text in them is Unicode, and the members of each object stand in ascending order of
-- their names.
--     IsSpelled d     the value is so, with all that is in it
use Rattle.std.specs.Str.{IsUtf8}
use Rattle.serde_json.specs.Data.{Data, null, boolean, number, string, array, object, Items, no_items, item, Members, no_members, member}
use Rattle.jc_reading.specs.Compact.{IsAfter}

abbrev mutual
  pub IsSpelled : Data → Type 0
  IsSpelled null = Unit {0}
  IsSpelled (boolean b) = Unit {0}
  IsSpelled (number n) = Unit {0}
  IsSpelled (string s) = IsUtf8 s
  IsSpelled (array ds) = AreSpelled ds
  IsSpelled (object ms) = HasSpelled ms

  pub AreSpelled : Items → Type 0
  AreSpelled no_items = Unit {0}
  AreSpelled (item d ds) = IsSpelled d × AreSpelled ds

  pub HasSpelled : Members → Type 0
  HasSpelled no_members = Unit {0}
  HasSpelled (member k d ms) = IsUtf8 k × IsSpelled d × IsAfter k ms × HasSpelled ms
