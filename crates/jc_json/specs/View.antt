-- The data that a value stands for.
use Rattle.std.specs.Prelude.{ℕ, true, false, List, [], ◌∷◌, map}
use Rattle.std.specs.Borrow.{Bor}
use Rattle.serde_json.specs.Data.{Data, null, boolean, number, string, array, object, Items, Members, no_members, member, put}
use Rattle.serde_json.specs.View.{items_of, number_view}
use Rattle.jc_json.specs.declared.value.Value.{Value, fold-Value}
use Rattle.jc_json.specs.declared.value.Value.TheOpen.{Value-F}

-- The members go in one after another, so the last value of a name stays.
abbrev pub members_of : List (Bor (List ℕ) × Data) → Members → Members
members_of [] found = found
members_of (m ∷ ms) found = members_of ms (put m.0.now m.1 found)

-- one level, with each value inside already seen as its data
abbrev pub view_step : Value-F Data → Data
view_step Value-F.Null = null
view_step Value-F.True = boolean true
view_step Value-F.False = boolean false
view_step (Value-F.Number x) = number (number_view x)
view_step (Value-F.String s) = string s.now
view_step (Value-F.Array v) = array (items_of v.now)
view_step (Value-F.Object v) = object (members_of v.now no_members)

abbrev pub view : Value → Data
view = fold-Value Data view_step

abbrev pub items_view : List Value → Items
items_view vs = items_of (map view vs)

-- the members found before, and those behind them
abbrev pub members_view : List (Bor (List ℕ) × Value) → Members → Members
members_view ms found = members_of (map (λ m. (m.0, view m.1)) ms) found

-- members that stand in byte order of their names, each once
abbrev pub ordered_view : List (Bor (List ℕ) × Bor Value) → Members
ordered_view [] = no_members
ordered_view (m ∷ ms) = member m.0.now (view m.1.now) (ordered_view ms)
