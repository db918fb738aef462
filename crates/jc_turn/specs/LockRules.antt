-- The rule of a turn lock, and what each step on its word tells.
--     holds_value stage           a view at this stage holds
--     HasSlot stage homes         where the slot is while a view holds
--     KeepsView view                its old lists are beginnings of what it has seen; a note rests
--     AtHome, IsAway              the value is at home; it is out
--     KeepsLock pasts seats state   the rule
--     tried, .. , compared        what a step tells
use Rattle.std.specs.Prelude.{◌≡◌, ◌≢◌, ◌⊎◌, ℕ, ◌+◌, ◌-◌, nat_lt, Bool, true, false, List, [], ◌∷◌, length, if◌then◌else◌, Some, None, Option}
use Rattle.std.specs.List.{AllByRecursion as Each}
use mathlib.Core.Option as maybe
use mathlib.Core.Option.{some}
use mathlib.Core.List.{IsPrefix}
use lib.ListN.{get_elem?}
use Rattle.atomic_table.specs.Table.{State, Me, Step}
use Rattle.jc_types.specs.declared.runs.Past.{Past}
use Rattle.jc_turn.specs.declared.board.LockStage.{LockStage}
use Rattle.jc_turn.specs.declared.board.LockStage.TheVariants.{Rests, Moves, Holds}
use Rattle.jc_turn.specs.declared.board.LockPlaceView.{LockPlaceView}

-- A view at this stage holds.
abbrev pub holds_value : LockStage → Bool
holds_value Rests = false
holds_value Moves = true
holds_value Holds = true

-- Where the slot is while a view at this stage holds: with it, or at home and empty.
abbrev pub HasSlot : {T : Type 0} → LockStage → List (maybe.Option (Option T)) → Type 0
HasSlot Rests homes = ⊥
HasSlot Moves homes = homes ≡ maybe.none ∷ []
HasSlot Holds homes = homes ≡ some None ∷ []

-- For how many seats of the lock all views stand.
abbrev pub weights : List LockPlaceView → ℕ
weights [] = 0
weights (v ∷ vs) = v.weight + weights vs

-- The old lists that the view keeps are beginnings of what it has seen, and a note does not hold.
pub record KeepsView (v : LockPlaceView) : Type 0 where
  pub old : Each (λ (xs : List Past). IsPrefix xs v.seen) v.old
  pub note : v.weight ≡ 0 → v.stage ≡ Rests

-- The view does not hold, and has seen a beginning of this history. A view that is spent has seen
-- the empty one.
pub record IsBehind (history : List Past) (v : LockPlaceView) : Type 0 where
  pub rests : v.stage ≡ Rests
  pub seen : IsPrefix v.seen history

module _ {T : Type 0} (pasts : T → List Past) where
  -- The word is 0: the slot has the value, no view holds, and each has seen a beginning of its
  -- history.
  pub record AtHome (s : State (Option T) LockPlaceView) : Type 0 where
    pub value : T
    pub word : s.words ≡ 0 ∷ []
    pub slot : s.homes ≡ some (Some value) ∷ []
    pub views : (j : ℕ) (v : LockPlaceView) → get_elem? s.views j ≡ some v → IsBehind (pasts value) v

  -- The word is 1: exactly one view holds, and each other has seen a beginning of what it has
  -- seen.
  pub record IsAway (s : State (Option T) LockPlaceView) : Type 0 where
    pub holder : ℕ
    pub view : LockPlaceView
    pub word : s.words ≡ 1 ∷ []
    pub there : get_elem? s.views holder ≡ some view
    pub slot : HasSlot view.stage s.homes
    pub views : (j : ℕ) (v : LockPlaceView) → j ≢ holder → get_elem? s.views j ≡ some v → IsBehind view.seen v

  -- The rule.
  pub record KeepsLock (seats : ℕ) (s : State (Option T) LockPlaceView) : Type 0 where
    pub count : weights s.views ≡ seats
    pub sound : (j : ℕ) (v : LockPlaceView) → get_elem? s.views j ≡ some v → KeepsView v
    pub turn : AtHome s ⊎ IsAway s

-- The view of the first seat, which stands for all seats of the lock.
abbrev pub first_view : ℕ → LockPlaceView
first_view seats = record { stage = Rests; seen = []; old = []; weight = seats; lost = 0 }

-- What a spent view is: a note that has seen nothing.
abbrev pub spent_view : LockPlaceView
spent_view = first_view 0

abbrev pub longer_list : List Past → List Past → List Past
longer_list xs ys = if nat_lt (length xs) (length ys) then ys else xs

-- A note of what the view has seen.
abbrev pub note_of : LockPlaceView → LockPlaceView
note_of v = record { stage = Rests; seen = v.seen; old = []; weight = 0; lost = 0 }

-- The view stands for one seat less.
abbrev pub but_one : LockPlaceView → LockPlaceView
but_one v = record v { weight = v.weight - 1 }

-- The view of that one seat.
abbrev pub one_of : LockPlaceView → LockPlaceView
one_of v = record { stage = Rests; seen = v.seen; old = []; weight = 1; lost = 0 }

-- The first view has the longer list, and keeps both.
abbrev pub joined_views : LockPlaceView → LockPlaceView → LockPlaceView
joined_views v w = record v {
  seen = longer_list v.seen w.seen;
  old = v.seen ∷ w.seen ∷ [];
  weight = v.weight + w.weight;
}

abbrev pub at_stage : LockStage → LockPlaceView → LockPlaceView
at_stage stage v = record v { stage = stage }

-- The view at this stage, once it has seen this history.
abbrev pub now_seen : LockStage → List Past → LockPlaceView → LockPlaceView
now_seen stage history v = record v { stage = stage; seen = history; old = [] }

-- One try more found the value out.
abbrev pub lost_again : LockPlaceView → LockPlaceView
lost_again v = record v { lost = v.lost + 1 }

-- The old lists are dropped.
abbrev pub without_old : LockPlaceView → LockPlaceView
without_old v = record v { old = [] }

abbrev pub Sat : Type 0 → Type 0
Sat T = Me (Option T) LockPlaceView

module _ {T : Type 0} where
  -- A try that found 0 has the slot with the value, whose history begins with what was seen. One
  -- that found 1 is lost.
  abbrev pub tried : (T → List Past) → Step (Option T) → Sat T → ℕ → Sat T → Type 0
  tried pasts st m found m' =
      (found ≡ 0 → (value : T) × (m' ≡ (now_seen Moves (pasts value) m.0, (0, Some value) ∷ []))
      × IsPrefix m.0.seen (pasts value))
      × (found ≢ 0 → m' ≡ (lost_again m.0, []))

  abbrev pub emptied : Step (Option T) → Sat T → ℕ → Sat T → Type 0
  emptied st m found m' = m' ≡ (at_stage Holds m.0, [])

  abbrev pub reached : Step (Option T) → Sat T → ℕ → Sat T → Type 0
  reached st m found m' = m' ≡ (at_stage Moves m.0, (0, None) ∷ [])

  -- The value is at home again, and its history is what was seen.
  abbrev pub returned : (T → List Past) → Step (Option T) → Sat T → ℕ → Sat T → Type 0
  returned pasts st m stored m' =
      (value : T) → m.1 ≡ (0, Some value) ∷ [] → m' ≡ (now_seen Rests (pasts value) m.0, [])

  -- The old lists were beginnings of what was seen.
  abbrev pub compared : Step (Option T) → Sat T → ℕ → Sat T → Type 0
  compared st m found m' =
      (m' ≡ (without_old m.0, m.1)) × Each (λ (xs : List Past). IsPrefix xs m.0.seen) m.0.old
