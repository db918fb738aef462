-- Values under numbers, in pages of 64 places.
--     here n place         the value of one place under its number, where there is one
--     places n page        the values of a page under their numbers, the first place having this one
--     paged n pages        those of pages, the first of which begins at this number
--     present page         the values of a page, in their order
--     present_in pages     those of pages
--     AreShort pages       each page has at most 64 places
--     ArePages pages count each page has at most 64 places, and they have so many values, fewer than 2 ^ 63
use Rattle.std.specs.Prelude.{◌≡◌, ℕ, ◌+◌, ◌<◌, ◌≤◌, ◌^◌, List, [], ◌∷◌, ◌++◌, length, Option, None, Some, Vec}

module _ {V : Type 0} where
  -- The value of one place under its number.
  abbrev pub here : ℕ → Option V → List (ℕ × V)
  here n None = []
  here n (Some value) = (n, value) ∷ []

  -- The values of a page under their numbers, from this one on.
  abbrev pub places : ℕ → List (Option V) → List (ℕ × V)
  places n [] = []
  places n (place ∷ page) = here n place ++ places (n + 1) page

  -- The values of a page, in their order.
  abbrev pub present : List (Option V) → List V
  present [] = []
  present (None ∷ page) = present page
  present (Some value ∷ page) = value ∷ present page

  module _ {A : Type 0} where
    -- Those of pages under their numbers, from this one on.
    abbrev pub paged : ℕ → List (Vec (Option V) A) → List (ℕ × V)
    paged n [] = []
    paged n (page ∷ pages) = places n page.items ++ paged (n + 64) pages

    -- The values of pages, in their order.
    abbrev pub present_in : List (Vec (Option V) A) → List V
    present_in [] = []
    present_in (page ∷ pages) = present page.items ++ present_in pages

    -- Each page has at most 64 places.
    abbrev pub AreShort : List (Vec (Option V) A) → Type 0
    AreShort [] = Unit {0}
    AreShort (page ∷ pages) = (length page.items ≤ 64) × AreShort pages

    -- Each page is short, and they have so many values.
    pub record ArePages (pages : List (Vec (Option V) A)) (count : ℕ) : Type 0 where
      pub short : AreShort pages
      pub counted : count ≡ length (paged 0 pages)
      pub fits : count < 2 ^ 63
