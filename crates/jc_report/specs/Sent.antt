-- What a sink was given of a text, of which the end may still stand on a page.
--     Sends old page new left text      the text came behind what stood on the page, and of both this is left there
use Rattle.std.specs.Prelude.{◌≡◌, ℕ, List, ◌++◌, Option}
use Rattle.std.specs.Io.KnownBytes.{Appends}

-- A part of what stood on the page, with the text behind it, went out, and the rest is left there.
pub record Sends (old : Option (List ℕ)) (page : List ℕ) (new : Option (List ℕ)) (left : List ℕ) (text : List ℕ) : Type 0
  where
    pub sent : List ℕ
    pub appends : Appends old new sent
    pub rest : page ++ text ≡ sent ++ left
