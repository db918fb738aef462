-- The tokens that JSON values are written as.
--     data_tokens d          those of a value
--     front_tokens ms        those of members, without the end of their object
--     given_tokens name d    those of one member, none where it is not given
--     AddsTokens old new ts        the tokens are written behind what was written
use Rattle.std.specs.Prelude.{◌≡◌, ℕ, List, [], ◌∷◌, ◌++◌, Option, None, Some}
use Rattle.json.specs.Token.{Token, key}
use Rattle.json.specs.Tree.{json_tokens}
use Rattle.json.specs.Written.{Written}
use Rattle.serde_json.specs.Data.{Data, Members, no_members, member}
use Rattle.serde_json.specs.Written.{outline}

unfoldable pub data_tokens : Data → List Token
data_tokens d = json_tokens (outline d)

unfoldable pub front_tokens : Members → List Token
front_tokens no_members = []
front_tokens (member name d ms) = key name ∷ (data_tokens d ++ front_tokens ms)

unfoldable pub given_tokens : List ℕ → Option Data → List Token
given_tokens name None = []
given_tokens name (Some d) = key name ∷ data_tokens d

pub record AddsTokens (old new : Written) (ts : List Token) : Type 0 where
  pub tokens : new.tokens ≡ old.tokens ++ ts
  -- what stood before the first token stays
  pub before : new.before ≡ old.before
