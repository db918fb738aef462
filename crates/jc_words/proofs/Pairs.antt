-- How the first pair of some words is cut.
use Rattle.std.proofs.Common.{◌≡◌, ℕ, List, [], ◌∷◌, Option, Some, None, length, arith, refl, ap, ◌∙◌}
use Rattle.jc_words.specs.Options.{cut_of, option_named, pairs_of, with_pair}
use Rattle.jc_words.specs.declared.options.OptionName.{OptionName}

module _ (word : List ℕ) where
  -- A word with a `=`.
  joined : (parts : List ℕ × List ℕ) (name : Option OptionName) (words : List (List ℕ)) → cut_of word ≡ Some parts → name ≡ option_named parts.0
      → pairs_of (word ∷ words) ≡ with_pair name parts.1 (pairs_of words)
  unfolding pairs_of
  joined parts name [] e n = rw (e, n) refl
  joined parts name (next ∷ words) e n = rw (e, n) refl

  -- A word without.
  apart : (name : Option OptionName) (next : List ℕ) (words : List (List ℕ)) → cut_of word ≡ None → name ≡ option_named word
      → pairs_of (word ∷ next ∷ words) ≡ with_pair name next (pairs_of words)
  unfolding pairs_of
  apart name next words e n = rw (e, n) refl

  -- It is no name where no word follows.
  pub alone : (words : List (List ℕ)) → cut_of word ≡ None → words ≡ [] → pairs_of (word ∷ words) ≡ None
  unfolding pairs_of
  alone words e none = rw (none, e) refl

  pub joined_named : (parts : List ℕ × List ℕ) (name : OptionName) (words : List (List ℕ)) → cut_of word ≡ Some parts → option_named parts.0 ≡ Some name
      → pairs_of (word ∷ words) ≡ with_pair (Some name) parts.1 (pairs_of words)
  joined_named parts name words e n = joined parts (option_named parts.0) words e refl ∙ ap (λ o. with_pair o parts.1 (pairs_of words)) n

  pub joined_unnamed : (parts : List ℕ × List ℕ) (words : List (List ℕ)) → cut_of word ≡ Some parts → option_named parts.0 ≡ None
      → pairs_of (word ∷ words) ≡ None
  joined_unnamed parts words e n = joined parts (option_named parts.0) words e refl ∙ ap (λ o. with_pair o parts.1 (pairs_of words)) n

  pub apart_named : (name : OptionName) (next : List ℕ) (behind words : List (List ℕ)) → cut_of word ≡ None → behind ≡ next ∷ words → option_named word ≡ Some name
      → pairs_of (word ∷ behind) ≡ with_pair (Some name) next (pairs_of words)
  apart_named name next behind words e two n =
      ap (λ ws. pairs_of (word ∷ ws)) two ∙ apart (option_named word) next words e refl ∙ ap (λ o. with_pair o next (pairs_of words)) n

  pub apart_unnamed : (next : List ℕ) (behind words : List (List ℕ)) → cut_of word ≡ None → behind ≡ next ∷ words → option_named word ≡ None
      → pairs_of (word ∷ behind) ≡ None
  apart_unnamed next behind words e two n =
      ap (λ ws. pairs_of (word ∷ ws)) two ∙ apart (option_named word) next words e refl ∙ ap (λ o. with_pair o next (pairs_of words)) n
