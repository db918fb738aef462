-- What a list in pieces has after a change of one piece, and what stands from a place of it on.
use Rattle.std.proofs.Common.{◌≡◌, ℕ, ◌+◌, ◌-◌, ◌<◌, ◌≤◌, zero, suc, List, [], ◌∷◌, ◌++◌, length, get_or, take, drop, Option, Some, None, false, refl, sym, ap, ◌∙◌, append_assoc, arith}
use Rattle.std.specs.Prelude.{IfSome, is_some}
use Rattle.std.proofs.Math.ListN.{set}
use Rattle.std.specs.List.{insert}
use Rattle.std.proofs.lemmas.List.{length-append, length-drop, length-take-le, nil_from_length, set-append_left, set-append_right, take-append-drop, take-append-le, drop-append-le, take_all, drop_all}
use Rattle.std.proofs.lemmas.List.{drop_more, take_more, get_or_at, get_or_append_left, flat_map_more}
use Rattle.std.proofs.lemmas.List.Concat.{get_or-flat_map}
use Rattle.jc_types.specs.Pieces.{items_in, items_left, place_in}

module _ {X : Type 0} where
  -- ---- one piece is changed

  -- An item of a piece is written.
  pub set_at : (ps : List (List X)) (n k i : ℕ) (x : X) → n < length ps → k < length (get_or ps n []) → place_in ps n k ≡ i → items_in (set ps n (set (get_or ps n []) k x)) ≡ set (items_in ps) i x
  set_at [] n k i x h g e = absurd (omega (arith, h))
  set_at (p ∷ ps) zero k i x h g e =
      let same : k ≡ i = omega (arith, e) in
      ap (λ j. set p j x ++ items_in ps) same ∙ sym (set-append_left p (items_in ps) i x (omega (arith, g, same)))
  set_at (p ∷ ps) (suc n) k i x h g e =
      let lengths = length-append p (items_in (take n ps)) in
      ap (λ r. p ++ r) (set_at ps n k (i - length p) x (omega (arith, h)) g (omega (arith, e, lengths)))
      ∙ sym (set-append_right p (items_in ps) (length p) i x refl (omega (arith, e, lengths)))

  -- An item more in the front part.
  insert_left : (p b : List X) (i : ℕ) (x : X) → i ≤ length p → insert p i x ++ b ≡ insert (p ++ b) i x
  insert_left p b i x h =
      append_assoc (take i p) (x ∷ drop i p) b
      ∙ ap (λ r. r ++ (x ∷ (drop i p ++ b))) (sym (take-append-le i p b h))
      ∙ ap (λ r. take i (p ++ b) ++ (x ∷ r)) (sym (drop-append-le i p b h))

  -- An item more in the back part.
  insert_right : (p b : List X) (j i : ℕ) (x : X) → length p + j ≡ i → p ++ insert b j x ≡ insert (p ++ b) i x
  insert_right [] b j i x e =
      let same : j ≡ i = omega (arith, e) in
      ap (λ m. insert b m x) same
  insert_right (y ∷ p) b j zero x e = absurd (omega (arith, e))
  insert_right (y ∷ p) b j (suc i) x e = ap (λ r. y ∷ r) (insert_right p b j i x (omega (arith, e)))

  -- A piece has an item more.
  pub insert_at : (ps : List (List X)) (n k i : ℕ) (x : X) → n < length ps → k ≤ length (get_or ps n []) → place_in ps n k ≡ i → items_in (set ps n (insert (get_or ps n []) k x)) ≡ insert (items_in ps) i x
  insert_at [] n k i x h g e = absurd (omega (arith, h))
  insert_at (p ∷ ps) zero k i x h g e =
      let same : k ≡ i = omega (arith, e) in
      insert_left p (items_in ps) k x g ∙ ap (λ j. insert (p ++ items_in ps) j x) same
  insert_at (p ∷ ps) (suc n) k i x h g e =
      let lengths = length-append p (items_in (take n ps)) in
      ap (λ r. p ++ r) (insert_at ps n k (i - length p) x (omega (arith, h)) g (omega (arith, e, lengths)))
      ∙ insert_right p (items_in ps) (i - length p) i x (omega (arith, e, lengths))

  -- A piece is cut in two.
  pub halves_at : (ps : List (List X)) (n j m : ℕ) (q : List X) → n < length ps → j ≡ suc n → items_in (insert (set ps n (take m q)) j (drop m q)) ≡ items_in (set ps n q)
  halves_at [] n j m q h e = absurd (omega (arith, h))
  halves_at (p ∷ ps) zero zero m q h e = absurd (omega (arith, e))
  halves_at (p ∷ ps) zero (suc zero) m q h e =
      sym (append_assoc (take m q) (drop m q) (items_in ps)) ∙ ap (λ r. r ++ items_in ps) (take-append-drop m q)
  halves_at (p ∷ ps) zero (suc (suc j)) m q h e = absurd (omega (arith, e))
  halves_at (p ∷ ps) (suc n) zero m q h e = absurd (omega (arith, e))
  halves_at (p ∷ ps) (suc n) (suc j) m q h e = ap (λ r. p ++ r) (halves_at ps n j m q (omega (arith, h)) (omega (arith, e)))

  -- An item more at the end.
  pub insert_end : (xs : List X) (i : ℕ) (x : X) → length xs ≤ i → insert xs i x ≡ xs ++ x ∷ []
  insert_end xs i x h = ap (λ r. r ++ x ∷ drop i xs) (take_all i xs h) ∙ ap (λ r. xs ++ x ∷ r) (drop_all i xs h)

  -- A piece more at the end.
  pub piece_more : (ps : List (List X)) (p : List X) → items_in (ps ++ p ∷ []) ≡ items_in ps ++ p
  piece_more ps p = sym (flat_map_more (λ (q : List X). q) [] ps p)

  -- ---- places

  -- The items of the pieces up to and with this one.
  pub items_more : (ps : List (List X)) (n : ℕ) → n < length ps → items_in (take (n + 1) ps) ≡ items_in (take n ps) ++ get_or ps n []
  items_more ps n h = ap items_in (take_more ps n [] h) ∙ piece_more (take n ps) (get_or ps n [])

  -- Behind the items of a piece the next one begins.
  pub next_piece : (ps : List (List X)) (n k j : ℕ) → n < length ps → length (get_or ps n []) + j ≡ k → place_in ps (n + 1) j ≡ place_in ps n k
  next_piece ps n k j h e =
      omega (arith, e, ap length (items_more ps n h), length-append (items_in (take n ps)) (get_or ps n []))

  -- Behind all pieces all items are passed.
  pub all_passed : (ps : List (List X)) (n k i : ℕ) → length ps ≤ n → place_in ps n k ≡ i → length (items_in ps) ≤ i
  all_passed ps n k i h e = omega (arith, e, ap (λ qs. length (items_in qs)) (take_all n ps h))

  -- The items are those before a piece, its own, and those behind it.
  pub around : (ps : List (List X)) (n : ℕ) → n < length ps → items_in ps ≡ items_in (take n ps) ++ (get_or ps n [] ++ items_in (drop (suc n) ps))
  around [] n h = absurd (omega (arith, h))
  around (p ∷ ps) zero h = refl
  around (p ∷ ps) (suc n) h = ap (λ r. p ++ r) (around ps n (omega (arith, h))) ∙ sym (append_assoc p (items_in (take n ps)) (get_or ps n [] ++ items_in (drop (suc n) ps)))

  -- The end of the last piece is the end of the items.
  pub last_place : (ps : List (List X)) (n k : ℕ) → n + 1 ≡ length ps → k ≡ length (get_or ps n []) → place_in ps n k ≡ length (items_in ps)
  last_place ps n k e g =
      let within : n < length ps = omega (arith, e) in
      let all : length (items_in (take (n + 1) ps)) ≡ length (items_in ps) = ap (λ qs. length (items_in qs)) (take_all (n + 1) ps (omega (arith, e))) in
      omega (arith, all, g, ap length (items_more ps n within), length-append (items_in (take n ps)) (get_or ps n []))

  -- ---- what is left from a place on

  -- From the place of an item on there are the item and those behind it.
  pub left_here : (ps : List (List X)) (n k m j : ℕ) (y d : X) → n < length ps → k < length (get_or ps n []) → place_in ps n k ≡ place_in ps m j → y ≡ get_or (get_or ps n []) k d → items_left ps m j ≡ y ∷ items_left ps n (k + 1)
  left_here ps n k m j y d h g e is =
      let all = length-append (items_in (take n ps)) (get_or ps n [] ++ items_in (drop (suc n) ps)) in
      let own = length-append (get_or ps n []) (items_in (drop (suc n) ps)) in
      let within : place_in ps n k < length (items_in ps) = omega (arith, g, ap length (around ps n h), all, own) in
      let next : place_in ps n k + 1 ≡ place_in ps n (k + 1) = omega arith in
      ap (λ i. drop i (items_in ps)) (sym e)
      ∙ drop_more (items_in ps) (place_in ps n k) d within
      ∙ ap (λ z. z ∷ drop (place_in ps n k + 1) (items_in ps)) (get_or-flat_map (λ (p : List X). p) ps n k [] d h g ∙ sym is)
      ∙ ap (λ i. y ∷ drop i (items_in ps)) next

  -- A place in a piece is one among the items.
  pub place_inside : (ps : List (List X)) (n k : ℕ) → n < length ps → k < length (get_or ps n []) → place_in ps n k < length (items_in ps)
  place_inside ps n k h g =
      omega (arith, g, ap length (around ps n h), length-append (items_in (take n ps)) (get_or ps n [] ++ items_in (drop (suc n) ps)), length-append (get_or ps n []) (items_in (drop (suc n) ps)))

  -- Where none is left none is found.
  pub none_found : {S : Type 0} (o : Option S) (piece place : S → ℕ) (ps : List (List X)) (m j : ℕ) → IfSome o (λ s. piece s < length ps) → IfSome o (λ s. place s < length (get_or ps (piece s) []))
      → IfSome o (λ s. place_in ps (piece s) (place s) ≡ place_in ps m j) → items_left ps m j ≡ [] → is_some o ≡ false
  none_found None piece place ps m j h g e left = refl
  none_found (Some s) piece place ps m j h g e left =
      absurd (omega (arith, place_inside ps (piece s) (place s) h g, e, ap length left, length-drop (place_in ps m j) (items_in ps)))

  -- What equals its front part has nothing behind it.
  pub no_rest : (front rest whole : List X) → whole ≡ front ++ rest → front ≡ whole → rest ≡ []
  no_rest front rest whole e same = nil_from_length rest (omega (arith, ap length e, ap length same, length-append front rest))

  -- Where all items are passed none is left.
  pub left_none : (ps : List (List X)) (m j : ℕ) → length (items_in ps) ≤ place_in ps m j → items_left ps m j ≡ []
  left_none ps m j h = drop_all (place_in ps m j) (items_in ps) h

  -- One item more is found.
  pub one_found : (whole items rest more : List X) (i : ℕ) (x y d : X) → whole ≡ take i items ++ rest → rest ≡ y ∷ more → i < length items → y ≡ x → x ≡ get_or items i d → whole ≡ take (i + 1) items ++ more
  one_found whole items rest more i x y d e f h same is =
      e ∙ ap (λ r. take i items ++ r) (f ∙ ap (λ z. z ∷ more) (same ∙ is))
      ∙ sym (append_assoc (take i items) (get_or items i d ∷ []) more)
      ∙ ap (λ r. r ++ more) (sym (take_more items i d h))

  -- Too few items are left.
  pub too_few : (whole items rest : List X) (i : ℕ) → whole ≡ take i items ++ rest → rest ≡ [] → i < length items → (more : List X) → whole ≡ items ++ more → ⊥
  too_few whole items rest i e f h more g =
      omega (arith, h, ap length e, ap length f, ap length g, length-append (take i items) rest, length-append items more, length-take-le i items (omega (arith, h)))

  -- Another item is found.
  pub another : (whole items rest back : List X) (i : ℕ) (x y d : X) → whole ≡ take i items ++ rest → rest ≡ y ∷ back → i < length items → (y ≡ x → ⊥) → x ≡ get_or items i d → (more : List X) → whole ≡ items ++ more → ⊥
  another whole items rest back i x y d e f h differ is more g =
      differ
      (sym (get_or_at (take i items) y back d i (length-take-le i items (omega (arith, h))))
      ∙ ap (λ r. get_or r i d) (ap (λ r. take i items ++ r) (sym f) ∙ sym e ∙ g)
      ∙ get_or_append_left items more d i h ∙ sym is)
