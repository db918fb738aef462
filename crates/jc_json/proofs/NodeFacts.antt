-- What the nodes from a place on stand for.
use Rattle.std.proofs.Common.{◌≡◌, ℕ, zero, suc, ◌+◌, ◌<◌, List, [], ◌∷◌, map, drop, length, get_or, Some, None, refl, ap, ◌∙◌, arith}
use Rattle.json.specs.Token.{Token}
use Rattle.json.specs.Json.{after_end_array}
use Rattle.json.specs.Tape.{node_token}
use Rattle.json.specs.declared.tape.Node.{Node}
use Rattle.json.specs.declared.tape.Node.TheVariants.{Object, EndObject, Array, EndArray, Key, String, Number, Bool, Null}

-- The node at the place stands for the first token, and those behind it for the others.
pub next_node : (nodes : List Node) (at : ℕ) (d : Node) → at < length nodes → drop at (map node_token nodes) ≡ node_token (get_or nodes at d) ∷ drop (at + 1) (map node_token nodes)
next_node [] at d within = absurd (omega (arith, within))
next_node (node ∷ nodes) zero d within = refl
next_node (node ∷ nodes) (suc at) d within =
    let next : suc (at + 1) ≡ suc at + 1 = omega arith in
    next_node nodes at d (omega (arith, within)) ∙ ap (λ i. node_token (get_or nodes at d) ∷ drop i (map node_token (node ∷ nodes))) next

-- A node that closes an array is passed.
pub closes : (ts rest : List Token) (node : Node) → ts ≡ node_token node ∷ rest → node ≡ EndArray → after_end_array ts ≡ Some rest
closes ts rest node first is = ap after_end_array (first ∙ ap (λ n. node_token n ∷ rest) is)

-- No other node closes one.
pub goes_on : (ts rest : List Token) (node : Node) → ts ≡ node_token node ∷ rest → (node ≡ EndArray → ⊥) → after_end_array ts ≡ None
goes_on ts rest node first other = ap after_end_array first ∙ by node other
  where
    by : (node : Node) → (node ≡ EndArray → ⊥) → after_end_array (node_token node ∷ rest) ≡ None
    by (Object a) other = refl
    by EndObject other = refl
    by (Array a) other = refl
    by EndArray other = absurd (other refl)
    by (Key s) other = refl
    by (String s) other = refl
    by (Number s) other = refl
    by (Bool b) other = refl
    by Null other = refl
