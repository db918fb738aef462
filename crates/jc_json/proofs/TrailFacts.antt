-- What a trail spells, step by step.
use Rattle.std.proofs.Common.{◌≡◌, ℕ, List, Bor, rules}
use Rattle.jc_json.specs.Place.{path_to, path_at}
use Rattle.jc_json.specs.Trails.{spelled}
use Rattle.jc_json.specs.declared.trail.Chain.{Chain, Member, Item, the_lemmas}

pub spelled-Member : (object : Bor Chain) (name : Bor (List ℕ))
    → spelled (Member object name) ≡ path_to (spelled object.now) name.now
spelled-Member object name = search (rules, the_lemmas)

pub spelled-Item : (list : Bor Chain) (index : ℕ)
    → spelled (Item list index) ≡ path_at (spelled list.now) index
spelled-Item list index = search (rules, the_lemmas)
