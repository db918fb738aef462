use Rattle.std.proofs.Common.{Some, ap, arith, length, subst, sym, ◌≡◌, ◌∙◌}
use Rattle.jc_states.specs.Holders.{AreHeld}
use Rattle.jc_states.specs.Noted.{odd_numbers}
use Rattle.jc_states.specs.PodLists.{drop_pod}
use Rattle.jc_states.specs.Tallies.{KeepsTallies}
use Rattle.jc_states.proofs.HolderFacts.{held-left}
use Rattle.jc_states.proofs.OddFacts.{odd-drop}
use Rattle.jc_states.proofs.PodListFacts.{drop-absent, pod_among}
use Rattle.jc_states.proofs.PodPlaceFacts.{found-shown, none-shown, removed-shown, within-shown}
use Rattle.jc_states.proofs.TallyFacts.{kept-counts, kept-left}
use Rattle.jc_states.proofs.pod_lists.Pods.take.Goals as goal

pub returns-then-not-is_there-clause-drops : goal.returns-then-not-is_there-clause-drops
returns-then-not-is_there-clause-drops c =
    let none =
    none-shown c.args.uid c.args.self.now c.as_slice-pods.result.now c.place_from-place.result (c.as_slice-pods.ensures.value ∙ c.self.view_is) c.place_from-place.ensures c.is_there.result c.is_there.ensures c.if-not-is_there.true in
    sym (drop-absent c.args.uid c.args.self.now none)

pub index-requires : goal.index-requires
index-requires c =
    let within =
    within-shown c.args.uid c.self.inside.pods.items c.as_slice-pods.result.now c.place_from-place.result c.as_slice-pods.ensures.value c.place_from-place.ensures c.is_there.result c.is_there.ensures c.if-not-is_there.false in
    omega (arith, within, ap length c.as_slice-pods.ensures.value, c.as_slice-pods.ensures.len)

pub index-requires-2 : goal.index-requires-2
index-requires-2 c =
    let within =
    within-shown c.args.uid c.self.inside.pods.items c.as_slice-pods.result.now c.place_from-place.result c.as_slice-pods.ensures.value c.place_from-place.ensures c.is_there.result c.is_there.ensures c.if-not-is_there.false in
    omega (arith, within, ap length c.as_slice-pods.ensures.value, c.as_slice-pods.ensures.len)

pub leave-requires-2 : goal.leave-requires-2
leave-requires-2 c =
    let found =
    found-shown c.args.uid c.self.inside.pods.items c.as_slice-pods.result.now c.place_from-place.result c.as_slice-pods.ensures.value c.place_from-place.ensures c.is_there.result c.is_there.ensures
    c.if-not-is_there.false c.index-2.result.now c.self.invariant.tallies.rising c.index-2.ensures ∙ ap Some (sym c.deref-2.ensures) in
    kept-counts c.args.uid c.deref-2.result.now c.self.inside.pods.items c.self.inside.tallies.entries c.self.invariant.tallies found

pub remove-requires-2 : goal.remove-requires-2
remove-requires-2 c =
    let within =
    within-shown c.args.uid c.self.inside.pods.items c.as_slice-pods.result.now c.place_from-place.result c.as_slice-pods.ensures.value c.place_from-place.ensures c.is_there.result c.is_there.ensures c.if-not-is_there.false in
    omega (arith, within, ap length c.as_slice-pods.ensures.value, c.as_slice-pods.ensures.len)

pub invariant_of-self : goal.invariant_of-self
invariant_of-self c =
    let items = c.self.inside.pods.items in
    let found =
    found-shown c.args.uid items c.as_slice-pods.result.now c.place_from-place.result c.as_slice-pods.ensures.value c.place_from-place.ensures c.is_there.result c.is_there.ensures
    c.if-not-is_there.false c.index-2.result.now c.self.invariant.tallies.rising c.index-2.ensures ∙ ap Some (sym c.deref-2.ensures) in
    let before =
    found-shown c.args.uid items c.as_slice-pods.result.now c.place_from-place.result c.as_slice-pods.ensures.value c.place_from-place.ensures c.is_there.result c.is_there.ensures
    c.if-not-is_there.false c.index.result.now c.self.invariant.tallies.rising c.index.ensures ∙ ap Some (sym c.deref.ensures) in
    let dropped =
    removed-shown c.args.uid items c.as_slice-pods.result.now c.place_from-place.result c.as_slice-pods.ensures.value c.place_from-place.ensures c.is_there.result c.is_there.ensures
    c.if-not-is_there.false c.remove-2.new.self.items c.self.invariant.tallies.rising c.remove-2.ensures.items in
    record {
      tallies =
          subst (λ pods. KeepsTallies pods c.leave-2.new.rows.entries) (sym dropped)
          (kept-left c.args.uid c.deref-2.result.now items c.self.inside.tallies.entries c.leave-2.new.rows.entries c.self.invariant.tallies found c.leave-2.ensures.numbers);
      odd = subst (λ pods. c.remove.new.self.keys ≡ odd_numbers pods) (sym dropped) (odd-drop c.self.inside.pods.items c.self.inside.odd.keys c.self.invariant.tallies.rising c.self.invariant.odd
          c.args.uid c.remove.new.self.keys c.remove.ensures.keys);
      held =
          subst (λ pods. AreHeld pods c.leave.new.self) (sym dropped)
          (held-left c.args.uid c.deref.result.now items c.self.inside.holders c.leave.new.self c.self.invariant.tallies.rising c.self.invariant.held before c.leave.ensures);
    }

pub returns-clause-taken : goal.returns-clause-taken
returns-clause-taken c =
    sym
    (ap (pod_among c.args.uid) (sym c.self.view_is)
    ∙ found-shown c.args.uid c.self.inside.pods.items c.as_slice-pods.result.now c.place_from-place.result c.as_slice-pods.ensures.value c.place_from-place.ensures c.is_there.result c.is_there.ensures
    c.if-not-is_there.false c.remove-2.result c.self.invariant.tallies.rising c.remove-2.ensures.value)

pub returns-clause-drops : goal.returns-clause-drops
returns-clause-drops c =
    removed-shown c.args.uid c.self.inside.pods.items c.as_slice-pods.result.now c.place_from-place.result c.as_slice-pods.ensures.value c.place_from-place.ensures c.is_there.result c.is_there.ensures
    c.if-not-is_there.false c.remove-2.new.self.items c.self.invariant.tallies.rising c.remove-2.ensures.items
    ∙ ap (drop_pod c.args.uid) c.self.view_is
