use Rattle.std.proofs.Common.{ap, arith, cond, length, subst, sym, ◌≡◌, ◌∙◌, ◌+◌, ℕ}
use Rattle.jc_types.specs.declared.numbers.Uid.{Uid}
use Rattle.jc_types.specs.declared.objects.Pod.{Pod}
use Rattle.jc_states.specs.Holders.{AreHeld, held_in, holds_index}
use Rattle.jc_states.specs.Noted.{odd_numbers, with_note}
use Rattle.jc_states.specs.PodLists.{put_pod}
use Rattle.jc_states.specs.Tallies.{HasFewRestarts, HasRoom, KeepsTallies, tally_in, with_pod}
use Rattle.jc_states.proofs.HolderFacts.{held-inserted}
use Rattle.jc_states.proofs.OddFacts.{odd-put}
use Rattle.jc_states.proofs.PodPlaceFacts.{absent-seen, inserted-seen, place-fits}
use Rattle.jc_states.proofs.TallyFacts.{kept-inserted, kept-room}
use Rattle.jc_states.proofs.pod_lists.Pods.insert_at.Goals as goal

pub enter-requires-clause-few_in_tally : goal.enter-requires-clause-few_in_tally
enter-requires-clause-few_in_tally c =
    subst (λ (pod : Pod). HasRoom (tally_in pod.owner_uid c.reserve-2.new.self.entries)) (sym c.deref-2.ensures)
    (subst (λ rows. HasRoom (tally_in c.args.pod.owner_uid rows)) (sym c.in_ok-reserve-2.ensures.entries)
    (kept-room c.args.pod.owner_uid c.self.inside.pods.items c.self.inside.tallies.entries c.self.invariant.tallies
    (omega (arith, c.requires.few_pods, ap length c.self.view_is))))

pub insert-requires : goal.insert-requires
insert-requires c =
    let fits = place-fits c.args.pod c.self.inside.pods.items c.args.self.now c.args.place c.self.view_is c.requires.place in
    omega (arith, fits, c.self.inside.pods.ok, c.in_ok-reserve.ensures.len)

pub invariant_of-self-2 : goal.invariant_of-self-2
invariant_of-self-2 c =
    let items = c.self.inside.pods.items in
    let put = inserted-seen c.args.pod items c.args.self.now c.args.place c.self.view_is c.requires.place c.reserve.new.self.items c.insert.new.self.items c.requires.absent c.in_ok-reserve.ensures.items c.in-Ok.ensures.items in
    let few = subst HasFewRestarts c.deref-2.ensures c.enter.ensures.few_restarts in
    let numbers =
    subst (λ (pod : Pod). (owner : Uid) → tally_in owner c.enter.new.rows.entries ≡ with_pod owner pod (tally_in owner c.reserve-2.new.self.entries)) c.deref-2.ensures c.enter.ensures.numbers in
    let noted = c.in_ok-put_odd_and_enter.ensures.noted ∙ ap (λ (pod : Pod). with_note pod c.self.inside.odd.keys) c.deref.ensures in
    let entered =
    subst (λ (pod : Pod). (owner : Uid) → (n : ℕ) → held_in owner n c.put_odd_and_enter.new.holders ≡ held_in owner n c.self.inside.holders + cond (holds_index owner n pod) 1 0) c.deref.ensures c.in_ok-put_odd_and_enter.ensures.entered in
    record {
      tallies =
          subst (λ pods. KeepsTallies pods c.enter.new.rows.entries) (sym put)
          (kept-inserted c.args.pod items c.self.inside.tallies.entries c.enter.new.rows.entries c.self.invariant.tallies
          (absent-seen c.args.pod items c.args.self.now c.args.place c.self.view_is c.requires.place c.requires.absent)
          (omega (arith, c.requires.few_pods, ap length c.self.view_is)) few
          (subst (λ rows. (owner : Uid) → tally_in owner c.enter.new.rows.entries ≡ with_pod owner c.args.pod (tally_in owner rows)) c.in_ok-reserve-2.ensures.entries numbers));
      odd = subst (λ pods. c.put_odd_and_enter.new.odd.keys ≡ odd_numbers pods) (sym put) (odd-put c.self.inside.pods.items c.self.inside.odd.keys c.self.invariant.tallies.rising c.self.invariant.odd
          c.args.pod c.put_odd_and_enter.new.odd.keys noted);
      held =
          subst (λ pods. AreHeld pods c.put_odd_and_enter.new.holders) (sym put)
          (held-inserted c.args.pod items c.self.inside.holders c.put_odd_and_enter.new.holders c.self.invariant.tallies.rising c.self.invariant.held
          (absent-seen c.args.pod items c.args.self.now c.args.place c.self.view_is c.requires.place c.requires.absent) entered);
    }

pub returns-clause-puts : goal.returns-clause-puts
returns-clause-puts c =
    inserted-seen c.args.pod c.self.inside.pods.items c.args.self.now c.args.place c.self.view_is c.requires.place c.reserve.new.self.items c.insert.new.self.items c.requires.absent c.in_ok-reserve.ensures.items c.in-Ok.ensures.items
    ∙ ap (put_pod c.args.pod) c.self.view_is
