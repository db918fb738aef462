use Rattle.std.proofs.Common.{Some, ap, arith, cond, subst, sym, ◌≡◌, ◌∙◌, ◌+◌, ℕ}
use Rattle.jc_types.specs.declared.numbers.Uid.{Uid}
use Rattle.jc_types.specs.declared.objects.Pod.{Pod}
use Rattle.jc_states.specs.Holders.{AreHeld, held_in, holds_index}
use Rattle.jc_states.specs.Noted.{odd_numbers, with_note}
use Rattle.jc_states.specs.PodLists.{put_pod}
use Rattle.jc_states.specs.Tallies.{CountsPod, HasFewRestarts, HasRoom, KeepsTallies, tally_in, with_pod, without_pod}
use Rattle.jc_states.proofs.HolderFacts.{held-replaced}
use Rattle.jc_states.proofs.OddFacts.{odd-put}
use Rattle.jc_states.proofs.PodPlaceFacts.{found-seen, replaced-seen, within-seen}
use Rattle.jc_states.proofs.TallyFacts.{kept-counts, kept-replaced, kept-room_left}
use Rattle.jc_states.proofs.pod_lists.Pods.replace_at.Goals as goal

pub index-requires : goal.index-requires
index-requires c =
    let within = within-seen c.args.pod c.self.inside.pods.items c.args.self.now c.args.place c.self.view_is c.requires.place c.requires.there in
    omega (arith, within, c.self.inside.pods.ok)

pub index-requires-2 : goal.index-requires-2
index-requires-2 c =
    let within = within-seen c.args.pod c.self.inside.pods.items c.args.self.now c.args.place c.self.view_is c.requires.place c.requires.there in
    omega (arith, within, c.self.inside.pods.ok)

pub leave-requires-2 : goal.leave-requires-2
leave-requires-2 c =
    let found = found-seen c.args.pod c.self.inside.pods.items c.args.self.now c.args.place c.self.view_is c.requires.place c.requires.there c.index-2.result.now c.self.invariant.tallies.rising c.index-2.ensures ∙ ap Some (sym c.deref-3.ensures) in
    subst (λ rows. CountsPod (tally_in c.deref-3.result.now.owner_uid rows) c.deref-3.result.now) (sym c.in_ok-reserve.ensures.entries)
    (kept-counts c.args.pod.uid c.deref-3.result.now c.self.inside.pods.items c.self.inside.tallies.entries c.self.invariant.tallies found)

pub enter-requires-clause-few_in_tally : goal.enter-requires-clause-few_in_tally
enter-requires-clause-few_in_tally c =
    let found = found-seen c.args.pod c.self.inside.pods.items c.args.self.now c.args.place c.self.view_is c.requires.place c.requires.there c.index-2.result.now c.self.invariant.tallies.rising c.index-2.ensures ∙ ap Some (sym c.deref-3.ensures) in
    let lack = subst (λ rows. (owner : Uid) → tally_in owner c.leave-2.new.rows.entries ≡ without_pod owner c.deref-3.result.now (tally_in owner rows)) c.in_ok-reserve.ensures.entries c.leave-2.ensures.numbers in
    subst (λ (pod : Pod). HasRoom (tally_in pod.owner_uid c.leave-2.new.rows.entries)) (sym c.deref-4.ensures)
    (kept-room_left c.args.pod.owner_uid c.args.pod.uid c.deref-3.result.now c.self.inside.pods.items c.self.inside.tallies.entries c.leave-2.new.rows.entries c.self.invariant.tallies found lack)

pub index_mut-requires : goal.index_mut-requires
index_mut-requires c =
    let within = within-seen c.args.pod c.self.inside.pods.items c.args.self.now c.args.place c.self.view_is c.requires.place c.requires.there in
    omega (arith, within, c.self.inside.pods.ok)

pub invariant_of-self-2 : goal.invariant_of-self-2
invariant_of-self-2 c =
    let items = c.self.inside.pods.items in
    let found = found-seen c.args.pod items c.args.self.now c.args.place c.self.view_is c.requires.place c.requires.there c.index-2.result.now c.self.invariant.tallies.rising c.index-2.ensures ∙ ap Some (sym c.deref-3.ensures) in
    let lack = subst (λ rows. (owner : Uid) → tally_in owner c.leave-2.new.rows.entries ≡ without_pod owner c.deref-3.result.now (tally_in owner rows)) c.in_ok-reserve.ensures.entries c.leave-2.ensures.numbers in
    let before = found-seen c.args.pod items c.args.self.now c.args.place c.self.view_is c.requires.place c.requires.there c.index.result.now c.self.invariant.tallies.rising c.index.ensures ∙ ap Some (sym c.deref-2.ensures) in
    let put = replaced-seen c.args.pod items c.args.self.now c.args.place c.self.view_is c.requires.place c.requires.there c.self.invariant.tallies.rising in
    let few = subst HasFewRestarts c.deref-4.ensures c.enter.ensures.few_restarts in
    let numbers =
    subst (λ (pod : Pod). (owner : Uid) → tally_in owner c.enter.new.rows.entries ≡ with_pod owner pod (tally_in owner c.leave-2.new.rows.entries)) c.deref-4.ensures c.enter.ensures.numbers in
    let noted = c.in_ok-put_odd_and_enter.ensures.noted ∙ ap (λ (pod : Pod). with_note pod c.self.inside.odd.keys) c.deref.ensures in
    let entered =
    subst (λ (pod : Pod). (owner : Uid) → (n : ℕ) → held_in owner n c.put_odd_and_enter.new.holders ≡ held_in owner n c.self.inside.holders + cond (holds_index owner n pod) 1 0) c.deref.ensures c.in_ok-put_odd_and_enter.ensures.entered in
    record {
      tallies =
          subst (λ pods. KeepsTallies pods c.enter.new.rows.entries) (sym put)
          (kept-replaced c.args.pod c.deref-3.result.now items c.self.inside.tallies.entries c.leave-2.new.rows.entries c.enter.new.rows.entries c.self.invariant.tallies found lack few numbers);
      odd = subst (λ pods. c.put_odd_and_enter.new.odd.keys ≡ odd_numbers pods) (sym put) (odd-put c.self.inside.pods.items c.self.inside.odd.keys c.self.invariant.tallies.rising c.self.invariant.odd
          c.args.pod c.put_odd_and_enter.new.odd.keys noted);
      held =
          subst (λ pods. AreHeld pods c.leave.new.self) (sym put)
          (held-replaced c.args.pod c.deref-2.result.now items c.self.inside.holders c.put_odd_and_enter.new.holders c.leave.new.self c.self.invariant.tallies.rising c.self.invariant.held before
          entered c.leave.ensures);
    }

pub returns-clause-puts : goal.returns-clause-puts
returns-clause-puts c =
    replaced-seen c.args.pod c.self.inside.pods.items c.args.self.now c.args.place c.self.view_is c.requires.place c.requires.there c.self.invariant.tallies.rising
    ∙ ap (put_pod c.args.pod) c.self.view_is
