-- Requests of commands and of the node: the store alone.
use Rattle.std.proofs.Common.{◌≡◌, ℕ, List, ◌∷◌, length, Option, None, IfSome, refl, sym, ap, ◌∙◌, subst}
use Rattle.jc_log.specs.Acts as does
use Rattle.jc_types.specs.declared.objects.Entry.{Entry}
use Rattle.jc_types.specs.declared.actions.SpecChange.{SpecChange}
use Rattle.jc_types.specs.declared.numbers.Version.{Version}
use Rattle.jc_types.specs.declared.objects.KeyNames.{KeyNames as Key}
use Rattle.jc_types.specs.declared.runs.Shape.{Shape}
use Rattle.jc_types.specs.declared.specifications.JobSpec.{JobSpec}
use Rattle.jc_log.specs.Requests.{Answered, changed_spec, create_job_gives, delete_job_gives, grown, update_refusal, update_spec_gives}
use Rattle.jc_log.specs.Deeds.{Deed}
use Rattle.jc_types.specs.ValidSpecs.{IsValidSpec}
use Rattle.jc_log.specs.Writes.{Stored}
use Rattle.jc_history.specs.Available.{is_quiescent}
use Rattle.jc_history.specs.Legal.{IsOfShape, MaySettle}
use Rattle.jc_history.specs.Replies.{gives, log_given}
use Rattle.jc_sync.specs.Plannable.{FitsIn, IsPlannable}
use Rattle.jc_sync.specs.AllRegisters.{HasSyncs, IsAnswered}
use Rattle.jc_sync.proofs.CommandFacts.{create_keeps, delete_keeps, update_keeps}
use Rattle.jc_sync.proofs.FitFacts.{create_fits, delete_fits, update_fits}
use Rattle.jc_runs.specs.Fates.{Fates}
use Rattle.jc_runs.specs.Machines.{IsMachine}
use Rattle.jc_runs.specs.Teams.{Team, registers_of}
use Rattle.jc_runs.proofs.NoteFacts.{IsStoreAct}
use Rattle.jc_runs.proofs.RunFacts.{plannable_grown, run_store}

module _ (shape : Shape) (past : List Deed) (log : List Entry) (teams : List Team) (fates : Fates) (now : ℕ) (run : IsMachine shape past log teams fates now) (next : List Entry) (d : Deed) where
  -- The store gave this answer, as the table says; it keeps the syncs, and fits.
  pub store_event : (a : Answered) → IsStoreAct d.act → IsOfShape shape d.act
      → MaySettle d.act (is_quiescent shape past (log_given shape past)) → gives shape past log d.act ≡ a → d.reply
      ≡ a.reply → next ≡ grown log a.entry → d.length.0 ≡ length next
      → Stored next → IsAnswered d past log (registers_of teams) a → IfSome a.entry FitsIn → IsMachine shape (d ∷ past) next teams fates now
  store_event a s within settled is told grew long stored answered fits =
      let syncs = answered told (long ∙ ap (λ l. length l) grew) (subst Stored grew stored) in
      run_store shape past log teams fates now run next d (record {
        reply = told ∙ sym (ap (λ (a : Answered). a.reply) is);
        grown = grew ∙ sym (ap (λ (a : Answered). grown log a.entry) is);
        length = long;
        within = within;
        settled = settled;
      }) s (subst (λ l. HasSyncs (d ∷ past) l (registers_of teams)) (sym grew) syncs)
      (subst IsPlannable (sym grew) (plannable_grown log a.entry run.plannable fits))

  pub create_is : (key : Key) (spec : JobSpec) → gives shape past log (does.Create key spec) ≡ create_job_gives log key spec now
  unfolding gives
  create_is key spec = ap (create_job_gives log key spec) (sym run.now_is)

  pub created : (key : Key) (spec : JobSpec) → IsValidSpec spec → d.act ≡ does.Create key spec → d.reply ≡ (create_job_gives log key spec now).reply → next ≡ grown log (create_job_gives log key spec now).entry → d.length.0 ≡ length next
      → Stored next → IsMachine shape (d ∷ past) next teams fates now
  created key spec valid act told grew long stored =
      store_event (create_job_gives log key spec now) (subst IsStoreAct (sym act) tt) (subst (IsOfShape shape) (sym act) tt) (subst (λ act. MaySettle act (is_quiescent shape past (log_given shape past))) (sym act) tt)
      (ap (gives shape past log) act ∙ create_is key spec) told grew long stored (create_keeps d past log (registers_of teams) run.syncs key spec now valid)
      (create_fits log run.syncs.tied.legal run.plannable key spec now valid)

  -- The other requests.
  module _ (key : Key) (version : Option Version) (change : SpecChange) where
    pub update_is : gives shape past log (does.Update key version change) ≡ update_spec_gives log key version change
    unfolding gives
    update_is = refl

    pub updated : d.act ≡ does.Update key version change → d.reply ≡ (update_spec_gives log key version change).reply → next ≡ grown log (update_spec_gives log key version change).entry → d.length.0 ≡ length next
        → Stored next → ((spec : JobSpec) (change : SpecChange) → IsValidSpec spec → update_refusal spec change ≡ None → IsValidSpec (changed_spec spec change)) → IsMachine shape (d ∷ past) next teams fates now
    updated act told grew long stored stay =
        store_event (update_spec_gives log key version change) (subst IsStoreAct (sym act) tt) (subst (IsOfShape shape) (sym act) tt) (subst (λ act. MaySettle act (is_quiescent shape past (log_given shape past))) (sym act) tt)
        (ap (gives shape past log) act ∙ update_is) told grew long stored (update_keeps d past log (registers_of teams) run.syncs key version change)
        (update_fits log run.syncs.tied.legal run.plannable stay key version change)

  pub delete_is : (key : Key) → gives shape past log (does.Delete key) ≡ delete_job_gives log key
  unfolding gives
  delete_is key = refl

  pub deleted : (key : Key) → d.act ≡ does.Delete key → d.reply ≡ (delete_job_gives log key).reply → next ≡ grown log (delete_job_gives log key).entry → d.length.0 ≡ length next → Stored next → IsMachine shape (d ∷ past) next teams fates now
  deleted key act told grew long stored =
      store_event (delete_job_gives log key) (subst IsStoreAct (sym act) tt) (subst (IsOfShape shape) (sym act) tt) (subst (λ act. MaySettle act (is_quiescent shape past (log_given shape past))) (sym act) tt)
      (ap (gives shape past log) act ∙ delete_is key) told grew long stored (delete_keeps d past log (registers_of teams) run.syncs key)
      (delete_fits log run.syncs.tied.legal run.plannable key)
