-- Commands that change nothing but the history, and those that say how pods end.
use Rattle.std.proofs.Common.{◌≡◌, ℕ, ◌+◌, Bool, true, false, cond, List, ◌∷◌, length, Some, None, refl, sym, ap, ◌∙◌, subst, arith}
use Rattle.std.specs.Option.{option_or}
use Rattle.jc_log.specs.Acts as does
use Rattle.jc_types.specs.declared.actions.End.{End}
use Rattle.jc_types.specs.declared.objects.Entry.{Entry}
use Rattle.jc_types.specs.declared.replies.Reply.{Reply}
use Rattle.jc_types.specs.declared.replies.Reply.TheVariants as reply
use Rattle.jc_types.specs.declared.runs.Shape.{Shape}
use Rattle.jc_types.specs.declared.objects.KeyNames.{KeyNames as Key}
use Rattle.jc_types.specs.Keys.{same_key}
use Rattle.jc_log.specs.Requests.{Answered, grown, refused}
use Rattle.jc_log.specs.Acts.{Act}
use Rattle.jc_log.specs.Deeds.{Deed}
use Rattle.jc_ledger.specs.Syncs.{began_of}
use Rattle.jc_asks.specs.Readings.{told_step}
use Rattle.jc_history.specs.Available.{is_quiescent}
use Rattle.jc_history.specs.Legal.{IsOfShape, MaySettle}
use Rattle.jc_history.specs.Nodes.{fate, fate_told}
use Rattle.jc_history.specs.Replies.{gives, log_given}
use Rattle.jc_sync.specs.AllRegisters.{HasSyncs}
use Rattle.jc_sync.proofs.CommandFacts.{IsStoreReply}
use Rattle.jc_sync.proofs.EntryFacts.{quiet-by}
use Rattle.jc_sync.proofs.RegisterFacts.{quiet_syncs}
use Rattle.jc_runs.specs.Fates.{AreFated, Fates, WithFate}
use Rattle.jc_runs.specs.Machines.{IsMachine}
use Rattle.jc_runs.specs.Teams.{Team, registers_of}
use Rattle.jc_runs.proofs.NoteFacts.{IsStoreAct, fate_quiet, still_fate}
use Rattle.jc_runs.proofs.RunFacts.{IsDone, run_next, run_store, team_quiet}

module _ (shape : Shape) (past : List Deed) (log : List Entry) (teams : List Team) (fates : Fates) (now : ℕ) (run : IsMachine shape past log teams fates now) (d : Deed) where
  -- What the code shows of a deed that is answered so, and appends nothing.
  done_with : (r : Reply) (act : Act) → d.act ≡ act → IsOfShape shape act → MaySettle act (is_quiescent shape past (log_given shape past)) → gives shape past log act ≡ refused r → d.reply ≡ r → d.length.0 ≡ length log → IsDone shape past log log d
  done_with r act e within settled is told long = record {
    reply = told ∙ sym (ap (λ (a : Answered). a.reply) (ap (gives shape past log) e ∙ is));
    grown = sym (ap (λ (a : Answered). grown log a.entry) (ap (gives shape past log) e ∙ is));
    length = long;
    within = subst (IsOfShape shape) (sym e) within;
    settled = subst (λ act. MaySettle act (is_quiescent shape past (log_given shape past))) (sym e) settled;
  }

  same_syncs : (r : Reply) → IsStoreReply r → d.reply ≡ r → d.length.0 ≡ length log → HasSyncs (d ∷ past) log (registers_of teams)
  same_syncs r store told long =
      quiet_syncs d past log (registers_of teams) run.syncs (quiet-by d log (ap began_of told ∙ store.began) long) (ap began_of told ∙ store.began) (ap told_step told ∙ store.untold)

  -- NEITHER the store nor a controller.
  pub run_nothing : (r : Reply) (act : Act) → d.act ≡ act → IsStoreAct act → IsOfShape shape act
      → MaySettle act (is_quiescent shape past (log_given shape past)) → gives shape past log act ≡ refused r
      → IsStoreReply r → d.reply ≡ r → d.length.0 ≡ length log
      → IsMachine shape (d ∷ past) log teams fates now
  run_nothing r act e alone within settled is store told long =
      run_store shape past log teams fates now run log d (done_with r act e within settled is told long) (subst IsStoreAct (sym e) alone) (same_syncs r store told long) run.plannable

  pub settle_is : gives shape past log does.Settle ≡ refused reply.Done
  unfolding gives
  settle_is = refl

  -- A settle, where nothing is available.
  pub settled_run : d.act ≡ does.Settle → is_quiescent shape past log ≡ true → d.reply ≡ reply.Done → d.length.0 ≡ length log → IsMachine shape (d ∷ past) log teams fates now
  settled_run act rests told long =
      run_nothing reply.Done does.Settle act tt tt (ap (is_quiescent shape past) (sym run.log_is) ∙ rests) settle_is (record { asked = refl; began = refl; untold = refl }) told long

  -- ---- fates

  pub fate_is : (key : Key) (ends : List End) → gives shape past log (does.Fate key ends) ≡ refused reply.Done
  unfolding gives
  fate_is key ends = refl

  told_fate : (key : Key) (ends : List End) (new : Fates) → d.act ≡ does.Fate key ends → WithFate fates new key ends → AreFated (d ∷ past) new
  told_fate key ends new act sets k =
      sets k ∙ ap (λ o. cond (same_key key k) (Some ends) o) (run.fated k) ∙ by (same_key key k)
      ∙ sym (ap (λ o. option_or o (fate past k)) (ap (λ act. fate_told k (record d { act = act })) act))
    where
      by : (b : Bool) → cond b (Some ends) (fate past k) ≡ option_or (cond b (Some ends) None) (fate past k)
      by true = refl
      by false = refl

  -- It is said how the pods of the key end.
  pub fated_run : (key : Key) (ends : List End) (new : Fates) → d.act ≡ does.Fate key ends → d.reply ≡ reply.Done → d.length.0 ≡ length log → WithFate fates new key ends → IsMachine shape (d ∷ past) log teams new now
  fated_run key ends new act told long sets =
      run_next shape past log teams fates now run log d done teams new now (sym (ap (λ n. now + n) (still_fate d key ends act) ∙ omega arith)) (told_fate key ends new act sets) refl
      (λ c team e. team_quiet shape past log teams fates now run log d done c team (fate_quiet shape past d key ends act c) e)
      (same_syncs reply.Done (record { asked = refl; began = refl; untold = refl }) told long) run.plannable
    where
      done : IsDone shape past log log d
      done = done_with reply.Done (does.Fate key ends) act tt tt (fate_is key ends) told long
