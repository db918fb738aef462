-- A sync of a legal history that begins on current caches and meets no fault.
use Rattle.std.proofs.Common.{◌≡◌, ℕ, ◌<◌, Bool, true, false, List, [], ◌∷◌, ◌++◌, length, slice_get, Option, Some, None, refl, sym, ap, ◌∙◌, subst, arith, true≢false}
use Rattle.std.specs.List.{AllByRecursion as Each}
use Rattle.jc_log.specs.Acts as does
use Rattle.jc_control.specs.Schedules.{log_end}
use Rattle.jc_control.specs.ControllerCalls.{begun}
use Rattle.jc_control.specs.declared.begins.Begin.{Begin}
use Rattle.jc_control.specs.declared.begins.Begin.TheVariants.{NotSynced, NoKey, Behind, Begun}
use Rattle.jc_types.specs.declared.actions.SpecChange.{SpecChange}
use Rattle.jc_types.specs.declared.numbers.Version.{Version}
use Rattle.jc_types.specs.declared.objects.Job.{Job}
use Rattle.jc_types.specs.declared.objects.KeyNames.{KeyNames as Key}
use Rattle.jc_types.specs.declared.replies.Reply.{Reply}
use Rattle.jc_types.specs.declared.replies.Reply.TheVariants as reply
use Rattle.jc_types.specs.declared.runs.Shape.{Shape}
use Rattle.jc_types.specs.declared.specifications.JobSpec.{JobSpec}
use Rattle.jc_states.specs.declared.bases.Basis.{Basis}
use Rattle.jc_types.specs.ValidSpecs.{IsValidSpec}
use Rattle.jc_log.specs.Deeds.{Deed}
use Rattle.jc_log.specs.Requests.{changed_spec, refused, update_refusal}
use Rattle.jc_log.specs.Writes.{Stored}
use Rattle.jc_log.proofs.WriteFacts.{Stored-from_legal}
use Rattle.jc_asks.specs.Sends.{new_sync}
use Rattle.jc_asks.specs.Steps.{Sync}
use Rattle.jc_sync.specs.AllRegisters.{HasSyncs, Registers, put_at, register_at}
use Rattle.jc_sync.proofs.BeginFacts.{begun_syncs}
use Rattle.jc_history.specs.Diaries.{moment, notes}
use Rattle.jc_history.specs.Fresh.{basis as basis_of}
use Rattle.jc_history.specs.Legal.{IsLegal}
use Rattle.jc_history.specs.Replies.{log_given}
use Rattle.jc_runs.specs.QuietRuns.{BeginsCurrent, IsAtNext, IsQuietSync, SyncRun, WritesNoStatus, backoff_at_begin, deeds_at_begin, deeds_at_end, log_at_begin, log_at_end, status_due}
use Rattle.jc_runs.specs.Machines.{AllAskValid, IsTeam}
use Rattle.jc_runs.specs.Teams.{begin_reply, registers_of}
use Rattle.jc_runs.proofs.BeginFacts.{begin_gives-at, begun_basis}
use Rattle.jc_runs.proofs.LegalRuns.{Given, Machine, There, given, legal_run, team, there, within}
use Rattle.jc_runs.proofs.ListFacts.{register_there}
use Rattle.jc_runs.proofs.QuietBegins.{BeginsKnown, comes-to-next}
use Rattle.jc_runs.proofs.QuietSteps.{put-same}
use Rattle.jc_runs.proofs.QuietWrites.{writes-nothing}

-- ---- what a reply tells of a begin

tells_begin : Reply → Bool
tells_begin (reply.Begun key jobs_at pods_at) = true
tells_begin other = false

key_in : Key → Reply → Key
key_in k (reply.Begun key jobs_at pods_at) = key
key_in k other = k

jobs_in_reply : Version → Reply → Version
jobs_in_reply v (reply.Begun key jobs_at pods_at) = jobs_at
jobs_in_reply v other = v

pods_in_reply : Version → Reply → Version
pods_in_reply v (reply.Begun key jobs_at pods_at) = pods_at
pods_in_reply v other = v

-- ---- the registers after the begin

-- The registers have the sync.
record Registered (shape : Shape) (c w : ℕ) (d : Deed) (past : List Deed) (k : Key) (job : Job) : Type 0 where
  rs : Registers
  is : BeginsKnown shape c w d past k job rs

module _ (shape : Shape) (c w : ℕ) (d : Deed) (past : List Deed) (k : Key) (job : Job) (b : BeginsCurrent shape c w d past k job) (m : Machine shape past) where
  of_shape : (c < shape.controllers) × (w < shape.workers)
  of_shape = within shape past d b.legal.0 m (does.Begin c w) b.act

  one : There shape past d b.legal.0 m m.teams c
  one = team shape past d b.legal.0 m c of_shape.0

  its : IsTeam shape past m.log c one.one
  its = m.run.each c one.one one.is

  abbrev answer : Begin
  answer = (begun m.now one.one.con).answer

  abbrev end : Version
  end = log_end (log_given shape (d ∷ past))

  -- The sync began so.
  began_with : slice_get one.one.registers w ≡ Some None → (basis : Basis) → answer ≡ Begun basis → d.reply
      ≡ reply.Begun basis.key basis.jobs_at basis.pods_at → d.length.0 ≡ length m.log → log_given shape (d ∷ past)
      ≡ m.log → Registered shape c w d past k job
  unfolding key_in jobs_in_reply pods_in_reply
  began_with free basis is told long grew = record {
    rs = put_at c w (Some (new_sync basis)) (registers_of m.teams);
    is = record {
      legal = b.legal;
      act = b.act;
      reply_is = b.reply_is;
      there = b.there;
      no_fault = b.no_fault;
      known =
          subst (λ log. HasSyncs (d ∷ past) log (put_at c w (Some (new_sync basis)) (registers_of m.teams))) (sym grew)
          (begun_syncs d past m.log (registers_of m.teams) c w m.now one.one.con basis m.run.syncs at its.holds is b.act told long);
      in_register = put-same c w None (Some (new_sync basis)) (registers_of m.teams) at ∙ ap (λ x. Some (Some (new_sync x))) same;
    };
  }
    where
      at : register_at c w (registers_of m.teams) ≡ Some None
      at = register_there m.teams c one.one one.one one.is w None free

      replies : reply.Begun basis.key basis.jobs_at basis.pods_at ≡ reply.Begun k end end
      replies = sym told ∙ b.reply_is

      same : basis ≡ basis_of (notes shape c past (log_given shape past)) (log_given shape (d ∷ past)) (moment shape past) k end end
      same =
          begun_basis shape past m.log m.teams m.fates m.now m.run c one.one one.is basis is
          ∙ (λ i. basis_of (notes shape c past (m.run.log_is i)) (sym grew i) (m.run.now_is i) (ap (key_in k) replies i) (ap (jobs_in_reply end) replies i) (ap (pods_in_reply end) replies i))

  registered : Registered shape c w d past k job
  unfolding tells_begin
  registered = by_register r.one r.is
    where
      r : There shape past d b.legal.0 m one.one.registers w
      r = there shape past d b.legal.0 m one.one.registers w (let count = its.count in let working = of_shape.1 in omega (arith, count, working))

      gave : (o : Option Sync) → slice_get one.one.registers w ≡ Some o → Given shape past d b.legal.0 m (refused (begin_reply (Some o) answer))
      gave o e = given shape past d b.legal.0 m (does.Begin c w) (refused (begin_reply (Some o) answer)) b.act (begin_gives-at shape past m.log m.teams m.fates m.now m.run c one.one one.is w o e)

      none_told : (r : Reply) → tells_begin r ≡ false → d.reply ≡ r → Registered shape c w d past k job
      none_told other silent told = absurd (true≢false (sym begins ∙ ap tells_begin told ∙ silent))
        where
          begins : tells_begin d.reply ≡ true
          begins = ap tells_begin b.reply_is

      by : slice_get one.one.registers w ≡ Some None → (a : Begin) → answer ≡ a → d.reply ≡ begin_reply (Some None) a → d.length.0 ≡ length m.log → log_given shape (d ∷ past) ≡ m.log → Registered shape c w d past k job
      by free NotSynced is told long grew = none_told reply.NotSynced refl told
      by free NoKey is told long grew = none_told reply.NoKey refl told
      by free (Behind kind need have) is told long grew = none_told (reply.Behind kind need have) refl told
      by free (Begun basis) is told long grew = began_with free basis is told long grew

      by_register : (o : Option Sync) → slice_get one.one.registers w ≡ Some o → Registered shape c w d past k job
      by_register None e = by e answer refl (gave None e).told (gave None e).long (gave None e).grew
      by_register (Some sync) e = none_told reply.WorkerBusy refl (gave (Some sync) e).told

-- ---- the laws

abbrev Stay : Type 0
Stay = (spec : JobSpec) (change : SpecChange) → IsValidSpec spec → update_refusal spec change ≡ None → IsValidSpec (changed_spec spec change)

legal_stored : Stay → (shape : Shape) (deeds : List Deed) → IsLegal shape deeds → AllAskValid deeds → Stored (log_given shape deeds)
legal_stored stay shape deeds legal valid = let m = legal_run stay shape deeds legal valid in subst Stored m.run.log_is (Stored-from_legal m.log m.run.syncs.tied.legal)

-- The deeds before the last ones.
valid_before : (run past : List Deed) → AllAskValid (run ++ past) → AllAskValid past
valid_before [] past valid = valid
valid_before (d ∷ run) past valid = valid_before run past valid.1

module _ (stay : Stay) (s : SyncRun) (q : IsQuietSync s) where
  registers : Registered s.shape s.controller s.worker s.begin s.past s.key s.job
  registers =
      registered s.shape s.controller s.worker s.begin s.past s.key s.job q.begins
      (legal_run stay s.shape s.past q.begins.legal.1 (valid_before (s.last ∷ s.run) (deeds_at_begin s) q.valid).1)

  stored : Stored (log_at_end s)
  stored = legal_stored stay s.shape (deeds_at_end s) q.legal q.valid

  pub comes_to_next : (s.last.reply ≡ reply.Ended) × IsAtNext (log_at_end s) (log_at_begin s) (moment s.shape s.past) (backoff_at_begin s) s.key s.job
  comes_to_next =
      comes-to-next s.shape s.controller s.worker s.begin s.past s.key s.job registers.rs registers.is s.last s.run q.legal q.steps stored q.free

  pub writes_nothing : status_due s ≡ s.job.status → Each (λ (x : Deed). WritesNoStatus x.reply) (s.last ∷ s.run)
  writes_nothing same =
      writes-nothing s.shape s.controller s.worker s.begin s.past s.key s.job registers.rs registers.is s.last s.run q.legal q.steps stored q.free same
