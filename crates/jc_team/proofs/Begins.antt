-- What a begin leaves of a member whose worker's register is free.
use Rattle.std.proofs.Common.{◌≡◌, ◌∙◌, ℕ, List, slice_get, Option, Some, None, sym, ap}
use Rattle.jc_types.specs.declared.replies.Reply.{Reply}
use Rattle.jc_control.specs.Schedules.{Schedule}
use Rattle.jc_control.specs.ControllerCalls.{begun}
use Rattle.jc_sync.specs.Steps.{Sync}
use Rattle.jc_runs.specs.Replies.{reply_of_begin}
use Rattle.jc_runs.specs.Teams.{Team, begin_held, begin_registers, begin_reply, begun_sync, with_sync}

module _ (team seen : Team) (view : team ≡ seen) (w now : ℕ) (free : slice_get team.registers w ≡ Some None) where
  pub begin_told : (given : Reply) → given ≡ reply_of_begin (begun now team.con).answer → given ≡ begin_reply (slice_get seen.registers w) (begun now seen.con).answer
  begin_told given told = told ∙ ap (λ o. begin_reply o (begun now team.con).answer) (sym free) ∙ ap (λ (t : Team). begin_reply (slice_get t.registers w) (begun now t.con).answer) view

  pub begin_left : (left : Schedule) → left ≡ (begun now team.con).schedule → left ≡ begin_held (slice_get seen.registers w) seen.con.schedule (begun now seen.con).schedule
  begin_left left is =
      is ∙ ap (λ o. begin_held o team.con.schedule (begun now team.con).schedule) (sym free) ∙ ap (λ (t : Team). begin_held (slice_get t.registers w) t.con.schedule (begun now t.con).schedule) view

  pub begin_put : (sync : Option Sync) (registers : List (Option Sync)) → sync ≡ begun_sync (begun now team.con).answer
      → registers ≡ with_sync team.registers w sync → registers
      ≡ begin_registers (slice_get seen.registers w) seen.registers w (begun now seen.con).answer
  begin_put sync registers begins put =
      put ∙ ap (with_sync team.registers w) begins ∙ ap (λ o. begin_registers o team.registers w (begun now team.con).answer) (sym free)
      ∙ ap (λ (t : Team). begin_registers (slice_get t.registers w) t.registers w (begun now t.con).answer) view
