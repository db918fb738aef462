-- What a settle does next in a calm state, and what a begin there leaves.
use Rattle.std.proofs.Common.{◌≡◌, ℕ, ◌-◌, ◌<◌, ◌==◌, Bool, true, false, cond, List, [], ◌∷◌, ◌++◌, Option, Some, None, is_some, refl, sym, ap, ◌∙◌, subst, arith, eqb-true, eq-eqb}
use Rattle.std.proofs.lemmas.Option.{none-some as none_some, same_Some as some_is}
use Rattle.std.specs.Option.{option_or, unwrap_or}
use Rattle.jc_types.specs.declared.objects.Entry.{Entry}
use Rattle.jc_types.specs.declared.objects.KeyNames.{KeyNames as Key}
use Rattle.jc_types.specs.declared.numbers.Version.{Version}
use Rattle.jc_types.specs.declared.runs.Shape.{Shape}
use Rattle.jc_types.specs.declared.runs.Sys.{Sys}
use Rattle.jc_states.specs.declared.bases.Basis.{Basis}
use Rattle.jc_control.specs.Schedules.{log_end}
use Rattle.jc_log.specs.Acts as does
use Rattle.jc_log.specs.Deeds.{Deed, act_of_system}
use Rattle.jc_history.specs.Available.{is_quiescent, least_of_all}
use Rattle.jc_history.specs.Diaries.{moment, ticks}
use Rattle.jc_history.specs.Fresh.{basis as basis_of}
use Rattle.jc_history.specs.Legal.{IsLegal, IsLegalNext, IsOfShape}
use Rattle.jc_history.specs.Lines.{line}
use Rattle.jc_history.specs.Notes.{Note, Began, newest}
use Rattle.jc_history.specs.Numbers.{number}
use Rattle.jc_history.specs.Registers.{made, pending, register, register_told}
use Rattle.jc_history.specs.Replies.{diary, log_given}
use Rattle.jc_settle.specs.Comes.{AreUpToDate, Comes, HaveNoKeys, Lists, Delivers, Steps, Begins, Acts, Ticks}
use Rattle.jc_settle.specs.Serial.{IsAlone}
use Rattle.jc_settle.specs.Settles.{IsCalm, next_of_settle}
use Rattle.jc_settle.proofs.CalmFacts.{Calm, NextIs, Step, next-where-told}
use Rattle.jc_settle.proofs.ComesFacts.{first-comes}
use Rattle.jc_settle.proofs.OnFacts.{IsNext, next-is, next-legal, none-next}
use Rattle.jc_settle.proofs.SerialFacts.{begun-alone, begun-nothing, notes-are}
use Rattle.jc_calm.specs.SettleTurns.{BeginsAlone}
use Rattle.jc_calm.proofs.NowFacts.{now-same}

-- What comes first in a calm state.
pub data First (shape : Shape) (past : List Deed) : Type 0 where
  Quiet : is_quiescent shape past (log_given shape past) ≡ true → First shape past
  Nodes : (d : Deed) → next_of_settle shape past ≡ Some d → d.act ≡ does.Node → First shape past
  Clocks : (d : Deed) (due : ℕ) → next_of_settle shape past ≡ Some d → d.act ≡ does.Clock (due - moment shape past)
      → least_of_all shape past (log_given shape past) ≡ Some due → HaveNoKeys shape past (log_given shape past) → First shape past
  Opens : (d : Deed) (c w : ℕ) (k : Key) (rest : List Key) → next_of_settle shape past ≡ Some d → c < shape.controllers → w < shape.workers
      → d.act ≡ does.Begin c w → line (diary shape c past) ≡ k ∷ rest → First shape past

module _ (shape : Shape) (some : 0 < shape.workers) (past : List Deed) (legal : IsLegal shape past) (calm : IsCalm shape past) where
  pub first-where-calm : First shape past
  first-where-calm = by (next_of_settle shape past) refl
    where
      by : (o : Option Deed) → next_of_settle shape past ≡ o → First shape past
      by None e = Quiet (none-next shape past e)
      by (Some d) e = case x.comes (ap (λ (y : Deed). y.act) x.is) (first-comes shape past x.comes legal some x.first)
        where
          x : IsNext shape past d
          x = next-is shape past d e

          act-is : (y z : Sys) → act_of_system y ≡ d.act → y ≡ z → d.act ≡ act_of_system z
          act-is y z a is = sym a ∙ ap act_of_system is

          case : (y : Sys) → act_of_system y ≡ d.act → Comes shape past (log_given shape past) y → First shape past
          case y a (Lists c kind lt is none) = absurd (none_some _ (sym none ∙ calm.caches c lt kind))
          case y a (Delivers c kind version lt is n less) =
              let same = ap (λ (v : Version). v.0) (some_is _ _ (sym n ∙ calm.caches c lt kind)) in absurd (omega (arith, same, less))
          case y a (Steps told c w basis lt less is r) = absurd (none_some _ (sym (calm.free c lt w less) ∙ r))
          case y a (Begins told free c w k rest lt is first) =
              let act = sym a ∙ ap act_of_system is in
              Opens d c w k rest e lt (subst (IsOfShape shape) act (next-legal shape past d e).within).1 act first
          case y a (Acts told free none step is s) = Nodes d e (sym a ∙ ap act_of_system is)
          case y a (Ticks told free none idle due is s) = Clocks d due e (sym a ∙ ap act_of_system is) s none

-- ---- a begin

module _ (shape : Shape) (past : List Deed) (legal : IsLegal shape past) (calm : IsCalm shape past) (d : Deed) (c w : ℕ) (k : Key) (rest : List Key) (e : next_of_settle shape past ≡ Some d) (lt : c < shape.controllers) (less : w < shape.workers)
    (a : d.act ≡ does.Begin c w) (first : line (diary shape c past) ≡ k ∷ rest) where
  abbrev log : List Entry
  log = log_given shape past

  -- What it sees.
  abbrev pub seen : Basis
  seen = basis_of (diary shape c past) (log_given shape past) (moment shape past) k (log_end (log_given shape past)) (log_end (log_given shape past))

  next : IsLegalNext shape past d
  next = next-legal shape past d e

  pub begun-legal : IsLegal shape (d ∷ past)
  begun-legal = (next, legal)

  pub begun-log : log_given shape (d ∷ past) ≡ log_given shape past
  begun-log = begun-nothing shape past d c w a (calm.free c lt w less)

  pub begun-now : moment shape (d ∷ past) ≡ moment shape past
  begun-now = now-same shape d past (ap ticks a)

  pub begun-notes : (x : ℕ) → diary shape x (d ∷ past) ≡ cond (c == x) (Began w seen ∷ []) [] ++ diary shape x past
  begun-notes x = notes-are shape past legal d next calm.caches calm.free c w k rest lt less a first x ∙ by (c == x) refl
    where
      by : (b : Bool) → (c == x) ≡ b → cond b (Began w (basis_of (diary shape x past) log (moment shape past) k (log_end log) (log_end log)) ∷ []) [] ++ diary shape x past ≡ cond b (Began w seen ∷ []) [] ++ diary shape x past
      by true s = ap (λ z. Began w (basis_of (diary shape z past) log (moment shape past) k (log_end log) (log_end log)) ∷ diary shape x past) (sym (eqb-true c x s))
      by false s = refl

  pub begun-own : diary shape c (d ∷ past) ≡ Began w seen ∷ diary shape c past
  begun-own = begun-notes c ∙ ap (λ b. cond b (Began w seen ∷ []) [] ++ diary shape c past) (eq-eqb c c refl)

  pub begun-register : register w (diary shape c (d ∷ past)) ≡ Some seen
  begun-register = ap (register w) begun-own ∙ ap (λ b. unwrap_or (option_or (cond b (Some (Some seen)) None) (newest (register_told w) (diary shape c past))) None) (eq-eqb w w refl)

  pub begun-made : made w (diary shape c (d ∷ past)) ≡ []
  begun-made = ap (made w) begun-own ∙ ap (λ b. cond b [] (made w (diary shape c past))) (eq-eqb w w refl)

  -- The notes of each controller tell the same of what a begin does not touch.
  begun-same : {A : Type 0} (f : List Note → A) → ((older : List Note) → f (Began w seen ∷ older) ≡ f older) → (x : ℕ) → f (diary shape x (d ∷ past)) ≡ f (diary shape x past)
  begun-same f h x = ap f (begun-notes x) ∙ by (c == x)
    where
      by : (b : Bool) → f (cond b (Began w seen ∷ []) [] ++ diary shape x past) ≡ f (diary shape x past)
      by true = h (diary shape x past)
      by false = refl

  pub begun-pending : (x v : ℕ) → pending v (diary shape x (d ∷ past)) ≡ pending v (diary shape x past)
  begun-pending x v = begun-same (pending v) (λ older. refl) x

  pub begun-caches : AreUpToDate shape (d ∷ past) (log_given shape (d ∷ past))
  begun-caches x l kind = begun-same (number kind) (λ older. refl) x ∙ calm.caches x l kind ∙ ap (λ log. Some (log_end log)) (sym begun-log)

  pub begun-is-alone : IsAlone shape (d ∷ past) c w
  begun-is-alone = begun-alone shape past legal d next calm.caches calm.free c w k rest lt less a first c w seen lt less begun-register

  pub begun-begins : BeginsAlone shape past c w seen d
  begun-begins = record { next = e; controller = lt; worker = less; act = a; rest = rest; first = first; saw = refl }

-- ---- the step of a sync that is alone

pub record StepsNext (shape : Shape) (past : List Deed) (c w : ℕ) : Type 0 where
  pub step : Deed
  pub next : next_of_settle shape past ≡ Some step
  pub act : step.act ≡ does.Step c w

pub alone-steps : (shape : Shape) (some : 0 < shape.workers) (past : List Deed) (c w : ℕ) (basis : Basis) → IsLegal shape past → AreUpToDate shape past (log_given shape past) → IsAlone shape past c w → c < shape.controllers → w < shape.workers
    → register w (diary shape c past) ≡ Some basis → StepsNext shape past c w
alone-steps shape some past c w basis legal up alone lt less r = by (next-where-told shape some past legal up)
  where
    by : NextIs shape some past → StepsNext shape past c w
    by (Calm calm) = absurd (none_some basis (sym (calm.free c lt w less) ∙ r))
    by (Step d x v begun e l m a s) =
        let same = alone x v l m (ap is_some s) in
        record { step = d; next = e; act = a ∙ (λ i. does.Step (sym same.0 i) (sym same.1 i)) }
