-- What is left of a pod falls with each write of it.
use Rattle.std.proofs.Common.{◌≡◌, ℕ, ◌+◌, ◌-◌, ◌^◌, ◌<◌, ◌≤◌, nat_lt, Bool, true, false, cond, not, ◌&&◌, ◌||◌, min, List, [], ◌∷◌, map, pos, Option, Some, None, is_some, refl, sym, ap, ◌∙◌, subst, arith, ltb-true, true≢false}
use Rattle.std.specs.Option.{option_map, option_map_or, option_to_list, unwrap_or}
use Rattle.std.specs.Cmp.Lexicographic.{pointwise_decides}
use Rattle.std.specs.Ordering.{int_eq}
use Rattle.std.proofs.lemmas.Bool.{and_from}
use Rattle.jc_types.proofs.EqualityFacts.{nat-exact}
use Rattle.jc_types.specs.Equality.{same_text}
use Rattle.jc_types.specs.declared.actions.End.{End}
use Rattle.jc_moment.specs.declared.moment.Moment.{Moment}
use Rattle.jc_types.specs.declared.objects.Container.{Container}
use Rattle.jc_types.specs.declared.objects.Entry.{Entry}
use Rattle.jc_types.specs.declared.objects.KeyNames.{KeyNames as Key}
use Rattle.jc_types.specs.declared.objects.Phase.TheVariants.{Succeeded, Failed}
use Rattle.jc_types.specs.declared.objects.Pod.{Pod}
use Rattle.jc_finish.specs.Decisions.{restarts_on_failure}
use Rattle.jc_history.specs.Nodes.{NodeAct, Stop, Start, Again, Finish, act_on, act_with, change_by, first_container, is_again, once_more, pod_end}
use Rattle.jc_log.specs.Requests.{changed_container, given_exit, with_mark, with_report, without_finalizer}
use Rattle.jc_states.specs.Pods.{is_final, is_marked, is_open, is_pending}
use Rattle.jc_settle.specs.Left.{ComesTo, first_restarts, left_to_end, left_while_open, pod_left, restarts_left}

abbrev one_if : Bool → ℕ
one_if b = cond b 1 0

-- ---- its finalizer, its mark

pub release-lowers : (most : ℕ) (fates : Key → Option (List End)) (log : List Entry) (pod : Pod) → pod.tracked ≡ true → pod_left most fates (without_finalizer log pod) < pod_left most fates pod
release-lowers most fates log pod tracked =
    let was : one_if pod.tracked ≡ 1 = ap one_if tracked in
    omega (arith, was)

pub mark-lowers : (most : ℕ) (fates : Key → Option (List End)) (log : List Entry) (now : Moment) (pod : Pod) → is_open pod ≡ true → is_marked pod ≡ false → pod_left most fates (with_mark log pod now) < pod_left most fates pod
mark-lowers most fates log now pod opened unmarked =
    let new : one_if (is_open pod) ≡ 1 = ap one_if opened in
    let old : pod_left most fates pod ≡ one_if pod.tracked + (left_to_end most pod (pod_end fates pod) + 1) =
    (λ i. one_if pod.tracked + cond (opened i) (cond (unmarked i) 1 (left_to_end most pod (pod_end fates pod) + 1)) 0) in
    let some = one-left (pod_end fates pod) in
    omega (arith, new, old, some)
  where
    one-left : (o : Option End) → 1 ≤ left_to_end most pod o
    one-left None = omega arith
    one-left (Some end) = omega arith

-- ---- the node

abbrev restarts_in : Option Container → ℕ
restarts_in o = option_map_or (λ (container : Container). container.restarts) o 0

-- A start leaves the containers.
start-keeps : (cs : List Container) → restarts_in (first_container (map (changed_container []) cs)) ≡ restarts_in (first_container cs)
start-keeps [] = refl
start-keeps (c ∷ cs) = refl

-- A restart counts.
again-counts : (c : Container) (cs : List Container) → restarts_in (first_container (map (changed_container (once_more c ∷ [])) (c ∷ cs))) ≡ min (c.restarts + 1) (2 ^ 32 - 1)
again-counts c cs = by (same_text c.name c.name) ((pointwise_decides nat-exact c.name c.name).1 refl)
  where
    by : (b : Bool) → b ≡ true → (cond b (record c { exit = given_exit None c.exit; restarts = min (c.restarts + 1) (2 ^ 32 - 1) }) c).restarts ≡ min (c.restarts + 1) (2 ^ 32 - 1)
    by true e = refl
    by false e = absurd (true≢false (sym e))

final-either : (b : Bool) → is_final (cond b Succeeded Failed) ≡ true
final-either true = refl
final-either false = refl

module _ (most : ℕ) (fates : Key → Option (List End)) (log : List Entry) (pod : Pod) (comes : ComesTo most fates pod) where
  abbrev after : NodeAct → Pod
  after act = with_report log pod (change_by pod act)

  abbrev Lowers : NodeAct → Type 0
  Lowers act = pod_left most fates (after act) < pod_left most fates pod

  old-is : is_open pod ≡ true → is_marked pod ≡ false → pod_left most fates pod ≡ one_if pod.tracked + (left_to_end most pod (pod_end fates pod) + 1)
  old-is opened unmarked = (λ i. one_if pod.tracked + cond (opened i) (cond (unmarked i) 1 (left_to_end most pod (pod_end fates pod) + 1)) 0)

  -- What ends it leaves the finalizer alone.
  ends : (act : NodeAct) → is_final (after act).phase ≡ true → is_open pod ≡ true → Lowers act
  ends act final opened = by (is_marked pod) refl
    where
      new : pod_left most fates (after act) ≡ one_if pod.tracked + 0
      new = ap (λ b. one_if pod.tracked + cond (not b) (left_while_open most (after act) (pod_end fates (after act))) 0) final

      by : (b : Bool) → is_marked pod ≡ b → Lowers act
      by true s =
          let old : pod_left most fates pod ≡ one_if pod.tracked + 1 = (λ i. one_if pod.tracked + cond (opened i) (cond (s i) 1 (left_to_end most pod (pod_end fates pod) + 1)) 0) in
          omega (arith, new, old)
      by false s = let old = old-is opened s in omega (arith, new, old)

  -- A start, and a restart.
  module _ (opened : is_open pod ≡ true) (unmarked : is_marked pod ≡ false) (end : End) (fated : pod_end fates pod ≡ Some end) where
    old-end : pod_left most fates pod ≡ one_if pod.tracked + ((one_if (is_pending pod.phase) + restarts_left most pod end + 1) + 1)
    old-end = old-is opened unmarked ∙ ap (λ o. one_if pod.tracked + (left_to_end most pod o + 1)) fated

    starts : is_pending pod.phase ≡ true → Lowers Start
    starts pending =
        let new : pod_left most fates (after Start) ≡ one_if pod.tracked + ((0 + restarts_left most (after Start) end + 1) + 1) =
        (λ i. one_if pod.tracked + cond (unmarked i) 1 (left_to_end most (after Start) (fated i) + 1)) in
        let same : restarts_left most (after Start) end ≡ restarts_left most pod end =
        ap (λ n. cond (restarts_on_failure pod.restart) ((end.restarts + most) - n) 0) (start-keeps pod.containers) in
        let first = ap one_if pending in
        let old = old-end in
        omega (arith, new, same, first, old)

    again : is_pending pod.phase ≡ false → is_again pod end ≡ true → Lowers Again
    again running more = by (restarts_on_failure pod.restart) refl more
      where
        by : (b : Bool) → restarts_on_failure pod.restart ≡ b → (b && (option_map_or (λ (container : Container). nat_lt container.restarts end.restarts) (first_container pod.containers) false || not (int_eq end.exit (pos 0)))) ≡ true → Lowers Again
        by false s h = absurd (true≢false (sym h))
        by true s h = of-list pod.containers refl h
          where
            fails : int_eq end.exit (pos 0) ≡ false → (is_some (first_container pod.containers) ≡ true) × (first_restarts pod < most) × (first_restarts pod < 2 ^ 32 - 1)
            fails z = comes.fails end (and_from (is_open pod) (not (is_marked pod)) opened (ap not unmarked)) fated s z

            of-list : (cs : List Container) → pod.containers ≡ cs → (option_map_or (λ (container : Container). nat_lt container.restarts end.restarts) (first_container cs) false || not (int_eq end.exit (pos 0))) ≡ true
                → Lowers Again
            of-list [] is h = none (int_eq end.exit (pos 0)) refl h
              where
                -- Only a pod whose end is a failure is left, and such a pod has a container.
                none : (zero : Bool) → int_eq end.exit (pos 0) ≡ zero → (false || not zero) ≡ true → Lowers Again
                none true z h = absurd (true≢false (sym h))
                none false z h = absurd (true≢false (sym (fails z).0 ∙ ap (λ l. is_some (first_container l)) is))
            of-list (c ∷ cs) is h = on (nat_lt c.restarts end.restarts) refl (int_eq end.exit (pos 0)) refl h
              where
                restarts-is : first_restarts pod ≡ c.restarts
                restarts-is = ap (λ l. restarts_in (first_container l)) is

                -- One more restart is counted, and was left.
                lowers : c.restarts < end.restarts + most → c.restarts < 2 ^ 32 - 1 → Lowers Again
                lowers less few =
                    let was : restarts_left most pod end ≡ (end.restarts + most) - c.restarts =
                    (λ i. cond (s i) ((end.restarts + most) - restarts_in (first_container (is i))) 0) in
                    let now : restarts_left most (after Again) end ≡ (end.restarts + most) - min (c.restarts + 1) (2 ^ 32 - 1) =
                    (λ i. cond (s i) ((end.restarts + most) - restarts_in (first_container (map (changed_container (option_to_list (option_map once_more (first_container (is i))))) (is i)))) 0)
                    ∙ ap (λ n. (end.restarts + most) - n) (again-counts c cs) in
                    let new : pod_left most fates (after Again) ≡ one_if pod.tracked + ((0 + restarts_left most (after Again) end + 1) + 1) =
                    (λ i. one_if pod.tracked + cond (unmarked i) 1 (left_to_end most (after Again) (fated i) + 1)) in
                    let old = old-end in
                    let none = ap one_if running in
                    omega (arith, less, few, was, now, new, old, none)

                on : (less : Bool) → nat_lt c.restarts end.restarts ≡ less → (zero : Bool) → int_eq end.exit (pos 0) ≡ zero → (less || not zero) ≡ true → Lowers Again
                on less l false z h =
                    let fewer : first_restarts pod < most = (fails z).1 in
                    let few : first_restarts pod < 2 ^ 32 - 1 = (fails z).2 in
                    let same = restarts-is in
                    lowers (omega (arith, fewer, same)) (omega (arith, few, same))
                on true l true z h = let lt = ltb-true c.restarts end.restarts l in let few = comes.few end fated s z in lowers (omega (arith, lt)) (omega (arith, lt, few))
                on false l true z h = absurd (true≢false (sym h))

  -- Each act of the node does.
  pub node-lowers : (act : NodeAct) → act_on fates pod ≡ Some act → Lowers act
  node-lowers act befalls = by (is_open pod) refl befalls
    where
      some-is : (one two : NodeAct) → Some one ≡ Some two → one ≡ two
      some-is one two e = ap (λ o. unwrap_or o one) e

      of-end : is_open pod ≡ true → is_marked pod ≡ false → (o : Option End) → pod_end fates pod ≡ o → act_with pod o ≡ Some act → Lowers act
      of-end opened unmarked None fated h = absurd (true≢false (sym (ap is_some h)))
      of-end opened unmarked (Some end) fated h = at (is_pending pod.phase) refl (is_again pod end) refl h
        where
          at : (pending : Bool) → is_pending pod.phase ≡ pending → (more : Bool) → is_again pod end ≡ more → cond pending (Some Start) (cond more (Some Again) (Some (Finish end))) ≡ Some act → Lowers act
          at true p more m h = subst Lowers (some-is Start act h) (starts opened unmarked end fated p)
          at false p true m h = subst Lowers (some-is Again act h) (again opened unmarked end fated p m)
          at false p false m h = subst Lowers (some-is (Finish end) act h) (ends (Finish end) (final-either (int_eq end.exit (pos 0))) opened)

      marked : is_open pod ≡ true → (b : Bool) → is_marked pod ≡ b → cond b (Some Stop) (act_with pod (pod_end fates pod)) ≡ Some act → Lowers act
      marked opened true s h = subst Lowers (some-is Stop act h) (ends Stop refl opened)
      marked opened false s h = of-end opened s (pod_end fates pod) refl h

      by : (b : Bool) → is_open pod ≡ b → cond (not b) None (cond (is_marked pod) (Some Stop) (act_with pod (pod_end fates pod))) ≡ Some act → Lowers act
      by false s h = absurd (true≢false (sym (ap is_some h)))
      by true s h = marked s (is_marked pod) refl h
