-- A test over the pods, over the own ones, and over the own ones that keep their index.
use Rattle.std.proofs.Common.{◌≡◌, ◌+◌, ◌<◌, ◌&&◌, ◌||◌, ℕ, [], ◌∷◌, ◌++◌, false, get_or, drop, length, take, ap, sym, ◌∙◌, arith, rules}
use Rattle.std.specs.List.{list_any}
use Rattle.std.proofs.lemmas.List.{take_all, take_at, take_more}
use Rattle.jc_states.specs.Bases.{is_own, own_pods}
use Rattle.jc_types.proofs.ListFacts.{any_filter}
use Rattle.jc_states.specs.Indexes.{has_index}
use Rattle.jc_manage.specs.Creations.{keeps}
use Rattle.jc_manage.proofs.Sequences.{any-next}
use Rattle.jc_manage.proofs.creations.kept_indexes.Goals as goal

pub returns : goal.returns
returns c =
    let job = c.args.job.now in
    let keeps_it = keeps job.spec.replacement in
    let pods = c.args.pods.now in
    let whole : take c.loop-pod.pod-index pods ≡ pods = take_all c.loop-pod.pod-index pods (omega arith) in
    λ n h. c.loop-pod.invariant.1 n h
    ∙ ap (list_any (λ pod. is_own job pod && (keeps_it pod && has_index n pod))) whole
    ∙ sym (any_filter (has_index n) keeps_it (own_pods job pods) ∙ any_filter (λ pod. keeps_it pod && has_index n pod) (is_own job) pods)

pub loop-pod-preserved : goal.loop-pod-preserved
loop-pod-preserved c =
    let job = c.args.job.now in
    let keeps_it = keeps job.spec.replacement in
    let pods = c.args.pods.now in
    let i = c.loop-pod.pod-index in
    let pod = c.deref.result.now in
    let old = c.loop-pod.kept.items in
    let new = c.flag_index.new.kept in
    let value = c.as_mut_slice.ensures.value in
    let long : length new ≡ c.args.completions = c.flag_index.ensures.count ∙ ap length value ∙ c.loop-pod.invariant.0 in
    let same : take c.loop-pod.kept.len (new ++ drop (length new) old) ≡ new =
    take_at new (drop (length new) old) c.loop-pod.kept.len (c.flag_index.ensures.count ∙ c.as_mut_slice.ensures.len) in
    let item : take (i + 1) pods ≡ take i pods ++ c.pod-item.result ∷ [] = search (rules, take_more) in
    let more : take (i + 1) pods ≡ take i pods ++ pod ∷ [] = item ∙ ap (λ p. take i pods ++ p ∷ []) (sym c.deref.ensures) in
    let step : (n : ℕ) → n < c.args.completions → get_or new n false ≡ ((is_own job pod && (keeps_it pod && has_index n pod)) || get_or old n false) =
    λ n h. c.flag_index.ensures.flags n (omega (arith, h, ap length value, c.loop-pod.invariant.0))
    ∙ ap (λ flags. (is_own job pod && (keeps_it pod && has_index n pod)) || get_or flags n false) value in (
      ap length same ∙ long,
      λ n h. ap (λ flags. get_or flags n false) same
          ∙ any-next (λ p. is_own job p && (keeps_it p && has_index n p)) pods i pod _ _ more (c.loop-pod.invariant.1 n h) (step n h),
    )
