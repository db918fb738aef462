-- What is reported of a pod's containers, one container at a time.
use Rattle.std.proofs.Common.{◌≡◌, ℕ, suc, ◌+◌, ◌<◌, ℤ, pos, Bool, true, false, List, [], ◌∷◌, ◌++◌, length, get_or, take, drop, map, filter_map, Option, Some, None, refl, sym, ap, ◌∙◌, arith, append_assoc, if◌then◌else◌}
use Rattle.std.specs.List.{cons_option}
use Rattle.std.specs.Option.{option_to_list}
use Rattle.std.proofs.Math.Seq.{drop-cons}
use Rattle.std.proofs.lemmas.List.{take_more}
use Rattle.std.proofs.lemmas.List.Elements.{filter_map-append}
use Rattle.jc_types.specs.declared.actions.ContainerChange.{ContainerChange}
use Rattle.jc_types.specs.declared.objects.Container.{Container}
use Rattle.jc_history.specs.Nodes.{exits, killed, with_exit}
use Rattle.jc_node.specs.NodeSteps.{code_after, code_for}

-- Where the code is 0, all exit with it.
exits-zero : (containers : List Container) → exits (pos 0) containers ≡ map (with_exit (pos 0)) containers
exits-zero [] = refl
exits-zero (container ∷ more) = by container.init (exits-zero more)
  where
    by : (init : Bool) → exits (pos 0) more ≡ map (with_exit (pos 0)) more
        → (if init then with_exit (pos 0) container ∷ exits (pos 0) more else with_exit (pos 0) container ∷ map (with_exit (pos 0)) more)
        ≡ with_exit (pos 0) container ∷ map (with_exit (pos 0)) more
    by true ih = ap (λ rest. with_exit (pos 0) container ∷ rest) ih
    by false ih = refl

-- A container takes its code, and leaves one for those after it.
pub exits-more : (code : ℤ) (container : Container) (more : List Container) → exits code (container ∷ more) ≡ with_exit (code_for container.init code) container ∷ exits (code_after container.init code) more
exits-more code container more = by container.init
  where
    by : (init : Bool)
        → (if init then with_exit (pos 0) container ∷ exits code more else with_exit code container ∷ map (with_exit (pos 0)) more)
        ≡ with_exit (code_for init code) container ∷ exits (code_after init code) more
    by true = refl
    by false = ap (λ rest. with_exit code container ∷ rest) (sym (exits-zero more))

-- The changes with that of one more container, and what the rest then exit with.
pub exits-step : (exit code taken given left next : ℤ) (all : List Container) (changes new : List ContainerChange) (change : ContainerChange) (i : ℕ) (container : Container)
    → i < length all → container ≡ get_or all i container → exits exit all ≡ changes ++ exits code (drop i all)
    → taken ≡ code_for container.init code → given ≡ taken → change ≡ with_exit given container → new ≡ changes ++ change ∷ []
    → left ≡ code_after container.init code → next ≡ left → exits exit all ≡ new ++ exits next (drop (i + 1) all)
exits-step exit code taken given left next all changes new change i container within is so_far takes gives changed added leaves goes_on =
    let one : suc i ≡ i + 1 = omega arith in
    let rest : drop i all ≡ container ∷ drop (i + 1) all =
    drop-cons all i container within ∙ ap (λ first. first ∷ drop (suc i) all) (sym is) ∙ ap (λ n. container ∷ drop n all) one
    in
    let more = ap (λ rest. changes ++ exits code rest) rest ∙ ap (λ rest. changes ++ rest) (exits-more code container (drop (i + 1) all)) in
    let same : with_exit (code_for container.init code) container ≡ change = ap (λ code. with_exit code container) (sym (gives ∙ takes)) ∙ sym changed in
    so_far
    ∙ more
    ∙ sym (append_assoc changes (with_exit (code_for container.init code) container ∷ []) (exits (code_after container.init code) (drop (i + 1) all)))
    ∙ ap (λ change. (changes ++ change ∷ []) ++ exits (code_after container.init code) (drop (i + 1) all)) same
    ∙ ap (λ front. front ++ exits (code_after container.init code) (drop (i + 1) all)) (sym added)
    ∙ ap (λ code. new ++ exits code (drop (i + 1) all)) (sym (goes_on ∙ leaves))

-- One more container is killed, where it still runs.
pub killed-more : (all : List Container) (i : ℕ) (container : Container) → i < length all → container ≡ get_or all i container
    → filter_map killed (take (i + 1) all) ≡ filter_map killed (take i all) ++ option_to_list (killed container)
killed-more all i container within is =
    ap (filter_map killed) (take_more all i container within ∙ ap (λ last. take i all ++ last ∷ []) (sym is))
    ∙ filter_map-append killed (take i all) (container ∷ [])
    ∙ ap (λ last. filter_map killed (take i all) ++ last) (by (killed container))
  where
    by : (change : Option ContainerChange) → cons_option change [] ≡ option_to_list change
    by None = refl
    by (Some change) = refl
