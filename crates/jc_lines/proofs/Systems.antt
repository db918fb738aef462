-- The text of an event of the system tells the event, whatever follows behind a blank.
use Rattle.std.proofs.Common.{◌≡◌, ℕ, ◌^◌, ◌<◌, List, ◌∷◌, ◌++◌, get_or, drop, decimal, refl, sym, ap, ◌∙◌, arith, append_assoc}
use Rattle.jc_types.specs.declared.objects.Kind.{Kind}
use Rattle.jc_types.specs.declared.objects.Kind.TheVariants.{Jobs, Pods}
use Rattle.jc_types.specs.declared.runs.Sys.{Sys}
use Rattle.jc_types.specs.declared.runs.Sys.TheVariants as sys
use Rattle.jc_log.specs.Deeds.{act_of_system}
use Rattle.jc_texts.specs.ActTexts.{act_text}
use Rattle.jc_lines.specs.Told.{IsSystem}
use Rattle.jc_texts.specs.ReportWords.{objects_word}
use Rattle.jc_lines.proofs.Digits.{Told, number_ends}

-- What the event does, in words.
abbrev system_text : Sys → List ℕ
system_text s = act_text (act_of_system s)

pub first_of_both : (xs ys : List ℕ) → xs ≡ ys → get_or xs 0 0 ≡ get_or ys 0 0
first_of_both xs ys e = ap (λ l. get_or l 0 0) e

kind_told : (k l : Kind) (xs ys : List ℕ) → objects_word k ++ xs ≡ objects_word l ++ ys → k ≡ l
kind_told Jobs Jobs xs ys e = refl
kind_told Jobs Pods xs ys e = absurd (omega (arith, first_of_both _ _ e))
kind_told Pods Jobs xs ys e = absurd (omega (arith, first_of_both _ _ e))
kind_told Pods Pods xs ys e = refl

-- A controller, a blank and what follows it.
controller_told : (c d : ℕ) (front back xs ys : List ℕ) → c < 2 ^ 32 → d < 2 ^ 32
    → (decimal c ++ 32 ∷ front) ++ xs ≡ (decimal d ++ 32 ∷ back) ++ ys → Told c d (front ++ xs) (back ++ ys)
controller_told c d front back xs ys few less e =
    number_ends 32 c d (front ++ xs) (back ++ ys) (omega arith) (omega arith) (omega arith)
    (sym (append_assoc (decimal c) (32 ∷ front) xs) ∙ e ∙ append_assoc (decimal d) (32 ∷ back) ys)

worker_told : (v w : ℕ) (xs ys : List ℕ) → v < 2 ^ 64 → w < 2 ^ 64 → decimal v ++ 32 ∷ xs ≡ decimal w ++ 32 ∷ ys → v ≡ w
worker_told v w xs ys few less e = (number_ends 32 v w xs ys (omega arith) few less e).number

pub system_told : (s t : Sys) (xs ys : List ℕ) → IsSystem s → IsSystem t
    → system_text s ++ 32 ∷ xs ≡ system_text t ++ 32 ∷ ys → s ≡ t
system_told (sys.List c k) (sys.List d l) xs ys few less e =
    let both = controller_told c d (objects_word k) (objects_word l) (32 ∷ xs) (32 ∷ ys) few less (ap (drop 5) e) in
    ap (λ n. sys.List n k) both.number ∙ ap (λ kind. sys.List d kind) (kind_told k l _ _ both.rest)
system_told (sys.Deliver c k) (sys.Deliver d l) xs ys few less e =
    let both = controller_told c d (objects_word k) (objects_word l) (32 ∷ xs) (32 ∷ ys) few less (ap (drop 8) e) in
    ap (λ n. sys.Deliver n k) both.number ∙ ap (λ kind. sys.Deliver d kind) (kind_told k l _ _ both.rest)
system_told (sys.Begin c v) (sys.Begin d w) xs ys few less e =
    let both = controller_told c d (decimal v) (decimal w) (32 ∷ xs) (32 ∷ ys) few.0 less.0 (ap (drop 6) e) in
    ap (λ n. sys.Begin n v) both.number ∙ ap (λ n. sys.Begin d n) (worker_told v w xs ys (omega arith) (omega arith) both.rest)
system_told (sys.Step c v) (sys.Step d w) xs ys few less e =
    let both = controller_told c d (decimal v) (decimal w) (32 ∷ xs) (32 ∷ ys) few.0 less.0 (ap (drop 5) e) in
    ap (λ n. sys.Step n v) both.number ∙ ap (λ n. sys.Step d n) (worker_told v w xs ys (omega arith) (omega arith) both.rest)
system_told sys.Node sys.Node xs ys few less e = refl
system_told (sys.Clock a) (sys.Clock b) xs ys few less e = ap (λ n. sys.Clock n) (worker_told a b xs ys few less (ap (drop 6) e))
system_told s t xs ys few less e = absurd (omega (arith, first_of_both _ _ e))
