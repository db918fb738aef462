-- The words on pods and on the backoff at what one sync sees.
--     backoff_in basis counted                the backoff after the sync
--     creatable_in target job basis counted   what the Job would make at once
--     creates_in, next_in, marks_in, let_goes_in    what it makes, and the moment of that; what it marks and lets go
use Rattle.std.specs.Prelude.{ℕ, Bool, List, Option}
use Rattle.jc_types.specs.declared.numbers.Uid.{Uid}
use Rattle.jc_types.specs.declared.numbers.Version.{Version}
use Rattle.jc_types.specs.declared.objects.Job.{Job}
use Rattle.jc_types.specs.declared.syncs.Backoff.{Backoff}
use Rattle.jc_states.specs.declared.bases.Basis.{Basis}
use Rattle.jc_types.specs.declared.syncs.CountIn.{CountIn}
use Rattle.jc_states.specs.Bases.{own_pods}
use Rattle.jc_manage.specs.Backoffs.{backoff_after, opening}
use Rattle.jc_manage.specs.Creations.{creatable, creates, next}
use Rattle.jc_manage.specs.LetGoes.{let_goes, marks}

-- The backoff after the sync.
abbrev pub backoff_in : Basis → CountIn → Backoff
backoff_in basis counted = backoff_after basis.backoff counted basis.now

-- What the Job would make at once.
abbrev pub creatable_in : Bool → Job → Basis → CountIn → List (Option ℕ)
creatable_in target job basis counted = creatable target job (own_pods job basis.pods) counted

-- What it makes: no pod before the opening of the backoff after the sync.
abbrev pub creates_in : Bool → Job → Basis → CountIn → List (Option ℕ)
creates_in target job basis counted =
    creates (opening (backoff_in basis counted)) basis.now (creatable_in target job basis counted)

-- The moment of that opening, where it held pods back.
abbrev pub next_in : Bool → Job → Basis → CountIn → Option ℕ
next_in target job basis counted =
    next (opening (backoff_in basis counted)) basis.now (creatable_in target job basis counted)

-- The pods that are marked.
abbrev pub marks_in : Bool → Job → Basis → List Uid
marks_in target job basis = marks target (own_pods job basis.pods)

-- The pods whose finalizer goes first.
abbrev pub let_goes_in : Bool → Job → Basis → CountIn → List (Uid × Version)
let_goes_in target job basis counted = let_goes target job (own_pods job basis.pods) counted
