-- The notes of a legal history are plain, but for what syncs come to.
use Rattle.std.proofs.Common.{◌≡◌, ℕ, ◌≤◌, ◌<◌, true, List, [], ◌∷◌, length, Option, Some, None, option_and_then, ap, ◌∙◌, subst, arith}
use Rattle.jc_control.specs.ControllerCalls.{told}
use Rattle.jc_control.specs.Queued.{has_key}
use Rattle.jc_types.specs.declared.numbers.Version.{Version}
use Rattle.jc_types.specs.declared.objects.Entry.{Entry}
use Rattle.jc_types.specs.declared.objects.KeyNames.{KeyNames as Key}
use Rattle.jc_types.specs.declared.objects.Kind.{Kind}
use Rattle.jc_types.specs.declared.objects.Kind.TheVariants.{Jobs, Pods}
use Rattle.jc_types.specs.declared.runs.Shape.{Shape}
use Rattle.jc_log.specs.Deeds.{Deed}
use Rattle.jc_log.specs.Log.{entry_at, upto}
use Rattle.jc_history.specs.Diaries.{listed_keys, notes}
use Rattle.jc_history.specs.Fresh.{basis}
use Rattle.jc_history.specs.Legal.{IsLegal}
use Rattle.jc_history.specs.Notes.{Note, Listed, Told, Began, Ended}
use Rattle.jc_history.specs.Numbers.{number}
use Rattle.jc_history.specs.Replies.{log_given}
use Rattle.jc_order.specs.Restless.{AllEndRestless, EndsRestless, StoodBefore, point}
use Rattle.jc_order.proofs.HonestFacts.{AreTrue, IsTrue, all-true}
use Rattle.jc_rest.proofs.SureFacts.{ArePlain, IsPlain}

-- From version a on the Job of the key is listed, and the entries of both versions are of the key.
pub record TellsFrom (k : Key) (a b : ℕ) (log : List Entry) : Type 0 where
  pub listed : (n : ℕ) → a ≤ n → n ≤ length log → has_key k (listed_keys Jobs (upto n log)) ≡ true
  pub told_at : (kind : Kind) → 0 < point kind a b → point kind a b ≤ length log
      → option_and_then (told kind) (entry_at (point kind a b) log) ≡ Some k

-- Where all that the notes say is so, and the log tells so, they are plain.
true-plain : (k : Key) (a b : ℕ) (log : List Entry) → TellsFrom k a b log → (notes : List Note) → AreTrue log notes → AllEndRestless k a b notes → ArePlain k a b notes
true-plain k a b log tells [] h well = tt
true-plain k a b log tells (note ∷ older) h well = (one note h.0 well.0, true-plain k a b log tells older h.1 well.1)
  where
    told-at : (kind : Kind) (o : Option Version) (version : Version) (key : Option Key) → StoodBefore o version → version.0 ≤ length log → key ≡ option_and_then (told kind) (entry_at version.0 log)
        → version.0 ≡ point kind a b → key ≡ Some k
    told-at kind None version key stood within is e = absurd stood
    told-at kind (Some before) version key stood within is e =
        is ∙ ap (λ v. option_and_then (told kind) (entry_at v log)) e ∙ tells.told_at kind (omega (arith, stood, e)) (subst (λ v. v ≤ length log) e within)

    one : (note : Note) → IsTrue log note older → EndsRestless k a b note older → IsPlain k a b note older
    one (Listed Jobs at keys) h well = λ from. ap (has_key k) h.1 ∙ tells.listed at.0 from h.0
    one (Listed Pods at keys) h well = tt
    one (Told Jobs version key) h well = (h.0, told-at Jobs (number Jobs older) version key h.0 h.1 h.2)
    one (Told Pods version key) h well = (h.0, told-at Pods (number Pods older) version key h.0 h.1 h.2)
    one (Began w basis) h well = h
    one (Ended w basis end now) h well = well
    one other h well = tt

pub plain : (k : Key) (a b : ℕ) (shape : Shape) (c : ℕ) (deeds : List Deed) → IsLegal shape deeds
    → TellsFrom k a b (log_given shape deeds) → AllEndRestless k a b (notes shape c deeds (log_given shape deeds))
    → ArePlain k a b (notes shape c deeds (log_given shape deeds))
plain k a b shape c deeds legal tells well = true-plain k a b (log_given shape deeds) tells (notes shape c deeds (log_given shape deeds)) (all-true shape c deeds legal) well
