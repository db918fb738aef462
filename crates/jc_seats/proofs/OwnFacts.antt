-- Own events of a player, one after the other.
use Rattle.std.proofs.Common.{◌≡◌, ℕ, ◌%◌, ◌⊎◌, inl, inr, List, ◌∷◌, refl, sym, ap, ◌∙◌}
use Rattle.jc_types.specs.declared.runs.Event.{Event}
use Rattle.jc_core.specs.Shared.{Shared}
use Rattle.jc_seats.specs.PlayerTurns.{HasHappened, HasTurned, HaveHappened, IsOwnEvent}
use Rattle.jc_seats.specs.declared.players.Player.{Player}

-- Which kind a player tries next says nothing of whose an event is.
pub own-same : (player other : Player) (old : Shared) (event : Event) → player.number ≡ other.number → player.threads ≡ other.threads
    → IsOwnEvent player old event → IsOwnEvent other old event
own-same player other old event number threads (inl of) =
    inl (record { lane = of.lane; own = ap (λ (n : ℕ). of.lane % n) (sym threads) ∙ of.own ∙ number; command = of.command })
own-same player other old event number threads (inr first) = inr first

-- What has happened so far, with one own event more.
abbrev pub Happened : Player → Shared → Shared → Type 0
Happened player old new = (events : List Event) × HaveHappened player events old new

pub one-more : (player other : Player) (old mid new : Shared) → other.number ≡ player.number → other.threads ≡ player.threads → Happened player old mid
    → (event : Event) × HasHappened event mid new × IsOwnEvent other mid event → Happened player old new
one-more player other old mid new number threads h e =
    (e.0 ∷ h.0, (mid, h.1, e.1, own-same other player mid e.0 number threads e.2))

pub turned : (player other : Player) (old mid new : Shared) → other.number ≡ player.number → other.threads ≡ player.threads → Happened player old mid
    → (new.seen ≡ mid.seen) ⊎ ((event : Event) × HasHappened event mid new × IsOwnEvent other mid event) → HasTurned player old new
turned player other old mid new number threads h (inl same) = record { events = h.0; last = mid; happened = h.1; seen = same }
turned player other old mid new number threads h (inr e) =
    let k = one-more player other old mid new number threads h e in record { events = k.0; last = new; happened = k.1; seen = refl }

pub all-turned : (player : Player) (old new : Shared) → Happened player old new → HasTurned player old new
all-turned player old new h = record { events = h.0; last = new; happened = h.1; seen = refl }
