-- What the end of a fetch gives those who waited, whatever it ended with.
use Rattle.std.specs.Prelude.{◌≡◌, ℕ, ◌≤◌, Bool, false, List, Option, Some, None, length}
use Rattle.foyer_core.specs.CoreFetches.{at_hash}
use Rattle.foyer_core.specs.Inflight.{Opens, OpenFetch, closed, waiters_of}
use Rattle.foyer_core.specs.Waited.{Ending, lost}
use Rattle.foyer_session.specs.Step.{entries_by}
use Rattle.foyer_session.specs.Tokens.{AreAlike}

-- the open fetches once one is closed, where there is one
abbrev pub ClosedBy : {K N R : Type 0} → Option (OpenFetch N R) → (K → K → Bool) → ℕ × K → List (Opens K N R) →
    List (Opens K N R) → Type 0
ClosedBy None eq k f g = g ≡ f
ClosedBy (Some o) eq k f g = g ≡ at_hash (λ q. closed eq q k) f k.0

-- Those who waited for this fetch get an entry each, all alike, or none. Where there is no such fetch, nobody waited.
pub record Answering {K V P N R : Type 0} (eq : K → K → Bool) (k : ℕ × K) (p : Option (OpenFetch N R))
    (f g : List (Opens K N R)) (ended : Ending K V P N) : Type 0 where
  pub waiters : ended.waiters ≡ waiters_of p
  pub each : length (entries_by ended.outcome) ≤ length (waiters_of p)
  pub alike : AreAlike (entries_by ended.outcome)
  pub closes : ClosedBy p eq k f g
  pub lost_is : ended.found ≡ false → ended ≡ lost
