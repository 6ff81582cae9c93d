-- Cores that fetch nothing.
use Rattle.std.specs.Prelude.{◌≡◌, ℕ, List, None}
use Rattle.foyer_core.specs.CoreFetches.{open_in}
use Rattle.foyer_core.specs.Inflight.{Opens}

-- no fetch is open
abbrev pub NoneOpen : {K N R : Type 0} → List (Opens K N R) → Type 0
NoneOpen {K} fetches = (k : ℕ × K) → open_in fetches k ≡ None
