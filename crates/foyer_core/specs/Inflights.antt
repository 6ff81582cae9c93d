-- What contracts see of a manager of open fetches.
use Rattle.std.specs.declared.cmp.PartialEq.{Ghosts as EqGhosts}
use Rattle.std.specs.declared.hash.Hash.{Ghosts as HashGhosts}
use Rattle.std.specs.declared.clone.Clone.{Ghosts as CloneGhosts}
use Rattle.foyer_core.specs.Slots.{get}
use Rattle.foyer_core.specs.Inflight.{Opens, opens_by, numbers_in}
use Rattle.foyer_core.specs.declared.inflight.InflightManager.{InflightManager}

module _ {K N R : Type 0} {q : EqGhosts K} {h : HashGhosts K} {c : CloneGhosts K} where
  -- the open fetches, and the next numbers
  abbrev pub opens_of : InflightManager K N R q h c → Opens K N R
  opens_of m = opens_by (numbers_in m.index) (get m.inflights) m.next_fetch m.next_token
