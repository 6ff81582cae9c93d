-- A store as a state.
use Rattle.std.specs.declared.cmp.PartialEq.{Ghosts as EqGhosts}
use Rattle.std.specs.declared.hash.Hash.{Ghosts as HashGhosts}
use Rattle.std.specs.declared.clone.Clone.{Ghosts as CloneGhosts}
use Rattle.std.specs.declared.default.Default.{Ghosts as DefaultGhosts}
use Rattle.foyer_policy.specs.declared.eviction.Eviction.{Ghosts as EvictionGhosts}
use Rattle.foyer_policy.specs.declared.properties.Properties.{Ghosts as PropertiesGhosts}
use Rattle.foyer_core.specs.declared.finder.Finder.{Ghosts as FinderGhosts}
use Rattle.foyer_core.specs.declared.store.Store.{Store}
use Rattle.std.specs.Prelude.{◌<◌}
use Rattle.foyer_core.specs.Records.{count_in}
use Rattle.foyer_core.specs.State.{Meaning, State}
use Rattle.foyer_core.specs.Stored.{meaning, state}

module _ {E K V P I C : Type 0} {e : EvictionGhosts E C}
    {q : EqGhosts K} {h : HashGhosts K} {c : CloneGhosts K} {p : PropertiesGhosts P} {d : DefaultGhosts P}
    {i : FinderGhosts I K} where
  -- what contracts see of a store
  abbrev pub state_of : Store E K V P I C e q h c p d i → State K V P e.View
  state_of s = state s.number s.capacity s.limits (e.view s.eviction) (i.view s.index) s.records s.next

  -- there is a place of the policy for each slot, and for one more
  abbrev pub HasPlaces : Store E K V P I C e q h c p d i → Type 0
  HasPlaces s = count_in s.records < e.span s.eviction

  -- what a store is over
  abbrev pub meaning_of : Store E K V P I C e q h c p d i → Meaning K P e.View C
  meaning_of s = meaning q.eq e.model p.hint_of p.phantom_of p.expiry_of
