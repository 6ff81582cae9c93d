-- What a look-up answered that fetches what is missing.
use Rattle.std.specs.Prelude.{Bool, true, false, Option, None}
use Rattle.std.specs.declared.cmp.PartialEq.{Ghosts as EqGhosts}
use Rattle.std.specs.declared.hash.Hash.{Ghosts as HashGhosts}
use Rattle.std.specs.declared.clone.Clone.{Ghosts as CloneGhosts}
use Rattle.std.specs.declared.default.Default.{Ghosts as DefaultGhosts}
use Rattle.foyer_policy.specs.declared.eviction.Eviction.{Ghosts as EvictionGhosts}
use Rattle.foyer_policy.specs.declared.properties.Properties.{Ghosts as PropertiesGhosts}
use Rattle.foyer_core.specs.declared.finder.Finder.{Ghosts as FinderGhosts}
use Rattle.foyer_core.specs.Values.{Held}
use Rattle.foyer_raw.specs.declared.fetch.wait.RawGetOrFetch.{RawGetOrFetch}
use Rattle.foyer_raw.specs.declared.fetch.wait.RawGetOrFetch.TheVariants.{Hit, Miss}

module _ {H E K V S P W A L Q R I C F : Type 0} {e : EvictionGhosts E C} {q : EqGhosts K} {h : HashGhosts K}
    {c : CloneGhosts K} {p : PropertiesGhosts P} {d : DefaultGhosts P} {i : FinderGhosts I K} where
  -- whether the entry is still to come
  abbrev pub is_miss : RawGetOrFetch H E K V S P W A L Q R I C F e q h c p d i → Bool
  is_miss (Hit entry) = false
  is_miss (Miss wait) = true

  -- the entry of a hit, until it is taken
  abbrev pub entry_of : RawGetOrFetch H E K V S P W A L Q R I C F e q h c p d i → Option (Held K V P)
  entry_of (Hit entry) = entry
  entry_of (Miss wait) = None
