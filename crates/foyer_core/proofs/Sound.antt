-- A core's shards keep what tells its index.
use Rattle.std.proofs.Common.{◌≡◌, ℕ, length, true}
use Rattle.std.proofs.Math.Logic.{∥∥₁_map}
use Rattle.std.specs.Cmp.{IsEquivalence}
use Rattle.std.specs.declared.cmp.PartialEq.{Ghosts as EqGhosts}
use Rattle.std.specs.declared.hash.Hash.{Ghosts as HashGhosts}
use Rattle.std.specs.declared.clone.Clone.{Ghosts as CloneGhosts}
use Rattle.std.specs.declared.default.Default.{Ghosts as DefaultGhosts}
use Rattle.foyer_policy.specs.Policy.{IsPolicy}
use Rattle.foyer_policy.specs.declared.eviction.Eviction.{Ghosts as EvictionGhosts}
use Rattle.foyer_policy.specs.declared.hash.HashBuilder.{Ghosts as HashBuilderGhosts}
use Rattle.foyer_policy.specs.declared.properties.Properties.{Ghosts as PropertiesGhosts}
use Rattle.foyer_core.specs.declared.finder.Finder.{Ghosts as FinderGhosts}
use Rattle.foyer_core.specs.declared.weighter.Weighter.{Ghosts as WeighterGhosts}
use Rattle.foyer_core.specs.declared.filter.Filter.{Ghosts as FilterGhosts}
use Rattle.foyer_core.specs.declared.cache_core.CacheCore.{CacheCore}
use Rattle.foyer_core.specs.Cores.{core_of, hashes_of, meaning_of_core}
use Rattle.foyer_core.specs.Shards.{state_of}
use Rattle.foyer_core.specs.State.{at_moment}
use Rattle.foyer_core.proofs.CoreTold.{AreSound, sound_over}
use Rattle.foyer_core.proofs.Moments.{kept_at, timed_lawful}

module _ {E K V P S W A N R I C : Type 0} {e : EvictionGhosts E C}
    {q : EqGhosts K} {h : HashGhosts K} {c : CloneGhosts K} {p : PropertiesGhosts P} {d : DefaultGhosts P}
    {b : HashBuilderGhosts S} {w : WeighterGhosts W K V} {f : FilterGhosts A K V} {i : FinderGhosts I K} where
  pub core_sound : (s : CacheCore E K V P S W A N R I C e q h c p d b w f i) (laws : IsEquivalence q.eq)
      (good : IsPolicy e.model) (equal : (x y : K) → q.eq x y ≡ true → hashes_of s x ≡ hashes_of s y)
      → AreSound (meaning_of_core s) laws good (hashes_of s) equal (length (core_of s).shards) (core_of s).shards
  core_sound s laws good equal = sound_over (meaning_of_core s) laws good (hashes_of s) equal state_of s.shards.items
      (λ x. x.store.sound) s.whole.belong s.whole.hashed

  -- and at each moment
  pub core_sound_at : (now : ℕ) (s : CacheCore E K V P S W A N R I C e q h c p d b w f i) (laws : IsEquivalence q.eq)
      (good : IsPolicy e.model) (equal : (x y : K) → q.eq x y ≡ true → hashes_of s x ≡ hashes_of s y)
      → AreSound (at_moment now (meaning_of_core s)) laws (timed_lawful now e.model good) (hashes_of s) equal
      (length (core_of s).shards) (core_of s).shards
  core_sound_at now s laws good equal = sound_over (at_moment now (meaning_of_core s)) laws
      (timed_lawful now e.model good) (hashes_of s) equal state_of s.shards.items
      (λ x. ∥∥₁_map x.store.sound (kept_at (meaning_of_core s) now (state_of x))) s.whole.belong s.whole.hashed
