-- What each shard of a core keeps.
use Rattle.std.proofs.Common.{◌≡◌, ℕ, true, length, Option, Some, None, sym, ◌∙◌, subst}
use Rattle.std.proofs.Math.Logic.{∥∥₁_map}
use Rattle.std.specs.Prelude.{slice_get, option_map}
use Rattle.std.specs.Cmp.{IsEquivalence}
use Rattle.std.proofs.lemmas.List.{length-map}
use Rattle.std.proofs.lemmas.Option.{slice_get-map}
use Rattle.std.specs.declared.cmp.PartialEq.{Ghosts as EqGhosts}
use Rattle.std.specs.declared.hash.Hash.{Ghosts as HashGhosts}
use Rattle.std.specs.declared.clone.Clone.{Ghosts as CloneGhosts}
use Rattle.std.specs.declared.default.Default.{Ghosts as DefaultGhosts}
use Rattle.foyer_policy.specs.declared.eviction.Eviction.{Ghosts as EvictionGhosts}
use Rattle.foyer_policy.specs.declared.hash.HashBuilder.{Ghosts as HashBuilderGhosts}
use Rattle.foyer_policy.specs.declared.properties.Properties.{Ghosts as PropertiesGhosts}
use Rattle.foyer_core.specs.declared.cache_core.CacheCore.{CacheCore}
use Rattle.foyer_core.specs.declared.finder.Finder.{Ghosts as FinderGhosts}
use Rattle.foyer_core.specs.declared.weighter.Weighter.{Ghosts as WeighterGhosts}
use Rattle.foyer_core.specs.declared.filter.Filter.{Ghosts as FilterGhosts}
use Rattle.foyer_core.specs.declared.shard.Shard.{Shard}
use Rattle.foyer_core.specs.Core.{shard_at, shard_of}
use Rattle.foyer_core.specs.Cores.{core_of, fetches_of, meaning_of_core}
use Rattle.foyer_core.specs.Indexer.{same_key}
use Rattle.foyer_core.specs.Inflight.{AreOpen, Opens}
use Rattle.foyer_core.specs.Shards.{opens_of, state_of}
use Rattle.foyer_core.specs.State.{State, IsKept}
use Rattle.foyer_core.proofs.InflightLemmas.{opens_alike}

module _ {E K V P S W A N R I C : Type 0} {e : EvictionGhosts E C}
    {q : EqGhosts K} {h : HashGhosts K} {c : CloneGhosts K} {p : PropertiesGhosts P} {d : DefaultGhosts P}
    {b : HashBuilderGhosts S} {w : WeighterGhosts W K V} {f : FilterGhosts A K V} {i : FinderGhosts I K} where
  pub kept_at : (core : CacheCore E K V P S W A N R I C e q h c p d b w f i) (hash : ℕ)
      (s : State K V P e.View) → shard_at (core_of core) hash ≡ Some s → ∥ IsKept (meaning_of_core core) s ∥₁
  kept_at core hash s there = kept_in (slice_get core.shards.items (shard_of (core_of core) hash))
      (sym (slice_get-map state_of core.shards.items (shard_of (core_of core) hash)) ∙ there)
    where
      kept_in : (found : Option (Shard E K V P N R I C e q h c p d i)) → option_map state_of found
          ≡ Some s → ∥ IsKept (meaning_of_core core) s ∥₁
      kept_in None is = absurd cc
      kept_in (Some shard) is =
          (let same : state_of shard ≡ s = cc in ∥∥₁_map shard.store.sound
          (λ k. subst (IsKept (meaning_of_core core)) same k))

  -- and the open fetches of each are sound
  pub open_at : (core : CacheCore E K V P S W A N R I C e q h c p d b w f i) (shard : ℕ)
      (opens : Opens K N R) → slice_get (fetches_of core) shard ≡ Some opens → AreOpen q.eq opens
  open_at core shard opens there = sound_in (slice_get core.shards.items shard)
      (sym (slice_get-map opens_of core.shards.items shard) ∙ there)
    where
      sound_in : (found : Option (Shard E K V P N R I C e q h c p d i)) → option_map opens_of found
          ≡ Some opens → AreOpen q.eq opens
      sound_in None is = absurd cc
      sound_in (Some it) is = (let same : opens_of it ≡ opens = cc in subst (AreOpen q.eq) same it.inflights.sound)

  -- equal keys have one fetch in the open fetches of a shard
  pub alike_at : IsEquivalence q.eq → (core : CacheCore E K V P S W A N R I C e q h c p d b w f i)
      (n : ℕ) (o : Opens K N R)
      → slice_get (fetches_of core) n ≡ Some o
      → (x y : ℕ × K) → same_key q.eq x y ≡ true → o.by_key x ≡ o.by_key y
  alike_at laws core n o there x y same = alike_in (slice_get core.shards.items n)
      (sym (slice_get-map opens_of core.shards.items n) ∙ there)
    where
      alike_in : (found : Option (Shard E K V P N R I C e q h c p d i)) → option_map opens_of found
          ≡ Some o → o.by_key x ≡ o.by_key y
      alike_in None is = absurd cc
      alike_in (Some shard) is = (let one : opens_of shard ≡ o = cc in subst
          (λ (g : Opens K N R). g.by_key x ≡ g.by_key y) one (opens_alike laws shard.inflights x y same))

  -- there are as many lists of open fetches as shards
  pub fetches_long : (core : CacheCore E K V P S W A N R I C e q h c p d b w f i) →
      length (fetches_of core) ≡ length (core_of core).shards
  fetches_long core = length-map core.shards.items opens_of ∙ sym (length-map core.shards.items state_of)
