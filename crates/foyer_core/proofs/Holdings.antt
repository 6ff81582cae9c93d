-- What a shard holds, as lemmas take it.
use Rattle.std.specs.declared.cmp.PartialEq.{Ghosts as EqGhosts}
use Rattle.std.specs.declared.hash.Hash.{Ghosts as HashGhosts}
use Rattle.std.specs.declared.clone.Clone.{Ghosts as CloneGhosts}
use Rattle.std.specs.declared.default.Default.{Ghosts as DefaultGhosts}
use Rattle.foyer_policy.specs.declared.eviction.Eviction.{Ghosts as EvictionGhosts}
use Rattle.foyer_policy.specs.declared.properties.Properties.{Ghosts as PropertiesGhosts}
use Rattle.foyer_core.specs.declared.finder.Finder.{Ghosts as FinderGhosts}
use Rattle.foyer_core.specs.declared.store.Store.{Store}
use Rattle.foyer_core.specs.Stores.{meaning_of}
use Rattle.foyer_core.proofs.ShardLemmas.{Holding}

module _ {E K V P I C : Type 0} {e : EvictionGhosts E C}
    {q : EqGhosts K} {h : HashGhosts K} {c : CloneGhosts K} {p : PropertiesGhosts P} {d : DefaultGhosts P}
    {i : FinderGhosts I K} where
  abbrev pub holding : (s : Store E K V P I C e q h c p d i) → Holding V (meaning_of s)
  holding s = record {
    at = e.at s.eviction;
    keys = i.view s.index;
    t = s.records;
    number = s.number;
    capacity = s.capacity;
    limits = s.limits;
    view = e.view s.eviction;
    next = s.next;
    sound = s.sound;
    stored = s.stored;
  }
