-- What an insert has done, from the steps that it took.
use Rattle.std.proofs.Common.{◌≡◌, ℕ, ◌-◌, List, [], ◌++◌, Option, Some, false, length, refl, append-nil}
use Rattle.foyer_policy.specs.Policy.{after_pops, evicted}
use Rattle.foyer_policy.specs.declared.types.Event.{Event}
use Rattle.foyer_policy.specs.declared.types.Event.TheVariants.{Evict}
use Rattle.foyer_policy.specs.declared.types.Source.{Source}
use Rattle.foyer_policy.specs.declared.error.Reason.TheVariants.{NoMemory}
use Rattle.foyer_core.specs.Values.{Gone, Rec, Incoming}
use Rattle.foyer_core.specs.State.{Meaning, State}
use Rattle.foyer_core.specs.Steps.{ids_of, entry_of, replaced_leaves, Evicting, Evicts, Admits, MayInsert, InsertsPlain, RefusesPlain}
use Rattle.foyer_core.proofs.LeaveLemmas.{Rests, leave-rests, leave-out}

module _ {K V P View C : Type 0} (m : Meaning K P View C) (old : State K V P View) (i : Incoming K V P) where
  module _ (target : ℕ) (evictions : List (Event × Gone K V P)) (mid : State K V P View)
      (evicts : Evicts m target old evictions mid) where
    pub evicts_rests : Rests m old mid
    evicts_rests = leave-rests m Evict (ids_of (evicted m.policy target old.view)) old evictions
        (after_pops m.policy (length (evicted m.policy target old.view)) old.view) mid evicts

    -- what is not in the index does not come into it
    pub evicts_out : (id : ℕ) → ((r : Rec K V P) → old.records id ≡ Some r → r.resident ≡ false) → (r : Rec K V P) →
        mid.records id ≡ Some r → r.resident ≡ false
    evicts_out = leave-out m Evict (ids_of (evicted m.policy target old.view)) old evictions
        (after_pops m.policy (length (evicted m.policy target old.view)) old.view) mid evicts

    -- all of the evictions are a beginning of them
    pub evicts_begin : Evicting m target old evictions mid
    evicts_begin =
        record {
          left = evicted m.policy target old.view;
          rest = [];
          parts =
              append-nil (evicted m.policy target old.view);
          leave = evicts;
        }

  module _ (may : MayInsert m old i) where
    pub emplaced : (source : Source) (evictions : List (Event × Gone K V P)) (mid : State K V P View) →
        Evicts m (old.capacity - i.kept.weight) old evictions mid
        → (replaced : Option (Gone K V P)) (new : State K V P View) → Admits m mid i replaced new →
        InsertsPlain m source old i (evictions ++ replaced_leaves replaced) (entry_of old i.id i.kept source) new
    emplaced source evictions mid evicts replaced new admits = record {
      may = may;
      evictions = evictions;
      replaced = replaced_leaves replaced;
      mid = mid;
      last = admits.last;
      leaves = refl;
      evicts = evicts;
      gives_way = admits.gives_way;
      entry_is = refl;
      after = admits.after;
    }

    pub wants_memory : (ls : List (Event × Gone K V P)) (new : State K V P View) →
        Evicting m (old.capacity - i.kept.weight) old ls new → RefusesPlain m old i NoMemory ls new
    wants_memory ls new h = (may, h)

    -- nothing left yet
    pub wants_memory_first : RefusesPlain m old i NoMemory [] old
    wants_memory_first = wants_memory [] old
        record {
          left = [];
          rest = evicted m.policy (old.capacity - i.kept.weight) old.view;
          parts = refl;
          leave = refl;
        }
