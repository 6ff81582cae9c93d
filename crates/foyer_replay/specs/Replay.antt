-- What a request makes of a core, and its outcome, by the core's model.
use Rattle.std.specs.Prelude.{ℕ, List, Option, None, Ok, true, false}
use Rattle.foyer_policy.specs.declared.types.Event.{Event}
use Rattle.foyer_policy.specs.declared.types.Hint.TheVariants.{Normal}
use Rattle.foyer_core.specs.declared.record.Data.{Data}
use Rattle.foyer_core.specs.Core.{AtShard, Core}
use Rattle.foyer_core.specs.NoEntry.{Deletes, Puts}
use Rattle.foyer_core.specs.State.{Meaning, State}
use Rattle.foyer_core.specs.Steps.{Touches, newcomer}
use Rattle.foyer_core.specs.Values.{Answered, Gone}
use Rattle.foyer_replay.specs.declared.request.Operation.{Operation}
use Rattle.foyer_replay.specs.declared.request.Operation.TheVariants.{Get, Put, Remove}
use Rattle.foyer_replay.specs.declared.request.Outcome.{Outcome}
use Rattle.foyer_replay.specs.declared.request.Outcome.TheVariants.{Hit, Miss, Done}
use Rattle.foyer_replay.specs.declared.request.Request.{Request}

-- the record of a request whose key has this hash
abbrev pub record_for : Request → ℕ → Data ℕ ℕ Answered
record_for r hash = record {
  key = r.key;
  value = r.weight;
  properties = record { phantom = None; hint = Normal; expires = r.expiry };
  hash = hash;
  weight = r.weight;
}

module _ {View C : Type 0} (m : Meaning ℕ Answered View C) where
  -- a request's record is inserted, and its one handle is given back
  pub record Stores (r : Request) (hash : ℕ) (old new : State ℕ ℕ Answered View) : Type 0 where
    pub leaves : List (Event × Gone ℕ ℕ Answered)
    pub last : Option (Event × Gone ℕ ℕ Answered)
    pub puts : Puts m r.time old (newcomer old (record_for r hash) 1) leaves last new

  -- A request whose key has this hash has this outcome, and makes this of a shard: a get is a hit where the model finds
  -- the key, and else a miss, at which the record is inserted. A handle that a step makes is given back in that step.
  abbrev pub ServesAs : Operation → Outcome → Request → ℕ → State ℕ ℕ Answered View → State ℕ ℕ Answered View → Type 0
  ServesAs Get Hit r hash old new = Touches m r.time old (hash, r.key) (Ok true) new
  ServesAs Get Miss r hash old new = (mid : State ℕ ℕ Answered View)
      × Touches m r.time old (hash, r.key) (Ok false) mid × Stores r hash mid new
  ServesAs Get Done r hash old new = ⊥
  ServesAs Put Hit r hash old new = ⊥
  ServesAs Put Miss r hash old new = ⊥
  ServesAs Put Done r hash old new = Stores r hash old new
  ServesAs Remove Hit r hash old new = ⊥
  ServesAs Remove Miss r hash old new = ⊥
  ServesAs Remove Done r hash old new = (out : Option (Gone ℕ ℕ Answered)) × Deletes m old (hash, r.key) (Ok out) new

  -- so does the shard of its key's hash, and all else stays; `hash` gives each key its hash
  abbrev pub Serves : {S W A : Type 0} → (S → ℕ → ℕ) → Request → Outcome → Core ℕ ℕ Answered View S W A →
      Core ℕ ℕ Answered View S W A → Type 0
  Serves hash r outcome old new = AtShard (ServesAs r.operation outcome r (hash old.hash_builder r.key))
      (hash old.hash_builder r.key) old new
