-- What steps leave of a core: its hash builder, and how many shards it has.
use Rattle.std.proofs.Common.{◌≡◌, ℕ, suc, List, [], ◌∷◌, length, refl, ap, ◌∙◌, arith}
use Rattle.std.specs.Prelude.{slice_set}
use Rattle.std.proofs.lemmas.List.{length-append, length-set}
use Rattle.foyer_policy.specs.declared.types.Event.{Event}
use Rattle.foyer_core.specs.Core.{Core, AtShard, shard_of}
use Rattle.foyer_core.specs.CoreBulk.{Configures, InTurn, InTurnUntil, OfShards, Resizes}
use Rattle.foyer_core.specs.State.{Meaning, State}
use Rattle.foyer_core.specs.Values.{Gone}

module _ {S L : Type 0} where
  turned_long : (step : S → List L → S → Type 0) (olds : List S) (ls : List L) (news : List S) →
      InTurn step olds ls news → length news ≡ length olds
  turned_long step [] ls [] h = refl
  turned_long step (s ∷ olds) ls (t ∷ news) h = ap suc (turned_long step olds h.1 news h.4)
  turned_long step [] ls (t ∷ news) h = absurd h
  turned_long step (s ∷ olds) ls [] h = absurd h

  until_long : (whole part : S → List L → S → Type 0) (olds : List S) (ls : List L) (news : List S) →
      InTurnUntil whole part olds ls news
      → length news ≡ length olds
  until_long whole part olds ls news h =
      let first = turned_long whole h.first h.first_leaves h.done h.wholly in
      let from = ap length h.olds ∙ length-append h.first (h.next ∷ h.others) in
      let to = ap length h.news ∙ length-append h.done (h.begun ∷ h.others) in
      omega (arith, first, from, to)

module _ {K V P View S W A : Type 0} (old new : Core K V P View S W A) where
  -- the hash builder is the same, and there are as many shards
  abbrev pub StaysBuilt : Type 0
  StaysBuilt = (new.hash_builder ≡ old.hash_builder) × (length new.shards ≡ length old.shards)

  pub same_built : new ≡ old → StaysBuilt
  same_built same = (
    ap (λ (c : Core K V P View S W A). c.hash_builder) same,
    ap (λ (c : Core K V P View S W A). length c.shards) same,
  )

  pub rest_built : (i : ℕ) (s : State K V P View) → new ≡ record old { shards = slice_set old.shards i s } → StaysBuilt
  rest_built i s rest = (
    ap (λ (c : Core K V P View S W A). c.hash_builder) rest,
    ap (λ (c : Core K V P View S W A). length c.shards) rest ∙ length-set old.shards i s,
  )

  pub shard_built : (step : State K V P View → State K V P View → Type 0) (hash : ℕ) → AtShard step hash old new →
      StaysBuilt
  shard_built step hash at = rest_built (shard_of old hash) at.after at.rest

  pub each_built : (step : State K V P View → List (Event × Gone K V P) → State K V P View → Type 0)
      (leaves : List (Event × Gone K V P))
      → OfShards (InTurn step) old leaves new → StaysBuilt
  each_built step leaves h = (
    ap (λ (c : Core K V P View S W A). c.hash_builder) h.rest,
    turned_long step old.shards leaves new.shards h.stepped,
  )

  pub until_built : (whole part : State K V P View → List (Event × Gone K V P) → State K V P View → Type 0)
      (leaves : List (Event × Gone K V P))
      → OfShards (InTurnUntil whole part) old leaves new → StaysBuilt
  until_built whole part leaves h = (
    ap (λ (c : Core K V P View S W A). c.hash_builder) h.rest,
    until_long whole part old.shards leaves new.shards h.stepped,
  )

  module _ {C : Type 0} (m : Meaning K P View C) where
    pub resized_built : (step : State K V P View → List (Event × Gone K V P) → State K V P View → Type 0)
        (capacity : ℕ) (leaves : List (Event × Gone K V P))
        → Resizes m (InTurn step) capacity old leaves new → StaysBuilt
    resized_built step capacity leaves h = (
      ap (λ (c : Core K V P View S W A). c.hash_builder) h.evicted.rest,
      turned_long step h.shared leaves new.shards h.evicted.stepped ∙ h.shares.counted,
    )

    pub resizing_built : (whole part : State K V P View → List (Event × Gone K V P) → State K V P View → Type 0)
        (capacity : ℕ) (leaves : List (Event × Gone K V P)) →
        Resizes m (InTurnUntil whole part) capacity old leaves new → StaysBuilt
    resizing_built whole part capacity leaves h = (
      ap (λ (c : Core K V P View S W A). c.hash_builder) h.evicted.rest,
      until_long whole part h.shared leaves new.shards h.evicted.stepped ∙ h.shares.counted,
    )

    pub configured_built : (config : C) → Configures m config old new → StaysBuilt
    configured_built config h = (ap (λ (c : Core K V P View S W A). c.hash_builder) h.rest, h.shards.counted)
