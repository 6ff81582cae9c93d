-- A look-up that leads to a fetch where the key is missing: for its shard's records it is a get, or nothing.
use Rattle.std.proofs.Common.{◌≡◌, ℕ, ◌⊎◌, inl, inr, Option, Some, None, Ok, Err}
use Rattle.std.specs.Prelude.{Result}
use Rattle.foyer_policy.specs.Policy.{IsPolicy}
use Rattle.foyer_policy.specs.declared.error.Reason.{Reason}
use Rattle.foyer_core.specs.declared.outcome.Lookup.{Lookup}
use Rattle.foyer_core.specs.declared.outcome.Lookup.TheVariants.{Hit, Lead, Wait}
use Rattle.foyer_core.specs.declared.record.Data.{Data}
use Rattle.foyer_core.specs.Fetching.{LooksUp, RefusesLookUp}
use Rattle.foyer_core.specs.Inflight.{Opens}
use Rattle.foyer_core.specs.State.{Meaning, State, IsKept, hit}
use Rattle.foyer_core.specs.Steps.{Gets}
use Rattle.foyer_core.specs.Values.{Held}
use Rattle.foyer_core.proofs.Loads.{SameLoad, gets_load, same-load}
use Rattle.foyer_core.proofs.Origins.{RecordsFrom, from_same, gets_from}
use Rattle.foyer_core.proofs.ShardTold.{SameIndex, gets_index, same_index}
use Rattle.foyer_core.proofs.Staying.{RecordsStay, gets_stay, nothing, stay_same}

module _ {K V P View C N R : Type 0} (m : Meaning K P View C) (now : ℕ) (old : State K V P View) (f : Opens K N R) (k : ℕ × K)
    (waiter : N) (later : Option R) (new : State K V P View) (g : Opens K N R) where
  looked : (r : Result (Lookup K V P R) Reason) → LooksUp m now old f k waiter later r new g →
      ((answer : Result (Option (Held K V P)) Reason) × Gets m now old k answer new) ⊎ (new ≡ old)
  looked (Ok (Hit entry)) h = inl (Ok (Some entry), h.0)
  looked (Ok (Lead fetch token required)) h = inr h.3
  looked (Ok (Wait token)) h = inr h.3
  looked (Err reason) h = go (hit m now old k) h.0 where
    go : (o : Option ℕ) → RefusesLookUp m now o old f k reason new →
        ((answer : Result (Option (Held K V P)) Reason) × Gets m now old k answer new) ⊎ (new ≡ old)
    go None h = inr h.1
    go (Some id) h = inl (Err reason, h)

  module _ (r : Result (Lookup K V P R) Reason) (h : LooksUp m now old f k waiter later r new g) where
    pub looks_from : (New : Data K V P → Type 0) → RecordsFrom New old new
    looks_from New = elim (looked r h) [
      | inl got ↦ gets_from New m now old k got.0 new got.1
      | inr same ↦ from_same New old new same
    ]

    pub looks_stay : RecordsStay nothing old new
    looks_stay = elim (looked r h) [
      | inl got ↦ gets_stay m now old k got.0 new got.1
      | inr same ↦ stay_same old new same
    ]

    pub looks_index : SameIndex old new
    looks_index = elim (looked r h) [
      | inl got ↦ gets_index m now old k got.0 new got.1
      | inr same ↦ same_index old new same
    ]

    pub looks_load : IsPolicy m.policy → ∥ IsKept m old ∥₁ → SameLoad m old new
    looks_load good kept = elim (looked r h) [
      | inl got ↦ gets_load m good now old new k got.0 kept got.1
      | inr same ↦ same-load m good old new same
    ]
