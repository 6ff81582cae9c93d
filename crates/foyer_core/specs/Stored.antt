-- How a shard's fields stand for its state.
use Rattle.std.specs.Prelude.{◌≡◌, ℕ, Option, Some, None, option_and_then, is_some, Bool, true, if◌then◌else◌}
use Rattle.foyer_policy.specs.Policy.{Policy}
use Rattle.foyer_policy.specs.declared.types.Hint.{Hint}
use Rattle.foyer_policy.specs.declared.types.Item.{Item}
use Rattle.foyer_core.specs.declared.record.Limits.{Limits}
use Rattle.foyer_core.specs.declared.records.Records.{Records}
use Rattle.foyer_core.specs.Values.{Kept}
use Rattle.foyer_core.specs.State.{Meaning, State, item_of}
use Rattle.foyer_core.specs.Records.{slot_in, id_in, record_in}

-- when keys are equal, what the policy does, and what properties answer
abbrev pub meaning : {K P View C : Type 0} → (K → K → Bool) → Policy View C → (P → Option Hint) → (P → Option Bool) →
    (P → Option ℕ) → Meaning K P View C
meaning same policy hint phantom expires = record {
  same = same;
  policy = policy;
  hint = hint;
  phantom = phantom;
  expires = expires;
}

-- the state that the fields stand for: the index leads from a key to a slot, whose record has the id
abbrev pub state : {K V P View : Type 0} → ℕ → ℕ → Limits → View → (ℕ × K → Option ℕ) → Records K V P → ℕ →
    State K V P View
state number capacity limits view keys records next = record {
  number = number;
  capacity = capacity;
  limits = limits;
  view = view;
  index = λ q. option_and_then (id_in records) (keys q);
  records = record_in records;
  next = next;
}

-- the item of a slot's record, where that is in the index
abbrev pub item_in : {K V P View C : Type 0} → Meaning K P View C → Option (Kept K V P) → Option Item
item_in m None = None
item_in m (Some s) = if s.resident then Some (item_of m s.id s.kept) else None

-- each key leads to a slot with a record, and the policy has at each place the item of the record in the index that is
-- in the slot of this number, and no other
pub record IsStored {K V P View C : Type 0} (m : Meaning K P View C) (at : ℕ → Option Item) (keys : ℕ × K → Option ℕ)
    (records : Records K V P) : Type 0 where
  pub led : (q : ℕ × K) (n : ℕ) → keys q ≡ Some n → is_some (slot_in records n) ≡ true
  pub placed : (n : ℕ) → at n ≡ item_in m (slot_in records n)
