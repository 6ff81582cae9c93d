-- A shard as maps.
use Rattle.std.specs.Prelude.{◌≡◌, ℕ, ◌<◌, ◌≤◌, ◌^◌, ◌⊎◌, List, Option, Some, None, Bool, true, false, not, ◌||◌, if◌then◌else◌, option_and_then}
use Rattle.foyer_policy.specs.Items.{weight_of, count_of, find_id, remove_id, HasIdsOnce}
use Rattle.foyer_policy.specs.Moments.{is_expired, timed}
use Rattle.foyer_policy.specs.Policy.{Policy}
use Rattle.foyer_policy.specs.Properties.{is_phantom, hint_or_normal}
use Rattle.foyer_policy.specs.declared.types.Hint.{Hint}
use Rattle.foyer_policy.specs.declared.types.Item.{Item}
use Rattle.foyer_policy.specs.declared.types.Location.{Location}
use Rattle.foyer_policy.specs.declared.types.Location.TheVariants.{OnDisk}
use Rattle.foyer_core.specs.declared.record.Data.{Data}
use Rattle.foyer_core.specs.declared.record.Limits.{Limits}
use Rattle.foyer_core.specs.Indexer.{same_key}
use Rattle.foyer_core.specs.Values.{Rec}

-- what a shard is over: when keys are equal, what its policy does, and what properties answer
pub record Meaning (K P View C : Type 0) : Type 0 where
  pub same : K → K → Bool
  pub policy : Policy View C
  pub hint : P → Option Hint
  pub phantom : P → Option Bool
  pub expires : P → Option ℕ

-- a shard: its core's number, its capacity and limits, the policy's view, the index from hashed keys to
-- ids, the records by id, and the next id
pub record State (K V P View : Type 0) : Type 0 where
  pub number : ℕ
  pub capacity : ℕ
  pub limits : Limits
  pub view : View
  pub index : (ℕ × K) → Option ℕ
  pub records : ℕ → Option (Rec K V P)
  pub next : ℕ

-- the hashed key of a record
abbrev pub key_of : {K V P : Type 0} → Data K V P → ℕ × K
key_of d = (d.hash, d.key)

-- whether a record is to be on disk alone
abbrev pub is_on_disk : Option Location → Bool
is_on_disk (Some OnDisk) = true
is_on_disk _ = false

-- the properties with which a record comes in, where this is what the filter answered: where it is not admitted, or
-- is to be on disk alone, they say that it is phantom
abbrev pub coming_in : {P : Type 0} → (P → Option Location) → (P → Bool → P) → Bool → P → P
coming_in location with_phantom admitted p = if not admitted || is_on_disk (location p) then with_phantom p true else p

-- no answer that a filter may give is no
abbrev pub IsAdmitted : (Bool → Type 0) → Type 0
IsAdmitted admits = (answer : Bool) → admits answer → answer ≡ true

-- properties that make a plain record: they do not say phantom, and it is not to be on disk alone
abbrev pub MakesPlain : {P : Type 0} → (P → Option Bool) → (P → Option Location) → P → Type 0
MakesPlain phantom location p = (is_phantom (phantom p) ≡ false) × (is_on_disk (location p) ≡ false)

-- all records of a shard have data of which this holds
abbrev pub AllData : {K V P View : Type 0} → (Data K V P → Type 0) → State K V P View → Type 0
AllData {K} {V} {P} Q s = (id : ℕ) (r : Rec K V P) → s.records id ≡ Some r → Q r.kept

-- a shard at a moment: what is expired then is the first to leave
abbrev pub at_moment : {K P View C : Type 0} → ℕ → Meaning K P View C → Meaning K P View C
at_moment now m = record m { policy = timed now m.policy }

-- whether what is held of an id is expired at a moment; `expires` says when properties do
abbrev pub is_expired_in : {K V P : Type 0} → (P → Option ℕ) → ℕ → Option (Rec K V P) → Bool
is_expired_in expires now None = false
is_expired_in expires now (Some r) = is_expired now (expires r.kept.properties)

-- what a key hits at a moment, the one definition of a hit: the record in the index, unless that is expired then
abbrev pub hit : {K V P View C : Type 0} → Meaning K P View C → ℕ → State K V P View → ℕ × K → Option ℕ
hit m now s k = option_and_then (λ id. if is_expired_in m.expires now (s.records id) then None else Some id) (s.index k)

-- how many handles there are of an id
abbrev pub handles_of : {K V P : Type 0} → Option (Rec K V P) → ℕ
handles_of None = 0
handles_of (Some r) = r.handles

abbrev pub handles_in : {K V P View : Type 0} → State K V P View → ℕ → ℕ
handles_in s id = handles_of (s.records id)

-- the list without the item of an id, where there is one
abbrev pub without_own : Option ℕ → List Item → List Item
without_own None items = items
without_own (Some id) items = remove_id id items

module _ {K V P View C : Type 0} (m : Meaning K P View C) where
  -- what the policy keeps of a record
  abbrev pub item_of : ℕ → Data K V P → Item
  item_of id d = record {
    id = id;
    hash = d.hash;
    weight = d.weight;
    hint = hint_or_normal (m.hint d.properties);
    expires = m.expires d.properties;
  }

  -- whether a record is phantom
  abbrev pub is_phantom_record : Data K V P → Bool
  is_phantom_record d = is_phantom (m.phantom d.properties)

  -- the sum of the weights of what is in the index
  abbrev pub usage_of : State K V P View → ℕ
  usage_of s = weight_of (m.policy.order s.view)

  -- the pinned weight of the records of other keys
  abbrev pub pinned_beside : State K V P View → ℕ × K → ℕ
  pinned_beside s k = weight_of (without_own (s.index k) (m.policy.pinned s.view))

  -- what each shard keeps
  pub record IsKept (s : State K V P View) : Type 0 where
    -- the policy holds each id once, and each with its record's item; that record is in the index
    pub once : HasIdsOnce (m.policy.order s.view)
    pub placed : (i : Item) → find_id i.id (m.policy.order s.view) ≡ Some i
        → (r : Rec K V P) × (s.records i.id ≡ Some r) × (r.resident ≡ true) × (s.index (key_of r.kept) ≡ Some i.id)
        × (i ≡ item_of i.id r.kept)
    -- the policy holds what is in the index, under the key of its record
    pub indexed : (k : ℕ × K) (id : ℕ) → s.index k ≡ Some id
        → (0 < count_of id (m.policy.order s.view))
        × ((r : Rec K V P) → s.records id ≡ Some r → same_key m.same k (key_of r.kept) ≡ true)
    pub resident : (id : ℕ) (r : Rec K V P) → s.records id ≡ Some r → r.resident ≡ true →
        0 < count_of id (m.policy.order s.view)
    pub respects : (k q : ℕ × K) → same_key m.same k q ≡ true → s.index k ≡ s.index q
    -- a record that is not in the index has a handle, and none has too many
    pub needed : (id : ℕ) (r : Rec K V P) → s.records id ≡ Some r → (r.resident ≡ true) ⊎ (0 < r.handles)
    pub limited : (id : ℕ) (r : Rec K V P) → s.records id ≡ Some r → r.handles ≤ s.limits.handles
    -- what is pinned has a handle
    pub pinned : (id : ℕ) (r : Rec K V P) → s.records id ≡ Some r → 0 < count_of id (m.policy.pinned s.view) →
        0 < r.handles
    -- no phantom record is in the index
    pub plain : (id : ℕ) (r : Rec K V P) → s.records id ≡ Some r → r.resident ≡ true → is_phantom_record r.kept ≡ false
    -- numbers in use are below the next one, and the usage fits a `usize`
    pub fresh : (id : ℕ) (r : Rec K V P) → s.records id ≡ Some r → id < s.next
    pub fits : usage_of s < 2 ^ 64
