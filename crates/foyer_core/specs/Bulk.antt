-- The steps of a shard on all of its records.
use Rattle.std.specs.Prelude.{◌≡◌, ℕ, Bool, List, ◌++◌, Option, length, Some, None}
use denote.Ref.{Bor}
use Rattle.std.specs.Fn.{Shared, FnReturns}
use Rattle.std.specs.List.{AllZip, items_where_true}
use Rattle.foyer_policy.specs.Policy.{pops, after_pops, after_all_pops, removed}
use Rattle.foyer_policy.specs.declared.types.Item.{Item}
use Rattle.foyer_policy.specs.declared.types.Event.{Event}
use Rattle.foyer_policy.specs.declared.types.Event.TheVariants.{Evict, Clear}
use Rattle.foyer_core.specs.Values.{Gone, Rec}
use Rattle.foyer_core.specs.State.{Meaning, State, IsKept}
use Rattle.foyer_core.specs.Stored.{IsStored, state}
use Rattle.foyer_core.specs.declared.record.Limits.{Limits}
use Rattle.foyer_core.specs.declared.records.Records.{Records}
use Rattle.foyer_core.specs.Steps.{Leave, ids_of, gone_of, after_out}

-- a list of leaves goes on, by leaves that are so
pub record GoesOn {K V P : Type 0} (old new : List (Event × Gone K V P)) (So : List (Event × Gone K V P) → Type 0) :
    Type 0 where
  pub more : List (Event × Gone K V P)
  pub told : new ≡ old ++ more
  pub so : So more

-- an answer that a call of a predicate may give, at a key and a value
pub record Says {F K V : Type 0} (g : Shared F (Bor K × (Bor V × Unit {0})) Bool) (f : F) (key : K) (value : V)
    (answer : Bool) : Type 0 where
  pub shown_key : Bor K
  pub shown_value : Bor V
  pub shows : (shown_key.now ≡ key) × (shown_value.now ≡ value)
  pub says : FnReturns g f (shown_key, (shown_value, tt)) answer

-- an answer that may be given of the key and the value of an id's record
pub record Answers {K V P View : Type 0} (says : K → V → Bool → Type 0) (s : State K V P View) (id : ℕ)
    (answer : Bool) : Type 0 where
  pub rec : Rec K V P
  pub there : s.records id ≡ Some rec
  pub said : says rec.kept.key rec.kept.value answer

module _ {K V P View C : Type 0} (m : Meaning K P View C) where
  -- another capacity, and another configuration where one is given, which the policy is told: nothing leaves
  abbrev pub after_update : State K V P View → ℕ → Option C → State K V P View
  after_update s capacity config = record s { capacity = capacity; view = m.policy.update s.view capacity config }

  -- another capacity alone
  abbrev pub after_capacity : State K V P View → ℕ → State K V P View
  after_capacity s capacity = after_update s capacity None

  -- all that the pops give leaves, in their order: what is not pinned
  abbrev pub EvictsUnpinned : State K V P View → List (Event × Gone K V P) → State K V P View → Type 0
  EvictsUnpinned old ls new = Leave m Evict (ids_of (pops m.policy old.view)) old ls
      (after_all_pops m.policy old.view) new

  -- some beginning of that: what want of memory leaves
  pub record EvictingUnpinned (old : State K V P View) (ls : List (Event × Gone K V P)) (new : State K V P View) :
      Type 0 where
    pub left : List Item
    pub rest : List Item
    pub parts : left ++ rest ≡ pops m.policy old.view
    pub leave : Leave m Evict (ids_of left) old ls (after_pops m.policy (length left) old.view) new

  -- the record of this id leaves, and the policy is told of it alone
  pub record TakesRecordOut (old : State K V P View) (id : ℕ) (gone : Gone K V P) (new : State K V P View) : Type
      0 where
    pub rec : Rec K V P
    pub there : old.records id ≡ Some rec
    pub gone_is : gone ≡ gone_of old.number id rec
    pub after : new ≡ record (after_out m old id rec) { view = m.policy.remove old.view id }

  -- the records of these items leave for this reason, one after the other, and the policy is told of each
  abbrev pub TakesOut : Event → List Item → State K V P View → List (Event × Gone K V P) → State K V P View → Type 0
  TakesOut event items old ls new = Leave m event (ids_of items) old ls (removed m.policy items old.view) new

  -- all that is in leaves, in the policy's order, and the view is cleared
  abbrev pub Clears : State K V P View → List (Event × Gone K V P) → State K V P View → Type 0
  Clears old ls new = Leave m Clear (ids_of (m.policy.order old.view)) old ls (m.policy.clear old.view) new

  -- each record that is in has one answer, in the policy's order: the items of those with yes
  pub record Picks (says : K → V → Bool → Type 0) (s : State K V P View) (picked : List Item) : Type 0 where
    pub answers : List Bool
    pub each : AllZip (λ i. Answers says s i.id) (m.policy.order s.view) answers
    pub picked_is : picked ≡ items_where_true answers (m.policy.order s.view)

  -- those records leave, in the policy's order
  pub record EvictsIf (says : K → V → Bool → Type 0) (old : State K V P View) (ls : List (Event × Gone K V P))
      (new : State K V P View) : Type 0 where
    pub picked : List Item
    pub picks : Picks says old picked
    pub leave : TakesOut Evict picked old ls new

-- the policy of a shard of this number with these keys and records holds these items, in this order, whatever it is
pub record Lined {K V P View C : Type 0} (m : Meaning K P View C) (number : ℕ) (keys : ℕ × K → Option ℕ)
    (records : Records K V P) (items : List Item) : Type 0 where
  pub capacity : ℕ
  pub limits : Limits
  pub view : View
  pub next : ℕ
  pub at : ℕ → Option Item
  pub sound : ∥ IsKept m (state number capacity limits view keys records next) ∥₁
  pub stored : IsStored m at keys records
  pub lined : m.policy.order view ≡ items

abbrev pub lined_state : {K V P View C : Type 0} {m : Meaning K P View C} {number : ℕ} {keys : ℕ × K → Option ℕ}
    {records : Records K V P} {items : List Item} → Lined m number keys records items → State K V P View
lined_state {number = number} {keys = keys} {records = records} o =
    state number o.capacity o.limits o.view keys records o.next

-- some of the items left, and these are still in
pub record Passes {K V P View C : Type 0} (m : Meaning K P View C) {number : ℕ} {keys : ℕ × K → Option ℕ}
    {records : Records K V P} {items : List Item} (o : Lined m number keys records items)
    (left still : List Item) (ls : List (Event × Gone K V P)) (keys' : ℕ × K → Option ℕ) (records' : Records K V P) :
    Type 0 where
  pub after : Lined m number keys' records' still
  pub leave : Leave m Clear (ids_of left) (lined_state o) ls after.view (lined_state after)
