-- A core as a list of shards.
use Rattle.std.specs.Prelude.{◌≡◌, ℕ, Bool, ◌+◌, ◌/◌, ◌%◌, ◌==◌, ◌<◌, ◌^◌, All, List, Option, Some, None, option_and_then, Result, Ok, Err, IsSomeAnd, if◌then◌else◌, nat_lt, length, slice_get, slice_set, sum_by}
use Rattle.foyer_policy.specs.Policy.{Policy}
use Rattle.foyer_policy.specs.declared.error.Reason.{Reason}
use Rattle.foyer_policy.specs.declared.error.Reason.TheVariants.{NoShards}
use Rattle.foyer_policy.specs.declared.types.Source.{Source}
use Rattle.foyer_core.specs.declared.config.RawCacheConfig.{RawCacheConfig}
use Rattle.foyer_core.specs.declared.record.Limits.{Limits}
use Rattle.foyer_core.specs.State.{Meaning, State, AllData, hit, handles_of, handles_in, usage_of}
use Rattle.foyer_core.specs.Steps.{Inserts, RefusesInsert, IsOutdated, newcomer}
use Rattle.foyer_core.specs.Values.{Denied, Held, Incoming, Made, Rec}

-- a core: its capacity, what gives its keys their hashes and its records their weights, what admits them, and its
-- shards
pub record Core (K V P View S W A : Type 0) : Type 0 where
  pub capacity : ℕ
  pub hash_builder : S
  pub weighter : W
  pub filter : A
  pub shards : List (State K V P View)

-- each record stands in the shard of its hash
abbrev pub Belong : {K V P View : Type 0} → List (State K V P View) → Type 0
Belong {K} {V} {P} {View} shards = (i : ℕ) (s : State K V P View) → slice_get shards i ≡ Some s →
    AllData (λ d. d.hash % length shards ≡ i) s

-- each record has the hash of its key; `hash` gives each key its hash
abbrev pub AreHashed : {K V P View : Type 0} → (K → ℕ) → List (State K V P View) → Type 0
AreHashed {K} {V} {P} {View} hash shards = (i : ℕ) (s : State K V P View) → slice_get shards i ≡ Some s →
    AllData (λ d. d.hash ≡ hash d.key) s

-- the number of the shard of a hash
abbrev pub shard_of : {K V P View S W A : Type 0} → Core K V P View S W A → ℕ → ℕ
shard_of core hash = hash % length core.shards

-- the shard of a hash
abbrev pub shard_at : {K V P View S W A : Type 0} → Core K V P View S W A → ℕ → Option (State K V P View)
shard_at core hash = slice_get core.shards (shard_of core hash)

-- the id under a hashed key in the index of its shard
abbrev pub index_in : {K V P View S W A : Type 0} → Core K V P View S W A → ℕ × K → Option ℕ
index_in core k = option_and_then (λ s. s.index k) (shard_at core k.0)

-- what a hashed key hits at a moment, in its shard
abbrev pub hit_in : {K V P View C S W A : Type 0} → Meaning K P View C → ℕ → Core K V P View S W A → ℕ × K → Option ℕ
hit_in m now core k = option_and_then (λ s. hit m now s k) (shard_at core k.0)

-- an entry is this core's where the shard of its hash has its number and a handle of its id
abbrev pub Owns : {K V P View S W A : Type 0} → Core K V P View S W A → Held K V P → Type 0
Owns core entry = IsSomeAnd (shard_at core entry.kept.hash)
    (λ s. (entry.number ≡ s.number) × (0 < handles_in s entry.id))

-- the record of an entry, in its shard
abbrev pub record_of : {K V P View S W A : Type 0} → Core K V P View S W A → Held K V P → Option (Rec K V P)
record_of core entry = option_and_then (λ s. s.records entry.id) (shard_at core entry.kept.hash)

-- how many handles the record of an entry has
abbrev pub refs_in : {K V P View S W A : Type 0} → Core K V P View S W A → Held K V P → ℕ
refs_in core entry = handles_of (record_of core entry)

-- the record of an entry is not in the index of its shard
abbrev pub IsOutdatedIn : {K V P View S W A : Type 0} → Core K V P View S W A → Held K V P → Type 0
IsOutdatedIn core entry = IsSomeAnd (shard_at core entry.kept.hash) (λ s. IsOutdated s entry.id)

-- the shard of a hash makes a step, and all else stays
pub record AtShard {K V P View S W A : Type 0} (step : State K V P View → State K V P View → Type 0) (hash : ℕ)
    (old new : Core K V P View S W A) : Type 0 where
  pub before : State K V P View
  pub after : State K V P View
  pub there : shard_at old hash ≡ Some before
  pub stepped : step before after
  pub rest : new ≡ record old { shards = slice_set old.shards (shard_of old hash) after }

-- what each of some shards gets of a capacity
abbrev pub share_of : ℕ → ℕ → ℕ → ℕ
share_of capacity shards i = capacity / shards + (if nat_lt i (capacity % shards) then 1 else 0)

-- why a configuration is not accepted: it has no shards, or else the policy's fault
abbrev pub core_fault : {View C S W A : Type 0} → Policy View C → RawCacheConfig C S W A → Option Reason
core_fault policy config = if config.shards == 0 then Some NoShards else policy.fault config.eviction_config

module _ {K V P View C : Type 0} (m : Meaning K P View C) where
  -- the sum of the weights of what is in the index, over all shards
  abbrev pub usage_of_core : {S W A : Type 0} → Core K V P View S W A → ℕ
  usage_of_core core = sum_by (usage_of m) core.shards

  -- how many records are in the index, over all shards
  abbrev pub entries_of_core : {S W A : Type 0} → Core K V P View S W A → ℕ
  entries_of_core core = sum_by (λ s. length (m.policy.order s.view)) core.shards

  -- these are the sums over some shards: of the weights of what is in the index, and of how many records are in it;
  -- none of these passes a word
  abbrev pub AreSums : ℕ → ℕ → List (State K V P View) → Type 0
  AreSums usage entries shards = (usage ≡ sum_by (usage_of m) shards)
      × (entries ≡ sum_by (λ s. length (m.policy.order s.view)) shards)
      × All (λ s. (usage_of m s < 2 ^ 64) × (length (m.policy.order s.view) < 2 ^ 64)) shards

  -- What holds of a core's shards together: each record stands in the shard of its hash, and has the hash of its key,
  -- and these are the sums.
  pub record AreWhole (hash : K → ℕ) (usage entries : ℕ) (shards : List (State K V P View)) : Type 0 where
    pub belong : Belong shards
    pub hashed : AreHashed hash shards
    pub summed : AreSums usage entries shards

  -- a new shard holds nothing
  pub record IsNewShard (config : C) (number capacity : ℕ) (limits : Limits) (s : State K V P View) : Type 0 where
    pub numbered : s.number ≡ number
    pub capacity_is : s.capacity ≡ capacity
    pub limits_are : s.limits ≡ limits
    pub view_is : s.view ≡ m.policy.opening capacity config
    pub nothing_indexed : (k : ℕ × K) → s.index k ≡ None
    pub no_records : (id : ℕ) → s.records id ≡ None
    pub starts : s.next ≡ 0

  -- the first shards of a new core, so many: they hold nothing, and each has its share of the capacity
  pub record AreNewShards {S W A : Type 0} (config : RawCacheConfig C S W A) (many : ℕ)
      (shards : List (State K V P View)) : Type 0 where
    pub counted : length shards ≡ many
    pub each : (i : ℕ) (s : State K V P View) → slice_get shards i ≡ Some s
        → IsNewShard config.eviction_config config.number (share_of config.capacity config.shards i) config.limits s

  -- a new core: its shards hold nothing, and share the capacity
  pub record IsNewCore {S W A : Type 0} (config : RawCacheConfig C S W A) (core : Core K V P View S W A) : Type 0 where
    pub capacity_is : core.capacity ≡ config.capacity
    pub hash_builder_is : core.hash_builder ≡ config.hash_builder
    pub weighter_is : core.weighter ≡ config.weighter
    pub filter_is : core.filter ≡ config.filter
    pub shards_are : AreNewShards config config.shards core.shards

  -- what an insert makes of its shard, and answers
  abbrev pub InsertsAnswering : Source → State K V P View → Incoming K V P → Result (Made K V P) (Denied K V P) →
      State K V P View → Type 0
  InsertsAnswering source old i (Ok made) new = Inserts m source old i made.leaves made.entry new
  InsertsAnswering source old i (Err denied) new = RefusesInsert m old i denied.reason denied.leaves new

  -- An insert of a record in the shard of its hash, with a weight that the weighter may give it, and an answer that
  -- the filter may give: `properties` says what its properties are with that answer. It gets so many handles, and its
  -- entry has this source.
  pub record InsertsWeighed {S W A : Type 0} (source : Source) (weighs : ℕ → Type 0) (admits : Bool → Type 0)
      (hash : ℕ) (key : K) (value : V) (properties : Bool → P) (handles : ℕ)
      (result : Result (Made K V P) (Denied K V P)) (old new : Core K V P View S W A) : Type 0 where
    pub weight : ℕ
    pub weighed : weighs weight
    pub admitted : Bool
    pub answered : admits admitted
    pub inserts : AtShard
        (λ s t. InsertsAnswering source s
        (newcomer s
        record { key = key; value = value; properties = properties admitted; hash = hash; weight = weight }
        handles) result t)
        hash old new
