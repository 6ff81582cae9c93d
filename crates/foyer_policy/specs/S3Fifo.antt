-- S3-FIFO: a small and a main queue with a frequency for each item, and a ghost queue.
use Rattle.std.specs.Prelude.{◌==◌, ℕ, ◌+◌, ◌-◌, ◌*◌, min, nat_le, nat_lt, Bool, true, false, List, [], ◌∷◌, ◌++◌, Option, Some, None, length, map, is_some, sum_by, if◌then◌else◌}
use Rattle.std.specs.FinSet.{contains, empty}
use Rattle.foyer_policy.specs.Items.{weight_of, find_id}
use Rattle.foyer_policy.specs.Limit.{limit_of, ratio_fault}
use Rattle.foyer_policy.specs.Lists.{or_else}
use Rattle.foyer_policy.specs.Policy.{Policy}
use Rattle.foyer_policy.specs.PopTimes.{pop_times}
use Rattle.foyer_policy.specs.GhostQueue.{Ghost, ghost_push, ghost_update}
use Rattle.foyer_policy.specs.declared.types.Item.{Item}
use Rattle.foyer_policy.specs.declared.types.Ratio.{Ratio}
use Rattle.foyer_policy.specs.declared.limit.Range.TheVariants.{Open}
use Rattle.foyer_policy.specs.declared.error.Field.TheVariants.{SmallQueue}
use Rattle.foyer_policy.specs.declared.error.Reason.{Reason}
use Rattle.foyer_policy.specs.declared.error.Reason.TheVariants.{ZeroDenominator}
use Rattle.foyer_policy.specs.declared.s3fifo.S3FifoConfig.{S3FifoConfig}

-- an item with its frequency
pub record Entry : Type 0 where
  pub item : Item
  pub frequency : ℕ

-- what is in use of a configuration
pub record Setting : Type 0 where
  pub small_ratio : Ratio
  pub ghost_ratio : Ratio
  -- from this frequency on, a pop moves an item of the small queue to the main queue
  pub threshold : ℕ

-- what a contract sees of an S3-FIFO; small gives items once it weighs more than the limit
pub record S3FifoView : Type 0 where
  pub small : List Entry
  pub main : List Entry
  pub ghost : Ghost
  pub limit : ℕ
  pub setting : Setting

abbrev pub items : List Entry → List Item
items es = map (λ e. e.item) es

-- the sum of the frequencies
abbrev pub frequencies : List Entry → ℕ
frequencies = sum_by (λ e. e.frequency)

-- a threshold above 3 counts as 3
abbrev pub setting_of : S3FifoConfig → Setting
setting_of c = record {
  small_ratio = c.small_queue_capacity_ratio;
  ghost_ratio = c.ghost_queue_capacity_ratio;
  threshold = min c.small_to_main_freq_threshold 3;
}

-- the fault of the ghost queue's ratio, which may be any number
abbrev pub denominator_fault : Ratio → Option Reason
denominator_fault ratio = if ratio.den == 0 then Some ZeroDenominator else None

abbrev pub s3fifo_fault : S3FifoConfig → Option Reason
s3fifo_fault c = or_else (ratio_fault Open SmallQueue c.small_queue_capacity_ratio)
    (denominator_fault c.ghost_queue_capacity_ratio)

-- the entries at the front whose frequency reaches a threshold
abbrev pub frequent_front : ℕ → List Entry → List Entry
frequent_front t [] = []
frequent_front t (e ∷ es) = if nat_le t e.frequency then e ∷ frequent_front t es else []

-- the first entry whose frequency is below it, and what follows
abbrev pub from_rare : ℕ → List Entry → List Entry
from_rare t [] = []
from_rare t (e ∷ es) = if nat_le t e.frequency then from_rare t es else e ∷ es

-- the least frequency of these
abbrev pub least : Entry → List Entry → ℕ
least e [] = e.frequency
least e (f ∷ fs) = min e.frequency (least f fs)

abbrev pub least_of : List Entry → ℕ
least_of [] = 0
least_of (e ∷ es) = least e es

-- what stands before the first entry of this frequency
abbrev pub before_first : ℕ → List Entry → List Entry
before_first m [] = []
before_first m (e ∷ es) = if e.frequency == m then [] else e ∷ before_first m es

-- the first entry of this frequency, and what follows
abbrev pub from_first : ℕ → List Entry → List Entry
from_first m [] = []
from_first m (e ∷ es) = if e.frequency == m then e ∷ es else from_first m es

-- so much taken off each frequency
abbrev pub lowered : ℕ → List Entry → List Entry
lowered n es = map (λ e. record { item = e.item; frequency = e.frequency - n }) es

-- what a pop takes from the main queue, and what it leaves there
pub record MainTurn : Type 0 where
  pub victim : Item
  pub main : List Entry

-- The first entry of the least frequency m leaves. Those behind it come first, with m taken off, then those
-- before it, with m + 1 taken off. The last argument is `from_first` of m.
abbrev pub least_leaves : ℕ → List Entry → List Entry → Option MainTurn
least_leaves m before [] = None
least_leaves m before (e ∷ es) = Some (record { victim = e.item; main = lowered m es ++ lowered (m + 1) before })

abbrev pub main_turn : List Entry → Option MainTurn
main_turn es = (let m = least_of es in least_leaves m (before_first m es) (from_first m es))

-- how many frequencies that reads: m of each entry, and then those up to the victim
abbrev pub least_looks : ℕ → List Entry → List Entry → ℕ
least_looks m es [] = 0
least_looks m es (f ∷ fs) = m * length es + length (before_first m es) + 1

abbrev pub main_looks : List Entry → ℕ
main_looks es = (let m = least_of es in least_looks m es (from_first m es))

-- where main is empty, the first of small leaves, and enters no ghost queue
abbrev pub first_of_small : S3FifoView → List Entry → Option (Item × S3FifoView)
first_of_small v [] = None
first_of_small v (e ∷ es) = Some (e.item, record v { small = es })

abbrev pub main_gives : S3FifoView → Option MainTurn → Option (Item × S3FifoView)
main_gives v (Some t) = Some (t.victim, record v { main = t.main })
main_gives v None = first_of_small v v.small

abbrev pub from_main : S3FifoView → Option (Item × S3FifoView)
from_main v = main_gives v (main_turn v.main)

-- all of small goes to the end of main
abbrev pub promoted : S3FifoView → S3FifoView
promoted v = record v { small = []; main = v.main ++ v.small }

-- Small is over its limit; the last argument is `from_rare` of it. Its first entry below the threshold
-- leaves and enters the ghost queue, and those before that go to main; without one, all go to main.
abbrev pub over_limit : S3FifoView → List Entry → Option (Item × S3FifoView)
over_limit v [] = from_main (promoted v)
over_limit v (e ∷ es) = Some (
  e.item,
  record v {
    small = es;
    main = v.main ++ frequent_front v.setting.threshold v.small;
    ghost = ghost_push v.ghost e.item.hash e.item.weight;
  },
)

abbrev pub is_over : S3FifoView → Bool
is_over v = nat_lt v.limit (weight_of (items v.small))

abbrev pub s3fifo_pop : S3FifoView → Option (Item × S3FifoView)
s3fifo_pop v = if is_over v then over_limit v (from_rare v.setting.threshold v.small) else from_main v

abbrev pub over_looks : S3FifoView → List Entry → ℕ
over_looks v [] = main_looks (v.main ++ v.small)
over_looks v (e ∷ es) = 0

abbrev pub s3fifo_looks : S3FifoView → ℕ
s3fifo_looks v = if is_over v then over_looks v (from_rare v.setting.threshold v.small) else main_looks v.main

-- the list without the first item of this id
abbrev pub remove_entry : ℕ → List Entry → List Entry
remove_entry id [] = []
remove_entry id (e ∷ es) = if e.item.id == id then es else e ∷ remove_entry id es

-- the list with 1 added to the frequency of the first item of this id, up to 3
abbrev pub use_entry : ℕ → List Entry → List Entry
use_entry id [] = []
use_entry id (e ∷ es) = if e.item.id == id then record { item = e.item; frequency = min (e.frequency + 1) 3 } ∷ es
    else e ∷ use_entry id es

-- whether small has the id
abbrev pub is_in_small : S3FifoView → ℕ → Bool
is_in_small v id = is_some (find_id id (items v.small))

abbrev pub put : S3FifoView → Entry → Bool → S3FifoView
put v e true = record v { main = v.main ++ e ∷ [] }
put v e false = record v { small = v.small ++ e ∷ [] }

-- the small queue's limit, the ghost queue's capacity, and the setting that they come of
pub record Limits : Type 0 where
  pub small : ℕ
  pub ghost : ℕ
  pub setting : Setting

abbrev pub limits_by : ℕ → Setting → Limits
limits_by capacity s =
    record { small = limit_of capacity s.small_ratio; ghost = limit_of capacity s.ghost_ratio; setting = s }

-- the limits that come of a capacity and a configuration, with its threshold, of a new policy and of one that is
-- updated
abbrev pub limits_of : ℕ → S3FifoConfig → Limits
limits_of capacity c = limits_by capacity (setting_of c)

-- those of the configuration that is given, or else of the setting in use
abbrev pub limits_or : Setting → ℕ → Option S3FifoConfig → Limits
limits_or s capacity None = limits_by capacity s
limits_or s capacity (Some c) = limits_of capacity c

abbrev pub with_limits : S3FifoView → Limits → S3FifoView
with_limits v l = record v { ghost = ghost_update v.ghost l.ghost; limit = l.small; setting = l.setting }

-- nothing is in, and the ghost queue remembers nothing
abbrev pub no_items : Limits → S3FifoView
no_items l = record {
  small = [];
  main = [];
  ghost = record { pairs = []; hashes = empty; capacity = l.ghost };
  limit = l.small;
  setting = l.setting;
}

-- A push goes to main where the ghost queue has the hash, else to small, with frequency 0.
abbrev pub s3fifo : Policy S3FifoView S3FifoConfig
s3fifo = record {
  fault = s3fifo_fault;
  takes = λ _ _. true;
  opening = λ capacity c. no_items (limits_of capacity c);
  order = λ v. items v.small ++ items v.main;
  pinned = λ v. [];
  push = λ v i. put v (record { item = i; frequency = 0 }) (contains v.ghost.hashes i.hash);
  pop = s3fifo_pop;
  remove = λ v id.
      if is_in_small v id then record v { small = remove_entry id v.small }
      else record v { main = remove_entry id v.main };
  acquire = λ v id.
      if is_in_small v id then record v { small = use_entry id v.small } else record v { main = use_entry id v.main };
  release = λ v id. v;
  update = λ v capacity config. with_limits v (limits_or v.setting capacity config);
  clear = λ v. pop_times s3fifo_pop (length v.small + length v.main) v;
  looks = s3fifo_looks;
  credit = λ v. frequencies v.small + frequencies v.main;
}
