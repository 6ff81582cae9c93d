-- Least recently used, with a pool of high priority and with pins.
use Rattle.std.specs.Prelude.{◌==◌, ◌++◌, ◌≤◌, ℕ, Bool, true, false, List, [], ◌∷◌, Option, Some, None, map, is_some, if◌then◌else◌}
use Rattle.foyer_policy.specs.Items.{weight_of, remove_id, find_id, fit, over}
use Rattle.foyer_policy.specs.Limit.{limit_of, ratio_fault}
use Rattle.foyer_policy.specs.Policy.{Policy}
use Rattle.foyer_policy.specs.declared.types.Item.{Item}
use Rattle.foyer_policy.specs.declared.types.Hint.{Hint}
use Rattle.foyer_policy.specs.declared.types.Hint.TheVariants.{Normal, Low}
use Rattle.foyer_policy.specs.declared.types.Ratio.{Ratio}
use Rattle.foyer_policy.specs.declared.limit.Range.TheVariants.{Closed}
use Rattle.foyer_policy.specs.declared.error.Field.TheVariants.{HighPriorityPool}
use Rattle.foyer_policy.specs.declared.lru.LruConfig.{LruConfig}

-- a pinned item with its high bit: whether it goes back to the pool of high priority
pub record Pinned : Type 0 where
  pub item : Item
  pub is_high : Bool

-- What leaves first, the pool of high priority, what is pinned, the pool's limit and the ratio in use.
-- The high bit of an item that is not pinned shows in its list: it is set in `high` and not set in `low`.
pub record LruView : Type 0 where
  pub low : List Item
  pub high : List Item
  pub pin : List Pinned
  pub limit : ℕ
  pub ratio : Ratio

-- the pool keeps its longest tail within the limit; what stands before that goes to the end of `low`, without the bit
abbrev pub settle : LruView → LruView
settle v = record v {
  low = v.low ++ over (λ i. i.weight) v.limit v.high;
  high = fit (λ i. i.weight) v.limit v.high;
}

-- the pool is within its limit
abbrev pub IsWithinLimit : LruView → Type 0
IsWithinLimit v = weight_of v.high ≤ v.limit

-- whether a hint sets the high bit
abbrev pub is_high_hint : Hint → Bool
is_high_hint Normal = true
is_high_hint Low = false

-- an item that is not pinned, at the end of its list
abbrev pub put : LruView → Item → Bool → LruView
put v i true = record v { high = v.high ++ i ∷ [] }
put v i false = record v { low = v.low ++ i ∷ [] }

-- the first pinned item of this id, and the pinned items without it
abbrev pub find_pin : ℕ → List Pinned → Option Pinned
find_pin id [] = None
find_pin id (p ∷ ps) = if p.item.id == id then Some p else find_pin id ps

abbrev pub remove_pin : ℕ → List Pinned → List Pinned
remove_pin id [] = []
remove_pin id (p ∷ ps) = if p.item.id == id then ps else p ∷ remove_pin id ps

-- the victim: the first of `low`, or else the first of `high`
abbrev pub first_of : LruView → List Item → List Item → Option (Item × LruView)
first_of v (i ∷ low) high = Some (i, record v { low = low })
first_of v [] (i ∷ high) = Some (i, record v { high = high })
first_of v [] [] = None

-- an item that was found in `low`, or else in `high`, goes to the end of `pin` with its bit
abbrev pub pin_found : LruView → ℕ → Option Item → Option Item → LruView
pin_found v id (Some i) _ = record v
    { low = remove_id id v.low; pin = v.pin ++ record { item = i; is_high = false } ∷ [] }
pin_found v id None (Some i) = record v
    { high = remove_id id v.high; pin = v.pin ++ record { item = i; is_high = true } ∷ [] }
pin_found v id None None = v

-- an item that was found in `pin` goes to the end of its list, by its bit
abbrev pub unpin_found : LruView → ℕ → Option Pinned → LruView
unpin_found v id None = v
unpin_found v id (Some p) = put (record v { pin = remove_pin id v.pin }) p.item p.is_high

-- the pool's limit, and the ratio that it comes of
pub record Limits : Type 0 where
  pub limit : ℕ
  pub ratio : Ratio

abbrev pub limits_by : ℕ → Ratio → Limits
limits_by capacity ratio = record { limit = limit_of capacity ratio; ratio = ratio }

-- the limits that come of a capacity and a configuration, of a new policy and of one that is updated
abbrev pub limits_of : ℕ → LruConfig → Limits
limits_of capacity config = limits_by capacity config.high_priority_pool_ratio

-- those of the configuration that is given, or else of the ratio in use
abbrev pub limits_or : Ratio → ℕ → Option LruConfig → Limits
limits_or ratio capacity None = limits_by capacity ratio
limits_or ratio capacity (Some config) = limits_of capacity config

abbrev pub with_limits : LruView → Limits → LruView
with_limits v l = record v { limit = l.limit; ratio = l.ratio }

-- nothing is in
abbrev pub no_items : Limits → LruView
no_items l = record { low = []; high = []; pin = []; limit = l.limit; ratio = l.ratio }

-- Three lists; pops come from `low`, then from `high`. Each call that puts an item somewhere, or sets the limit,
-- settles.
abbrev pub lru : Policy LruView LruConfig
lru = record {
  fault = λ c. ratio_fault Closed HighPriorityPool c.high_priority_pool_ratio;
  takes = λ _ _. true;
  opening = λ capacity c. no_items (limits_of capacity c);
  order = λ v. v.low ++ (v.high ++ map (λ p. p.item) v.pin);
  pinned = λ v. map (λ p. p.item) v.pin;
  push = λ v i. settle (put v i (is_high_hint i.hint));
  pop = λ v. first_of v v.low v.high;
  remove = λ v id.
      if is_some (find_id id v.low) then record v { low = remove_id id v.low }
      else if is_some (find_id id v.high) then record v { high = remove_id id v.high }
      else record v { pin = remove_pin id v.pin };
  acquire = λ v id. settle (pin_found v id (find_id id v.low) (find_id id v.high));
  release = λ v id. settle (unpin_found v id (find_pin id v.pin));
  update = λ v capacity config. settle (with_limits v (limits_or v.ratio capacity config));
  clear = λ v. record v { low = []; high = []; pin = [] };
  looks = λ v. 0;
  credit = λ v. 0;
}
