-- w-TinyLFU: a window for what came in lately, and two lists behind it, of which the less often seen leaves.
use Rattle.std.specs.Prelude.{true, ◌==◌, ◌+◌, ◌*◌, ◌++◌, ℕ, List, [], ◌∷◌, Option, Some, None, nat_lt, is_some, if◌then◌else◌}
use Rattle.foyer_policy.specs.Items.{remove_id, find_id, fit, over}
use Rattle.foyer_policy.specs.Limit.{limit_of, ratio_fault}
use Rattle.foyer_policy.specs.Lists.{or_else}
use Rattle.foyer_policy.specs.Policy.{Policy}
use Rattle.foyer_policy.specs.Sketch.{Sketch, new_sketch, counting, estimate_of}
use Rattle.foyer_policy.specs.declared.types.Item.{Item}
use Rattle.foyer_policy.specs.declared.types.Ratio.{Ratio}
use Rattle.foyer_policy.specs.declared.limit.Range.TheVariants.{Open}
use Rattle.foyer_policy.specs.declared.error.Field.TheVariants.{Window, Protected}
use Rattle.foyer_policy.specs.declared.error.Reason.{Reason}
use Rattle.foyer_policy.specs.declared.error.Reason.TheVariants.{RatioSum, NoRows, NoBuckets}
use Rattle.foyer_policy.specs.declared.lfu.LfuConfig.{LfuConfig}

-- The three lists, the limits of window and protected with the ratios in use, and how often hashes were seen.
pub record LfuView : Type 0 where
  pub window : List Item
  pub probation : List Item
  pub protected : List Item
  pub window_limit : ℕ
  pub protected_limit : ℕ
  pub window_ratio : Ratio
  pub protected_ratio : Ratio
  pub sketch : Sketch

-- the two ratios must leave something to probation
abbrev pub sum_fault : Ratio → Ratio → Option Reason
sum_fault window protected = if nat_lt (window.num * protected.den + protected.num * window.den)
    (window.den * protected.den) then None else Some RatioSum

-- the first fault of the two ratios: each alone, and then their sum
abbrev pub ratios_fault : Ratio → Ratio → Option Reason
ratios_fault window protected = or_else (ratio_fault Open Window window)
    (or_else (ratio_fault Open Protected protected) (sum_fault window protected))

-- the first fault of the sketch's size, in the order of the configuration's fields
abbrev pub buckets_fault : ℕ → ℕ → Option Reason
buckets_fault buckets hashes = if buckets == 0 then Some NoBuckets else if hashes == 0 then Some NoRows else None

-- the first fault of a configuration, in the order of its fields
abbrev pub config_fault : LfuConfig → Option Reason
config_fault c = or_else (ratios_fault c.window_capacity_ratio c.protected_capacity_ratio)
    (buckets_fault c.cmsketch_buckets c.cmsketch_hashes)

-- the window keeps its longest tail within its limit; what stands before that goes to the end of probation
abbrev pub settle_window : LfuView → LfuView
settle_window v = record v {
  window = fit (λ i. i.weight) v.window_limit v.window;
  probation = v.probation ++ over (λ i. i.weight) v.window_limit v.window;
}

-- and so does protected
abbrev pub settle_protected : LfuView → LfuView
settle_protected v = record v {
  probation = v.probation ++ over (λ i. i.weight) v.protected_limit v.protected;
  protected = fit (λ i. i.weight) v.protected_limit v.protected;
}

-- a hash was seen once more
abbrev pub seen : LfuView → ℕ → LfuView
seen v hash = record v { sketch = counting hash v.sketch }

-- an item of window or of protected goes to the end of its list; one of probation goes to the end of
-- protected, which then settles
abbrev pub used : LfuView → ℕ → Option Item → Option Item → Option Item → LfuView
used v id (Some i) _ _ = seen (record v { window = remove_id id v.window ++ i ∷ [] }) i.hash
used v id None (Some i) _ = settle_protected
    (seen (record v { probation = remove_id id v.probation; protected = v.protected ++ i ∷ [] }) i.hash)
used v id None None (Some i) = seen (record v { protected = remove_id id v.protected ++ i ∷ [] }) i.hash
used v id None None None = v

-- The victim: where window and probation both have a first item, that of window if it was seen strictly
-- less often, else that of probation; the first of the one that has one; else the first of protected.
abbrev pub first_of : LfuView → List Item → List Item → List Item → Option (Item × LfuView)
first_of v (w ∷ ws) (p ∷ ps) _ =
    if nat_lt (estimate_of v.sketch w.hash) (estimate_of v.sketch p.hash)
    then Some (w, record v { window = ws })
    else Some (p, record v { probation = ps })
first_of v (w ∷ ws) [] _ = Some (w, record v { window = ws })
first_of v [] (p ∷ ps) _ = Some (p, record v { probation = ps })
first_of v [] [] (q ∷ qs) = Some (q, record v { protected = qs })
first_of v [] [] [] = None

-- the limits of window and protected, and the ratios that they come of
pub record Limits : Type 0 where
  pub window_limit : ℕ
  pub protected_limit : ℕ
  pub window_ratio : Ratio
  pub protected_ratio : Ratio

abbrev pub limits_by : ℕ → Ratio → Ratio → Limits
limits_by capacity window protected = record {
  window_limit = limit_of capacity window;
  protected_limit = limit_of capacity protected;
  window_ratio = window;
  protected_ratio = protected;
}

-- the limits that come of a capacity and a configuration, of a new policy and of one that is updated
abbrev pub limits_of : ℕ → LfuConfig → Limits
limits_of capacity c = limits_by capacity c.window_capacity_ratio c.protected_capacity_ratio

abbrev pub with_limits : LfuView → Limits → LfuView
with_limits v l = record v {
  window_limit = l.window_limit;
  protected_limit = l.protected_limit;
  window_ratio = l.window_ratio;
  protected_ratio = l.protected_ratio;
}

-- the ratios of the configuration that is given, or else those in use; the sketch stays as it was made
abbrev pub updated : LfuView → ℕ → Option LfuConfig → LfuView
updated v capacity None = with_limits v (limits_by capacity v.window_ratio v.protected_ratio)
updated v capacity (Some c) = with_limits v (limits_of capacity c)

-- nothing is in
abbrev pub no_items : Limits → Sketch → LfuView
no_items l sketch = record {
  window = [];
  probation = [];
  protected = [];
  window_limit = l.window_limit;
  protected_limit = l.protected_limit;
  window_ratio = l.window_ratio;
  protected_ratio = l.protected_ratio;
  sketch = sketch;
}

-- Each push and each acquire counts the hash. Nothing is pinned, a release changes nothing, and `clear`
-- leaves the sketch.
abbrev pub lfu : Policy LfuView LfuConfig
lfu = record {
  fault = config_fault;
  takes = λ _ _. true;
  opening = λ capacity c. no_items (limits_of capacity c) (new_sketch c.cmsketch_hashes c.cmsketch_buckets);
  order = λ v. v.window ++ (v.probation ++ v.protected);
  pinned = λ v. [];
  push = λ v i. settle_window (seen (record v { window = v.window ++ i ∷ [] }) i.hash);
  pop = λ v. first_of v v.window v.probation v.protected;
  remove = λ v id.
      if is_some (find_id id v.window) then record v { window = remove_id id v.window }
      else if is_some (find_id id v.probation) then record v { probation = remove_id id v.probation }
      else record v { protected = remove_id id v.protected };
  acquire = λ v id. used v id (find_id id v.window) (find_id id v.probation) (find_id id v.protected);
  release = λ v id. v;
  update = updated;
  clear = λ v. record v { window = []; probation = []; protected = [] };
  looks = λ v. 0;
  credit = λ v. 0;
}
