-- w-TinyLFU over lists of items: which view the lists stand for.
use Rattle.std.specs.Prelude.{◌≡◌, ℕ, ◌<◌, ◌^◌, List, [], ◌∷◌, map, nat_lt, if◌then◌else◌}
use Rattle.foyer_policy.specs.Items.{weight_of, HasIdsOnce}
use Rattle.foyer_policy.specs.Lfu.{LfuView, lfu}
use Rattle.foyer_policy.specs.Lists.{list_at}
use Rattle.foyer_policy.specs.Sketch.{Sketch, estimate_of}
use Rattle.foyer_policy.specs.declared.types.Item.{Item}
use Rattle.foyer_policy.specs.declared.types.Ratio.{Ratio}

-- what a contract sees of an `Lfu`: the lists window, probation and protected, the room and the span, the limits with
-- the ratios in use, and the sketch
pub record LfuLists : Type 0 where
  pub lists : List (List (ℕ × Item))
  pub room : ℕ
  pub span : ℕ
  pub window_limit : ℕ
  pub protected_limit : ℕ
  pub window_ratio : Ratio
  pub protected_ratio : Ratio
  pub sketch : Sketch

-- the items of the list of this number
abbrev pub items_in : List (List (ℕ × Item)) → ℕ → List Item
items_in ls k = map (λ e. e.1) (list_at ls k)

-- the view of these lists
abbrev pub lfu_view : LfuLists → LfuView
lfu_view l = record {
  window = items_in l.lists 0;
  probation = items_in l.lists 1;
  protected = items_in l.lists 2;
  window_limit = l.window_limit;
  protected_limit = l.protected_limit;
  window_ratio = l.window_ratio;
  protected_ratio = l.protected_ratio;
  sketch = l.sketch;
}

-- the number of the list whose first item leaves next, where there is one
abbrev pub victim_list : Sketch → List Item → List Item → ℕ
victim_list s (w ∷ ws) (p ∷ ps) = if nat_lt (estimate_of s w.hash) (estimate_of s p.hash) then 0 else 1
victim_list s (w ∷ ws) [] = 0
victim_list s [] (p ∷ ps) = 1
victim_list s [] [] = 2

-- what holds of every `Lfu`, with the weights of its window and of its protected list
pub record IsLfu (v : LfuView) (window_weight protected_weight : ℕ) : Type 0 where
  pub once : HasIdsOnce (lfu.order v)
  pub fits : weight_of (lfu.order v) < 2 ^ 64
  pub window : window_weight ≡ weight_of v.window
  pub protected : protected_weight ≡ weight_of v.protected
  pub window_divides : 0 < v.window_ratio.den
  pub protected_divides : 0 < v.protected_ratio.den
