use Rattle.std.proofs.Common.{◌≡◌, ◌≢◌, ℕ, length, ◌++◌}
use Rattle.foyer_policy.specs.Items.{weight_of, fit, over}
use Rattle.foyer_policy.specs.LfuLists.{items_in}
use Rattle.foyer_policy.specs.Lists.{list_at, find}
use Rattle.foyer_policy.proofs.lfu.segments.settle.Given as goal

-- what is over and what fits stay, where the items that went are counted in
abbrev pub invariant-loop-left : goal.invariant-loop-left
invariant-loop-left l =
    let now = l.lists.lists in
    let old = l.fn.lists.lists in
    record {
      weight : l.left ≡ weight_of (items_in now l.from);
      probation : items_in now 1 ++ over (λ i. i.weight) l.limit (items_in now l.from) ≡ items_in old 1
          ++ over (λ i. i.weight) l.limit (items_in old l.from);
      from : fit (λ i. i.weight) l.limit (items_in now l.from) ≡ fit (λ i. i.weight) l.limit (items_in old l.from);
      others : (k : ℕ) → k ≢ l.from → k ≢ 1 → items_in now k ≡ items_in old k;
      places : (q : ℕ) → find q now ≡ find q old;
      room : l.lists.room ≡ l.fn.lists.room;
      span : l.lists.span ≡ l.fn.lists.span;
    }

abbrev pub decreases-loop-left : goal.decreases-loop-left
decreases-loop-left l = length (list_at l.lists.lists l.from)
