use Rattle.std.proofs.Common.{◌≡◌, ℕ, ◌<◌, []}
use Rattle.foyer_policy.specs.DatedLists.{dates_at}
use Rattle.foyer_policy.proofs.dated_lists.building.count_all.Given as goal

-- where the count is 0, the lists so far have no dates
abbrev pub invariant-loop-list : goal.invariant-loop-list
invariant-loop-list g l =
    l.count ≡ 0 → (k : ℕ) → k < l.list → dates_at g.T.HasItem.item_of l.lists.lists k ≡ []
