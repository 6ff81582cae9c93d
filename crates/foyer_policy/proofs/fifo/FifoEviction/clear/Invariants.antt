use Rattle.std.proofs.Common.{◌≡◌, ◌≤◌, length, map}
use Rattle.foyer_policy.specs.Lists.{list_at}
use Rattle.foyer_policy.specs.Items.{HasIdsOnce}
use Rattle.foyer_policy.proofs.fifo.FifoEviction.clear.Given as goal

abbrev pub invariant-loop-self : goal.invariant-loop-self
invariant-loop-self l = record {
  once : HasIdsOnce (map (λ e. e.1) (list_at l.self-inside.queue.lists 0));
  room : l.initial.self-inside.queue.room ≤ l.self-inside.queue.room;
  span : l.self-inside.queue.span ≡ l.initial.self-inside.queue.span;
}

abbrev pub decreases-loop-self : goal.decreases-loop-self
decreases-loop-self l = length (list_at l.self-inside.queue.lists 0)
