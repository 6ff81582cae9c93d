use Rattle.std.proofs.Common.{◌≡◌, ◌≤◌, length}
use Rattle.foyer_policy.specs.Lists.{list_at, AreLists}
use Rattle.foyer_policy.proofs.sieve.SieveEviction.clear.Given as goal

-- what each pop says of the lists is also true of those at the beginning, and no room goes
abbrev pub invariant-loop : goal.invariant-loop
invariant-loop l = record {
  apart : AreLists 1 l.self-inside.queue.lists → AreLists 1 l.initial.self-inside.queue.lists;
  room : l.initial.self-inside.queue.room ≤ l.self-inside.queue.room;
  span : l.self-inside.queue.span ≡ l.initial.self-inside.queue.span;
}

abbrev pub decreases-loop : goal.decreases-loop
decreases-loop l = length (list_at l.self-inside.queue.lists 0)
