use Rattle.std.proofs.Common.{◌≡◌, take, sum_by, vec_len}
use Rattle.foyer_core.proofs.cache_core.in_turn.room_for.Given as goal

-- the count is that of the lists so far
abbrev pub invariant-loop-list : goal.invariant-loop-list
invariant-loop-list g l = l.count ≡ sum_by (λ list. vec_len list) (take l.list-index l.lists)
