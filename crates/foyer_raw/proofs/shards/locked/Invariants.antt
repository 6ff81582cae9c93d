use Rattle.std.proofs.Common.{◌≡◌, length, vec_len}
use Rattle.foyer_raw.proofs.shards.locked.Given as goal

-- there is a lock for each shard so far
abbrev pub invariant-loop-shard : goal.invariant-loop-shard
invariant-loop-shard g l = vec_len l.all ≡ length l.yielded
