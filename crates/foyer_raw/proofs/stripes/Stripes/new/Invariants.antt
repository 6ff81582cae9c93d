use Rattle.std.proofs.Common.{◌≡◌, vec_len}
use Rattle.foyer_raw.proofs.stripes.Stripes.new.Given as goal

-- there is a stripe for each shard so far
abbrev pub invariant-loop-shard : goal.invariant-loop-shard
invariant-loop-shard g l = vec_len l.all ≡ l._shard
