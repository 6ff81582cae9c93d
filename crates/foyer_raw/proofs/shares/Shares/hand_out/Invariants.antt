use Rattle.std.proofs.Common.{vec_len}
use Rattle.foyer_raw.proofs.shares.Shares.hand_out.Given as goal

abbrev pub decreases-loop-core : goal.decreases-loop-core
decreases-loop-core g l = vec_len l.entries
