use Rattle.foyer_core.specs.Probing.{tag_in, IsFull}
use Rattle.foyer_core.proofs.tags.buckets.Buckets.first_empty.Given as goal

abbrev pub invariant-loop-bucket : goal.invariant-loop-bucket
invariant-loop-bucket l = IsFull (tag_in l.self) l.fn.from l.bucket
