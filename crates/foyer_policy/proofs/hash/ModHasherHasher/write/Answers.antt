use Rattle.foyer_policy.proofs.HashLemmas.{with_bytes-more, with_bytes-spent}
use Rattle.foyer_policy.proofs.hash.ModHasherHasher.write.Goals as goal

pub returns-then-self-eq0 : goal.returns-then-self-eq0
returns-then-self-eq0 c =
    with_bytes-spent _ _ _ _ _ c.if-self-eq0.true c.loop-byte.invariant

pub loop-byte-preserved : goal.loop-byte-preserved
loop-byte-preserved c =
    with_bytes-more _ _ _ _ _ c.loop-byte-test.true c.loop-byte.invariant
