use Rattle.std.proofs.Common.{refl}
use Rattle.foyer_trace.proofs.runner.Runner.serve.Goals as goal

pub returns-in_ok-replay-in-Fifo-clause-counted : goal.returns-in_ok-replay-in-Fifo-clause-counted
returns-in_ok-replay-in-Fifo-clause-counted c =
    rw c.in-Fifo.is (c.replay.new.core, refl, c.in_ok-replay-in-Fifo.ensures.counted)

pub returns-in_ok-replay-in-Lru-clause-counted : goal.returns-in_ok-replay-in-Lru-clause-counted
returns-in_ok-replay-in-Lru-clause-counted c =
    rw c.in-Lru.is (c.replay-in-Lru.new.core, refl, c.in_ok-replay-in-Lru.ensures.counted)

pub returns-in_ok-replay-in-Lfu-clause-counted : goal.returns-in_ok-replay-in-Lfu-clause-counted
returns-in_ok-replay-in-Lfu-clause-counted c =
    rw c.in-Lfu.is (c.replay-in-Lfu.new.core, refl, c.in_ok-replay-in-Lfu.ensures.counted)

pub returns-in_ok-replay-in-S3Fifo-clause-counted : goal.returns-in_ok-replay-in-S3Fifo-clause-counted
returns-in_ok-replay-in-S3Fifo-clause-counted c =
    rw c.in-S3Fifo.is (c.replay-in-S3Fifo.new.core, refl, c.in_ok-replay-in-S3Fifo.ensures.counted)

pub returns-in_ok-replay-in-Sieve-clause-counted : goal.returns-in_ok-replay-in-Sieve-clause-counted
returns-in_ok-replay-in-Sieve-clause-counted c =
    rw c.in-Sieve.is (c.replay-in-Sieve.new.core, refl, c.in_ok-replay-in-Sieve.ensures.counted)
