use Rattle.std.proofs.Common.{◌≡◌, refl, subst}
use Rattle.foyer_core.specs.NoEntry.{Puts}
use Rattle.foyer_core.specs.Shards.{meaning_of, state_of}
use Rattle.foyer_core.specs.Steps.{newcomer}
use Rattle.foyer_replay.specs.Replay.{record_for}
use Rattle.foyer_replay.proofs.IdleLemmas.{puts_none, refused_put_none}
use Rattle.foyer_replay.proofs.serving.store.Goals as goal

pub returns-in-Ok-put-clause-stored : goal.returns-in-Ok-put-clause-stored
returns-in-Ok-put-clause-stored g c =
    let s = state_of c.args.shard.now in
    let r = c.args.request.now in
    let went = c.in-Ok-put.ensures.puts in
    let is : c.in-Ok.share ≡ record_for r c.args.hash =
    rw (c.with_expiry.ensures, c.default.ensures, c.weigh.ensures) at c.in-Ok.ensures.made in
    record {
      leaves = went.more;
      last = c.in-Ok-put._left;
      puts = subst (λ d. Puts (meaning_of c.args.shard.now) r.time s (newcomer s d 1) went.more c.in-Ok-put._left
          (state_of c.put.new.self)) is went.so;
    }

pub returns-in-Ok-put-clause-idle : goal.returns-in-Ok-put-clause-idle
returns-in-Ok-put-clause-idle g c =
    let s = state_of c.args.shard.now in
    puts_none (meaning_of c.args.shard.now) c.args.request.now.time s (newcomer s c.in-Ok.share 1)
    c.in-Ok-put.ensures.puts.more c.in-Ok-put._left (state_of c.put.new.self) refl c.in-Ok-put.ensures.puts.so

pub returns-in-Err-clause-idle : goal.returns-in-Err-clause-idle
returns-in-Err-clause-idle g c =
    let s = state_of c.args.shard.now in
    refused_put_none (meaning_of c.args.shard.now) c.args.request.now.time s (newcomer s c.in-Ok.share 1) c.in-Err.error
    c.in-Err.ensures.puts.more (state_of c.put.new.self) c.in-Err.ensures.puts.so
