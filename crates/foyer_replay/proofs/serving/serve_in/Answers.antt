use Rattle.std.proofs.Common.{Err, Ok, subst, sym}
use Rattle.foyer_core.specs.Shards.{meaning_of, state_of}
use Rattle.foyer_replay.specs.Replay.{ServesAs}
use Rattle.foyer_replay.specs.declared.request.Operation.{Operation}
use Rattle.foyer_replay.specs.declared.request.Outcome.TheVariants.{Miss}
use Rattle.foyer_replay.proofs.IdleLemmas.{deletes_none, touches_none}
use Rattle.foyer_replay.proofs.serving.serve_in.Goals as goal

pub returns-in-Ok-true-clause-idle : goal.returns-in-Ok-true-clause-idle
returns-in-Ok-true-clause-idle g c =
    touches_none (meaning_of c.args.shard.now) c.args.request.now.time (state_of c.args.shard.now)
    (c.args.hash, c.args.request.now.key) (Ok c.in-Ok-true.field-0) (state_of c.touch.new.self)
    c.in-Ok-true.ensures.touches

pub returns-in-Err-clause-idle : goal.returns-in-Err-clause-idle
returns-in-Err-clause-idle g c =
    touches_none (meaning_of c.args.shard.now) c.args.request.now.time (state_of c.args.shard.now)
    (c.args.hash, c.args.request.now.key) (Err c.in-Err.error) (state_of c.touch.new.self) c.in-Err.ensures.touches

pub returns-in-Ok-clause-served : goal.returns-in-Ok-clause-served
returns-in-Ok-clause-served g c =
    subst (λ (op : Operation). ServesAs (meaning_of c.args.shard.now) op Miss c.args.request.now c.args.hash
    (state_of c.args.shard.now) (state_of c.store.new.shard)) (sym c.in-Get.is)
    (state_of c.touch.new.self, rw c.in-Ok-false.field-0-test at c.in-Ok-false.ensures.touches, c.in-Ok.ensures.stored)

pub returns-in-Ok-clause-idle : goal.returns-in-Ok-clause-idle
returns-in-Ok-clause-idle g c = λ none. c.in-Ok.ensures.idle
    (touches_none (meaning_of c.args.shard.now) c.args.request.now.time (state_of c.args.shard.now)
    (c.args.hash, c.args.request.now.key) (Ok c.in-Ok-false.field-0) (state_of c.touch.new.self)
    c.in-Ok-false.ensures.touches none)

pub returns-in-Err-store-clause-idle : goal.returns-in-Err-store-clause-idle
returns-in-Err-store-clause-idle g c = λ none. c.in-Err-store.ensures.idle
    (touches_none (meaning_of c.args.shard.now) c.args.request.now.time (state_of c.args.shard.now)
    (c.args.hash, c.args.request.now.key) (Ok c.in-Ok-false.field-0) (state_of c.touch.new.self)
    c.in-Ok-false.ensures.touches none)

pub returns-in-Ok-delete-clause-idle : goal.returns-in-Ok-delete-clause-idle
returns-in-Ok-delete-clause-idle g c =
    deletes_none (meaning_of c.args.shard.now) (state_of c.args.shard.now) (c.args.hash, c.args.request.now.key)
    (Ok c.in-Ok-delete._left) (state_of c.delete.new.self) c.in-Ok-delete.ensures.deletes

pub returns-in-Err-delete-clause-idle : goal.returns-in-Err-delete-clause-idle
returns-in-Err-delete-clause-idle g c =
    deletes_none (meaning_of c.args.shard.now) (state_of c.args.shard.now) (c.args.hash, c.args.request.now.key)
    (Err c.in-Err-delete.error) (state_of c.delete.new.self) c.in-Err-delete.ensures.deletes
