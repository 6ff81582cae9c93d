use Rattle.std.proofs.Common.{ℕ, Some, None}
use Rattle.std.specs.Prelude.{option_map}
use Rattle.foyer_policy.specs.declared.error.Reason.TheVariants.{Fetch, TaskCancelled}
use Rattle.foyer_core.specs.CoreFetches.{open_in}
use Rattle.foyer_core.specs.Cores.{core_of, fetches_of, hashes_of, meaning_of_core}
use Rattle.foyer_core.specs.Inflight.{asked}
use Rattle.foyer_core.specs.Waited.{ending_of}
use Rattle.foyer_session.proofs.EndLemmas.{ends_answers, ends_none}
use Rattle.foyer_session.proofs.session.fetches.end_in.Goals as goal

pub returns-in-Some-clause-answering : goal.returns-in-Some-clause-answering
returns-in-Some-clause-answering g c =
    let s = c.args.core.now in
    let t = c.fail.new.self in
    let k : ℕ × g.row.K.Denot = (hashes_of s c.args.key.now, c.args.key.now) in
    ends_answers (meaning_of_core s) (core_of s) (fetches_of s) (core_of t) (fetches_of t) k (ending_of c.fail.result)
    (asked (Some c.args.fetch) (open_in (fetches_of s) k)) (Fetch c.in-Some.fault) c.fail.ensures.ended

pub returns-in-None-clause-answering : goal.returns-in-None-clause-answering
returns-in-None-clause-answering g c =
    let s = c.args.core.now in
    let t = c.cancel.new.self in
    let k : ℕ × g.row.K.Denot = (hashes_of s c.args.key.now, c.args.key.now) in
    ends_answers (meaning_of_core s) (core_of s) (fetches_of s) (core_of t) (fetches_of t) k
    (ending_of c.cancel.result) (asked (Some c.args.fetch) (open_in (fetches_of s) k)) TaskCancelled
    c.cancel.ensures.ended

pub returns-in-Some-clause-nothing : goal.returns-in-Some-clause-nothing
returns-in-Some-clause-nothing g c =
    let s = c.args.core.now in
    let t = c.fail.new.self in
    let k : ℕ × g.row.K.Denot = (hashes_of s c.args.key.now, c.args.key.now) in
    ends_none g.K.PartialEq.eq k (ending_of c.fail.result) (asked (Some c.args.fetch) (open_in (fetches_of s) k))
    (Fetch c.in-Some.fault) (fetches_of s) (fetches_of t) c.fail.ensures.ended

pub returns-in-None-clause-nothing : goal.returns-in-None-clause-nothing
returns-in-None-clause-nothing g c =
    let s = c.args.core.now in
    let t = c.cancel.new.self in
    let k : ℕ × g.row.K.Denot = (hashes_of s c.args.key.now, c.args.key.now) in
    ends_none g.K.PartialEq.eq k (ending_of c.cancel.result) (asked (Some c.args.fetch) (open_in (fetches_of s) k))
    TaskCancelled (fetches_of s) (fetches_of t) c.cancel.ensures.ended
