use Rattle.std.proofs.Common.{ℕ, Some}
use Rattle.foyer_core.specs.CoreFetches.{open_in}
use Rattle.foyer_core.specs.Cores.{core_of, fetches_of, hashes_of, meaning_of_core}
use Rattle.foyer_core.specs.Inflight.{asked}
use Rattle.foyer_core.specs.State.{coming_in, at_moment}
use Rattle.foyer_core.specs.Waited.{ending_of}
use Rattle.foyer_session.proofs.EndLemmas.{completed_answers}
use Rattle.foyer_session.proofs.session.fetches.complete_in.Goals as goal

pub returns-clause-answering : goal.returns-clause-answering
returns-clause-answering g c =
    let s = c.args.core.now in
    let t = c.complete.new.self in
    let k : ℕ × g.row.K.Denot = (hashes_of s c.args.key.now, c.args.key.now) in
    completed_answers (at_moment c.args.now (meaning_of_core s)) (core_of s) (fetches_of s) (core_of t) (fetches_of t) k
    (ending_of c.complete.result)
    record {
      hash = hashes_of s;
      weighs = g.W.Weighter.weighs s.rules.weighter;
      admits = g.A.Filter.admits s.rules.filter;
      properties = λ p admitted. coming_in g.P.Properties.location_of g.P.Properties.with_phantom_of admitted p;
    }
    c.args.source c.args.target (asked (Some c.args.fetch) (open_in (fetches_of s) k)) c.complete.ensures.completed
