use Rattle.std.proofs.Common.{Some}
use Rattle.foyer_core.specs.Indexer.{same_key}
use Rattle.foyer_core.proofs.GaveLemmas.{alike_key}
use Rattle.foyer_core.proofs.Keys.{update_alike, same_key_laws}
use Rattle.foyer_core.proofs.indexer.insert_clone.Goals as goal

pub returns-clause-view : goal.returns-clause-view
returns-clause-view g c = update_alike (same_key g.K.PartialEq.eq)
    (same_key_laws g.K.PartialEq.eq g.met.K.Eq.laws) (g.I.Indexer.view c.args.index.now)
    (g.I.Indexer.view c.insert.new.self) (c.args.hash, c.in-Ok.own) (c.args.hash, c.args.key.now) (Some c.args.id)
    (alike_key g.K.PartialEq.eq c.args.hash c.in-Ok.own c.args.key.now
    (c.requires.clones c.args.key.now c.in-Ok.own c.in-Ok.ensures.cases)) c.in_ok-insert.ensures.view
