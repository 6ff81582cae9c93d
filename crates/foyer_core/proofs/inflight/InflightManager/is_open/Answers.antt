use Rattle.foyer_core.proofs.InflightLemmas.{alike_at}
use Rattle.foyer_core.proofs.inflight.InflightManager.is_open.Goals as goal

pub returns-in-Some-clause-equal_keys : goal.returns-in-Some-clause-equal_keys
returns-in-Some-clause-equal_keys g c other same =
    alike_at g.met.K.Eq.laws c.args.self.now c.args.hash c.args.key.now other same

pub returns-in-None-clause-equal_keys : goal.returns-in-None-clause-equal_keys
returns-in-None-clause-equal_keys g c other same =
    alike_at g.met.K.Eq.laws c.args.self.now c.args.hash c.args.key.now other same
