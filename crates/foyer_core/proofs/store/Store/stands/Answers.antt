use Rattle.std.proofs.Common.{sym, arith}
use Rattle.foyer_core.specs.Stores.{meaning_of}
use Rattle.foyer_core.proofs.Holdings.{holding}
use Rattle.foyer_core.proofs.AdmitLemmas.{new_free}
use Rattle.foyer_core.proofs.store.Store.stands.Goals as goal

pub returns-then-id-self : goal.returns-then-id-self
returns-then-id-self g c =
    sym (new_free (meaning_of c.args.self.now) g.met.K.Eq.laws g.met.E.Eviction.lawful (holding c.args.self.now)
    c.args.id (omega arith))
