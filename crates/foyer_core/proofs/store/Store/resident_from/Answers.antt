use Rattle.std.proofs.Common.{arith}
use Rattle.foyer_core.specs.Stores.{meaning_of}
use Rattle.foyer_core.proofs.Holdings.{holding}
use Rattle.foyer_core.proofs.Named.{none_weaker}
use Rattle.foyer_core.proofs.Naming.{none_resident}
use Rattle.foyer_core.proofs.store.Store.resident_from.Goals as goal

pub returns-in-None-clause-none : goal.returns-in-None-clause-none
returns-in-None-clause-none g c =
    let s = c.args.self.now in
    none_weaker _ _ c.resident_between-in-None.result
    (λ none. none_resident (meaning_of s) (holding s) g.met.K.Eq.laws g.met.E.Eviction.lawful
    (λ n x within there. none n x (omega arith) (rw c.count-slots.ensures within) there))
    c.resident_between-in-None.ensures.none
