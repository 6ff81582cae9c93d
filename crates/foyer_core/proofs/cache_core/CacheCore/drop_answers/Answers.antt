use Rattle.std.proofs.Common.{ap, subst, sym}
use Rattle.foyer_core.specs.Cores.{core_of}
use Rattle.foyer_core.specs.Dropping.{among}
use Rattle.foyer_core.specs.Laws.{HandlesStay}
use Rattle.foyer_core.specs.Waited.{entries_got}
use Rattle.foyer_core.proofs.Dropping.{none_stay}
use Rattle.foyer_core.proofs.cache_core.CacheCore.drop_answers.Goals as goal

pub returns-in-Entries-clause-stay : goal.returns-in-Entries-clause-stay
returns-in-Entries-clause-stay g c =
    let old = core_of c.args.self.now in
    subst (λ o. HandlesStay (among old (entries_got o)) old (core_of c.drop_entries.new.self)) (sym c.in-Entries.is)
    c.drop_entries.ensures.stay

pub returns-in-None-clause-stay : goal.returns-in-None-clause-stay
returns-in-None-clause-stay g c = none_stay (entries_got c.args.answers.outcome) (core_of c.args.self.now)
    (ap entries_got c.in-None.is)

pub returns-in-Fault-clause-stay : goal.returns-in-Fault-clause-stay
returns-in-Fault-clause-stay g c = none_stay (entries_got c.args.answers.outcome) (core_of c.args.self.now)
    (ap entries_got c.in-Fault.is)
