use Rattle.std.proofs.Common.{◌+◌, []}
use Rattle.foyer_core.specs.Values.{Incoming, incoming_of}
use Rattle.foyer_core.specs.Stores.{meaning_of, state_of}
use Rattle.foyer_core.specs.State.{at_moment}
use Rattle.foyer_core.specs.Steps.{RefusesInsert}
use Rattle.foyer_core.proofs.Moments.{refuses_at}
use Rattle.foyer_core.proofs.Told.{goes_start}
use Rattle.foyer_core.proofs.store.Store.emplace_new.Goals as goal

pub returns-in-Some-clause-inserted : goal.returns-in-Some-clause-inserted
returns-in-Some-clause-inserted g c =
    let s = c.args.self.now in
    let m = meaning_of s in
    let x = incoming_of c.args.slot in
    let inc : Incoming g.row.K.Denot g.row.V.Denot g.row.P.Denot =
    record x { handles = 1 + c.args.further.count } in
    let refuses : RefusesInsert m (state_of s) inc c.in-Some.reason [] (state_of s) = c.in-Some.ensures.some in
    rw c.new.ensures
    (goes_start c.args.leaves.now.items
    (λ ls. RefusesInsert (at_moment c.args.now m) (state_of s) inc c.in-Some.reason ls (state_of s))
    (refuses_at m c.args.now (state_of s) inc c.in-Some.reason refuses))
