use Rattle.std.proofs.Common.{◌≡◌, ◌+◌, ap, arith}
use Rattle.foyer_core.specs.Values.{Kept}
use Rattle.foyer_core.specs.Steps.{RefusesInsert, newcomer}
use Rattle.foyer_core.specs.State.{at_moment}
use Rattle.foyer_core.specs.Stores.{meaning_of, state_of}
use Rattle.foyer_core.proofs.AdmitLemmas.{new_out}
use Rattle.foyer_core.proofs.Holdings.{holding}
use Rattle.foyer_core.proofs.Moments.{refuses_at}
use Rattle.foyer_core.proofs.Told.{goes_start}
use Rattle.foyer_core.proofs.store.Store.emplace.Goals as goal

pub returns-in-Some-clause-inserted : goal.returns-in-Some-clause-inserted
returns-in-Some-clause-inserted g c =
    let s = c.args.self.now in
    rw c.new.ensures
    (goes_start c.args.leaves.now.items
    (λ ls. RefusesInsert (at_moment c.args.now (meaning_of s)) (state_of s)
    (newcomer (state_of s) c.args.kept (1 + c.args.further.count)) c.in-Some.reason ls (state_of s))
    (refuses_at (meaning_of s) c.args.now (state_of s) (newcomer (state_of s) c.args.kept (1 + c.args.further.count)) c.in-Some.reason
    c.in-Some.ensures.some))

pub emplace_slot-requires-clause-out : goal.emplace_slot-requires-clause-out
emplace_slot-requires-clause-out g c κs within =
    let id : c.outside-slot.result.id ≡ c.args.self.now.next =
    ap (λ (x : Kept g.row.K.Denot g.row.V.Denot g.row.P.Denot). x.id) c.outside-slot.ensures in
    new_out (meaning_of c.args.self.now) g.met.K.Eq.laws g.met.E.Eviction.lawful (holding c.args.self.now)
    c.outside-slot.result.id (omega arith)
