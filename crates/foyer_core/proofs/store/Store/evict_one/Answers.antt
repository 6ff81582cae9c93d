use Rattle.std.proofs.Common.{◌≡◌, None, sym}
use Rattle.foyer_policy.specs.Moments.{first_due, is_due}
use Rattle.foyer_core.specs.Stores.{meaning_of, state_of}
use Rattle.foyer_core.proofs.Moments.{due_leaves, none_at, ones_at}
use Rattle.foyer_core.proofs.store.Store.evict_one.Goals as goal

pub returns-in-Some-clause-some : goal.returns-in-Some-clause-some
returns-in-Some-clause-some g c =
    let s = c.args.self.now in
    due_leaves (meaning_of s) c.args.now (state_of s) (g.E.Eviction.at s.eviction c.in-Some.place)
    c.in-Some.ensures.there c.in-Some.ensures.first c.leave_due.result (state_of c.leave_due.new.self)
    c.leave_due.ensures.taken

pub returns-clause-some : goal.returns-clause-some
returns-clause-some g c =
    let s = c.args.self.now in
    let none : first_due (is_due c.args.now) g.E.Eviction.model (g.E.Eviction.view s.eviction) ≡ None =
    sym c.in_default.ensures.first in
    ones_at (meaning_of s) c.args.now (state_of s) none c.pop_one.result (state_of c.pop_one.new.self)
    c.pop_one.ensures.some

pub returns-clause-none : goal.returns-clause-none
returns-clause-none g c =
    let s = c.args.self.now in
    let none : first_due (is_due c.args.now) g.E.Eviction.model (g.E.Eviction.view s.eviction) ≡ None =
    sym c.in_default.ensures.first in
    none_at (meaning_of s) c.args.now (state_of s) none c.pop_one.result (state_of c.pop_one.new.self)
    c.pop_one.ensures.none
