use Rattle.std.proofs.Common.{refl, [], ap, sym, ◌∙◌}
use Rattle.foyer_policy.specs.Lists.{list_at}
use Rattle.foyer_policy.specs.SieveQueue.{entries}
use Rattle.foyer_policy.proofs.SieveCalls.{is_none, same_view, popped-empty, cleared-view}
use Rattle.foyer_policy.proofs.sieve.SieveEviction.clear.Goals as goal

pub returns-clause-view : goal.returns-clause-view
returns-clause-view c =
    let sound = c.loop.invariant.apart c.pop_front.ensures.apart in
    let none = popped-empty c.loop.self-inside.queue.lists c.pop_front.new.self.lists c.pop_front.ensures.apart
    c.pop_front.ensures.lists
    (sym c.pop_front.ensures.value ∙ is_none c.pop_front.result (sym c.is_some.ensures ∙ c.loop-test.false)) in
    same_view (entries (list_at c.pop_front.new.self.lists 0)) [] _ _ (ap (λ l. entries l) none) (ap (λ x. x) refl)
    ∙ rw (← c.self.view_is) (cleared-view c.self.inside.queue.lists sound c.self.inside.hand c.self.invariant.there)
