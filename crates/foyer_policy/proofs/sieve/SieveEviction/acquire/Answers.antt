use Rattle.std.proofs.Common.{◌≡◌, Some, IsSome, true, refl, rules, ap}
use Rattle.std.specs.Option.{option_map}
use Rattle.foyer_policy.specs.Lists.{find}
use Rattle.foyer_policy.specs.SieveQueue.{Node, item_at}
use Rattle.foyer_policy.proofs.ListsLemmas.{is_in}
use Rattle.foyer_policy.proofs.SieveNodes.{item_of}
use Rattle.foyer_policy.proofs.SieveCalls.{same_view, set-places, set-hand, set-there, set-once, set-queue}
use Rattle.foyer_policy.proofs.sieve.SieveEviction.acquire.Goals as goal

pub invariant_of-self : goal.invariant_of-self
invariant_of-self c =
    let ls = c.self.inside.queue.lists in
    let there : IsSome (find c.args.place ls) = search rules in
    let at = is_in c.args.place ls there in
    let v = at.value in
    let w : Node = record { item = v.item; state = record { visited = true } } in
    rw (c.set_state.ensures.lists v at.found) (record {
      once = set-once ls c.set_state.ensures.apart c.args.place v w at.found refl c.self.invariant.once;
      there = set-there ls c.set_state.ensures.apart c.args.place v w at.found refl c.self.inside.hand
          c.self.invariant.there;
    })

pub returns-clause-view : goal.returns-clause-view
returns-clause-view c =
    let ls = c.self.inside.queue.lists in
    let there : IsSome (find c.args.place ls) = search rules in
    let at = is_in c.args.place ls there in
    let v = at.value in
    let w : Node = record { item = v.item; state = record { visited = true } } in
    let item : item_at ls c.args.place ≡ Some v.item = ap (option_map item_of) at.found in
    rw (← c.self.view_is, item, c.set_state.ensures.lists v at.found) (same_view _ _ _ _
    (set-queue ls c.set_state.ensures.apart c.self.invariant.once c.args.place v at.found)
    (set-hand ls c.set_state.ensures.apart c.args.place v w at.found refl c.self.inside.hand))

pub returns-clause-places : goal.returns-clause-places
returns-clause-places c =
    let ls = c.self.inside.queue.lists in
    let there : IsSome (find c.args.place ls) = search rules in
    let at = is_in c.args.place ls there in
    let v = at.value in
    let w : Node = record { item = v.item; state = record { visited = true } } in
    rw (← c.self.view_is, c.set_state.ensures.lists v at.found) (set-places ls c.set_state.ensures.apart c.args.place v w at.found refl)
