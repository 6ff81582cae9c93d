use Rattle.std.proofs.Common.{map, ap, ◌∙◌}
use Rattle.foyer_policy.specs.Lists.{list_at, drop_place}
use Rattle.foyer_policy.specs.SieveQueue.{entries, hand_id, item_at}
use Rattle.foyer_policy.proofs.SieveCalls.{same_view, out-places, out-member, out-queue, out-once, out-hand, out-there}
use Rattle.foyer_policy.proofs.sieve.SieveEviction.remove.Goals as goal

pub invariant_of-self : goal.invariant_of-self
invariant_of-self c =
    let ls = c.self.inside.queue.lists in
    let sound = c.remove.ensures.apart in
    rw (c.remove.ensures.lists, c.hand_beside-self-inside.ensures) record {
      once = out-once ls sound c.self.invariant.once c.args.place c.remove.result c.remove.ensures.value;
      there = out-there ls sound c.self.invariant.once c.args.place c.remove.result c.remove.ensures.value
          c.self.inside.hand c.self.invariant.there;
    }

pub returns-clause-member : goal.returns-clause-member
returns-clause-member c = rw (← c.self.view_is, c.whole.ensures)
    (out-member c.self.inside.queue.lists c.remove.ensures.apart c.self.invariant.once c.args.place c.remove.result
    c.remove.ensures.value)

pub returns-clause-view : goal.returns-clause-view
returns-clause-view c =
    let ls = c.self.inside.queue.lists in
    let sound = c.remove.ensures.apart in
    let once = c.self.invariant.once in
    rw (← c.self.view_is, c.whole.ensures) (same_view _ _ _ _
    (ap (λ l. entries (list_at l 0)) c.remove.ensures.lists
    ∙ out-queue ls sound once c.args.place c.remove.result c.remove.ensures.value)
    (ap (λ l. hand_id l c.hand_beside-self-inside.result) c.remove.ensures.lists
    ∙ ap (hand_id (map (drop_place c.args.place) ls)) c.hand_beside-self-inside.ensures
    ∙ out-hand ls sound once c.args.place c.remove.result c.remove.ensures.value c.self.inside.hand
    c.self.invariant.there))

pub returns-clause-places : goal.returns-clause-places
returns-clause-places c = rw (← c.self.view_is, c.whole.ensures) (λ q. ap (λ l. item_at l q) c.remove.ensures.lists
    ∙ out-places c.self.inside.queue.lists c.remove.ensures.apart c.self.invariant.once c.args.place c.remove.result
    c.remove.ensures.value q)
