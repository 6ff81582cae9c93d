use Rattle.std.proofs.Common.{arith, ◌≡◌, Some, sym, ◌∙◌, ap, add-one, lit<}
use Rattle.std.specs.Option.{option_map}
use Rattle.std.proofs.lemmas.List.{length-map}
use Rattle.foyer_policy.specs.Lists.{list_at, find, AreLists}
use Rattle.foyer_policy.specs.Policy.{without}
use Rattle.foyer_policy.specs.SieveQueue.{entry, entries, item_at}
use Rattle.foyer_policy.proofs.ListsLemmas.{length-list_at, find-mid, drop-here}
use Rattle.foyer_policy.proofs.FoundLemmas.{AreLists-drop}
use Rattle.foyer_policy.proofs.NodeLemmas.{placed-out}
use Rattle.foyer_policy.proofs.SieveNodes.{item_of, clear_node, somewhere, stand-at, stand-found, stands_on, ends, looked, looked-items, looked-placed, looked-bits, sound_then, found_then, first-there, once-flat, bits-le}
use Rattle.foyer_policy.proofs.sieve.take_victim.Goals as goal

pub take_bit-requires-clause-few : goal.take_bit-requires-clause-few
take_bit-requires-clause-few c =
    let l = list_at c.args.queue.now.lists 0 in
    omega (
      arith,
      c.loop-queue.invariant.paid,
      bits-le (entries l),
      length-map l entry,
      length-list_at c.args.queue.now.lists 0,
      c.requires.small,
    )

pub next_round-at-requires : goal.next_round-at-requires
next_round-at-requires c =
    let i = c.loop-queue.invariant in
    let w = somewhere c.loop-queue.queue.lists i.apart c.loop-queue.at i.there in
    found_then c.loop-queue.queue.lists c.take_bit.new.queue.lists i.apart c.loop-queue.at c.take_bit.result
    c.take_bit.ensures.bit c.take_bit.ensures.cleared w.before w.node w.behind w.is

pub loop-queue-smaller : goal.loop-queue-smaller
loop-queue-smaller c =
    let w = somewhere c.loop-queue.queue.lists c.loop-queue.invariant.apart c.loop-queue.at
    c.loop-queue.invariant.there in
    omega (
      arith,
      looked-bits c.loop-queue.queue.lists c.take_bit.new.queue.lists c.loop-queue.invariant.apart
          c.loop-queue.at c.take_bit.result c.take_bit.ensures.bit c.take_bit.ensures.cleared w.before w.node w.behind
          w.is c.loop-queue-test.true,
    )

pub loop-queue-preserved : goal.loop-queue-preserved
loop-queue-preserved c =
    let i = c.loop-queue.invariant in
    let ls = c.loop-queue.queue.lists in
    let ls2 = c.take_bit.new.queue.lists in
    let at = c.loop-queue.at in
    let b = c.take_bit.result in
    let bit = c.take_bit.ensures.bit in
    let taken = c.take_bit.ensures.cleared in
    let set = c.loop-queue-test.true in
    let p = c.next_round-at.result in
    let next = c.next_round-at.ensures.place in
    let w = somewhere ls i.apart at i.there in
    let then = sound_then ls ls2 i.apart at b bit taken w.before w.node w.behind w.is in
    record {
      stands = λ xs ys n h. rw (c.take_bit.ensures.counted, add-one)
          (stands_on ls ls2 i.apart at b bit taken set p next c.loop-queue.looks _ _ (i.stands xs ys n h));
      there = stand-found ls2 then 1 p _ _
          (stands_on ls ls2 i.apart at b bit taken set p next 0 _ _ (stand-at at ls w));
      apart = then;
      placed = λ q. looked-placed ls ls2 i.apart at b bit taken w.before w.node w.behind w.is q ∙ i.placed q;
      items = looked-items ls ls2 i.apart at b bit taken w.before w.node w.behind w.is ∙ i.items;
      room = c.take_bit.ensures.room ∙ i.room;
      span = c.take_bit.ensures.span ∙ i.span;
      paid = omega (
        arith,
        c.take_bit.ensures.counted,
        looked-bits ls ls2 i.apart at b bit taken w.before w.node w.behind w.is
            set,
        i.paid,
      );
    }

pub next-hand-requires : goal.next-hand-requires
next-hand-requires c =
    let i = c.loop-queue.invariant in
    let w = somewhere c.loop-queue.queue.lists i.apart c.loop-queue.at i.there in (
      lit< tt,
      found_then c.loop-queue.queue.lists c.take_bit.new.queue.lists i.apart c.loop-queue.at c.take_bit.result
          c.take_bit.ensures.bit c.take_bit.ensures.cleared w.before w.node w.behind w.is,
    )

pub remove-requires : goal.remove-requires
remove-requires c =
    let i = c.loop-queue.invariant in
    let w = somewhere c.loop-queue.queue.lists i.apart c.loop-queue.at i.there in (
      lit< tt,
      found_then c.loop-queue.queue.lists c.take_bit.new.queue.lists i.apart c.loop-queue.at c.take_bit.result
          c.take_bit.ensures.bit c.take_bit.ensures.cleared w.before w.node w.behind w.is,
    )

pub returns-clause-turned : goal.returns-clause-turned
returns-clause-turned c = λ xs ys n h.
    let i = c.loop-queue.invariant in
    let ls = c.loop-queue.queue.lists in
    let ls2 = c.take_bit.new.queue.lists in
    let at = c.loop-queue.at in
    let b = c.take_bit.result in
    let s = i.stands xs ys n h in
    let e = ends ls ls2 i.apart at b c.take_bit.ensures.bit c.take_bit.ensures.cleared c.loop-queue-test.false
    c.loop-queue.looks _ _ s in
    let now = looked ls ls2 i.apart at b c.take_bit.ensures.bit c.take_bit.ensures.cleared s.before s.node s.behind
    s.is in
    let then = sound_then ls ls2 i.apart at b c.take_bit.ensures.bit c.take_bit.ensures.cleared s.before s.node
    s.behind s.is in
    let found : find at ls2 ≡ Some (clear_node s.node) = find-mid 1 ls2
    then 0 at (clear_node s.node) s.before s.behind now in
    let same : c.remove.result ≡ clear_node s.node = (let q = sym c.remove.ensures.value ∙ found in cc) in
    rw c.whole-item.ensures record {
      front = s.before;
      back = s.behind;
      parts = ap (λ l. list_at l 0) c.remove.ensures.lists ∙ drop-here 1 ls2
          then 0 at (clear_node s.node) s.before s.behind now;
      turns = rw same e.0;
      stands = c.next-hand.ensures.place 0 s.before s.behind (clear_node s.node) now;
      looked = c.take_bit.ensures.counted ∙ sym e.1;
    }

pub returns-clause-stood : goal.returns-clause-stood
returns-clause-stood c =
    let i = c.loop-queue.invariant in
    let ls = c.loop-queue.queue.lists in
    let ls2 = c.take_bit.new.queue.lists in
    let at = c.loop-queue.at in
    let b = c.take_bit.result in
    let w = somewhere ls i.apart at i.there in
    rw c.whole-item.ensures
    (sym
    (looked-placed ls ls2 i.apart at b c.take_bit.ensures.bit c.take_bit.ensures.cleared w.before w.node w.behind w.is
    at ∙ i.placed at)
    ∙ ap (option_map item_of) c.remove.ensures.value)

pub returns-clause-there : goal.returns-clause-there
returns-clause-there c =
    let i = c.loop-queue.invariant in
    let ls = c.loop-queue.queue.lists in
    let ls2 = c.take_bit.new.queue.lists in
    let at = c.loop-queue.at in
    let b = c.take_bit.result in
    let w = somewhere ls i.apart at i.there in
    let now = looked ls ls2 i.apart at b c.take_bit.ensures.bit c.take_bit.ensures.cleared w.before w.node w.behind
    w.is in
    let then = sound_then ls ls2 i.apart at b c.take_bit.ensures.bit c.take_bit.ensures.cleared w.before w.node
    w.behind w.is in
    let out : AreLists 1 c.remove.new.self.lists = rw c.remove.ensures.lists (AreLists-drop 1 at ls2 then) in
    first-there c.remove.new.self.lists out w.before w.behind
    (ap (λ l. list_at l 0) c.remove.ensures.lists ∙ drop-here 1 ls2
    then 0 at (clear_node w.node) w.before w.behind now) c.next-hand.result
    (c.next-hand.ensures.place 0 w.before w.behind (clear_node w.node) now)

pub returns-clause-places : goal.returns-clause-places
returns-clause-places c = λ q.
    let i = c.loop-queue.invariant in
    let ls = c.loop-queue.queue.lists in
    let ls2 = c.take_bit.new.queue.lists in
    let at = c.loop-queue.at in
    let b = c.take_bit.result in
    let w = somewhere ls i.apart at i.there in
    let then = sound_then ls ls2 i.apart at b c.take_bit.ensures.bit c.take_bit.ensures.cleared w.before w.node
    w.behind w.is in
    let kept = looked-items ls ls2 i.apart at b c.take_bit.ensures.bit c.take_bit.ensures.cleared w.before w.node
    w.behind w.is ∙ i.items in
    let once = once-flat ls2 then.count (rw kept c.requires.once) in
    rw c.whole-item.ensures
    (ap (λ l. item_at l q) c.remove.ensures.lists ∙ placed-out item_of 1 ls2
    then once at c.remove.result c.remove.ensures.value q
    ∙ ap (without c.remove.result.item.id)
    (looked-placed ls ls2 i.apart at b c.take_bit.ensures.bit c.take_bit.ensures.cleared w.before w.node w.behind
    w.is q ∙ i.placed q))

pub returns-clause-apart : goal.returns-clause-apart
returns-clause-apart c =
    let i = c.loop-queue.invariant in
    let w = somewhere c.loop-queue.queue.lists i.apart c.loop-queue.at i.there in
    rw c.remove.ensures.lists (AreLists-drop 1 c.loop-queue.at c.take_bit.new.queue.lists
    (sound_then c.loop-queue.queue.lists c.take_bit.new.queue.lists i.apart c.loop-queue.at c.take_bit.result
    c.take_bit.ensures.bit c.take_bit.ensures.cleared w.before w.node w.behind w.is))
