use Rattle.std.proofs.Common.{◌≡◌, ◌+◌, ◌-◌, ◌<◌, ◌∷◌, ◌++◌, [], Some, true, false, refl, arith, ap, sym, ◌∙◌, map, length}
use Rattle.std.specs.Prelude.{nat_lt}
use Rattle.std.specs.Option.{option_map}
use Rattle.std.proofs.lemmas.Bool.Decides.{nat_tests}
use Rattle.foyer_policy.specs.Lists.{list_at, drop_place, with_value, moved}
use Rattle.foyer_policy.specs.Policy.{without}
use Rattle.foyer_policy.specs.S3Fifo.{frequencies, main_turn, main_looks}
use Rattle.foyer_policy.specs.S3FifoQueues.{Node, entry, entries, small_of, main_of, item_at}
use Rattle.foyer_policy.proofs.ListsLemmas.{length-list_at}
use Rattle.foyer_policy.proofs.S3FifoNodes.{item_of, Front, fronted, out-places, write-places, main-head, look-sound, look-main, look-small, look-found, look-queues, round-main, round-small, round-length, round-queues, drop-main, drop-small, drop-queues, frequencies-le}
use Rattle.foyer_policy.proofs.S3FifoSteps.{less, main-next, main-done, paid-next}
use Rattle.foyer_policy.proofs.s3fifo.queues.take_main.Goals as goal
use Rattle.foyer_policy.proofs.s3fifo.queues.take_main.Goals.{After-move_back}

-- the node, once it was looked at
abbrev lowered_node : Node → Node
lowered_node n =
    record { item = n.item; state = record { frequency = n.state.frequency - 1; is_main = n.state.is_main } }

pub lower-requires-clause-few : goal.lower-requires-clause-few
lower-requires-clause-few c =
    let i = c.loop-front.invariant in
    let first = list_at c.args.queues.now.lists 1 in
    omega (
      arith,
      i.paid,
      i.as_many,
      frequencies-le true first c.requires.queues.main,
      length-list_at c.loop-front.queues.lists 1,
      c.in-Some.ensures.small,
    )

pub returns-then-not-lower-clause-takes : goal.returns-then-not-lower-clause-takes
returns-then-not-lower-clause-takes c =
    let i = c.loop-front.invariant in
    let ls = c.loop-front.queues.lists in
    let ls2 = c.lower.new.queues.lists in
    let p = c.in-Some.front in
    let sound = c.in-Some.ensures.apart in
    let d = fronted ls sound 1 p c.in-Some.ensures.place in
    let v = d.node in
    let w = lowered_node v in
    let f = d.front in
    let above : c.lower.result ≡ nat_lt 0 v.state.frequency = (let x = c.lower.ensures.above in rw d.found at x) in
    let is : ls2 ≡ map (with_value p w) ls = (let x = c.lower.ensures.lowered in rw d.found at x) in
    let stops : nat_lt 0 v.state.frequency ≡ false = sym above ∙ c.if-not-lower.true in
    let zero_frequency : v.state.frequency ≡ 0 = grind (arith, nat_tests) in
    let done = main-done (entry (p, v)) (entries f.back) zero_frequency in
    let head = main-head ls sound i.queues p v d.found f in
    let found = look-found ls sound i.queues p v d.found f w refl refl (omega arith) in
    let same : c.remove.result ≡ w =
    (let x = c.remove.ensures.value in let y = rw is at x in let z = sym y ∙ found in cc) in
    let f2 : Front (map (with_value p w) ls) 1 p w =
    record { back = f.back; is = look-main ls sound i.queues p v d.found f w refl refl (omega arith) } in
    let sound2 = look-sound ls sound i.queues p v d.found f w refl refl (omega arith) in
    let queues2 = look-queues ls sound i.queues p v d.found f w refl refl (omega arith) in
    let left : c.remove.new.self.lists ≡ map (drop_place p) (map (with_value p w) ls) = c.remove.ensures.lists
    ∙ ap (map (drop_place p)) is in
    let main : main_of c.remove.new.self.lists ≡ entries f.back = ap (λ l. main_of l) left
    ∙ ap (λ l. entries l) (drop-main (map (with_value p w) ls) sound2 queues2 p w found f2) in
    let small : small_of c.remove.new.self.lists ≡ small_of ls = ap (λ l. small_of l) left
    ∙ ap (λ l. entries l)
    (drop-small (map (with_value p w) ls) sound2 queues2 p w found f2
    ∙ look-small ls sound i.queues p v d.found f w refl refl (omega arith)) in
    rw c.whole-item.ensures (
      sym i.turn ∙ ap main_turn head ∙ done.0 ∙ rw (main, same) refl,
      sym i.looked ∙ omega (arith, ap main_looks head, done.1, c.lower.ensures.counted),
      small ∙ i.small,
    )

pub returns-then-not-lower-clause-queues : goal.returns-then-not-lower-clause-queues
returns-then-not-lower-clause-queues c =
    let i = c.loop-front.invariant in
    let ls = c.loop-front.queues.lists in
    let p = c.in-Some.front in
    let sound = c.in-Some.ensures.apart in
    let d = fronted ls sound 1 p c.in-Some.ensures.place in
    let v = d.node in
    let w = lowered_node v in
    let f = d.front in
    let is : c.lower.new.queues.lists ≡ map (with_value p w) ls =
    (let x = c.lower.ensures.lowered in rw d.found at x) in
    let found = look-found ls sound i.queues p v d.found f w refl refl (omega arith) in
    let f2 : Front (map (with_value p w) ls) 1 p w =
    record { back = f.back; is = look-main ls sound i.queues p v d.found f w refl refl (omega arith) } in
    let left : c.remove.new.self.lists ≡ map (drop_place p) (map (with_value p w) ls) = c.remove.ensures.lists
    ∙ ap (map (drop_place p)) is in
    rw left (drop-queues (map (with_value p w) ls)
    (look-sound ls sound i.queues p v d.found f w refl refl (omega arith))
    (look-queues ls sound i.queues p v d.found f w refl refl (omega arith)) p w found f2)

pub returns-then-not-lower-clause-places : goal.returns-then-not-lower-clause-places
returns-then-not-lower-clause-places c = λ q.
    let i = c.loop-front.invariant in
    let ls = c.loop-front.queues.lists in
    let p = c.in-Some.front in
    let sound = c.in-Some.ensures.apart in
    let d = fronted ls sound 1 p c.in-Some.ensures.place in
    let v = d.node in
    let w = lowered_node v in
    let f = d.front in
    let is : c.lower.new.queues.lists ≡ map (with_value p w) ls =
    (let x = c.lower.ensures.lowered in rw d.found at x) in
    let found = look-found ls sound i.queues p v d.found f w refl refl (omega arith) in
    let same : c.remove.result ≡ w =
    (let x = c.remove.ensures.value in let y = rw is at x in let z = sym y ∙ found in cc) in
    let left : c.remove.new.self.lists ≡ map (drop_place p) (map (with_value p w) ls) = c.remove.ensures.lists
    ∙ ap (map (drop_place p)) is in
    rw c.whole-item.ensures
    (ap (λ l. item_at l q) left
    ∙ out-places (map (with_value p w) ls) (look-sound ls sound i.queues p v d.found f w refl refl (omega arith))
    (look-queues ls sound i.queues p v d.found f w refl refl (omega arith)) p w found q
    ∙ ap (without v.item.id) (write-places ls sound i.queues p v d.found w refl q ∙ i.placed q)
    ∙ ap (λ (n : Node). without n.item.id (item_at c.args.queues.now.lists q)) (sym same))

pub returns-then-not-lower-clause-stood : goal.returns-then-not-lower-clause-stood
returns-then-not-lower-clause-stood c =
    let i = c.loop-front.invariant in
    let ls = c.loop-front.queues.lists in
    let p = c.in-Some.front in
    let sound = c.in-Some.ensures.apart in
    let d = fronted ls sound 1 p c.in-Some.ensures.place in
    let w = lowered_node d.node in
    let is : c.lower.new.queues.lists ≡ map (with_value p w) ls =
    (let x = c.lower.ensures.lowered in rw d.found at x) in
    let found = look-found ls sound i.queues p d.node d.found d.front w refl refl (omega arith) in
    let same : c.remove.result ≡ w =
    (let x = c.remove.ensures.value in let y = rw is at x in let z = sym y ∙ found in cc) in
    rw c.whole-item.ensures
    (sym (i.placed p) ∙ ap (option_map item_of) d.found ∙ ap (λ (n : Node). Some n.item) (sym same))

-- a look is paid for by a frequency
spent : (c : After-move_back) → frequencies (main_of c.move_back.new.self.lists) + 1
    ≡ frequencies (main_of c.loop-front.queues.lists)
spent c =
    let i = c.loop-front.invariant in
    let ls = c.loop-front.queues.lists in
    let p = c.in-Some.front in
    let sound = c.in-Some.ensures.apart in
    let d = fronted ls sound 1 p c.in-Some.ensures.place in
    let v = d.node in
    let w = lowered_node v in
    let f = d.front in
    let above : c.lower.result ≡ nat_lt 0 v.state.frequency = (let x = c.lower.ensures.above in rw d.found at x) in
    let is : c.lower.new.queues.lists ≡ map (with_value p w) ls =
    (let x = c.lower.ensures.lowered in rw d.found at x) in
    let goes : nat_lt 0 v.state.frequency ≡ true = sym above ∙ c.if-not-lower.false in
    let some : 0 < v.state.frequency = grind (arith, nat_tests) in
    let now : c.move_back.new.self.lists ≡ moved p 1 (map (with_value p w) ls) = c.move_back.ensures.lists
    ∙ ap (moved p 1) is in
    let main : main_of c.move_back.new.self.lists ≡ entries f.back ++ less (entry (p, v)) ∷ [] =
    ap (λ l. main_of l) now ∙ round-main ls sound i.queues p v d.found f w refl refl (omega arith) in
    omega (
      arith,
      ap frequencies main,
      ap frequencies (main-head ls sound i.queues p v d.found f),
      paid-next (entry (p, v)) (entries f.back) some,
    )

pub loop-front-smaller : goal.loop-front-smaller
loop-front-smaller c = omega (arith, spent (goal.at.loop-front-smaller c).After-move_back)

pub loop-front-preserved : goal.loop-front-preserved
loop-front-preserved c =
    let i = c.loop-front.invariant in
    let ls = c.loop-front.queues.lists in
    let p = c.in-Some.front in
    let sound = c.in-Some.ensures.apart in
    let d = fronted ls sound 1 p c.in-Some.ensures.place in
    let v = d.node in
    let w = lowered_node v in
    let f = d.front in
    let above : c.lower.result ≡ nat_lt 0 v.state.frequency = (let x = c.lower.ensures.above in rw d.found at x) in
    let is : c.lower.new.queues.lists ≡ map (with_value p w) ls =
    (let x = c.lower.ensures.lowered in rw d.found at x) in
    let goes : nat_lt 0 v.state.frequency ≡ true = sym above ∙ c.if-not-lower.false in
    let some : 0 < v.state.frequency = grind (arith, nat_tests) in
    let steps = main-next (entry (p, v)) (entries f.back) some in
    let head = main-head ls sound i.queues p v d.found f in
    let now : c.move_back.new.self.lists ≡ moved p 1 (map (with_value p w) ls) = c.move_back.ensures.lists
    ∙ ap (moved p 1) is in
    let main : main_of c.move_back.new.self.lists ≡ entries f.back ++ less (entry (p, v)) ∷ [] =
    ap (λ l. main_of l) now ∙ round-main ls sound i.queues p v d.found f w refl refl (omega arith) in
    record {
      turn = ap main_turn main ∙ steps.0 ∙ sym (ap main_turn head) ∙ i.turn;
      looked = omega (arith, ap main_looks main, steps.1, ap main_looks head, i.looked, c.lower.ensures.counted);
      small = ap (λ l. small_of l) now ∙ round-small ls sound i.queues p v d.found f w refl refl (omega arith)
          ∙ i.small;
      queues = rw now (round-queues ls sound i.queues p v d.found f w refl refl (omega arith));
      placed = λ q. ap (option_map item_of) (c.move_back.ensures.places q) ∙ ap (λ l. item_at l q) is
          ∙ write-places ls sound i.queues p v d.found w refl q ∙ i.placed q;
      paid = omega (arith, i.paid, c.lower.ensures.counted, spent (goal.at.loop-front-preserved c).After-move_back);
      as_many = ap (λ l. length (list_at l 1)) now
          ∙ round-length ls sound i.queues p v d.found f w refl refl (omega arith) ∙ i.as_many;
      room = c.move_back.ensures.room ∙ c.lower.ensures.room ∙ i.room;
      span = c.move_back.ensures.span ∙ c.lower.ensures.span ∙ i.span;
    }
