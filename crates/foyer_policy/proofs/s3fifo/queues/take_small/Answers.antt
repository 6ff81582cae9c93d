use Rattle.std.proofs.Common.{◌≡◌, ◌∷◌, ◌++◌, [], true, refl, arith, ap, sym, ◌∙◌, map, append_assoc, append-nil}
use Rattle.std.specs.Option.{option_map}
use Rattle.foyer_policy.specs.Lists.{with_value, moved}
use Rattle.foyer_policy.specs.Items.{weight_of}
use Rattle.foyer_policy.specs.Policy.{without}
use Rattle.foyer_policy.specs.S3Fifo.{items, frequent_front, from_rare}
use Rattle.foyer_policy.specs.S3FifoQueues.{Node, entry, entries, small_of, main_of, item_at}
use Rattle.foyer_policy.proofs.S3FifoNodes.{item_of, front, small-head, out-places, out-small, out-main, out-queues, write-places, promote-small, promote-main, promote-queues}
use Rattle.foyer_policy.proofs.S3FifoRare.{rare-stops, rare-goes, front-stops, front-goes, weight-head}
use Rattle.foyer_policy.proofs.s3fifo.queues.take_small.Goals as goal

pub returns-then-state-threshold-clause-takes : goal.returns-then-state-threshold-clause-takes
returns-then-state-threshold-clause-takes c =
    let i = c.loop-front.invariant in
    let ls = c.loop-front.queues.lists in
    let v = c.get-node.result.now in
    let p = c.in-Some.front in
    let f = front ls c.get-node.ensures.apart 0 p v c.in-Some.ensures.place c.get-node.ensures.value in
    let t = c.args.threshold in
    let head = small-head ls c.get-node.ensures.apart i.queues p v c.get-node.ensures.value f in
    let out = ap (λ l. small_of l) c.remove.ensures.lists
    ∙ out-small ls c.get-node.ensures.apart i.queues p v c.get-node.ensures.value f in
    let main = ap (λ l. main_of l) c.remove.ensures.lists
    ∙ ap (λ l. entries l) (out-main ls c.get-node.ensures.apart i.queues p v c.get-node.ensures.value f) in
    let below = rw c.state-state.ensures at c.if-state-threshold.true in
    let stops = rare-stops t (small_of ls) (entry (p, v)) (entries f.back) head below in
    let none = front-stops t (small_of ls) (entry (p, v)) (entries f.back) head below in
    rw c.whole-item.ensures (
      entry (p, v),
      sym i.rare ∙ stops ∙ ap (λ l. entry (p, v) ∷ l) (sym out),
      refl,
      main ∙ sym (ap (λ l. main_of ls ++ l) none ∙ append-nil (main_of ls)) ∙ i.moved,
    )

pub returns-then-state-threshold-clause-stood : goal.returns-then-state-threshold-clause-stood
returns-then-state-threshold-clause-stood c =
    rw c.whole-item.ensures
    (sym (c.loop-front.invariant.placed c.in-Some.front) ∙ ap (option_map item_of) c.get-node.ensures.value)

pub returns-then-state-threshold-clause-queues : goal.returns-then-state-threshold-clause-queues
returns-then-state-threshold-clause-queues c =
    let i = c.loop-front.invariant in
    let ls = c.loop-front.queues.lists in
    let v = c.get-node.result.now in
    let p = c.in-Some.front in
    let f = front ls c.get-node.ensures.apart 0 p v c.in-Some.ensures.place c.get-node.ensures.value in
    rw c.remove.ensures.lists (out-queues ls c.get-node.ensures.apart i.queues p v c.get-node.ensures.value f)

pub returns-then-state-threshold-clause-places : goal.returns-then-state-threshold-clause-places
returns-then-state-threshold-clause-places c = λ q.
    let i = c.loop-front.invariant in
    let ls = c.loop-front.queues.lists in
    let v = c.get-node.result.now in
    rw c.whole-item.ensures
    (ap (λ l. item_at l q) c.remove.ensures.lists
    ∙ out-places ls c.get-node.ensures.apart i.queues c.in-Some.front v c.get-node.ensures.value q
    ∙ ap (without v.item.id) (i.placed q))

pub returns-then-state-threshold-clause-weight : goal.returns-then-state-threshold-clause-weight
returns-then-state-threshold-clause-weight c =
    let i = c.loop-front.invariant in
    let ls = c.loop-front.queues.lists in
    let v = c.get-node.result.now in
    let p = c.in-Some.front in
    let f = front ls c.get-node.ensures.apart 0 p v c.in-Some.ensures.place c.get-node.ensures.value in
    let head = small-head ls c.get-node.ensures.apart i.queues p v c.get-node.ensures.value f in
    let out = ap (λ l. small_of l) c.remove.ensures.lists
    ∙ out-small ls c.get-node.ensures.apart i.queues p v c.get-node.ensures.value f in
    rw c.whole.ensures
    (omega (
      arith,
      i.weight,
      weight-head (small_of ls) (entry (p, v)) (entries f.back) head,
      ap (λ l. weight_of (items l)) out,
    ))

pub loop-front-preserved : goal.loop-front-preserved
loop-front-preserved c =
    let i = c.loop-front.invariant in
    let ls = c.loop-front.queues.lists in
    let v = c.get-node.result.now in
    let p = c.in-Some.front in
    let sound = c.get-node.ensures.apart in
    let f = front ls sound 0 p v c.in-Some.ensures.place c.get-node.ensures.value in
    let t = c.args.threshold in
    let w : Node =
    record {
      item = v.item;
      state =
          record { frequency = v.state.frequency; is_main = true };
    } in
    let item : w.item ≡ v.item = refl in
    let frequency : w.state.frequency ≡ v.state.frequency = refl in
    let now = c.move_back.new.self.lists in
    let is : now ≡ moved p 1 (map (with_value p w) ls) =
    c.move_back.ensures.lists ∙ ap (moved p 1) (rw c.state-state.ensures at c.set_state.ensures.lists v c.get-node.ensures.value) in
    let head = small-head ls sound i.queues p v c.get-node.ensures.value f in
    let small = ap (λ l. small_of l) is ∙ promote-small ls sound i.queues p v c.get-node.ensures.value f w item
    frequency refl in
    let main = ap (λ l. main_of l) is ∙ promote-main ls sound i.queues p v c.get-node.ensures.value f w item
    frequency refl in
    let reaches = rw c.state-state.ensures at c.if-state-threshold.false in
    record {
      rare = ap (from_rare t) small ∙ sym (rare-goes t (small_of ls) (entry (p, v)) (entries f.back) head reaches)
          ∙ i.rare;
      moved =
          rw (main, small) (append_assoc (main_of ls) (entry (p, v) ∷ []) (frequent_front t (entries f.back)))
          ∙ ap (λ l. main_of ls ++ l) (sym (front-goes t (small_of ls) (entry (p, v)) (entries f.back) head reaches))
          ∙ i.moved;
      whole = rw (main, small) (append_assoc (main_of ls) (entry (p, v) ∷ []) (entries f.back))
          ∙ ap (λ l. main_of ls ++ l) (sym head) ∙ i.whole;
      queues = rw is (promote-queues ls sound i.queues p v c.get-node.ensures.value f w item frequency refl);
      placed = λ q. ap (option_map item_of) (c.move_back.ensures.places q)
          ∙ ap (λ l. item_at l q) (rw c.state-state.ensures at c.set_state.ensures.lists v c.get-node.ensures.value)
          ∙ write-places ls sound i.queues p v c.get-node.ensures.value w item q ∙ i.placed q;
      weight = rw c.whole.ensures
          (omega (
            arith,
            i.weight,
            weight-head (small_of ls) (entry (p, v)) (entries f.back) head,
            ap (λ l. weight_of (items l)) small,
          ));
      room = c.move_back.ensures.room ∙ c.set_state.ensures.room ∙ i.room;
      span = c.move_back.ensures.span ∙ c.set_state.ensures.span ∙ i.span;
    }
