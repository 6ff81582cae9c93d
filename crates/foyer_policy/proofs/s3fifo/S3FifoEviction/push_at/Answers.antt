use Rattle.std.proofs.Common.{rules, ◌≡◌, ◌++◌, arith, ap, sym, ◌∙◌}
use Rattle.foyer_policy.specs.Items.{weight_of, IsNewIn}
use Rattle.foyer_policy.specs.S3Fifo.{items}
use Rattle.foyer_policy.specs.S3FifoQueues.{Node, small_of, main_of}
use Rattle.foyer_policy.proofs.S3FifoCalls.{pushed-small, pushed-weight, pushed-main, pushed-same}
use Rattle.foyer_policy.proofs.s3fifo.S3FifoEviction.push_at.Goals as goal

pub invariant_of-self : goal.invariant_of-self
invariant_of-self c =
    let i = c.self.invariant in
    let ls = c.self.inside.queues.lists in
    let left = c.push_back_at.new.self.lists in
    let w : Node =
    record {
      item = c.args.item;
      state =
          record { frequency = c.default.result.frequency; is_main = c.contains-is_main.result };
    } in
    let sound = c.push_back_at.ensures.apart in
    let new : IsNewIn c.args.item.id (items (small_of ls) ++ items (main_of ls)) =
    rw (← c.self.view_is) at c.requires.new_id in
    let young : c.default.result.frequency ≡ 0 = search rules in
    record {
      queues = pushed-main ls left sound i.queues c.args.place w young new (rw c.of.ensures at c.push_back_at.ensures.lists)
          c.if-is_main.true;
      weight = i.weight ∙
          sym (ap (λ l. weight_of (items l))
          (pushed-same ls left sound i.queues c.args.place w young new (rw c.of.ensures at c.push_back_at.ensures.lists)
          c.if-is_main.true));
      small_denominator = i.small_denominator;
      ghost_denominator = i.ghost_denominator;
    }

pub invariant_of-self-2 : goal.invariant_of-self-2
invariant_of-self-2 c =
    let i = c.self.invariant in
    let ls = c.self.inside.queues.lists in
    let left = c.push_back_at-2.new.self.lists in
    let w : Node =
    record {
      item = c.args.item;
      state =
          record { frequency = c.default.result.frequency; is_main = c.contains-is_main.result };
    } in
    let sound = c.push_back_at-2.ensures.apart in
    let new : IsNewIn c.args.item.id (items (small_of ls) ++ items (main_of ls)) =
    rw (← c.self.view_is) at c.requires.new_id in
    let young : c.default.result.frequency ≡ 0 = search rules in
    record {
      queues = pushed-small ls left sound i.queues c.args.place w young new (rw c.of-2.ensures at c.push_back_at-2.ensures.lists)
          c.if-is_main.false;
      weight = omega (
        arith,
        i.weight,
        pushed-weight ls left sound i.queues c.args.place w young new
            (rw c.of-2.ensures at c.push_back_at-2.ensures.lists) c.if-is_main.false,
      );
      small_denominator = i.small_denominator;
      ghost_denominator = i.ghost_denominator;
    }
