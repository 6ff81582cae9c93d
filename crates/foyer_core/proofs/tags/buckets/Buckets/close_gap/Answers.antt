use Rattle.std.proofs.Common.{◌≡◌, ℕ, ◌+◌, ◌<◌, ◌≤◌, Option, Some, sym, ◌∙◌, subst, subst₂, arith}
use Rattle.std.specs.Prelude.{slice_get}
use Rattle.foyer_core.specs.Probing.{home, tag_in, IsPut}
use Rattle.foyer_core.specs.declared.tags.buckets.Buckets.{Buckets}
use Rattle.foyer_core.specs.declared.tags.buckets.Tag.{Tag}
use Rattle.foyer_core.proofs.BucketLemmas.{named_twice}
use Rattle.foyer_core.proofs.ProbeLemmas.{closed}
use Rattle.foyer_core.proofs.TagLemmas.{IsClosing, closing_stays, closing_moves, tags_past}
use Rattle.foyer_core.proofs.tags.buckets.Buckets.close_gap.Goals as goal
use Rattle.foyer_core.proofs.tags.buckets.Buckets.close_gap.Goals.{then-home_of-gap, else-home_of-gap}

pub loop-next-preserved : goal.loop-next-preserved
loop-next-preserved c =
    let i = c.loop-next.invariant in
    let next = c.loop-next.next in
    let gap = c.loop-next.gap in
    let b = c.loop-next.self in
    let before : IsClosing c.args.bits c.args.self.now b gap next =
    record {
      order = i.order;
      size = i.size;
      empty = i.empty;
      probed = i.probed;
      once = i.once;
      behind =
          i.behind;
      moved = i.moved;
    } in
    let here : tag_in b next ≡ Some c.in-Some.tag = sym c.get.ensures ∙ c.in-Some.is in
    let after : IsClosing c.args.bits c.args.self.now c.if-home_of-gap.self c.if-home_of-gap.gap (next + 1) =
    elim c.if-home_of-gap.branch [
      | then-home_of-gap w ↦
          (let back : home c.args.bits c.in-Some.tag.fingerprint ≤ gap =
          subst (λ (h : ℕ). h ≤ gap) c.home_of.ensures.value w.if-home_of-gap.true in
          let put : IsPut (tag_in b) (tag_in w.put.new.self) gap (Some c.in-Some.tag) =
          subst (λ (o : Option Tag). IsPut (tag_in b) (tag_in w.put.new.self) gap o)
          (named_twice (slice_get b.tags.items next) c.in-Some.tag here) w.put.ensures.put in
          subst₂ (λ (x : Buckets) (g : ℕ). IsClosing c.args.bits c.args.self.now x g (next + 1)) (sym w.self-is)
          (sym w.gap-is)
          (closing_moves c.args.bits c.args.self.now b w.put.new.self w.take.new.self gap next c.in-Some.tag
          before (omega arith) here back put w.take.ensures.put (w.take.ensures.size ∙ w.put.ensures.size)))
      | else-home_of-gap w ↦
          (let apart : gap < home c.args.bits c.in-Some.tag.fingerprint =
          subst (λ (h : ℕ). gap < h) c.home_of.ensures.value w.if-home_of-gap.false in
          subst₂ (λ (x : Buckets) (g : ℕ). IsClosing c.args.bits c.args.self.now x g (next + 1)) (sym w.self-is)
          (sym w.gap-is)
          (closing_stays c.args.bits c.args.self.now b gap next c.in-Some.tag before here apart))
    ] in
    record {
      order = after.order;
      size = after.size;
      empty = after.empty;
      probed = after.probed;
      once =
          after.once;
      behind = after.behind;
      moved = after.moved;
    }

pub returns-clause-probed : goal.returns-clause-probed
returns-clause-probed c =
    let i = c.loop-next.invariant in
    closed c.args.bits c.loop-next.gap c.loop-next.next (tag_in c.loop-next.self) i.order
    (tags_past c.loop-next.self c.loop-next.next (omega arith)) i.probed i.behind
