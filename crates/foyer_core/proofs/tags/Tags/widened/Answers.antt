use Rattle.std.proofs.Common.{sym, ◌∙◌}
use Rattle.foyer_core.proofs.TagLemmas.{part_before}
use Rattle.foyer_core.proofs.tags.Tags.widened.Goals as goal

pub put-requires-clause-new : goal.put-requires-clause-new
put-requires-clause-new c =
    let t = c.args.self.now in
    c.lengthen.ensures.slots c.in-Some.tag.slot ∙ c.loop-bucket.invariant.slots c.in-Some.tag.slot
    ∙ part_before t.buckets t.once c.loop-bucket.bucket c.in-Some.tag (sym c.get.ensures ∙ c.in-Some.is)
