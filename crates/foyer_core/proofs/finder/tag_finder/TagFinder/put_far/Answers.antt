use Rattle.std.proofs.Common.{Some, sym, ◌∙◌}
use Rattle.foyer_core.specs.Trails.{led, led_same}
use Rattle.foyer_core.proofs.TaggedLemmas.{none_near, still_apart}
use Rattle.foyer_core.proofs.finder.tag_finder.TagFinder.put_far.Goals as goal

pub invariant_of-self-in_default-clause-apart : goal.invariant_of-self-in_default-clause-apart
invariant_of-self-in_default-clause-apart g c =
    let f = c.args.self.now in
    still_apart g.K.PartialEq.eq (led g.K.PartialEq.eq f.near.trail) (g.I.Indexer.view f.far)
    (g.I.Indexer.view c.insert_clone.new.index) (c.args.hash, c.args.key.now) (Some c.args.slot)
    (led_same g.met.K.Eq.laws f.near.trail) f.apart c.in_ok-insert_clone.ensures.view
    (none_near _ _ (sym c.requires.was ∙ c.in_default.is))
