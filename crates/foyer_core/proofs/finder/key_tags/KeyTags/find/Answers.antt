use Rattle.foyer_core.specs.Tags.{slots_of}
use Rattle.foyer_core.specs.Trails.{led, keyed, led_same}
use Rattle.foyer_core.proofs.TaggedLemmas.{found_is}
use Rattle.foyer_core.proofs.finder.key_tags.KeyTags.find.Goals as goal

pub returns : goal.returns
returns g c =
    let t = c.args.self.now in
    found_is g.met.K.Eq.laws (led g.K.PartialEq.eq t.trail) (keyed t.trail) (slots_of t.tags)
    (led_same g.met.K.Eq.laws t.trail) t.tagged (c.args.hash, c.args._key.now)
    (λ s answer. g.F.Fn.post c.args.is_its (s, tt) answer) c.requires.told c.find.result c.find.ensures.found
    c.find.ensures.yes c.find.ensures.absent
