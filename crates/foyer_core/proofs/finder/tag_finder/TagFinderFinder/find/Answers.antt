use Rattle.std.proofs.Common.{ap}
use Rattle.std.specs.Option.{option_or}
use Rattle.foyer_core.proofs.finder.tag_finder.TagFinderFinder.find.Goals as goal

pub find-requires-clause-asked : goal.find-requires-clause-asked
find-requires-clause-asked g c κs within = λ q s near.
    c.requires.asked q s (ap (λ o. option_or o (g.I.Indexer.view c.args.self.now.far q)) near)
