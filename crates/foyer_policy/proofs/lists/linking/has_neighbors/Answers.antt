use Rattle.std.proofs.Common.{refl, arith}
use Rattle.foyer_policy.specs.Nodes.{node_with}
use Rattle.foyer_policy.specs.Arena.{get}
use Rattle.foyer_policy.specs.Chain.{lists_of}
use Rattle.foyer_policy.proofs.ArenaLemmas.{node_of_links}
use Rattle.foyer_policy.proofs.LinkedLemmas.{before_there, after_there}
use Rattle.foyer_policy.proofs.HoldsLemmas.{contains_found}
use Rattle.foyer_policy.proofs.lists.linking.has_neighbors.Goals as goal

pub links-links-requires : goal.links-links-requires
links-links-requires g c = (
  omega arith,
  (
    c.requires.sound.arena,
    contains_found c.args.nodes.now c.args.heads.now c.args.tails.now
        (lists_of c.args.nodes.now c.args.heads.now) c.args.place c.requires.sound.linked c.requires.there,
  ),
)

pub is_listed-requires : goal.is_listed-requires
is_listed-requires g c =
    let f = get c.args.nodes.now in let ls = lists_of c.args.nodes.now c.args.heads.now in let node =
    node_of_links (f c.args.place) c.links-links.result c.links-links.ensures in (
      omega arith,
      (
        c.requires.sound.arena,
        before_there f f f f c.args.heads.now c.args.tails.now ls c.args.place
            (node_with c.links-links.result node.0) c.requires.sound.linked c.requires.there node.1 (λ q ne. refl),
      ),
    )

pub is_listed-requires-then-is_listed : goal.is_listed-requires-then-is_listed
is_listed-requires-then-is_listed g c =
    let f = get c.args.nodes.now in let ls = lists_of c.args.nodes.now c.args.heads.now in let node =
    node_of_links (f c.args.place) c.links-links.result c.links-links.ensures in (
      omega arith,
      (
        c.requires.sound.arena,
        after_there f f f f c.args.heads.now c.args.tails.now ls c.args.place
            (node_with c.links-links.result node.0) c.requires.sound.linked c.requires.there node.1 (λ q ne. refl),
      ),
    )
