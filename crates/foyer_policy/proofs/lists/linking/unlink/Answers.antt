use Rattle.std.proofs.Common.{refl, arith, ◌∙◌}
use Rattle.foyer_policy.specs.Nodes.{node_with}
use Rattle.foyer_policy.specs.Arena.{get}
use Rattle.foyer_policy.proofs.ArenaLemmas.{node_of_links}
use Rattle.foyer_policy.specs.Chain.{all_but, lists_of}
use Rattle.foyer_policy.proofs.ChainLemmas.{all_but-other}
use Rattle.foyer_policy.proofs.LinkedLemmas.{list_in_heads, list_in_tails, before_there, after_there, Linked-without}
use Rattle.foyer_policy.proofs.HoldsLemmas.{contains_found, some_after_set}
use Rattle.foyer_policy.proofs.lists.linking.unlink.Goals as goal

pub links-links-requires : goal.links-links-requires
links-links-requires g c = (
  omega arith,
  (
    c.requires.sound.arena,
    contains_found c.args.nodes.now c.args.heads.now c.args.tails.now
        (lists_of c.args.nodes.now c.args.heads.now) c.args.place c.requires.sound.linked c.requires.there,
  ),
)

pub set_after-requires : goal.set_after-requires
set_after-requires g c =
    let f = get c.args.nodes.now in let ls = lists_of c.args.nodes.now c.args.heads.now in let node =
    node_of_links (f c.args.place) c.links-links.result c.links-links.ensures in (
      omega arith,
      (
        c.requires.sound.arena,
        (
          before_there f f f f c.args.heads.now c.args.tails.now ls c.args.place
              (node_with c.links-links.result node.0) c.requires.sound.linked c.requires.there node.1 (λ q ne. refl),
          list_in_heads f f f f c.args.heads.now c.args.tails.now ls c.args.place
              (node_with c.links-links.result node.0) c.requires.sound.linked c.requires.there node.1 (λ q ne. refl),
        ),
      ),
    )

pub set_before-requires : goal.set_before-requires
set_before-requires g c =
    let f = get c.args.nodes.now in let ls = lists_of c.args.nodes.now c.args.heads.now in let node =
    node_of_links (f c.args.place) c.links-links.result c.links-links.ensures in (
      omega arith,
      (
        c.set_after.ensures.arena,
        (
          (λ x e. rw (c.set_after.ensures.links x) (some_after_set _ _ _
              (after_there f f f f c.args.heads.now c.args.tails.now ls c.args.place
              (node_with c.links-links.result node.0) c.requires.sound.linked c.requires.there node.1
              (λ q ne. refl) x e))),
          list_in_tails f f f f c.args.heads.now c.args.tails.now ls c.args.place
              (node_with c.links-links.result node.0) c.requires.sound.linked c.requires.there node.1 (λ q ne. refl),
        ),
      ),
    )

pub returns-clause-linked : goal.returns-clause-linked
returns-clause-linked g c =
    let f = get c.args.nodes.now in let node =
    node_of_links (f c.args.place) c.links-links.result c.links-links.ensures in
    let left = all_but c.args.place (get c.set_before.new.nodes) in
    rw (c.set_after.ensures.heads, c.set_before.ensures.tails)
    (Linked-without f f (get c.set_after.new.nodes) left c.args.heads.now c.args.tails.now
    (lists_of c.args.nodes.now c.args.heads.now) c.args.place (node_with c.links-links.result node.0)
    c.requires.sound.linked c.requires.there node.1 (λ q ne. refl) (λ q ne. c.set_after.ensures.links q)
    (λ q ne. all_but-other c.args.place q (get c.set_before.new.nodes) ne ∙ c.set_before.ensures.links q))
