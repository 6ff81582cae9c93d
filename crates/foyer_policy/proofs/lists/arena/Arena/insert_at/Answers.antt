use Rattle.std.proofs.Common.{◌≡◌, ◌+◌, ◌∙◌, ap, Some, None, get_or, set, arith}
use Rattle.foyer_policy.specs.Free.{joined}
use Rattle.std.proofs.lemmas.List.{get_or-set_other}
use Rattle.foyer_policy.proofs.FreeLemmas.{used-set}
use Rattle.foyer_policy.proofs.ArenaLemmas.{arena-vacant, block-neighbours, block-taken, node-beside, IsArena-with}
use Rattle.foyer_policy.proofs.lists.arena.Arena.insert_at.Goals as goal

pub take_free-self-requires-clause-beside : goal.take_free-self-requires-clause-beside
take_free-self-requires-clause-beside g c =
    let a = c.args.self.now in let p = c.args.place in let h = c.requires.arena in
    block-neighbours g.row.N a.nodes.links a.nodes.values a.len a.free h.nodes p c.requires.within
    (arena-vacant a p h c.requires.within c.requires.vacant)

pub returns-clause-arena : goal.returns-clause-arena
returns-clause-arena g c =
    let a = c.args.self.now in let p = c.args.place in let h = c.requires.arena in
    let taken = c.take_free-self.ensures in
    let wrote = c.write.ensures in
    let none = arena-vacant a p h c.requires.within c.requires.vacant in
    let links : c.write.new.self.links
    ≡ set (joined (get_or a.nodes.links p None) a.nodes.links) p (Some c.args.links) =
    wrote.1 ∙ c.set_links.ensures.1 ∙ ap (λ ls. set ls p (Some c.args.links)) taken.links in
    let values : c.write.new.self.values ≡ set a.nodes.values p (Some c.args.value) =
    wrote.2 ∙ ap (λ vs. set vs p (Some c.args.value)) (c.set_links.ensures.2 ∙ taken.values) in
    let counted = used-set a.nodes.values p (Some c.args.value)
    (omega (arith, c.requires.within, h.nodes.values_len)) in
    let was = rw none at counted in
    IsArena-with a c.write.new.self (a.used + 1) c.take_free-self.result h
    (wrote.0 ∙ c.set_links.ensures.0 ∙ taken.at)
    (rw (links, values, taken.first)
    (block-taken g.row.N a.nodes.links a.nodes.values a.len a.free h.nodes p c.requires.within none c.args.links
    c.args.value c.requires.list))
    (rw values (omega (arith, was, h.used)))

pub returns-clause-others : goal.returns-clause-others
returns-clause-others g c = λ q ne.
    let a = c.args.self.now in let p = c.args.place in let h = c.requires.arena in
    let taken = c.take_free-self.ensures in
    let none = arena-vacant a p h c.requires.within c.requires.vacant in
    rw (
      c.write.ensures.1,
      c.write.ensures.2,
      c.set_links.ensures.1,
      c.set_links.ensures.2,
      taken.links,
      taken.values,
      get_or-set_other (joined (get_or a.nodes.links p None) a.nodes.links) p q (Some c.args.links) None ne,
      get_or-set_other a.nodes.values p q (Some c.args.value) None ne,
    )
    (node-beside g.row.N a.nodes.links a.nodes.values a.len a.free h.nodes p c.requires.within none q)
