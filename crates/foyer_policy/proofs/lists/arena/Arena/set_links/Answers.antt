use Rattle.foyer_policy.specs.Arena.{get}
use Rattle.foyer_policy.proofs.ArenaLemmas.{some_node, parts_of, block-relinked, IsArena-with}
use Rattle.foyer_policy.proofs.lists.arena.Arena.set_links.Goals as goal

pub returns-clause-arena : goal.returns-clause-arena
returns-clause-arena g c =
    let a = c.args.self.now in let p = c.args.place in let h = c.requires.arena in let wrote = c.set_links.ensures in
    let node = some_node (get a p) c.requires.there in
    let parts = parts_of _ _ node.0 node.1 in
    IsArena-with a c.set_links.new.self a.used a.free h wrote.0
    (rw (wrote.1, wrote.2)
    (block-relinked g.row.N a.nodes.links a.nodes.values a.len a.free h.nodes p c.args.links node.0.value parts.1
    c.requires.list))
    (rw wrote.2 h.used)
