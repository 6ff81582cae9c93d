use Rattle.std.proofs.Common.{◌≡◌, ◌∙◌, ◌-◌, None, set, arith}
use Rattle.foyer_policy.specs.Free.{put_free}
use Rattle.foyer_policy.proofs.FreeLemmas.{filled_within, used-set, first_filled}
use Rattle.foyer_policy.proofs.ArenaLemmas.{block-freed, IsArena-with}
use Rattle.foyer_policy.proofs.lists.arena.Arena.remove.Goals as goal

pub put_free-requires-clause-there : goal.put_free-requires-clause-there
put_free-requires-clause-there g c = λ q e.
    let a = c.args.self.now in
    rw c.read-value.ensures.rest.1
    (first_filled g.row.N a.nodes.links a.nodes.values a.free 0 _ c.requires.arena.nodes.vacant q e)

pub returns-clause-arena : goal.returns-clause-arena
returns-clause-arena g c =
    let a = c.args.self.now in let p = c.args.place in let h = c.requires.arena in let read = c.read-value.ensures in
    let put = c.put_free.ensures in
    let links : c.put_free.new.nodes.links ≡ put_free g.row.N p a.free a.nodes.links =
    put.links ∙ (λ i. put_free g.row.N p a.free (read.rest.1 i)) in
    let values : c.put_free.new.nodes.values ≡ set a.nodes.values p None = put.values ∙ read.rest.2 in
    let counted = used-set a.nodes.values p None (filled_within a.nodes.values p c.read-value.result read.value) in
    let was = rw read.value at counted in
    IsArena-with a c.put_free.new.nodes (a.used - 1) c.to-self.result h (put.at ∙ read.rest.0)
    (rw (links, values, c.to-self.ensures)
    (block-freed g.row.N a.nodes.links a.nodes.values a.len a.free h.nodes p c.read-value.result read.value))
    (rw values (omega (arith, was, h.used)))
