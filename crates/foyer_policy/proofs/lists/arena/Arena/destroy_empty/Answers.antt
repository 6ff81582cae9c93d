use Rattle.std.proofs.Common.{None, replicate, ap, ◌∙◌}
use Rattle.foyer_policy.proofs.ArenaLemmas.{none_used}
use Rattle.foyer_policy.proofs.lists.arena.Arena.destroy_empty.Goals as goal

pub deallocate-requires : goal.deallocate-requires
deallocate-requires g c =
    let a = c.args.self in let h = c.requires.arena in (
      h.block.0,
      h.nodes.links_len,
      none_used a.nodes.values (h.used ∙ c.requires.empty)
          ∙ ap (λ n. replicate n None) h.nodes.values_len,
      h.block.1,
      h.block.2,
      h.block.3,
    )
