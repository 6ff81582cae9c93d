use Rattle.std.proofs.Common.{◌∙◌, ap, refl, None, length, replicate}
use Rattle.foyer_policy.proofs.ArenaGrowth.{moved-empty, moved-block, moved-used}
use Rattle.foyer_policy.proofs.lists.arena.Arena.grow.Goals as goal

pub deallocate-requires : goal.deallocate-requires
deallocate-requires g c =
    let a = c.args.self.now in let h = c.requires.arena in let hand = c.hand_over_all-free in
    let nodes = c.replace-old_nodes.ensures.value in let deed = c.replace-old_deed.ensures.value in (
      ap (λ n. n.at) nodes ∙ hand.ensures.from.0 ∙ h.block.0,
      ap (λ n. length n.links) nodes ∙ ap length hand.ensures.from.1 ∙ h.nodes.links_len,
      ap (λ n. n.values) nodes ∙ moved-empty g.row.N a.nodes.links a.nodes.values hand.new.from.values
          hand.new.to.links hand.new.to.values hand.result hand.ensures.moved
          ∙ ap (λ n. replicate n None) h.nodes.values_len,
      ap (λ d. d.at) deed ∙ h.block.1,
      ap (λ d. d.len) deed ∙ h.block.2,
      ap (λ d. d.alloc) deed ∙ h.block.3,
    )

pub returns-clause-arena : goal.returns-clause-arena
returns-clause-arena g c =
    let a = c.args.self.now in let h = c.requires.arena in let hand = c.hand_over_all-free in let made =
    c.in_ok-base.ensures.block in
    rw (c.replace-old_nodes.ensures.after, c.replace-old_deed.ensures.after) record {
      block = (hand.ensures.from.2 ∙ made.0, made.3, made.4, made.5);
      nodes = moved-block g.row.N a.nodes.links a.nodes.values hand.new.from.values hand.new.to.links
          hand.new.to.values hand.result hand.ensures.moved c.args.len hand.ensures.len
          (c.if-not-may_hold.ensures refl).1;
      used = moved-used g.row.N a.nodes.links a.nodes.values hand.new.from.values hand.new.to.links hand.new.to.values
          hand.result hand.ensures.moved ∙ h.used;
    }
