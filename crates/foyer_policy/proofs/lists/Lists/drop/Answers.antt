use Rattle.std.proofs.Common.{◌≡◌, arith, sym, ap, length, ◌∙◌}
use Rattle.foyer_policy.specs.Chain.{lists_of}
use Rattle.foyer_policy.specs.Lists.{list_at}
use Rattle.foyer_policy.proofs.HoldsLemmas.{none_left}
use Rattle.foyer_policy.proofs.lists.Lists.drop.Goals as goal

pub destroy_empty-requires : goal.destroy_empty-requires
destroy_empty-requires g c =
    let i = c.self-2.inside in let h = c.self-2.invariant in
    let same : lists_of i.nodes i.heads ≡ c.loop-list.self.lists = ap (λ s. s.lists) c.self-2.view_is in
    let count : length (lists_of i.nodes i.heads) ≡ g.row.N = ap length same ∙ c.loop-list.invariant.count in (
      omega arith,
      (
        h.arena,
        sym h.count ∙ none_left (lists_of i.nodes i.heads) (λ k less.
            ap (λ ls. list_at ls k) same ∙ c.loop-list.invariant.done k
            (omega (arith, less, count, c.loop-list-test.false, c.count-list-end.ensures.count))),
      ),
    )
