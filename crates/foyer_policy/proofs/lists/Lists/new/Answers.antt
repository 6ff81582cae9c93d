use Rattle.std.proofs.Common.{None, [], ap, ◌∙◌}
use Rattle.std.specs.Prelude.{replicate}
use Rattle.foyer_policy.specs.Chain.{lists_of}
use Rattle.foyer_policy.proofs.LinkedLemmas.{AreLists-Linked}
use Rattle.foyer_policy.proofs.HoldsLemmas.{Holds-new, Holds-again, lists_of-Holds}
use Rattle.std.proofs.lemmas.List.{length-replicate}
use Rattle.foyer_policy.proofs.lists.Lists.new.Goals as goal

pub invariant_of-result : goal.invariant_of-result
invariant_of-result g c = rw (c.end.ensures, c.end-2.ensures) (
    Holds-again c.new.result (replicate g.row.N None) (replicate g.row.N None) (replicate g.row.N [])
    (Holds-new c.new.result g.row.N c.new.ensures.arena c.new.ensures.counts.1))

pub returns-clause-lists : goal.returns-clause-lists
returns-clause-lists g c =
    ap (λ head. lists_of c.new.result (replicate g.row.N head)) c.end.ensures
    ∙ lists_of-Holds c.new.result (replicate g.row.N None) (replicate g.row.N None) (replicate g.row.N [])
    (Holds-new c.new.result g.row.N c.new.ensures.arena c.new.ensures.counts.1)

pub returns-clause-apart : goal.returns-clause-apart
returns-clause-apart g c =
    rw (
      c.end.ensures,
      lists_of-Holds c.new.result (replicate g.row.N None) (replicate g.row.N None)
          (replicate g.row.N []) (Holds-new c.new.result g.row.N c.new.ensures.arena c.new.ensures.counts.1),
    )
    (AreLists-Linked _ _ _ _ g.row.N
    (Holds-new c.new.result g.row.N c.new.ensures.arena c.new.ensures.counts.1).linked (simp length-replicate))
