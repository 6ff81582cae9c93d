use Rattle.std.proofs.Common.{suc, sym, arith}
use Rattle.foyer_policy.proofs.MinTreeLemmas.{leaves-many, leftmost-zero, leftmost-last}
use Rattle.foyer_policy.proofs.min_tree.first_for.Goals as goal

pub loop-first-init : goal.loop-first-init
loop-first-init c = (omega arith, omega arith, omega arith, (0, sym (leftmost-zero 1)))

pub loop-first-preserved : goal.loop-first-preserved
loop-first-preserved c =
    let h = c.loop-first.invariant.3 in (
      omega arith,
      omega arith,
      omega arith,
      (suc h.0, omega (arith, h.1, leftmost-last 1 h.0 (omega arith))),
    )

pub returns-clause-lowest : goal.returns-clause-lowest
returns-clause-lowest c = c.loop-first.invariant.3

pub returns-then-first-clause-none : goal.returns-then-first-clause-none
returns-then-first-clause-none c =
    let h = c.loop-first.invariant.3 in
    omega (arith, leaves-many c.loop-first.first h.0 h.1 (omega arith))
