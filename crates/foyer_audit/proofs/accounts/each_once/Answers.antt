use Rattle.std.proofs.Common.{arith, below_more, refl, rules}
use Rattle.foyer_audit.specs.declared.receipt.Share.{Share}
use Rattle.foyer_audit.proofs.Accounted.{each_once_from_below, once_from_each}
use Rattle.foyer_audit.proofs.accounts.each_once.Goals as goal

pub returns-then-not-is_once : goal.returns-then-not-is_once
returns-then-not-is_once g c =
    let receipts = λ (s : Share g.row.G.Denot g.row.K.Denot g.row.V.Denot g.row.P.Denot g.row.Q.Denot g.row.C.Denot).
    s.receipts.items in (
      λ yes. absurd (cc),
      λ each.
          absurd (let found = c.is_once.ensures.1
          (once_from_each receipts c.args.shares.now c.args.len each c.loop-number.number c.loop-number-test.true)
          in cc),
    )

pub loop-number-preserved : goal.loop-number-preserved
loop-number-preserved g c = below_more _ _ c.loop-number.invariant (c.is_once.ensures.0 (search rules))

pub returns : goal.returns
returns g c =
    let receipts = λ (s : Share g.row.G.Denot g.row.K.Denot g.row.V.Denot g.row.P.Denot g.row.Q.Denot g.row.C.Denot).
    s.receipts.items in (
      λ yes. each_once_from_below receipts c.args.shares.now c.args.len c.requires.below
          (λ k lt. c.loop-number.invariant k (omega arith)),
      λ each. refl,
    )
