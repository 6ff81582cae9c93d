use Rattle.std.proofs.Common.{All, refl, subst, sym}
use Rattle.std.proofs.lemmas.List.{take_all}
use Rattle.std.proofs.lemmas.List.Elements.{All-get_or, All-more}
use Rattle.foyer_audit.specs.declared.receipt.Receipt.{Receipt}
use Rattle.foyer_audit.specs.Accounts.{Stands}
use Rattle.foyer_audit.proofs.accounts.each_stands.Goals as goal

pub returns-then-not-stands : goal.returns-then-not-stands
returns-then-not-stands g c =
    let stand = λ (r : Receipt g.row.K.Denot g.row.V.Denot g.row.P.Denot g.row.Q.Denot g.row.C.Denot). Stands
    g.Q.Compared.same g.Q.Compared.alike c.args.history.now r in
    let i = c.loop-receipt.receipt-index in (
      λ yes. absurd (cc),
      λ all. absurd (
          let here = subst stand (sym c.receipt-item.is)
          (All-get_or stand c.args.receipts.now i c.receipt-item.result c.loop-receipt-test.true all) in
          let found = c.stands.ensures.1 here in cc),
    )

pub loop-receipt-preserved : goal.loop-receipt-preserved
loop-receipt-preserved g c =
    let stand = λ (r : Receipt g.row.K.Denot g.row.V.Denot g.row.P.Denot g.row.Q.Denot g.row.C.Denot). Stands
    g.Q.Compared.same g.Q.Compared.alike c.args.history.now r in
    All-more stand c.args.receipts.now c.loop-receipt.receipt-index c.receipt-item.result c.loop-receipt-test.true
    c.loop-receipt.invariant
    (subst stand c.receipt-item.is (c.stands.ensures.0 c.if-not-stands.false))

pub returns : goal.returns
returns g c =
    let stand = λ (r : Receipt g.row.K.Denot g.row.V.Denot g.row.P.Denot g.row.Q.Denot g.row.C.Denot). Stands
    g.Q.Compared.same g.Q.Compared.alike c.args.history.now r in (
      λ yes. subst (All stand) (take_all c.loop-receipt.receipt-index c.args.receipts.now c.loop-receipt-test.false)
          c.loop-receipt.invariant,
      λ all. refl,
    )
