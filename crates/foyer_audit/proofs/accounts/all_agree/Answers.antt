use Rattle.std.proofs.Common.{All, refl, subst, sym}
use Rattle.std.proofs.lemmas.List.{take_all}
use Rattle.std.proofs.lemmas.List.Elements.{All-get_or, All-more}
use Rattle.foyer_audit.specs.declared.receipt.Share.{Share}
use Rattle.foyer_audit.specs.Accounts.{Agree}
use Rattle.foyer_audit.proofs.accounts.all_agree.Goals as goal

pub returns-then-not-agree : goal.returns-then-not-agree
returns-then-not-agree g c =
    let agrees = λ (s : Share g.row.G.Denot g.row.K.Denot g.row.V.Denot g.row.P.Denot g.row.Q.Denot g.row.C.Denot).
    Agree g.Q.Compared.same g.Q.Compared.alike c.args.history.now s.receipts.items in (
      λ yes. absurd (cc),
      λ all. absurd (
          let here = subst agrees (sym c.share-item.is)
          (All-get_or agrees c.args.shares.now c.loop-share.share-index c.share-item.result c.loop-share-test.true
          all) in
          let found = c.agree.ensures.1 here in cc),
    )

pub loop-share-preserved : goal.loop-share-preserved
loop-share-preserved g c =
    let agrees = λ (s : Share g.row.G.Denot g.row.K.Denot g.row.V.Denot g.row.P.Denot g.row.Q.Denot g.row.C.Denot).
    Agree g.Q.Compared.same g.Q.Compared.alike c.args.history.now s.receipts.items in
    All-more agrees c.args.shares.now c.loop-share.share-index c.share-item.result c.loop-share-test.true
    c.loop-share.invariant
    (subst agrees c.share-item.is (c.agree.ensures.0 c.if-not-agree.false))

pub returns : goal.returns
returns g c =
    let agrees = λ (s : Share g.row.G.Denot g.row.K.Denot g.row.V.Denot g.row.P.Denot g.row.Q.Denot g.row.C.Denot).
    Agree g.Q.Compared.same g.Q.Compared.alike c.args.history.now s.receipts.items in (
      λ yes. subst (All agrees) (take_all c.loop-share.share-index c.args.shares.now c.loop-share-test.false)
          c.loop-share.invariant,
      λ agree. refl,
    )
