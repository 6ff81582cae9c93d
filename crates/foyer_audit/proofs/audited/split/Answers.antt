use Rattle.std.proofs.Common.{◌≡◌, ◌∙◌, [], All, arith, ap, length, subst, sym}
use Rattle.std.proofs.lemmas.List.{length-append}
use Rattle.std.proofs.lemmas.List.Elements.{All-push}
use Rattle.foyer_audit.specs.declared.receipt.Share.{Share}
use Rattle.foyer_audit.proofs.audited.split.Goals as goal

pub loop-thread-preserved : goal.loop-thread-preserved
loop-thread-preserved g c =
    let a-share = Share g.row.G.Denot g.row.K.Denot g.row.V.Denot g.row.P.Denot g.row.Q.Denot g.row.C.Denot in
    let pushed = c.in_ok-push.ensures.items in
    let one-part = λ (share : a-share). share.mine.parts ≡ 1 in
    let no-receipt = λ (share : a-share). share.receipts.items ≡ [] in
    record {
      left = omega arith;
      nothing = omega arith;
      many = rw pushed (omega (arith, length-append {A = a-share}));
      parts = subst (All one-part) (sym pushed)
          (All-push one-part _ _ c.loop-thread.invariant.parts
          (ap (λ s. s.parts) c.of.ensures.mine ∙ c.split_off.ensures.parts));
      receipts = subst (All no-receipt) (sym pushed)
          (All-push no-receipt _ _ c.loop-thread.invariant.receipts c.of.ensures.receipts);
    }
