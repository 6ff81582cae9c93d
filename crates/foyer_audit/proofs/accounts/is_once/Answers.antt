use Rattle.std.proofs.Common.{◌≡◌, ◌∙◌, ◌+◌, if◌then◌else◌, All, List, Bool, arith, ap, subst, sym}
use Rattle.std.proofs.lemmas.List.Elements.{All-get_or}
use Rattle.foyer_audit.specs.declared.receipt.Receipt.{Receipt}
use Rattle.foyer_audit.specs.declared.receipt.Share.{Share}
use Rattle.foyer_audit.specs.Accounts.{Rise, times}
use Rattle.foyer_audit.proofs.Accounted.{counted_here, found_before, found_now, times-more, times-too_many}
use Rattle.foyer_audit.proofs.accounts.is_once.Goals as goal
use Rattle.foyer_audit.proofs.accounts.is_once.Goals.{then-has_number+else-found, else-has_number}

pub has_number-requires : goal.has_number-requires
has_number-requires g c =
    let rises = λ (s : Share g.row.G.Denot g.row.K.Denot g.row.V.Denot g.row.P.Denot g.row.Q.Denot g.row.C.Denot).
    Rise s.receipts.items in
    let risen = λ (xs : List (Receipt g.row.K.Denot g.row.V.Denot g.row.P.Denot g.row.Q.Denot g.row.C.Denot)). Rise
    xs in
    subst risen (sym c.receipts.ensures)
    (subst rises (sym c.share-item.is)
    (All-get_or rises c.args.shares.now c.loop-share.share-index c.share-item.result c.loop-share-test.true
    c.requires))

pub returns-then-found : goal.returns-then-found
returns-then-found g c =
    let receipts = λ (s : Share g.row.G.Denot g.row.K.Denot g.row.V.Denot g.row.P.Denot g.row.Q.Denot g.row.C.Denot).
    s.receipts.items in
    let before = c.loop-share.invariant ∙ ap (λ (b : Bool). if b then 1 else 0) c.if-found.true in
    let here = counted_here receipts c.args.number c.share-item.result c.receipts.result.now c.receipts.ensures
    (c.has_number.ensures ∙ ap (λ (b : Bool). if b then 1 else 0) c.if-has_number.true) in (
      λ yes. absurd (cc),
      λ one.
          absurd (times-too_many receipts c.args.shares.now c.args.number c.loop-share.share-index c.share-item.result
          c.loop-share-test.true c.share-item.is before here one),
    )

pub loop-share-preserved : goal.loop-share-preserved
loop-share-preserved g c =
    let receipts = λ (s : Share g.row.G.Denot g.row.K.Denot g.row.V.Denot g.row.P.Denot g.row.Q.Denot g.row.C.Denot).
    s.receipts.items in
    let here = counted_here receipts c.args.number c.share-item.result c.receipts.result.now c.receipts.ensures
    c.has_number.ensures in
    let more = times-more receipts c.args.shares.now c.args.number c.loop-share.share-index c.share-item.result _
    c.loop-share-test.true c.share-item.is here in
    elim c.if-has_number.branch [
      | then-has_number+else-found w ↦ found_now _ _ _ _ _ c.loop-share.invariant more w.if-has_number.true
          w.if-found.false w.found-is
      | else-has_number w ↦ found_before _ _ _ _ _ c.loop-share.invariant more w.if-has_number.false w.found-is
    ]
