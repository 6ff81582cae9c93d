use Rattle.std.proofs.Common.{◌≡◌, ◌∙◌, Some, arith, ap, length, refl, slice_get}
use Rattle.std.proofs.lemmas.List.{length-append}
use Rattle.foyer_audit.proofs.Accounted.{slice_get-push}
use Rattle.foyer_audit.proofs.audited.desk.Desk.call.Goals as goal

pub invariant_of-self-2 : goal.invariant_of-self-2
invariant_of-self-2 g c =
    let applied = c.in_ok-number.ensures.applied in
    record {
      counted = rw (applied.1, length-append) (omega (arith, c.add.ensures.total, c.args.self.now.counted));
      no_parts = c.args.self.now.no_parts;
      no_calls = c.args.self.now.no_calls;
    }

pub returns-clause-recorded : goal.returns-clause-recorded
returns-clause-recorded g c =
    let applied = c.in_ok-number.ensures.applied in
    let made = c.in-Ok-clone.made in
    let calls = c.args.self.now.book.history.items in
    let told = c.copies-told.result in
    let there = slice_get-push calls (made, applied.0) in
    let stands = ap (λ n. slice_get c.apply.new.self.history.items n) c.in_ok-number.ensures.number
    ∙ (ap (λ xs. slice_get xs (length calls)) applied.1 ∙ there) in (
      made,
      applied.0,
      c.requires.commands c.args.command made c.in-Ok-clone.ensures.cases,
      applied.1,
      applied.2,
      record {
        copy = told.1;
        copies = c.copies-told.ensures made applied.0 stands;
        receipts = rw (c.push_reserved.ensures.items, c.reserve.ensures.items) refl;
      },
    )
