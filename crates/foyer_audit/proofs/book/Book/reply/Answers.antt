use Rattle.std.proofs.Common.{length, refl, sym, ap, ◌∙◌}
use Rattle.std.specs.Prelude.{slice_get}
use Rattle.std.proofs.lemmas.Option.{slice_get_past, slice_get_read}
use Rattle.foyer_audit.proofs.book.Book.reply.Goals as goal

pub returns-in-Some : goal.returns-in-Some
returns-in-Some g c =
    let found = c.in-Some.ensures.lookup in (
      c.in-Some.call.now.0,
      ap (λ xs. slice_get xs c.args.number) (sym c.deref.ensures.value)
          ∙ slice_get_read c.deref.result.now (length c.deref.result.now) c.args.number c.in-Some.call.now refl
          found.3.0 found.1,
    )

pub returns-in-None : goal.returns-in-None
returns-in-None g c =
    ap (λ xs. slice_get xs c.args.number) (sym c.deref.ensures.value)
    ∙ slice_get_past c.deref.result.now c.args.number c.in-None.ensures.lookup.3
