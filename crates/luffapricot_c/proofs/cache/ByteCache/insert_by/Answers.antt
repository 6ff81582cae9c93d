use Rattle.std.proofs.Common.{◌∙◌, false, refl, sym, true}
use Rattle.luffapricot_c.proofs.cache.ByteCache.insert_by.Goals as goal

pub returns-in-Ok-true : goal.returns-in-Ok-true
returns-in-Ok-true c = rw (sym c.only_if_fits.ensures ∙ c.if-only_if_fits.true)
    (true, refl, rw c.in-Ok-true.field-0-test at c.in-Ok-true.ensures)

pub returns-in-Ok-false : goal.returns-in-Ok-false
returns-in-Ok-false c = rw (sym c.only_if_fits.ensures ∙ c.if-only_if_fits.true)
    (false, refl, rw c.in-Ok-false.field-0-test at c.in-Ok-false.ensures)

pub returns-in-Err : goal.returns-in-Err
returns-in-Err c = rw (sym c.only_if_fits.ensures ∙ c.if-only_if_fits.true) c.in-Err.ensures

pub returns-in-Ok : goal.returns-in-Ok
returns-in-Ok c = rw (sym c.only_if_fits.ensures ∙ c.if-only_if_fits.false) (refl, c.in-Ok.ensures)

pub returns-in-Err-insert_entry : goal.returns-in-Err-insert_entry
returns-in-Err-insert_entry c = rw (sym c.only_if_fits.ensures ∙ c.if-only_if_fits.false) c.in-Err-insert_entry.ensures
