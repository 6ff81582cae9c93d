use Rattle.std.proofs.Common.{inr, false, refl, true}
use Rattle.slab.specs.Slab.{get}
use Rattle.luffapricot_c.specs.Conditional.{seen_at}
use Rattle.luffapricot_c.proofs.NamedLemmas.{replaces_by}
use Rattle.luffapricot_c.proofs.cache.ByteCache.replace_if.Goals as goal

pub returns-then-is_current : goal.returns-then-is_current
returns-then-is_current c =
    replaces_by c.args.now c.args.hash c.args.key.now c.args.bytes.now c.args.owner c.args.terms.now
    (seen_at (get c.args.self.now.holds c.args.number)) c.insert_by.result c.insert_by.new.shown c.args.self.now
    c.insert_by.new.self (rw c.if-is_current.true at c.in_ok-is_current.ensures.has) c.insert_by.ensures

pub returns-in-Ok-true : goal.returns-in-Ok-true
returns-in-Ok-true c =
    inr (rw c.if-is_current.false at c.in_ok-is_current.ensures.has, (true, refl, rw c.in-Ok-true.field-0-test at c.in-Ok-true.ensures))

pub returns-in-Ok-false : goal.returns-in-Ok-false
returns-in-Ok-false c =
    inr (rw c.if-is_current.false at c.in_ok-is_current.ensures.has, (false, refl, rw c.in-Ok-false.field-0-test at c.in-Ok-false.ensures))

pub returns-in-Err : goal.returns-in-Err
returns-in-Err c = inr (inr (rw c.if-is_current.false at c.in_ok-is_current.ensures.has, c.in-Err.ensures))
