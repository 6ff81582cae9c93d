use Rattle.std.proofs.Common.{arith, refl}
use Rattle.std.proofs.lemmas.List.{nil_from_length}
use Rattle.luffapricot_c.proofs.WalkLemmas.{next_left, next_none, next_taken}
use Rattle.luffapricot_c.proofs.cache.ByteCache.clear_one.Goals as goal

pub returns-in-Some : goal.returns-in-Some
returns-in-Some c = rw c.show_next.ensures.kept (
  c.in-Some.gone,
  next_left c.args.self.now c.pop.new.self _ _ (rw c.in-Some.is at c.pop.ensures.items),
  c.show_next.ensures.shows,
  refl,
)

pub returns-in-Some-take_any : goal.returns-in-Some-take_any
returns-in-Some-take_any c =
    let old = c.args.self.now in
    let none = nil_from_length old.left.items (omega (arith, old.left.ok.0, c.in_default.ensures.cases.0)) in
    rw c.show_next-in-Some-take_any.ensures.kept (
      c.in-Some-take_any.gone,
      next_taken old c.pop.new.self none (rw c.in_default.is at c.pop.ensures.items) c.take_any.new.self _ _
          (rw c.in-Some-take_any.is at c.take_any.ensures),
      c.show_next-in-Some-take_any.ensures.shows,
      refl,
    )

pub returns-in-None : goal.returns-in-None
returns-in-None c =
    let old = c.args.self.now in
    let none = nil_from_length old.left.items (omega (arith, old.left.ok.0, c.in_default.ensures.cases.0)) in (
      none,
      next_none old c.pop.new.self none (rw c.in_default.is at c.pop.ensures.items) c.take_any.new.self
          (rw c.in-None.is at c.take_any.ensures),
    )
