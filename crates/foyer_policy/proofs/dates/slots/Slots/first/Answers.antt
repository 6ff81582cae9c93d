use Rattle.std.proofs.Common.{◌≤◌, ◌*◌, Some, inl, inr, length, sym, ◌∙◌, arith}
use Rattle.std.proofs.lemmas.Bool.{cases_lt}
use Rattle.std.proofs.lemmas.Option.{slice_get_within}
use Rattle.foyer_policy.proofs.DatesFirst.{first_by-drop, first_by-none, found_is, none_is, answer_is, late_slots, late_before, late_around}
use Rattle.foyer_policy.proofs.dates.slots.Slots.first.Goals as goal

pub returns-in_err-block : goal.returns-in_err-block
returns-in_err-block c =
    let s = c.self.inside in
    let d = c.self.invariant in
    rw (← c.self.view_is)
    (c.from_residual.ensures
    ∙ sym (first_by-none c.args.now s.row.slots
    (late_slots c.args.now s.limit s.row.slots s.tree d.above d.leaves d.within c.in_err-block.ensures.none)))

pub returns-then-is_some : goal.returns-then-is_some
returns-then-is_some c =
    let s = c.self.inside in
    let d = c.self.invariant in
    let start = c.saturating_mul-start.result in
    let low : start ≤ 32 * c.in_ok-block.block = omega (arith, c.saturating_mul-start.ensures) in
    rw (← c.self.view_is)
    (found_is c.first_between-found.result _ c.first_between-found.ensures.some
    (sym c.is_some.ensures ∙ c.if-is_some.true)
    ∙ sym (first_by-drop c.args.now start s.row.slots
    (late_before c.args.now s.limit s.row.slots s.tree d.above d.leaves d.within c.in_ok-block.block start low
    c.in_ok-block.ensures.first)))

pub returns-in_err-block-2 : goal.returns-in_err-block-2
returns-in_err-block-2 c =
    let s = c.self.inside in
    let d = c.self.invariant in
    let none = none_is c.first_between-found.result c.first_between-found.ensures.none
    (sym c.is_some.ensures ∙ c.if-is_some.false) in
    let late = late_around c.args.now s.limit s.row.slots s.tree d.above d.leaves d.within
    c.in_ok-block.block (length s.tree) c.in_ok-block.ensures.first
    (λ j e is at. none j e is (omega (arith, at, c.saturating_mul-start.ensures))
    (omega (
      arith,
      at,
      c.saturating_mul-start.ensures,
      c.saturating_add-end.ensures,
      slice_get_within s.row.slots j (Some e) is,
      d.within,
      d.few,
    )))
    c.in_err-block-2.ensures.none in
    rw (← c.self.view_is)
    (c.from_residual-in_err-block-2.ensures
    ∙ sym (first_by-none c.args.now s.row.slots (λ j e is. late j e is
    (omega (arith, d.leaves, d.within, slice_get_within s.row.slots j (Some e) is)))))

pub returns : goal.returns
returns c =
    let s = c.self.inside in
    let d = c.self.invariant in
    let none = none_is c.first_between-found.result c.first_between-found.ensures.none
    (sym c.is_some.ensures ∙ c.if-is_some.false) in
    let late = late_around c.args.now s.limit s.row.slots s.tree d.above d.leaves d.within
    c.in_ok-block.block c.in_ok-block-2.block c.in_ok-block.ensures.first
    (λ j e is at. none j e is (omega (arith, at, c.saturating_mul-start.ensures))
    (omega (
      arith,
      at,
      c.saturating_mul-start.ensures,
      c.saturating_add-end.ensures,
      slice_get_within s.row.slots j (Some e) is,
      d.within,
      d.few,
    )))
    c.in_ok-block-2.ensures.first in
    let start = c.saturating_mul-start-2.result in
    let low : start ≤ 32 * c.in_ok-block-2.block = omega (arith, c.saturating_mul-start-2.ensures) in
    let on = first_by-drop c.args.now start s.row.slots (λ j e is lt. late j e is (omega (arith, lt, low))) in
    rw (← c.self.view_is)
    (answer_is c.first_between.result _ c.first_between.ensures.some c.first_between.ensures.none
    (λ rest. sym on ∙ first_by-none c.args.now s.row.slots (λ j e is. elim (cases_lt j start) [
      | inl before ↦ late j e is (omega (arith, before, low))
      | inr past ↦ rest j e is past (omega (arith, slice_get_within s.row.slots j (Some e) is, c.len.ensures))
    ]))
    ∙ sym on)
