use Rattle.std.proofs.Common.{◌∷◌, ◌++◌, [], Some, ap, ◌∙◌, arith}
use Rattle.foyer_policy.specs.DateSlots.{on_of}
use Rattle.foyer_policy.proofs.DatesLemmas.{on_of-append}
use Rattle.foyer_policy.proofs.DatesWritten.{AreDates-pushed}
use Rattle.foyer_policy.proofs.dates.slots.Slots.push.Goals as goal

pub invariant_of-self : goal.invariant_of-self
invariant_of-self c =
    let s = c.self.inside in
    let free = rw (← c.self.view_is) at c.requires in
    let len = c.len-index.ensures in
    AreDates-pushed s.limit s.row s.tree c.self.invariant (c.args.place, c.args.date) free
    (omega (arith, len, c.if-index-self.false)) c.push_reserved.new.self c.lower.new.tree
    c.push_reserved.ensures.slots c.push_reserved.ensures.capacity c.lower.ensures.length
    (rw len at c.lower.ensures.here) c.lower.ensures.less

pub returns : goal.returns
returns c = λ some.
    let s = c.self.inside in
    ap on_of c.push_reserved.ensures.slots
    ∙ on_of-append s.row.slots (Some (c.args.place, c.args.date) ∷ [])
    ∙ ap (λ r. r ++ (c.args.place, c.args.date) ∷ []) c.self.view_is
