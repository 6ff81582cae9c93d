use Rattle.std.proofs.Common.{◌∙◌, [], ap, arith, length}
use Rattle.std.proofs.lemmas.List.{get_or-replicate, length-replicate, replicate-append-replicate}
use Rattle.foyer_policy.proofs.dates.Dates.new.Goals as goal

pub loop-list-init : goal.loop-list-init
loop-list-init c = c.new-rows.ensures.items

pub loop-list-preserved : goal.loop-list-preserved
loop-list-preserved c =
    c.in_ok-push.ensures.items
    ∙ (rw (c.loop-list.invariant, c.in_ok-row.ensures.none) (replicate-append-replicate c.loop-list._list 1 []))

pub returns-clause-none : goal.returns-clause-none
returns-clause-none c = λ k less. rw c.loop-list.invariant (get_or-replicate c.loop-list._list k [] [] (omega (arith, less, c.loop-list-test.false)))

pub returns-clause-lists : goal.returns-clause-lists
returns-clause-lists c = ap length c.loop-list.invariant ∙ length-replicate c.loop-list._list [] ∙ omega (arith, c.loop-list-test.false, c.loop-list.auto._list-end)
