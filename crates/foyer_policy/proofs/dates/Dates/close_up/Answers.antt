use Rattle.std.proofs.Common.{◌∙◌, refl, ap, length}
use Rattle.foyer_policy.proofs.DatesSame.{same_item}
use Rattle.foyer_policy.proofs.dates.Dates.close_up.Goals as goal

pub loop-list-init : goal.loop-list-init
loop-list-init g c = record { rows = refl; lists = refl }

pub loop-list-preserved : goal.loop-list-preserved
loop-list-preserved g c = record {
  rows =
      same_item c.loop-list.self-inside.rows.items c.loop-list.list c.index_mut.result.now c.close_up.new.self
      c.index_mut.ensures.value c.close_up.ensures.same
      ∙ c.loop-list.invariant.rows;
  lists = c.close_up.ensures.lists ∙ c.loop-list.invariant.lists;
}

pub returns-clause-same : goal.returns-clause-same
returns-clause-same g c =
    rw (← c.self.view_is)
    (ap (λ rows. record { dated = rows; lists = length rows }) c.loop-list.invariant.rows)

pub returns-clause-lists : goal.returns-clause-lists
returns-clause-lists g c = c.loop-list.invariant.lists
