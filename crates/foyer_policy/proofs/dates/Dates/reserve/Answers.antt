use Rattle.std.proofs.Common.{[], ◌∙◌, refl, ap, arith, length, get_or}
use Rattle.foyer_policy.proofs.DatesSame.{same_item}
use Rattle.foyer_policy.proofs.dates.Dates.reserve.Goals as goal

pub loop-list-init : goal.loop-list-init
loop-list-init g c = record { rows = refl; lists = refl }

pub index_mut-row-requires : goal.index_mut-row-requires
index_mut-row-requires g c =
    let count = ap length c.loop-list.invariant.rows in
    omega (arith, count, c.loop-list.self-inside.rows.ok.0, c.self.inside.rows.ok.0)

pub returns-in_err-grow-clause-same : goal.returns-in_err-grow-clause-same
returns-in_err-grow-clause-same g c =
    rw (← c.self.view_is)
    (λ k less. ap (λ rows. get_or rows k [])
    (same_item c.loop-list.self-inside.rows.items c.loop-list.list c.index_mut-row.result.now c.grow.new.self
    c.index_mut-row.ensures.value c.grow.ensures.same
    ∙ c.loop-list.invariant.rows))

pub returns-in_err-grow-clause-count : goal.returns-in_err-grow-clause-count
returns-in_err-grow-clause-count g c =
    rw (← c.self.view_is)
    (ap length
    (same_item c.loop-list.self-inside.rows.items c.loop-list.list c.index_mut-row.result.now c.grow.new.self
    c.index_mut-row.ensures.value c.grow.ensures.same
    ∙ c.loop-list.invariant.rows))

pub returns-in_err-grow-clause-lists : goal.returns-in_err-grow-clause-lists
returns-in_err-grow-clause-lists g c = c.grow.ensures.lists ∙ c.loop-list.invariant.lists

pub loop-list-preserved : goal.loop-list-preserved
loop-list-preserved g c = record {
  rows =
      same_item c.loop-list.self-inside.rows.items c.loop-list.list c.index_mut-row.result.now c.grow.new.self
      c.index_mut-row.ensures.value c.grow.ensures.same
      ∙ c.loop-list.invariant.rows;
  lists = c.grow.ensures.lists ∙ c.loop-list.invariant.lists;
}

pub returns-clause-same : goal.returns-clause-same
returns-clause-same g c =
    rw (← c.self.view_is) (λ k less. ap (λ rows. get_or rows k []) c.loop-list.invariant.rows)

pub returns-clause-count : goal.returns-clause-count
returns-clause-count g c = rw (← c.self.view_is) (ap length c.loop-list.invariant.rows)

pub returns-clause-lists : goal.returns-clause-lists
returns-clause-lists g c = c.loop-list.invariant.lists
