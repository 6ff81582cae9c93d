use Rattle.std.proofs.Common.{◌≡◌, ◌<◌, ◌∙◌, ap, sym}
use Rattle.std.specs.Option.{option_copied}
use Rattle.foyer_policy.specs.Lru.{limits_by, limits_or}
use Rattle.foyer_policy.specs.declared.error.Field.TheVariants.{HighPriorityPool}
use Rattle.foyer_policy.specs.declared.limit.Range.TheVariants.{Closed}
use Rattle.foyer_policy.specs.declared.types.Ratio.{Ratio}
use Rattle.foyer_policy.proofs.LruPushes.{updated_is, accepted-divides}
use Rattle.foyer_policy.proofs.LruViews.{settled-view}
use Rattle.foyer_policy.proofs.lru.LruEviction.update.Goals as goal
use Rattle.foyer_policy.proofs.lru.LruEviction.update.Goals.{in-Some+in_ok-check-in-Some, in-None}

pub invariant_of-self : goal.invariant_of-self
invariant_of-self c =
    let i = c.self.inside in
    let ratio : Ratio = c.match-config.ratio in
    let divides : 0 < ratio.den =
    elim c.match-config.branch [
      | in-Some+in_ok-check-in-Some w ↦ rw w.ratio-is
          (accepted-divides Closed HighPriorityPool w.in-Some.config.now.high_priority_pool_ratio
          w.in_ok-check-in-Some.field-0 (sym w.check.ensures ∙ w.in_ok-check-in-Some.was))
      | in-None w ↦ rw w.ratio-is c.self.invariant.divides
    ] in
    updated_is i.lists.lists i.limit i.ratio i.high_weight i.pinned_weight c.self.invariant
    c.limit_of-self-inside.result ratio c.settle-self-inside.new.lists.lists
    c.settle-self-inside.ensures.low c.settle-self-inside.ensures.high c.settle-self-inside.ensures.pin divides
    c.settle-self-inside.result c.settle-self-inside.ensures.weight

pub returns-clause-view : goal.returns-clause-view
returns-clause-view c =
    let i = c.self.inside in
    let same : limits_by c.args.capacity c.match-config.ratio
    ≡ limits_or i.ratio c.args.capacity (option_copied c.args.config) =
    elim c.match-config.branch [
      | in-Some+in_ok-check-in-Some w ↦ rw w.in-Some.is (ap (limits_by c.args.capacity) w.ratio-is)
      | in-None w ↦ rw w.in-None.is (ap (limits_by c.args.capacity) w.ratio-is)
    ] in
    let to = settled-view i.lists.lists c.settle-self-inside.new.lists.lists c.limit_of-self-inside.result
    c.settle-self-inside.ensures.low c.settle-self-inside.ensures.high c.settle-self-inside.ensures.pin
    c.match-config.ratio in
    rw (← c.self.view_is, ← same, ← c.limit_of-self-inside.ensures) to
