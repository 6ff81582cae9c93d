use Rattle.std.proofs.Common.{◌≡◌, suc, ◌-◌, ◌<◌, ◌≤◌, ◌∙◌, ap, subst, length, arith}
use Rattle.foyer_policy.specs.Arena.{AreMoved}
use Rattle.foyer_policy.proofs.ArenaGrowth.{moved-one, length-moved}
use Rattle.foyer_policy.proofs.lists.arena.hand_over_all.Goals as goal

pub loop-place-preserved : goal.loop-place-preserved
loop-place-preserved g c =
    let i = c.loop-place.invariant in let k = c.loop-place.place - 1 in let e = c.hand_over-free.ensures in
    let ls = c.args.from.now.links in let vs0 = c.args.from.now.values in
    let next : c.loop-place.place ≡ suc k = omega (arith, c.loop-place-test.true) in
    let old = subst
    (AreMoved g.row.N ls vs0 c.loop-place.from.values c.loop-place.to.links c.loop-place.to.values
    c.loop-place.free) next i.moved in
    let lt : k < length c.loop-place.to.links = omega (arith, i.to_len, i.within, next) in
    let more : length vs0 ≤ length c.loop-place.to.links =
    omega (arith, c.requires.from.2, i.to_len, c.requires.more.0) in
    record {
      from_at = e.from.0 ∙ i.from_at;
      from_links = e.from.1 ∙ i.from_links;
      to_at = e.to.0 ∙ i.to_at;
      to_len = ap length e.to.1 ∙ length-moved _ _ _ _ _ _ ∙ i.to_len;
      within = omega (arith, i.within);
      moved = rw (e.from.2, e.to.1, e.to.2, e.free, i.from_links)
          (moved-one g.row.N ls vs0 c.loop-place.from.values c.loop-place.to.links c.loop-place.to.values
          c.loop-place.free k old lt (λ less. c.requires.marked k (omega (arith, less, c.requires.from.2))) more);
    }
