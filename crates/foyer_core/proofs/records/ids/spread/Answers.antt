use Rattle.std.proofs.Common.{◌≡◌, ℕ, ◌+◌, ◌^◌, List, sym, ◌∙◌, ap, subst, arith}
use Rattle.foyer_core.specs.declared.records.ids.Standing.{Standing}
use Rattle.foyer_core.proofs.NearLemmas.{AreSpread, spread_more, spread_all}
use Rattle.foyer_core.proofs.records.ids.spread.Goals as goal

pub loop-place-init : goal.loop-place-init
loop-place-init c = record {
  room = c.in_ok-wider.ensures.exact;
  many = c.in_ok-wider.ensures.len;
  named = λ id below. absurd (omega (arith, below));
}

pub loop-place-preserved : goal.loop-place-preserved
loop-place-preserved c = record {
  room = c.push_reserved.ensures.capacity ∙ c.loop-place.invariant.room;
  many = c.push_reserved.ensures.len ∙ ap (λ (n : ℕ). n + 1) c.loop-place.invariant.many;
  named = subst (λ (ns : List Standing). AreSpread c.args.near.now ns c.args.end c.args.bits (c.loop-place.place + 1))
      (sym c.push_reserved.ensures.items)
      (spread_more c.args.near.now c.loop-place.wider.items c.args.end c.args.bits c.loop-place.place c.stays_at.result
      (sym c.loop-place.wider.ok.0 ∙ c.loop-place.invariant.many) c.loop-place.invariant.named c.stays_at.ensures);
}

pub returns-clause-same : goal.returns-clause-same
returns-clause-same c =
    let all : c.loop-place.place ≡ 2 ^ c.args.bits = omega (arith, c.loop-place.auto.place-end, c.places_of-places.ensures.value) in
    spread_all c.args.near.now c.loop-place.wider.items c.args.end c.args.bits
    (sym c.loop-place.wider.ok.0 ∙ c.loop-place.invariant.many ∙ all) c.requires.half
    (subst (λ (n : ℕ). AreSpread c.args.near.now c.loop-place.wider.items c.args.end c.args.bits n) all
    c.loop-place.invariant.named)
