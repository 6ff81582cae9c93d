use Rattle.std.proofs.Common.{◌≡◌, ℕ, List, Option, false, ◌^◌, ◌-◌, ◌*◌, ◌%◌, ◌<◌, length, replicate, refl, sym, ap, ◌∙◌, subst, arith}
use Rattle.std.specs.Prelude.{nat_lt}
use Rattle.std.proofs.lemmas.Bool.Decides.{nat_tests}
use Rattle.std.proofs.lemmas.List.{with_items_is}
use Rattle.std.proofs.lemmas.Nat.{pow_below}
use Rattle.std.proofs.Math.Nat.{mod-eq_of_lt}
use Rattle.foyer_core.specs.Chains.{hashes_of, nexts_of, is_in, AreChains}
use Rattle.foyer_core.proofs.RoomLemmas.{none_in, done_more}
use Rattle.foyer_core.proofs.indexer.chain.spread.Goals as goal

pub loop-place-init : goal.loop-place-init
loop-place-init g c =
    let all = c.in_ok-heads.ensures.items_if_clones_equal (λ y same. same) in
    let few : 2 ^ (64 - c.args.shift) < 2 ^ 64 = pow_below (64 - c.args.shift) 64 (omega (arith, c.requires.many)) in
    let once : 1 * 2 ^ (64 - c.args.shift) ≡ 2 ^ (64 - c.args.shift) = omega arith in
    let whole : (1 * 2 ^ (64 - c.args.shift)) % 2 ^ 64 ≡ 2 ^ (64 - c.args.shift) = rw once (mod-eq_of_lt few) in
    let none = none_in c.args.shift c.in_ok-heads.heads.items _ c.args.pairs.now
    (all ∙ ap (replicate _) c.end.ensures) in
    record {
      heads = sym c.in_ok-heads.heads.ok.0 ∙ c.in_ok-heads.ensures.len ∙ whole;
      chains = none.0;
      done = λ i. none.1 i ∙ (let past : nat_lt i 0 ≡ false = grind (arith, nat_tests) in sym past);
      entries = refl;
    }

pub loop-place-preserved : goal.loop-place-preserved
loop-place-preserved g c =
    let heads = with_items_is c.loop-place.heads c.put_in.new.heads (c.put_in.auto.heads ∙ c.deref_mut.ensures.len) in
    let e = c.put_in.ensures in
    let was : (i : ℕ) → is_in c.args.shift c.deref_mut.result.now (hashes_of c.loop-place.pairs)
    (nexts_of c.loop-place.pairs) i ≡ nat_lt i c.loop-place.place =
    subst (λ (hs : List (Option ℕ)). (i : ℕ) →
    is_in c.args.shift hs (hashes_of c.loop-place.pairs) (nexts_of c.loop-place.pairs) i
    ≡ nat_lt i c.loop-place.place) (sym c.deref_mut.ensures.value) c.loop-place.invariant.done in
    record {
      heads = ap length heads ∙ c.put_in.auto.heads ∙ ap length c.deref_mut.ensures.value
          ∙ c.loop-place.invariant.heads;
      chains = subst
          (λ (hs : List (Option ℕ)). AreChains c.args.shift hs (hashes_of c.put_in.new.pairs)
          (nexts_of c.put_in.new.pairs)) (sym heads) e.chains;
      done = λ i.
          ap (λ (hs : List (Option ℕ)). is_in c.args.shift hs (hashes_of c.put_in.new.pairs)
          (nexts_of c.put_in.new.pairs) i) heads
          ∙ done_more _
          (λ j. is_in c.args.shift c.put_in.new.heads (hashes_of c.put_in.new.pairs) (nexts_of c.put_in.new.pairs)
          j) c.loop-place.place was e.linked i;
      entries = e.entries ∙ c.loop-place.invariant.entries;
    }
