use Rattle.std.proofs.Common.{length, arith, ap, sym, ◌∙◌}
use Rattle.std.proofs.lemmas.List.{length-map}
use Rattle.foyer_core.specs.declared.indexer.chain.Pair.{Pair}
use Rattle.foyer_core.specs.Chains.{nexts_of}
use Rattle.foyer_core.proofs.PathLemmas.{onward, before_in-here, before_in-past, before_in-end}
use Rattle.foyer_core.proofs.indexer.chain.place_before.Goals as goal

pub loop-at-smaller : goal.loop-at-smaller
loop-at-smaller g c =
    let o = onward c.args.pairs.now c.loop-at.link c.in-Some.at c.index-pairs-at.result (sym c.in-Some.ensures)
    c.loop-at.invariant.path in
    omega (arith, ap length o.is)

pub loop-at-preserved : goal.loop-at-preserved
loop-at-preserved g c =
    let o = onward c.args.pairs.now c.loop-at.link c.in-Some.at c.index-pairs-at.result (sym c.in-Some.ensures)
    c.loop-at.invariant.path in
    record {
      path = o.path;
      within = omega (arith, o.within, length-map c.args.pairs.now (λ (p : Pair g.row.K.Denot). p.next));
      same = sym (before_in-past c.loop-at.before c.args.place c.in-Some.at _ _ o.is c.if-at-place.false)
          ∙ c.loop-at.invariant.same;
    }

pub returns-then-at-place-clause-place : goal.returns-then-at-place-clause-place
returns-then-at-place-clause-place g c =
    let o = onward c.args.pairs.now c.loop-at.link c.in-Some.at c.index-pairs-place.result (sym c.in-Some.ensures)
    c.loop-at.invariant.path in
    sym (before_in-here c.loop-at.before c.args.place c.in-Some.at _ _ o.is c.if-at-place.true)
    ∙ c.loop-at.invariant.same

pub returns-in_default-clause-place : goal.returns-in_default-clause-place
returns-in_default-clause-place g c =
    let nexts = nexts_of c.args.pairs.now in
    sym (before_in-end c.loop-at.before c.args.place nexts (length nexts) c.loop-at.link (sym c.in_default.ensures))
    ∙ c.loop-at.invariant.same
