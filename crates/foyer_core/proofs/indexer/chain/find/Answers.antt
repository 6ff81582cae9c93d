use Rattle.std.proofs.Common.{◌≡◌, false, length, arith, ap, sym, ◌∙◌}
use Rattle.foyer_core.specs.Indexer.{same_key}
use Rattle.foyer_core.specs.Chains.{nexts_of, chain_of, home}
use Rattle.foyer_core.proofs.PathLemmas.{onward_read, stands_within}
use Rattle.foyer_core.proofs.FindLemmas.{found, other_hash, other_key, passed_more, absent}
use Rattle.foyer_core.proofs.indexer.chain.find.Goals as goal
use Rattle.foyer_core.proofs.indexer.chain.find.Goals.{else-pair-hash-via-then-pair-hash+else-eq, else-pair-hash-via-else-pair-hash}

pub offset_bounds-pairs-place : goal.offset_bounds-pairs-place
offset_bounds-pairs-place g c =
    omega (
      arith,
      stands_within c.args.pairs.now c.loop-place.link c.in-Some.place (sym c.in-Some.ensures)
          c.loop-place.invariant.path,
    )

pub bounds-pairs-place : goal.bounds-pairs-place
bounds-pairs-place g c = stands_within c.args.pairs.now c.loop-place.link c.in-Some.place (sym c.in-Some.ensures)
    c.loop-place.invariant.path

pub returns-then-eq-clause-found : goal.returns-then-eq-clause-found
returns-then-eq-clause-found g c =
    let lt = stands_within c.args.pairs.now c.loop-place.link c.in-Some.place (sym c.in-Some.ensures)
    c.loop-place.invariant.path in
    found g.K.PartialEq.eq c.args.hash c.args.key.now c.args.pairs.now c.in-Some.place c.index-pairs-place.result lt
    c.index-pairs-place.is c.if-pair-hash.true (sym c.eq.ensures ∙ c.if-eq.true)

pub loop-place-smaller : goal.loop-place-smaller
loop-place-smaller g c =
    let o = onward_read c.args.pairs.now c.loop-place.link c.in-Some.place c.index-pairs-place.result
    c.index-pairs-place.is (sym c.in-Some.ensures) c.loop-place.invariant.path in
    omega (arith, ap length o.is)

pub loop-place-preserved : goal.loop-place-preserved
loop-place-preserved g c =
    let o = onward_read c.args.pairs.now c.loop-place.link c.in-Some.place c.index-pairs-place.result
    c.index-pairs-place.is (sym c.in-Some.ensures) c.loop-place.invariant.path in
    let lt = stands_within c.args.pairs.now c.loop-place.link c.in-Some.place (sym c.in-Some.ensures)
    c.loop-place.invariant.path in
    let other : same_key g.K.PartialEq.eq (c.args.hash, c.args.key.now)
    (c.index-pairs-place.result.hash, c.index-pairs-place.result.key) ≡ false =
    elim c.else-pair-hash.branch [
      | else-pair-hash-via-then-pair-hash+else-eq w ↦ other_key g.K.PartialEq.eq c.args.hash c.args.key.now
          c.args.pairs.now c.index-pairs-place.result (sym w.eq.ensures ∙ w.if-eq.false)
      | else-pair-hash-via-else-pair-hash w ↦ other_hash g.K.PartialEq.eq c.args.hash c.args.key.now c.args.pairs.now
          c.index-pairs-place.result w.if-pair-hash.false
    ] in
    record {
      path = o.path;
      passed = passed_more g.K.PartialEq.eq c.args.hash c.args.key.now c.args.pairs.now
          (chain_of c.args.heads.now (nexts_of c.args.pairs.now) (home c.args.shift c.args.hash)) _ _ c.in-Some.place
          c.index-pairs-place.result o.is lt c.index-pairs-place.is other c.loop-place.invariant.passed;
    }

pub returns-clause-absent : goal.returns-clause-absent
returns-clause-absent g c =
    absent g.K.PartialEq.eq c.args.hash c.args.key.now c.args.pairs.now c.args.shift c.args.heads.now
    c.loop-place.link c.requires.linked (sym c.in_default.ensures) c.loop-place.invariant.passed
