use Rattle.std.proofs.Common.{ℕ, ◌<◌, List, Option, length, sym, ap, ◌∙◌, subst, arith}
use Rattle.std.proofs.lemmas.List.{with_items_is}
use Rattle.foyer_core.specs.Chains.{entries_of, hashes_of, nexts_of, AllInChains}
use Rattle.foyer_core.proofs.FindLemmas.{length-entries_of}
use Rattle.foyer_core.proofs.RoomLemmas.{some_heads}
use Rattle.foyer_core.proofs.IndexLemmas.{shifted_as, lookup-unmoved, lookup-takes}
use Rattle.foyer_core.proofs.indexer.hash_table.HashTableIndexerIndexer.remove.Goals as goal

pub returns-in_err-place-clause-view : goal.returns-in_err-place-clause-view
returns-in_err-place-clause-view g c =
    let none = rw c.deref-2.ensures.value at c.in_err-place.ensures.absent in
    λ q. lookup-unmoved g.met.K.Eq.laws (c.args.hash, c.args.key.now) (entries_of c.args.self.now.pairs.items) none q

pub swap_remove-number-requires-clause-heads : goal.swap_remove-number-requires-clause-heads
swap_remove-number-requires-clause-heads g c =
    let at = rw c.deref-2.ensures.value at c.in_ok-place.ensures.found in
    let lt : c.in_ok-place.place < length c.args.self.now.pairs.items =
    omega (arith, at.within, length-entries_of c.args.self.now.pairs.items) in
    ap length c.deref_mut.ensures.value ∙ c.args.self.now.shifted.1
    (some_heads c.args.self.now.shift c.args.self.now.heads.items c.args.self.now.pairs.items c.in_ok-place.place
    c.args.self.now.linked lt)

pub invariant_of-self-2 : goal.invariant_of-self-2
invariant_of-self-2 g c =
    let at = rw c.deref-2.ensures.value at c.in_ok-place.ensures.found in
    let heads = with_items_is c.args.self.now.heads c.swap_remove-number.new.heads
    (c.swap_remove-number.auto.heads ∙ c.deref_mut.ensures.len) in
    record {
      shifted = shifted_as c.args.self.now.shift (length c.args.self.now.heads.items) _
          (ap length heads ∙ c.swap_remove-number.auto.heads ∙ ap length c.deref_mut.ensures.value)
          c.args.self.now.shifted;
      linked = subst
          (λ (hs : List (Option ℕ)). AllInChains c.args.self.now.shift hs
          (hashes_of c.swap_remove-number.new.pairs.items) (nexts_of c.swap_remove-number.new.pairs.items))
          (sym heads) c.swap_remove-number.ensures.linked;
      distinct =
          (lookup-takes g.met.K.Eq.laws (c.args.hash, c.args.key.now) (entries_of c.args.self.now.pairs.items)
          (entries_of c.swap_remove-number.new.pairs.items) c.in_ok-place.place c.swap_remove-number.result
          c.args.self.now.distinct at c.swap_remove-number.ensures.taken).2;
    }

pub returns-clause-was : goal.returns-clause-was
returns-clause-was g c =
    let at = rw c.deref-2.ensures.value at c.in_ok-place.ensures.found in
    sym (lookup-takes g.met.K.Eq.laws (c.args.hash, c.args.key.now) (entries_of c.args.self.now.pairs.items)
    (entries_of c.swap_remove-number.new.pairs.items) c.in_ok-place.place c.swap_remove-number.result
    c.args.self.now.distinct at c.swap_remove-number.ensures.taken).0

pub returns-clause-view : goal.returns-clause-view
returns-clause-view g c =
    let at = rw c.deref-2.ensures.value at c.in_ok-place.ensures.found in
    (lookup-takes g.met.K.Eq.laws (c.args.hash, c.args.key.now) (entries_of c.args.self.now.pairs.items)
    (entries_of c.swap_remove-number.new.pairs.items) c.in_ok-place.place c.swap_remove-number.result
    c.args.self.now.distinct at c.swap_remove-number.ensures.taken).1
