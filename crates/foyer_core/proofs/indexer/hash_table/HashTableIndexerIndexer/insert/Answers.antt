use Rattle.std.proofs.Common.{ℕ, List, [], ◌∷◌, ◌++◌, Option, Some, length, sym, ap, ◌∙◌, subst}
use Rattle.std.specs.List.{IsDistinct}
use Rattle.std.specs.Map.{keys_of, lookup}
use Rattle.std.proofs.lemmas.List.{with_items_is}
use Rattle.foyer_core.specs.Indexer.{same_key}
use Rattle.foyer_core.specs.Chains.{entries_of, hashes_of, nexts_of, AllInChains}
use Rattle.foyer_core.proofs.IndexLemmas.{lookup-read, lookup-with_number, distinct-with_number, linked-with_number, lookup-more, distinct-more, shifted_as}
use Rattle.foyer_core.proofs.indexer.hash_table.HashTableIndexerIndexer.insert.Goals as goal

pub invariant_of-self : goal.invariant_of-self
invariant_of-self g c =
    let at = rw c.deref-2.ensures.value at c.in-Some.ensures.found in
    let s = c.index_mut-pair.ensures.value in
    rw c.replace.ensures.after record {
      shifted = c.args.self.now.shifted;
      linked = linked-with_number g.met.K.Eq.laws (c.args.hash, c.args.key) c.args.self.now.pairs.items
          c.in-Some.place c.index_mut-pair.result.now c.args.self.now.distinct at s c.args.self.now.shift
          c.args.self.now.heads.items c.args.id c.args.self.now.linked;
      distinct = distinct-with_number g.met.K.Eq.laws (c.args.hash, c.args.key) c.args.self.now.pairs.items
          c.in-Some.place c.index_mut-pair.result.now c.args.self.now.distinct at s c.args.id;
    }

pub returns-in-Some-clause-was : goal.returns-in-Some-clause-was
returns-in-Some-clause-was g c =
    let at = rw c.deref-2.ensures.value at c.in-Some.ensures.found in
    ap (λ (n : ℕ). Some n) c.replace.ensures.value
    ∙ sym (lookup-read g.met.K.Eq.laws (c.args.hash, c.args.key) c.args.self.now.pairs.items c.in-Some.place
    c.index_mut-pair.result.now c.args.self.now.distinct at c.index_mut-pair.ensures.value)

pub returns-in-Some-clause-view : goal.returns-in-Some-clause-view
returns-in-Some-clause-view g c =
    let at = rw c.deref-2.ensures.value at c.in-Some.ensures.found in
    rw c.replace.ensures.after
    (λ p. lookup-with_number g.met.K.Eq.laws (c.args.hash, c.args.key) c.args.self.now.pairs.items c.in-Some.place
    c.index_mut-pair.result.now c.args.self.now.distinct at c.index_mut-pair.ensures.value c.args.id p)

pub invariant_of-self-2 : goal.invariant_of-self-2
invariant_of-self-2 g c =
    let none = rw c.deref-2.ensures.value at c.in_default.ensures.absent in
    let heads = with_items_is c.make_room.new.self.heads c.push.new.heads
    (c.push.auto.heads ∙ c.deref_mut.ensures.len) in
    let entries = c.push.ensures.entries ∙
    ap (λ (es : List ((ℕ × g.row.K.Denot) × ℕ)). es ++ ((c.args.hash, c.args.key), c.args.id) ∷ [])
    c.make_room.ensures.entries in
    record {
      shifted = shifted_as c.make_room.new.self.shift (length c.make_room.new.self.heads.items) _
          (ap length heads ∙ c.push.auto.heads ∙ ap length c.deref_mut.ensures.value) c.make_room.new.self.shifted;
      linked = subst
          (λ (hs : List (Option ℕ)). AllInChains c.make_room.new.self.shift hs (hashes_of c.push.new.pairs.items)
          (nexts_of c.push.new.pairs.items)) (sym heads) c.push.ensures.linked;
      distinct = subst (λ (es : List ((ℕ × g.row.K.Denot) × ℕ)). IsDistinct (same_key g.K.PartialEq.eq) (keys_of es))
          (sym entries)
          (distinct-more g.met.K.Eq.laws (entries_of c.args.self.now.pairs.items) (c.args.hash, c.args.key) c.args.id
          c.args.self.now.distinct none);
    }

pub returns-clause-view : goal.returns-clause-view
returns-clause-view g c =
    let none = rw c.deref-2.ensures.value at c.in_default.ensures.absent in
    let entries = c.push.ensures.entries ∙
    ap (λ (es : List ((ℕ × g.row.K.Denot) × ℕ)). es ++ ((c.args.hash, c.args.key), c.args.id) ∷ [])
    c.make_room.ensures.entries in
    λ q. ap (λ (es : List ((ℕ × g.row.K.Denot) × ℕ)). lookup (same_key g.K.PartialEq.eq q) es) entries
    ∙ lookup-more g.met.K.Eq.laws (entries_of c.args.self.now.pairs.items) (c.args.hash, c.args.key) c.args.id
    c.args.self.now.distinct none q
