use Rattle.std.proofs.Common.{refl}
use Rattle.luffapricot_c.specs.Bytes.{properties_of}
use Rattle.luffapricot_c.specs.Calls.{CoreInserts}
use Rattle.luffapricot_c.specs.declared.cache.ByteCache.{ByteCache}
use Rattle.luffapricot_c.proofs.CallLemmas.{answers_waiting, inserts_bytes, told_more}
use Rattle.luffapricot_c.proofs.Clones.{key_clone}
use Rattle.luffapricot_c.proofs.cache.ByteCache.insert_with.Goals as goal

pub insert_with_properties_onto-made-requires-clause-clones : goal.insert_with_properties_onto-made-requires-clause-clones
insert_with_properties_onto-made-requires-clause-clones c κs = λ k c' clone.
    key_clone k.hash c'.hash k.bytes.items c'.bytes.items clone.0 clone.1

pub returns-clause-inserted : goal.returns-clause-inserted
returns-clause-inserted c =
    let old : ByteCache = c.args.self.now in
    let made = c.insert_with_properties_onto-made in
    let new : ByteCache = record c.args.self.now { core = made.new.self; left = c.forget_left.new.left } in
    let went = made.ensures.inserted in
    let did : CoreInserts c.args.now c.args.hash c.args.key.now c.args.bytes.now c.args.owner c.args.terms.now.weight
    (properties_of c.args.terms.now) made.result old new = record {
      own = c.in_ok-key.key;
      own_is = (c.in_ok-key.ensures.hash, c.in_ok-key.ensures.bytes);
      value = record { bytes = c.in_ok-copy.copy; weight = c.args.terms.now.weight; owner = c.args.owner };
      value_is = (c.in_ok-copy.ensures.bytes, refl, refl);
      leaves = went.more;
      inserts = rw c.properties.ensures at went.so;
      answered = answers_waiting c.in_ok-key.key made.result old new made.ensures.fetches;
      told = told_more c.args.self.now.has_listener c.args.self.now.left.items went.more made.new.leaves.items
          c.forget_left.new.left.items went.told c.forget_left.ensures;
      rest = record { held = refl; fetches = refl; left = refl; listener = refl };
    } in
    inserts_bytes c.args.now c.args.hash c.args.key.now c.args.bytes.now c.args.owner c.args.terms.now.weight
    (properties_of c.args.terms.now) made.result old new did refl
