use Rattle.std.proofs.Common.{◌≡◌, [], arith, refl}
use Rattle.std.proofs.lemmas.Grind.{common_steps}
use Rattle.luffapricot_c.proofs.CallLemmas.{kept_told, taken_is}
use Rattle.luffapricot_c.proofs.Clones.{key_clone}
use Rattle.luffapricot_c.proofs.cache.ByteCache.complete.Goals as goal

pub complete-found-requires-clause-clones : goal.complete-found-requires-clause-clones
complete-found-requires-clause-clones c κs = λ k c' clone.
    key_clone k.hash c'.hash k.bytes.items c'.bytes.items clone.0 clone.1

pub returns : goal.returns
returns c =
    let none : c.args.self.now.left.items ≡ [] = grind (arith, common_steps, c.is_empty.ensures, c.if-not-is_empty.false) in
    taken_is c.args.self.now.left.items _ _ _ _ none record {
      own = c.set.new.self;
      own_is = (c.in_ok-set.ensures.hash, c.in_ok-set.ensures.bytes);
      value = record { bytes = c.in_ok-copy.copy; weight = c.args.terms.now.weight; owner = 0 };
      value_is = (c.in_ok-copy.ensures.bytes, refl, refl);
      ended = c.complete-found.result;
      completes = rw c.properties.ensures at c.complete-found.ensures.completed;
      status_is = c.of_open.ensures;
      told = kept_told c.args.self.now.has_listener c.args.self.now.left.items _ c.keep.new.kept.items none
          c.keep.ensures;
      answered = c.answer.ensures;
      rest = record { held = refl; fetches = refl; left = refl; listener = refl };
    }
