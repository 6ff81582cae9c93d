use Rattle.std.proofs.Common.{inr, refl}
use Rattle.luffapricot_c.proofs.CallLemmas.{told_more}
use Rattle.luffapricot_c.proofs.Clones.{key_clone}
use Rattle.luffapricot_c.proofs.cache.ByteCache.put.Goals as goal

pub put_onto-put-requires-clause-clones : goal.put_onto-put-requires-clause-clones
put_onto-put-requires-clause-clones c κs = λ k c' clone.
    key_clone k.hash c'.hash k.bytes.items c'.bytes.items clone.0 clone.1

pub returns-in-Ok : goal.returns-in-Ok
returns-in-Ok c =
    let went = c.in-Ok.ensures.puts in (
      c.in-Ok.field-0,
      record {
        own = c.args.key;
        own_is = (refl, refl);
        value = c.args.value;
        value_is = (refl, refl, refl);
        leaves = went.more;
        puts = went.so;
        answered = c.in-Ok.ensures.fetches;
        told = told_more c.args.self.now.has_listener c.args.self.now.left.items went.more c.put_onto-put.new.leaves.items
            c.forget_left.new.left.items went.told c.forget_left.ensures;
        rest = record { held = refl; fetches = refl; left = refl; listener = refl };
      },
      c.answer.ensures,
    )

pub returns-in-Err : goal.returns-in-Err
returns-in-Err c =
    let went = c.in-Err.ensures.puts in inr (
      record {
        own = c.args.key;
        own_is = (refl, refl);
        value = c.args.value;
        value_is = (refl, refl, refl);
        leaves = went.more;
        puts = went.so;
        answered = c.in-Err.ensures.fetches;
        told = told_more c.args.self.now.has_listener c.args.self.now.left.items went.more c.put_onto-put.new.leaves.items
            c.forget_left.new.left.items went.told c.forget_left.ensures;
        rest = record { held = refl; fetches = refl; left = refl; listener = refl };
      },
      record { held = refl; fetches = c.in-Err.ensures.fetches; left = refl; listener = refl },
    )
