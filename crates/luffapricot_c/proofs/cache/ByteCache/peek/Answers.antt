use Rattle.std.proofs.Common.{refl}
use Rattle.luffapricot_c.proofs.CallLemmas.{peek_seen}
use Rattle.luffapricot_c.proofs.cache.ByteCache.peek.Goals as goal

pub returns-in-Some : goal.returns-in-Some
returns-in-Some c = record {
  own = c.set.new.self;
  own_is = (c.in_ok-set.ensures.hash, c.in_ok-set.ensures.bytes);
  peeks = peek_seen c.args.now c.set.new.self c.in-Some.value.now _ _ _
      (record c.args.self.now { asked = c.set.new.self })
      (c.copy_value.ensures.len, c.copy_value.ensures.copied) c.in-Some.ensures;
  core = refl;
  rest = record { held = refl; fetches = refl; left = refl; listener = refl };
}
