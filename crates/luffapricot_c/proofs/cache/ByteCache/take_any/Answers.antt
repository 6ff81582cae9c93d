use Rattle.std.proofs.Common.{refl}
use Rattle.luffapricot_c.proofs.WalkLemmas.{leaves}
use Rattle.luffapricot_c.proofs.cache.ByteCache.take_any.Goals as goal

pub unreachable-requires : goal.unreachable-requires
unreachable-requires c = leaves c.in_ok-name.name c.args.self.now c.in_ok-name.ensures.some.1
    (rw c.in-None.is at c.remove_this.ensures.resident)

pub returns : goal.returns
returns c = record {
  hash = c.in_ok-name.name.hash;
  id = c.in_ok-name.name.id;
  event = refl;
  takes = c.in-Some.ensures.removed;
  rest = record { held = refl; fetches = c.remove_this.ensures.fetches; left = refl; listener = refl };
}
