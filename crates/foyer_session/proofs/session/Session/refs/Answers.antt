use Rattle.std.proofs.Common.{refl}
use Rattle.foyer_core.specs.Cores.{core_of}
use Rattle.foyer_session.proofs.OwnLemmas.{owned_held}
use Rattle.foyer_session.proofs.session.Session.refs.Goals as goal

pub refs-count-requires-clause-owned : goal.refs-count-requires-clause-owned
refs-count-requires-clause-owned g c κs within =
    let s = c.args.self.now in
    owned_held (core_of s.core) s.handles.items c.args.number c.in-Some.entry.now s.owns
    (rw c.as_slice.ensures.value at c.in-Some.ensures.some)

pub returns : goal.returns
returns g c =
    rw (c.new-3.ensures.answer, c.new-3.ensures.leaves) (
      c.in-Some.entry.now,
      rw c.as_slice.ensures.value at c.in-Some.ensures.some,
      c.refs-count.ensures,
      c.new-2.ensures.items,
      refl,
    )
