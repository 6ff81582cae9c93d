use Rattle.std.proofs.Common.{refl, sym, ◌∙◌}
use Rattle.std.proofs.lemmas.Bool.{false≢true}
use Rattle.foyer_core.specs.Cores.{core_of}
use Rattle.foyer_session.proofs.OwnLemmas.{owned_held}
use Rattle.foyer_session.proofs.session.Session.is_outdated.Goals as goal

pub is_outdated-requires-clause-owned : goal.is_outdated-requires-clause-owned
is_outdated-requires-clause-owned g c κs within =
    let s = c.args.self.now in
    owned_held (core_of s.core) s.handles.items c.args.number c.in-Some.entry.now s.owns
    (rw c.as_slice.ensures.value at c.in-Some.ensures.some)

pub returns-then-is_outdated : goal.returns-then-is_outdated
returns-then-is_outdated g c =
    rw (c.new-then-is_outdated-2.ensures.answer, c.new-then-is_outdated-2.ensures.leaves) (
      c.in-Some.entry.now,
      rw c.as_slice.ensures.value at c.in-Some.ensures.some,
      c.is_outdated.ensures.0 c.if-is_outdated.true,
      c.new-then-is_outdated.ensures.items,
      refl,
    )

pub returns-else-is_outdated : goal.returns-else-is_outdated
returns-else-is_outdated g c =
    rw (c.new-else-is_outdated-2.ensures.answer, c.new-else-is_outdated-2.ensures.leaves) (
      c.in-Some.entry.now,
      rw c.as_slice.ensures.value at c.in-Some.ensures.some,
      λ o. false≢true (sym c.if-is_outdated.false ∙ c.is_outdated.ensures.1 o),
      c.new-else-is_outdated.ensures.items,
      refl,
    )
