use Rattle.std.proofs.Common.{refl}
use Rattle.foyer_session.proofs.session.Session.take_piece.Goals as goal

pub returns-in-Ok-clause-step : goal.returns-in-Ok-clause-step
returns-in-Ok-clause-step g c =
    rw (
      c.new-in-Ok-2.ensures.answer,
      c.new-in-Ok-2.ensures.leaves,
      c.hand_out-taken.ensures.pieces,
      c.in-Ok.ensures.made,
    ) (
      c.in-Some.entry.now,
      rw c.as_slice.ensures.value at c.in-Some.ensures.some,
      c.hand_out-taken.ensures.number,
      c.new-in-Ok.ensures.items,
      refl,
    )

pub returns-in-Err-clause-step : goal.returns-in-Err-clause-step
returns-in-Err-clause-step g c =
    rw (c.new-in-Err-2.ensures.answer, c.new-in-Err-2.ensures.leaves, c.in-Err.ensures.refused)
    (c.in-Some.entry.now, rw c.as_slice.ensures.value at c.in-Some.ensures.some, c.new-in-Err.ensures.items, refl)
