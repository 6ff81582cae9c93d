use Rattle.std.proofs.Common.{refl, sym, ◌∙◌}
use Rattle.foyer_session.proofs.sim.tell.tell.Goals as goal

pub returns-in-Carry : goal.returns-in-Carry
returns-in-Carry g c =
    let told = c.tell_command.ensures in
    rw (sym c.asked_by.ensures ∙ c.in-Carry.is) (told.0, (told.1, refl), told.2)
