use Rattle.foyer_session.proofs.sim.reply.write_refusal.Goals as goal

pub returns : goal.returns
returns g c = rw (c.from.ensures, c.number.ensures) at c.write_numbered.ensures
