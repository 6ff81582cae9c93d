use Rattle.foyer_audit.proofs.Accounted.{read_there}
use Rattle.foyer_audit.proofs.book.Book.copies.Goals as goal

pub returns-in-Some : goal.returns-in-Some
returns-in-Some g c made reply stands =
    let same = read_there c.args.self.now.history.items c.args.number made reply c.in-Some.reply.now c.in-Some.ensures
    stands in
    rw (← same) c.two_copies.ensures
