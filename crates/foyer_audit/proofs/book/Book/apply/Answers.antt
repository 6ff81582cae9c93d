use Rattle.std.proofs.Common.{refl, subst}
use Rattle.std.proofs.Math.Logic.{∥∥₁_map}
use Rattle.foyer_session.specs.Sessions.{session_of, terms_of}
use Rattle.foyer_audit.specs.Legal.{Call}
use Rattle.foyer_audit.proofs.Legals.{history-snoc}
use Rattle.foyer_audit.proofs.book.Book.apply.Goals as goal

pub invariant_of-self-2 : goal.invariant_of-self-2
invariant_of-self-2 g c =
    let s = c.args.self.now in
    let new = session_of c.carry_out.new.session in
    let called = subst
    (λ n. Call (terms_of s.session) g.Q.Predicate.picks g.Q.Compared.same n s.shard (session_of s.session)
    c.args.command c.in_ok-reply.reply new)
    s.sharded c.in_ok-reply.ensures.call in
    record {
      within = s.within;
      sharded = s.sharded;
      legal = rw (c.push_reserved.ensures.items, c.reserve.ensures.items)
          (∥∥₁_map s.legal
          (λ h. history-snoc (terms_of s.session) g.Q.Predicate.picks g.Q.Compared.same s.opening.value s.shard
          s.history.items
          (session_of s.session) (c.args.command, c.in_ok-reply.reply) new h called));
    }

pub returns-clause-applied : goal.returns-clause-applied
returns-clause-applied g c =
    let s = c.args.self.now in (
      c.in_ok-reply.reply,
      rw (c.push_reserved.ensures.items, c.reserve.ensures.items) refl,
      subst (λ n. Call (terms_of s.session) g.Q.Predicate.picks g.Q.Compared.same n s.shard (session_of s.session)
          c.args.command c.in_ok-reply.reply (session_of c.carry_out.new.session))
          s.sharded c.in_ok-reply.ensures.call,
    )
