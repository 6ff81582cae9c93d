use Rattle.std.proofs.Common.{◌≡◌, ◌∙◌, All, arith, refl, sym, subst}
use Rattle.foyer_core.specs.Cores.{core_of}
use Rattle.foyer_core.specs.Inflight.{no_opens}
use Rattle.foyer_session.specs.Sessions.{session_of, terms_of}
use Rattle.foyer_audit.proofs.Legals.{history-nil, opens_over, same_fault}
use Rattle.foyer_audit.proofs.book.Book.new.Goals as goal

pub invariant_of-result : goal.invariant_of-result
invariant_of-result g c =
    let config = c.args.config in
    let t = terms_of c.new-2.result in
    let s = session_of c.new-2.result in
    let made = c.new-2.ensures in
    let core = c.in_ok-core.ensures in
    let part = c.shard_capacity-capacity in
    let none = subst (All (λ f. f ≡ no_opens)) (sym made.fetches) core.fetches.0 in
    let opens = opens_over t config c.args.shard part.result (core_of c.in_ok-core.core) s part.ensures core.made
    made.core none made.handles made.pieces in
    record {
      within = c.requires.within (omega (arith, c.if-config-eq0.false));
      sharded = rw c.of-opening.ensures refl;
      legal = rw (c.of-opening.ensures, c.new-3.ensures.items)
          (∣ history-nil t g.Q.Predicate.picks g.Q.Compared.same config c.args.shard s opens ∣₁);
    }

pub returns-clause-accepted : goal.returns-clause-accepted
returns-clause-accepted g c =
    same_fault g.E.Eviction.model c.args.config c.shard_capacity-capacity.result c.if-config-eq0.false
    ∙ c.in_ok-core.ensures.accepted

pub returns-clause-refused : goal.returns-clause-refused
returns-clause-refused g c =
    let same = same_fault g.E.Eviction.model c.args.config c.shard_capacity-capacity.result c.if-config-eq0.false in
    rw (same ∙ c.in_ok-core.ensures.accepted) tt
