use Rattle.std.proofs.Math.Logic.{∥∥₁_elim, ∥∥₁_map}
use Rattle.std.proofs.Props.{props}
use Rattle.std.proofs.Common.{◌≡◌, ◌+◌, ◌%◌, ◌++◌, ℕ, List, Ok, Err, length, refl, replicate, sym, ap, ◌∙◌, arith}
use Rattle.foyer_policy.specs.declared.types.Source.TheVariants.{Outer}
use Rattle.foyer_core.specs.Core.{InsertsAnswering, shard_of}
use Rattle.foyer_core.specs.CoreFetches.{open_in}
use Rattle.foyer_core.specs.Cores.{core_of, fetches_of, hashes_of}
use Rattle.foyer_core.specs.Inflight.{waiters_of}
use Rattle.foyer_core.specs.Steps.{newcomer}
use Rattle.foyer_core.specs.Waited.{denied_of, made_of}
use Rattle.foyer_session.specs.Sessions.{session_of, meaning_of_session, terms_of}
use Rattle.foyer_session.specs.Step.{data_of, given}
use Rattle.foyer_session.specs.Tokens.{handles_from, numbers_of}
use Rattle.foyer_session.proofs.CoreLemmas.{alike_at, kept_at, open_at}
use Rattle.foyer_session.proofs.CountLemmas.{refused_by_alike}
use Rattle.foyer_session.proofs.FoundLemmas.{next_unused}
use Rattle.foyer_session.proofs.NewEntries.{new_answers, new_closes}
use Rattle.foyer_session.proofs.PieceLemmas.{inserts_gives}
use Rattle.foyer_session.proofs.StepLemmas.{given_owns, stayed_owns}
use Rattle.foyer_session.proofs.WaitsLemmas.{closed_waiting, still_waiting, waiting_counted}
use Rattle.foyer_session.proofs.session.Session.insert.Goals as goal
use Rattle.foyer_core.specs.State.{at_moment}

pub tell_inserted-requires-clause-counted : goal.tell_inserted-requires-clause-counted
tell_inserted-requires-clause-counted g c =
    let s = c.args.self.now in
    let hash = hashes_of s.core c.args.key in
    let few = waiting_counted g.K.PartialEq.eq (fetches_of s.core) (open_at s.core)
    (alike_at g.met.K.Eq.laws s.core) (hash, c.args.key) hash refl
    s.waiting s.waits in
    omega (arith, few, ap length (new_answers g.K.PartialEq.eq c.in-Ok.ensures.given c.in-Ok.ensures.fetches).0, c.in-Ok.inserted.answers.waiters.ok.0)

pub tell_inserted-requires-clause-room : goal.tell_inserted-requires-clause-room
tell_inserted-requires-clause-room g c =
    let s = c.args.self.now in
    let hash = hashes_of s.core c.args.key in
    let few = waiting_counted g.K.PartialEq.eq (fetches_of s.core) (open_at s.core)
    (alike_at g.met.K.Eq.laws s.core) (hash, c.args.key) hash refl
    s.waiting s.waits in
    omega (arith, few, ap length (new_answers g.K.PartialEq.eq c.in-Ok.ensures.given c.in-Ok.ensures.fetches).0, c.in-Ok.inserted.answers.waiters.ok.0, c.requires.room)

pub tell_inserted-requires-clause-each : goal.tell_inserted-requires-clause-each
tell_inserted-requires-clause-each g c = (let each = new_answers g.K.PartialEq.eq c.in-Ok.ensures.given c.in-Ok.ensures.fetches in rw each.0 each.1)

pub invariant_of-self-clause-owns : goal.invariant_of-self-clause-owns
invariant_of-self-clause-owns g c =
    let s = c.args.self.now in
    let m = at_moment c.args.now (meaning_of_session s) in
    let made = c.in-Ok.inserted in
    let new = core_of c.insert_with_properties.new.self in
    let told = c.tell_inserted.ensures in
    let did = c.in-Ok.ensures.inserted in
    let each = (new_answers g.K.PartialEq.eq c.in-Ok.ensures.given c.in-Ok.ensures.fetches).0 in
    let hash = hashes_of s.core c.args.key in
    let n : ℕ = 1 + length (waiters_of (open_in (fetches_of s.core) (hash, c.args.key))) in
    let d = data_of (terms_of s) (session_of s) c.args.key c.args.value c.args.properties did.weight did.admitted in
    rw (told.handles, each)
    (∥∥₁_elim (kept_at s.core hash did.inserts.before did.inserts.there) (hlevel props) (λ k. ∥∥₁_map s.owns (λ o.
    given_owns m (core_of s.core) new s.handles.items o
    (λ a b. InsertsAnswering m Outer a (newcomer a d n) (Ok (made_of made)) b) hash did.inserts made.entry n
    (inserts_gives m (length (core_of s.core).shards) (shard_of (core_of s.core) hash) did.inserts.before
    did.inserts.after (s.core.whole.belong (shard_of (core_of s.core) hash) did.inserts.before did.inserts.there)
    Outer (newcomer did.inserts.before d n) made.leaves.items made.entry n did.inserts.stepped
    (let none = next_unused (meaning_of_session s) did.inserts.before k in omega (arith, none)) refl))))

pub invariant_of-self-clause-waits : goal.invariant_of-self-clause-waits
invariant_of-self-clause-waits g c =
    let s = c.args.self.now in
    let hash = hashes_of s.core c.args.key in
    closed_waiting g.K.PartialEq.eq (fetches_of s.core) (open_at s.core)
    (alike_at g.met.K.Eq.laws s.core) (hash, c.args.key) hash refl s.waiting
    (fetches_of c.insert_with_properties.new.self) c.tell_inserted.new.waiting (new_closes g.K.PartialEq.eq c.in-Ok.ensures.given c.in-Ok.ensures.fetches)
    (omega (
      arith,
      c.tell_inserted.ensures.waiting,
      ap length (new_answers g.K.PartialEq.eq c.in-Ok.ensures.given c.in-Ok.ensures.fetches).0,
      c.in-Ok.inserted.answers.waiters.ok.0,
    )) s.waits

pub invariant_of-self-in-Err-1 : goal.invariant_of-self-in-Err-1
invariant_of-self-in-Err-1 g c =
    let s = c.args.self.now in
    let m = at_moment c.args.now (meaning_of_session s) in
    let refused = c.in-Err.refused in
    let new = core_of c.insert_with_properties.new.self in
    let did = c.in-Err.ensures.inserted in
    let hash = hashes_of s.core c.args.key in
    let n : ℕ = 1 + length (waiters_of (open_in (fetches_of s.core) (hash, c.args.key))) in
    let d = data_of (terms_of s) (session_of s) c.args.key c.args.value c.args.properties did.weight did.admitted in
    record {
      owns = ∥∥₁_map s.owns
          (λ o. stayed_owns m (core_of s.core) new s.handles.items o
          (λ a b. InsertsAnswering m Outer a (newcomer a d n) (Err (denied_of refused)) b) hash did.inserts
          (refused_by_alike m _ did.inserts.before (newcomer did.inserts.before d n) refused.error
          refused.leaves.items did.inserts.after did.inserts.stepped));
      waits = (let s = c.args.self.now in still_waiting (fetches_of s.core)
          (fetches_of c.insert_with_properties.new.self) s.waiting c.in-Err.ensures.fetches s.waits);
      room = s.room;
    }

pub returns-in-Ok-clause-step : goal.returns-in-Ok-clause-step
returns-in-Ok-clause-step g c =
    let s = c.args.self.now in
    let made = c.in-Ok.inserted in
    let told = c.tell_inserted.ensures in
    let did = c.in-Ok.ensures.inserted in
    let each = (new_answers g.K.PartialEq.eq c.in-Ok.ensures.given c.in-Ok.ensures.fetches).0 in
    rw (told.answer, told.leaves) (
      did.weight,
      did.admitted,
      made.entry,
      did.weighed,
      did.answered,
      did.inserts,
      record {
        answered = ap (λ ws. handles_from (length s.handles.items) (numbers_of ws)) each;
        numbered = ap (λ ws. length s.handles.items + length ws) each;
        tells = refl;
        handles = told.handles ∙ ap (λ ws. s.handles.items ++ replicate (1 + length ws) (given made.entry)) each;
        pieces = refl;
      },
      (new_closes g.K.PartialEq.eq c.in-Ok.ensures.given c.in-Ok.ensures.fetches),
    )

pub returns-in-Err-clause-step : goal.returns-in-Err-clause-step
returns-in-Err-clause-step g c =
    let did = c.in-Err.ensures.inserted in
    rw (c.tell_refused.ensures.answer, c.tell_refused.ensures.leaves)
    (did.weight, did.admitted, did.weighed, did.answered, did.inserts, ((refl, refl), c.in-Err.ensures.fetches))
