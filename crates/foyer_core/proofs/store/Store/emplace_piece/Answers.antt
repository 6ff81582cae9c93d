use Rattle.std.proofs.Common.{◌≡◌, ◌+◌, ◌<◌, ℕ, true, false, Some, None, sym, ◌∙◌, ap, subst, arith}
use Rattle.std.specs.Prelude.{MatchResult, Option, IsSomeAnd, option_and_then, option_map}
use Rattle.foyer_policy.specs.declared.types.Source.TheVariants.{Memory}
use Rattle.foyer_core.specs.Onto.{handles_onto}
use Rattle.foyer_core.specs.Pieces.{InsertsPiece, RefusesReturn, Returns, is_known}
use Rattle.foyer_core.specs.Records.{slot_in, number_of}
use Rattle.foyer_core.specs.Steps.{Inserts, RefusesInsert, newcomer}
use Rattle.foyer_core.specs.State.{at_moment}
use Rattle.foyer_core.specs.Stores.{meaning_of, state_of}
use Rattle.foyer_core.specs.Table.{rec_of}
use Rattle.foyer_core.specs.Values.{Kept}
use Rattle.foyer_core.proofs.AdmitLemmas.{new_out}
use Rattle.foyer_core.proofs.Holdings.{holding}
use Rattle.foyer_core.proofs.PieceComing.{absent_comes, foreign_comes, known_comes}
use Rattle.foyer_core.proofs.Returning.{known_given}
use Rattle.foyer_core.proofs.TableLemmas.{named_is}
use Rattle.foyer_core.proofs.Told.{goes_so}
use Rattle.foyer_core.proofs.store.Store.emplace_piece.Goals as goal

pub emplace_new-requires-clause-out : goal.emplace_new-requires-clause-out
emplace_new-requires-clause-out g c κs within =
    let id : c.outside-slot.result.id ≡ c.args.self.now.next =
    ap (λ (x : Kept g.row.K.Denot g.row.V.Denot g.row.P.Denot). x.id) c.outside-slot.ensures in
    new_out (meaning_of c.args.self.now) g.met.K.Eq.laws g.met.E.Eviction.lawful (holding c.args.self.now)
    c.outside-slot.result.id (omega arith)

pub emplace_known-requires-clause-there : goal.emplace_known-requires-clause-there
emplace_known-requires-clause-there g c κs within =
    let s = c.args.self.now in
    let t = s.records in
    let known : is_known (state_of s) c.args.hash c.args.piece ≡ true = sym c.knows.ensures ∙ c.if-not-knows.false in
    let led : number_of t c.args.piece.id ≡ Some c.in-Some.slot =
    rw c.id-id.ensures at (sym c.find.ensures ∙ c.in-Some.is) in
    let x = named_is (slot_in t c.in-Some.slot) c.args.piece.id (t.agree.named c.args.piece.id c.in-Some.slot led) in
    subst (λ (o : Option (Kept g.row.K.Denot g.row.V.Denot g.row.P.Denot)). IsSomeAnd o (λ k. k.id < s.next)) (sym x.1)
    (omega (arith, x.2, known_given (state_of s) c.args.hash c.args.piece known))

pub returns-then-not-knows-clause-inserted : goal.returns-then-not-knows-clause-inserted
returns-then-not-knows-clause-inserted g c =
    let s = c.args.self.now in
    let m = at_moment c.args.now (meaning_of s) in
    let old = state_of s in
    let call = c.emplace_new in
    let new = state_of call.new.self in
    let piece = c.args.piece in
    let known : is_known old c.args.hash piece ≡ false = sym c.knows.ensures ∙ c.if-not-knows.true in
    let i = newcomer old (record piece.kept { hash = c.args.hash; weight = c.args.weight })
    (1 + c.args.further.count) in
    goes_so c.args.leaves.now.items call.new.leaves.items
    (λ ls. MatchResult call.result (λ made. Inserts m Memory old i ls made.entry new)
    (λ error. RefusesInsert m old i error ls new))
    (λ ls. InsertsPiece m (λ w. w ≡ c.args.weight) c.args.hash piece (1 + c.args.further.count)
    (handles_onto call.result ls) old new)
    (λ ls h. foreign_comes m old new c.args.hash piece (1 + c.args.further.count) call.result ls c.args.weight known h)
    (rw (c.outside-slot.ensures, c.with.ensures, c.into_share.ensures) at call.ensures.inserted)

pub returns-in-Some-clause-inserted : goal.returns-in-Some-clause-inserted
returns-in-Some-clause-inserted g c =
    let s = c.args.self.now in
    let m = at_moment c.args.now (meaning_of s) in
    let old = state_of s in
    let t = s.records in
    let new = state_of c.emplace_known.new.self in
    let piece = c.args.piece in
    let known : is_known old c.args.hash piece ≡ true = sym c.knows.ensures ∙ c.if-not-knows.false in
    let led : number_of t piece.id ≡ Some c.in-Some.slot =
    rw c.id-id.ensures at (sym c.find.ensures ∙ c.in-Some.is) in
    let x = named_is (slot_in t c.in-Some.slot) piece.id (t.agree.named piece.id c.in-Some.slot led) in
    goes_so c.args.leaves.now.items c.emplace_known.new.leaves.items
    (λ ls. MatchResult c.emplace_known.result (λ made. Returns m old piece (1 + c.args.further.count) ls made.entry new)
    (λ error. RefusesReturn m old piece (1 + c.args.further.count) error ls new))
    (λ ls. InsertsPiece m (λ w. w ≡ c.args.weight) c.args.hash piece (1 + c.args.further.count)
    (handles_onto c.emplace_known.result ls) old new)
    (λ ls h. known_comes m old new c.args.hash piece (1 + c.args.further.count) c.emplace_known.result ls
    (λ w. w ≡ c.args.weight) known h)
    (c.emplace_known.ensures.returned x.0 x.1 piece (sym x.2))

pub returns-in-None-clause-inserted : goal.returns-in-None-clause-inserted
returns-in-None-clause-inserted g c =
    let s = c.args.self.now in
    let m = at_moment c.args.now (meaning_of s) in
    let old = state_of s in
    let t = s.records in
    let call = c.emplace_new-in-None in
    let new = state_of call.new.self in
    let piece = c.args.piece in
    let more = 1 + c.args.further.count in
    let known : is_known old c.args.hash piece ≡ true = sym c.knows.ensures ∙ c.if-not-knows.false in
    let led : number_of t piece.id ≡ None = rw c.id-id.ensures at (sym c.find.ensures ∙ c.in-None.is) in
    let none : old.records piece.id ≡ None =
    ap (λ (o : Option ℕ). option_map rec_of (option_and_then (slot_in t) o)) led in
    goes_so c.args.leaves.now.items call.new.leaves.items
    (λ ls. MatchResult call.result
    (λ made. Inserts m Memory old (record { id = piece.id; kept = piece.kept; handles = more }) ls made.entry new)
    (λ error. RefusesInsert m old (record { id = piece.id; kept = piece.kept; handles = more }) error ls new))
    (λ ls. InsertsPiece m (λ w. w ≡ c.args.weight) c.args.hash piece more (handles_onto call.result ls) old new)
    (λ ls h. known_comes m old new c.args.hash piece more call.result ls (λ w. w ≡ c.args.weight) known
    (absent_comes m old new c.args.hash piece more call.result ls none h))
    (rw (c.outside-slot-in-None.ensures, c.into_share-in-None.ensures, c.id-id.ensures) at call.ensures.inserted)
