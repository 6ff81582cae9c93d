use Rattle.std.proofs.Common.{◌≡◌, ◌+◌, ℕ, [], Some, true, false, refl, sym, ◌∙◌, ap, subst, arith}
use Rattle.foyer_policy.specs.declared.types.Source.TheVariants.{Memory}
use Rattle.std.specs.Prelude.{MatchResult}
use Rattle.foyer_core.specs.Pieces.{RefusesReturn, Returns}
use Rattle.foyer_core.specs.Values.{Kept, Incoming}
use Rattle.foyer_core.specs.State.{at_moment}
use Rattle.foyer_core.specs.Stores.{meaning_of, state_of}
use Rattle.foyer_core.specs.Steps.{Inserts, RefusesInsert}
use Rattle.foyer_core.specs.Table.{rec_of}
use Rattle.foyer_core.specs.Records.{slot_in}
use Rattle.foyer_core.proofs.InflightLemmas.{one}
use Rattle.foyer_core.proofs.Returning.{in_refuses, in_returns, out_refuses, out_returns, match_so}
use Rattle.foyer_core.proofs.StoredLemmas.{slot_record}
use Rattle.foyer_core.proofs.Told.{goes_so, goes_start}
use Rattle.foyer_core.proofs.store.Store.emplace_known.Goals as goal

pub returns-then-is_resident-clause-returned : goal.returns-then-is_resident-clause-returned
returns-then-is_resident-clause-returned g c y is piece named =
    let s = c.args.self.now in
    let m = at_moment c.args.now (meaning_of s) in
    let x = c.in-Some.found.now in
    let there : slot_in s.records c.args.slot ≡ Some x = sym (rw c.in-Some.is at c.get.ensures) in
    let rec : (state_of s).records x.id ≡ Some (rec_of x) = slot_record m (g.E.Eviction.at s.eviction)
    (g.I.Finder.view s.index) s.records c.args.slot x there in
    let res : x.resident ≡ true = sym c.is_resident.ensures ∙ c.if-is_resident.true in
    let new = state_of c.hand_out.new.self in
    let same : x ≡ y = one x y (sym there ∙ is) in
    let named' : piece.id ≡ x.id = named ∙ ap (λ (z : Kept g.row.K.Denot g.row.V.Denot g.row.P.Denot). z.id)
    (sym same) in
    goes_start c.args.leaves.now.items
    (λ ls. MatchResult c.hand_out.result
    (λ made. Returns m (state_of s) piece (1 + c.args.further.count) ls made.entry new)
    (λ error. RefusesReturn m (state_of s) piece (1 + c.args.further.count) error ls new))
    (match_so c.hand_out.result
    (λ made h. in_returns m (state_of s) x rec piece named' (1 + c.args.further.count) res [] made.entry new h)
    (λ error h. in_refuses m (state_of s) x rec piece named' (1 + c.args.further.count) res error [] new (refl, h))
    (c.hand_out.ensures.handed x there))

pub returns-clause-returned : goal.returns-clause-returned
returns-clause-returned g c y is piece named =
    let s = c.args.self.now in
    let m = at_moment c.args.now (meaning_of s) in
    let x = c.in-Some.found.now in
    let there : slot_in s.records c.args.slot ≡ Some x = sym (rw c.in-Some.is at c.get.ensures) in
    let rec : (state_of s).records x.id ≡ Some (rec_of x) = slot_record m (g.E.Eviction.at s.eviction)
    (g.I.Finder.view s.index) s.records c.args.slot x there in
    let out : x.resident ≡ false = sym c.is_resident.ensures ∙ c.if-is_resident.false in
    let new = state_of c.emplace_held.new.self in
    let same : x ≡ y = one x y (sym there ∙ is) in
    let named' : piece.id ≡ x.id = named ∙ ap (λ (z : Kept g.row.K.Denot g.row.V.Denot g.row.P.Denot). z.id)
    (sym same) in
    let make = λ (n : ℕ).
    (let i : Incoming g.row.K.Denot g.row.V.Denot g.row.P.Denot =
    record { id = x.id; kept = x.kept; handles = n } in i) in
    let count : x.handles + 1 + c.args.further.count ≡ x.handles + (1 + c.args.further.count) = omega arith in
    goes_so c.args.leaves.now.items c.emplace_held.new.leaves.items
    (λ ls. MatchResult c.emplace_held.result
    (λ made. Inserts m Memory (state_of s) (make (x.handles + 1 + c.args.further.count)) ls made.entry new)
    (λ error. RefusesInsert m (state_of s) (make (x.handles + 1 + c.args.further.count)) error ls new))
    (λ ls. MatchResult c.emplace_held.result
    (λ made. Returns m (state_of s) piece (1 + c.args.further.count) ls made.entry new)
    (λ error. RefusesReturn m (state_of s) piece (1 + c.args.further.count) error ls new))
    (λ ls. match_so c.emplace_held.result
    (λ made h. out_returns m (state_of s) x rec piece named' (1 + c.args.further.count) out ls made.entry new
    (subst (λ (n : ℕ). Inserts m Memory (state_of s) (make n) ls made.entry new) count h))
    (λ error h. out_refuses m (state_of s) x rec piece named' (1 + c.args.further.count) out error ls new
    (subst (λ (n : ℕ). RefusesInsert m (state_of s) (make n) error ls new) count h)))
    (c.emplace_held.ensures.inserted x there)
