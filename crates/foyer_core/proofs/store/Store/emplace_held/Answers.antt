use Rattle.std.proofs.Common.{◌≡◌, ◌+◌, ◌<◌, ℕ, [], Some, false, sym, ◌∙◌, ap, subst}
use Rattle.foyer_core.specs.Values.{Kept, Rec, Incoming}
use Rattle.foyer_core.specs.Stores.{meaning_of, state_of}
use Rattle.foyer_core.specs.State.{at_moment, is_phantom_record}
use Rattle.foyer_policy.specs.declared.error.Reason.TheVariants.{NoMemory}
use Rattle.foyer_core.specs.Steps.{MayBy, RefusesInsert}
use Rattle.foyer_core.specs.Table.{rec_of}
use Rattle.foyer_core.specs.Records.{slot_in}
use Rattle.foyer_core.proofs.InflightLemmas.{one}
use Rattle.foyer_core.proofs.Moments.{may_at, refuses_at}
use Rattle.foyer_core.proofs.Returning.{memory_refuses}
use Rattle.foyer_core.proofs.StoredLemmas.{slot_record}
use Rattle.foyer_core.proofs.Told.{goes_start}
use Rattle.foyer_core.proofs.store.Store.emplace_held.Goals as goal

pub returns-in_default-share-clause-inserted : goal.returns-in_default-share-clause-inserted
returns-in_default-share-clause-inserted g c y is =
    let s = c.args.self.now in
    let m = meaning_of s in
    let x = c.in-Some.found.now in
    let there : slot_in s.records c.args.slot ≡ Some x = sym (rw c.in-Some.is at c.get.ensures) in
    let same : x ≡ y = one x y (sym there ∙ is) in
    let inc : Incoming g.row.K.Denot g.row.V.Denot g.row.P.Denot =
    record { id = x.id; kept = x.kept; handles = x.handles + 1 + c.args.further.count } in
    let may : MayBy m (is_phantom_record m x.kept) (state_of s) inc = subst
    (λ (n : ℕ). let i : Incoming g.row.K.Denot g.row.V.Denot g.row.P.Denot = record
    { id = x.id; kept = x.kept; handles = n + 1 + c.args.further.count } in MayBy m (is_phantom_record m x.kept)
    (state_of s) i) c.handles-handles.ensures c.in_default-slot_refusal.ensures.none in
    rw (c.new-in_default-share.ensures, sym same)
    (goes_start c.args.leaves.now.items (λ ls. RefusesInsert (at_moment c.args.now m) (state_of s) inc NoMemory ls (state_of s))
    (memory_refuses (at_moment c.args.now m) (state_of s) inc
    (may_at m c.args.now (is_phantom_record m x.kept) (state_of s) inc may)))

pub returns-in-Some-slot_refusal-clause-inserted : goal.returns-in-Some-slot_refusal-clause-inserted
returns-in-Some-slot_refusal-clause-inserted g c y is =
    let s = c.args.self.now in
    let m = meaning_of s in
    let reason = c.in-Some-slot_refusal.reason in
    let x = c.in-Some.found.now in
    let there : slot_in s.records c.args.slot ≡ Some x = sym (rw c.in-Some.is at c.get.ensures) in
    let same : x ≡ y = one x y (sym there ∙ is) in
    let inc : Incoming g.row.K.Denot g.row.V.Denot g.row.P.Denot =
    record { id = x.id; kept = x.kept; handles = x.handles + 1 + c.args.further.count } in
    let refuses : RefusesInsert m (state_of s) inc reason [] (state_of s) = subst
    (λ (n : ℕ). let i : Incoming g.row.K.Denot g.row.V.Denot g.row.P.Denot = record
    { id = x.id; kept = x.kept; handles = n + 1 + c.args.further.count } in RefusesInsert m (state_of s) i reason []
    (state_of s)) c.handles-handles.ensures c.in-Some-slot_refusal.ensures.some in
    rw (c.new.ensures, sym same)
    (goes_start c.args.leaves.now.items
    (λ ls. RefusesInsert (at_moment c.args.now m) (state_of s) inc reason ls (state_of s))
    (refuses_at m c.args.now (state_of s) inc reason refuses))

pub emplace_slot-requires-clause-out : goal.emplace_slot-requires-clause-out
emplace_slot-requires-clause-out g c κs within r is =
    let s = c.args.self.now in
    let m = meaning_of s in
    let x = c.in-Some.found.now in
    let there : slot_in s.records c.args.slot ≡ Some x = sym (rw c.in-Some.is at c.get.ensures) in
    let rec : (state_of s).records x.id ≡ Some (rec_of x) = slot_record m (g.E.Eviction.at s.eviction)
    (g.I.Finder.view s.index) s.records c.args.slot x there in
    let id : c.outside-slot.result.id ≡ x.id =
    ap (λ (z : Kept g.row.K.Denot g.row.V.Denot g.row.P.Denot). z.id) c.outside-slot.ensures ∙ c.id-id.ensures in
    let same : rec_of x ≡ r = one (rec_of x) r (sym rec ∙ ap (state_of s).records (sym id) ∙ is) in
    let needs : (x.id < s.next) × (x.resident ≡ false) = rw there at c.requires.there in
    ap (λ (q : Rec g.row.K.Denot g.row.V.Denot g.row.P.Denot). q.resident) (sym same) ∙ needs.1
