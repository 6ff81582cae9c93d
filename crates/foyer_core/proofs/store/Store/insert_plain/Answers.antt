use Rattle.std.proofs.Common.{◌≡◌, ◌-◌, ℕ, ◌++◌, Some, true, refl, sym, ◌∙◌, ap, subst, arith, append-nil}
use Rattle.std.proofs.Math.Logic.{∥∥₁_elim}
use Rattle.std.proofs.Props.{props}
use Rattle.foyer_policy.specs.declared.error.Reason.TheVariants.{NoMemory}
use Rattle.foyer_policy.specs.declared.types.Source.{Source}
use Rattle.foyer_core.specs.declared.record.Data.{Data}
use Rattle.foyer_core.specs.Values.{Kept, Incoming, incoming_of}
use Rattle.foyer_core.specs.State.{at_moment, key_of}
use Rattle.foyer_core.specs.Bulk.{GoesOn}
use Rattle.foyer_core.specs.Steps.{entry_of, replaced_leaves, Evicting, Evicts, GivesWay, InsertsPlain, RefusesPlain}
use Rattle.foyer_core.specs.Stores.{meaning_of, state_of}
use Rattle.foyer_core.proofs.InsertLemmas.{fits_after}
use Rattle.foyer_core.proofs.Emplaced.{evicts_rests, evicts_out, evicts_begin, emplaced, wants_memory, wants_memory_first}
use Rattle.foyer_core.proofs.Moments.{admits_at, kept_at, timed_lawful, way_at}
use Rattle.foyer_core.proofs.Told.{goes_start, goes_so, goes_on}
use Rattle.foyer_core.proofs.store.Store.insert_plain.Goals as goal

pub returns-in_default : goal.returns-in_default
returns-in_default g c =
    let s = c.args.self.now in
    let m = at_moment c.args.now (meaning_of s) in
    let inc : Incoming g.row.K.Denot g.row.V.Denot g.row.P.Denot = incoming_of c.args.slot in
    record {
      inserted = λ _. rw (c.in_default.ensures.leaves, c.in_default.ensures.same)
          (goes_start c.args.leaves.now.items (λ ls. RefusesPlain m (state_of s) inc NoMemory ls (state_of s))
          (wants_memory_first m (state_of s) inc c.requires.may));
    }

pub returns-in_default-evict_onto : goal.returns-in_default-evict_onto
returns-in_default-evict_onto g c =
    let s = c.args.self.now in
    let m = at_moment c.args.now (meaning_of s) in
    let inc : Incoming g.row.K.Denot g.row.V.Denot g.row.P.Denot = incoming_of c.args.slot in
    let went : GoesOn c.prepare.new.leaves.items c.evict_onto.new.leaves.items
    (λ ls. Evicting m (s.capacity - inc.kept.weight) (state_of s) ls (state_of c.evict_onto.new.self)) =
    subst (λ (n : ℕ). GoesOn c.prepare.new.leaves.items c.evict_onto.new.leaves.items
    (λ ls. Evicting m n (state_of s) ls (state_of c.evict_onto.new.self)))
    (c.saturating_sub-target.ensures ∙ ap (λ (w : ℕ). s.capacity - w) c.weight.ensures)
    (subst (λ st. GoesOn c.prepare.new.leaves.items c.evict_onto.new.leaves.items
    (λ ls. Evicting m c.saturating_sub-target.result st ls (state_of c.evict_onto.new.self))) c.in-Ok.ensures.same
    c.in_default-evict_onto.ensures.refused) in
    record {
      inserted = λ _. rw (sym c.in-Ok.ensures.leaves)
          (goes_so c.prepare.new.leaves.items c.evict_onto.new.leaves.items
          (λ ls. Evicting m (s.capacity - inc.kept.weight) (state_of s) ls (state_of c.evict_onto.new.self))
          (λ ls. RefusesPlain m (state_of s) inc NoMemory ls (state_of c.evict_onto.new.self))
          (λ ls h. wants_memory m (state_of s) inc c.requires.may ls (state_of c.evict_onto.new.self) h) went);
    }

pub admit-requires-clause-plain : goal.admit-requires-clause-plain
admit-requires-clause-plain g c κs within =
    let s = c.args.self.now in
    let m = at_moment c.args.now (meaning_of s) in
    let inc : Incoming g.row.K.Denot g.row.V.Denot g.row.P.Denot = incoming_of c.args.slot in
    let kept : c.prepare.new.slot.kept ≡ inc.kept =
    ap (λ (x : Kept g.row.K.Denot g.row.V.Denot g.row.P.Denot). x.kept) c.in-Ok.ensures.slot in
    rw kept c.requires.plain

pub admit-requires-clause-coming : goal.admit-requires-clause-coming
admit-requires-clause-coming g c κs within = c.in-Ok.ensures.slot
    ∙ ap (λ (x : Kept g.row.K.Denot g.row.V.Denot g.row.P.Denot). let y : Kept g.row.K.Denot g.row.V.Denot
    g.row.P.Denot = record x { resident = true } in y) c.requires.apart
    ∙ ap (λ (x : Kept g.row.K.Denot g.row.V.Denot g.row.P.Denot). let y : Kept g.row.K.Denot g.row.V.Denot
    g.row.P.Denot = record x { resident = true } in y) (sym c.in-Ok.ensures.slot)

pub admit-requires-clause-out : goal.admit-requires-clause-out
admit-requires-clause-out g c κs within r there =
    let s = c.args.self.now in
    let m = at_moment c.args.now (meaning_of s) in
    let inc : Incoming g.row.K.Denot g.row.V.Denot g.row.P.Denot = incoming_of c.args.slot in
    let went : GoesOn c.prepare.new.leaves.items c.evict_onto.new.leaves.items
    (λ ls. Evicts m c.saturating_sub-target.result (state_of s) ls (state_of c.evict_onto.new.self)) =
    subst (λ st. GoesOn c.prepare.new.leaves.items c.evict_onto.new.leaves.items
    (λ ls. Evicts m c.saturating_sub-target.result st ls (state_of c.evict_onto.new.self))) c.in-Ok.ensures.same
    c.in-Ok-evict_onto.ensures.done in
    let id : c.prepare.new.slot.id ≡ inc.id =
    ap (λ (x : Kept g.row.K.Denot g.row.V.Denot g.row.P.Denot). x.id) c.in-Ok.ensures.slot in
    evicts_out m (state_of s) inc c.saturating_sub-target.result went.more (state_of c.evict_onto.new.self) went.so
    inc.id c.requires.out r (subst (λ (a : ℕ). (state_of c.evict_onto.new.self).records a ≡ Some r) id there)

pub admit-requires-clause-number : goal.admit-requires-clause-number
admit-requires-clause-number g c κs within =
    let s = c.args.self.now in
    let m = at_moment c.args.now (meaning_of s) in
    let inc : Incoming g.row.K.Denot g.row.V.Denot g.row.P.Denot = incoming_of c.args.slot in
    let went : GoesOn c.prepare.new.leaves.items c.evict_onto.new.leaves.items
    (λ ls. Evicts m c.saturating_sub-target.result (state_of s) ls (state_of c.evict_onto.new.self)) =
    subst (λ st. GoesOn c.prepare.new.leaves.items c.evict_onto.new.leaves.items
    (λ ls. Evicts m c.saturating_sub-target.result st ls (state_of c.evict_onto.new.self))) c.in-Ok.ensures.same
    c.in-Ok-evict_onto.ensures.done in
    let rests = evicts_rests m (state_of s) inc c.saturating_sub-target.result went.more
    (state_of c.evict_onto.new.self) went.so in
    let id : c.prepare.new.slot.id ≡ inc.id =
    ap (λ (x : Kept g.row.K.Denot g.row.V.Denot g.row.P.Denot). x.id) c.in-Ok.ensures.slot in
    rw (id, rests.next, rests.limits) c.requires.may.0

pub admit-requires-clause-held : goal.admit-requires-clause-held
admit-requires-clause-held g c κs within =
    let s = c.args.self.now in
    let m = at_moment c.args.now (meaning_of s) in
    let inc : Incoming g.row.K.Denot g.row.V.Denot g.row.P.Denot = incoming_of c.args.slot in
    let handles : c.prepare.new.slot.handles ≡ inc.handles =
    ap (λ (x : Kept g.row.K.Denot g.row.V.Denot g.row.P.Denot). x.handles) c.in-Ok.ensures.slot in
    rw handles c.requires.held

pub admit-requires-clause-handles : goal.admit-requires-clause-handles
admit-requires-clause-handles g c κs within =
    let s = c.args.self.now in
    let m = at_moment c.args.now (meaning_of s) in
    let inc : Incoming g.row.K.Denot g.row.V.Denot g.row.P.Denot = incoming_of c.args.slot in
    let went : GoesOn c.prepare.new.leaves.items c.evict_onto.new.leaves.items
    (λ ls. Evicts m c.saturating_sub-target.result (state_of s) ls (state_of c.evict_onto.new.self)) =
    subst (λ st. GoesOn c.prepare.new.leaves.items c.evict_onto.new.leaves.items
    (λ ls. Evicts m c.saturating_sub-target.result st ls (state_of c.evict_onto.new.self))) c.in-Ok.ensures.same
    c.in-Ok-evict_onto.ensures.done in
    let rests = evicts_rests m (state_of s) inc c.saturating_sub-target.result went.more
    (state_of c.evict_onto.new.self) went.so in
    let handles : c.prepare.new.slot.handles ≡ inc.handles =
    ap (λ (x : Kept g.row.K.Denot g.row.V.Denot g.row.P.Denot). x.handles) c.in-Ok.ensures.slot in
    rw (handles, rests.limits) c.requires.may.1

pub admit-requires-clause-fits : goal.admit-requires-clause-fits
admit-requires-clause-fits g c κs within b last h =
    let s = c.args.self.now in
    let m = at_moment c.args.now (meaning_of s) in
    let inc : Incoming g.row.K.Denot g.row.V.Denot g.row.P.Denot = incoming_of c.args.slot in
    let went : GoesOn c.prepare.new.leaves.items c.evict_onto.new.leaves.items
    (λ ls. Evicts m (s.capacity - inc.kept.weight) (state_of s) ls (state_of c.evict_onto.new.self)) =
    subst (λ (n : ℕ). GoesOn c.prepare.new.leaves.items c.evict_onto.new.leaves.items
    (λ ls. Evicts m n (state_of s) ls (state_of c.evict_onto.new.self)))
    (c.saturating_sub-target.ensures ∙ ap (λ (w : ℕ). s.capacity - w) c.weight.ensures)
    (subst (λ st. GoesOn c.prepare.new.leaves.items c.evict_onto.new.leaves.items
    (λ ls. Evicts m c.saturating_sub-target.result st ls (state_of c.evict_onto.new.self))) c.in-Ok.ensures.same
    c.in-Ok-evict_onto.ensures.done) in
    let kept : c.prepare.new.slot.kept ≡ inc.kept =
    ap (λ (x : Kept g.row.K.Denot g.row.V.Denot g.row.P.Denot). x.kept) c.in-Ok.ensures.slot in
    let way : GivesWay (meaning_of s) ((state_of c.evict_onto.new.self).index (key_of inc.kept)) (state_of c.evict_onto.new.self) b
    last = subst
    (λ (d : Data g.row.K.Denot g.row.V.Denot g.row.P.Denot). GivesWay (meaning_of s)
    ((state_of c.evict_onto.new.self).index (key_of d)) (state_of c.evict_onto.new.self) b last) kept h in
    rw kept (∥∥₁_elim s.sound (hlevel props)
    (λ k. fits_after m g.met.K.Eq.laws (timed_lawful c.args.now g.E.Eviction.model g.met.E.Eviction.lawful) (state_of s)
    (kept_at (meaning_of s) c.args.now (state_of s) k) inc.kept went.more (state_of c.evict_onto.new.self) went.so b last
    (way_at (meaning_of s) c.args.now ((state_of c.evict_onto.new.self).index (key_of inc.kept))
    (state_of c.evict_onto.new.self) b last way) c.requires.may.2 (omega arith) (omega arith)))

pub returns-in-Some-replaced : goal.returns-in-Some-replaced
returns-in-Some-replaced g c =
    let s = c.args.self.now in
    let m = at_moment c.args.now (meaning_of s) in
    let inc : Incoming g.row.K.Denot g.row.V.Denot g.row.P.Denot = incoming_of c.args.slot in
    let mid = c.evict_onto.new.leaves.items in
    let gone = replaced_leaves c.in-Some.replaced in
    let went : GoesOn c.prepare.new.leaves.items c.evict_onto.new.leaves.items
    (λ ls. Evicts m (s.capacity - inc.kept.weight) (state_of s) ls (state_of c.evict_onto.new.self)) =
    subst (λ (n : ℕ). GoesOn c.prepare.new.leaves.items c.evict_onto.new.leaves.items
    (λ ls. Evicts m n (state_of s) ls (state_of c.evict_onto.new.self)))
    (c.saturating_sub-target.ensures ∙ ap (λ (w : ℕ). s.capacity - w) c.weight.ensures)
    (subst (λ st. GoesOn c.prepare.new.leaves.items c.evict_onto.new.leaves.items
    (λ ls. Evicts m c.saturating_sub-target.result st ls (state_of c.evict_onto.new.self))) c.in-Ok.ensures.same
    c.in-Ok-evict_onto.ensures.done) in
    let came : incoming_of c.prepare.new.slot ≡ inc =
    ap (λ (x : Kept g.row.K.Denot g.row.V.Denot g.row.P.Denot). incoming_of x) c.in-Ok.ensures.slot in
    let leaves : c.push_reserved.new.self.items ≡ mid ++ gone =
    rw (c.push_reserved.ensures.items, c.in-Some-replaced.is) refl in
    let done = λ (source : Source). goes_on c.prepare.new.leaves.items mid c.push_reserved.new.self.items
    (λ ls. Evicts m (s.capacity - inc.kept.weight) (state_of s) ls (state_of c.evict_onto.new.self))
    (λ more. more ≡ gone)
    (λ ls. InsertsPlain m source (state_of s) inc ls (entry_of (state_of s) inc.id inc.kept source)
    (state_of c.admit.new.self))
    (λ ls more evicts is. rw is
    (emplaced m (state_of s) inc c.requires.may source ls (state_of c.evict_onto.new.self) evicts
    c.in-Some.replaced (state_of c.admit.new.self)
    (admits_at (meaning_of s) c.args.now (state_of c.evict_onto.new.self) inc c.in-Some.replaced
    (state_of c.admit.new.self) (rw came at c.in-Some.ensures.admitted))))
    went (record { more = gone; told = leaves; so = refl }) in
    record { inserted = λ source. rw (sym c.in-Ok.ensures.leaves) (done source) }

pub returns-in_default-replaced : goal.returns-in_default-replaced
returns-in_default-replaced g c =
    let s = c.args.self.now in
    let m = at_moment c.args.now (meaning_of s) in
    let inc : Incoming g.row.K.Denot g.row.V.Denot g.row.P.Denot = incoming_of c.args.slot in
    let mid = c.evict_onto.new.leaves.items in
    let gone = replaced_leaves c.in-Some.replaced in
    let went : GoesOn c.prepare.new.leaves.items c.evict_onto.new.leaves.items
    (λ ls. Evicts m (s.capacity - inc.kept.weight) (state_of s) ls (state_of c.evict_onto.new.self)) =
    subst (λ (n : ℕ). GoesOn c.prepare.new.leaves.items c.evict_onto.new.leaves.items
    (λ ls. Evicts m n (state_of s) ls (state_of c.evict_onto.new.self)))
    (c.saturating_sub-target.ensures ∙ ap (λ (w : ℕ). s.capacity - w) c.weight.ensures)
    (subst (λ st. GoesOn c.prepare.new.leaves.items c.evict_onto.new.leaves.items
    (λ ls. Evicts m c.saturating_sub-target.result st ls (state_of c.evict_onto.new.self))) c.in-Ok.ensures.same
    c.in-Ok-evict_onto.ensures.done) in
    let came : incoming_of c.prepare.new.slot ≡ inc =
    ap (λ (x : Kept g.row.K.Denot g.row.V.Denot g.row.P.Denot). incoming_of x) c.in-Ok.ensures.slot in
    let leaves : mid ≡ mid ++ gone = rw c.in_default-replaced.is (sym (append-nil mid)) in
    let done = λ (source : Source). goes_on c.prepare.new.leaves.items mid mid
    (λ ls. Evicts m (s.capacity - inc.kept.weight) (state_of s) ls (state_of c.evict_onto.new.self))
    (λ more. more ≡ gone)
    (λ ls. InsertsPlain m source (state_of s) inc ls (entry_of (state_of s) inc.id inc.kept source)
    (state_of c.admit.new.self))
    (λ ls more evicts is. rw is
    (emplaced m (state_of s) inc c.requires.may source ls (state_of c.evict_onto.new.self) evicts
    c.in-Some.replaced (state_of c.admit.new.self)
    (admits_at (meaning_of s) c.args.now (state_of c.evict_onto.new.self) inc c.in-Some.replaced
    (state_of c.admit.new.self) (rw came at c.in-Some.ensures.admitted))))
    went (record { more = gone; told = leaves; so = refl }) in
    record { inserted = λ source. rw (sym c.in-Ok.ensures.leaves) (done source) }

pub returns-in-None : goal.returns-in-None
returns-in-None g c =
    let s = c.args.self.now in
    let m = at_moment c.args.now (meaning_of s) in
    let inc : Incoming g.row.K.Denot g.row.V.Denot g.row.P.Denot = incoming_of c.args.slot in
    let went : GoesOn c.prepare.new.leaves.items c.evict_onto.new.leaves.items
    (λ ls. Evicts m (s.capacity - inc.kept.weight) (state_of s) ls (state_of c.evict_onto.new.self)) =
    subst (λ (n : ℕ). GoesOn c.prepare.new.leaves.items c.evict_onto.new.leaves.items
    (λ ls. Evicts m n (state_of s) ls (state_of c.evict_onto.new.self)))
    (c.saturating_sub-target.ensures ∙ ap (λ (w : ℕ). s.capacity - w) c.weight.ensures)
    (subst (λ st. GoesOn c.prepare.new.leaves.items c.evict_onto.new.leaves.items
    (λ ls. Evicts m c.saturating_sub-target.result st ls (state_of c.evict_onto.new.self))) c.in-Ok.ensures.same
    c.in-Ok-evict_onto.ensures.done) in
    record {
      inserted = λ _. rw (c.in-None.ensures.none, sym c.in-Ok.ensures.leaves)
          (goes_so c.prepare.new.leaves.items c.evict_onto.new.leaves.items
          (λ ls. Evicts m (s.capacity - inc.kept.weight) (state_of s) ls (state_of c.evict_onto.new.self))
          (λ ls. RefusesPlain m (state_of s) inc NoMemory ls (state_of c.evict_onto.new.self))
          (λ ls evicts. wants_memory m (state_of s) inc c.requires.may ls (state_of c.evict_onto.new.self)
          (evicts_begin m (state_of s) inc (s.capacity - inc.kept.weight) ls (state_of c.evict_onto.new.self)
          evicts)) went);
    }
