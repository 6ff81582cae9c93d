-- A shard at a moment: what is so of it in any case, and its evictions.
use Rattle.std.proofs.Common.{◌≡◌, ℕ, ◌-◌, List, [], ◌∷◌, Option, Some, None, Bool, true, false, refl, sym, ◌∙◌, ap}
use Rattle.std.specs.Prelude.{Result, Ok, Err, IfNone, IfOk, IfSome, IsSome}
use Rattle.foyer_policy.specs.Moments.{due_or_pop, first_due, is_due, timed}
use Rattle.foyer_policy.specs.Policy.{Policy, IsPolicy, evicted}
use Rattle.foyer_policy.specs.declared.types.Item.{Item}
use Rattle.foyer_policy.specs.declared.types.Event.{Event}
use Rattle.foyer_policy.specs.declared.error.Reason.{Reason}
use Rattle.foyer_policy.specs.declared.error.Reason.TheVariants.{Ids, Handles, Weight, NoMemory}
use Rattle.foyer_policy.proofs.MomentsLaws.{due_first-lawful}
use Rattle.foyer_core.specs.Bulk.{TakesRecordOut}
use Rattle.foyer_core.specs.State.{Meaning, State, IsKept, at_moment, is_phantom_record}
use Rattle.foyer_core.specs.Steps.{Admits, EvictsOne, GivesWay, Leave, MayBy, RefusesBy, RefusesInsert, after_out}
use Rattle.foyer_core.specs.Values.{Gone, Incoming}

-- a policy at a moment meets the laws
pub timed_lawful : {View C : Type 0} (now : ℕ) (p : Policy View C) → IsPolicy p → IsPolicy (timed now p)
timed_lawful now p good = due_first-lawful (is_due now) p good

module _ {K V P View C : Type 0} (m : Meaning K P View C) (now : ℕ) where
  -- what a shard keeps it keeps at each moment
  pub kept_at : (s : State K V P View) → IsKept m s → IsKept (at_moment now m) s
  kept_at s k = record {
    once = k.once;
    placed = k.placed;
    indexed = k.indexed;
    resident = k.resident;
    respects = k.respects;
    needed = k.needed;
    limited = k.limited;
    pinned = k.pinned;
    plain = k.plain;
    fresh = k.fresh;
    fits = k.fits;
  }

  leave_at : (e : Event) (ids : List ℕ) (old : State K V P View) (ls : List (Event × Gone K V P)) (v : View)
      (new : State K V P View) → Leave m e ids old ls v new → Leave (at_moment now m) e ids old ls v new
  leave_at e [] old [] v new h = h
  leave_at e [] old (l ∷ ls) v new h = h
  leave_at e (i ∷ ids) old [] v new h = h
  leave_at e (i ∷ ids) old (l ∷ ls) v new h = (h.0, h.1, h.2, leave_at e ids (after_out m old i h.0) ls v new h.3)

  pub way_at : (o : Option ℕ) (old : State K V P View) (ls : List (Event × Gone K V P)) (new : State K V P View) →
      GivesWay m o old ls new → GivesWay (at_moment now m) o old ls new
  way_at None old ls new h = h
  way_at (Some id) old ls new h = leave_at _ (id ∷ []) old ls (m.policy.remove old.view id) new h

  pub admits_at : (old : State K V P View) (i : Incoming K V P) (replaced : Option (Gone K V P))
      (new : State K V P View) → Admits m old i replaced new → Admits (at_moment now m) old i replaced new
  admits_at old i replaced new h =
      record { last = h.last; gives_way = way_at _ old _ h.last h.gives_way; after = h.after }

  pub may_at : (b : Bool) (s : State K V P View) (i : Incoming K V P) → MayBy m b s i → MayBy (at_moment now m) b s i
  may_at true s i h = h
  may_at false s i h = h

  -- so is a refusal before anything left
  pub refuses_at : (s : State K V P View) (i : Incoming K V P) (reason : Reason) → RefusesInsert m s i reason [] s →
      RefusesInsert (at_moment now m) s i reason [] s
  refuses_at s i reason h = go (is_phantom_record m i.kept) reason h where
    go : (b : Bool) (reason : Reason) → RefusesBy m b s i reason [] s → RefusesBy (at_moment now m) b s i reason [] s
    go true Ids h = h
    go true Handles h = h
    go true NoMemory h = h
    go true _ h = absurd h
    go false Ids h = h
    go false Handles h = h
    go false Weight h = h
    go false NoMemory h = (
      h.0,
      record {
        left = [];
        rest = evicted (timed now m.policy) (s.capacity - i.kept.weight) s.view;
        parts = refl;
        leave = refl;
      },
    )
    go false _ h = absurd h

  -- where nothing is due, what the policy pops is what leaves at the moment
  module _ (s : State K V P View) (none : first_due (is_due now) m.policy s.view ≡ None) where
    pub pop_at : (o : Option (Item × View)) → m.policy.pop s.view ≡ o → (at_moment now m).policy.pop s.view ≡ o
    pop_at o is = ap (due_or_pop (is_due now) m.policy s.view) none ∙ is

    pub one_at : (gone : Gone K V P) (new : State K V P View) → EvictsOne m s gone new →
        EvictsOne (at_moment now m) s gone new
    one_at gone new e = record {
      item = e.item;
      view = e.view;
      rec = e.rec;
      popped = pop_at (Some (e.item, e.view)) e.popped;
      there = e.there;
      gone_is = e.gone_is;
      after = e.after;
    }

  -- what is due first leaves
  pub due_at : (s : State K V P View) (i : Item) → first_due (is_due now) m.policy s.view ≡ Some i →
      (gone : Gone K V P) (new : State K V P View) → TakesRecordOut m s i.id gone new →
      EvictsOne (at_moment now m) s gone new
  due_at s i due gone new t = record {
    item = i;
    view = m.policy.remove s.view i.id;
    rec = t.rec;
    popped = ap (due_or_pop (is_due now) m.policy s.view) due;
    there = t.there;
    gone_is = t.gone_is;
    after = t.after;
  }

  -- so it does where a policy says where it stands
  pub due_leaves : (s : State K V P View) (o : Option Item) → IsSome o → o ≡ first_due (is_due now) m.policy s.view →
      (gone : Gone K V P) (new : State K V P View) → ((i : Item) → o ≡ Some i → TakesRecordOut m s i.id gone new) →
      EvictsOne (at_moment now m) s gone new
  due_leaves s None there due gone new taken = absurd cc
  due_leaves s (Some i) there due gone new taken = due_at s i (sym due) gone new (taken i refl)

module _ {K V P View C E : Type 0} (m : Meaning K P View C) (now : ℕ) (s : State K V P View)
    (none : first_due (is_due now) m.policy s.view ≡ None) (r : Result (Option (Gone K V P)) E)
    (new : State K V P View) where
  -- the same of what a call answers
  pub ones_at : IfOk r (λ found. IfSome found (λ gone. EvictsOne m s gone new)) →
      IfOk r (λ found. IfSome found (λ gone. EvictsOne (at_moment now m) s gone new))
  ones_at h = go r h where
    go : (q : Result (Option (Gone K V P)) E) → IfOk q (λ found. IfSome found (λ gone. EvictsOne m s gone new)) →
        IfOk q (λ found. IfSome found (λ gone. EvictsOne (at_moment now m) s gone new))
    go (Ok (Some gone)) h = one_at m now s none gone new h
    go (Ok None) h = tt
    go (Err e) h = tt

  pub none_at : IfOk r (λ found. IfNone found ((m.policy.pop s.view ≡ None) × (new ≡ s))) →
      IfOk r (λ found. IfNone found (((at_moment now m).policy.pop s.view ≡ None) × (new ≡ s)))
  none_at h = go r h where
    go : (q : Result (Option (Gone K V P)) E) → IfOk q (λ found. IfNone found ((m.policy.pop s.view ≡ None) × (new ≡ s)))
        → IfOk q (λ found. IfNone found (((at_moment now m).policy.pop s.view ≡ None) × (new ≡ s)))
    go (Ok (Some gone)) h = tt
    go (Ok None) h = (pop_at m now s none None h.0, h.1)
    go (Err e) h = tt
