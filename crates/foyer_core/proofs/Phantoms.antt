-- What an insert of a phantom record has done, from the steps that it took.
use Rattle.std.proofs.Common.{◌≡◌, ◌<◌, ◌≤◌, ◌↔◌, ℕ, List, [], ◌∷◌, ◌++◌, Option, Some, None, refl, sym, ap, subst, arith}
use Rattle.std.specs.Cmp.{IsEquivalence}
use Rattle.foyer_policy.specs.Policy.{IsPolicy}
use Rattle.foyer_policy.specs.declared.types.Event.{Event}
use Rattle.foyer_policy.specs.declared.types.Event.TheVariants.{Replace, Remove}
use Rattle.foyer_policy.specs.declared.types.Source.{Source}
use Rattle.foyer_policy.specs.declared.error.Reason.{Reason}
use Rattle.foyer_policy.specs.declared.error.Reason.TheVariants.{Ids, Handles}
use Rattle.foyer_core.specs.Values.{Gone, Incoming}
use Rattle.foyer_core.specs.State.{Meaning, State, key_of}
use Rattle.foyer_core.specs.Steps.{HasId, LacksId, entry_of, replaced_leaves, GivesWay, MayHold, InsertsPhantom, after_hold}
use Rattle.foyer_core.specs.Bulk.{TakesRecordOut}
use Rattle.foyer_core.proofs.LeaveLemmas.{Rests}
use Rattle.foyer_core.proofs.InsertLemmas.{gives_way_rests}

module _ {K V P View : Type 0} (s : State K V P View) (inc : Incoming K V P) (r : Option Reason)
    (ids : r ≡ Some Ids ↔ LacksId s inc.id)
    (handles : r ≡ Some Handles ↔ (HasId s inc.id × (s.limits.handles < inc.handles))) where
  -- where nothing is refused, there is an id, and its handles may be
  pub may_hold : r ≡ None → HasId s inc.id × (inc.handles ≤ s.limits.handles)
  may_hold none =
      let not_ids : ¬ LacksId s inc.id = λ h. (let e = ids.1 h in absurd cc) in
      let number : HasId s inc.id = omega arith in
      let not_handles : ¬ (s.limits.handles < inc.handles) = λ h. (let e = handles.1 (number, h) in absurd cc) in
      (number, omega arith)

module _ {K V P View C : Type 0} (m : Meaning K P View C) where
  -- the record that is taken out is what gives way
  pub taken_gives_way : (old : State K V P View) (o : Option ℕ) (id : ℕ) → o ≡ Some id →
      (gone : Gone K V P) (new : State K V P View) → TakesRecordOut m old id gone new
      → GivesWay m o old ((Replace, gone) ∷ []) new
  taken_gives_way old o id is gone new h = subst (λ (w : Option ℕ). GivesWay m w old ((Replace, gone) ∷ []) new)
      (sym is)
      (h.rec, h.there, ap (λ (g : Gone K V P). let l : Event × Gone K V P = (Replace, g) in l) h.gone_is, h.after)

  module _ (old : State K V P View) (inc : Incoming K V P) (replaced : Option (Gone K V P)) (last : State K V P View)
      (way : GivesWay m (old.index (key_of inc.kept)) old (replaced_leaves replaced) last) where
    pub way_rests : (laws : IsEquivalence m.same) → IsPolicy m.policy → Rests m old last
    way_rests laws good = gives_way_rests m laws good (old.index (key_of inc.kept)) old (replaced_leaves replaced)
        last way

    pub phantom_came : (source : Source) → MayHold m old inc → (ls : List (Event × Gone K V P)) → ls
        ≡ replaced_leaves replaced ++ (Remove, record { number = old.number; id = inc.id; kept = inc.kept }) ∷ []
        → InsertsPhantom m source old inc ls (entry_of old inc.id inc.kept source) (after_hold m last inc)
    phantom_came source may ls is = record {
      may = may;
      replaced = replaced_leaves replaced;
      last = last;
      leaves = is;
      gives_way = way;
      entry_is = refl;
      after = refl;
    }
