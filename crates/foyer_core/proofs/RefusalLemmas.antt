-- What a refusal of an insert, or none, tells.
use Rattle.std.proofs.Common.{◌≡◌, ◌+◌, ◌<◌, ◌≤◌, ◌^◌, ◌⊎◌, ◌↔◌, ◌∙◌, inl, inr, [], Option, Some, refl, sym, ap, subst}
use Rattle.foyer_policy.specs.declared.error.Reason.{Reason}
use Rattle.foyer_policy.specs.declared.error.Reason.TheVariants.{Ids, Handles, Weight}
use Rattle.foyer_core.specs.Values.{Incoming}
use Rattle.foyer_core.specs.State.{Meaning, State, key_of, pinned_beside}
use Rattle.foyer_core.specs.Steps.{HasId, LacksId, RefusesPlain}

module _ {K V P View C : Type 0} (m : Meaning K P View C) (s : State K V P View) (inc : Incoming K V P)
    (r : Option Reason)
    (ids : r ≡ Some Ids ↔ LacksId s inc.id)
    (handles : r ≡ Some Handles ↔ (HasId s inc.id × (s.limits.handles < inc.handles)))
    (weight : r ≡ Some Weight ↔
    (HasId s inc.id × (inc.handles ≤ s.limits.handles)
    × (2 ^ 64 ≤ inc.kept.weight + pinned_beside m s (key_of inc.kept)))) where
  -- and one that is stands as the insert's
  pub refused : (reason : Reason) → r ≡ Some reason → (reason ≡ Ids) ⊎ ((reason ≡ Handles) ⊎ (reason ≡ Weight)) →
      RefusesPlain m s inc reason [] s
  refused reason is only = elim only [
    | inl e ↦ stands Ids e (ids.0 (is ∙ ap (λ (x : Reason). Some x) e), refl, refl)
    | inr (inl e) ↦ (let h = handles.0 (is ∙ ap (λ (x : Reason). Some x) e) in stands Handles e (h.0, h.1, refl, refl))
    | inr (inr e) ↦
        (let h = weight.0 (is ∙ ap (λ (x : Reason). Some x) e) in stands Weight e (h.0, h.1, h.2, refl, refl))
  ] where
    stands : (x : Reason) → reason ≡ x → RefusesPlain m s inc x [] s → RefusesPlain m s inc reason [] s
    stands x e h = subst (λ (y : Reason). RefusesPlain m s inc y [] s) (sym e) h
