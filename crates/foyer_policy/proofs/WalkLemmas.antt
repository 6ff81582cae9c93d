-- A walk along a list under places, which collects the items that it meets.
use Rattle.std.proofs.Common.{◌≡◌, ℕ, ◌+◌, ◌<◌, List, [], ◌∷◌, ◌++◌, Option, Some, None, length, refl, sym, ◌∙◌, ap, subst, arith, append_assoc, length-append}
use Rattle.std.proofs.lemmas.List.{map-append, append-nil, length-map}
use Rattle.foyer_policy.specs.Lists.{find_in, first_or, IsDistinct}
use Rattle.foyer_policy.specs.declared.types.Item.{Item}
use Rattle.foyer_policy.proofs.ItemPlaces.{items}
use Rattle.foyer_policy.proofs.PlaceLemmas.{IsDistinct-mid, find_in-mid}

module _ {T : Type 0} (item : T → Item) where
  -- what is done, what comes next, and the items that were met beside those from before
  pub record Walk (before : List Item) (all : List (ℕ × T)) (next : Option ℕ) (met : List Item) : Type 0 where
    pub done : List (ℕ × T)
    pub todo : List (ℕ × T)
    pub parts : all ≡ done ++ todo
    pub here : next ≡ first_or todo None
    pub told : met ≡ before ++ items item done

  pub walk-start : (before : List Item) (all : List (ℕ × T)) → Walk before all (first_or all None) before
  walk-start before all = record { done = []; todo = all; parts = refl; here = refl; told = sym (append-nil before) }

  pub walk-end : (before : List Item) (all : List (ℕ × T)) (met : List Item) → Walk before all None met → met ≡ before
      ++ items item all
  walk-end before all met w = go w.todo w.here w.parts where
    go : (todo : List (ℕ × T)) → None ≡ first_or todo None → all ≡ w.done ++ todo → met ≡ before ++ items item all
    go [] h parts = w.told ∙ ap (λ (l : List (ℕ × T)). before ++ items item l) (sym (append-nil w.done) ∙ sym parts)
    go (x ∷ xs) h parts = absurd cc

  -- the entry where the walk stands
  pub record Stop (before : List Item) (all : List (ℕ × T)) (p : ℕ) (met : List Item) : Type 0 where
    pub value : T
    pub done : List (ℕ × T)
    pub todo : List (ℕ × T)
    pub parts : all ≡ done ++ (p, value) ∷ todo
    pub told : met ≡ before ++ items item done
    pub found : find_in p all ≡ Some value

  pub walk-stop : (before : List Item) (all : List (ℕ × T)) (p : ℕ) (met : List Item) → IsDistinct all →
      Walk before all (Some p) met → Stop before all p met
  walk-stop before all p met distinct w = go w.todo w.here w.parts where
    go : (todo : List (ℕ × T)) → Some p ≡ first_or todo None → all ≡ w.done ++ todo → Stop before all p met
    go [] h parts = absurd cc
    go (x ∷ xs) h parts =
        let same : p ≡ x.0 = cc in
        let whole : all ≡ w.done ++ (p, x.1) ∷ xs = parts ∙ ap (λ (q : ℕ). w.done ++ (q, x.1) ∷ xs) (sym same) in
        let free = IsDistinct-mid p x.1 w.done xs (subst (λ (l : List (ℕ × T)). IsDistinct l) whole distinct) in
        record {
          value = x.1;
          done = w.done;
          todo = xs;
          parts = whole;
          told = w.told;
          found = ap (find_in p) whole ∙ find_in-mid p x.1 w.done xs free.0;
        }

  pub walk-within : (before : List Item) (all : List (ℕ × T)) (p : ℕ) (met : List Item) → Stop before all p met →
      length met < length before + length all
  walk-within before all p met s =
      omega (
        arith,
        ap length s.told,
        length-append before (items item s.done),
        length-map s.done (λ (e : ℕ × T). item e.1),
        ap length s.parts,
        length-append s.done ((p, s.value) ∷ s.todo),
      )

  pub walk-on : (before : List Item) (all : List (ℕ × T)) (p : ℕ) (next : Option ℕ) (met : List Item) (v : T) →
      Stop before all p met → find_in p all ≡ Some v
      → ((xs ys : List (ℕ × T)) (v : T) → all ≡ xs ++ (p, v) ∷ ys → next ≡ first_or ys None) →
      Walk before all next (met ++ item v ∷ [])
  walk-on before all p next met v s found after =
      let same : v ≡ s.value = (let e : Some v ≡ Some s.value = sym found ∙ s.found in cc) in
      record {
        done = s.done ++ (p, s.value) ∷ [];
        todo = s.todo;
        parts = s.parts ∙ sym (append_assoc s.done ((p, s.value) ∷ []) s.todo);
        here = after s.done s.todo s.value s.parts;
        told =
            ap (λ (l : List Item). l ++ item v ∷ []) s.told ∙ append_assoc before (items item s.done) (item v ∷ [])
            ∙ ap (λ (l : List Item). before ++ l)
            (ap (λ (x : T). items item s.done ++ item x ∷ []) same
            ∙ sym (map-append (λ (e : ℕ × T). item e.1) s.done ((p, s.value) ∷ [])));
      }
