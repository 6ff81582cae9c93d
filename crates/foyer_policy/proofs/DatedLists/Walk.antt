-- A walk along a list that collects the dates of the items that it meets.
use Rattle.std.proofs.Common.{◌≡◌, ℕ, suc, false, List, [], ◌∷◌, ◌++◌, Option, Some, None, refl, sym, ◌∙◌, ap, subst, append_assoc}
use Rattle.std.specs.Prelude.{is_some}
use Rattle.foyer_policy.specs.Dates.{dates_of}
use Rattle.foyer_policy.specs.Lists.{find_in, first_or, IsFree, IsDistinct}
use Rattle.foyer_policy.specs.declared.types.Item.{Item}
use Rattle.foyer_policy.proofs.DatedLists.Entries.{dates-free, dates-more, dates-no_more}
use Rattle.foyer_policy.proofs.DueLemmas.{left, left-next}
use Rattle.foyer_policy.proofs.PlaceLemmas.{IsDistinct-mid, find_in-mid}
use Rattle.std.proofs.lemmas.List.{append-nil}

module _ {T : Type 0} (item : T → Item) (all : List (ℕ × T)) where
  -- what is done, what comes next, and the dates that were met
  pub record Met (next : Option ℕ) (dates : List (ℕ × ℕ)) : Type 0 where
    pub done : List (ℕ × T)
    pub todo : List (ℕ × T)
    pub parts : all ≡ done ++ todo
    pub here : next ≡ first_or todo None
    pub told : dates ≡ dates_of item done

  pub met-start : Met (first_or all None) []
  met-start = record { done = []; todo = all; parts = refl; here = refl; told = refl }

  pub met-end : (dates : List (ℕ × ℕ)) → Met None dates → dates ≡ dates_of item all
  met-end dates m = go m.todo m.here m.parts where
    go : (todo : List (ℕ × T)) → None ≡ first_or todo None → all ≡ m.done ++ todo → dates ≡ dates_of item all
    go [] h parts = m.told ∙ ap (dates_of item) (sym (append-nil m.done) ∙ sym parts)
    go (x ∷ xs) h parts = absurd cc

  -- the entry where the walk stands
  pub record Stands (p : ℕ) (dates : List (ℕ × ℕ)) : Type 0 where
    pub value : T
    pub done : List (ℕ × T)
    pub todo : List (ℕ × T)
    pub parts : all ≡ done ++ (p, value) ∷ todo
    pub told : dates ≡ dates_of item done
    pub found : find_in p all ≡ Some value
    pub free : IsFree p dates

  module _ (distinct : IsDistinct all) (p : ℕ) (dates : List (ℕ × ℕ)) (m : Met (Some p) dates) where
    pub met-stands : Stands p dates
    met-stands = go m.todo m.here m.parts where
      go : (todo : List (ℕ × T)) → Some p ≡ first_or todo None → all ≡ m.done ++ todo → Stands p dates
      go [] h parts = absurd cc
      go (x ∷ xs) h parts =
          let same : p ≡ x.0 = cc in
          let whole : all ≡ m.done ++ (p, x.1) ∷ xs = parts ∙ ap (λ (q : ℕ). m.done ++ (q, x.1) ∷ xs) (sym same) in
          let free = IsDistinct-mid p x.1 m.done xs (subst (λ (l : List (ℕ × T)). IsDistinct l) whole distinct) in
          record {
            value = x.1;
            done = m.done;
            todo = xs;
            parts = whole;
            told = m.told;
            found = ap (find_in p) whole ∙ find_in-mid p x.1 m.done xs free.0;
            free = rw m.told (dates-free item p m.done free.0);
          }

    module _ (v : T) (next : Option ℕ) (found : find_in p all ≡ Some v)
        (after : (xs ys : List (ℕ × T)) (w : T) → all ≡ xs ++ (p, w) ∷ ys → next ≡ first_or ys None) where
      met-on : (more : List (ℕ × ℕ)) → dates_of item (met-stands.done ++ (p, v) ∷ []) ≡ more → Met next more
      met-on more is =
          let s = met-stands in
          let same : v ≡ s.value = (let e : Some v ≡ Some s.value = sym found ∙ s.found in cc) in
          record {
            done = s.done ++ (p, v) ∷ [];
            todo = s.todo;
            parts =
                s.parts ∙ ap (λ (x : T). s.done ++ (p, x) ∷ s.todo) (sym same)
                ∙ sym (append_assoc s.done ((p, v) ∷ []) s.todo);
            here = after s.done s.todo s.value s.parts;
            told = sym is;
          }

      pub met-date : (date : ℕ) → (item v).expires ≡ Some date → Met next (dates ++ (p, date) ∷ [])
      met-date date is = met-on (dates ++ (p, date) ∷ [])
          (dates-more item met-stands.done p date v is
          ∙ ap (λ (l : List (ℕ × ℕ)). l ++ (p, date) ∷ []) (sym met-stands.told))

      pub met-none : (item v).expires ≡ None → Met next dates
      met-none is = met-on dates (dates-no_more item met-stands.done p v is ∙ sym met-stands.told)

    -- fewer are left
    pub met-left : (next : Option ℕ)
        → ((xs ys : List (ℕ × T)) (w : T) → all ≡ xs ++ (p, w) ∷ ys → next ≡ first_or ys None) →
        left (Some p) all ≡ suc (left next all)
    met-left next after =
        let s = met-stands in
        left-next p s.value s.done s.todo all next distinct s.parts (after s.done s.todo s.value s.parts)

  -- where the count is 0, no date was met
  pub record Counts (next : Option ℕ) (count : ℕ) : Type 0 where
    pub dates : List (ℕ × ℕ)
    pub walk : Met next dates
    pub none : count ≡ 0 → dates ≡ []

  pub counts-start : Counts (first_or all None) 0
  counts-start = record { dates = []; walk = met-start; none = λ h. refl }

  pub counts-end : (count : ℕ) → Counts None count → count ≡ 0 → dates_of item all ≡ []
  counts-end count m h = sym (met-end m.dates m.walk) ∙ m.none h

  pub counts-on : IsDistinct all → (p : ℕ) (count more : ℕ) (m : Counts (Some p) count) (v : T) (next : Option ℕ) →
      find_in p all ≡ Some v
      → ((xs ys : List (ℕ × T)) (w : T) → all ≡ xs ++ (p, w) ∷ ys → next ≡ first_or ys None)
      → (more ≡ 0 → (count ≡ 0) × (is_some (item v).expires ≡ false)) → Counts next more
  counts-on distinct p count more m v next found after zero = go (item v).expires refl where
    some : (date : ℕ) → (item v).expires ≡ Some date → is_some (item v).expires ≡ false → ⊥
    some date is h = let e : is_some (Some date) ≡ false = ap (λ (o : Option ℕ). is_some o) (sym is) ∙ h in cc

    go : (o : Option ℕ) → (item v).expires ≡ o → Counts next more
    go None is = record {
      dates = m.dates;
      walk = met-none distinct p m.dates m.walk v next found after is;
      none = λ h. m.none (zero h).0;
    }
    go (Some date) is = record {
      dates = m.dates ++ (p, date) ∷ [];
      walk = met-date distinct p m.dates m.walk v next found after date is;
      none = λ h. absurd (some date is (zero h).1);
    }
