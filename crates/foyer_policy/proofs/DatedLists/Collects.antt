-- The dates of lists while they are collected, list by list.
use Rattle.std.proofs.Common.{◌≡◌, ◌≢◌, ℕ, ◌+◌, ◌<◌, ◌≤◌, List, [], ◌∷◌, ◌++◌, Option, Some, None, refl, sym, ◌∙◌, arith, ◌⊎◌, inl, inr, length}
use Rattle.foyer_policy.specs.Dates.{Dates, on, with_last}
use Rattle.foyer_policy.specs.DatedLists.{Builds, dates_at}
use Rattle.foyer_policy.specs.Lists.{list_at, find_in, first_or, AreLists}
use Rattle.foyer_policy.specs.declared.types.Item.{Item}
use Rattle.foyer_policy.proofs.DatedLists.Walk.{Met, Stands, met-date, met-end, met-none, met-stands, met-start}
use Rattle.foyer_policy.proofs.DatedLists.Entries.{dates-free}
use Rattle.foyer_policy.proofs.ListsLemmas.{below_or_past, same_or_not}
use Rattle.foyer_policy.proofs.PlaceLemmas.{find_in-free, other_place, same_place}

module _ {T : Type 0} (item : T → Item) (count : ℕ) (ls : List (List (ℕ × T))) (list : ℕ) where
  -- the dates of the lists before this one, and those of its own that a walk has met
  pub record Collects (next : Option ℕ) (d : Dates) : Type 0 where
    pub lists : d.lists ≡ count
    pub done : (k : ℕ) → k < list → on d k ≡ dates_at item ls k
    pub met : Met item (list_at ls list) next (on d list)
    pub todo : (k : ℕ) → list < k → k < count → on d k ≡ []

  pub collects-start : list < count → (d : Dates) → Builds item count ls list d → Collects (first_or (list_at ls list) None) d
  collects-start lt d b = record {
    lists = b.lists;
    done = b.done;
    met = rw (b.todo list (omega arith) lt) (met-start item (list_at ls list));
    todo = λ k above less. b.todo k (omega arith) less;
  }

  pub collects-end : (d : Dates) → Collects None d → Builds item count ls (list + 1) d
  collects-end d c = record {
    lists = c.lists;
    done = λ k less. go k less (same_or_not k list);
    todo = λ k past less. c.todo k (omega arith) less;
  } where
    go : (k : ℕ) → k < list + 1 → (k ≡ list) ⊎ (k ≢ list) → on d k ≡ dates_at item ls k
    go k less (inl e) = rw e (met-end item (list_at ls list) (on d list) c.met)
    go k less (inr ne) = c.done k (omega arith)

  module _ (n : ℕ) (sound : AreLists n ls) (few : count ≤ n) (lt : list < count) (p : ℕ) (d : Dates)
      (c : Collects (Some p) d) where
    within : list < length ls
    within = omega (arith, sound.count, few)

    pub collects-found : (v : T) × (find_in p (list_at ls list) ≡ Some v)
    collects-found =
        let s = met-stands item (list_at ls list) (sound.within list within) p (on d list) c.met in (s.value, s.found)

    -- the place has no date yet
    pub collects-free : (k : ℕ) → k < d.lists → find_in p (on d k) ≡ None
    collects-free k less = go (same_or_not k list) (below_or_past k list) where
      s : Stands item (list_at ls list) p (on d list)
      s = met-stands item (list_at ls list) (sound.within list within) p (on d list) c.met

      go : (k ≡ list) ⊎ (k ≢ list) → (k < list) ⊎ (list ≤ k) → find_in p (on d k) ≡ None
      go (inl e) side = rw e (find_in-free p (on d list) s.free)
      go (inr ne) (inl below) = rw (c.done k below) (find_in-free p (dates_at item ls k)
          (dates-free item p (list_at ls k) (sound.between list k p s.value within (omega (arith, sound.count, few)) (λ e. ne (sym e)) s.found)))
      go (inr ne) (inr past) = rw (c.todo k (omega arith) (omega (arith, c.lists))) refl

    module _ (v : T) (next : Option ℕ) (found : find_in p (list_at ls list) ≡ Some v)
        (after : (xs ys : List (ℕ × T)) (w : T) → list_at ls list ≡ xs ++ (p, w) ∷ ys → next ≡ first_or ys None) where
      pub collects-none : (item v).expires ≡ None → Collects next d
      collects-none is = record {
        lists = c.lists;
        done = c.done;
        met = met-none item (list_at ls list) (sound.within list within) p (on d list) c.met v next found after is;
        todo = c.todo;
      }

      pub collects-date : (date : ℕ) → (item v).expires ≡ Some date → (new : Dates) → new.lists ≡ d.lists →
          ((k : ℕ) → k < d.lists → on new k ≡ with_last list p date (on d) k) → Collects next new
      collects-date date is new lists pushed = record {
        lists = lists ∙ c.lists;
        done = λ k below. other k (omega (arith, c.lists)) (omega arith) ∙ c.done k below;
        met = rw here
            (met-date item (list_at ls list) (sound.within list within) p (on d list) c.met v next found after date is);
        todo = λ k above less. other k (omega (arith, c.lists)) (omega arith) ∙ c.todo k above less;
      } where
        other : (k : ℕ) → k < d.lists → k ≢ list → on new k ≡ on d k
        other k less ne = pushed k less ∙ rw (other_place k list ne) refl

        here : on new list ≡ on d list ++ (p, date) ∷ []
        here = pushed list (omega (arith, c.lists)) ∙ rw (same_place list) refl
