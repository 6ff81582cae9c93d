-- What is known of dates, and what a change of lists makes of that.
use Rattle.std.proofs.Common.{◌≡◌, ◌≢◌, ℕ, zero, suc, ◌<◌, ◌≤◌, cond, List, [], ◌∷◌, ◌++◌, Option, Some, None, length, map, set, refl, sym, ◌∙◌, ap, subst, arith, ◌⊎◌, inl, inr, IsSome, rules}
use Rattle.std.specs.Prelude.{◌==◌, IfSome, option_and_then, option_map}
use Rattle.std.specs.List.{filter}
use Rattle.std.proofs.lemmas.List.{get_or-set_same, get_or-set_other}
use Rattle.std.proofs.Math.ListN.{get_or-map, length-map}
use Rattle.foyer_policy.specs.Dates.{dates_of, with_last}
use Rattle.foyer_policy.specs.DatedLists.{CanPush, CanRemove, Knows, dates_at}
use Rattle.foyer_policy.specs.Dues.{first_item, first_lists}
use Rattle.foyer_policy.specs.Lists.{list_at, find, find_in, rest, drop_place, moved, with_value, IsFree, AreLists}
use Rattle.foyer_policy.specs.Moments.{is_due}
use Rattle.foyer_policy.specs.declared.dated_lists.tracking.Tracking.{Tracking}
use Rattle.foyer_policy.specs.declared.dated_lists.tracking.Tracking.TheVariants.{Plain, Untracked, Tracked}
use Rattle.foyer_policy.specs.declared.types.Item.{Item}
use Rattle.foyer_policy.proofs.DatedLists.Entries.{FirstDue, dates-drop, dates-found, dates-free, dates-lost, dates-more, dates-no_more, dates-with_value, none-drop, none-due, none-found, none-rest}
use Rattle.foyer_policy.proofs.DueLemmas.{none-front}
use Rattle.foyer_policy.proofs.ListsLemmas.{find-at, same_or_not, Member, member}
use Rattle.foyer_policy.proofs.PlaceLemmas.{same_place, other_place, drop_place-free, dropped_is_free, find_in-free}

-- the same dates of each list, as another function
pub Knows-same : (n : ℕ) (are be : ℕ → List (ℕ × ℕ)) (t : Tracking) → ((k : ℕ) → k < n → be k ≡ are k) →
    Knows n are t → Knows n be t
Knows-same n are be Plain same h = λ k lt. same k lt ∙ h k lt
Knows-same n are be Untracked same h = tt
Knows-same n are be (Tracked d) same h = record {
  lists = h.lists;
  same = λ k lt. h.same k lt ∙ sym (same k (omega (arith, h.lists)));
}

-- whether there is a date
pub not_some : (o : Option ℕ) → ((date : ℕ) → o ≡ Some date → ⊥) → o ≡ None
not_some None h = refl
not_some (Some date) h = absurd (h date refl)

-- a date may come where none is
pub CanPush-free : (n : ℕ) (are : ℕ → List (ℕ × ℕ)) (p : ℕ) (t : Tracking) → Knows n are t
    → ((k : ℕ) → k < n → IsFree p (are k)) → CanPush p t
CanPush-free n are p Plain h free = tt
CanPush-free n are p Untracked h free = tt
CanPush-free n are p (Tracked d) h free =
    λ k less. rw (h.same k less) (find_in-free p (are k) (free k (omega (arith, h.lists))))

module _ {T : Type 0} (item : T → Item) where
  -- a value that comes to the end of a list
  pub pushed-date : (ls : List (List (ℕ × T))) (list p date : ℕ) (v : T) → (item v).expires ≡ Some date →
      list < length ls → (k : ℕ) → dates_at item (set ls list (list_at ls list ++ (p, v) ∷ [])) k
      ≡ with_last list p date (dates_at item ls) k
  pushed-date ls list p date v is lt k = go (same_or_not k list) where
    go : (k ≡ list) ⊎ (k ≢ list) → dates_at item (set ls list (list_at ls list ++ (p, v) ∷ [])) k
        ≡ with_last list p date (dates_at item ls) k
    go (inl e) = rw (e, same_place list, get_or-set_same ls list (list_at ls list ++ (p, v) ∷ []) [] lt)
        (dates-more item (list_at ls list) p date v is)
    go (inr ne) = rw (other_place k list ne, get_or-set_other ls list k (list_at ls list ++ (p, v) ∷ []) [] ne) refl

  pub pushed-none : (ls : List (List (ℕ × T))) (list p : ℕ) (v : T) → (item v).expires ≡ None → list < length ls →
      (k : ℕ) → dates_at item (set ls list (list_at ls list ++ (p, v) ∷ [])) k ≡ dates_at item ls k
  pushed-none ls list p v is lt k = go (same_or_not k list) where
    go : (k ≡ list) ⊎ (k ≢ list) → dates_at item (set ls list (list_at ls list ++ (p, v) ∷ [])) k ≡ dates_at item ls k
    go (inl e) = rw (e, get_or-set_same ls list (list_at ls list ++ (p, v) ∷ []) [] lt)
        (dates-no_more item (list_at ls list) p v is)
    go (inr ne) = rw (get_or-set_other ls list k (list_at ls list ++ (p, v) ∷ []) [] ne) refl

  -- where nothing expires
  module _ (n : ℕ) (ls : List (List (ℕ × T))) (none : (k : ℕ) → k < n → dates_at item ls k ≡ []) where
    pub dropped-plain : (p k : ℕ) → k < n → dates_at item (map (drop_place p) ls) k ≡ []
    dropped-plain p k lt = ap (dates_of item) (get_or-map (drop_place p) ls k []) ∙ none-drop item p (list_at ls k) (none k lt)

    pub popped-plain : (list k : ℕ) → list < length ls → k < n →
        dates_at item (set ls list (rest (list_at ls list))) k ≡ []
    popped-plain list k ll lt = go (same_or_not k list) where
      go : (k ≡ list) ⊎ (k ≢ list) → dates_at item (set ls list (rest (list_at ls list))) k ≡ []
      go (inl e) = rw (e, get_or-set_same ls list (rest (list_at ls list)) [] ll)
          (none-rest item (list_at ls list) (none list (omega arith)))
      go (inr ne) = rw (get_or-set_other ls list k (rest (list_at ls list)) [] ne) (none k lt)

    pub due-plain : (now count : ℕ) → count ≤ n → filter (is_due now) (first_lists item ls count) ≡ []
    due-plain now zero le = refl
    due-plain now (suc k) le =
        none-front (is_due now) (first_lists item ls k) (map (λ e. item e.1) (list_at ls k)) (due-plain now k (omega arith))
        ∙ none-due item now (list_at ls k) (none k (omega arith))

  module _ (n : ℕ) (ls : List (List (ℕ × T))) (sound : AreLists n ls) where
    -- a value that goes
    pub dropped-dates : (p k : ℕ) → k < n → dates_at item (map (drop_place p) ls) k ≡ drop_place p (dates_at item ls k)
    dropped-dates p k lt =
        ap (dates_of item) (get_or-map (drop_place p) ls k [])
        ∙ dates-drop item p (list_at ls k) (sound.within k (omega (arith, sound.count)))

    module _ (p : ℕ) (v : T) (found : find p ls ≡ Some v) where
      -- it has a date alone where it expires
      free-none : (item v).expires ≡ None → (k : ℕ) → k < n → IsFree p (dates_at item ls k)
      free-none is k lt = let m : Member p v ls = member p v ls found in go m (same_or_not k m.list) where
        go : (m : Member p v ls) → (k ≡ m.list) ⊎ (k ≢ m.list) → IsFree p (dates_at item ls k)
        go m (inl e) = dates-lost item p v (list_at ls k) (sound.within k (omega (arith, sound.count)))
            (rw e m.there) is
        go m (inr ne) = dates-free item p (list_at ls k)
            (sound.between m.list k p v m.within (omega (arith, sound.count)) (λ e. ne (sym e)) m.there)

      pub dropped-none : (item v).expires ≡ None → (k : ℕ) → k < n → dates_at item (map (drop_place p) ls) k
          ≡ dates_at item ls k
      dropped-none is k lt = dropped-dates p k lt ∙ drop_place-free p (dates_at item ls k) (free-none is k lt)

      pub CanRemove-found : (date list : ℕ) (t : Tracking) → Knows n (dates_at item ls) t →
          (item v).expires ≡ Some date → list < n → find_in p (list_at ls list) ≡ find p ls → CanRemove list p t
      CanRemove-found date list Plain h is lt at = tt
      CanRemove-found date list Untracked h is lt at = tt
      CanRemove-found date list (Tracked d) h is lt at = record {
        there = λ less. rw (h.same list less, dates-found item p date v (list_at ls list) (at ∙ found) is) (search rules);
        others = λ k less ne. rw (h.same k less) (dates-free item p (list_at ls k)
            (sound.between list k p v (omega (arith, sound.count)) (omega (arith, h.lists, sound.count)) (λ e. ne (sym e))
            (at ∙ found)));
      }

      -- a value that moves to the end of a list
      moved-is : (list : ℕ) → moved p list ls
          ≡ set (map (drop_place p) ls) list (list_at (map (drop_place p) ls) list ++ (p, v) ∷ [])
      moved-is list = rw found refl

      pub moved-none : (item v).expires ≡ None → (list : ℕ) → list < n → (k : ℕ) → k < n →
          dates_at item (moved p list ls) k ≡ dates_at item ls k
      moved-none is list ll k lt =
          let small : list < length (map (drop_place {T = T} p) ls) = rw length-map (omega (arith, sound.count)) in
          ap (λ (x : List (List (ℕ × T))). dates_at item x k) (moved-is list)
          ∙ pushed-none (map (drop_place p) ls) list p v is small k
          ∙ dropped-none is k lt

      pub moved-date : (date : ℕ) → (item v).expires ≡ Some date → (list : ℕ) → list < n → (k : ℕ) → k < n →
          dates_at item (moved p list ls) k ≡ with_last list p date (λ j. drop_place p (dates_at item ls j)) k
      moved-date date is list ll k lt =
          let small : list < length (map (drop_place {T = T} p) ls) = rw length-map (omega (arith, sound.count)) in
          ap (λ (x : List (List (ℕ × T))). dates_at item x k) (moved-is list)
          ∙ pushed-date (map (drop_place p) ls) list p date v is small k
          ∙ ap (λ (l : List (ℕ × ℕ)). cond (k == list) (l ++ (p, date) ∷ []) l) (dropped-dates p k lt)

    -- no list has the date of a value that went
    pub dropped-free : (p k : ℕ) → k < n → IsFree p (drop_place p (dates_at item ls k))
    dropped-free p k lt =
        let distinct = sound.within k (omega (arith, sound.count)) in
        subst (λ (l : List (ℕ × ℕ)). IsFree p l) (dates-drop item p (list_at ls k) distinct)
        (dates-free item p (drop_place p (list_at ls k)) (dropped_is_free p (list_at ls k) distinct))

    -- a value with another state
    pub written-dates : (p : ℕ) (w : T) → ((v : T) → find p ls ≡ Some v → item v ≡ item w) → (k : ℕ) → k < n →
        dates_at item (map (with_value p w) ls) k ≡ dates_at item ls k
    written-dates p w same k lt =
        let less : k < length ls = omega (arith, sound.count) in
        ap (dates_of item) (get_or-map (with_value p w) ls k [])
        ∙ dates-with_value item p w (list_at ls k) (λ v here. same v (find-at n ls k p v sound less here))

    -- the first due item of a list is found in all
    pub due-there : (now k : ℕ) (o : Option ℕ) → k < n → FirstDue item now o (list_at ls k) →
        IfSome o (λ p. IsSome (find p ls))
    due-there now k None lt h = search rules
    due-there now k (Some p) lt h =
        let less : k < length ls = omega (arith, sound.count) in
        let found : find p ls ≡ Some h.0 = find-at n ls k p h.0 sound less h.1 in
        rw found (search rules)

    pub due-first : (now k : ℕ) (o : Option ℕ) → k < n → FirstDue item now o (list_at ls k) →
        option_and_then (λ p. option_map item (find p ls)) o
        ≡ first_item (filter (is_due now) (map (λ e. item e.1) (list_at ls k)))
    due-first now k None lt h = sym (ap first_item h)
    due-first now k (Some p) lt h =
        let less : k < length ls = omega (arith, sound.count) in
        let found : find p ls ≡ Some h.0 = find-at n ls k p h.0 sound less h.1 in
        rw found (sym h.2)

  -- a value that moves where nothing expires
  pub moved-plain : (n : ℕ) (ls : List (List (ℕ × T))) (p list : ℕ) (v : T) → length ls ≡ n → find p ls ≡ Some v →
      list < n
      → ((k : ℕ) → k < n → dates_at item ls k ≡ []) → (k : ℕ) → k < n → dates_at item (moved p list ls) k ≡ []
  moved-plain n ls p list v count found ll none k lt =
      let m : Member p v ls = member p v ls found in
      let is : (item v).expires ≡ None =
      none-found item p v (list_at ls m.list) (none m.list (omega (arith, m.within, count))) m.there in
      let small : list < length (map (drop_place {T = T} p) ls) = rw length-map (omega arith) in
      rw found (pushed-none (map (drop_place p) ls) list p v is small k ∙ dropped-plain n ls none p k lt)
