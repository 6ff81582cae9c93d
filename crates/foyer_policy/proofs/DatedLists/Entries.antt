-- When the items of one list expire, and what a change of the list makes of that.
use Rattle.std.proofs.Common.{◌≡◌, ◌≢◌, ℕ, Bool, true, false, cond, List, [], ◌∷◌, ◌++◌, Option, Some, None, map, refl, sym, ◌∙◌, ap, subst}
use Rattle.std.specs.Prelude.{◌==◌, nat_le}
use Rattle.std.specs.List.{filter}
use Rattle.std.proofs.lemmas.List.{append-nil}
use Rattle.foyer_policy.specs.Dates.{before_all, dates_of, first_by}
use Rattle.foyer_policy.specs.Dues.{first_item}
use Rattle.foyer_policy.specs.Lists.{find_in, rest, drop_place, with_value, IsFree, IsDistinct}
use Rattle.foyer_policy.specs.Moments.{is_due, is_expired}
use Rattle.foyer_policy.specs.declared.types.Item.{Item}
use Rattle.foyer_policy.proofs.PlaceLemmas.{same_place, other_place, place_is, place_differs, drop_place-free, find_in-free}

-- an entry in front, where there is a date
before-append : (p : ℕ) (o : Option ℕ) (es fs : List (ℕ × ℕ)) → before_all p o (es ++ fs) ≡ before_all p o es ++ fs
before-append p None es fs = refl
before-append p (Some date) es fs = refl

before-free : (q p : ℕ) (o : Option ℕ) (es : List (ℕ × ℕ)) → p ≢ q → IsFree q es → IsFree q (before_all p o es)
before-free q p None es ne free = free
before-free q p (Some date) es ne free = (ne, free)

before-find : (q p : ℕ) (o : Option ℕ) (es : List (ℕ × ℕ)) → p ≢ q → find_in q (before_all p o es) ≡ find_in q es
before-find q p None es ne = refl
before-find q p (Some date) es ne = rw (other_place p q ne) refl

before-drop_other : (q p : ℕ) (o : Option ℕ) (es : List (ℕ × ℕ)) → p ≢ q → drop_place q (before_all p o es)
    ≡ before_all p o (drop_place q es)
before-drop_other q p None es ne = refl
before-drop_other q p (Some date) es ne = rw (other_place p q ne) refl

before-drop_same : (p : ℕ) (o : Option ℕ) (es : List (ℕ × ℕ)) → IsFree p es → drop_place p (before_all p o es) ≡ es
before-drop_same p None es free = drop_place-free p es free
before-drop_same p (Some date) es free = rw (same_place p) refl

module _ {T : Type 0} (item : T → Item) where
  pub dates-append : (xs ys : List (ℕ × T)) → dates_of item (xs ++ ys) ≡ dates_of item xs ++ dates_of item ys
  dates-append [] ys = refl
  dates-append (x ∷ xs) ys =
      ap (before_all x.0 (item x.1).expires) (dates-append xs ys)
      ∙ before-append x.0 (item x.1).expires (dates_of item xs) (dates_of item ys)

  -- one more item at the end
  pub dates-more : (l : List (ℕ × T)) (p date : ℕ) (v : T) → (item v).expires ≡ Some date →
      dates_of item (l ++ (p, v) ∷ []) ≡ dates_of item l ++ (p, date) ∷ []
  dates-more l p date v is =
      dates-append l ((p, v) ∷ []) ∙ ap (λ (o : Option ℕ). dates_of item l ++ before_all p o []) is

  pub dates-no_more : (l : List (ℕ × T)) (p : ℕ) (v : T) → (item v).expires ≡ None → dates_of item (l ++ (p, v) ∷ [])
      ≡ dates_of item l
  dates-no_more l p v is =
      dates-append l ((p, v) ∷ []) ∙ ap (λ (o : Option ℕ). dates_of item l ++ before_all p o []) is
      ∙ append-nil (dates_of item l)

  pub dates-free : (p : ℕ) (l : List (ℕ × T)) → IsFree p l → IsFree p (dates_of item l)
  dates-free p [] free = tt
  dates-free p (e ∷ es) free =
      before-free p e.0 (item e.1).expires (dates_of item es) free.0 (dates-free p es free.1)

  -- what expires has its date
  pub dates-found : (p date : ℕ) (v : T) (l : List (ℕ × T)) → find_in p l ≡ Some v → (item v).expires ≡ Some date →
      find_in p (dates_of item l) ≡ Some date
  dates-found p date v [] found is = absurd cc
  dates-found p date v (e ∷ es) found is =
      go (e.0 == p) refl (λ h. dates-found p date v es h is) where
        go : (b : Bool) → (e.0 == p) ≡ b
            → (find_in p es ≡ Some v → find_in p (dates_of item es) ≡ Some date) →
            find_in p (before_all e.0 (item e.1).expires (dates_of item es)) ≡ Some date
        go true test rec =
            let w : Some e.1 ≡ Some v = rw test at found in
            let same : e.1 ≡ v = cc in
            let date_is : (item e.1).expires ≡ Some date = ap (λ (x : T). (item x).expires) same ∙ is in
            rw (date_is, test) refl
        go false test rec =
            let w : find_in p es ≡ Some v = rw test at found in
            before-find p e.0 (item e.1).expires (dates_of item es) (place_differs e.0 p test) ∙ rec w

  pub dates-drop : (p : ℕ) (l : List (ℕ × T)) → IsDistinct l → dates_of item (drop_place p l)
      ≡ drop_place p (dates_of item l)
  dates-drop p [] distinct = refl
  dates-drop p (e ∷ es) distinct = go (e.0 == p) refl (dates-drop p es distinct.1) where
    go : (b : Bool) → (e.0 == p) ≡ b → dates_of item (drop_place p es) ≡ drop_place p (dates_of item es) →
        dates_of item (cond b es (e ∷ drop_place p es))
        ≡ drop_place p (before_all e.0 (item e.1).expires (dates_of item es))
    go true test rec =
        let same : e.0 ≡ p = place_is e.0 p test in
        rw (← same) (sym (before-drop_same e.0 (item e.1).expires (dates_of item es)
        (dates-free e.0 es distinct.0)))
    go false test rec =
        ap (before_all e.0 (item e.1).expires) rec
        ∙ sym (before-drop_other p e.0 (item e.1).expires (dates_of item es) (place_differs e.0 p test))

  -- what does not expire has no date
  pub dates-lost : (p : ℕ) (v : T) (l : List (ℕ × T)) → IsDistinct l → find_in p l ≡ Some v → (item v).expires ≡ None →
      IsFree p (dates_of item l)
  dates-lost p v [] distinct found is = absurd cc
  dates-lost p v (e ∷ es) distinct found is =
      go (e.0 == p) refl (λ h. dates-lost p v es distinct.1 h is) where
        go : (b : Bool) → (e.0 == p) ≡ b → (find_in p es ≡ Some v → IsFree p (dates_of item es)) →
            IsFree p (before_all e.0 (item e.1).expires (dates_of item es))
        go true test rec =
            let w : Some e.1 ≡ Some v = rw test at found in
            let same : e.1 ≡ v = cc in
            let none : (item e.1).expires ≡ None = ap (λ (x : T). (item x).expires) same ∙ is in
            let at : e.0 ≡ p = place_is e.0 p test in
            rw (none, ← at) (dates-free e.0 es distinct.0)
        go false test rec =
            let w : find_in p es ≡ Some v = rw test at found in
            before-free p e.0 (item e.1).expires (dates_of item es) (place_differs e.0 p test) (rec w)

  -- another value that has the same item
  pub dates-with_value : (p : ℕ) (w : T) (l : List (ℕ × T)) →
      ((v : T) → find_in p l ≡ Some v → item v ≡ item w) → dates_of item (with_value p w l) ≡ dates_of item l
  dates-with_value p w [] same = refl
  dates-with_value p w (e ∷ es) same =
      go (e.0 == p) refl (λ h. dates-with_value p w es h) where
        go : (b : Bool) → (e.0 == p) ≡ b
            → (((v : T) → find_in p es ≡ Some v → item v ≡ item w) → dates_of item (with_value p w es)
            ≡ dates_of item es) →
            dates_of item (cond b ((p, w) ∷ es) (e ∷ with_value p w es))
            ≡ before_all e.0 (item e.1).expires (dates_of item es)
        go true test rec =
            let here : item e.1 ≡ item w = same e.1 (rw test refl) in
            let at : e.0 ≡ p = place_is e.0 p test in
            rw (← at) (ap (λ (i : Item). before_all e.0 i.expires (dates_of item es)) (sym here))
        go false test rec =
            let same_on : (v : T) → find_in p es ≡ Some v → item v ≡ item w = λ v h. same v (rw test h) in
            ap (before_all e.0 (item e.1).expires) (rec same_on)

  -- the first date that is not behind a moment is that of the first due item
  abbrev pub FirstDue : ℕ → Option ℕ → List (ℕ × T) → Type 0
  FirstDue now None l = filter (is_due now) (map (λ e. item e.1) l) ≡ []
  FirstDue now (Some p) l = (v : T) × (find_in p l ≡ Some v)
      × (first_item (filter (is_due now) (map (λ e. item e.1) l)) ≡ Some (item v))

  first-passes : (now : ℕ) (e : ℕ × T) (es : List (ℕ × T)) (o : Option ℕ) → IsFree e.0 es →
      is_due now (item e.1) ≡ false → FirstDue now o es → FirstDue now o (e ∷ es)
  first-passes now e es None free not f = rw not f
  first-passes now e es (Some p) free not f =
      let ne : (e.0 == p) ≡ false = go (e.0 == p) refl in (f.0, rw ne f.1, rw not f.2) where
        go : (b : Bool) → (e.0 == p) ≡ b → b ≡ false
        go false test = refl
        go true test =
            let same : e.0 ≡ p = place_is e.0 p test in
            let none : find_in e.0 es ≡ None = find_in-free e.0 es free in
            let none_there : find_in p es ≡ None = ap (λ (q : ℕ). find_in q es) (sym same) ∙ none in
            let some : Some f.0 ≡ None = sym f.1 ∙ none_there in
            absurd cc

  pub first-due : (now : ℕ) (l : List (ℕ × T)) → IsDistinct l → FirstDue now (first_by now (dates_of item l)) l
  first-due now [] distinct = refl
  first-due now (e ∷ es) distinct = go (item e.1).expires refl (first-due now es distinct.1) where
    by_date : (date : ℕ) (b : Bool) → (item e.1).expires ≡ Some date → nat_le date now ≡ b →
        FirstDue now (first_by now (dates_of item es)) es →
        FirstDue now (cond b (Some e.0) (first_by now (dates_of item es))) (e ∷ es)
    by_date date true is test rec =
        let due : is_due now (item e.1) ≡ true = ap (is_expired now) is ∙ test in
        (e.1, rw (same_place e.0) refl, rw due refl)
    by_date date false is test rec =
        first-passes now e es (first_by now (dates_of item es)) distinct.0 (ap (is_expired now) is ∙ test) rec

    go : (o : Option ℕ) → (item e.1).expires ≡ o → FirstDue now (first_by now (dates_of item es)) es →
        FirstDue now (first_by now (before_all e.0 (item e.1).expires (dates_of item es))) (e ∷ es)
    go None is rec =
        subst (λ (x : Option ℕ). FirstDue now (first_by now (before_all e.0 x (dates_of item es))) (e ∷ es)) (sym is)
        (first-passes now e es (first_by now (dates_of item es)) distinct.0 (ap (is_expired now) is) rec)
    go (Some date) is rec =
        subst (λ (x : Option ℕ). FirstDue now (first_by now (before_all e.0 x (dates_of item es))) (e ∷ es)) (sym is)
        (by_date date (nat_le date now) is refl rec)

  -- where nothing expires
  dates-none : (e : ℕ × T) (es : List (ℕ × T)) → dates_of item (e ∷ es) ≡ [] →
      ((item e.1).expires ≡ None) × (dates_of item es ≡ [])
  dates-none e es h = go (item e.1).expires refl h where
    go : (o : Option ℕ) → (item e.1).expires ≡ o → before_all e.0 o (dates_of item es) ≡ [] →
        ((item e.1).expires ≡ None) × (dates_of item es ≡ [])
    go None is h = (is, h)
    go (Some date) is h = absurd cc

  pub none-drop : (p : ℕ) (l : List (ℕ × T)) → dates_of item l ≡ [] → dates_of item (drop_place p l) ≡ []
  none-drop p [] h = refl
  none-drop p (e ∷ es) h = go (e.0 == p) (dates-none e es h) (none-drop p es) where
    go : (b : Bool) → ((item e.1).expires ≡ None) × (dates_of item es ≡ [])
        → (dates_of item es ≡ [] → dates_of item (drop_place p es) ≡ []) →
        dates_of item (cond b es (e ∷ drop_place p es)) ≡ []
    go true parts rec = parts.1
    go false parts rec = ap (λ (o : Option ℕ). before_all e.0 o (dates_of item (drop_place p es))) parts.0 ∙ rec parts.1

  pub none-rest : (l : List (ℕ × T)) → dates_of item l ≡ [] → dates_of item (rest l) ≡ []
  none-rest [] h = refl
  none-rest (e ∷ es) h = (dates-none e es h).1

  pub none-found : (p : ℕ) (v : T) (l : List (ℕ × T)) → dates_of item l ≡ [] → find_in p l ≡ Some v →
      (item v).expires ≡ None
  none-found p v l h found = go (item v).expires refl where
    go : (o : Option ℕ) → (item v).expires ≡ o → o ≡ None
    go None is = refl
    go (Some date) is =
        let there : find_in p (dates_of item l) ≡ Some date = dates-found p date v l found is in
        let none : find_in p (dates_of item l) ≡ None = ap (find_in p) h in
        absurd cc

  pub none-due : (now : ℕ) (l : List (ℕ × T)) → dates_of item l ≡ [] → filter (is_due now) (map (λ e. item e.1) l) ≡ []
  none-due now [] h = refl
  none-due now (e ∷ es) h =
      let parts = dates-none e es h in
      let not : is_due now (item e.1) ≡ false = ap (is_expired now) parts.0 in
      rw not (none-due now es parts.1)
