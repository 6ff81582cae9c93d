-- Steps of the first ones, in turn.
use Rattle.std.proofs.Common.{◌≡◌, ℕ, zero, suc, ◌+◌, ◌<◌, List, [], ◌∷◌, ◌++◌, map, length, Some, refl, sym, ◌∙◌, ap, subst, append_assoc, append-nil, add-one, arith}
use Rattle.std.specs.Prelude.{slice_get, slice_set, slice_index_or, option_map}
use Rattle.std.proofs.lemmas.List.{length-map, map-set}
use Rattle.std.proofs.lemmas.Option.{slice_get-map, slice_get_read}
use Rattle.foyer_core.specs.CoreBulk.{InTurn, InTurnUntil}

module _ {S L : Type 0} (step : S → List L → S → Type 0) where
  -- the first ones, so many, make their steps, and the others none
  abbrev pub InFirst : ℕ → List S → List L → List S → Type 0
  InFirst zero ss ls ts = (ls ≡ []) × (ts ≡ ss)
  InFirst (suc n) [] ls ts = ⊥
  InFirst (suc n) (s ∷ ss) ls [] = ⊥
  InFirst (suc n) (s ∷ ss) ls (t ∷ ts) = (own : List L) × (rest : List L) × (ls ≡ own ++ rest) × step s own t
      × InFirst n ss rest ts

  -- the next one makes its step
  pub first-more : (n : ℕ) (ss : List S) (ls : List L) (ts : List S) (s t : S) (own : List L) → InFirst n ss ls ts →
      slice_get ts n ≡ Some s → step s own t
      → InFirst (suc n) ss (ls ++ own) (slice_set ts n t)
  first-more zero [] ls [] s t own h there did = absurd cc
  first-more zero [] ls (x ∷ ts) s t own h there did = absurd (let e : ◌≡◌ {A = List S} (x ∷ ts) [] = h.1 in cc)
  first-more zero (y ∷ ss) ls [] s t own h there did = absurd cc
  first-more zero (y ∷ ss) ls (x ∷ ts) s t own h there did =
      let e : ◌≡◌ {A = List S} (x ∷ ts) (y ∷ ss) = h.1 in
      let is : s ≡ y = cc in
      let rest : ts ≡ ss = cc in (
        own,
        [],
        ap (λ (l : List L). l ++ own) h.0 ∙ sym (append-nil own),
        subst (λ (a : S). step a own t) is did,
        (refl, rest),
      )
  first-more (suc n) [] ls ts s t own h there did = absurd h
  first-more (suc n) (y ∷ ss) ls [] s t own h there did = absurd h
  first-more (suc n) (y ∷ ss) ls (x ∷ ts) s t own h there did = (
    h.0,
    h.1 ++ own,
    ap (λ (l : List L). l ++ own) h.2 ∙ append_assoc h.0 h.1 own,
    h.3,
    first-more n ss h.1 ts s t own h.4 there did,
  )

  -- all have made their steps
  pub first-all : (n : ℕ) (ss : List S) (ls : List L) (ts : List S) → n ≡ length ss → InFirst n ss ls ts →
      InTurn step ss ls ts
  first-all zero [] ls [] all h = h.0
  first-all zero [] ls (t ∷ ts) all h = absurd (let e : ◌≡◌ {A = List S} (t ∷ ts) [] = h.1 in cc)
  first-all zero (s ∷ ss) ls ts all h = absurd (omega arith)
  first-all (suc n) [] ls ts all h = absurd h
  first-all (suc n) (s ∷ ss) ls [] all h = absurd h
  first-all (suc n) (s ∷ ss) ls (t ∷ ts) all h = (h.0, h.1, h.2, h.3, first-all n ss h.1 ts (omega arith) h.4)

  -- the next one makes a part of its step
  pub first-until : (part : S → List L → S → Type 0) (n : ℕ) (ss : List S) (ls : List L) (ts : List S) (s t : S)
      (own : List L) → InFirst n ss ls ts → slice_get ts n ≡ Some s → part s own t
      → InTurnUntil step part ss (ls ++ own) (slice_set ts n t)
  first-until part zero [] ls [] s t own h there did = absurd cc
  first-until part zero [] ls (x ∷ ts) s t own h there did = absurd (let e : ◌≡◌ {A = List S} (x ∷ ts) [] = h.1 in cc)
  first-until part zero (y ∷ ss) ls [] s t own h there did = absurd cc
  first-until part zero (y ∷ ss) ls (x ∷ ts) s t own h there did =
      let e : ◌≡◌ {A = List S} (x ∷ ts) (y ∷ ss) = h.1 in
      let is : s ≡ y = cc in
      let rest : ts ≡ ss = cc in
      record {
        first = [];
        next = y;
        others = ss;
        olds = refl;
        done = [];
        begun = t;
        news = ap (λ (l : List S). t ∷ l) rest;
        first_leaves = [];
        next_leaves = own;
        told = ap (λ (l : List L). l ++ own) h.0;
        wholly = refl;
        partly = subst (λ (a : S). part a own t) is did;
      }
  first-until part (suc n) [] ls ts s t own h there did = absurd h
  first-until part (suc n) (y ∷ ss) ls [] s t own h there did = absurd h
  first-until part (suc n) (y ∷ ss) ls (x ∷ ts) s t own h there did =
      let more = first-until part n ss h.1 ts s t own h.4 there did in
      record {
        first = y ∷ more.first;
        next = more.next;
        others = more.others;
        olds = ap (λ (l : List S). y ∷ l) more.olds;
        done = x ∷ more.done;
        begun = more.begun;
        news = ap (λ (l : List S). x ∷ l) more.news;
        first_leaves = h.0 ++ more.first_leaves;
        next_leaves = more.next_leaves;
        told = ap (λ (l : List L). l ++ own) h.2 ∙ append_assoc h.0 h.1 own ∙ ap (λ (l : List L). h.0 ++ l) more.told
            ∙ sym (append_assoc h.0 more.first_leaves more.next_leaves);
        wholly = (h.0, more.first_leaves, refl, h.3, more.wholly);
        partly = more.partly;
      }

-- over what each of a list shows, where the one at this place becomes another
module _ {A S L : Type 0} (f : A → S) (step : S → List L → S → Type 0) (ss : List S) (ls : List L) (xs : List A)
    (many n : ℕ) (x y : A) (own : List L)
    (long : many ≡ length xs) (within : n < many) (read : x ≡ slice_index_or xs n x) where
  shows : slice_get (map f xs) n ≡ Some (f x)
  shows = slice_get-map f xs n ∙ ap (option_map f) (slice_get_read xs many n x long within read)

  pub over-more : InFirst step n ss ls (map f xs) → step (f x) own (f y) →
      InFirst step (n + 1) ss (ls ++ own) (map f (slice_set xs n y))
  over-more h did = rw (add-one, map-set) (first-more step n ss ls (map f xs) (f x) (f y) own h shows did)

  pub over-until : (part : S → List L → S → Type 0) → InFirst step n ss ls (map f xs) → part (f x) own (f y) →
      InTurnUntil step part ss (ls ++ own) (map f (slice_set xs n y))
  over-until part h did = rw map-set (first-until step part n ss ls (map f xs) (f x) (f y) own h shows did)

pub over-all : {A S L : Type 0} (f : A → S) (step : S → List L → S → Type 0) (old : List A) (ls : List L)
    (ss : List S) (n : ℕ) → n ≡ length old → InFirst step n (map f old) ls ss → InTurn step (map f old) ls ss
over-all f step old ls ss n all h = first-all step n (map f old) ls ss (rw length-map all) h
