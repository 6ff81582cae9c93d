-- The texts of the elements of a list are written one after the other.
use Rattle.std.proofs.Common.{◌≡◌, ℕ, zero, suc, ◌+◌, ◌<◌, List, [], ◌∷◌, ◌++◌, Option, Some, None, length, drop, refl, sym, ap, ◌∙◌, subst, append_assoc, append-nil, false, ◌==◌, Result, IfSome, arith}
use Rattle.std.specs.Prelude.{flat_map, slice_get}
use Rattle.std.specs.Io.KnownBytes.{Appends}
use Rattle.std.proofs.KnownBytes.{Appends-nil, Appends-trans}
use Rattle.std.proofs.Math.ListN.{get_or}
use Rattle.std.proofs.lemmas.List.{drop_more}
use Rattle.std.proofs.lemmas.Option.{get_or_from_slice_get, slice_get_within}
use Rattle.foyer_policy.specs.declared.error.Reason.{Reason}
use Rattle.foyer_session.specs.Print.{AppendsFront}
use Rattle.foyer_session.specs.Printed.{more_pairs_text, pair_text, pairs_text}
use Rattle.foyer_session.proofs.Joins.{AppendsFront-after, AppendsFront-append}

-- what is left at an element is that one and the rest
pub next-left : {X : Type 0} (xs : List X) (i : ℕ) (x : X) → i < length xs → x ≡ get_or xs i x → drop i xs
    ≡ x ∷ drop (i + 1) xs
next-left xs i x inside is = drop_more xs i x inside ∙ ap (λ y. y ∷ drop (i + 1) xs) (sym is)

-- so at a place where an element stands
pub there-left : {X : Type 0} (xs : List X) (i : ℕ) (x : X) → slice_get xs i ≡ Some x → drop i xs ≡ x ∷ drop (i + 1) xs
there-left xs i x is = next-left xs i x (slice_get_within xs i x is) (sym (get_or_from_slice_get xs i x x is))

-- an element stands at each place
pub there : {X : Type 0} (xs : List X) (i : ℕ) → i < length xs → (x : X) × (slice_get xs i ≡ Some x)
there [] i h = absurd (omega arith)
there (x ∷ xs) zero h = (x, refl)
there (x ∷ xs) (suc i) h = there xs i (omega (arith, h))

-- what holds of any element that is there, and what is so said of one
pub if_some : {X : Type 0} (o : Option X) (P : X → Type 0) → ((x : X) → o ≡ Some x → P x) → IfSome o P
if_some None P h = tt
if_some (Some x) P h = h x refl

pub of_some : {X : Type 0} (o : Option X) (x : X) (P : X → Type 0) → o ≡ Some x → IfSome o P → P x
of_some o x P is h = subst (λ o. IfSome o P) is h

pub same_some : {X : Type 0} (x y : X) → Some x ≡ Some y → x ≡ y
same_some x y h = cc

-- the texts of some first elements were written, and these are left
pub record Written {X : Type 0} (f : X → List ℕ) (old new : Option (List ℕ)) (all left : List X) : Type 0 where
  pub text : List ℕ
  pub wrote : Appends old new text
  pub rest : text ++ flat_map f left ≡ flat_map f all

module _ {X : Type 0} (f : X → List ℕ) where
  pub Written-none : (old : Option (List ℕ)) (all : List X) → Written f old old all all
  Written-none old all = record { text = []; wrote = Appends-nil old; rest = refl }

  -- one more was written
  pub Written-more : (old mid new : Option (List ℕ)) (all left more : List X) (x : X) → Written f old mid all left →
      left ≡ x ∷ more → Appends mid new (f x) → Written f old new all more
  Written-more old mid new all left more x w is h = record {
    text = w.text ++ f x;
    wrote = Appends-trans old mid new w.text (f x) w.wrote h;
    rest = append_assoc w.text (f x) (flat_map f more) ∙ ap (λ xs. w.text ++ flat_map f xs) (sym is) ∙ w.rest;
  }

  -- a beginning of one more was written
  pub Written-stops : (old mid new : Option (List ℕ)) (all left more : List X) (x : X) → Written f old mid all left →
      left ≡ x ∷ more → AppendsFront mid new (f x) → AppendsFront old new (flat_map f all)
  Written-stops old mid new all left more x w is h =
      subst (AppendsFront old new) (ap (λ xs. w.text ++ flat_map f xs) (sym is) ∙ w.rest)
      (AppendsFront-after old mid new w.text (f x ++ flat_map f more) w.wrote
      (AppendsFront-append mid new (f x) (flat_map f more) h))

  -- nothing is left
  pub Written-ends : (old new : Option (List ℕ)) (all left : List X) → Written f old new all left → left ≡ [] →
      Appends old new (flat_map f all)
  Written-ends old new all left w is = subst (Appends old new)
      (sym (append-nil w.text) ∙ ap (λ xs. w.text ++ flat_map f xs) (sym is) ∙ w.rest) w.wrote

-- the first of those who waited, and the rest
pub pairs-split : (all : List (ℕ × Result (Option ℕ) Reason)) → (length all == 0) ≡ false →
    (pair : ℕ × Result (Option ℕ) Reason) × (slice_get all 0 ≡ Some pair)
    × (pairs_text all ≡ pair_text pair ++ more_pairs_text (drop 1 all))
pairs-split [] h = absurd cc
pairs-split (pair ∷ pairs) h = (pair, refl, refl)
