-- Two lists side by side, as far as a loop has come.
use Rattle.std.proofs.Common.{◌≡◌, ℕ, ◌+◌, ◌<◌, List, [], ◌∷◌, ◌++◌, map, take, drop, length, sum_by, sym, ◌∙◌, ap, subst, subst₂}
use Rattle.std.specs.Prelude.{slice_set, slice_index_or, option_map}
use Rattle.std.specs.List.{AllZip}
use Rattle.std.proofs.lemmas.List.{map-set, take_more, take_more_set, drop_more}
use Rattle.std.proofs.lemmas.List.Sums.{sum_by-drop_more}
use Rattle.std.proofs.lemmas.Option.{slice_get-map, slice_get_read}
use Rattle.std.proofs.lemmas.Slice.Zip.{all_zipped_more}
use Rattle.foyer_core.proofs.CoreLemmas.{set_same}

module _ {A B : Type 0} (R : A → B → Type 0) (xs : List A) (ys : List B) (n : ℕ) (x : A) (y : B) where
  -- one more is written, and has its like
  pub zip-write : n < length xs → AllZip R (take n xs) ys → R x y →
      AllZip R (take (n + 1) (slice_set xs n x)) (ys ++ y ∷ [])
  zip-write less h r = subst (λ (l : List A). AllZip R l (ys ++ y ∷ [])) (sym (take_more_set xs n x less))
      (all_zipped_more R (take n xs) ys x y h r)

  -- one more is read, and has its like
  pub zip-read : n < length xs → x ≡ slice_index_or xs n x → AllZip R (take n xs) ys → R x y →
      AllZip R (take (n + 1) xs) (ys ++ y ∷ [])
  zip-read less read h r =
      let more : take (n + 1) xs ≡ take n xs ++ x ∷ [] = take_more xs n x less
      ∙ ap (λ (a : A). take n xs ++ a ∷ []) (sym read) in
      subst (λ (l : List A). AllZip R l (ys ++ y ∷ [])) (sym more) (all_zipped_more R (take n xs) ys x y h r)

  -- the next ones of both
  pub zip-next : n < length xs → n < length ys → x ≡ slice_index_or xs n x → y ≡ slice_index_or ys n y →
      AllZip R (drop n xs) (drop n ys)
      → R x y × AllZip R (drop (n + 1) xs) (drop (n + 1) ys)
  zip-next less less' read read' h =
      let first : drop n xs ≡ x ∷ drop (n + 1) xs = drop_more xs n x less
      ∙ ap (λ (a : A). a ∷ drop (n + 1) xs) (sym read) in
      let second : drop n ys ≡ y ∷ drop (n + 1) ys = drop_more ys n y less'
      ∙ ap (λ (b : B). b ∷ drop (n + 1) ys) (sym read') in
      subst₂ (AllZip R) first second h

-- a sum over the rest begins with the next one
pub sum-next : {B : Type 0} (f : B → ℕ) (ys : List B) (n : ℕ) (y : B) → n < length ys → y ≡ slice_index_or ys n y →
    sum_by f (drop n ys) ≡ f y + sum_by f (drop (n + 1) ys)
sum-next f ys n y less read = sum_by-drop_more f ys n y less
    ∙ ap (λ (k : ℕ). k + sum_by f (drop (n + 1) ys)) (ap f (sym read))

-- what shows the same is written: what the list shows stays
pub map-write : {A S : Type 0} (f : A → S) (xs : List A) (many n : ℕ) (x y : A) → many ≡ length xs → n < many → x
    ≡ slice_index_or xs n x → f y ≡ f x → map f (slice_set xs n y) ≡ map f xs
map-write f xs many n x y long within read same =
    map-set f xs n y ∙ ap (slice_set (map f xs) n) same
    ∙ set_same (map f xs) n (f x)
    (slice_get-map f xs n ∙ ap (option_map f) (slice_get_read xs many n x long within read))
