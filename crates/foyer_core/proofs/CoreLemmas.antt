-- A core as what a list of shards shows.
use Rattle.std.proofs.Common.{◌≡◌, ◌≢◌, ℕ, zero, suc, ◌%◌, ◌<◌, List, [], ◌∷◌, map, length, Some, refl, sym, ◌∙◌, ap}
use Rattle.std.specs.Prelude.{slice_get, slice_set, slice_index_or, option_map}
use Rattle.std.proofs.lemmas.List.{length-map, map-set}
use Rattle.std.proofs.lemmas.Option.{slice_get-map, slice_get_read}
use Rattle.foyer_core.specs.Core.{Core, AtShard, shard_at}
use Rattle.foyer_core.specs.State.{State}

-- a place of a list after a write there
pub set_here : {A : Type 0} (xs : List A) (i : ℕ) (x y : A) → slice_get xs i ≡ Some x → slice_get (slice_set xs i y) i
    ≡ Some y
set_here [] i x y h = absurd cc
set_here (a ∷ xs) zero x y h = refl
set_here (a ∷ xs) (suc i) x y h = set_here xs i x y h

-- and another one
pub set_apart : {A : Type 0} (xs : List A) (i j : ℕ) (y : A) → j ≢ i → slice_get (slice_set xs i y) j ≡ slice_get xs j
set_apart [] i j y apart = refl
set_apart (a ∷ xs) zero zero y apart = absurd (apart refl)
set_apart (a ∷ xs) zero (suc j) y apart = refl
set_apart (a ∷ xs) (suc i) zero y apart = refl
set_apart (a ∷ xs) (suc i) (suc j) y apart = set_apart xs i j y (λ e. apart (ap suc e))

-- to write what is there changes nothing
pub set_same : {A : Type 0} (xs : List A) (i : ℕ) (x : A) → slice_get xs i ≡ Some x → slice_set xs i x ≡ xs
set_same [] i x h = refl
set_same {A} (a ∷ xs) zero x h = (let e : x ≡ a = cc in ap (λ (y : A). y ∷ xs) e)
set_same {A} (a ∷ xs) (suc i) x h = ap (λ (ys : List A). a ∷ ys) (set_same xs i x h)

module _ {X K V P View S W A : Type 0} (f : X → State K V P View) (capacity : ℕ) (b : S) (w : W) (a : A) where
  -- a core over what each of these shows
  abbrev pub core_over : List X → Core K V P View S W A
  core_over xs = record { capacity = capacity; hash_builder = b; weighter = w; filter = a; shards = map f xs }

  -- the shard of a hash is what stands at its place
  module _ (xs : List X) (hash n i : ℕ) (x : X)
      (many : n ≡ length xs) (within : i < n) (place : i ≡ hash % n) (read : x ≡ slice_index_or xs i x) where
    there : slice_get xs i ≡ Some x
    there = slice_get_read xs n i x many within read

    place_is : hash % length (map f xs) ≡ i
    place_is = rw (length-map xs f, ← many) (sym place)

    pub shard_over : shard_at (core_over xs) hash ≡ Some (f x)
    shard_over = rw place_is (slice_get-map f xs i ∙ ap (option_map f) there)

    -- a step of it is a step at each hash that has it
    pub at_over : (step : State K V P View → State K V P View → Type 0) (y : X) → step (f x) (f y) →
        AtShard step hash (core_over xs) (core_over (slice_set xs i y))
    at_over step y h = record {
      before = f x;
      after = f y;
      there = shard_over;
      stepped = h;
      rest = rw place_is
          (ap (λ (l : List (State K V P View)). record (core_over xs) { shards = l }) (map-set f xs i y));
    }

    -- where it stays, all does
    pub same_over : (y : X) → f y ≡ f x → core_over (slice_set xs i y) ≡ core_over xs
    same_over y same = ap (λ (l : List (State K V P View)). record (core_over xs) { shards = l })
        (map-set f xs i y ∙ ap (λ (s : State K V P View). slice_set (map f xs) i s) same
        ∙ set_same (map f xs) i (f x) (slice_get-map f xs i ∙ ap (option_map f) there))
