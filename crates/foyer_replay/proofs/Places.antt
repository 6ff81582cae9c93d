-- What holds of all shards, at one of them and after a write.
use Rattle.std.proofs.Common.{◌≡◌, ℕ, ◌<◌, ◌%◌, List, map, length, Some, Err, Ok, ◌∙◌, ap, subst, sym}
use Rattle.std.specs.Prelude.{All, IfOk, Result, option_map, slice_get, slice_index_or, slice_set}
use Rattle.std.proofs.lemmas.List.{map-set}
use Rattle.std.proofs.lemmas.List.Elements.{All-get_or, All-set}
use Rattle.std.proofs.lemmas.Option.{get_or_from_slice_get, slice_get-map, slice_get_read, slice_get_within}

pub all_at : {A B : Type 0} (Q : B → Type 0) (f : A → B) (xs : List A) (many i : ℕ) (x : A) → many ≡ length xs → i < many
    → x ≡ slice_index_or xs i x → All Q (map f xs) → Q (f x)
all_at Q f xs many i x long within read all =
    let is = slice_get-map f xs i ∙ ap (option_map f) (slice_get_read xs many i x long within read) in
    subst Q (get_or_from_slice_get (map f xs) i (f x) (f x) is)
    (All-get_or Q (map f xs) i (f x) (slice_get_within (map f xs) i (f x) is) all)

pub all_written : {A B : Type 0} (Q : B → Type 0) (f : A → B) (xs : List A) (i : ℕ) (y : A) → Q (f y) → All Q (map f xs) →
    All Q (map f (slice_set xs i y))
all_written Q f xs i y here all = subst (All Q) (sym (map-set f xs i y)) (All-set Q (map f xs) i (f y) here all)

-- the place of a hash
pub place_of : (place result hash len n : ℕ) → place ≡ result % len → len ≡ n → result ≡ hash → place ≡ hash % n
place_of place result hash len n is many same = is ∙ ap (λ (x : ℕ). result % x) many ∙ ap (λ (x : ℕ). x % n) same

pub if_ok_map : {T E : Type 0} (r : Result T E) {P Q : T → Type 0} → ((t : T) → P t → Q t) → IfOk r P → IfOk r Q
if_ok_map (Ok t) more h = more t h
if_ok_map (Err e) more h = tt
