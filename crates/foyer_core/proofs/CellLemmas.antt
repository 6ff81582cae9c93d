-- How a change of one cell changes the slots, and keeps the count and the list of free cells.
use Rattle.std.proofs.Common.{
  ◌≡◌,
  ◌≢◌,
  ℕ,
  zero,
  suc,
  ◌+◌,
  ◌-◌,
  ◌<◌,
  ◌≤◌,
  List,
  [],
  ◌∷◌,
  ◌++◌,
  map,
  length,
  get_or,
  set,
  nat_eq,
  Option,
  Some,
  None,
  is_some,
  IsSome,
  true,
  count_by,
  cond,
  slice_get,
  refl,
  sym,
  ap,
  subst,
  ◌∙◌,
  arith,
  true≢false,
}
use Rattle.std.specs.Prelude.{option_and_then, unwrap_or}
use Rattle.std.specs.Map.{update}
use Rattle.std.proofs.lemmas.List.{map-set, map_push, length-map, length-set, length_push, get_or-set_same}
use Rattle.std.proofs.lemmas.List.{get_or-set_other, get_or_past}
use Rattle.std.proofs.lemmas.List.Sums.{sum_by-set, sum_by_push}
use Rattle.std.proofs.lemmas.Option.{slice_get_within, slice_get-get_or, slice_get_read, get_or_from_slice_get}
use Rattle.foyer_core.specs.declared.slots.Cell.{Cell}
use Rattle.foyer_core.specs.declared.slots.Cell.TheVariants.{Free, Taken}
use Rattle.foyer_core.specs.Cells.{value_of, IsFreeList, AreCells}
use Rattle.foyer_core.proofs.SlotLemmas.{push_at, set_at}

module _ {T : Type 0} where
  -- what is in the slots of these cells
  abbrev pub in_slots : List (Cell T) → ℕ → Option T
  in_slots cells n = get_or (map value_of cells) n None

  -- what is in a slot, by its cell
  pub seen : (cells : List (Cell T)) (slot : ℕ) → in_slots cells slot ≡ option_and_then value_of (slice_get cells slot)
  seen [] slot = refl
  seen (c ∷ cs) zero = refl
  seen (c ∷ cs) (suc slot) = seen cs slot

  -- what is in the slots once a cell is written
  pub seen-set : (cells : List (Cell T)) (slot : ℕ) (cell : Cell T) → slot < length cells
      → (n : ℕ) → in_slots (set cells slot cell) n ≡ update nat_eq (in_slots cells) slot (value_of cell) n
  seen-set cells slot cell within n =
      let below : slot < length (map value_of cells) = omega (arith, within, length-map cells value_of) in
      rw (map-set value_of cells slot cell) (set_at (map value_of cells) slot (value_of cell) below n)

  -- and once there is one more
  pub seen-push : (cells : List (Cell T)) (cell : Cell T) (slot : ℕ) → slot ≡ length cells
      → (n : ℕ) → in_slots (cells ++ cell ∷ []) n ≡ update nat_eq (in_slots cells) slot (value_of cell) n
  seen-push cells cell slot last n =
      let same : length (map value_of cells) ≡ slot = omega (arith, last, length-map cells value_of) in
      rw (map_push value_of cells cell) (push_at (map value_of cells) (value_of cell) n
      ∙ ap (λ (m : ℕ). update nat_eq (in_slots cells) m (value_of cell) n) same)

  -- the cell of a slot that has a value
  pub taken_at : (cells : List (Cell T)) (slot : ℕ) → IsSome (in_slots cells slot)
      → (value : T) × (slice_get cells slot ≡ Some (Taken value))
  taken_at cells slot there = go (slice_get cells slot) refl (sym (ap is_some (seen cells slot)) ∙ there) where
    go : (o : Option (Cell T)) → slice_get cells slot ≡ o → is_some (option_and_then value_of o) ≡ true
        → (value : T) × (slice_get cells slot ≡ Some (Taken value))
    go None is there = absurd (true≢false (sym there))
    go (Some (Free _)) is there = absurd (true≢false (sym there))
    go (Some (Taken value)) is there = (value, is)

  read_here : (cells : List (Cell T)) (slot : ℕ) (cell : Cell T) → slot < length cells
      → slice_get (set cells slot cell) slot ≡ Some cell
  read_here cells slot cell within =
      slice_get-get_or (set cells slot cell) slot cell (omega (arith, length-set cells slot cell))
      ∙ ap Some (get_or-set_same cells slot cell cell within)

  read_other : (cells : List (Cell T)) (slot : ℕ) (cell : Cell T) (n : ℕ) (old : Cell T) → n ≢ slot
      → slice_get cells n ≡ Some old → slice_get (set cells slot cell) n ≡ Some old
  read_other cells slot cell n old other there =
      let within = slice_get_within cells n old there in
      slice_get-get_or (set cells slot cell) n cell (omega (arith, length-set cells slot cell, within))
      ∙ ap Some (get_or-set_other cells slot n cell cell other ∙ get_or_from_slice_get cells n old cell there)

  -- from a link on there is one list at most
  list_once : (cells : List (Cell T)) (m n : ℕ) (link : Option ℕ) → IsFreeList cells m link
      → IsFreeList cells n link → m ≡ n
  list_once cells zero zero link p q = refl
  list_once cells zero (suc n) link p q = (let first = q.2 in absurd cc)
  list_once cells (suc m) zero link p q = (let first = p.2 in absurd cc)
  list_once cells (suc m) (suc n) link p q =
      let first_p = p.2 in
      let first_q = q.2 in
      let cell_p = p.3 in
      let cell_q = q.3 in
      let same : q.1 ≡ p.1 = cc in
      ap suc (list_once cells m n p.1 p.4 (subst (IsFreeList cells n) same q.4))

  -- a cell with a value is on no list
  off_list : (cells : List (Cell T)) (slot : ℕ) (value : T) → slice_get cells slot ≡ Some (Taken value)
      → (n : ℕ) → IsFreeList cells (suc n) (Some slot) → ⊥
  off_list cells slot value there n p = (let first = p.2 in let cell = p.3 in cc)

  -- a list stays as it is where a cell is written that is not on it
  beside_list : (cells : List (Cell T)) (slot : ℕ) (cell : Cell T) (n : ℕ) (link : Option ℕ)
      → ((m : ℕ) → m < n → IsFreeList cells (suc m) (Some slot) → ⊥)
      → IsFreeList cells n link → IsFreeList (set cells slot cell) n link
  beside_list cells slot cell zero link off p = p
  beside_list cells slot cell (suc n) link off p =
      let other : p.0 ≢ slot = λ same. off n (omega arith) (subst (IsFreeList cells (suc n)) (p.2 ∙ ap Some same) p) in
      let kept = read_other cells slot cell p.0 (Free p.1) other p.3 in
      (p.0, p.1, p.2, kept, beside_list cells slot cell n p.1 (λ m below. off m (omega (arith, below))) p.4)

  -- how many values there are after a write
  count_set : (cells : List (Cell T)) (slot : ℕ) (old new : Cell T) → slice_get cells slot ≡ Some old
      → count_by is_some (map value_of (set cells slot new)) + cond (is_some (value_of old)) 1 0
      ≡ count_by is_some (map value_of cells) + cond (is_some (value_of new)) 1 0
  count_set cells slot old new there =
      let was : in_slots cells slot ≡ value_of old = seen cells slot ∙ ap (option_and_then value_of) there in
      let below = slice_get_within cells slot old there in
      let within : slot < length (map value_of cells) = omega (arith, length-map cells value_of, below) in
      rw (map-set value_of cells slot new, ← was)
      (sum_by-set (λ o. cond (is_some o) 1 0) (map value_of cells) slot (value_of new) None within)

  -- the first free cell
  pub first_free : (cells : List (Cell T)) (vacant slot : ℕ) → AreCells cells vacant (Some slot)
      → (next : Option ℕ) × (slice_get cells slot ≡ Some (Free next))
  first_free cells zero slot sound = (let last = sound.linked in absurd cc)
  first_free cells (suc more) slot sound =
      let first = sound.linked.2 in
      let cell = sound.linked.3 in
      (sound.linked.1, cc)

  -- it is within the cells, and what is read there is this cell
  pub first_within : (cells : List (Cell T)) (vacant slot : ℕ) → AreCells cells vacant (Some slot) → slot < length cells
  first_within cells vacant slot sound = slice_get_within cells slot _ (first_free cells vacant slot sound).1

  pub first_read : (cells : List (Cell T)) (vacant slot : ℕ) (cell : Cell T) → AreCells cells vacant (Some slot)
      → cell ≡ get_or cells slot cell → slice_get cells slot ≡ Some cell
  first_read cells vacant slot cell sound read =
      slice_get_read cells (length cells) slot cell refl (first_within cells vacant slot sound) read

  pub some_vacant : (cells : List (Cell T)) (vacant slot : ℕ) → AreCells cells vacant (Some slot) → 1 ≤ vacant
  some_vacant cells zero slot sound = (let last = sound.linked in absurd cc)
  some_vacant cells (suc more) slot sound = omega arith

  pub none_vacant : (cells : List (Cell T)) (vacant : ℕ) → AreCells cells vacant None → vacant ≡ 0
  none_vacant cells zero sound = refl
  none_vacant cells (suc more) sound = (let first = sound.linked.2 in absurd cc)

  -- the slot that the next value gets has none
  pub next_free : (cells : List (Cell T)) (vacant : ℕ) (link : Option ℕ) (slot : ℕ) → AreCells cells vacant link
      → slot ≡ unwrap_or link (length cells) → in_slots cells slot ≡ None
  next_free cells vacant None slot sound is =
      get_or_past (map value_of cells) slot None (omega (arith, is, length-map cells value_of))
  next_free cells vacant (Some first) slot sound is =
      let cell = first_free cells vacant first sound in
      subst (λ (n : ℕ). in_slots cells n ≡ None) (sym is) (seen cells first ∙ ap (option_and_then value_of) cell.1)

  -- a new cell is made
  pub AreCells-push : (cells : List (Cell T)) (vacant : ℕ) (value : T) → AreCells cells vacant None
      → AreCells (cells ++ Taken value ∷ []) vacant None
  AreCells-push cells vacant value sound = record {
    counted =
        rw (
          map_push value_of cells (Taken value),
          sum_by_push (λ o. cond (is_some o) 1 0) (map value_of cells) (Some value),
        )
        (omega (arith, sound.counted, length_push cells (Taken value)));
    linked =
        let none = none_vacant cells vacant sound in
        subst (λ (n : ℕ). IsFreeList (cells ++ Taken value ∷ []) n None) (sym none) refl;
  }

  -- the first free cell gets a value: the rest of the list is shorter, so it does not lead back there
  pub AreCells-fill : (cells : List (Cell T)) (vacant slot : ℕ) (next : Option ℕ) (value : T)
      → AreCells cells vacant (Some slot) → slice_get cells slot ≡ Some (Free next)
      → AreCells (set cells slot (Taken value)) (vacant - 1) next
  AreCells-fill cells zero slot next value sound there = (let last = sound.linked in absurd cc)
  AreCells-fill cells (suc more) slot next value sound there =
      let p = sound.linked in
      let first = p.2 in
      let cell = p.3 in
      let same : p.1 ≡ next = cc in
      let off : (m : ℕ) → m < more → IsFreeList cells (suc m) (Some slot) → ⊥ =
      λ m below q. omega (arith, below, list_once cells (suc m) (suc more) (Some slot) q p) in
      let fewer : more ≡ suc more - 1 = omega arith in
      let counted = count_set cells slot (Free next) (Taken value) there in
      subst (λ (n : ℕ). AreCells (set cells slot (Taken value)) n next) fewer record {
        counted = omega (arith, sound.counted, counted, length-set cells slot (Taken value));
        linked = beside_list cells slot (Taken value) more next off (subst (IsFreeList cells more) same p.4);
      }

  -- a cell is freed, and leads to the one that was freed before it
  pub AreCells-free : (cells : List (Cell T)) (vacant slot : ℕ) (link : Option ℕ) (value : T)
      → AreCells cells vacant link → slice_get cells slot ≡ Some (Taken value)
      → AreCells (set cells slot (Free link)) (vacant + 1) (Some slot)
  AreCells-free cells vacant slot link value sound there =
      let within = slice_get_within cells slot (Taken value) there in
      let more : suc vacant ≡ vacant + 1 = omega arith in
      let counted = count_set cells slot (Taken value) (Free link) there in
      let off : (m : ℕ) → m < vacant → IsFreeList cells (suc m) (Some slot) → ⊥ =
      λ m _. off_list cells slot value there m in
      let rest = beside_list cells slot (Free link) vacant link off sound.linked in
      subst (λ (n : ℕ). AreCells (set cells slot (Free link)) n (Some slot)) more record {
        counted = omega (arith, sound.counted, counted, length-set cells slot (Free link));
        linked = (slot, link, refl, read_here cells slot (Free link) within, rest);
      }

  -- another value is written into a cell that has one
  pub AreCells-write : (cells : List (Cell T)) (vacant slot : ℕ) (link : Option ℕ) (old new : T)
      → AreCells cells vacant link → slice_get cells slot ≡ Some (Taken old)
      → AreCells (set cells slot (Taken new)) vacant link
  AreCells-write cells vacant slot link old new sound there =
      let counted = count_set cells slot (Taken old) (Taken new) there in
      let off : (m : ℕ) → m < vacant → IsFreeList cells (suc m) (Some slot) → ⊥ =
      λ m _. off_list cells slot old there m in
      record {
        counted = omega (arith, sound.counted, counted, length-set cells slot (Taken new));
        linked = beside_list cells slot (Taken new) vacant link off sound.linked;
      }
