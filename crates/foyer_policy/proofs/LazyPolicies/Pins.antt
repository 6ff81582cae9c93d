-- Dictionaries that pin or unpin what they should not.
use Rattle.std.proofs.Common.{◌≡◌, ◌+◌, List, [], ◌∷◌, ◌++◌, Option, None, refl, arith, inl, inr}
use Rattle.std.proofs.lemmas.List.Sorted.{length_permutation, sum_by-IsPermutation}
use Rattle.foyer_policy.specs.Items.{remove_id, find_id}
use Rattle.foyer_policy.specs.Policy.{Policy, IsPolicy}
use Rattle.foyer_policy.specs.Fifo.{take_first}
use Rattle.foyer_policy.specs.declared.types.Item.{Item}
use Rattle.foyer_policy.specs.ItemLaws.{found-id}
use Rattle.foyer_policy.proofs.LazyPolicies.{Plain, item, queue, pinning, first_and, or_stay, once_alone, once_pair}

-- a pin on an item that is not in
abbrev pub pins_what_is_out : Policy (List Item) Plain
pins_what_is_out = record queue { pinned = λ v. item 0 ∷ [] }

pub not-pins_what_is_out : IsPolicy pins_what_is_out → ⊥
not-pins_what_is_out law = omega (arith, law.pinned_within [] (λ i. 1))

-- a push that pins its item
abbrev pub push_pins : Policy (List Item × List Item) Plain
push_pins = record pinning { push = λ v i. (v.0, v.1 ++ i ∷ []) }

pub not-push_pins : IsPolicy push_pins → ⊥
not-push_pins law = (let e : ◌≡◌ {A = List Item} (item 0 ∷ []) [] = law.push_pinned ([], []) (item 0) in cc)

-- a push that unpins the others
abbrev pub push_unpins : Policy (List Item × List Item) Plain
push_unpins = record pinning { push = λ v i. ((v.0 ++ v.1) ++ i ∷ [], []) }

pub not-push_unpins : IsPolicy push_unpins → ⊥
not-push_unpins law = (let e : ◌≡◌ {A = List Item} [] (item 0 ∷ []) = law.push_pinned ([], item 0 ∷ []) (item 1) in cc)

-- a pop that unpins the others
abbrev pub pop_unpins : Policy (List Item × List Item) Plain
pop_unpins = record pinning { pop = λ v. first_and (take_first v.0) (λ i rest. (rest ++ v.1, [])) }

pub not-pop_unpins : IsPolicy pop_unpins → ⊥
not-pop_unpins law =
    (let e : ◌≡◌ {A = List Item} [] (item 1 ∷ []) =
    law.pop_pinned (item 0 ∷ [], item 1 ∷ []) (item 1 ∷ [], []) (item 0) refl in cc)

-- a pop that pins what it leaves
abbrev pub pop_pins : Policy (List Item × List Item) Plain
pop_pins = record pinning { pop = λ v. first_and (take_first v.0) (λ i rest. ([], rest ++ v.1)) }

pub not-pop_pins : IsPolicy pop_pins → ⊥
not-pop_pins law =
    (let e : ◌≡◌ {A = List Item} (item 1 ∷ []) [] =
    law.pop_pinned (item 0 ∷ item 1 ∷ [], []) ([], item 1 ∷ []) (item 0) refl in cc)

-- a pop that gives a pinned item
abbrev pub pop_gives_pinned : Policy (List Item × List Item) Plain
pop_gives_pinned = record pinning { pop = λ v. first_and (take_first v.1) (λ i rest. (v.0, rest)) }

pub not-pop_gives_pinned : IsPolicy pop_gives_pinned → ⊥
not-pop_gives_pinned law =
    (let e : ◌≡◌ {A = List Item} [] (item 0 ∷ []) = law.pop_pinned ([], item 0 ∷ []) ([], []) (item 0) refl in cc)

-- a pop that gives none while anything is pinned
abbrev unless_pinned : List Item → Option (Item × (List Item × List Item)) → Option (Item × (List Item × List Item))
unless_pinned [] found = found
unless_pinned (i ∷ is) found = None

abbrev pub pop_waits : Policy (List Item × List Item) Plain
pop_waits = record pinning { pop = λ v. unless_pinned v.1 (first_and (take_first v.0) (λ i rest. (rest, v.1))) }

pub not-pop_waits : IsPolicy pop_waits → ⊥
not-pop_waits law = omega (arith, law.pop_none (item 0 ∷ [], item 1 ∷ []) refl (λ i. 1))

-- a remove that unpins the others
abbrev pub remove_unpins : Policy (List Item × List Item) Plain
remove_unpins = record pinning { remove = λ v id. (remove_id id (v.0 ++ v.1), []) }

pub not-remove_unpins : IsPolicy remove_unpins → ⊥
not-remove_unpins law =
    (let e : ◌≡◌ {A = List Item} [] (item 1 ∷ []) = law.remove_pinned (item 0 ∷ [], item 1 ∷ []) 0 once_pair in cc)

-- a remove that spares what is pinned
abbrev pub remove_spares_pinned : Policy (List Item × List Item) Plain
remove_spares_pinned = record pinning { remove = λ v id. (remove_id id v.0, v.1) }

pub not-remove_spares_pinned : IsPolicy remove_spares_pinned → ⊥
not-remove_spares_pinned law =
    (let e : ◌≡◌ {A = List Item} (item 0 ∷ []) [] = law.remove_pinned ([], item 0 ∷ []) 0 (once_alone (item 0)) in cc)

-- an acquire that pins all
abbrev pub acquire_pins_all : Policy (List Item × List Item) Plain
acquire_pins_all = record pinning { acquire = λ v id. ([], v.0 ++ v.1) }

pub not-acquire_pins_all : IsPolicy acquire_pins_all → ⊥
not-acquire_pins_all law = elim (law.acquire_pinned (item 0 ∷ item 1 ∷ [], []) 0 once_pair) [
  | inl same ↦ (let e : ◌≡◌ {A = List Item} (item 0 ∷ item 1 ∷ []) [] = same in cc)
  | inr more ↦ omega (arith, length_permutation (more.0 ∷ []) (item 0 ∷ item 1 ∷ []) more.2)
]

-- an acquire that pins a neighbour
abbrev pub acquire_pins_neighbour : Policy (List Item × List Item) Plain
acquire_pins_neighbour = record pinning
    { acquire = λ v id. or_stay (find_id (id + 1) v.0) v (λ i. (remove_id (id + 1) v.0, v.1 ++ i ∷ [])) }

pub not-acquire_pins_neighbour : IsPolicy acquire_pins_neighbour → ⊥
not-acquire_pins_neighbour law = elim (law.acquire_pinned (item 0 ∷ item 1 ∷ [], []) 0 once_pair) [
  | inl same ↦ (let e : ◌≡◌ {A = List Item} (item 1 ∷ []) [] = same in cc)
  | inr more ↦
      let id : more.0.id ≡ 0 = found-id 0 more.0 (item 0 ∷ item 1 ∷ []) more.1 in
      omega (arith, sum_by-IsPermutation (λ (i : Item). i.id) (more.0 ∷ []) (item 1 ∷ []) more.2)
]

-- an acquire that unpins the others
abbrev pub acquire_unpins : Policy (List Item × List Item) Plain
acquire_unpins = record pinning { acquire = λ v id. (v.0 ++ v.1, []) }

pub not-acquire_unpins : IsPolicy acquire_unpins → ⊥
not-acquire_unpins law = elim (law.acquire_pinned ([], item 0 ∷ []) 1 (once_alone (item 0))) [
  | inl same ↦ (let e : ◌≡◌ {A = List Item} [] (item 0 ∷ []) = same in cc)
  | inr more ↦ omega (arith, length_permutation (more.0 ∷ item 0 ∷ []) [] more.2)
]

-- a release that unpins all
abbrev pub release_unpins_all : Policy (List Item × List Item) Plain
release_unpins_all = record pinning { release = λ v id. (v.0 ++ v.1, []) }

pub not-release_unpins_all : IsPolicy release_unpins_all → ⊥
not-release_unpins_all law =
    (let e : ◌≡◌ {A = List Item} [] (item 1 ∷ []) = law.release_pinned ([], item 0 ∷ item 1 ∷ []) 0 once_pair in cc)

-- a release that never unpins
abbrev pub release_nothing : Policy (List Item × List Item) Plain
release_nothing = record pinning { release = λ v id. v }

pub not-release_nothing : IsPolicy release_nothing → ⊥
not-release_nothing law =
    (let e : ◌≡◌ {A = List Item} (item 0 ∷ []) [] = law.release_pinned ([], item 0 ∷ []) 0 (once_alone (item 0)) in cc)

-- an update that unpins all
abbrev pub update_unpins : Policy (List Item × List Item) Plain
update_unpins = record pinning { update = λ v capacity config. (v.0 ++ v.1, []) }

pub not-update_unpins : IsPolicy update_unpins → ⊥
not-update_unpins law =
    (let e : ◌≡◌ {A = List Item} [] (item 0 ∷ []) = law.update_pinned ([], item 0 ∷ []) 0 None in cc)

-- an update that pins all
abbrev pub update_pins : Policy (List Item × List Item) Plain
update_pins = record pinning { update = λ v capacity config. ([], v.0 ++ v.1) }

pub not-update_pins : IsPolicy update_pins → ⊥
not-update_pins law = (let e : ◌≡◌ {A = List Item} (item 0 ∷ []) [] = law.update_pinned (item 0 ∷ [], []) 0 None in cc)
