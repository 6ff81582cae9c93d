-- Dictionaries that lose, invent, keep or rearrange items.
use Rattle.std.proofs.Common.{◌≡◌, ℕ, ◌+◌, List, [], ◌∷◌, ◌++◌, Option, Some, None, take, reverse, refl, ap, arith}
use Rattle.std.specs.Prelude.{sum_by}
use Rattle.std.proofs.lemmas.List.Sorted.{length_permutation, sum_by-IsPermutation}
use Rattle.foyer_policy.specs.Items.{remove_id}
use Rattle.foyer_policy.specs.Policy.{Policy, IsPolicy}
use Rattle.foyer_policy.specs.Fifo.{take_first}
use Rattle.foyer_policy.specs.declared.types.Item.{Item}
use Rattle.foyer_policy.proofs.LazyPolicies.{Plain, item, queue, remembering, first_and, once_alone}

-- a new policy that holds an item
abbrev pub opens_full : Policy (List Item) Plain
opens_full = record queue { opening = λ capacity c. item 0 ∷ [] }

pub not-opens_full : IsPolicy opens_full → ⊥
not-opens_full law = (let e = law.opening_order 0 tt refl in cc)

-- a push that forgets its item
abbrev pub push_forgets : Policy (List Item) Plain
push_forgets = record queue { push = λ v i. v }

pub not-push_forgets : IsPolicy push_forgets → ⊥
not-push_forgets law = omega (arith, length_permutation (item 0 ∷ []) [] (law.push_order [] (item 0)))

-- a push that takes its item in twice
abbrev pub push_doubles : Policy (List Item) Plain
push_doubles = record queue { push = λ v i. v ++ i ∷ i ∷ [] }

pub not-push_doubles : IsPolicy push_doubles → ⊥
not-push_doubles law =
    omega (arith, length_permutation (item 0 ∷ []) (item 0 ∷ item 0 ∷ []) (law.push_order [] (item 0)))

-- a push that makes room by itself
abbrev pub push_evicts : Policy (List Item) Plain
push_evicts = record queue { push = λ v i. i ∷ [] }

pub not-push_evicts : IsPolicy push_evicts → ⊥
not-push_evicts law =
    omega (arith, length_permutation (item 1 ∷ item 0 ∷ []) (item 1 ∷ []) (law.push_order (item 0 ∷ []) (item 1)))

-- a push that takes the weight off
abbrev pub push_lightens : Policy (List Item) Plain
push_lightens = record queue { push = λ v i. v ++ record i { weight = 0 } ∷ [] }

pub not-push_lightens : IsPolicy push_lightens → ⊥
not-push_lightens law =
    omega (
      arith,
      sum_by-IsPermutation (λ (i : Item). i.weight) (item 0 ∷ []) (record (item 0) { weight = 0 } ∷ [])
          (law.push_order [] (item 0)),
    )

-- a pop that is always none
abbrev pub pop_none_ever : Policy (List Item) Plain
pop_none_ever = record queue { pop = λ v. None }

pub not-pop_none_ever : IsPolicy pop_none_ever → ⊥
not-pop_none_ever law = omega (arith, law.pop_none (item 0 ∷ []) refl (λ i. 1))

-- a pop that keeps the last item back
abbrev last_stays : List Item → Option (Item × List Item)
last_stays [] = None
last_stays (i ∷ []) = None
last_stays (i ∷ (j ∷ is)) = Some (i, j ∷ is)

abbrev pub pop_keeps_one : Policy (List Item) Plain
pop_keeps_one = record queue { pop = last_stays }

pub not-pop_keeps_one : IsPolicy pop_keeps_one → ⊥
not-pop_keeps_one law = omega (arith, law.pop_none (item 0 ∷ []) refl (λ i. 1))

-- a pop that drops two
abbrev drop_two : List Item → Option (Item × List Item)
drop_two [] = None
drop_two (i ∷ []) = Some (i, [])
drop_two (i ∷ (j ∷ is)) = Some (i, is)

abbrev pub pop_drops_two : Policy (List Item) Plain
pop_drops_two = record queue { pop = drop_two }

pub not-pop_drops_two : IsPolicy pop_drops_two → ⊥
not-pop_drops_two law =
    omega (
      arith,
      length_permutation (item 0 ∷ item 1 ∷ []) (item 0 ∷ [])
          (law.pop_order (item 0 ∷ item 1 ∷ []) [] (item 0) refl),
    )

-- a pop that leaves its item in
abbrev pub pop_leaves_in : Policy (List Item) Plain
pop_leaves_in = record queue { pop = λ v. first_and (take_first v) (λ i rest. v) }

pub not-pop_leaves_in : IsPolicy pop_leaves_in → ⊥
not-pop_leaves_in law =
    omega (
      arith,
      length_permutation (item 0 ∷ []) (item 0 ∷ item 0 ∷ [])
          (law.pop_order (item 0 ∷ []) (item 0 ∷ []) (item 0) refl),
    )

-- a pop that gives an item that is not in
abbrev pub pop_invents : Policy (List Item) Plain
pop_invents = record queue { pop = λ v. Some (item 0, v) }

pub not-pop_invents : IsPolicy pop_invents → ⊥
not-pop_invents law = omega (arith, length_permutation [] (item 0 ∷ []) (law.pop_order [] [] (item 0) refl))

-- a pop that gives its item under another id
abbrev renamed : Option (Item × List Item) → Option (Item × List Item)
renamed None = None
renamed (Some p) = Some (record (p.0) { id = p.0.id + 1 }, p.1)

abbrev pub pop_renames : Policy (List Item) Plain
pop_renames = record queue { pop = λ v. renamed (take_first v) }

pub not-pop_renames : IsPolicy pop_renames → ⊥
not-pop_renames law =
    omega (
      arith,
      sum_by-IsPermutation (λ (i : Item). i.id) (item 0 ∷ []) (item 1 ∷ [])
          (law.pop_order (item 0 ∷ []) [] (item 1) refl),
    )

-- a remove that takes out nothing
abbrev pub remove_nothing : Policy (List Item) Plain
remove_nothing = record queue { remove = λ v id. v }

pub not-remove_nothing : IsPolicy remove_nothing → ⊥
not-remove_nothing law = (let e : ◌≡◌ {A = List Item} (item 0 ∷ []) [] = law.remove_order (item 0 ∷ []) 0 in cc)

-- a remove that takes out all
abbrev pub remove_all : Policy (List Item) Plain
remove_all = record queue { remove = λ v id. [] }

pub not-remove_all : IsPolicy remove_all → ⊥
not-remove_all law = (let e : ◌≡◌ {A = List Item} [] (item 1 ∷ []) = law.remove_order (item 0 ∷ item 1 ∷ []) 0 in cc)

-- a remove that takes out the first, whatever the id
abbrev rest_of : Option (Item × List Item) → List Item
rest_of None = []
rest_of (Some p) = p.1

abbrev pub remove_first : Policy (List Item) Plain
remove_first = record queue { remove = λ v id. rest_of (take_first v) }

pub not-remove_first : IsPolicy remove_first → ⊥
not-remove_first law =
    let e : ◌≡◌ {A = List Item} (item 1 ∷ []) (item 0 ∷ []) = law.remove_order (item 0 ∷ item 1 ∷ []) 1 in
    omega (arith, ap (sum_by (λ (i : Item). i.id)) e)

-- a remove that rearranges the rest
abbrev pub remove_reorders : Policy (List Item) Plain
remove_reorders = record queue { remove = λ v id. reverse (remove_id id v) }

pub not-remove_reorders : IsPolicy remove_reorders → ⊥
not-remove_reorders law =
    let e : ◌≡◌ {A = List Item} (item 2 ∷ item 1 ∷ []) (item 1 ∷ item 2 ∷ []) =
    law.remove_order (item 0 ∷ item 1 ∷ item 2 ∷ []) 0 in
    omega (arith, ap (λ (l : List Item). first_id l) e) where
      first_id : List Item → ℕ
      first_id [] = 0
      first_id (i ∷ is) = i.id

-- an acquire that drops its item
abbrev pub acquire_drops : Policy (List Item) Plain
acquire_drops = record queue { acquire = λ v id. remove_id id v }

pub not-acquire_drops : IsPolicy acquire_drops → ⊥
not-acquire_drops law =
    omega (arith, length_permutation (item 0 ∷ []) [] (law.acquire_order (item 0 ∷ []) 0 (once_alone (item 0))))

-- an acquire that makes its item weightless
abbrev weightless : List Item → List Item
weightless [] = []
weightless (i ∷ is) = record i { weight = 0 } ∷ is

abbrev pub acquire_lightens : Policy (List Item) Plain
acquire_lightens = record queue { acquire = λ v id. weightless v }

pub not-acquire_lightens : IsPolicy acquire_lightens → ⊥
not-acquire_lightens law =
    omega (
      arith,
      sum_by-IsPermutation (λ (i : Item). i.weight) (item 0 ∷ []) (record (item 0) { weight = 0 } ∷ [])
          (law.acquire_order (item 0 ∷ []) 0 (once_alone (item 0))),
    )

-- a release that drops its item
abbrev pub release_drops : Policy (List Item) Plain
release_drops = record queue { release = λ v id. remove_id id v }

pub not-release_drops : IsPolicy release_drops → ⊥
not-release_drops law =
    omega (arith, length_permutation (item 0 ∷ []) [] (law.release_order (item 0 ∷ []) 0 (once_alone (item 0))))

-- an update that drops what passes the capacity
abbrev pub update_drops : Policy (List Item) Plain
update_drops = record queue { update = λ v capacity config. take capacity v }

pub not-update_drops : IsPolicy update_drops → ⊥
not-update_drops law =
    omega (arith, length_permutation (item 0 ∷ []) [] (law.update_order (item 0 ∷ []) 0 None (once_alone (item 0))))

-- a clear that keeps all
abbrev pub clear_keeps : Policy (List Item) Plain
clear_keeps = record queue { clear = λ v. v }

pub not-clear_keeps : IsPolicy clear_keeps → ⊥
not-clear_keeps law = (let e : ◌≡◌ {A = List Item} (item 0 ∷ []) [] = law.clear_is (item 0 ∷ []) in cc)

-- a clear that does not remember what its pops would have given
abbrev pub clear_feeds_nothing : Policy (List Item × List Item) Plain
clear_feeds_nothing = record remembering { clear = λ v. ([], v.1) }

pub not-clear_feeds_nothing : IsPolicy clear_feeds_nothing → ⊥
not-clear_feeds_nothing law =
    let e : ◌≡◌ {A = List Item} [] (item 0 ∷ []) =
    ap (λ (v : List Item × List Item). v.1) (law.clear_is (item 0 ∷ [], [])) in cc

-- a clear that forgets what was remembered
abbrev pub clear_forgets : Policy (List Item × List Item) Plain
clear_forgets = record remembering { clear = λ v. ([], []) }

pub not-clear_forgets : IsPolicy clear_forgets → ⊥
not-clear_forgets law =
    let e : ◌≡◌ {A = List Item} [] (item 0 ∷ []) =
    ap (λ (v : List Item × List Item). v.1) (law.clear_is ([], item 0 ∷ [])) in cc
