-- Dictionaries that look too much, or grant themselves credit.
use Rattle.std.proofs.Common.{ℕ, ◌+◌, List, [], ◌∷◌, ◌++◌, None, length, refl, arith}
use Rattle.foyer_policy.specs.Items.{remove_id}
use Rattle.foyer_policy.specs.Policy.{Policy, IsPolicy}
use Rattle.foyer_policy.specs.Fifo.{take_first}
use Rattle.foyer_policy.specs.declared.types.Item.{Item}
use Rattle.foyer_policy.proofs.LazyPolicies.{Plain, item, queue, counting, first_and}

-- a new policy that has credit
abbrev pub opens_with_credit : Policy (List Item) Plain
opens_with_credit = record queue { credit = λ v. 1 }

pub not-opens_with_credit : IsPolicy opens_with_credit → ⊥
not-opens_with_credit law = omega (arith, law.opening_credit 0 tt refl)

-- a push that adds to the credit
abbrev pub push_pays : Policy (List Item × ℕ) Plain
push_pays = record counting { push = λ v i. (v.0 ++ i ∷ [], v.1 + 1) }

pub not-push_pays : IsPolicy push_pays → ⊥
not-push_pays law = omega (arith, law.push_credit ([], 0) (item 0))

-- a pop that reads all that is in
abbrev pub pop_reads_all : Policy (List Item) Plain
pop_reads_all = record queue { looks = length }

pub not-pop_reads_all : IsPolicy pop_reads_all → ⊥
not-pop_reads_all law = omega (arith, law.pop_looks (item 0 ∷ item 1 ∷ []) (item 1 ∷ []) (item 0) refl)

-- a pop that adds to the credit
abbrev pub pop_pays : Policy (List Item × ℕ) Plain
pop_pays = record counting { pop = λ v. first_and (take_first v.0) (λ i rest. (rest, v.1 + 1)) }

pub not-pop_pays : IsPolicy pop_pays → ⊥
not-pop_pays law = omega (arith, law.pop_credit (item 0 ∷ [], 0) ([], 1) (item 0) refl)

-- a pop that reads one record and gives none
abbrev pub none_reads : Policy (List Item) Plain
none_reads = record queue { looks = λ v. 1 }

pub not-none_reads : IsPolicy none_reads → ⊥
not-none_reads law = omega (arith, law.none_looks [] refl)

-- a remove that adds to the credit
abbrev pub remove_pays : Policy (List Item × ℕ) Plain
remove_pays = record counting { remove = λ v id. (remove_id id v.0, v.1 + 1) }

pub not-remove_pays : IsPolicy remove_pays → ⊥
not-remove_pays law = omega (arith, law.remove_credit ([], 0) 0)

-- an acquire that adds 2 to the credit
abbrev pub acquire_pays_two : Policy (List Item × ℕ) Plain
acquire_pays_two = record counting { acquire = λ v id. (v.0, v.1 + 2) }

pub not-acquire_pays_two : IsPolicy acquire_pays_two → ⊥
not-acquire_pays_two law = omega (arith, law.acquire_credit ([], 0) 0)

-- a release that adds to the credit
abbrev pub release_pays : Policy (List Item × ℕ) Plain
release_pays = record counting { release = λ v id. (v.0, v.1 + 1) }

pub not-release_pays : IsPolicy release_pays → ⊥
not-release_pays law = omega (arith, law.release_credit ([], 0) 0)

-- an update that adds to the credit
abbrev pub update_pays : Policy (List Item × ℕ) Plain
update_pays = record counting { update = λ v capacity config. (v.0, v.1 + 1) }

pub not-update_pays : IsPolicy update_pays → ⊥
not-update_pays law = omega (arith, law.update_credit ([], 0) 0 None)
