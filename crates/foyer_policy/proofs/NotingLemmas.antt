-- Nodes that are asked whether they have a value, and values that are written again.
use Rattle.std.proofs.Common.{◌≡◌, ℕ, ◌<◌, Bool, true, false, cond, List, [], ◌∷◌, Option, Some, None, IsSome, length, map, get_or, refl, sym, ◌∙◌, ap, rules}
use Rattle.std.specs.Prelude.{◌==◌}
use Rattle.std.proofs.lemmas.List.{ext_get_or}
use Rattle.std.proofs.Math.ListN.{get_or-map, length-map}
use Rattle.foyer_policy.specs.declared.lists.arena.Arena.{Arena}
use Rattle.foyer_policy.specs.declared.lists.arena.Links.{Links}
use Rattle.foyer_policy.specs.Arena.{get, IsArena, IsMarked}
use Rattle.foyer_policy.specs.Chain.{lists_of, Holds}
use Rattle.foyer_policy.specs.Lends.{with_value_at}
use Rattle.foyer_policy.specs.Lists.{Lists, list_at, find, find_in, with_value, AreLists}
use Rattle.foyer_policy.proofs.HoldsLemmas.{vacant_if_lost}
use Rattle.foyer_policy.proofs.ListsLemmas.{find-at}
use Rattle.foyer_policy.proofs.PlaceLemmas.{place_is}

has_links : {T : Type 0} (n : ℕ) (l : Option Links) (o : Option T) → IsMarked n l o → (x : Links) × (l ≡ Some x)
has_links n None o m = absurd m
has_links n (Some x) o m = (x, refl)

module _ {T : Type 0} {n : ℕ} where
  -- each node of the block has links
  pub arena-links : (a : Arena T n) (p : ℕ) → IsArena a → p < a.len → (x : Links)
      × (get_or a.nodes.links p None ≡ Some x)
  arena-links a p h lt = has_links n (get_or a.nodes.links p None) (get_or a.nodes.values p None) (h.nodes.marked p lt)

  -- a node that has a value is in some list
  pub found_if_there : (nodes : Arena T n) (heads tails : List (Option ℕ)) (p : ℕ) →
      Holds nodes heads tails (lists_of nodes heads) → IsSome (get nodes p) → IsSome (find p (lists_of nodes heads))
  found_if_there nodes heads tails p h there = go (find p (lists_of nodes heads)) refl where
    go : (o : Option T) → find p (lists_of nodes heads) ≡ o → IsSome (find p (lists_of nodes heads))
    go None e = let none = vacant_if_lost nodes heads tails p h e in let t = rw none at there in absurd (search rules)
    go (Some v) e = rw e (search rules)

module _ {T : Type 0} where
  -- a list, where the value at a place is written again
  list-again : (p : ℕ) (w : T) (l : List (ℕ × T)) → ((v : T) → find_in p l ≡ Some v → w ≡ v) → with_value p w l ≡ l
  list-again p w [] same = refl
  list-again p w (e ∷ es) same = go (e.0 == p) refl (list-again p w es) where
    go : (b : Bool) → (e.0 == p) ≡ b → (((v : T) → find_in p es ≡ Some v → w ≡ v) → with_value p w es ≡ es) →
        cond b ((p, w) ∷ es) (e ∷ with_value p w es) ≡ e ∷ es
    go true is rec =
        let here : find_in p (e ∷ es) ≡ Some e.1 = rw is refl in
        let at : p ≡ e.0 = sym (place_is e.0 p is) in
        let value : w ≡ e.1 = same e.1 here in λ i. (at i, value i) ∷ es
    go false is rec = ap (λ r. e ∷ r) (rec (λ v found.
        let late : find_in p (e ∷ es) ≡ Some v = rw is found in same v late))

  found_once : (v w : T) → Some v ≡ Some w → v ≡ w
  found_once v w e = cc

  -- lists, where the value at a place is written again, are as they were
  pub written-again : (n : ℕ) (s : Lists T) → AreLists n s.lists → (p : ℕ) (v w : T) → find p s.lists ≡ Some v → w ≡ v
      → with_value_at s p w ≡ s
  written-again n s sound p v w found is =
      let ls = s.lists in
      let each : (j : ℕ) → j < length (map (with_value p w) ls) → list_at (map (with_value p w) ls) j ≡ list_at ls j =
      (λ j less.
      let lt : j < length ls = rw (← length-map ls (with_value p w)) less in
      get_or-map (with_value p w) ls j []
      ∙ list-again p w (list_at ls j) (λ x here. is
      ∙ found_once v x (sym found ∙ find-at n ls j p x sound lt here))) in
      let same : map (with_value p w) ls ≡ ls =
      ext_get_or [] (map (with_value p w) ls) ls (length-map ls (with_value p w)) each in
      ap (λ (x : List (List (ℕ × T))). record { lists = x; room = s.room; span = s.span }) same
