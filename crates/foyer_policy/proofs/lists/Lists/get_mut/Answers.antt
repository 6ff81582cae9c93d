use Rattle.std.proofs.Common.{◌≡◌, ℕ, rules, sym, ◌∙◌, Some, IsSome, refl, List}
use Rattle.foyer_policy.specs.Arena.{get, value_of}
use Rattle.foyer_policy.specs.Chain.{lists_of}
use Rattle.foyer_policy.specs.Lists.{find, Lists}
use Rattle.foyer_policy.proofs.ArenaLemmas.{some_node, parts_of, written, IsArena-written, get-written_same, get-written_other}
use Rattle.foyer_policy.proofs.LinkedLemmas.{find-value}
use Rattle.foyer_policy.proofs.HoldsLemmas.{lengths_small, contains_found, Holds-write, Holds-again, lists_of-Holds, AreLists-told}
use Rattle.foyer_policy.proofs.lists.Lists.get_mut.Goals as goal

pub get_mut-requires : goal.get_mut-requires
get_mut-requires g c =
    let i = c.self.inside in
    let p = c.place.inside.node in
    let there : IsSome (find p (lists_of i.nodes i.heads)) = search rules in
    let node = some_node (get i.nodes p)
    (contains_found i.nodes i.heads i.tails (lists_of i.nodes i.heads) p c.self.invariant.linked there) in
    let parts = parts_of _ _ node.0 node.1 in (sym c.self.invariant.arena.block.0, (node.0.value, parts.1))

pub invariant_of-self-lent : goal.invariant_of-self-lent
invariant_of-self-lent g c = λ w.
    let i = c.self.inside in
    let p = c.place.inside.node in
    let v = c.get_mut.result.now in
    let there : IsSome (find p (lists_of i.nodes i.heads)) = search rules in
    let node = some_node (get i.nodes p)
    (contains_found i.nodes i.heads i.tails (lists_of i.nodes i.heads) p c.self.invariant.linked there) in
    Holds-again (written i.nodes p v w node.0) i.heads i.tails _
    (Holds-write i.nodes (written i.nodes p v w node.0) i.heads i.tails p w node.0 c.self.invariant node.1
    (IsArena-written i.nodes p v w node.0 c.self.invariant.arena c.get_mut.ensures.value)
    (get-written_same i.nodes p v w node.0 node.1 c.get_mut.ensures.value)
    (get-written_other i.nodes p v w node.0) refl)

same_lists : {T : Type 0} (a b : List (List (ℕ × T))) (x y : ℕ) → a ≡ b →
    ◌≡◌ {A = Lists T} (record { lists = a; room = x; span = y }) (record { lists = b; room = x; span = y })
same_lists a b x y e = rw e refl

pub returns : goal.returns
returns g c =
    let i = c.self.inside in
    let p = c.place.inside.node in
    let v = c.get_mut.result.now in
    let there : IsSome (find p (lists_of i.nodes i.heads)) = search rules in
    let node = some_node (get i.nodes p)
    (contains_found i.nodes i.heads i.tails (lists_of i.nodes i.heads) p c.self.invariant.linked there) in
    let parts = parts_of _ _ node.0 node.1 in
    let is_value : value_of (get i.nodes p) ≡ Some v = rw node.1 (sym parts.1 ∙ c.get_mut.ensures.value) in
    let here : find p (lists_of i.nodes i.heads) ≡ Some v =
    sym (find-value (get i.nodes) i.heads i.tails (lists_of i.nodes i.heads) p c.self.invariant.linked there)
    ∙ is_value in (
      (
        refl,
        λ w. rw (← c.self.view_is, ← c.place.view_is) (same_lists _ _ _ _
            (lists_of-Holds (written i.nodes p v w node.0) i.heads i.tails _
            (Holds-write i.nodes (written i.nodes p v w node.0) i.heads i.tails p w node.0 c.self.invariant node.1
            (IsArena-written i.nodes p v w node.0 c.self.invariant.arena c.get_mut.ensures.value)
            (get-written_same i.nodes p v w node.0 node.1 c.get_mut.ensures.value)
            (get-written_other i.nodes p v w node.0) refl))),
      ),
      record {
        writes_back = tt;
        value = rw (← c.self.view_is, ← c.place.view_is) here;
        small =
            rw (← c.self.view_is) (lengths_small i.nodes i.heads i.tails c.self.invariant);
        apart =
            AreLists-told c.self.view_is c.self.invariant c.self.told;
      },
    )
