-- Nodes of an arena that hold lists: what each step leaves, and what the lists are then.
use Rattle.std.proofs.Common.{◌≡◌, ◌≢◌, ℕ, suc, ◌+◌, ◌^◌, ◌<◌, ◌≤◌, Bool, true, false, cond, List, [], ◌∷◌, ◌++◌, Option, Some, None, length, map, get_or, set, refl, sym, ◌∙◌, ap, subst, arith, sum_by, length-append, replicate, IsSome, rules}
use Rattle.std.specs.Prelude.{is_some}
use Rattle.std.proofs.lemmas.List.{ext_get_or, get_or-set_other, get_or-map as at-map, get_or-replicate, length-replicate}
use Rattle.std.proofs.lemmas.List.Folds.{sum_by-replicate}
use Rattle.std.proofs.lemmas.List.Sums.{sum_by-set, sum_by-cons, get_or-le-sum_by, count_by-le-length}
use Rattle.std.proofs.Math.ListN.{length-map}
use Rattle.foyer_policy.specs.declared.lists.arena.Arena.{Arena}
use Rattle.foyer_policy.specs.Nodes.{Node, walk}
use Rattle.foyer_policy.specs.Arena.{get, IsArena}
use Rattle.foyer_policy.specs.Free.{used_of}
use Rattle.foyer_policy.specs.Lists.{Lists, list_at, find_in, find, drop_place, with_value, moved, flat, IsFree, IsDistinct, AreLists}
use Rattle.foyer_policy.specs.Chain.{IsList, Linked, Holds, lists_of, is_at, after_set, end_set}
use Rattle.foyer_policy.proofs.PlaceLemmas.{same_place, other_place, find_in-free, IsFree-none}
use Rattle.foyer_policy.proofs.FlatLemmas.{find_in-flat, length-flat, IsDistinct-flat}
use Rattle.foyer_policy.proofs.FreeLemmas.{filled_within, used-set}
use Rattle.foyer_policy.proofs.ArenaLemmas.{some_node, parts_of, arena-node}
use Rattle.foyer_policy.proofs.ChainLemmas.{walk-chain, owner, Owned, Owned-is_at}
use Rattle.foyer_policy.proofs.LinkedLemmas.{not_true, AreLists-Linked, Found, found, Linked-link, count-unlink, some_owner, Owned-tail, Linked-alike}
use Rattle.foyer_policy.proofs.ListsLemmas.{IsIn, is_in, stands}
use Rattle.foyer_policy.proofs.WriteLemmas.{Linked-write, count-write}

module _ {T : Type 0} where
  pub count-link : (ls : List (List (ℕ × T))) (k p : ℕ) (v : T) → k < length ls →
      sum_by length (set ls k (list_at ls k ++ (p, v) ∷ [])) ≡ sum_by length ls + 1
  count-link ls k p v lt =
      omega (
        arith,
        sum_by-set length ls k (list_at ls k ++ (p, v) ∷ []) [] lt,
        length-append (list_at ls k) ((p, v) ∷ []),
      )

  pub some_after_set : (b : Bool) (to : Option ℕ) (o : Option (Node T)) → IsSome o → IsSome (cond b (after_set to o) o)
  some_after_set true to None h = absurd (search rules)
  some_after_set true to (Some n) h = search rules
  some_after_set false to o h = h

  -- there are more values than these entries
  one_more : (vs : List (Option T)) (es : List (ℕ × T)) (p : ℕ) (v : T) → IsDistinct es → IsFree p es
      → ((q : ℕ) (w : T) → find_in q es ≡ Some w → (x : T) × (get_or vs q None ≡ Some x)) → get_or vs p None ≡ Some v
      → length es + 1 ≤ used_of vs
  one_more vs [] p v d f there here =
      let s = used-set vs p None (filled_within vs p v here) in let t = rw here at s in omega (arith, t)
  one_more vs (e ∷ es) p v d f there here =
      let first : find_in e.0 (e ∷ es) ≡ Some e.1 = rw (same_place e.0) refl in
      let filled = there e.0 e.1 first in
      let s = used-set vs e.0 None (filled_within vs e.0 filled.0 filled.1) in
      let t = rw filled.1 at s in
      let more = one_more (set vs e.0 None) es p v d.1 f.1 rest
      (get_or-set_other vs e.0 p None None (λ x. f.0 (sym x)) ∙ here) in omega (arith, t, more) where
        rest : (q : ℕ) (w : T) → find_in q es ≡ Some w → (x : T) × (get_or (set vs e.0 None) q None ≡ Some x)
        rest q w is =
            let ne : q ≢ e.0 =
            (λ x. let is' : find_in e.0 es ≡ Some w = subst (λ (k : ℕ). find_in k es ≡ Some w) x is in
            let y : None ≡ Some w = sym (find_in-free e.0 es d.0) ∙ is' in cc) in
            let late : find_in q (e ∷ es) ≡ Some w = rw (other_place e.0 q (λ x. ne (sym x))) is in
            let old = there q w late in (old.0, get_or-set_other vs e.0 q None None ne ∙ old.1)

module _ {T : Type 0} {N : ℕ} where
  pub lists_of-Holds : (nodes : Arena T N) (heads tails : List (Option ℕ)) (ls : List (List (ℕ × T))) →
      Holds nodes heads tails ls → lists_of nodes heads ≡ ls
  lists_of-Holds nodes heads tails ls h = ext_get_or [] (lists_of nodes heads) ls
      (length-map heads (walk (get nodes) (nodes.used)) ∙ h.linked.heads_len) (λ j less.
      let within : j < length heads =
      (let x : length (lists_of nodes heads) ≡ length heads = length-map heads (walk (get nodes) (nodes.used)) in
      omega arith) in
      let lt : j < length ls = omega (arith, h.linked.heads_len) in
      let o : IsList (get nodes) j (get_or heads j None) (get_or tails j None) (list_at ls j) = h.linked.each j lt in
      let le : length (list_at ls j) ≤ nodes.used = omega (arith, get_or-le-sum_by length ls j [] lt, h.count) in
      at-map (walk (get nodes) (nodes.used)) heads j None [] within
      ∙ rw o.head (walk-chain (get nodes) j (nodes.used) None (list_at ls j) o.chain le))

  pub Holds-again : (nodes : Arena T N) (heads tails : List (Option ℕ)) (ls : List (List (ℕ × T))) →
      Holds nodes heads tails ls → Holds nodes heads tails (lists_of nodes heads)
  Holds-again nodes heads tails ls h = rw (lists_of-Holds nodes heads tails ls h) h

  -- a stored node is linked in
  module _ (n0 n1 n2 : Arena T N) (heads heads2 tails : List (Option ℕ)) (k p : ℕ) (v : T)
      (old : Holds n0 heads tails (lists_of n0 heads)) (lt : k < length heads) (vacant : get n0 p ≡ None)
      (changed : get n1 p ≡ Some (record { value = v; list = k; before = get_or tails k None; after = None }))
      (others : (q : ℕ) → q ≢ p → get n1 q ≡ get n0 q) where
    lt-lists : k < length (lists_of n0 heads)
    lt-lists = rw length-map lt

    pub tail_there : (x : ℕ) → get_or tails k None ≡ Some x → IsSome (get n1 x)
    tail_there x e =
        let own : Owned (get n0) k (get_or tails k None) =
        Owned-tail (get n0) heads tails (lists_of n0 heads) k old.linked lt-lists in
        let own' : owner (get n0 x) ≡ Some k = rw e at own in
        let ne : x ≢ p =
        (λ q. let y : owner (get n0 p) ≡ Some k = rw q at own' in let z : owner (get n0 p) ≡ None =
        ap owner vacant in cc) in
        rw (others x ne) (some_owner (get n0 x) k own')

    pub Holds-link : IsArena n2 →
        ((q : ℕ) → get n2 q ≡ cond (is_at (get_or tails k None) q) (after_set (Some p) (get n1 q)) (get n1 q))
        → n2.used ≡ n0.used + 1 → heads2 ≡ end_set (get_or tails k None) k (Some p) heads
        → Holds n2 heads2 (set tails k (Some p))
        (set (lists_of n0 heads) k (list_at (lists_of n0 heads) k ++ (p, v) ∷ []))
    Holds-link arena links used ends =
        let own : Owned (get n0) k (get_or tails k None) =
        Owned-tail (get n0) heads tails (lists_of n0 heads) k old.linked lt-lists in
        let off : is_at (get_or tails k None) p ≡ false =
        not_true (is_at (get_or tails k None) p)
        (λ t. let y : owner (get n0 p) ≡ Some k = Owned-is_at (get n0) k p (get_or tails k None) own t in
        let z : owner (get n0 p) ≡ None = ap owner vacant in cc) in
        record {
          arena = arena;
          linked = rw ends
              (Linked-link (get n0) (get n2) heads tails (lists_of n0 heads) k p v old.linked lt-lists vacant
              record {
                others = λ q ne is. links q ∙ rw is (others q ne);
                at_before = λ q ne is. links q ∙ rw is (ap (after_set (Some p)) (others q ne));
              }
              (links p ∙ rw off changed));
          count = count-link (lists_of n0 heads) k p v lt-lists ∙ rw used (ap (λ n. n + 1) old.count);
        }

  pub contains_found : (n0 : Arena T N) (heads tails : List (Option ℕ)) (ls : List (List (ℕ × T))) (p : ℕ) →
      Linked (get n0) heads tails ls → IsSome (find p ls) → IsSome (get n0 p)
  contains_found n0 heads tails ls p old h = go (find p ls) refl h where
    go : (o : Option T) → find p ls ≡ o → IsSome o → IsSome (get n0 p)
    go None e h = absurd (search rules)
    go (Some v) e h = let s : Found (get n0) p v ls = found (get n0) heads tails ls p v old e in
        some_owner (get n0 p) s.at.list (ap owner s.node)

  -- where no list has a place, its node has no value: there would be more values than entries
  pub vacant_if_lost : (nodes : Arena T N) (heads tails : List (Option ℕ)) (p : ℕ) →
      Holds nodes heads tails (lists_of nodes heads) → find p (lists_of nodes heads) ≡ None → get nodes p ≡ None
  vacant_if_lost nodes heads tails p h lost = go (get nodes p) refl where
    filled : (q : ℕ) (node : Node T) → get nodes q ≡ Some node → get_or nodes.nodes.values q None ≡ Some node.value
    filled q node e = (parts_of (get_or nodes.nodes.links q None) (get_or nodes.nodes.values q None) node e).1

    there : (q : ℕ) (v : T) → find_in q (flat (lists_of nodes heads)) ≡ Some v → (x : T)
        × (get_or nodes.nodes.values q None ≡ Some x)
    there q v is =
        let s : Found (get nodes) q v (lists_of nodes heads) =
        found (get nodes) heads tails (lists_of nodes heads) q v h.linked
        (sym (find_in-flat q (lists_of nodes heads)) ∙ is) in (v, filled q _ s.node)

    go : (o : Option (Node T)) → get nodes p ≡ o → get nodes p ≡ None
    go None e = e
    go (Some node) e =
        let ls = lists_of nodes heads in
        let sound = AreLists-Linked (get nodes) heads tails ls (length heads) h.linked refl in
        absurd (omega (
          arith,
          one_more nodes.nodes.values (flat ls) p node.value (IsDistinct-flat (length heads) ls sound)
              (IsFree-none p (flat ls) (find_in-flat p ls ∙ lost)) there (filled p node e),
          length-flat ls,
          h.count,
          h.arena.used,
        ))

  -- what stands at a place lies in the block
  pub within_span : (nodes : Arena T N) (heads tails : List (Option ℕ)) (p : ℕ) →
      Holds nodes heads tails (lists_of nodes heads) → IsSome (find p (lists_of nodes heads)) → p < nodes.len
  within_span nodes heads tails p h there =
      let node = some_node (get nodes p)
      (contains_found nodes heads tails (lists_of nodes heads) p h.linked there) in
      (arena-node nodes p node.0 h.arena node.1).1

  pub Holds-new : (nodes : Arena T N) (n : ℕ) → IsArena nodes → nodes.used ≡ 0 →
      Holds nodes (replicate n None) (replicate n None) (replicate n [])
  Holds-new nodes n arena none = record {
    arena = arena;
    linked = record {
      heads_len = simp length-replicate;
      tails_len = simp length-replicate;
      each = λ k lt. let less : k < n = rw length-replicate at lt in
          rw (get_or-replicate {A = Option ℕ} n k None None less, get_or-replicate {A = List (ℕ × T)} n k [] [] less)
          record { head = refl; tail = refl; chain = tt };
      distinct = λ k lt. let less : k < n = rw length-replicate at lt in
          rw (get_or-replicate {A = List (ℕ × T)} n k [] [] less) tt;
    };
    count = sum_by-replicate length n [] ∙ rw none (omega arith);
  }

  -- only the nodes count
  pub Holds-same : (a b : Arena T N) (heads tails : List (Option ℕ)) → IsArena b → ((q : ℕ) → get b q ≡ get a q) →
      b.used ≡ a.used → Holds a heads tails (lists_of a heads)
      → Holds b heads tails (lists_of a heads)
  Holds-same a b heads tails arena same used h = record {
    arena = arena;
    linked = Linked-alike (get a) (get b) heads tails (lists_of a heads) same h.linked;
    count = h.count ∙ sym used;
  }

  -- what is left once an entry was taken out
  pub taken : (n0 n1 : Arena T N) (heads tails heads2 tails2 : List (Option ℕ)) (p : ℕ) →
      Holds n0 heads tails (lists_of n0 heads) → IsSome (find p (lists_of n0 heads))
      → IsArena n1 → Linked (get n1) heads2 tails2 (map (drop_place p) (lists_of n0 heads)) → n1.used + 1 ≡ n0.used →
      Holds n1 heads2 tails2 (map (drop_place p) (lists_of n0 heads))
  taken n0 n1 heads tails heads2 tails2 p old there arena linked used =
      let ls = lists_of n0 heads in
      let i : IsIn p ls = is_in p ls there in record {
        arena = arena;
        linked = linked;
        count = (let x = count-unlink (length heads) ls
            (AreLists-Linked (get n0) heads tails ls (length heads) old.linked refl) p i.value i.stands in
            omega (arith, old.count));
      }

  -- and once it was put at the end of a list
  pub put_back : (n0 n1 : Arena T N) (heads tails heads2 tails2 : List (Option ℕ)) (k p : ℕ) (v : T) →
      Holds n0 heads tails (lists_of n0 heads) → find p (lists_of n0 heads) ≡ Some v → k < length heads
      → IsArena n1 → Linked (get n1) heads2 tails2
      (set (map (drop_place p) (lists_of n0 heads)) k
      (list_at (map (drop_place p) (lists_of n0 heads)) k ++ (p, v) ∷ []))
      → n1.used ≡ n0.used → Holds n1 heads2 tails2 (moved p k (lists_of n0 heads))
  put_back n0 n1 heads tails heads2 tails2 k p v old is lt arena linked used =
      let ls = lists_of n0 heads in
      let within : k < length ls = rw length-map lt in
      let sound = AreLists-Linked (get n0) heads tails ls (length heads) old.linked refl in record {
        arena = arena;
        linked = rw is linked;
        count = rw is (
            let s = count-unlink (length heads) ls sound p v (stands p v ls is) in
            let t = count-link (map (drop_place p) ls) k p v (rw length-map within) in omega (arith, old.count, used));
      }

  pub Holds-write : (nodes after : Arena T N) (heads tails : List (Option ℕ)) (p : ℕ) (w : T) (n : Node T) →
      Holds nodes heads tails (lists_of nodes heads) → get nodes p ≡ Some n
      → IsArena after → get after p ≡ Some (record { value = w; list = n.list; before = n.before; after = n.after }) →
      ((q : ℕ) → q ≢ p → get after q ≡ get nodes q) → after.used ≡ nodes.used
      → Holds after heads tails (map (with_value p w) (lists_of nodes heads))
  Holds-write nodes after heads tails p w n old is arena changed others used = record {
    arena = arena;
    linked = Linked-write (get nodes) (get after) p w n is changed others heads tails (lists_of nodes heads) old.linked;
    count = count-write p w (lists_of nodes heads) ∙ rw used old.count;
  }

  -- what every call tells of the lists
  pub AreLists-Holds : (nodes : Arena T N) (heads tails : List (Option ℕ)) (n : ℕ) →
      Holds nodes heads tails (lists_of nodes heads) → length heads ≡ n → AreLists n (lists_of nodes heads)
  AreLists-Holds nodes heads tails n h e = AreLists-Linked (get nodes) heads tails (lists_of nodes heads) n h.linked e

  pub AreLists-told : {nodes : Arena T N} {heads tails : List (Option ℕ)} {n room span : ℕ} {s : Lists T} →
      ◌≡◌ {A = Lists T} (record { lists = lists_of nodes heads; room = room; span = span }) s
      → Holds nodes heads tails (lists_of nodes heads) → length heads ≡ n → AreLists n s.lists
  AreLists-told {nodes} {heads} {tails} {n} e h told = rw (← e) (AreLists-Holds nodes heads tails n h told)

  pub used_small : (a : Arena T N) → IsArena a → (a.used ≤ a.len) × (a.len < 2 ^ 63)
  used_small a h = (omega (arith, count_by-le-length is_some a.nodes.values, h.used, h.nodes.values_len), h.nodes.small)

  pub lengths_small : (nodes : Arena T N) (heads tails : List (Option ℕ)) →
      Holds nodes heads tails (lists_of nodes heads) → sum_by length (lists_of nodes heads) < 2 ^ 64
  lengths_small nodes heads tails h = let s = used_small nodes h.arena in omega (arith, h.count, s.0, s.1)

-- lists that are all empty
pub none_left : {T : Type 0} (ls : List (List (ℕ × T))) → ((k : ℕ) → k < length ls → list_at ls k ≡ []) →
    sum_by length ls ≡ 0
none_left [] h = refl
none_left (l ∷ ls) h = let e : l ≡ [] = h 0 (omega arith) in
    omega (arith, sum_by-cons length l ls, ap length e, none_left ls (λ k less. h (suc k) (omega (arith, less))))
