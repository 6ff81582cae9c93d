-- The free nodes of a block: which they are after a call.
use Rattle.std.proofs.Common.{◌≡◌, ◌≢◌, ℕ, zero, suc, ◌+◌, ◌<◌, ◌≤◌, Bool, true, false, List, [], ◌∷◌, ◌++◌, Option, Some, None, is_some, cond, length, get_or, set, refl, sym, ap, subst, ◌∙◌, arith, ◌⊎◌, inl, inr, length-set}
use Rattle.std.specs.Prelude.{◌==◌}
use Rattle.std.proofs.lemmas.List.{get_or-set_same, get_or-set_other, get_or_past}
use Rattle.std.proofs.lemmas.List.Sums.{sum_by-set}
use Rattle.foyer_policy.specs.declared.lists.arena.Links.{Links}
use Rattle.foyer_policy.specs.Block.{IsFilled}
use Rattle.foyer_policy.specs.Lists.{first_or, last_or, find_in, drop_place, IsFree, IsDistinct}
use Rattle.foyer_policy.specs.Nodes.{Node, IsChain}
use Rattle.foyer_policy.specs.Free.{free_node, free_nodes, free_from, free_links, used_of, leads_back, leads_on, rewritten, put_free, joined, first_beside, HasNeighbours, AreFree}
use Rattle.foyer_policy.specs.Arena.{node_of, node_at, IsMarked}
use Rattle.foyer_policy.specs.Chain.{is_at, after_set, before_set}
use Rattle.foyer_policy.proofs.PlaceLemmas.{same_place, other_place, split, Split, IsDistinct-without, find_in-drop_other, length-drop_place}
use Rattle.foyer_policy.proofs.ListsLemmas.{same_or_not, below_or_past}
use Rattle.foyer_policy.proofs.ChainLemmas.{owner, Owned, Owned-is_at, Owned-first, Owned-last, Relinks, chain-front, chain-same, chain-unlink, walk-chain}
use Rattle.foyer_policy.proofs.LinkedLemmas.{chain-parts, chain-vacant, node-split}

pub filled_within : {X : Type 0} (xs : List (Option X)) (p : ℕ) (x : X) → get_or xs p None ≡ Some x → p < length xs
filled_within [] p x e = absurd cc
filled_within (y ∷ ys) zero x e = omega arith
filled_within (y ∷ ys) (suc p) x e = omega (arith, filled_within ys p x e)

-- a value more or less
pub used-set : {X : Type 0} (vs : List (Option X)) (p : ℕ) (o : Option X) → p < length vs →
    used_of (set vs p o) + cond (is_some (get_or vs p None)) 1 0 ≡ used_of vs + cond (is_some o) 1 0
used-set vs p o lt = sum_by-set (λ o. cond (is_some o) 1 0) vs p o None lt

some_last : {X : Type 0} (xs : List (ℕ × X)) (q : ℕ) → is_some (last_or xs (Some q)) ≡ true
some_last [] q = refl
some_last (e ∷ es) q = some_last es e.0

-- the first of a list without one entry
first-left : {X : Type 0} (xs ys : List (ℕ × X)) (p : ℕ) (v : X) (free : Option ℕ) →
    free ≡ first_or (xs ++ (p, v) ∷ ys) None → cond (is_some (last_or xs None)) free (first_or ys None)
    ≡ first_or (xs ++ ys) None
first-left [] ys p v free e = refl
first-left (x ∷ xs) ys p v free e = rw (some_last xs x.0) e

-- links of which one is written anew
pub at-rewritten : (h : Option Links → Option Links) (at : Option ℕ) (ls : List (Option Links)) (q : ℕ) → h None
    ≡ None → get_or (rewritten h at ls) q None ≡ cond (is_at at q) (h (get_or ls q None)) (get_or ls q None)
at-rewritten h None ls q e = refl
at-rewritten h (Some p) ls q e = go (same_or_not q p) (below_or_past p (length ls)) where
  go : (q ≡ p) ⊎ (q ≢ p) → (p < length ls) ⊎ (length ls ≤ p) → get_or (set ls p (h (get_or ls p None))) q None
      ≡ cond (p == q) (h (get_or ls q None)) (get_or ls q None)
  go (inl same) (inl lt) = rw (same, same_place p) (get_or-set_same ls p (h (get_or ls p None)) None lt)
  go (inl same) (inr past) =
      let out : length (set ls p (h (get_or ls p None))) ≤ p =
      omega (arith, past, length-set ls p (h (get_or ls p None))) in
      rw (same, same_place p)
      (get_or_past (set ls p (h (get_or ls p None))) p None out ∙ sym e ∙ ap h (sym (get_or_past ls p None past)))
  go (inr ne) s = rw (other_place p q (λ x. ne (sym x))) (get_or-set_other ls p q (h (get_or ls p None)) None ne)

pub length-rewritten : (h : Option Links → Option Links) (at : Option ℕ) (ls : List (Option Links)) →
    length (rewritten h at ls) ≡ length ls
length-rewritten h None ls = refl
length-rewritten h (Some p) ls = length-set ls p (h (get_or ls p None))

-- a node that has links keeps some
pub filled-back : (to at : Option ℕ) (ls : List (Option Links)) (q : ℕ) → IsFilled ls q
    → IsFilled (rewritten (leads_back to) at ls) q
filled-back to at ls q h = go (is_at at q) (at-rewritten (leads_back to) at ls q refl) where
  go : (b : Bool) → get_or (rewritten (leads_back to) at ls) q None
      ≡ cond b (leads_back to (get_or ls q None)) (get_or ls q None) → IsFilled (rewritten (leads_back to) at ls) q
  go true e = (record { list = h.0.list; before = to; after = h.0.after }, e ∙ ap (leads_back to) h.1)
  go false e = (h.0, e ∙ h.1)

module _ {T : Type 0} where
  pub free-back : (to : Option ℕ) (l : Option Links) (o : Option T) → free_node (leads_back to l) o
      ≡ before_set to (free_node l o)
  free-back to None o = refl
  free-back to (Some l) None = refl
  free-back to (Some l) (Some v) = refl

  pub free-on : (to : Option ℕ) (l : Option Links) (o : Option T) → free_node (leads_on to l) o
      ≡ after_set to (free_node l o)
  free-on to None o = refl
  free-on to (Some l) None = refl
  free-on to (Some l) (Some v) = refl

  -- a free node has links and no value
  pub owner-vacant : (l : Option Links) (o : Option T) (k : ℕ) → owner (free_node l o) ≡ Some k → o ≡ None
  owner-vacant None o k e = absurd cc
  owner-vacant (Some l) None k e = refl
  owner-vacant (Some l) (Some v) k e = absurd cc

  pub free_if_filled : (l : Option Links) (o : Option T) (v : T) → o ≡ Some v → free_node l o ≡ None
  free_if_filled None o v e = refl
  free_if_filled (Some l) None v e = absurd cc
  free_if_filled (Some l) (Some w) v e = refl

  owner-linked : (l : Option Links) (o : Option T) (k : ℕ) → owner (free_node l o) ≡ Some k → (x : Links) × (l ≡ Some x)
  owner-linked None o k e = absurd cc
  owner-linked (Some l) o k e = (l, refl)

  links-free : (l : Option Links) (o : Option T) (m : Node (Unit {0})) → free_node l o ≡ Some m → l
      ≡ Some (record { list = m.list; before = m.before; after = m.after })
  links-free None o m e = absurd cc
  links-free (Some l) None m e =
      ap (λ (r : Option (Node (Unit {0}))). links_of_free r) e where
        links_of_free : Option (Node (Unit {0})) → Option Links
        links_of_free None = None
        links_of_free (Some r) = Some (record { list = r.list; before = r.before; after = r.after })
  links-free (Some l) (Some v) m e = absurd cc

  pub filled_if_owned : (ls : List (Option Links)) (vs : List (Option T)) (n : ℕ) (at : Option ℕ) →
      Owned (free_nodes ls vs) n at → (q : ℕ) → at ≡ Some q → IsFilled ls q
  filled_if_owned ls vs n None own q e = absurd cc
  filled_if_owned ls vs n (Some p) own q e =
      let same : p ≡ q = cc in
      rw (← same) (owner-linked (get_or ls p None) (get_or vs p None) n own)

  -- the free nodes, once the links of one are written anew
  pub free-rewritten : (h : Option Links → Option Links) (g : Option (Node (Unit {0})) → Option (Node (Unit {0})))
      (at : Option ℕ) (ls : List (Option Links)) (vs : List (Option T)) → h None ≡ None
      → ((l : Option Links) (o : Option T) → free_node (h l) o ≡ g (free_node l o)) → (q : ℕ)
      → free_nodes (rewritten h at ls) vs q ≡ cond (is_at at q) (g (free_nodes ls vs q)) (free_nodes ls vs q)
  free-rewritten h g at ls vs none e q = rw (at-rewritten h at ls q none) (go (is_at at q)) where
    go : (b : Bool) → free_node (cond b (h (get_or ls q None)) (get_or ls q None)) (get_or vs q None)
        ≡ cond b (g (free_nodes ls vs q)) (free_nodes ls vs q)
    go true = e (get_or ls q None) (get_or vs q None)
    go false = refl

  node_none : (l : Option Links) (o : Option T) → o ≡ None → node_of l o ≡ None
  node_none None o e = refl
  node_none (Some l) None e = refl
  node_none (Some l) (Some v) e = absurd cc

  -- the nodes with values, once the links of one without are written anew
  pub node-rewritten : (h : Option Links → Option Links) (at : Option ℕ) (ls : List (Option Links))
      (vs : List (Option T)) → h None ≡ None → ((q : ℕ) → is_at at q ≡ true → get_or vs q None ≡ None) → (q : ℕ)
      → node_at (rewritten h at ls) vs q ≡ node_at ls vs q
  node-rewritten h at ls vs none vacant q = rw (at-rewritten h at ls q none) (go (is_at at q) refl) where
    go : (b : Bool) → is_at at q ≡ b → node_of (cond b (h (get_or ls q None)) (get_or ls q None)) (get_or vs q None)
        ≡ node_at ls vs q
    go true is = node_none (h (get_or ls q None)) (get_or vs q None) (vacant q is)
        ∙ sym (node_none (get_or ls q None) (get_or vs q None) (vacant q is))
    go false is = refl

  pub marked-rewritten : (n : ℕ) (h : Option Links → Option Links) (at : Option ℕ) (ls : List (Option Links))
      (vs : List (Option T)) (q : ℕ) → h None ≡ None
      → ((l : Option Links) (o : Option T) → IsMarked n l o → IsMarked n (h l) o)
      → IsMarked n (get_or ls q None) (get_or vs q None)
      → IsMarked n (get_or (rewritten h at ls) q None) (get_or vs q None)
  marked-rewritten n h at ls vs q none keeps m = rw (at-rewritten h at ls q none) (go (is_at at q)) where
    go : (b : Bool) → IsMarked n (cond b (h (get_or ls q None)) (get_or ls q None)) (get_or vs q None)
    go true = keeps (get_or ls q None) (get_or vs q None) m
    go false = m

  pub marked-back : (n : ℕ) (to : Option ℕ) (l : Option Links) (o : Option T) → IsMarked n l o
      → IsMarked n (leads_back to l) o
  marked-back n to None o m = m
  marked-back n to (Some l) None m = m
  marked-back n to (Some l) (Some v) m = m

  pub marked-on : (n : ℕ) (to : Option ℕ) (l : Option Links) (o : Option T) → IsMarked n l o
      → IsMarked n (leads_on to l) o
  marked-on n to None o m = m
  marked-on n to (Some l) None m = m
  marked-on n to (Some l) (Some v) m = m

  -- a neighbour among the free ones has no value
  pub vacant_if_owned : (ls : List (Option Links)) (vs : List (Option T)) (n : ℕ) (at : Option ℕ) →
      Owned (free_nodes ls vs) n at → (q : ℕ) → is_at at q ≡ true → get_or vs q None ≡ None
  vacant_if_owned ls vs n at own q is =
      owner-vacant (get_or ls q None) (get_or vs q None) n (Owned-is_at (free_nodes ls vs) n q at own is)

  module _ (n : ℕ) where
    -- the free ones are those that a walk finds
    pub AreFree-again : (ls : List (Option Links)) (vs : List (Option T)) (free : Option ℕ) (k len : ℕ)
        (l : List (ℕ × Unit {0})) → length vs ≡ len → AreFree n ls vs free k l
        → AreFree n ls vs free k (free_from ls vs len free)
    AreFree-again ls vs free k len l e a =
        let same : free_from ls vs len free ≡ l = rw a.first
        (walk-chain (free_nodes ls vs) n len None l a.chain (omega (arith, a.count))) in rw same a

    -- the first of them has links
    pub first_filled : (ls : List (Option Links)) (vs : List (Option T)) (free : Option ℕ) (k : ℕ)
        (l : List (ℕ × Unit {0})) → AreFree n ls vs free k l → (q : ℕ) → free ≡ Some q → IsFilled ls q
    first_filled ls vs free k l a q e = filled_if_owned ls vs n (first_or l None)
        (Owned-first (free_nodes ls vs) n None None l a.chain tt) q (sym a.first ∙ e)

    -- only the nodes without a value count
    pub AreFree-same : (ls ms : List (Option Links)) (vs ws : List (Option T)) (free : Option ℕ) (j k : ℕ)
        (l : List (ℕ × Unit {0})) → AreFree n ls vs free j l
        → ((q : ℕ) → free_nodes ms ws q ≡ free_nodes ls vs q)
        → ((q : ℕ) → k ≤ q → q < length ws → get_or ws q None ≡ None → (j ≤ q) × (get_or vs q None ≡ None))
        → length ws ≡ length vs → used_of ws + k ≡ used_of vs + j → AreFree n ms ws free k l
    AreFree-same ls ms vs ws free j k l a same vacant len used = record {
      first = a.first;
      chain = chain-same (free_nodes ls vs) (free_nodes ms ws) n None None l (λ q o there. same q) a.chain;
      once = a.once;
      every = λ q le lt none. let v = vacant q le lt none in a.every q v.0 (omega (arith, lt, len)) v.1;
      count = omega (arith, a.count, used, len);
    }

    -- a node that was not among them comes in at the front
    pub AreFree-put : (ls : List (Option Links)) (vs ws : List (Option T)) (free : Option ℕ) (p j k : ℕ)
        (l : List (ℕ × Unit {0})) → AreFree n ls vs free j l → p < length ls → free_nodes ls vs p ≡ None
        → get_or ws p None ≡ None → ((q : ℕ) → q ≢ p → get_or ws q None ≡ get_or vs q None)
        → ((q : ℕ) → k ≤ q → q ≢ p → j ≤ q) → length ws ≡ length vs → used_of ws + k + 1 ≡ used_of vs + j
        → AreFree n (put_free n p free ls) ws (Some p) k ((p, tt) ∷ l)
    AreFree-put ls vs ws free p j k l a lt vacant here others from len used = record {
      first = refl;
      chain = chain-front (free_nodes ls vs) (free_nodes (put_free n p free ls) ws) n p tt l a.chain a.once off link
          put;
      once = (off, a.once);
      every = λ q le less none. found q le less none (same_or_not q p);
      count = omega (arith, a.count, used, len);
    } where
      off : IsFree p l
      off = chain-vacant (free_nodes ls vs) n p None None l a.chain vacant

      put : free_nodes (put_free n p free ls) ws p
          ≡ Some (record { value = tt; list = n; before = None; after = first_or l None })
      put = rw (
        get_or-set_same (rewritten (leads_back (Some p)) free ls) p (Some (free_links n free)) None
            (omega (arith, lt, length-rewritten (leads_back (Some p)) free ls)),
        here,
        a.first,
      ) refl

      link : (q : ℕ) → q ≢ p → free_nodes (put_free n p free ls) ws q
          ≡ cond (is_at (first_or l None) q) (before_set (Some p) (free_nodes ls vs q)) (free_nodes ls vs q)
      link q ne = subst
          (λ (x : Option ℕ). free_nodes (put_free n p free ls) ws q
          ≡ cond (is_at x q) (before_set (Some p) (free_nodes ls vs q)) (free_nodes ls vs q)) a.first
          (rw (
            get_or-set_other (rewritten (leads_back (Some p)) free ls) p q (Some (free_links n free)) None ne,
            others q ne,
          ) (free-rewritten (leads_back (Some p)) (before_set (Some p)) free ls vs refl (free-back (Some p)) q))

      found : (q : ℕ) → k ≤ q → q < length ws → get_or ws q None ≡ None → (q ≡ p) ⊎ (q ≢ p) → find_in q ((p, tt) ∷ l)
          ≡ Some tt
      found q le less none (inl e) = rw (e, same_place p) refl
      found q le less none (inr ne) =
          rw (other_place p q (λ x. ne (sym x)))
          (a.every q (from q le ne) (omega (arith, less, len)) (sym (others q ne) ∙ none))

    -- one of them is taken out
    module _ (ls : List (Option Links)) (vs : List (Option T)) (free : Option ℕ) (p : ℕ) (l : List (ℕ × Unit {0}))
        (a : AreFree n ls vs free 0 l) (lt : p < length vs) (vacant : get_or vs p None ≡ None) where
      found-here : find_in p l ≡ Some tt
      found-here = a.every p (omega arith) lt vacant

      pub here : Split p tt l
      here = split p tt l found-here

      abbrev before : Option ℕ
      before = last_or here.front None

      abbrev after : Option ℕ
      after = first_or here.back None

      chain-here : IsChain (free_nodes ls vs) n None (here.front ++ (p, tt) ∷ here.back) None
      chain-here = subst (λ (r : List (ℕ × Unit {0})). IsChain (free_nodes ls vs) n None r None) here.is a.chain

      once-here : IsDistinct (here.front ++ (p, tt) ∷ here.back)
      once-here = subst (λ (r : List (ℕ × Unit {0})). IsDistinct r) here.is a.once

      pub links-here : get_or ls p None ≡ Some (record { list = n; before = before; after = after })
      links-here = links-free (get_or ls p None) (get_or vs p None)
          (record { value = tt; list = n; before = before; after = after })
          (node-split (free_nodes ls vs) n p tt None None here.front here.back chain-here)

      own-before : Owned (free_nodes ls vs) n before
      own-before = Owned-last (free_nodes ls vs) n None (Some p) here.front
          (chain-parts (free_nodes ls vs) n p tt None None here.front here.back chain-here).0 tt

      own-after : Owned (free_nodes ls vs) n after
      own-after = Owned-first (free_nodes ls vs) n (Some p) None here.back
          (chain-parts (free_nodes ls vs) n p tt None None here.front here.back chain-here).1 tt

      pub has_neighbours : HasNeighbours ls (get_or ls p None)
      has_neighbours = rw links-here
          (filled_if_owned ls vs n before own-before, filled_if_owned ls vs n after own-after)

      -- the links that are left
      abbrev behind : List (Option Links)
      behind = rewritten (leads_back before) after ls

      abbrev left : List (Option Links)
      left = rewritten (leads_on after) before behind

      pub left-is : joined (get_or ls p None) ls ≡ left
      left-is = rw links-here refl

      pub length-left : length (joined (get_or ls p None) ls) ≡ length ls
      length-left = ap length left-is ∙ length-rewritten (leads_on after) before behind
          ∙ length-rewritten (leads_back before) after ls

      pub node-left : (q : ℕ) → node_at (joined (get_or ls p None) ls) vs q ≡ node_at ls vs q
      node-left q = ap (λ (ms : List (Option Links)). node_at ms vs q) left-is
          ∙ node-rewritten (leads_on after) before behind vs refl (vacant_if_owned ls vs n before own-before) q
          ∙ node-rewritten (leads_back before) after ls vs refl (vacant_if_owned ls vs n after own-after) q

      pub marked-left : (q : ℕ) → IsMarked n (get_or ls q None) (get_or vs q None)
          → IsMarked n (get_or (joined (get_or ls p None) ls) q None) (get_or vs q None)
      marked-left q m = rw left-is
          (marked-rewritten n (leads_on after) before behind vs q refl (marked-on n after)
          (marked-rewritten n (leads_back before) after ls vs q refl (marked-back n before) m))

      free-left : (q : ℕ) → free_nodes left vs q
          ≡ cond (is_at before q)
          (after_set after (cond (is_at after q) (before_set before (free_nodes ls vs q)) (free_nodes ls vs q)))
          (cond (is_at after q) (before_set before (free_nodes ls vs q)) (free_nodes ls vs q))
      free-left q = free-rewritten (leads_on after) (after_set after) before behind vs refl (free-on after) q
          ∙ ap (λ (o : Option (Node (Unit {0}))). cond (is_at before q) (after_set after o) o)
          (free-rewritten (leads_back before) (before_set before) after ls vs refl (free-back before) q)

      module _ (x : Links) (v : T) where
        abbrev ms : List (Option Links)
        ms = set (joined (get_or ls p None) ls) p (Some x)

        abbrev ws : List (Option T)
        ws = set vs p (Some v)

        free-taken : (q : ℕ) → q ≢ p → free_nodes ms ws q ≡ free_nodes left vs q
        free-taken q ne = rw (
          get_or-set_other (joined (get_or ls p None) ls) p q (Some x) None ne,
          get_or-set_other vs p q (Some v) None ne,
          left-is,
        ) refl

        relinks : Relinks (free_nodes ls vs) (free_nodes ms ws) p before after
        relinks = record {
          others = λ q ne b c. free-taken q ne ∙ free-left q ∙ rw (b, c) refl;
          at_before = λ q ne b c. free-taken q ne ∙ free-left q ∙ rw (b, c) refl;
          at_after = λ q ne c b. free-taken q ne ∙ free-left q ∙ rw (b, c) refl;
        }

        chain-left : IsChain (free_nodes ms ws) n None (here.front ++ here.back) None
        chain-left = chain-unlink (free_nodes ls vs) (free_nodes ms ws) n p tt None None here.front here.back relinks
            once-here tt tt chain-here

        found-left : (q : ℕ) → q < length ws → get_or ws q None ≡ None → (q ≡ p) ⊎ (q ≢ p)
            → find_in q (drop_place p l) ≡ Some tt
        found-left q less none (inl e) =
            let filled : get_or ws p None ≡ Some v = get_or-set_same vs p (Some v) None lt in
            let none' : get_or ws p None ≡ None = subst (λ (k : ℕ). get_or ws k None ≡ None) e none in
            absurd (let y : Some v ≡ None = sym filled ∙ none' in cc)
        found-left q less none (inr ne) = find_in-drop_other q p l (λ y. ne (sym y))
            ∙ a.every q (omega arith) (omega (arith, less, length-set vs p (Some v)))
            (sym (get_or-set_other vs p q (Some v) None ne) ∙ none)

        pub AreFree-taken : AreFree n ms ws (first_beside (get_or ls p None) free) 0 (drop_place p l)
        AreFree-taken = record {
          first = rw (links-here, here.without) (first-left here.front here.back p tt free (a.first
              ∙ ap (λ (r : List (ℕ × Unit {0})). first_or r None) here.is));
          chain = rw here.without chain-left;
          once = rw here.without (IsDistinct-without p tt here.front here.back once-here);
          every = λ q le less none. found-left q less none (same_or_not q p);
          count = omega (arith, a.count, length-drop_place p tt l found-here, used, length-set vs p (Some v));
        } where
          used : used_of ws ≡ used_of vs + 1
          used = (let s = used-set vs p (Some v) lt in let t = rw vacant at s in omega (arith, t))
