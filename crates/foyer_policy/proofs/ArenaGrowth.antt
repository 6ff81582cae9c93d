-- Nodes that move to a greater block: what each step leaves, and what is there in the end.
use Rattle.std.proofs.Common.{◌≡◌, ◌≢◌, ℕ, suc, ◌^◌, ◌<◌, ◌≤◌, Bool, true, false, List, [], ◌∷◌, Option, Some, None, is_some, cond, IsSome, length, get_or, set, replicate, refl, sym, ap, subst, ◌∙◌, arith, ◌⊎◌, inl, inr, length-set, rules}
use Rattle.std.proofs.lemmas.List.{get_or-set_same, get_or-set_other, get_or_past}
use Rattle.std.proofs.lemmas.List.Sums.{sum_by-cons}
use Rattle.foyer_policy.specs.declared.lists.arena.Links.{Links}
use Rattle.foyer_policy.specs.Free.{free_nodes, free_from, free_links, used_of, leads_back, rewritten, AreFree}
use Rattle.foyer_policy.specs.Arena.{moved_links, moved_free, IsMarked, AreMoved, IsLinkedBlock}
use Rattle.foyer_policy.specs.Chain.{is_at}
use Rattle.foyer_policy.proofs.ListsLemmas.{same_or_not, below_or_past}
use Rattle.foyer_policy.proofs.ChainLemmas.{Owned, Owned-first}
use Rattle.foyer_policy.proofs.LinkedLemmas.{not_true}
use Rattle.foyer_policy.proofs.FreeLemmas.{filled_within, used-set, at-rewritten, length-rewritten, free_if_filled, vacant_if_owned, marked-rewritten, marked-back, AreFree-again, AreFree-same, AreFree-put}

some_not_none : {X : Type 0} (o : Option X) → IsSome o → o ≡ None → ⊥
some_not_none None h e = search rules
some_not_none (Some x) h e = absurd cc

pub length-moved : {T : Type 0} (n : ℕ) (l : Option Links) (o : Option T) (p : ℕ) (free : Option ℕ)
    (ls : List (Option Links)) → length (moved_links n l o p free ls) ≡ length ls
length-moved n l None p free ls = length-set (rewritten (leads_back (Some p)) free ls) p (Some (free_links n free))
    ∙ length-rewritten (leads_back (Some p)) free ls
length-moved n l (Some v) p free ls = length-set ls p l

-- values that agree count alike
same-used : {X : Type 0} (xs ys : List (Option X)) → ((q : ℕ) → get_or xs q None ≡ get_or ys q None) → used_of xs
    ≡ used_of ys
same-used [] [] h = refl
same-used {X} [] (y ∷ ys) h = let e : None ≡ y = h 0 in let rest = same-used [] ys (λ q. h (suc q)) in
    rw (← e) (omega (arith, rest, sum_by-cons (λ o. cond (is_some o) 1 0) None ys))
same-used {X} (x ∷ xs) [] h = let e : x ≡ None = h 0 in let rest = same-used xs [] (λ q. h (suc q)) in
    rw e (omega (arith, rest, sum_by-cons (λ o. cond (is_some o) 1 0) None xs))
same-used (x ∷ xs) (y ∷ ys) h = let e : x ≡ y = h 0 in let rest = same-used xs ys (λ q. h (suc q)) in
    rw e (omega
    (arith, rest, sum_by-cons (λ o. cond (is_some o) 1 0) y xs, sum_by-cons (λ o. cond (is_some o) 1 0) y ys))

module _ {T : Type 0} (n : ℕ) (ls : List (Option Links)) (vs0 : List (Option T)) where
  -- one more node moves
  module _ (vs : List (Option T)) (ls1 : List (Option Links)) (vs1 : List (Option T)) (free : Option ℕ) (k : ℕ)
      (old : AreMoved n ls vs0 vs ls1 vs1 free (suc k)) (lt : k < length ls1)
      (was : k < length vs0 → IsMarked n (get_or ls k None) (get_or vs0 k None)) (small : length vs0 ≤ length ls1) where
    abbrev o : Option T
    o = get_or vs k None

    abbrev ls2 : List (Option Links)
    ls2 = moved_links n (get_or ls k None) o k free ls1

    abbrev vs2 : List (Option T)
    vs2 = set vs1 k o

    abbrev fs : List (ℕ × Unit {0})
    fs = free_from ls1 vs1 (length ls1) free

    stays_k : o ≡ get_or vs0 k None
    stays_k = old.stays k (omega arith)

    in_values : k < length vs1
    in_values = omega (arith, lt, old.same_len)

    blank_k : get_or vs1 k None ≡ None
    blank_k = old.blank k (omega arith)

    at_or_past : (q : ℕ) → k ≤ q → (q ≡ k) ⊎ (suc k ≤ q)
    at_or_past q le = go (same_or_not q k) where
      go : (q ≡ k) ⊎ (q ≢ k) → (q ≡ k) ⊎ (suc k ≤ q)
      go (inl e) = inl e
      go (inr ne) = inr (grind arith)

    value_in : (q : ℕ) → k ≤ q → (q ≡ k) ⊎ (suc k ≤ q) → get_or vs2 q None ≡ get_or vs0 q None
    value_in q le (inl e) = rw e (get_or-set_same vs1 k o None in_values ∙ stays_k)
    value_in q le (inr past) = get_or-set_other vs1 k q o None (λ e. omega (arith, past, e)) ∙ old.values q past

    -- the nodes that were moved before, with their values, and whether they are marked
    abbrev front : List (Option Links)
    front = rewritten (leads_back (Some k)) free ls1

    front_len : length front ≡ length ls1
    front_len = length-rewritten (leads_back (Some k)) free ls1

    own_first : Owned (free_nodes ls1 vs1) n free
    own_first = subst (λ (x : Option ℕ). Owned (free_nodes ls1 vs1) n x) (sym old.vacant.first)
        (Owned-first (free_nodes ls1 vs1) n None None fs old.vacant.chain tt)

    bare_k : free_nodes ls1 vs1 k ≡ None
    bare_k = rw (old.bare k (omega arith)) refl

    -- what holds once it moved, where it has this value
    record Moved (p : Option T) : Type 0 where
      pub bare : (q : ℕ) → q < k → get_or (moved_links n (get_or ls k None) p k free ls1) q None ≡ None
      pub linked : (q : ℕ) → suc k ≤ q → IsSome (get_or vs0 q None)
          → get_or (moved_links n (get_or ls k None) p k free ls1) q None ≡ get_or ls1 q None
      pub here : IsSome p → get_or (moved_links n (get_or ls k None) p k free ls1) k None ≡ get_or ls k None
      pub mark_here : IsMarked n (get_or (moved_links n (get_or ls k None) p k free ls1) k None) p
      pub marked : (q : ℕ) → suc k ≤ q → q < length ls1
          → IsMarked n (get_or (moved_links n (get_or ls k None) p k free ls1) q None) (get_or vs1 q None)
      pub list : List (ℕ × Unit {0})
      pub vacant : AreFree n (moved_links n (get_or ls k None) p k free ls1) (set vs1 k p) (moved_free p k free) k list

    freed_by : (p : Option T) → o ≡ p → Moved p
    freed_by None e = record {
      bare = λ q less. get_or-set_other front k q (Some (free_links n free)) None (λ x. omega (arith, less, x))
          ∙ bare_front q less (is_at free q) (at-rewritten (leads_back (Some k)) free ls1 q refl);
      linked = λ q past h. get_or-set_other front k q (Some (free_links n free)) None (λ x. omega (arith, past, x))
          ∙ kept q past h;
      here = λ h. absurd (search rules);
      mark_here = rw (get_or-set_same front k (Some (free_links n free)) None (omega (arith, lt, front_len))) refl;
      marked = λ q past less.
          rw (get_or-set_other front k q (Some (free_links n free)) None (λ x. omega (arith, past, x)))
          (marked-rewritten n (leads_back (Some k)) free ls1 vs1 q refl (marked-back n (Some k))
          (old.marked q past less));
      list = (k, tt) ∷ fs;
      vacant = AreFree-put n ls1 vs1 (set vs1 k None) free k (suc k) k fs old.vacant lt bare_k
          (get_or-set_same vs1 k None None in_values) (λ q ne. get_or-set_other vs1 k q None None ne)
          (λ q le ne. (grind arith)) (length-set vs1 k None)
          (let s = used-set vs1 k None in_values in let t = rw blank_k at s in omega (arith, t));
    } where
      bare_front : (q : ℕ) → q < k → (b : Bool) → get_or front q None
          ≡ cond b (leads_back (Some k) (get_or ls1 q None)) (get_or ls1 q None) → get_or front q None ≡ None
      bare_front q less true x = x ∙ ap (leads_back (Some k)) (old.bare q (omega arith))
      bare_front q less false x = x ∙ old.bare q (omega arith)

      kept : (q : ℕ) → suc k ≤ q → IsSome (get_or vs0 q None) → get_or front q None ≡ get_or ls1 q None
      kept q past h = rw (at-rewritten (leads_back (Some k)) free ls1 q refl, off q past h) refl where
        off : (q : ℕ) → suc k ≤ q → IsSome (get_or vs0 q None) → is_at free q ≡ false
        off q past h = not_true (is_at free q)
            (λ t. some_not_none (get_or vs0 q None) h
            (sym (old.values q past) ∙ vacant_if_owned ls1 vs1 n free own_first q t))
    freed_by (Some v) e =
        let there : get_or vs0 k None ≡ Some v = sym stays_k ∙ e in
        let m = was (filled_within vs0 k v there) in
        let m' = rw there at m in record {
          bare = λ q less. get_or-set_other ls1 k q (get_or ls k None) None (λ x. omega (arith, less, x))
              ∙ old.bare q (omega arith);
          linked = λ q past h. get_or-set_other ls1 k q (get_or ls k None) None (λ x. omega (arith, past, x));
          here = λ h. get_or-set_same ls1 k (get_or ls k None) None lt;
          mark_here = rw (get_or-set_same ls1 k (get_or ls k None) None lt) m';
          marked = λ q past less.
              rw (get_or-set_other ls1 k q (get_or ls k None) None (λ x. omega (arith, past, x)))
              (old.marked q past less);
          list = fs;
          vacant = AreFree-same n ls1 (set ls1 k (get_or ls k None)) vs1 (set vs1 k (Some v)) free (suc k) k fs
              old.vacant
              (λ q. same q (same_or_not q k)) (λ q le less none. vacant q le none (same_or_not q k))
              (length-set vs1 k (Some v))
              (let s = used-set vs1 k (Some v) in_values in let t = rw blank_k at s in omega (arith, t));
        } where
          now : get_or (set vs1 k (Some v)) k None ≡ Some v
          now = get_or-set_same vs1 k (Some v) None in_values

          same : (q : ℕ) → (q ≡ k) ⊎ (q ≢ k)
              → free_nodes (set ls1 k (get_or ls k None)) (set vs1 k (Some v)) q ≡ free_nodes ls1 vs1 q
          same q (inl x) = rw x
              (free_if_filled (get_or (set ls1 k (get_or ls k None)) k None) (get_or (set vs1 k (Some v)) k None) v now
              ∙ sym bare_k)
          same q (inr ne) = rw (
            get_or-set_other ls1 k q (get_or ls k None) None ne,
            get_or-set_other vs1 k q (Some v) None ne,
          ) refl

          vacant : (q : ℕ) → k ≤ q → get_or (set vs1 k (Some v)) q None ≡ None → (q ≡ k) ⊎ (q ≢ k)
              → (suc k ≤ q) × (get_or vs1 q None ≡ None)
          vacant q le none (inl x) =
              let none' : get_or (set vs1 k (Some v)) k None ≡ None =
              subst (λ (j : ℕ). get_or (set vs1 k (Some v)) j None ≡ None) x none in
              absurd (let y : Some v ≡ None = sym now ∙ none' in cc)
          vacant q le none (inr ne) = ((grind arith), sym (get_or-set_other vs1 k q (Some v) None ne) ∙ none)

    pub moved-one : AreMoved n ls vs0 (set vs k None) ls2 vs2 (moved_free o k free) k
    moved-one =
        let m : Moved o = freed_by o refl in
        let len : length ls2 ≡ length ls1 = length-moved n (get_or ls k None) o k free ls1 in
        let len2 : length vs2 ≡ length ls2 = length-set vs1 k o ∙ sym old.same_len ∙ sym len in record {
          stays = λ q less. get_or-set_other vs k q None None (λ e. omega (arith, less, e)) ∙ old.stays q (omega arith);
          gone = λ q past. gone q (at_or_past q past);
          blank = λ q less. get_or-set_other vs1 k q o None (λ e. omega (arith, less, e)) ∙ old.blank q (omega arith);
          bare = m.bare;
          values = λ q past. value_in q past (at_or_past q past);
          links = λ q past h. link_in m q (at_or_past q past) h;
          marked = λ q past less. mark_in m q (at_or_past q past) (omega (arith, less, len));
          same_len = sym len2;
          kept_len = length-set vs k None ∙ old.kept_len;
          vacant = AreFree-again n ls2 vs2 (moved_free o k free) k (length ls2) m.list len2 m.vacant;
        } where
          gone : (q : ℕ) → (q ≡ k) ⊎ (suc k ≤ q) → get_or (set vs k None) q None ≡ None
          gone q (inl e) = rw e (vacated (below_or_past k (length vs)))
            where
              vacated : (k < length vs) ⊎ (length vs ≤ k) → get_or (set vs k None) k None ≡ None
              vacated (inl less) = get_or-set_same vs k None None less
              vacated (inr past) = get_or_past (set vs k None) k None (omega (arith, past, length-set vs k None))
          gone q (inr past) = get_or-set_other vs k q None None (λ e. omega (arith, past, e)) ∙ old.gone q past

          link_in : Moved o → (q : ℕ) → (q ≡ k) ⊎ (suc k ≤ q) → IsSome (get_or vs0 q None)
              → get_or ls2 q None ≡ get_or ls q None
          link_in m q (inl e) h =
              let h' : IsSome o = subst (λ (x : Option T). IsSome x) (sym stays_k)
              (subst (λ (j : ℕ). IsSome (get_or vs0 j None)) e h) in rw e (m.here h')
          link_in m q (inr past) h = m.linked q past h ∙ old.links q past h

          mark_in : Moved o → (q : ℕ) → (q ≡ k) ⊎ (suc k ≤ q) → q < length ls1
              → IsMarked n (get_or ls2 q None) (get_or vs2 q None)
          mark_in m q (inl e) less = rw (e, get_or-set_same vs1 k o None in_values) m.mark_here
          mark_in m q (inr past) less =
              rw (get_or-set_other vs1 k q o None (λ e. omega (arith, past, e))) (m.marked q past less)

  -- all have moved
  module _ (vs : List (Option T)) (ls1 : List (Option Links)) (vs1 : List (Option T)) (free : Option ℕ)
      (done : AreMoved n ls vs0 vs ls1 vs1 free 0) where
    pub moved-block : (len : ℕ) → length ls1 ≡ len → len < 2 ^ 63 → IsLinkedBlock n ls1 vs1 len free
    moved-block len e small = record {
      links_len = e;
      values_len = sym done.same_len ∙ e;
      small = small;
      marked = λ q less. done.marked q (omega arith) (omega (arith, less, e));
      vacant = subst (λ (k : ℕ). AreFree n ls1 vs1 free 0 (free_from ls1 vs1 k free)) e done.vacant;
    }

    pub moved-used : used_of vs1 ≡ used_of vs0
    moved-used = same-used vs1 vs0 (λ q. done.values q (omega arith))

    all-none : {X : Type 0} (xs : List (Option X)) → ((q : ℕ) → get_or xs q None ≡ None) → xs
        ≡ replicate (length xs) None
    all-none [] h = refl
    all-none (x ∷ xs) h = λ i. h 0 i ∷ all-none xs (λ q. h (suc q)) i

    pub moved-empty : vs ≡ replicate (length vs0) None
    moved-empty = all-none vs (λ q. done.gone q (omega arith)) ∙ ap (λ k. replicate k None) done.kept_len
