-- Linked nodes as lists: what relinking one of them leaves.
use Rattle.std.proofs.Common.{◌≡◌, ◌≢◌, ℕ, ◌+◌, ◌<◌, Bool, true, false, cond, List, [], ◌∷◌, ◌++◌, Option, Some, None, length, map, get_or, set, refl, sym, ◌∙◌, ap, arith, subst, ◌⊎◌, inl, inr, length-set, length-append, append_assoc, sum_by, IsSome, rules}
use Rattle.std.specs.Prelude.{◌==◌}
use Rattle.std.proofs.lemmas.List.{get_or-set_same, get_or-set_other, set-get_or}
use Rattle.std.proofs.lemmas.List.Sums.{sum_by-set}
use Rattle.foyer_policy.specs.Nodes.{Node, IsChain}
use Rattle.foyer_policy.specs.Arena.{value_of}
use Rattle.foyer_policy.specs.Lists.{list_at, first_or, last_or, find_in, find, first_entry, rest, drop_place, IsFree, IsDistinct, AreLists}
use Rattle.foyer_policy.specs.Chain.{IsList, Linked, is_at, after_set, before_set, end_set, all_but}
use Rattle.foyer_policy.proofs.PlaceLemmas.{place_is, place_differs, IsDistinct-snoc, IsDistinct-mid, IsDistinct-without}
use Rattle.foyer_policy.proofs.ListsLemmas.{same_or_not, Stands, stands, find-mid, within_if_found, first_found, drop-all, pop-some}
use Rattle.foyer_policy.proofs.ChainLemmas.{is_at-last, is_at-first, is_at-same, owner, Owned, Owned-is_at, Owned-last, Owned-first, Keeps, chain-frame, Relinks, LinksBack, chain-unlink, chain-link, last_or-append, all_but-same, all_but-other}

pub not_true : (b : Bool) → (b ≡ true → ⊥) → b ≡ false
not_true true h = absurd (h refl)
not_true false h = refl

module _ {T : Type 0} where
  pub owner-find_in : (f : ℕ → Option (Node T)) (k p : ℕ) (v : T) (b a : Option ℕ) (l : List (ℕ × T)) →
      IsChain f k b l a → find_in p l ≡ Some v → owner (f p) ≡ Some k
  owner-find_in f k p v b a [] c h = absurd cc
  owner-find_in f k p v b a (e ∷ es) c h = go (e.0 == p) refl (owner-find_in f k p v (Some e.0) a es c.1) where
    go : (t : Bool) → (e.0 == p) ≡ t → (find_in p es ≡ Some v → owner (f p) ≡ Some k) → owner (f p) ≡ Some k
    go true is rec = let q : e.0 ≡ p = place_is e.0 p is in rw (← q) (ap owner c.0)
    go false is rec = rec (rw is at h)

  -- the node of an entry
  pub node-split : (f : ℕ → Option (Node T)) (k p : ℕ) (v : T) (b a : Option ℕ) (xs ys : List (ℕ × T)) →
      IsChain f k b (xs ++ (p, v) ∷ ys) a
      → f p ≡ Some (record { value = v; list = k; before = last_or xs b; after = first_or ys a })
  node-split f k p v b a [] ys c = c.0
  node-split f k p v b a (e ∷ es) ys c = node-split f k p v (Some e.0) a es ys c.1

  pub first_or-mid : (p : ℕ) (v : T) (xs ys : List (ℕ × T)) (a : Option ℕ) → first_or (xs ++ (p, v) ∷ ys) a
      ≡ first_or xs (Some p)
  first_or-mid p v [] ys a = refl
  first_or-mid p v (e ∷ es) ys a = refl

  pub chain-parts : (f : ℕ → Option (Node T)) (k p : ℕ) (v : T) (b a : Option ℕ) (xs ys : List (ℕ × T)) →
      IsChain f k b (xs ++ (p, v) ∷ ys) a
      → IsChain f k b xs (Some p) × IsChain f k (Some p) ys a
  chain-parts f k p v b a [] ys c = (tt, c.1)
  chain-parts f k p v b a (e ∷ es) ys c =
      let r = chain-parts f k p v (Some e.0) a es ys c.1 in (
        (
          c.0 ∙ ap (λ (x : Option ℕ). Some (record { value = e.1; list = k; before = b; after = x }))
              (first_or-mid p v es ys a),
          r.0,
        ),
        r.1,
      )

  -- one list changes, and the nodes of the others stay
  pub Linked-set : (f g : ℕ → Option (Node T)) (heads tails : List (Option ℕ)) (ls : List (List (ℕ × T))) (k : ℕ)
      (h t : Option ℕ) (l : List (ℕ × T))
      → Linked f heads tails ls → k < length ls → Keeps f g k → IsList g k h t l → IsDistinct l →
      Linked g (set heads k h) (set tails k t) (set ls k l)
  Linked-set f g heads tails ls k h t l old lt keep new d = record {
    heads_len = rw (length-set, length-set) old.heads_len;
    tails_len = rw (length-set, length-set) old.tails_len;
    each = λ j less. each j (rw length-set at less) (same_or_not j k);
    distinct = λ j less. apart j (rw length-set at less) (same_or_not j k);
  } where
    each : (j : ℕ) → j < length ls → (j ≡ k) ⊎ (j ≢ k) →
        IsList g j (get_or (set heads k h) j None) (get_or (set tails k t) j None) (get_or (set ls k l) j [])
    each j less (inl e) =
        let a : k < length heads = omega (arith, old.heads_len) in
        let b : k < length tails = omega (arith, old.tails_len) in
        rw (e, get_or-set_same heads k h None a, get_or-set_same tails k t None b, get_or-set_same ls k l [] lt) new
    each j less (inr ne) =
        let o = old.each j less in
        rw (get_or-set_other heads k j h None ne, get_or-set_other tails k j t None ne, get_or-set_other ls k j l [] ne)
        record { head = o.head; tail = o.tail; chain = chain-frame f g k j None None (list_at ls j) keep ne o.chain }

    apart : (j : ℕ) → j < length ls → (j ≡ k) ⊎ (j ≢ k) → IsDistinct (get_or (set ls k l) j [])
    apart j less (inl e) = rw (e, get_or-set_same ls k l [] lt) d
    apart j less (inr ne) = rw (get_or-set_other ls k j l [] ne) (old.distinct j less)

  chain-without : (f : ℕ → Option (Node T)) (j k p : ℕ) (b a : Option ℕ) (l : List (ℕ × T)) → IsChain f k b l a →
      owner (f p) ≡ Some j → j ≢ k → IsFree p l
  chain-without f j k p b a [] c o ne = tt
  chain-without f j k p b a (e ∷ es) c o ne = (
    (λ q. ne (let x : owner (f p) ≡ Some k = rw (← q) (ap owner c.0) in cc)),
    chain-without f j k p (Some e.0) a es c.1 o ne,
  )

  pub AreLists-Linked : (f : ℕ → Option (Node T)) (heads tails : List (Option ℕ)) (ls : List (List (ℕ × T))) (n : ℕ) →
      Linked f heads tails ls → length heads ≡ n → AreLists n ls
  AreLists-Linked f heads tails ls n old h = record {
    count = sym old.heads_len ∙ h;
    within = old.distinct;
    between = λ j k p v lj lk ne fi. chain-without f j k p None None (list_at ls k) (old.each k lk).chain
        (owner-find_in f j p v None None (list_at ls j) (old.each j lj).chain fi) ne;
  }

  -- where an entry stands, and its node
  pub record Found (f : ℕ → Option (Node T)) (p : ℕ) (v : T) (ls : List (List (ℕ × T))) : Type 0 where
    pub at : Stands p v ls
    pub node : f p ≡ Some
        (record { value = v; list = at.list; before = last_or at.front None; after = first_or at.back None })

  pub found : (f : ℕ → Option (Node T)) (heads tails : List (Option ℕ)) (ls : List (List (ℕ × T))) (p : ℕ) (v : T) →
      Linked f heads tails ls → find p ls ≡ Some v → Found f p v ls
  found f heads tails ls p v old h =
      let s : Stands p v ls = stands p v ls h in
      let c : IsChain f s.list None (list_at ls s.list) None = (old.each s.list s.within).chain in
      record { at = s; node = node-split f s.list p v None None s.front s.back (rw s.is at c) }

  pub Keeps-Relinks : (f g : ℕ → Option (Node T)) (k p : ℕ) (nb na : Option ℕ) → Relinks f g p nb na → owner (f p)
      ≡ Some k → Owned f k nb → Owned f k na → Keeps f g k
  Keeps-Relinks f g k p nb na r o ob oa j q ne oj =
      r.others q (λ e. ne (let x : owner (f p) ≡ Some j = rw e at oj in cc))
      (not_true (is_at nb q) (λ t. ne (let x : owner (f q) ≡ Some k = Owned-is_at f k q nb ob t in cc)))
      (not_true (is_at na q) (λ t. ne (let x : owner (f q) ≡ Some k = Owned-is_at f k q na oa t in cc)))

  pub end_set-last : (l : List (ℕ × T)) (x k : ℕ) (to : Option ℕ) (ends : List (Option ℕ)) →
      end_set (last_or l (Some x)) k to ends ≡ ends
  end_set-last [] x k to ends = refl
  end_set-last (e ∷ es) x k to ends = end_set-last es e.0 k to ends

  pub heads-unlink : (xs ys : List (ℕ × T)) (p k : ℕ) (v : T) (heads : List (Option ℕ)) → get_or heads k None
      ≡ first_or (xs ++ (p, v) ∷ ys) None
      → end_set (last_or xs None) k (first_or ys None) heads ≡ set heads k (first_or (xs ++ ys) None)
  heads-unlink [] ys p k v heads h = refl
  heads-unlink (e ∷ es) ys p k v heads h = end_set-last es e.0 k (first_or ys None) heads
      ∙ sym (set-get_or heads k None) ∙ ap (set heads k) h

  pub tails-unlink : (xs ys : List (ℕ × T)) (p k : ℕ) (v : T) (tails : List (Option ℕ)) → get_or tails k None
      ≡ last_or (xs ++ (p, v) ∷ ys) None
      → end_set (first_or ys None) k (last_or xs None) tails ≡ set tails k (last_or (xs ++ ys) None)
  tails-unlink xs [] p k v tails h = ap (set tails k) (sym (last_or-append xs [] None))
  tails-unlink xs (y ∷ ys) p k v tails h = sym (set-get_or tails k None)
      ∙ ap (set tails k) (h ∙ last_or-append xs ((p, v) ∷ y ∷ ys) None ∙ sym (last_or-append xs (y ∷ ys) None))

  -- an entry is taken out of its list
  pub Linked-unlink : (f g : ℕ → Option (Node T)) (heads tails : List (Option ℕ)) (ls : List (List (ℕ × T))) (p : ℕ)
      (v : T) → Linked f heads tails ls → (s : Stands p v ls) → owner (f p) ≡ Some s.list
      → Relinks f g p (last_or s.front None) (first_or s.back None)
      → Linked g (end_set (last_or s.front None) s.list (first_or s.back None) heads)
      (end_set (first_or s.back None) s.list (last_or s.front None) tails) (map (drop_place p) ls)
  Linked-unlink f g heads tails ls p v old s own r =
      let o : IsList f s.list (get_or heads s.list None) (get_or tails s.list None) (list_at ls s.list) =
      old.each s.list s.within in
      let oc : IsChain f s.list None (list_at ls s.list) None = o.chain in
      let oh : get_or heads s.list None ≡ first_or (list_at ls s.list) None = o.head in
      let ot : get_or tails s.list None ≡ last_or (list_at ls s.list) None = o.tail in
      let od : IsDistinct (list_at ls s.list) = old.distinct s.list s.within in
      let c : IsChain f s.list None (s.front ++ (p, v) ∷ s.back) None = rw s.is at oc in
      let d : IsDistinct (s.front ++ (p, v) ∷ s.back) = rw s.is at od in
      let parts = chain-parts f s.list p v None None s.front s.back c in
      let keep : Keeps f g s.list = Keeps-Relinks f g s.list p (last_or s.front None) (first_or s.back None) r own
      (Owned-last f s.list None (Some p) s.front parts.0 tt) (Owned-first f s.list (Some p) None s.back parts.1 tt) in
      rw (
        heads-unlink s.front s.back p s.list v heads (oh ∙ ap (λ l. first_or l None) s.is),
        tails-unlink s.front s.back p s.list v tails (ot ∙ ap (λ l. last_or l None) s.is),
        drop-all (length ls) ls (AreLists-Linked f heads tails ls (length ls) old old.heads_len) s.list p v s.front
            s.back s.is,
      )
      (Linked-set f g heads tails ls s.list (first_or (s.front ++ s.back) None) (last_or (s.front ++ s.back) None)
      (s.front ++ s.back) old s.within keep
      record { head = refl; tail = refl; chain = chain-unlink f g s.list p v None None s.front s.back r d tt tt c }
      (IsDistinct-without p v s.front s.back d))

  pub chain-vacant : (f : ℕ → Option (Node T)) (j p : ℕ) (b a : Option ℕ) (l : List (ℕ × T)) → IsChain f j b l a → f p
      ≡ None → IsFree p l
  chain-vacant f j p b a [] c n = tt
  chain-vacant f j p b a (e ∷ es) c n = (
    (λ q. let x : f p ≡ Some (record { value = e.1; list = j; before = b; after = first_or es a }) =
        rw (← q) c.0 in cc),
    chain-vacant f j p (Some e.0) a es c.1 n,
  )

  pub heads-link : (l : List (ℕ × T)) (p k : ℕ) (v : T) (heads : List (Option ℕ)) → get_or heads k None
      ≡ first_or l None
      → end_set (last_or l None) k (Some p) heads ≡ set heads k (first_or (l ++ (p, v) ∷ []) None)
  heads-link [] p k v heads h = refl
  heads-link (e ∷ es) p k v heads h = end_set-last es e.0 k (Some p) heads ∙ sym (set-get_or heads k None)
      ∙ ap (set heads k) h

  -- a value is put at the end of a list
  pub Linked-link : (f g : ℕ → Option (Node T)) (heads tails : List (Option ℕ)) (ls : List (List (ℕ × T))) (k p : ℕ)
      (v : T) → Linked f heads tails ls → k < length ls
      → f p ≡ None → LinksBack f g p (get_or tails k None) → g p
      ≡ Some (record { value = v; list = k; before = get_or tails k None; after = None })
      → Linked g (end_set (get_or tails k None) k (Some p) heads) (set tails k (Some p))
      (set ls k (list_at ls k ++ (p, v) ∷ []))
  Linked-link f g heads tails ls k p v old lt free r n =
      let l = list_at ls k in
      let o : IsList f k (get_or heads k None) (get_or tails k None) l = old.each k lt in
      let ot : get_or tails k None ≡ last_or l None = o.tail in
      let r' : LinksBack f g p (last_or l None) = rw ot at r in
      let n' : g p ≡ Some (record { value = v; list = k; before = last_or l None; after = None }) = rw ot at n in
      let d : IsDistinct l = old.distinct k lt in
      let h : IsFree p l = chain-vacant f k p None None l o.chain free in
      let own : Owned f k (last_or l None) = Owned-last f k None None l o.chain tt in
      let keep : Keeps f g k =
      (λ j q ne oj. r'.others q
      (λ e. (let x : owner (f p) ≡ Some j = rw e at oj in let y : owner (f p) ≡ None = ap owner free in cc))
      (not_true (is_at (last_or l None) q)
      (λ t. ne (let x : owner (f q) ≡ Some k = Owned-is_at f k q (last_or l None) own t in cc)))) in
      rw (ot, heads-link l p k v heads o.head)
      (Linked-set f g heads tails ls k (first_or (l ++ (p, v) ∷ []) None) (Some p) (l ++ (p, v) ∷ []) old lt keep
      record {
        head = refl;
        tail = sym (last_or-append l ((p, v) ∷ []) None);
        chain =
            chain-link f g k p v None l r' n' d h o.chain;
      }
      (IsDistinct-snoc p v l d h))

  -- a node that stood in no list is put at the end of one
  pub Linked-back : (f g : ℕ → Option (Node T)) (heads tails : List (Option ℕ)) (ls : List (List (ℕ × T))) (k p : ℕ)
      (v : T) → Linked (all_but p f) heads tails ls → k < length ls
      → ((q : ℕ) → q ≢ p → g q ≡ cond (is_at (get_or tails k None) q) (after_set (Some p) (f q)) (f q)) → g p
      ≡ Some (record { value = v; list = k; before = get_or tails k None; after = None })
      → Linked g (end_set (get_or tails k None) k (Some p) heads) (set tails k (Some p))
      (set ls k (list_at ls k ++ (p, v) ∷ []))
  Linked-back f g heads tails ls k p v old lt others n =
      Linked-link (all_but p f) g heads tails ls k p v old lt (all_but-same p f)
      record {
        others = λ q ne is. others q ne ∙ rw is (sym (all_but-other p q f ne));
        at_before = λ q ne is. others q ne ∙ rw is (ap (after_set (Some p)) (sym (all_but-other p q f ne)));
      } n

  -- the nodes alone count
  pub Linked-alike : (f g : ℕ → Option (Node T)) (heads tails : List (Option ℕ)) (ls : List (List (ℕ × T))) →
      ((q : ℕ) → g q ≡ f q) → Linked f heads tails ls → Linked g heads tails ls
  Linked-alike f g heads tails ls e l = let same : f ≡ g = λ i q. sym (e q) i in
      subst (λ (x : ℕ → Option (Node T)). Linked x heads tails ls) same l

  -- a node went
  pub all_but-gone : (f g : ℕ → Option (Node T)) (p : ℕ) → g p ≡ None → ((q : ℕ) → q ≢ p → g q ≡ f q) → (q : ℕ) → g q
      ≡ all_but p f q
  all_but-gone f g p is others q = go (q == p) refl where
    go : (b : Bool) → (q == p) ≡ b → g q ≡ cond b None (f q)
    go true e = ap g (place_is q p e) ∙ is
    go false e = others q (place_differs q p e)

  pub some_owner : (o : Option (Node T)) (k : ℕ) → owner o ≡ Some k → IsSome o
  some_owner None k h = absurd cc
  some_owner (Some n) k h = search rules

  pub Owned-tail : (f : ℕ → Option (Node T)) (heads tails : List (Option ℕ)) (ls : List (List (ℕ × T))) (k : ℕ) →
      Linked f heads tails ls → k < length ls → Owned f k (get_or tails k None)
  Owned-tail f heads tails ls k old lt =
      let o : IsList f k (get_or heads k None) (get_or tails k None) (list_at ls k) = old.each k lt in
      let w : Owned f k (last_or (list_at ls k) None) = Owned-last f k None None (list_at ls k) o.chain tt in
      rw o.tail w

  -- nothing is found at a vacant place
  pub find-vacant : (f : ℕ → Option (Node T)) (heads tails : List (Option ℕ)) (ls : List (List (ℕ × T))) (p : ℕ) →
      Linked f heads tails ls → f p ≡ None → find p ls ≡ None
  find-vacant f heads tails ls p old h = go (find p ls) refl where
    go : (o : Option T) → find p ls ≡ o → find p ls ≡ None
    go None e = e
    go (Some v) e = let s : Found f p v ls = found f heads tails ls p v old e in let n = s.node in absurd cc

  -- a node, and where its entry stands
  pub record FoundNode (f : ℕ → Option (Node T)) (p : ℕ) (node : Node T) (ls : List (List (ℕ × T))) : Type 0 where
    pub at : Stands p node.value ls
    pub list_is : node.list ≡ at.list
    pub before_is : node.before ≡ last_or at.front None
    pub after_is : node.after ≡ first_or at.back None
    pub find_is : find p ls ≡ Some node.value

  pub found_node : (f : ℕ → Option (Node T)) (heads tails : List (Option ℕ)) (ls : List (List (ℕ × T))) (p : ℕ)
      (node : Node T) → Linked f heads tails ls → IsSome (find p ls) → f p ≡ Some node → FoundNode f p node ls
  found_node f heads tails ls p node old there is = go (find p ls) refl there where
    go : (o : Option T) → find p ls ≡ o → IsSome o → FoundNode f p node ls
    go None e h = absurd (search rules)
    go (Some v) e h =
        let s0 : Found f p v ls = found f heads tails ls p v old e in
        let n0 = s0.node in
        let x : v ≡ node.value = cc in
        let e' : find p ls ≡ Some node.value = e ∙ ap Some x in
        let s : Found f p node.value ls = found f heads tails ls p node.value old e' in
        let n = s.node in
        let b : Node T =
        record {
          value = node.value;
          list = s.at.list;
          before = last_or s.at.front None;
          after =
              first_or s.at.back None;
        } in
        let w : node ≡ b = cc in
        record {
          at = s.at;
          list_is = ap (λ (m : Node T). m.list) {y = b} w;
          before_is =
              ap (λ (m : Node T). m.before) {y = b} w;
          after_is = ap (λ (m : Node T). m.after) {y = b} w;
          find_is = e';
        }

  -- the front of a list
  pub record Front (ls : List (List (ℕ × T))) (k p : ℕ) : Type 0 where
    pub value : T
    pub there : find p ls ≡ Some value
    pub first : first_entry (list_at ls k) ≡ Some (p, value)
    pub gone : map (drop_place p) ls ≡ set ls k (rest (list_at ls k))

  pub front_found : (f : ℕ → Option (Node T)) (heads tails : List (Option ℕ)) (ls : List (List (ℕ × T))) (k p : ℕ) →
      Linked f heads tails ls → k < length ls → get_or heads k None ≡ Some p → Front ls k p
  front_found f heads tails ls k p old lt h = go (list_at ls k) refl where
    sound : AreLists (length heads) ls
    sound = AreLists-Linked f heads tails ls (length heads) old refl

    go : (l : List (ℕ × T)) → list_at ls k ≡ l → Front ls k p
    go [] e = (let x = (old.each k lt).head in let y : first_or (list_at ls k) None ≡ None = rw e refl in absurd cc)
    go (x ∷ xs) e =
        let hd = (old.each k lt).head in
        let y : first_or (list_at ls k) None ≡ Some x.0 = rw e refl in
        let q : x.0 ≡ p = cc in
        record {
          value = x.1;
          there = rw (← q) (find-mid (length heads) ls sound k x.0 x.1 [] xs e);
          first = rw e (ap (λ (q : ℕ). Some (q, x.1)) q);
          gone = rw (← q) (sym (pop-some (length heads) ls sound k x.0 x.1 xs e));
        }

  -- what stands after a node
  pub after-node : (f : ℕ → Option (Node T)) (heads tails : List (Option ℕ)) (ls : List (List (ℕ × T))) (k p : ℕ)
      (v : T) (xs ys : List (ℕ × T)) (node : Node T) → Linked f heads tails ls
      → list_at ls k ≡ xs ++ (p, v) ∷ ys → f p ≡ Some node → node.after ≡ first_or ys None
  after-node f heads tails ls k p v xs ys node old e is =
      let c : IsChain f k None (list_at ls k) None = (old.each k (within_if_found ls k (p, v) xs ys e)).chain in
      let c' : IsChain f k None (xs ++ (p, v) ∷ ys) None = rw e at c in
      let n : f p ≡ Some (record { value = v; list = k; before = last_or xs None; after = first_or ys None }) =
      node-split f k p v None None xs ys c' in
      let b : Node T = record { value = v; list = k; before = last_or xs None; after = first_or ys None } in
      let r : node ≡ b = cc in
      ap (λ (m : Node T). m.after) r

  -- and that is in
  pub after_found : (f : ℕ → Option (Node T)) (heads tails : List (Option ℕ)) (ls : List (List (ℕ × T))) (p q : ℕ)
      (node : Node T) → Linked f heads tails ls → IsSome (find p ls) → f p ≡ Some node
      → node.after ≡ Some q → IsSome (find q ls)
  after_found f heads tails ls p q node old there is e =
      let s : FoundNode f p node ls = found_node f heads tails ls p node old there is in
      let split : list_at ls s.at.list ≡ (s.at.front ++ (p, node.value) ∷ []) ++ s.at.back = s.at.is
      ∙ sym (append_assoc s.at.front ((p, node.value) ∷ []) s.at.back) in
      first_found (length heads) ls (AreLists-Linked f heads tails ls (length heads) old refl) s.at.list q
      (s.at.front ++ (p, node.value) ∷ []) s.at.back split (sym s.after_is ∙ e)

  pub count-unlink : (n : ℕ) (ls : List (List (ℕ × T))) → AreLists n ls → (p : ℕ) (v : T) → (s : Stands p v ls) →
      sum_by length (map (drop_place p) ls) + 1 ≡ sum_by length ls
  count-unlink n ls sound p v s =
      rw (drop-all n ls sound s.list p v s.front s.back s.is)
      (omega (
        arith,
        sum_by-set length ls s.list (s.front ++ s.back) [] s.within,
        ap length s.is,
        length-append s.front ((p, v) ∷ s.back),
        length-append s.front s.back,
      ))

  Relinks-at : (f g : ℕ → Option (Node T)) (p : ℕ) (b b' a a' : Option ℕ) → b ≡ b' → a ≡ a' → Relinks f g p b a →
      Relinks f g p b' a'
  Relinks-at f g p b b' a a' e h r = rw (← e, ← h) r

  Linked-at : (g : ℕ → Option (Node T)) (heads tails : List (Option ℕ)) (b b' a a' : Option ℕ) (k k' : ℕ)
      (ls : List (List (ℕ × T))) → b ≡ b' → a ≡ a' → k ≡ k'
      → Linked g (end_set b' k' a' heads) (end_set a' k' b' tails) ls →
      Linked g (end_set b k a heads) (end_set a k b tails) ls
  Linked-at g heads tails b b' a a' k k' ls e h i x = rw (e, h, i) x

  -- a node is unlinked
  module _ (f0 f1 f2 f3 : ℕ → Option (Node T)) (heads tails : List (Option ℕ)) (ls : List (List (ℕ × T))) (p : ℕ)
      (node : Node T)
      (old : Linked f0 heads tails ls) (there : IsSome (find p ls)) (is : f0 p ≡ Some node)
      (others : (q : ℕ) → q ≢ p → f1 q ≡ f0 q) where
    s : FoundNode f0 p node ls
    s = found_node f0 heads tails ls p node old there is

    pub find-node : find p ls ≡ Some node.value
    find-node = s.find_is

    pub list_in_heads : node.list < length heads
    list_in_heads = (let w = s.at.within in omega (arith, s.list_is, old.heads_len))

    pub list_in_tails : node.list < length tails
    list_in_tails = omega (arith, list_in_heads, old.heads_len, old.tails_len)

    entry-distinct : IsDistinct (s.at.front ++ (p, node.value) ∷ s.at.back)
    entry-distinct = (let d = old.distinct s.at.list s.at.within in rw s.at.is at d)

    entry-chain : IsChain f0 s.at.list None (s.at.front ++ (p, node.value) ∷ s.at.back) None
    entry-chain = (let d = (old.each s.at.list s.at.within).chain in rw s.at.is at d)

    off-before : is_at (last_or s.at.front None) p ≡ false
    off-before = is_at-last p s.at.front None (IsDistinct-mid p node.value s.at.front s.at.back entry-distinct).0 refl

    off-after : is_at (first_or s.at.back None) p ≡ false
    off-after = is_at-first p s.at.back None (IsDistinct-mid p node.value s.at.front s.at.back entry-distinct).1 refl

    pub off_before : is_at node.before p ≡ false
    off_before = rw s.before_is off-before

    pub off_after : is_at node.after p ≡ false
    off_after = rw s.after_is off-after

    stays : (x : ℕ) (o : Option ℕ) → Owned f0 s.at.list o → is_at o p ≡ false → o ≡ Some x → IsSome (f1 x)
    stays x o own off e =
        let own' : owner (f0 x) ≡ Some s.at.list = rw e at own in
        let off' : is_at (Some x) p ≡ false = rw e at off in
        let ne : x ≢ p = (λ q. let y : is_at (Some x) p ≡ true = rw q (is_at-same p) in cc) in
        rw (others x ne) (some_owner (f0 x) s.at.list own')

    pub before_there : (x : ℕ) → node.before ≡ Some x → IsSome (f1 x)
    before_there x e =
        let parts = chain-parts f0 s.at.list p node.value None None s.at.front s.at.back entry-chain in
        stays x (last_or s.at.front None) (Owned-last f0 s.at.list None (Some p) s.at.front parts.0 tt) off-before
        (sym s.before_is ∙ e)

    pub after_there : (x : ℕ) → node.after ≡ Some x → IsSome (f1 x)
    after_there x e =
        let parts = chain-parts f0 s.at.list p node.value None None s.at.front s.at.back entry-chain in
        stays x (first_or s.at.back None) (Owned-first f0 s.at.list (Some p) None s.at.back parts.1 tt) off-after
        (sym s.after_is ∙ e)

    relinks : ((q : ℕ) → q ≢ p → f2 q ≡ cond (is_at node.before q) (after_set node.after (f1 q)) (f1 q))
        → ((q : ℕ) → q ≢ p → f3 q ≡ cond (is_at node.after q) (before_set node.before (f2 q)) (f2 q))
        → Relinks f0 f3 p node.before node.after
    relinks l2 l3 = record {
      others = λ q ne ib ia. l3 q ne ∙ rw ia (l2 q ne ∙ rw ib (others q ne));
      at_before = λ q ne ib ia. l3 q ne ∙ rw ia (l2 q ne ∙ rw ib (ap (after_set node.after) (others q ne)));
      at_after = λ q ne ia ib. l3 q ne ∙ rw ia (ap (before_set node.before) (l2 q ne ∙ rw ib (others q ne)));
    }

    pub Linked-without : ((q : ℕ) → q ≢ p → f2 q ≡ cond (is_at node.before q) (after_set node.after (f1 q)) (f1 q))
        → ((q : ℕ) → q ≢ p → f3 q ≡ cond (is_at node.after q) (before_set node.before (f2 q)) (f2 q))
        → Linked f3 (end_set node.before node.list node.after heads) (end_set node.after node.list node.before tails)
        (map (drop_place p) ls)
    Linked-without l2 l3 =
        let r : Relinks f0 f3 p node.before node.after = relinks l2 l3 in
        let r' : Relinks f0 f3 p (last_or s.at.front None) (first_or s.at.back None) =
        Relinks-at f0 f3 p node.before (last_or s.at.front None) node.after (first_or s.at.back None) s.before_is
        s.after_is r in
        Linked-at f3 heads tails node.before (last_or s.at.front None) node.after (first_or s.at.back None) node.list
        s.at.list (map (drop_place p) ls) s.before_is s.after_is s.list_is
        (Linked-unlink f0 f3 heads tails ls p node.value old s.at (ap owner is ∙ ap Some s.list_is) r')

  -- the value at a place is its node's
  pub find-value : (f : ℕ → Option (Node T)) (heads tails : List (Option ℕ)) (ls : List (List (ℕ × T))) (p : ℕ) →
      Linked f heads tails ls → IsSome (find p ls) → value_of (f p) ≡ find p ls
  find-value f heads tails ls p old h = go (find p ls) refl h where
    go : (o : Option T) → find p ls ≡ o → IsSome o → value_of (f p) ≡ find p ls
    go None e h = absurd (search rules)
    go (Some v) e h = let s : Found f p v ls = found f heads tails ls p v old e in ap value_of s.node ∙ sym e

  value_of-after : (b : Bool) (to : Option ℕ) (o : Option (Node T)) → value_of (cond b (after_set to o) o) ≡ value_of o
  value_of-after true to None = refl
  value_of-after true to (Some n) = refl
  value_of-after false to o = refl

  -- the node p is put at the end of list k: first the one before it is linked to it, then it is written
  pub Linked-relinked : (f0 f1 f2 : ℕ → Option (Node T)) (heads heads1 tails : List (Option ℕ))
      (ls : List (List (ℕ × T))) (k p : ℕ) (v : T) (last to : Option ℕ) (now : Node T)
      → Linked (all_but p f0) heads tails ls → k < length ls → value_of (f0 p) ≡ Some v → last ≡ get_or tails k None →
      to ≡ Some p
      → ((q : ℕ) → f1 q ≡ cond (is_at last q) (after_set to (f0 q)) (f0 q)) → f1 p ≡ Some now → f2 p
      ≡ Some (record { value = now.value; list = k; before = last; after = None })
      → ((q : ℕ) → q ≢ p → f2 q ≡ f1 q) → heads1 ≡ end_set last k to heads →
      Linked f2 heads1 (set tails k (Some p)) (set ls k (list_at ls k ++ (p, v) ∷ []))
  Linked-relinked f0 f1 f2 heads heads1 tails ls k p v last to now old lt here is_last is_to links is written others
      ends =
      let some : Some now.value ≡ Some v = ap value_of (sym is ∙ links p) ∙ value_of-after (is_at last p) to (f0 p)
      ∙ here in
      let same : now.value ≡ v = cc in
      rw (ends, is_last, is_to)
      (Linked-back f0 f2 heads tails ls k p v old lt (λ q ne. others q ne ∙ (rw (is_last, is_to) at (links q)))
      (written ∙ (λ i. Some (record { value = same i; list = k; before = is_last i; after = None }))))

  -- the last node of a list that does not have p
  pub tail_in : (f : ℕ → Option (Node T)) (heads tails : List (Option ℕ)) (ls : List (List (ℕ × T))) (k p x : ℕ) →
      Linked (all_but p f) heads tails ls → k < length ls → get_or tails k None ≡ Some x → IsSome (f x)
  tail_in f heads tails ls k p x old lt e =
      let own : Owned (all_but p f) k (get_or tails k None) = Owned-tail (all_but p f) heads tails ls k old lt in
      let own' : owner (all_but p f x) ≡ Some k = rw e at own in go (x == p) (some_owner (all_but p f x) k own') where
        go : (b : Bool) → IsSome (cond b None (f x)) → IsSome (f x)
        go true h = absurd (search rules)
        go false h = h
