-- Linked nodes as lists: what a write of one value leaves.
use Rattle.std.proofs.Common.{◌≡◌, ◌≢◌, ℕ, ◌<◌, Bool, true, false, cond, List, [], ◌∷◌, Option, Some, None, length, map, refl, sym, ◌∙◌, ap, sum_by, arith}
use Rattle.std.specs.Prelude.{◌==◌}
use Rattle.std.proofs.lemmas.List.Sums.{sum_by-cons}
use Rattle.std.proofs.Math.ListN.{get_or-map, length-map}
use Rattle.foyer_policy.specs.Nodes.{Node, IsChain}
use Rattle.foyer_policy.specs.Lists.{list_at, first_or, with_value, IsFree, IsDistinct}
use Rattle.foyer_policy.specs.Chain.{Linked}
use Rattle.foyer_policy.proofs.PlaceLemmas.{place_is, place_differs, first_or-with_value, last_or-with_value, IsDistinct-with_value, length-with_value}

module _ {T : Type 0} where
  pub count-write : (p : ℕ) (w : T) (ls : List (List (ℕ × T))) → sum_by length (map (with_value p w) ls)
      ≡ sum_by length ls
  count-write p w [] = refl
  count-write p w (l ∷ ls) = rw (sum_by-cons, sum_by-cons) (omega (arith, length-with_value p w l, count-write p w ls))

  -- only the value at p changes
  module _ (f g : ℕ → Option (Node T)) (p : ℕ) (w : T) (n : Node T) (is : f p ≡ Some n)
      (now : g p ≡ Some (record { value = w; list = n.list; before = n.before; after = n.after }))
      (others : (q : ℕ) → q ≢ p → g q ≡ f q) where
    chain-free : (k : ℕ) (b a : Option ℕ) (l : List (ℕ × T)) → IsFree p l → IsChain f k b l a → IsChain g k b l a
    chain-free k b a [] h c = tt
    chain-free k b a (e ∷ es) h c = (others e.0 h.0 ∙ c.0, chain-free k (Some e.0) a es h.1 c.1)

    chain-write : (k : ℕ) (b a : Option ℕ) (l : List (ℕ × T)) → IsDistinct l → IsChain f k b l a →
        IsChain g k b (with_value p w l) a
    chain-write k b a [] d c = tt
    chain-write k b a (e ∷ es) d c = go (e.0 == p) refl (chain-write k (Some e.0) a es d.1 c.1) where
      go : (t : Bool) → (e.0 == p) ≡ t → IsChain g k (Some e.0) (with_value p w es) a →
          IsChain g k b (cond t ((p, w) ∷ es) (e ∷ with_value p w es)) a
      go true t rec =
          let x : e.0 ≡ p = place_is e.0 p t in
          let m : Node T = record { value = e.1; list = k; before = b; after = first_or es a } in
          let y : f p ≡ Some m = rw (← x) c.0 in
          let r : n ≡ m = cc in
          let to : Node T → Option (Node T) = λ o. Some
          (record { value = w; list = o.list; before = o.before; after = o.after }) in
          (now ∙ ap to r, rw (← x) (chain-free k (Some e.0) a es (rw (← x) d.0) c.1))
      go false t rec =
          let ne : e.0 ≢ p = place_differs e.0 p t in (
            others e.0 ne ∙ c.0 ∙ ap (λ (o : Option ℕ). Some (record { value = e.1; list = k; before = b; after = o }))
                (sym (first_or-with_value p w es a)),
            rec,
          )

    pub Linked-write : (heads tails : List (Option ℕ)) (ls : List (List (ℕ × T))) → Linked f heads tails ls →
        Linked g heads tails (map (with_value p w) ls)
    Linked-write heads tails ls old = record {
      heads_len = old.heads_len ∙ sym (length-map ls (with_value p w));
      tails_len = old.tails_len ∙ sym (length-map ls (with_value p w));
      each = λ k lt. (let less : k < length ls = rw length-map at lt in let o = old.each k less in
          rw (get_or-map (with_value p w) ls k []) record {
            head = o.head ∙ sym (first_or-with_value p w (list_at ls k) None);
            tail = o.tail ∙ sym (last_or-with_value p w (list_at ls k) None);
            chain = chain-write k None None (list_at ls k) (old.distinct k less) o.chain;
          });
      distinct = λ k lt.
          (let less : k < length ls = rw length-map at lt in
          rw (get_or-map (with_value p w) ls k [])
          (IsDistinct-with_value p w (list_at ls k) (old.distinct k less)));
    }
