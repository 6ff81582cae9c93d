-- Pairs as their links change.
use Rattle.std.proofs.Common.{◌≡◌, ℕ, zero, suc, ◌<◌, List, [], ◌∷◌, Bool, true, false, Option, Some, None, length, get_or, set, map, refl, sym, ap, ◌∙◌, subst, arith}
use Rattle.std.specs.Prelude.{◌&&◌, ◌||◌, ◌==◌, not}
use Rattle.std.proofs.lemmas.List.{map-set, get_or-map, get_or_default, length-map}
use Rattle.foyer_core.specs.declared.indexer.chain.Pair.{Pair}
use Rattle.foyer_core.specs.Chains.{home, entry_of, entries_of, hashes_of, nexts_of, chain_of, is_in, before_in, AreChains}
use Rattle.foyer_core.proofs.ChainLemmas.{are_chains, put_stand, is_in-put, first_stand, is_in-first, later_stand, is_in-later}

-- a write that changes nothing of what f reads
pub map-set_same : {X Y : Type 0} (f : X → Y) (xs : List X) (i : ℕ) (d y : X) → f y ≡ f (get_or xs i d) →
    map f (set xs i y) ≡ map f xs
map-set_same f [] i d y same = refl
map-set_same f (x ∷ xs) zero d y same = ap (λ z. z ∷ map f xs) same
map-set_same f (x ∷ xs) (suc i) d y same = ap (λ zs. f x ∷ zs) (map-set_same f xs i d y same)

module _ {K : Type 0} where
  -- a pair with another link
  abbrev pub with_next : Pair K → Option ℕ → Pair K
  with_next p to = record { hash = p.hash; key = p.key; number = p.number; next = to }

  pub hash_at : (pairs : List (Pair K)) (p : ℕ) (d : Pair K) → p < length pairs → get_or (hashes_of pairs) p 0
      ≡ (get_or pairs p d).hash
  hash_at pairs p d lt = get_or-map (λ (q : Pair K). q.hash) pairs p d 0 lt

  pub next_at : (pairs : List (Pair K)) (p : ℕ) (d : Pair K) → p < length pairs → get_or (nexts_of pairs) p None
      ≡ (get_or pairs p d).next
  next_at pairs p d lt = get_or-map (λ (q : Pair K). q.next) pairs p d None lt

  pub hashes-with_next : (pairs : List (Pair K)) (p : ℕ) (d : Pair K) (to : Option ℕ) →
      hashes_of (set pairs p (with_next (get_or pairs p d) to)) ≡ hashes_of pairs
  hashes-with_next pairs p d to = map-set_same (λ (q : Pair K). q.hash) pairs p d (with_next (get_or pairs p d) to) refl

  pub entries-with_next : (pairs : List (Pair K)) (p : ℕ) (d : Pair K) (to : Option ℕ) →
      entries_of (set pairs p (with_next (get_or pairs p d) to)) ≡ entries_of pairs
  entries-with_next pairs p d to = map-set_same entry_of pairs p d (with_next (get_or pairs p d) to) refl

  pub nexts-with_next : (pairs : List (Pair K)) (p : ℕ) (d : Pair K) (to : Option ℕ) →
      nexts_of (set pairs p (with_next (get_or pairs p d) to)) ≡ set (nexts_of pairs) p to
  nexts-with_next pairs p d to = map-set (λ (q : Pair K). q.next) pairs p (with_next (get_or pairs p d) to)

  -- after a change of links: the places of t stand in chains, and the hashed keys and numbers are as before
  pub record Relinked (shift : ℕ) (heads : List (Option ℕ)) (old new : List (Pair K)) (t : ℕ → Bool) : Type 0 where
    pub chains : AreChains shift heads (hashes_of new) (nexts_of new)
    pub linked : (i : ℕ) → is_in shift heads (hashes_of new) (nexts_of new) i ≡ t i
    pub hashes : hashes_of new ≡ hashes_of old
    pub entries : entries_of new ≡ entries_of old

  relinked : (shift : ℕ) (heads heads' : List (Option ℕ)) (nexts' : List (Option ℕ)) (old new : List (Pair K))
      (t : ℕ → Bool) → heads ≡ heads' → hashes_of new ≡ hashes_of old → nexts_of new ≡ nexts' → entries_of new
      ≡ entries_of old
      → AreChains shift heads' (hashes_of old) nexts' → ((i : ℕ) → is_in shift heads' (hashes_of old) nexts' i ≡ t i)
      → Relinked shift heads old new t
  relinked shift heads heads' nexts' old new t heads_is hashes_is nexts_is entries_is are linked = record {
    chains = rw (heads_is, hashes_is, nexts_is) are;
    linked = λ i. rw (heads_is, hashes_is, nexts_is) (linked i);
    hashes = hashes_is;
    entries = entries_is;
  }

  module _ (shift : ℕ) (heads : List (Option ℕ)) (pairs : List (Pair K))
      (are : AreChains shift heads (hashes_of pairs) (nexts_of pairs)) (p : ℕ) (d : Pair K) (lt : p < length pairs)
      (home_lt : home shift (get_or (hashes_of pairs) p 0) < length heads) where
    home_is : (h : ℕ) → h ≡ home shift (get_or pairs p d).hash → h ≡ home shift (get_or (hashes_of pairs) p 0)
    home_is h is = is ∙ ap (home shift) (sym (hash_at pairs p d lt))

    pub put : (h : ℕ) (first link : Option ℕ) → h ≡ home shift (get_or pairs p d).hash → first ≡ get_or heads h first
        → link ≡ Some p → is_in shift heads (hashes_of pairs) (nexts_of pairs) p ≡ false
        → Relinked shift (set heads h link) pairs (set pairs p (with_next (get_or pairs p d) first))
        (λ i. (i == p) || is_in shift heads (hashes_of pairs) (nexts_of pairs) i)
    put h first link h_is first_is link_is out =
        let there_h : h ≡ home shift (get_or (hashes_of pairs) p 0) = home_is h h_is in
        let lt' : p < length (nexts_of pairs) = omega (arith, lt, length-map pairs (λ (q : Pair K). q.next)) in
        let own : ℕ = home shift (get_or (hashes_of pairs) p 0) in
        let there : first ≡ get_or heads own None = first_is
        ∙ get_or_default heads h first None (subst (λ (n : ℕ). n < length heads) (sym there_h) home_lt)
        ∙ ap (λ (n : ℕ). get_or heads n None) there_h in
        relinked shift (set heads h link) (set heads own (Some p)) (set (nexts_of pairs) p (get_or heads own None))
        pairs (set pairs p (with_next (get_or pairs p d) first))
        (λ i. (i == p) || is_in shift heads (hashes_of pairs) (nexts_of pairs) i)
        (ap (λ (n : ℕ). set heads n link) there_h ∙ ap (set heads own) link_is)
        (hashes-with_next pairs p d first)
        (nexts-with_next pairs p d first ∙ ap (set (nexts_of pairs) p) there)
        (entries-with_next pairs p d first)
        (are_chains shift (set heads own (Some p)) (hashes_of pairs) (set (nexts_of pairs) p (get_or heads own None))
        _ (put_stand shift heads (hashes_of pairs) (nexts_of pairs) are p lt' home_lt out))
        (is_in-put shift heads (hashes_of pairs) (nexts_of pairs) are p lt' home_lt out)

    module _ (after : Option ℕ) (after_is : after ≡ (get_or pairs p d).next)
        (there : is_in shift heads (hashes_of pairs) (nexts_of pairs) p ≡ true) where
      after_at : after ≡ get_or (nexts_of pairs) p None
      after_at = after_is ∙ sym (next_at pairs p d lt)

      pub take_first : (h : ℕ) → h ≡ home shift (get_or pairs p d).hash →
          before_in None p (chain_of heads (nexts_of pairs) (home shift (get_or (hashes_of pairs) p 0))) ≡ None
          → Relinked shift (set heads h after) pairs pairs
          (λ i. not (i == p) && is_in shift heads (hashes_of pairs) (nexts_of pairs) i)
      take_first h h_is first =
          let own : ℕ = home shift (get_or (hashes_of pairs) p 0) in
          let to : Option ℕ = get_or (nexts_of pairs) p None in
          relinked shift (set heads h after) (set heads own to) (nexts_of pairs) pairs pairs
          (λ i. not (i == p) && is_in shift heads (hashes_of pairs) (nexts_of pairs) i)
          (ap (λ (n : ℕ). set heads n after) (home_is h h_is) ∙ ap (set heads own) after_at) refl refl refl
          (are_chains shift (set heads own to) (hashes_of pairs) (nexts_of pairs) _
          (first_stand shift heads (hashes_of pairs) (nexts_of pairs) are p home_lt there first))
          (is_in-first shift heads (hashes_of pairs) (nexts_of pairs) are p home_lt there first)

      pub take_later : (q : ℕ) (e : Pair K) → before_in None p
          (chain_of heads (nexts_of pairs) (home shift (get_or (hashes_of pairs) p 0))) ≡ Some q
          → Relinked shift heads pairs (set pairs q (with_next (get_or pairs q e) after))
          (λ i. not (i == p) && is_in shift heads (hashes_of pairs) (nexts_of pairs) i)
      take_later q e before =
          let to : Option ℕ = get_or (nexts_of pairs) p None in
          relinked shift heads heads (set (nexts_of pairs) q to) pairs
          (set pairs q (with_next (get_or pairs q e) after))
          (λ i. not (i == p) && is_in shift heads (hashes_of pairs) (nexts_of pairs) i)
          refl (hashes-with_next pairs q e after)
          (nexts-with_next pairs q e after ∙ ap (set (nexts_of pairs) q) after_at)
          (entries-with_next pairs q e after)
          (are_chains shift heads (hashes_of pairs) (set (nexts_of pairs) q to) _
          (later_stand shift heads (hashes_of pairs) (nexts_of pairs) are p home_lt there q before))
          (is_in-later shift heads (hashes_of pairs) (nexts_of pairs) are p home_lt there q before)
