-- The numbers under hashed keys, as the pairs of an index change.
use Rattle.std.proofs.Common.{◌≡◌, ℕ, ◌-◌, ◌^◌, ◌<◌, List, [], ◌∷◌, ◌++◌, Bool, true, false, cond, Option, Some, None, length, get_or, set, map, refl, sym, ap, ◌∙◌, subst, arith}
use Rattle.std.specs.Cmp.{IsEquivalence}
use Rattle.std.specs.List.{IsDistinct}
use Rattle.std.specs.Map.{keys_of, values_of, lookup, update}
use Rattle.std.proofs.lemmas.List.{map-set}
use Rattle.std.proofs.lemmas.Option.{get_or_from_slice_get}
use Rattle.foyer_core.specs.declared.indexer.chain.Pair.{Pair}
use Rattle.foyer_core.specs.Indexer.{same_key, same_key_equiv, AreNumbersOf}
use Rattle.foyer_core.specs.Entries.{lookup_same}
use Rattle.foyer_core.specs.Chains.{entry_of, entries_of, hashes_of, nexts_of, HasKeyAt, Takes, AllInChains}
use Rattle.foyer_core.proofs.FindLemmas.{length-entries_of, key_at, entry_there}
use Rattle.foyer_core.proofs.PairLemmas.{map-set_same}
use Rattle.foyer_core.proofs.EntryLemmas.{lookup-place, lookup-set, lookup-push, lookup-taken, IsDistinct-taken, IsDistinct-push_entry}

-- heads that are as many as before
pub shifted_as : (shift old new : ℕ) → new ≡ old → (shift < 64) × (0 < old → old ≡ 2 ^ (64 - shift))
    × (old ≡ 0 → 1 < shift) → (shift < 64) × (0 < new → new ≡ 2 ^ (64 - shift)) × (new ≡ 0 → 1 < shift)
shifted_as shift old new is h = rw is h

module _ {K : Type 0} {eq : K → K → Bool} (laws : IsEquivalence eq) (q : ℕ × K) where
  -- the same by another of equal keys
  congr : (k p : ℕ × K) → same_key eq q k ≡ true → same_key eq q p ≡ same_key eq k p
  congr k p same = (same_key_equiv laws).congr q k p same

  module _ (pairs : List (Pair K)) (i : ℕ) (x : Pair K)
      (distinct : IsDistinct (same_key eq) (keys_of (entries_of pairs))) (at : HasKeyAt eq q (entries_of pairs) i)
      (read : x ≡ get_or pairs i x) where
    within : i < length pairs
    within = omega (arith, at.within, length-entries_of pairs)

    same : same_key eq q (x.hash, x.key) ≡ true
    same = ap (same_key eq q) (sym (key_at pairs i x (entry_of x) within read)) ∙ at.same (entry_of x)

    -- a search's number is that of its key
    pub lookup-read : lookup (same_key eq q) (entries_of pairs) ≡ Some x.number
    lookup-read = lookup-place (same_key_equiv laws) q (entries_of pairs) i (x.hash, x.key) x.number distinct
        (entry_there pairs i x within read) same

    -- ---- another number

    abbrev with_number : ℕ → List (Pair K)
    with_number id = set pairs i (record { hash = x.hash; key = x.key; number = id; next = x.next })

    entries_is : (id : ℕ) → entries_of (with_number id) ≡ set (entries_of pairs) i ((x.hash, x.key), id)
    entries_is id = map-set entry_of pairs i (record { hash = x.hash; key = x.key; number = id; next = x.next })

    pub lookup-with_number : (id : ℕ) (p : ℕ × K) → lookup (same_key eq p) (entries_of (with_number id))
        ≡ update (same_key eq) (λ r. lookup (same_key eq r) (entries_of pairs)) q (Some id) p
    lookup-with_number id p =
        ap (λ (es : List ((ℕ × K) × ℕ)). lookup (same_key eq p) es) (entries_is id)
        ∙ lookup-set (same_key_equiv laws) p (entries_of pairs) i (x.hash, x.key) x.number id distinct
        (entry_there pairs i x within read)
        ∙ ap (λ (b : Bool). cond b (Some id) (lookup (same_key eq p) (entries_of pairs)))
        (sym (congr (x.hash, x.key) p same))

    keys_is : (id : ℕ) → keys_of (entries_of (with_number id)) ≡ keys_of (entries_of pairs)
    keys_is id = ap (λ (es : List ((ℕ × K) × ℕ)). keys_of es) (entries_is id)
        ∙ map-set_same (λ (e : (ℕ × K) × ℕ). e.0) (entries_of pairs) i (entry_of x) ((x.hash, x.key), id)
        (sym (key_at pairs i x (entry_of x) within read))

    pub distinct-with_number : (id : ℕ) → IsDistinct (same_key eq) (keys_of (entries_of (with_number id)))
    distinct-with_number id = subst (λ (ks : List (ℕ × K)). IsDistinct (same_key eq) ks) (sym (keys_is id)) distinct

    pub linked-with_number : (shift : ℕ) (heads : List (Option ℕ)) (id : ℕ) →
        AllInChains shift heads (hashes_of pairs) (nexts_of pairs) →
        AllInChains shift heads (hashes_of (with_number id)) (nexts_of (with_number id))
    linked-with_number shift heads id all =
        let y : Pair K = record { hash = x.hash; key = x.key; number = id; next = x.next } in
        let hashes : hashes_of (with_number id) ≡ hashes_of pairs =
        map-set_same (λ (p : Pair K). p.hash) pairs i x y (ap (λ (p : Pair K). p.hash) read) in
        let nexts : nexts_of (with_number id) ≡ nexts_of pairs =
        map-set_same (λ (p : Pair K). p.next) pairs i x y (ap (λ (p : Pair K). p.next) read) in
        rw (hashes, nexts) all

  -- ---- no pair is there

  pub lookup-unmoved : (es : List ((ℕ × K) × ℕ)) → lookup (same_key eq q) es ≡ None → (p : ℕ × K) →
      lookup (same_key eq p) es ≡ update (same_key eq) (λ r. lookup (same_key eq r) es) q None p
  lookup-unmoved es none p = go (same_key eq q p) refl where
    go : (b : Bool) → same_key eq q p ≡ b → lookup (same_key eq p) es ≡ cond b None (lookup (same_key eq p) es)
    go true is = sym (lookup_same laws q p is es) ∙ none
    go false is = refl

  -- ---- one pair less

  pub lookup-takes : (old new : List ((ℕ × K) × ℕ)) (i n : ℕ) → IsDistinct (same_key eq) (keys_of old) →
      HasKeyAt eq q old i → Takes old i n new
      → (lookup (same_key eq q) old ≡ Some n) ×
      ((p : ℕ × K) → lookup (same_key eq p) new ≡ update (same_key eq) (λ r. lookup (same_key eq r) old) q None p)
      × IsDistinct (same_key eq) (keys_of new)
  lookup-takes old new i n distinct at t =
      let key : same_key eq q t.entry.0 ≡ true =
      ap (λ (e : (ℕ × K) × ℕ). same_key eq q e.0) (sym (get_or_from_slice_get old i t.entry t.entry t.there))
      ∙ at.same t.entry in (
        lookup-place (same_key_equiv laws) q old i t.entry.0 t.entry.1 distinct t.there key
            ∙ ap (λ (m : ℕ). Some m) (sym t.had),
        (λ p. lookup-taken (same_key_equiv laws) p old new t.entry t.others distinct
            ∙ ap (λ (b : Bool). cond b None (lookup (same_key eq p) old)) (sym (congr t.entry.0 p key))),
        IsDistinct-taken (same_key_equiv laws) old new t.entry t.others distinct,
      )

-- ---- a new pair

module _ {K : Type 0} {eq : K → K → Bool} (laws : IsEquivalence eq) (es : List ((ℕ × K) × ℕ)) (k : ℕ × K) (n : ℕ)
    (distinct : IsDistinct (same_key eq) (keys_of es)) (absent : lookup (same_key eq k) es ≡ None) where
  pub lookup-more : (p : ℕ × K) → lookup (same_key eq p) (es ++ (k, n) ∷ [])
      ≡ update (same_key eq) (λ r. lookup (same_key eq r) es) k (Some n) p
  lookup-more p = lookup-push (same_key_equiv laws) p es k n absent

  pub distinct-more : IsDistinct (same_key eq) (keys_of (es ++ (k, n) ∷ []))
  distinct-more = IsDistinct-push_entry (same_key_equiv laws) es k n distinct absent

-- ---- all pairs

module _ {K : Type 0} where
  values_are : (pairs : List (Pair K)) → map (λ (p : Pair K). p.number) pairs ≡ values_of (entries_of pairs)
  values_are [] = refl
  values_are (p ∷ ps) = ap (λ (ns : List ℕ). p.number ∷ ns) (values_are ps)

  pub are_numbers : (eq : K → K → Bool) (pairs : List (Pair K)) (ids : List ℕ) →
      IsDistinct (same_key eq) (keys_of (entries_of pairs)) → ids ≡ map (λ (p : Pair K). p.number) pairs
      → AreNumbersOf eq (λ q. lookup (same_key eq q) (entries_of pairs)) ids
  are_numbers eq pairs ids distinct is =
      record { entries = entries_of pairs; distinct = distinct; complete = λ q. refl; values = is ∙ values_are pairs }

  no_keys : (eq : K → K → Bool) → IsDistinct (same_key eq) (keys_of (entries_of (let ps : List (Pair K) = [] in ps)))
  unfolding IsDistinct
  no_keys eq = tt

  pub none_distinct : (eq : K → K → Bool) (pairs : List (Pair K)) → pairs ≡ [] →
      IsDistinct (same_key eq) (keys_of (entries_of pairs))
  none_distinct eq pairs is = subst (λ (ps : List (Pair K)). IsDistinct (same_key eq) (keys_of (entries_of ps)))
      (sym is) (no_keys eq)
