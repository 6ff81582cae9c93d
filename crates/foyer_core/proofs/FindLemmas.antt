-- A search for a key along the chain of its hash.
use Rattle.std.proofs.Common.{◌≡◌, ◌≢◌, ℕ, suc, ◌<◌, List, [], ◌∷◌, Bool, true, false, Option, Some, None, length, get_or, refl, sym, ap, ◌∙◌, subst, arith, nat_eq}
use Rattle.std.specs.Prelude.{◌&&◌, ◌==◌, slice_get}
use Rattle.std.specs.Map.{lookup}
use Rattle.std.proofs.lemmas.Bool.Decides.{nat_tests}
use Rattle.std.proofs.lemmas.List.{get_or-map, length-map}
use Rattle.std.proofs.lemmas.Map.{NonePasses, lookup-none}
use Rattle.std.proofs.lemmas.Option.{slice_get-get_or}
use Rattle.foyer_core.specs.declared.indexer.chain.Pair.{Pair}
use Rattle.foyer_core.specs.Indexer.{same_key}
use Rattle.foyer_core.specs.Chains.{home, entry_of, entries_of, hashes_of, nexts_of, walk, chain_of, has, HasKeyAt, AllInChains}
use Rattle.foyer_core.proofs.PathLemmas.{walk-none}

-- no key passes, place by place
none_passes : {K X : Type 0} (test : K → Bool) (es : List (K × X)) →
    ((i : ℕ) (d : K × X) → i < length es → test (get_or es i d).0 ≡ false) → NonePasses test es
none_passes test [] h = tt
none_passes test (e ∷ es) h = (h 0 e (omega arith), none_passes test es (λ i d lt. h (suc i) d (omega arith)))

-- what a search has found out of the places that it left behind
abbrev pub IsPassed : {K : Type 0} → (K → K → Bool) → ℕ × K → List ((ℕ × K) × ℕ) → List ℕ → List ℕ → Type 0
IsPassed {K} eq q es chain rest = (i : ℕ) (d : (ℕ × K) × ℕ) → has i chain ≡ true → has i rest ≡ false →
    same_key eq q (get_or es i d).0 ≡ false

module _ {K : Type 0} where
  pub length-entries_of : (pairs : List (Pair K)) → length (entries_of pairs) ≡ length pairs
  length-entries_of pairs = length-map {B = (ℕ × K) × ℕ} pairs entry_of

  -- the entry of a pair that was read
  pub entry_there : (pairs : List (Pair K)) (i : ℕ) (x : Pair K) → i < length pairs → x ≡ get_or pairs i x →
      slice_get (entries_of pairs) i ≡ Some ((x.hash, x.key), x.number)
  entry_there pairs i x lt read =
      let within : i < length (entries_of pairs) = omega (arith, lt, length-entries_of pairs) in
      slice_get-get_or (entries_of pairs) i (entry_of x) within
      ∙ ap (λ (e : (ℕ × K) × ℕ). Some e) (get_or-map entry_of pairs i x (entry_of x) lt ∙ ap entry_of (sym read))

  -- its key
  pub key_at : (pairs : List (Pair K)) (i : ℕ) (x : Pair K) (d : (ℕ × K) × ℕ) → i < length pairs → x
      ≡ get_or pairs i x → (get_or (entries_of pairs) i d).0 ≡ (x.hash, x.key)
  key_at pairs i x d lt read =
      ap (λ (e : (ℕ × K) × ℕ). e.0) (get_or-map entry_of pairs i x d lt)
      ∙ ap (λ (p : Pair K). (p.hash, p.key)) (sym read)

  module _ (eq : K → K → Bool) (hash : ℕ) (key : K) (pairs : List (Pair K)) where
    -- the key that is sought stands there
    pub found : (i : ℕ) (x : Pair K) → i < length pairs → x ≡ get_or pairs i x → x.hash ≡ hash → eq key x.key ≡ true →
        HasKeyAt eq (hash, key) (entries_of pairs) i
    found i x lt read same here = record {
      within = omega (arith, lt, length-entries_of pairs);
      same = λ d.
          let test : (hash == x.hash) ≡ true = grind (arith, nat_tests) in
          rw (key_at pairs i x d lt read, test) here;
    }

    -- another key stands there
    pub other_hash : (x : Pair K) → x.hash ≢ hash → same_key eq (hash, key) (x.hash, x.key) ≡ false
    other_hash x other = let test : (hash == x.hash) ≡ false = grind (arith, nat_tests) in rw test refl

    pub other_key : (x : Pair K) → eq key x.key ≡ false → same_key eq (hash, key) (x.hash, x.key) ≡ false
    other_key x other = go (hash == x.hash) where
      go : (b : Bool) → (b && eq key x.key) ≡ false
      go true = other
      go false = refl

    -- one place more is passed
    pub passed_more : (chain rest more : List ℕ) (at : ℕ) (x : Pair K) → rest ≡ at ∷ more → at < length pairs → x
        ≡ get_or pairs at x → same_key eq (hash, key) (x.hash, x.key) ≡ false
        → IsPassed eq (hash, key) (entries_of pairs) chain rest → IsPassed eq (hash, key) (entries_of pairs) chain more
    passed_more chain rest more at x is lt read other passed i d member gone = go (nat_eq i at) refl where
      go : (b : Bool) → nat_eq i at ≡ b → same_key eq (hash, key) (get_or (entries_of pairs) i d).0 ≡ false
      go true e =
          let same : i ≡ at = grind (arith, nat_tests) in
          rw (same, key_at pairs at x d lt read) other
      go false e =
          let past : has i rest ≡ false = rw (is, e) gone in
          passed i d member past

    -- all of the chain is passed
    pub absent : (shift : ℕ) (heads : List (Option ℕ)) (link : Option ℕ) →
        AllInChains shift heads (hashes_of pairs) (nexts_of pairs) → link ≡ None
        → IsPassed eq (hash, key) (entries_of pairs) (chain_of heads (nexts_of pairs) (home shift hash))
        (walk (nexts_of pairs) (length (nexts_of pairs)) link)
        → lookup (same_key eq (hash, key)) (entries_of pairs) ≡ None
    absent shift heads link all is passed = lookup-none (same_key eq (hash, key)) (entries_of pairs)
        (none_passes (same_key eq (hash, key)) (entries_of pairs) each) where
          each : (i : ℕ) (d : (ℕ × K) × ℕ) → i < length (entries_of pairs) →
              same_key eq (hash, key) (get_or (entries_of pairs) i d).0 ≡ false
          each i d lt =
              let within : i < length pairs = omega (arith, lt, length-entries_of pairs) in
              let p : Pair K = record { hash = d.0.0; key = d.0.1; number = d.1; next = None } in
              let at : get_or (hashes_of pairs) i 0 ≡ (get_or (entries_of pairs) i d).0.0 =
              get_or-map (λ (q : Pair K). q.hash) pairs i p 0 within
              ∙ sym (ap (λ (e : (ℕ × K) × ℕ). e.0.0) (get_or-map entry_of pairs i p d within)) in
              go (hash == (get_or (entries_of pairs) i d).0.0) refl within at where
                go : (b : Bool) → (hash == (get_or (entries_of pairs) i d).0.0) ≡ b → i < length pairs →
                    get_or (hashes_of pairs) i 0 ≡ (get_or (entries_of pairs) i d).0.0 →
                    same_key eq (hash, key) (get_or (entries_of pairs) i d).0 ≡ false
                go false e within at = rw e refl
                go true e within at =
                    let same : hash ≡ (get_or (entries_of pairs) i d).0.0 = grind (arith, nat_tests) in
                    let own : get_or (hashes_of pairs) i 0 ≡ hash = at ∙ sym same in
                    let member : has i (chain_of heads (nexts_of pairs) (home shift hash)) ≡ true =
                    subst (λ (h : ℕ). has i (chain_of heads (nexts_of pairs) (home shift h)) ≡ true) own
                    (all.each i (omega (arith, within, length-map pairs (λ (q : Pair K). q.hash)))) in
                    let gone : has i (walk (nexts_of pairs) (length (nexts_of pairs)) link) ≡ false =
                    rw (walk-none (nexts_of pairs) (length (nexts_of pairs)) link is) refl in
                    passed i d member gone
