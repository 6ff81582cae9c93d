-- Entries with distinct keys: what is found after a change of one.
use Rattle.std.proofs.Common.{◌≡◌, ℕ, zero, suc, ◌<◌, List, [], ◌∷◌, ◌++◌, Bool, true, false, cond, Option, Some, None, length, set, refl, sym, ap, ◌∙◌, subst, arith}
use Rattle.std.specs.Prelude.{slice_get, Contains, ◌||◌}
use Rattle.std.specs.Cmp.{IsEquivalence}
use Rattle.std.specs.List.{IsDistinct, list_any}
use Rattle.std.specs.List.Sorted.{IsPermutation}
use Rattle.std.specs.Map.{keys_of, lookup}
use Rattle.std.proofs.lemmas.List.{map_push}
use Rattle.std.proofs.lemmas.List.Edits.{insert_end}
use Rattle.std.proofs.lemmas.List.Sorted.{IsPermutation-map, IsPermutation-sym, Contains-permutation}
use Rattle.std.proofs.lemmas.Map.{lookup-none, none_passes_from_lookup, lookup-insert}
use Rattle.std.proofs.lemmas.Map.Entries.{place_from_lookup, lookup_from_place, none_past_head}
use Rattle.std.proofs.lemmas.Map.Keys.{IsDistinct-IsPermutation, IsDistinct-tail, IsDistinct-push}
use Rattle.std.proofs.lemmas.Option.{slice_get-get_or, get_or_from_slice_get}

module _ {K : Type 0} {eq : K → K → Bool} (laws : IsEquivalence eq) where
  found_same : (p q : K) → eq p q ≡ true → (es : List (K × ℕ)) → lookup (eq p) es ≡ lookup (eq q) es
  found_same p q same [] = refl
  found_same p q same (e ∷ es) = rw (laws.congr p q e.0 same)
      (ap (λ (o : Option ℕ). cond (eq q e.0) (Some e.1) o) (found_same p q same es))

  -- the entry at a place is found by each key that is equal to its key
  pub lookup-place : (q : K) (es : List (K × ℕ)) (i : ℕ) (k : K) (n : ℕ) → IsDistinct eq (keys_of es) → slice_get es i
      ≡ Some (k, n) → eq q k ≡ true → lookup (eq q) es ≡ Some n
  lookup-place q es i k n d there same = found_same q k same es ∙ lookup_from_place laws es i k n d there

  -- ---- another number

  set_by : (q key : K) (e : K × ℕ) (here there : Bool) (n : ℕ) (o p : Option ℕ) → eq q e.0 ≡ here → eq key q ≡ there →
      (here ≡ true → there ≡ true → ⊥) → o ≡ cond there (Some n) p
      → cond here (Some e.1) o ≡ cond there (Some n) (cond here (Some e.1) p)
  set_by q key e true true n o p h t never is = absurd (never refl refl)
  set_by q key e true false n o p h t never is = refl
  set_by q key e false there n o p h t never is = is

  first_by : (q : K) (e : K × ℕ) (b : Bool) (n : ℕ) (o : Option ℕ) → eq q e.0 ≡ b → cond b (Some n) o
      ≡ cond (eq e.0 q) (Some n) (cond b (Some e.1) o)
  first_by q e true n o is = rw (laws.symm e.0 q, is) refl
  first_by q e false n o is = rw (laws.symm e.0 q, is) refl

  pub lookup-set : (q : K) (es : List (K × ℕ)) (i : ℕ) (k : K) (m n : ℕ) → IsDistinct eq (keys_of es) → slice_get es i
      ≡ Some (k, m) → lookup (eq q) (set es i (k, n)) ≡ cond (eq k q) (Some n) (lookup (eq q) es)
  lookup-set q [] i k m n d there = absurd cc
  lookup-set q (e ∷ es) zero k m n d there =
      let same : e ≡ (k, m) = cc in
      let key : e.0 ≡ k = ap (λ (p : K × ℕ). p.0) same in
      subst (λ (x : K). cond (eq q x) (Some n) (lookup (eq q) es)
      ≡ cond (eq x q) (Some n) (cond (eq q e.0) (Some e.1) (lookup (eq q) es))) key
      (first_by q e (eq q e.0) n (lookup (eq q) es) refl)
  lookup-set q (e ∷ es) (suc i) k m n d there =
      set_by q k e (eq q e.0) (eq k q) n (lookup (eq q) (set es i (k, n))) (lookup (eq q) es) refl refl
      (λ here other.
      let head : lookup (eq q) es ≡ None = lookup-none (eq q) es (none_past_head laws q e es d here) in
      let found : lookup (eq q) es ≡ Some m = lookup-place q es i k m (IsDistinct-tail eq e.0 (keys_of es) d) there
      (laws.symm q k ∙ other) in
      let clash : None ≡ Some m = sym head ∙ found in cc)
      (lookup-set q es i k m n (IsDistinct-tail eq e.0 (keys_of es) d) there)

  -- ---- one more entry

  pub lookup-push : (q : K) (es : List (K × ℕ)) (k : K) (n : ℕ) → lookup (eq k) es ≡ None →
      lookup (eq q) (es ++ (k, n) ∷ []) ≡ cond (eq k q) (Some n) (lookup (eq q) es)
  lookup-push q es k n none =
      ap (λ (fs : List (K × ℕ)). lookup (eq q) fs) (sym (insert_end es (k, n)))
      ∙ lookup-insert laws k n q es (length es) (none_passes_from_lookup (eq k) es none)

  any_key : (test : K → Bool) (es : List (K × ℕ)) → lookup test es ≡ None → list_any test (keys_of es) ≡ false
  any_key test [] h = refl
  any_key test (e ∷ es) h = go (test e.0) h (any_key test es) where
    go : (b : Bool) → cond b (Some e.1) (lookup test es) ≡ None →
        (lookup test es ≡ None → list_any test (keys_of es) ≡ false) → (b || list_any test (keys_of es)) ≡ false
    go true h rest = absurd cc
    go false h rest = rest h

  pub IsDistinct-push_entry : (es : List (K × ℕ)) (k : K) (n : ℕ) → IsDistinct eq (keys_of es) → lookup (eq k) es
      ≡ None → IsDistinct eq (keys_of (es ++ (k, n) ∷ []))
  IsDistinct-push_entry es k n d none =
      subst (λ (ks : List K). IsDistinct eq ks) (sym (map_push (λ (e : K × ℕ). e.0) es (k, n)))
      (IsDistinct-push laws (keys_of es) k d (any_key (eq k) es none))

  -- ---- in another order

  half : (q : K) (es fs : List (K × ℕ)) (n : ℕ) → IsPermutation es fs → IsDistinct eq (keys_of fs) → lookup (eq q) es
      ≡ Some n → lookup (eq q) fs ≡ Some n
  half q es fs n perm d is =
      let p = place_from_lookup (eq q) es n is in
      let within : p.0 < length es = place_within es p.0 (p.1, n) p.2 in
      let has : Contains es (p.1, n) = (p.0, within, get_or_from_slice_get es p.0 (p.1, n) (p.1, n) p.2) in
      let there = Contains-permutation es fs (p.1, n) perm has in
      lookup-place q fs there.0 p.1 n d
      (slice_get-get_or fs there.0 (p.1, n) there.1 ∙ ap (λ (e : K × ℕ). Some e) there.2) p.3 where
        place_within : (es : List (K × ℕ)) (i : ℕ) (e : K × ℕ) → slice_get es i ≡ Some e → i < length es
        place_within [] i e h = absurd cc
        place_within (x ∷ xs) zero e h = omega arith
        place_within (x ∷ xs) (suc i) e h = omega (arith, place_within xs i e h)

  IsDistinct-same : (es fs : List (K × ℕ)) → IsPermutation es fs → IsDistinct eq (keys_of es) →
      IsDistinct eq (keys_of fs)
  IsDistinct-same es fs perm d = IsDistinct-IsPermutation eq laws.symm (keys_of es) (keys_of fs)
      (IsPermutation-map (λ (e : K × ℕ). e.0) es fs perm) d

  lookup-same : (q : K) (es fs : List (K × ℕ)) → IsPermutation es fs → IsDistinct eq (keys_of es) → lookup (eq q) es
      ≡ lookup (eq q) fs
  lookup-same q es fs perm d = go (lookup (eq q) es) refl (lookup (eq q) fs) refl where
    go : (o : Option ℕ) → lookup (eq q) es ≡ o → (p : Option ℕ) → lookup (eq q) fs ≡ p → o ≡ p
    go None a None b = refl
    go (Some n) a p b = sym (half q es fs n perm (IsDistinct-same es fs perm d) a) ∙ b
    go None a (Some n) b = let c : lookup (eq q) es ≡ Some n = half q fs es n (IsPermutation-sym es fs perm) d b in
        let clash : None ≡ Some n = sym a ∙ c in absurd cc

  -- ---- without one entry

  pub IsDistinct-taken : (es fs : List (K × ℕ)) (e : K × ℕ) → IsPermutation es (e ∷ fs) → IsDistinct eq (keys_of es) →
      IsDistinct eq (keys_of fs)
  IsDistinct-taken es fs e perm d = IsDistinct-tail eq e.0 (keys_of fs) (IsDistinct-same es (e ∷ fs) perm d)

  pub lookup-taken : (q : K) (es fs : List (K × ℕ)) (e : K × ℕ) → IsPermutation es (e ∷ fs) →
      IsDistinct eq (keys_of es) → lookup (eq q) fs ≡ cond (eq e.0 q) None (lookup (eq q) es)
  lookup-taken q es fs e perm d = rw (laws.symm e.0 q, lookup-same q es (e ∷ fs) perm d) (go (eq q e.0) refl) where
    go : (b : Bool) → eq q e.0 ≡ b → lookup (eq q) fs ≡ cond b None (cond b (Some e.1) (lookup (eq q) fs))
    go true is = lookup-none (eq q) fs (none_past_head laws q e fs (IsDistinct-same es (e ∷ fs) perm d) is)
    go false is = refl
