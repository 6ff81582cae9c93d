-- Who waits for a key, once the open fetches of a shard are others.
use Rattle.std.proofs.Common.{◌≡◌, ℕ, ◌%◌, ◌⊎◌, ◌||◌, Bool, true, false, cond, nat_eq, List, [], ◌∷◌, ◌++◌, length, Option, Some, None, refl, sym, ap, ◌∙◌, subst, inl, inr}
use Rattle.std.specs.Prelude.{IsSomeAnd, is_some, option_and_then, slice_get, slice_set}
use Rattle.std.proofs.lemmas.Bool.Decides.{eqb_tells}
use Rattle.std.proofs.lemmas.List.{length-set, map-append}
use Rattle.foyer_core.specs.Chains.{has}
use Rattle.foyer_core.specs.CoreFetches.{at_hash, replaced}
use Rattle.foyer_core.specs.Indexer.{same_key}
use Rattle.foyer_core.specs.Inflight.{Opens, OpenFetch, after_enqueue, after_nothing, closed, joined, tokens_of, without_later}
use Rattle.foyer_core.specs.declared.outcome.Waiting.{Waiting}
use Rattle.foyer_core.proofs.CoreLemmas.{set_here}
use Rattle.foyer_session.specs.Ledger.{IsIssuedFor, IsTokenOf, WaitsFor}
use Rattle.foyer_session.proofs.LedgerTokens.{has_end}
use Rattle.foyer_session.proofs.LedgerWaits.{apart_place, place_at}

module _ {K : Type 0} (eq : K → K → Bool) where
  issued_first : (xs ys : List ((ℕ × K) × ℕ)) (key : ℕ × K) (token : ℕ) → IsIssuedFor eq xs key token →
      IsIssuedFor eq (xs ++ ys) key token
  issued_first [] ys key token h = absurd h
  issued_first (x ∷ xs) ys key token h = elim h [
    | inl e ↦ inl e
    | inr e ↦ inr (issued_first xs ys key token e)
  ]

  issued_second : (xs ys : List ((ℕ × K) × ℕ)) (key : ℕ × K) (token : ℕ) → IsIssuedFor eq ys key token →
      IsIssuedFor eq (xs ++ ys) key token
  issued_second [] ys key token h = h
  issued_second (x ∷ xs) ys key token h = inr (issued_second xs ys key token h)

module _ {K N R : Type 0} (eq : K → K → Bool) where
  -- who waits then waited before, or was issued a token for the key
  abbrev pub Keyed : List (Opens K N R) → List (Opens K N R) → List ((ℕ × K) × ℕ) → Type 0
  Keyed old new issued = (key : ℕ × K) (token : ℕ) → WaitsFor new key token → IsTokenOf eq old issued key token

  pub same_keyed : (old new : List (Opens K N R)) → new ≡ old → Keyed old new []
  same_keyed old new same key token w = inl (subst (λ (f : List (Opens K N R)). WaitsFor f key token) same w)

  -- one after the other
  pub keyed_more : (old mid new : List (Opens K N R)) (issued more : List ((ℕ × K) × ℕ)) → Keyed old mid issued →
      Keyed mid new more
      → Keyed old new (issued ++ more)
  keyed_more old mid new issued more first second key token w = elim (second key token w) [
    | inl e ↦ elim (first key token e) [
      | inl x ↦ inl x
      | inr y ↦ inr (issued_first eq issued more key token y)
    ]
    | inr e ↦ inr (issued_second eq issued more key token e)
  ]

  module _ (fetches : List (Opens K N R)) (i : ℕ) (f : Opens K N R) (there : slice_get fetches i ≡ Some f)
      (alike : (p q : ℕ × K) → same_key eq p q ≡ true → f.by_key p ≡ f.by_key q) where
    abbrev At : Opens K N R → ℕ × K → ℕ → Type 0
    At g key token = IsSomeAnd (g.by_key key) (λ opened. has token (tokens_of opened) ≡ true)

    -- what is so in the shard is so
    shard_keyed : (g : Opens K N R) (issued : List ((ℕ × K) × ℕ))
        → ((key : ℕ × K) (token : ℕ) → At g key token → At f key token ⊎ IsIssuedFor eq issued key token) →
        Keyed fetches (slice_set fetches i g) issued
    shard_keyed g issued so key token w = elim (eqb_tells (key.0 % length fetches) i) [
      | inl e ↦
          (let now = place_at fetches i f there (slice_set fetches i g) g (length fetches) key
          (set_here fetches i f g there) e.1 (length-set fetches i g) in
          let was = place_at fetches i f there fetches f (length fetches) key there e.1 refl in
          elim (so key token
          (subst (λ (o : Option (OpenFetch N R)). IsSomeAnd o (λ opened. has token (tokens_of opened) ≡ true)) now w)) [
            | inl x ↦
                inl (subst (λ (o : Option (OpenFetch N R)). IsSomeAnd o (λ opened. has token (tokens_of opened) ≡ true))
                (sym was) x)
            | inr y ↦ inr y
          ])
      | inr e ↦
          inl (subst (λ (o : Option (OpenFetch N R)). IsSomeAnd o (λ opened. has token (tokens_of opened) ≡ true))
          (apart_place fetches i f there g key (key.0 % length fetches) e.1 refl) w)
    ]

    module _ (k : ℕ × K) where
      -- an equal key's fetch, or another's
      by_key : (w : Option (OpenFetch N R)) (issued : List ((ℕ × K) × ℕ)) (key : ℕ × K) (token : ℕ) (b : Bool) →
          same_key eq k key ≡ b
          → (same_key eq k key ≡ true → IsSomeAnd w (λ opened. has token (tokens_of opened) ≡ true) → At f k token
          ⊎ IsIssuedFor eq issued key token)
          → IsSomeAnd (cond b w (f.by_key key)) (λ opened. has token (tokens_of opened) ≡ true) → At f key token
          ⊎ IsIssuedFor eq issued key token
      by_key w issued key token true is own h = elim (own is h) [
        | inl x ↦
            inl (subst (λ (o : Option (OpenFetch N R)). IsSomeAnd o (λ opened. has token (tokens_of opened) ≡ true))
            (alike k key is) x)
        | inr y ↦ inr y
      ]
      by_key w issued key token false is own h = inl h

      pub closed_keyed : Keyed fetches (slice_set fetches i (closed eq f k)) []
      closed_keyed = shard_keyed (closed eq f k) []
          (λ key token w. by_key None [] key token (same_key eq k key) refl (λ is h. absurd h) w)

      kept_place : (p : Option (OpenFetch N R)) (token : ℕ) →
          IsSomeAnd (option_and_then without_later p) (λ opened. has token (tokens_of opened) ≡ true)
          → IsSomeAnd p (λ opened. has token (tokens_of opened) ≡ true)
      kept_place None token h = absurd h
      kept_place (Some o) token h = kept (is_some o.later) h where
        kept : (b : Bool) → IsSomeAnd
            (cond b (Some (record o { later = None })) None)
            (λ (opened : OpenFetch N R). has token (tokens_of opened) ≡ true) → has token (tokens_of o) ≡ true
        kept true h = h
        kept false h = absurd h

      pub nothing_keyed : Keyed fetches (slice_set fetches i (after_nothing eq f k)) []
      nothing_keyed = shard_keyed (after_nothing eq f k) []
          (λ key token w. by_key (option_and_then without_later (f.by_key k)) [] key token (same_key eq k key) refl
          (λ is h. inl (kept_place (f.by_key k) token h)) w)

      module _ (now : ℕ) (waiter : N) (later : Option R) where
        abbrev own : Waiting N
        own = record { token = f.next_token; waiter = waiter }

        one_of : (a b : Bool) → (a || b) ≡ true → (a ≡ true) ⊎ (b ≡ true)
        one_of true b h = inl refl
        one_of false b h = inr h

        is_next : (token : ℕ) → nat_eq token f.next_token ≡ true → f.next_token ≡ token
        is_next token h = elim (eqb_tells token f.next_token) [
          | inl e ↦ sym e.1
          | inr e ↦ absurd (let x : false ≡ true = sym e.0 ∙ h in cc)
        ]

        in_joined : (p : Option (OpenFetch N R)) (token : ℕ) → has token (tokens_of (joined p now f.next_fetch own later))
            ≡ true
            → IsSomeAnd p (λ opened. has token (tokens_of opened) ≡ true) ⊎ (f.next_token ≡ token)
        in_joined None token h = elim (one_of (nat_eq token f.next_token) false h) [
          | inl e ↦ inr (is_next token e)
          | inr e ↦ absurd cc
        ]
        in_joined (Some o) token h =
            elim (one_of (has token (tokens_of o)) (nat_eq token f.next_token)
            (sym (ap (has token) (map-append (λ (w : Waiting N). w.token) o.tokens (own ∷ []))
            ∙ has_end token f.next_token (tokens_of o)) ∙ h)) [
              | inl e ↦ inl e
              | inr e ↦ inr (is_next token e)
            ]

        pub enqueued_keyed : Keyed fetches (slice_set fetches i (after_enqueue eq now f k waiter later))
            ((k, f.next_token) ∷ [])
        enqueued_keyed = shard_keyed (after_enqueue eq now f k waiter later) ((k, f.next_token) ∷ [])
            (λ key token w. by_key (Some (joined (f.by_key k) now f.next_fetch own later)) ((k, f.next_token) ∷ []) key
            token (same_key eq k key) refl
            (λ is h. elim (in_joined (f.by_key k) token h) [
              | inl x ↦ inl x
              | inr y ↦ inr (inl (is, y))
            ]) w)

  -- so it is with the fetch of a hashed key
  module _ (fetches : List (Opens K N R))
      (alike : (i : ℕ) (f : Opens K N R) → slice_get fetches i ≡ Some f → (p q : ℕ × K) → same_key eq p q ≡ true →
      f.by_key p ≡ f.by_key q) (k : ℕ × K) (hash : ℕ) where
    closed_by : (o : Option (Opens K N R)) → slice_get fetches (hash % length fetches) ≡ o
        → Keyed fetches (replaced fetches (hash % length fetches) (λ f. closed eq f k) o) []
    closed_by None is = same_keyed fetches fetches refl
    closed_by (Some f) is = closed_keyed fetches (hash % length fetches) f is (alike (hash % length fetches) f is) k

    pub closed_keyed_at : (new : List (Opens K N R)) → new ≡ at_hash (λ f. closed eq f k) fetches hash →
        Keyed fetches new []
    closed_keyed_at new is = subst (λ (g : List (Opens K N R)). Keyed fetches g []) (sym is)
        (closed_by (slice_get fetches (hash % length fetches)) refl)

    nothing_by : (o : Option (Opens K N R)) → slice_get fetches (hash % length fetches) ≡ o
        → Keyed fetches (replaced fetches (hash % length fetches) (λ f. after_nothing eq f k) o) []
    nothing_by None is = same_keyed fetches fetches refl
    nothing_by (Some f) is = nothing_keyed fetches (hash % length fetches) f is (alike (hash % length fetches) f is) k

    pub nothing_keyed_at : (new : List (Opens K N R)) → new ≡ at_hash (λ f. after_nothing eq f k) fetches hash →
        Keyed fetches new []
    nothing_keyed_at new is = subst (λ (g : List (Opens K N R)). Keyed fetches g []) (sym is)
        (nothing_by (slice_get fetches (hash % length fetches)) refl)
