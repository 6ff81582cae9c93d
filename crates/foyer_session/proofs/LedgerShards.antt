-- The ledger of the open fetches of a shard: one more waits, a fetch is closed, or its builder is taken.
use Rattle.std.proofs.Common.{◌≡◌, ℕ, ◌+◌, ◌<◌, ◌≤◌, ◌%◌, ◌||◌, Bool, true, false, cond, nat_eq, List, [], ◌∷◌, length, Option, Some, None, refl, sym, ap, ◌∙◌, subst, arith, inl, inr}
use Rattle.std.specs.Prelude.{slice_get, slice_set, option_and_then, is_some}
use Rattle.std.specs.Cmp.{IsEquivalence}
use Rattle.std.proofs.lemmas.Bool.Decides.{eqb_tells, nat_tests}
use Rattle.std.proofs.lemmas.List.{map-append}
use Rattle.foyer_core.specs.Chains.{has}
use Rattle.foyer_core.specs.Indexer.{same_key, same_key_equiv}
use Rattle.foyer_core.specs.Inflight.{AreOpen, Opens, OpenFetch, after_enqueue, after_nothing, closed, joined, tokens_of, waiters_of, with_open, without_later}
use Rattle.foyer_core.specs.declared.outcome.Waiting.{Waiting}
use Rattle.foyer_session.specs.Ledger.{Settles, next_token_in, of_shard}
use Rattle.foyer_session.specs.Tokens.{numbers_of}
use Rattle.foyer_session.specs.Waits.{WaitsIn, times}
use Rattle.foyer_session.proofs.LedgerTokens.{IsCount, count_none, count_one, count_there, has_end, same_count, times_absent, times_alone, times_itself, times_once}
use Rattle.foyer_session.proofs.LedgerWaits.{IsEvenAt, WaitsAt, shard_settled}

-- what is there is one
some_one : {A : Type 0} {a b : A} → ◌≡◌ {A = Option A} (Some a) (Some b) → a ≡ b
some_one h = cc

some_none : {A : Type 0} {a : A} → ◌≡◌ {A = Option A} None (Some a) → ⊥
some_none h = cc

-- one of both
or_first : (a b : Bool) → (a || b) ≡ true → b ≡ false → a ≡ true
or_first true b h second = refl
or_first false b h second = absurd (let e : false ≡ true = sym second ∙ h in cc)

or_true : (a b : Bool) → b ≡ true → (a || b) ≡ true
or_true true b h = refl
or_true false b h = h

itself : (n : ℕ) → nat_eq n n ≡ true
itself n = grind (arith, nat_tests)

module _ {K N R : Type 0} (eq : K → K → Bool) (fetches : List (Opens K N R))
    (known : (shard token : ℕ) → WaitsIn fetches shard token → token < next_token_in fetches shard)
    (i : ℕ) (f : Opens K N R) (there : slice_get fetches i ≡ Some f) (sound : AreOpen eq f)
    (alike : (p q : ℕ × K) → same_key eq p q ≡ true → f.by_key p ≡ f.by_key q)
    (k : ℕ × K) (home : k.0 % length fetches ≡ i) where
  abbrev Waits : Opens K N R → ℕ → Type 0
  Waits g token = WaitsAt (length fetches) i g token

  -- the fetch of another key stays
  other_open : (w v : Option (OpenFetch N R)) (q : ℕ × K) (o : OpenFetch N R) → same_key eq k q ≡ false →
      cond (same_key eq k q) w v ≡ Some o → v ≡ Some o
  other_open w v q o apart h = sym (ap (λ (b : Bool). cond b w v) apart) ∙ h

  own_open : (w v : Option (OpenFetch N R)) (q : ℕ × K) (o : OpenFetch N R) → same_key eq k q ≡ true →
      cond (same_key eq k q) w v ≡ Some o → w ≡ Some o
  own_open w v q o one h = sym (ap (λ (b : Bool). cond b w v) one) ∙ h

  set_other : (w : Option (OpenFetch N R)) (token : ℕ) (x : Waits f token) → same_key eq k x.key ≡ false →
      Waits (with_open eq f k w) token
  set_other w token x apart =
      record {
        key = x.key;
        home = x.home;
        opened = x.opened;
        is_open =
            ap (λ (b : Bool). cond b w (f.by_key x.key)) apart ∙ x.is_open;
        waits = x.waits;
      }

  -- who waits for an equal key waits in the one fetch
  in_open : (token : ℕ) (x : Waits f token) → same_key eq k x.key ≡ true → f.by_key k ≡ Some x.opened
  in_open token x one = alike k x.key one ∙ x.is_open

  -- a fetch is closed
  no_place : (token : ℕ) → Waits (closed eq f k) token → Waits f token
  no_place token x = go (same_key eq k x.key) refl where
    go : (b : Bool) → same_key eq k x.key ≡ b → Waits f token
    go true one = absurd (some_none (own_open None (f.by_key x.key) x.key x.opened one x.is_open))
    go false apart =
        record {
          key = x.key;
          home = x.home;
          opened = x.opened;
          is_open =
              other_open None (f.by_key x.key) x.key x.opened apart x.is_open;
          waits = x.waits;
        }

  still : (token : ℕ) → ((o : OpenFetch N R) → f.by_key k ≡ Some o → has token (tokens_of o) ≡ false) → Waits f token →
      Waits (closed eq f k) token
  still token absent x = go (same_key eq k x.key) refl where
    go : (b : Bool) → same_key eq k x.key ≡ b → Waits (closed eq f k) token
    go true one = absurd (let e : false ≡ true = sym (absent x.opened (in_open token x one)) ∙ x.waits in cc)
    go false apart = set_other None token x apart

  gone : (token : ℕ) (o : OpenFetch N R) → f.by_key k ≡ Some o → has token (tokens_of o) ≡ true →
      Waits (closed eq f k) token → ⊥
  gone token o is h x = go (same_key eq k x.key) refl where
    go : (b : Bool) → same_key eq k x.key ≡ b → ⊥
    go true one = some_none (own_open None (f.by_key x.key) x.key x.opened one x.is_open)
    go false apart =
        let one = sound.one_open k x.key o x.opened token is
        (other_open None (f.by_key x.key) x.key x.opened apart x.is_open) h x.waits in
        absurd (let e : false ≡ true = sym apart ∙ one in cc)

  pub closed_settled : Settles fetches (slice_set fetches i (closed eq f k)) []
      (of_shard i (numbers_of (waiters_of (f.by_key k))))
  closed_settled = shard_settled fetches i f there (closed eq f k) [] (numbers_of (waiters_of (f.by_key k))) known
      (omega arith) (λ token some. absurd (omega (arith, some))) even where
        at_place : (p : Option (OpenFetch N R)) → f.by_key k ≡ p → (token n : ℕ) → IsCount (Waits f token) n → (b : Bool) →
            has token (numbers_of (waiters_of p)) ≡ b
            → (after : ℕ) × IsCount (Waits (closed eq f k) token) after
            × (n + 0 ≡ after + times i token (of_shard i (numbers_of (waiters_of p)))) × (n + 0 ≤ 1)
        at_place None is token n h b has_it =
            let one = count_one n h in (
              n,
              same_count n (still token (λ o there_is. absurd (some_none (sym is ∙ there_is)))) (no_place token) h,
              omega arith,
              omega (arith, one),
            )
        at_place (Some o) is token n h true has_it =
            let one = count_there n (record { key = k; home = home; opened = o; is_open = is; waits = has_it }) h in
            let handed = times_once i token (tokens_of o) (sound.once k o is) has_it in
            (0, inr (gone token o is has_it, refl), omega (arith, one, handed), omega (arith, one))
        at_place (Some o) is token n h false has_it =
            let one = count_one n h in
            let handed = times_absent i token (tokens_of o) has_it in
            let absent : (p : OpenFetch N R) → f.by_key k ≡ Some p → has token (tokens_of p) ≡ false =
            λ p p_is. ap (λ (x : OpenFetch N R). has token (tokens_of x)) (some_one (sym p_is ∙ is)) ∙ has_it in
            (n, same_count n (still token absent) (no_place token) h, omega (arith, handed), omega (arith, one))

        even : (token n : ℕ) → IsCount (Waits f token) n →
            IsEvenAt fetches i f there (closed eq f k) [] (numbers_of (waiters_of (f.by_key k))) token n
        even token n h = at_place (f.by_key k) refl token n h (has token (numbers_of (waiters_of (f.by_key k)))) refl

  -- a builder is taken: who waited still does
  pub taken_settled : (o : OpenFetch N R) → f.by_key k ≡ Some o → is_some o.later ≡ true →
      Settles fetches (slice_set fetches i (after_nothing eq f k)) [] []
  taken_settled o is later = shard_settled fetches i f there (after_nothing eq f k) [] [] known (omega arith)
      (λ token some. absurd (omega (arith, some))) even where
        left : OpenFetch N R
        left = record o { later = None }

        left_is : option_and_then without_later (f.by_key k) ≡ Some left
        left_is = ap (option_and_then without_later) is ∙ ap (λ (b : Bool). cond b (Some left) None) later

        to : (token : ℕ) → Waits f token → Waits (after_nothing eq f k) token
        to token x = go (same_key eq k x.key) refl where
          go : (b : Bool) → same_key eq k x.key ≡ b → Waits (after_nothing eq f k) token
          go true one = record {
            key = x.key;
            home = x.home;
            opened = left;
            is_open = ap (λ (b : Bool). cond b (option_and_then without_later (f.by_key k)) (f.by_key x.key)) one ∙ left_is;
            waits = ap (λ (y : OpenFetch N R). has token (tokens_of y)) (some_one (sym is ∙ in_open token x one)) ∙ x.waits;
          }
          go false apart = set_other (option_and_then without_later (f.by_key k)) token x apart

        from : (token : ℕ) → Waits (after_nothing eq f k) token → Waits f token
        from token x = go (same_key eq k x.key) refl where
          go : (b : Bool) → same_key eq k x.key ≡ b → Waits f token
          go true one = record {
            key = k;
            home = home;
            opened = o;
            is_open = is;
            waits = ap (λ (y : OpenFetch N R). has token (tokens_of y))
                (some_one
                (sym left_is ∙ own_open (option_and_then without_later (f.by_key k)) (f.by_key x.key) x.key x.opened
                one x.is_open)) ∙ x.waits;
          }
          go false apart =
              record {
                key = x.key;
                home = x.home;
                opened = x.opened;
                is_open =
                    other_open (option_and_then without_later (f.by_key k)) (f.by_key x.key) x.key x.opened apart x.is_open;
                waits = x.waits;
              }

        even : (token n : ℕ) → IsCount (Waits f token) n → IsEvenAt fetches i f there (after_nothing eq f k) [] [] token n
        even token n h = (let one = count_one n h in (n, same_count n (to token) (from token) h, refl, omega (arith, one)))

  -- no builder is kept: the fetch is closed
  pub nothing_closed : (o : OpenFetch N R) → f.by_key k ≡ Some o → o.later ≡ None → after_nothing eq f k ≡ closed eq f k
  nothing_closed o is later =
      let none : option_and_then without_later (f.by_key k) ≡ None =
      ap (option_and_then without_later) is ∙
      ap (λ (x : Option R). cond (is_some x) (Some (record o { later = None }))
      None) later in
      ap (λ (w : Option (OpenFetch N R)). with_open eq f k w) none

  module _ (laws : IsEquivalence eq) (now : ℕ) (waiter : N) (later : Option R) where
    abbrev own : Waiting N
    own = record { token = f.next_token; waiter = waiter }

    abbrev g : Opens K N R
    g = after_enqueue eq now f k waiter later

    abbrev at : Option (OpenFetch N R) → OpenFetch N R
    at p = joined p now f.next_fetch own later

    -- who waits for the fetch that was joined
    has_joined : (token : ℕ) (o : OpenFetch N R) → has token (tokens_of (at (Some o)))
        ≡ (has token (tokens_of o) || nat_eq token f.next_token)
    has_joined token o = ap (has token) (map-append (λ (w : Waiting N). w.token) o.tokens (own ∷ []))
        ∙ has_end token f.next_token (tokens_of o)

    has_own : (p : Option (OpenFetch N R)) → has f.next_token (tokens_of (at p)) ≡ true
    has_own None = ap (λ (b : Bool). b || false) (itself f.next_token)
    has_own (Some o) = has_joined f.next_token o
        ∙ or_true (has f.next_token (tokens_of o)) (nat_eq f.next_token f.next_token) (itself f.next_token)

    -- one more waits
    pub enqueued_settled : Settles fetches (slice_set fetches i g) (of_shard i (f.next_token ∷ [])) []
    enqueued_settled = shard_settled fetches i f there g (f.next_token ∷ []) [] known (omega arith) fresh even where
      fresh : (token : ℕ) → 0 < times i token (of_shard i (f.next_token ∷ [])) → (f.next_token ≤ token)
          × (token < g.next_token)
      fresh token some = (let one = times_alone i token f.next_token some in (omega (arith, one), omega (arith, one)))

      new : Waits g f.next_token
      new = record {
        key = k;
        home = home;
        opened = at (f.by_key k);
        is_open = ap (λ (b : Bool). cond b (Some (at (f.by_key k))) (f.by_key k)) ((same_key_equiv laws).refl k);
        waits = has_own (f.by_key k);
      }

      to : (token : ℕ) → Waits f token → Waits g token
      to token x = go (same_key eq k x.key) refl where
        go : (b : Bool) → same_key eq k x.key ≡ b → Waits g token
        go true one = record {
          key = x.key;
          home = x.home;
          opened = at (Some x.opened);
          is_open = ap (λ (b : Bool). cond b (Some (at (f.by_key k))) (f.by_key x.key)) one
              ∙ ap (λ (p : Option (OpenFetch N R)). Some (at p)) (in_open token x one);
          waits = has_joined token x.opened ∙ ap (λ (b : Bool). b || nat_eq token f.next_token) x.waits;
        }
        go false apart =
            record {
              key = x.key;
              home = x.home;
              opened = x.opened;
              is_open =
                  ap (λ (b : Bool). cond b (Some (at (f.by_key k))) (f.by_key x.key)) apart ∙ x.is_open;
              waits = x.waits;
            }

      in_joined : (token : ℕ) → nat_eq token f.next_token ≡ false → (p : Option (OpenFetch N R)) → f.by_key k ≡ p →
          has token (tokens_of (at p)) ≡ true
          → Waits f token
      in_joined token differs None is h =
          absurd (let e : false ≡ true = sym (ap (λ (b : Bool). b || false) differs) ∙ h in cc)
      in_joined token differs (Some o) is h = record {
        key = k;
        home = home;
        opened = o;
        is_open = is;
        waits = or_first (has token (tokens_of o)) (nat_eq token f.next_token) (sym (has_joined token o) ∙ h) differs;
      }

      from : (token : ℕ) → nat_eq token f.next_token ≡ false → Waits g token → Waits f token
      from token differs x = go (same_key eq k x.key) refl where
        go : (b : Bool) → same_key eq k x.key ≡ b → Waits f token
        go true one =
            in_joined token differs (f.by_key k) refl
            (ap (λ (y : OpenFetch N R). has token (tokens_of y))
            (some_one (own_open (Some (at (f.by_key k))) (f.by_key x.key) x.key x.opened one x.is_open)) ∙ x.waits)
        go false apart =
            record {
              key = x.key;
              home = x.home;
              opened = x.opened;
              is_open =
                  other_open (Some (at (f.by_key k))) (f.by_key x.key) x.key x.opened apart x.is_open;
              waits = x.waits;
            }

      older : (token : ℕ) → token ≡ f.next_token → Waits f token → ⊥
      older token same x =
          (let below = sound.tokens_below x.key x.opened token x.is_open x.waits in omega (arith, below, same))

      even : (token n : ℕ) → IsCount (Waits f token) n → IsEvenAt fetches i f there g (f.next_token ∷ []) [] token n
      even token n h = elim (eqb_tells token f.next_token) [
        | inl e ↦ (let none = count_none n (older token e.1) h in
            let issued : times i token (of_shard i (f.next_token ∷ [])) ≡ 1 = times_itself i token f.next_token e.0 in (
              1,
              inl (∣ subst (Waits g) (sym e.1) new ∣₁, refl),
              omega (arith, none, issued),
              omega (arith, none, issued),
            ))
        | inr e ↦ (let one = count_one n h in
            let issued : times i token (of_shard i (f.next_token ∷ [])) ≡ 0 =
            times_absent i token (f.next_token ∷ []) (ap (λ (b : Bool). b || false) e.0) in
            (n, same_count n (to token) (from token e.0) h, omega (arith, issued), omega (arith, issued, one)))
      ]
