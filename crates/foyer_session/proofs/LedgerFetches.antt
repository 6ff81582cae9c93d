-- The ledger of the open fetches of all shards.
use Rattle.std.proofs.Common.{◌≡◌, ℕ, zero, suc, ◌+◌, ◌<◌, ◌≤◌, ◌%◌, Bool, true, List, [], ◌∷◌, ◌++◌, length, Option, Some, None, refl, sym, ap, ◌∙◌, subst, arith, inl, inr}
use Rattle.std.proofs.Math.Logic.{∥∥₁_elim}
use Rattle.std.proofs.Props.{props}
use Rattle.std.specs.Prelude.{slice_get, slice_set, option_and_then, is_some}
use Rattle.std.specs.Cmp.{IsEquivalence}
use Rattle.foyer_core.specs.CoreFetches.{at_hash, open_in, replaced}
use Rattle.foyer_core.specs.Indexer.{same_key}
use Rattle.foyer_core.specs.Inflight.{AreOpen, Opens, OpenFetch, after_enqueue, after_nothing, closed, waiters_of}
use Rattle.foyer_session.specs.Ledger.{IsEven, Settles, next_token_in, of_shard}
use Rattle.foyer_session.specs.Tokens.{numbers_of}
use Rattle.foyer_session.specs.Waits.{IsWaiting, WaitsIn, times}
use Rattle.foyer_session.proofs.LedgerTokens.{times_append}
use Rattle.foyer_session.proofs.LedgerShards.{closed_settled, enqueued_settled, nothing_closed, taken_settled}
use Rattle.foyer_session.proofs.LedgerWaits.{all_known, stays_settled}

module _ {K N R : Type 0} where
  -- one after the other
  pub settles_more : (old mid new : List (Opens K N R)) (issued handed more_issued more_handed : List (ℕ × ℕ)) →
      Settles old mid issued handed
      → Settles mid new more_issued more_handed
      → Settles old new (issued ++ more_issued) (handed ++ more_handed)
  settles_more old mid new issued handed more_issued more_handed first second =
      record { even = even; fresh = fresh; known = first.known; rising = rising } where
        rising : (shard : ℕ) → next_token_in old shard ≤ next_token_in new shard
        rising shard = (let a = first.rising shard in let b = second.rising shard in omega (arith, a, b))

        -- what was issued first is not issued then
        once : (shard token : ℕ) → 0 < times shard token issued → 0 < times shard token more_issued → ⊥
        once shard token a b =
            (let x = first.fresh shard token a in let y = second.fresh shard token b in omega (arith, x.1, y.0))

        -- nor what waited
        waited_once : (shard token : ℕ) → WaitsIn old shard token → 0 < times shard token more_issued → ⊥
        waited_once shard token w b =
            (let x = first.known shard token w in let y = second.fresh shard token b in let z = first.rising shard in
            omega (arith, x, y.0, z))

        none_issued : (shard token : ℕ) → 0 < times shard token more_issued → (n : ℕ) → times shard token issued ≡ n → n ≡ 0
        none_issued shard token b zero is = refl
        none_issued shard token b (suc n) is = absurd (once shard token (omega (arith, is)) b)

        none_waited : (shard token n : ℕ) → 0 < times shard token more_issued → IsWaiting old shard token n → n ≡ 0
        none_waited shard token n b h = elim h [
          | inl e ↦ absurd (∥∥₁_elim e.0 (hlevel props) (λ w. waited_once shard token w b))
          | inr e ↦ e.1
        ]

        at_most : (shard token n : ℕ) → IsWaiting old shard token n → n + times shard token issued ≤ 1 →
            times shard token more_issued ≤ 1 → (more : ℕ)
            → times shard token more_issued ≡ more
            → n + times shard token issued + more ≤ 1
        at_most shard token n h a b zero is = omega (arith, a)
        at_most shard token n h a b (suc more) is =
            let some : 0 < times shard token more_issued = omega (arith, is) in
            let x = none_waited shard token n some h in
            let y = none_issued shard token some (times shard token issued) refl in
            omega (arith, x, y, b, is)

        even : (shard token n : ℕ) → IsWaiting old shard token n →
            IsEven old new (issued ++ more_issued) (handed ++ more_handed) shard token n
        even shard token n h =
            let a = first.even shard token n h in
            let b = second.even shard token a.0 a.1 in
            let i = times_append shard token issued more_issued in
            let o = times_append shard token handed more_handed in
            let few = at_most shard token n h a.3 (omega (arith, b.3)) (times shard token more_issued) refl in
            (b.0, b.1, omega (arith, a.2, b.2, i, o), omega (arith, few, i))

        fresh : (shard token : ℕ) → 0 < times shard token (issued ++ more_issued) → (next_token_in old shard ≤ token)
            × (token < next_token_in new shard)
        fresh shard token some = go (times shard token issued) refl where
          go : (n : ℕ) → times shard token issued ≡ n → (next_token_in old shard ≤ token)
              × (token < next_token_in new shard)
          go zero is =
              let then : 0 < times shard token more_issued =
              omega (arith, some, is, times_append shard token issued more_issued) in
              let y = second.fresh shard token then in
              let z = first.rising shard in
              (omega (arith, y.0, z), y.1)
          go (suc n) is =
              let x = first.fresh shard token (omega (arith, is)) in
              let z = second.rising shard in
              (x.0, omega (arith, x.1, z))

module _ {K N R : Type 0} (eq : K → K → Bool) (fetches : List (Opens K N R))
    (sound : (i : ℕ) (f : Opens K N R) → slice_get fetches i ≡ Some f → AreOpen eq f)
    (alike : (i : ℕ) (f : Opens K N R) → slice_get fetches i ≡ Some f → (p q : ℕ × K) → same_key eq p q ≡ true →
    f.by_key p ≡ f.by_key q) where
  known : (shard token : ℕ) → WaitsIn fetches shard token → token < next_token_in fetches shard
  known = all_known eq fetches sound

  pub same_settled : (new : List (Opens K N R)) → new ≡ fetches → Settles fetches new [] []
  same_settled new same = stays_settled fetches new same known

  -- one more waits
  pub enqueued_at : (laws : IsEquivalence eq) (k : ℕ × K) (shard : ℕ) (f : Opens K N R) → slice_get fetches shard
      ≡ Some f → k.0 % length fetches ≡ shard
      → (now : ℕ) (waiter : N) (later : Option R) (new : List (Opens K N R)) (token : ℕ)
      → new ≡ slice_set fetches shard (after_enqueue eq now f k waiter later) → token ≡ f.next_token →
      Settles fetches new (of_shard shard (token ∷ [])) []
  enqueued_at laws k shard f there home now waiter later new token is own =
      subst (λ (g : List (Opens K N R)). Settles fetches g (of_shard shard (token ∷ [])) []) (sym is)
      (subst (λ (n : ℕ). Settles fetches (slice_set fetches shard (after_enqueue eq now f k waiter later))
      (of_shard shard (n ∷ [])) []) (sym own)
      (enqueued_settled eq fetches known shard f there (sound shard f there) (alike shard f there) k home laws now waiter
      later))

  module _ (k : ℕ × K) (hash : ℕ) (same : hash % length fetches ≡ k.0 % length fetches) where
    abbrev shard : ℕ
    shard = hash % length fetches

    place_of : (o : Option (Opens K N R)) → slice_get fetches shard ≡ o → open_in fetches k
        ≡ option_and_then (λ (g : Opens K N R). g.by_key k) o
    place_of o is = ap (λ (j : ℕ). option_and_then (λ (g : Opens K N R). g.by_key k) (slice_get fetches j)) (sym same)
        ∙ ap (option_and_then (λ (g : Opens K N R). g.by_key k)) is

    -- its fetch is closed
    closed_by : (o : Option (Opens K N R)) → slice_get fetches shard ≡ o
        → Settles fetches (replaced fetches shard (λ f. closed eq f k) o) []
        (of_shard shard (numbers_of (waiters_of (open_in fetches k))))
    closed_by None is = subst
        (λ (p : Option (OpenFetch N R)). Settles fetches fetches [] (of_shard shard (numbers_of (waiters_of p))))
        (sym (place_of None is)) (same_settled fetches refl)
    closed_by (Some f) is =
        subst (λ (p : Option (OpenFetch N R)). Settles fetches (slice_set fetches shard (closed eq f k)) []
        (of_shard shard (numbers_of (waiters_of p)))) (sym (place_of (Some f) is))
        (closed_settled eq fetches known shard f is (sound shard f is) (alike shard f is) k (sym same))

    pub closed_at : (new : List (Opens K N R)) → new ≡ at_hash (λ f. closed eq f k) fetches hash
        → Settles fetches new [] (of_shard shard (numbers_of (waiters_of (open_in fetches k))))
    closed_at new is = subst
        (λ (g : List (Opens K N R)). Settles fetches g []
        (of_shard shard (numbers_of (waiters_of (open_in fetches k))))) (sym is)
        (closed_by (slice_get fetches shard) refl)

    module _ (o : OpenFetch N R) (is_open : open_in fetches k ≡ Some o) where
      -- a builder is taken
      taken_by : is_some o.later ≡ true → (x : Option (Opens K N R)) → slice_get fetches shard ≡ x
          → Settles fetches (replaced fetches shard (λ f. after_nothing eq f k) x) [] []
      taken_by later None is = same_settled fetches refl
      taken_by later (Some f) is = taken_settled eq fetches known shard f is (sound shard f is) (alike shard f is) k
          (sym same) o (sym (place_of (Some f) is) ∙ is_open) later

      pub taken_at : (new : List (Opens K N R)) → is_some o.later ≡ true → new
          ≡ at_hash (λ f. after_nothing eq f k) fetches hash → Settles fetches new [] []
      taken_at new later is = subst (λ (g : List (Opens K N R)). Settles fetches g [] []) (sym is)
          (taken_by later (slice_get fetches shard) refl)

      -- or there is none
      nothing_by : o.later ≡ None → (x : Option (Opens K N R)) → slice_get fetches shard ≡ x
          → replaced fetches shard (λ f. after_nothing eq f k) x ≡ replaced fetches shard (λ f. closed eq f k) x
      nothing_by later None is = refl
      nothing_by later (Some f) is =
          ap (slice_set fetches shard)
          (nothing_closed eq fetches known shard f is (sound shard f is) (alike shard f is) k (sym same) o
          (sym (place_of (Some f) is) ∙ is_open) later)

      pub nothing_at : (new : List (Opens K N R)) → o.later ≡ None → new
          ≡ at_hash (λ f. after_nothing eq f k) fetches hash
          → Settles fetches new [] (of_shard shard (numbers_of o.tokens))
      nothing_at new later is =
          subst (λ (p : Option (OpenFetch N R)). Settles fetches new [] (of_shard shard (numbers_of (waiters_of p))))
          is_open (closed_at new (is ∙ nothing_by later (slice_get fetches shard) refl))
