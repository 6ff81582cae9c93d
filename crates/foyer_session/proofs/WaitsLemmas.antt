-- Who waits after a step, and how many.
use Rattle.std.proofs.Common.{◌≡◌, ℕ, ◌+◌, ◌<◌, ◌≤◌, ◌%◌, Bool, true, List, [], ◌++◌, length, Option, Some, None, refl, sym, ap, ◌∙◌, subst, arith, inr}
use Rattle.std.proofs.Math.Logic.{∥∥₁_elim, ∥∥₁_map}
use Rattle.std.proofs.Props.{props}
use Rattle.std.specs.Prelude.{slice_get, option_and_then}
use Rattle.std.proofs.lemmas.List.{length-append, length-map}
use Rattle.foyer_core.specs.CoreFetches.{at_hash, open_in}
use Rattle.foyer_core.specs.Idle.{NoneOpen}
use Rattle.foyer_core.specs.Indexer.{same_key}
use Rattle.foyer_core.specs.Inflight.{AreOpen, Opens, OpenFetch, closed, waiters_of}
use Rattle.foyer_core.specs.declared.outcome.Waiting.{Waiting}
use Rattle.foyer_session.specs.Ledger.{Settles, of_shard}
use Rattle.foyer_session.specs.Tokens.{numbers_of}
use Rattle.foyer_session.specs.Waits.{IsWaiting, SoManyWait, times}
use Rattle.foyer_session.proofs.LedgerFetches.{closed_at}
use Rattle.foyer_session.proofs.LedgerTokens.{times_append}
use Rattle.foyer_session.proofs.TokenLemmas.{StandIn, length_without_all, times_without_all, without_all}

-- how many tokens of a shard these are
pub of_shard_long : {N : Type 0} (shard : ℕ) (waiters : List (Waiting N)) →
    length (of_shard shard (numbers_of waiters)) ≡ length waiters
of_shard_long {N} shard waiters =
    length-map (numbers_of waiters) (λ (token : ℕ). (shard, token)) ∙ length-map waiters (λ (w : Waiting N). w.token)

module _ {K N R : Type 0} where
  -- the same where the fetches stay
  pub still_waiting : (old new : List (Opens K N R)) (count : ℕ) → new ≡ old → ∥ SoManyWait old count ∥₁ →
      ∥ SoManyWait new count ∥₁
  still_waiting old new count same waits =
      subst (λ (f : List (Opens K N R)). ∥ SoManyWait f count ∥₁) (sym same) waits

  pub none_wait : (fetches : List (Opens K N R)) → NoneOpen fetches → SoManyWait fetches 0
  none_wait fetches none = record {
    tokens = [];
    counted = refl;
    each = λ i t. inr (
      λ w. (let e : ◌≡◌ {A = Option (OpenFetch N R)} None (Some w.opened) = sym (none w.key) ∙ w.is_open in cc),
      refl,
    );
  }

  module _ (old new : List (Opens K N R)) (issued handed : List (ℕ × ℕ)) (settles : Settles old new issued handed)
      (count : ℕ) where
    -- what is handed out waited or was issued
    all_stand : (w : SoManyWait old count) → StandIn handed (issued ++ w.tokens)
    all_stand w j s =
        let even = settles.even j s (times j s w.tokens) (w.each j s) in
        omega (arith, even.2, times_append j s issued w.tokens)

    -- so it is no more than that
    pub settled_counted : ∥ SoManyWait old count ∥₁ → length handed ≤ count + length issued
    settled_counted waits = ∥∥₁_elim waits (hlevel props) (λ w.
        let long = length_without_all handed (issued ++ w.tokens) (all_stand w) in
        omega (arith, long, length-append issued w.tokens, w.counted))

    -- and the rest waits
    pub settled_waiting : (left : ℕ) → left + length handed ≡ count + length issued → ∥ SoManyWait old count ∥₁ →
        ∥ SoManyWait new left ∥₁
    settled_waiting left balance waits = ∥∥₁_map waits (λ w.
        let tokens : List (ℕ × ℕ) = without_all handed (issued ++ w.tokens) in
        let long = length_without_all handed (issued ++ w.tokens) (all_stand w) in
        record {
          tokens = tokens;
          counted = omega (arith, long, length-append issued w.tokens, w.counted, balance);
          each = λ j s.
              let even = settles.even j s (times j s w.tokens) (w.each j s) in
              let then : even.0 ≡ times j s tokens =
              omega (
                arith,
                even.2,
                times_append j s issued w.tokens,
                times_without_all handed (issued ++ w.tokens) (all_stand w) j s,
              ) in
              subst (λ (n : ℕ). IsWaiting new j s n) then even.1;
        })

-- the fetch of a hashed key, in its shard
module _ {K N R : Type 0} (eq : K → K → Bool) (fetches : List (Opens K N R))
    (sound : (i : ℕ) (f : Opens K N R) → slice_get fetches i ≡ Some f → AreOpen eq f)
    (alike : (i : ℕ) (f : Opens K N R) → slice_get fetches i ≡ Some f → (p q : ℕ × K) → same_key eq p q ≡ true →
    f.by_key p ≡ f.by_key q)
    (k : ℕ × K) (hash : ℕ) (same : hash % length fetches ≡ k.0 % length fetches) (count : ℕ) where
  -- no more wait for a key than wait
  pub waiting_counted : ∥ SoManyWait fetches count ∥₁ → length (waiters_of (open_in fetches k)) ≤ count
  waiting_counted waits =
      let new : List (Opens K N R) = at_hash (λ f. closed eq f k) fetches hash in
      let few = settled_counted fetches new [] _ (closed_at eq fetches sound alike k hash same new refl) count waits in
      omega (arith, few, of_shard_long (hash % length fetches) (waiters_of (open_in fetches k)))

  -- and once its fetch is closed, so many less
  pub closed_waiting : (new : List (Opens K N R)) (left : ℕ) → new ≡ at_hash (λ f. closed eq f k) fetches hash →
      left + length (waiters_of (open_in fetches k)) ≡ count → ∥ SoManyWait fetches count ∥₁ → ∥ SoManyWait new left ∥₁
  closed_waiting new left closed_is less waits =
      settled_waiting fetches new [] _ (closed_at eq fetches sound alike k hash same new closed_is) count left
      (omega (arith, less, of_shard_long (hash % length fetches) (waiters_of (open_in fetches k)))) waits

-- someone waits for each fetch
pub place_waits : {K N R : Type 0} (eq : K → K → Bool) (fetches : List (Opens K N R)) →
    ((i : ℕ) (f : Opens K N R) → slice_get fetches i ≡ Some f → AreOpen eq f)
    → (q : ℕ × K) (o : OpenFetch N R) → open_in fetches q ≡ Some o → 0 < length o.tokens
place_waits {K} {N} {R} eq fetches sound q o there = go (slice_get fetches (q.0 % length fetches)) refl where
  go : (f : Option (Opens K N R)) → slice_get fetches (q.0 % length fetches) ≡ f → 0 < length o.tokens
  go None is =
      absurd (let e : ◌≡◌ {A = Option (OpenFetch N R)} None (Some o) =
      sym (ap (option_and_then (λ (g : Opens K N R). g.by_key q)) is) ∙ there in cc)
  go (Some f) is = (sound (q.0 % length fetches) f is).waited q o
      (sym (ap (option_and_then (λ (g : Opens K N R). g.by_key q)) is) ∙ there)
