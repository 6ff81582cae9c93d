-- Which tokens wait once the open fetches of a shard are others.
use Rattle.std.proofs.Common.{◌≡◌, ◌≢◌, ℕ, ◌+◌, ◌<◌, ◌≤◌, ◌%◌, Bool, true, List, [], length, Option, Some, None, refl, sym, ap, ◌∙◌, subst, arith, inl, inr}
use Rattle.std.specs.Prelude.{slice_get, slice_set, option_and_then}
use Rattle.std.proofs.lemmas.Bool.Decides.{eqb_tells}
use Rattle.std.proofs.lemmas.List.{length-set}
use Rattle.foyer_core.specs.Chains.{has}
use Rattle.foyer_core.specs.CoreFetches.{open_in}
use Rattle.foyer_core.specs.Inflight.{AreOpen, Opens, OpenFetch, tokens_of}
use Rattle.foyer_core.proofs.CoreLemmas.{set_apart, set_here}
use Rattle.foyer_session.specs.Ledger.{IsEven, Settles, next_token_in, next_token_of, of_shard}
use Rattle.foyer_session.specs.Waits.{IsWaiting, WaitsIn, times}
use Rattle.foyer_session.proofs.LedgerTokens.{IsCount, count_one, same_count, times_apart}

-- a token waits for a key of this shard, whose open fetches these are
pub record WaitsAt {K N R : Type 0} (shards shard : ℕ) (f : Opens K N R) (token : ℕ) : Type 0 where
  pub key : ℕ × K
  pub home : key.0 % shards ≡ shard
  pub opened : OpenFetch N R
  pub is_open : f.by_key key ≡ Some opened
  pub waits : has token (tokens_of opened) ≡ true

module _ {K N R : Type 0} where
  -- what waits has a number below the next one
  pub all_known : (eq : K → K → Bool) (fetches : List (Opens K N R)) →
      ((i : ℕ) (f : Opens K N R) → slice_get fetches i ≡ Some f → AreOpen eq f)
      → (shard token : ℕ) → WaitsIn fetches shard token → token < next_token_in fetches shard
  all_known eq fetches sound shard token w = go (slice_get fetches shard) refl where
    at : open_in fetches w.key ≡ option_and_then (λ (g : Opens K N R). g.by_key w.key) (slice_get fetches shard)
    at = ap (λ (j : ℕ). option_and_then (λ (g : Opens K N R). g.by_key w.key) (slice_get fetches j)) w.home

    go : (o : Option (Opens K N R)) → slice_get fetches shard ≡ o → token < next_token_of o
    go None is =
        absurd (let e : ◌≡◌ {A = Option (OpenFetch N R)} None (Some w.opened) =
        sym (at ∙ ap (option_and_then (λ (g : Opens K N R). g.by_key w.key)) is) ∙ w.is_open in cc)
    go (Some f) is = (sound shard f is).tokens_below w.key w.opened token
        (sym (at ∙ ap (option_and_then (λ (g : Opens K N R). g.by_key w.key)) is) ∙ w.is_open) w.waits

  -- where the open fetches stay, nothing is issued or handed out
  pub stays_settled : (old new : List (Opens K N R)) → new ≡ old →
      ((shard token : ℕ) → WaitsIn old shard token → token < next_token_in old shard)
      → Settles old new [] []
  stays_settled old new same known = record {
    even = λ shard token n h. (
      n,
      subst (λ (f : List (Opens K N R)). IsWaiting f shard token n) (sym same) h,
      refl,
      (let one = count_one n h in omega (arith, one)),
    );
    fresh = λ shard token some. absurd (omega (arith, some));
    known = known;
    rising = λ shard. (let e = ap (λ (f : List (Opens K N R)). next_token_in f shard) same in omega (arith, e));
  }

  module _ (fetches : List (Opens K N R)) (i : ℕ) (f : Opens K N R) (there : slice_get fetches i ≡ Some f) where
    pub place_at : (fs : List (Opens K N R)) (g : Opens K N R) (n : ℕ) (q : ℕ × K) → slice_get fs i ≡ Some g → q.0 % n
        ≡ i → length fs ≡ n
        → open_in fs q ≡ g.by_key q
    place_at fs g n q is home long =
        ap (λ (m : ℕ). option_and_then (λ (x : Opens K N R). x.by_key q) (slice_get fs (q.0 % m))) long
        ∙ ap (λ (j : ℕ). option_and_then (λ (x : Opens K N R). x.by_key q) (slice_get fs j)) home
        ∙ ap (option_and_then (λ (x : Opens K N R). x.by_key q)) is

    -- who waits in the shard
    from_shard : (t : ℕ) → WaitsIn fetches i t → WaitsAt (length fetches) i f t
    from_shard t w =
        record {
          key = w.key;
          home = w.home;
          opened = w.opened;
          is_open =
              sym (place_at fetches f (length fetches) w.key there w.home refl) ∙ w.is_open;
          waits = w.waits;
        }

    pub to_shard : (t : ℕ) → WaitsAt (length fetches) i f t → WaitsIn fetches i t
    to_shard t w =
        record {
          key = w.key;
          home = w.home;
          opened = w.opened;
          is_open =
              place_at fetches f (length fetches) w.key there w.home refl ∙ w.is_open;
          waits = w.waits;
        }

    module _ (g : Opens K N R) where
      abbrev new : List (Opens K N R)
      new = slice_set fetches i g

      long : length new ≡ length fetches
      long = length-set fetches i g

      old_home : (q : ℕ × K) (j : ℕ) → q.0 % length new ≡ j → q.0 % length fetches ≡ j
      old_home q j home = sym (ap (λ (n : ℕ). q.0 % n) long) ∙ home

      new_home : (q : ℕ × K) (j : ℕ) → q.0 % length fetches ≡ j → q.0 % length new ≡ j
      new_home q j home = ap (λ (n : ℕ). q.0 % n) long ∙ home

      -- who waits there once its open fetches are others
      from_new : (t : ℕ) → WaitsIn new i t → WaitsAt (length fetches) i g t
      from_new t w =
          let home = old_home w.key i w.home in
          record {
            key = w.key;
            home = home;
            opened = w.opened;
            is_open =
                sym (place_at new g (length fetches) w.key (set_here fetches i f g there) home long) ∙ w.is_open;
            waits =
                w.waits;
          }

      to_new : (t : ℕ) → WaitsAt (length fetches) i g t → WaitsIn new i t
      to_new t w =
          record {
            key = w.key;
            home = new_home w.key i w.home;
            opened = w.opened;
            is_open =
                place_at new g (length fetches) w.key (set_here fetches i f g there) w.home long ∙ w.is_open;
            waits =
                w.waits;
          }

      -- and in another shard
      pub apart_place : (q : ℕ × K) (j : ℕ) → j ≢ i → q.0 % length fetches ≡ j → open_in new q ≡ open_in fetches q
      apart_place q j apart home =
          ap (λ (m : ℕ). option_and_then (λ (x : Opens K N R). x.by_key q) (slice_get new (q.0 % m))) long
          ∙ ap (option_and_then (λ (x : Opens K N R). x.by_key q))
          (ap (slice_get new) home ∙ set_apart fetches i j g apart ∙ ap (slice_get fetches) (sym home))

      apart_from : (j t : ℕ) → j ≢ i → WaitsIn new j t → WaitsIn fetches j t
      apart_from j t apart w =
          let home = old_home w.key j w.home in
          record {
            key = w.key;
            home = home;
            opened = w.opened;
            is_open = sym (apart_place w.key j apart home)
                ∙ w.is_open;
            waits = w.waits;
          }

      apart_to : (j t : ℕ) → j ≢ i → WaitsIn fetches j t → WaitsIn new j t
      apart_to j t apart w =
          record {
            key = w.key;
            home = new_home w.key j w.home;
            opened = w.opened;
            is_open =
                apart_place w.key j apart w.home ∙ w.is_open;
            waits = w.waits;
          }

      -- the next tokens
      next_here : next_token_in new i ≡ g.next_token
      next_here = ap next_token_of (set_here fetches i f g there)

      next_before : next_token_in fetches i ≡ f.next_token
      next_before = ap next_token_of there

      next_apart : (j : ℕ) → j ≢ i → next_token_in new j ≡ next_token_in fetches j
      next_apart j apart = ap next_token_of (set_apart fetches i j g apart)

      -- so often a token of the shard waits, is issued and handed out
      abbrev pub IsEvenAt : List ℕ → List ℕ → ℕ → ℕ → Type 0
      IsEvenAt issued handed token before =
          (after : ℕ) × IsCount (WaitsAt (length fetches) i g token) after
          × (before + times i token (of_shard i issued) ≡ after + times i token (of_shard i handed))
          × (before + times i token (of_shard i issued) ≤ 1)

      -- what is settled in the shard is settled
      pub shard_settled : (issued handed : List ℕ) →
          ((shard token : ℕ) → WaitsIn fetches shard token → token < next_token_in fetches shard)
          → f.next_token ≤ g.next_token
          → ((token : ℕ) → 0 < times i token (of_shard i issued) → (f.next_token ≤ token) × (token < g.next_token))
          → ((token before : ℕ) → IsCount (WaitsAt (length fetches) i f token) before →
          IsEvenAt issued handed token before)
          → Settles fetches new (of_shard i issued) (of_shard i handed)
      shard_settled issued handed known rises fresh even =
          record { even = all_even; fresh = all_fresh; known = known; rising = all_rising } where
            at_shard : (token n : ℕ) → IsWaiting fetches i token n →
                IsEven fetches new (of_shard i issued) (of_shard i handed) i token n
            at_shard token n h =
                let e = even token n (same_count n (from_shard token) (to_shard token) h) in
                (e.0, same_count e.0 (to_new token) (from_new token) e.1, e.2, e.3)

            all_even : (shard token n : ℕ) → IsWaiting fetches shard token n →
                IsEven fetches new (of_shard i issued) (of_shard i handed) shard token n
            all_even shard token n h = elim (eqb_tells shard i) [
              | inl e ↦ subst (λ (j : ℕ). IsEven fetches new (of_shard i issued) (of_shard i handed) j token n) (sym e.1)
                  (at_shard token n (subst (λ (j : ℕ). IsWaiting fetches j token n) e.1 h))
              | inr e ↦ (let one = count_one n h in
                  let zero_issued = times_apart i shard token issued e.1 in
                  let none = times_apart i shard token handed e.1 in (
                    n,
                    same_count n (apart_to shard token e.1) (apart_from shard token e.1) h,
                    omega (arith, zero_issued, none),
                    omega (arith, zero_issued, one),
                  ))
            ]

            all_fresh : (shard token : ℕ) → 0 < times shard token (of_shard i issued) →
                (next_token_in fetches shard ≤ token) × (token < next_token_in new shard)
            all_fresh shard token some = elim (eqb_tells shard i) [
              | inl e ↦ (let h = fresh token (subst (λ (j : ℕ). 0 < times j token (of_shard i issued)) e.1 some) in
                  let from : next_token_in fetches shard ≡ f.next_token = ap (next_token_in fetches) e.1 ∙ next_before in
                  let to : next_token_in new shard ≡ g.next_token = ap (next_token_in new) e.1 ∙ next_here in
                  (omega (arith, from, h.0), omega (arith, to, h.1)))
              | inr e ↦
                  (let zero_issued = times_apart i shard token issued e.1 in absurd (omega (arith, zero_issued, some)))
            ]

            all_rising : (shard : ℕ) → next_token_in fetches shard ≤ next_token_in new shard
            all_rising shard = elim (eqb_tells shard i) [
              | inl e ↦
                  (let from : next_token_in fetches shard ≡ f.next_token = ap (next_token_in fetches) e.1 ∙ next_before in
                  let to : next_token_in new shard ≡ g.next_token = ap (next_token_in new) e.1 ∙ next_here in
                  omega (arith, from, to, rises))
              | inr e ↦ (let same = next_apart shard e.1 in omega (arith, same))
            ]
