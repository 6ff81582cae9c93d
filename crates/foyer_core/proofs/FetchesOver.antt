-- The open fetches of a core as what a list of shards shows.
use Rattle.std.proofs.Common.{◌≡◌, ℕ, ◌%◌, ◌<◌, List, [], ◌∷◌, ◌++◌, Bool, map, length, Option, None, Some, sym, ◌∙◌, ap, subst}
use Rattle.std.specs.Prelude.{All, IfNone, OnSome, slice_get, slice_set, slice_index_or, option_and_then, option_map}
use Rattle.std.proofs.lemmas.List.{length-map, map-append, map-set}
use Rattle.std.proofs.lemmas.List.Elements.{All-push}
use Rattle.std.proofs.lemmas.Option.{slice_get-map, slice_get_read}
use Rattle.foyer_core.specs.CoreFetches.{AtOpen, EndsAt, EndsIn, at_hash, open_in, replaced}
use Rattle.foyer_core.specs.Fetching.{EndsBy}
use Rattle.foyer_core.specs.Inflight.{Opens, OpenFetch, asked, closed, no_opens}
use Rattle.foyer_core.specs.State.{State}
use Rattle.foyer_core.specs.Waited.{Ending}
use Rattle.foyer_policy.specs.declared.error.Reason.{Reason}
use Rattle.foyer_core.proofs.CoreLemmas.{core_over, shard_over}
use Rattle.foyer_core.proofs.Zips.{map-write}

-- what holds of an answer, from what does
pub on_some_weaker : {A P Q : Type 0} (o : Option A) → (P → Q) → OnSome o P → OnSome o Q
on_some_weaker None f h = tt
on_some_weaker (Some a) f h = f h

pub if_none_weaker : {A P Q : Type 0} (o : Option A) → (P → Q) → IfNone o P → IfNone o Q
if_none_weaker None f h = f h
if_none_weaker (Some a) f h = tt

-- one more that has no open fetch
pub opens_pushed : {X K N R : Type 0} (h : X → Opens K N R) (old room new : List X) (x : X) → room ≡ old → new ≡ room
    ++ x ∷ [] → All (λ f. f ≡ no_opens) (map h old) → h x ≡ no_opens
    → All (λ f. f ≡ no_opens) (map h new)
opens_pushed h old room new x same is all none =
    rw (is, same, map-append) (All-push (λ f. f ≡ no_opens) (map h old) (h x) all none)

module _ {X K N R : Type 0} (h : X → Opens K N R) (xs : List X) (hash n i : ℕ) (x : X)
    (many : n ≡ length xs) (within : i < n) (place : i ≡ hash % n) (read : x ≡ slice_index_or xs i x) where
  place_of : hash % length (map h xs) ≡ i
  place_of = rw (length-map xs h, ← many) (sym place)

  pub opens_over : slice_get (map h xs) i ≡ Some (h x)
  opens_over = slice_get-map h xs i ∙ ap (option_map h) (slice_get_read xs n i x many within read)

  -- the fetch of a key of this hash
  pub opened_over : (key : K) → open_in (map h xs) (hash, key) ≡ (h x).by_key (hash, key)
  opened_over key = rw place_of (ap (option_and_then (λ (f : Opens K N R). f.by_key (hash, key))) opens_over)

  -- where the open fetches of its shard stay, all do
  pub fetches_stay : (y : X) → h y ≡ h x → map h (slice_set xs i y) ≡ map h xs
  fetches_stay y same = map-write h xs n i x y many within read same

  -- and where they become others, these alone do
  pub fetches_become : (step : Opens K N R → Opens K N R) (y : X) → h y ≡ step (h x) → map h (slice_set xs i y)
      ≡ at_hash step (map h xs) hash
  fetches_become step y is =
      map-set h xs i y ∙ ap (λ (o : Opens K N R). slice_set (map h xs) i o) is
      ∙ sym (rw place_of (ap (replaced (map h xs) i step) opens_over))

-- a step of a shard together with its open fetches
pub open_over : {X K V P View S W A N R : Type 0} (f : X → State K V P View) (h : X → Opens K N R) (capacity : ℕ)
    (b : S) (w : W) (a : A) (xs : List X) (hash n i : ℕ) (x : X)
    (many : n ≡ length xs) (within : i < n) (place : i ≡ hash % n) (read : x ≡ slice_index_or xs i x) (y : X)
    (step : State K V P View → Opens K N R → State K V P View → Opens K N R → Type 0) → step (f x) (h x) (f y) (h y)
    → AtOpen step hash (core_over f capacity b w a xs) (map h xs) (core_over f capacity b w a (slice_set xs i y))
    (map h (slice_set xs i y))
open_over {K = K} {V = V} {P = P} {View = View} f h capacity b w a xs hash n i x many within place read y step did =
    let here : hash % length (map f xs) ≡ i = rw (length-map xs f, ← many) (sym place) in
    record {
      before = f x;
      open_before = h x;
      after = f y;
      open_after = h y;
      there = shard_over f capacity b w a xs hash n i x many within place read;
      open_there = rw here (opens_over h xs hash n i x many within place read);
      stepped = did;
      rest = rw here
          (ap (λ (l : List (State K V P View)). record (core_over f capacity b w a xs) { shards = l })
          (map-set f xs i y));
      open_rest = rw here (map-set h xs i y);
    }

-- the end of a fetch in its shard is one in the core
pub ends_over : {X K V P N R : Type 0} (h : X → Opens K N R) (xs : List X) (hash n i : ℕ) (x y : X)
    (many : n ≡ length xs) (within : i < n) (place : i ≡ hash % n) (read : x ≡ slice_index_or xs i x)
    (eq : K → K → Bool) (key : K) (fetch : ℕ) (reason : Reason) (ended : Ending K V P N)
    → EndsBy (asked (Some fetch) ((h x).by_key (hash, key))) eq (hash, key) reason (h x) ended (h y) →
    EndsAt (hash, key) fetch eq reason (map h xs) ended (map h (slice_set xs i y))
ends_over {X} {K} {V} {P} {N} {R} h xs hash n i x y many within place read eq key fetch reason ended did =
    subst (λ (o : Option (OpenFetch N R)). EndsIn (asked (Some fetch) o) eq (hash, key) reason (map h xs) ended
    (map h (slice_set xs i y))) (sym (opened_over h xs hash n i x many within place read key))
    (go (asked (Some fetch) ((h x).by_key (hash, key))) did) where
      go : (o : Option (OpenFetch N R)) → EndsBy o eq (hash, key) reason (h x) ended (h y) →
          EndsIn o eq (hash, key) reason (map h xs) ended (map h (slice_set xs i y))
      go None e = (e.0, fetches_stay h xs hash n i x many within place read y e.1)
      go (Some o) e = (e.0, fetches_become h xs hash n i x many within place read (λ f. closed eq f (hash, key)) y e.1)
