-- The open fetches of a shard.
use Rattle.std.specs.Prelude.{◌≡◌, ℕ, ◌<◌, ◌≤◌, ◌⊎◌, List, [], ◌∷◌, ◌++◌, Bool, true, Option, Some, None, length, map, nat_eq, ◌+◌, ◌==◌, if◌then◌else◌, is_some, IsSomeAnd, option_and_then}
use Rattle.std.specs.List.{IsDistinct}
use Rattle.std.specs.Map.{lookup, update}
use Rattle.std.proofs.Props.{props}
use Rattle.std.proofs.lemmas.Map.Keys.{IsDistinct-prop}
use Rattle.std.specs.declared.cmp.PartialEq.{Ghosts as EqGhosts}
use Rattle.std.specs.declared.hash.Hash.{Ghosts as HashGhosts}
use Rattle.std.specs.declared.clone.Clone.{Ghosts as CloneGhosts}
use Rattle.foyer_policy.specs.declared.error.Reason.{Reason}
use Rattle.foyer_policy.specs.declared.error.Reason.TheVariants.{Ids, NoMemory}
use Rattle.foyer_core.specs.Indexer.{same_key}
use Rattle.foyer_core.specs.Chains.{entries_of, has}
use Rattle.foyer_core.specs.declared.indexer.hash_table.HashTableIndexer.{HashTableIndexer}
use Rattle.foyer_core.specs.declared.inflight.Enqueue.{Enqueue}
use Rattle.foyer_core.specs.declared.inflight.Enqueue.TheVariants.{Lead, Wait}
use Rattle.foyer_core.specs.declared.inflight.FetchOrTake.{FetchOrTake}
use Rattle.foyer_core.specs.declared.inflight.FetchOrTake.TheVariants.{Fetch, Notifiers}
use Rattle.foyer_core.specs.declared.outcome.Waiting.{Waiting}

-- a key's open fetch: its number, the moment at which it was opened, the tokens that wait for it in order, each with
-- who waits, and the first builder that one who waits brought
pub record OpenFetch (N R : Type 0) : Type 0 where
  pub fetch : ℕ
  pub opened : ℕ
  pub tokens : List (Waiting N)
  pub later : Option R

module _ {R : Type 0} where
  -- the first of two builders that is there
  abbrev pub first_of : Option R → Option R → Option R
  first_of None other = other
  first_of (Some r) other = Some r

module _ {N R : Type 0} where
  abbrev pub tokens_of : OpenFetch N R → List ℕ
  tokens_of o = map (λ w. w.token) o.tokens

  -- the open fetch once this one waits for it too, with this builder. Where there is none, one opens now with this
  -- number, and who leads it keeps the builder
  abbrev pub joined : Option (OpenFetch N R) → ℕ → ℕ → Waiting N → Option R → OpenFetch N R
  joined None now fetch w later = record { fetch = fetch; opened = now; tokens = w ∷ []; later = None }
  joined (Some o) now fetch w later = record o { tokens = o.tokens ++ w ∷ []; later = first_of o.later later }

  -- what one gets who asks, where these are the next numbers
  abbrev pub enqueued : Option (OpenFetch N R) → ℕ → ℕ → Option R → Enqueue R
  enqueued None fetch token later = Lead fetch token later
  enqueued (Some o) fetch token later = Wait token

  -- the open fetch, unless another was asked for
  abbrev pub asked : Option ℕ → Option (OpenFetch N R) → Option (OpenFetch N R)
  asked fetch None = None
  asked None (Some o) = Some o
  asked (Some fetch) (Some o) = if o.fetch == fetch then Some o else None

  abbrev pub waiters_of : Option (OpenFetch N R) → List (Waiting N)
  waiters_of None = []
  waiters_of (Some o) = o.tokens

  -- what a fetch gets that found nothing: the builder that is kept, or else who waits
  abbrev pub IsFetchOrTake : OpenFetch N R → FetchOrTake R N → Type 0
  IsFetchOrTake o (Fetch builder) = o.later ≡ Some builder
  IsFetchOrTake o (Notifiers waiters) = (o.later ≡ None) × (waiters.items ≡ o.tokens)

  -- what then is open of it: all but the builder, or nothing
  abbrev pub without_later : OpenFetch N R → Option (OpenFetch N R)
  without_later o = if is_some o.later then Some (record o { later = None }) else None

-- the open fetches of a shard by their hashed keys, with the number of the next one and the next token
pub record Opens (K N R : Type 0) : Type 0 where
  pub by_key : ℕ × K → Option (OpenFetch N R)
  pub next_fetch : ℕ
  pub next_token : ℕ

module _ {K N R : Type 0} where
  -- this fetch of a key is open
  abbrev pub IsOpen : Opens K N R → ℕ × K → ℕ → Type 0
  IsOpen f q fetch = IsSomeAnd (f.by_key q) (λ o. o.fetch ≡ fetch)

  -- there is a token for one more who asks for this key, and a fetch if none is open; both below this number
  abbrev pub HasNumbers : ℕ → Opens K N R → ℕ × K → Type 0
  HasNumbers ids f q = (f.next_token < ids) × (f.by_key q ≡ None → f.next_fetch < ids)

  abbrev pub LacksNumber : ℕ → Opens K N R → ℕ × K → Type 0
  LacksNumber ids f q = (ids ≤ f.next_token) ⊎ ((f.by_key q ≡ None) × (ids ≤ f.next_fetch))

  -- the next fetch, once one more asked for this key
  abbrev pub next_fetch_after : Opens K N R → ℕ × K → ℕ
  next_fetch_after f q = if is_some (f.by_key q) then f.next_fetch else f.next_fetch + 1

  -- why one more cannot ask for this key
  abbrev pub RefusesEnqueue : ℕ → Opens K N R → ℕ × K → Reason → Type 0
  RefusesEnqueue ids f q Ids = LacksNumber ids f q
  RefusesEnqueue ids f q NoMemory = HasNumbers ids f q
  RefusesEnqueue ids f q _ = ⊥

  -- no fetch is open, and none ever was
  abbrev pub no_opens : Opens K N R
  no_opens = record { by_key = λ q. None; next_fetch = 0; next_token = 0 }

  -- `eq` says when keys are equal: the open fetch of a key is this one, or it has none
  abbrev pub with_open : (K → K → Bool) → Opens K N R → ℕ × K → Option (OpenFetch N R) → Opens K N R
  with_open eq f k w = record f { by_key = update (same_key eq) f.by_key k w }

  -- the fetch of a key is closed
  abbrev pub closed : (K → K → Bool) → Opens K N R → ℕ × K → Opens K N R
  closed eq f k = with_open eq f k None

  -- one more asked for a key at a moment
  abbrev pub after_enqueue : (K → K → Bool) → ℕ → Opens K N R → ℕ × K → N → Option R → Opens K N R
  after_enqueue eq now f k waiter later = record {
    by_key = update (same_key eq) f.by_key k
        (Some (joined (f.by_key k) now f.next_fetch (record { token = f.next_token; waiter = waiter }) later));
    next_fetch = next_fetch_after f k;
    next_token = f.next_token + 1;
  }

  -- a fetch of a key found nothing: it goes on with the builder that is kept, or else it is closed
  abbrev pub after_nothing : (K → K → Bool) → Opens K N R → ℕ × K → Opens K N R
  after_nothing eq f k = with_open eq f k (option_and_then without_later (f.by_key k))

  -- someone waits for each open fetch. No fetch and no token stands twice, and all are below the next ones
  pub record AreOpen (eq : K → K → Bool) (f : Opens K N R) : Type 0 where
    pub waited : (q : ℕ × K) (o : OpenFetch N R) → f.by_key q ≡ Some o → 0 < length o.tokens
    pub below : (q : ℕ × K) (o : OpenFetch N R) → f.by_key q ≡ Some o → o.fetch < f.next_fetch
    pub tokens_below : (q : ℕ × K) (o : OpenFetch N R) (t : ℕ) → f.by_key q ≡ Some o → has t (tokens_of o) ≡ true →
        t < f.next_token
    pub once : (q : ℕ × K) (o : OpenFetch N R) → f.by_key q ≡ Some o → IsDistinct nat_eq (tokens_of o)
    pub one_fetch : (p q : ℕ × K) (a b : OpenFetch N R) → f.by_key p ≡ Some a → f.by_key q ≡ Some b → a.fetch ≡ b.fetch →
        same_key eq p q ≡ true
    pub one_open : (p q : ℕ × K) (a b : OpenFetch N R) (t : ℕ) → f.by_key p ≡ Some a → f.by_key q ≡ Some b →
        has t (tokens_of a) ≡ true → has t (tokens_of b) ≡ true → same_key eq p q ≡ true

  pub AreOpen-prop : (eq : K → K → Bool) (f : Opens K N R) → IsProp (AreOpen eq f)
  AreOpen-prop eq f = hlevel (props, IsDistinct-prop)

  -- each key leads to an open fetch, and no two keys to one
  pub record AreLinked (eq : K → K → Bool) (numbers : ℕ × K → Option ℕ) (slots : ℕ → Option (OpenFetch N R)) : Type 0 where
    pub led : (q : ℕ × K) (n : ℕ) → numbers q ≡ Some n → is_some (slots n) ≡ true
    pub apart : (p q : ℕ × K) (n : ℕ) → numbers p ≡ Some n → numbers q ≡ Some n → same_key eq p q ≡ true

  -- the open fetches, where a key leads to a number, and a number to an open fetch
  abbrev pub opens_by : (ℕ × K → Option ℕ) → (ℕ → Option (OpenFetch N R)) → ℕ → ℕ → Opens K N R
  opens_by numbers slots id token =
      record { by_key = λ q. option_and_then slots (numbers q); next_fetch = id; next_token = token }

-- the number under a hashed key
module _ {K : Type 0} {q : EqGhosts K} {h : HashGhosts K} {c : CloneGhosts K} where
  abbrev pub numbers_in : HashTableIndexer K q h c → ℕ × K → Option ℕ
  numbers_in index key = lookup (same_key q.eq key) (entries_of index.pairs.items)
