-- What the calls for fetches make of a cache of bytes, by the steps of its core.
use Rattle.std.specs.Prelude.{◌≡◌, ℕ, ◌⊎◌, Bool, true, List, None, Some, Result, Ok, Err}
use Rattle.slab.specs.Slab.{Updates, get}
use Rattle.foyer_policy.specs.Errors.{number_of}
use Rattle.foyer_policy.specs.declared.error.Reason.{Reason}
use Rattle.foyer_policy.specs.declared.error.Reason.TheVariants.{TaskCancelled}
use Rattle.foyer_policy.specs.declared.types.Source.TheVariants.{Outer}
use Rattle.foyer_core.specs.declared.outcome.Ended.{Ended}
use Rattle.foyer_core.specs.declared.outcome.FetchTarget.TheVariants.{Entry as EntryTarget}
use Rattle.foyer_core.specs.declared.outcome.Lookup.{Lookup}
use Rattle.foyer_core.specs.declared.outcome.Lookup.TheVariants.{Hit, Lead, Wait}
use Rattle.foyer_core.specs.CoreFetches.{AtOpen, Completed, EndsAt, open_in}
use Rattle.foyer_core.specs.Cores.{core_of, fetches_of, hashes_of, meaning_of_core}
use Rattle.foyer_core.specs.Fetching.{LooksUp}
use Rattle.foyer_core.specs.Inflight.{asked}
use Rattle.foyer_core.specs.State.{at_moment}
use Rattle.foyer_core.specs.Values.{Answered}
use Rattle.foyer_core.specs.Waited.{ending_of}
use Rattle.luffapricot_c.specs.declared.cache.ByteCache.{ByteCache}
use Rattle.luffapricot_c.specs.declared.fetches.LuffaFetch.{LuffaFetch}
use Rattle.luffapricot_c.specs.declared.hold.Held.TheVariants.{Waiting}
use Rattle.luffapricot_c.specs.declared.key.Key.{Key}
use Rattle.luffapricot_c.specs.declared.record.LuffaRecord.{LuffaRecord}
use Rattle.luffapricot_c.specs.declared.terms.LuffaTerms.{LuffaTerms}
use Rattle.luffapricot_c.specs.declared.value.Value.{Value}
use Rattle.luffapricot_c.specs.Bytes.{IsKey, IsValue, admitted_with, properties_of}
use Rattle.luffapricot_c.specs.Calls.{HoldsEntry, IsToldOf, Lacks}
use Rattle.luffapricot_c.specs.Frames.{Frames}
use Rattle.luffapricot_c.specs.Holds.{given}
use Rattle.luffapricot_c.specs.Named.{named_of}
use Rattle.luffapricot_c.specs.Statuses.{open_status}

-- 0 for a hit, 102 for who leads the fetch, 103 for who waits, or the number of the refusal
abbrev pub looked_of : Result (Lookup Key Value Answered (Unit {0})) Reason → ℕ
looked_of (Ok (Hit _)) = 0
looked_of (Ok (Lead _ _ _)) = 102
looked_of (Ok (Wait _)) = 103
looked_of (Err reason) = number_of reason

-- a look-up of a key by the core, for which this number would wait
abbrev pub CoreLooksUp : ℕ → Key → ℕ → Result (Lookup Key Value Answered (Unit {0})) Reason → ByteCache → ByteCache → Type 0
CoreLooksUp now k number answer old new =
    AtOpen (λ s f t g. LooksUp (meaning_of_core old.core) now s f (hashes_of old.core k, k) number None answer t g)
    (hashes_of old.core k) (core_of old.core) (fetches_of old.core) (core_of new.core) (fetches_of new.core)

-- a number, which named nothing before, waits for the fetch of a key
abbrev pub HoldsWait : LuffaRecord → ByteCache → ByteCache → Type 0
HoldsWait shown old new = (shown.number ≡ old.holds.vacant_key) × (get old.holds shown.number ≡ None)
    × Updates old.holds new.holds shown.number (Some (record { held = Waiting }))

-- what is held of a look-up, and the numbers that C gets of a fetch
abbrev pub HoldsLookup : Result (Lookup Key Value Answered (Unit {0})) Reason → LuffaRecord → LuffaFetch → ByteCache →
    ByteCache → Type 0
HoldsLookup (Ok (Hit entry)) shown fetch old new =
    HoldsEntry (named_of entry) entry.kept shown old.holds new.holds
HoldsLookup (Ok (Lead id token _)) shown fetch old new = (fetch.fetch ≡ id) × (fetch.token ≡ token)
    × HoldsWait shown old new
HoldsLookup (Ok (Wait token)) shown fetch old new = (fetch.token ≡ token) × HoldsWait shown old new
HoldsLookup (Err _) shown fetch old new = new.holds.slots ≡ old.holds.slots

-- a look-up that may lead a fetch or wait for one
pub record LooksUpKey (now hash : ℕ) (key : List ℕ) (status : ℕ) (shown : LuffaRecord) (fetch : LuffaFetch)
    (old new : ByteCache) : Type 0 where
  pub own : Key
  pub own_is : IsKey hash key own
  pub answer : Result (Lookup Key Value Answered (Unit {0})) Reason
  pub looks : CoreLooksUp now own old.holds.vacant_key answer old new
  pub status_is : status ≡ looked_of answer
  pub holds : HoldsLookup answer shown fetch old new
  pub rest : Frames (record old { core = new.core; holds = new.holds }) new

-- so by its answer: it may also fail for want of memory before the core is asked
abbrev pub Fetches : ℕ → ℕ → List ℕ → Result ℕ Reason → LuffaRecord → LuffaFetch → ByteCache → ByteCache → Type 0
Fetches now hash key (Ok status) shown fetch old new = LooksUpKey now hash key status shown fetch old new
Fetches now hash key (Err reason) shown fetch old new = Lacks reason old new
    ⊎ LooksUpKey now hash key (number_of reason) shown fetch old new

-- a fetch ends with a value
pub record CompletesKey (now hash : ℕ) (key : List ℕ) (fetch : ℕ) (bytes : List ℕ) (terms : LuffaTerms) (status : ℕ)
    (old new : ByteCache) : Type 0 where
  pub own : Key
  pub own_is : IsKey hash key own
  pub value : Value
  pub value_is : IsValue bytes 0 terms.weight value
  pub ended : Ended Key Value Answered ℕ
  pub completes : Completed (at_moment now (meaning_of_core old.core)) (record {
    hash = hashes_of old.core;
    weighs = λ _ v weight. weight ≡ v.weight;
    admits = λ _ _ admitted. admitted ≡ true;
    properties = admitted_with;
  }) Outer (EntryTarget value (properties_of terms)) (hashes_of old.core own, own)
      (asked (Some fetch) (open_in (fetches_of old.core) (hashes_of old.core own, own))) (ending_of ended)
      (core_of old.core) (fetches_of old.core) (core_of new.core) (fetches_of new.core)
  pub status_is : status ≡ open_status ended.found
  pub told : IsToldOf ended.leaves.items old new
  pub answered : new.holds ≡ given ended.answers old.holds
  pub rest : Frames (record old { core = new.core; holds = new.holds; left = new.left }) new

-- so by its answer, or memory is refused before the core is asked
abbrev pub CompletesOr : ℕ → ℕ → List ℕ → ℕ → List ℕ → LuffaTerms → Result ℕ Reason → ByteCache → ByteCache → Type 0
CompletesOr now hash key fetch bytes terms (Ok status) old new = CompletesKey now hash key fetch bytes terms status old new
CompletesOr now hash key fetch bytes terms (Err reason) old new = Lacks reason old new

-- a fetch ends without a value
pub record CancelsKey (hash : ℕ) (key : List ℕ) (fetch : ℕ) (found : Bool) (old new : ByteCache) : Type 0 where
  pub own : Key
  pub own_is : IsKey hash key own
  pub ended : Ended Key Value Answered ℕ
  pub ends : EndsAt (hashes_of old.core own, own) fetch (meaning_of_core old.core).same TaskCancelled
      (fetches_of old.core) (ending_of ended) (fetches_of new.core)
  pub core : core_of new.core ≡ core_of old.core
  pub found_is : found ≡ ended.found
  pub answered : new.holds ≡ given ended.answers old.holds
  pub rest : Frames (record old { core = new.core; holds = new.holds }) new

abbrev pub Cancels : ℕ → List ℕ → ℕ → Result Bool Reason → ByteCache → ByteCache → Type 0
Cancels hash key fetch (Ok found) old new = CancelsKey hash key fetch found old new
Cancels hash key fetch (Err reason) old new = Lacks reason old new
