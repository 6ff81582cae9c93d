-- Fetches of a shard that end with a record: what came of it.
use Rattle.std.proofs.Common.{◌≡◌, ℕ, ◌+◌, List, [], Bool, true, Option, Some, None, cond, length, replicate, refl, sym, ap, subst}
use Rattle.std.specs.Prelude.{Result, Ok, Err, IfNone, IfOk, IfSome, IsSomeAnd, MatchResult, unwrap_or}
use Rattle.std.specs.Cmp.{IsEquivalence}
use Rattle.foyer_policy.specs.declared.error.Reason.{Reason}
use Rattle.foyer_policy.specs.declared.error.Reason.TheVariants.{NoMemory}
use Rattle.foyer_policy.specs.declared.types.Event.{Event}
use Rattle.foyer_policy.specs.declared.types.Source.{Source}
use Rattle.foyer_core.specs.declared.outcome.Handles.{Handles}
use Rattle.foyer_core.specs.declared.outcome.Waiting.{Waiting}
use Rattle.foyer_core.specs.declared.record.Data.{Data}
use Rattle.foyer_core.specs.Fetching.{CompletesBy}
use Rattle.foyer_core.specs.Indexer.{same_key, same_key_equiv}
use Rattle.foyer_core.specs.Inflight.{Opens, OpenFetch, closed}
use Rattle.foyer_core.specs.Onto.{shared_out}
use Rattle.foyer_core.specs.State.{Meaning, State, is_phantom_record}
use Rattle.foyer_core.specs.Steps.{Inserts, MayBy, RefusesInsert, newcomer}
use Rattle.foyer_core.specs.Values.{Gone, Incoming}
use Rattle.foyer_core.specs.Waited.{Ending}
use Rattle.foyer_core.proofs.GaveLemmas.{alike_key}
use Rattle.foyer_core.proofs.InflightLemmas.{same_opens}
use Rattle.foyer_core.proofs.Returning.{memory_refuses}
use Rattle.foyer_core.proofs.WaitedLemmas.{completed, completes_by}

-- the fetch of a key is closed, by another key that equals it
pub closed_same : {K N R : Type 0} {eq : K → K → Bool} → IsEquivalence eq →
    (f : Opens K N R) (k l : ℕ × K) → same_key eq k l ≡ true → closed eq f l ≡ closed eq f k
closed_same {N = N} {R = R} {eq = eq} laws f k l alike =
    same_opens (closed eq f l) (closed eq f k)
    (λ q. ap (λ (b : Bool). let o : Option (OpenFetch N R) = cond b None (f.by_key q) in o)
    (sym ((same_key_equiv laws).congr k l q alike))) refl refl

pub closed_alike : {K N R : Type 0} {eq : K → K → Bool} → IsEquivalence eq →
    (f : Opens K N R) (hash hash' : ℕ) (key key' : K) → hash ≡ hash' → eq key key' ≡ true
    → closed eq f (hash', key') ≡ closed eq f (hash, key)
closed_alike {eq = eq} laws f hash hash' key key' hashes same = closed_same laws f (hash, key) (hash', key')
    (subst (λ (h : ℕ). same_key eq (hash, key) (h, key') ≡ true) hashes (alike_key eq hash key key' same))

-- the refusal of a new record that was found, or for want of memory
pub refusal_is : {K V P View C : Type 0} (m : Meaning K P View C) (s : State K V P View) (inc : V → Incoming K V P)
    (refusal : Option Reason)
    → IfSome refusal (λ reason. (value : V) → RefusesInsert m s (inc value) reason [] s) →
    IfNone refusal ((value : V) → MayBy m (is_phantom_record m (inc value).kept) s (inc value))
    → (value : V) → RefusesInsert m s (inc value) (unwrap_or refusal NoMemory) [] s
refusal_is m s inc (Some reason) some none value = some value
refusal_is m s inc None some none value = memory_refuses m s (inc value) (none value)

-- a fetch ends with the refusal of a new record
module _ {K V P View C N R : Type 0} (m : Meaning K P View C) (source : Source) (s t : State K V P View)
    (f g : Opens K N R) (k : ℕ × K) (d : Data K V P) (shut : g ≡ closed m.same f k)
    (p : Option (OpenFetch N R)) (waiters : List (Waiting N)) (there : IsSomeAnd p (λ o. waiters ≡ o.tokens)) where
  pub refused_ends : (n : ℕ) → length waiters ≡ n →
      (reason : Reason) (ls : List (Event × Gone K V P)) (ended : Ending K V P N) → ended
      ≡ record { found = true; waiters = waiters; outcome = Err reason; leaves = ls }
      → RefusesInsert m s (newcomer s d n) reason ls t → CompletesBy m p source s f k d ended t g
  refused_ends n many reason ls ended is h =
      subst (λ (e : Ending K V P N). CompletesBy m p source s f k d e t g) (sym is)
      (completes_by m source s t f g k d shut p waiters there (Err reason) ls
      (subst (λ (i : ℕ). RefusesInsert m s (newcomer s d i) reason ls t) (sym many) h))

  -- and with what came of it: handles for those who wait, or the one refusal
  pub came_ends : (came : Result (Handles K V P) Reason) (ls : List (Event × Gone K V P)) (count : ℕ) → length waiters
      ≡ 1 + count → IfOk came (λ made. made.others.items ≡ replicate count made.entry)
      → MatchResult came (λ made. Inserts m source s (newcomer s d (1 + count)) ls made.entry t)
      (λ error. RefusesInsert m s (newcomer s d (1 + count)) error ls t)
      → (ended : Ending K V P N) → ended
      ≡ record { found = true; waiters = waiters; outcome = shared_out came; leaves = ls }
      → CompletesBy m p source s f k d ended t g
  came_ends (Ok made) ls count many others h ended is = completed m source s t f g k d shut p waiters there count many
      made.entry made.others.items ls ended is others h
  came_ends (Err error) ls count many others h ended is = refused_ends (1 + count) many error ls ended is h
