-- The steps of a shard that begin and end fetches.
use Rattle.std.specs.Prelude.{◌≡◌, ℕ, Bool, true, List, [], Option, Some, None, Result, Ok, Err, length, replicate}
use Rattle.foyer_policy.specs.Moments.{is_expired}
use Rattle.foyer_policy.specs.declared.error.Reason.{Reason}
use Rattle.foyer_policy.specs.declared.types.Event.{Event}
use Rattle.foyer_policy.specs.declared.types.Source.{Source}
use Rattle.foyer_core.specs.declared.inflight.Enqueue.{Enqueue}
use Rattle.foyer_core.specs.declared.inflight.Enqueue.TheVariants.{Lead as LeadsFetch, Wait as WaitsFetch}
use Rattle.foyer_core.specs.declared.outcome.Lookup.{Lookup}
use Rattle.foyer_core.specs.declared.outcome.Lookup.TheVariants.{Hit, Lead, Wait}
use Rattle.foyer_core.specs.declared.record.Data.{Data}
use Rattle.foyer_core.specs.Inflight.{HasNumbers, Opens, OpenFetch, RefusesEnqueue, after_enqueue, closed, enqueued}
use Rattle.foyer_core.specs.State.{Meaning, State, hit}
use Rattle.foyer_core.specs.Pieces.{RefusesReturn, Returns}
use Rattle.foyer_core.specs.Steps.{Gets, Inserts, RefusesInsert, newcomer}
use Rattle.foyer_core.specs.Values.{Carried, Gone, Held, Incoming, Rec}
use Rattle.foyer_core.specs.Waited.{Ending, lost}

module _ {K V P View C : Type 0} (m : Meaning K P View C) where
  -- What those get who wait for a record that comes in: an entry like this one each, or the one refusal of it.
  abbrev pub Arrives : Source → State K V P View → Incoming K V P → Result (Option (List (Held K V P))) Reason →
      List (Event × Gone K V P) → State K V P View → Type 0
  Arrives source old i (Ok (Some entries)) ls new = (entry : Held K V P) × Inserts m source old i ls entry new
      × (entries ≡ replicate i.handles entry)
  Arrives source old i (Ok None) ls new = ⊥
  Arrives source old i (Err reason) ls new = RefusesInsert m old i reason ls new

  -- so it is for the record that a known piece stands for, which has so many handles more
  abbrev pub ArrivesBack : State K V P View → Carried K V P → ℕ → Result (Option (List (Held K V P))) Reason →
      List (Event × Gone K V P) → State K V P View → Type 0
  ArrivesBack old piece more (Ok (Some entries)) ls new = (entry : Held K V P) × Returns m old piece more ls entry new
      × (entries ≡ replicate more entry)
  ArrivesBack old piece more (Ok None) ls new = ⊥
  ArrivesBack old piece more (Err reason) ls new = RefusesReturn m old piece more reason ls new

module _ {K V P View C N R : Type 0} (m : Meaning K P View C) where
  -- One more asks for a key that is missing at a moment: it leads a new fetch where none is open, and else waits.
  abbrev pub Enqueues : ℕ → State K V P View → Opens K N R → ℕ × K → N → Option R → Enqueue R → State K V P View →
      Opens K N R → Type 0
  Enqueues now old f k waiter later answer new g =
      (hit m now old k ≡ None) × HasNumbers old.limits.ids f k
      × (answer ≡ enqueued (f.by_key k) f.next_fetch f.next_token later)
      × (new ≡ old) × (g ≡ after_enqueue m.same now f k waiter later)

  -- why a look-up is refused, by what the key hits: as a get is, or for want of a number or of memory
  abbrev pub RefusesLookUp : ℕ → Option ℕ → State K V P View → Opens K N R → ℕ × K → Reason → State K V P View → Type 0
  RefusesLookUp now None old f k reason new = RefusesEnqueue old.limits.ids f k reason × (new ≡ old)
  RefusesLookUp now (Some id) old f k reason new = Gets m now old k (Err reason) new

  -- What a look-up answers at a moment, that leads to a fetch where the key is missing. Where the key hits, it is a
  -- get, and nobody waits. A refused one changes nothing.
  abbrev pub LooksUp : ℕ → State K V P View → Opens K N R → ℕ × K → N → Option R → Result (Lookup K V P R) Reason →
      State K V P View → Opens K N R → Type 0
  LooksUp now old f k waiter later (Ok (Hit entry)) new g = Gets m now old k (Ok (Some entry)) new × (g ≡ f)
  LooksUp now old f k waiter later (Ok (Lead fetch token required)) new g =
      Enqueues now old f k waiter later (LeadsFetch fetch token required) new g
  LooksUp now old f k waiter later (Ok (Wait token)) new g =
      Enqueues now old f k waiter later (WaitsFetch token) new g
  LooksUp now old f k waiter later (Err reason) new g = RefusesLookUp now (hit m now old k) old f k reason new × (g ≡ f)

  -- The end of an open fetch of a key with a new record of it: the record comes in, with a handle for each who waits,
  -- and the fetch is closed, even where the record is refused.
  pub record Completes (source : Source) (old : State K V P View) (f : Opens K N R) (k : ℕ × K) (d : Data K V P)
      (o : OpenFetch N R) (ended : Ending K V P N) (new : State K V P View) (g : Opens K N R) : Type 0 where
    pub found : ended.found ≡ true
    pub waiters : ended.waiters ≡ o.tokens
    pub arrives : Arrives m source old (newcomer old d (length o.tokens)) ended.outcome ended.leaves new
    pub closes : g ≡ closed m.same f k

  -- and the end of one that is not open, which changes nothing
  pub record Loses (old : State K V P View) (f : Opens K N R) (ended : Ending K V P N) (new : State K V P View)
      (g : Opens K N R) : Type 0 where
    pub lost_is : ended ≡ lost
    pub same : new ≡ old
    pub same_opens : g ≡ f

  abbrev pub CompletesBy : Option (OpenFetch N R) → Source → State K V P View → Opens K N R → ℕ × K → Data K V P →
      Ending K V P N → State K V P View → Opens K N R → Type 0
  CompletesBy None source old f k d ended new g = Loses old f ended new g
  CompletesBy (Some o) source old f k d ended new g = Completes source old f k d o ended new g

-- The end of a fetch with a refusal, where it is open: those who wait get it, and the fetch is closed. The end of one
-- that is not open changes nothing.
abbrev pub EndsBy : {K V P N R : Type 0} → Option (OpenFetch N R) → (K → K → Bool) → ℕ × K → Reason → Opens K N R →
    Ending K V P N → Opens K N R → Type 0
EndsBy None eq k reason f ended g = (ended ≡ lost) × (g ≡ f)
EndsBy (Some o) eq k reason f ended g =
    (ended ≡ record { found = true; waiters = o.tokens; outcome = Err reason; leaves = [] }) × (g ≡ closed eq f k)

-- The record of a key that is in the index and has an open fetch was expired when that was opened. `expires` says when
-- properties are.
abbrev pub Apart : {K V P View N R : Type 0} → (P → Option ℕ) → State K V P View → Opens K N R → Type 0
Apart {K} {V} {P} {View} {N} {R} expires s f = (q : ℕ × K) (id : ℕ) (r : Rec K V P) (o : OpenFetch N R)
    → s.index q ≡ Some id → s.records id ≡ Some r → f.by_key q ≡ Some o
    → is_expired o.opened (expires r.kept.properties) ≡ true
