-- What a step of a shard counts. A count wraps to 0 after 2^64 - 1, and nothing is counted of a phantom record.
use Rattle.std.specs.Prelude.{ℕ, zero, suc, Bool, true, false, List, [], ◌∷◌, ◌&&◌, not, count_by, Option, Some, None, Result, Ok, Err, if◌then◌else◌}
use Rattle.foyer_policy.specs.Moments.{is_expired}
use Rattle.foyer_policy.specs.Properties.{is_phantom}
use Rattle.foyer_policy.specs.declared.error.Reason.{Reason}
use Rattle.foyer_policy.specs.declared.types.Event.{Event}
use Rattle.foyer_policy.specs.declared.types.Event.TheVariants.{Evict, Replace, Remove, Clear}
use Rattle.foyer_core.specs.Stats.{counted, insert_counted, next}
use Rattle.foyer_core.specs.Values.{Gone, Held}
use Rattle.foyer_core.specs.Waited.{Ending}
use Rattle.foyer_core.specs.declared.outcome.InsertedOnto.{InsertedOnto}
use Rattle.foyer_core.specs.declared.outcome.Lookup.{Lookup}
use Rattle.foyer_core.specs.declared.outcome.Lookup.TheVariants.{Hit as Found, Lead, Wait as Waits}
use Rattle.foyer_core.specs.declared.stats.Counted.TheVariants.{Hit, Miss, Fetch, Wait, Refused}
use Rattle.foyer_core.specs.declared.stats.Stats.{Stats}

-- no call was counted
abbrev pub no_counts : Stats
no_counts = record {
  hits = 0;
  misses = 0;
  inserts = 0;
  evictions = 0;
  expired = 0;
  replaced = 0;
  removed = 0;
  cleared = 0;
  fetches = 0;
  waits = 0;
  refused = 0;
}

-- a count after so many more
abbrev pub raised : ℕ → ℕ → ℕ
raised zero count = count
raised (suc n) count = raised n (next count)

-- after a look-up that found a record, or none, or failed
abbrev pub look_up_counted : Result Bool Reason → Stats → Stats
look_up_counted (Ok true) s = counted Hit s
look_up_counted (Ok false) s = counted Miss s
look_up_counted (Err _) s = s

-- after a look-up that another one follows if it finds none
abbrev pub first_look_counted : Result Bool Reason → Stats → Stats
first_look_counted (Ok true) s = counted Hit s
first_look_counted _ s = s

-- after a look-up that may begin a fetch
abbrev pub ask_counted : {K V P R : Type 0} → Result (Lookup K V P R) Reason → Stats → Stats
ask_counted (Ok (Found _)) s = counted Hit s
ask_counted (Ok (Lead _ _ _)) s = counted Fetch s
ask_counted (Ok (Waits _)) s = counted Wait s
ask_counted (Err _) s = s

-- after an insert, of a phantom record or not, that failed or not
abbrev pub put_counted : {T : Type 0} → Bool → Result T Reason → Stats → Stats
put_counted phantom (Ok _) s = insert_counted phantom s
put_counted phantom (Err _) s = counted Refused s

-- whether an event is this one
abbrev pub is_event : Event → Event → Bool
is_event Evict Evict = true
is_event Replace Replace = true
is_event Remove Remove = true
is_event Clear Clear = true
is_event _ _ = false

module _ {K V P : Type 0} (phantom : P → Option Bool) where
  -- whether a record that left counts under an event
  abbrev pub counts_as : Event → Event × Gone K V P → Bool
  counts_as event l = not (is_phantom (phantom l.1.kept.properties)) && is_event event l.0

  -- after an insert that made an entry, or failed
  abbrev pub made_counted : {N : Type 0} → Result (InsertedOnto K V P N) Reason → Stats → Stats
  made_counted (Ok made) s = insert_counted (is_phantom (phantom made.entry.kept.properties)) s
  made_counted (Err _) s = counted Refused s

  -- after an insert of which all these entries are
  abbrev pub entries_counted : List (Held K V P) → Stats → Stats
  entries_counted [] s = s
  entries_counted (entry ∷ _) s = insert_counted (is_phantom (phantom entry.kept.properties)) s

  -- after an insert at the end of a fetch, of which those who waited get entries, nothing or the error
  abbrev pub outcome_counted : Result (Option (List (Held K V P))) Reason → Stats → Stats
  outcome_counted (Ok (Some entries)) s = entries_counted entries s
  outcome_counted (Ok None) s = s
  outcome_counted (Err _) s = counted Refused s

  module _ (expires : P → Option ℕ) where
    -- whether a record that left at a time counts as expired
    abbrev pub counts_as_expired : ℕ → Event × Gone K V P → Bool
    counts_as_expired now l = counts_as Evict l && is_expired now (expires l.1.kept.properties)

    -- after these records left at a time
    abbrev pub leaves_counted : ℕ → List (Event × Gone K V P) → Stats → Stats
    leaves_counted now ls s = record s {
      evictions = raised (count_by (counts_as Evict) ls) s.evictions;
      expired = raised (count_by (counts_as_expired now) ls) s.expired;
      replaced = raised (count_by (counts_as Replace) ls) s.replaced;
      removed = raised (count_by (counts_as Remove) ls) s.removed;
      cleared = raised (count_by (counts_as Clear) ls) s.cleared;
    }

    -- after the end of a fetch at a time: one that was not open counts nothing
    abbrev pub ending_counted : {N : Type 0} → ℕ → Ending K V P N → Stats → Stats
    ending_counted now ended s =
        if ended.found then leaves_counted now ended.leaves (outcome_counted ended.outcome s) else s
