-- Steps of giving those who wait what there is for them.
use Rattle.std.proofs.Common.{◌≡◌, ℕ, ◌++◌, [], ◌∷◌, List, refl, reverse}
use Rattle.std.proofs.lemmas.List.{reverse-append}
use Rattle.slab.specs.Slab.{Slab}
use Rattle.foyer_core.specs.declared.outcome.Waiting.{Waiting as Waiter}
use Rattle.foyer_core.specs.Values.{Answered, Held as EntryOf}
use Rattle.luffapricot_c.specs.declared.hold.Held.TheVariants.{Entry, Refused}
use Rattle.luffapricot_c.specs.declared.hold.Hold.{Hold}
use Rattle.luffapricot_c.specs.declared.key.Key.{Key}
use Rattle.luffapricot_c.specs.declared.value.Value.{Value}
use Rattle.luffapricot_c.specs.Holds.{given_all, given_each, settled}
use Rattle.luffapricot_c.specs.Named.{named_of}

-- the last one of those who wait gets the last entry first
pub each_last : (ws : List (Waiter ℕ)) (w : Waiter ℕ) (es : List (EntryOf Key Value Answered))
    (e : EntryOf Key Value Answered) (holds : Slab Hold) → given_each (reverse (ws ++ w ∷ [])) (reverse (es ++ e ∷ [])) holds
    ≡ given_each (reverse ws) (reverse es) (settled holds w.waiter (Entry (named_of e)))
each_last ws w es e holds = rw (reverse-append ws (w ∷ [])) (rw (reverse-append es (e ∷ [])) refl)

-- nobody waits any more
pub each_nobody : (es : List (EntryOf Key Value Answered)) (holds : Slab Hold) → given_each (reverse []) es holds ≡ holds
each_nobody es holds = refl

-- the last one of those who wait gets the refusal first
pub all_last : (ws : List (Waiter ℕ)) (w : Waiter ℕ) (status : ℕ) (holds : Slab Hold) →
    given_all (reverse (ws ++ w ∷ [])) status holds ≡ given_all (reverse ws) status (settled holds w.waiter (Refused status))
all_last ws w status holds = rw (reverse-append ws (w ∷ [])) refl

-- there are no more entries
pub each_none : (ws : List (Waiter ℕ)) (holds : Slab Hold) → given_each ws [] holds ≡ holds
each_none [] holds = refl
each_none (w ∷ ws) holds = refl

-- nothing is left to give
pub each_done : (ws : List (Waiter ℕ)) (es : List (EntryOf Key Value Answered)) (holds : Slab Hold) → es ≡ [] →
    given_each (reverse ws) (reverse es) holds ≡ holds
each_done ws es holds none = rw none (each_none (reverse ws) holds)
