-- What the calls make of a cache of bytes that depend on the record that a key or a number has.
use Rattle.std.specs.Prelude.{◌≡◌, ◌↔◌, ◌⊎◌, ℕ, Bool, true, false, List, ◌∷◌, [], Option, None, Some, Result, Ok, Err, IsSomeAnd, IsTrue, if◌then◌else◌, option_map}
use Rattle.foyer_policy.specs.declared.error.Reason.{Reason}
use Rattle.foyer_policy.specs.declared.types.Event.TheVariants.{Remove}
use Rattle.foyer_core.specs.Bulk.{TakesRecordOut}
use Rattle.foyer_core.specs.Conditional.{Fits, IsCurrentIn}
use Rattle.foyer_core.specs.Core.{AtShard, shard_at}
use Rattle.foyer_core.specs.Cores.{core_of, hashes_of, meaning_of_core}
use Rattle.foyer_core.specs.Pieces.{is_in}
use Rattle.foyer_core.specs.Values.{Answered, Gone, Rec}
use Rattle.luffapricot_c.specs.declared.cache.ByteCache.{ByteCache}
use Rattle.luffapricot_c.specs.declared.hold.Held.{Held}
use Rattle.luffapricot_c.specs.declared.hold.Held.TheVariants.{Entry, Gone as GoneHeld, Left, Listed, Refused, Waiting}
use Rattle.luffapricot_c.specs.declared.hold.Hold.{Hold}
use Rattle.luffapricot_c.specs.declared.key.Key.{Key}
use Rattle.luffapricot_c.specs.declared.record.LuffaRecord.{LuffaRecord}
use Rattle.luffapricot_c.specs.declared.terms.LuffaTerms.{LuffaTerms}
use Rattle.luffapricot_c.specs.declared.value.Value.{Value}
use Rattle.luffapricot_c.specs.Bytes.{IsKey, asks_fit, expiry_of, properties_of}
use Rattle.luffapricot_c.specs.Calls.{GetsEntry, Inserts, InsertsEntry, IsToldOf, Lacks}
use Rattle.luffapricot_c.specs.Frames.{Frames}
use Rattle.luffapricot_c.specs.Named.{Named}

-- the record that a number names by an entry
abbrev pub entry_in : Held → Option Named
entry_in (Entry named) = Some named
entry_in Waiting = None
entry_in (Refused _) = None
entry_in (GoneHeld _) = None
entry_in (Left _) = None
entry_in (Listed _) = None

abbrev pub entry_at : Option Hold → Option Named
entry_at None = None
entry_at (Some hold) = entry_in hold.held

-- the id of its record
abbrev pub seen_at : Option Hold → Option ℕ
seen_at named = option_map (λ e. e.id) (entry_at named)

-- whether a key has what was seen: the record of this id, or none that a lookup finds
pub record StillHas (now hash : ℕ) (key : List ℕ) (seen : Option ℕ) (answer : Bool) (c : ByteCache) : Type 0 where
  pub own : Key
  pub own_is : IsKey hash key own
  pub is : IsCurrentIn (meaning_of_core c.core) now (core_of c.core) (hashes_of c.core own, own) seen answer

-- whether a record of this key and weight fits beside what is pinned of other keys
pub record FitsIn (hash : ℕ) (key : List ℕ) (weight : ℕ) (answer : Bool) (c : ByteCache) : Type 0 where
  pub own : Key
  pub own_is : IsKey hash key own
  pub fits : IsSomeAnd (shard_at (core_of c.core) (hashes_of c.core own))
      (λ s. IsTrue answer ↔ Fits (meaning_of_core c.core) s (hashes_of c.core own, own) weight)

-- a record is inserted and held if it fits, and else nothing changes
abbrev pub InsertsIfFits : ℕ → ℕ → List ℕ → List ℕ → ℕ → LuffaTerms → Result Bool Reason → LuffaRecord → ByteCache →
    ByteCache → Type 0
InsertsIfFits now hash key bytes owner terms (Ok true) shown old new = FitsIn hash key terms.weight true old
    × InsertsEntry {A = Unit {0}} now hash key bytes owner terms.weight (properties_of terms) (Ok tt) shown old new
InsertsIfFits now hash key bytes owner terms (Ok false) shown old new = FitsIn hash key terms.weight false old
    × (new ≡ old)
InsertsIfFits now hash key bytes owner terms (Err reason) shown old new = Lacks reason old new
    ⊎ (FitsIn hash key terms.weight true old
    × InsertsEntry {A = Unit {0}} now hash key bytes owner terms.weight (properties_of terms) (Err reason) shown old new)

-- an insert as terms say: only of a record that fits if they ask that, and 111 if it doesn't
abbrev pub InsertsBy : Bool → ℕ → ℕ → List ℕ → List ℕ → ℕ → LuffaTerms → Result ℕ Reason → LuffaRecord → ByteCache →
    ByteCache → Type 0
InsertsBy true now hash key bytes owner terms (Ok status) shown old new = (fits : Bool)
    × (status ≡ (if fits then 0 else 111)) × InsertsIfFits now hash key bytes owner terms (Ok fits) shown old new
InsertsBy true now hash key bytes owner terms (Err reason) shown old new =
    InsertsIfFits now hash key bytes owner terms (Err reason) shown old new
InsertsBy false now hash key bytes owner terms (Ok status) shown old new = (status ≡ 0)
    × InsertsEntry {A = Unit {0}} now hash key bytes owner terms.weight (properties_of terms) (Ok tt) shown old new
InsertsBy false now hash key bytes owner terms (Err reason) shown old new =
    InsertsEntry {A = Unit {0}} now hash key bytes owner terms.weight (properties_of terms) (Err reason) shown old new

-- A record is inserted and held as its terms say, if its key has what was seen; else the record that a lookup finds is
-- held, with status 110, or 101 if there is none.
abbrev pub ReplacesIf : ℕ → ℕ → List ℕ → List ℕ → ℕ → LuffaTerms → Option ℕ → Result ℕ Reason → LuffaRecord → ByteCache →
    ByteCache → Type 0
ReplacesIf now hash key bytes owner terms seen (Ok status) shown old new =
    (StillHas now hash key seen true old
    × InsertsBy (asks_fit terms) now hash key bytes owner terms (Ok status) shown old new)
    ⊎ (StillHas now hash key seen false old × ((found : Bool) × (status ≡ (if found then 110 else 101))
    × GetsEntry now hash key (Ok found) shown old new))
ReplacesIf now hash key bytes owner terms seen (Err reason) shown old new = Lacks reason old new
    ⊎ ((StillHas now hash key seen true old
    × InsertsBy (asks_fit terms) now hash key bytes owner terms (Err reason) shown old new)
    ⊎ (StillHas now hash key seen false old × GetsEntry now hash key (Err reason) shown old new))

-- whether an entry's record is in the index of its shard
abbrev pub StillIn : Bool → Named → ByteCache → Type 0
StillIn found named c = IsSomeAnd (shard_at (core_of c.core) named.hash) (λ s. found ≡ is_in (s.records named.id))

-- an entry's record is removed
pub record RemovesNamed (named : Named) (old new : ByteCache) : Type 0 where
  pub gone : Gone Key Value Answered
  pub removes : AtShard (λ s t. TakesRecordOut (meaning_of_core old.core) s named.id gone t) named.hash
      (core_of old.core) (core_of new.core)
  pub told : IsToldOf ((Remove, gone) ∷ []) old new
  pub rest : Frames (record old { left = new.left }) new

-- an entry's record is removed if it is in the index, and else nothing changes
abbrev pub RemovesThis : Option Named → Result Bool Reason → ByteCache → ByteCache → Type 0
RemovesThis None (Ok true) old new = ⊥
RemovesThis (Some named) (Ok true) old new = StillIn true named old × RemovesNamed named old new
RemovesThis None (Ok false) old new = (core_of new.core ≡ core_of old.core) × Frames old new
RemovesThis (Some named) (Ok false) old new = StillIn false named old × (core_of new.core ≡ core_of old.core)
    × Frames old new
RemovesThis None (Err reason) old new = Lacks reason old new
RemovesThis (Some named) (Err reason) old new = Lacks reason old new

-- the properties of a record that isn't phantom, with another time at which it expires
abbrev pub expiring : ℕ → Answered → Answered
expiring expires p = record { phantom = None; hint = p.hint; expires = expiry_of expires }

-- A record, if there is one, is inserted again with another time at which it expires, and no handle is held to it.
abbrev pub InsertsAgain : ℕ → ℕ → Option (Rec Key Value Answered) → Result Bool Reason → ByteCache → ByteCache → Type 0
InsertsAgain now expires None (Ok true) old new = ⊥
InsertsAgain now expires (Some r) (Ok true) old new =
    Inserts {A = Unit {0}} now r.kept.key.hash r.kept.key.bytes.items r.kept.value.bytes.items r.kept.value.owner
    r.kept.value.weight (expiring expires r.kept.properties) (Ok tt) old new
InsertsAgain now expires None (Ok false) old new = new ≡ old
InsertsAgain now expires (Some r) (Ok false) old new = ⊥
InsertsAgain now expires None (Err reason) old new = ⊥
InsertsAgain now expires (Some r) (Err reason) old new =
    Inserts {A = Unit {0}} now r.kept.key.hash r.kept.key.bytes.items r.kept.value.bytes.items r.kept.value.owner
    r.kept.value.weight (expiring expires r.kept.properties) (Err reason) old new

-- so the record that is named, in its shard; where nothing is named, nothing changes
abbrev pub SetsExpiryAt : ℕ → Option Named → ℕ → Result Bool Reason → ByteCache → ByteCache → Type 0
SetsExpiryAt now None expires answer old new = (answer ≡ Ok false) × (new ≡ old)
SetsExpiryAt now (Some named) expires answer old new = IsSomeAnd (shard_at (core_of old.core) named.hash)
    (λ s. InsertsAgain now expires (s.records named.id) answer old new)
