-- What the calls of a cache of bytes make of it, where parts of it stay.
use Rattle.std.proofs.Common.{◌≡◌, ◌∙◌, ◌++◌, ◌∷◌, ℕ, List, [], None, Option, Some, Result, Ok, Err, Bool, true, false, MatchResult, ap, if◌then◌else◌, inl, inr, refl, subst, sym}
use Rattle.std.specs.Prelude.{IsSomeAnd, slice_index_or}
use Rattle.slab.specs.Slab.{Slab}
use Rattle.foyer_policy.specs.declared.error.Reason.{Reason}
use Rattle.foyer_core.specs.declared.outcome.InsertedOnto.{InsertedOnto}
use Rattle.foyer_core.specs.declared.record.Data.{Data}
use Rattle.foyer_core.specs.CallLaws.{AnswersIn}
use Rattle.foyer_core.specs.declared.hold.Hold.{Hold as Name}
use Rattle.foyer_core.specs.Core.{AtShard, shard_at}
use Rattle.foyer_core.specs.Cores.{core_of, fetches_of, hashes_of, meaning_of_core}
use Rattle.foyer_core.specs.Holds.{Names}
use Rattle.foyer_core.specs.NoEntry.{Peeks, Reads, Sees}
use Rattle.foyer_core.proofs.CoreLaws.{now_here}
use Rattle.foyer_core.specs.Values.{Answered, Rec}
use Rattle.luffapricot_c.specs.declared.cache.ByteCache.{ByteCache}
use Rattle.luffapricot_c.specs.declared.hold.Hold.{Hold}
use Rattle.luffapricot_c.specs.declared.key.Key.{Key}
use Rattle.luffapricot_c.specs.declared.record.LuffaRecord.{LuffaRecord}
use Rattle.luffapricot_c.specs.declared.value.Value.{Value}
use Rattle.luffapricot_c.specs.Calls.{AnswersWaiting, CoreInserts, HoldsEntry, IfTaken, InsertsBytes, CorePeeks, CoreReads}
use Rattle.luffapricot_c.specs.Bytes.{CopiesValue}
use Rattle.luffapricot_c.specs.Frames.{Frames}
use Rattle.luffapricot_c.specs.Named.{Named}

-- what the core says of those who wait
pub answers_waiting : (own : Key) (result : Result (InsertedOnto Key Value Answered ℕ) Reason) (old new : ByteCache) →
    MatchResult result
    (λ made. AnswersIn (meaning_of_core old.core).same (hashes_of old.core own) made.entry made.answers
    (fetches_of old.core) (fetches_of new.core))
    (λ _. fetches_of new.core ≡ fetches_of old.core) → AnswersWaiting own result old new
answers_waiting own (Ok made) old new a = a
answers_waiting own (Err reason) old new a = a

-- a look that saw a value, which was copied
pub peek_seen : (now : ℕ) (k : Key) (v : Value) (len : ℕ) (out filled : List ℕ) (c : ByteCache) →
    CopiesValue out filled v len → CorePeeks now k (λ w seen. seen ≡ w) (Some v) c
    → CorePeeks now k (CopiesValue out filled) (Some len) c
peek_seen now k v len out filled c copies = go (shard_at (core_of c.core) (hashes_of c.core k)) where
  go : (o : Option _) → IsSomeAnd o
      (λ s. Peeks (meaning_of_core c.core) now s (hashes_of c.core k, k) (λ w seen. seen ≡ w) (Some v))
      → IsSomeAnd o
      (λ s. Peeks (meaning_of_core c.core) now s (hashes_of c.core k, k) (CopiesValue out filled) (Some len))
  go (Some s) h = record {
    id = h.id;
    rec = h.rec;
    hits = h.hits;
    there = h.there;
    made = subst (λ (w : Value). CopiesValue out filled w len) h.made copies;
  }
  go None h = absurd h

-- a touch that names its record, by the core
abbrev CoreNames : ℕ → Key → Result (Option Name) Reason → ByteCache → ByteCache → Type 0
CoreNames now k answer old new = AtShard
    (λ s t. Reads (meaning_of_core old.core) now s (hashes_of old.core k, k) (Names t (hashes_of old.core k)) answer t)
    (hashes_of old.core k) (core_of old.core) (core_of new.core)

-- one that found nothing is a read that did
pub read_missing : {T : Type 0} (now : ℕ) (k : Key) (sees : Value → T → Type 0) (old new : ByteCache) →
    CoreNames now k (Ok None) old new → CoreReads now k sees (Ok None) old new
read_missing now k sees old new at = record {
  before = at.before;
  after = at.after;
  there = at.there;
  stepped = record { touches = at.stepped.touches; seen = tt };
  rest = at.rest;
}

-- and one that was refused
pub read_refused : {T : Type 0} (now : ℕ) (k : Key) (sees : Value → T → Type 0) (reason : Reason) (old new : ByteCache) →
    CoreNames now k (Err reason) old new → CoreReads now k sees (Err reason) old new
read_refused now k sees reason old new at = record {
  before = at.before;
  after = at.after;
  there = at.there;
  stepped = record { touches = at.stepped.touches; seen = tt };
  rest = at.rest;
}

-- what the core has under a name
abbrev pub HasRecord : Name → Option (Rec Key Value Answered) → ByteCache → Type 0
HasRecord name r c = IsSomeAnd (shard_at (core_of c.core) name.hash) (λ s. r ≡ s.records name.id)

module _ (now : ℕ) (k : Key) (name : Name) (old new : ByteCache) (at : CoreNames now k (Ok (Some name)) old new) where
  seen : Sees (meaning_of_core old.core) now at.before (hashes_of old.core k, k) (Names at.after (hashes_of old.core k)) name
  seen = at.stepped.seen

  -- the record of the name, in the shard that was touched
  named_is : (r : Option (Rec Key Value Answered)) → HasRecord name r new → r ≡ at.after.records name.id
  named_is r has = subst (λ o. IsSomeAnd o (λ s. r ≡ s.records name.id))
      (ap (shard_at (core_of new.core)) seen.made.0
      ∙ now_here (core_of old.core) (core_of new.core)
      (λ s t. Reads (meaning_of_core old.core) now s (hashes_of old.core k, k) (Names t (hashes_of old.core k))
      (Ok (Some name)) t)
      (hashes_of old.core k) at (hashes_of old.core k) refl)
      has

  -- it has the value that the key had
  named_has : (r : Option (Rec Key Value Answered)) → HasRecord name r new → IsSomeAnd r (λ x. x.kept.value ≡ seen.rec.kept.value)
  named_has r has = subst (λ o. IsSomeAnd o (λ x. x.kept.value ≡ seen.rec.kept.value)) (sym (named_is r has)) seen.made.1

  -- a touch that names its record, whose value was copied, is a read
  pub read_named : (x : Rec Key Value Answered) (len : ℕ) (out filled : List ℕ) → HasRecord name (Some x) new →
      CopiesValue out filled x.kept.value len → CoreReads now k (CopiesValue out filled) (Ok (Some len)) old new
  read_named x len out filled has copies = record {
    before = at.before;
    after = at.after;
    there = at.there;
    stepped = record {
      touches = at.stepped.touches;
      seen = record {
        id = seen.id;
        rec = seen.rec;
        hits = seen.hits;
        there = seen.there;
        made = subst (λ v. CopiesValue out filled v len) (named_has (Some x) has) copies;
      };
    };
    rest = at.rest;
  }

  -- there is such a record
  pub named_there : {A : Type 0} → HasRecord name None new → A
  named_there has = absurd (named_has None has)

-- an insert with the core's answer
pub inserts_bytes : (now hash : ℕ) (key bytes : List ℕ) (owner weight : ℕ) (p : Answered)
    (result : Result (InsertedOnto Key Value Answered ℕ) Reason) (old new : ByteCache) →
    CoreInserts now hash key bytes owner weight p result old new → new.holds.slots ≡ old.holds.slots →
    InsertsBytes now hash key bytes owner weight p result old new
inserts_bytes now hash key bytes owner weight p (Ok made) old new i held = i
inserts_bytes now hash key bytes owner weight p (Err reason) old new i held =
    inr (i, record { held = held; fetches = i.answered; left = refl; listener = i.rest.listener })

-- room for more changes nothing that is held
pub holds_same : (named : Named) (kept : Data Key Value Answered) (shown : LuffaRecord) (old before new : Slab Hold) →
    before.slots ≡ old.slots → HoldsEntry named kept shown before new → HoldsEntry named kept shown old new
holds_same named kept shown old before new same h = record {
  vacant = ap (λ slots. slice_index_or slots shown.number None) (sym same) ∙ h.vacant;
  held = record {
    changed = h.held.changed;
    others = λ k other. h.held.others k other ∙ ap (λ slots. slice_index_or slots k None) same;
  };
  shows = h.shows;
}

-- so for all else
pub frames_same : (old new : ByteCache) (holds : Slab Hold) → holds.slots ≡ old.holds.slots →
    Frames (record old { holds = holds }) new → Frames old new
frames_same old new holds same f = record {
  held = f.held ∙ same;
  fetches = f.fetches;
  left = f.left;
  listener = f.listener;
}

-- an insert that failed over more room for what is held
pub failed_same : (now hash : ℕ) (key bytes : List ℕ) (owner weight : ℕ) (p : Answered) (reason : Reason)
    (old new : ByteCache) (holds : Slab Hold) → holds.slots ≡ old.holds.slots →
    InsertsBytes now hash key bytes owner weight p (Err reason) (record old { holds = holds }) new →
    InsertsBytes now hash key bytes owner weight p (Err reason) old new
failed_same now hash key bytes owner weight p reason old new holds same (inl lacks) =
    inl (lacks.0, lacks.1, frames_same old new holds same lacks.2)
failed_same now hash key bytes owner weight p reason old new holds same (inr i) = inr (
  record {
    own = i.0.own;
    own_is = i.0.own_is;
    value = i.0.value;
    value_is = i.0.value_is;
    leaves = i.0.leaves;
    inserts = i.0.inserts;
    answered = i.0.answered;
    told = i.0.told;
    rest = i.0.rest;
  },
  frames_same (record old { left = new.left }) new holds same i.1,
)

-- what left before was taken
pub taken_is : {L : Type 0} (ls : List L) (status : ℕ) (old new : ByteCache) (step : Type 0) → ls ≡ [] → step →
    IfTaken ls status old new step
taken_is [] status old new step none did = did
taken_is (x ∷ ls) status old new step none did = absurd cc

-- what is kept of what left is told
pub kept_told : {L : Type 0} (has_listener : Bool) (before leaves after : List L) → before ≡ [] →
    after ≡ (if has_listener then leaves else before) → after ≡ (if has_listener then before ++ leaves else [])
kept_told true before leaves after none is = is ∙ ap (λ b. b ++ leaves) (sym none)
kept_told false before leaves after none is = is ∙ none

-- what an insert appends is told, or all is forgotten
pub told_more : {L : Type 0} (has_listener : Bool) (before more mid after : List L) → mid ≡ before ++ more →
    after ≡ (if has_listener then mid else []) → after ≡ (if has_listener then before ++ more else [])
told_more true before more mid after went is = is ∙ went
told_more false before more mid after went is = is
