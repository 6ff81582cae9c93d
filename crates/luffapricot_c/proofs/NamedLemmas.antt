-- Records that are named.
use Rattle.std.proofs.Common.{◌≡◌, ◌∙◌, ◌+◌, ℕ, List, Option, Some, None, Result, Ok, Err, ap, inl, inr, refl, subst, sym, true}
use Rattle.std.specs.Prelude.{IsSomeAnd}
use Rattle.std.proofs.lemmas.Map.{update_here}
use Rattle.foyer_policy.specs.declared.error.Reason.{Reason}
use Rattle.foyer_policy.specs.declared.error.Reason.TheVariants.{Handles}
use Rattle.foyer_core.specs.declared.hold.Hold.{Hold as Name}
use Rattle.foyer_core.specs.declared.record.Data.{Data}
use Rattle.foyer_core.specs.Core.{AtShard, shard_at}
use Rattle.foyer_core.specs.Cores.{core_of, hashes_of, meaning_of_core}
use Rattle.foyer_core.specs.Holds.{Holds}
use Rattle.foyer_core.specs.State.{Meaning, State}
use Rattle.foyer_core.specs.Steps.{Gets}
use Rattle.foyer_core.specs.Values.{Answered, Held, Rec}
use Rattle.foyer_core.proofs.CoreLaws.{now_here}
use Rattle.luffapricot_c.specs.declared.cache.ByteCache.{ByteCache}
use Rattle.luffapricot_c.specs.declared.key.Key.{Key}
use Rattle.luffapricot_c.specs.declared.record.LuffaRecord.{LuffaRecord}
use Rattle.luffapricot_c.specs.declared.terms.LuffaTerms.{LuffaTerms}
use Rattle.luffapricot_c.specs.declared.value.Value.{Value}
use Rattle.luffapricot_c.specs.Bytes.{IsKey, IsValue, asks_fit}
use Rattle.luffapricot_c.specs.Calls.{CoreGets, GetsHeld, HoldsEntry, Inserts}
use Rattle.luffapricot_c.specs.Conditional.{InsertsAgain, InsertsBy, ReplacesIf, SetsExpiryAt, StillHas, expiring}
use Rattle.luffapricot_c.specs.Frames.{Frames}
use Rattle.luffapricot_c.specs.Named.{Named}

-- what is said of what was read under a name is said of what its shard has under the id
pub at_record : (P : Option (Rec Key Value Answered) → Type 0) (hash id : ℕ) (c : ByteCache)
    (r : Option (Rec Key Value Answered)) → IsSomeAnd (shard_at (core_of c.core) hash) (λ s. r ≡ s.records id) → P r →
    IsSomeAnd (shard_at (core_of c.core) hash) (λ s. P (s.records id))
at_record P hash id c r has p = go (shard_at (core_of c.core) hash) has where
  go : {View : Type 0} (o : Option (State Key Value Answered View)) → IsSomeAnd o (λ s. r ≡ s.records id) →
      IsSomeAnd o (λ s. P (s.records id))
  go (Some s) h = subst P h p
  go None h = absurd h

none_some : {A B : Type 0} (b : B) → ◌≡◌ {A = Option B} None (Some b) → A
none_some b e = absurd cc

abbrev kept_or : Data Key Value Answered → Option (Rec Key Value Answered) → Data Key Value Answered
kept_or kept None = kept
kept_or kept (Some r) = r.kept

-- a hold that was refused is a get that was
refused_get : {K V P View C : Type 0} (m : Meaning K P View C) (now : ℕ) (old : State K V P View) (k : ℕ × K)
    (reason : Reason) (new : State K V P View) →
    Holds m now old k (Err reason) new → Gets m now old k (Err reason) new
refused_get m now old k Handles new h = h
refused_get m now old k _ new h = absurd h

-- a hold by the core
abbrev CoreHolds : ℕ → Key → Result (Option Name) Reason → ByteCache → ByteCache → Type 0
CoreHolds now k answer old new =
    AtShard (λ s t. Holds (meaning_of_core old.core) now s (hashes_of old.core k, k) answer t) (hashes_of old.core k)
    (core_of old.core) (core_of new.core)

-- one that found nothing is a get that did
pub hold_missing : (now : ℕ) (k : Key) (old new : ByteCache) → CoreHolds now k (Ok None) old new →
    CoreGets now k (Ok None) old new
hold_missing now k old new at =
    record { before = at.before; after = at.after; there = at.there; stepped = at.stepped; rest = at.rest }

-- and one that was refused
pub hold_refused : (now : ℕ) (k : Key) (reason : Reason) (old new : ByteCache) → CoreHolds now k (Err reason) old new →
    CoreGets now k (Err reason) old new
hold_refused now k reason old new at = record {
  before = at.before;
  after = at.after;
  there = at.there;
  stepped = refused_get (meaning_of_core old.core) now at.before (hashes_of old.core k, k) reason at.after at.stepped;
  rest = at.rest;
}

module _ (now : ℕ) (k : Key) (name : Name) (old new : ByteCache) (at : CoreHolds now k (Ok (Some name)) old new) where
  -- the record of the name, in the shard that was asked
  held_is : (r : Option (Rec Key Value Answered)) →
      IsSomeAnd (shard_at (core_of new.core) name.hash) (λ s. r ≡ s.records name.id) →
      r ≡ Some (record at.stepped.3.0 { handles = at.stepped.3.0.handles + 1 })
  held_is r has =
      let entry = at.stepped.0 in let gets = at.stepped.3 in
      let here = subst (λ o. IsSomeAnd o (λ s. r ≡ s.records name.id))
      (ap (shard_at (core_of new.core)) at.stepped.1
      ∙ now_here (core_of old.core) (core_of new.core)
      (λ s t. Holds (meaning_of_core old.core) now s (hashes_of old.core k, k) (Ok (Some name)) t)
      (hashes_of old.core k) at (hashes_of old.core k) refl)
      has in
      here ∙ ap at.after.records at.stepped.2 ∙ ap (λ s. s.records entry.id) gets.5
      ∙ update_here at.before.records entry.id (Some (record gets.0 { handles = gets.0.handles + 1 }))

  -- there is one
  pub held_there : {A : Type 0} → IsSomeAnd (shard_at (core_of new.core) name.hash) (λ s. None ≡ s.records name.id) → A
  held_there has = none_some (record at.stepped.3.0 { handles = at.stepped.3.0.handles + 1 }) (held_is None has)

  -- it has the data of the entry that a get gives, and its name is held in place of that
  pub held_gets : (hash : ℕ) (key : List ℕ) (shown : LuffaRecord) (x : Rec Key Value Answered) → IsKey hash key k →
      IsSomeAnd (shard_at (core_of new.core) name.hash) (λ s. Some x ≡ s.records name.id) →
      HoldsEntry (record { hash = name.hash; id = name.id }) x.kept shown old.holds new.holds →
      Frames (record old { holds = new.holds }) new → GetsHeld now hash key shown old new
  held_gets hash key shown x own has holds rest =
      let entry = at.stepped.0 in
      let kept : x.kept ≡ entry.kept = ap (kept_or x.kept) (held_is (Some x) has)
      ∙ sym (ap (λ (e : Held Key Value Answered). e.kept) at.stepped.3.4) in
      let with_kept = subst
      (λ (d : Data Key Value Answered). HoldsEntry (record { hash = name.hash; id = name.id }) d shown old.holds new.holds)
      kept holds in
      let with_id = subst
      (λ (i : ℕ). HoldsEntry (record { hash = name.hash; id = i }) entry.kept shown old.holds new.holds)
      at.stepped.2 with_kept in
      record {
        own = k;
        own_is = own;
        entry = entry;
        gets = record {
          before = at.before;
          after = at.after;
          there = at.there;
          stepped = at.stepped.3;
          rest = at.rest;
        };
        holds = subst
            (λ (h : ℕ). HoldsEntry (record { hash = h; id = entry.id }) entry.kept shown old.holds new.holds)
            at.stepped.1 with_id;
        rest = rest;
      }

-- an insert of what a record has, with another time at which it expires, inserts that record again
pub inserts_again : (now expires : ℕ) (named : Option Named) (entry : Named) (name : Name) (x : Rec Key Value Answered)
    (key : Key) (value : Value) (p : Answered) (old new : ByteCache) → Some entry ≡ named →
    (name.hash ≡ entry.hash) × (name.id ≡ entry.id) →
    IsSomeAnd (shard_at (core_of old.core) name.hash) (λ s. Some x ≡ s.records name.id) →
    IsKey x.kept.key.hash x.kept.key.bytes.items key →
    IsValue x.kept.value.bytes.items x.kept.value.owner x.kept.value.weight value → p ≡ expiring expires x.kept.properties →
    Inserts {A = Unit {0}} now key.hash key.bytes.items value.bytes.items value.owner value.weight p (Ok tt) old new →
    SetsExpiryAt now named expires (Ok true) old new
inserts_again now expires named entry name x key value p old new is same has k v ps did =
    let of_key = subst (λ (b : List ℕ). Inserts {A = Unit {0}} now x.kept.key.hash b value.bytes.items value.owner value.weight p (Ok tt) old new) k.1
    (subst (λ (h : ℕ). Inserts {A = Unit {0}} now h key.bytes.items value.bytes.items value.owner value.weight p (Ok tt) old new) k.0 did) in
    let of_bytes = subst (λ (b : List ℕ). Inserts {A = Unit {0}} now x.kept.key.hash x.kept.key.bytes.items b value.owner value.weight p (Ok tt) old new) v.0 of_key in
    let of_owner = subst (λ (o : ℕ). Inserts {A = Unit {0}} now x.kept.key.hash x.kept.key.bytes.items x.kept.value.bytes.items o value.weight p (Ok tt) old new) v.1 of_bytes in
    let of_weight = subst (λ (w : ℕ). Inserts {A = Unit {0}} now x.kept.key.hash x.kept.key.bytes.items x.kept.value.bytes.items x.kept.value.owner w p (Ok tt) old new) v.2 of_owner in
    let of_all = subst (λ (q : Answered). Inserts {A = Unit {0}} now x.kept.key.hash x.kept.key.bytes.items x.kept.value.bytes.items x.kept.value.owner x.kept.value.weight q (Ok tt) old new) ps of_weight in
    let at_hash = subst (λ (h : ℕ). IsSomeAnd (shard_at (core_of old.core) h) (λ s. Some x ≡ s.records name.id)) same.0 has in
    let at_id = subst (λ (i : ℕ). IsSomeAnd (shard_at (core_of old.core) entry.hash) (λ s. Some x ≡ s.records i)) same.1 at_hash in
    subst (λ (n : Option Named). SetsExpiryAt now n expires (Ok true) old new) is
    (at_record (λ o. InsertsAgain now expires o (Ok true) old new) entry.hash entry.id old (Some x) at_id of_all)

-- what is inserted while its key has what was seen replaces that
pub replaces_by : (now hash : ℕ) (key bytes : List ℕ) (owner : ℕ) (terms : LuffaTerms) (seen : Option ℕ)
    (answer : Result ℕ Reason) (shown : LuffaRecord) (old new : ByteCache) → StillHas now hash key seen true old →
    InsertsBy (asks_fit terms) now hash key bytes owner terms answer shown old new →
    ReplacesIf now hash key bytes owner terms seen answer shown old new
replaces_by now hash key bytes owner terms seen (Ok status) shown old new still by = inl (still, by)
replaces_by now hash key bytes owner terms seen (Err reason) shown old new still by = inr (inl (still, by))
