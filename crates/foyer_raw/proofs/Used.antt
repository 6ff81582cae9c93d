-- A record that the index has, whose entry is given back at once.
use Rattle.std.proofs.Common.{◌≡◌, ◌≢◌, ◌+◌, ◌⊎◌, ℕ, Bool, true, false, cond, inl, inr, Option, Some, None, List, [], ◌++◌, refl, sym, ap, ◌∙◌, subst, arith}
use Rattle.std.specs.Prelude.{Result, Ok, Err, IfOk, MatchResult, OnErr, ◌==◌, ◌&&◌, not}
use Rattle.std.specs.Cmp.{IsEquivalence}
use Rattle.std.proofs.lemmas.Map.{update_here}
use Rattle.foyer_policy.specs.Policy.{IsPolicy}
use Rattle.foyer_policy.specs.declared.types.Event.{Event}
use Rattle.foyer_policy.specs.declared.types.Event.TheVariants.{Evict}
use Rattle.foyer_policy.specs.declared.types.Source.TheVariants.{Outer}
use Rattle.foyer_policy.specs.declared.error.Reason.{Reason}
use Rattle.foyer_policy.specs.Properties.{is_phantom}
use Rattle.foyer_core.specs.Bulk.{GoesOn}
use Rattle.foyer_core.specs.Inflight.{Opens, closed, waiters_of}
use Rattle.foyer_core.specs.NoEntry.{PutsAnswering, last_of}
use Rattle.foyer_core.specs.State.{Meaning, State, IsKept, handles_in, handles_of, is_phantom_record, key_of}
use Rattle.foyer_core.specs.Stats.{counted}
use Rattle.foyer_core.specs.Steps.{Gets, GivesBack, entry_of, gone_of, last_leave, newcomer}
use Rattle.foyer_core.specs.Values.{Gone, Held, Rec}
use Rattle.foyer_core.specs.Waited.{AnswersEach, waiting_for}
use Rattle.foyer_core.specs.declared.outcome.PutOnto.{PutOnto}
use Rattle.foyer_core.specs.declared.record.Data.{Data}
use Rattle.foyer_core.specs.declared.stats.Counted.TheVariants.{Hit}
use Rattle.foyer_core.specs.declared.stats.Stats.{Stats}
use Rattle.foyer_core.proofs.Hits.{hit_index}
use Rattle.foyer_core.proofs.ShardTold.{stands}
use Rattle.foyer_raw.specs.Conditional.{PutsAgain, Uses}
use Rattle.foyer_raw.specs.Counts.{leaves_counted, put_counted}
use Rattle.foyer_raw.specs.Told.{IsUntold, told_of}
use Rattle.foyer_raw.specs.declared.leaves.Leaves.{Leaves}

same_rec : {K V P : Type 0} (a b : Rec K V P) → Some a ≡ Some b → a ≡ b
same_rec a b h = cc

module _ {K V P View C : Type 0} (m : Meaning K P View C) (laws : IsEquivalence m.same) (good : IsPolicy m.policy)
    (now : ℕ) (s : State K V P View) (kept : ∥ IsKept m s ∥₁) (k : ℕ × K) (entry : Held K V P)
    (mid : State K V P View) (gets : Gets m now s k (Ok (Some entry)) mid) where
  abbrev more : Rec K V P
  more = record gets.0 { handles = gets.0.handles + 1 }

  resident : gets.0.resident ≡ true
  resident =
      let st = stands m laws good s kept in
      st.resident entry.id (st.inside k entry.id (hit_index m now s k entry.id gets.1)) gets.0 gets.2

  there : mid.records entry.id ≡ Some more
  there = subst (λ (t : State K V P View). t.records entry.id ≡ Some more) (sym gets.5)
      (update_here s.records entry.id (Some more))

  number : entry.number ≡ mid.number
  number = ap (λ (e : Held K V P). e.number) gets.4 ∙ sym (ap (λ (t : State K V P View). t.number) gets.5)

  given_back : (leave : Option (Event × Gone K V P)) (new : State K V P View) → GivesBack m mid entry.id leave new →
      Uses m now k entry s new
  given_back leave new h = record {
    mid = mid;
    gets = gets;
    gives_back = record { rec = h.rec; there = h.there; held = h.held; leaves = none; after = h.after };
  } where
    res : h.rec.resident ≡ true
    res = ap (λ (r : Rec K V P). r.resident) (same_rec h.rec more (sym h.there ∙ there)) ∙ resident

    none : None ≡ last_leave m mid.number entry.id h.rec
    none = go (h.rec.handles == 1) h.rec.resident res where
      go : (a b : Bool) → b ≡ true → ◌≡◌ {A = Option (Event × Gone K V P)} None
          (cond (a && (not b && is_phantom_record m h.rec.kept)) (Some (Evict, gone_of mid.number entry.id h.rec)) None)
      go true true e = refl
      go false true e = refl
      go a false e = absurd cc

  -- nothing leaves with it
  pub used : {F : Type 0} (back : Result (Option (Event × Gone K V P)) F) (new : State K V P View)
      → IfOk back (λ leave. (entry.number ≡ mid.number) × GivesBack m mid entry.id leave new)
      → OnErr back ((entry.number ≢ mid.number) ⊎ (handles_in mid entry.id ≡ 0)) → Uses m now k entry s new
  used (Ok leave) new taken foreign = given_back leave new taken.1
  used (Err e) new taken (inl other) = absurd (other number)
  used (Err e) new taken (inr without) = absurd (
      let is : gets.0.handles + 1 ≡ 0 = sym (ap handles_of there) ∙ without in
      omega (arith, is)
      )

-- what goes on from nothing
pub from_nothing : {K V P : Type 0} (old new : List (Event × Gone K V P)) (So : List (Event × Gone K V P) → Type 0)
    → old ≡ [] → GoesOn old new So → So new
from_nothing old new So none went = subst So (sym (went.told ∙ ap (λ (l : List _). l ++ went.more) none)) went.so

-- nothing was told
pub nothing_told : {K V P : Type 0} (l : Leaves K V P) → IsUntold l → told_of l ≡ []
nothing_told l none = cc

module _ {K V P View C N R : Type 0} (m : Meaning K P View C) (now : ℕ) (is_again : Data K V P → Data K V P → Type 0)
    (k : ℕ × K) (put : Result (PutOnto K V P N) Reason) (ls : List (Event × Gone K V P))
    (old used new : State K V P View) (entry : Held K V P) (kept : Data K V P) (opens before after : Opens K N R)
    (stats hit done : Stats) where
  -- a put of the data of a record that was used, copied
  pub puts_again : Uses m now k entry old used → is_again entry.kept kept → before ≡ opens → hit ≡ counted Hit stats
      → PutsAnswering m now used (newcomer used kept (1 + waiting_for before (key_of kept))) (last_of put) ls new
      → IfOk put (λ p. AnswersEach (waiters_of (before.by_key (key_of kept))) (entry_of used used.next kept Outer) p.answers)
      → MatchResult put (λ _. after ≡ closed m.same before (key_of kept)) (λ _. after ≡ before)
      → done ≡ leaves_counted m.phantom m.expires now ls (put_counted (is_phantom (m.phantom kept.properties)) put hit)
      → PutsAgain m now is_again k put ls old new opens after stats done
  puts_again uses again same hits puts answers closes counts =
      subst (λ (o : Opens K N R). PutsAgain m now is_again k put ls old new o after stats done) same
      record {
        entry = entry;
        used = used;
        uses = uses;
        kept = kept;
        again = again;
        puts = puts;
        answers = answers;
        closes = closes;
        counts =
            counts ∙ ap (λ (s : Stats). leaves_counted m.phantom m.expires now ls
            (put_counted (is_phantom (m.phantom kept.properties)) put s)) hits;
      }
