-- Fetches of a shard, as one more asks and as they end.
use Rattle.std.proofs.Common.{◌≡◌, ℕ, ◌+◌, List, [], ◌∷◌, ◌++◌, Bool, true, Option, Some, None, cond, length, replicate, refl, sym, ap, ◌∙◌, subst, arith}
use Rattle.std.proofs.Math.Logic.{∥∥₁_elim}
use Rattle.std.proofs.Props.{props}
use Rattle.std.proofs.lemmas.List.{replicate-append-replicate}
use Rattle.std.specs.Prelude.{Result, Ok, Err, IsSomeAnd, MatchResult, if◌then◌else◌, is_some, option_and_then}
use Rattle.std.specs.Cmp.{IsEquivalence}
use Rattle.std.specs.Map.{update}
use Rattle.foyer_policy.specs.declared.error.Reason.{Reason}
use Rattle.foyer_policy.specs.declared.types.Event.{Event}
use Rattle.foyer_policy.specs.declared.types.Source.{Source}
use Rattle.foyer_core.specs.declared.outcome.Waiting.{Waiting}
use Rattle.foyer_core.specs.declared.record.Data.{Data}
use Rattle.foyer_core.specs.Fetching.{Arrives, CompletesBy}
use Rattle.foyer_core.specs.Indexer.{same_key, same_key_equiv}
use Rattle.foyer_core.specs.Inflight.{Opens, OpenFetch, after_enqueue, closed, joined}
use Rattle.foyer_core.specs.State.{Meaning, State, IsKept, hit, is_expired_in}
use Rattle.foyer_core.specs.Steps.{Inserts, newcomer}
use Rattle.foyer_core.specs.Values.{Gone, Held}
use Rattle.foyer_core.specs.Waited.{Ending}
use Rattle.foyer_core.proofs.InflightLemmas.{same_opens}

-- equal keys are in the index together
pub index_alike : {K V P View C : Type 0} (m : Meaning K P View C) (s : State K V P View) → ∥ IsKept m s ∥₁ →
    (k l : ℕ × K) → same_key m.same k l ≡ true → s.index k ≡ s.index l
index_alike m s kept k l same = ∥∥₁_elim kept (hlevel props) (λ h. h.respects k l same)

-- and are hit together
pub hit_alike : {K V P View C : Type 0} (m : Meaning K P View C) (now : ℕ) (s : State K V P View) → ∥ IsKept m s ∥₁ →
    (k l : ℕ × K) → same_key m.same k l ≡ true → hit m now s k ≡ hit m now s l
hit_alike m now s kept k l same =
    ap (option_and_then (λ (id : ℕ). cond (is_expired_in m.expires now (s.records id)) None (Some id)))
    (index_alike m s kept k l same)

-- one more asks for a key, by another that equals it
module _ {K N R : Type 0} {eq : K → K → Bool} (laws : IsEquivalence eq) (f : Opens K N R) (k l : ℕ × K)
    (same : same_key eq k l ≡ true) (alike : f.by_key k ≡ f.by_key l) where
  pub enqueued_alike : (now : ℕ) (w : N) (later : Option R) → after_enqueue eq now f k w later
      ≡ after_enqueue eq now f l w later
  enqueued_alike now w later =
      let asks : Waiting N = record { token = f.next_token; waiter = w } in
      same_opens (after_enqueue eq now f k w later) (after_enqueue eq now f l w later)
      (λ q. ap (λ (b : Bool). cond b (Some (joined (f.by_key k) now f.next_fetch asks later)) (f.by_key q))
      ((same_key_equiv laws).congr k l q same)
      ∙ ap (λ (o : Option (OpenFetch N R)). update (same_key eq) f.by_key l (Some (joined o now f.next_fetch asks later)) q)
      alike)
      (ap (λ (o : Option (OpenFetch N R)). if is_some o then f.next_fetch else f.next_fetch + 1) alike) refl

-- what holds by an answer, either way
pub either_way : {T E C : Type 0} (r : Result T E) {A : T → Type 0} {B : E → Type 0} → MatchResult r A B →
    ((t : T) → A t → C) → ((e : E) → B e → C) → C
either_way (Ok t) h done refused = done t h
either_way (Err e) h done refused = refused e h

-- a fetch ends with a record that came in, of which those who waited have all handles
module _ {K V P View C N R : Type 0} (m : Meaning K P View C) (source : Source) (s t : State K V P View)
    (f g : Opens K N R) (k : ℕ × K) (d : Data K V P) (shut : g ≡ closed m.same f k) where
  pub completes_by : (p : Option (OpenFetch N R)) (waiters : List (Waiting N)) → IsSomeAnd p (λ o. waiters ≡ o.tokens) →
      (outcome : Result (Option (List (Held K V P))) Reason) (ls : List (Event × Gone K V P))
      → Arrives m source s (newcomer s d (length waiters)) outcome ls t →
      CompletesBy m p source s f k d (record { found = true; waiters = waiters; outcome = outcome; leaves = ls })
      t g
  completes_by None waiters there outcome ls arrives = absurd there
  completes_by (Some o) waiters there outcome ls arrives = record {
    found = refl;
    waiters = there;
    arrives = subst (λ (w : List (Waiting N)). Arrives m source s (newcomer s d (length w)) outcome ls t) there arrives;
    closes = shut;
  }

  made_arrives : (n count : ℕ) → n ≡ 1 + count →
      (entry : Held K V P) (others : List (Held K V P)) (ls : List (Event × Gone K V P)) → others
      ≡ replicate count entry
      → Inserts m source s (newcomer s d (1 + count)) ls entry t →
      Arrives m source s (newcomer s d n) (Ok (Some (others ++ entry ∷ []))) ls t
  made_arrives n count many entry others ls all h = (
    entry,
    subst (λ (i : ℕ). Inserts m source s (newcomer s d i) ls entry t) (sym many) h,
    ap (λ (l : List (Held K V P)). l ++ entry ∷ []) all ∙ replicate-append-replicate count 1 entry
        ∙ ap (λ (i : ℕ). replicate i entry) (let more : count + 1 ≡ n = omega (arith, many) in more),
  )

  pub completed : (p : Option (OpenFetch N R)) (waiters : List (Waiting N)) → IsSomeAnd p (λ o. waiters ≡ o.tokens) →
      (count : ℕ) → length waiters ≡ 1 + count
      → (entry : Held K V P) (others : List (Held K V P)) (ls : List (Event × Gone K V P)) (ended : Ending K V P N) →
      ended ≡ record { found = true; waiters = waiters; outcome = Ok (Some (others ++ entry ∷ [])); leaves = ls }
      → others ≡ replicate count entry → Inserts m source s (newcomer s d (1 + count)) ls entry t →
      CompletesBy m p source s f k d ended t g
  completed p waiters there count many entry others ls ended is all h =
      subst (λ (e : Ending K V P N). CompletesBy m p source s f k d e t g) (sym is)
      (completes_by p waiters there (Ok (Some (others ++ entry ∷ []))) ls
      (made_arrives (length waiters) count many entry others ls all h))
