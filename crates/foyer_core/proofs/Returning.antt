-- What a known piece's insert has done, from the slot that holds its record.
use Rattle.std.proofs.Common.{◌≡◌, ℕ, ◌+◌, ◌-◌, ◌<◌, List, [], Option, Some, Bool, true, false, refl, sym, ◌∙◌, ap, subst, arith}
use Rattle.std.specs.Prelude.{Result, Ok, Err, MatchResult}
use Rattle.foyer_policy.specs.declared.types.Event.{Event}
use Rattle.foyer_policy.specs.declared.types.Source.{Source}
use Rattle.foyer_policy.specs.declared.types.Source.TheVariants.{Memory}
use Rattle.foyer_policy.specs.declared.error.Reason.{Reason}
use Rattle.foyer_policy.specs.declared.error.Reason.TheVariants.{NoMemory}
use Rattle.std.proofs.lemmas.Bool.Decides.{nat_tests}
use Rattle.foyer_core.specs.declared.record.Data.{Data}
use Rattle.foyer_core.specs.Pieces.{is_known, is_in, held_or, returning, GainsHandles, Returns, ReturnsBy, RefusesReturn, RefusesReturnBy}
use Rattle.foyer_core.specs.State.{Meaning, State, handles_of, is_phantom_record, key_of}
use Rattle.foyer_core.specs.Steps.{Inserts, InsertsBy, RefusesInsert, RefusesBy, RefusesHandles, MayBy, entry_of}
use Rattle.foyer_core.specs.Table.{rec_of}
use Rattle.foyer_core.specs.Values.{Carried, Gone, Held, Incoming, Kept, Rec}
use Rattle.foyer_policy.specs.Policy.{evicted}

module _ {K V P View C : Type 0} (m : Meaning K P View C) (s : State K V P View) (x : Kept K V P)
    (there : s.records x.id ≡ Some (rec_of x))
    (piece : Carried K V P) (named : piece.id ≡ x.id) (more : ℕ) where
  -- what comes in
  abbrev pub inc_of : Incoming K V P
  inc_of = record { id = x.id; kept = x.kept; handles = x.handles + more }

  held : s.records piece.id ≡ Some (rec_of x)
  held = ap s.records named ∙ there

  in_is : is_in (s.records piece.id) ≡ x.resident
  in_is = ap is_in held

  inc_is : returning s piece more ≡ inc_of
  inc_is = ap
      (λ (id : ℕ). let y : Incoming K V P =
      record {
        id = id;
        kept = held_or piece.kept (s.records piece.id);
        handles =
            handles_of (s.records piece.id) + more;
      } in y) named
      ∙ ap (λ (r : Option (Rec K V P)). let y : Incoming K V P =
      record { id = x.id; kept = held_or piece.kept r; handles = handles_of r + more } in y) held

  -- the record is in the index
  pub in_returns : x.resident ≡ true → (ls : List (Event × Gone K V P)) (entry : Held K V P) (new : State K V P View)
      → GainsHandles s x.id more ls entry new → Returns m s piece more ls entry new
  in_returns res ls entry new h = subst (λ (b : Bool). ReturnsBy m b s piece more ls entry new) (sym (in_is ∙ res))
      (subst (λ (id : ℕ). GainsHandles s id more ls entry new) (sym named) h)

  pub in_refuses : x.resident ≡ true → (reason : Reason) (ls : List (Event × Gone K V P)) (new : State K V P View) →
      (ls ≡ []) × RefusesHandles s x.id more reason new → RefusesReturn m s piece more reason ls new
  in_refuses res reason ls new h = subst (λ (b : Bool). RefusesReturnBy m b s piece more reason ls new)
      (sym (in_is ∙ res)) (h.0, subst (λ (id : ℕ). RefusesHandles s id more reason new) (sym named) h.1)

  -- it is not
  pub out_returns : x.resident ≡ false → (ls : List (Event × Gone K V P)) (entry : Held K V P)
      (new : State K V P View) → Inserts m Memory s inc_of ls entry new → Returns m s piece more ls entry new
  out_returns out ls entry new h = subst (λ (b : Bool). ReturnsBy m b s piece more ls entry new) (sym (in_is ∙ out))
      (subst (λ (i : Incoming K V P). Inserts m Memory s i ls entry new) (sym inc_is) h)

  pub out_refuses : x.resident ≡ false → (reason : Reason) (ls : List (Event × Gone K V P)) (new : State K V P View) →
      RefusesInsert m s inc_of reason ls new → RefusesReturn m s piece more reason ls new
  out_refuses out reason ls new h = subst (λ (b : Bool). RefusesReturnBy m b s piece more reason ls new)
      (sym (in_is ∙ out)) (subst (λ (i : Incoming K V P). RefusesInsert m s i reason ls new) (sym inc_is) h)

-- an insert answers an entry of its record
pub inserted_entry : {K V P View C : Type 0} (m : Meaning K P View C) (source : Source) (old : State K V P View)
    (i : Incoming K V P) (ls : List (Event × Gone K V P)) (entry : Held K V P) (new : State K V P View)
    → Inserts m source old i ls entry new → entry ≡ entry_of old i.id i.kept source
inserted_entry m source old i ls entry new h = go (is_phantom_record m i.kept) h where
  go : (b : Bool) → InsertsBy m b source old i ls entry new → entry ≡ entry_of old i.id i.kept source
  go true p = p.entry_is
  go false p = p.entry_is

-- a return answers an entry of what is held of its record, or else of the piece
pub returned_kept : {K V P View C : Type 0} (m : Meaning K P View C) (s : State K V P View) (piece : Carried K V P)
    (more : ℕ) (ls : List (Event × Gone K V P)) (entry : Held K V P) (new : State K V P View)
    → Returns m s piece more ls entry new → entry.kept ≡ held_or piece.kept (s.records piece.id)
returned_kept {K} {V} {P} m s piece more ls entry new h = go (is_in (s.records piece.id)) h where
  go : (b : Bool) → ReturnsBy m b s piece more ls entry new → entry.kept ≡ held_or piece.kept (s.records piece.id)
  go true p = ap (λ (e : Held K V P). e.kept) p.entry_is
      ∙ sym (ap (λ (o : Option (Rec K V P)). held_or piece.kept o) p.there)
  go false p = ap (λ (e : Held K V P). e.kept) (inserted_entry m Memory s (returning s piece more) ls entry new p)

pub returned_key : {K V P View C : Type 0} (m : Meaning K P View C) (s : State K V P View) (piece : Carried K V P)
    (more : ℕ) (ls : List (Event × Gone K V P)) (entry : Held K V P) (new : State K V P View)
    → Returns m s piece more ls entry new → (hash : ℕ) (key : K) → hash ≡ entry.kept.hash → key ≡ entry.kept.key →
    (hash, key) ≡ key_of (held_or piece.kept (s.records piece.id))
returned_key {K} {V} {P} m s piece more ls entry new h hash key hash_is key_is =
    let same : (hash, key) ≡ key_of entry.kept = λ j. (hash_is j, key_is j) in
    same ∙ ap (λ (d : Data K V P). key_of d) (returned_kept m s piece more ls entry new h)

-- want of memory, before anything
pub memory_refuses : {K V P View C : Type 0} (m : Meaning K P View C) (s : State K V P View) (inc : Incoming K V P) →
    MayBy m (is_phantom_record m inc.kept) s inc → RefusesInsert m s inc NoMemory [] s
memory_refuses {K} {V} {P} {View} m s inc may = go (is_phantom_record m inc.kept) may where
  go : (b : Bool) → MayBy m b s inc → RefusesBy m b s inc NoMemory [] s
  go true h = (h, refl, refl)
  go false h = (
    h,
    record
        { left = []; rest = evicted m.policy (s.capacity - inc.kept.weight) s.view; parts = refl; leave = refl },
  )

-- what holds of an answer, from what does
pub match_so : {T E : Type 0} (r : Result T E) {A B : T → Type 0} {C D : E → Type 0} → ((t : T) → A t → B t) →
    ((e : E) → C e → D e) → MatchResult r A C → MatchResult r B D
match_so (Ok t) f h so = f t so
match_so (Err e) f h so = h e so

-- a known piece has an id that was given
pub known_given : {K V P View : Type 0} (s : State K V P View) (hash : ℕ) (piece : Carried K V P) →
    is_known s hash piece ≡ true → piece.id < s.next
known_given s hash piece known = grind (arith, nat_tests)
