-- What comes in has handles that its record counts; refused, it gives none.
use Rattle.std.proofs.Common.{◌≡◌, ℕ, ◌+◌, ◌%◌, ◌==◌, ◌&&◌, List, Option, Some, None, Ok, Err, Bool, true, false, cond, nat_lt, refl, sym, ap, ◌∙◌, arith}
use Rattle.std.proofs.lemmas.Bool.Decides.{nat_tests}
use Rattle.foyer_policy.specs.declared.types.Event.{Event}
use Rattle.foyer_policy.specs.declared.types.Source.{Source}
use Rattle.foyer_policy.specs.declared.types.Source.TheVariants.{Memory}
use Rattle.foyer_policy.specs.declared.error.Reason.{Reason}
use Rattle.foyer_core.specs.Pieces.{GainsHandles, InsertsPiece, PieceBy, RefusesReturnBy, ReturnsBy, coming_under, held_or, is_in, is_known, returning}
use Rattle.foyer_core.specs.State.{AllData, Meaning, State, handles_in, is_phantom_record, key_of}
use Rattle.foyer_core.specs.Steps.{Inserts, newcomer}
use Rattle.foyer_core.specs.Values.{Carried, Denied, Gone, Held, Incoming, Made, Rec}
use Rattle.foyer_session.specs.Owns.{Counts}
use Rattle.foyer_session.proofs.CountLemmas.{Alike, alike_refl, inserts_counts, inserts_entry, inserts_number, gained, refused_by_alike}
use Rattle.foyer_session.proofs.EntryCounts.{handles_counts, refusals_same}
use Rattle.foyer_session.proofs.FoundLemmas.{first_holds}

last_holds : (a b : Bool) → (a && b) ≡ true → b ≡ true
last_holds true b h = h
last_holds false b h = absurd cc

-- a piece that a shard knows has the hash that its key has
pub known_hash : {K V P View : Type 0} (s : State K V P View) (hash : ℕ) (piece : Carried K V P) →
    is_known s hash piece ≡ true → piece.kept.hash ≡ hash
known_hash s hash piece known =
    let rest = last_holds (piece.number == s.number) ((piece.kept.hash == hash) && nat_lt piece.id s.next) known in
    let same = first_holds (piece.kept.hash == hash) (nat_lt piece.id s.next) rest in
    grind (arith, nat_tests)

-- so many handles like this entry are handed out, which their record counts; the record has a hash of this place of so
-- many
pub record Gives {K V P View : Type 0} (many place : ℕ) (old : State K V P View) (entry : Held K V P) (more : ℕ)
    (new : State K V P View) : Type 0 where
  pub number : new.number ≡ old.number
  pub numbered : entry.number ≡ old.number
  pub placed : entry.kept.hash % many ≡ place
  pub untold : entry.left ≡ true
  pub counts : (held : ℕ → ℕ) → Counts old held → Counts new (gained held entry.id more)

module _ {K V P View C : Type 0} (m : Meaning K P View C) (many place : ℕ) (old new : State K V P View)
    (belongs : AllData (λ d. d.hash % many ≡ place) old) where
  pub inserts_gives : (source : Source) (i : Incoming K V P) (ls : List (Event × Gone K V P)) (entry : Held K V P)
      (more : ℕ) → Inserts m source old i ls entry new → i.handles ≡ handles_in old i.id + more
      → i.kept.hash % many ≡ place → Gives many place old entry more new
  inserts_gives source i ls entry more h gains at =
      let is = inserts_entry m source old i ls entry new (is_phantom_record m i.kept) h in
      record {
        number = inserts_number m source old i ls entry new (is_phantom_record m i.kept) h;
        numbered = ap (λ (x : Held K V P). x.number) is;
        placed = ap (λ (x : Held K V P). x.kept.hash % many) is ∙ at;
        untold = ap (λ (x : Held K V P). x.left) is;
        counts = inserts_counts m source old i ls entry new (is_phantom_record m i.kept) h more gains;
      }

  gains_gives : (id more : ℕ) (ls : List (Event × Gone K V P)) (entry : Held K V P) →
      GainsHandles old id more ls entry new → Gives many place old entry more new
  gains_gives id more ls entry h = record {
    number = ap (λ (x : State K V P View). x.number) h.after;
    numbered = ap (λ (x : Held K V P). x.number) h.entry_is;
    placed = ap (λ (x : Held K V P). x.kept.hash % many) h.entry_is ∙ belongs id h.rec h.there;
    untold = ap (λ (x : Held K V P). x.left) h.entry_is;
    counts = λ held counts.
        let of : entry.id ≡ id = ap (λ (x : Held K V P). x.id) h.entry_is in
        rw (h.after, of) (handles_counts m old id more h.rec h.there held counts);
  }

  -- what is held of a record, or else a piece's, is of the same place
  held_placed : (piece : Carried K V P) (o : Option (Rec K V P)) → old.records piece.id ≡ o → piece.kept.hash % many
      ≡ place → (held_or piece.kept o).hash % many ≡ place
  held_placed piece None is at = at
  held_placed piece (Some r) is at = belongs piece.id r is

  pub returned_gives : (b : Bool) (piece : Carried K V P) (ls : List (Event × Gone K V P)) (entry : Held K V P)
      (more : ℕ) → ReturnsBy m b old piece more ls entry new → piece.kept.hash % many ≡ place
      → Gives many place old entry more new
  returned_gives true piece ls entry more h at = gains_gives piece.id more ls entry h
  returned_gives false piece ls entry more h at =
      inserts_gives Memory (returning old piece more) ls entry more h refl
      (held_placed piece (old.records piece.id) refl at)

  pub piece_gives : (weighs : ℕ → Type 0) (hash : ℕ) (piece : Carried K V P) (made : Made K V P) (more : ℕ) →
      InsertsPiece m weighs hash piece more (Ok made) old new
      → hash % many ≡ place → handles_in old old.next ≡ 0 → Gives many place old made.entry more new
  piece_gives weighs hash piece made more h at none = go (is_known old hash piece) refl h
    where
      go : (b : Bool) → is_known old hash piece ≡ b → PieceBy m b weighs hash piece more (Ok made) old new →
          Gives many place old made.entry more new
      go true known h = returned_gives (is_in (old.records piece.id)) piece made.leaves made.entry more h
          (ap (λ (x : ℕ). x % many) (known_hash old hash piece known) ∙ at)
      go false known h =
          inserts_gives Memory (newcomer old (record piece.kept { hash = hash; weight = h.0 }) more) made.leaves
          made.entry more h.2 (omega (arith, none)) at

module _ {K V P View C : Type 0} (m : Meaning K P View C) (old new : State K V P View) where
  pub refused_alike : (b : Bool) (piece : Carried K V P) (more : ℕ) (reason : Reason) (ls : List (Event × Gone K V P))
      → RefusesReturnBy m b old piece more reason ls new → Alike old new
  refused_alike true piece more reason ls h = alike_refl old new (refusals_same old new piece.id more reason h.1)
  refused_alike false piece more reason ls h =
      refused_by_alike m (is_phantom_record m (returning old piece more).kept) old (returning old piece more) reason
      ls new h

  pub piece_alike : (weighs : ℕ → Type 0) (hash : ℕ) (piece : Carried K V P) (denied : Denied K V P) (more : ℕ) →
      InsertsPiece m weighs hash piece more (Err denied) old new → Alike old new
  piece_alike weighs hash piece denied more h = go (is_known old hash piece) h
    where
      go : (b : Bool) → PieceBy m b weighs hash piece more (Err denied) old new → Alike old new
      go true h = refused_alike (is_in (old.records piece.id)) piece more denied.reason denied.leaves h
      go false h =
          let i = newcomer old (record piece.kept { hash = hash; weight = h.0 }) more in
          refused_by_alike m (is_phantom_record m i.kept) old i denied.reason denied.leaves new h.2

  -- what came in by a piece is under the key that it was to come in under
  returned_key : (b : Bool) (piece : Carried K V P) (more : ℕ) (ls : List (Event × Gone K V P)) (entry : Held K V P) →
      ReturnsBy m b old piece more ls entry new
      → key_of entry.kept ≡ key_of (held_or piece.kept (old.records piece.id))
  returned_key true piece more ls entry h =
      ap (λ (x : Held K V P). key_of x.kept) h.entry_is
      ∙ sym (ap (λ (o : Option (Rec K V P)). key_of (held_or piece.kept o)) h.there)
  returned_key false piece more ls entry h =
      ap (λ (x : Held K V P). key_of x.kept)
      (inserts_entry m Memory old (returning old piece more) ls entry new
      (is_phantom_record m (returning old piece more).kept) h)

  pub piece_key : (weighs : ℕ → Type 0) (hash : ℕ) (piece : Carried K V P) (made : Made K V P) (more : ℕ) →
      InsertsPiece m weighs hash piece more (Ok made) old new → key_of made.entry.kept ≡ coming_under old hash piece
  piece_key weighs hash piece made more h = go (is_known old hash piece) refl h
    where
      go : (b : Bool) → is_known old hash piece ≡ b → PieceBy m b weighs hash piece more (Ok made) old new →
          key_of made.entry.kept ≡ coming_under old hash piece
      go true known h = returned_key (is_in (old.records piece.id)) piece more made.leaves made.entry h
          ∙ sym (ap (λ (b : Bool). cond b (key_of (held_or piece.kept (old.records piece.id))) (hash, piece.kept.key))
          known)
      go false known h =
          let i = newcomer old (record piece.kept { hash = hash; weight = h.0 }) more in
          ap (λ (x : Held K V P). key_of x.kept)
          (inserts_entry m Memory old i made.leaves made.entry new (is_phantom_record m i.kept) h.2)
          ∙ sym (ap (λ (b : Bool). cond b (key_of (held_or piece.kept (old.records piece.id))) (hash, piece.kept.key))
          known)
