-- What a core's insert of a piece tells, and what a get finds after it.
use Rattle.std.proofs.Common.{◌≡◌, ℕ, Bool, length, Ok, Err, true, false, refl, sym, ◌∙◌, ap, subst}
use Rattle.std.specs.Prelude.{IfOk, MatchResult, Result}
use Rattle.std.specs.Cmp.{IsEquivalence}
use Rattle.foyer_policy.specs.Policy.{IsPolicy}
use Rattle.foyer_policy.specs.declared.types.Source.TheVariants.{Memory}
use Rattle.foyer_core.specs.Core.{Core, AtShard, shard_of}
use Rattle.foyer_core.specs.CallLaws.{InsertLaws}
use Rattle.foyer_core.specs.Laws.{Finds, HandlesStay}
use Rattle.foyer_core.specs.Observed.{IsTold, IsToldWith, after_entry, after_leaves, known}
use Rattle.foyer_core.specs.Pieces.{InsertsPiece, PieceBy, is_known}
use Rattle.foyer_core.specs.State.{Meaning, State, IsKept, is_phantom_record}
use Rattle.foyer_core.specs.Steps.{newcomer}
use Rattle.foyer_core.specs.Values.{Carried, Denied, Made}
use Rattle.foyer_core.proofs.CoreLaws.{Stands, finds_at, stays_at}
use Rattle.foyer_core.proofs.CoreTold.{AreSound, at_told}
use Rattle.foyer_core.proofs.Inserting.{came_stays, refused_return_stays, refused_stay, returns_stay}
use Rattle.foyer_core.proofs.PieceBounds.{piece_bounds}
use Rattle.foyer_core.proofs.PieceLaws.{piece_stands}
use Rattle.foyer_core.proofs.PieceTold.{made_told, piece_at, refused_piece_told}
use Rattle.foyer_core.proofs.Staying.{RecordsStay, nothing}

-- `hashes` gives each key its hash, by what a core has to do so
module _ {K V P View C S W A : Type 0} (m : Meaning K P View C) (laws : IsEquivalence m.same)
    (good : IsPolicy m.policy) (hashes : S → K → ℕ)
    (old new : Core K V P View S W A)
    (equal : (a b : K) → m.same a b ≡ true → hashes old.hash_builder a ≡ hashes old.hash_builder b)
    (sound : AreSound m laws good (hashes old.hash_builder) equal (length old.shards) old.shards)
    (weighs : ℕ → Type 0) (piece : Carried K V P) (more : State K V P View → ℕ) where
  abbrev hash : K → ℕ
  hash = hashes old.hash_builder

  abbrev Came : Result (Made K V P) (Denied K V P) → Type 0
  Came result = AtShard (λ s t. InsertsPiece m weighs (hash piece.kept.key) piece (more s) result s t)
      (hash piece.kept.key) old new

  -- an insert, by what contracts see of its answer
  piece_tells : (result : Result (Made K V P) (Denied K V P)) → Came result
      → MatchResult result
      (λ made. IsToldWith m.same hash m.phantom old made.leaves made.entry.id made.entry.kept new)
      (λ denied. IsTold m.same hash old denied.leaves new)
  piece_tells (Ok made) at =
      let place = shard_of old (hash piece.kept.key) in
      let s = sound place at.before at.there in
      at_told m laws good hash equal old new
      (λ s t. InsertsPiece m weighs (hash piece.kept.key) piece (more s) (Ok made) s t) (hash piece.kept.key) at
      (after_entry m.same m.phantom (after_leaves m.same (known hash old) made.leaves) made.entry.id made.entry.kept)
      (made_told m laws good hash equal (length old.shards) place at.before s.at piece (more at.before) refl s.kept
      at.after weighs made at.stepped (known hash old))
  piece_tells (Err denied) at =
      let place = shard_of old (hash piece.kept.key) in
      let s = sound place at.before at.there in
      at_told m laws good hash equal old new
      (λ s t. InsertsPiece m weighs (hash piece.kept.key) piece (more s) (Err denied) s t) (hash piece.kept.key) at
      (after_leaves m.same (known hash old) denied.leaves)
      (refused_piece_told m laws good hash equal (length old.shards) place at.before s.at piece (more at.before) refl
      s.kept at.after weighs denied at.stepped (known hash old))

  -- a plain record that came in is found under its key
  piece_finds : (result : Result (Made K V P) (Denied K V P)) → Came result
      → IfOk result
      (λ made. is_phantom_record m made.entry.kept ≡ false →
      Finds m (hashes new.hash_builder) new made.entry.kept.key made.entry.kept.value made.entry.kept.properties)
  piece_finds (Ok made) at = λ plain.
      let place = shard_of old (hash piece.kept.key) in
      let s = sound place at.before at.there in
      let d = made.entry.kept in
      let own = piece_at m laws good hash equal (length old.shards) place at.before s.at piece (more at.before) refl
      weighs made at.after at.stepped in
      let stands : AtShard (λ s t. Stands m laws good d t) (hash piece.kept.key) old new = record {
        before = at.before;
        after = at.after;
        there = at.there;
        stepped = piece_stands m laws good at.before at.after s.kept weighs (hash piece.kept.key) piece
            (more at.before) made at.stepped plain;
        rest = at.rest;
      } in
      let builder : new.hash_builder ≡ old.hash_builder = ap (λ (c : Core K V P View S W A). c.hash_builder) at.rest in
      subst (λ (b : S). Finds m (hashes b) new d.key d.value d.properties) (sym builder)
      (finds_at m laws good old new d (hash piece.kept.key) own.0 stands hash
      (λ k same. sym (equal d.key k same) ∙ sym own.1))
  piece_finds (Err denied) at = tt

  -- the records stay
  piece_stay : (result : Result (Made K V P) (Denied K V P)) → Came result → HandlesStay (λ e. 0) old new
  piece_stay result at = stays_at old new (hash piece.kept.key)
      record { before = at.before; after = at.after; there = at.there; stepped = go result at.stepped; rest = at.rest }
    where
      kept : ∥ IsKept m at.before ∥₁
      kept = (sound (shard_of old (hash piece.kept.key)) at.before at.there).kept

      go : (r : Result (Made K V P) (Denied K V P)) →
          InsertsPiece m weighs (hash piece.kept.key) piece (more at.before) r at.before at.after →
          RecordsStay nothing at.before at.after
      go r h = by (is_known at.before (hash piece.kept.key) piece) r h where
        by : (b : Bool) (r : Result (Made K V P) (Denied K V P)) →
            PieceBy m b weighs (hash piece.kept.key) piece (more at.before) r at.before at.after →
            RecordsStay nothing at.before at.after
        by true (Ok made) h = returns_stay m at.before at.after piece (more at.before) made.leaves made.entry h
        by true (Err denied) h = refused_return_stays m at.before at.after piece (more at.before) denied.reason
            denied.leaves h
        by false (Ok made) h = came_stays m Memory at.before at.after
            (record piece.kept { hash = hash piece.kept.key; weight = h.0 }) (more at.before) made.leaves made.entry
            kept h.2
        by false (Err denied) h = refused_stay m
            (is_phantom_record m (record piece.kept { hash = hash piece.kept.key; weight = h.0 })) at.before
            (newcomer at.before (record piece.kept { hash = hash piece.kept.key; weight = h.0 }) (more at.before))
            denied.reason denied.leaves at.after h.2

  -- all that follows
  pub piece_laws : (result : Result (Made K V P) (Denied K V P)) → Came result →
      InsertLaws m hash (hashes new.hash_builder) (hash piece.kept.key) old result new
  piece_laws result at = record {
    stay = piece_stay result at;
    told = piece_tells result at;
    found = piece_finds result at;
    bounded = piece_bounds m laws good old new (λ s h there. (sound (shard_of old h) s there).kept) weighs
        (hash piece.kept.key) piece more result at;
  }
