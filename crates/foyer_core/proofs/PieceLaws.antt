-- A plain record that came in by a piece stands under its key.
use Rattle.std.proofs.Common.{◌≡◌, ℕ, ◌+◌, List, Some, Ok, Bool, true, false, true≢false, refl, sym, ◌∙◌, ap, subst}
use Rattle.std.proofs.Math.Logic.{∥∥₁_elim}
use Rattle.std.proofs.Props.{props}
use Rattle.std.specs.Cmp.{IsEquivalence}
use Rattle.std.proofs.lemmas.Map.{update_here}
use Rattle.foyer_policy.specs.Policy.{IsPolicy}
use Rattle.foyer_policy.specs.declared.types.Event.{Event}
use Rattle.foyer_policy.specs.declared.types.Source.{Source}
use Rattle.foyer_policy.specs.declared.types.Source.TheVariants.{Memory}
use Rattle.foyer_core.specs.Indexer.{same_key}
use Rattle.foyer_core.specs.Pieces.{GainsHandles, InsertsPiece, PieceBy, ReturnsBy, is_in, is_known, returning}
use Rattle.foyer_core.specs.State.{Meaning, State, IsKept, key_of, is_phantom_record}
use Rattle.foyer_core.specs.Steps.{Inserts, InsertsBy, newcomer}
use Rattle.foyer_core.specs.Values.{Carried, Gone, Held, Incoming, Made, Rec}
use Rattle.foyer_core.specs.declared.record.Data.{Data}
use Rattle.foyer_core.proofs.CoreLaws.{Stands, came_stands}
use Rattle.foyer_core.proofs.Keeps.{counted_there}

-- a plain record that came in by a piece is hit by equal keys
module _ {K V P View C : Type 0} (m : Meaning K P View C) (laws : IsEquivalence m.same) (good : IsPolicy m.policy)
    (s t : State K V P View) (kept : ∥ IsKept m s ∥₁) where
  same_rec : (a b : Rec K V P) → Some a ≡ Some b → a ≡ b
  same_rec a b h = cc

  pub inserts_stand : (source : Source) (inc : Incoming K V P) (ls : List (Event × Gone K V P)) (entry : Held K V P) →
      Inserts m source s inc ls entry t → is_phantom_record m entry.kept ≡ false → Stands m laws good entry.kept t
  inserts_stand source inc ls entry h plain = go (is_phantom_record m inc.kept) refl h where
    go : (b : Bool) → is_phantom_record m inc.kept ≡ b → InsertsBy m b source s inc ls entry t →
        Stands m laws good entry.kept t
    go true is h =
        absurd (true≢false (sym is ∙ ap (λ (e : Held K V P). is_phantom_record m e.kept) (sym h.entry_is) ∙ plain))
    go false is h = subst (λ (d : Data K V P). Stands m laws good d t)
        (ap (λ (e : Held K V P). e.kept) (sym h.entry_is)) (came_stands m laws good source s inc ls entry t h)

  pub gains_stand : (id n : ℕ) (ls : List (Event × Gone K V P)) (entry : Held K V P) → is_in (s.records id) ≡ true →
      GainsHandles s id n ls entry t → Stands m laws good entry.kept t
  gains_stand id n ls entry inside h =
      let res : h.rec.resident ≡ true = sym (ap is_in h.there) ∙ inside in
      let more : Rec K V P = record h.rec { handles = h.rec.handles + n } in
      subst (λ (d : Data K V P). Stands m laws good d t) (ap (λ (e : Held K V P). e.kept) (sym h.entry_is)) record {
        id = id;
        rec = more;
        under = λ k same. ap (λ (x : State K V P View). x.index k) h.after
            ∙ ∥∥₁_elim kept (hlevel props) (λ κ. under_by h.rec h.there res k same κ);
        there = ap (λ (x : State K V P View). x.records id) h.after ∙ update_here s.records id (Some more);
        data_are = refl;
      }
    where
      under_by : (r : Rec K V P) → s.records id ≡ Some r → r.resident ≡ true → (k : ℕ × K) →
          same_key m.same (key_of r.kept) k ≡ true → IsKept m s → s.index k ≡ Some id
      under_by r there res k same κ =
          let c = counted_there m laws good s κ id (κ.resident id r there res) in
          let alike : c.0 ≡ r = same_rec c.0 r (sym c.1 ∙ there) in
          sym (κ.respects (key_of r.kept) k same) ∙ ap (λ (x : Rec K V P). s.index (key_of x.kept)) (sym alike) ∙ c.3

  pub piece_stands : (weighs : ℕ → Type 0) (hash : ℕ) (piece : Carried K V P) (more : ℕ) (made : Made K V P) →
      InsertsPiece m weighs hash piece more (Ok made) s t
      → is_phantom_record m made.entry.kept ≡ false → Stands m laws good made.entry.kept t
  piece_stands weighs hash piece more made h plain = go (is_known s hash piece) h where
    known : (b : Bool) → is_in (s.records piece.id) ≡ b → ReturnsBy m b s piece more made.leaves made.entry t →
        Stands m laws good made.entry.kept t
    known true is h = gains_stand piece.id more made.leaves made.entry is h
    known false is h = inserts_stand Memory (returning s piece more) made.leaves made.entry h plain

    go : (b : Bool) → PieceBy m b weighs hash piece more (Ok made) s t → Stands m laws good made.entry.kept t
    go true h = known (is_in (s.records piece.id)) refl h
    go false h = inserts_stand Memory (newcomer s (record piece.kept { hash = hash; weight = h.0 }) more) made.leaves
        made.entry h.2 plain
