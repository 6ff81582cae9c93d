-- The usage of a shard into which a record comes by a piece.
use Rattle.std.proofs.Common.{◌≡◌, ℕ, Bool, List, Some, Ok, Err, true, false, refl, sym, ◌∙◌, ap, subst}
use Rattle.std.proofs.Math.Logic.{∥∥₁_elim}
use Rattle.std.proofs.Props.{props}
use Rattle.std.proofs.lemmas.Bool.{true≢false}
use Rattle.std.specs.Prelude.{IfOk, Result}
use Rattle.std.specs.Cmp.{IsEquivalence}
use Rattle.foyer_policy.specs.Policy.{IsPolicy}
use Rattle.foyer_policy.specs.declared.types.Event.{Event}
use Rattle.foyer_policy.specs.declared.types.Source.{Source}
use Rattle.foyer_policy.specs.declared.types.Source.TheVariants.{Memory}
use Rattle.foyer_core.specs.declared.record.Data.{Data}
use Rattle.foyer_core.specs.Core.{Core, AtShard, shard_at}
use Rattle.foyer_core.specs.Laws.{IsBounded, IsBoundedAt, IsOutside}
use Rattle.foyer_core.specs.Pieces.{InsertsPiece, PieceBy, ReturnsBy, is_in, is_known, returning}
use Rattle.foyer_core.specs.State.{Meaning, State, IsKept, is_phantom_record}
use Rattle.foyer_core.specs.Steps.{Inserts, InsertsBy, InsertsPlain, newcomer}
use Rattle.foyer_core.specs.Values.{Carried, Denied, Gone, Held, Incoming, Made}
use Rattle.foyer_core.proofs.CoreLaws.{now_here}
use Rattle.foyer_core.proofs.InsertLemmas.{usage_after}
use Rattle.foyer_core.proofs.Returning.{inserted_entry}

module _ {K V P View C : Type 0} (m : Meaning K P View C) (laws : IsEquivalence m.same) (good : IsPolicy m.policy)
    (s t : State K V P View) (kept : ∥ IsKept m s ∥₁) where
  inserted_bound : (source : Source) (inc : Incoming K V P) (ls : List (Event × Gone K V P)) (entry : Held K V P) →
      Inserts m source s inc ls entry t → is_phantom_record m entry.kept ≡ false
      → IsBounded m entry.kept.weight s t
  inserted_bound source inc ls entry h plain =
      let own : entry.kept ≡ inc.kept = ap (λ (e : Held K V P). e.kept) (inserted_entry m source s inc ls entry t h) in
      let same : is_phantom_record m inc.kept ≡ false = ap (λ (d : Data K V P). is_phantom_record m d) (sym own)
      ∙ plain in
      let inserts : InsertsPlain m source s inc ls entry t =
      subst (λ (b : Bool). InsertsBy m b source s inc ls entry t) same h in
      subst (λ (d : Data K V P). IsBounded m d.weight s t) (sym own)
      (∥∥₁_elim kept (hlevel props) (λ k. usage_after m laws good source s k inc ls entry t inserts))

  pub piece_bound : (weighs : ℕ → Type 0) (hash : ℕ) (piece : Carried K V P) (more : ℕ) (made : Made K V P) →
      InsertsPiece m weighs hash piece more (Ok made) s t
      → is_phantom_record m made.entry.kept ≡ false → is_in (s.records made.entry.id) ≡ false →
      IsBounded m made.entry.kept.weight s t
  piece_bound weighs hash piece more made h plain out = go (is_known s hash piece) h where
    known : (b : Bool) → is_in (s.records piece.id) ≡ b → ReturnsBy m b s piece more made.leaves made.entry t →
        IsBounded m made.entry.kept.weight s t
    known true is h =
        absurd (true≢false (sym is ∙ ap (λ (e : Held K V P). is_in (s.records e.id)) (sym h.entry_is) ∙ out))
    known false is h = inserted_bound Memory (returning s piece more) made.leaves made.entry h plain

    go : (b : Bool) → PieceBy m b weighs hash piece more (Ok made) s t → IsBounded m made.entry.kept.weight s t
    go true h = known (is_in (s.records piece.id)) refl h
    go false h = inserted_bound Memory (newcomer s (record piece.kept { hash = hash; weight = h.0 }) more) made.leaves
        made.entry h.2 plain

-- so for a core
pub piece_bounds : {K V P View C S W A : Type 0} (m : Meaning K P View C) (laws : IsEquivalence m.same)
    (good : IsPolicy m.policy) (old new : Core K V P View S W A)
    → ((s : State K V P View) (hash : ℕ) → shard_at old hash ≡ Some s → ∥ IsKept m s ∥₁) →
    (weighs : ℕ → Type 0) (hash : ℕ) (piece : Carried K V P) (more : State K V P View → ℕ)
    (result : Result (Made K V P) (Denied K V P))
    → AtShard (λ s t. InsertsPiece m weighs hash piece (more s) result s t) hash old new
    → IfOk result
    (λ made. is_phantom_record m made.entry.kept ≡ false → IsOutside old hash made.entry.id →
    IsBoundedAt m hash made.entry.kept.weight old new)
piece_bounds {K} {V} {P} {View} {C} {S} {W} {A} m laws good old new kept weighs hash piece more (Ok made) at =
    λ plain outside s t there gone.
    let was : at.before ≡ s = same at.before s (sym at.there ∙ there) in
    let now : at.after ≡ t = same at.after t
    (sym (now_here old new (λ a b. InsertsPiece m weighs hash piece (more a) (Ok made) a b) hash at hash refl)
    ∙ gone) in
    subst (λ (a : State K V P View). IsBounded m made.entry.kept.weight a t) was
    (subst (λ (b : State K V P View). IsBounded m made.entry.kept.weight at.before b) now
    (piece_bound m laws good at.before at.after (kept at.before hash at.there) weighs hash piece (more at.before)
    made at.stepped plain (outside at.before at.there))) where
      same : (a b : State K V P View) → Some a ≡ Some b → a ≡ b
      same a b h = cc
piece_bounds m laws good old new kept weighs hash piece more (Err denied) at = tt
