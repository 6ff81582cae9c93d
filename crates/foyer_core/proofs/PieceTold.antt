-- What an insert of a piece tells of its shard's index, and where its record belongs.
use Rattle.std.proofs.Common.{◌≡◌, ℕ, ◌%◌, List, Option, Some, None, Ok, Err, Bool, true, false, cond, refl, sym, ◌∙◌, ap, subst, arith}
use Rattle.std.proofs.Math.Logic.{∥∥₁_elim}
use Rattle.std.proofs.Props.{props}
use Rattle.std.specs.Prelude.{IfOk, Result, if◌then◌else◌}
use Rattle.std.specs.Cmp.{IsEquivalence}
use Rattle.std.specs.Map.{update}
use Rattle.std.proofs.lemmas.Bool.Decides.{nat_tests}
use Rattle.foyer_policy.specs.Policy.{IsPolicy}
use Rattle.foyer_policy.specs.declared.types.Event.{Event}
use Rattle.foyer_policy.specs.declared.types.Source.TheVariants.{Memory}
use Rattle.foyer_core.specs.declared.record.Data.{Data}
use Rattle.foyer_core.specs.Indexer.{same_key}
use Rattle.foyer_core.specs.Observed.{after_entry, after_leaves}
use Rattle.foyer_core.specs.Pieces.{GainsHandles, InsertsPiece, PieceBy, RefusesReturnBy, ReturnsBy, coming_under, held_or, is_in, is_known, returning}
use Rattle.foyer_core.specs.State.{Meaning, State, IsKept, AllData, key_of, is_phantom_record}
use Rattle.foyer_core.specs.Steps.{Inserts, InsertsBy, RefusesInsert, newcomer}
use Rattle.foyer_core.specs.Values.{Carried, Denied, Gone, Held, Incoming, Made, Rec}
use Rattle.foyer_core.proofs.InsertTold.{ToldWith, inserts_told, refuses_told}
use Rattle.foyer_core.proofs.Observing.{BelongsAt, Tells, tells_same, write_apart, write_knows}
use Rattle.foyer_core.proofs.ShardTold.{Stands, ToldBy, refused_handles_index, same_told, stands}

-- a known piece has the hash that its key has
known_hashed : {K V P View : Type 0} (s : State K V P View) (hash : ℕ) (piece : Carried K V P) → is_known s hash piece
    ≡ true → piece.kept.hash ≡ hash
known_hashed s hash piece known = grind (arith, nat_tests)

module _ {K V P View C : Type 0} (m : Meaning K P View C) (laws : IsEquivalence m.same) (good : IsPolicy m.policy)
    (hash : K → ℕ) (equal : (a b : K) → m.same a b ≡ true → hash a ≡ hash b) (many place : ℕ) where
  abbrev At : Data K V P → Type 0
  At = BelongsAt m laws hash equal many place

  module _ (s : State K V P View) (at : AllData At s) (piece : Carried K V P) (more : ℕ)
      (here : hash piece.kept.key % many ≡ place) where
    -- the record of a known piece belongs where it comes in, and so does a new one
    pub returning_at : is_known s (hash piece.kept.key) piece ≡ true → At (returning s piece more).kept
    returning_at known = go (s.records piece.id) refl where
      go : (o : Option (Rec K V P)) → s.records piece.id ≡ o → At (held_or piece.kept o)
      go None is =
          (let hashed = known_hashed s (hash piece.kept.key) piece known in
          (ap (λ (h : ℕ). h % many) hashed ∙ here, hashed))
      go (Some r) is = at piece.id r is

    -- so does what it comes in under
    pub under_at : ((coming_under s (hash piece.kept.key) piece).0 % many ≡ place)
        × ((coming_under s (hash piece.kept.key) piece).0 ≡ hash (coming_under s (hash piece.kept.key) piece).1)
    under_at = go (is_known s (hash piece.kept.key) piece) refl where
      go : (b : Bool) → is_known s (hash piece.kept.key) piece ≡ b
          → (let k : ℕ × K = if b then key_of (held_or piece.kept (s.records piece.id))
          else (hash piece.kept.key, piece.kept.key) in (k.0 % many ≡ place) × (k.0 ≡ hash k.1))
      go true is = (let own = returning_at is in (own.0, own.1))
      go false is = (here, refl)

    inserted_at : (inc : Incoming K V P) (ls : List (Event × Gone K V P)) (entry : Held K V P) (t : State K V P View)
        → At inc.kept → Inserts m Memory s inc ls entry t → At entry.kept
    inserted_at inc ls entry t comes h = go (is_phantom_record m inc.kept) h where
      go : (b : Bool) → InsertsBy m b Memory s inc ls entry t → At entry.kept
      go true h = subst At (sym (ap (λ (e : Held K V P). e.kept) h.entry_is)) comes
      go false h = subst At (sym (ap (λ (e : Held K V P). e.kept) h.entry_is)) comes

    -- so does the entry's
    pub piece_at : (weighs : ℕ → Type 0) (made : Made K V P) (t : State K V P View) →
        InsertsPiece m weighs (hash piece.kept.key) piece more (Ok made) s t → At made.entry.kept
    piece_at weighs made t h = go (is_known s (hash piece.kept.key) piece) refl h where
      known : (b : Bool) → is_known s (hash piece.kept.key) piece ≡ true →
          ReturnsBy m b s piece more made.leaves made.entry t → At made.entry.kept
      known true is h = subst At (sym (ap (λ (e : Held K V P). e.kept) h.entry_is)) (at piece.id h.rec h.there)
      known false is h = inserted_at (returning s piece more) made.leaves made.entry t (returning_at is) h

      go : (b : Bool) → is_known s (hash piece.kept.key) piece ≡ b →
          PieceBy m b weighs (hash piece.kept.key) piece more (Ok made) s t → At made.entry.kept
      go true is h = known (is_in (s.records piece.id)) is h
      go false is h = inserted_at (newcomer s (record piece.kept { hash = hash piece.kept.key; weight = h.0 }) more)
          made.leaves made.entry t (here, refl) h.2

    pub piece_here : (weighs : ℕ → Type 0) (r : Result (Made K V P) (Denied K V P)) (t : State K V P View) →
        InsertsPiece m weighs (hash piece.kept.key) piece more r s t
        → IfOk r (λ made. made.entry.kept.hash % many ≡ place)
    piece_here weighs (Ok made) t h = (piece_at weighs made t h).0
    piece_here weighs (Err denied) t h = tt

    module _ (kept : ∥ IsKept m s ∥₁) (t : State K V P View) where
      -- a record that gains a handle is known under its key
      pub gains_told : (id n : ℕ) (ls : List (Event × Gone K V P)) (entry : Held K V P) → is_in (s.records id) ≡ true
          → GainsHandles s id n ls entry t
          → ToldWith m laws good hash equal many place s ls entry.id entry.kept t
      gains_told id n ls entry inside h f knows =
          let d = h.rec.kept in
          let res : h.rec.resident ≡ true = sym (ap is_in h.there) ∙ inside in
          let plain : is_phantom_record m d ≡ false =
          ∥∥₁_elim kept (hlevel props) (λ k. k.plain id h.rec h.there res) in
          let st = stands m laws good s kept in
          let under : s.index (key_of d) ≡ Some id =
          st.under id (∥∥₁_elim kept (hlevel props) (λ k. k.resident id h.rec h.there res)) h.rec h.there in
          let write : (q : ℕ × K) → t.index q ≡ update (same_key m.same) s.index (key_of d) (Some id) q =
          λ q. ap (λ (x : State K V P View). x.index q) h.after ∙ stood st d under q in
          subst (λ (l : List (Event × Gone K V P)). Tells m laws hash equal many place t f
          (after_entry m.same m.phantom (after_leaves m.same f l) entry.id entry.kept)) (sym h.leaves)
          (subst (λ (e : Held K V P). Tells m laws hash equal many place t f
          (after_entry m.same m.phantom f e.id e.kept)) (sym h.entry_is)
          (tells_same m laws hash equal many place t f (update m.same f d.key (Some id))
          (after_entry m.same m.phantom f id d) (λ k. rw plain refl) record {
            knows = write_knows m laws hash equal many place s f knows d (at id h.rec h.there) (Some id) t write;
            apart = write_apart m laws hash equal many place s f knows d (at id h.rec h.there) (Some id);
          }))
        where
          -- to write under a key what stands there changes nothing
          stood : Stands m s → (d : Data K V P) → s.index (key_of d) ≡ Some id → (q : ℕ × K) → s.index q
              ≡ update (same_key m.same) s.index (key_of d) (Some id) q
          stood st d under q = go (same_key m.same (key_of d) q) refl where
            go : (b : Bool) → same_key m.same (key_of d) q ≡ b → s.index q ≡ cond b (Some id) (s.index q)
            go true same = sym (st.respects (key_of d) q same) ∙ under
            go false same = refl

      -- what an insert tells, and a refused one
      pub made_told : (weighs : ℕ → Type 0) (made : Made K V P) →
          InsertsPiece m weighs (hash piece.kept.key) piece more (Ok made) s t
          → ToldWith m laws good hash equal many place s made.leaves made.entry.id made.entry.kept t
      made_told weighs made h = go (is_known s (hash piece.kept.key) piece) refl h where
        comes : (inc : Incoming K V P) → At inc.kept → Inserts m Memory s inc made.leaves made.entry t →
            ToldWith m laws good hash equal many place s made.leaves made.entry.id made.entry.kept t
        comes inc own h = inserts_told m laws good hash equal many place Memory s inc made.leaves made.entry t kept at
            own h

        known : (b : Bool) → is_in (s.records piece.id) ≡ b → is_known s (hash piece.kept.key) piece ≡ true →
            ReturnsBy m b s piece more made.leaves made.entry t
            → ToldWith m laws good hash equal many place s made.leaves made.entry.id made.entry.kept t
        known true inside is h = gains_told piece.id more made.leaves made.entry inside h
        known false inside is h = comes (returning s piece more) (returning_at is) h

        go : (b : Bool) → is_known s (hash piece.kept.key) piece ≡ b →
            PieceBy m b weighs (hash piece.kept.key) piece more (Ok made) s t
            → ToldWith m laws good hash equal many place s made.leaves made.entry.id made.entry.kept t
        go true is h = known (is_in (s.records piece.id)) refl is h
        go false is h = comes (newcomer s (record piece.kept { hash = hash piece.kept.key; weight = h.0 }) more)
            (here, refl) h.2

      pub refused_piece_told : (weighs : ℕ → Type 0) (denied : Denied K V P) →
          InsertsPiece m weighs (hash piece.kept.key) piece more (Err denied) s t
          → ToldBy m laws good hash equal many place s denied.leaves t
      refused_piece_told weighs denied h = go (is_known s (hash piece.kept.key) piece) h where
        stays : (inc : Incoming K V P) → RefusesInsert m s inc denied.reason denied.leaves t →
            ToldBy m laws good hash equal many place s denied.leaves t
        stays inc h = refuses_told m laws good hash equal many place s inc denied.leaves t kept at denied.reason h

        known : (b : Bool) → RefusesReturnBy m b s piece more denied.reason denied.leaves t →
            ToldBy m laws good hash equal many place s denied.leaves t
        known true h = subst (λ (l : List (Event × Gone K V P)). ToldBy m laws good hash equal many place s l t)
            (sym h.0)
            (same_told m laws good hash equal many place s t
            (refused_handles_index s piece.id more denied.reason t h.1))
        known false h = stays (returning s piece more) h

        go : (b : Bool) → PieceBy m b weighs (hash piece.kept.key) piece more (Err denied) s t →
            ToldBy m laws good hash equal many place s denied.leaves t
        go true h = known (is_in (s.records piece.id)) h
        go false h = stays (newcomer s (record piece.kept { hash = hash piece.kept.key; weight = h.0 }) more) h.2
