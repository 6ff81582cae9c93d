-- What an insert tells of its shard's index.
use Rattle.std.proofs.Common.{◌≡◌, ◌≢◌, ℕ, ◌-◌, List, [], ◌∷◌, ◌++◌, Option, Some, None, Bool, true, false, refl, sym, ◌∙◌, ap, subst}
use Rattle.std.proofs.Math.Logic.{∥∥₁_elim, ∥∥₁_map}
use Rattle.std.proofs.Props.{props}
use Rattle.std.specs.Cmp.{IsEquivalence}
use Rattle.std.specs.Map.{update}
use Rattle.foyer_policy.specs.Policy.{IsPolicy}
use Rattle.foyer_policy.specs.declared.error.Reason.{Reason}
use Rattle.foyer_policy.specs.declared.error.Reason.TheVariants.{Ids, Handles, Weight, NoMemory}
use Rattle.foyer_policy.specs.declared.types.Event.{Event}
use Rattle.foyer_policy.specs.declared.types.Event.TheVariants.{Remove}
use Rattle.foyer_policy.specs.declared.types.Source.{Source}
use Rattle.foyer_core.specs.declared.record.Data.{Data}
use Rattle.foyer_core.specs.Indexer.{same_key}
use Rattle.foyer_core.specs.Observed.{after_leave, after_leaves, after_entry}
use Rattle.foyer_core.specs.State.{Meaning, State, IsKept, AllData, key_of, is_phantom_record}
use Rattle.foyer_core.specs.Steps.{Inserts, InsertsBy, InsertsPhantom, InsertsPlain, RefusesBy, RefusesInsert}
use Rattle.foyer_core.specs.Values.{Gone, Held, Incoming}
use Rattle.foyer_core.proofs.Emplaced.{evicts_rests}
use Rattle.foyer_core.proofs.InsertLemmas.{gives_way_keeps}
use Rattle.foyer_core.proofs.LeaveLemmas.{Rests, evicts_keeps}
use Rattle.foyer_core.proofs.Observing.{BelongsAt, Knows, Tells, known_key, leave_unknown, leaves_append, stays_told, tells_same, tells_then, write_apart, write_knows}
use Rattle.foyer_core.proofs.ShardTold.{ToldBy, evicting_told, evicts_told, same_index, same_told, way_told}

module _ {K V P View C : Type 0} (m : Meaning K P View C) (laws : IsEquivalence m.same) (good : IsPolicy m.policy)
    (hash : K → ℕ) (equal : (a b : K) → m.same a b ≡ true → hash a ≡ hash b) (many place : ℕ) where
  abbrev At : Data K V P → Type 0
  At = BelongsAt m laws hash equal many place

  -- what these leaves and a record that comes in tell
  abbrev pub ToldWith : State K V P View → List (Event × Gone K V P) → ℕ → Data K V P → State K V P View → Type 0
  ToldWith s ls id d t = (f : K → Option ℕ) → Knows m laws hash equal many place s f →
      Tells m laws hash equal many place t f (after_entry m.same m.phantom (after_leaves m.same f ls) id d)

  rests_at : (s t : State K V P View) → Rests m s t → AllData At s → AllData At t
  rests_at s t rests at id r there = (let o = rests.records id r there in subst At (sym o.2) (at id o.0 o.1))

  told_then : (s t u : State K V P View) (ls more : List (Event × Gone K V P)) →
      ToldBy m laws good hash equal many place s ls t → ToldBy m laws good hash equal many place t more u
      → ToldBy m laws good hash equal many place s (ls ++ more) u
  told_then s t u ls more first second f knows =
      let one = first f knows in
      let two = second (after_leaves m.same f ls) one.knows in
      tells_same m laws hash equal many place u f (after_leaves m.same (after_leaves m.same f ls) more)
      (after_leaves m.same f (ls ++ more)) (leaves_append m.same f ls more)
      (tells_then m laws hash equal many place t u f (after_leaves m.same f ls)
      (after_leaves m.same (after_leaves m.same f ls) more) one two)

  module _ (source : Source) (s : State K V P View) (i : Incoming K V P) (ls : List (Event × Gone K V P))
      (entry : Held K V P) (t : State K V P View) (kept : ∥ IsKept m s ∥₁) (at : AllData At s) (comes : At i.kept) where
    module _ (h : InsertsPlain m source s i ls entry t) where
      rests_mid : Rests m s h.mid
      rests_mid = evicts_rests m s i (s.capacity - i.kept.weight) h.evictions h.mid h.evicts

      before_entry : ToldBy m laws good hash equal many place s ls h.last
      before_entry =
          let first = evicts_told m laws good hash equal many place s h.evictions h.mid kept at
          (s.capacity - i.kept.weight) h.evicts in
          let mid_kept : ∥ IsKept m h.mid ∥₁ = ∥∥₁_map kept
          (λ k. evicts_keeps m laws good (s.capacity - i.kept.weight) s h.evictions h.mid k h.evicts) in
          let second = way_told m laws good hash equal many place h.mid h.replaced h.last mid_kept
          (rests_at s h.mid rests_mid at) (key_of i.kept) (h.mid.index (key_of i.kept)) refl h.gives_way in
          subst (λ (l : List (Event × Gone K V P)). ToldBy m laws good hash equal many place s l h.last)
          (sym h.leaves) (told_then s h.mid h.last h.evictions h.replaced first second)

      -- a plain record goes in under its key
      plain_told : is_phantom_record m i.kept ≡ false → ToldWith s ls entry.id entry.kept t
      plain_told plain f knows =
          let told = before_entry f knows in
          let g = after_leaves m.same f ls in
          let write : (q : ℕ × K) → t.index q ≡ update (same_key m.same) h.last.index (key_of i.kept) (Some i.id) q =
          λ q. ap (λ (x : State K V P View). x.index q) h.after in
          subst (λ (e : Held K V P). Tells m laws hash equal many place t f
          (after_entry m.same m.phantom g e.id e.kept)) (sym h.entry_is)
          (tells_same m laws hash equal many place t f (update m.same g i.kept.key (Some i.id))
          (after_entry m.same m.phantom g i.id i.kept) (λ k. rw plain refl)
          (tells_then m laws hash equal many place h.last t f g (update m.same g i.kept.key (Some i.id)) told record {
            knows = write_knows m laws hash equal many place h.last g told.knows i.kept comes (Some i.id) t write;
            apart = write_apart m laws hash equal many place h.last g told.knows i.kept comes (Some i.id);
          }))

    module _ (h : InsertsPhantom m source s i ls entry t) where
      -- a phantom one is told as a leave, of an id that is not known under its key
      phantom_leaves : ToldBy m laws good hash equal many place s ls t
      phantom_leaves =
          let first = way_told m laws good hash equal many place s h.replaced h.last kept at (key_of i.kept)
          (s.index (key_of i.kept)) refl h.gives_way in
          subst (λ (l : List (Event × Gone K V P)). ToldBy m laws good hash equal many place s l t) (sym h.leaves)
          (told_then s h.last t h.replaced ((Remove, record { number = s.number; id = i.id; kept = i.kept }) ∷ [])
          first (λ g knows.
          tells_same m laws hash equal many place t g g
          (after_leave m.same g (record { number = s.number; id = i.id; kept = i.kept }))
          (leave_unknown m.same g (record { number = s.number; id = i.id; kept = i.kept }) (new_id g knows))
          (stays_told m laws hash equal many place h.last t g (λ q. ap (λ (x : State K V P View). x.index q) h.after)
          knows)))
        where
          new_id : (g : K → Option ℕ) → Knows m laws hash equal many place h.last g → g i.kept.key ≢ Some i.id
          new_id g knows is =
              let none : h.last.index (key_of i.kept) ≡ None =
              ∥∥₁_elim kept (hlevel props)
              (λ k. (gives_way_keeps m laws good s k (key_of i.kept) h.replaced h.last h.gives_way).1) in
              absurd (let e : ◌≡◌ {A = Option ℕ} None (Some i.id) = sym none
              ∙ sym (known_key m laws hash equal many place h.last g knows i.kept comes) ∙ is in cc)

      phantom_told : is_phantom_record m i.kept ≡ true → ToldWith s ls entry.id entry.kept t
      phantom_told phantom f knows =
          let g = after_leaves m.same f ls in
          subst (λ (e : Held K V P). Tells m laws hash equal many place t f
          (after_entry m.same m.phantom g e.id e.kept)) (sym h.entry_is)
          (tells_same m laws hash equal many place t f g (after_entry m.same m.phantom g i.id i.kept)
          (λ k. rw phantom refl) (phantom_leaves f knows))

    pub inserts_told : Inserts m source s i ls entry t → ToldWith s ls entry.id entry.kept t
    inserts_told h = go (is_phantom_record m i.kept) refl h where
      go : (b : Bool) → is_phantom_record m i.kept ≡ b → InsertsBy m b source s i ls entry t →
          ToldWith s ls entry.id entry.kept t
      go true is h = phantom_told h is
      go false is h = plain_told h is

  module _ (s : State K V P View) (i : Incoming K V P) (ls : List (Event × Gone K V P)) (t : State K V P View)
      (kept : ∥ IsKept m s ∥₁) (at : AllData At s) where
    refuses_by : (b : Bool) (reason : Reason) → RefusesBy m b s i reason ls t →
        ToldBy m laws good hash equal many place s ls t
    refuses_by b reason h = go b reason h where
      nothing : ls ≡ [] → t ≡ s → ToldBy m laws good hash equal many place s ls t
      nothing none same = subst (λ (l : List (Event × Gone K V P)). ToldBy m laws good hash equal many place s l t)
          (sym none) (same_told m laws good hash equal many place s t (same_index s t same))

      go : (b : Bool) (reason : Reason) → RefusesBy m b s i reason ls t →
          ToldBy m laws good hash equal many place s ls t
      go true Ids h = nothing h.1 h.2
      go true Handles h = nothing h.2 h.3
      go true NoMemory h = nothing h.1 h.2
      go true _ h = absurd h
      go false Ids h = nothing h.1 h.2
      go false Handles h = nothing h.2 h.3
      go false Weight h = nothing h.3 h.4
      go false NoMemory h = evicting_told m laws good hash equal many place s ls t kept at
          (s.capacity - i.kept.weight) h.1
      go false _ h = absurd h

    pub refuses_told : (reason : Reason) → RefusesInsert m s i reason ls t →
        ToldBy m laws good hash equal many place s ls t
    refuses_told reason h = refuses_by (is_phantom_record m i.kept) reason h
