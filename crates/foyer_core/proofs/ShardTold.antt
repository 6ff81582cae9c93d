-- What each step of a shard tells of its index.
use Rattle.std.proofs.Common.{◌≡◌, ◌≢◌, ℕ, ◌+◌, ◌-◌, ◌<◌, ◌==◌, length, List, [], ◌∷◌, ◌++◌, Option, Some, None, Ok, Err, Bool, true, false, cond, not, ◌&&◌, nat_eq, refl, sym, ◌∙◌, ap, subst, arith}
use Rattle.std.proofs.Math.Logic.{∥∥₁_elim}
use Rattle.std.proofs.Props.{props}
use Rattle.std.specs.Prelude.{Result, sum_by}
use Rattle.std.specs.Option.{option_to_list}
use Rattle.std.specs.Cmp.{IsEquivalence}
use Rattle.std.specs.Map.{update}
use Rattle.std.proofs.lemmas.Map.{update_here}
use Rattle.std.proofs.lemmas.List.Sums.{sum_by-append}
use Rattle.foyer_policy.specs.Items.{count_of, HasIdsOnce, IsWithin, weight_of}
use Rattle.foyer_policy.specs.Policy.{Policy, IsPolicy, pops, after_pops, after_all_pops, evicted, removed}
use Rattle.foyer_policy.specs.declared.error.Reason.{Reason}
use Rattle.foyer_policy.specs.declared.error.Reason.TheVariants.{Handles, NoMemory}
use Rattle.foyer_policy.specs.declared.types.Event.{Event}
use Rattle.foyer_policy.specs.declared.types.Event.TheVariants.{Evict, Replace, Remove, Clear}
use Rattle.foyer_policy.specs.declared.types.Item.{Item}
use Rattle.foyer_policy.proofs.ItemLemmas.{one_if}
use Rattle.foyer_policy.proofs.PopsLemmas.Repeated.{first_pops-sum}
use Rattle.foyer_core.specs.declared.record.Data.{Data}
use Rattle.foyer_core.specs.Bulk.{EvictsUnpinned, EvictingUnpinned, Clears, EvictsIf}
use Rattle.foyer_core.specs.Indexer.{same_key}
use Rattle.foyer_core.specs.Observed.{after_leave, after_leaves}
use Rattle.foyer_core.specs.State.{Meaning, State, IsKept, AllData, key_of, is_phantom_record}
use Rattle.foyer_core.specs.Steps.{after_out, after_handle, gone_of, ids_of, last_leave, Leave, Evicting, Evicts, GivesWay, Gets, GivesBack, Touches, Removes, ClonesHandle, RefusesHandle, RefusesHandles}
use Rattle.foyer_core.specs.Values.{Rec, Gone, Held}
use Rattle.foyer_core.proofs.Keeps.{counted_there}
use Rattle.foyer_core.proofs.Observing.{BelongsAt, Knows, Tells, known_key, leave_unknown, leave_told, out_told, stays_told, tells_same, tells_then}
use Rattle.foyer_core.proofs.Picking.{yes_within}
use Rattle.foyer_core.proofs.Popped.{until_begins}

same_rec : {K V P : Type 0} (a b : Rec K V P) → Some a ≡ Some b → a ≡ b
same_rec a b h = cc

begins_within : (left rest all : List Item) → left ++ rest ≡ all → IsWithin left all
begins_within left rest all parts f = omega (arith, ap (sum_by f) parts, sum_by-append f left rest)

-- what leaves by pops is in
module _ {V C : Type 0} (p : Policy V C) (good : IsPolicy p) where
  pops_within : (v : V) → IsWithin (pops p v) (p.order v)
  pops_within v f = omega (arith, first_pops-sum p good f (length (p.order v)) v)

  evicted_within : (target : ℕ) (v : V) → IsWithin (evicted p target v) (p.order v)
  evicted_within target v f =
      let b = until_begins target (weight_of (p.order v)) (pops p v) in
      omega (arith, begins_within (evicted p target v) b.0 (pops p v) b.1 f, pops_within v f)

-- steps that leave the index as it is
module _ {K V P View : Type 0} where
  abbrev pub SameIndex : State K V P View → State K V P View → Type 0
  SameIndex old new = (q : ℕ × K) → new.index q ≡ old.index q

  pub same_index : (old new : State K V P View) → new ≡ old → SameIndex old new
  same_index old new e q = ap (λ (s : State K V P View). s.index q) e

  pub refused_index : (old : State K V P View) (id : ℕ) (reason : Reason) (new : State K V P View) →
      RefusesHandle old id reason new → SameIndex old new
  refused_index old id Handles new h = same_index old new h.3
  refused_index old id NoMemory new h = same_index old new h.3
  refused_index old id _ new h = absurd h

  pub refused_handles_index : (old : State K V P View) (id more : ℕ) (reason : Reason) (new : State K V P View) →
      RefusesHandles old id more reason new → SameIndex old new
  refused_handles_index old id more Handles new h = same_index old new h.3
  refused_handles_index old id more NoMemory new h = same_index old new h.3
  refused_handles_index old id more _ new h = absurd h

  pub clones_index : (old : State K V P View) (entry : Held K V P) (answer : Result (Held K V P) Reason)
      (new : State K V P View) → ClonesHandle old entry answer new → SameIndex old new
  clones_index old entry (Ok clone) new h = λ q. ap (λ (s : State K V P View). s.index q) h.4
  clones_index old entry (Err reason) new h = refused_index old entry.id reason new h

module _ {K V P View C : Type 0} (m : Meaning K P View C) where
  pub gets_index : (now : ℕ) (old : State K V P View) (k : ℕ × K) (answer : Result (Option (Held K V P)) Reason)
      (new : State K V P View) → Gets m now old k answer new → SameIndex old new
  gets_index now old k (Ok None) new h = same_index old new h.1
  gets_index now old k (Ok (Some entry)) new h = λ q. ap (λ (s : State K V P View). s.index q) h.5
  gets_index now old k (Err Handles) new h = same_index old new h.5
  gets_index now old k (Err NoMemory) new h = same_index old new h.5
  gets_index now old k (Err _) new h = absurd h

  pub back_index : (old : State K V P View) (id : ℕ) (leave : Option (Event × Gone K V P)) (new : State K V P View) →
      GivesBack m old id leave new → SameIndex old new
  back_index old id leave new h q = ap (λ (s : State K V P View). s.index q) h.after
      ∙ go (h.rec.handles == 1) h.rec.resident where
        go : (b c : Bool) → (cond b
            (cond c
            (record old {
              view = m.policy.release old.view id;
              records =
                  update nat_eq old.records id (Some (record h.rec { handles = 0 }));
            })
            (record old { records = update nat_eq old.records id None }))
            (record old
            { records = update nat_eq old.records id (Some (record h.rec { handles = h.rec.handles - 1 })) })).index q
            ≡ old.index q
        go true true = refl
        go true false = refl
        go false c = refl

  pub touches_index : (now : ℕ) (old : State K V P View) (k : ℕ × K) (answer : Result Bool Reason)
      (new : State K V P View) → Touches m now old k answer new → SameIndex old new
  touches_index now old k (Ok false) new h = same_index old new h.1
  touches_index now old k (Ok true) new h = λ q. back_index h.1 h.0.id None new h.3 q
      ∙ gets_index now old k (Ok (Some h.0)) h.1 h.2 q
  touches_index now old k (Err Handles) new h = same_index old new h.5
  touches_index now old k (Err _) new h = absurd h

  -- what is used of what a shard keeps
  pub record Stands (s : State K V P View) : Type 0 where
    pub once : HasIdsOnce (m.policy.order s.view)
    pub respects : (k q : ℕ × K) → same_key m.same k q ≡ true → s.index k ≡ s.index q
    pub inside : (k : ℕ × K) (id : ℕ) → s.index k ≡ Some id → 0 < count_of id (m.policy.order s.view)
    pub under : (id : ℕ) → 0 < count_of id (m.policy.order s.view) → (r : Rec K V P) → s.records id ≡ Some r →
        s.index (key_of r.kept) ≡ Some id
    pub resident : (id : ℕ) → 0 < count_of id (m.policy.order s.view) → (r : Rec K V P) → s.records id ≡ Some r →
        r.resident ≡ true

  module _ (laws : IsEquivalence m.same) (good : IsPolicy m.policy) where
    there_is : (s : State K V P View) → IsKept m s → (id : ℕ) → 0 < count_of id (m.policy.order s.view) →
        (r : Rec K V P) → s.records id ≡ Some r → (s.index (key_of r.kept) ≡ Some id) × (r.resident ≡ true)
    there_is s kept id pos r there =
        let t = counted_there m laws good s kept id pos in
        let same : t.0 ≡ r = same_rec t.0 r (sym t.1 ∙ there) in (
          ap (λ (x : Rec K V P). s.index (key_of x.kept)) (sym same) ∙ t.3,
          ap (λ (x : Rec K V P). x.resident) (sym same) ∙ t.2,
        )

    pub stands : (s : State K V P View) → ∥ IsKept m s ∥₁ → Stands s
    stands s kept = record {
      once = λ id. ∥∥₁_elim kept (hlevel props) (λ k. k.once id);
      respects = λ a b same. ∥∥₁_elim kept (hlevel props) (λ k. k.respects a b same);
      inside = λ a id h. ∥∥₁_elim kept (hlevel props) (λ k. (k.indexed a id h).0);
      under = λ id pos r there. ∥∥₁_elim kept (hlevel props) (λ k. (there_is s k id pos r there).0);
      resident = λ id pos r there. ∥∥₁_elim kept (hlevel props) (λ k. (there_is s k id pos r there).1);
    }

    module _ (hash : K → ℕ) (equal : (a b : K) → m.same a b ≡ true → hash a ≡ hash b) (many place : ℕ) where
      -- what these leaves tell, whatever map knows the index before
      abbrev pub ToldBy : State K V P View → List (Event × Gone K V P) → State K V P View → Type 0
      ToldBy s ls t = (f : K → Option ℕ) → Knows m laws hash equal many place s f →
          Tells m laws hash equal many place t f (after_leaves m.same f ls)

      -- where nothing leaves
      pub same_told : (s t : State K V P View) → SameIndex s t → ToldBy s [] t
      same_told s t same f knows = stays_told m laws hash equal many place s t f same knows

      -- leaves of what is in
      within_told : (e : Event) (items : List Item) (s : State K V P View) (ls : List (Event × Gone K V P)) (v : View)
          (t : State K V P View) → Stands s → AllData (BelongsAt m laws hash equal many place) s
          → IsWithin items (m.policy.order s.view) → Leave m e (ids_of items) s ls v t → ToldBy s ls t
      within_told e items s ls v t stands at within h f knows =
          leave_told m laws hash equal many e items place s f ls v t
          (λ id. omega (arith, within (one_if id), stands.once id))
          (λ id pos. stands.under id (omega (arith, within (one_if id), pos))) stands.respects at knows h

      -- one leave
      pub one_told : (e : Event) (id : ℕ) (s : State K V P View) (ls : List (Event × Gone K V P)) (v : View)
          (t : State K V P View)
          → ((r : Rec K V P) → s.records id ≡ Some r → (s.index (key_of r.kept) ≡ Some id)
          × BelongsAt m laws hash equal many place r.kept)
          → Leave m e (id ∷ []) s ls v t → ToldBy s ls t
      one_told e id s [] v t under h f knows = absurd h
      one_told e id s (l ∷ (x ∷ ls)) v t under h f knows = absurd h.3
      one_told e id s (l ∷ []) v t under h f knows =
          let r = h.0 in
          let u = under r h.1 in
          let first = subst
          (λ (g : Event × Gone K V P). Tells m laws hash equal many place (after_out m s id r) f
          (after_leave m.same f g.1)) (sym h.2)
          (out_told m laws hash equal many place s f knows id r u.0 u.1) in
          tells_then m laws hash equal many place (after_out m s id r) t f (after_leave m.same f l.1)
          (after_leave m.same f l.1) first
          (stays_told m laws hash equal many place (after_out m s id r) t (after_leave m.same f l.1)
          (λ q. ap (λ (x : State K V P View). x.index q) h.3) first.knows)

      -- the steps on all records
      module _ (s : State K V P View) (ls : List (Event × Gone K V P)) (t : State K V P View) (kept : ∥ IsKept m s ∥₁)
          (at : AllData (BelongsAt m laws hash equal many place) s) where
        pub unpinned_told : EvictsUnpinned m s ls t → ToldBy s ls t
        unpinned_told h = within_told Evict (pops m.policy s.view) s ls (after_all_pops m.policy s.view) t
            (stands s kept) at (pops_within m.policy good s.view) h

        pub some_unpinned_told : EvictingUnpinned m s ls t → ToldBy s ls t
        some_unpinned_told h = within_told Evict h.left s ls (after_pops m.policy (length h.left) s.view) t
            (stands s kept) at
            (λ g. omega (
              arith,
              begins_within h.left h.rest (pops m.policy s.view) h.parts g,
              pops_within m.policy good s.view g,
            )) h.leave

        pub evicts_told : (target : ℕ) → Evicts m target s ls t → ToldBy s ls t
        evicts_told target h = within_told Evict (evicted m.policy target s.view) s ls
            (after_pops m.policy (length (evicted m.policy target s.view)) s.view) t (stands s kept) at
            (evicted_within m.policy good target s.view) h

        pub evicting_told : (target : ℕ) → Evicting m target s ls t → ToldBy s ls t
        evicting_told target h = within_told Evict h.left s ls (after_pops m.policy (length h.left) s.view) t
            (stands s kept) at
            (λ g. omega (
              arith,
              begins_within h.left h.rest (evicted m.policy target s.view) h.parts g,
              evicted_within m.policy good target s.view g,
            )) h.leave

        pub cleared_told : Clears m s ls t → ToldBy s ls t
        cleared_told h = within_told Clear (m.policy.order s.view) s ls (m.policy.clear s.view) t (stands s kept) at
            (λ g. omega arith) h

        pub picked_told : (says : K → V → Bool → Type 0) → EvictsIf m says s ls t → ToldBy s ls t
        picked_told says h = within_told Evict h.picked s ls (removed m.policy h.picked s.view) t (stands s kept) at
            (λ g. rw h.picks.picked_is (yes_within g h.picks.answers (m.policy.order s.view))) h.leave

        -- a record gives way
        pub way_told : (k : ℕ × K) (o : Option ℕ) → s.index k ≡ o → GivesWay m o s ls t → ToldBy s ls t
        way_told k None is h = λ f knows. subst
            (λ (l : List (Event × Gone K V P)). Tells m laws hash equal many place t f (after_leaves m.same f l))
            (sym h.0)
            (same_told s t (same_index s t h.1) f knows)
        way_told k (Some id) is h =
            let st = stands s kept in
            one_told Replace id s ls (m.policy.remove s.view id) t
            (λ r there. (st.under id (st.inside k id is) r there, at id r there)) h

        -- a handle is given back
        pub gives_back_told : (id : ℕ) (leave : Option (Event × Gone K V P)) → ls ≡ option_to_list leave →
            GivesBack m s id leave t → ToldBy s ls t
        gives_back_told id leave ls_are h f knows =
            subst (λ (l : List (Event × Gone K V P)). Tells m laws hash equal many place t f
            (after_leaves m.same f l)) (sym ls_are) (go leave h) where
              -- a phantom is not in the index
              out : (g : Event × Gone K V P) → Some g ≡ last_leave m s.number id h.rec → f g.1.kept.key ≢ Some g.1.id
              out g is = last (h.rec.handles == 1) h.rec.resident (is_phantom_record m h.rec.kept) refl is where
                last : (a b c : Bool) → h.rec.resident ≡ b → Some g
                    ≡ cond (a && (not b && c)) (Some (Evict, gone_of s.number id h.rec)) None → f g.1.kept.key ≢ Some g.1.id
                last true false true res e = λ known.
                    let same : g ≡ (Evict, gone_of s.number id h.rec) = cc in
                    let here : f h.rec.kept.key ≡ Some id =
                    subst (λ (x : Event × Gone K V P). f x.1.kept.key ≡ Some x.1.id) same known in
                    let st = stands s kept in
                    let index : s.index (key_of h.rec.kept) ≡ Some id =
                    sym (known_key m laws hash equal many place s f knows h.rec.kept (at id h.rec h.there)) ∙ here in
                    let yes : h.rec.resident ≡ true = st.resident id (st.inside (key_of h.rec.kept) id index) h.rec
                    h.there in
                    absurd cc
                last true true c res e = absurd cc
                last true false false res e = absurd cc
                last false b c res e = absurd cc

              go : (o : Option (Event × Gone K V P)) → GivesBack m s id o t →
                  Tells m laws hash equal many place t f (after_leaves m.same f (option_to_list o))
              go None b = same_told s t (back_index s id None t b) f knows
              go (Some g) b = tells_same m laws hash equal many place t f f (after_leave m.same f g.1)
                  (leave_unknown m.same f g.1 (out g cc)) (same_told s t (back_index s id (Some g) t b) f knows)

        -- a record is taken out, with one handle more
        pub removed_told : (k : ℕ × K) (entry : Held K V P) (gone : Gone K V P) → ls ≡ (Remove, gone) ∷ [] →
            Removes m s k (Ok (Some (entry, gone))) t → ToldBy s ls t
        removed_told k entry gone ls_are h = subst (λ (l : List (Event × Gone K V P)). ToldBy s l t) (sym ls_are)
            out where
              held : State K V P View
              held = after_handle s entry.id h.0

              out : ToldBy s ((Remove, gone) ∷ []) t
              out f knows =
                  let st = stands s kept in
                  let now : held.records entry.id ≡ Some (record h.0 { handles = h.0.handles + 1 }) =
                  update_here s.records entry.id (Some (record h.0 { handles = h.0.handles + 1 })) in
                  one_told Remove entry.id held ((Remove, gone) ∷ []) (m.policy.remove s.view entry.id) t
                  (λ r there.
                  let kept_is : r.kept ≡ h.0.kept = ap (λ (x : Rec K V P). x.kept)
                  (same_rec r (record h.0 { handles = h.0.handles + 1 }) (sym there ∙ now)) in (
                    ap (λ (d : Data K V P). s.index (key_of d)) kept_is
                        ∙ st.under entry.id (st.inside k entry.id h.1) h.0 h.2,
                    subst (BelongsAt m laws hash equal many place) (sym kept_is) (at entry.id h.0 h.2),
                  ))
                  h.5 f knows
