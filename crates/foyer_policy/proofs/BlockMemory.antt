-- What the walks of a block of nodes share. Assumes `Logic`.
--     Two, args          the rows of the links and the values, and what a call passes for them
--     word_had, word_made, mark_had, mark_made      a value of one pointer, and one of no bytes
--     cell_out, cell_in, cell_seen      one cell is taken out of its column, put back, or seen
--     value_out, value_in, cell_room      a value is taken out of its cell, put in, or forgotten
use mathlib.Core.Path.{◌≡◌, refl, sym, ap, subst, ◌∙◌}
use Prim.Native.Nat.{ℕ, zero, suc, ◌+◌, ◌*◌, ◌<◌, ◌≤◌}
use native.Mathlib.Omega.{arith}
use native.Mathlib.Nat.{zero-mul, suc-mul}
use mathlib.Core.List.{List, [], ◌∷◌, ◌++◌}
use lib.ListN.{length, take, drop, set, get_or, take-append-drop, length-take}
use lib.Seq.{drop-cons, set_split}
use seplogic.Ra.Ura.{Ura}
use base.Fraction.{full_share}
use mir.Syntax.{Ty, Args, a_type}
use mir.Val.{Val, vstruct, vcons, vnil, of_list}
use base.Logic.{SProp, ent, sep, emp, ex, guard, via, snd∗, id⊢, mono_r}
use base.Fml.{Fml, Lft, ftrue, fsep, fat, froom}
use types.Logic.{Logic, sem}
use contract.Monad.{fact, fact_i}
use types.Kit.{Item, Goal, Seq, Step, step, prop, ‵, raw, some, given, ◌⊛◌, ◌$◌, ◌∵◌, !, qed, move, keep, drop as skip, use0, use1, use2, pick, learn, split, check, show, frame, fsplit, fjoin, fpick, fpack, feq_i, feq_l, rewrite, done}
use denote.RattleType.{RattleType, Valss}
use denote.Laws.{Typed, Is, shows}
use denote.Param.{param, layout, layouts}
use denote.Param.Laws.{Laws, param_laws}
use denote.Memory.{part_at}
use denote.RawPtr.{Ptr, RawPtr, ptr_val}
use denote.Shadow.{makes_shadow}
use denote.Steps.{nothing, peeks}
use denote.Struct.Struct.{Shape, Struct, within}
use denote.Struct.Owning.{shape}
use denote.Struct.Declared as Declared
use denote.Struct.Tuple.{Tuple, tuple_type}
use borrow.Table.OneValue.{part_in, part_out}
use Rattle.std.specs.Prelude.{Option, Some, None}
use Rattle.std.proofs.RcSteps.{Good, word}
use Rattle.std.proofs.RawLayout.{as_raw}
use Rattle.foyer_policy.specs.Block.{cell, column, cell_lent, column_lent, node_size, links_offset, value_offset}
use Rattle.foyer_policy.specs.contracts.lists.block.Nodes as N-type
use Rattle.foyer_policy.specs.contracts.lists.block.Base as B-type

pub record Two : Type 2 where
  pub links : RattleType
  pub links_laws : Laws links
  pub value : RattleType
  pub value_laws : Laws value

module _ (E : Two) where
  abbrev pub args : Args
  args = layouts (a_type ∷ a_type ∷ []) (E.links, (E.value, tt))

  abbrev pub RL : RattleType
  RL = param 0 E.links

  abbrev pub RV : RattleType
  RV = param 1 E.value

  abbrev pub sz : ℕ
  sz = node_size RL RV

  abbrev pub lo : ℕ
  lo = links_offset RL RV

  abbrev pub vo : ℕ
  vo = value_offset RL RV

  abbrev pub Nr : RattleType
  Nr = N-type.the_row RL RV

  abbrev pub Bs : RattleType
  Bs = B-type.the_row RL RV

  -- the one field of `Nodes`, which takes no bytes
  abbrev pub Mark : RattleType
  Mark = Struct (shape (N-type.the_type RL RV))

abbrev one_field : Shape
one_field = record { name = []; args = []; types = []; fields = RawPtr ∷ [] }

abbrev pub Word : RattleType
Word = Struct one_field

abbrev pub mark : Val
mark = vstruct (vcons (vstruct vnil) vnil)

pub mark_made : (E : Two) {M : Type 1} {𝓤 : Ura M} (𝓛 : Logic 𝓤) →
    ent 𝓤 (emp 𝓤) (sem 𝓛 ((Mark E).own_val (tt, tt) (mark ∷ [])))
mark_made E 𝓛 = makes_shadow 𝓛 ((Mark E).own_val (tt, tt) (mark ∷ [])) (λ vss. (tt, ((λ uss. (tt, tt)), tt)))
    ((vstruct vnil ∷ [], tt), (refl, ((tt, (refl, tt)), tt)))

module _ {M : Type 1} {𝓤 : Ura M} {𝓛 : Logic 𝓤} {K : Type 0} {Γ : List (Item 𝓤)} {G : Goal 𝓤 𝓛.H} where
  pub word_had : K → (c : Ptr) (vs : List Val) → (vs ≡ word c ∷ [] → Seq K 𝓛 Γ G) →
      Seq K 𝓛 (‵ (Word.own_val (c, tt) vs) ∷ Γ) G
  word_had t c vs k = fpick t
      (λ vss. fsplit t $ feq_l t
      (λ ev. fsplit t $ feq_l t
      (λ e. skip t $ k (subst (λ (ws : List Val). vs ≡ vstruct (of_list (ws ++ [])) ∷ []) e ev))))

  pub word_made : K → (c : Ptr) → Step K 𝓛 (‵ (Word.own_val (c, tt) (word c ∷ [])) ∷ Γ) G Γ G
  word_made t c = step (λ s.
      nothing t $ feq_i t (List Val) (ptr_val c ∷ []) (ptr_val c ∷ []) refl $ fjoin t $ feq_i t (List Val)
      (word c ∷ []) (word c ∷ []) refl $ fjoin t $
      fpack t (Valss (RawPtr ∷ [])) (within one_field (c, tt) (word c ∷ [])) (ptr_val c ∷ [], tt) $ s)

  pub mark_had : K → (E : Two) (vs : List Val) → (vs ≡ mark ∷ [] → Seq K 𝓛 Γ G) →
      Seq K 𝓛 (‵ ((Mark E).own_val (tt, tt) vs) ∷ Γ) G
  mark_had t E vs k = fpick t
      (λ vss. fsplit t $ feq_l t (λ ev. fsplit t $ fpick t (λ uss. fsplit t $ feq_l t (λ e. skip t $ skip t $
      k (subst (λ (ws : List Val). vs ≡ vstruct (of_list (ws ++ [])) ∷ []) e ev)))))

module _ {M : Type 1} {𝓤 : Ura M} {𝓛 : Logic 𝓤} {K : Type 0} {Γ : List (Item 𝓤)} where
  -- an `ensures` of two facts
  pub says_both : K → {φ ψ : Type 0} {P : SProp 𝓤} → φ → ψ →
      Step K 𝓛 Γ (prop P) Γ (prop (sep 𝓤 P (sep 𝓤 (fact 𝓤 φ) (fact 𝓤 ψ))))
  says_both t {φ} {ψ} {P} x y = step (λ s. record {
    prf = via 𝓤 P s.prf (qed 𝓛 (raw P ∷ []) {P = sep 𝓤 P (sep 𝓤 (fact 𝓤 φ) (fact 𝓤 ψ))} (
        frame ! $ use0 𝓛 (raw (fact 𝓤 ψ)) (fact_i 𝓤 ψ (emp 𝓤) y) $ use0 𝓛 (raw (fact 𝓤 φ)) (fact_i 𝓤 φ (emp 𝓤) x) $
        done !));
  })

module _ (i : ℕ) (Y : RattleType) (L : Laws Y) {M : Type 1} {𝓤 : Ura M} (𝓛 : Logic 𝓤) where
  open 𝓛 use {H}

  pub value_out : (x : Y.Denot) (b o : ℕ) → ent 𝓤 (sem 𝓛 (part_at (param i Y) full_share x b o))
      (ex 𝓤 (λ (v : Val). guard 𝓤 (Good (layout Y) v)
      (sep 𝓤 (H.at full_share (layout Y) b o v) (sem 𝓛 (Y.own_val x (v ∷ []))))))
  value_out x b o = qed 𝓛 (‵ (part_at (param i Y) full_share x b o) ∷ []) ∵
      use1 𝓛 (some (λ (v : Val). ‵ (fat full_share (layout Y) b o v) ⊛ ‵ (Y.own_val x (v ∷ []))))
      (part_out 𝓛 (param i Y) refl full_share x b o) $ pick ! (λ v. split ! $ move ! (1 ∷ []) $
      peeks ! (param i Y) (Is (param i Y)) (shows 𝓛 (param i Y)) x (v ∷ []) (λ p.
      show ! (λ (w : Val). guard 𝓤 (Good (layout Y) w)
      (sep 𝓤 (H.at full_share (layout Y) b o w) (sem 𝓛 (Y.own_val x (w ∷ []))))) v $ check !
      (((param_laws i Y L).lawful 𝓛).typed x (v ∷ []) p).0 $ move ! (1 ∷ 0 ∷ []) $ done !))

  pub value_in : (x : Y.Denot) (b o : ℕ) (v : Val) →
      ent 𝓤 (sep 𝓤 (H.at full_share (layout Y) b o v) (sem 𝓛 (Y.own_val x (v ∷ []))))
      (sem 𝓛 (part_at (param i Y) full_share x b o))
  value_in x b o v = part_in 𝓛 (param i Y) refl full_share x b o v

  -- a cell, whatever it holds, is room
  pub cell_room : (c : Option Y.Denot) (b o : ℕ) →
      ent 𝓤 (sem 𝓛 (cell (param i Y) b o c)) (sem 𝓛 (cell (param i Y) b o None))
  cell_room None b o = id⊢ 𝓤 _
  cell_room (Some x) b o = qed 𝓛 (‵ (cell (param i Y) b o (Some x)) ∷ []) ∵
      use1 𝓛 (some
      (λ (v : Val). given (Good (layout Y) v) (‵ (fat full_share (layout Y) b o v) ⊛ ‵ (Y.own_val x (v ∷ [])))))
      (value_out x b o) $ pick ! (λ v. learn ! (λ good. split ! $
      use1 𝓛 (‵ (froom (layout Y) b o)) (𝓛.laws.at_room (layout Y) b o v) $ as_raw ! (layout Y) b o $ keep ! (0 ∷ [])
      $ done !))

abbrev pub three_val : Val → Val → Val → Val
three_val u v w = vstruct (vcons u (vcons v (vcons w vnil)))

pub three_of : {M : Type 1} {𝓤 : Ura M} (𝓛 : Logic 𝓤) (R S T : RattleType) (x : R.Denot) (y : S.Denot) (z : T.Denot)
    (u v w : Val)
    → ent 𝓤 (sep 𝓤 (sem 𝓛 (R.own_val x (u ∷ [])))
    (sep 𝓤 (sem 𝓛 (S.own_val y (v ∷ []))) (sem 𝓛 (T.own_val z (w ∷ [])))))
    (sem 𝓛 ((Tuple (R ∷ S ∷ T ∷ [])).own_val (x, y, z) (three_val u v w ∷ [])))
three_of 𝓛 R S T x y z u v w =
    qed 𝓛 (‵ (R.own_val x (u ∷ [])) ∷ ‵ (S.own_val y (v ∷ [])) ∷ ‵ (T.own_val z (w ∷ [])) ∷ []) ∵ nothing ! $ move !
    (3 ∷ 0 ∷ []) $ fjoin ! $ move ! (2 ∷ 0 ∷ []) $ fjoin ! $ move ! (1 ∷ 0 ∷ []) $ fjoin ! $
    feq_i ! (List Val) (three_val u v w ∷ []) (three_val u v w ∷ []) refl $ fjoin ! $
    fpack ! (Valss (R ∷ S ∷ T ∷ []))
    (within (Declared.shape (tuple_type (R ∷ S ∷ T ∷ []))) (x, (y, (z, tt))) (three_val u v w ∷ []))
    (u ∷ [], (v ∷ [], (w ∷ [], tt))) $ done !

pub past_fact : {M : Type 1} (𝓤 : Ura M) (φ : Type 0) (P R : SProp 𝓤) {Q : SProp 𝓤} → ent 𝓤 (sep 𝓤 P R) Q →
    ent 𝓤 (sep 𝓤 P (sep 𝓤 (fact 𝓤 φ) R)) Q
past_fact 𝓤 φ P R k = via 𝓤 (sep 𝓤 P R) (mono_r 𝓤 P {Q = sep 𝓤 (fact 𝓤 φ) R} {Q' = R} (snd∗ 𝓤 (fact 𝓤 φ) R)) k

alone : (τ : Ty) (vs : List Val) → Typed (τ ∷ []) vs → (v : Val) × ((vs ≡ v ∷ []) × Good τ v)
alone τ [] t = absurd t
alone τ (v ∷ []) t = (v, (refl, t.0))
alone τ (v ∷ w ∷ vs) t = absurd t.1

module _ (Y : RattleType) (L : Laws Y) {M : Type 1} {𝓤 : Ura M} {𝓛 : Logic 𝓤} {K : Type 0} {Γ : List (Item 𝓤)}
    {G : Goal 𝓤 𝓛.H} where
  -- what is owned of a value is one machine value, of its type
  pub tells : K → (x : Y.Denot) (vs : List Val) →
      ((v : Val) → vs ≡ v ∷ [] → Good (layout Y) v → Seq K 𝓛 (‵ (Y.own_val x (v ∷ [])) ∷ Γ) G) →
      Seq K 𝓛 (‵ (Y.own_val x vs) ∷ Γ) G
  tells t x vs k =
      peeks t (param 0 Y) (Is (param 0 Y)) (shows 𝓛 (param 0 Y)) x vs (λ is.
      let one = alone (layout Y) vs (((param_laws 0 Y L).lawful 𝓛).typed x vs is) in
      rewrite t 0 (λ (us : List Val). ‵ (Y.own_val x us)) one.1.0 refl $ k one.0 one.1.0 one.1.1)

pub filled_within : {X : Type 0} (cs : List (Option X)) (i : ℕ) (x : X) → get_or cs i None ≡ Some x → i < length cs
filled_within [] i x e = cc
filled_within (c ∷ cs) zero x e = omega arith
filled_within (c ∷ cs) (suc i) x e = omega (arith, filled_within cs i x e)

module _ (R : RattleType) (s : ℕ) {M : Type 1} {𝓤 : Ura M} (𝓛 : Logic 𝓤) (b : ℕ) where
  abbrev Cell : Type 0
  Cell = Option R.Denot

  abbrev Row : ℕ → List Cell → Fml
  Row = column R s b

  cut : (xs ys : List Cell) (o at : ℕ) → at ≡ length xs * s + o →
      ent 𝓤 (sem 𝓛 (Row o (xs ++ ys))) (sep 𝓤 (sem 𝓛 (Row o xs)) (sem 𝓛 (Row at ys)))
  cut [] ys o at e = qed 𝓛 (‵ (Row o ys) ∷ []) ∵ rewrite ! 0 (λ (k : ℕ). ‵ (Row k ys)) {x = at}
      (omega (arith, zero-mul s)) refl $ nothing ! $ done !
  cut (x ∷ xs) ys o at e = let more : at ≡ suc (length xs) * s + o = e in
      qed 𝓛 (‵ (Row o (x ∷ xs ++ ys)) ∷ []) ∵ fsplit ! $ move ! (1 ∷ []) $
      use1 𝓛 (‵ (Row (o + s) xs) ⊛ ‵ (Row at ys)) (cut xs ys (o + s) at (omega (arith, suc-mul (length xs) s))) $
      split ! $ move ! (2 ∷ 0 ∷ []) $ fjoin ! $ done !

  glue : (xs ys : List Cell) (o at : ℕ) → at ≡ length xs * s + o →
      ent 𝓤 (sep 𝓤 (sem 𝓛 (Row o xs)) (sem 𝓛 (Row at ys))) (sem 𝓛 (Row o (xs ++ ys)))
  glue [] ys o at e = qed 𝓛 (‵ ftrue ∷ ‵ (Row at ys) ∷ []) ∵ skip ! $ rewrite ! 0 (λ (k : ℕ). ‵ (Row k ys)) {x = o}
      (omega (arith, zero-mul s)) refl $ done !
  glue (x ∷ xs) ys o at e = let more : at ≡ suc (length xs) * s + o = e in
      qed 𝓛 (‵ (Row o (x ∷ xs)) ∷ ‵ (Row at ys) ∷ []) ∵ fsplit ! $ move ! (1 ∷ 2 ∷ []) $
      use2 𝓛 (‵ (Row (o + s) (xs ++ ys))) (glue xs ys (o + s) at (omega (arith, suc-mul (length xs) s))) $ move !
      (1 ∷ 0 ∷ []) $ fjoin ! $ done !

  module _ (o : ℕ) (cs : List Cell) (i : ℕ) where
    -- the cells but for the i-th
    abbrev pub Besides : Fml
    Besides = fsep (Row o (take i cs)) (Row (i * s + o + s) (drop (suc i) cs))

    before : i ≤ length cs → i * s + o ≡ length (take i cs) * s + o
    before le = let long : i ≡ length (take i cs) = omega (arith, length-take i cs) in ap (λ k. k * s + o) long

    pub cell_out : i < length cs → ent 𝓤 (sem 𝓛 (Row o cs))
        (sep 𝓤 (sem 𝓛 (cell R b (i * s + o) (get_or cs i None))) (sem 𝓛 Besides))
    cell_out lt = qed 𝓛 (‵ (Row o cs) ∷ []) ∵
        rewrite ! 0 (λ (l : List Cell). ‵ (Row o l))
        (sym (take-append-drop i cs) ∙ ap (λ l. take i cs ++ l) (drop-cons cs i None lt)) refl $
        use1 𝓛 (‵ (Row o (take i cs)) ⊛ ‵ (Row (i * s + o) (get_or cs i None ∷ drop (suc i) cs)))
        (cut (take i cs) (get_or cs i None ∷ drop (suc i) cs) o (i * s + o) (before (omega arith))) $
        split ! $ move ! (1 ∷ []) $ fsplit ! $ move ! (2 ∷ 1 ∷ []) $ fjoin ! $ move ! (1 ∷ []) $ done !

    pub cell_in : i < length cs → (c : Cell) →
        ent 𝓤 (sep 𝓤 (sem 𝓛 (cell R b (i * s + o) c)) (sem 𝓛 Besides)) (sem 𝓛 (Row o (set cs i c)))
    cell_in lt c = qed 𝓛 (‵ (cell R b (i * s + o) c) ∷ ‵ Besides ∷ []) ∵ move ! (1 ∷ []) $ fsplit ! $ move !
        (2 ∷ 1 ∷ []) $ fjoin ! $ move ! (1 ∷ 0 ∷ []) $
        use2 𝓛 (‵ (Row o (take i cs ++ c ∷ drop (suc i) cs)))
        (glue (take i cs) (c ∷ drop (suc i) cs) o (i * s + o) (before (omega arith))) $
        rewrite ! 0 (λ (l : List Cell). ‵ (Row o l)) (sym (set_split cs i c lt)) refl $ done !

  module _ (κ : Lft) where
    abbrev Seen : ℕ → List Cell → Fml
    Seen o cs = column_lent R s b o cs κ

    from_on : (cs : List Cell) (i o at : ℕ) → i ≤ length cs → at ≡ i * s + o →
        ent 𝓤 (sem 𝓛 (Seen o cs)) (sem 𝓛 (Seen at (drop i cs)))
    from_on cs zero o at le e = let same : o ≡ at = omega (arith, zero-mul s) in
        subst (λ k. ent 𝓤 (sem 𝓛 (Seen o cs)) (sem 𝓛 (Seen k cs))) same (id⊢ 𝓤 _)
    from_on [] (suc i) o at le e = absurd (omega arith)
    from_on (c ∷ cs) (suc i) o at le e =
        via 𝓤 (sem 𝓛 (Seen (o + s) cs)) (snd∗ 𝓤 (sem 𝓛 (cell_lent R b o c κ)) (sem 𝓛 (Seen (o + s) cs)))
        (from_on cs i (o + s) at (omega arith) (omega (arith, suc-mul i s)))

    pub cell_seen : (o : ℕ) (cs : List Cell) (i : ℕ) → i < length cs →
        ent 𝓤 (sem 𝓛 (Seen o cs)) (sem 𝓛 (cell_lent R b (i * s + o) (get_or cs i None) κ))
    cell_seen o cs i lt = qed 𝓛 (‵ (Seen o cs) ∷ []) ∵ use1 𝓛 (‵ (Seen (i * s + o) (drop i cs)))
        (from_on cs i o (i * s + o) (omega arith) refl) $
        rewrite ! 0 (λ (l : List Cell). ‵ (Seen (i * s + o) l)) (drop-cons cs i None lt) refl $ fsplit ! $ keep !
        (0 ∷ []) $ done !

-- from the start of a node to one of its fields
pub far_field : (is o f : ℕ) → is + (o + f) ≡ is + o + f
far_field is o f = omega arith
