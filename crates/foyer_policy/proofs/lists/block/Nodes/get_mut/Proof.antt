-- `get_mut` lends one value, and the nodes follow it. Assumes `Logic`.
use mathlib.Core.Path.{◌≡◌, refl, sym, subst, ◌∙◌}
use Prim.Native.Nat.{ℕ, ◌+◌, ◌*◌, ◌<◌, ◌^◌}
use native.Mathlib.Omega.{arith}
use mathlib.Core.List.{List, [], ◌∷◌, ◌++◌}
use seplogic.Ra.Ura.{Ura}
use base.Fraction.{full_share}
use mir.Syntax.{Fn, named, w64}
use mir.MapTy.{inst_fn}
use mir.Val.{Val, vptr, vint}
use base.Logic.{SProp, ent, sep, never, id⊢}
use base.Fml.{Lft, GName, Share, Fml, ftrue, fsep, fat, flft, fobs, fbor}
use prog.Wp.{Env, Calls, Loops, WpFn, Tables}
use types.Logic.{Logic, sem}
use contract.Monad.{fact}
use contract.Running.{tables, tables_of}
use sound.WpLaws.{WpFn-mono}
use types.Kit.{Item, ⋆, ‵, raw, ◌⊛◌, some, later, await, pick, at_ret, ◌$◌, ◌∵◌, !, qed, by, move, keep, use1, use2, split, join, group, rewrite, fsplit, fsplit3, fjoin, fjoin3, fpack, feq_l, suffices, frame, done}
use types.Part.{whole, sub}
use types.Run.{stop, fld, of_opd, addr, first, blocks, exec, returns, enter}
use types.ByLocal.{alloc_all, pass_all, free_all, look_at, get, get_in, through, sets, sets_last, env}
use types.SemTy.{Body as Borrowed}
use denote.Exit.{no}
use denote.RattleType.{owns}
use denote.Memory.{mem, cell_at, part_of}
use denote.Param.{layout}
use denote.RawPtr.{Ptr, block_ptr, in_a_block}
use denote.Ref.{MutBor, MutRef}
use denote.Builtin.{RefMutOf}
use denote.Signature.{plain, mut_ref_to}
use denote.Steps.{nothing, opens}
use denote.Triple.Carry.{spared}
use denote.Triple.Clauses.{Clauses, Ended, closing}
use denote.Triple.Entry.{on_entry}
use denote.Triple.Spec.{Meets, triple_of}
use denote.Triple.Table.{entered, run_framed}
use denote.Triple.Walked.{says, needs, Stays, stay_dropped, walk_of, ends_at, Goes-dropped, Goes-spent_ref, walk_Meets}
use Rattle.std.proofs.VecSteps.Shapes.{after}
use Rattle.std.proofs.RcSteps.{word, word-Good}
use lib.ListN.{length, set, get_or, length-set}
use types.Kit.{flt_l, flt_i}
use types.Run.{bin, size_lit}
use types.ByLocal.{take_at, give_at}
use denote.Builtin.{usize}
use Rattle.std.specs.Prelude.{Option, Some, None}
use Rattle.std.proofs.ptr.Rows.{times_below, one_below}
use Rattle.foyer_policy.specs.Block.{IsFilled, cell, column, column_own, nodes_own}
use Rattle.foyer_policy.proofs.BlockMemory.{Two, args, RL, RV, Nr, Bs, Mark, sz, lo, vo, word_had, filled_within, Besides, cell_out, cell_in, far_field}
use denote.Follow.{follows, Part, lends_Part}
use Rattle.foyer_policy.specs.BlockLends.{with_values}
use Rattle.foyer_policy.specs.contracts.lists.block.Nodes.get_mut.Key.{name as #self}
use Rattle.foyer_policy.proofs.lists.block.Nodes.get_mut.Statement as stated
use Rattle.foyer_policy.proofs.lists.block.Nodes.get_mut.Code as code

module _ (E : Two) where
  abbrev function : Fn
  function = inst_fn (args E) code.function

  abbrev ended : Ended
  ended = record {
    signature =
        record {
          lifetimes = 1;
          outlives = [];
          params =
              RefMutOf (0 ∷ []) tt (plain (λ _. Nr E)) (λ _. tt) ∷ plain (λ _. Bs E) ∷ plain (λ _. usize) ∷ [];
          result = RefMutOf (0 ∷ []) tt (plain (λ _. RV E)) (λ _. tt);
        };
    kept = (no, (no, (no, tt)));
  }

  abbrev stayed : Stays ended.signature.params ended.kept
  stayed = (
    stay_dropped (mut_ref_to (0 ∷ []) tt (plain (λ _. Nr E))) no,
    (stay_dropped (plain (λ _. Bs E)) no, (stay_dropped (plain (λ _. usize)) no, tt)),
  )

  abbrev Asks : (Nr E).Denot → (Bs E).Denot → (usize).Denot → Type 0
  Asks d base index = (base.ptr ≡ d.at) × IsFilled d.values index

  abbrev Gives0 : (Nr E).Denot → (Bs E).Denot → (usize).Denot → MutBor (E.value.Denot) → Type 0
  Gives0 d base index r = get_or d.values index None ≡ Some r.now

  abbrev spec : {M : Type 1} {𝓤 : Ura M} (𝓛 : Logic 𝓤) → Clauses 𝓤 ended
  spec {𝓤 = 𝓤} 𝓛 κs a =
      record {
        ghost = Unit {0};
        requires = λ _. fact 𝓤 (Asks a.0.now a.1.0 a.1.1.0);
        ensures =
            λ _ r w. sep 𝓤
            (sem 𝓛 (follows (Nr E) (RV E) a.0.ghost_name r.ghost_name
            (λ w. with_values a.0.now (set a.0.now.values a.1.1.0 (Some w)))))
            (fact 𝓤 (Gives0 a.0.now a.1.0 a.1.1.0 r));
      }

module _ (E : Two) {M : Type 1} {𝓤 : Ura M} (𝓛 : Logic 𝓤) (C : Calls 𝓤 𝓛.H) (Λ : Loops 𝓤 𝓛.H) (κ : Lft) (q : Share)
    (rb ro : ℕ) (γ : GName) (d : (Nr E).Denot) (base : (Bs E).Denot) (index : (usize).Denot)
    (us0 us1 us2 : List Val) where
  open 𝓛 use {H, A}

  abbrev self : MutBor (Nr E).Denot
  self = record { ref_ptr = (rb, ro); ghost_name = γ; now = d }

  abbrev bound : (walk_of 𝓛 (ended E) (stayed E) (spec E 𝓛)).Ghost
  bound = (((κ, tt), (q, tt), tt, (self, (base, (index, tt))), (us0, (us1, (us2, tt)))), tt)

  abbrev Post : Val → SProp 𝓤
  Post = (walk_of 𝓛 (ended E) (stayed E) (spec E 𝓛)).post bound

  abbrev new : E.value.Denot → (Nr E).Denot
  new w = with_values d (set d.values index (Some w))

  module _ (vs : List Val) (b o : ℕ) where
    -- all but the value
    abbrev Rest : Fml
    Rest = fsep
        (fsep (Besides (RV E) (sz E) 𝓛 b (o + vo E) d.values index) (column_own (RL E) (sz E) b (o + lo E) d.links))
        (fsep ((Mark E).own_val (tt, tt) vs) (cell_at full_share (Nr E).mir vs rb ro))

    back : d.at ≡ block_ptr b o → index < length d.values → length d.values * sz E < 2 ^ 63
        → (w : E.value.Denot) → ent 𝓤 (sep 𝓤 (sem 𝓛 ((mem (RV E)).own_at w b (index * sz E + o + vo E))) (sem 𝓛 Rest))
        (sem 𝓛 ((mem (Nr E)).own_at (new w) rb ro))
    unfolding part_of
    back e within small w =
        let long = length-set d.values index (Some w) in
        qed 𝓛 (‵ (cell (RV E) b (index * sz E + o + vo E) (Some w)) ∷ ‵ Rest ∷ []) ∵
        rewrite ! 0 (λ (k : ℕ). ‵ (cell (RV E) b k (Some w))) (sym (far_field (index * sz E) o (vo E))) refl $ move !
        (1 ∷ []) $ fsplit3 ! $ fsplit ! $ move ! (4 ∷ 0 ∷ []) $
        use2 𝓛 (‵ (column (RV E) (sz E) b (o + vo E) (new w).values))
        (cell_in (RV E) (sz E) 𝓛 b (o + vo E) d.values index within (Some w)) $
        flt_i ! (length (new w).values * sz E) (2 ^ 63) (subst (λ k. k * sz E < 2 ^ 63) (sym long) small) $ fjoin ! $
        move ! (1 ∷ 0 ∷ []) $ fjoin ! $
        rewrite ! 0 (λ (p : Ptr). ‵ (nodes_own (RL E) (RV E) p (new w).links (new w).values)) (sym e) refl $ move !
        (1 ∷ 0 ∷ []) $ fjoin ! $ move ! (1 ∷ 0 ∷ []) $ fjoin ! $
        fpack ! (List Val) (λ us. fsep (cell_at full_share (Nr E).mir us rb ro) ((Nr E).own_val (new w) us)) vs $ done !

  exits : (v : Val) (r : MutBor (E.value.Denot)) → Gives0 E d base index r
      → ent 𝓤 (sep 𝓤 (sem 𝓛 ((MutRef (named 0) κ (RV E)).own_val r (v ∷ [])))
      (sep 𝓤 (A.lft κ q) (sem 𝓛 (follows (Nr E) (RV E) γ r.ghost_name new)))) (Post v)
  exits v r e =
      qed 𝓛 (‵ ((MutRef (named 0) κ (RV E)).own_val r (v ∷ [])) ∷ ‵ (flft κ q) ∷ ‵
      (follows (Nr E) (RV E) γ r.ghost_name new) ∷ []) ∵
      suffices ! _ (ends_at 𝓛 (ended E) (stayed E) (spec E 𝓛) bound v r (tt, (tt, (tt, tt))) (tt, (tt, (tt, tt)))) $
      nothing ! $ nothing ! $ fjoin ! $ nothing ! $ fjoin ! $ nothing ! $ fjoin ! $ join ! $ nothing ! $ move !
      (2 ∷ 0 ∷ []) $ join ! $ join ! $ frame ! $ says ! e $ done !

  abbrev Had : List (Item 𝓤)
  Had = ‵ (fobs γ ((Nr E).coded.code d)) ∷ ‵ (fbor κ (Borrowed (mem (Nr E)) rb ro γ)) ∷ ‵ (flft κ q) ∷ []

  walk : Asks E d base index → index < 2 ^ 64 →
      ent 𝓤 (⋆ 𝓛 Had) (WpFn 𝓤 H C Λ (function E) (vptr rb ro ∷ word base.ptr ∷ vint w64 index ∷ []) Post)
  walk asked fits_index =
      let x = asked.1.0 in let within = filled_within d.values index x asked.1.1 in let code = (Nr E).coded.code d in
      qed 𝓛 Had ∵ enter ! C Λ (function E) (vptr rb ro ∷ word base.ptr ∷ vint w64 index ∷ []) _ $ alloc_all !
      (λ l. pass_all ! refl ((tt, tt), (word-Good [] base.ptr, ((tt, record { fits = fits_index }), tt))) $
      let En : Env 𝓤 H = env (function E).locals l in
      opens ! tt (Nr E) {h = d} rb ro (λ vs. move ! (1 ∷ []) $ fsplit ! $ move ! (1 ∷ []) $
      in_a_block ! d.at (λ p. nodes_own (RL E) (RV E) p d.links d.values) (id⊢ 𝓤 (never 𝓤))
      (λ b o e. fsplit ! $ move ! (1 ∷ []) $ fsplit ! $ flt_l ! (λ small.
      let s = sz E in let tiny : s < 2 ^ 64 =
      omega (arith, one_below (length d.values) s (2 ^ 63) (omega arith) small) in
      let far : index * s < 2 ^ 64 =
      omega (arith, times_below index (length d.values) s (2 ^ 63) (omega arith) small) in
      take_at ! 2 $ rewrite ! 0 (λ (p : Ptr). ‵ (fat full_share (layout (Bs E)) (l 2) 0 (word p))) (asked.0 ∙ e) refl
      $ give_at ! 2 $ first ! $ blocks ! $
      sets ! (bin ! (get ! refl) (size_lit ! (record { fits = tiny })) (record { fits = far })) refl
      (tt, record { fits = far }) $
      sets ! (bin ! (get_in ! (fld ! refl (stop !)) (sub ! 0 refl (whole !))) (get ! refl) tt) refl (tt, tt) $
      let way = back vs b o e within small in let at = index * s + o + vo E in
      use1 𝓛 (‵ (cell (RV E) b (index * s + (o + vo E)) (get_or d.values index None)) ⊛ ‵
      (Besides (RV E) s 𝓛 b (o + vo E) d.values index)) (cell_out (RV E) s 𝓛 b (o + vo E) d.values index within) $
      split ! $
      rewrite ! 0 (λ (c : Option E.value.Denot × ℕ). ‵ (cell (RV E) b c.1 c.0)) {x = (Some x, at)}
      {y = (get_or d.values index None, index * s + (o + vo E))}
      (λ i. (asked.1.1 i, far_field (index * s) o (vo E) i)) refl $
      sets_last ! (addr ! (through ! refl (fld ! refl (stop !)))) refl (tt, tt) $ exec ! C Λ En
      (after 1 (function E).body) (at_ret En Post) $ sets ! (of_opd ! (get ! refl)) refl (tt, tt) $
      move ! (1 ∷ 2 ∷ []) $ fjoin ! $ move ! (0 ∷ 2 ∷ 3 ∷ []) $ fjoin3 ! $ move ! (2 ∷ 3 ∷ 4 ∷ 1 ∷ 0 ∷ []) $ group ! 5 $
      use1 𝓛 (later
      (some (λ (δ : GName). raw
      (Part 𝓛 (Nr E) (RV E) new (named 0) κ q rb ro b at γ (sem 𝓛 (Rest vs b o)) way x δ))))
      (lends_Part 𝓛 (Nr E) (RV E) new (named 0) κ q rb ro b at γ (sem 𝓛 (Rest vs b o)) way code code x) $ await ! tt $
      pick ! (λ δ.
      returns ! (look_at ! 0 refl) $ free_all ! refl $ keep ! (0 ∷ []) $ by !
      (exits (vptr b at) (record { ref_ptr = (b, at); ghost_name = δ; now = x }) asked.1.1))))))

  entry : Asks E d base index → ent 𝓤
      (on_entry 𝓛 (ended E).signature (κ, tt) (q, tt) (self, (base, (index, tt))) (us0, (us1, (us2, tt))))
      (WpFn 𝓤 H C Λ (function E) (us0 ++ (us1 ++ (us2 ++ []))) Post)
  entry asked =
      qed 𝓛 ((‵ (flft κ q) ⊛ ‵ ftrue) ∷ ‵
      (owns (MutRef (named 0) κ (Nr E) ∷ Bs E ∷ usize ∷ []) (self, (base, (index, tt))) (us0, (us1, (us2, tt)))) ∷
      []) ∵
      split ! $ move ! (2 ∷ []) $
      fsplit ! $
      fsplit3 ! $ feq_l ! (λ e0.
      move ! (2 ∷ []) $
      fsplit ! $
      word_had ! base.ptr us1 (λ e1.
      fsplit ! $
      fsplit ! $ feq_l ! (λ e2. flt_l ! (λ fits_index.
      keep ! (1 ∷ 2 ∷ 3 ∷ []) $
      by ! (subst
      (λ (ws : List Val × List Val × List Val). ent 𝓤 (⋆ 𝓛 Had)
      (WpFn 𝓤 H C Λ (function E) (ws.0 ++ (ws.1 ++ (ws.2 ++ []))) Post)) (λ j. (sym e0 j, sym e1 j, sym e2 j))
      (walk asked fits_index))))))

meets : (E : Two) {M : Type 1} {𝓤 : Ura M} (𝓛 : Logic 𝓤) (𝓣 : Tables 𝓤 𝓛.H)
    → Meets 𝓛 (ended E).signature (WpFn 𝓤 𝓛.H 𝓣.C 𝓣.Λ (function E)) (closing 𝓛 (ended E) (spec E 𝓛))
meets E {𝓤 = 𝓤} 𝓛 𝓣 =
    walk_Meets 𝓛 (ended E) (stayed E) (
      Goes-spent_ref 𝓛 1 (0 ∷ []) tt (plain (λ _. Nr E)),
      (
        Goes-dropped 𝓛 1 (plain (λ _. Bs E)) no (λ κs x f. refl),
        (Goes-dropped 𝓛 1 (plain (λ _. usize)) no (λ κs x f. refl), tt),
      ),
    ) (spec E 𝓛)
    (WpFn 𝓤 𝓛.H 𝓣.C 𝓣.Λ (function E)) (WpFn-mono 𝓤 𝓛.H 𝓛.laws 𝓣 (function E))
    (λ z. needs 𝓤 (Asks E z.0.3.0.now z.0.3.1.0 z.0.3.1.1.0) _
    (entry E 𝓛 𝓣.C 𝓣.Λ z.0.0.0 z.0.1.0 z.0.3.0.ref_ptr.0 z.0.3.0.ref_ptr.1 z.0.3.0.ghost_name z.0.3.0.now
    z.0.3.1.0 z.0.3.1.1.0 z.0.4.0 z.0.4.1.0 z.0.4.1.1.0))

pub get_mut_spec : {M : Type 1} → stated.statement M
unfolding tables_of
get_mut_spec 𝓤 𝓛 𝓜 𝓡 wired X Y LX LY y =
    let E : Two = record { links = X; links_laws = LX; value = Y; value_laws = LY } in
    let 𝓣 : Tables 𝓤 𝓛.H = tables_of 𝓤 𝓛.H 𝓜 (tables 𝓤 𝓛.H 𝓜 𝓡 𝓡.env) in
    let k = #self (args E) in
    spared 𝓛 (ended E).signature (𝓡.run (𝓡.env k)) (run_framed 𝓤 𝓛.H 𝓜 𝓡 (𝓡.env k)) 2 (X.lives, (Y.lives, tt))
    (closing 𝓛 (ended E) (spec E 𝓛))
    (entered 𝓤 𝓛.H (triple_of 𝓛 (ended E).signature (closing 𝓛 (ended E) (spec E 𝓛))) 𝓣.C 𝓣.Λ k (function E)
    (code.unfolded 𝓤 𝓛.H 𝓜 𝓡 wired (X, (Y, tt))) (meets E 𝓛 𝓣))
    ((y.0.0, y.0.1, tt, y.0.3, y.0.4), y.1)
