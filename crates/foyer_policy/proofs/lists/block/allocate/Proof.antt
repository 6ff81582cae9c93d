-- `allocate` cuts the new block into empty nodes, and keeps the right to free it. A block of no nodes takes no
-- memory, and its address dangles. Assumes `Logic`.
use mathlib.Core.Path.{◌≡◌, refl, sym, ap, subst}
use native.Mathlib.Nat.{zero-mul}
use Rattle.std.proofs.Common.{eqb→eq, T}
use mathlib.Core.Bool.{true, false}
use Prim.Native.Nat.{ℕ, ◌*◌, ◌<◌, ◌^◌}
use native.Mathlib.Omega.{arith}
use mathlib.Core.List.{List, [], ◌∷◌, ◌++◌}
use lib.Dec.{lit<}
use seplogic.Ra.Ura.{Ura}
use mir.Syntax.{Fn, Body, named, w64}
use mir.MapTy.{inst_fn}
use mir.Val.{Val, vptr, vint, vstruct, vcons, vnil}
use base.Logic.{SProp, ent, sep}
use base.Fml.{Lft, Share, ftrue, flft, fsep}
use prog.Wp.{Env, Calls, Loops, WpFn, Tables}
use types.Logic.{Logic}
use contract.Monad.{fact}
use contract.Running.{tables, tables_of}
use sound.WpLaws.{WpFn-mono}
use types.Kit.{Item, ⋆, ‵, raw, ◌⊛◌, later, await, at_ret, ◌$◌, ◌∵◌, !, qed, by, move, keep, use0, use1, use2, use3, split, join, fsplit, fsplit3, fjoin, feq_l, suffices, frame, rewrite, done}
use types.Part.{whole, agg}
use types.Run.{stop, fld, lit, of_opd, and_then, no_more, first, exec, returns, enter, unit_lit, addr, from, branches, skips, returns_within}
use types.ByLocal.{alloc_all, pass_all, free_all, look_at, get, get_in, sets, sets_last, is, env}
use denote.Exit.{yes}
use denote.RattleType.{RattleType, owns}
use denote.Memory.{hidden_shr}
use denote.Param.{layout}
use denote.RawPtr.{Ptr, block_ptr}
use denote.Ref.{Bor, ShrRef}
use denote.Builtin.{RefOf}
use denote.Signature.{plain}
use denote.Steps.{nothing}
use denote.Struct.Tuple.{Tuple}
use denote.Triple.Clauses.{Clauses, Ended, closing}
use denote.Triple.Entry.{on_entry}
use denote.Triple.Spec.{Meets, triple_of}
use denote.Triple.Table.{entered}
use denote.Triple.Walked.{needs, Stays, stay_dropped, walk_of, ends_at, Goes-dropped, walk_Meets}
use Rattle.std.proofs.VecSteps.Shapes.{after}
use Rattle.std.proofs.RcSteps.{Good, word, word-Good}
use lib.ListN.{length}
use types.Kit.{flt_l, flt_i}
use types.Run.{bin}
use denote.Builtin.{usize}
use Rattle.std.specs.Prelude.{Option, None}
use Rattle.std.specs.Vec.Ownership.{owns_if}
use Rattle.foyer_policy.specs.Block.{FitsBlock, nodes_own, blank_nodes, block_type, block_joins, deed_owns}
use Rattle.foyer_policy.proofs.BlockMemory.{Two, RL, RV, Nr, Bs, Mark, sz, mark, mark_made, word_made, past_fact, says_both, three_val, three_of}
use Rattle.foyer_policy.proofs.BlockRooms.{all_args, RA, Dd, uncapped, written, block_size, block_align, has_one, block_cut}
use base.Fml.{Incl-trans}
use lib.ListN.{replicate, length-replicate}
use prog.Memory.{Memory, align, capped}
use prog.Capped.{capped_fits}
use prog.Routine.{Routine}
use prog.Wp.{Wp, after_seq, at_return}
use contract.Monad.{Fun}
use contract.BorrowLft.{◌⊑◌}
use sound.WpLaws.{FmC, fm_of}
use types.Kit.{Post as After, any_q}
use types.Match.{live, vrt, in_variant}
use types.Run.{size_word, align_word, switches_on}
use types.ByLocal.{get_tag, lands_as}
use denote.Laws.{Is}
use denote.Steps.{owned}
use denote.Struct.Struct.{Struct, Struct-Makes}
use denote.Struct.Declared as Declared
use denote.Triple.Statement.{Triple}
use denote.Triple.Call.{calls_at}
use Rattle.std.specs.Prelude.{IfOk, IsOk, Ok, Err, ◌==◌, Bool, not}
use Rattle.std.specs.contracts.result.Result as RS
use Rattle.std.specs.contracts.alloc.AllocError as AE
use Rattle.std.proofs.alloc.Calls.{Al, second, Answer-typed, takes_key, Takes, at_takes, token, Answered, Takes-goes, Takes-gives, answers}
use Rattle.std.proofs.VecSteps.Shapes.{head, arm_body}
use Rattle.std.proofs.ResultValues.{ok_of, err_of}
use Rattle.std.proofs.RcSteps.{first_Good}
use Rattle.foyer_policy.specs.contracts.lists.block.allocate as F
use Rattle.foyer_policy.specs.contracts.lists.block.allocate.Key.{name as #self}
use Rattle.foyer_policy.proofs.lists.block.allocate.Statement as stated
use Rattle.foyer_policy.proofs.lists.block.allocate.Code as code

module _ (E : Two) (Z : Al) where
  abbrev function : Fn
  function = inst_fn (all_args E Z) code.function

  abbrev ended : Ended
  ended = F.ended E.links E.value Z.row Z.g Z.d Z.drops

  abbrev clauses : {M : Type 1} {𝓤 : Ura M} (𝓛 : Logic 𝓤) → (Memory → SProp 𝓤) → (Routine → Fun 𝓤) → Clauses 𝓤 ended
  clauses 𝓛 = F.clauses E.links E.value Z.row Z.g Z.d Z.drops 𝓛

  abbrev stayed : Stays ended.signature.params ended.kept
  stayed = (
    stay_dropped (RefOf (0 ∷ []) tt (plain (λ _. RA E Z)) (λ _. tt)) yes,
    (stay_dropped (plain (λ _. usize)) yes, tt),
  )

  abbrev Three : RattleType
  Three = Tuple (Bs E ∷ Nr E ∷ Dd E Z ∷ [])

  abbrev Out : RattleType
  Out = RS.the_row Three AE.the_row

  -- what `allocate` gives for a block at p
  abbrev base_at : Ptr → (Bs E).Denot
  base_at p = record { ptr = p }

  abbrev nodes_at : Ptr → ℕ → (Nr E).Denot
  nodes_at p n = record { mark = record {}; at = p; links = replicate n None; values = replicate n None }

  abbrev deed_at : Z.row.Denot → Ptr → ℕ → (Dd E Z).Denot
  deed_at a p n = record { mark = record {}; at = p; len = n; alloc = a }

  abbrev made_val : Ptr → Val
  made_val p = three_val (word p) mark mark

  abbrev typed : (b o : ℕ) → Good (layout Three) (made_val (block_ptr b o))
  typed b o = (tt, ((tt, tt), ((tt, tt), ((tt, tt), tt))))

module _ (E : Two) (Z : Al) {M : Type 1} {𝓤 : Ura M} (𝓛 : Logic 𝓤) (at_mem : Memory → SProp 𝓤) (run : Routine → Fun 𝓤)
    (C : Calls 𝓤 𝓛.H) (Λ : Loops 𝓤 𝓛.H) (fm : FmC 𝓤 𝓛.H 𝓛.laws C)
    (callee : Triple 𝓤 (C (takes_key Z)) (Takes Z 𝓛 at_mem run)) (κ κ₁ κ₂ κ₃ : Lft) (q q₁ q₂ q₃ : Share)
    (short : κ ⊑ κ₃) (within : κ₃ ⊑ Z.row.lives) (rb ro : ℕ) (a : Z.row.Denot) (len : ℕ) (us0 us1 : List Val) where
  open 𝓛 use {H, A}

  abbrev self : Bor Z.row.Denot
  self = record { ref_ptr = (rb, ro); now = a }

  abbrev others : Item 𝓤
  others = ‵ (flft κ₁ q₁) ⊛ ‵ (flft κ₂ q₂) ⊛ ‵ (flft κ₃ q₃) ⊛ ‵ ftrue

  abbrev bound : (walk_of 𝓛 (ended E Z) (stayed E Z) (clauses E Z 𝓛 at_mem run)).Ghost
  bound = (((κ, (κ₁, (κ₂, (κ₃, tt)))), (q, (q₁, (q₂, (q₃, tt)))), (short, tt), (self, (len, tt)), (us0, (us1, tt))), tt)

  abbrev Post : Val → SProp 𝓤
  Post = (walk_of 𝓛 (ended E Z) (stayed E Z) (clauses E Z 𝓛 at_mem run)).post bound

  exits : (r : (Out E Z).Denot) (v : Val)
      → IfOk r (λ t. (t.1.at ≡ t.0.ptr) × (t.1.links ≡ replicate len None) × (t.1.values ≡ replicate len None)
      × (t.2.at ≡ t.0.ptr) × (t.2.len ≡ len) × (t.2.alloc ≡ a)) → (len ≡ 0 → IsOk r)
      → ent 𝓤 (⋆ 𝓛 (‵ ((Out E Z).own_val r (v ∷ [])) ∷ ‵ (flft κ q) ∷ others ∷ [])) (Post v)
  exits r v g zero_ok =
      qed 𝓛 (‵ ((Out E Z).own_val r (v ∷ [])) ∷ ‵ (flft κ q) ∷ others ∷ []) ∵
      suffices ! _
      (ends_at 𝓛 (ended E Z) (stayed E Z) (clauses E Z 𝓛 at_mem run) bound v r (tt, (tt, tt)) (tt, (tt, tt))) $
      says_both ! g zero_ok $
      move ! (1 ∷ 2 ∷ []) $ join ! $ frame ! $ nothing ! $ nothing ! $ fjoin ! $ nothing ! $ fjoin ! $ done !

  -- the result on success, from what its parts own
  ends_well : (p : Ptr) → ent 𝓤
      (⋆ 𝓛 (‵ (deed_owns (RL E) (RV E) (token Z a) p len) ∷ ‵
      (nodes_own (RL E) (RV E) p (replicate len None) (replicate len None)) ∷ ‵ (flft κ q) ∷ others ∷ []))
      (Post (live 0 (vcons (made_val E Z p) vnil)))
  ends_well p =
      let base = base_at E Z p in let nodes = nodes_at E Z p len in let deed = deed_at E Z a p len in let made =
      made_val E Z p in
      qed 𝓛 (‵ (deed_owns (RL E) (RV E) (token Z a) p len) ∷ ‵
      (nodes_own (RL E) (RV E) p (replicate len None) (replicate len None)) ∷ ‵ (flft κ q) ∷ others ∷ []) ∵
      use0 𝓛 (‵ ((Mark E).own_val (tt, tt) (mark ∷ []))) (mark_made E 𝓛) $ fjoin ! $ move ! (1 ∷ []) $
      use0 𝓛 (‵ ((Mark E).own_val (tt, tt) (mark ∷ []))) (mark_made E 𝓛) $ fjoin ! $ word_made ! p $
      use3 𝓛 (‵ ((Three E Z).own_val (base, nodes, deed) (made ∷ [])))
      (three_of 𝓛 (Bs E) (Nr E) (Dd E Z) base nodes deed (word p) mark mark) $
      use1 𝓛 (‵ ((Out E Z).own_val (Ok (base, nodes, deed)) (live 0 (vcons made vnil) ∷ [])))
      (ok_of 𝓛 (Three E Z) AE.the_row (base, nodes, deed) made) $
      by ! (exits (Ok (base, nodes, deed)) (live 0 (vcons made vnil)) (refl, refl, refl, refl, refl, refl) (λ e. refl))

  abbrev Had : List (Item 𝓤)
  Had = ‵ (hidden_shr (RA E Z) κ a rb ro) ∷ ‵ (flft κ q) ∷ others ∷ []

  walk : FitsBlock (RL E) (RV E) len → len < 2 ^ 64 →
      ent 𝓤 (⋆ 𝓛 Had) (WpFn 𝓤 H C Λ (function E Z) (vptr rb ro ∷ vint w64 len ∷ []) Post)
  walk asked fits =
      let s = sz E in let small : len * s < 2 ^ 63 = asked.0 in let bytes : len * s < 2 ^ 64 = omega arith in
      qed 𝓛 Had ∵ enter ! C Λ (function E Z) (vptr rb ro ∷ vint w64 len ∷ []) _ $ alloc_all !
      (λ l. pass_all ! refl ((tt, tt), ((tt, record { fits = fits }), tt)) $
      let En : Env 𝓤 H = env (function E Z).locals l in
      let both : Body = head (after 4 (function E Z).body) in
      let Then : After 𝓤 H = any_q
      (after_seq 𝓤 H (Wp 𝓤 H C Λ En (after 5 (function E Z).body) (at_return 𝓤 H En Post))
      (at_return 𝓤 H En Post)) in
      let al : ℕ = capped (align (written E)) in
      let y : (Takes Z 𝓛 at_mem run).Ghost = at_takes Z 𝓛 at_mem run κ q (rb, ro) a (len * s) al
      (block_type (RL E) (RV E) len) in
      let fit : (k : ℕ) → k * s < 2 ^ 63 → length (replicate {A = Option E.links.Denot} k None) * s < 2 ^ 63 =
      λ k h. subst (λ j. j * s < 2 ^ 63) (sym (length-replicate k None)) h in
      let fit' : (k : ℕ) → k * s < 2 ^ 63 → length (replicate {A = Option E.value.Denot} k None) * s < 2 ^ 63 =
      λ k h. subst (λ j. j * s < 2 ^ 63) (sym (length-replicate k None)) h in
      sets ! (bin ! (get ! refl) (lit ! tt) tt) refl (tt, tt) $ first ! $ branches ! (get ! refl)
      (λ yes.
      let e : len ≡ 0 = eqb→eq len 0 yes in
      let p : Ptr = block_ptr (l 3) 0 in
      let made : Val = made_val E Z p in
      let ok = first_Good (layout (Three E Z)) made (typed E Z (l 3) 0) in
      sets ! (of_opd ! (unit_lit !)) refl (tt, tt) $ sets ! (addr ! (from ! (stop !))) refl (tt, tt) $
      sets ! (agg ! (and_then ! (get ! refl) (no_more !))) refl (word-Good [] p) $
      sets ! (agg ! (no_more !)) refl (tt, tt) $ sets ! (agg ! (and_then ! (get ! refl) (no_more !))) refl
      (tt, (tt, tt)) $
      sets ! (agg ! (no_more !)) refl (tt, tt) $ sets ! (agg ! (and_then ! (get ! refl) (no_more !))) refl
      (tt, (tt, tt)) $
      sets ! (agg ! (and_then ! (get ! refl) (and_then ! (get ! refl) (and_then ! (get ! refl) (no_more !))))) refl
      (typed E Z (l 3) 0) $
      sets ! (agg ! (and_then ! (lit ! tt) (and_then ! (get ! refl) (no_more !)))) refl ok $
      returns_within ! Post refl (look_at ! 0 refl) $ free_all ! refl $ keep ! (1 ∷ 2 ∷ []) $
      nothing ! $ flt_i ! (0 * s) (2 ^ 63) (omega (arith, zero-mul s)) $ fjoin ! $ nothing ! $ flt_i ! (0 * s)
      (2 ^ 63) (omega (arith, zero-mul s)) $ fjoin ! $ fjoin ! $
      rewrite ! 0 (λ (k : ℕ). ‵ (nodes_own (RL E) (RV E) p (replicate k None) (replicate k None))) (sym e) refl $
      nothing ! $ rewrite ! 0 (λ (k : ℕ). ‵ (deed_owns (RL E) (RV E) (token Z a) p k)) (sym e) refl $ by !
      (ends_well p))
      (λ no. skips ! $ exec ! C Λ En (after 2 (function E Z).body) (at_ret En Post) $
      sets ! (is !
      (bin ! (get ! refl) (size_word !)
      (record { fits = subst (λ (k : ℕ). k < 2 ^ 64) (sym (uncapped len s bytes)) bytes }))
      (ap (vint w64) (uncapped len s bytes))) refl (tt, record { fits = bytes }) $
      use2 𝓛 (raw ((Takes Z 𝓛 at_mem run).pre y))
      (Takes-goes Z 𝓛 at_mem run κ q (rb, ro) a (Incl-trans short within) (len * s) al
      (block_type (RL E) (RV E) len) (block_size E len bytes) (block_align E len) bytes
      (capped_fits (align (written E)))) $
      calls_at ! fm (Takes Z 𝓛 at_mem run) callee y
      (and_then ! (get ! refl) (and_then ! (get ! refl) (and_then ! (align_word !) (no_more !)))) (λ v.
      use1 𝓛 (later (raw (Answered Z 𝓛 at_mem run a (block_type (RL E) (RV E) len) v) ⊛ ‵ (flft κ q)))
      (Takes-gives Z 𝓛 at_mem run κ q (rb, ro) a (len * s) al (block_type (RL E) (RV E) len) v) $ await ! tt $
      split ! $
      answers Z ! at_mem run a (block_type (RL E) (RV E) len) v
      (λ b o e.
      let p : Ptr = block_ptr b o in
      let made : Val = made_val E Z p in
      let ok = first_Good (layout (Three E Z)) made (typed E Z b o) in
      lands_as ! e refl (Answer-typed true b o) $ first ! $ switches_on !
      (get_tag ! (vrt ! refl (fld ! refl (stop !))) (whole !)) $ exec ! C Λ En (arm_body 0 both) Then $
      sets ! (of_opd ! (get_in ! (vrt ! refl (fld ! refl (stop !))) (in_variant ! 0 0 refl refl (whole !)))) refl
      (tt, tt) $ sets ! (of_opd ! (get ! refl)) refl (tt, tt) $
      sets ! (agg ! (and_then ! (get ! refl) (no_more !))) refl (word-Good [] p) $
      sets ! (agg ! (no_more !)) refl (tt, tt) $ sets ! (agg ! (and_then ! (get ! refl) (no_more !))) refl
      (tt, (tt, tt)) $
      sets ! (agg ! (no_more !)) refl (tt, tt) $ sets ! (agg ! (and_then ! (get ! refl) (no_more !))) refl
      (tt, (tt, tt)) $
      sets ! (agg ! (and_then ! (get ! refl) (and_then ! (get ! refl) (and_then ! (get ! refl) (no_more !))))) refl
      (typed E Z b o) $
      sets_last ! (agg ! (and_then ! (lit ! tt) (and_then ! (get ! refl) (no_more !)))) refl ok $
      exec ! C Λ En (after 5 (function E Z).body) (at_ret En Post) $ sets ! (of_opd ! (get ! refl)) refl ok $
      returns ! (look_at ! 0 refl) $ free_all ! refl $ keep ! (0 ∷ 1 ∷ 2 ∷ 3 ∷ []) $
      use1 𝓛 (‵ (blank_nodes (RL E) (RV E) p len) ⊛ ‵ (block_joins (RL E) (RV E) p len)) (block_cut E 𝓛 b len o) $
      split ! $ fsplit ! $
      flt_i ! (length (replicate {A = Option E.links.Denot} len None) * s) (2 ^ 63) (fit len small) $ fjoin ! $ move !
      (1 ∷ []) $
      flt_i ! (length (replicate {A = Option E.value.Denot} len None) * s) (2 ^ 63) (fit' len small) $ fjoin ! $ move
      ! (1 ∷ 0 ∷ []) $ fjoin ! $
      -- [the nodes; they join; the token; the lifetime; the others]
      move ! (2 ∷ 1 ∷ []) $ fjoin ! $
      rewrite ! 0
      (λ (b : Bool). ‵
      (owns_if b (fsep (token Z a (block_type (RL E) (RV E) len) p) (block_joins (RL E) (RV E) p len))))
      (sym (has_one len no)) refl $ by ! (ends_well p))
      (λ e.
      let Refusal : RattleType = Struct (Declared.shape AE.the_type) in
      let none : Val = live 1 (vcons (vstruct vnil) vnil) in
      let filled : len ≡ 0 → IsOk {T = (Three E Z).Denot} {E = (AE.the_row).Denot} (Err (record {})) =
      λ is. absurd (subst (λ k. T (not (k == 0))) is no) in
      lands_as ! e refl (Answer-typed false 0 0) $ first ! $ switches_on !
      (get_tag ! (vrt ! refl (fld ! refl (stop !))) (whole !)) $ exec ! C Λ En (arm_body 1 both) Then $
      sets ! (of_opd ! (get_in ! (vrt ! refl (fld ! refl (stop !))) (in_variant ! 1 0 refl refl (whole !)))) refl
      (tt, tt) $
      sets_last ! (agg ! (and_then ! (lit ! tt) (and_then ! (get ! refl) (no_more !)))) refl
      (tt, (record { fits = lit< tt }, (tt, tt))) $
      exec ! C Λ En (after 5 (function E Z).body) (at_ret En Post) $ sets ! (of_opd ! (get ! refl)) refl
      (tt, (record { fits = lit< tt }, (tt, tt))) $
      owned ! Refusal (Is Refusal) (Struct-Makes 𝓛 (Declared.shape AE.the_type) tt) tt (vstruct vnil ∷ [])
      (tt, (refl, tt)) $
      use1 𝓛 (‵ ((Out E Z).own_val (Err (record {})) (none ∷ [])))
      (err_of 𝓛 (Three E Z) AE.the_row (record {}) (vstruct vnil)) $
      returns ! (look_at ! 0 refl) $ free_all ! refl $ keep ! (0 ∷ 1 ∷ 2 ∷ []) $ by !
      (exits (Err (record {})) none tt filled)))))

  entry : FitsBlock (RL E) (RV E) len
      → ent 𝓤 (on_entry 𝓛 (ended E Z).signature (κ, (κ₁, (κ₂, (κ₃, tt)))) (q, (q₁, (q₂, (q₃, tt)))) (self, (len, tt))
      (us0, (us1, tt))) (WpFn 𝓤 H C Λ (function E Z) (us0 ++ (us1 ++ [])) Post)
  entry asked =
      qed 𝓛 ((‵ (flft κ q) ⊛ others) ∷ ‵
      (owns (ShrRef (named 0) κ (RA E Z) ∷ usize ∷ []) (self, (len, tt)) (us0, (us1, tt))) ∷ []) ∵ split ! $ move
      ! (2 ∷ []) $ fsplit3 ! $ fsplit ! $ feq_l ! (λ e0.
      move ! (1 ∷ []) $ fsplit ! $ feq_l ! (λ e1. flt_l ! (λ fits. keep ! (0 ∷ 2 ∷ 3 ∷ []) $
      by ! (subst
      (λ (ws : List Val × List Val). ent 𝓤 (⋆ 𝓛 Had) (WpFn 𝓤 H C Λ (function E Z) (ws.0 ++ (ws.1 ++ [])) Post))
      (λ j. (sym e0 j, sym e1 j)) (walk asked fits)))))

meets : (E : Two) (Z : Al) {M : Type 1} {𝓤 : Ura M} (𝓛 : Logic 𝓤) (at_mem : Memory → SProp 𝓤) (run : Routine → Fun 𝓤)
    (𝓣 : Tables 𝓤 𝓛.H) → Triple 𝓤 (𝓣.C (takes_key Z)) (Takes Z 𝓛 at_mem run)
    → Meets 𝓛 (ended E Z).signature (WpFn 𝓤 𝓛.H 𝓣.C 𝓣.Λ (function E Z))
    (closing 𝓛 (ended E Z) (clauses E Z 𝓛 at_mem run))
meets E Z {𝓤 = 𝓤} 𝓛 at_mem run 𝓣 callee =
    walk_Meets 𝓛 (ended E Z) (stayed E Z) (
      Goes-dropped 𝓛 4 (RefOf (0 ∷ []) tt (plain (λ _. RA E Z)) (λ _. tt)) yes (λ κs x f. refl),
      (Goes-dropped 𝓛 4 (plain (λ _. usize)) yes (λ κs x f. refl), tt),
    )
    (clauses E Z 𝓛 at_mem run) (WpFn 𝓤 𝓛.H 𝓣.C 𝓣.Λ (function E Z)) (WpFn-mono 𝓤 𝓛.H 𝓛.laws 𝓣 (function E Z))
    (λ z. let κs = z.0.0 in let qs = z.0.1 in let a = z.0.3 in let vss = z.0.4 in let On : SProp 𝓤 =
    on_entry 𝓛 (ended E Z).signature κs qs a vss in
    let asks = FitsBlock (RL E) (RV E) a.1.0 in
    past_fact 𝓤 (κs.1.0 ⊑ E.links.lives) On
    (sep 𝓤 (fact 𝓤 (κs.1.1.0 ⊑ E.value.lives)) (sep 𝓤 (fact 𝓤 (κs.1.1.1.0 ⊑ Z.row.lives)) (fact 𝓤 asks)))
    (second 𝓤 (κs.1.1.0 ⊑ E.value.lives) (κs.1.1.1.0 ⊑ Z.row.lives) On (fact 𝓤 asks) (λ within. needs 𝓤 asks On
    (entry E Z 𝓛 at_mem run 𝓣.C 𝓣.Λ (fm_of 𝓤 𝓛.H 𝓛.laws 𝓣) callee κs.0 κs.1.0 κs.1.1.0 κs.1.1.1.0 qs.0 qs.1.0 qs.1.1.0
    qs.1.1.1.0 z.0.2.0 within a.0.ref_ptr.0 a.0.ref_ptr.1 a.0.now a.1.0 vss.0 vss.1.0))))

pub allocate_spec : {M : Type 1} → stated.statement M
unfolding tables_of
allocate_spec 𝓤 𝓛 𝓜 𝓡 wired X Y W LX LY LW g d dd met md =
    let E : Two = record { links = X; links_laws = LX; value = Y; value_laws = LY } in
    let Z : Al = record { row = W; laws = LW; g = g; d = d; drops = dd } in
    let 𝓣 : Tables 𝓤 𝓛.H = tables_of 𝓤 𝓛.H 𝓜 (tables 𝓤 𝓛.H 𝓜 𝓡 𝓡.env) in
    entered 𝓤 𝓛.H (triple_of 𝓛 (ended E Z).signature (F.spec X Y W g d dd 𝓛 𝓜.mem 𝓡.returns)) 𝓣.C 𝓣.Λ
    (#self (all_args E Z)) (function E Z) (code.unfolded 𝓤 𝓛.H 𝓜 𝓡 wired (X, (Y, (W, tt))) d dd)
    (meets E Z 𝓛 𝓜.mem 𝓡.returns 𝓣 (met.allocate dd))
