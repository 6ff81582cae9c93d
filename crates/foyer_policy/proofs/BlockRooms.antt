-- What `allocate` and `deallocate` share: room for an array of nodes is cut into columns of empty cells, and made of
-- them again. Assumes `Logic`.
use mathlib.Core.Path.{◌≡◌, refl, sym, ap, ◌∙◌}
use mathlib.Core.Bool.{Bool, true, false, not}
use Prim.Native.Nat.{ℕ, zero, suc, ◌+◌, ◌*◌, ◌<◌, ◌^◌}
use native.Mathlib.Omega.{arith}
use native.Mathlib.Nat.{zero-mul, suc-mul}
use mathlib.Core.List.{List, [], ◌∷◌}
use lib.ListN.{length, replicate}
use seplogic.Ra.Ura.{Ura}
use mir.Syntax.{Ty, Tys, Sym, Args, a_type, ty_struct, ty_array, tcons, tnil, dcons, dnil}
use base.Logic.{SProp, ent, sep, wand, apply∗, mono∗, id⊢}
use base.Fml.{Fml, ftrue, fsep, froom}
use prog.Memory.{size, align, capped}
use prog.Capped.{capped_is}
use prog.RawLaws.{size-raw, align-raw}
use prog.Model.{rooms_at}
use types.Logic.{Logic, sem}
use types.Kit.{‵, raw, ◌⊛◌, ◌$◌, ◌∵◌, !, qed, by, move, keep, use1, use2, split, split3, group, assume, frame, fsplit, fjoin, rewrite, done}
use denote.RattleType.{RattleType}
use denote.Param.{param, layout, bounded}
use denote.RawPtr.{block_ptr}
use denote.Steps.{nothing}
use Rattle.std.specs.Prelude.{Option, None, ◌==◌}
use Rattle.std.specs.Vec.Ownership.{has_block}
use Rattle.std.proofs.Common.{T}
use Rattle.std.proofs.alloc.Calls.{Al}
use Rattle.std.proofs.RawLayout.{as_raw, as_written}
use Rattle.foyer_policy.specs.Block.{cell, column, blank_nodes, block_type, block_joins}
use Rattle.foyer_policy.specs.contracts.lists.block.Node as Node
use Rattle.foyer_policy.specs.contracts.lists.block.Deed as D-type
use Rattle.foyer_policy.proofs.BlockMemory.{Two, RL, RV, sz, lo, vo, cell_room}

-- where the product fits a word, the count is zero or the size fits too
pub uncapped : (i k : ℕ) → i * k < 2 ^ 64 → i * capped k ≡ i * k
uncapped zero k h = zero-mul (capped k) ∙ sym (zero-mul k)
uncapped (suc i) k h = let up = suc-mul i k in ap (λ (j : ℕ). suc i * j) (capped_is k (omega arith))

module _ (E : Two) (Z : Al) where
  abbrev pub all_args : Args
  all_args = bounded (a_type ∷ a_type ∷ a_type ∷ []) (E.links, (E.value, (Z.row, tt))) (dcons Z.d (dcons Z.drops dnil))

  abbrev pub RA : RattleType
  RA = param 2 Z.row

  abbrev pub Dd : RattleType
  Dd = D-type.the_row (RL E) (RV E) RA Z.g

module _ (E : Two) where
  abbrev ν : Sym
  ν = (Node.the_type (RL E) (RV E)).name

  abbrev fields : Tys
  fields = tcons (layout E.links) (tcons (layout E.value) tnil)

  -- the type of a node as the code writes it
  abbrev pub written : Ty
  written = ty_struct ν fields

  pub block_size : (n : ℕ) → n * sz E < 2 ^ 64 → capped (size (block_type (RL E) (RV E) n)) ≡ n * sz E
  block_size n fits = ap capped (size-raw (ty_array written n)) ∙ capped_is (n * sz E) fits

  pub block_align : (n : ℕ) → capped (align (block_type (RL E) (RV E) n)) ≡ capped (align written)
  block_align n = ap capped (align-raw (ty_array written n))

pub has_one : (n : ℕ) → T (not (n == 0)) → has_block n ≡ true
has_one n = go (n == 0) where
  go : (y : Bool) → T (not y) → not y ≡ true
  go true t = absurd t
  go false t = refl

module _ (E : Two) {M : Type 1} {𝓤 : Ura M} (𝓛 : Logic 𝓤) (b : ℕ) where
  open 𝓛 use {H}

  abbrev s : ℕ
  s = sz E

  abbrev Blanks : ℕ → ℕ → Fml
  Blanks n o = blank_nodes (RL E) (RV E) (block_ptr b o) n

  abbrev Links : ℕ → ℕ → Fml
  Links o n = column (RL E) s b o (replicate n None)

  abbrev Values : ℕ → ℕ → Fml
  Values o n = column (RV E) s b o (replicate n None)

  -- the cells of one node
  abbrev Two-cells : ℕ → Fml
  Two-cells o = fsep (cell (RL E) b (o + lo E) None) (cell (RV E) b (o + vo E) None)

  abbrev Joins-node : ℕ → SProp 𝓤
  Joins-node o = wand 𝓤 (sem 𝓛 (Two-cells o)) (H.room (written E) b o)

  abbrev Joins : ℕ → ℕ → SProp 𝓤
  Joins n o = wand 𝓤 (sem 𝓛 (Blanks n o)) (H.room (ty_array (written E) n) b o)

  abbrev Joins-fields : ℕ → SProp 𝓤
  Joins-fields o = wand 𝓤 (rooms_at 𝓤 H (fields E) 0 b o) (H.room (written E) b o)

  node_cut : (o : ℕ) → ent 𝓤 (H.room (written E) b o) (sep 𝓤 (sem 𝓛 (Two-cells o)) (Joins-node o))
  node_cut o =
      qed 𝓛 (‵ (froom (written E) b o) ∷ []) ∵
      use1 𝓛 ((‵ (froom (layout E.links) b (o + lo E)) ⊛ ‵ (froom (layout E.value) b (o + vo E)) ⊛ ‵ ftrue) ⊛ raw
      (Joins-fields o)) (𝓛.laws.room_fields (ν E) (fields E) b o) $
      split ! $ split3 ! $ as_raw ! (layout E.links) b (o + lo E) $ move ! (1 ∷ []) $ as_raw ! (layout E.value) b
      (o + vo E) $ move ! (1 ∷ 0 ∷ []) $ fjoin ! $ frame ! $
      assume ! (‵ (Two-cells o)) $ fsplit ! $ as_written ! (layout E.links) b (o + lo E) $ move ! (1 ∷ []) $
      as_written ! (layout E.value) b (o + vo E) $
      move ! (1 ∷ 0 ∷ 2 ∷ []) $ group ! 3 $
      use2 𝓛 (‵ (froom (written E) b o)) (apply∗ 𝓤 (rooms_at 𝓤 H (fields E) 0 b o) (H.room (written E) b o)) $ done !

  columns_cut : (n o : ℕ) → ent 𝓤 (H.room (ty_array (written E) n) b o) (sep 𝓤 (sem 𝓛 (Blanks n o)) (Joins n o))
  columns_cut zero o =
      qed 𝓛 (‵ (froom (ty_array (written E) 0) b o) ∷ []) ∵ keep ! [] $ nothing ! $ nothing ! $ fjoin ! $ frame ! $
      assume ! (‵ (Blanks 0 o)) $ keep ! [] $ by ! (𝓛.laws.room_nil (written E) b o)
  columns_cut (suc n) o =
      let at_links : o + s + lo E ≡ o + lo E + s = omega arith in let at_values : o + s + vo E ≡ o + vo E + s =
      omega arith in
      qed 𝓛 (‵ (froom (ty_array (written E) (suc n)) b o) ∷ []) ∵
      use1 𝓛 (‵ (froom (written E) b o) ⊛ ‵ (froom (ty_array (written E) n) b (o + s)))
      (𝓛.laws.room_uncons (written E) n b o) $ split ! $
      use1 𝓛 (‵ (Two-cells o) ⊛ raw (Joins-node o)) (node_cut o) $ split ! $ fsplit ! $
      move ! (3 ∷ []) $ use1 𝓛 (‵ (Blanks n (o + s)) ⊛ raw (Joins n (o + s))) (columns_cut n (o + s)) $ split ! $
      fsplit ! $
      -- [links of the rest; values of the rest; they join; this node's links; its value; they join]
      rewrite ! 0 (λ (k : ℕ). ‵ (Links k n)) at_links refl $ rewrite ! 1 (λ (k : ℕ). ‵ (Values k n)) at_values refl $
      move ! (3 ∷ 0 ∷ []) $ fjoin ! $ move ! (3 ∷ 1 ∷ []) $ fjoin ! $ move ! (1 ∷ 0 ∷ []) $ fjoin ! $ frame ! $
      assume ! (‵ (Blanks (suc n) o)) $ fsplit ! $ fsplit ! $ move ! (2 ∷ []) $ fsplit ! $
      -- [its value; values of the rest; its links; links of the rest; the rest joins; the node joins]
      rewrite ! 1 (λ (k : ℕ). ‵ (Values k n)) (sym at_values) refl $ rewrite ! 3 (λ (k : ℕ). ‵ (Links k n))
      (sym at_links) refl $
      move ! (3 ∷ 1 ∷ []) $ fjoin ! $ move ! (0 ∷ 3 ∷ []) $
      use2 𝓛 (‵ (froom (ty_array (written E) n) b (o + s)))
      (apply∗ 𝓤 (sem 𝓛 (Blanks n (o + s))) (H.room (ty_array (written E) n) b (o + s))) $
      move ! (2 ∷ 1 ∷ []) $ fjoin ! $ move ! (0 ∷ 2 ∷ []) $ use2 𝓛 (‵ (froom (written E) b o))
      (apply∗ 𝓤 (sem 𝓛 (Two-cells o)) (H.room (written E) b o)) $
      by ! (𝓛.laws.room_cons (written E) n b o)

  pub block_cut : (n o : ℕ) → ent 𝓤 (H.room (block_type (RL E) (RV E) n) b o)
      (sep 𝓤 (sem 𝓛 (Blanks n o)) (sem 𝓛 (block_joins (RL E) (RV E) (block_ptr b o) n)))
  block_cut n o =
      qed 𝓛 (‵ (froom (block_type (RL E) (RV E) n) b o) ∷ []) ∵ as_written ! (ty_array (written E) n) b o $ use1 𝓛
      (‵ (Blanks n o) ⊛ raw (Joins n o)) (columns_cut n o) $ split ! $ frame ! $
      assume ! (‵ (Blanks n o)) $ use2 𝓛 (‵ (froom (ty_array (written E) n) b o))
      (apply∗ 𝓤 (sem 𝓛 (Blanks n o)) (H.room (ty_array (written E) n) b o)) $ by !
      (𝓛.laws.room-raw (ty_array (written E) n) b o)

  pub block_glue : (n o : ℕ) → ent 𝓤
      (sep 𝓤 (sem 𝓛 (Blanks n o)) (sem 𝓛 (block_joins (RL E) (RV E) (block_ptr b o) n)))
      (H.room (block_type (RL E) (RV E) n) b o)
  block_glue n o = apply∗ 𝓤 (sem 𝓛 (Blanks n o)) (H.room (block_type (RL E) (RV E) n) b o)

  -- links need no end
  pub links_blank : (ls : List (Option E.links.Denot)) (o : ℕ) →
      ent 𝓤 (sem 𝓛 (column (RL E) s b o ls)) (sem 𝓛 (Links o (length ls)))
  links_blank [] o = id⊢ 𝓤 _
  links_blank (l ∷ ls) o = mono∗ 𝓤 (cell_room 0 E.links E.links_laws 𝓛 l b o) (links_blank ls (o + s))
