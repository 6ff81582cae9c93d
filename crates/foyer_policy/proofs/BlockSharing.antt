-- A `&` to the nodes of a block is made where one to its links and values is. Assumes `Logic`.
use Prim.Native.Nat.{ℕ, ◌+◌}
use Rattle.std.specs.Prelude.{List, [], ◌∷◌, Option, Some, None}
use seplogic.Ra.Ura.{Ura}
use base.Fml.{Lft, Incl, ftrue, ffalse}
use types.Logic.{Logic}
use denote.RattleType.{RattleType, RowLaws}
use denote.Param.Laws.{Laws}
use denote.RawPtr.{Ptr, block_ptr, null_ptr}
use denote.Sharing.{ShrLaws, said}
use denote.SharingLaws.{beside_shr_laws, nothing_shr_laws, said_shr_laws}
use denote.Shares.{Shares-less}
use denote.Struct.Lending.{Lends, Lends-both, Lends-nothing, Lends-said, Lends-false}
use Rattle.foyer_policy.specs.Block.{cell, column, cell_lent, column_lent, fit, column_own, column_shared, node_size, links_offset, value_offset, nodes_own, nodes_lent}

module _ (R : RattleType) (L : RowLaws R) (s : ℕ) where
  cell_lent_laws : (b o : ℕ) (c : Option R.Denot) → ShrLaws (cell_lent R b o c)
  cell_lent_laws b o (Some x) = L x b o
  cell_lent_laws b o None = nothing_shr_laws

  column_lent_laws : (b o : ℕ) (cs : List (Option R.Denot)) → ShrLaws (column_lent R s b o cs)
  column_lent_laws b o [] = nothing_shr_laws
  column_lent_laws b o (c ∷ cs) = beside_shr_laws _ _ (cell_lent_laws b o c) (column_lent_laws b (o + s) cs)

  pub column_shared_laws : (b o : ℕ) (cs : List (Option R.Denot)) → ShrLaws (column_shared R s b o cs)
  column_shared_laws b o cs = beside_shr_laws _ _ (said_shr_laws (fit R s cs) tt) (column_lent_laws b o cs)

module _ (L T : RattleType) (LL : RowLaws L) (LT : RowLaws T) where
  pub nodes_lent_laws : (p : Ptr) (ls : List (Option L.Denot)) (vs : List (Option T.Denot)) →
      ShrLaws (nodes_lent L T p ls vs)
  nodes_lent_laws (block_ptr b o) ls vs = beside_shr_laws _ _
      (column_shared_laws L LL (node_size L T) b (o + links_offset L T) ls)
      (column_shared_laws T LT (node_size L T) b (o + value_offset L T) vs)
  nodes_lent_laws null_ptr ls vs = said_shr_laws ffalse tt

module _ {M : Type 1} {𝓤 : Ura M} (𝓛 : Logic 𝓤) (l : Lft) (R : RattleType) (L : Laws R) (inc : Incl l R.lives)
    (s : ℕ) where
  Lends-cell : (b o : ℕ) (c : Option R.Denot) → Lends 𝓛 (cell R b o c) (cell_lent R b o c) l
  Lends-cell b o (Some x) = λ κ ts. Shares-less 𝓛 R R.lives l inc (L.shares 𝓛) x κ ts b o
  Lends-cell b o None = Lends-nothing 𝓛 (cell R b o None) l

  Lends-cells : (b o : ℕ) (cs : List (Option R.Denot)) → Lends 𝓛 (column R s b o cs) (column_lent R s b o cs) l
  Lends-cells b o [] = Lends-nothing 𝓛 ftrue l
  Lends-cells b o (c ∷ cs) =
      Lends-both 𝓛 (cell R b o c) (column R s b (o + s) cs) (cell_lent R b o c) (column_lent R s b (o + s) cs) l
      (Lends-cell b o c) (Lends-cells b (o + s) cs)

  pub Lends-column : (b o : ℕ) (cs : List (Option R.Denot)) →
      Lends 𝓛 (column_own R s b o cs) (column_shared R s b o cs) l
  Lends-column b o cs = Lends-both 𝓛 (fit R s cs) (column R s b o cs) (said (fit R s cs)) (column_lent R s b o cs) l
      (Lends-said 𝓛 (fit R s cs) tt l) (Lends-cells b o cs)

module _ {M : Type 1} {𝓤 : Ura M} (𝓛 : Logic 𝓤) (l : Lft) (L T : RattleType) (LL : Laws L) (LT : Laws T)
    (inc_l : Incl l L.lives) (inc_t : Incl l T.lives) where
  pub Lends-nodes : (p : Ptr) (ls : List (Option L.Denot)) (vs : List (Option T.Denot)) →
      Lends 𝓛 (nodes_own L T p ls vs) (nodes_lent L T p ls vs) l
  Lends-nodes (block_ptr b o) ls vs =
      let s = node_size L T in let lo = o + links_offset L T in let vo = o + value_offset L T in
      Lends-both 𝓛 (column_own L s b lo ls) (column_own T s b vo vs) (column_shared L s b lo ls)
      (column_shared T s b vo vs) l (Lends-column 𝓛 l L LL inc_l s b lo ls) (Lends-column 𝓛 l T LT inc_t s b vo vs)
  Lends-nodes null_ptr ls vs = Lends-false 𝓛 (said ffalse) l
