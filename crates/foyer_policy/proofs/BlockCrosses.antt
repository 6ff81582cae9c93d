-- The parts of a block of nodes may cross threads as its links, its values and its allocator may.
use Rattle.std.specs.Prelude.{ℕ, zero, suc, ◌+◌, List, [], ◌∷◌, Option, Some, None, replicate, Bool, true, false}
use base.Fraction.{full_share}
use base.Shift.{Keyless}
use base.Fml.{Fml}
use mir.Syntax.{Ty}
use denote.Exit.{Exit, unchanged, leaves, hidden, under}
use denote.RattleType.{RattleType}
use denote.RawPtr.{Ptr, block_ptr, null_ptr, room_for}
use denote.Struct.Struct.{exits_of}
use denote.Struct.Owning.{shape, fields, to}
use denote.Param.Send.{IsSend, IsSync, Quiet, Frees, Common, AllSend, part_keyless, owning_send, struct_send, struct_sync, sendable}
use Rattle.std.specs.declared.alloc.Allocator.{Ghosts}
use Rattle.std.specs.Vec.Ownership.{owns_if, has_block}
use Rattle.foyer_policy.specs.Block.{column, column_lent, nodes_own, nodes_lent, blank_nodes}
use Rattle.foyer_policy.specs.contracts.lists.block.Nodes as Nodes
use Rattle.foyer_policy.specs.contracts.lists.block.Deed as Deed

quiet : {D X : Type 0} (to : D → X) (e : Exit X) → Quiet e → Quiet (hidden (under to e))
quiet to unchanged q = λ x w. tt
quiet to (leaves L l S s r₀) q = λ d. q (to d)

room : (τ : Ty) (p : Ptr) → Keyless (room_for τ p)
room τ (block_ptr b o) = tt
room τ null_ptr = tt

module _ (R : RattleType) (s : ℕ) where
  column-Keyless : IsSend R → (b o : ℕ) (cs : List (Option R.Denot)) → Keyless (column R s b o cs)
  column-Keyless r b o [] = tt
  column-Keyless r b o (Some x ∷ cs) = (part_keyless R r full_share x b o, column-Keyless r b (o + s) cs)
  column-Keyless r b o (None ∷ cs) = (tt, column-Keyless r b (o + s) cs)

  blank-Keyless : (b o n : ℕ) → Keyless (column R s b o (replicate n None))
  blank-Keyless b o zero = tt
  blank-Keyless b o (suc n) = (tt, blank-Keyless b (o + s) n)

  column_lent-Common : IsSync R → (b o : ℕ) (cs : List (Option R.Denot)) → Common (column_lent R s b o cs)
  column_lent-Common y b o [] κ = tt
  column_lent-Common y b o (Some x ∷ cs) κ = (y.shared x b o κ, column_lent-Common y b (o + s) cs κ)
  column_lent-Common y b o (None ∷ cs) κ = (tt, column_lent-Common y b (o + s) cs κ)

module _ (L T : RattleType) where
  nodes-Keyless : IsSend L → IsSend T → (p : Ptr) (ls : List (Option L.Denot)) (vs : List (Option T.Denot)) →
      Keyless (nodes_own L T p ls vs)
  nodes-Keyless l t (block_ptr b o) ls vs = ((tt, column-Keyless L _ l b _ ls), (tt, column-Keyless T _ t b _ vs))
  nodes-Keyless l t null_ptr ls vs = tt

  blanks-Keyless : (p : Ptr) (n : ℕ) → Keyless (blank_nodes L T p n)
  blanks-Keyless (block_ptr b o) n = (blank-Keyless L _ b _ n, blank-Keyless T _ b _ n)
  blanks-Keyless null_ptr n = tt

  nodes_lent-Common : IsSync L → IsSync T → (p : Ptr) (ls : List (Option L.Denot)) (vs : List (Option T.Denot)) →
      Common (nodes_lent L T p ls vs)
  nodes_lent-Common l t (block_ptr b o) ls vs κ =
      ((tt, column_lent-Common L _ l b _ ls κ), (tt, column_lent-Common T _ t b _ vs κ))
  nodes_lent-Common l t null_ptr ls vs κ = tt

  pub Nodes-send : IsSend L → IsSend T → IsSend (Nodes.the_row L T)
  Nodes-send l t =
      let O = Nodes.the_type L T in let all : AllSend (fields O) = (search sendable, tt) in
      owning_send O all (λ d. nodes-Keyless l t d.at d.links d.values)
      (λ k. quiet (to O) (exits_of k (fields O)) ((struct_send (shape O) all).leaving k))

  pub Nodes-sync : IsSync L → IsSync T → IsSync (Nodes.the_row L T)
  Nodes-sync l t = let O = Nodes.the_type L T in
      record {
        shared = λ d b o κ. (
          (struct_sync (shape O) (search sendable, tt)).shared (to O d) b o κ,
          nodes_lent-Common l t d.at d.links d.values κ,
        );
      }

  if_block : (y : Bool) (F : Fml) → Keyless F → Keyless (owns_if y F)
  if_block true F k = k
  if_block false F k = tt

  module _ (A : RattleType) (g : Ghosts A.Denot) where
    pub Deed-send : Frees g g.dealloc_token → IsSend (Deed.the_row L T A g)
    Deed-send f =
        let O = Deed.the_type L T A g in let all : AllSend (fields O) = (search sendable, tt) in
        owning_send O all
        (λ d. if_block (has_block d.len) _ (f.frees d.alloc _ d.at, (blanks-Keyless d.at d.len, room _ d.at)))
        (λ k. quiet (to O) (exits_of k (fields O)) ((struct_send (shape O) all).leaving k))

    pub Deed-sync : IsSync (Deed.the_row L T A g)
    Deed-sync = let O = Deed.the_type L T A g in
        record { shared = λ d b o κ. ((struct_sync (shape O) (search sendable, tt)).shared (to O d) b o κ, tt) }
