-- What the parts of a block of nodes own and lend, at links of the row L and values of the row T.
use Rattle.std.specs.Prelude.{◌≡◌, ℕ, ◌+◌, ◌*◌, ◌^◌, ◌<◌, List, [], ◌∷◌, length, replicate, slice_index_or, Option, Some, None}
use Rattle.std.specs.Mem.{type_size}
use base.Fraction.{full_share}
use base.Fml.{Lft, Fml, ftrue, ffalse, fsep, fwand, flt, froom}
use mir.Syntax.{Ty, ty_array}
use mir.Raw.{raw}
use prog.Memory.{size, align, up}
use denote.RattleType.{RattleType}
use denote.Memory.{lone, part_at, shared_of}
use denote.Sharing.{nothing, said, beside}
use denote.RawPtr.{Ptr, block_ptr, null_ptr, room_for}
use Rattle.std.specs.Vec.Ownership.{owns_if, has_block}
use Rattle.foyer_policy.specs.contracts.lists.block.Node as Node

-- the cell at the index holds a value
abbrev pub IsFilled : {X : Type 0} → List (Option X) → ℕ → Type 0
IsFilled {X} cs i = (x : X) × (slice_index_or cs i None ≡ Some x)

module _ (R : RattleType) where
  -- one cell, o bytes into the block b
  abbrev pub cell : ℕ → ℕ → Option R.Denot → Fml
  cell b o (Some x) = part_at R full_share x b o
  cell b o None = froom (raw (lone R.mir)) b o

  -- cells that lie s bytes apart
  abbrev pub column : ℕ → ℕ → ℕ → List (Option R.Denot) → Fml
  column s b o [] = ftrue
  column s b o (c ∷ cs) = fsep (cell b o c) (column s b (o + s) cs)

  abbrev pub cell_lent : ℕ → ℕ → Option R.Denot → Lft → Fml
  cell_lent b o (Some x) = shared_of R x b o
  cell_lent b o None = nothing

  abbrev pub column_lent : ℕ → ℕ → ℕ → List (Option R.Denot) → Lft → Fml
  column_lent s b o [] = nothing
  column_lent s b o (c ∷ cs) = beside (cell_lent b o c) (column_lent s b (o + s) cs)

  -- so many cells take fewer than 2 ^ 63 bytes
  abbrev pub fit : ℕ → List (Option R.Denot) → Fml
  fit s cs = flt (length cs * s) (2 ^ 63)

  abbrev pub column_own : ℕ → ℕ → ℕ → List (Option R.Denot) → Fml
  column_own s b o cs = fsep (fit s cs) (column s b o cs)

  abbrev pub column_shared : ℕ → ℕ → ℕ → List (Option R.Denot) → Lft → Fml
  column_shared s b o cs = beside (said (fit s cs)) (column_lent s b o cs)

module _ (L T : RattleType) where
  -- how far nodes lie apart
  abbrev pub node_size : ℕ
  node_size = type_size (Node.the_row L T)

  -- where in a node its links and its value lie
  abbrev pub links_offset : ℕ
  links_offset = up (align (lone L.mir)) 0

  abbrev pub value_offset : ℕ
  value_offset = up (align (lone T.mir)) (links_offset + size (lone L.mir))

  -- a block may have n nodes
  abbrev pub FitsBlock : ℕ → Type 0
  FitsBlock n = (n * node_size < 2 ^ 63) × (n < 2 ^ 63)

  abbrev pub nodes_own : Ptr → List (Option L.Denot) → List (Option T.Denot) → Fml
  nodes_own (block_ptr b o) ls vs = fsep (column_own L node_size b (o + links_offset) ls)
      (column_own T node_size b (o + value_offset) vs)
  nodes_own null_ptr ls vs = ffalse

  abbrev pub nodes_lent : Ptr → List (Option L.Denot) → List (Option T.Denot) → Lft → Fml
  nodes_lent (block_ptr b o) ls vs = beside (column_shared L node_size b (o + links_offset) ls)
      (column_shared T node_size b (o + value_offset) vs)
  nodes_lent null_ptr ls vs = said ffalse

  -- room for n nodes
  abbrev pub block_type : ℕ → Ty
  block_type n = raw (ty_array (lone (Node.the_row L T).mir) n)

  -- n nodes with neither links nor values
  abbrev pub blank_nodes : Ptr → ℕ → Fml
  blank_nodes (block_ptr b o) n = fsep (column L node_size b (o + links_offset) (replicate n None))
      (column T node_size b (o + value_offset) (replicate n None))
  blank_nodes null_ptr n = ffalse

  -- n empty nodes make the whole block
  abbrev pub block_joins : Ptr → ℕ → Fml
  block_joins p n = fwand (blank_nodes p n) (room_for (block_type n) p)

  -- the allocator's token for the block, where there is one, and that its empty nodes make all of it
  abbrev pub deed_owns : (Ty → Ptr → Fml) → Ptr → ℕ → Fml
  deed_owns token p n = owns_if (has_block n) (fsep (token (block_type n) p) (block_joins p n))
