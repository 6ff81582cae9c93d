use Rattle.std.proofs.Common.{◌≡◌, ◌<◌, ◌+◌, ◌∷◌, ◌++◌, [], None, length, take, drop, ap, arith}
use Rattle.std.specs.Prelude.{slice_index_or}
use Rattle.std.proofs.lemmas.List.{take_more, drop_more}
use Rattle.std.proofs.lemmas.Slice.Zip.{all_zipped_more}
use Rattle.foyer_policy.specs.Items.{count_of}
use Rattle.foyer_policy.specs.declared.types.Item.{Item}
use Rattle.foyer_policy.specs.declared.types.Hint.TheVariants.{Normal}
use Rattle.foyer_policy.proofs.ItemLemmas.{count-cons}
use Rattle.foyer_core.specs.ResidentPieces.{IsPieceOf}
use Rattle.foyer_core.specs.Stores.{state_of}
use Rattle.foyer_core.proofs.Outs.{counted_first}
use Rattle.foyer_core.proofs.store.Store.pieces.Goals as goal

pub piece_of-requires-after_bounds : goal.piece_of-requires-after_bounds
piece_of-requires-after_bounds g c κs within =
    let is = c.deref-item-items.result.now in
    let k = c.loop-item.item-index in
    let none : Item = record { id = 0; hash = 0; weight = 0; hint = Normal; expires = None } in
    let i : Item = slice_index_or is k none in
    let more : drop k is ≡ i ∷ drop (k + 1) is = drop_more is k none c.loop-item-test.true in
    let first : 0 < count_of i.id (drop k is) = rw more (counted_first i (drop (k + 1) is)) in
    let rest = c.loop-item.invariant.rest i.id in
    omega (arith, first, rest)

pub loop-item-preserved : goal.loop-item-preserved
loop-item-preserved g c =
    let s = c.args.self.now in
    let is = c.deref-item-items.result.now in
    let k = c.loop-item.item-index in
    let none : Item = record { id = 0; hash = 0; weight = 0; hint = Normal; expires = None } in
    let i : Item = slice_index_or is k none in
    let more : drop k is ≡ i ∷ drop (k + 1) is = drop_more is k none c.loop-item-test.true in
    let further : take (k + 1) is ≡ take k is ++ i ∷ [] = take_more is k none c.loop-item-test.true in
    let room = c.loop-item.invariant.room in
    record {
      pieces = rw (further, c.push_reserved.ensures.items)
          (all_zipped_more (λ (j : Item). IsPieceOf (state_of s) j.id) (take k is) c.loop-item.pieces.items i
          c.in_ok-piece_of.field-0 c.loop-item.invariant.pieces c.in_ok-piece_of.ensures.piece);
      rest = λ id.
          omega (arith, c.loop-item.invariant.rest id, ap (count_of id) more, count-cons id i (drop (k + 1) is));
      room = omega (arith, ap length more, room, c.push_reserved.ensures.len, c.push_reserved.ensures.capacity);
    }
