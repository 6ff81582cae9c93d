use Rattle.std.proofs.Common.{◌∙◌, None, Some, ap, arith, refl, slice_index_or, subst, sym}
use Rattle.slab.specs.Slab.{Updates}
use Rattle.luffapricot_c.proofs.cache.ByteCache.list.Goals as goal

pub returns : goal.returns
returns c =
    let same = ap (λ h. h.slots) c.in_ok-reserve.ensures.rest_kept in
    let held = subst (λ h. Updates c.reserve.new.self c.insert_reserved.new.self c.insert_reserved.result (Some (record { held = h })))
    c.new.ensures c.insert_reserved.ensures.updates in
    record {
      pieces = c.in_ok-pieces.pieces;
      are = c.in_ok-pieces.ensures.pieces;
      count_is = omega (arith, c.len.ensures, c.in_ok-pieces.pieces.ok.0);
      vacant = ap (λ slots. slice_index_or slots c.insert_reserved.result None) (sym same) ∙ c.insert_reserved.ensures.was_vacant;
      held = record {
        changed = held.changed;
        others = λ k other. held.others k other ∙ ap (λ slots. slice_index_or slots k None) same;
      };
      core = refl;
      rest = record { held = refl; fetches = refl; left = refl; listener = refl };
    }
