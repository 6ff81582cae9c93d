use Rattle.std.proofs.Common.{◌∙◌, ap, refl}
use Rattle.luffapricot_c.specs.Bytes.{properties_of}
use Rattle.luffapricot_c.proofs.CallLemmas.{failed_same, holds_same}
use Rattle.luffapricot_c.proofs.cache.ByteCache.insert_entry.Goals as goal

pub hold-requires : goal.hold-requires
hold-requires c = record {
  room = rw (ap (λ s. s.holds) c.in-Ok.ensures.rest) c.in_ok-reserve.ensures.room;
}

pub returns-in-Ok : goal.returns-in-Ok
returns-in-Ok c =
    let i = c.in-Ok.ensures.inserted in (
      c.in-Ok.field-0,
      c.hold.new.holds,
      record {
        own = i.own;
        own_is = i.own_is;
        value = i.value;
        value_is = i.value_is;
        leaves = i.leaves;
        inserts = i.inserts;
        answered = i.answered;
        told = i.told;
        rest = record { held = refl; fetches = refl; left = refl; listener = i.rest.listener };
      },
      holds_same _ _ _ _ _ _
          (ap (λ s. s.holds.slots) c.in-Ok.ensures.rest ∙ ap (λ h. h.slots) c.in_ok-reserve.ensures.rest_kept)
          c.hold.ensures,
      c.answer.ensures,
    )

pub returns-in-Err : goal.returns-in-Err
returns-in-Err c = failed_same c.args.now c.args.hash c.args.key.now c.args.bytes.now c.args.owner c.args.terms.now.weight
    (properties_of c.args.terms.now) c.in-Err.error c.args.self.now c.insert_with.new.self c.reserve.new.self
    (ap (λ h. h.slots) c.in_ok-reserve.ensures.rest_kept)
    c.in-Err.ensures.inserted
