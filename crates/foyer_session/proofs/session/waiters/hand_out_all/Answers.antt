use Rattle.std.proofs.Common.{◌≡◌, ◌++◌, ◌∷◌, [], Some, length, map, reverse, refl, sym, ap, ◌∙◌, append-nil, arith}
use Rattle.std.proofs.lemmas.List.{nil_from_length, length-append}
use Rattle.foyer_session.specs.Step.{given, record_of}
use Rattle.foyer_session.proofs.HandLemmas.{handed_more, told_from, told_more, told_start, untold_last, untold_rest}
use Rattle.foyer_session.proofs.session.waiters.hand_out_all.Goals as goal

pub loop-entry-init : goal.loop-entry-init
loop-entry-init g c = record {
  handles = refl;
  told = told_start c.args.entries.items;
  untold = c.requires.untold;
  room = c.requires.room;
  capacity = refl;
}

pub hand_out-record-requires-clause-untold : goal.hand_out-record-requires-clause-untold
hand_out-record-requires-clause-untold g c =
    untold_last c.pop.new.self.items c.in-Some.entry (rw c.in-Some.ensures.items at c.loop-entry.invariant.untold)

pub loop-entry-preserved : goal.loop-entry-preserved
loop-entry-preserved g c =
    let inv = c.loop-entry.invariant in
    let out = c.hand_out-record.ensures in
    record {
      handles = handed_more c.loop-entry.handles.items c.hand_out-record.new.handles.items c.loop-entry.entries.items
          c.pop.new.self.items c.in-Some.entry _ c.in-Some.ensures.items out.handles inv.handles;
      told = ap (λ t. told_from (Some t) c.pop.new.self.items) out.«record»
          ∙ told_more c.loop-entry.told c.loop-entry.entries.items c.pop.new.self.items c.in-Some.entry
          c.in-Some.ensures.items ∙ inv.told;
      untold = untold_rest c.pop.new.self.items c.in-Some.entry (rw c.in-Some.ensures.items at inv.untold);
      room = omega (
        arith,
        inv.room,
        out.capacity,
        ap length out.handles,
        length-append c.loop-entry.handles.items (given c.in-Some.entry ∷ []),
        ap length c.in-Some.ensures.items,
        length-append c.pop.new.self.items (c.in-Some.entry ∷ []),
        c.loop-entry.handles.ok.0,
        c.hand_out-record.new.handles.ok.0,
        c.loop-entry.entries.ok.0,
        c.pop.new.self.ok.0,
      );
      capacity = out.capacity ∙ inv.capacity;
    }

pub returns : goal.returns
returns g c =
    let inv = c.loop-entry.invariant in
    let none : c.loop-entry.entries.items ≡ [] =
    nil_from_length c.loop-entry.entries.items
    (omega (arith, c.loop-entry.entries.ok.0, c.in_default.ensures.cases.0)) in
    record {
      told = sym (ap (told_from c.loop-entry.told) none) ∙ inv.told;
      handles = sym (append-nil c.loop-entry.handles.items)
          ∙ ap (λ es. c.loop-entry.handles.items ++ reverse (map given es)) (sym none) ∙ inv.handles;
      capacity = inv.capacity;
    }
