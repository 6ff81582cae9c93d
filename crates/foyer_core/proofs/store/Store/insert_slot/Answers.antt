use Rattle.std.proofs.Common.{◌≡◌, Bool, true, false, sym, ◌∙◌, ap, subst}
use Rattle.std.specs.Prelude.{MatchOption}
use Rattle.foyer_policy.specs.declared.error.Reason.TheVariants.{NoMemory}
use Rattle.foyer_policy.specs.Properties.{is_phantom}
use Rattle.foyer_core.specs.Bulk.{GoesOn}
use Rattle.foyer_core.specs.Values.{Incoming, incoming_of}
use Rattle.foyer_core.specs.State.{at_moment, is_phantom_record}
use Rattle.foyer_core.specs.Steps.{InsertsBy, RefusesBy, entry_of}
use Rattle.foyer_core.specs.Stores.{meaning_of, state_of}
use Rattle.foyer_core.proofs.store.Store.insert_slot.Goals as goal

pub returns-then-unwrap_or : goal.returns-then-unwrap_or
returns-then-unwrap_or g c =
    let s = c.args.self.now in
    let m = at_moment c.args.now (meaning_of s) in
    let inc : Incoming g.row.K.Denot g.row.V.Denot g.row.P.Denot = incoming_of c.args.slot in
    let phantom : is_phantom_record m inc.kept ≡ true =
    sym (c.unwrap_or.ensures ∙ ap is_phantom (c.phantom.ensures ∙ ap m.phantom c.properties.ensures))
    ∙ c.if-unwrap_or.true in
    record {
      inserted = λ source. subst
          (λ (b : Bool). GoesOn c.args.leaves.now.items c.insert_phantom.new.leaves.items (λ ls. MatchOption c.insert_phantom.result
          (RefusesBy m b (state_of s) inc NoMemory ls (state_of c.insert_phantom.new.self))
          (λ _. InsertsBy m b source (state_of s) inc ls (entry_of (state_of s) inc.id inc.kept source)
          (state_of c.insert_phantom.new.self)))) (sym phantom)
          (c.insert_phantom.ensures.inserted c.args.now source);
    }

pub returns : goal.returns
returns g c =
    let s = c.args.self.now in
    let m = at_moment c.args.now (meaning_of s) in
    let inc : Incoming g.row.K.Denot g.row.V.Denot g.row.P.Denot = incoming_of c.args.slot in
    let plain : is_phantom_record m inc.kept ≡ false =
    sym (c.unwrap_or.ensures ∙ ap is_phantom (c.phantom.ensures ∙ ap m.phantom c.properties.ensures))
    ∙ c.if-unwrap_or.false in
    record {
      inserted = λ source. subst
          (λ (b : Bool). GoesOn c.args.leaves.now.items c.insert_plain.new.leaves.items (λ ls. MatchOption c.insert_plain.result
          (RefusesBy m b (state_of s) inc NoMemory ls (state_of c.insert_plain.new.self))
          (λ _. InsertsBy m b source (state_of s) inc ls (entry_of (state_of s) inc.id inc.kept source)
          (state_of c.insert_plain.new.self)))) (sym plain)
          (c.insert_plain.ensures.inserted source);
    }
