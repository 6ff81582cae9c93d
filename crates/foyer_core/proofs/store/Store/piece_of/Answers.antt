use Rattle.std.proofs.Common.{◌≡◌, Some, None, sym, ◌∙◌}
use Rattle.foyer_core.specs.Stores.{meaning_of}
use Rattle.foyer_core.specs.Table.{rec_of}
use Rattle.foyer_core.specs.Records.{slot_in, number_of}
use Rattle.foyer_core.proofs.StoredLemmas.{none_not}
use Rattle.foyer_core.proofs.Holdings.{holding}
use Rattle.foyer_core.proofs.Outgoing.{out_known, out_there, out_record}
use Rattle.foyer_core.proofs.store.Store.piece_of.Goals as goal

pub unreachable-requires : goal.unreachable-requires
unreachable-requires g c =
    let s = c.args.self.now in
    none_not (number_of s.records c.args.id)
    (out_known (meaning_of s) g.met.K.Eq.laws g.met.E.Eviction.lawful (holding s) c.args.id c.requires)
    (sym c.find.ensures ∙ c.in_default.is)

pub unreachable-requires-in_default-get : goal.unreachable-requires-in_default-get
unreachable-requires-in_default-get g c =
    let s = c.args.self.now in
    let known : number_of s.records c.args.id ≡ Some c.in-Some.slot = sym c.find.ensures ∙ c.in-Some.is in
    let none : slot_in s.records c.in-Some.slot ≡ None = sym (rw c.in_default-get.is at c.get.ensures) in
    none_not (slot_in s.records c.in-Some.slot)
    (out_there (meaning_of s) g.met.K.Eq.laws g.met.E.Eviction.lawful (holding s) c.args.id c.requires c.in-Some.slot
    known) none

pub returns-clause-piece : goal.returns-clause-piece
returns-clause-piece g c =
    let s = c.args.self.now in
    let known : number_of s.records c.args.id ≡ Some c.in-Some.slot = sym c.find.ensures ∙ c.in-Some.is in
    let x = c.in-Some-get.found.now in
    let there : slot_in s.records c.in-Some.slot ≡ Some x = sym (rw c.in-Some-get.is at c.get.ensures) in
    record {
      rec = rec_of x;
      there = out_record (meaning_of s) g.met.K.Eq.laws g.met.E.Eviction.lawful (holding s) c.args.id c.requires
          c.in-Some.slot known x there;
      piece_is = rw c.in_ok-share.ensures.share at c.of_share.ensures;
    }
