use Rattle.std.proofs.Common.{◌≡◌, Some, refl, sym, ◌∙◌, ap}
use Rattle.foyer_core.specs.Values.{Kept}
use Rattle.foyer_core.specs.Records.{slot_in, number_of}
use Rattle.foyer_core.proofs.TableLemmas.{named_there}
use Rattle.foyer_core.proofs.records.Records.put.Goals as goal

pub replace-stood-requires : goal.replace-stood-requires
replace-stood-requires g c =
    let s = c.args.self.now in
    let known : number_of s c.args.slot.id ≡ Some c.in-Some.place = sym c.requires.stands ∙ c.in-Some.is in
    named_there (slot_in s c.in-Some.place) c.args.slot.id (s.agree.named c.args.slot.id c.in-Some.place known)

pub returns-in-Some-clause-alike : goal.returns-in-Some-clause-alike
returns-in-Some-clause-alike g c x is =
    let s = c.args.self.now in
    let known : number_of s c.args.slot.id ≡ Some c.in-Some.place = sym c.requires.stands ∙ c.in-Some.is in
    let named : c.replace-stood.result.id ≡ c.args.slot.id =
    rw c.replace-stood.ensures.stood at
    (named_there (slot_in s c.in-Some.place) c.args.slot.id
    (s.agree.named c.args.slot.id c.in-Some.place known)) in
    let same : c.replace-stood.result ≡ x = cc (is) in
    ap (λ (y : Kept g.row.K.Denot g.row.V.Denot g.row.P.Denot). y.id) (sym same) ∙ named

pub returns-in-Some-clause-slot : goal.returns-in-Some-clause-slot
returns-in-Some-clause-slot g c = rw c.in-Some.is refl
