use Rattle.std.proofs.Common.{Some, sym, ◌∙◌, ap}
use Rattle.foyer_core.proofs.TagLemmas.{part_named, part_tag, each_named, if_none}
use Rattle.foyer_core.proofs.tags.Tags.find.Goals as goal

pub find-requires-clause-callable : goal.find-requires-clause-callable
find-requires-clause-callable g c i t is hashed =
    c.requires t.slot (part_tag c.args.self.now.buckets c.args.self.now.once i t is ∙ ap Some hashed
    ∙ ap Some c.fingerprint_of.ensures)

pub returns-in_err-found-clause-absent : goal.returns-in_err-found-clause-absent
returns-in_err-found-clause-absent g c =
    if_none c.from_residual.result _
    (λ s is. each_named c.args.self.now.buckets c.fingerprint_of.result _ c.in_err-found.ensures.absent s
    (is ∙ ap Some (sym c.fingerprint_of.ensures)))

pub returns-clause-found : goal.returns-clause-found
returns-clause-found g c =
    part_named c.args.self.now.buckets c.args.self.now.once c.fingerprint_of.result c.in_ok-found.found.bucket
    c.in_ok-found.found.slot c.in_ok-found.ensures.found ∙ ap Some c.fingerprint_of.ensures
