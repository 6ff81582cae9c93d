use Rattle.std.proofs.Common.{Some, ◌∙◌, ap, refl, sym}
use Rattle.luffapricot_c.specs.Opening.{refused_with}
use Rattle.luffapricot_c.proofs.OpenLemmas.{creates_again, creates_as, creates_none, creates_refused}
use Rattle.luffapricot_c.proofs.luffa_shard_create.Goals as goal

pub returns-then-shard : goal.returns-then-shard
returns-then-shard c = creates_again c.args.capacity c.args.has_listener _ _ (sym c.args.shard.now.told ∙ c.if-shard.true)

pub returns-in_default : goal.returns-in_default
returns-in_default c = creates_none c.args.capacity c.args.has_listener _ _
    (sym c.args.shard.now.told ∙ c.if-shard.false) (sym c.config.ensures ∙ c.in_default.is)

pub returns-in-Ok-new : goal.returns-in-Ok-new
returns-in-Ok-new c = creates_as c.args.capacity c.args.has_listener _ c.in-Some.config _ _ _
    (sym c.args.shard.now.told ∙ c.if-shard.false) (sym c.config.ensures ∙ c.in-Some.is)
    (rw (c.of.ensures ∙ ap Some c.in-Ok-new.ensures.ok) (refl, c.in-Ok.ensures.opened.0, c.in-Ok.ensures.opened.1))

pub returns-in-Ok : goal.returns-in-Ok
returns-in-Ok c = creates_refused c.args.capacity c.args.has_listener _ c.in-Some.config _ _
    (sym c.args.shard.now.told ∙ c.if-shard.false) (sym c.config.ensures ∙ c.in-Some.is)
    (sym (ap refused_with c.in-Ok.ensures.opened.0))

pub returns : goal.returns
returns c = creates_refused c.args.capacity c.args.has_listener _ c.in-Some.config _ _
    (sym c.args.shard.now.told ∙ c.if-shard.false) (sym c.config.ensures ∙ c.in-Some.is)
    (c.refusal.ensures ∙ c.in-Err.ensures.refused)
