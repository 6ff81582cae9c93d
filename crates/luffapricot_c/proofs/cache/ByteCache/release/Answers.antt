use Rattle.std.proofs.Common.{◌∙◌, Some, refl, subst, sym}
use Rattle.slab.specs.Slab.{Updates, get}
use Rattle.luffapricot_c.proofs.ReleaseLemmas.{again, one_left, releases, untold}
use Rattle.luffapricot_c.proofs.cache.ByteCache.release.Goals as goal

pub returns-then-not-self : goal.returns-then-not-self
returns-then-not-self c =
    releases (get c.args.self.now.holds c.args.number) c.in-Some.hold c.in-Entry.entry c.end-leave.result _ _ _ _
    (sym c.try_remove.ensures.value ∙ c.in-Some.is) (sym c.into_held.ensures ∙ c.in-Entry.is)
    c.end-leave.ensures.ends
    (untold _ _ _ _ _ c.if-not-self.true c.try_remove.ensures.updates) refl
    record { held = refl; fetches = c.end-leave.ensures.fetches; left = refl; listener = refl }

pub returns-in-Some-leave : goal.returns-in-Some-leave
returns-in-Some-leave c =
    releases (get c.args.self.now.holds c.args.number) c.in-Some.hold c.in-Entry.entry c.end-leave.result _ _ _ _
    (sym c.try_remove.ensures.value ∙ c.in-Some.is) (sym c.into_held.ensures ∙ c.in-Entry.is)
    c.end-leave.ensures.ends
    (one_left _ _ c.in-Some-leave.gone _ _ _ c.if-not-self.false c.in-Some-leave.is
    (again _ c.try_remove.new.self c.insert_reserved.new.self _ _ _ _
    (c.insert_reserved.ensures.key ∙ c.in-Some.ensures.key_is_next) c.try_remove.ensures.updates
    (subst (λ h. Updates c.try_remove.new.self c.insert_reserved.new.self c.insert_reserved.result (Some (record { held = h })))
    c.new.ensures c.insert_reserved.ensures.updates)))
    refl record { held = refl; fetches = c.end-leave.ensures.fetches; left = refl; listener = refl }
