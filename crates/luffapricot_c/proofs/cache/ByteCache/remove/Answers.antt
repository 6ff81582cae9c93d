use Rattle.std.proofs.Common.{◌∙◌, ◌++◌, ◌∷◌, [], ap, if◌then◌else◌, refl}
use Rattle.foyer_policy.specs.declared.types.Event.TheVariants.{Remove}
use Rattle.luffapricot_c.proofs.CallLemmas.{holds_same}
use Rattle.luffapricot_c.proofs.cache.ByteCache.remove.Goals as goal

pub returns-in-Ok-Some : goal.returns-in-Ok-Some
returns-in-Ok-Some c = record {
  own = c.set.new.self;
  own_is = (c.in_ok-set.ensures.hash, c.in_ok-set.ensures.bytes);
  out = (c.in-Ok-Some.entry, c.in-Ok-Some.left);
  removes = rw c.in-Ok-Some.field-0-is at c.in-Ok-Some.ensures.removes;
  holds = holds_same _ _ _ _ _ _ (ap (λ h. h.slots) c.in_ok-reserve.ensures.rest_kept) c.hold.ensures;
  told = c.forget_left.ensures ∙ ap (λ ls. if c.args.self.now.has_listener then ls else [])
      (c.push_reserved.ensures.items
      ∙ ap (λ ls. ls ++ (Remove, c.in-Ok-Some.left) ∷ []) c.in_ok-reserve-2.ensures.items);
  rest = record { held = refl; fetches = c.in-Ok-Some.ensures.fetches; left = refl; listener = refl };
}
