use Rattle.std.proofs.Common.{◌≡◌, ℕ, Some, None, nat_eq, sym, ◌∙◌, ap}
use Rattle.std.specs.Map.{update}
use Rattle.std.proofs.lemmas.Map.{update_here, update_apart}
use Rattle.std.proofs.lemmas.Option.{none-some, same_Some}
use Rattle.foyer_core.specs.Tags.{slots_of}
use Rattle.foyer_core.specs.Trails.{led, keyed, led_same}
use Rattle.foyer_core.proofs.TaggedLemmas.{tagged_after}
use Rattle.foyer_core.proofs.finder.key_tags.KeyTags.remove.Goals as goal

pub invariant_of-self : goal.invariant_of-self
invariant_of-self g c =
    let t = c.args.self.now in
    let eq = g.K.PartialEq.eq in
    let k : ℕ × g.row.K.Denot = (c.args.hash, c.args.key.value) in
    let there = c.remove.ensures.was.1 (t.tagged.tagged k c.args.slot c.requires) in
    let slots : (s : ℕ) → slots_of c.remove.new.self s ≡ update nat_eq (slots_of t.tags) c.args.slot None s =
    rw there at c.remove.ensures.slots in
    record {
      tagged = tagged_after g.met.K.Eq.laws (led eq t.trail) (keyed t.trail) (slots_of t.tags)
          (led_same g.met.K.Eq.laws t.trail) t.tagged (led eq c.mark.new.self) (keyed c.mark.new.self)
          (slots_of c.remove.new.self) k (Some c.args.slot) None (c.mark.ensures.led eq) c.mark.ensures.keyed
          c.requires
          (λ s is. absurd (none-some s is))
          (λ s is. absurd (none-some s is))
          (λ s no was. slots s ∙ update_apart (slots_of t.tags) c.args.slot None s (λ e. was (ap Some (sym e))))
          (λ s no was. slots s ∙ ap (update nat_eq (slots_of t.tags) c.args.slot None)
          (same_Some s c.args.slot (sym was)) ∙ update_here (slots_of t.tags) c.args.slot None);
    }
