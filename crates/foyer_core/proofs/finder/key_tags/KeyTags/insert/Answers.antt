use Rattle.std.proofs.Common.{◌≡◌, ◌≢◌, ℕ, Some, None, nat_eq, sym, ◌∙◌, ap}
use Rattle.std.specs.Map.{update}
use Rattle.std.proofs.lemmas.Map.{update_here, update_apart}
use Rattle.std.proofs.lemmas.Option.{none-some, same_Some}
use Rattle.foyer_core.specs.Probing.{fingerprint}
use Rattle.foyer_core.specs.Tags.{slots_of}
use Rattle.foyer_core.specs.Trails.{led, keyed, led_same}
use Rattle.foyer_core.proofs.TaggedLemmas.{tagged_after}
use Rattle.foyer_core.proofs.finder.key_tags.KeyTags.insert.Goals as goal

pub invariant_of-self-2 : goal.invariant_of-self-2
invariant_of-self-2 g c =
    let t = c.args.self.now in
    let eq = g.K.PartialEq.eq in
    let k : ℕ × g.row.K.Denot = (c.args.hash, c.args.key.value) in
    let slots : (s : ℕ) → slots_of c.insert.new.self s ≡ update nat_eq (slots_of c.reserve.new.self) c.args.slot
    (Some (fingerprint c.args.hash)) s = c.insert.ensures.slots in
    let apart : (s : ℕ) → Some c.args.slot ≢ Some s → s ≢ c.args.slot = λ s no e. no (ap Some (sym e)) in
    record {
      tagged = tagged_after g.met.K.Eq.laws (led eq t.trail) (keyed t.trail) (slots_of t.tags)
          (led_same g.met.K.Eq.laws t.trail) t.tagged (led eq c.mark.new.self) (keyed c.mark.new.self)
          (slots_of c.insert.new.self) k None (Some c.args.slot) (c.mark.ensures.led eq) c.mark.ensures.keyed
          c.requires.absent
          (λ s is q leads. c.requires.new q (leads ∙ sym is))
          (λ s is. ap (slots_of c.insert.new.self) (same_Some s c.args.slot (sym is)) ∙ slots c.args.slot
          ∙ update_here (slots_of c.reserve.new.self) c.args.slot (Some (fingerprint c.args.hash)))
          (λ s no was. slots s
          ∙ update_apart (slots_of c.reserve.new.self) c.args.slot (Some (fingerprint c.args.hash)) s (apart s no)
          ∙ c.reserve.ensures.slots s)
          (λ s no was. absurd (none-some s was));
    }
