use Rattle.std.proofs.Common.{◌≡◌, ◌≢◌, ℕ, Option, Some, None, nat_eq, sym, ◌∙◌, ap}
use Rattle.std.specs.Map.{update}
use Rattle.std.proofs.lemmas.Map.{update_here, update_apart}
use Rattle.std.proofs.lemmas.Option.{same_Some}
use Rattle.foyer_core.specs.Probing.{fingerprint}
use Rattle.foyer_core.specs.Tags.{slots_of}
use Rattle.foyer_core.specs.Trails.{led, keyed, led_same}
use Rattle.foyer_core.proofs.TaggedLemmas.{tagged_after}
use Rattle.foyer_core.proofs.finder.key_tags.KeyTags.replace.Goals as goal

-- slots of which one took another's place
module _ (slots slots' : ℕ → Option ℕ) (was slot : ℕ) (part : Option ℕ)
    (are : (s : ℕ) → slots' s ≡ update nat_eq (update nat_eq slots was None) slot part s) where
  came : (s : ℕ) → Some slot ≡ Some s → slots' s ≡ part
  came s is = are s ∙ ap (update nat_eq (update nat_eq slots was None) slot part) (same_Some s slot (sym is))
      ∙ update_here (update nat_eq slots was None) slot part

  other : (s : ℕ) → Some slot ≢ Some s → slots' s ≡ update nat_eq slots was None s
  other s apart = are s
      ∙ update_apart (update nat_eq slots was None) slot part s (λ e. apart (ap Some (sym e)))

  stayed : (s : ℕ) → Some slot ≢ Some s → Some was ≢ Some s → slots' s ≡ slots s
  stayed s apart not_was = other s apart ∙ update_apart slots was None s (λ e. not_was (ap Some (sym e)))

  went : (s : ℕ) → Some slot ≢ Some s → Some was ≡ Some s → slots' s ≡ None
  went s apart is = other s apart ∙ ap (update nat_eq slots was None) (same_Some s was (sym is))
      ∙ update_here slots was None

pub replace-requires-clause-there : goal.replace-requires-clause-there
replace-requires-clause-there g c =
    c.args.self.now.tagged.tagged (c.args.hash, c.args.key.value) c.args.was c.requires.was

pub invariant_of-self : goal.invariant_of-self
invariant_of-self g c =
    let t = c.args.self.now in
    let eq = g.K.PartialEq.eq in
    let k : ℕ × g.row.K.Denot = (c.args.hash, c.args.key.value) in
    let slots : (s : ℕ) → slots_of c.replace.new.self s
    ≡ update nat_eq (update nat_eq (slots_of t.tags) c.args.was None) c.args.slot (Some (fingerprint c.args.hash)) s =
    c.replace.ensures.slots in
    record {
      tagged = tagged_after g.met.K.Eq.laws (led eq t.trail) (keyed t.trail) (slots_of t.tags)
          (led_same g.met.K.Eq.laws t.trail) t.tagged (led eq c.mark.new.self) (keyed c.mark.new.self)
          (slots_of c.replace.new.self) k (Some c.args.was) (Some c.args.slot) (c.mark.ensures.led eq)
          c.mark.ensures.keyed c.requires.was
          (λ s is q leads. c.requires.new q (leads ∙ sym is))
          (came (slots_of t.tags) (slots_of c.replace.new.self) c.args.was c.args.slot _ slots)
          (stayed (slots_of t.tags) (slots_of c.replace.new.self) c.args.was c.args.slot _ slots)
          (went (slots_of t.tags) (slots_of c.replace.new.self) c.args.was c.args.slot _ slots);
    }
