use Rattle.std.proofs.Common.{◌≡◌, ℕ, Option, Some, None, nat_eq, true, false, sym, ◌∙◌, ap, subst, rules}
use Rattle.std.specs.Prelude.{◌==◌}
use Rattle.std.specs.Map.{update}
use Rattle.foyer_core.specs.Tags.{slots_of}
use Rattle.foyer_core.specs.Probing.{tag_in, size_of, IsNamed, IsPut}
use Rattle.foyer_core.specs.declared.tags.buckets.Tag.{Tag}
use Rattle.foyer_core.proofs.BucketLemmas.{found}
use Rattle.foyer_core.proofs.ProbeLemmas.{probed_replace, before_put}
use Rattle.foyer_core.proofs.TagLemmas.{same_slot, other_slot, tags_within, once_replace, count_replace, parts_replace}
use Rattle.foyer_core.proofs.tags.Tags.replace.Goals as goal
use Rattle.foyer_core.proofs.tags.Tags.replace.Goals.{In-Some, After-put}

pub unreachable-requires : goal.unreachable-requires
unreachable-requires c =
    let t = c.args.self.now in
    let w = found (tag_in t.buckets) (size_of t.buckets) c.args.slot _ c.requires.there in
    let no = c.in_default.ensures.absent w.0.bucket w.0.tag w.0.here (w.1 ∙ sym c.fingerprint_of-fingerprint.ensures) in
    let apart : (w.0.tag.slot == c.args.slot) ≡ false = search rules in
    other_slot w.0.tag.slot c.args.slot apart w.0.names

-- the tag that was found is the slot's
is_named : (c : In-Some)
    → IsNamed (tag_in c.args.self.now.buckets) c.fingerprint_of-fingerprint.result c.in-Some.found.bucket c.args.slot
is_named c =
    let yes = c.in-Some.ensures.yes in
    let same : (c.in-Some.found.slot == c.args.slot) ≡ true = search rules in
    subst (λ (s : ℕ). IsNamed (tag_in c.args.self.now.buckets) c.fingerprint_of-fingerprint.result
    c.in-Some.found.bucket s)
    (same_slot c.in-Some.found.slot c.args.slot same) c.in-Some.ensures.found

-- under the fingerprint of the tag that comes
is_new : (c : After-put)
    → IsNamed (tag_in c.args.self.now.buckets) c.new.result.fingerprint c.in-Some.found.bucket c.args.slot
is_new c = subst (λ (part : ℕ). IsNamed (tag_in c.args.self.now.buckets) part c.in-Some.found.bucket c.args.slot)
    (sym c.new.ensures.fingerprint) (is_named (goal.at.invariant_of-self c).In-Some)

put_in : (c : After-put)
    → IsPut (tag_in c.args.self.now.buckets) (tag_in c.put.new.self) c.in-Some.found.bucket (Some c.new.result)
put_in c = subst (λ (o : Option Tag). IsPut (tag_in c.args.self.now.buckets) (tag_in c.put.new.self)
    c.in-Some.found.bucket o) c.new.ensures.named c.put.ensures.put

pub put-requires : goal.put-requires
put-requires c =
    let f = is_named (goal.at.put-requires c).In-Some in
    tags_within c.args.self.now.buckets c.in-Some.found.bucket f.tag f.here

pub invariant_of-self : goal.invariant_of-self
invariant_of-self c =
    let t = c.args.self.now in
    let b = c.put.new.self in
    let f = is_new (goal.at.invariant_of-self c).After-put in
    let put = put_in (goal.at.invariant_of-self c).After-put in
    let new = ap (slots_of t) c.new.ensures.slot ∙ c.requires.new in
    record {
      few = t.few;
      homes = t.homes;
      before = before_put (tag_in t.buckets) (tag_in b) c.in-Some.found.bucket c.new.result put t.end
          (t.before c.in-Some.found.bucket f.tag f.here) t.before;
      probed = probed_replace (tag_in t.buckets) (tag_in b) c.in-Some.found.bucket c.new.result put t.bits t.probed
          f.tag f.here f.hashed;
      once = once_replace t.buckets b c.in-Some.found.bucket c.args.slot c.new.result f put c.put.ensures.size t.once
          new;
      counted = t.counted ∙ sym (count_replace t.buckets b c.in-Some.found.bucket c.args.slot c.new.result f put
          c.put.ensures.size t.once new);
    }

pub returns-clause-slots : goal.returns-clause-slots
returns-clause-slots c = λ s.
    let t = c.args.self.now in
    let after = (goal.at.returns-clause-slots c).After-put in
    let new = ap (slots_of t) c.new.ensures.slot ∙ c.requires.new in
    parts_replace t.buckets c.put.new.self c.in-Some.found.bucket c.args.slot c.new.result (is_new after) (put_in after)
    c.put.ensures.size t.once new s
    ∙ ap (λ (n : ℕ). update nat_eq (update nat_eq (slots_of t) c.args.slot None) n
    (Some c.new.result.fingerprint) s) c.new.ensures.slot
    ∙ ap (λ (part : ℕ). update nat_eq (update nat_eq (slots_of t) c.args.slot None) c.args.other (Some part) s)
    (c.new.ensures.fingerprint ∙ c.fingerprint_of-fingerprint.ensures)
