use Rattle.std.proofs.Common.{◌≡◌, ℕ, ◌+◌, ◌<◌, Some, true, false, sym, ◌∙◌, ap, subst, rules, arith}
use Rattle.foyer_core.specs.Probing.{fingerprint, tag_in, size_of, count_in, IsNamed}
use Rattle.std.specs.Prelude.{◌==◌}
use Rattle.foyer_core.proofs.BucketLemmas.{found}
use Rattle.foyer_core.proofs.ProbeLemmas.{before_taken}
use Rattle.foyer_core.proofs.TagLemmas.{same_slot, other_slot, tags_within, part_named, parts_out, count_out}
use Rattle.foyer_core.proofs.tags.Tags.remove.Goals as goal
use Rattle.foyer_core.proofs.tags.Tags.remove.Goals.{In-Some, After-close_gap}

-- the tag that was found is the slot's
is_named : (c : In-Some)
    → IsNamed (tag_in c.args.self.now.buckets) c.fingerprint_of.result c.in-Some.found.bucket c.args.slot
is_named c =
    let yes = c.in-Some.ensures.yes in
    let same : (c.in-Some.found.slot == c.args.slot) ≡ true = search rules in
    subst (λ (s : ℕ). IsNamed (tag_in c.args.self.now.buckets) c.fingerprint_of.result c.in-Some.found.bucket s)
    (same_slot c.in-Some.found.slot c.args.slot same) c.in-Some.ensures.found

within : (c : In-Some) → c.in-Some.found.bucket < size_of c.args.self.now.buckets
within c = let f = c.in-Some.ensures.found in tags_within c.args.self.now.buckets c.in-Some.found.bucket f.tag f.here

count : (c : After-close_gap)
    → c.args.self.now.len ≡ count_in (tag_in c.close_gap.new.self) (size_of c.close_gap.new.self) + 1
count c =
    let t = c.args.self.now in
    t.counted ∙ count_out t.buckets c.take.new.self c.close_gap.new.self c.fingerprint_of.result
    c.in-Some.found.bucket c.args.slot (is_named (goal.at.overflow_sub-self c).In-Some)
    c.take.ensures.put c.take.ensures.size t.once c.close_gap.ensures.moved c.close_gap.ensures.size

pub returns-in_default-clause-was : goal.returns-in_default-clause-was
returns-in_default-clause-was c = (
  λ yes. cc,
  λ is.
      let t = c.args.self.now in
      let w = found (tag_in t.buckets) (size_of t.buckets) c.args.slot (fingerprint c.args.hash) is in
      let no = c.in_default.ensures.absent w.0.bucket w.0.tag w.0.here (w.1 ∙ sym c.fingerprint_of.ensures) in
      let apart : (w.0.tag.slot == c.args.slot) ≡ false = search rules in
      absurd (other_slot w.0.tag.slot c.args.slot apart w.0.names),
)

pub take-requires : goal.take-requires
take-requires c = within (goal.at.take-requires c).In-Some

pub close_gap-requires-clause-within : goal.close_gap-requires-clause-within
close_gap-requires-clause-within c =
    subst (λ (n : ℕ). c.in-Some.found.bucket < n) (sym c.take.ensures.size)
    (within (goal.at.close_gap-requires-clause-within c).In-Some)

pub overflow_sub-self : goal.overflow_sub-self
overflow_sub-self c = let more = count c in omega arith

pub invariant_of-self-2 : goal.invariant_of-self-2
invariant_of-self-2 c =
    let t = c.args.self.now in
    let more = count c in
    record {
      few = t.few;
      homes = t.homes;
      before = c.close_gap.ensures.moved.before t.end
          (before_taken (tag_in t.buckets) (tag_in c.take.new.self) c.in-Some.found.bucket c.take.ensures.put t.end
          t.before);
      probed = c.close_gap.ensures.probed;
      once = c.close_gap.ensures.once;
      counted = omega arith;
    }

pub returns-clause-was : goal.returns-clause-was
returns-clause-was c = (
  λ yes.
      part_named c.args.self.now.buckets c.args.self.now.once c.fingerprint_of.result c.in-Some.found.bucket c.args.slot
      (is_named (goal.at.returns-clause-was c).In-Some) ∙ ap Some c.fingerprint_of.ensures,
  λ is. search rules,
)

pub returns-clause-slots : goal.returns-clause-slots
returns-clause-slots c =
    let t = c.args.self.now in
    parts_out t.buckets c.take.new.self c.close_gap.new.self c.fingerprint_of.result c.in-Some.found.bucket
    c.args.slot (is_named (goal.at.returns-clause-slots c).In-Some)
    c.take.ensures.put c.take.ensures.size t.once c.close_gap.ensures.moved c.close_gap.ensures.size

pub returns-clause-len : goal.returns-clause-len
returns-clause-len c = let more = count (goal.at.returns-clause-len c).After-close_gap in omega arith
