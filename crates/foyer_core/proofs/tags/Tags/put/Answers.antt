use Rattle.std.proofs.Common.{◌≡◌, ℕ, ◌+◌, ◌<◌, ◌≤◌, Option, Some, sym, ◌∙◌, ap, subst, arith}
use Rattle.foyer_core.specs.Probing.{home, tag_in, size_of, IsPut, IsFull, count_in}
use Rattle.foyer_core.specs.declared.tags.buckets.Tag.{Tag}
use Rattle.foyer_core.proofs.BucketLemmas.{count_within}
use Rattle.foyer_core.proofs.ProbeLemmas.{probed_put, before_put}
use Rattle.foyer_core.proofs.TagLemmas.{once_in, count_in_put, parts_in}
use Rattle.foyer_core.proofs.tags.Tags.put.Goals as goal
use Rattle.foyer_core.proofs.tags.Tags.put.Goals.{After-put}

-- the tag is in
put_in : (c : After-put)
    → IsPut (tag_in c.args.self.now.buckets) (tag_in c.put.new.self) c.first_empty-bucket.result (Some c.args.tag)
put_in c = subst (λ (o : Option Tag). IsPut (tag_in c.args.self.now.buckets) (tag_in c.put.new.self)
    c.first_empty-bucket.result o) c.requires.named c.put.ensures.put

-- there is one more
count_of : (c : After-put) → count_in (tag_in c.put.new.self) (size_of c.put.new.self) ≡ c.args.self.now.len + 1
count_of c =
    let t = c.args.self.now in
    let within : c.first_empty-bucket.result < size_of t.buckets = omega (arith, c.requires.room) in
    count_in_put t.buckets c.put.new.self t.bits t.end c.first_empty-bucket.result c.args.tag (put_in c)
    c.put.ensures.size within c.first_empty-bucket.ensures.empty t.once c.requires.new
    ∙ ap (λ (n : ℕ). n + 1) (sym t.counted)

pub overflow_add-self : goal.overflow_add-self
overflow_add-self c =
    let count = count_of (goal.at.overflow_add-self c).After-put in
    let within : c.args.self.now.len + 1 ≤ size_of c.put.new.self =
    subst (λ (n : ℕ). n ≤ size_of c.put.new.self) count
    (count_within (tag_in c.put.new.self) (size_of c.put.new.self)) in
    omega (arith, c.put.ensures.size)

pub invariant_of-self : goal.invariant_of-self
invariant_of-self c =
    let t = c.args.self.now in
    let b = c.put.new.self in
    let bucket = c.first_empty-bucket.result in
    let put = put_in (goal.at.invariant_of-self c).After-put in
    let within : bucket < size_of t.buckets = omega (arith, c.requires.room) in
    let last : bucket < c.max-self.result = omega arith in
    let behind : home t.bits c.args.tag.fingerprint ≤ bucket =
    subst (λ (h : ℕ). h ≤ bucket) c.home_of.ensures.value c.first_empty-bucket.ensures.from in
    let full : IsFull (tag_in t.buckets) (home t.bits c.args.tag.fingerprint) bucket =
    subst (λ (h : ℕ). IsFull (tag_in t.buckets) h bucket) c.home_of.ensures.value
    c.first_empty-bucket.ensures.full in
    record {
      few = t.few;
      homes = omega (arith, t.homes);
      before = before_put (tag_in t.buckets) (tag_in b) bucket c.args.tag put c.max-self.result last
          (λ i u is. let less : i < t.end = t.before i u is in omega arith);
      probed = probed_put (tag_in t.buckets) (tag_in b) bucket c.args.tag put t.bits t.probed behind full;
      once = once_in t.buckets b t.bits t.end bucket c.args.tag put c.put.ensures.size within
          c.first_empty-bucket.ensures.empty t.once c.requires.new;
      counted = sym (count_of (goal.at.invariant_of-self c).After-put);
    }

pub returns-clause-slots : goal.returns-clause-slots
returns-clause-slots c =
    let t = c.args.self.now in
    let within : c.first_empty-bucket.result < size_of t.buckets = omega (arith, c.requires.room) in
    parts_in t.buckets c.put.new.self t.bits t.end c.first_empty-bucket.result c.args.tag
    (put_in (goal.at.returns-clause-slots c).After-put) c.put.ensures.size within
    c.first_empty-bucket.ensures.empty t.once c.requires.new
