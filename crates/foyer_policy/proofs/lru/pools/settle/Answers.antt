use Rattle.std.proofs.Common.{arith, ◌≡◌, ℕ, ◌+◌, ◌<◌, ◌≤◌, ◌∷◌, ◌++◌, [], List, sym, ◌∙◌, ap, map, sum_by, append_assoc, append-nil}
use Rattle.std.proofs.lemmas.List.Sums.{sum_by-cons}
use Rattle.foyer_policy.specs.Items.{fit, over}
use Rattle.foyer_policy.specs.Lists.{list_at}
use Rattle.foyer_policy.specs.LruLists.{weight_at, low_entry}
use Rattle.foyer_policy.specs.FitLaws.{fit-more, over-more, fit-le, over-le}
use Rattle.foyer_policy.proofs.PoolLemmas.{Cons, cons_of}
use Rattle.foyer_policy.proofs.lru.pools.settle.Goals as goal
use Rattle.foyer_policy.proofs.lru.pools.settle.Goals.{After-lower-left}

front : (c : After-lower-left) → Cons (list_at c.loop-left.lists.lists 1)
front c = cons_of weight_at c.args.limit (list_at c.loop-left.lists.lists 1)
    (omega (arith, c.loop-left.invariant.weight))

lowered-weight : (c : After-lower-left) → c.loop-left.left ≡ c.lower-left.result + sum_by weight_at (front c).tail
lowered-weight c =
    c.loop-left.invariant.weight ∙ ap (sum_by weight_at) (front c).is
    ∙ sum_by-cons weight_at (front c).head (front c).tail
    ∙ ap (λ n. n + sum_by weight_at (front c).tail)
    (sym (c.lower-left.ensures.weight (front c).head (front c).tail (front c).is))

pub overflow_sub-left : goal.overflow_sub-left
overflow_sub-left c = omega (arith, lowered-weight c)

pub loop-left-smaller : goal.loop-left-smaller
loop-left-smaller c =
    let e = c.lower-left.ensures.lists (front c).head (front c).tail (front c).is in
    rw (e, (front c).is) (omega arith)

pub loop-left-preserved : goal.loop-left-preserved
loop-left-preserved c =
    let k = front c in
    let now = c.loop-left.lists.lists in
    let e = c.lower-left.ensures.lists k.head k.tail k.is in
    let big : c.args.limit < sum_by weight_at (k.head ∷ k.tail) =
    (let s = ap (sum_by weight_at) k.is in omega (arith, c.loop-left.invariant.weight)) in
    let m : list_at now 0 ++ map low_entry (over weight_at c.args.limit (list_at now 1))
    ≡ (list_at now 0 ++ low_entry k.head ∷ []) ++ map low_entry (over weight_at c.args.limit k.tail) =
    rw (k.is, over-more weight_at c.args.limit k.head k.tail big)
    (sym (append_assoc (list_at now 0) (low_entry k.head ∷ [])
    (map low_entry (over weight_at c.args.limit k.tail)))) in
    let f : fit weight_at c.args.limit (list_at now 1) ≡ fit weight_at c.args.limit k.tail =
    rw k.is (fit-more weight_at c.args.limit k.head k.tail big) in
    let i = c.loop-left.invariant in
    let places = λ (q : ℕ). c.lower-left.ensures.places q ∙ i.places q in
    record {
      weight = omega (arith, lowered-weight c, ap (λ (x : List (List _)). sum_by weight_at (list_at x 1)) e);
      low = rw e (sym m ∙ i.low);
      high = rw e (sym f ∙ i.high);
      pin = rw e i.pin;
      places = places;
      room = c.lower-left.ensures.room ∙ i.room;
      span = c.lower-left.ensures.span ∙ i.span;
    }

pub returns-clause-low : goal.returns-clause-low
returns-clause-low c =
    let le : sum_by weight_at (list_at c.loop-left.lists.lists 1) ≤ c.args.limit =
    omega (arith, c.loop-left.invariant.weight) in
    let o = over-le weight_at c.args.limit (list_at c.loop-left.lists.lists 1) le in
    let i = c.loop-left.invariant.low in
    sym (append-nil (list_at c.loop-left.lists.lists 0)) ∙ (rw o at i)

pub returns-clause-high : goal.returns-clause-high
returns-clause-high c =
    let le : sum_by weight_at (list_at c.loop-left.lists.lists 1) ≤ c.args.limit =
    omega (arith, c.loop-left.invariant.weight) in
    sym (fit-le weight_at c.args.limit (list_at c.loop-left.lists.lists 1) le) ∙ c.loop-left.invariant.high
