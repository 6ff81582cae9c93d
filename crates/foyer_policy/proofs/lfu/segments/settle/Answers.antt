use Rattle.std.proofs.Common.{arith, ◌≡◌, ℕ, ◌+◌, ◌<◌, ◌≤◌, ◌∷◌, ◌++◌, [], List, sym, ◌∙◌, ap, map, sum_by, append_assoc, append-nil}
use Rattle.std.proofs.lemmas.List.{map-append}
use Rattle.std.proofs.lemmas.List.Sums.{sum_by-cons}
use Rattle.foyer_policy.specs.FitLaws.{fit-more, over-more, fit-le, over-le}
use Rattle.foyer_policy.specs.Items.{weight_of, fit, over}
use Rattle.foyer_policy.specs.LfuLists.{items_in}
use Rattle.foyer_policy.specs.Lists.{list_at}
use Rattle.foyer_policy.specs.declared.types.Item.{Item}
use Rattle.foyer_policy.proofs.SegmentLemmas.{Cons, cons_over}
use Rattle.foyer_policy.proofs.lfu.segments.settle.Goals as goal
use Rattle.foyer_policy.proofs.lfu.segments.settle.Goals.{After-demote-left}

first : (c : After-demote-left) → Cons (list_at c.loop-left.lists.lists c.args.from)
first c = cons_over c.args.limit (list_at c.loop-left.lists.lists c.args.from)
    (omega (arith, c.loop-left.invariant.weight))

demoted-weight : (c : After-demote-left) → c.loop-left.left
    ≡ c.demote-left.result + weight_of (map (λ e. e.1) (first c).tail)
demoted-weight c =
    let k = first c in
    c.loop-left.invariant.weight ∙ ap (λ (l : List (ℕ × Item)). weight_of (map (λ e. e.1) l)) k.is
    ∙ sum_by-cons (λ (i : Item). i.weight) k.head.1 (map (λ e. e.1) k.tail)
    ∙ ap (λ n. n + weight_of (map (λ e. e.1) k.tail)) (sym (c.demote-left.ensures.weight k.head k.tail k.is))

pub overflow_sub-left : goal.overflow_sub-left
overflow_sub-left c = omega (arith, demoted-weight c)

pub loop-left-smaller : goal.loop-left-smaller
loop-left-smaller c =
    let k = first c in
    rw (c.demote-left.ensures.from k.head k.tail k.is, k.is) (omega arith)

pub loop-left-preserved : goal.loop-left-preserved
loop-left-preserved c =
    let k = first c in
    let limit = c.args.limit in
    let now = c.loop-left.lists.lists in
    let after = c.demote-left.new.lists.lists in
    let i = c.loop-left.invariant in
    let e = c.demote-left.ensures in
    let rest : List Item = map (λ e. e.1) k.tail in
    let whole : items_in now c.args.from ≡ k.head.1 ∷ rest = ap (λ (l : List (ℕ × Item)). map (λ e. e.1) l) k.is in
    let from : items_in after c.args.from ≡ rest =
    ap (λ (l : List (ℕ × Item)). map (λ e. e.1) l) (e.from k.head k.tail k.is) in
    let probation : items_in after 1 ≡ items_in now 1 ++ k.head.1 ∷ [] =
    ap (λ (l : List (ℕ × Item)). map (λ e. e.1) l) (e.probation k.head k.tail k.is)
    ∙ map-append (λ (e : ℕ × Item). e.1) (list_at now 1) (k.head ∷ []) in
    let big : limit < sum_by (λ (i : Item). i.weight) (k.head.1 ∷ rest) =
    (let s = ap weight_of whole in omega (arith, i.weight)) in
    let more : items_in now 1 ++ over (λ (i : Item). i.weight) limit (items_in now c.args.from)
    ≡ (items_in now 1 ++ k.head.1 ∷ []) ++ over (λ (i : Item). i.weight) limit rest =
    rw (whole, over-more (λ (i : Item). i.weight) limit k.head.1 rest big)
    (sym (append_assoc (items_in now 1) (k.head.1 ∷ []) (over (λ (i : Item). i.weight) limit rest))) in
    let fits : fit (λ (i : Item). i.weight) limit (items_in now c.args.from)
    ≡ fit (λ (i : Item). i.weight) limit rest =
    rw whole (fit-more (λ (i : Item). i.weight) limit k.head.1 rest big) in
    record {
      weight = omega (arith, demoted-weight c, ap weight_of from);
      probation = rw (probation, from) (sym more ∙ i.probation);
      from = rw from (sym fits ∙ i.from);
      others = λ j nf n1. ap (λ (l : List (ℕ × Item)). map (λ e. e.1) l) (e.others j nf n1) ∙ i.others j nf n1;
      places = λ q. e.places q ∙ i.places q;
      room = e.room ∙ i.room;
      span = e.span ∙ i.span;
    }

pub returns-clause-from : goal.returns-clause-from
returns-clause-from c =
    let le : weight_of (items_in c.loop-left.lists.lists c.args.from) ≤ c.args.limit =
    omega (arith, c.loop-left.invariant.weight) in
    sym (fit-le (λ (i : Item). i.weight) c.args.limit (items_in c.loop-left.lists.lists c.args.from) le)
    ∙ c.loop-left.invariant.from

pub returns-clause-probation : goal.returns-clause-probation
returns-clause-probation c =
    let le : weight_of (items_in c.loop-left.lists.lists c.args.from) ≤ c.args.limit =
    omega (arith, c.loop-left.invariant.weight) in
    let none = over-le (λ (i : Item). i.weight) c.args.limit (items_in c.loop-left.lists.lists c.args.from) le in
    let i = c.loop-left.invariant.probation in
    sym (append-nil (items_in c.loop-left.lists.lists 1)) ∙ (rw none at i)
