use Rattle.std.proofs.Common.{◌≡◌, ◌-◌, ◌+◌, cond, true, false, sym, ◌∙◌, ap, subst, arith, List, ℕ}
use Rattle.foyer_policy.specs.Lists.{list_at}
use Rattle.foyer_policy.specs.LruLists.{state, IsLru}
use Rattle.foyer_policy.specs.declared.lru.LruState.{LruState}
use Rattle.foyer_policy.proofs.ListsLemmas.{entry-value, entry-none}
use Rattle.foyer_policy.proofs.LruInvariants.{high_weighs}
use Rattle.foyer_policy.proofs.LruLemmas.{Node, state_at}
use Rattle.foyer_policy.proofs.LruMoves.{unpinned-new}
use Rattle.foyer_policy.proofs.LruPushes.{popped_low, popped_high, popped_nothing}
use Rattle.foyer_policy.proofs.LruReleases.{removed_is, removed_places}
use Rattle.foyer_policy.proofs.lru.LruEviction.pop_at.Goals as goal

pub invariant_of-self : goal.invariant_of-self
invariant_of-self c =
    let i = c.self.inside in
    let ls = i.lists.lists in
    let n : Node = c.in-Some.found.1 in
    let p = popped_low ls c.pop_front_at.new.self.lists c.pop_front_at.ensures.apart n
    (entry-value _ _ (sym c.in-Some.is ∙ c.pop_front_at.ensures.entry)) c.pop_front_at.ensures.lists in
    let is : n.state ≡ state false false = state_at (λ s. s ≡ state false false) p.place n (list_at ls 0)
    c.self.invariant.tell.low p.there in
    let high : i.high_weight + cond n.state.pinned 0 (cond n.state.high n.item.weight 0) ≡ i.high_weight =
    rw (ap (λ (s : LruState). s.pinned) is, ap (λ (s : LruState). s.high) is) (omega arith) in
    let pinned : i.pinned_weight + cond n.state.pinned n.item.weight 0 ≡ i.pinned_weight =
    rw (ap (λ (s : LruState). s.pinned) is) (omega arith) in
    removed_is ls i.limit i.ratio i.high_weight i.pinned_weight c.self.invariant
    c.pop_front_at.ensures.apart p.place n p.found
    c.pop_front_at.new.self.lists p.dropped i.high_weight i.pinned_weight high pinned

pub returns-in-Some-clause-places : goal.returns-in-Some-clause-places
returns-in-Some-clause-places c =
    let i = c.self.inside in
    let ls = i.lists.lists in
    let n : Node = c.in-Some.found.1 in
    let p = popped_low ls c.pop_front_at.new.self.lists c.pop_front_at.ensures.apart n
    (entry-value _ _ (sym c.in-Some.is ∙ c.pop_front_at.ensures.entry)) c.pop_front_at.ensures.lists in
    rw (← c.self.view_is, c.whole.ensures)
    (removed_places ls i.limit i.ratio i.high_weight i.pinned_weight c.self.invariant
    c.pop_front_at.ensures.apart p.place n p.found
    c.pop_front_at.new.self.lists p.dropped)

pub overflow_sub-self : goal.overflow_sub-self
overflow_sub-self c =
    let i = c.self.inside in
    let ls = c.pop_front_at.new.self.lists in
    let n : Node = c.in-Some-pop_front_at.found.1 in
    let same : ls ≡ i.lists.lists = popped_nothing i.lists.lists ls c.pop_front_at.ensures.apart n
    (entry-none _ (sym c.in_default.is ∙ c.pop_front_at.ensures.entry)) c.pop_front_at.ensures.lists in
    let old : IsLru ls i.limit i.ratio i.high_weight
    i.pinned_weight =
    subst (λ (x : List (List (ℕ × Node))). IsLru x i.limit i.ratio i.high_weight i.pinned_weight)
    (sym same) c.self.invariant in
    let p = popped_high ls c.pop_front_at-2.new.self.lists c.pop_front_at-2.ensures.apart n
    (entry-value _ _ (sym c.in-Some-pop_front_at.is ∙ c.pop_front_at-2.ensures.entry)) c.pop_front_at-2.ensures.lists in
    let is : n.state ≡ state true false = state_at (λ s. s ≡ state true false) p.place n (list_at ls 1) old.tell.high
    p.there in
    let less = high_weighs ls i.limit i.ratio i.high_weight i.pinned_weight old
    c.pop_front_at-2.ensures.apart p.place n p.found (ap (λ (s : LruState). s.pinned) is)
    (ap (λ (s : LruState). s.high) is) in
    rw c.whole-item.ensures less

pub invariant_of-self-2 : goal.invariant_of-self-2
invariant_of-self-2 c =
    let i = c.self.inside in
    let ls = c.pop_front_at.new.self.lists in
    let n : Node = c.in-Some-pop_front_at.found.1 in
    let same : ls ≡ i.lists.lists = popped_nothing i.lists.lists ls c.pop_front_at.ensures.apart n
    (entry-none _ (sym c.in_default.is ∙ c.pop_front_at.ensures.entry)) c.pop_front_at.ensures.lists in
    let old : IsLru ls i.limit i.ratio i.high_weight
    i.pinned_weight =
    subst (λ (x : List (List (ℕ × Node))). IsLru x i.limit i.ratio i.high_weight i.pinned_weight)
    (sym same) c.self.invariant in
    let p = popped_high ls c.pop_front_at-2.new.self.lists c.pop_front_at-2.ensures.apart n
    (entry-value _ _ (sym c.in-Some-pop_front_at.is ∙ c.pop_front_at-2.ensures.entry)) c.pop_front_at-2.ensures.lists in
    let is : n.state ≡ state true false = state_at (λ s. s ≡ state true false) p.place n (list_at ls 1) old.tell.high
    p.there in
    let less = high_weighs ls i.limit i.ratio i.high_weight i.pinned_weight old
    c.pop_front_at-2.ensures.apart p.place n p.found (ap (λ (s : LruState). s.pinned) is)
    (ap (λ (s : LruState). s.high) is) in
    let high : i.high_weight - n.item.weight + cond n.state.pinned 0 (cond n.state.high n.item.weight 0)
    ≡ i.high_weight = rw (ap (λ (s : LruState). s.pinned) is, ap (λ (s : LruState). s.high) is) (omega arith) in
    let pinned : i.pinned_weight + cond n.state.pinned n.item.weight 0 ≡ i.pinned_weight =
    rw (ap (λ (s : LruState). s.pinned) is) (omega arith) in
    rw c.whole-item.ensures
    (removed_is ls i.limit i.ratio i.high_weight i.pinned_weight old c.pop_front_at-2.ensures.apart p.place n
    p.found
    c.pop_front_at-2.new.self.lists p.dropped (i.high_weight - n.item.weight) i.pinned_weight
    high pinned)

pub returns-clause-places : goal.returns-clause-places
returns-clause-places c =
    let i = c.self.inside in
    let ls = c.pop_front_at.new.self.lists in
    let n : Node = c.in-Some-pop_front_at.found.1 in
    let same : ls ≡ i.lists.lists = popped_nothing i.lists.lists ls c.pop_front_at.ensures.apart n
    (entry-none _ (sym c.in_default.is ∙ c.pop_front_at.ensures.entry)) c.pop_front_at.ensures.lists in
    let old : IsLru ls i.limit i.ratio i.high_weight
    i.pinned_weight =
    subst (λ (x : List (List (ℕ × Node))). IsLru x i.limit i.ratio i.high_weight i.pinned_weight)
    (sym same) c.self.invariant in
    let p = popped_high ls c.pop_front_at-2.new.self.lists c.pop_front_at-2.ensures.apart n
    (entry-value _ _ (sym c.in-Some-pop_front_at.is ∙ c.pop_front_at-2.ensures.entry)) c.pop_front_at-2.ensures.lists in
    rw (← c.self.view_is, ← same, c.whole-item.ensures)
    (removed_places ls i.limit i.ratio i.high_weight i.pinned_weight old c.pop_front_at-2.ensures.apart
    p.place n p.found
    c.pop_front_at-2.new.self.lists p.dropped)

pub returns-in-Some-clause-unpinned : goal.returns-in-Some-clause-unpinned
returns-in-Some-clause-unpinned c =
    let i = c.self.inside in
    let ls = i.lists.lists in
    let n : Node = c.in-Some.found.1 in
    let p = popped_low ls c.pop_front_at.new.self.lists c.pop_front_at.ensures.apart n
    (entry-value _ _ (sym c.in-Some.is ∙ c.pop_front_at.ensures.entry)) c.pop_front_at.ensures.lists in
    let is : n.state ≡ state false false = state_at (λ s. s ≡ state false false) p.place n (list_at ls 0)
    c.self.invariant.tell.low p.there in
    rw (← c.self.view_is, c.whole.ensures)
    (unpinned-new ls i.limit i.ratio c.self.invariant.once c.pop_front_at.ensures.apart p.place n
    c.self.invariant.tell p.found (ap (λ (s : LruState). s.pinned) is))

pub returns-clause-unpinned : goal.returns-clause-unpinned
returns-clause-unpinned c =
    let i = c.self.inside in
    let ls = c.pop_front_at.new.self.lists in
    let n : Node = c.in-Some-pop_front_at.found.1 in
    let same : ls ≡ i.lists.lists = popped_nothing i.lists.lists ls c.pop_front_at.ensures.apart n
    (entry-none _ (sym c.in_default.is ∙ c.pop_front_at.ensures.entry)) c.pop_front_at.ensures.lists in
    let old : IsLru ls i.limit i.ratio i.high_weight
    i.pinned_weight =
    subst (λ (x : List (List (ℕ × Node))). IsLru x i.limit i.ratio i.high_weight i.pinned_weight)
    (sym same) c.self.invariant in
    let p = popped_high ls c.pop_front_at-2.new.self.lists c.pop_front_at-2.ensures.apart n
    (entry-value _ _ (sym c.in-Some-pop_front_at.is ∙ c.pop_front_at-2.ensures.entry)) c.pop_front_at-2.ensures.lists in
    let is : n.state ≡ state true false = state_at (λ s. s ≡ state true false) p.place n (list_at ls 1) old.tell.high
    p.there in
    rw (← c.self.view_is, ← same, c.whole-item.ensures)
    (unpinned-new ls i.limit i.ratio old.once c.pop_front_at-2.ensures.apart p.place n old.tell p.found
    (ap (λ (s : LruState). s.pinned) is))
