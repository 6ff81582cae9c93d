use Rattle.std.proofs.Common.{◌≡◌, ℕ, ◌+◌, List, [], ◌∷◌, Some, set, refl, sym, ap, ◌∙◌, arith}
use Rattle.std.proofs.lemmas.List.{get_or-set_same}
use Rattle.foyer_policy.specs.Items.{weight_of}
use Rattle.foyer_policy.specs.Lists.{list_at, first_entry, rest, AreLists}
use Rattle.foyer_policy.specs.Policy.{without}
use Rattle.foyer_policy.specs.S3Fifo.{Entry, items}
use Rattle.foyer_policy.specs.S3FifoQueues.{Node, entry, entries, small_of}
use Rattle.foyer_policy.proofs.ListsLemmas.{entry-value}
use Rattle.foyer_policy.proofs.S3FifoNodes.{popped-queues, popped-places}
use Rattle.foyer_policy.proofs.S3FifoRare.{weight-head}
use Rattle.foyer_policy.proofs.s3fifo.queues.pop_main.Goals as goal

-- the front of small, popped, takes its weight along
popped-weight : (ls ls2 : List (List (ℕ × Node))) (e : ℕ × Node) → AreLists 2 ls → Some e ≡ first_entry (list_at ls 0)
    → ls2 ≡ set ls 0 (rest (list_at ls 0)) → weight_of (items (small_of ls))
    ≡ e.1.item.weight + weight_of (items (small_of ls2))
popped-weight ls ls2 e sound first popped = go (list_at ls 0) refl first where
  here : list_at ls2 0 ≡ rest (list_at ls 0)
  here = ap (λ (x : List (List (ℕ × Node))). list_at x 0) popped
      ∙ get_or-set_same ls 0 (rest (list_at ls 0)) [] (omega (arith, sound.count))

  go : (l : List (ℕ × Node)) → list_at ls 0 ≡ l → Some e ≡ first_entry l → weight_of (items (small_of ls))
      ≡ e.1.item.weight + weight_of (items (small_of ls2))
  go [] is h = absurd cc
  go (x ∷ xs) is h =
      let same : e ≡ x = cc in
      let left : list_at ls2 0 ≡ xs = here ∙ ap rest is in
      weight-head (small_of ls) (entry x) (entries xs) (ap (λ (l : List (ℕ × Node)). entries l) is)
      ∙ ap (λ (y : ℕ × Node). y.1.item.weight + weight_of (items (entries xs))) (sym same)
      ∙ ap (λ (l : List (ℕ × Node)). e.1.item.weight + weight_of (items (entries l))) (sym left)

pub returns-clause-queues : goal.returns-clause-queues
returns-clause-queues c = popped-queues c.take_main.new.queues.lists c.pop_front_at.new.self.lists
    c.pop_front_at.ensures.apart c.take_main.ensures.queues c.in_ok-found.found.1 (entry-value _ _ c.in_ok-found.ensures.entry)
    c.pop_front_at.ensures.lists

pub returns-clause-places : goal.returns-clause-places
returns-clause-places c = λ q.
    rw c.whole-item.ensures
    (popped-places c.take_main.new.queues.lists c.pop_front_at.new.self.lists c.pop_front_at.ensures.apart
    c.take_main.ensures.queues c.in_ok-found.found.1 (entry-value _ _ c.in_ok-found.ensures.entry) c.pop_front_at.ensures.lists q
    ∙ ap (without c.in_ok-found.found.1.item.id) (c.in_default.ensures.places q))

pub overflow_sub-weight : goal.overflow_sub-weight
overflow_sub-weight c =
    rw c.whole-item.ensures
    (omega (
      arith,
      c.requires.weight,
      ap (λ (l : List Entry). weight_of (items l)) c.in_default.ensures.takes.2,
      popped-weight c.take_main.new.queues.lists c.pop_front_at.new.self.lists c.in_ok-found.found
          c.pop_front_at.ensures.apart c.in_ok-found.ensures.entry c.pop_front_at.ensures.lists,
    ))

pub returns-clause-weight : goal.returns-clause-weight
returns-clause-weight c =
    rw c.whole-item.ensures
    (omega (
      arith,
      c.requires.weight,
      ap (λ (l : List Entry). weight_of (items l)) c.in_default.ensures.takes.2,
      popped-weight c.take_main.new.queues.lists c.pop_front_at.new.self.lists c.in_ok-found.found
          c.pop_front_at.ensures.apart c.in_ok-found.ensures.entry c.pop_front_at.ensures.lists,
    ))
