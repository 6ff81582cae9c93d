use Rattle.std.proofs.Common.{◌≡◌, List, ℕ, Some, arith, ◌++◌, ◌∷◌}
use Rattle.std.specs.Option.{unwrap_or}
use Rattle.foyer_policy.specs.Lists.{list_at}
use Rattle.foyer_policy.specs.SieveLaws.{sieve_lawful, few_looks}
use Rattle.foyer_policy.specs.Sieve.{sieve}
use Rattle.foyer_policy.specs.SieveQueue.{Node, entries, view_of, IsTurn}
use Rattle.foyer_policy.specs.declared.sieve.SieveConfig.{SieveConfig}
use Rattle.foyer_policy.proofs.PopsLemmas.{pop_once}
use Rattle.foyer_policy.proofs.SieveCalls.{Gives, gives}
use Rattle.foyer_policy.proofs.SieveFirst.{victim-first}
use Rattle.foyer_policy.proofs.sieve.SieveEviction.pop_at.Goals as goal
use Rattle.foyer_policy.proofs.sieve.SieveEviction.pop_at.Goals.{After-take_victim-at}

given : (c : After-take_victim-at) → Gives c.self.inside.queue.lists c.take_victim-at.new.queue.lists
    c.in-Some.ensures.apart c.take_victim-at.ensures.apart c.self.invariant.once c.take_victim-at.result.item
    c.take_victim-at.result.hand c.take_victim-at.result.looks c.self.inside.hand
given c =
    let ls = c.self.inside.queue.lists in
    let left = c.take_victim-at.new.queue.lists in
    let r = c.take_victim-at.result in
    let turned : (xs ys : List (ℕ × Node)) (n : Node) → list_at ls 0 ≡ xs
    ++ (unwrap_or c.self.inside.hand c.in-Some.front, n) ∷ ys →
    IsTurn (entries xs) (entries ((unwrap_or c.self.inside.hand c.in-Some.front, n) ∷ ys)) (list_at left 0)
    r.item r.hand r.looks
    = rw (← c.unwrap_or-start.ensures) c.take_victim-at.ensures.turned in
    gives ls left c.in-Some.ensures.apart c.take_victim-at.ensures.apart c.self.invariant.once r.item r.hand r.looks
    c.self.inside.hand c.in-Some.front c.self.invariant.there c.in-Some.ensures.place turned

pub invariant_of-self-2 : goal.invariant_of-self-2
invariant_of-self-2 c =
    let old = view_of (record { nodes = c.self.inside.queue; hand = c.self.inside.hand; looks = 0 }) in
    let new = view_of
    (record { nodes = c.take_victim-at.new.queue; hand = c.take_victim-at.result.hand; looks = 0 }) in
    record {
      once = pop_once (sieve SieveConfig) (sieve_lawful SieveConfig) old new c.take_victim-at.result.item
          (given (goal.at.invariant_of-self-2 c).After-take_victim-at).pops c.self.invariant.once;
      there = c.take_victim-at.ensures.there;
    }

pub returns-clause-pops : goal.returns-clause-pops
returns-clause-pops c = rw (← c.self.view_is)
    (given (goal.at.returns-clause-pops c).After-take_victim-at).pops

pub returns-clause-looked : goal.returns-clause-looked
returns-clause-looked c = rw (← c.self.view_is) (given (goal.at.returns-clause-looked c).After-take_victim-at).looked

pub returns-clause-few : goal.returns-clause-few
returns-clause-few c =
    let old = view_of (record { nodes = c.self.inside.queue; hand = c.self.inside.hand; looks = 0 }) in
    let new = view_of
    (record { nodes = c.take_victim-at.new.queue; hand = c.take_victim-at.result.hand; looks = 0 }) in
    let g = given (goal.at.returns-clause-few c).After-take_victim-at in
    rw (← c.self.view_is) (omega (arith, g.looked, few_looks old new c.take_victim-at.result.item g.pops))

pub returns-clause-first : goal.returns-clause-first
returns-clause-first c =
    let old = view_of (record { nodes = c.self.inside.queue; hand = c.self.inside.hand; looks = 0 }) in
    let new = view_of
    (record { nodes = c.take_victim-at.new.queue; hand = c.take_victim-at.result.hand; looks = 0 }) in
    rw (← c.self.view_is)
    (victim-first old new (Some c.take_victim-at.result.item)
    (given (goal.at.returns-clause-first c).After-take_victim-at).pops)
