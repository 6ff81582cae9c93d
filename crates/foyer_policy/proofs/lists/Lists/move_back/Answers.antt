use Rattle.std.proofs.Common.{◌≡◌, ◌<◌, length, map, IsSome, rules, arith, sym, ap, ◌∙◌}
use Rattle.std.proofs.Math.ListN.{length-map}
use Rattle.foyer_policy.specs.Arena.{get, value_of}
use Rattle.foyer_policy.specs.Chain.{lists_of}
use Rattle.foyer_policy.specs.Lists.{find, drop_place, moved}
use Rattle.foyer_policy.proofs.FoundLemmas.{find-moved}
use Rattle.foyer_policy.proofs.ListsLemmas.{is_in}
use Rattle.foyer_policy.proofs.LinkedLemmas.{find-value, tail_in}
use Rattle.foyer_policy.proofs.HoldsLemmas.{contains_found, put_back, Holds-again, lists_of-Holds, AreLists-Holds, AreLists-told}
use Rattle.foyer_policy.proofs.lists.Lists.move_back.Goals as goal

pub relink-requires : goal.relink-requires
relink-requires g c =
    let i = c.self.inside in let p = c.place.inside.node in let ls = lists_of i.nodes i.heads in let left =
    map (drop_place p) ls in
    let there : IsSome (find p ls) = search rules in
    let heads : length c.unlink.new.heads ≡ g.row.N =
    (let x = c.unlink.ensures.linked.heads_len in let y = c.self.invariant.linked.heads_len in
    omega (arith, x, y, length-map ls (drop_place {T = g.row.T.Denot} p), c.self.told)) in
    let tails : length c.unlink.new.tails ≡ length c.unlink.new.heads = c.unlink.ensures.linked.tails_len
    ∙ sym c.unlink.ensures.linked.heads_len in
    let lt : c.args.list < length left = omega (arith, c.requires.list, heads, c.unlink.ensures.linked.heads_len) in (
      omega arith,
      (
        c.unlink.ensures.arena,
        (
          c.requires.list,
          (
            heads,
            (
              tails,
              (
                rw c.unlink.ensures.node (contains_found i.nodes i.heads i.tails ls p c.self.invariant.linked there),
                (λ x e. tail_in (get c.unlink.new.nodes) c.unlink.new.heads c.unlink.new.tails left c.args.list p x
                    c.unlink.ensures.linked lt e),
              ),
            ),
          ),
        ),
      ),
    )

pub invariant_of-self : goal.invariant_of-self
invariant_of-self g c =
    let i = c.self.inside in let p = c.place.inside.node in let ls = lists_of i.nodes i.heads in
    let there : IsSome (find p ls) = search rules in
    let v = is_in p ls there in
    let here = ap value_of c.unlink.ensures.node
    ∙ find-value (get i.nodes) i.heads i.tails ls p c.self.invariant.linked there ∙ v.found in
    Holds-again c.relink.new.nodes c.relink.new.heads c.relink.new.tails (moved p c.args.list ls)
    (put_back i.nodes c.relink.new.nodes i.heads i.tails c.relink.new.heads c.relink.new.tails c.args.list p v.value
    c.self.invariant v.found (rw c.self.told c.requires.list)
    c.relink.ensures.arena (c.relink.ensures.linked (map (drop_place p) ls) v.value here c.unlink.ensures.linked)
    (c.relink.ensures.used ∙ c.unlink.ensures.used))

pub returns-clause-lists : goal.returns-clause-lists
returns-clause-lists g c =
    let i = c.self.inside in let p = c.place.inside.node in let ls = lists_of i.nodes i.heads in
    let there : IsSome (find p ls) = search rules in
    let v = is_in p ls there in
    let here = ap value_of c.unlink.ensures.node
    ∙ find-value (get i.nodes) i.heads i.tails ls p c.self.invariant.linked there ∙ v.found in
    rw (← c.self.view_is, ← c.place.view_is)
    (lists_of-Holds c.relink.new.nodes c.relink.new.heads c.relink.new.tails (moved p c.args.list ls)
    (put_back i.nodes c.relink.new.nodes i.heads i.tails c.relink.new.heads c.relink.new.tails c.args.list p v.value
    c.self.invariant v.found (rw c.self.told c.requires.list)
    c.relink.ensures.arena (c.relink.ensures.linked (map (drop_place p) ls) v.value here c.unlink.ensures.linked)
    (c.relink.ensures.used ∙ c.unlink.ensures.used)))

pub returns-clause-places : goal.returns-clause-places
returns-clause-places g c = λ q.
    let i = c.self.inside in let p = c.place.inside.node in let ls = lists_of i.nodes i.heads in
    let there : IsSome (find p ls) = search rules in
    let v = is_in p ls there in
    let here = ap value_of c.unlink.ensures.node
    ∙ find-value (get i.nodes) i.heads i.tails ls p c.self.invariant.linked there ∙ v.found in
    let lt : c.args.list < length ls = omega (arith, c.self.invariant.linked.heads_len) in
    rw (← c.self.view_is)
    (ap (find q) (lists_of-Holds c.relink.new.nodes c.relink.new.heads c.relink.new.tails (moved p c.args.list ls)
    (put_back i.nodes c.relink.new.nodes i.heads i.tails c.relink.new.heads c.relink.new.tails c.args.list p v.value
    c.self.invariant v.found (rw c.self.told c.requires.list)
    c.relink.ensures.arena (c.relink.ensures.linked (map (drop_place p) ls) v.value here c.unlink.ensures.linked)
    (c.relink.ensures.used ∙ c.unlink.ensures.used)))
    ∙ find-moved g.row.N p q v.value ls c.args.list
    (AreLists-Holds i.nodes i.heads i.tails g.row.N c.self.invariant c.self.told) v.found lt)

pub returns-clause-apart : goal.returns-clause-apart
returns-clause-apart g c = AreLists-told c.self.view_is c.self.invariant c.self.told
