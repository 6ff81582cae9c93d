use Rattle.std.proofs.Common.{◌≡◌, ◌<◌, ◌+◌, ◌∷◌, ◌++◌, [], None, take, drop, refl, ◌∙◌, ap, arith, inl, inr}
use Rattle.std.specs.Prelude.{slice_index_or}
use Rattle.std.proofs.lemmas.Bool.Decides.{eqb_tells}
use Rattle.std.proofs.lemmas.List.{take_more, drop_more, take_all}
use Rattle.std.proofs.lemmas.List.Sums.{sum_by-append}
use Rattle.foyer_policy.specs.Items.{count_of}
use Rattle.foyer_policy.specs.declared.types.Item.{Item}
use Rattle.foyer_policy.specs.declared.types.Hint.TheVariants.{Normal}
use Rattle.foyer_policy.proofs.ItemLemmas.{one_if, count-cons}
use Rattle.foyer_core.specs.Stores.{meaning_of, state_of}
use Rattle.foyer_core.proofs.Holdings.{holding}
use Rattle.foyer_core.proofs.Outs.{counted_first}
use Rattle.foyer_core.proofs.Residents.{resident_counted}
use Rattle.foyer_core.proofs.store.Store.tell_in_order.Goals as goal

pub loop-item-init : goal.loop-item-init
loop-item-init g c = record {
  told = λ id r counted is. absurd (omega (arith, counted));
  rest = λ id. rw c.requires.all (omega arith);
}

pub tell-requires-clause-there : goal.tell-requires-clause-there
tell-requires-clause-there g c κs within =
    let is = c.args.items.now in
    let k = c.loop-item.item-index in
    let none : Item = record { id = 0; hash = 0; weight = 0; hint = Normal; expires = None } in
    let i : Item = slice_index_or is k none in
    let more : drop k is ≡ i ∷ drop (k + 1) is = drop_more is k none c.loop-item-test.true in
    let first : 0 < count_of i.id (drop k is) = rw more (counted_first i (drop (k + 1) is)) in
    omega (arith, first, c.loop-item.invariant.rest i.id)

pub loop-item-preserved : goal.loop-item-preserved
loop-item-preserved g c =
    let is = c.args.items.now in
    let k = c.loop-item.item-index in
    let none : Item = record { id = 0; hash = 0; weight = 0; hint = Normal; expires = None } in
    let i : Item = slice_index_or is k none in
    let more : drop k is ≡ i ∷ drop (k + 1) is = drop_more is k none c.loop-item-test.true in
    let further : take (k + 1) is ≡ take k is ++ i ∷ [] = take_more is k none c.loop-item-test.true in
    record {
      told = λ id r counted there. elim (eqb_tells i.id id) [
        | inl e ↦ c.tell.ensures r (ap (state_of c.args.self.now).records e.1 ∙ there)
        | inr e ↦ c.loop-item.invariant.told id r (
            let none_here : one_if id i ≡ 0 = rw e.0 refl in
            omega (
              arith,
              counted,
              ap (count_of id) further,
              sum_by-append (one_if id) (take k is) (i ∷ []),
              count-cons id i [],
              none_here,
            )) there
      ];
      rest = λ id.
          omega (arith, c.loop-item.invariant.rest id, ap (count_of id) more, count-cons id i (drop (k + 1) is));
    }

pub returns : goal.returns
returns g c id r there res =
    let s = c.args.self.now in
    let is = c.args.items.now in
    let k = c.loop-item.item-index in
    let over : take k is ≡ g.E.Eviction.model.order (g.E.Eviction.view s.eviction) =
    take_all k is (omega (arith, c.loop-item-test.false)) ∙ c.requires.all in
    let counted = resident_counted (meaning_of s) g.met.K.Eq.laws g.met.E.Eviction.lawful (holding s) id r there res in
    c.loop-item.invariant.told id r (omega (arith, counted, ap (count_of id) over)) there
