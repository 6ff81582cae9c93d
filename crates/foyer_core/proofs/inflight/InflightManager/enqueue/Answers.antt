use Rattle.std.proofs.Common.{◌≡◌, ℕ, ◌+◌, true, Option, Some, refl, sym, ap, ◌∙◌}
use Rattle.std.specs.Prelude.{if◌then◌else◌, is_some, option_and_then}
use Rattle.std.specs.Option.{option_copied_mut}
use Rattle.std.specs.Map.{update}
use Rattle.foyer_core.specs.declared.outcome.Waiting.{Waiting}
use Rattle.foyer_core.specs.Chains.{entries_of}
use Rattle.foyer_core.specs.Entries.{lookup_same}
use Rattle.foyer_core.specs.Indexer.{same_key}
use Rattle.foyer_core.specs.Inflight.{OpenFetch, after_enqueue, opens_by, joined, numbers_in}
use Rattle.foyer_core.specs.Inflights.{opens_of}
use Rattle.foyer_core.specs.Slots.{get, with_value}
use Rattle.foyer_core.proofs.SlotLemmas.{write_at}
use Rattle.foyer_core.proofs.InflightLemmas.{join_open, linked_same, led_to, open_same, opens_same, same_opens, write_again, write_linked, write_places}
use Rattle.foyer_core.proofs.inflight.InflightManager.enqueue.Goals as goal

pub unreachable-requires : goal.unreachable-requires
unreachable-requires g c =
    let s = c.args.self.now in
    led_to (get s.inflights c.in-Some.number)
    (s.linked.led (c.args.hash, c.args.key) c.in-Some.number (sym c.in-Some.ensures))
    (sym c.get_mut.ensures.value ∙ ap option_copied_mut c.in_default-get_mut.is)

pub invariant_of-self : goal.invariant_of-self
invariant_of-self g c =
    let s = c.args.self.now in
    let n = c.in-Some.number in
    let slots = write_again s.inflights n c.in-Some-get_mut.inflight.now c.join.new.self
    (sym c.in-Some-get_mut.ensures.value) c.in_err-join.ensures.err in
    record {
      linked = linked_same (numbers_in s.index) (numbers_in s.index) (get s.inflights)
          (get (with_value s.inflights n c.join.new.self)) (λ q. refl) slots s.linked;
      sound = open_same (opens_of s)
          (opens_by (numbers_in s.index) (get (with_value s.inflights n c.join.new.self)) s.next_fetch s.next_token)
          (opens_same (numbers_in s.index) (numbers_in s.index) (get s.inflights)
          (get (with_value s.inflights n c.join.new.self)) (λ q. refl) slots) refl refl s.sound;
    }

pub invariant_of-self-2 : goal.invariant_of-self-2
invariant_of-self-2 g c =
    let s = c.args.self.now in
    let k : ℕ × g.row.K.Denot = (c.args.hash, c.args.key) in
    let n = c.in-Some.number in
    let old = c.in-Some-get_mut.inflight.now in
    let there = sym c.in-Some.ensures in
    let here = sym c.in-Some-get_mut.ensures.value in
    let w : Waiting g.row.N.Denot = record { token = s.next_token; waiter = c.args.waiter } in
    let write = write_at s.inflights n old c.join.new.self here in
    let respects : (p q : ℕ × g.row.K.Denot) → same_key g.K.PartialEq.eq p q ≡ true → numbers_in s.index p
    ≡ numbers_in s.index q = λ p q same. lookup_same g.met.K.Eq.laws p q same (entries_of s.index.pairs.items) in
    record {
      linked = write_linked g.met.K.Eq.laws (numbers_in s.index) (numbers_in s.index) (get s.inflights)
          (get (with_value s.inflights n c.join.new.self)) k n s.linked there respects c.join.new.self write;
      sound = join_open g.met.K.Eq.laws (numbers_in s.index) (numbers_in s.index) (get s.inflights)
          (get (with_value s.inflights n c.join.new.self)) k n s.linked there respects c.join.new.self write
          s.next_fetch s.next_token old w c.args.required_fetch_builder here refl c.in_ok-join.ensures.joined
          s.sound;
    }

pub returns-clause-opens : goal.returns-clause-opens
returns-clause-opens g c =
    let s = c.args.self.now in
    let k : ℕ × g.row.K.Denot = (c.args.hash, c.args.key) in
    let n = c.in-Some.number in
    let old = c.in-Some-get_mut.inflight.now in
    let there = sym c.in-Some.ensures in
    let here = sym c.in-Some-get_mut.ensures.value in
    let w : Waiting g.row.N.Denot = record { token = s.next_token; waiter = c.args.waiter } in
    let open_there : option_and_then (get s.inflights) (numbers_in s.index k) ≡ Some old =
    ap (option_and_then (get s.inflights)) there ∙ here in
    let write = write_at s.inflights n old c.join.new.self here in
    let respects : (p q : ℕ × g.row.K.Denot) → same_key g.K.PartialEq.eq p q ≡ true → numbers_in s.index p
    ≡ numbers_in s.index q = λ p q same. lookup_same g.met.K.Eq.laws p q same (entries_of s.index.pairs.items) in
    same_opens
    (opens_by (numbers_in s.index) (get (with_value s.inflights n c.join.new.self)) s.next_fetch
    (s.next_token + 1))
    (after_enqueue g.K.PartialEq.eq c.args.now (opens_of s) k c.args.waiter c.args.required_fetch_builder)
    (λ q. write_places g.met.K.Eq.laws (numbers_in s.index) (numbers_in s.index) (get s.inflights)
    (get (with_value s.inflights n c.join.new.self)) k n s.linked there respects c.join.new.self write q
    ∙ ap (λ (o : OpenFetch g.row.N.Denot g.row.R.Denot). update (same_key g.K.PartialEq.eq) (opens_of s).by_key k (Some o)
    q)
    (c.in_ok-join.ensures.joined ∙
    ap (λ (o : Option (OpenFetch g.row.N.Denot g.row.R.Denot)). joined o c.args.now s.next_fetch w c.args.required_fetch_builder)
    (sym open_there)))
    (ap (λ (o : Option (OpenFetch g.row.N.Denot g.row.R.Denot)). if is_some o then s.next_fetch else s.next_fetch + 1)
    (sym open_there)) refl
