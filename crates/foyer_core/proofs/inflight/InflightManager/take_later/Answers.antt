use Rattle.std.proofs.Common.{◌≡◌, ℕ, true, Some, None, sym, refl, ap, ◌∙◌}
use Rattle.std.specs.Prelude.{option_and_then}
use Rattle.std.specs.Map.{update}
use Rattle.foyer_core.specs.Chains.{entries_of}
use Rattle.foyer_core.specs.Entries.{lookup_same}
use Rattle.foyer_core.specs.Indexer.{same_key}
use Rattle.foyer_core.specs.Inflight.{OpenFetch, numbers_in, opens_by, with_open}
use Rattle.foyer_core.specs.Inflights.{opens_of}
use Rattle.foyer_core.specs.Slots.{get, with_value}
use Rattle.foyer_core.proofs.SlotLemmas.{write_at}
use Rattle.foyer_core.proofs.InflightLemmas.{later_open, one, same_opens, write_linked, write_places}
use Rattle.foyer_core.proofs.inflight.InflightManager.take_later.Goals as goal

pub invariant_of-self : goal.invariant_of-self
invariant_of-self g c =
    let s = c.args.self.now in
    let k : ℕ × g.row.K.Denot = (c.args.hash, c.args.key.now) in
    let n = c.in_ok-number.number in
    let old = c.in-Some.inflight.now in
    let there = sym c.in_ok-number.ensures in
    let here = sym c.in-Some.ensures.value in
    let write = write_at s.inflights n old c.take_later.new.self here in
    let respects : (p q : ℕ × g.row.K.Denot) → same_key g.K.PartialEq.eq p q ≡ true → numbers_in s.index p
    ≡ numbers_in s.index q = λ p q same. lookup_same g.met.K.Eq.laws p q same (entries_of s.index.pairs.items) in
    record {
      linked = write_linked g.met.K.Eq.laws (numbers_in s.index) (numbers_in s.index) (get s.inflights)
          (get (with_value s.inflights n c.take_later.new.self)) k n s.linked there respects c.take_later.new.self
          write;
      sound = later_open g.met.K.Eq.laws (numbers_in s.index) (numbers_in s.index) (get s.inflights)
          (get (with_value s.inflights n c.take_later.new.self)) k n s.linked there respects c.take_later.new.self
          write s.next_fetch s.next_token old None here c.take_later.ensures.taken s.sound;
    }

pub returns-clause-opens : goal.returns-clause-opens
returns-clause-opens g c o was =
    let s = c.args.self.now in
    let k : ℕ × g.row.K.Denot = (c.args.hash, c.args.key.now) in
    let n = c.in_ok-number.number in
    let old = c.in-Some.inflight.now in
    let there = sym c.in_ok-number.ensures in
    let here = sym c.in-Some.ensures.value in
    let write = write_at s.inflights n old c.take_later.new.self here in
    let respects : (p q : ℕ × g.row.K.Denot) → same_key g.K.PartialEq.eq p q ≡ true → numbers_in s.index p
    ≡ numbers_in s.index q = λ p q same. lookup_same g.met.K.Eq.laws p q same (entries_of s.index.pairs.items) in
    let same : old ≡ o = one old o (sym (ap (option_and_then (get s.inflights)) there ∙ here) ∙ was) in
    same_opens
    (opens_by (numbers_in s.index) (get (with_value s.inflights n c.take_later.new.self)) s.next_fetch s.next_token)
    (with_open g.K.PartialEq.eq (opens_of s) k (Some (record { fetch = o.fetch; opened = o.opened; tokens = o.tokens; later = None })))
    (λ q. write_places g.met.K.Eq.laws (numbers_in s.index) (numbers_in s.index) (get s.inflights)
    (get (with_value s.inflights n c.take_later.new.self)) k n s.linked there respects c.take_later.new.self write q
    ∙ ap (λ (x : OpenFetch g.row.N.Denot g.row.R.Denot). update (same_key g.K.PartialEq.eq) (opens_of s).by_key k (Some x)
    q) c.take_later.ensures.taken
    ∙ ap (λ (x : OpenFetch g.row.N.Denot g.row.R.Denot). update (same_key g.K.PartialEq.eq) (opens_of s).by_key k
    (Some (record { fetch = x.fetch; opened = x.opened; tokens = x.tokens; later = None })) q) same) refl refl
