use Rattle.std.proofs.Common.{◌≡◌, ℕ, ◌+◌, [], ◌∷◌, Option, Some, None, refl, sym, ap, ◌∙◌}
use Rattle.std.specs.Prelude.{if◌then◌else◌, is_some, option_and_then}
use Rattle.std.specs.Map.{update}
use Rattle.foyer_core.specs.declared.outcome.Waiting.{Waiting}
use Rattle.foyer_core.specs.Indexer.{same_key}
use Rattle.foyer_core.specs.Inflight.{OpenFetch, after_enqueue, joined, opens_by, numbers_in}
use Rattle.foyer_core.specs.Inflights.{opens_of}
use Rattle.foyer_core.specs.Slots.{Slots, get}
use Rattle.foyer_core.proofs.InflightLemmas.{lead_linked, lead_open, lead_places, linked_same, open_same, opens_same, put_in_room, same_opens}
use Rattle.foyer_core.proofs.inflight.InflightManager.lead.Goals as goal

pub invariant_of-self : goal.invariant_of-self
invariant_of-self g c =
    let s = c.args.self.now in
    let slots : (n : ℕ) → get c.reserve.new.self n ≡ get s.inflights n = λ n. ap
    (λ (x : Slots (OpenFetch g.row.N.Denot g.row.R.Denot)). get x n) c.reserve.ensures.rest_kept in
    record {
      linked = linked_same (numbers_in s.index) (numbers_in s.index) (get s.inflights) (get c.reserve.new.self)
          (λ q. refl) slots s.linked;
      sound = open_same (opens_of s) (opens_by (numbers_in s.index) (get c.reserve.new.self) s.next_fetch
          s.next_token) (opens_same (numbers_in s.index) (numbers_in s.index) (get s.inflights)
          (get c.reserve.new.self) (λ q. refl) slots) refl refl s.sound;
    }

pub invariant_of-self-in-Err-insert : goal.invariant_of-self-in-Err-insert
invariant_of-self-in-Err-insert g c =
    let s = c.args.self.now in
    let slots : (n : ℕ) → get c.reserve.new.self n ≡ get s.inflights n = λ n. ap
    (λ (x : Slots (OpenFetch g.row.N.Denot g.row.R.Denot)). get x n) c.reserve.ensures.rest_kept in
    record {
      linked = linked_same (numbers_in s.index) (numbers_in c.insert.new.self) (get s.inflights)
          (get c.reserve.new.self) c.in-Err.ensures.err slots s.linked;
      sound = open_same (opens_of s) (opens_by (numbers_in c.insert.new.self) (get c.reserve.new.self) s.next_fetch
          s.next_token) (opens_same (numbers_in s.index) (numbers_in c.insert.new.self) (get s.inflights)
          (get c.reserve.new.self) c.in-Err.ensures.err slots) refl refl s.sound;
    }

pub returns-in-Err-clause-err : goal.returns-in-Err-clause-err
returns-in-Err-clause-err g c =
    let s = c.args.self.now in
    let slots : (n : ℕ) → get c.reserve.new.self n ≡ get s.inflights n = λ n. ap
    (λ (x : Slots (OpenFetch g.row.N.Denot g.row.R.Denot)). get x n) c.reserve.ensures.rest_kept in
    same_opens (opens_by (numbers_in c.insert.new.self) (get c.reserve.new.self) s.next_fetch s.next_token) (opens_of s)
    (opens_same (numbers_in s.index) (numbers_in c.insert.new.self) (get s.inflights) (get c.reserve.new.self)
    c.in-Err.ensures.err slots) refl refl

pub invariant_of-self-2 : goal.invariant_of-self-2
invariant_of-self-2 g c =
    let s = c.args.self.now in
    let laws = g.met.K.Eq.laws in
    let k : ℕ × g.row.K.Denot = (c.args.hash, c.args.key) in
    let n = c.next_slot-number.result in
    let w : Waiting g.row.N.Denot = record { token = s.next_token; waiter = c.args.waiter } in
    let new : OpenFetch g.row.N.Denot g.row.R.Denot =
    record { fetch = s.next_fetch; opened = c.args.now; tokens = w ∷ []; later = None } in
    let slots : (n : ℕ) → get c.reserve.new.self n ≡ get s.inflights n = λ n. ap
    (λ (x : Slots (OpenFetch g.row.N.Denot g.row.R.Denot)). get x n) c.reserve.ensures.rest_kept in
    let free : get s.inflights n ≡ None = sym (slots n) ∙ c.next_slot-number.ensures.free in
    let write = put_in_room s.inflights c.reserve.new.self c.insert-2.new.self n c.insert-2.result
    c.in_ok-inflight.inflight new slots (c.insert-2.ensures.next ∙ sym c.next_slot-number.ensures.next)
    c.in_ok-inflight.ensures.made c.insert-2.ensures.slots in
    record {
      linked = lead_linked laws (numbers_in s.index) (numbers_in c.insert.new.self) (get s.inflights)
          (get c.insert-2.new.self) k n s.linked new free c.in_default-insert.ensures.view write;
      sound = lead_open laws (numbers_in s.index) (numbers_in c.insert.new.self) (get s.inflights)
          (get c.insert-2.new.self) k n s.linked new free c.in_default-insert.ensures.view write c.args.now s.next_fetch
          s.next_token w refl refl s.sound;
    }

pub returns-clause-opens : goal.returns-clause-opens
returns-clause-opens g c =
    let s = c.args.self.now in
    let n = c.next_slot-number.result in
    let k : ℕ × g.row.K.Denot = (c.args.hash, c.args.key) in
    let w : Waiting g.row.N.Denot = record { token = s.next_token; waiter = c.args.waiter } in
    let new : OpenFetch g.row.N.Denot g.row.R.Denot =
    record { fetch = s.next_fetch; opened = c.args.now; tokens = w ∷ []; later = None } in
    let slots : (n : ℕ) → get c.reserve.new.self n ≡ get s.inflights n = λ n. ap
    (λ (x : Slots (OpenFetch g.row.N.Denot g.row.R.Denot)). get x n) c.reserve.ensures.rest_kept in
    let write = put_in_room s.inflights c.reserve.new.self c.insert-2.new.self n c.insert-2.result
    c.in_ok-inflight.inflight new slots (c.insert-2.ensures.next ∙ sym c.next_slot-number.ensures.next)
    c.in_ok-inflight.ensures.made c.insert-2.ensures.slots in
    let absent : (opens_of s).by_key k ≡ None = ap (option_and_then (get s.inflights)) c.requires in
    same_opens (opens_by (numbers_in c.insert.new.self) (get c.insert-2.new.self) (s.next_fetch + 1)
    (s.next_token + 1)) (after_enqueue g.K.PartialEq.eq c.args.now (opens_of s) k c.args.waiter c.args.required_fetch_builder)
    (λ q. lead_places g.met.K.Eq.laws (numbers_in s.index) (numbers_in c.insert.new.self) (get s.inflights)
    (get c.insert-2.new.self) k n s.linked new (sym (slots n) ∙ c.next_slot-number.ensures.free)
    c.in_default-insert.ensures.view write q
    ∙ ap (λ (o : Option (OpenFetch g.row.N.Denot g.row.R.Denot)). update (same_key g.K.PartialEq.eq) (opens_of s).by_key k
    (Some (joined o c.args.now s.next_fetch w c.args.required_fetch_builder)) q) (sym absent))
    (ap (λ (o : Option (OpenFetch g.row.N.Denot g.row.R.Denot)). if is_some o then s.next_fetch else s.next_fetch + 1)
    (sym absent)) refl
