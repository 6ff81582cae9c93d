use Rattle.std.proofs.Common.{◌≡◌, ◌∙◌, ℕ, ◌+◌, Some, length, replicate, sym, ap}
use Rattle.std.proofs.Math.Logic.{∥∥₁_map}
use Rattle.foyer_core.specs.Inflight.{waiters_of}
use Rattle.foyer_core.specs.Inflights.{opens_of}
use Rattle.foyer_core.specs.State.{at_moment, key_of}
use Rattle.foyer_core.specs.Stores.{meaning_of, state_of}
use Rattle.foyer_core.proofs.Moments.{kept_at}
use Rattle.foyer_core.proofs.PieceComing.{came_apart, came_under, denied_apart}
use Rattle.foyer_core.proofs.shard.Shard.emplace_piece.Goals as goal

pub invariant_of-self : goal.invariant_of-self
invariant_of-self g c =
    let s = c.args.self.now in
    let went = c.in-Ok.ensures.inserted in
    record {
      apart = came_apart (at_moment c.args.now (meaning_of s.store)) (state_of s.store) (state_of c.emplace_piece.new.self) c.args.hash
          c.args.piece (1 + c.further_of-further.result.count) (λ w. w ≡ c.args.weight)
          (∥∥₁_map s.store.sound (kept_at (meaning_of s.store) c.args.now (state_of s.store))) (opens_of s.inflights)
          s.apart
          record { entry = c.in-Ok.made.entry; leaves = went.more } went.so (opens_of c.answers-answers.new.self)
          c.answers-answers.ensures.closed;
    }

pub invariant_of-self-in-Err-1 : goal.invariant_of-self-in-Err-1
invariant_of-self-in-Err-1 g c =
    let s = c.args.self.now in
    let went = c.in-Err.ensures.inserted in
    record {
      apart = denied_apart (at_moment c.args.now (meaning_of s.store)) (state_of s.store) (state_of c.emplace_piece.new.self) c.args.hash
          c.args.piece (1 + c.further_of-further.result.count) (λ w. w ≡ c.args.weight)
          (∥∥₁_map s.store.sound (kept_at (meaning_of s.store) c.args.now (state_of s.store))) (opens_of s.inflights)
          s.apart
          record { reason = c.in-Err.error; leaves = went.more } went.so;
    }

pub returns-in-Ok-clause-inserted : goal.returns-in-Ok-clause-inserted
returns-in-Ok-clause-inserted g c = rw c.further_of-further.ensures.count at c.in-Ok.ensures.inserted

pub returns-in-Err-clause-inserted : goal.returns-in-Err-clause-inserted
returns-in-Err-clause-inserted g c = rw c.further_of-further.ensures.count at c.in-Err.ensures.inserted

pub returns-in-Ok-clause-answers : goal.returns-in-Ok-clause-answers
returns-in-Ok-clause-answers g c =
    let s = c.args.self.now in
    let f = opens_of s.inflights in
    let went = c.in-Ok.ensures.inserted in
    let under = came_under (at_moment c.args.now (meaning_of s.store)) (state_of s.store) (state_of c.emplace_piece.new.self) c.args.hash
    c.args.piece (1 + c.further_of-further.result.count) (λ w. w ≡ c.args.weight)
    record { entry = c.in-Ok.made.entry; leaves = went.more } went.so in
    let many : c.further_of-further.result.count ≡ length (waiters_of (f.by_key (key_of c.in-Ok.made.entry.kept))) =
    c.further_of-further.ensures.count
    ∙ ap (λ (k : ℕ × g.row.K.Denot). length (waiters_of (f.by_key k))) (sym under) in (
      c.answers-answers.ensures.waiters,
      c.answers-answers.ensures.entries
          ∙ ap Some (c.in-Ok.ensures.others ∙ ap (λ (n : ℕ). replicate n c.in-Ok.made.entry) many),
    )
