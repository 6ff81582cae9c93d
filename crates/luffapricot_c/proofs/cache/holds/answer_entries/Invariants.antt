use Rattle.std.proofs.Common.{◌≡◌, reverse, vec_len}
use Rattle.luffapricot_c.specs.Holds.{given_each}
use Rattle.luffapricot_c.proofs.cache.holds.answer_entries.Given as goal

abbrev pub decreases-loop-entry : goal.decreases-loop-entry
decreases-loop-entry l = vec_len l.entries

-- what is left to give comes to what there was to give
abbrev pub invariant-loop-entry : goal.invariant-loop-entry
invariant-loop-entry l = given_each (reverse l.waiters.items) (reverse l.entries.items) l.holds
    ≡ given_each (reverse l.fn.waiters.items) (reverse l.fn.entries.items) l.fn.holds
