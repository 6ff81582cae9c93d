use Rattle.std.proofs.Common.{◌≡◌, reverse, vec_len}
use Rattle.luffapricot_c.specs.Holds.{given_all}
use Rattle.luffapricot_c.proofs.cache.holds.answer_refusal.Given as goal

abbrev pub decreases-loop-waiting : goal.decreases-loop-waiting
decreases-loop-waiting l = vec_len l.waiters

-- what is left to give comes to what there was to give
abbrev pub invariant-loop-waiting : goal.invariant-loop-waiting
invariant-loop-waiting l = given_all (reverse l.waiters.items) l.fn.status l.holds
    ≡ given_all (reverse l.fn.waiters.items) l.fn.status l.fn.holds
