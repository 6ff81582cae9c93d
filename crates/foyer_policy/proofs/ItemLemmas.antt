-- The laws of lists of items, for proofs above this crate.
pub use Rattle.foyer_policy.specs.ItemLaws.{one_if, count-cons, count-same, count-other, new-head, new-tail, new-cons, once-head, once-tail, once-remove_id, once-snoc, found-id, sum-remove_id, found-where}
