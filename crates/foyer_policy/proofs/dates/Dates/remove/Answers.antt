use Rattle.std.proofs.Common.{◌<◌, [], inl, inr, sym, arith, length, get_or}
use Rattle.std.proofs.lemmas.List.{get_or_read, get_or-set_same, get_or-set_other}
use Rattle.foyer_policy.proofs.ListsLemmas.{same_or_not}
use Rattle.foyer_policy.proofs.PlaceLemmas.{drop_place-free}
use Rattle.foyer_policy.proofs.dates.Dates.remove.Goals as goal

-- of a list that is not kept
pub returns-then-list-len-clause-gone : goal.returns-then-list-len-clause-gone
returns-then-list-len-clause-gone c =
    let q = rw (← c.self.view_is) at c.requires in
    rw (← c.self.view_is)
    (λ k less. sym (drop_place-free c.args.place _ (q.others k less (λ e. absurd (omega (arith, e, less))))))

pub returns-clause-gone : goal.returns-clause-gone
returns-clause-gone c =
    let rows = c.self.inside.rows.items in
    let list = c.args.list in
    let q = rw (← c.self.view_is) at c.requires in
    let within : list < length rows = omega arith in
    let read = get_or_read rows _ _ within c.index_mut.ensures.value [] in
    rw (← c.self.view_is)
    (λ k less. elim (same_or_not k list) [
      | inl e ↦ rw (e, get_or-set_same rows list c.take_out.new.self [] within, ← read) c.take_out.ensures
      | inr ne ↦
          rw (get_or-set_other rows list k c.take_out.new.self [] ne)
          (sym (drop_place-free c.args.place (get_or rows k []) (q.others k less ne)))
    ])
