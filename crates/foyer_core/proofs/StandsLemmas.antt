-- A slot to which an id leads: its record, and whether that is in the policy's order.
use Rattle.std.proofs.Common.{◌≡◌, ℕ, ◌<◌, Some, true, ap, subst, sym, ◌∙◌}
use Rattle.std.proofs.Math.Logic.{∥∥₁_elim}
use Rattle.std.proofs.Props.{props}
use Rattle.std.specs.Prelude.{is_some}
use Rattle.foyer_policy.specs.Items.{count_of}
use Rattle.foyer_core.specs.Values.{Kept}
use Rattle.foyer_core.specs.Table.{rec_of}
use Rattle.foyer_core.specs.Records.{slot_in, number_of}
use Rattle.foyer_core.specs.State.{Meaning}
use Rattle.foyer_core.proofs.ShardLemmas.{Holding, now_of}
use Rattle.foyer_core.proofs.StoredLemmas.{slot_record}
use Rattle.foyer_core.proofs.TableLemmas.{id_by-some, id_by-there}

some_number : (a b : ℕ) → Some a ≡ Some b → a ≡ b
some_number a b h = cc

module _ {K V P View C : Type 0} (m : Meaning K P View C) (o : Holding V m) (id n : ℕ)
    (known : number_of o.t id ≡ Some n) where
  pub stands_there : is_some (slot_in o.t n) ≡ true
  stands_there = id_by-there (slot_in o.t) n id (o.t.agree.named id n known)

  module _ (x : Kept K V P) (there : slot_in o.t n ≡ Some x) where
    pub stands_record : (now_of o).records id ≡ Some (rec_of x)
    stands_record =
        let same : x.id ≡ id = some_number x.id id (sym (id_by-some (slot_in o.t) n x there)
        ∙ o.t.agree.named id n known) in
        subst (λ (j : ℕ). (now_of o).records j ≡ Some (rec_of x)) same (slot_record m o.at o.keys o.t n x there)

    pub resident_counted : x.resident ≡ true → 0 < count_of id (m.policy.order o.view)
    resident_counted res = ∥∥₁_elim o.sound (hlevel props) (λ k. k.resident id (rec_of x) stands_record res)
