-- States with the same fields are one.
use Rattle.std.proofs.Common.{◌≡◌, ℕ, Option, ap, ◌∙◌}
use Rattle.std.proofs.Math.Path.{fun_ext, ap₂}
use Rattle.foyer_core.specs.Values.{Rec}
use Rattle.foyer_core.specs.State.{State}

-- s with another view, index and records
abbrev pub with_all : {K V P View : Type 0} → State K V P View → View → (ℕ × K → Option ℕ) → (ℕ → Option (Rec K V P))
    → State K V P View
with_all s v f h = record s { view = v; index = f; records = h }

pub same_all : {K V P View : Type 0} (s : State K V P View) (v w : View) (f g : ℕ × K → Option ℕ)
    (h k : ℕ → Option (Rec K V P))
    → v ≡ w → ((q : ℕ × K) → f q ≡ g q) → ((id : ℕ) → h id ≡ k id) → with_all s v f h ≡ with_all s w g k
same_all s v w f g h k e i r = ap (λ x. with_all s x f h) e ∙ ap₂ (λ x y. with_all s w x y) (fun_ext i) (fun_ext r)

pub same_state : {K V P View : Type 0} (s t : State K V P View) → s.number ≡ t.number → s.capacity ≡ t.capacity →
    s.limits ≡ t.limits → s.view ≡ t.view
    → ((q : ℕ × K) → s.index q ≡ t.index q) → ((id : ℕ) → s.records id ≡ t.records id) → s.next ≡ t.next → s ≡ t
same_state {K} {V} {P} {View} s t number capacity limits view index records next =
    let f : s.index ≡ t.index = fun_ext index in
    let h : s.records ≡ t.records = fun_ext records in
    λ i. record {
      number = number i;
      capacity = capacity i;
      limits = limits i;
      view = view i;
      index = f i;
      records = h i;
      next = next i;
    }
