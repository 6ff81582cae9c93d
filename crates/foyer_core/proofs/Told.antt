-- Lists of leaves that go on.
use Rattle.std.proofs.Common.{List, [], ◌∷◌, ◌++◌, sym, ◌∙◌, ap, subst, append_assoc, append-nil}
use Rattle.foyer_policy.specs.declared.types.Event.{Event}
use Rattle.foyer_core.specs.Values.{Gone}
use Rattle.foyer_core.specs.Bulk.{GoesOn}

module _ {K V P : Type 0} where
  -- nothing more
  pub goes_start : (old : List (Event × Gone K V P)) (So : List (Event × Gone K V P) → Type 0) → So [] →
      GoesOn old old So
  goes_start old So h = record { more = []; told = sym (append-nil old); so = h }

  -- one leave more
  pub goes_more : (old mid : List (Event × Gone K V P)) (So So' : List (Event × Gone K V P) → Type 0)
      (l : Event × Gone K V P) → ((ls : List (Event × Gone K V P)) → So ls → So' (ls ++ l ∷ [])) → GoesOn old mid So →
      GoesOn old (mid ++ l ∷ []) So'
  goes_more old mid So So' l step h = record {
    more = h.more ++ l ∷ [];
    told = ap (λ (x : List (Event × Gone K V P)). x ++ l ∷ []) h.told ∙ append_assoc old h.more (l ∷ []);
    so = step h.more h.so;
  }

  -- what follows of the leaves
  pub goes_so : (old new : List (Event × Gone K V P)) (So So' : List (Event × Gone K V P) → Type 0) →
      ((ls : List (Event × Gone K V P)) → So ls → So' ls) → GoesOn old new So → GoesOn old new So'
  goes_so old new So So' step h = record { more = h.more; told = h.told; so = step h.more h.so }

  -- further leaves
  pub goes_on : (old mid new : List (Event × Gone K V P)) (So Next So' : List (Event × Gone K V P) → Type 0)
      → ((ls more : List (Event × Gone K V P)) → So ls → Next more → So' (ls ++ more)) → GoesOn old mid So →
      GoesOn mid new Next → GoesOn old new So'
  goes_on old mid new So Next So' step h next = record {
    more = h.more ++ next.more;
    told = next.told ∙ ap (λ (x : List (Event × Gone K V P)). x ++ next.more) h.told
        ∙ append_assoc old h.more next.more;
    so = step h.more next.more h.so next.so;
  }

  -- the leaves that a list has which was empty
  pub goes_all : (new : List (Event × Gone K V P)) (So : List (Event × Gone K V P) → Type 0) → GoesOn [] new So → So new
  goes_all new So h = subst So (sym h.told) h.so
