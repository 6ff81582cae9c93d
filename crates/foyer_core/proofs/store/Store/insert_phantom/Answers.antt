use Rattle.std.proofs.Common.{◌≡◌, ◌∷◌, [], ◌++◌, refl, sym, subst, append_assoc, append-nil}
use Rattle.foyer_policy.specs.declared.error.Reason.TheVariants.{NoMemory}
use Rattle.foyer_policy.specs.declared.types.Event.TheVariants.{Remove}
use Rattle.foyer_core.specs.Values.{Incoming, incoming_of}
use Rattle.foyer_core.specs.State.{at_moment, key_of}
use Rattle.foyer_core.specs.Steps.{replaced_leaves, GivesWay, RefusesPhantom}
use Rattle.foyer_core.specs.Stores.{meaning_of, state_of}
use Rattle.foyer_core.proofs.LeaveLemmas.{way-out}
use Rattle.foyer_core.proofs.Moments.{way_at}
use Rattle.foyer_core.proofs.Phantoms.{way_rests, phantom_came}
use Rattle.foyer_core.proofs.Told.{goes_start}
use Rattle.foyer_core.proofs.store.Store.insert_phantom.Goals as goal
use Rattle.foyer_core.proofs.store.Store.insert_phantom.Goals.{in-Some, in_default-make_way}

pub hold-requires-clause-out : goal.hold-requires-clause-out
hold-requires-clause-out g c κs within =
    let s = c.args.self.now in
    let m = meaning_of s in
    let inc : Incoming g.row.K.Denot g.row.V.Denot g.row.P.Denot = incoming_of c.args.slot in
    let way : GivesWay m ((state_of s).index (key_of inc.kept)) (state_of s) (replaced_leaves c.make_way.result)
    (state_of c.make_way.new.self) =
    subst (λ st. GivesWay m (st.index (key_of inc.kept)) st (replaced_leaves c.make_way.result)
    (state_of c.make_way.new.self)) c.in-Ok.ensures.same
    (rw (c.hash.ensures, c.key.ensures) at c.make_way.ensures.gives_way) in
    way-out m ((state_of s).index (key_of inc.kept)) (state_of s) (replaced_leaves c.make_way.result)
    (state_of c.make_way.new.self) way inc.id c.requires.out

pub hold-requires-clause-handles : goal.hold-requires-clause-handles
hold-requires-clause-handles g c κs within =
    let s = c.args.self.now in
    let m = meaning_of s in
    let inc : Incoming g.row.K.Denot g.row.V.Denot g.row.P.Denot = incoming_of c.args.slot in
    let way : GivesWay m ((state_of s).index (key_of inc.kept)) (state_of s) (replaced_leaves c.make_way.result)
    (state_of c.make_way.new.self) =
    subst (λ st. GivesWay m (st.index (key_of inc.kept)) st (replaced_leaves c.make_way.result)
    (state_of c.make_way.new.self)) c.in-Ok.ensures.same
    (rw (c.hash.ensures, c.key.ensures) at c.make_way.ensures.gives_way) in
    let rests = way_rests m (state_of s) inc c.make_way.result (state_of c.make_way.new.self) way g.met.K.Eq.laws
    g.met.E.Eviction.lawful in
    rw rests.limits c.requires.may.1

pub returns : goal.returns
returns g c =
    let s = c.args.self.now in
    let m = meaning_of s in
    let inc : Incoming g.row.K.Denot g.row.V.Denot g.row.P.Denot = incoming_of c.args.slot in
    let way : GivesWay m ((state_of s).index (key_of inc.kept)) (state_of s) (replaced_leaves c.make_way.result)
    (state_of c.make_way.new.self) =
    subst (λ st. GivesWay m (st.index (key_of inc.kept)) st (replaced_leaves c.make_way.result)
    (state_of c.make_way.new.self)) c.in-Ok.ensures.same
    (rw (c.hash.ensures, c.key.ensures) at c.make_way.ensures.gives_way) in
    let old = c.args.leaves.now.items in
    let first : c.match-make_way.leaves.items ≡ old ++ replaced_leaves c.make_way.result =
    elim c.match-make_way.branch [
      | in-Some w ↦ rw (w.leaves-is, w.push_reserved.ensures.items, w.in-Some.is, c.in-Ok.ensures.leaves) refl
      | in_default-make_way w ↦ rw (w.leaves-is, w.in_default-make_way.is, c.in-Ok.ensures.leaves)
          (sym (append-nil old))
    ] in
    let more = replaced_leaves c.make_way.result
    ++ (Remove, record { number = s.number; id = inc.id; kept = inc.kept }) ∷ [] in
    let leaves : c.push_reserved-2.new.self.items ≡ old ++ more =
    rw (c.push_reserved-2.ensures.items, first, c.in-Ok.ensures.gone)
    (append_assoc old (replaced_leaves c.make_way.result)
    ((Remove, record { number = s.number; id = inc.id; kept = inc.kept }) ∷ [])) in
    record {
      inserted = λ now source. rw c.hold.ensures
          (record {
            more = more;
            told = leaves;
            so =
                phantom_came (at_moment now m) (state_of s) inc c.make_way.result (state_of c.make_way.new.self)
                (way_at m now ((state_of s).index (key_of inc.kept)) (state_of s) (replaced_leaves c.make_way.result)
                (state_of c.make_way.new.self) way) source c.requires.may more refl;
          });
    }

pub returns-in_default : goal.returns-in_default
returns-in_default g c =
    let s = c.args.self.now in
    let m = meaning_of s in
    let inc : Incoming g.row.K.Denot g.row.V.Denot g.row.P.Denot = incoming_of c.args.slot in
    record {
      inserted = λ now _. rw (c.in_default.ensures.leaves, c.in_default.ensures.same)
          (goes_start c.args.leaves.now.items (λ ls. RefusesPhantom (at_moment now m) (state_of s) inc NoMemory ls (state_of s))
          (c.requires.may, refl, refl));
    }
