use Rattle.std.proofs.Common.{◌≡◌, ◌+◌, ◌-◌, ℕ, Some, cond, max, nat_eq, refl, sym, ◌∙◌, ap, subst, arith, rules}
use Rattle.std.proofs.Math.Logic.{∥∥₁_elim}
use Rattle.std.proofs.Props.{props}
use Rattle.std.specs.Prelude.{is_some}
use Rattle.std.specs.Map.{update}
use Rattle.foyer_policy.specs.declared.types.Item.{Item}
use Rattle.foyer_core.specs.Values.{Kept, Incoming, incoming_of}
use Rattle.foyer_core.specs.Indexer.{same_key}
use Rattle.foyer_core.specs.Stores.{meaning_of}
use Rattle.foyer_core.specs.State.{key_of, item_of}
use Rattle.foyer_core.specs.Stored.{state}
use Rattle.foyer_core.specs.Table.{rec_of}
use Rattle.foyer_core.specs.Records.{slot_in, slot_to, number_of, record_in}
use Rattle.foyer_core.proofs.Counting.{entries_below}
use Rattle.foyer_core.proofs.Holdings.{holding}
use Rattle.foyer_core.proofs.AdmitLemmas.{Admitted, coming_rec, led_not, no_item, reindexed}
use Rattle.foyer_core.proofs.GaveLemmas.{Gave, byte_is, may_give_way, gave, gave_free, gave_push, gave_lighter, gave_fits, gave_admitted}
use Rattle.foyer_core.proofs.store.Store.admit.Goals as goal

pub put-requires-clause-new : goal.put-requires-clause-new
put-requires-clause-new g c κs within q led =
    let s = c.args.self.now in
    let m = meaning_of s in
    let n = c.slot_for-number.result in
    led_not m g.met.K.Eq.laws g.met.E.Eviction.lawful (holding s) n (slot_in s.records n) refl
    (λ r h. c.requires.out r (c.slot_for-number.ensures.here c.args.slot.id (c.stands-stands.ensures
    ∙ ap (number_of s.records) c.id-id.ensures) ∙ h)) q n led refl

pub invariant_of-self : goal.invariant_of-self
invariant_of-self g c =
    let s = c.args.self.now in
    let back = reindexed (meaning_of s) g.met.K.Eq.laws g.met.E.Eviction.lawful (holding s)
    (g.I.Finder.view c.put.new.self) c.in_default.ensures.err in
    record {
      sound = back.kept0;
      stored = back.stored0;
      weighed = s.weighed;
      counted = s.counted;
      numbered = s.numbered;
    }

pub returns-in_default-clause-none : goal.returns-in_default-clause-none
returns-in_default-clause-none g c =
    let s = c.args.self.now in
    let back = reindexed (meaning_of s) g.met.K.Eq.laws g.met.E.Eviction.lawful (holding s)
    (g.I.Finder.view c.put.new.self) c.in_default.ensures.err in
    back.same0

pub returns-in_default-clause-granted : goal.returns-in_default-clause-granted
returns-in_default-clause-granted g c room =
    let s = c.args.self.now in
    let at : c.slot_for-number.result ≡ slot_to s.records (number_of s.records c.args.slot.id) = c.slot_for-number.ensures.slot
    ∙ ap (slot_to s.records) (c.stands-stands.ensures ∙ ap (number_of s.records) c.id-id.ensures) in
    c.in_default.ensures.granted (subst (g.I.Finder.has_room s.index) (sym at) room)

pub give_way-gone-requires : goal.give_way-gone-requires
give_way-gone-requires g c =
    let s = c.args.self.now in
    let lawful = g.met.E.Eviction.lawful in
    let laws = g.met.K.Eq.laws in
    let m = meaning_of s in
    let inc : Incoming g.row.K.Denot g.row.V.Denot g.row.P.Denot = incoming_of c.args.slot in
    let n = c.slot_for-number.result in
    let unled = led_not m laws lawful (holding s) n (slot_in s.records n) refl
    (λ r h. c.requires.out r (c.slot_for-number.ensures.here inc.id (c.stands-stands.ensures
    ∙ ap (number_of s.records) c.id-id.ensures) ∙ h)) in
    let slots1 : (q : ℕ) → slot_in c.put-2.new.self q ≡ update nat_eq (slot_in s.records) n (Some c.args.slot) q =
    subst (λ (x : ℕ). (q : ℕ) → slot_in c.put-2.new.self q ≡ update nat_eq (slot_in s.records) x (Some c.args.slot) q)
    (c.put-2.ensures.slot ∙ sym c.slot_for-number.ensures.slot) c.put-2.ensures.slots in
    let hash : c.hash-hash.result ≡ inc.kept.hash = c.hash-hash.ensures in
    let was : c.slot_under-was.result ≡ g.I.Finder.view s.index (key_of inc.kept) = c.slot_under-was.ensures ∙ ap
    (λ (h : ℕ). g.I.Finder.view s.index (h, c.key-key.result.now)) hash
    ∙ ap (λ (k : g.row.K.Denot). g.I.Finder.view s.index (inc.kept.hash, k)) c.key-key.ensures in
    may_give_way m laws lawful (holding s) inc n unled c.requires.out c.put-2.new.self c.args.slot
    slots1 c.slot_under-was.result was

pub overflow_sub-self : goal.overflow_sub-self
overflow_sub-self g c =
    let s = c.args.self.now in
    let lawful = g.met.E.Eviction.lawful in
    let laws = g.met.K.Eq.laws in
    let m = meaning_of s in
    let inc : Incoming g.row.K.Denot g.row.V.Denot g.row.P.Denot = incoming_of c.args.slot in
    let n = c.slot_for-number.result in
    let unled = led_not m laws lawful (holding s) n (slot_in s.records n) refl
    (λ r h. c.requires.out r (c.slot_for-number.ensures.here inc.id (c.stands-stands.ensures
    ∙ ap (number_of s.records) c.id-id.ensures) ∙ h)) in
    let slots1 : (q : ℕ) → slot_in c.put-2.new.self q ≡ update nat_eq (slot_in s.records) n (Some c.args.slot) q =
    subst (λ (x : ℕ). (q : ℕ) → slot_in c.put-2.new.self q ≡ update nat_eq (slot_in s.records) x (Some c.args.slot) q)
    (c.put-2.ensures.slot ∙ sym c.slot_for-number.ensures.slot) c.put-2.ensures.slots in
    let hash : c.hash-hash.result ≡ inc.kept.hash = c.hash-hash.ensures in
    let was : c.slot_under-was.result ≡ g.I.Finder.view s.index (key_of inc.kept) = c.slot_under-was.ensures ∙ ap
    (λ (h : ℕ). g.I.Finder.view s.index (h, c.key-key.result.now)) hash
    ∙ ap (λ (k : g.row.K.Denot). g.I.Finder.view s.index (inc.kept.hash, k)) c.key-key.ensures in
    let w = c.give_way-gone.ensures in
    let gv : Gave m laws lawful (holding s) inc n unled c.requires.out c.put-2.new.self c.args.slot
    slots1 c.give_way-gone.result.0 c.give_way-gone.result.1 c.give_way-gone.new.records
    (g.E.Eviction.at c.give_way-gone.new.eviction) (g.E.Eviction.view c.give_way-gone.new.eviction) =
    gave m laws lawful (holding s) inc n unled c.requires.out c.put-2.new.self c.args.slot
    slots1 c.slot_under-was.result was c.give_way-gone.result c.give_way-gone.new.records
    (g.E.Eviction.at c.give_way-gone.new.eviction) (g.E.Eviction.view c.give_way-gone.new.eviction)
    w.none w.none_slots w.none_records w.none_places w.some w.some_slots w.some_records w.some_places in
    (gave_lighter m laws lawful (holding s) inc n unled c.requires.out c.put-2.new.self c.args.slot
    slots1 c.give_way-gone.result.0 c.give_way-gone.result.1 c.give_way-gone.new.records
    (g.E.Eviction.at c.give_way-gone.new.eviction) (g.E.Eviction.view c.give_way-gone.new.eviction) gv s.usage
    s.entries s.weighed s.counted).0

pub overflow_sub-self-2 : goal.overflow_sub-self-2
overflow_sub-self-2 g c =
    let s = c.args.self.now in
    let lawful = g.met.E.Eviction.lawful in
    let laws = g.met.K.Eq.laws in
    let m = meaning_of s in
    let inc : Incoming g.row.K.Denot g.row.V.Denot g.row.P.Denot = incoming_of c.args.slot in
    let n = c.slot_for-number.result in
    let unled = led_not m laws lawful (holding s) n (slot_in s.records n) refl
    (λ r h. c.requires.out r (c.slot_for-number.ensures.here inc.id (c.stands-stands.ensures
    ∙ ap (number_of s.records) c.id-id.ensures) ∙ h)) in
    let slots1 : (q : ℕ) → slot_in c.put-2.new.self q ≡ update nat_eq (slot_in s.records) n (Some c.args.slot) q =
    subst (λ (x : ℕ). (q : ℕ) → slot_in c.put-2.new.self q ≡ update nat_eq (slot_in s.records) x (Some c.args.slot) q)
    (c.put-2.ensures.slot ∙ sym c.slot_for-number.ensures.slot) c.put-2.ensures.slots in
    let hash : c.hash-hash.result ≡ inc.kept.hash = c.hash-hash.ensures in
    let was : c.slot_under-was.result ≡ g.I.Finder.view s.index (key_of inc.kept) = c.slot_under-was.ensures ∙ ap
    (λ (h : ℕ). g.I.Finder.view s.index (h, c.key-key.result.now)) hash
    ∙ ap (λ (k : g.row.K.Denot). g.I.Finder.view s.index (inc.kept.hash, k)) c.key-key.ensures in
    let w = c.give_way-gone.ensures in
    let gv : Gave m laws lawful (holding s) inc n unled c.requires.out c.put-2.new.self c.args.slot
    slots1 c.give_way-gone.result.0 c.give_way-gone.result.1 c.give_way-gone.new.records
    (g.E.Eviction.at c.give_way-gone.new.eviction) (g.E.Eviction.view c.give_way-gone.new.eviction) =
    gave m laws lawful (holding s) inc n unled c.requires.out c.put-2.new.self c.args.slot
    slots1 c.slot_under-was.result was c.give_way-gone.result c.give_way-gone.new.records
    (g.E.Eviction.at c.give_way-gone.new.eviction) (g.E.Eviction.view c.give_way-gone.new.eviction)
    w.none w.none_slots w.none_records w.none_places w.some w.some_slots w.some_records w.some_places in
    rw (c.is_some.ensures, byte_is) (gave_lighter m laws lawful (holding s) inc n unled c.requires.out
    c.put-2.new.self c.args.slot slots1 c.give_way-gone.result.0 c.give_way-gone.result.1
    c.give_way-gone.new.records (g.E.Eviction.at c.give_way-gone.new.eviction)
    (g.E.Eviction.view c.give_way-gone.new.eviction) gv s.usage s.entries s.weighed s.counted).1

pub push_at-requires-clause-within : goal.push_at-requires-clause-within
push_at-requires-clause-within g c =
    let stands = c.stands-stands.ensures ∙ ap (number_of c.args.self.now.records) c.id-id.ensures in
    rw (c.at.ensures, c.give_way-gone.ensures.span)
    (omega (arith, c.slot_for-number.ensures.within c.args.slot.id stands, c.requires.places))

pub push_at-requires-clause-free : goal.push_at-requires-clause-free
push_at-requires-clause-free g c =
    let s = c.args.self.now in
    let lawful = g.met.E.Eviction.lawful in
    let laws = g.met.K.Eq.laws in
    let m = meaning_of s in
    let inc : Incoming g.row.K.Denot g.row.V.Denot g.row.P.Denot = incoming_of c.args.slot in
    let n = c.slot_for-number.result in
    let unled = led_not m laws lawful (holding s) n (slot_in s.records n) refl
    (λ r h. c.requires.out r (c.slot_for-number.ensures.here inc.id (c.stands-stands.ensures
    ∙ ap (number_of s.records) c.id-id.ensures) ∙ h)) in
    let slots1 : (q : ℕ) → slot_in c.put-2.new.self q ≡ update nat_eq (slot_in s.records) n (Some c.args.slot) q =
    subst (λ (x : ℕ). (q : ℕ) → slot_in c.put-2.new.self q ≡ update nat_eq (slot_in s.records) x (Some c.args.slot) q)
    (c.put-2.ensures.slot ∙ sym c.slot_for-number.ensures.slot) c.put-2.ensures.slots in
    let hash : c.hash-hash.result ≡ inc.kept.hash = c.hash-hash.ensures in
    let was : c.slot_under-was.result ≡ g.I.Finder.view s.index (key_of inc.kept) = c.slot_under-was.ensures ∙ ap
    (λ (h : ℕ). g.I.Finder.view s.index (h, c.key-key.result.now)) hash
    ∙ ap (λ (k : g.row.K.Denot). g.I.Finder.view s.index (inc.kept.hash, k)) c.key-key.ensures in
    let w = c.give_way-gone.ensures in
    let gv : Gave m laws lawful (holding s) inc n unled c.requires.out c.put-2.new.self c.args.slot
    slots1 c.give_way-gone.result.0 c.give_way-gone.result.1 c.give_way-gone.new.records
    (g.E.Eviction.at c.give_way-gone.new.eviction) (g.E.Eviction.view c.give_way-gone.new.eviction) =
    gave m laws lawful (holding s) inc n unled c.requires.out c.put-2.new.self c.args.slot
    slots1 c.slot_under-was.result was c.give_way-gone.result c.give_way-gone.new.records
    (g.E.Eviction.at c.give_way-gone.new.eviction) (g.E.Eviction.view c.give_way-gone.new.eviction)
    w.none w.none_slots w.none_records w.none_places w.some w.some_slots w.some_records w.some_places in
    let empty = no_item m laws lawful (holding s) n (slot_in s.records n) refl
    (λ r h. c.requires.out r (c.slot_for-number.ensures.here inc.id (c.stands-stands.ensures
    ∙ ap (number_of s.records) c.id-id.ensures) ∙ h)) in
    rw c.at.ensures (gave_free m laws lawful (holding s) inc n unled c.requires.out c.put-2.new.self
    c.args.slot slots1 c.give_way-gone.result.0 c.give_way-gone.result.1
    c.give_way-gone.new.records (g.E.Eviction.at c.give_way-gone.new.eviction)
    (g.E.Eviction.view c.give_way-gone.new.eviction) gv empty)

pub push_at-requires-clause-new_id : goal.push_at-requires-clause-new_id
push_at-requires-clause-new_id g c =
    let s = c.args.self.now in
    let lawful = g.met.E.Eviction.lawful in
    let laws = g.met.K.Eq.laws in
    let m = meaning_of s in
    let inc : Incoming g.row.K.Denot g.row.V.Denot g.row.P.Denot = incoming_of c.args.slot in
    let n = c.slot_for-number.result in
    let unled = led_not m laws lawful (holding s) n (slot_in s.records n) refl
    (λ r h. c.requires.out r (c.slot_for-number.ensures.here inc.id (c.stands-stands.ensures
    ∙ ap (number_of s.records) c.id-id.ensures) ∙ h)) in
    let slots1 : (q : ℕ) → slot_in c.put-2.new.self q ≡ update nat_eq (slot_in s.records) n (Some c.args.slot) q =
    subst (λ (x : ℕ). (q : ℕ) → slot_in c.put-2.new.self q ≡ update nat_eq (slot_in s.records) x (Some c.args.slot) q)
    (c.put-2.ensures.slot ∙ sym c.slot_for-number.ensures.slot) c.put-2.ensures.slots in
    let hash : c.hash-hash.result ≡ inc.kept.hash = c.hash-hash.ensures in
    let was : c.slot_under-was.result ≡ g.I.Finder.view s.index (key_of inc.kept) = c.slot_under-was.ensures ∙ ap
    (λ (h : ℕ). g.I.Finder.view s.index (h, c.key-key.result.now)) hash
    ∙ ap (λ (k : g.row.K.Denot). g.I.Finder.view s.index (inc.kept.hash, k)) c.key-key.ensures in
    let w = c.give_way-gone.ensures in
    let gv : Gave m laws lawful (holding s) inc n unled c.requires.out c.put-2.new.self c.args.slot
    slots1 c.give_way-gone.result.0 c.give_way-gone.result.1 c.give_way-gone.new.records
    (g.E.Eviction.at c.give_way-gone.new.eviction) (g.E.Eviction.view c.give_way-gone.new.eviction) =
    gave m laws lawful (holding s) inc n unled c.requires.out c.put-2.new.self c.args.slot
    slots1 c.slot_under-was.result was c.give_way-gone.result c.give_way-gone.new.records
    (g.E.Eviction.at c.give_way-gone.new.eviction) (g.E.Eviction.view c.give_way-gone.new.eviction)
    w.none w.none_slots w.none_records w.none_places w.some w.some_slots w.some_records w.some_places in
    rw c.id-id.ensures (gave_push m laws lawful (holding s) inc n unled c.requires.out c.put-2.new.self
    c.args.slot slots1 c.give_way-gone.result.0 c.give_way-gone.result.1
    c.give_way-gone.new.records (g.E.Eviction.at c.give_way-gone.new.eviction)
    (g.E.Eviction.view c.give_way-gone.new.eviction) gv c.requires.fits).new

pub push_at-requires-clause-fits : goal.push_at-requires-clause-fits
push_at-requires-clause-fits g c =
    let s = c.args.self.now in
    let lawful = g.met.E.Eviction.lawful in
    let laws = g.met.K.Eq.laws in
    let m = meaning_of s in
    let inc : Incoming g.row.K.Denot g.row.V.Denot g.row.P.Denot = incoming_of c.args.slot in
    let n = c.slot_for-number.result in
    let unled = led_not m laws lawful (holding s) n (slot_in s.records n) refl
    (λ r h. c.requires.out r (c.slot_for-number.ensures.here inc.id (c.stands-stands.ensures
    ∙ ap (number_of s.records) c.id-id.ensures) ∙ h)) in
    let slots1 : (q : ℕ) → slot_in c.put-2.new.self q ≡ update nat_eq (slot_in s.records) n (Some c.args.slot) q =
    subst (λ (x : ℕ). (q : ℕ) → slot_in c.put-2.new.self q ≡ update nat_eq (slot_in s.records) x (Some c.args.slot) q)
    (c.put-2.ensures.slot ∙ sym c.slot_for-number.ensures.slot) c.put-2.ensures.slots in
    let hash : c.hash-hash.result ≡ inc.kept.hash = c.hash-hash.ensures in
    let was : c.slot_under-was.result ≡ g.I.Finder.view s.index (key_of inc.kept) = c.slot_under-was.ensures ∙ ap
    (λ (h : ℕ). g.I.Finder.view s.index (h, c.key-key.result.now)) hash
    ∙ ap (λ (k : g.row.K.Denot). g.I.Finder.view s.index (inc.kept.hash, k)) c.key-key.ensures in
    let w = c.give_way-gone.ensures in
    let gv : Gave m laws lawful (holding s) inc n unled c.requires.out c.put-2.new.self c.args.slot
    slots1 c.give_way-gone.result.0 c.give_way-gone.result.1 c.give_way-gone.new.records
    (g.E.Eviction.at c.give_way-gone.new.eviction) (g.E.Eviction.view c.give_way-gone.new.eviction) =
    gave m laws lawful (holding s) inc n unled c.requires.out c.put-2.new.self c.args.slot
    slots1 c.slot_under-was.result was c.give_way-gone.result c.give_way-gone.new.records
    (g.E.Eviction.at c.give_way-gone.new.eviction) (g.E.Eviction.view c.give_way-gone.new.eviction)
    w.none w.none_slots w.none_records w.none_places w.some w.some_slots w.some_records w.some_places in
    rw c.weight-weight.ensures (gave_push m laws lawful (holding s) inc n unled c.requires.out c.put-2.new.self
    c.args.slot slots1 c.give_way-gone.result.0 c.give_way-gone.result.1
    c.give_way-gone.new.records (g.E.Eviction.at c.give_way-gone.new.eviction)
    (g.E.Eviction.view c.give_way-gone.new.eviction) gv c.requires.fits).fits

pub overflow_add-self : goal.overflow_add-self
overflow_add-self g c =
    let s = c.args.self.now in
    let lawful = g.met.E.Eviction.lawful in
    let laws = g.met.K.Eq.laws in
    let m = meaning_of s in
    let inc : Incoming g.row.K.Denot g.row.V.Denot g.row.P.Denot = incoming_of c.args.slot in
    let n = c.slot_for-number.result in
    let unled = led_not m laws lawful (holding s) n (slot_in s.records n) refl
    (λ r h. c.requires.out r (c.slot_for-number.ensures.here inc.id (c.stands-stands.ensures
    ∙ ap (number_of s.records) c.id-id.ensures) ∙ h)) in
    let slots1 : (q : ℕ) → slot_in c.put-2.new.self q ≡ update nat_eq (slot_in s.records) n (Some c.args.slot) q =
    subst (λ (x : ℕ). (q : ℕ) → slot_in c.put-2.new.self q ≡ update nat_eq (slot_in s.records) x (Some c.args.slot) q)
    (c.put-2.ensures.slot ∙ sym c.slot_for-number.ensures.slot) c.put-2.ensures.slots in
    let hash : c.hash-hash.result ≡ inc.kept.hash = c.hash-hash.ensures in
    let was : c.slot_under-was.result ≡ g.I.Finder.view s.index (key_of inc.kept) = c.slot_under-was.ensures ∙ ap
    (λ (h : ℕ). g.I.Finder.view s.index (h, c.key-key.result.now)) hash
    ∙ ap (λ (k : g.row.K.Denot). g.I.Finder.view s.index (inc.kept.hash, k)) c.key-key.ensures in
    let w = c.give_way-gone.ensures in
    let gv : Gave m laws lawful (holding s) inc n unled c.requires.out c.put-2.new.self c.args.slot
    slots1 c.give_way-gone.result.0 c.give_way-gone.result.1 c.give_way-gone.new.records
    (g.E.Eviction.at c.give_way-gone.new.eviction) (g.E.Eviction.view c.give_way-gone.new.eviction) =
    gave m laws lawful (holding s) inc n unled c.requires.out c.put-2.new.self c.args.slot
    slots1 c.slot_under-was.result was c.give_way-gone.result c.give_way-gone.new.records
    (g.E.Eviction.at c.give_way-gone.new.eviction) (g.E.Eviction.view c.give_way-gone.new.eviction)
    w.none w.none_slots w.none_records w.none_places w.some w.some_slots w.some_records w.some_places in
    rw c.weight-weight.ensures (let f = gave_fits m laws lawful (holding s) inc n unled c.requires.out
    c.put-2.new.self c.args.slot slots1 c.give_way-gone.result.0 c.give_way-gone.result.1
    c.give_way-gone.new.records (g.E.Eviction.at c.give_way-gone.new.eviction)
    (g.E.Eviction.view c.give_way-gone.new.eviction) gv s.usage s.weighed c.requires.fits in search (rules, f))

pub overflow_add-self-2 : goal.overflow_add-self-2
overflow_add-self-2 g c =
    let s = c.args.self.now in
    let lawful = g.met.E.Eviction.lawful in
    let laws = g.met.K.Eq.laws in
    let m = meaning_of s in
    let inc : Incoming g.row.K.Denot g.row.V.Denot g.row.P.Denot = incoming_of c.args.slot in
    let n = c.slot_for-number.result in
    let unled = led_not m laws lawful (holding s) n (slot_in s.records n) refl
    (λ r h. c.requires.out r (c.slot_for-number.ensures.here inc.id (c.stands-stands.ensures
    ∙ ap (number_of s.records) c.id-id.ensures) ∙ h)) in
    let slots1 : (q : ℕ) → slot_in c.put-2.new.self q ≡ update nat_eq (slot_in s.records) n (Some c.args.slot) q =
    subst (λ (x : ℕ). (q : ℕ) → slot_in c.put-2.new.self q ≡ update nat_eq (slot_in s.records) x (Some c.args.slot) q)
    (c.put-2.ensures.slot ∙ sym c.slot_for-number.ensures.slot) c.put-2.ensures.slots in
    let hash : c.hash-hash.result ≡ inc.kept.hash = c.hash-hash.ensures in
    let was : c.slot_under-was.result ≡ g.I.Finder.view s.index (key_of inc.kept) = c.slot_under-was.ensures ∙ ap
    (λ (h : ℕ). g.I.Finder.view s.index (h, c.key-key.result.now)) hash
    ∙ ap (λ (k : g.row.K.Denot). g.I.Finder.view s.index (inc.kept.hash, k)) c.key-key.ensures in
    let w = c.give_way-gone.ensures in
    let gv : Gave m laws lawful (holding s) inc n unled c.requires.out c.put-2.new.self c.args.slot
    slots1 c.give_way-gone.result.0 c.give_way-gone.result.1 c.give_way-gone.new.records
    (g.E.Eviction.at c.give_way-gone.new.eviction) (g.E.Eviction.view c.give_way-gone.new.eviction) =
    gave m laws lawful (holding s) inc n unled c.requires.out c.put-2.new.self c.args.slot
    slots1 c.slot_under-was.result was c.give_way-gone.result c.give_way-gone.new.records
    (g.E.Eviction.at c.give_way-gone.new.eviction) (g.E.Eviction.view c.give_way-gone.new.eviction)
    w.none w.none_slots w.none_records w.none_places w.some w.some_slots w.some_records w.some_places in
    let recs1 : (i : ℕ) → record_in c.put-2.new.self i
    ≡ update nat_eq (record_in s.records) inc.id (Some (coming_rec inc)) i =
    (λ i. c.put-2.ensures.records i ∙ ap (λ (x : Kept g.row.K.Denot g.row.V.Denot g.row.P.Denot). update nat_eq
    (record_in s.records) x.id (Some (rec_of x)) i) c.requires.coming) in
    let led1 : (q : _) → g.I.Finder.view c.put.new.self q
    ≡ update (same_key g.K.PartialEq.eq) (g.I.Finder.view s.index) (key_of inc.kept) (Some n) q =
    (λ q. c.in-Ok.ensures.view q ∙ ap (λ (h : ℕ). update (same_key g.K.PartialEq.eq) (g.I.Finder.view s.index)
    (h, c.key-key.result.now) (Some n) q) hash ∙ ap (λ (k : g.row.K.Denot). update (same_key g.K.PartialEq.eq)
    (g.I.Finder.view s.index) (inc.kept.hash, k) (Some n) q) c.key-key.ensures) in
    let item : (let i : Item = record {
      id = c.id-id.result;
      hash = c.hash-hash.result;
      weight =
          c.weight-weight.result;
      hint = c.unwrap_or-hint.result;
      expires = c.expiry-expires.result;
    } in i) ≡ item_of m inc.id inc.kept =
    (rw (
      c.id-id.ensures,
      c.hash-hash.ensures,
      c.weight-weight.ensures,
      c.unwrap_or-hint.ensures,
      c.hint.ensures,
      c.properties.ensures,
      c.expiry-expires.ensures,
      c.properties-2.ensures,
    ) refl) in
    let done : Admitted m laws lawful (holding s) inc n unled c.requires.out c.give_way-gone.result.1
    (s.usage - c.give_way-gone.result.0) (s.entries - cond (is_some c.give_way-gone.result.1) 1 0)
    (g.E.Eviction.view c.push_at.new.self) (g.I.Finder.view c.put.new.self) c.give_way-gone.new.records
    (g.E.Eviction.at c.push_at.new.self) (max s.next (inc.id + 1)) =
    gave_admitted m laws lawful (holding s) inc n unled c.requires.out c.put-2.new.self c.args.slot
    slots1 c.give_way-gone.result.0 c.give_way-gone.result.1 c.give_way-gone.new.records
    (g.E.Eviction.at c.give_way-gone.new.eviction) (g.E.Eviction.view c.give_way-gone.new.eviction) gv
    c.requires.coming (g.I.Finder.view c.put.new.self)
    (g.E.Eviction.at c.push_at.new.self) (g.E.Eviction.view c.push_at.new.self) (max s.next (inc.id + 1))
    recs1 led1 (rw c.at.ensures at c.push_at.ensures.here ∙ ap (λ (i : Item). Some i) item)
    (rw c.at.ensures at c.push_at.ensures.others) (c.push_at.ensures.view ∙ ap
    (g.E.Eviction.model.push (g.E.Eviction.view c.give_way-gone.new.eviction)) item)
    refl c.requires.plain c.requires.held c.requires.handles c.requires.fits s.usage s.entries s.weighed s.counted in
    let few = ∥∥₁_elim done.kept3 (hlevel props) (λ k. entries_below m laws lawful
    (state s.number s.capacity s.limits (g.E.Eviction.view c.push_at.new.self) (g.I.Finder.view c.put.new.self)
    c.give_way-gone.new.records (max s.next (inc.id + 1))) k) in
    rw (c.is_some.ensures, byte_is) (omega (arith, done.counted3, few, c.requires.number))

pub above-self-requires : goal.above-self-requires
above-self-requires g c = rw c.id-id.ensures (omega (arith, c.requires.number))

pub invariant_of-self-2 : goal.invariant_of-self-2
invariant_of-self-2 g c =
    let s = c.args.self.now in
    let lawful = g.met.E.Eviction.lawful in
    let laws = g.met.K.Eq.laws in
    let m = meaning_of s in
    let inc : Incoming g.row.K.Denot g.row.V.Denot g.row.P.Denot = incoming_of c.args.slot in
    let n = c.slot_for-number.result in
    let unled = led_not m laws lawful (holding s) n (slot_in s.records n) refl
    (λ r h. c.requires.out r (c.slot_for-number.ensures.here inc.id (c.stands-stands.ensures
    ∙ ap (number_of s.records) c.id-id.ensures) ∙ h)) in
    let slots1 : (q : ℕ) → slot_in c.put-2.new.self q ≡ update nat_eq (slot_in s.records) n (Some c.args.slot) q =
    subst (λ (x : ℕ). (q : ℕ) → slot_in c.put-2.new.self q ≡ update nat_eq (slot_in s.records) x (Some c.args.slot) q)
    (c.put-2.ensures.slot ∙ sym c.slot_for-number.ensures.slot) c.put-2.ensures.slots in
    let hash : c.hash-hash.result ≡ inc.kept.hash = c.hash-hash.ensures in
    let was : c.slot_under-was.result ≡ g.I.Finder.view s.index (key_of inc.kept) = c.slot_under-was.ensures ∙ ap
    (λ (h : ℕ). g.I.Finder.view s.index (h, c.key-key.result.now)) hash
    ∙ ap (λ (k : g.row.K.Denot). g.I.Finder.view s.index (inc.kept.hash, k)) c.key-key.ensures in
    let w = c.give_way-gone.ensures in
    let gv : Gave m laws lawful (holding s) inc n unled c.requires.out c.put-2.new.self c.args.slot
    slots1 c.give_way-gone.result.0 c.give_way-gone.result.1 c.give_way-gone.new.records
    (g.E.Eviction.at c.give_way-gone.new.eviction) (g.E.Eviction.view c.give_way-gone.new.eviction) =
    gave m laws lawful (holding s) inc n unled c.requires.out c.put-2.new.self c.args.slot
    slots1 c.slot_under-was.result was c.give_way-gone.result c.give_way-gone.new.records
    (g.E.Eviction.at c.give_way-gone.new.eviction) (g.E.Eviction.view c.give_way-gone.new.eviction)
    w.none w.none_slots w.none_records w.none_places w.some w.some_slots w.some_records w.some_places in
    let recs1 : (i : ℕ) → record_in c.put-2.new.self i
    ≡ update nat_eq (record_in s.records) inc.id (Some (coming_rec inc)) i =
    (λ i. c.put-2.ensures.records i ∙ ap (λ (x : Kept g.row.K.Denot g.row.V.Denot g.row.P.Denot). update nat_eq
    (record_in s.records) x.id (Some (rec_of x)) i) c.requires.coming) in
    let led1 : (q : _) → g.I.Finder.view c.put.new.self q
    ≡ update (same_key g.K.PartialEq.eq) (g.I.Finder.view s.index) (key_of inc.kept) (Some n) q =
    (λ q. c.in-Ok.ensures.view q ∙ ap (λ (h : ℕ). update (same_key g.K.PartialEq.eq) (g.I.Finder.view s.index)
    (h, c.key-key.result.now) (Some n) q) hash ∙ ap (λ (k : g.row.K.Denot). update (same_key g.K.PartialEq.eq)
    (g.I.Finder.view s.index) (inc.kept.hash, k) (Some n) q) c.key-key.ensures) in
    let item : (let i : Item = record {
      id = c.id-id.result;
      hash = c.hash-hash.result;
      weight =
          c.weight-weight.result;
      hint = c.unwrap_or-hint.result;
      expires = c.expiry-expires.result;
    } in i) ≡ item_of m inc.id inc.kept =
    (rw (
      c.id-id.ensures,
      c.hash-hash.ensures,
      c.weight-weight.ensures,
      c.unwrap_or-hint.ensures,
      c.hint.ensures,
      c.properties.ensures,
      c.expiry-expires.ensures,
      c.properties-2.ensures,
    ) refl) in
    let done : Admitted m laws lawful (holding s) inc n unled c.requires.out c.give_way-gone.result.1
    (s.usage - c.give_way-gone.result.0) (s.entries - cond (is_some c.give_way-gone.result.1) 1 0)
    (g.E.Eviction.view c.push_at.new.self) (g.I.Finder.view c.put.new.self) c.give_way-gone.new.records
    (g.E.Eviction.at c.push_at.new.self) c.above-self.result =
    gave_admitted m laws lawful (holding s) inc n unled c.requires.out c.put-2.new.self c.args.slot
    slots1 c.give_way-gone.result.0 c.give_way-gone.result.1 c.give_way-gone.new.records
    (g.E.Eviction.at c.give_way-gone.new.eviction) (g.E.Eviction.view c.give_way-gone.new.eviction) gv
    c.requires.coming (g.I.Finder.view c.put.new.self)
    (g.E.Eviction.at c.push_at.new.self) (g.E.Eviction.view c.push_at.new.self) c.above-self.result recs1 led1
    (rw c.at.ensures at c.push_at.ensures.here ∙ ap (λ (i : Item). Some i) item)
    (rw c.at.ensures at c.push_at.ensures.others) (c.push_at.ensures.view ∙ ap
    (g.E.Eviction.model.push (g.E.Eviction.view c.give_way-gone.new.eviction)) item)
    (c.above-self.ensures ∙ ap (λ (a : ℕ). max s.next (a + 1)) c.id-id.ensures) c.requires.plain c.requires.held
    c.requires.handles c.requires.fits s.usage s.entries s.weighed s.counted in
    let few = ∥∥₁_elim done.kept3 (hlevel props) (λ k. entries_below m laws lawful
    (state s.number s.capacity s.limits (g.E.Eviction.view c.push_at.new.self) (g.I.Finder.view c.put.new.self)
    c.give_way-gone.new.records c.above-self.result) k) in
    record {
      sound = done.kept3;
      stored = done.stored3;
      weighed = rw c.weight-weight.ensures done.weighed3;
      counted = rw (c.is_some.ensures, byte_is) done.counted3;
      numbered = rw (c.is_some.ensures, byte_is) (omega (arith, done.counted3, few));
    }

pub returns-clause-admitted : goal.returns-clause-admitted
returns-clause-admitted g c =
    let s = c.args.self.now in
    let lawful = g.met.E.Eviction.lawful in
    let laws = g.met.K.Eq.laws in
    let m = meaning_of s in
    let inc : Incoming g.row.K.Denot g.row.V.Denot g.row.P.Denot = incoming_of c.args.slot in
    let n = c.slot_for-number.result in
    let unled = led_not m laws lawful (holding s) n (slot_in s.records n) refl
    (λ r h. c.requires.out r (c.slot_for-number.ensures.here inc.id (c.stands-stands.ensures
    ∙ ap (number_of s.records) c.id-id.ensures) ∙ h)) in
    let slots1 : (q : ℕ) → slot_in c.put-2.new.self q ≡ update nat_eq (slot_in s.records) n (Some c.args.slot) q =
    subst (λ (x : ℕ). (q : ℕ) → slot_in c.put-2.new.self q ≡ update nat_eq (slot_in s.records) x (Some c.args.slot) q)
    (c.put-2.ensures.slot ∙ sym c.slot_for-number.ensures.slot) c.put-2.ensures.slots in
    let hash : c.hash-hash.result ≡ inc.kept.hash = c.hash-hash.ensures in
    let was : c.slot_under-was.result ≡ g.I.Finder.view s.index (key_of inc.kept) = c.slot_under-was.ensures ∙ ap
    (λ (h : ℕ). g.I.Finder.view s.index (h, c.key-key.result.now)) hash
    ∙ ap (λ (k : g.row.K.Denot). g.I.Finder.view s.index (inc.kept.hash, k)) c.key-key.ensures in
    let w = c.give_way-gone.ensures in
    let gv : Gave m laws lawful (holding s) inc n unled c.requires.out c.put-2.new.self c.args.slot
    slots1 c.give_way-gone.result.0 c.give_way-gone.result.1 c.give_way-gone.new.records
    (g.E.Eviction.at c.give_way-gone.new.eviction) (g.E.Eviction.view c.give_way-gone.new.eviction) =
    gave m laws lawful (holding s) inc n unled c.requires.out c.put-2.new.self c.args.slot
    slots1 c.slot_under-was.result was c.give_way-gone.result c.give_way-gone.new.records
    (g.E.Eviction.at c.give_way-gone.new.eviction) (g.E.Eviction.view c.give_way-gone.new.eviction)
    w.none w.none_slots w.none_records w.none_places w.some w.some_slots w.some_records w.some_places in
    let recs1 : (i : ℕ) → record_in c.put-2.new.self i
    ≡ update nat_eq (record_in s.records) inc.id (Some (coming_rec inc)) i =
    (λ i. c.put-2.ensures.records i ∙ ap (λ (x : Kept g.row.K.Denot g.row.V.Denot g.row.P.Denot). update nat_eq
    (record_in s.records) x.id (Some (rec_of x)) i) c.requires.coming) in
    let led1 : (q : _) → g.I.Finder.view c.put.new.self q
    ≡ update (same_key g.K.PartialEq.eq) (g.I.Finder.view s.index) (key_of inc.kept) (Some n) q =
    (λ q. c.in-Ok.ensures.view q ∙ ap (λ (h : ℕ). update (same_key g.K.PartialEq.eq) (g.I.Finder.view s.index)
    (h, c.key-key.result.now) (Some n) q) hash ∙ ap (λ (k : g.row.K.Denot). update (same_key g.K.PartialEq.eq)
    (g.I.Finder.view s.index) (inc.kept.hash, k) (Some n) q) c.key-key.ensures) in
    let item : (let i : Item = record {
      id = c.id-id.result;
      hash = c.hash-hash.result;
      weight =
          c.weight-weight.result;
      hint = c.unwrap_or-hint.result;
      expires = c.expiry-expires.result;
    } in i) ≡ item_of m inc.id inc.kept =
    (rw (
      c.id-id.ensures,
      c.hash-hash.ensures,
      c.weight-weight.ensures,
      c.unwrap_or-hint.ensures,
      c.hint.ensures,
      c.properties.ensures,
      c.expiry-expires.ensures,
      c.properties-2.ensures,
    ) refl) in
    let done : Admitted m laws lawful (holding s) inc n unled c.requires.out c.give_way-gone.result.1
    (s.usage - c.give_way-gone.result.0) (s.entries - cond (is_some c.give_way-gone.result.1) 1 0)
    (g.E.Eviction.view c.push_at.new.self) (g.I.Finder.view c.put.new.self) c.give_way-gone.new.records
    (g.E.Eviction.at c.push_at.new.self) c.above-self.result =
    gave_admitted m laws lawful (holding s) inc n unled c.requires.out c.put-2.new.self c.args.slot
    slots1 c.give_way-gone.result.0 c.give_way-gone.result.1 c.give_way-gone.new.records
    (g.E.Eviction.at c.give_way-gone.new.eviction) (g.E.Eviction.view c.give_way-gone.new.eviction) gv
    c.requires.coming (g.I.Finder.view c.put.new.self)
    (g.E.Eviction.at c.push_at.new.self) (g.E.Eviction.view c.push_at.new.self) c.above-self.result recs1 led1
    (rw c.at.ensures at c.push_at.ensures.here ∙ ap (λ (i : Item). Some i) item)
    (rw c.at.ensures at c.push_at.ensures.others) (c.push_at.ensures.view ∙ ap
    (g.E.Eviction.model.push (g.E.Eviction.view c.give_way-gone.new.eviction)) item)
    (c.above-self.ensures ∙ ap (λ (a : ℕ). max s.next (a + 1)) c.id-id.ensures) c.requires.plain c.requires.held
    c.requires.handles c.requires.fits s.usage s.entries s.weighed s.counted in
    done.admits
