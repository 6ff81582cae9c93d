-- The hash set of a ghost queue, as a set.
use Rattle.std.proofs.Common.{◌≡◌, ◌≢◌, ℕ, ◌-◌, ◌<◌, rules, Bool, true, false, cond, List, [], ◌∷◌, refl, sym, ◌∙◌, ap, arith}
use Rattle.std.specs.Prelude.{◌==◌, ◌&&◌, ◌||◌, not, nat_eq, Result, Ok, Err, IsOk, OnOk}
use Rattle.std.proofs.lemmas.Bool.Decides.{nat_tests}
use Rattle.std.specs.List.{list_any}
use Rattle.std.specs.Ordering.{nat_cmp, eq_by_cmp}
use Rattle.std.specs.Cmp.{nat_cmp_total, unsigned_tied, nat_eq_equiv}
use Rattle.std.specs.FinSet.{FinSet, contains, insert, remove, contains-empty, contains-insert, contains-remove, same_set, nat_cmp-IsAntisymmetric}
use Rattle.foyer_policy.specs.Items.{fit, over}
use Rattle.foyer_policy.specs.FitLaws.{fit-more, over-more}
use Rattle.foyer_policy.specs.GhostQueue.{Pair, Ghost, pair_weight, ghost_weight, without_hashes, shrunk, with_pair, ghost_push}
use Rattle.foyer_policy.specs.GhostParts.{set_of}

abbrev pub has_key : List ℕ → ℕ → Bool
has_key ks q = list_any (nat_eq q) ks

pub has : (ks : List ℕ) (q : ℕ) → contains (set_of ks) q ≡ has_key ks q
has [] q = contains-empty nat_cmp q
has (k ∷ ks) q = contains-insert nat_cmp_total (set_of ks) k q
    ∙ ap (λ (b : Bool). b || contains (set_of ks) q) (unsigned_tied q k) ∙ ap (λ (b : Bool). nat_eq q k || b) (has ks q)

taken : (a b c : Bool) → a ≡ b → cond a false c ≡ (not b && c)
taken true b c h = ap (λ (x : Bool). not x && c) h
taken false b c h = ap (λ (x : Bool). not x && c) h

put : (a b c : Bool) → a ≡ b → cond a true c ≡ (b || c)
put true b c h = ap (λ (x : Bool). x || c) h
put false b c h = ap (λ (x : Bool). x || c) h

pub set-removed : (ks ns : List ℕ) (k : ℕ) → ((q : ℕ) → has_key ns q ≡ cond (nat_eq k q) false (has_key ks q)) →
    set_of ns ≡ remove (set_of ks) k
set-removed ks ns k h = same_set nat_cmp_total nat_cmp-IsAntisymmetric (set_of ns) (remove (set_of ks) k) (λ q.
    has ns q ∙ h q ∙ ap (cond (nat_eq k q) false) (sym (has ks q))
    ∙ taken (nat_eq k q) (eq_by_cmp nat_cmp q k) (contains (set_of ks) q)
    (nat_eq_equiv.symm k q ∙ sym (unsigned_tied q k))
    ∙ sym (contains-remove nat_cmp_total (set_of ks) k q))

pub set-inserted : (ks ns : List ℕ) (k : ℕ) → ((q : ℕ) → has_key ns q ≡ cond (nat_eq k q) true (has_key ks q)) →
    set_of ns ≡ insert (set_of ks) k
set-inserted ks ns k h = same_set nat_cmp_total nat_cmp-IsAntisymmetric (set_of ns) (insert (set_of ks) k) (λ q.
    has ns q ∙ h q ∙ ap (cond (nat_eq k q) true) (sym (has ks q))
    ∙ put (nat_eq k q) (eq_by_cmp nat_cmp q k) (contains (set_of ks) q)
    (nat_eq_equiv.symm k q ∙ sym (unsigned_tied q k))
    ∙ sym (contains-insert nat_cmp_total (set_of ks) k q))

pub set-reordered : (ks ns : List ℕ) → ((q : ℕ) → has_key ns q ≡ has_key ks q) → set_of ns ≡ set_of ks
set-reordered ks ns h = same_set nat_cmp_total nat_cmp-IsAntisymmetric (set_of ns) (set_of ks)
    (λ q. has ns q ∙ h q ∙ sym (has ks q))

-- one pair goes
pub goes-pairs : (most : ℕ) (p : Pair) (old left : List Pair) → old ≡ p ∷ left → most < ghost_weight old →
    fit pair_weight most left ≡ fit pair_weight most old
goes-pairs most p old left is more =
    sym (ap (fit pair_weight most) is ∙ fit-more pair_weight most p left (rw is at more))

pub goes-hashes : (most : ℕ) (p : Pair) (old left : List Pair) (hashes hashes2 : FinSet nat_cmp) → old ≡ p ∷ left →
    most < ghost_weight old → hashes2 ≡ remove hashes p.0
    → without_hashes hashes2 (over pair_weight most left) ≡ without_hashes hashes (over pair_weight most old)
goes-hashes most p old left hashes hashes2 is more out =
    ap (λ (s : FinSet nat_cmp). without_hashes s (over pair_weight most left)) out
    ∙ sym (ap (λ (l : List Pair). without_hashes hashes (over pair_weight most l)) is
    ∙ ap (λ (l : List Pair). without_hashes hashes l) (over-more pair_weight most p left (rw is at more)))

pub same_ghost : (ps qs : List Pair) (s t : FinSet nat_cmp) (capacity : ℕ) → ps ≡ qs → s ≡ t
    → ◌≡◌ {A = Ghost} (record { pairs = ps; hashes = s; capacity = capacity })
    (record { pairs = qs; hashes = t; capacity = capacity })
same_ghost ps qs s t capacity h k = rw (h, k) refl

pub on_ok : {A E : Type 0} (r : Result A E) (P : Type 0) → IsOk r → OnOk r P → P
on_ok (Ok x) P ok h = h
on_ok (Err e) P ok h = absurd (search rules)

-- a push, where the capacity isn't 0
pub pushed : (g : Ghost) (hash weight : ℕ) → g.capacity ≢ 0 → ghost_push g hash weight
    ≡ with_pair hash weight (shrunk (g.capacity - weight) g)
pushed g hash weight h = (let e : (g.capacity == 0) ≡ false = grind (arith, nat_tests) in rw e refl)
