-- w-TinyLFU is a policy.
use Rattle.std.proofs.Common.{◌≡◌, ℕ, zero, suc, ◌+◌, ◌*◌, Bool, true, false, cond, List, [], ◌∷◌, ◌++◌, Option, Some, None, length, length-append, refl, sym, ◌∙◌, ap, subst, arith, inl, append_assoc}
use Rattle.std.specs.Prelude.{◌==◌, is_some, nat_lt}
use Rattle.std.specs.List.Sorted.{IsPermutation}
use Rattle.std.proofs.lemmas.List.Sorted.{IsPermutation-refl, IsPermutation-sym, IsPermutation-trans, IsPermutation-to_front, IsPermutation-middle, IsPermutation-append_left, IsPermutation-append_right, IsPermutation-append_comm}
use Rattle.foyer_policy.specs.Errors.{kind_of}
use Rattle.foyer_policy.specs.Items.{remove_id, find_id, fit, over}
use Rattle.foyer_policy.specs.Limit.{ratio_fault}
use Rattle.foyer_policy.specs.Lists.{or_else}
use Rattle.foyer_policy.specs.LruLaws.{ratio_fault-kind}
use Rattle.foyer_policy.specs.Policy.{IsPolicy}
use Rattle.foyer_policy.specs.PopTimes.{after_pop, pop_times}
use Rattle.foyer_policy.specs.Lfu.{LfuView, sum_fault, ratios_fault, buckets_fault, config_fault, settle_window, settle_protected, seen, used, first_of, updated, lfu}
use Rattle.foyer_policy.specs.FitLaws.{over-fit}
use Rattle.foyer_policy.specs.PartLaws.{IsPermutation-remove_id, remove_id-front, remove_id-back}
use Rattle.foyer_policy.specs.Sketch.{estimate_of}
use Rattle.foyer_policy.specs.declared.types.Item.{Item}
use Rattle.foyer_policy.specs.declared.types.Ratio.{Ratio}
use Rattle.foyer_policy.specs.declared.limit.Range.TheVariants.{Open}
use Rattle.foyer_policy.specs.declared.error.ErrorKind.TheVariants.{Config}
use Rattle.foyer_policy.specs.declared.error.Field.TheVariants.{Window, Protected}
use Rattle.foyer_policy.specs.declared.error.Reason.{Reason}
use Rattle.foyer_policy.specs.declared.error.Reason.TheVariants.{RatioSum, NoRows, NoBuckets}
use Rattle.foyer_policy.specs.declared.lfu.LfuConfig.{LfuConfig}

-- a fault has to do with the configuration
or_else-kind : (a b : Option Reason) (reason : Reason) → (a ≡ Some reason → kind_of reason ≡ Config) →
    (b ≡ Some reason → kind_of reason ≡ Config) → or_else a b ≡ Some reason → kind_of reason ≡ Config
or_else-kind None b reason f g h = g h
or_else-kind (Some x) b reason f g h = f h

sum_fault-kind : (window protected : Ratio) (reason : Reason) → sum_fault window protected ≡ Some reason →
    kind_of reason ≡ Config
sum_fault-kind window protected reason h = go
    (nat_lt (window.num * protected.den + protected.num * window.den) (window.den * protected.den)) h where
      go : (b : Bool) → cond b None (Some RatioSum) ≡ Some reason → kind_of reason ≡ Config
      go true e = absurd cc
      go false e = (let s : RatioSum ≡ reason = cc in ap kind_of (sym s))

buckets_fault-kind : (buckets hashes : ℕ) (reason : Reason) → buckets_fault buckets hashes ≡ Some reason →
    kind_of reason ≡ Config
buckets_fault-kind buckets hashes reason h = go (buckets == 0) (hashes == 0) h where
  go : (b c : Bool) → cond b (Some NoBuckets) (cond c (Some NoRows) None) ≡ Some reason → kind_of reason ≡ Config
  go true c e = (let s : NoBuckets ≡ reason = cc in ap kind_of (sym s))
  go false true e = (let s : NoRows ≡ reason = cc in ap kind_of (sym s))
  go false false e = absurd cc

config_fault-kind : (c : LfuConfig) (reason : Reason) → config_fault c ≡ Some reason → kind_of reason ≡ Config
config_fault-kind c reason =
    or_else-kind (ratios_fault c.window_capacity_ratio c.protected_capacity_ratio)
    (buckets_fault c.cmsketch_buckets c.cmsketch_hashes) reason
    (or_else-kind (ratio_fault Open Window c.window_capacity_ratio)
    (or_else (ratio_fault Open Protected c.protected_capacity_ratio)
    (sum_fault c.window_capacity_ratio c.protected_capacity_ratio)) reason
    (ratio_fault-kind Open Window c.window_capacity_ratio reason)
    (or_else-kind (ratio_fault Open Protected c.protected_capacity_ratio)
    (sum_fault c.window_capacity_ratio c.protected_capacity_ratio) reason
    (ratio_fault-kind Open Protected c.protected_capacity_ratio reason)
    (sum_fault-kind c.window_capacity_ratio c.protected_capacity_ratio reason)))
    (buckets_fault-kind c.cmsketch_buckets c.cmsketch_hashes reason)

-- settling rearranges
pub settle_window-order : (v : LfuView) → IsPermutation (lfu.order v) (lfu.order (settle_window v))
settle_window-order v =
    let weight : Item → ℕ = λ i. i.weight in
    let a = over weight v.window_limit v.window in
    let b = fit weight v.window_limit v.window in
    let swap : IsPermutation (a ++ (b ++ v.probation)) ((b ++ v.probation) ++ a) =
    IsPermutation-append_comm a (b ++ v.probation) in
    let all : IsPermutation ((a ++ (b ++ v.probation)) ++ v.protected) (((b ++ v.probation) ++ a) ++ v.protected) =
    IsPermutation-append_left v.protected (a ++ (b ++ v.probation)) ((b ++ v.probation) ++ a) swap in
    let parts : v.window ≡ a ++ b = over-fit weight v.window_limit v.window in
    let flat : IsPermutation ((a ++ b) ++ (v.probation ++ v.protected)) (b ++ ((v.probation ++ a) ++ v.protected)) =
    simp append_assoc (simp append_assoc at all) in
    subst (λ (l : List Item). IsPermutation (l ++ (v.probation ++ v.protected))
    (b ++ ((v.probation ++ a) ++ v.protected))) (sym parts) flat

-- and of protected, keeps the order
pub settle_protected-order : (v : LfuView) → lfu.order (settle_protected v) ≡ lfu.order v
settle_protected-order v =
    let weight : Item → ℕ = λ i. i.weight in
    let a = over weight v.protected_limit v.protected in
    let b = fit weight v.protected_limit v.protected in
    ap (λ (l : List Item). v.window ++ l)
    (append_assoc v.probation a b ∙ ap (λ (l : List Item). v.probation ++ l)
    (sym (over-fit weight v.protected_limit v.protected)))

push-order : (v : LfuView) (i : Item) → IsPermutation (i ∷ lfu.order v) (lfu.order (lfu.push v i))
push-order v i =
    let w : LfuView = seen (record v { window = v.window ++ i ∷ [] }) i.hash in
    let rest = v.probation ++ v.protected in
    let here : IsPermutation (i ∷ (v.window ++ rest)) (v.window ++ (i ∷ rest)) =
    IsPermutation-sym (v.window ++ (i ∷ rest)) (i ∷ (v.window ++ rest)) (IsPermutation-middle v.window i rest) in
    let put : IsPermutation (i ∷ lfu.order v) (lfu.order w) = simp append_assoc here in
    IsPermutation-trans (i ∷ lfu.order v) (lfu.order w) (lfu.order (settle_window w)) put (settle_window-order w)

-- an item that was found goes to the end of a list
to_end : (id : ℕ) (i : Item) (l : List Item) → find_id id l ≡ Some i → IsPermutation l (remove_id id l ++ i ∷ [])
to_end id i l h =
    IsPermutation-trans l (i ∷ remove_id id l) (remove_id id l ++ i ∷ []) (IsPermutation-remove_id id i l h)
    (IsPermutation-sym (remove_id id l ++ i ∷ []) (i ∷ remove_id id l) (IsPermutation-to_front (remove_id id l) i))

acquire-order : (v : LfuView) (id : ℕ) → IsPermutation (lfu.order v) (lfu.order (lfu.acquire v id))
acquire-order v id = go (find_id id v.window) (find_id id v.probation) (find_id id v.protected) refl refl refl where
  go : (a b c : Option Item) → find_id id v.window ≡ a → find_id id v.probation ≡ b → find_id id v.protected ≡ c →
      IsPermutation (lfu.order v) (lfu.order (used v id a b c))
  go (Some i) b c is _ _ = IsPermutation-append_left (v.probation ++ v.protected) v.window
      (remove_id id v.window ++ i ∷ []) (to_end id i v.window is)
  go None (Some i) c _ is _ =
      let w : LfuView = seen (record v { probation = remove_id id v.probation; protected = v.protected ++ i ∷ [] })
      i.hash in
      let out : IsPermutation (v.probation ++ v.protected) ((i ∷ remove_id id v.probation) ++ v.protected) =
      IsPermutation-append_left v.protected v.probation (i ∷ remove_id id v.probation)
      (IsPermutation-remove_id id i v.probation is) in
      let all = remove_id id v.probation ++ v.protected in
      let back : IsPermutation (i ∷ all) (all ++ i ∷ []) =
      IsPermutation-sym (all ++ i ∷ []) (i ∷ all) (IsPermutation-to_front all i) in
      let moved : IsPermutation (v.probation ++ v.protected) (all ++ i ∷ []) =
      IsPermutation-trans (v.probation ++ v.protected) (i ∷ all) (all ++ i ∷ []) out back in
      let inner : IsPermutation (v.probation ++ v.protected) (remove_id id v.probation ++ (v.protected ++ i ∷ [])) =
      simp append_assoc at moved in
      let whole : IsPermutation (lfu.order v) (lfu.order w) =
      IsPermutation-append_right v.window (v.probation ++ v.protected)
      (remove_id id v.probation ++ (v.protected ++ i ∷ [])) inner in
      subst (λ (l : List Item). IsPermutation (lfu.order v) l) (sym (settle_protected-order w)) whole
  go None None (Some i) _ _ is =
      IsPermutation-append_right v.window (v.probation ++ v.protected)
      (v.probation ++ (remove_id id v.protected ++ i ∷ []))
      (IsPermutation-append_right v.probation v.protected (remove_id id v.protected ++ i ∷ [])
      (to_end id i v.protected is))
  go None None None _ _ _ = IsPermutation-refl (lfu.order v)

-- a removal takes its item out of its list alone
remove-order : (v : LfuView) (id : ℕ) → lfu.order (lfu.remove v id) ≡ remove_id id (lfu.order v)
remove-order v id = go (find_id id v.window) (find_id id v.probation) refl refl where
  go : (a b : Option Item) → find_id id v.window ≡ a → find_id id v.probation ≡ b
      → lfu.order
      (cond (is_some a) (record v { window = remove_id id v.window })
      (cond (is_some b) (record v { probation = remove_id id v.probation })
      (record v { protected = remove_id id v.protected }))) ≡ remove_id id (lfu.order v)
  go (Some i) b is _ = sym (remove_id-front id i v.window (v.probation ++ v.protected) is)
  go None (Some i) off is = ap (λ (l : List Item). v.window ++ l)
      (sym (remove_id-front id i v.probation v.protected is))
      ∙ sym (remove_id-back id v.window (v.probation ++ v.protected) off)
  go None None off off' =
      ap (λ (l : List Item). v.window ++ l) (sym (remove_id-back id v.probation v.protected off'))
      ∙ sym (remove_id-back id v.window (v.probation ++ v.protected) off)

-- an update moves nothing
update-order : (v : LfuView) (capacity : ℕ) (config : Option LfuConfig) →
    IsPermutation (lfu.order v) (lfu.order (updated v capacity config))
update-order v capacity None = IsPermutation-refl (lfu.order v)
update-order v capacity (Some c) = IsPermutation-refl (lfu.order v)

-- a view of these parts
abbrev pub with_lists : LfuView → List Item → List Item → List Item → LfuView
with_lists v window probation protected = record v { window = window; probation = probation; protected = protected }

-- what a pop takes, and what is left
record Taken (v : LfuView) (i : Item) (w : LfuView) : Type 0 where
  order : IsPermutation (lfu.order v) (i ∷ lfu.order w)
  shorter : length (lfu.order v) ≡ suc (length (lfu.order w))
  cleared : lfu.clear w ≡ lfu.clear v

-- what a pop answers
abbrev popped : Item → LfuView → Option (Item × LfuView)
popped i w = Some (i, w)

taken-from : (v w u : LfuView) (i j : Item) → Taken v j u → popped j u ≡ popped i w → Taken v i w
taken-from v w u i j t h =
    (let e : ◌≡◌ {A = Item × LfuView} (j, u) (i, w) = cc in subst (λ (p : Item × LfuView). Taken v p.0 p.1) e t)

length-three : (a b c : List Item) → length (a ++ (b ++ c)) ≡ length a + (length b + length c)
length-three a b c = omega (arith, length-append a (b ++ c), length-append b c)

taken-probation : (v : LfuView) (window ys protected : List Item) (y : Item) →
    Taken (with_lists v window (y ∷ ys) protected) y (with_lists v window ys protected)
taken-probation v window ys protected y = record {
  order = IsPermutation-middle window y (ys ++ protected);
  shorter = omega (arith, length-three window (y ∷ ys) protected, length-three window ys protected);
  cleared = refl;
}

taken : (v : LfuView) (window probation protected : List Item) (w : LfuView) (i : Item)
    → first_of (with_lists v window probation protected) window probation protected ≡ Some (i, w) →
    Taken (with_lists v window probation protected) i w
taken v (x ∷ xs) (y ∷ ys) protected w i h =
    go (nat_lt (estimate_of v.sketch x.hash) (estimate_of v.sketch y.hash)) h where
      all : LfuView
      all = with_lists v (x ∷ xs) (y ∷ ys) protected

      go : (t : Bool) → cond t (popped x (with_lists v xs (y ∷ ys) protected))
          (popped y (with_lists v (x ∷ xs) ys protected)) ≡ popped i w →
          Taken (with_lists v (x ∷ xs) (y ∷ ys) protected) i w
      go true h = taken-from (with_lists v (x ∷ xs) (y ∷ ys) protected) w (with_lists v xs (y ∷ ys) protected) i x
          (record { order = IsPermutation-refl (x ∷ (xs ++ ((y ∷ ys) ++ protected))); shorter = refl; cleared = refl }) h
      go false h = taken-from (with_lists v (x ∷ xs) (y ∷ ys) protected) w (with_lists v (x ∷ xs) ys protected) i y
          (taken-probation v (x ∷ xs) ys protected y) h
taken v (x ∷ xs) [] protected w i h =
    taken-from (with_lists v (x ∷ xs) [] protected) w (with_lists v xs [] protected) i x
    (record { order = IsPermutation-refl (x ∷ (xs ++ protected)); shorter = refl; cleared = refl }) h
taken v [] (y ∷ ys) protected w i h = taken-from (with_lists v [] (y ∷ ys) protected) w (with_lists v [] ys protected)
    i y (taken-probation v [] ys protected y) h
taken v [] [] (z ∷ zs) w i h =
    taken-from (with_lists v [] [] (z ∷ zs)) w (with_lists v [] [] zs) i z
    (record { order = IsPermutation-refl (z ∷ zs); shorter = refl; cleared = refl }) h
taken v [] [] [] w i h = absurd cc

pop-taken : (v w : LfuView) (i : Item) → lfu.pop v ≡ Some (i, w) → Taken v i w
pop-taken v w i h = taken v v.window v.probation v.protected w i h

-- nothing is popped where nothing is in
pop-none : (v : LfuView) (window probation protected : List Item) → first_of v window probation protected ≡ None →
    window ++ (probation ++ protected) ≡ []
pop-none v (x ∷ xs) (y ∷ ys) protected h = go (nat_lt (estimate_of v.sketch x.hash) (estimate_of v.sketch y.hash))
    h where
      go : (t : Bool) → cond t (popped x (record v { window = xs })) (popped y (record v { probation = ys })) ≡ None →
          x ∷ (xs ++ ((y ∷ ys) ++ protected)) ≡ []
      go true h = absurd cc
      go false h = absurd cc
pop-none v (x ∷ xs) [] protected h = absurd cc
pop-none v [] (y ∷ ys) protected h = absurd cc
pop-none v [] [] (z ∷ zs) h = absurd cc
pop-none v [] [] [] h = refl

nothing-clear : (v : LfuView) → length (lfu.order v) ≡ 0 → v ≡ lfu.clear v
nothing-clear v h = go v.window v.probation v.protected h where
  go : (a b c : List Item) → length (a ++ (b ++ c)) ≡ 0 → with_lists v a b c ≡ lfu.clear v
  go [] [] [] h = refl
  go [] [] (z ∷ zs) h = absurd (omega arith)
  go [] (y ∷ ys) c h = absurd (omega arith)
  go (x ∷ xs) b c h = absurd (omega arith)

-- all pops leave nothing
all_popped : (n : ℕ) (v : LfuView) → length (lfu.order v) ≡ n → pop_times lfu.pop n v ≡ lfu.clear v
all_popped zero v h = nothing-clear v h
all_popped (suc n) v h = go (lfu.pop v) refl (all_popped n) where
  go : (o : Option (Item × LfuView)) → lfu.pop v ≡ o →
      ((w : LfuView) → length (lfu.order w) ≡ n → pop_times lfu.pop n w ≡ lfu.clear w) →
      after_pop o v (λ w. pop_times lfu.pop n w) ≡ lfu.clear v
  go None is rec = (let e = pop-none v v.window v.probation v.protected is in absurd (omega (arith, ap length e)))
  go (Some p) is rec = (let t = pop-taken v p.1 p.0 is in rec p.1 (omega (arith, t.shorter)) ∙ t.cleared)

pub lfu_lawful : IsPolicy lfu
lfu_lawful = record {
  opening_order = λ capacity c accepted. refl;
  fault_kind = config_fault-kind;
  opening_credit = λ capacity c accepted. refl;
  pinned_within = λ v f. omega arith;
  push_order = push-order;
  push_pinned = λ v i. refl;
  push_credit = λ v i. omega arith;
  pop_order = λ v w i h. (pop-taken v w i h).order;
  pop_pinned = λ v w i h. refl;
  pop_none = λ v h. (let e = pop-none v v.window v.probation v.protected h in λ f. rw e (omega arith));
  pop_looks = λ v w i h. omega arith;
  pop_credit = λ v w i h. omega arith;
  none_looks = λ v h. refl;
  remove_order = remove-order;
  remove_pinned = λ v id once. refl;
  remove_unpinned = λ v id free. refl;
  remove_credit = λ v id. omega arith;
  acquire_order = λ v id once. acquire-order v id;
  acquire_pinned = λ v id once. inl refl;
  acquire_credit = λ v id. omega arith;
  release_order = λ v id once. IsPermutation-refl (lfu.order v);
  release_pinned = λ v id once. refl;
  release_credit = λ v id. omega arith;
  update_order = λ v capacity config once. update-order v capacity config;
  update_pinned = λ v capacity config. refl;
  update_credit = λ v capacity config. omega arith;
  clear_is = λ v. rw (all_popped (length (lfu.order v)) v refl) refl;
}
