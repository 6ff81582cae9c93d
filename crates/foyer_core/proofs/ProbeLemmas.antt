-- Probes: what stays when a bucket gets a tag, when one is emptied, and when a tag moves back.
use Rattle.std.proofs.Common.{◌≡◌, ◌≢◌, ℕ, zero, suc, ◌+◌, ◌<◌, ◌≤◌, Option, Some, None, nat_eq, refl, sym, ◌∙◌, ap, subst, inl, inr, arith}
use Rattle.std.specs.Map.{update}
use Rattle.std.proofs.lemmas.Map.{update_here, update_apart}
use Rattle.std.proofs.lemmas.Option.{none-some, same_Some}
use Rattle.std.proofs.lemmas.Bool.{cases_eq, cases_lt}
use Rattle.foyer_core.specs.Probing.{home, IsPut, IsFull, IsProbed, IsProbedBut, IsOnce, IsBefore, IsMoved, part_of, one_if, count_in}
use Rattle.foyer_core.specs.declared.tags.buckets.Tag.{Tag}
use Rattle.foyer_core.proofs.BucketLemmas.{Stands, standing, stands, none_stands, same_part}

-- an occupied bucket is not empty
pub not_none : (o : Option Tag) (t : Tag) → o ≡ Some t → o ≢ None
not_none o t is none = none-some t (sym none ∙ is)

module _ (at at' : ℕ → Option Tag) (b : ℕ) (o : Option Tag) (put : IsPut at at' b o) where
  count_same : (n : ℕ) → n ≤ b → count_in at' n ≡ count_in at n
  count_same zero within = refl
  count_same (suc n) within =
      let apart : n ≢ b = λ e. omega arith in
      ap (λ (m : ℕ). m + one_if (at' n)) (count_same n (omega arith))
      ∙ ap (λ (o : Option Tag). count_in at n + one_if o) (put.others n apart)

  count_here : (n : ℕ) → n ≡ b → count_in at' (suc n) + one_if (at b) ≡ count_in at (suc n) + one_if o
  count_here n e =
      let before : count_in at' n ≡ count_in at n = count_same n (omega arith) in
      let new : one_if (at' n) ≡ one_if o = ap (λ (i : ℕ). one_if (at' i)) e ∙ ap one_if put.here in
      let old : one_if (at n) ≡ one_if (at b) = ap (λ (i : ℕ). one_if (at i)) e in
      omega arith

  count_behind : (n : ℕ) → n ≢ b → count_in at' n + one_if (at b) ≡ count_in at n + one_if o
      → count_in at' (suc n) + one_if (at b) ≡ count_in at (suc n) + one_if o
  count_behind n apart before =
      let same : one_if (at' n) ≡ one_if (at n) = ap one_if (put.others n apart) in
      omega arith

  -- the count after a bucket is written
  pub count_put : (n : ℕ) → b < n → count_in at' n + one_if (at b) ≡ count_in at n + one_if o
  count_put zero within = absurd (omega arith)
  count_put (suc n) within = elim (cases_eq n b) [
    | inl e ↦ count_here n e
    | inr apart ↦ count_behind n apart (count_put n (omega arith))
  ]

module _ (at at' : ℕ → Option Tag) (b : ℕ) (t : Tag) (put : IsPut at at' b (Some t)) where
  -- a tag that comes is this one, or was there
  come : (P : ℕ → Tag → Type 0) → P b t → ((i : ℕ) (u : Tag) → i ≢ b → at i ≡ Some u → P i u) → (i : ℕ) (u : Tag)
      → at' i ≡ Some u → P i u
  come P new old i u is = elim (cases_eq i b) [
    | inl e ↦ (let same : t ≡ u = same_Some t u (sym put.here ∙ ap at' (sym e) ∙ is) in
        subst (λ (v : Tag). P i v) same (subst (λ (j : ℕ). P j t) (sym e) new))
    | inr apart ↦ old i u apart (sym (put.others i apart) ∙ is)
  ]

  still_full : (j : ℕ) → (j ≢ b → at j ≢ None) → at' j ≢ None
  still_full j full none = elim (cases_eq j b) [
    | inl e ↦ none-some t (sym none ∙ ap at' e ∙ put.here)
    | inr apart ↦ full apart (sym (put.others j apart) ∙ none)
  ]

  -- a tag that comes behind full buckets is found
  pub probed_put : (bits : ℕ) → IsProbed bits at → home bits t.fingerprint ≤ b → IsFull at (home bits t.fingerprint) b
      → IsProbed bits at'
  probed_put bits probed behind full = record {
    behind = come (λ i u. home bits u.fingerprint ≤ i) behind (λ i u apart is. probed.behind i u is);
    full = λ i j u is from less. still_full j (come (λ i u. home bits u.fingerprint ≤ j → j < i → j ≢ b → at j ≢ None)
        (λ from less apart. full j from less) (λ i u apart is from less other. probed.full i j u is from less) i u is
        from less);
  }

  -- a new slot has one tag
  pub once_put : IsOnce at → ((i : ℕ) (u : Tag) → at i ≡ Some u → u.slot ≢ t.slot) → IsOnce at'
  once_put once new i j u v is there same =
      come (λ i u. u.slot ≡ v.slot → i ≡ j)
      (come (λ j v. t.slot ≡ v.slot → b ≡ j) (λ e. refl) (λ j v apart was e. absurd (new j v was (sym e))) j v
      there)
      (λ i u apart is. come (λ j v. u.slot ≡ v.slot → i ≡ j) (λ e. absurd (new i u is e))
      (λ j v apart was e. once i j u v is was e) j v there)
      i u is same

  -- a tag that takes the place of one of its fingerprint is found
  pub probed_replace : (bits : ℕ) → IsProbed bits at → (u : Tag) → at b ≡ Some u → u.fingerprint ≡ t.fingerprint
      → IsProbed bits at'
  probed_replace bits probed u was same = record {
    behind = come (λ i v. home bits v.fingerprint ≤ i)
        (subst (λ (part : ℕ). home bits part ≤ b) same (probed.behind b u was))
        (λ i v apart is. probed.behind i v is);
    full = λ i j v is from less. still_full j (come (λ i v. home bits v.fingerprint ≤ j → j < i → j ≢ b → at j ≢ None)
        (λ from less apart. probed.full b j u was (subst (λ (part : ℕ). home bits part ≤ j) (sym same) from) less)
        (λ i v apart is from less other. probed.full i j v is from less) i v is from less);
  }

  pub before_put : (end : ℕ) → b < end → IsBefore end at → IsBefore end at'
  before_put end less before = come (λ i u. i < end) less (λ i u apart is. before i u is)

  -- its slot has its fingerprint, and the others theirs
  pub part_put : (n : ℕ) → IsOnce at → IsOnce at' → IsBefore n at → b < n → at b ≡ None → (slot : ℕ)
      → part_of at' n slot ≡ update nat_eq (part_of at n) t.slot (Some t.fingerprint) slot
  part_put n once once' before within empty slot = elim (cases_eq slot t.slot) [
    | inl e ↦ ap (part_of at' n) e ∙ stands at' once' n b t within put.here
        ∙ sym (update_here (part_of at n) t.slot (Some t.fingerprint))
        ∙ ap (update nat_eq (part_of at n) t.slot (Some t.fingerprint)) (sym e)
    | inr apart ↦ same_part at at' n slot once once'
        (λ i u is names. let apart : i ≢ b = λ e. none-some u (sym empty ∙ ap at (sym e) ∙ is) in
        standing at' n slot i u (before i u is) (put.others i apart ∙ is) names)
        (come (λ i u. u.slot ≡ slot → (v : Stands at n slot) × (v.tag ≡ u)) (λ names. absurd (apart (sym names)))
        (λ i u other is names. standing at n slot i u (before i u is) is names))
        ∙ sym (update_apart (part_of at n) t.slot (Some t.fingerprint) slot apart)
  ]

  replaced_other : (n : ℕ) → IsOnce at → IsOnce at' → IsBefore n at → b < n → (u : Tag) → at b ≡ Some u → (slot : ℕ)
      → slot ≢ t.slot → part_of at' n slot ≡ update nat_eq (part_of at n) u.slot None slot
  replaced_other n once once' before within u was slot other = elim (cases_eq slot u.slot) [
    | inl e ↦ none_stands at' n slot
        (come (λ i v. v.slot ≢ slot) (λ names. other (sym names))
        (λ i v apart is names. apart (once i b v u is was (names ∙ e))))
        ∙ sym (update_here (part_of at n) u.slot None) ∙ ap (update nat_eq (part_of at n) u.slot None) (sym e)
    | inr apart ↦ same_part at at' n slot once once'
        (λ i v is names. let away : i ≢ b =
        λ e. apart (sym names ∙ ap (λ (w : Tag). w.slot) (same_Some v u (sym is ∙ ap at e ∙ was))) in
        standing at' n slot i v (before i v is) (put.others i away ∙ is) names)
        (come (λ i v. v.slot ≡ slot → (w : Stands at n slot) × (w.tag ≡ v)) (λ names. absurd (other (sym names)))
        (λ i v away is names. standing at n slot i v (before i v is) is names))
        ∙ sym (update_apart (part_of at n) u.slot None slot apart)
  ]

  -- the slot that gave its place has no fingerprint, this one has its own, and the others theirs
  pub part_replace : (n : ℕ) → IsOnce at → IsOnce at' → IsBefore n at → b < n → (u : Tag) → at b ≡ Some u → (slot : ℕ)
      → part_of at' n slot
      ≡ update nat_eq (update nat_eq (part_of at n) u.slot None) t.slot (Some t.fingerprint) slot
  part_replace n once once' before within u was slot = elim (cases_eq slot t.slot) [
    | inl e ↦ ap (part_of at' n) e ∙ stands at' once' n b t within put.here
        ∙ sym (update_here (update nat_eq (part_of at n) u.slot None) t.slot (Some t.fingerprint))
        ∙ ap (update nat_eq (update nat_eq (part_of at n) u.slot None) t.slot (Some t.fingerprint)) (sym e)
    | inr other ↦ (replaced_other n once once' before within u was slot other
        ∙ sym (update_apart (update nat_eq (part_of at n) u.slot None) t.slot (Some t.fingerprint) slot other))
  ]

module _ (at at' : ℕ → Option Tag) (b : ℕ) (put : IsPut at at' b None) where
  -- a tag that stays was there, elsewhere
  stays : (i : ℕ) (u : Tag) → at' i ≡ Some u → (i ≢ b) × (at i ≡ Some u)
  stays i u is =
      let apart : i ≢ b = λ e. none-some u (sym put.here ∙ ap at' (sym e) ∙ is) in
      (apart, sym (put.others i apart) ∙ is)

  pub once_taken : IsOnce at → IsOnce at'
  once_taken once i j u v is there same = once i j u v (stays i u is).1 (stays j v there).1 same

  pub before_taken : (end : ℕ) → IsBefore end at → IsBefore end at'
  before_taken end before i u is = before i u (stays i u is).1

  -- the slot of its tag has none, and the others theirs
  pub part_taken : (n : ℕ) → IsOnce at → IsBefore n at → (t : Tag) → at b ≡ Some t → (slot : ℕ)
      → part_of at' n slot ≡ update nat_eq (part_of at n) t.slot None slot
  part_taken n once before t was slot = elim (cases_eq slot t.slot) [
    | inl e ↦ none_stands at' n slot
        (λ i u is names. (stays i u is).0 (once i b u t (stays i u is).1 was (names ∙ e)))
        ∙ sym (update_here (part_of at n) t.slot None) ∙ ap (update nat_eq (part_of at n) t.slot None) (sym e)
    | inr apart ↦ same_part at at' n slot once (once_taken once)
        (λ i u is names. let other : i ≢ b =
        λ e. apart (sym names ∙ ap (λ (v : Tag). v.slot) (same_Some u t (sym is ∙ ap at e ∙ was))) in
        standing at' n slot i u (before i u is) (put.others i other ∙ is) names)
        (λ i u is names. standing at n slot i u (before i u (stays i u is).1) (stays i u is).1 names)
        ∙ sym (update_apart (part_of at n) t.slot None slot apart)
  ]

-- a tag moves from one bucket to an empty one before it
module _ (at mid at' : ℕ → Option Tag) (from gap : ℕ) (t : Tag) (less : gap < from)
    (was : at from ≡ Some t) (empty : at gap ≡ None) (put : IsPut at mid gap (Some t))
    (take : IsPut mid at' from None) where
  apart_gap : gap ≢ from
  apart_gap e = omega arith

  moved_here : at' gap ≡ Some t
  moved_here = take.others gap apart_gap ∙ put.here

  moved_other : (i : ℕ) → i ≢ gap → i ≢ from → at' i ≡ at i
  moved_other i other apart = take.others i apart ∙ put.others i other

  -- a tag is the one that moved, or stands where it did
  source : (P : ℕ → Tag → Type 0) → P gap t → ((i : ℕ) (u : Tag) → i ≢ gap → i ≢ from → at i ≡ Some u → P i u)
      → (i : ℕ) (u : Tag) → at' i ≡ Some u → P i u
  source P new old i u is = elim (cases_eq i gap) [
    | inl e ↦ (let same : t ≡ u = same_Some t u (sym moved_here ∙ ap at' (sym e) ∙ is) in
        subst (λ (v : Tag). P i v) same (subst (λ (j : ℕ). P j t) (sym e) new))
    | inr other ↦ (let apart : i ≢ from = λ e. none-some u (sym take.here ∙ ap at' (sym e) ∙ is) in
        old i u other apart (sym (moved_other i other apart) ∙ is))
  ]

  pub once_moved : IsOnce at → IsOnce at'
  once_moved once i j u v is there same =
      source (λ i u. u.slot ≡ v.slot → i ≡ j)
      (source (λ j v. t.slot ≡ v.slot → gap ≡ j) (λ e. refl)
      (λ j v other apart is e. absurd (apart (sym (once from j t v was is e)))) j v there)
      (λ i u other apart is. source (λ j v. u.slot ≡ v.slot → i ≡ j)
      (λ e. absurd (apart (once i from u t is was e))) (λ j v other' apart' is' e. once i j u v is is' e) j v
      there)
      i u is same

  pub probed_moved : (bits : ℕ) → IsProbedBut gap bits at → home bits t.fingerprint ≤ gap → IsProbedBut from bits at'
  probed_moved bits probed back = record {
    behind = source (λ i u. home bits u.fingerprint ≤ i) back (λ i u other apart is. probed.behind i u is);
    full = λ i j u is begin before apart. elim (cases_eq j gap) [
      | inl e ↦ not_none (at' j) t (ap at' e ∙ moved_here)
      | inr other ↦ (λ none. source (λ i u. home bits u.fingerprint ≤ j → j < i → at j ≢ None)
          (λ begin before. probed.full from j t was begin (omega arith) other)
          (λ i u other' apart' is begin before. probed.full i j u is begin before other)
          i u is begin before (sym (moved_other j other apart) ∙ none))
    ];
  }

  same_parts : (n : ℕ) → from < n → IsOnce at → IsBefore n at → (slot : ℕ) → part_of at' n slot ≡ part_of at n slot
  same_parts n within once before slot = same_part at at' n slot once (once_moved once)
      (λ i u is names. elim (cases_eq i from) [
        | inl e ↦ (let same : t ≡ u = same_Some t u (sym was ∙ ap at (sym e) ∙ is) in
            standing at' n slot gap u (omega arith) (moved_here ∙ ap Some same) names)
        | inr apart ↦ (let other : i ≢ gap = λ e. none-some u (sym empty ∙ ap at (sym e) ∙ is) in
            standing at' n slot i u (before i u is) (moved_other i other apart ∙ is) names)
      ])
      (source (λ i u. u.slot ≡ slot → (v : Stands at n slot) × (v.tag ≡ u))
      (λ names. standing at n slot from t within was names)
      (λ i u other apart is names. standing at n slot i u (before i u is) is names))

  -- the same tags
  pub moved_back : (n : ℕ) → from < n → IsOnce at → IsBefore n at → IsMoved n at at'
  moved_back n within once before = record {
    parts = same_parts n within once before;
    count =
        (let came : count_in mid n + one_if (at gap) ≡ count_in at n + 1 =
        count_put at mid gap (Some t) put n (omega arith) in
        let went : count_in at' n + one_if (mid from) ≡ count_in mid n + 0 =
        count_put mid at' from None take n within in
        let none : one_if (at gap) ≡ 0 = ap one_if empty in
        let one : one_if (mid from) ≡ 1 = ap one_if (put.others from (λ e. omega arith) ∙ was) in
        omega arith);
    before = λ end less'. source (λ i u. i < end) (let inside : from < end = less' from t was in omega arith)
        (λ i u other apart is. less' i u is);
  }

pub moved_trans : (n : ℕ) (at mid at' : ℕ → Option Tag) → IsMoved n at mid → IsMoved n mid at' → IsMoved n at at'
moved_trans n at mid at' a b = record {
  parts = λ slot. b.parts slot ∙ a.parts slot;
  count = b.count ∙ a.count;
  before = λ end before. b.before end (a.before end before);
}

-- tags behind the gap whose homes are behind it
abbrev pub AreBehind : ℕ → ℕ → ℕ → (ℕ → Option Tag) → Type 0
AreBehind bits gap next at = (i : ℕ) (t : Tag) → gap < i → i < next → at i ≡ Some t → gap < home bits t.fingerprint

pub behind_more : (bits gap next : ℕ) (at : ℕ → Option Tag) (t : Tag) → at next ≡ Some t
    → gap < home bits t.fingerprint → AreBehind bits gap next at → AreBehind bits gap (next + 1) at
behind_more bits gap next at t is here before i u more less there = elim (cases_eq i next) [
  | inl e ↦ subst (λ (v : Tag). gap < home bits v.fingerprint) (same_Some t u (sym is ∙ ap at (sym e) ∙ there)) here
  | inr apart ↦ before i u more (omega arith) there
]

-- no probe meets the gap once those behind it begin behind it
pub closed : (bits gap next : ℕ) (at : ℕ → Option Tag) → gap < next → at next ≡ None → IsProbedBut gap bits at
    → AreBehind bits gap next at → IsProbed bits at
closed bits gap next at less stop probed behind = record {
  behind = probed.behind;
  full = λ i j u is begin before. elim (cases_eq j gap) [
    | inr apart ↦ probed.full i j u is begin before apart
    | inl e ↦ (elim (cases_lt i next) [
      | inl inside ↦ absurd (omega (arith, behind i u (omega arith) inside is))
      | inr past ↦ (let other : i ≢ next = λ e. none-some u (sym stop ∙ ap at (sym e) ∙ is) in
          let apart : next ≢ gap = λ e. omega arith in
          absurd (probed.full i next u is (omega arith) (omega arith) apart stop))
    ])
  ];
}
