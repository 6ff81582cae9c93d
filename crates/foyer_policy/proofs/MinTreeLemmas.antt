-- The nodes of a segment tree, as the walks up and down go over them.
use Rattle.std.proofs.Common.{◌≡◌, ℕ, zero, suc, ◌+◌, ◌-◌, ◌*◌, ◌/◌, ◌^◌, ◌<◌, ◌≤◌, ◌≢◌, inl, inr, refl, sym, ◌∙◌, ap, arith}
use Rattle.std.proofs.Common.{List, length, drop, get_or, replicate, set}
use Rattle.std.proofs.Math.Nat.{pow-succ', pow-le-pow_right}
use Rattle.std.proofs.lemmas.Bool.{cases_lt, cases_eq}
use Rattle.std.proofs.lemmas.List.{get_or-drop, get_or-replicate, get_or-set_other, get_or-set_same, length-drop, length-set, drop-set-lt, drop-set-add}
use Rattle.foyer_policy.specs.MinTree.{leftmost, least_of, IsLeast, IsTree, HasHeight}

-- each inner node has the least number of its children
abbrev pub AllLeast : ℕ → List ℕ → Type 0
AllLeast first nodes = (i : ℕ) → 0 < i → i < first → IsLeast nodes i

-- so has each but one
abbrev pub AllLeastBut : ℕ → List ℕ → ℕ → Type 0
AllLeastBut first nodes skip = (i : ℕ) → 0 < i → i < first → i ≢ skip → IsLeast nodes i

-- so has each where all numbers are equal
pub all-equal : (first size number : ℕ) → size + 2 ≡ 4 * first → AllLeast first (replicate size number)
all-equal first size number is i low high =
    let at = 4 * i - 2 in
    omega (
      arith,
      get_or-replicate size i number 0 (omega arith),
      get_or-replicate size at number 0 (omega arith),
      get_or-replicate size (at + 1) number 0 (omega arith),
      get_or-replicate size (at + 2) number 0 (omega arith),
      get_or-replicate size (at + 3) number 0 (omega arith),
    )

-- the least of four numbers is at most each
least-of : (nodes : List ℕ) (at j : ℕ) → at ≤ j → j ≤ at + 3 → least_of nodes at ≤ get_or nodes j 0
least-of nodes at j from to = elim (cases_eq j at) [
  | inl zeroth ↦ omega (arith, ap (λ n. get_or nodes n 0) zeroth)
  | inr past ↦ elim (cases_eq j (at + 1)) [
    | inl one ↦ omega (arith, ap (λ n. get_or nodes n 0) one)
    | inr past-one ↦ elim (cases_eq j (at + 2)) [
      | inl two ↦ omega (arith, ap (λ n. get_or nodes n 0) two)
      | inr past-two ↦
          let three : j ≡ at + 3 = omega arith in
          omega (arith, ap (λ n. get_or nodes n 0) three)
    ]
  ]
]

-- at no height a node itself
pub leftmost-zero : (i : ℕ) → leftmost i 0 ≡ i
unfolding leftmost
leftmost-zero i = refl

-- a level further down, by the first child
pub leftmost-suc : (i c k : ℕ) → c + 2 ≡ 4 * i → leftmost i (suc k) ≡ leftmost c k
unfolding leftmost
leftmost-suc i c k is =
    let e : 4 * i - 2 ≡ c = omega arith in
    ap (λ n. leftmost n k) e

-- and by all that stand above the leaves
pub leftmost-last : (i k : ℕ) → 0 < i → leftmost i (suc k) + 2 ≡ 4 * leftmost i k
leftmost-last i zero some = omega (arith, leftmost-suc i (4 * i - 2) 0 (omega arith), leftmost-zero i, leftmost-zero (4 * i - 2))
leftmost-last i (suc k) some =
    let c = 4 * i - 2 in
    omega (
      arith,
      leftmost-suc i c (suc k) (omega arith),
      leftmost-suc i c k (omega arith),
      leftmost-last c k (omega arith),
    )

-- later nodes have later nodes below them
pub leftmost-le : (i j k : ℕ) → 0 < i → i ≤ j → leftmost i k ≤ leftmost j k
leftmost-le i j zero some le = omega (arith, leftmost-zero i, leftmost-zero j)
leftmost-le i j (suc k) some le =
    omega (
      arith,
      leftmost-suc i (4 * i - 2) k (omega arith),
      leftmost-suc j (4 * j - 2) k (omega arith),
      leftmost-le (4 * i - 2) (4 * j - 2) k (omega arith) (omega arith),
    )

-- no node stands behind those below it
pub at-most : (i k : ℕ) → 0 < i → i ≤ leftmost i k
at-most i zero some = omega (arith, leftmost-zero i)
at-most i (suc k) some = omega (arith, at-most i k some, leftmost-last i k some)

-- so many leaves are below the root
pub leaves-are : (k : ℕ) → 3 * leftmost 1 k ≡ 4 ^ k + 2
leaves-are zero = omega (arith, leftmost-zero 1)
leaves-are (suc k) = omega (arith, leftmost-last 1 k (omega arith), leaves-are k, pow-succ' 4 k)

-- a tree whose first leaf has so great a number has at least 2 ^ 62 leaves
pub leaves-many : (first k : ℕ) → first ≡ leftmost 1 k → 2 ^ 60 ≤ first → 2 ^ 62 + 2 ≤ 3 * first
leaves-many first k is many = elim (cases_lt k 31) [
  | inl low ↦
      let small : 4 ^ k ≤ 4 ^ 30 = pow-le-pow_right {n = 4} (omega arith) {i = k} {j = 30} (omega arith) in
      absurd (omega (arith, leaves-are k))
  | inr high ↦
      let great : 4 ^ 31 ≤ 4 ^ k = pow-le-pow_right {n = 4} (omega arith) {i = 31} {j = k} high in
      omega (arith, leaves-are k)
]

-- what holds of the nodes below each of some nodes in a row holds of all below these
run : (P : ℕ → Type 0) (k a n : ℕ)
    → ((j : ℕ) → a ≤ j → j < a + n → (l : ℕ) → leftmost j k ≤ l → l < leftmost (j + 1) k → P l)
    → (l : ℕ) → leftmost a k ≤ l → l < leftmost (a + n) k → P l
run P k a zero each l from to =
    let e : a + 0 ≡ a = omega arith in
    absurd (omega (arith, ap (λ n. leftmost n k) e))
run P k a (suc n) each l from to =
    let e : a + suc n ≡ a + n + 1 = omega arith in
    elim (cases_lt l (leftmost (a + n) k)) [
      | inl before ↦ run P k a n (λ j low high. each j low (omega arith)) l from before
      | inr behind ↦ each (a + n) (omega arith) (omega arith) l behind (omega (arith, ap (λ n. leftmost n k) e))
    ]

-- a node's number is at most the number of each leaf below it
pub least-below : (first : ℕ) (nodes : List ℕ) (k i l : ℕ) → AllLeast first nodes → 0 < i → leftmost i k ≤ l
    → l < leftmost (i + 1) k → l + 2 < 4 * first → get_or nodes i 0 ≤ get_or nodes l 0
least-below first nodes zero i l least some from to within =
    let e : i ≡ l = omega (arith, leftmost-zero i, leftmost-zero (i + 1)) in
    omega (arith, ap (λ n. get_or nodes n 0) e)
least-below first nodes (suc k) i l least some from to within =
    let c = 4 * i - 2 in
    let inner : i < first = omega (arith, at-most i k some, leftmost-last i k some) in
    let here = least i some inner in
    run
    (λ m. (m + 2 < 4 * first → get_or nodes i 0 ≤ get_or nodes m 0))
    k
    c
    4
    (λ j low high m after before room.
    let below = least-below first nodes k j m least (omega arith) after before room in
    omega (arith, least-of nodes c j low (omega arith)))
    l
    (omega (arith, leftmost-suc i c k (omega arith)))
    (omega (arith, leftmost-suc (i + 1) (c + 4) k (omega arith)))
    within

-- the least of four numbers is one of them
least-is : (nodes : List ℕ) (at : ℕ) → (j : ℕ) × (at ≤ j) × (j ≤ at + 3) × (get_or nodes j 0 ≡ least_of nodes at)
least-is nodes at = elim (cases_eq (get_or nodes at 0) (least_of nodes at)) [
  | inl zeroth ↦ (at, omega arith, omega arith, zeroth)
  | inr past ↦ elim (cases_eq (get_or nodes (at + 1) 0) (least_of nodes at)) [
    | inl one ↦ (at + 1, omega arith, omega arith, one)
    | inr past-one ↦ elim (cases_eq (get_or nodes (at + 2) 0) (least_of nodes at)) [
      | inl two ↦ (at + 2, omega arith, omega arith, two)
      | inr past-two ↦ (at + 3, omega arith, omega arith, omega arith)
    ]
  ]
]

-- a leaf below a node has the node's number
abbrev pub Has : List ℕ → ℕ → ℕ → Type 0
Has nodes k i = (l : ℕ) × (leftmost i k ≤ l) × (l < leftmost (i + 1) k) × (get_or nodes l 0 ≡ get_or nodes i 0)

pub least-has : (first : ℕ) (nodes : List ℕ) (k i : ℕ) → AllLeast first nodes → 0 < i
    → leftmost (i + 1) k + 2 ≤ 4 * first → Has nodes k i
least-has first nodes zero i least some room =
    (i, omega (arith, leftmost-zero i), omega (arith, leftmost-zero (i + 1)), refl)
least-has first nodes (suc k) i least some room =
    let c = 4 * i - 2 in
    let last = leftmost-last (i + 1) k (omega arith) in
    let inner : i < first = omega (arith, at-most (i + 1) k (omega arith)) in
    let here = least i some inner in
    let one = least-is nodes c in
    let next = leftmost-suc (i + 1) (c + 4) k (omega arith) in
    let down = leftmost-suc i c k (omega arith) in
    let before = leftmost-le c one.0 k (omega arith) one.1 in
    let behind = leftmost-le (one.0 + 1) (c + 4) k (omega arith) (omega (arith, one.2)) in
    let leaf = least-has first nodes k one.0 least (omega (arith, one.1)) (omega arith) in
    (leaf.0, omega (arith, leaf.1), omega (arith, leaf.2), omega (arith, leaf.3, one.3))

-- where nodes in a row are above a limit, the leaves below them are
pub run-above : (first : ℕ) (nodes : List ℕ) (limit k a b l : ℕ) → AllLeast first nodes → 0 < a → a ≤ b
    → ((j : ℕ) → a ≤ j → j < b → limit < get_or nodes j 0)
    → leftmost a k ≤ l → l < leftmost b k → l + 2 < 4 * first → limit < get_or nodes l 0
run-above first nodes limit k a b l least some le each from to within =
    let n = b - a in
    let e : b ≡ a + n = omega arith in
    run
    (λ m. (m + 2 < 4 * first → limit < get_or nodes m 0))
    k
    a
    n
    (λ j low high m after before room.
    let below = least-below first nodes k j m least (omega arith) after before room in
    omega (arith, each j low (omega arith)))
    l
    from
    (omega (arith, ap (λ n. leftmost n k) e))
    within

-- from a leaf on, all leaves before those below a node are above the limit
pub record Below (first : ℕ) (nodes : List ℕ) (limit from node : ℕ) : Type 0 where
  pub height : ℕ
  pub over : HasHeight first node height
  pub on : from ≤ leftmost node height
  pub before : (l : ℕ) → from ≤ l → l < leftmost node height → limit < get_or nodes l 0

-- an inner node is above the leaves
higher : (first node k : ℕ) → node < first → first ≤ leftmost node k → (j : ℕ) × (k ≡ suc j)
higher first node zero inner from = absurd (omega (arith, leftmost-zero node))
higher first node (suc j) inner from = (j, refl)

-- a step down, to a child before which all are above the limit
Below-next : (first : ℕ) (nodes : List ℕ) (limit from node child : ℕ) → AllLeast first nodes
    → Below first nodes limit from node → 0 < node → node < first → 4 * node ≤ child + 2 → child < 4 * node + 2
    → ((j : ℕ) → 4 * node - 2 ≤ j → j < child → limit < get_or nodes j 0) → Below first nodes limit from child
Below-next first nodes limit from node child least b some inner low high each =
    let c = 4 * node - 2 in
    let j = (higher first node b.height inner b.over.from).0 in
    let is : b.height ≡ suc j = (higher first node b.height inner b.over.from).1 in
    let up : leftmost node b.height ≡ leftmost c j = ap (λ k. leftmost node k) is ∙ leftmost-suc node c j (omega arith) in
    let on : leftmost (node + 1) b.height ≡ leftmost (c + 4) j = ap (λ k. leftmost (node + 1) k) is
    ∙ leftmost-suc (node + 1) (c + 4) j (omega arith) in
    let left : leftmost c j ≤ leftmost child j = leftmost-le c child j (omega arith) (omega arith) in
    let right : leftmost child j ≤ leftmost (child + 1) j = leftmost-le child (child + 1) j (omega arith) (omega arith) in
    let end : leftmost (child + 1) j ≤ leftmost (c + 4) j = leftmost-le (child + 1) (c + 4) j (omega arith) (omega arith) in
    record {
      height = j;
      over = record { from = omega (arith, b.over.from); to = omega (arith, b.over.to) };
      on = omega (arith, b.on);
      before = λ l after before. elim (cases_lt l (leftmost node b.height)) [
        | inl old ↦ b.before l after old
        | inr new ↦ run-above first nodes limit j c child l least (omega arith) (omega arith) each (omega arith) before
            (omega (arith, b.over.to))
      ];
    }

-- the walk down from a top node is at a node with a number within the limit, and none before it is
pub record Down (first : ℕ) (nodes : List ℕ) (limit top node : ℕ) : Type 0 where
  pub some : 0 < node
  pub within : node < length nodes
  pub number : get_or nodes node 0 ≤ limit
  pub below : (height : ℕ) → HasHeight first top height → Below first nodes limit (leftmost top height) node

pub Down-next : (first : ℕ) (nodes : List ℕ) (limit top node child : ℕ) → IsTree first nodes
    → Down first nodes limit top node → node < first → 4 * node - 2 ≤ child → child ≤ 4 * node - 2 + 3
    → get_or nodes child 0 ≤ limit → ((j : ℕ) → 4 * node - 2 ≤ j → j < child → limit < get_or nodes j 0)
    → Down first nodes limit top child
Down-next first nodes limit top node child tree d inner low high number each =
    let some = d.some in
    record {
      some = omega arith;
      within = omega (arith, tree.size);
      number = number;
      below = λ height over. Below-next first nodes limit (leftmost top height) node child tree.least (d.below height over)
          some inner (omega arith) (omega arith) each;
    }

-- a leaf has height 0
leaf-height : (first node k : ℕ) → 0 < node → first ≤ node → HasHeight first node k → leftmost node k ≡ node
leaf-height first node zero some leaf over = leftmost-zero node
leaf-height first node (suc k) some leaf over =
    absurd (omega (arith, over.to, leftmost-last (node + 1) k (omega arith), at-most (node + 1) k (omega arith)))

-- at a leaf the walk has come to the first within the limit
pub Down-behind : (first : ℕ) (nodes : List ℕ) (limit top node : ℕ) → Down first nodes limit top node → first ≤ node
    → (height : ℕ) → HasHeight first top height → leftmost top height ≤ node
Down-behind first nodes limit top node d leaf height over =
    let b = d.below height over in
    omega (arith, b.on, leaf-height first node b.height d.some leaf b.over)

pub Down-first : (first : ℕ) (nodes : List ℕ) (limit top node : ℕ) → Down first nodes limit top node
    → (height : ℕ) → HasHeight first top height → (l : ℕ) → leftmost top height ≤ l → l < node
    → limit < get_or nodes l 0
Down-first first nodes limit top node d height over l from to =
    let b = d.below height over in
    b.before l from (omega (arith, at-most node b.height d.some))

-- a tree has a leaf
pub some-first : (first : ℕ) (nodes : List ℕ) → IsTree first nodes → 0 < first
some-first first nodes tree = omega (arith, tree.lowest, at-most 1 tree.height (omega arith))

-- the numbers are the leaves
pub count : (first : ℕ) (nodes numbers : List ℕ) → IsTree first nodes → drop first nodes ≡ numbers
    → length numbers + 2 ≡ 3 * first
count first nodes numbers tree are =
    let size = ap length are in
    omega (arith, tree.size, some-first first nodes tree, length-drop first nodes)

pub number-at : (first : ℕ) (nodes numbers : List ℕ) → drop first nodes ≡ numbers → (j : ℕ)
    → get_or numbers j 0 ≡ get_or nodes (first + j) 0
number-at first nodes numbers are j =
    let read = ap (λ xs. get_or xs j 0) are in
    omega (arith, get_or-drop first nodes j 0)

-- the root stands above all leaves
pub root-height : (first : ℕ) (nodes : List ℕ) → (tree : IsTree first nodes) → HasHeight first 1 tree.height
root-height first nodes tree =
    let next = leftmost-suc 1 2 tree.height (omega arith) in
    let last = leftmost-last 1 tree.height (omega arith) in
    record { from = omega (arith, tree.lowest); to = omega (arith, tree.lowest) }

-- the root's number is at most each
pub least-all : (first : ℕ) (nodes numbers : List ℕ) → IsTree first nodes → drop first nodes ≡ numbers
    → (j : ℕ) → j < length numbers → get_or nodes 1 0 ≤ get_or numbers j 0
least-all first nodes numbers tree are j there =
    let within : j + 2 < 3 * first = omega (arith, count first nodes numbers tree are) in
    let h = tree.height in
    let next = leftmost-suc 1 2 h (omega arith) in
    let last = leftmost-last 1 h (omega arith) in
    let below = least-below first nodes h 1 (first + j) tree.least (omega arith) (omega (arith, tree.lowest))
    (omega (arith, tree.lowest)) (omega arith) in
    omega (arith, number-at first nodes numbers are j)

-- a node is of the level that stands so high above the leaves
pub record IsLevel (first node height : ℕ) : Type 0 where
  pub depth : ℕ
  pub levels : first ≡ leftmost (leftmost 1 depth) height
  pub low : leftmost 1 depth ≤ node
  pub high : node + 2 < 4 * leftmost 1 depth

-- so it has that height
IsLevel-height : (first node height : ℕ) → IsLevel first node height → HasHeight first node height
IsLevel-height first node height v =
    let a = leftmost 1 v.depth in
    let some : 0 < a = omega (arith, at-most 1 v.depth (omega arith)) in
    let next = leftmost-suc a (4 * a - 2) height (omega arith) in
    record {
      from = omega (arith, v.levels, leftmost-le a node height some v.low);
      to = omega (
        arith,
        v.levels,
        next,
        leftmost-last a height some,
        leftmost-le (node + 1) (4 * a - 2) height (omega arith) (omega (arith, v.high)),
      );
    }

IsLevel-some : (first node height : ℕ) → IsLevel first node height → 0 < node
IsLevel-some first node height v = omega (arith, v.low, at-most 1 v.depth (omega arith))

-- a node that is not the root is below another level
deeper : (node depth : ℕ) → 1 < node → node + 2 < 4 * leftmost 1 depth → (d : ℕ) × (depth ≡ suc d)
deeper node zero inner high = absurd (omega (arith, leftmost-zero 1))
deeper node (suc d) inner high = (d, refl)

-- a level up
IsLevel-up : (first node height : ℕ) → IsLevel first node height → 1 < node → IsLevel first ((node + 2) / 4) (suc height)
IsLevel-up first node height v inner =
    let d = (deeper node v.depth inner v.high).0 in
    let is : v.depth ≡ suc d = (deeper node v.depth inner v.high).1 in
    let a = leftmost 1 d in
    let b : leftmost 1 v.depth + 2 ≡ 4 * a = ap (λ k. leftmost 1 k + 2) is ∙ leftmost-last 1 d (omega arith) in
    record {
      depth = d;
      levels = v.levels ∙ sym (leftmost-suc a (leftmost 1 v.depth) height b);
      low = omega (arith, v.low);
      high = omega (arith, v.high);
    }

-- the other children of a node's parent are of its level
IsLevel-sibling : (first node sibling height : ℕ) → IsLevel first node height → 1 < node → node ≤ sibling
    → sibling ≤ 4 * ((node + 2) / 4) + 1 → IsLevel first sibling height
IsLevel-sibling first node sibling height v inner low high =
    let d = (deeper node v.depth inner v.high).0 in
    let is : v.depth ≡ suc d = (deeper node v.depth inner v.high).1 in
    let a = leftmost 1 d in
    let b : leftmost 1 v.depth + 2 ≡ 4 * a = ap (λ k. leftmost 1 k + 2) is ∙ leftmost-last 1 d (omega arith) in
    record {
      depth = v.depth;
      levels = v.levels;
      low = omega (arith, v.low);
      high = omega (arith, v.high);
    }

-- the last child of a node's parent is a node
IsLevel-room : (first node height size : ℕ) → IsLevel first node height → 0 < first → size + 2 ≡ 4 * first
    → 4 * ((node + 2) / 4) + 1 < size
IsLevel-room first node height size v some is =
    let last = 4 * ((node + 2) / 4) + 1 in
    elim (cases_lt 1 node) [
      | inl inner ↦
          let over = IsLevel-height first last height
          (IsLevel-sibling first node last height v inner (omega arith) (omega arith)) in
          omega (arith, over.to, at-most (last + 1) height (omega arith))
      | inr root ↦ omega arith
    ]

-- the walk up from a leaf is at a node, and all leaves behind that leaf and below the node are above the limit
pub record Behind (first : ℕ) (nodes : List ℕ) (limit leaf node : ℕ) : Type 0 where
  pub height : ℕ
  pub level : IsLevel first node height
  pub room : 4 * ((node + 2) / 4) + 1 < length nodes
  pub to : leaf < leftmost (node + 1) height
  pub above : (l : ℕ) → leaf < l → l < leftmost (node + 1) height → limit < get_or nodes l 0

pub Behind-leaf : (first : ℕ) (nodes : List ℕ) (limit index : ℕ) → IsTree first nodes → index + 2 < 3 * first
    → Behind first nodes limit (first + index) (first + index)
Behind-leaf first nodes limit index tree h =
    let next = leftmost-zero (first + index + 1) in
    let v : IsLevel first (first + index) 0 = record {
      depth = tree.height;
      levels = tree.lowest ∙ sym (leftmost-zero (leftmost 1 tree.height));
      low = omega (arith, tree.lowest);
      high = omega (arith, tree.lowest);
    } in
    record {
      height = 0;
      level = v;
      room = IsLevel-room first (first + index) 0 (length nodes) v (some-first first nodes tree) tree.size;
      to = omega arith;
      above = λ l from to. absurd (omega arith);
    }

-- a sibling has the node's height
pub Behind-sibling : (first : ℕ) (nodes : List ℕ) (limit leaf node sibling : ℕ)
    → (b : Behind first nodes limit leaf node) → 1 < node → node < sibling → sibling ≤ 4 * ((node + 2) / 4) + 1
    → HasHeight first sibling b.height
Behind-sibling first nodes limit leaf node sibling b inner low high =
    IsLevel-height first sibling b.height
    (IsLevel-sibling first node sibling b.height b.level inner (omega arith) high)

-- where the siblings before another are above the limit, so are the leaves before those below it
pub Behind-before : (first : ℕ) (nodes : List ℕ) (limit leaf node end : ℕ) → AllLeast first nodes
    → (b : Behind first nodes limit leaf node) → 1 < node → node < end → end ≤ 4 * ((node + 2) / 4) + 2
    → ((j : ℕ) → node < j → j < end → limit < get_or nodes j 0)
    → (l : ℕ) → leaf < l → l < leftmost end b.height → limit < get_or nodes l 0
Behind-before first nodes limit leaf node end least b inner low high each l from to =
    elim (cases_lt l (leftmost (node + 1) b.height)) [
      | inl old ↦ b.above l from old
      | inr new ↦
          let last = 4 * ((node + 2) / 4) + 1 in
          let v = IsLevel-sibling first node last b.height b.level inner (omega arith) (omega arith) in
          let over = IsLevel-height first last b.height v in
          let le = leftmost-le end (last + 1) b.height (omega arith) (omega arith) in
          run-above first nodes limit b.height (node + 1) end l least (omega arith) (omega arith)
          (λ j after before. each j (omega arith) before) new to (omega (arith, over.to))
    ]

-- a step up, where all siblings behind the node are above the limit
pub Behind-up : (first : ℕ) (nodes : List ℕ) (limit leaf node : ℕ) → IsTree first nodes
    → Behind first nodes limit leaf node → 1 < node
    → ((j : ℕ) → node < j → j ≤ 4 * ((node + 2) / 4) + 1 → limit < get_or nodes j 0)
    → Behind first nodes limit leaf ((node + 2) / 4)
Behind-up first nodes limit leaf node tree b inner each =
    let p = (node + 2) / 4 in
    let end = 4 * p + 2 in
    let on = leftmost-suc (p + 1) end b.height (omega arith) in
    let le = leftmost-le (node + 1) end b.height (omega arith) (omega arith) in
    let v = IsLevel-up first node b.height b.level inner in
    record {
      height = suc b.height;
      level = v;
      room = IsLevel-room first p (suc b.height) (length nodes) v (some-first first nodes tree) tree.size;
      to = omega (arith, b.to);
      above = λ l from to. Behind-before first nodes limit leaf node end tree.least b inner (omega arith) (omega arith)
          (λ j after before. each j after (omega arith)) l from (omega arith);
    }

-- the root is the first level
root-depth : (depth : ℕ) → leftmost 1 depth ≤ 1 → depth ≡ 0
root-depth zero low = refl
root-depth (suc d) low = absurd (omega (arith, leftmost-last 1 d (omega arith), at-most 1 d (omega arith)))

-- at the root all leaves behind the first are above the limit
pub Behind-root : (first : ℕ) (nodes numbers : List ℕ) (limit leaf node : ℕ) → IsTree first nodes
    → drop first nodes ≡ numbers → Behind first nodes limit leaf node → node ≤ 1 → (j : ℕ) → leaf < first + j
    → j < length numbers → limit < get_or numbers j 0
Behind-root first nodes numbers limit leaf node tree are b root j behind there =
    let v = b.level in
    let d = root-depth v.depth (omega (arith, v.low)) in
    let zeroth : leftmost 1 v.depth ≡ 1 = ap (λ k. leftmost 1 k) d ∙ leftmost-zero 1 in
    let only : node ≡ 1 = omega (arith, v.low) in
    let from : first ≡ leftmost 1 b.height = v.levels ∙ ap (λ n. leftmost n b.height) zeroth in
    let to : leftmost (node + 1) b.height ≡ leftmost 2 b.height = ap (λ n. leftmost (n + 1) b.height) only in
    let end = leftmost-suc 1 2 b.height (omega arith) in
    let last = leftmost-last 1 b.height (omega arith) in
    omega (
      arith,
      number-at first nodes numbers are j,
      b.above (first + j) behind (omega (arith, count first nodes numbers tree are)),
    )

-- a write to another node that is no child of it leaves a node right
kept : (nodes : List ℕ) (p m i : ℕ) → i ≢ p → (4 * i - 2 ≤ p → p ≤ 4 * i - 2 + 3 → i ≡ 0) → 0 < i → IsLeast nodes i
    → IsLeast (set nodes p m) i
kept nodes p m i own apart some h =
    let at = 4 * i - 2 in
    omega (
      arith,
      get_or-set_other nodes p i m 0 own,
      get_or-set_other nodes p at m 0 (λ e. omega (arith, apart (omega arith) (omega arith))),
      get_or-set_other nodes p (at + 1) m 0 (λ e. omega (arith, apart (omega arith) (omega arith))),
      get_or-set_other nodes p (at + 2) m 0 (λ e. omega (arith, apart (omega arith) (omega arith))),
      get_or-set_other nodes p (at + 3) m 0 (λ e. omega (arith, apart (omega arith) (omega arith))),
    )

-- the walk up is at a node: all nodes but the one above it have their least numbers, and the leaves are final
pub record Up (first : ℕ) (numbers nodes : List ℕ) (node : ℕ) : Type 0 where
  pub some : 0 < node
  pub within : node < length nodes
  pub size : length nodes + 2 ≡ 4 * first
  pub final : drop first nodes ≡ numbers
  pub least : AllLeastBut first nodes ((node + 2) / 4)

pub Up-leaf : (first : ℕ) (nodes numbers : List ℕ) (index number : ℕ) → IsTree first nodes → drop first nodes ≡ numbers
    → index < length numbers
    → Up first (set numbers index number) (set nodes (first + index) number) (first + index)
Up-leaf first nodes numbers index number tree are h =
    let some = some-first first nodes tree in
    let p = first + index in
    let size = length-set nodes p number in
    record {
      some = omega arith;
      within = omega (arith, tree.size, count first nodes numbers tree are);
      size = omega (arith, tree.size);
      final = drop-set-add first nodes index number ∙ ap (λ xs. set xs index number) are;
      least = λ i low high other. kept nodes p number i (λ e. omega arith)
          (λ from to. absurd (other (omega arith))) low (tree.least i low high);
    }

-- a step up, where the node above gets its least number
pub Up-next : (first : ℕ) (numbers nodes : List ℕ) (node m : ℕ) → Up first numbers nodes node → 1 < node
    → m ≡ least_of nodes (4 * ((node + 2) / 4) - 2)
    → Up first numbers (set nodes ((node + 2) / 4) m) ((node + 2) / 4)
Up-next first numbers nodes node m up inner is =
    let p = (node + 2) / 4 in
    let at = 4 * p - 2 in
    let below : p < first = omega (arith, up.within, up.size) in
    let room : p < length nodes = omega (arith, up.size) in
    let size = length-set nodes p m in
    let written : IsLeast (set nodes p m) p = omega (
      arith,
      get_or-set_same nodes p m 0 room,
      get_or-set_other nodes p at m 0 (λ e. omega arith),
      get_or-set_other nodes p (at + 1) m 0 (λ e. omega arith),
      get_or-set_other nodes p (at + 2) m 0 (λ e. omega arith),
      get_or-set_other nodes p (at + 3) m 0 (λ e. omega arith),
    ) in
    record {
      some = omega arith;
      within = omega arith;
      size = omega (arith, up.size);
      final = drop-set-lt first nodes p m below ∙ up.final;
      least = λ i low high other. elim (cases_eq i p) [
        | inl same ↦ rw same written
        | inr apart ↦ kept nodes p m i apart (λ from to. absurd (other (omega arith))) low (up.least i low high apart)
      ];
    }

-- at the root each node has its least number
pub Up-root : (first : ℕ) (numbers nodes : List ℕ) (node : ℕ) → Up first numbers nodes node → node ≤ 1
    → AllLeast first nodes
Up-root first numbers nodes node up top i low high = up.least i low high (λ e. omega (arith, e))

-- and so where the node above keeps its number
pub Up-stop : (first : ℕ) (numbers nodes : List ℕ) (node : ℕ) → Up first numbers nodes node
    → IsLeast nodes ((node + 2) / 4) → AllLeast first nodes
Up-stop first numbers nodes node up here i low high = elim (cases_eq i ((node + 2) / 4)) [
  | inl same ↦ rw same here
  | inr apart ↦ up.least i low high apart
]
