-- What a node says of those above it and below it.
use Rattle.std.proofs.Common.{◌≡◌, inl, inr, ◌⊎◌, ℕ, zero, suc, ◌+◌, ◌*◌, ◌/◌, ◌^◌, ◌<◌, ◌≤◌, ◌||◌, Bool, true, false, List, [], ◌∷◌, length, get_or, drop, refl, sym, ◌∙◌, ap, subst, arith}
use Rattle.std.proofs.Math.ListN.{set}
use Rattle.std.proofs.Math.Nat.{pow-succ'}
use Rattle.std.proofs.lemmas.Nat.{pow_pos, pow_below}
use Rattle.std.proofs.Math.Pow.{pow_mono}
use Rattle.std.proofs.lemmas.List.{drop-set-lt, length-set, get_or-set_same, get_or-set_other, get_or-drop}
use Rattle.std.proofs.lemmas.Bool.{false≢true, cases_Bool, cases_eq}
use Rattle.plan.specs.Tree.{node_at, IsJoined, AreJoined, AreJoinedBut, IsTree, IsFirstAt}
use Rattle.plan.specs.Flags.{has, AreNone}

-- ---- up from a leaf

write_leaf : (tree : List Bool) (leaf : ℕ) (v : Bool) (i : ℕ) → (i ≡ leaf → ⊥) → node_at (set tree leaf v) i ≡ node_at tree i
write_leaf tree leaf v i other = get_or-set_other tree leaf i v false other

module _ (tree : List Bool) (node : ℕ) (v : Bool) where
  same_joined : (i : ℕ) → IsJoined tree i → (i ≡ node → ⊥) → (2 * i ≡ node → ⊥) → (2 * i + 1 ≡ node → ⊥) → IsJoined (set tree node v) i
  same_joined i is here left right =
      write_leaf tree node v i here
      ∙ (is ∙ (ap (λ (b : Bool). b || node_at tree (2 * i + 1)) (sym (write_leaf tree node v (2 * i) left))
      ∙ ap (λ (b : Bool). node_at (set tree node v) (2 * i) || b) (sym (write_leaf tree node v (2 * i + 1) right))))

  -- a node that was mended leaves only the one above it
  pub joined_up : AreJoinedBut node tree → v ≡ (node_at tree (2 * node) || node_at tree (2 * node + 1)) → 0 < node → AreJoinedBut (node / 2) (set tree node v)
  joined_up but is above i low fits other = elim (cases_eq i node) [
    | inl same ↦
        let lt : node < length tree = omega (arith, fits, same, length-set tree node v) in
        subst (λ (n : ℕ). IsJoined (set tree node v) n) (sym same)
        (get_or-set_same tree node v false lt
        ∙ (is ∙ (ap (λ (b : Bool). b || node_at tree (2 * node + 1)) (sym (write_leaf tree node v (2 * node) (λ e. omega (arith, e, above))))
        ∙ ap (λ (b : Bool). node_at (set tree node v) (2 * node) || b) (sym (write_leaf tree node v (2 * node + 1) (λ e. omega (arith, e, above)))))))
    | inr not ↦
        same_joined i (but i low (omega (arith, fits, length-set tree node v)) not) not
        (λ e. other (omega (arith, e))) (λ e. other (omega (arith, e)))
  ]

-- ---- down from the root

below_none : (tree : List Bool) (i : ℕ) → IsJoined tree i → node_at tree i ≡ false → (node_at tree (2 * i) ≡ false) × (node_at tree (2 * i + 1) ≡ false)
below_none tree i is none = by (node_at tree (2 * i)) (node_at tree (2 * i + 1)) refl refl (sym none ∙ is)
  where
    by : (a b : Bool) → node_at tree (2 * i) ≡ a → node_at tree (2 * i + 1) ≡ b → false ≡ (node_at tree (2 * i) || node_at tree (2 * i + 1)) → (node_at tree (2 * i) ≡ false) × (node_at tree (2 * i + 1) ≡ false)
    by false false p q e = (p, q)
    by false true p q e = absurd (false≢true (e ∙ (ap (λ (x : Bool). x || node_at tree (2 * i + 1)) p ∙ q)))
    by true b p q e = absurd (false≢true (e ∙ ap (λ (x : Bool). x || node_at tree (2 * i + 1)) p))

-- which of the two nodes below another this one is
half_cases : (k : ℕ) → (k ≡ 2 * (k / 2)) ⊎ (k ≡ 2 * (k / 2) + 1)
half_cases k = elim (cases_eq k (2 * (k / 2))) [
  | inl even ↦ inl even
  | inr odd ↦ inr (omega (arith, odd))
]

-- a node below one that is not set is not set
none_below : (tree : List Bool) (k : ℕ) → AreJoined tree → 1 < k → 2 * (k / 2) + 1 < length tree → node_at tree (k / 2) ≡ false → node_at tree k ≡ false
none_below tree k all low fits none =
    let both = below_none tree (k / 2) (all (k / 2) (omega (arith, low)) fits) none in
    elim (half_cases k) [
      | inl even ↦ subst (λ (n : ℕ). node_at tree n ≡ false) (sym even) both.0
      | inr odd ↦ subst (λ (n : ℕ). node_at tree n ≡ false) (sym odd) both.1
    ]

module _ (tree : List Bool) (start node : ℕ) (all : AreJoined tree) (first : IsFirstAt start tree node) (low : 0 < start) (fits : 2 * node + 1 < length tree) where
  lower : (k : ℕ) → 2 * start ≤ k → k < 2 * node → node_at tree k ≡ false
  lower k from to = none_below tree k all (omega (arith, low, from)) (omega (arith, to, fits)) (first.lowest (k / 2) (omega (arith, from)) (omega (arith, to)))

  pub to_left : node_at tree (2 * node) ≡ true → IsFirstAt (2 * start) tree (2 * node)
  to_left is = record {
    after = omega (arith, first.after);
    before = omega (arith, first.before);
    is = is;
    lowest = lower;
  }

  pub to_right : node_at tree (2 * node) ≡ false → IsFirstAt (2 * start) tree (2 * node + 1)
  to_right none = record {
    after = omega (arith, first.after);
    before = omega (arith, first.before);
    is = right (node_at tree (2 * node + 1)) refl;
    lowest = λ k from to. elim (cases_eq k (2 * node)) [
      | inl same ↦ subst (λ (n : ℕ). node_at tree n ≡ false) (sym same) none
      | inr other ↦ lower k from (omega (arith, to, other))
    ];
  }
    where
      is_set : node_at tree node ≡ (node_at tree (2 * node) || node_at tree (2 * node + 1))
      is_set = all node (omega (arith, first.after, low)) fits

      right : (b : Bool) → node_at tree (2 * node + 1) ≡ b → node_at tree (2 * node + 1) ≡ true
      right true e = e
      right false e = absurd (false≢true (sym e ∙ (ap (λ (x : Bool). x || node_at tree (2 * node + 1)) (sym none) ∙ (sym is_set ∙ first.is))))

-- ---- where the root is not set

pub level_none : (tree : List Bool) (height d : ℕ) → AreJoined tree → length tree ≡ 2 * 2 ^ height → node_at tree 1 ≡ false → d ≤ height → (k : ℕ) → 2 ^ d ≤ k → k < 2 * 2 ^ d → node_at tree k ≡ false
level_none tree height zero all size none le k from to = subst (λ (n : ℕ). node_at tree n ≡ false) (omega (arith, from, to)) none
level_none tree height (suc d) all size none le k from to =
    let double = pow-succ' 2 d in
    let more = pow_mono {i = d} {j = height} (omega (arith, le)) in
    let up = pow_below d height (omega (arith, le)) in
    let pos = pow_pos d in
    none_below tree k all (omega (arith, double, from, pos)) (omega (arith, double, to, pow_mono {i = suc d} {j = height} le, size))
    (level_none tree height d all size none (omega (arith, le)) (k / 2) (omega (arith, double, from)) (omega (arith, double, to)))

-- ---- what the leaves say

module _ (tree : List Bool) (leaves : ℕ) where
  pub leaf_at : (k : ℕ) → has (drop leaves tree) k ≡ node_at tree (leaves + k)
  leaf_at k = get_or-drop leaves tree k false

pub none_of : (height leaves : ℕ) (tree : List Bool) → IsTree height leaves tree → node_at tree 1 ≡ false → AreNone (drop leaves tree)
none_of height leaves tree is none k = leaf_at tree leaves k ∙ elim (cases_Bool (node_at tree (leaves + k))) [
  | inl set_ ↦ absurd (false≢true (sym (level_none tree height height is.joined (is.size ∙ ap (λ (n : ℕ). 2 * n) is.shape) none (omega arith) (leaves + k) (omega (arith, is.shape)) (omega (arith, within (leaves + k) set_, is.size, is.shape))) ∙ set_))
  | inr not ↦ not
]
  where
    within : (i : ℕ) → node_at tree i ≡ true → i < length tree
    within i = inside tree i
      where
        inside : (xs : List Bool) (i : ℕ) → node_at xs i ≡ true → i < length xs
        inside [] i is = absurd (false≢true is)
        inside (x ∷ xs) zero is = omega arith
        inside (x ∷ xs) (suc i) is = let rest = inside xs i is in omega (arith, rest)

pub or_then : (a b v : Bool) → a ≡ true → v ≡ true → v ≡ (a || b)
or_then a b v is same = same ∙ sym (ap (λ (x : Bool). x || b) is)

pub or_next : (a b v : Bool) → a ≡ false → v ≡ b → v ≡ (a || b)
or_next a b v not same = same ∙ sym (ap (λ (x : Bool). x || b) not)

pub leaves_stay : (tree : List Bool) (node : ℕ) (v : Bool) (start : ℕ) → 2 * node < length tree → length (set tree node v) ≤ 2 * start → drop start (set tree node v) ≡ drop start tree
leaves_stay tree node v start low above = drop-set-lt start tree node v (omega (arith, low, above, length-set tree node v))

-- the next level
pub next_level : (tree : List Bool) (height level node next : ℕ) → length tree ≡ 2 * 2 ^ height → AreJoined tree → level < height → IsFirstAt (2 ^ level) tree node
    → ((node_at tree (2 * node) ≡ true) × (next ≡ 2 * node)) ⊎ ((node_at tree (2 * node) ≡ false) × (next ≡ 2 * node + 1)) → IsFirstAt (2 ^ (level + 1)) tree next
next_level tree height level node next size all lt first cases =
    subst (λ (n : ℕ). IsFirstAt n tree next) (sym (ap (λ (n : ℕ). 2 ^ n) add ∙ pow-succ' 2 level)) (elim cases [
      | inl left ↦ subst (λ (n : ℕ). IsFirstAt (2 * 2 ^ level) tree n) (sym left.1) (to_left tree (2 ^ level) node all first (pow_pos level) fits left.0)
      | inr right ↦ subst (λ (n : ℕ). IsFirstAt (2 * 2 ^ level) tree n) (sym right.1) (to_right tree (2 ^ level) node all first (pow_pos level) fits right.0)
    ])
  where
    add : level + 1 ≡ suc level
    add = omega arith

    fits : 2 * node + 1 < length tree
    fits = omega (arith, first.before, size, pow_mono {i = suc level} {j = height} lt, pow-succ' 2 level)

pub node_fits : (tree : List Bool) (height level node : ℕ) → length tree ≡ 2 * 2 ^ height → level < height → IsFirstAt (2 ^ level) tree node → 2 * node + 1 < length tree
node_fits tree height level node size lt first = omega (arith, first.before, size, pow_mono {i = suc level} {j = height} lt, pow-succ' 2 level)

-- within a list a default is not read
same_default : (xs : List Bool) (i : ℕ) (a b : Bool) → i < length xs → get_or xs i a ≡ get_or xs i b
same_default [] i a b lt = absurd (omega (arith, lt))
same_default (x ∷ xs) zero a b lt = refl
same_default (x ∷ xs) (suc i) a b lt = same_default xs i a b (omega (arith, lt))

pub root_read : (height leaves : ℕ) (tree : List Bool) (v : Bool) → IsTree height leaves tree → v ≡ get_or tree 1 v → v ≡ false → node_at tree 1 ≡ false
root_read height leaves tree v is read none = same_default tree 1 false v (omega (arith, pow_pos height, is.shape, is.size)) ∙ (sym read ∙ none)
