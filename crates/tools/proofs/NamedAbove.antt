-- The outputs that paths are, or that edges above them name.
use Rattle.std.proofs.Common.{◌≡◌, ◌≢◌, ◌⊎◌, ◌↔◌, inl, inr, ℕ, zero, suc, ◌+◌, ◌<◌, ◌≤◌, ◌==◌, ◌||◌, Bool, true, false, cond, List, [], ◌∷◌, ◌++◌, Option, Some, None, IsSome, is_some, length, take, get_or, filter, replicate, refl, sym, ap, ◌∙◌, subst, arith}
use Rattle.std.specs.List.{flat_map}
use Rattle.std.proofs.Math.ListN.{set}
use Rattle.std.proofs.lemmas.Bool.{cases_Bool, cases_lt, eqb-true, eq-eqb, false≢true, or_cases, or_left, or_right}
use Rattle.std.proofs.lemmas.List.{get_or-replicate, get_or-set_same, get_or-set_other, get_or_past, length-replicate, take_more}
use Rattle.model.specs.Graph.{has_number}
use Rattle.graph.specs.Held.{AreMakers, maker_in}
use Rattle.graph.specs.Links.{Links, links_of}
use Rattle.graph.specs.declared.graph.Graph.{Graph}
use Rattle.tools.specs.Above.{AreAbove, AreNamedBy, AreNamedMade, IsNamedAbove, IsNeededFor, Makes, Further}
use Rattle.tools.proofs.Putting.{flat_next}
use Rattle.tools.proofs.Rises.{has_push}

-- ---- lists of numbers

has_both : (xs ys : List ℕ) (n : ℕ) → has_number (xs ++ ys) n ≡ (has_number xs n || has_number ys n)
has_both [] ys n = refl
has_both (x ∷ xs) ys n = ap (λ (b : Bool). (x == n) || b) (has_both xs ys n) ∙ or_assoc (x == n) (has_number xs n) (has_number ys n)
  where
    or_assoc : (a b c : Bool) → (a || (b || c)) ≡ ((a || b) || c)
    or_assoc true b c = refl
    or_assoc false b c = refl

pub has_flat : (f : ℕ → List ℕ) (xs : List ℕ) (n : ℕ) → has_number (flat_map f xs) n ≡ true → (e : ℕ) × (has_number xs e ≡ true) × (has_number (f e) n ≡ true)
has_flat f [] n h = absurd (false≢true h)
has_flat f (x ∷ xs) n h = elim (or_cases (has_number (f x) n) (has_number (flat_map f xs) n) (sym (has_both (f x) (flat_map f xs) n) ∙ h)) [
  | inl here ↦ (x, or_left (x == x) (has_number xs x) (eq-eqb x x refl), here)
  | inr later ↦ let rest = has_flat f xs n later in (rest.0, or_right (x == rest.0) (has_number xs rest.0) rest.1, rest.2)
]

pub flat_has : (f : ℕ → List ℕ) (xs : List ℕ) (e n : ℕ) → has_number xs e ≡ true → has_number (f e) n ≡ true → has_number (flat_map f xs) n ≡ true
flat_has f [] e n at has = absurd (false≢true at)
flat_has f (x ∷ xs) e n at has = has_both (f x) (flat_map f xs) n ∙ elim (or_cases (x == e) (has_number xs e) at) [
  | inl here ↦ or_left (has_number (f x) n) (has_number (flat_map f xs) n) (subst (λ (m : ℕ). has_number (f m) n ≡ true) (sym (eqb-true x e here)) has)
  | inr later ↦ or_right (has_number (f x) n) (has_number (flat_map f xs) n) (flat_has f xs e n later has)
]

pub has_filter : (test : ℕ → Bool) (xs : List ℕ) (n : ℕ) → has_number (filter test xs) n ≡ true → (has_number xs n ≡ true) × (test n ≡ true)
has_filter test [] n h = absurd (false≢true h)
has_filter test (x ∷ xs) n h = by (test x) refl (has_filter test xs n)
  where
    by : (b : Bool) → test x ≡ b → (has_number (filter test xs) n ≡ true → (has_number xs n ≡ true) × (test n ≡ true)) → (has_number (x ∷ xs) n ≡ true) × (test n ≡ true)
    by true is all =
        let kept : has_number (x ∷ filter test xs) n ≡ true = sym (ap (λ (b : Bool). has_number (cond b (x ∷ filter test xs) (filter test xs)) n) is) ∙ h in
        elim (or_cases (x == n) (has_number (filter test xs) n) kept) [
          | inl here ↦ (or_left (x == n) (has_number xs n) here, subst (λ (m : ℕ). test m ≡ true) (eqb-true x n here) is)
          | inr later ↦ let rest = all later in (or_right (x == n) (has_number xs n) rest.0, rest.1)
        ]
    by false is all =
        let rest = all (sym (ap (λ (b : Bool). has_number (cond b (x ∷ filter test xs) (filter test xs)) n) is) ∙ h) in
        (or_right (x == n) (has_number xs n) rest.0, rest.1)

pub filter_has : (test : ℕ → Bool) (xs : List ℕ) (n : ℕ) → has_number xs n ≡ true → test n ≡ true → has_number (filter test xs) n ≡ true
filter_has test [] n h passes = absurd (false≢true h)
filter_has test (x ∷ xs) n h passes = by (test x) refl (filter_has test xs n)
  where
    by : (b : Bool) → test x ≡ b → (has_number xs n ≡ true → test n ≡ true → has_number (filter test xs) n ≡ true) → has_number (filter test (x ∷ xs)) n ≡ true
    by true is all = ap (λ (b : Bool). has_number (cond b (x ∷ filter test xs) (filter test xs)) n) is ∙ elim (or_cases (x == n) (has_number xs n) h) [
      | inl here ↦ or_left (x == n) (has_number (filter test xs) n) here
      | inr later ↦ or_right (x == n) (has_number (filter test xs) n) (all later passes)
    ]
    by false is all = ap (λ (b : Bool). has_number (cond b (x ∷ filter test xs) (filter test xs)) n) is ∙ elim (or_cases (x == n) (has_number xs n) h) [
      | inl here ↦ absurd (false≢true (sym is ∙ (ap test (eqb-true x n here) ∙ passes)))
      | inr later ↦ all later passes
    ]

-- ---- marks

-- one more is marked
pub mark_next : (old now : List Bool) (paths : List ℕ) (i q : ℕ) → i < length paths → q ≡ get_or paths i q → length now ≡ length old → q < length now
    → ((p : ℕ) → p < length old → get_or now p false ≡ (get_or old p false || has_number (take i paths) p))
    → (p : ℕ) → p < length old → get_or (set now q true) p false ≡ (get_or old p false || has_number (take (i + 1) paths) p)
mark_next old now paths i q low is count within before p inside =
    let more : take (i + 1) paths ≡ take i paths ++ q ∷ [] = take_more paths i q low ∙ ap (λ (m : ℕ). take i paths ++ m ∷ []) (sym is) in
    let has : has_number (take (i + 1) paths) p ≡ (has_number (take i paths) p || (q == p)) = ap (λ (l : List ℕ). has_number l p) more ∙ has_push (take i paths) q p in
    by (q == p) refl has
  where
    or_true : (a b : Bool) → (a || (b || true)) ≡ true
    or_true true b = refl
    or_true false true = refl
    or_true false false = refl

    or_false : (a b : Bool) → (a || (b || false)) ≡ (a || b)
    or_false true b = refl
    or_false false true = refl
    or_false false false = refl

    by : (b : Bool) → (q == p) ≡ b → has_number (take (i + 1) paths) p ≡ (has_number (take i paths) p || (q == p)) → get_or (set now q true) p false ≡ (get_or old p false || has_number (take (i + 1) paths) p)
    by true same has =
        subst (λ (m : ℕ). get_or (set now q true) m false ≡ true) (eqb-true q p same) (get_or-set_same now q true false within)
        ∙ sym (ap (λ (b : Bool). get_or old p false || b) (has ∙ ap (λ (b : Bool). has_number (take i paths) p || b) same) ∙ or_true (get_or old p false) (has_number (take i paths) p))
    by false other has =
        get_or-set_other now q p true false (λ e. false≢true (sym other ∙ eq-eqb q p (sym e)))
        ∙ (before p inside ∙ sym (ap (λ (b : Bool). get_or old p false || b) (has ∙ ap (λ (b : Bool). has_number (take i paths) p || b) other) ∙ or_false (get_or old p false) (has_number (take i paths) p)))

-- one that has no mark changes none
pub mark_past : (old now : List Bool) (paths : List ℕ) (i q : ℕ) → i < length paths → q ≡ get_or paths i q → length now ≡ length old → (q < length now → ⊥)
    → ((p : ℕ) → p < length old → get_or now p false ≡ (get_or old p false || has_number (take i paths) p))
    → (p : ℕ) → p < length old → get_or now p false ≡ (get_or old p false || has_number (take (i + 1) paths) p)
mark_past old now paths i q low is count past before p inside =
    let more : take (i + 1) paths ≡ take i paths ++ q ∷ [] = take_more paths i q low ∙ ap (λ (m : ℕ). take i paths ++ m ∷ []) (sym is) in
    let has : has_number (take (i + 1) paths) p ≡ (has_number (take i paths) p || (q == p)) = ap (λ (l : List ℕ). has_number l p) more ∙ has_push (take i paths) q p in
    before p inside ∙ ap (λ (b : Bool). get_or old p false || b) (sym (has ∙ (ap (λ (b : Bool). has_number (take i paths) p || b) apart ∙ or_nothing (has_number (take i paths) p))))
  where
    or_nothing : (b : Bool) → (b || false) ≡ b
    or_nothing true = refl
    or_nothing false = refl

    apart : (q == p) ≡ false
    apart = elim (cases_Bool (q == p)) [
      | inl same ↦ absurd (past (subst (λ (m : ℕ). m < length now) (sym (eqb-true q p same)) (omega (arith, inside, count))))
      | inr other ↦ other
    ]

-- all inputs of one more edge are marked
pub marks_more : (f : ℕ → List ℕ) (edges : List ℕ) (i e p : ℕ) (was_marked one two : Bool) → i < length edges → e ≡ get_or edges i e → one ≡ (was_marked || has_number (flat_map f (take i edges)) p)
    → two ≡ (one || has_number (f e) p) → two ≡ (was_marked || has_number (flat_map f (take (i + 1) edges)) p)
marks_more f edges i e p was_marked one two low is was now =
    now ∙ (ap (λ (b : Bool). b || has_number (f e) p) was ∙ (or_assoc was_marked (has_number (flat_map f (take i edges)) p) (has_number (f e) p)
    ∙ ap (λ (b : Bool). was_marked || b) (sym (has_both (flat_map f (take i edges)) (f e) p) ∙ ap (λ (l : List ℕ). has_number l p) (sym (flat_next f edges i e low is)))))
  where
    or_assoc : (a b c : Bool) → ((a || b) || c) ≡ (a || (b || c))
    or_assoc true b c = refl
    or_assoc false b c = refl

-- no edge was looked at
pub marks_first : (f : ℕ → List ℕ) (edges : List ℕ) (p : ℕ) (was_marked : Bool) → was_marked ≡ (was_marked || has_number (flat_map f (take zero edges)) p)
marks_first f edges p true = refl
marks_first f edges p false = refl

-- first the paths, then the inputs
pub marks_both : (graph : Graph) (paths edges : List ℕ) (n : ℕ) (start mid new : List Bool) → start ≡ replicate n false → n ≡ length graph.manifest.paths → length mid ≡ length start
    → ((p : ℕ) → p < length start → get_or mid p false ≡ (get_or start p false || has_number paths p)) → length new ≡ length mid
    → ((p : ℕ) → p < length mid → get_or new p false ≡ (get_or mid p false || has_number (flat_map (links_of graph).inputs edges) p)) → AreNamedBy graph paths edges new
marks_both graph paths edges n start mid new none count one first two then =
    let size : length start ≡ n = ap length none ∙ length-replicate n false in
    record {
      count = omega (arith, size, count, one, two);
      marked = λ p low.
          let within : p < n = omega (arith, low, count) in
          let unmarked : get_or start p false ≡ false = ap (λ (l : List Bool). get_or l p false) none ∙ get_or-replicate n p false false within in
          then p (omega (arith, within, size, one)) ∙ ap (λ (b : Bool). b || has_number (flat_map (links_of graph).inputs edges) p) (first p (omega (arith, within, size)) ∙ ap (λ (b : Bool). b || has_number paths p) unmarked);
    }

-- ---- outputs

module _ (graph : Graph) (paths edges : List ℕ) (marks : List Bool) (making : AreMakers graph.manifest graph.makers) (above : AreAbove graph paths edges) (by : AreNamedBy graph paths edges marks) where
  abbrev made_outputs : List ℕ
  made_outputs = flat_map (λ e. filter (λ p. get_or marks p false) ((links_of graph).outputs e)) edges

  within : (p : ℕ) → get_or marks p false ≡ true → p < length graph.manifest.paths
  within p h = elim (cases_lt p (length marks)) [
    | inl low ↦ omega (arith, low, by.count)
    | inr past ↦ absurd (false≢true (sym (get_or_past marks p false past) ∙ h))
  ]

  named : (p : ℕ) → get_or marks p false ≡ true → IsNamedAbove graph paths p
  named p h = elim (or_cases (has_number paths p) (has_number (flat_map (links_of graph).inputs edges) p) (sym (by.marked p (within p h)) ∙ h)) [
    | inl asked ↦ inl asked
    | inr input ↦ let at = has_flat (links_of graph).inputs edges p input in inr (at.0, (above.just at.0).0 at.1, at.2)
  ]

  pub named_made : (outputs : List ℕ) → outputs ≡ made_outputs → AreNamedMade graph paths outputs
  named_made outputs is p = (on, back)
    where
      on : has_number outputs p ≡ true → IsNamedAbove graph paths p × IsSome ((links_of graph).maker p)
      on h =
          let at = has_flat (λ e. filter (λ q. get_or marks q false) ((links_of graph).outputs e)) edges p (subst (λ (l : List ℕ). has_number l p ≡ true) is h) in
          let kept = has_filter (λ q. get_or marks q false) ((links_of graph).outputs at.0) p at.2 in
          (named p kept.1, ap is_some (making.all p at.0 kept.0))

      by_maker : (o : Option ℕ) → (links_of graph).maker p ≡ o → IsSome o → IsNamedAbove graph paths p → has_number outputs p ≡ true
      by_maker None makes some names = absurd (false≢true some)
      by_maker (Some e) makes some names =
          let needed : IsNeededFor (links_of graph) paths e = elim names [
            | inl asked ↦ Makes e p asked makes
            | inr input ↦ Further e input.0 p input.1 input.2 makes
          ] in
          let mark : get_or marks p false ≡ true = by.marked p inside ∙ elim names [
            | inl asked ↦ or_left (has_number paths p) (has_number (flat_map (links_of graph).inputs edges) p) asked
            | inr input ↦ or_right (has_number paths p) (has_number (flat_map (links_of graph).inputs edges) p) (flat_has (links_of graph).inputs edges input.0 p ((above.just input.0).1 input.1) input.2)
          ] in
          subst (λ (l : List ℕ). has_number l p ≡ true) (sym is)
          (flat_has (λ d. filter (λ q. get_or marks q false) ((links_of graph).outputs d)) edges e p ((above.just e).1 needed) (filter_has (λ q. get_or marks q false) ((links_of graph).outputs e) p (making.made p e makes) mark))
        where
          not_some : None ≡ Some e → ⊥
          not_some clash = cc

          inside : p < length graph.manifest.paths
          inside = elim (cases_lt p (length graph.makers)) [
            | inl low ↦ omega (arith, low, making.fits)
            | inr past ↦ absurd (not_some (sym (get_or_past graph.makers p None past) ∙ makes))
          ]

      back : IsNamedAbove graph paths p × IsSome ((links_of graph).maker p) → has_number outputs p ≡ true
      back both = by_maker ((links_of graph).maker p) refl both.1 both.0
