-- Who makes what, by numbers and in texts.
use Rattle.std.proofs.Common.{◌≡◌, inl, inr, ℕ, zero, suc, ◌<◌, ◌≤◌, ◌==◌, Bool, true, false, cond, List, [], ◌∷◌, ◌++◌, Option, Some, None, length, take, nat_lt, refl, sym, ◌∙◌, ap, subst, arith, append_assoc, bytes_eq}
use Rattle.std.specs.List.{flat_map}
use Rattle.std.specs.Option.{is_some}
use Rattle.std.proofs.lemmas.Bool.{cases_Bool, cases_lt, eqb-true, eq-eqb, false≢true, false_from_ne_true}
use Rattle.model.specs.Graph.{has, has_number, outputs, maker, later_number}
use Rattle.theory.proofs.Lists.{same_bytes, bytes_same, one_if, has_number-left, has_number-right, has_number-cases}
use Rattle.paths.specs.declared.line.Line.{Line}
use Rattle.paths.specs.declared.manifest.Action.{Action}
use Rattle.paths.specs.declared.manifest.Manifest.{Manifest}
use Rattle.paths.specs.Numbers.{HaveOnePlace}
use Rattle.paths.specs.Lists.{no_line, line_at, line_outputs, line_inputs, line_paths, all_paths}
use Rattle.paths.specs.Told.{text_at, texts_at, edge_of, edges_of, graph_of}
use Rattle.graph.specs.Held.{maker_in, times, StandOnce, AreMakers}
use Rattle.graph.specs.Linked.{AreDistinct}
use Rattle.graph.specs.Making.{made_below, HaveClaimed, IsFirstClaimed, AreMakersBelow, IsRemade}
use Rattle.graph.proofs.Lists.{one_time, no_time, once_left, once_right, once_append, once_none}
use Rattle.graph.proofs.Repeats.{copies, no_copies, distinct_of_copies}
use Rattle.graph.proofs.Texts.{same_number, AreWithin, within_has, within_of, has_texts, number_of, outputs_of}

-- ---- the numbers of a line are named

pub in_all : (lines : List Line) (e p : ℕ) → has_number (line_paths (line_at lines e)) p ≡ true → has_number (all_paths lines) p ≡ true
in_all [] e p h = absurd (false≢true h)
in_all (line ∷ lines) zero p h = has_number-left (line_paths line) (all_paths lines) p h
in_all (line ∷ lines) (suc e) p h = has_number-right (line_paths line) (all_paths lines) p (in_all lines e p h)

module _ (manifest : Manifest) where
  pub named_below : (e p : ℕ) → has_number (line_paths (line_at manifest.lines e)) p ≡ true → p < length manifest.paths
  named_below e p h = manifest.within p (in_all manifest.lines e p h)

  pub output_below : (e p : ℕ) → has_number (line_outputs (line_at manifest.lines e)) p ≡ true → p < length manifest.paths
  output_below e p h =
      let line = line_at manifest.lines e in
      named_below e p (has_number-left (line_outputs line) (line_inputs line ++ line.validations) p h)

  pub input_below : (e p : ℕ) → has_number (line_inputs (line_at manifest.lines e)) p ≡ true → p < length manifest.paths
  input_below e p h =
      let line = line_at manifest.lines e in
      named_below e p (has_number-right (line_outputs line) (line_inputs line ++ line.validations) p (has_number-left (line_inputs line) line.validations p h))

  pub validation_below : (e p : ℕ) → has_number (line_at manifest.lines e).validations p ≡ true → p < length manifest.paths
  validation_below e p h =
      let line = line_at manifest.lines e in
      named_below e p (has_number-right (line_outputs line) (line_inputs line ++ line.validations) p (has_number-right (line_inputs line) line.validations p h))

  widen : (numbers : List ℕ) → ((p : ℕ) → has_number numbers p ≡ true → p < length manifest.paths) → AreWithin manifest.paths numbers
  widen numbers each = within_of (length manifest.paths) numbers each

  pub outputs_within : (e : ℕ) → AreWithin manifest.paths (line_outputs (line_at manifest.lines e))
  outputs_within e = widen (line_outputs (line_at manifest.lines e)) (output_below e)

  pub inputs_within : (e : ℕ) → AreWithin manifest.paths (line_inputs (line_at manifest.lines e))
  inputs_within e = widen (line_inputs (line_at manifest.lines e)) (input_below e)

  pub validations_within : (e : ℕ) → AreWithin manifest.paths (line_at manifest.lines e).validations
  validations_within e = widen (line_at manifest.lines e).validations (validation_below e)

-- ---- the first maker

abbrev first_maker : List Line → ℕ → Option ℕ
first_maker [] p = None
first_maker (line ∷ lines) p = cond (has_number (line_outputs line) p) (Some 0) (later_number (first_maker lines p))

later_cond : (b : Bool) (o : Option ℕ) → cond b (Some 1) (later_number o) ≡ later_number (cond b (Some 0) o)
later_cond true o = refl
later_cond false o = refl

maker_texts : (paths : List (List ℕ)) → HaveOnePlace paths → (lines : List Line) (actions : List Action) (p : ℕ) → length actions ≡ length lines → p < length paths → ((e : ℕ) → AreWithin paths (line_outputs (line_at lines e)))
    → maker (edges_of paths lines actions) (text_at paths p) ≡ later_number (first_maker lines p)
maker_texts paths once [] actions p fits lt within = refl
maker_texts paths once (line ∷ lines) [] p fits lt within = absurd (omega (arith, fits))
maker_texts paths once (line ∷ lines) (action ∷ actions) p fits lt within =
    let here : has (outputs (edge_of paths line action)) (text_at paths p) ≡ has_number (line_outputs line) p = ap (λ (l : List (List ℕ)). has l (text_at paths p)) (outputs_of paths line action) ∙ has_texts paths once (line_outputs line) p lt (within 0) in
    let rest = maker_texts paths once lines actions p (omega (arith, fits)) lt (λ e. within (suc e)) in
    ap (λ (b : Bool). cond b (Some 1) (later_number (maker (edges_of paths lines actions) (text_at paths p)))) here
    ∙ (ap (λ (o : Option ℕ). cond (has_number (line_outputs line) p) (Some 1) (later_number o)) rest
    ∙ later_cond (has_number (line_outputs line) p) (later_number (first_maker lines p)))

later_some : (o : Option ℕ) (i : ℕ) → later_number o ≡ Some i → (m : ℕ) × (o ≡ Some m) × (suc m ≡ i)
later_some None i is = cc
later_some (Some m) i is = (m, refl, cc)

later_none : (o : Option ℕ) → later_number o ≡ None → o ≡ None
later_none None is = refl
later_none (Some m) is = cc

first_found : (lines : List Line) (p e : ℕ) → first_maker lines p ≡ Some e → has_number (line_outputs (line_at lines e)) p ≡ true
first_found [] p e is = cc
first_found (line ∷ lines) p e is = elim (cases_Bool (has_number (line_outputs line) p)) [
  | inl here ↦
      let first : Some 0 ≡ Some e = sym (ap (λ (b : Bool). cond b (Some 0) (later_number (first_maker lines p))) here) ∙ is in
      at_zero e first here
  | inr other ↦
      let later : later_number (first_maker lines p) ≡ Some e = sym (ap (λ (b : Bool). cond b (Some 0) (later_number (first_maker lines p))) other) ∙ is in
      let rest = later_some (first_maker lines p) e later in
      subst (λ (n : ℕ). has_number (line_outputs (line_at (line ∷ lines) n)) p ≡ true) rest.2 (first_found lines p rest.0 rest.1)
]
  where
    at_zero : (e : ℕ) → Some 0 ≡ Some e → has_number (line_outputs line) p ≡ true → has_number (line_outputs (line_at (line ∷ lines) e)) p ≡ true
    at_zero zero same here = here
    at_zero (suc e) same here = cc

first_none : (lines : List Line) (p : ℕ) → first_maker lines p ≡ None → (e : ℕ) → has_number (line_outputs (line_at lines e)) p ≡ false
first_none [] p is e = refl
first_none (line ∷ lines) p is e = elim (cases_Bool (has_number (line_outputs line) p)) [
  | inl here ↦
      let some : Some 0 ≡ None = sym (ap (λ (b : Bool). cond b (Some 0) (later_number (first_maker lines p))) here) ∙ is in
      cc
  | inr other ↦ by_place e other (first_none lines p (later_none (first_maker lines p) (sym (ap (λ (b : Bool). cond b (Some 0) (later_number (first_maker lines p))) other) ∙ is)))
]
  where
    by_place : (e : ℕ) → has_number (line_outputs line) p ≡ false → ((d : ℕ) → has_number (line_outputs (line_at lines d)) p ≡ false) → has_number (line_outputs (line_at (line ∷ lines) e)) p ≡ false
    by_place zero other rest = other
    by_place (suc e) other rest = rest e

module _ (manifest : Manifest) (makers : List (Option ℕ)) (are : AreMakers manifest makers) where
  first_is : (p : ℕ) → first_maker manifest.lines p ≡ maker_in makers p
  first_is p = by (maker_in makers p) refl (first_maker manifest.lines p) refl
    where
      by : (o : Option ℕ) → maker_in makers p ≡ o → (f : Option ℕ) → first_maker manifest.lines p ≡ f → f ≡ o
      by None is None first = refl
      by None is (Some d) first = let some : None ≡ Some d = sym is ∙ are.all p d (first_found manifest.lines p d first) in cc
      by (Some e) is None first = absurd (false≢true (sym (first_none manifest.lines p first e) ∙ are.made p e is))
      by (Some e) is (Some d) first = sym (are.all p d (first_found manifest.lines p d first)) ∙ is

  -- the maker of a text is that of its number
  pub maker_is : HaveOnePlace manifest.paths → (p : ℕ) → p < length manifest.paths → maker (graph_of manifest).edges (text_at manifest.paths p) ≡ later_number (maker_in makers p)
  maker_is once p lt = maker_texts manifest.paths once manifest.lines manifest.actions p manifest.fits lt (outputs_within manifest) ∙ ap later_number (first_is p)

-- ---- texts that stand once

module _ (paths : List (List ℕ)) (once : HaveOnePlace paths) where
  copies_texts : (numbers : List ℕ) (n : ℕ) → n < length paths → AreWithin paths numbers → copies (text_at paths n) (texts_at paths numbers) ≡ times numbers n
  copies_texts [] n lt within = refl
  copies_texts (m ∷ numbers) n lt within = elim (cases_Bool (m == n)) [
    | inl same ↦
        let one : one_if (bytes_eq (text_at paths m) (text_at paths n)) ≡ 1 = ap one_if (subst (λ (k : ℕ). bytes_eq (text_at paths m) (text_at paths k) ≡ true) (eqb-true m n same) (bytes_same (text_at paths m))) in
        let rest = copies_texts numbers n lt within.1 in
        let more = one_time m n same numbers in
        omega (arith, one, rest, more)
    | inr other ↦
        let apart : bytes_eq (text_at paths m) (text_at paths n) ≡ false = false_from_ne_true _ (λ is. false≢true (sym other ∙ eq-eqb m n (same_number paths once m n within.0 lt (same_bytes (text_at paths m) (text_at paths n) is)))) in
        let none : one_if (bytes_eq (text_at paths m) (text_at paths n)) ≡ 0 = ap one_if apart in
        let rest = copies_texts numbers n lt within.1 in
        let more = no_time m n other numbers in
        omega (arith, none, rest, more)
  ]

  pub distinct_texts : (numbers : List ℕ) → AreWithin paths numbers → StandOnce numbers → AreDistinct (texts_at paths numbers)
  distinct_texts numbers within stand = distinct_of_copies (texts_at paths numbers) (λ p. elim (cases_Bool (has (texts_at paths numbers) p)) [
    | inl there ↦
        let number = number_of paths numbers p there in
        let low = within_has (length paths) numbers number.0 within number.1 in
        let count : copies p (texts_at paths numbers) ≡ times numbers number.0 = subst (λ (q : List ℕ). copies q (texts_at paths numbers) ≡ times numbers number.0) number.2 (copies_texts numbers number.0 low within) in
        let most = stand number.0 in
        omega (arith, count, most)
    | inr absent ↦ let none = no_copies p (texts_at paths numbers) absent in omega (arith, none)
  ])

-- ---- what the first so many edges make

flat_map-push : (lines : List Line) (line : Line) → flat_map line_outputs (lines ++ line ∷ []) ≡ flat_map line_outputs lines ++ line_outputs line
flat_map-push [] line = append_nil (line_outputs line)
  where
    append_nil : (xs : List ℕ) → xs ++ [] ≡ xs
    append_nil [] = refl
    append_nil (x ∷ xs) = ap (λ (l : List ℕ). x ∷ l) (append_nil xs)
flat_map-push (first ∷ lines) line = ap (λ (l : List ℕ). line_outputs first ++ l) (flat_map-push lines line) ∙ sym (append_assoc (line_outputs first) (flat_map line_outputs lines) (line_outputs line))

take_next : (lines : List Line) (k : ℕ) → k < length lines → take (suc k) lines ≡ take k lines ++ line_at lines k ∷ []
take_next [] k lt = absurd (omega (arith, lt))
take_next (line ∷ lines) zero lt = refl
take_next (line ∷ lines) (suc k) lt = ap (λ (l : List Line). line ∷ l) (take_next lines k (omega (arith, lt)))

pub below_next : (lines : List Line) (k : ℕ) → k < length lines → made_below lines (suc k) ≡ made_below lines k ++ line_outputs (line_at lines k)
below_next lines k lt = ap (λ (l : List Line). flat_map line_outputs l) (take_next lines k lt) ∙ flat_map-push (take k lines) (line_at lines k)

-- some edge makes what the first so many make
pub below_has : (lines : List Line) (k n : ℕ) → has_number (made_below lines k) n ≡ true → (d : ℕ) × (d < k) × (has_number (line_outputs (line_at lines d)) n ≡ true)
below_has [] zero n h = absurd (false≢true h)
below_has [] (suc k) n h = absurd (false≢true h)
below_has (line ∷ lines) zero n h = absurd (false≢true h)
below_has (line ∷ lines) (suc k) n h = elim (has_number-cases (line_outputs line) (made_below lines k) n h) [
  | inl here ↦ (0, omega arith, here)
  | inr later ↦ let rest = below_has lines k n later in (suc rest.0, omega (arith, rest.1), rest.2)
]

pub has_below : (lines : List Line) (k d n : ℕ) → d < k → has_number (line_outputs (line_at lines d)) n ≡ true → has_number (made_below lines k) n ≡ true
has_below [] k d n lt h = absurd (false≢true h)
has_below (line ∷ lines) zero d n lt h = absurd (omega (arith, lt))
has_below (line ∷ lines) (suc k) zero n lt h = has_number-left (line_outputs line) (made_below lines k) n h
has_below (line ∷ lines) (suc k) (suc d) n lt h = has_number-right (line_outputs line) (made_below lines k) n (has_below lines k d n (omega (arith, lt)) h)

once_at : (lines : List Line) (k d : ℕ) → d < k → StandOnce (made_below lines k) → StandOnce (line_outputs (line_at lines d))
once_at [] k d lt once = once_none
once_at (line ∷ lines) zero d lt once = absurd (omega (arith, lt))
once_at (line ∷ lines) (suc k) zero lt once = once_left (line_outputs line) (made_below lines k) once
once_at (line ∷ lines) (suc k) (suc d) lt once = once_at lines k d (omega (arith, lt)) (once_right (line_outputs line) (made_below lines k) once)

-- ---- makers while they are given

pub makers_none : (lines : List Line) (makers : List (Option ℕ)) → ((p : ℕ) → maker_in makers p ≡ None) → AreMakersBelow lines makers 0
makers_none lines makers none = record {
  made = λ p e is. let some : None ≡ Some e = sym (none p) ∙ is in cc;
  all = λ p e lt h. absurd (omega (arith, lt));
  once = once_none;
}

module _ (lines : List Line) (old new : List (Option ℕ)) (e : ℕ) (lt : e < length lines) (below : AreMakersBelow lines old e) where
  fresh_apart : (outputs : List ℕ) → ((q : ℕ) → has_number outputs q ≡ true → maker_in old q ≡ None) → (n : ℕ) → has_number (made_below lines e) n ≡ true → has_number outputs n ≡ false
  fresh_apart outputs fresh n there = false_from_ne_true (has_number outputs n) (λ h.
      let edge = below_has lines e n there in
      let both : None ≡ Some edge.0 = sym (fresh n h) ∙ below.all n edge.0 edge.1 edge.2 in
      none_some edge.0 both)
    where
      none_some : (d : ℕ) → None ≡ Some d → ⊥
      none_some d is = cc

  pub claimed_once : HaveClaimed old new (line_outputs (line_at lines e)) e → StandOnce (made_below lines e ++ line_outputs (line_at lines e))
  claimed_once claimed = once_append (made_below lines e) (line_outputs (line_at lines e)) below.once claimed.once (fresh_apart (line_outputs (line_at lines e)) claimed.fresh)

  pub makers_turn : HaveClaimed old new (line_outputs (line_at lines e)) e → AreMakersBelow lines new (suc e)
  makers_turn claimed = record {
    made = λ p d is. elim (cases_Bool (has_number (line_outputs (line_at lines e)) p)) [
      | inl here ↦
          let both : Some e ≡ Some d = sym (claimed.is p ∙ ap (λ (b : Bool). cond b (Some e) (maker_in old p)) here) ∙ is in
          let same : e ≡ d = cc in
          (omega (arith, same), subst (λ (n : ℕ). has_number (line_outputs (line_at lines n)) p ≡ true) same here)
      | inr other ↦
          let was = below.made p d (sym (claimed.is p ∙ ap (λ (b : Bool). cond b (Some e) (maker_in old p)) other) ∙ is) in
          (omega (arith, was.0), was.1)
    ];
    all = λ p d low h. elim (cases_lt d e) [
      | inl before ↦
          let old_is = below.all p d before h in
          let apart = fresh_apart (line_outputs (line_at lines e)) claimed.fresh p (has_below lines e d p before h) in
          claimed.is p ∙ (ap (λ (b : Bool). cond b (Some e) (maker_in old p)) apart ∙ old_is)
      | inr past ↦
          let same : e ≡ d = omega (arith, low, past) in
          let here : has_number (line_outputs (line_at lines e)) p ≡ true = subst (λ (n : ℕ). has_number (line_outputs (line_at lines n)) p ≡ true) (sym same) h in
          claimed.is p ∙ (ap (λ (b : Bool). cond b (Some e) (maker_in old p)) here ∙ ap (λ (n : ℕ). Some n) same)
    ];
    once = subst StandOnce (sym (below_next lines e lt)) (claimed_once claimed);
  }

  pub remade : (p : ℕ) → IsFirstClaimed old (line_outputs (line_at lines e)) p → IsRemade lines e p
  remade p first = record {
    before = first.before;
    after = first.after;
    splits = first.splits;
    once = once_append (made_below lines e) first.before below.once first.once (fresh_apart first.before first.fresh);
    earlier = elim first.claimed [
      | inl made ↦ has_number-left (made_below lines e) first.before p (by (maker_in old p) refl made)
      | inr before ↦ has_number-right (made_below lines e) first.before p before
    ];
  }
    where
      by : (o : Option ℕ) → maker_in old p ≡ o → is_some o ≡ true → has_number (made_below lines e) p ≡ true
      by None is some = absurd (false≢true some)
      by (Some d) is some = let was = below.made p d is in has_below lines e d p was.0 was.1

pub makers_whole : (manifest : Manifest) (makers : List (Option ℕ)) (count : ℕ) → count ≡ length manifest.lines → length makers ≡ length manifest.paths → AreMakersBelow manifest.lines makers count → AreMakers manifest makers
makers_whole manifest makers count whole fits below = record {
  fits = omega (arith, fits);
  made = λ p e is. (below.made p e is).1;
  all = λ p e h. elim (cases_lt e count) [
    | inl low ↦ below.all p e low h
    | inr past ↦ absurd (false≢true (sym (nothing manifest.lines e (omega (arith, past, whole)) p) ∙ h))
  ];
  once = λ e. elim (cases_lt e count) [
    | inl low ↦ once_at manifest.lines count e low below.once
    | inr past ↦ subst (λ (l : Line). StandOnce (line_outputs l)) (sym (past_line manifest.lines e (omega (arith, past, whole)))) once_none
  ];
}
  where
    past_line : (lines : List Line) (e : ℕ) → length lines ≤ e → line_at lines e ≡ no_line
    past_line [] e past = refl
    past_line (line ∷ lines) zero past = absurd (omega (arith, past))
    past_line (line ∷ lines) (suc e) past = past_line lines e (omega (arith, past))

    nothing : (lines : List Line) (e : ℕ) → length lines ≤ e → (p : ℕ) → has_number (line_outputs (line_at lines e)) p ≡ false
    nothing lines e past p = ap (λ (l : Line). has_number (line_outputs l) p) (past_line lines e past)
