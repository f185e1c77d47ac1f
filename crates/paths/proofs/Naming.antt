-- Which paths the edges of a manifest name.
use Rattle.std.proofs.Common.{◌≡◌, inl, inr, ℕ, zero, suc, ◌<◌, ◌≤◌, ◌||◌, ◌==◌, Bool, true, false, List, [], ◌∷◌, ◌++◌, length, take, slice_get, Some, refl, sym, ◌∙◌, ap, subst, arith, bytes_eq}
use Rattle.std.proofs.lemmas.Bool.{or_cases, or_left, or_right, eqb-true, eq-eqb, false≢true, false_from_ne_true}
use Rattle.std.proofs.lemmas.List.{map-append}
use Rattle.std.proofs.lemmas.Option.{slice_get-get_or}
use Rattle.std.proofs.lemmas.Slice.Eq.{bytes_eq-Decides}
use Rattle.model.specs.Graph.{has, has_number, paths_of, is_named}
use Rattle.paths.specs.declared.line.Line.{Line}
use Rattle.paths.specs.declared.manifest.Action.{Action}
use Rattle.paths.specs.declared.manifest.Action.TheVariants.{Alias, Command}
use Rattle.paths.specs.Numbers.{HaveOnePlace}
use Rattle.paths.specs.Lists.{line_outputs, line_regular_inputs, line_inputs, line_paths, line_at, all_paths}
use Rattle.paths.specs.Told.{text_at, texts_at, edge_of, edges_of}
use Rattle.paths.proofs.Places.{in_has}

bytes_same : (p : List ℕ) → bytes_eq p p ≡ true
bytes_same p = (bytes_eq-Decides p p).1 refl

-- ---- the texts of a line

line_texts : (paths : List (List ℕ)) (line : Line) → texts_at paths (line_outputs line) ++ (texts_at paths (line_inputs line) ++ texts_at paths line.validations) ≡ texts_at paths (line_paths line)
line_texts paths line =
    sym (map-append (text_at paths) (line_outputs line) (line_inputs line ++ line.validations)
    ∙ ap (λ (rest : List (List ℕ)). texts_at paths (line_outputs line) ++ rest) (map-append (text_at paths) (line_inputs line) line.validations))

parts : (paths : List (List ℕ)) (line : Line)
    → (texts_at paths line.explicit_outputs ++ texts_at paths line.implicit_outputs)
    ++ (((texts_at paths line.explicit_inputs ++ texts_at paths line.implicit_inputs) ++ texts_at paths line.order_only_inputs) ++ texts_at paths line.validations)
    ≡ texts_at paths (line_paths line)
parts paths line =
    let outputs = map-append (text_at paths) line.explicit_outputs line.implicit_outputs in
    let regular = map-append (text_at paths) line.explicit_inputs line.implicit_inputs in
    let inputs = map-append (text_at paths) (line_regular_inputs line) line.order_only_inputs in
    ap (λ (l : List (List ℕ)). l ++ (((texts_at paths line.explicit_inputs ++ texts_at paths line.implicit_inputs) ++ texts_at paths line.order_only_inputs) ++ texts_at paths line.validations)) (sym outputs)
    ∙ (ap (λ (l : List (List ℕ)). texts_at paths (line_outputs line) ++ ((l ++ texts_at paths line.order_only_inputs) ++ texts_at paths line.validations)) (sym regular)
    ∙ (ap (λ (l : List (List ℕ)). texts_at paths (line_outputs line) ++ (l ++ texts_at paths line.validations)) (sym inputs) ∙ line_texts paths line))

pub edge_texts : (paths : List (List ℕ)) (line : Line) (action : Action) → paths_of (edge_of paths line action) ≡ texts_at paths (line_paths line)
edge_texts paths line Alias = parts paths line
edge_texts paths line (Command command) = parts paths line

-- ---- the texts of all lines

has_append : (xs ys : List (List ℕ)) (p : List ℕ) → has (xs ++ ys) p ≡ (has xs p || has ys p)
has_append [] ys p = refl
has_append (x ∷ xs) ys p = grind (arith, has_append xs ys p)

pub named_texts : (paths : List (List ℕ)) (lines : List Line) (actions : List Action) (p : List ℕ) → length actions ≡ length lines
    → is_named (edges_of paths lines actions) p ≡ has (texts_at paths (all_paths lines)) p
named_texts paths [] actions p fits = refl
named_texts paths (line ∷ lines) [] p fits = absurd (omega (arith, fits))
named_texts paths (line ∷ lines) (action ∷ actions) p fits =
    ap (λ (l : List (List ℕ)). has l p || is_named (edges_of paths lines actions) p) (edge_texts paths line action)
    ∙ (ap (λ (b : Bool). has (texts_at paths (line_paths line)) p || b) (named_texts paths lines actions p (omega (arith, fits)))
    ∙ (sym (has_append (texts_at paths (line_paths line)) (texts_at paths (all_paths lines)) p)
    ∙ ap (λ (l : List (List ℕ)). has l p) (sym (map-append (text_at paths) (line_paths line) (all_paths lines)))))

-- ---- texts and numbers

-- a number of the list has this text
pub record IsAmong (paths : List (List ℕ)) (numbers : List ℕ) (p : List ℕ) : Type 0 where
  pub number : ℕ
  pub among : has_number numbers number ≡ true
  pub is : text_at paths number ≡ p

pub among_of_has : (paths : List (List ℕ)) (numbers : List ℕ) (p : List ℕ) → has (texts_at paths numbers) p ≡ true → IsAmong paths numbers p
among_of_has paths [] p there = absurd (false≢true there)
among_of_has paths (n ∷ numbers) p there = elim (or_cases (bytes_eq (text_at paths n) p) (has (texts_at paths numbers) p) there) [
  | inl here ↦ record { number = n; among = or_left (n == n) (has_number numbers n) (eq-eqb n n refl); is = (bytes_eq-Decides (text_at paths n) p).0 here }
  | inr later ↦
      let rest = among_of_has paths numbers p later in
      record { number = rest.number; among = or_right (n == rest.number) (has_number numbers rest.number) rest.among; is = rest.is }
]

pub has_of_among : (paths : List (List ℕ)) (numbers : List ℕ) (n : ℕ) (p : List ℕ) → has_number numbers n ≡ true → text_at paths n ≡ p → has (texts_at paths numbers) p ≡ true
has_of_among paths [] n p among is = absurd (false≢true among)
has_of_among paths (m ∷ numbers) n p among is = elim (or_cases (m == n) (has_number numbers n) among) [
  | inl here ↦
      let same : text_at paths m ≡ p = ap (text_at paths) (eqb-true m n here) ∙ is in
      or_left (bytes_eq (text_at paths m) p) (has (texts_at paths numbers) p) (subst (λ (q : List ℕ). bytes_eq q p ≡ true) (sym same) (bytes_same p))
  | inr later ↦ or_right (bytes_eq (text_at paths m) p) (has (texts_at paths numbers) p) (has_of_among paths numbers n p later is)
]

-- ---- the paths that lines name

module _ (paths : List (List ℕ)) (lines : List Line) (actions : List Action) (fits : length actions ≡ length lines) (within : (p : ℕ) → has_number (all_paths lines) p ≡ true → p < length paths) where
  at_named : (p : List ℕ) → is_named (edges_of paths lines actions) p ≡ true → (n : ℕ) × (has_number (all_paths lines) n ≡ true) × (slice_get paths n ≡ Some p)
  at_named p is =
      let one = among_of_has paths (all_paths lines) p (sym (named_texts paths lines actions p fits) ∙ is) in
      (one.number, one.among, slice_get-get_or paths one.number [] (within one.number one.among) ∙ ap (λ (t : List ℕ). Some t) one.is)

  -- a path that is not in the table
  pub unnamed_absent : (p : List ℕ) → has paths p ≡ false → is_named (edges_of paths lines actions) p ≡ false
  unnamed_absent p absent = false_from_ne_true _ (λ is. let at = at_named p is in false≢true (sym absent ∙ in_has paths at.0 p at.2))

  -- a path whose number no line has
  pub unnamed_other : (p : List ℕ) (n : ℕ) → HaveOnePlace paths → slice_get paths n ≡ Some p → has_number (all_paths lines) n ≡ false → is_named (edges_of paths lines actions) p ≡ false
  unnamed_other p n once at none = false_from_ne_true _ (λ is.
      let other = at_named p is in
      false≢true (sym none ∙ (ap (has_number (all_paths lines)) (sym (once other.0 n p other.2 at)) ∙ other.1)))

-- ---- whether some line names a path

has_number_append : (xs ys : List ℕ) (n : ℕ) → has_number (xs ++ ys) n ≡ (has_number xs n || has_number ys n)
has_number_append [] ys n = refl
has_number_append (x ∷ xs) ys n = grind (arith, has_number_append xs ys n)

-- one line more
pub named_next : (lines : List Line) (k n : ℕ) → k < length lines → has_number (all_paths (take k lines)) n ≡ false → has_number (line_paths (line_at lines k)) n ≡ false → has_number (all_paths (take (suc k) lines)) n ≡ false
named_next [] k n lt none here = absurd (omega (arith, lt))
named_next (line ∷ lines) zero n lt none here = has_number_append (line_paths line) [] n ∙ (ap (λ (b : Bool). b || false) here)
named_next (line ∷ lines) (suc k) n lt none here =
    has_number_append (line_paths line) (all_paths (take (suc k) lines)) n
    ∙ (ap (λ (b : Bool). b || has_number (all_paths (take (suc k) lines)) n) (or_false_left _ _ (sym (has_number_append (line_paths line) (all_paths (take k lines)) n) ∙ none))
    ∙ named_next lines k n (omega (arith, lt)) (or_false_right _ _ (sym (has_number_append (line_paths line) (all_paths (take k lines)) n) ∙ none)) here)
  where
    or_false_left : (a b : Bool) → (a || b) ≡ false → a ≡ false
    or_false_left true b is = is
    or_false_left false b is = refl

    or_false_right : (a b : Bool) → (a || b) ≡ false → b ≡ false
    or_false_right true b is = absurd (false≢true (sym is))
    or_false_right false b is = is

pub named_here : (lines : List Line) (k n : ℕ) → k < length lines → has_number (line_paths (line_at lines k)) n ≡ true → has_number (all_paths lines) n ≡ true
named_here [] k n lt here = absurd (omega (arith, lt))
named_here (line ∷ lines) zero n lt here = has_number_append (line_paths line) (all_paths lines) n ∙ or_left _ (has_number (all_paths lines) n) here
named_here (line ∷ lines) (suc k) n lt here = has_number_append (line_paths line) (all_paths lines) n ∙ or_right (has_number (line_paths line) n) _ (named_here lines k n (omega (arith, lt)) here)

pub named_all : (lines : List Line) (k n : ℕ) → length lines ≤ k → has_number (all_paths (take k lines)) n ≡ false → has_number (all_paths lines) n ≡ false
named_all [] k n le none = refl
named_all (line ∷ lines) zero n le none = absurd (omega (arith, le))
named_all (line ∷ lines) (suc k) n le none = by (has_number (line_paths line) n) refl (named_all lines k n (omega (arith, le)))
  where
    whole : has_number (line_paths line ++ all_paths (take k lines)) n ≡ (has_number (line_paths line) n || has_number (all_paths (take k lines)) n)
    whole = has_number_append (line_paths line) (all_paths (take k lines)) n

    by : (b : Bool) → has_number (line_paths line) n ≡ b → (has_number (all_paths (take k lines)) n ≡ false → has_number (all_paths lines) n ≡ false) → has_number (line_paths line ++ all_paths lines) n ≡ false
    by true is rest = absurd (false≢true (sym none ∙ (whole ∙ or_left _ (has_number (all_paths (take k lines)) n) is)))
    by false is rest =
        has_number_append (line_paths line) (all_paths lines) n
        ∙ (ap (λ (b : Bool). b || has_number (all_paths lines) n) is
        ∙ rest (sym (ap (λ (b : Bool). b || has_number (all_paths (take k lines)) n) is) ∙ (sym whole ∙ none)))
