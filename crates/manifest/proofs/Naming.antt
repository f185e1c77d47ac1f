-- The numbers of the paths that build lines name are those of the whole table.
use Rattle.std.proofs.Common.{◌≡◌, ℕ, zero, suc, ◌<◌, ◌≤◌, ◌^◌, ◌||◌, ◌==◌, not, Bool, true, false, List, [], ◌∷◌, ◌++◌, inl, inr, length, map, get_or, nat_lt, if◌then◌else◌, bytes_eq, Option, Some, None, refl, sym, ap, ◌∙◌, subst, arith, append_assoc}
use Rattle.std.specs.Prelude.{filter}
use Rattle.std.specs.List.{AllZip, AllByRecursion}
use Rattle.std.proofs.lemmas.Bool.{cases_Bool, eqb-true}
use Rattle.std.proofs.lemmas.List.{map-append}
use Rattle.std.proofs.lemmas.Slice.Eq.{bytes_eq-Decides}
use Rattle.model.specs.Graph.{has, has_number}
use Rattle.paths.specs.declared.line.Line.{Line}
use Rattle.paths.specs.declared.manifest.Action.{Action}
use Rattle.paths.specs.Commands.{dyndep_stop, no_action}
use Rattle.paths.specs.Lists.{line_paths, all_paths}
use Rattle.paths.specs.Numbers.{HaveOnePlace}
use Rattle.paths.specs.Told.{text_at, texts_at}
use Rattle.scopes.specs.declared.template.Rule.{Rule}
use Rattle.manifest.specs.Declarations.{most_edges}
use Rattle.manifest.specs.Edges.{without, outputs_of}
use Rattle.manifest.specs.Held.{IsLineFor, AreNamed, kept_of}
use Rattle.manifest.specs.InNumbers.{AreBelow, numbers_of, IsWithin, paths_at}
use Rattle.manifest.specs.Spelled.{EdgePaths}
use Rattle.manifest.specs.States.{Build, named, all_of}
use Rattle.manifest.proofs.Added.{below_both, all_texts_of}
use Rattle.manifest.proofs.OwnOutputs.{numbers_texts, same_answer}

-- ---- texts of lists

or_more : (a b c : Bool) → (a || (b || c)) ≡ ((a || b) || c)
or_more true b c = refl
or_more false b c = refl

or_right : (a : Bool) → (a || true) ≡ true
or_right true = refl
or_right false = refl

has_append : (xs ys : List (List ℕ)) (p : List ℕ) → has (xs ++ ys) p ≡ (has xs p || has ys p)
has_append [] ys p = refl
has_append (x ∷ xs) ys p = ap (λ (b : Bool). bytes_eq x p || b) (has_append xs ys p) ∙ or_more (bytes_eq x p) (has xs p) (has ys p)

has_here : (table : List (List ℕ)) (n : ℕ) → n < length table → has table (text_at table n) ≡ true
has_here [] n low = absurd (omega arith)
has_here (x ∷ table) zero low = ap (λ (b : Bool). b || has table x) ((bytes_eq-Decides x x).1 refl)
has_here (x ∷ table) (suc n) low = ap (λ (b : Bool). bytes_eq x (text_at table n) || b) (has_here table n (omega arith)) ∙ or_right (bytes_eq x (text_at table n))

-- ---- what a phony drops

module _ (outputs : List (List ℕ)) (p : List ℕ) (absent : has outputs p ≡ false) where
  without_other : (xs : List (List ℕ)) → has (without outputs xs) p ≡ has xs p
  without_other [] = refl
  without_other (x ∷ xs) = by (has outputs x) refl (without_other xs)
    where
      by : (b : Bool) → has outputs x ≡ b → has (without outputs xs) p ≡ has xs p → has (if not b then x ∷ without outputs xs else without outputs xs) p ≡ (bytes_eq x p || has xs p)
      by true is rest = elim (cases_Bool (bytes_eq x p)) [
        | inl same ↦ let e : x ≡ p = (bytes_eq-Decides x p).0 same in let there : has outputs p ≡ true = subst (λ (q : List ℕ). has outputs q ≡ true) e is in absurd (cc)
        | inr other ↦ rest ∙ sym (ap (λ (b : Bool). b || has xs p) other)
      ]
      by false is rest = ap (λ (b : Bool). bytes_eq x p || b) rest

abbrev own_rest : EdgePaths → List (List ℕ)
own_rest paths = without (outputs_of paths) paths.explicit_inputs ++ (without (outputs_of paths) paths.implicit_inputs ++ (without (outputs_of paths) paths.order_only_inputs ++ paths.validations))

kept_has : (rule : Option Rule) (paths : EdgePaths) (p : List ℕ) → has (all_of paths) p ≡ true → has (all_of (kept_of rule paths)) p ≡ true
kept_has (Some rule) paths p there = there
kept_has None paths p there = elim (cases_Bool (has (outputs_of paths) p)) [
  | inl own ↦
      ap (λ (l : List (List ℕ)). has l p) (sym (append_assoc paths.explicit_outputs paths.implicit_outputs (own_rest paths)))
      ∙ (has_append (outputs_of paths) (own_rest paths) p ∙ ap (λ (b : Bool). b || has (own_rest paths) p) own)
  | inr other ↦ same other ∙ there
]
  where
    parts : (a b c d e f : List (List ℕ)) → has (a ++ (b ++ (c ++ (d ++ (e ++ f))))) p ≡ (has a p || (has b p || (has c p || (has d p || (has e p || has f p)))))
    parts a b c d e f =
        has_append a _ p ∙ ap (λ (x : Bool). has a p || x) (has_append b _ p ∙ ap (λ (x : Bool). has b p || x)
        (has_append c _ p ∙ ap (λ (x : Bool). has c p || x) (has_append d _ p ∙ ap (λ (x : Bool). has d p || x) (has_append e f p))))

    same : has (outputs_of paths) p ≡ false → has (all_of (kept_of None paths)) p ≡ has (all_of paths) p
    same other =
        parts paths.explicit_outputs paths.implicit_outputs (without (outputs_of paths) paths.explicit_inputs) (without (outputs_of paths) paths.implicit_inputs) (without (outputs_of paths) paths.order_only_inputs) paths.validations
        ∙ (rw (without_other (outputs_of paths) p other paths.explicit_inputs, without_other (outputs_of paths) p other paths.implicit_inputs, without_other (outputs_of paths) p other paths.order_only_inputs) refl
        ∙ sym (parts paths.explicit_outputs paths.implicit_outputs paths.explicit_inputs paths.implicit_inputs paths.order_only_inputs paths.validations))

-- ---- all lines

line_same : (line : Line) → line_paths line ≡ numbers_of line
line_same line = simp append_assoc

all_below : (table : List (List ℕ)) (builds : List Build) (lines : List Line) → AllZip (IsLineFor table) builds lines → AreBelow (length table) (all_paths lines)
all_below table [] [] all = tt
all_below table [] (line ∷ lines) all = absurd all
all_below table (build ∷ builds) [] all = absurd all
all_below table (build ∷ builds) (line ∷ lines) all =
    below_both (length table) (line_paths line) (all_paths lines) (subst (AreBelow (length table)) (sym (line_same line)) all.0.within) (all_below table builds lines all.1)

all_named : (table : List (List ℕ)) (builds : List Build) (lines : List Line) (p : List ℕ) → AllZip (IsLineFor table) builds lines → has (named builds) p ≡ true
    → has (texts_at table (all_paths lines)) p ≡ true
all_named table [] [] p all there = there
all_named table [] (line ∷ lines) p all there = absurd all
all_named table (build ∷ builds) [] p all there = absurd all
all_named table (build ∷ builds) (line ∷ lines) p all there =
    ap (λ (l : List (List ℕ)). has l p) (map-append (text_at table) (line_paths line) (all_paths lines))
    ∙ (has_append (texts_at table (line_paths line)) (texts_at table (all_paths lines)) p
    ∙ by (λ rest. all_named table builds lines p all.1 rest) (has (all_of build.paths) p) refl (sym (has_append (all_of build.paths) (named builds) p) ∙ there))
  where
    by : (has (named builds) p ≡ true → has (texts_at table (all_paths lines)) p ≡ true) → (b : Bool) → has (all_of build.paths) p ≡ b → (has (all_of build.paths) p || has (named builds) p) ≡ true
        → (has (texts_at table (line_paths line)) p || has (texts_at table (all_paths lines)) p) ≡ true
    by others true here one =
        let kept : has (all_of (kept_of build.rule build.paths)) p ≡ true = kept_has build.rule build.paths p here in
        let texts : texts_at table (line_paths line) ≡ all_of (kept_of build.rule build.paths) = ap (texts_at table) (line_same line) ∙ (all_texts_of table line ∙ ap all_of all.0.paths) in
        ap (λ (l : List (List ℕ)). has l p || has (texts_at table (all_paths lines)) p) texts ∙ ap (λ (b : Bool). b || has (texts_at table (all_paths lines)) p) kept
    by others false here one =
        let rest : has (named builds) p ≡ true = sym (ap (λ (b : Bool). b || has (named builds) p) here) ∙ one in
        ap (λ (b : Bool). has (texts_at table (line_paths line)) p || b) (others rest) ∙ or_right (has (texts_at table (line_paths line)) p)

below_has : (count : ℕ) (numbers : List ℕ) (n : ℕ) → AreBelow count numbers → has_number numbers n ≡ true → n < count
below_has count [] n all there = absurd (cc)
below_has count (m ∷ numbers) n all there = elim (cases_Bool (m == n)) [
  | inl same ↦ let e : m ≡ n = eqb-true m n same in subst (λ (k : ℕ). k < count) e all.0
  | inr other ↦ below_has count numbers n all.1 (sym (ap (λ (b : Bool). b || has_number numbers n) other) ∙ there)
]

pub numbered : (table : List (List ℕ)) (lines : List Line) (builds : List Build) → HaveOnePlace table → AreNamed (record { table = table; lines = lines }) builds
    → (n : ℕ) → has_number (all_paths lines) n ≡ nat_lt n (length table)
numbered table lines builds once is n = same_answer (has_number (all_paths lines) n) (nat_lt n (length table))
    (λ there. below_lt n (length table) (below_has (length table) (all_paths lines) n (all_below table builds lines is.lines) there))
    (λ low. let h : n < length table = lt_below n (length table) low in
    numbers_texts table once (all_paths lines) n (all_below table builds lines is.lines) h
    ∙ all_named table builds lines (text_at table n) is.lines (sym (is.keys.same (text_at table n)) ∙ has_here table n h))
  where
    below_lt : (a b : ℕ) → a < b → nat_lt a b ≡ true
    below_lt a b low = grind (arith, low)

    lt_below : (a b : ℕ) → nat_lt a b ≡ true → a < b
    lt_below a b low = grind (arith, low)

-- ---- lists that stay below

pub known_at : (named : ℕ) (numbers : List ℕ) (k : ℕ) → k < length numbers → AreBelow named numbers → get_or numbers k 0 < named
known_at named [] k low all = absurd (omega arith)
known_at named (n ∷ numbers) zero low all = all.0
known_at named (n ∷ numbers) (suc k) low all = known_at named numbers k (omega arith) all.1

pub dyndep_at : (count : ℕ) (actions : List Action) (k : ℕ) → AllByRecursion (λ (action : Action). dyndep_stop action ≤ count) actions → dyndep_stop (get_or actions k no_action) ≤ count
dyndep_at count [] k all = omega arith
dyndep_at count (action ∷ actions) zero all = all.0
dyndep_at count (action ∷ actions) (suc k) all = dyndep_at count actions k all.1

pub few_fit : (count : ℕ) → count ≤ most_edges → count ≤ 2 ^ 32
few_fit count few = omega arith
