-- What build lines name, and which edge has a file that is occupied, by numbers and in texts.
use Rattle.std.proofs.Common.{◌≡◌, ◌≢◌, ◌⊎◌, inl, inr, ℕ, zero, suc, ◌+◌, ◌<◌, ◌≤◌, ◌==◌, ◌||◌, not, Bool, true, false, cond, List, [], ◌∷◌, ◌++◌, length, get_or, take, slice_get, Option, Some, None, IfSome, refl, sym, ◌∙◌, ap, subst, arith, bytes_eq, codes}
use Rattle.std.proofs.Math.ListN.{set}
use Rattle.std.proofs.lemmas.Bool.{cases_Bool, cases_eq, cases_lt, eqb-true, eq-eqb, or_left, or_right, false≢true, true≢false, false_from_ne_true}
use Rattle.std.proofs.lemmas.List.{map-append, get_or-set_same, get_or-set_other}
use Rattle.model.specs.declared.graph.Edge.{Edge}
use Rattle.model.specs.Graph.{has, has_number, edge_at, no_edge, outputs, first_output}
use Rattle.theory.proofs.Lists.{bytes_same, has_number-left, has_number-right, has_number-cases, has_number-append}
use Rattle.paths.specs.declared.line.Line.{Line}
use Rattle.paths.specs.declared.manifest.Action.{Action}
use Rattle.paths.specs.declared.manifest.Action.TheVariants.{Alias, Command}
use Rattle.paths.specs.declared.manifest.Manifest.{Manifest}
use Rattle.paths.specs.Numbers.{HaveOnePlace}
use Rattle.paths.specs.Lists.{no_line, line_at, line_outputs, line_inputs}
use Rattle.paths.specs.Commands.{no_action}
use Rattle.paths.specs.Told.{text_at, texts_at, edge_of, graph_of}
use Rattle.graph.specs.declared.fault.GraphFault.{GraphFault}
use Rattle.graph.specs.declared.fault.GraphFault.TheVariants as graph_fault
use Rattle.graph.specs.declared.fault.SideFile.{SideFile}
use Rattle.graph.specs.declared.fault.SideFile.TheVariants.{Depfile, Response}
use Rattle.graph.specs.declared.side_files.FileOf.{FileOf}
use Rattle.graph.specs.declared.side_files.Naming.{Naming}
use Rattle.graph.specs.declared.side_files.Naming.TheVariants.{Nobody, Maker, More}
use Rattle.graph.specs.Linked.{AreInOrder, IsFaultOf}
use Rattle.graph.specs.Making.{IsMakingFault}
use Rattle.graph.specs.Occupying.{side_file, beside_outputs, own_start, IsNamedBeside, IsOccupied, AreFreeUpTo, AreApart}
use Rattle.graph.specs.Namings.{line_beside, IsNumberBeside, IsNaming, AreNamings, naming_in, made_too, is_beside, declared_file, stop_at, IsLowestFile, IsFaultAt, AllAreFree, FindsLowest}
use Rattle.graph.proofs.Makes.{input_below, validation_below, outputs_within}
use Rattle.graph.proofs.Texts.{AreWithin, within_has, within_of, has_text, text_has, number_of, outputs_of, inputs_of, validations_of, length-edges, edge_get}
use Rattle.graph.proofs.Turns.{take_next}

-- ---- lines past the last

line_past : (lines : List Line) (e : ℕ) → length lines ≤ e → line_at lines e ≡ no_line
line_past [] e past = refl
line_past (line ∷ lines) zero past = absurd (omega (arith, past))
line_past (line ∷ lines) (suc e) past = line_past lines e (omega (arith, past))

past_names : (lines : List Line) (e n : ℕ) → length lines ≤ e → (has_number (line_outputs (line_at lines e)) n ≡ false) × (has_number (line_beside (line_at lines e)) n ≡ false)
past_names lines e n past = (
  ap (λ (l : Line). has_number (line_outputs l) n) (line_past lines e past),
  ap (λ (l : Line). has_number (line_beside l) n) (line_past lines e past),
)

-- ---- what a naming says

pub naming_yes : (lines : List Line) (count n e : ℕ) (naming : Naming) → IsNaming lines count n naming → is_beside e naming ≡ true → IsNumberBeside lines e n
naming_yes lines count n e Nobody is said = absurd (false≢true said)
naming_yes lines count n e (Maker m) is said = record { line = m; names = inr ((λ same. not_both (m == e) (eq-eqb m e same) said), is.0) }
  where
    not_both : (b : Bool) → b ≡ true → not b ≡ true → ⊥
    not_both true is other = false≢true other
    not_both false is other = false≢true is
naming_yes lines count n e More is said = is e

pub naming_no : (lines : List Line) (count n e : ℕ) → count ≡ length lines → (naming : Naming) → IsNaming lines count n naming → is_beside e naming ≡ false → IsNumberBeside lines e n → ⊥
naming_no lines count n e whole Nobody is denied beside = by beside.names (at beside.line)
  where
    at : (d : ℕ) → (has_number (line_outputs (line_at lines d)) n ≡ false) × (has_number (line_beside (line_at lines d)) n ≡ false)
    at d = elim (cases_lt d count) [
      | inl low ↦ is d low
      | inr past ↦ past_names lines d n (omega (arith, past, whole))
    ]

    by : ((has_number (line_beside (line_at lines beside.line)) n ≡ true) ⊎ ((beside.line ≢ e) × (has_number (line_outputs (line_at lines beside.line)) n ≡ true)))
        → (has_number (line_outputs (line_at lines beside.line)) n ≡ false) × (has_number (line_beside (line_at lines beside.line)) n ≡ false) → ⊥
    by (inl other) none = false≢true (sym none.1 ∙ other)
    by (inr made) none = false≢true (sym none.0 ∙ made.1)
naming_no lines count n e whole (Maker m) is denied beside = by beside.names
  where
    same_maker : m ≡ e
    same_maker = eqb-true m e (was (m == e) denied)
      where
        was : (b : Bool) → not b ≡ false → b ≡ true
        was true is = refl
        was false is = absurd (true≢false is)

    at : (d : ℕ) → (has_number (line_outputs (line_at lines d)) n ≡ true → d ≡ m) × (has_number (line_beside (line_at lines d)) n ≡ false)
    at d = elim (cases_lt d count) [
      | inl low ↦ is.1 d low
      | inr past ↦ let none = past_names lines d n (omega (arith, past, whole)) in ((λ made. absurd (false≢true (sym none.0 ∙ made))), none.1)
    ]

    by : ((has_number (line_beside (line_at lines beside.line)) n ≡ true) ⊎ ((beside.line ≢ e) × (has_number (line_outputs (line_at lines beside.line)) n ≡ true))) → ⊥
    by (inl other) = false≢true (sym (at beside.line).1 ∙ other)
    by (inr made) = made.0 ((at beside.line).0 made.1 ∙ same_maker)
naming_no lines count n e whole More is denied beside = true≢false denied

-- ---- one line more

module _ (lines : List Line) (k n : ℕ) where
  made_more : (m : ℕ) → has_number (line_outputs (line_at lines m)) n ≡ true → m ≢ k → has_number (line_outputs (line_at lines k)) n ≡ true → (own : ℕ) → IsNumberBeside lines own n
  made_more m made other here own = elim (cases_eq m own) [
    | inl same ↦ record { line = k; names = inr ((λ again. other (same ∙ sym again)), here) }
    | inr apart ↦ record { line = m; names = inr (apart, made) }
  ]

  outputs_turn : (old : Naming) → IsNaming lines k n old → has_number (line_outputs (line_at lines k)) n ≡ true → has_number (line_beside (line_at lines k)) n ≡ false → IsNaming lines (suc k) n (made_too k old)
  outputs_turn Nobody is here none = (
    here,
    λ e low. elim (cases_eq e k) [
      | inl same ↦ ((λ made. same), subst (λ (d : ℕ). has_number (line_beside (line_at lines d)) n ≡ false) (sym same) none)
      | inr other ↦ let was = is e (omega (arith, low, other)) in ((λ made. absurd (false≢true (sym was.0 ∙ made))), was.1)
    ],
  )
  outputs_turn (Maker m) is here none = elim (cases_Bool (m == k)) [
    | inl same ↦ subst (IsNaming lines (suc k) n) (sym (ap (λ (b : Bool). cond b (Maker m) More) same)) (
      is.0,
      λ e low. elim (cases_eq e k) [
        | inl this ↦ ((λ made. this ∙ sym (eqb-true m k same)), subst (λ (d : ℕ). has_number (line_beside (line_at lines d)) n ≡ false) (sym this) none)
        | inr other ↦ is.1 e (omega (arith, low, other))
      ],
    )
    | inr apart ↦ subst (IsNaming lines (suc k) n) (sym (ap (λ (b : Bool). cond b (Maker m) More) apart)) (made_more m is.0 (λ same. true≢false (sym (eq-eqb m k same) ∙ apart)) here)
  ]
  outputs_turn More is here none = is

  nothing_turn : (old : Naming) → IsNaming lines k n old → has_number (line_outputs (line_at lines k)) n ≡ false → has_number (line_beside (line_at lines k)) n ≡ false → IsNaming lines (suc k) n old
  nothing_turn Nobody is here none = λ e low. elim (cases_eq e k) [
    | inl same ↦ subst (λ (d : ℕ). (has_number (line_outputs (line_at lines d)) n ≡ false) × (has_number (line_beside (line_at lines d)) n ≡ false)) (sym same) (here, none)
    | inr other ↦ is e (omega (arith, low, other))
  ]
  nothing_turn (Maker m) is here none = (
    is.0,
    λ e low. elim (cases_eq e k) [
      | inl same ↦ (
        (λ made. absurd (false≢true (sym here ∙ subst (λ (d : ℕ). has_number (line_outputs (line_at lines d)) n ≡ true) same made))),
        subst (λ (d : ℕ). has_number (line_beside (line_at lines d)) n ≡ false) (sym same) none,
      )
      | inr other ↦ is.1 e (omega (arith, low, other))
    ],
  )
  nothing_turn More is here none = is

  beside_turn : has_number (line_beside (line_at lines k)) n ≡ true → IsNaming lines (suc k) n More
  beside_turn here own = record { line = k; names = inl here }

  neither : (xs ys : List ℕ) → has_number xs n ≡ false → has_number ys n ≡ false → has_number (xs ++ ys) n ≡ false
  neither xs ys a b = false_from_ne_true (has_number (xs ++ ys) n) (λ h. elim (has_number-cases xs ys n h) [
    | inl left ↦ false≢true (sym a ∙ left)
    | inr right ↦ false≢true (sym b ∙ right)
  ])

  -- what is noted of the outputs, the inputs and the validations of a line
  pub naming_turn : (old made named new : Naming) → IsNaming lines k n old
      → made ≡ cond (has_number (line_outputs (line_at lines k)) n) (made_too k old) old
      → named ≡ cond (has_number (line_inputs (line_at lines k)) n) More made
      → new ≡ cond (has_number (line_at lines k).validations n) More named
      → IsNaming lines (suc k) n new
  naming_turn old made named new is made_is named_is new_is =
      elim (cases_Bool (has_number (line_at lines k).validations n)) [
        | inl validated ↦ subst (IsNaming lines (suc k) n) (sym (new_is ∙ ap (λ (b : Bool). cond b More named) validated))
            (beside_turn (has_number-right (line_inputs (line_at lines k)) (line_at lines k).validations n validated))
        | inr other ↦ subst (IsNaming lines (suc k) n) (sym (new_is ∙ ap (λ (b : Bool). cond b More named) other))
            (elim (cases_Bool (has_number (line_inputs (line_at lines k)) n)) [
              | inl needed ↦ subst (IsNaming lines (suc k) n) (sym (named_is ∙ ap (λ (b : Bool). cond b More made) needed))
                  (beside_turn (has_number-left (line_inputs (line_at lines k)) (line_at lines k).validations n needed))
              | inr free ↦ subst (IsNaming lines (suc k) n) (sym (named_is ∙ ap (λ (b : Bool). cond b More made) free))
                  (elim (cases_Bool (has_number (line_outputs (line_at lines k)) n)) [
                    | inl here ↦ subst (IsNaming lines (suc k) n) (sym (made_is ∙ ap (λ (b : Bool). cond b (made_too k old) old) here))
                        (outputs_turn old is here (neither (line_inputs (line_at lines k)) (line_at lines k).validations free other))
                    | inr absent ↦ subst (IsNaming lines (suc k) n) (sym (made_is ∙ ap (λ (b : Bool). cond b (made_too k old) old) absent))
                        (nothing_turn old is absent (neither (line_inputs (line_at lines k)) (line_at lines k).validations free other))
                  ])
            ])
      ]

-- ---- one path more

pub twice_made : (edge : ℕ) (x : Naming) → made_too edge (made_too edge x) ≡ made_too edge x
twice_made edge Nobody = ap (λ (b : Bool). cond b (Maker edge) More) (eq-eqb edge edge refl)
twice_made edge (Maker m) = elim (cases_Bool (m == edge)) [
  | inl same ↦ ap (made_too edge) (ap (λ (b : Bool). cond b (Maker m) More) same)
  | inr other ↦ ap (made_too edge) (ap (λ (b : Bool). cond b (Maker m) More) other) ∙ sym (ap (λ (b : Bool). cond b (Maker m) More) other)
]
twice_made edge More = refl

-- the namings of these paths are changed, each in the same way, which changes it once
pub noted_next : (f : Naming → Naming) → ((x : Naming) → f (f x) ≡ f x) → (old now : List Naming) (numbers : List ℕ) (i n : ℕ) → i < length numbers → n ≡ get_or numbers i n → n < length now
    → ((p : ℕ) → naming_in now p ≡ cond (has_number (take i numbers) p) (f (naming_in old p)) (naming_in old p))
    → (p : ℕ) → naming_in (set now n (f (naming_in now n))) p ≡ cond (has_number (take (i + 1) numbers) p) (f (naming_in old p)) (naming_in old p)
noted_next f twice old now numbers i n lt is within so_far p = elim (cases_eq n p) [
  | inl same ↦ subst (λ (q : ℕ). naming_in (set now n (f (naming_in now n))) q ≡ cond (has_number (take (i + 1) numbers) q) (f (naming_in old q)) (naming_in old q)) same
      (get_or-set_same now n (f (naming_in now n)) Nobody within ∙ (ap f (so_far n) ∙ (changed (has_number (take i numbers) n) (naming_in old n) ∙ sym (ap (λ (b : Bool). cond b (f (naming_in old n)) (naming_in old n)) now_there))))
  | inr other ↦
      get_or-set_other now n p (f (naming_in now n)) Nobody (λ e. other (sym e))
      ∙ (so_far p ∙ ap (λ (b : Bool). cond b (f (naming_in old p)) (naming_in old p)) (sym (as_before other)))
]
  where
    changed : (b : Bool) (x : Naming) → f (cond b (f x) x) ≡ f x
    changed true x = twice x
    changed false x = refl

    there : (q : ℕ) → has_number (take (i + 1) numbers) q ≡ (has_number (take i numbers) q || has_number (n ∷ []) q)
    there q = ap (λ (l : List ℕ). has_number l q) (take_next numbers i n lt is) ∙ has_number-append (take i numbers) (n ∷ []) q

    now_there : has_number (take (i + 1) numbers) n ≡ true
    now_there = there n ∙ or_right (has_number (take i numbers) n) (has_number (n ∷ []) n) (or_left (n == n) false (eq-eqb n n refl))

    or_false : (b : Bool) → (b || (false || false)) ≡ b
    or_false true = refl
    or_false false = refl

    as_before : n ≢ p → has_number (take (i + 1) numbers) p ≡ has_number (take i numbers) p
    as_before other =
        there p ∙ (ap (λ (b : Bool). has_number (take i numbers) p || (b || false)) (false_from_ne_true (n == p) (λ e. other (eqb-true n p e)))
        ∙ or_false (has_number (take i numbers) p))

pub namings_none : (lines : List Line) (namings : List Naming) → ((k : ℕ) (d : Naming) → k < length namings → get_or namings k d ≡ Nobody) → (p : ℕ) → IsNaming lines 0 p (naming_in namings p)
namings_none lines namings none p = subst (IsNaming lines 0 p) (sym (nobody namings p none)) (λ e low. absurd (omega (arith, low)))
  where
    nobody : (ns : List Naming) (q : ℕ) → ((k : ℕ) (d : Naming) → k < length ns → get_or ns k d ≡ Nobody) → naming_in ns q ≡ Nobody
    nobody [] q each = refl
    nobody (n ∷ ns) zero each = each 0 Nobody (omega arith)
    nobody (n ∷ ns) (suc q) each = nobody ns q (λ k d lt. each (suc k) d (omega (arith, lt)))

-- ---- in texts

beside_of : (paths : List (List ℕ)) (line : Line) (action : Action) → beside_outputs (edge_of paths line action) ≡ texts_at paths (line_beside line)
beside_of paths line action =
    ap (λ (l : List (List ℕ)). l ++ (edge_of paths line action).validations) (inputs_of paths line action)
    ∙ (ap (λ (l : List (List ℕ)). texts_at paths (line_inputs line) ++ l) (validations_of paths line action)
    ∙ sym (map-append (text_at paths) (line_inputs line) line.validations))

has_place : (paths : List (List ℕ)) (n : ℕ) → n < length paths → has paths (text_at paths n) ≡ true
has_place [] n lt = absurd (omega (arith, lt))
has_place (p ∷ paths) zero lt = or_left (bytes_eq p p) (has paths p) (bytes_same p)
has_place (p ∷ paths) (suc n) lt = or_right (bytes_eq p (text_at paths n)) (has paths (text_at paths n)) (has_place paths n (omega (arith, lt)))

-- what a file of this action is
abbrev pub action_file : Action → SideFile → List ℕ
action_file Alias file = []
action_file (Command command) Depfile = command.act.depfile
action_file (Command command) Response = command.act.response_path

file_of : (paths : List (List ℕ)) (line : Line) (action : Action) (file : SideFile) → side_file (edge_of paths line action) file ≡ action_file action file
file_of paths line Alias Depfile = refl
file_of paths line Alias Response = refl
file_of paths line (Command command) Depfile = refl
file_of paths line (Command command) Response = refl

pub some_path : (paths : List (List ℕ)) (t : List ℕ) (number : ℕ) → slice_get paths number ≡ Some t → (number < length paths) × (text_at paths number ≡ t)
some_path [] t number is = cc
some_path (p ∷ paths) t zero is = (omega arith, cc)
some_path (p ∷ paths) t (suc number) is = let rest = some_path paths t number is in (omega (arith, rest.0), rest.1)

module _ (manifest : Manifest) where
  beside_are : (e : ℕ) → beside_outputs (edge_at (graph_of manifest).edges (suc e)) ≡ texts_at manifest.paths (line_beside (line_at manifest.lines e))
  beside_are e = ap beside_outputs (edge_get manifest.paths manifest.lines manifest.actions e manifest.fits) ∙ beside_of manifest.paths (line_at manifest.lines e) (get_or manifest.actions e no_action)

  outputs_are : (e : ℕ) → outputs (edge_at (graph_of manifest).edges (suc e)) ≡ texts_at manifest.paths (line_outputs (line_at manifest.lines e))
  outputs_are e = ap outputs (edge_get manifest.paths manifest.lines manifest.actions e manifest.fits) ∙ outputs_of manifest.paths (line_at manifest.lines e) (get_or manifest.actions e no_action)

  beside_within : (e : ℕ) → AreWithin manifest.paths (line_beside (line_at manifest.lines e))
  beside_within e = within_of (length manifest.paths) (line_beside (line_at manifest.lines e)) (λ p h. elim (has_number-cases (line_inputs (line_at manifest.lines e)) (line_at manifest.lines e).validations p h) [
    | inl needed ↦ input_below manifest e p needed
    | inr validated ↦ validation_below manifest e p validated
  ])

  -- the file that the code finds is that of the edge
  pub file_is : (e : ℕ) (file : SideFile) (action : Action) → action ≡ get_or manifest.actions e no_action → (t : List ℕ) → t ≡ action_file action file → t ≡ declared_file manifest e file
  file_is e file action found t is =
      is ∙ (ap (λ (a : Action). action_file a file) found
      ∙ (sym (file_of manifest.paths (line_at manifest.lines e) (get_or manifest.actions e no_action) file)
      ∙ sym (ap (λ (x : Edge). side_file x file) (edge_get manifest.paths manifest.lines manifest.actions e manifest.fits))))

  -- the first output that the code finds is that of the edge
  pub output_is : (e n : ℕ) (outs : List ℕ) → outs ≡ line_outputs (line_at manifest.lines e) → Some n ≡ slice_get outs 0 → (n < length manifest.paths) × (text_at manifest.paths n ≡ first_output (edge_at (graph_of manifest).edges (suc e)))
  output_is e n outs are first = (
    within_has (length manifest.paths) (line_outputs (line_at manifest.lines e)) n (outputs_within manifest e) (subst (λ (l : List ℕ). has_number l n ≡ true) are (stands outs first)),
    at_front outs first ∙ sym (ap (λ (l : List (List ℕ)). get_or l 0 []) (outputs_are e ∙ ap (texts_at manifest.paths) (sym are))),
  )
    where
      stands : (xs : List ℕ) → Some n ≡ slice_get xs 0 → has_number xs n ≡ true
      stands [] is = cc
      stands (x ∷ xs) is = let same : x ≡ n = cc in or_left (x == n) (has_number xs n) (eq-eqb x n same)

      at_front : (xs : List ℕ) → Some n ≡ slice_get xs 0 → text_at manifest.paths n ≡ get_or (texts_at manifest.paths xs) 0 []
      at_front [] is = cc
      at_front (x ∷ xs) is = let same : x ≡ n = cc in ap (text_at manifest.paths) (sym same)

  pub no_output : (e : ℕ) (outs : List ℕ) → outs ≡ line_outputs (line_at manifest.lines e) → None ≡ slice_get outs 0 → [] ≡ first_output (edge_at (graph_of manifest).edges (suc e))
  no_output e outs are none = sym (ap (λ (l : List (List ℕ)). get_or l 0 []) (outputs_are e ∙ ap (texts_at manifest.paths) (sym are)) ∙ at_front outs none)
    where
      at_front : (xs : List ℕ) → None ≡ slice_get xs 0 → get_or (texts_at manifest.paths xs) 0 [] ≡ []
      at_front [] is = refl
      at_front (x ∷ xs) is = cc

  -- a path that is not in the table is named by no line
  pub unnamed : (t : List ℕ) → has manifest.paths t ≡ false → (i : ℕ) → IsNamedBeside (graph_of manifest).edges i t → ⊥
  unnamed t absent i named = by named.edge named.names
    where
      none : (numbers : List ℕ) → AreWithin manifest.paths numbers → has (texts_at manifest.paths numbers) t ≡ true → ⊥
      none numbers within h =
          let number = number_of manifest.paths numbers t h in
          false≢true (sym absent ∙ subst (λ (q : List ℕ). has manifest.paths q ≡ true) number.2 (has_place manifest.paths number.0 (within_has (length manifest.paths) numbers number.0 within number.1)))

      by : (j : ℕ) → ((has (beside_outputs (edge_at (graph_of manifest).edges j)) t ≡ true) ⊎ ((j ≢ i) × (has (outputs (edge_at (graph_of manifest).edges j)) t ≡ true))) → ⊥
      by zero (inl h) = false≢true h
      by zero (inr h) = false≢true h.1
      by (suc d) (inl h) = none (line_beside (line_at manifest.lines d)) (beside_within d) (subst (λ (l : List (List ℕ)). has l t ≡ true) (beside_are d) h)
      by (suc d) (inr h) = none (line_outputs (line_at manifest.lines d)) (outputs_within manifest d) (subst (λ (l : List (List ℕ)). has l t ≡ true) (outputs_are d) h.1)

  pub beside_text : (e n : ℕ) → IsNumberBeside manifest.lines e n → IsNamedBeside (graph_of manifest).edges (suc e) (text_at manifest.paths n)
  beside_text e n is = record { edge = suc is.line; names = by is.names }
    where
      by : ((has_number (line_beside (line_at manifest.lines is.line)) n ≡ true) ⊎ ((is.line ≢ e) × (has_number (line_outputs (line_at manifest.lines is.line)) n ≡ true)))
          → ((has (beside_outputs (edge_at (graph_of manifest).edges (suc is.line))) (text_at manifest.paths n) ≡ true) ⊎ ((suc is.line ≢ suc e) × (has (outputs (edge_at (graph_of manifest).edges (suc is.line))) (text_at manifest.paths n) ≡ true)))
      by (inl h) = inl (subst (λ (l : List (List ℕ)). has l (text_at manifest.paths n) ≡ true) (sym (beside_are is.line)) (has_text manifest.paths (line_beside (line_at manifest.lines is.line)) n h))
      by (inr h) = inr ((λ same. h.0 (omega (arith, same))), subst (λ (l : List (List ℕ)). has l (text_at manifest.paths n) ≡ true) (sym (outputs_are is.line)) (has_text manifest.paths (line_outputs (line_at manifest.lines is.line)) n h.1))

  pub text_beside : HaveOnePlace manifest.paths → (e n : ℕ) → n < length manifest.paths → IsNamedBeside (graph_of manifest).edges (suc e) (text_at manifest.paths n) → IsNumberBeside manifest.lines e n
  text_beside once e n lt named = by named.edge named.names
    where
      by : (j : ℕ) → ((has (beside_outputs (edge_at (graph_of manifest).edges j)) (text_at manifest.paths n) ≡ true) ⊎ ((j ≢ suc e) × (has (outputs (edge_at (graph_of manifest).edges j)) (text_at manifest.paths n) ≡ true)))
          → IsNumberBeside manifest.lines e n
      by zero (inl h) = absurd (false≢true h)
      by zero (inr h) = absurd (false≢true h.1)
      by (suc d) (inl h) = record { line = d; names = inl (text_has manifest.paths once (line_beside (line_at manifest.lines d)) n lt (beside_within d) (subst (λ (l : List (List ℕ)). has l (text_at manifest.paths n) ≡ true) (beside_are d) h)) }
      by (suc d) (inr h) = record {
        line = d;
        names = inr ((λ same. h.0 (ap suc same)), text_has manifest.paths once (line_outputs (line_at manifest.lines d)) n lt (outputs_within manifest d) (subst (λ (l : List (List ℕ)). has l (text_at manifest.paths n) ≡ true) (outputs_are d) h.1));
      }

-- ---- what the code finds of a path

pub not_empty : (t path : List ℕ) → t ≡ path → (length t == 0) ≡ false → path ≢ []
not_empty t path is some none = true≢false (sym (ap (λ (l : List ℕ). length l == 0) (is ∙ none)) ∙ some)

pub named_yes : (manifest : Manifest) (namings : List Naming) (e : ℕ) (t : List ℕ) (number : ℕ) (naming : Naming) → AreNamings manifest namings → slice_get manifest.paths number ≡ Some t
    → naming ≡ naming_in namings number → is_beside e naming ≡ true → IsNamedBeside (graph_of manifest).edges (suc e) t
named_yes manifest namings e t number naming are found at said =
    let path = some_path manifest.paths t number found in
    subst (λ (q : List ℕ). IsNamedBeside (graph_of manifest).edges (suc e) q) path.1
    (beside_text manifest e number (naming_yes manifest.lines (length manifest.lines) number e naming (subst (IsNaming manifest.lines (length manifest.lines) number) (sym at) (are.is number)) said))

pub named_no : (manifest : Manifest) (namings : List Naming) (e : ℕ) (t : List ℕ) (number : ℕ) (naming : Naming) → HaveOnePlace manifest.paths → AreNamings manifest namings → slice_get manifest.paths number ≡ Some t
    → naming ≡ naming_in namings number → is_beside e naming ≡ false → IsNamedBeside (graph_of manifest).edges (suc e) t → ⊥
named_no manifest namings e t number naming once are found at denied named =
    let path = some_path manifest.paths t number found in
    naming_no manifest.lines (length manifest.lines) number e refl naming (subst (IsNaming manifest.lines (length manifest.lines) number) (sym at) (are.is number)) denied
    (text_beside manifest once e number path.0 (subst (λ (q : List ℕ). IsNamedBeside (graph_of manifest).edges (suc e) q) (sym path.1) named))

-- ---- own files

pub same_end : (start a b : List ℕ) → start ++ a ≡ start ++ b → a ≡ b
same_end [] a b same = same
same_end (x ∷ start) a b same = same_end start a b (tails same)
  where
    tails : x ∷ (start ++ a) ≡ x ∷ (start ++ b) → start ++ a ≡ start ++ b
    tails is = cc

-- how own files begin in a folder that is neither the working folder nor the root
pub start_below : (folder : List ℕ) → (folder ≡ [] → ⊥) → (folder ≡ 47 ∷ [] → ⊥) → own_start folder ≡ folder ++ 47 ∷ codes ".nj_"
start_below [] none root = absurd (none refl)
start_below (c ∷ []) none root = elim (cases_Bool (c == 47)) [
  | inl is ↦ absurd (root (ap (λ (n : ℕ). n ∷ []) (eqb-true c 47 is)))
  | inr other ↦ ap (λ (b : Bool). cond b (47 ∷ codes ".nj_") (c ∷ 47 ∷ codes ".nj_")) other
]
start_below (c ∷ d ∷ folder) none root = refl

-- ---- the lowest edge

pub free_none : (start : List ℕ) (edges : List Edge) → AreFreeUpTo start edges 0
free_none start edges zero Depfile low occupied = occupied.0 refl
free_none start edges zero Response low occupied = occupied.0 refl
free_none start edges (suc i) file low occupied = absurd (omega (arith, low))

pub free_turn : (start : List ℕ) (edges : List Edge) (k : ℕ) → AreFreeUpTo start edges k
    → (IsOccupied start edges (suc k) (side_file (edge_at edges (suc k)) Depfile) → ⊥) → (IsOccupied start edges (suc k) (side_file (edge_at edges (suc k)) Response) → ⊥) → AreFreeUpTo start edges (suc k)
free_turn start edges k before depfile response i file low = elim (cases_eq i (suc k)) [
  | inl same ↦ subst (λ (j : ℕ). IsOccupied start edges j (side_file (edge_at edges j) file) → ⊥) (sym same) (here file)
  | inr other ↦ before i file (omega (arith, low, other))
]
  where
    here : (f : SideFile) → IsOccupied start edges (suc k) (side_file (edge_at edges (suc k)) f) → ⊥
    here Depfile = depfile
    here Response = response

pub no_response : Depfile ≡ Response → ⊥
no_response same = cc

past_edge : (edges : List Edge) (i : ℕ) → length edges < i → edge_at edges i ≡ no_edge
past_edge edges zero past = refl
past_edge [] (suc i) past = refl
past_edge (e ∷ edges) (suc zero) past = absurd (omega (arith, past))
past_edge (e ∷ edges) (suc (suc i)) past = past_edge edges (suc i) (omega (arith, past))

-- where all edges are free, depfiles and response files are apart
pub apart_of : (manifest : Manifest) (folder : List ℕ) → AreFreeUpTo (own_start folder) (graph_of manifest).edges (length manifest.lines) → AreApart folder (graph_of manifest).edges
apart_of manifest folder free i file = elim (cases_lt (length manifest.lines) i) [
  | inl past ↦
      let long = length-edges manifest.paths manifest.lines manifest.actions manifest.fits in
      subst (λ (e : Edge). IsOccupied (own_start folder) (graph_of manifest).edges i (side_file e file) → ⊥) (sym (past_edge (graph_of manifest).edges i (omega (arith, past, long)))) (nothing file)
  | inr low ↦ free i file low
]
  where
    nothing : (f : SideFile) → IsOccupied (own_start folder) (graph_of manifest).edges i (side_file no_edge f) → ⊥
    nothing Depfile occupied = occupied.0 refl
    nothing Response occupied = occupied.0 refl

-- ---- the fault

up_to_less : (start : List ℕ) (edges : List Edge) (k count : ℕ) → k ≤ count → AreFreeUpTo start edges count → AreFreeUpTo start edges k
up_to_less start edges k count less free i file low = free i file (omega (arith, less, low))

-- a fault of the first so many edges, where those before the last of them are free
pub fault_below : (folder : List ℕ) (edges : List Edge) (count last : ℕ) → count ≤ suc last → AreFreeUpTo (own_start folder) edges last → (fault : GraphFault) → IsMakingFault edges count fault → IsFaultOf folder edges fault
fault_below folder edges count last near free graph_fault.Memory is = tt
fault_below folder edges count last near free (graph_fault.MadeTwice p) is =
    (is.0, record { place = is.1.0; first = is.1.2; free = up_to_less (own_start folder) edges is.1.0 last (omega (arith, near, is.1.1)) free })
fault_below folder edges count last near free (graph_fault.NoDyndepInput p) is =
    (is.0, record { place = is.1.0; first = is.1.2; free = up_to_less (own_start folder) edges is.1.0 last (omega (arith, near, is.1.1)) free })
fault_below folder edges count last near free (graph_fault.Occupied occupied) is = absurd is

-- the file of an edge that has no other fault, as none before it
pub occupied_fault : (manifest : Manifest) (folder : List ℕ) (at : FileOf) (fault : GraphFault) → IsLowestFile (own_start folder) manifest at → AreInOrder (take (suc at.edge) (graph_of manifest).edges) → IsFaultAt manifest at fault
    → IsFaultOf folder (graph_of manifest).edges fault
occupied_fault manifest folder at fault lowest order is =
    let long = length-edges manifest.paths manifest.lines manifest.actions manifest.fits in
    subst (IsFaultOf folder (graph_of manifest).edges) (sym is) record {
      edge = at.edge;
      within = omega (arith, long, lowest.within);
      in_order = order;
      free = lowest.free;
      path = refl;
      output = refl;
      is = lowest.is;
      first = lowest.first;
    }

-- ---- what was found of the whole

pub found_within : (start : List ℕ) (manifest : Manifest) (found : Option FileOf) → FindsLowest start manifest found → IfSome found (λ at. at.edge < length manifest.lines)
found_within start manifest None is = tt
found_within start manifest (Some at) is = is.within

pub stop_within : (start : List ℕ) (manifest : Manifest) (found : Option FileOf) → FindsLowest start manifest found → stop_at manifest found ≤ length manifest.lines
stop_within start manifest None is = omega arith
stop_within start manifest (Some at) is = is.within

-- a fault of the edges that are looked at
pub making_told : (manifest : Manifest) (folder : List ℕ) (found : Option FileOf) → FindsLowest (own_start folder) manifest found → (count : ℕ) → count ≡ stop_at manifest found → (fault : GraphFault) → IsMakingFault (graph_of manifest).edges count fault
    → IsFaultOf folder (graph_of manifest).edges fault
making_told manifest folder None is count same fault making =
    fault_below folder (graph_of manifest).edges count (length manifest.lines) (omega (arith, same)) is fault making
making_told manifest folder (Some at) is count same fault making =
    fault_below folder (graph_of manifest).edges count at.edge (omega (arith, same)) is.free fault making

pub found_some : (start : List ℕ) (manifest : Manifest) (found : Option FileOf) (at : FileOf) → found ≡ Some at → FindsLowest start manifest found → IsLowestFile start manifest at
found_some start manifest found at same is = subst (FindsLowest start manifest) same is

pub found_none : (start : List ℕ) (manifest : Manifest) (found : Option FileOf) → found ≡ None → FindsLowest start manifest found → AllAreFree start manifest
found_none start manifest found same is = subst (FindsLowest start manifest) same is
