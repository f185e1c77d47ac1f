-- Which statement is chosen for which edge.
use Rattle.std.proofs.Common.{◌≡◌, ◌≢◌, ◌⊎◌, inl, inr, ℕ, zero, suc, ◌+◌, ◌<◌, ◌≤◌, ◌==◌, Bool, true, false, cond, List, [], ◌∷◌, ◌++◌, Option, Some, None, MatchOption, map, length, get_or, slice_get, take, bytes_eq, refl, sym, ◌∙◌, ap, subst, arith, length-append}
use Rattle.std.specs.List.{AllByRecursion}
use Rattle.std.specs.Option.{option_map, is_some}
use Rattle.std.proofs.lemmas.Bool.{cases_Bool, cases_eq, cases_lt, eqb-true, eq-eqb, false≢true, true≢false, false_from_ne_true, or_left, or_right}
use Rattle.std.proofs.lemmas.List.{get_or_past}
use Rattle.model.specs.declared.graph.Edge.{Edge}
use Rattle.model.specs.Graph.{has, has_number, edge_at, no_edge, maker, outputs, first_output, later_number, Addition, IsMadeOnce}
use Rattle.theory.proofs.Lists.{same_bytes, bytes_same}
use Rattle.theory.proofs.Makers.{maker_has, maker_is}
use Rattle.paths.specs.Commands.{no_action}
use Rattle.paths.specs.Lists.{line_at, line_outputs}
use Rattle.paths.specs.Told.{text_at, texts_at}
use Rattle.graph.specs.declared.graph.Graph.{Graph}
use Rattle.graph.specs.Held.{dyndep_of}
use Rattle.graph.specs.Told.{declared_by}
use Rattle.graph.specs.Extended.{dyndep_at, LacksStatement, IsFirstLacking, IsOfNamer, IsSecond, IsUnfitting, IsFirstUnfitting, IsUnfit}
use Rattle.graph.specs.Statements.{is_place, is_name, if_namer, owner_in, owners_of, NoneIsOf, IsFirstOf, IsChoice, AreChoices, FitsAt, AllFitBelow, IsBadBelow, LacksChoice, IsLowestLacking, HasChosen, HasPassed, IsGiven}
use Rattle.graph.proofs.Flaws.{dyndep_low}
use Rattle.graph.proofs.GraphIs.{edge_is}
use Rattle.graph.proofs.Places.{at_split, IsAt, split_of, get_within, get_there, get_map, map_get}
use Rattle.graph.proofs.Makes.{output_below}
use Rattle.graph.proofs.Texts.{same_number, dyndep_is, outputs_of, number_of, length-edges}

-- ---- names by number and by text

-- an edge names a file by number just where it does by text
pub name_is : (graph : Graph) (e file : ℕ) → file < length graph.manifest.paths
    → is_name (text_at graph.manifest.paths file) (edge_at (declared_by graph).edges (suc e)).dyndep ≡ is_place (dyndep_at graph e) file
name_is graph e file lt =
    let paths = graph.manifest.paths in
    ap (is_name (text_at paths file)) (ap (λ (edge : Edge). edge.dyndep) (edge_is graph e) ∙ dyndep_is paths _ (get_or graph.manifest.actions e no_action))
    ∙ by (dyndep_at graph e) refl
  where
    by : (o : Option ℕ) → dyndep_at graph e ≡ o → is_name (text_at graph.manifest.paths file) (option_map (text_at graph.manifest.paths) (dyndep_at graph e)) ≡ is_place (dyndep_at graph e) file
    by None is = ap (λ (x : Option ℕ). is_name (text_at graph.manifest.paths file) (option_map (text_at graph.manifest.paths) x)) is ∙ sym (ap (λ (x : Option ℕ). is_place x file) is)
    by (Some q) is =
        let paths = graph.manifest.paths in
        let low = dyndep_low graph.manifest e q is in
        ap (λ (x : Option ℕ). is_name (text_at paths file) (option_map (text_at paths) x)) is
        ∙ (elim (cases_Bool (q == file)) [
          | inl same ↦ subst (λ (n : ℕ). bytes_eq (text_at paths q) (text_at paths n) ≡ true) (eqb-true q file same) (bytes_same (text_at paths q)) ∙ sym same
          | inr other ↦ false_from_ne_true _ (λ h. false≢true (sym other ∙ eq-eqb q file (same_number paths graph.apart q file low lt (same_bytes (text_at paths q) (text_at paths file) h)))) ∙ sym other
        ]
        ∙ sym (ap (λ (x : Option ℕ). is_place x file) is))

pub place_is : (o : Option ℕ) (n : ℕ) → is_place o n ≡ true → o ≡ Some n
place_is None n is = absurd (false≢true is)
place_is (Some m) n is = ap (λ (k : ℕ). Some k) (eqb-true m n is)

pub is_at : (o : Option ℕ) (n : ℕ) → o ≡ Some n → is_place o n ≡ true
is_at o n is = ap (λ (x : Option ℕ). is_place x n) is ∙ eq-eqb n n refl

named_is : (o : Option (List ℕ)) (file : List ℕ) → is_name file o ≡ true → o ≡ Some file
named_is None file is = absurd (false≢true is)
named_is (Some f) file is = ap (λ (t : List ℕ). Some t) (same_bytes f file is)

is_named : (o : Option (List ℕ)) (file : List ℕ) → o ≡ Some file → is_name file o ≡ true
is_named o file is = ap (is_name file) is ∙ bytes_same file

-- the edge of a text names it by number
pub names_number : (graph : Graph) (e file : ℕ) → file < length graph.manifest.paths → (edge_at (declared_by graph).edges (suc e)).dyndep ≡ Some (text_at graph.manifest.paths file) → dyndep_at graph e ≡ Some file
names_number graph e file lt names = place_is (dyndep_at graph e) file (sym (name_is graph e file lt) ∙ is_named _ (text_at graph.manifest.paths file) names)

pub names_text : (graph : Graph) (e file : ℕ) → file < length graph.manifest.paths → dyndep_at graph e ≡ Some file → (edge_at (declared_by graph).edges (suc e)).dyndep ≡ Some (text_at graph.manifest.paths file)
names_text graph e file lt names = named_is _ (text_at graph.manifest.paths file) (name_is graph e file lt ∙ is_at (dyndep_at graph e) file names)

-- ---- the owner of an output

cond_some : (b : Bool) (i j : ℕ) → cond b (Some i) None ≡ Some j → (b ≡ true) × (i ≡ j)
cond_some true i j is = (refl, cc)
cond_some false i j is = cc

module _ (edges : List Edge) (file : List ℕ) where
  pub owner_some : (output : List ℕ) (i : ℕ) → owner_in edges file output ≡ Some i → ((edge_at edges i).dyndep ≡ Some file) × (has (outputs (edge_at edges i)) output ≡ true)
  owner_some output i is = by (maker edges output) refl is
    where
      by : (o : Option ℕ) → maker edges output ≡ o → if_namer edges file o ≡ Some i → ((edge_at edges i).dyndep ≡ Some file) × (has (outputs (edge_at edges i)) output ≡ true)
      by None made owns = cc
      by (Some j) made owns =
          let both = cond_some (is_name file (edge_at edges j).dyndep) j i owns in
          subst (λ (k : ℕ). ((edge_at edges k).dyndep ≡ Some file) × (has (outputs (edge_at edges k)) output ≡ true)) both.1
          (named_is (edge_at edges j).dyndep file both.0, maker_has edges output j made)

  pub owner_is : (output : List ℕ) (i : ℕ) → IsMadeOnce edges → (edge_at edges i).dyndep ≡ Some file → has (outputs (edge_at edges i)) output ≡ true → owner_in edges file output ≡ Some i
  owner_is output i once names makes =
      ap (if_namer edges file) (maker_is edges output i once makes)
      ∙ ap (λ (b : Bool). cond b (Some i) None) (is_named (edge_at edges i).dyndep file names)

pub owner_found : (graph : Graph) (file e : ℕ) (output : List ℕ) → file < length graph.manifest.paths → Some (suc e) ≡ maker (declared_by graph).edges output → (b : Bool) → b ≡ is_place (dyndep_at graph e) file
    → cond b (Some (suc e)) None ≡ owner_in (declared_by graph).edges (text_at graph.manifest.paths file) output
owner_found graph file e output lt made b is =
    ap (λ (x : Bool). cond x (Some (suc e)) None) (is ∙ sym (name_is graph e file lt))
    ∙ ap (if_namer (declared_by graph).edges (text_at graph.manifest.paths file)) made

-- ---- one more statement

none_some : {X : Type 0} (x : X) → None ≡ Some x → ⊥
none_some x is = cc

some_same : {X : Type 0} (a b : X) → Some a ≡ Some b → a ≡ b
some_same a b is = cc

module _ (owners : List (Option ℕ)) (place : ℕ) (owner : Option ℕ) (at : slice_get owners place ≡ Some owner) where
  none_more : (i : ℕ) → NoneIsOf owners place i → (owner ≡ Some i → ⊥) → NoneIsOf owners (place + 1) i
  none_more i none other j lt is = elim (cases_eq j place) [
    | inl same ↦ other (some_same owner (Some i) (sym at ∙ subst (λ (k : ℕ). slice_get owners k ≡ Some (Some i)) same is))
    | inr apart ↦ none j (omega (arith, lt, apart)) is
  ]

  choice_more : (e : ℕ) (choice : Option ℕ) → IsChoice owners place e choice → (choice ≡ None → owner ≡ Some (suc e) → ⊥) → IsChoice owners (place + 1) e choice
  choice_more e None none other = none_more (suc e) none (other refl)
  choice_more e (Some k) chosen other = (let low = chosen.0 in omega (arith, low), chosen.1)

  pub choices_next : (given : Bool) (old new : ℕ → Option ℕ) → IsGiven given owner place old new → AreChoices owners place old → AreChoices owners (place + 1) new
  choices_next true old new given before e = elim (cases_eq e given.edge) [
    | inl same ↦
        let was : IsChoice owners place given.edge None = subst (IsChoice owners place given.edge) given.none (before given.edge) in
        subst (λ (n : ℕ). IsChoice owners (place + 1) n (new n)) (sym same)
        (subst (IsChoice owners (place + 1) given.edge) (sym given.here) (omega arith, record { at = at ∙ ap (λ (o : Option ℕ). Some o) given.owns; earlier = was }))
    | inr other ↦ subst (IsChoice owners (place + 1) e) (sym (given.others e other)) (choice_more e (old e) (before e) (λ none owns. other (some_suc e given.edge (sym owns ∙ given.owns))))
  ]
    where
      some_suc : (a b : ℕ) → Some (suc a) ≡ Some (suc b) → a ≡ b
      some_suc a b is = cc
  choices_next false old new passed before e = subst (IsChoice owners (place + 1) e) (sym (passed.same e)) (choice_more e (old e) (before e) (λ none owns. passed.taken e owns none))

  all_more : AllFitBelow owners place → FitsAt owners place → AllFitBelow owners (place + 1)
  all_more all here k lt = elim (cases_eq k place) [
    | inl same ↦ subst (FitsAt owners) (sym same) here
    | inr apart ↦ all k (omega (arith, lt, apart))
  ]

  fits_given : (old new : ℕ → Option ℕ) → HasChosen owner place old new → AreChoices owners place old → FitsAt owners place
  fits_given old new given before = (suc given.edge, record { at = at ∙ ap (λ (o : Option ℕ). Some o) given.owns; earlier = subst (IsChoice owners place given.edge) given.none (before given.edge) })

  -- a statement that is passed fits no edge, as each first one was given to its edge
  unfit_passed : (old new : ℕ → Option ℕ) → (owner ≡ Some 0 → ⊥) → HasPassed owner old new → AreChoices owners place old → FitsAt owners place → ⊥
  unfit_passed old new positive passed before fits = by fits.0 fits.1
    where
      by : (i : ℕ) → IsFirstOf owners place i → ⊥
      by zero first = positive (some_same owner (Some 0) (sym at ∙ first.at))
      by (suc e) first = by_choice (old e) refl (before e)
        where
          by_choice : (o : Option ℕ) → old e ≡ o → IsChoice owners place e o → ⊥
          by_choice None is choice = passed.taken e (some_same owner (Some (suc e)) (sym at ∙ first.at)) is
          by_choice (Some k) is choice = first.earlier k choice.0 choice.1.at

  pub bad_next : (given : Bool) (old new : ℕ → Option ℕ) → (owner ≡ Some 0 → ⊥) → IsGiven given owner place old new → AreChoices owners place old
      → (bad : Option ℕ) → IsBadBelow owners place bad → (next : Option ℕ) → next ≡ cond (is_some bad) bad (cond given None (Some place)) → IsBadBelow owners (place + 1) next
  bad_next given old new positive is before (Some b) bad next same = subst (IsBadBelow owners (place + 1)) (sym same) (let low = bad.0 in omega (arith, low), bad.1, bad.2)
  bad_next true old new positive is before None all next same = subst (IsBadBelow owners (place + 1)) (sym same) (all_more all (fits_given old new is before))
  bad_next false old new positive is before None all next same = subst (IsBadBelow owners (place + 1)) (sym same) (omega arith, unfit_passed old new positive is before, all)

pub choices_first : (owners : List (Option ℕ)) (choice : ℕ → Option ℕ) → ((e : ℕ) → choice e ≡ None) → AreChoices owners 0 choice
choices_first owners choice none e = subst (IsChoice owners 0 e) (sym (none e)) (λ j low is. omega (arith, low))

-- what is chosen is one of the statements
pub choices_low : (owners : List (Option ℕ)) (count : ℕ) (choice : ℕ → Option ℕ) → AreChoices owners count choice → (e k : ℕ) → choice e ≡ Some k → k < count
choices_low owners count choice are e k is = (subst (IsChoice owners count e) is (are e)).0

-- ---- statements that do not fit

-- whether the edge has one of the first so many statements
pub find_one : (owners : List (Option ℕ)) (count i : ℕ) → NoneIsOf owners count i ⊎ ((j : ℕ) × (j < count) × (slice_get owners j ≡ Some (Some i)))
find_one owners zero i = inl (λ j lt is. omega (arith, lt))
find_one owners (suc count) i = elim (find_one owners count i) [
  | inl none ↦ by none (slice_get owners count) refl
  | inr found ↦ inr (found.0, let low = found.1 in omega (arith, low), found.2)
]
  where
    more : NoneIsOf owners count i → (slice_get owners count ≡ Some (Some i) → ⊥) → NoneIsOf owners (suc count) i
    more none other j lt is = elim (cases_eq j count) [
      | inl same ↦ other (subst (λ (k : ℕ). slice_get owners k ≡ Some (Some i)) same is)
      | inr apart ↦ none j (omega (arith, lt, apart)) is
    ]

    by : NoneIsOf owners count i → (o : Option (Option ℕ)) → slice_get owners count ≡ o → NoneIsOf owners (suc count) i ⊎ ((j : ℕ) × (j < suc count) × (slice_get owners j ≡ Some (Some i)))
    by none None is = inl (more none (λ here. none_some (Some i) (sym is ∙ here)))
    by none (Some None) is = inl (more none (λ here. none_some i (some_same None (Some i) (sym is ∙ here))))
    by none (Some (Some k)) is = elim (cases_eq k i) [
      | inl same ↦ inr (count, omega arith, is ∙ ap (λ (n : ℕ). Some (Some n)) same)
      | inr other ↦ inl (more none (λ here. other (some_same k i (some_same (Some k) (Some i) (sym is ∙ here)))))
    ]

-- ---- outputs in texts

table_has : (paths : List (List ℕ)) (n : ℕ) (q : List ℕ) → n < length paths → text_at paths n ≡ q → has paths q ≡ true
table_has [] n q lt is = absurd (omega (arith, lt))
table_has (x ∷ paths) zero q lt is = or_left (bytes_eq x q) (has paths q) (subst (λ (t : List ℕ). bytes_eq x t ≡ true) is (bytes_same x))
table_has (x ∷ paths) (suc n) q lt is = or_right (bytes_eq x q) (has paths q) (table_has paths n q (omega (arith, lt)) is)

-- no edge makes a path that is not in the table
pub none_made : (graph : Graph) (p : List ℕ) → has graph.manifest.paths p ≡ false → maker (declared_by graph).edges p ≡ None
none_made graph p absent = by (maker (declared_by graph).edges p) refl
  where
    by : (o : Option ℕ) → maker (declared_by graph).edges p ≡ o → o ≡ None
    by None is = refl
    by (Some zero) is = absurd (false≢true (maker_has (declared_by graph).edges p zero is))
    by (Some (suc e)) is =
        let line = line_at graph.manifest.lines e in
        let there : has (texts_at graph.manifest.paths (line_outputs line)) p ≡ true =
        ap (λ (l : List (List ℕ)). has l p) (sym (ap outputs (edge_is graph e) ∙ outputs_of graph.manifest.paths line (get_or graph.manifest.actions e no_action))) ∙ maker_has (declared_by graph).edges p (suc e) is in
        let number = number_of graph.manifest.paths (line_outputs line) p there in
        absurd (false≢true (sym absent ∙ table_has graph.manifest.paths number.0 p (output_below graph.manifest e number.0 number.1) number.2))

-- the text of the first output
outs_texts : (graph : Graph) (e : ℕ) (l : List ℕ) → line_outputs (line_at graph.manifest.lines e) ≡ l → first_output (edge_at (declared_by graph).edges (suc e)) ≡ get_or (texts_at graph.manifest.paths l) 0 []
outs_texts graph e l is =
    ap (λ (x : List (List ℕ)). get_or x 0 []) (ap outputs (edge_is graph e) ∙ (outputs_of graph.manifest.paths (line_at graph.manifest.lines e) (get_or graph.manifest.actions e no_action) ∙ ap (texts_at graph.manifest.paths) is))

pub first_text : (graph : Graph) (e n : ℕ) (l : List ℕ) → l ≡ line_outputs (line_at graph.manifest.lines e) → Some n ≡ slice_get l 0
    → (n < length graph.manifest.paths) × (text_at graph.manifest.paths n ≡ first_output (edge_at (declared_by graph).edges (suc e)))
first_text graph e n [] is at = cc
first_text graph e n (m ∷ l) is at =
    let same : n ≡ m = some_same n m at in
    let there : has_number (line_outputs (line_at graph.manifest.lines e)) n ≡ true = subst (λ (x : List ℕ). has_number x n ≡ true) is (or_left (m == n) (has_number l n) (eq-eqb m n (sym same))) in
    (output_below graph.manifest e n there, ap (text_at graph.manifest.paths) same ∙ sym (outs_texts graph e (m ∷ l) (sym is)))

pub no_first : (graph : Graph) (e : ℕ) (l : List ℕ) → l ≡ line_outputs (line_at graph.manifest.lines e) → None ≡ slice_get l 0 → [] ≡ first_output (edge_at (declared_by graph).edges (suc e))
no_first graph e [] is at = sym (outs_texts graph e [] (sym is))
no_first graph e (m ∷ l) is at = cc

-- the owner is one of the edges
pub owner_positive : (edges : List Edge) (file output : List ℕ) → owner_in edges file output ≡ Some 0 → ⊥
owner_positive edges file output is = false≢true (owner_some edges file output 0 is).1

pub named_within : (graph : Graph) (file : List ℕ) (e : ℕ) → (edge_at (declared_by graph).edges (suc e)).dyndep ≡ Some file → e < length graph.manifest.lines
named_within graph file e names = by (cases_lt e (length graph.manifest.lines))
  where
    by : (e < length graph.manifest.lines) ⊎ (length graph.manifest.lines ≤ e) → e < length graph.manifest.lines
    by (inl low) = low
    by (inr past) =
        let none = ap (λ (edge : Edge). edge.dyndep) (get_or_past (declared_by graph).edges e no_edge (let fits = length-edges graph.manifest.paths graph.manifest.lines graph.manifest.actions graph.manifest.fits in omega (arith, fits, past))) in
        absurd (none_some file (sym none ∙ names))
