-- How edges are given back what they did before their dyndep file was loaded.
use Rattle.std.proofs.Common.{◌≡◌, ◌≢◌, ◌⊎◌, inl, inr, ℕ, zero, suc, ◌+◌, ◌<◌, ◌≤◌, ◌==◌, ◌||◌, Bool, true, false, List, [], ◌∷◌, ◌++◌, Option, Some, None, map, length, get_or, slice_get, take, refl, sym, ◌∙◌, ap, subst, arith, length-append}
use Rattle.std.specs.Option.{is_some}
use Rattle.std.proofs.Math.ListN.{set}
use Rattle.std.proofs.Math.Seq.{take-append_seam}
use Rattle.std.proofs.lemmas.Bool.{cases_Bool, cases_eq, cases_lt, eqb-true, eq-eqb, false≢true, false_from_ne_true, or_cases, or_left, or_right}
use Rattle.std.proofs.lemmas.List.{ext_get_or, get_or-set_same, get_or-set_other, get_or_past, append-nil, length-set, map-append}
use Rattle.std.proofs.lemmas.Option.{slice_get-get_or, slice_get_within}
use Rattle.model.specs.Graph.{has_number, Addition}
use Rattle.theory.proofs.Lists.{has_number-is, has_number-left, has_number-right, has_number-push}
use Rattle.paths.specs.declared.manifest.Action.{Action}
use Rattle.paths.specs.declared.manifest.Action.TheVariants.{Alias, Command}
use Rattle.paths.specs.declared.manifest.Command.{Command as Does}
use Rattle.paths.specs.declared.manifest.Manifest.{Manifest}
use Rattle.paths.specs.Commands.{no_action}
use Rattle.paths.specs.Told.{text_at}
use Rattle.graph.specs.declared.back.LoadedEdge.{LoadedEdge}
use Rattle.graph.specs.declared.choice.Choice.{Choice}
use Rattle.graph.specs.declared.graph.Graph.{Graph}
use Rattle.graph.specs.Held.{list_at, dyndep_of, StandOnce}
use Rattle.graph.specs.Extended.{dyndep_at}
use Rattle.graph.specs.LoadedEdges.{numbers_in}
use Rattle.graph.specs.Statements.{action_at}
use Rattle.graph.specs.Chosen.{chosen_edges, choice_in, AreRising}
use Rattle.graph.specs.Back.{has_restat, loaded_by, loaded_all, undone, AreLoadedEdges, AreUndoneBy}
use Rattle.graph.proofs.Chosen.{no_choice, rising_tail, rising_absent, choice_here, choice_past, choice_at}
use Rattle.graph.proofs.Choosing.{owner_some, is_at, place_is, names_number, named_within}
use Rattle.graph.proofs.Lists.{once_none, once_push, once_append}
use Rattle.graph.proofs.Places.{map_get}

-- ---- edges by place and by number

some_is : {X : Type 0} (a b : X) → Some a ≡ Some b → a ≡ b
some_is a b is = cc

none_is : {X : Type 0} (x : X) → None ≡ Some x → ⊥
none_is x is = cc

-- what stands at a place has its number among those of the list
pub number_there : (edges : List LoadedEdge) (k : ℕ) (l : LoadedEdge) → slice_get edges k ≡ Some l → has_number (numbers_in edges) l.edge ≡ true
number_there [] k l at = absurd (none_is l at)
number_there (x ∷ edges) zero l at = or_left (x.edge == l.edge) (has_number (numbers_in edges) l.edge) (eq-eqb x.edge l.edge (ap (λ (o : LoadedEdge). o.edge) (some_is x l at)))
number_there (x ∷ edges) (suc k) l at = or_right (x.edge == l.edge) (has_number (numbers_in edges) l.edge) (number_there edges k l at)

-- and each of them stands at a place
pub number_at : (edges : List LoadedEdge) (e : ℕ) → has_number (numbers_in edges) e ≡ true → (k : ℕ) × ((l : LoadedEdge) × (slice_get edges k ≡ Some l) × (l.edge ≡ e))
number_at [] e has = absurd (false≢true has)
number_at (x ∷ edges) e has = by (x.edge == e) refl (number_at edges e) has
  where
    by : (b : Bool) → (x.edge == e) ≡ b → (has_number (numbers_in edges) e ≡ true → (k : ℕ) × ((l : LoadedEdge) × (slice_get edges k ≡ Some l) × (l.edge ≡ e))) → (b || has_number (numbers_in edges) e) ≡ true
        → (k : ℕ) × ((l : LoadedEdge) × (slice_get (x ∷ edges) k ≡ Some l) × (l.edge ≡ e))
    by true is later rest = (0, (x, refl, eqb-true x.edge e is))
    by false is later rest = let there = later rest in (suc there.0, (there.1.0, there.1.1, there.1.2))

-- the item that a loop is at
pub item_at : (edges : List LoadedEdge) (k : ℕ) (l : LoadedEdge) → k < length edges → l ≡ get_or edges k l → slice_get edges k ≡ Some l
item_at edges k l low is = slice_get-get_or edges k l low ∙ ap (λ (x : LoadedEdge). Some x) (sym is)

below_next : (j k : ℕ) → j < k + 1 → (j < k) ⊎ (j ≡ k)
below_next j k low = elim (cases_lt j k) [
  | inl less ↦ inl less
  | inr more ↦ inr (omega (arith, low, more))
]

-- ---- one edge after the other

-- the edges of so many places do what they did before, and each other one that or what it did first
pub record IsUnloadedTo (edges : List LoadedEdge) (count : ℕ) (first now before : List Action) : Type 0 where
  pub fits : length now ≡ length first
  pub either : (e : ℕ) → (action_at now e ≡ action_at first e) ⊎ (action_at now e ≡ action_at before e)
  pub done : (j : ℕ) (l : LoadedEdge) → j < count → slice_get edges j ≡ Some l → action_at now l.edge ≡ action_at before l.edge

undone_twice : (file : ℕ) (restat : Bool) (a : Action) → undone file restat (undone file restat a) ≡ undone file restat a
undone_twice file restat Alias = refl
undone_twice file restat (Command command) = refl

module _ (file : ℕ) (edges : List LoadedEdge) (first before : List Action) (are : AreUndoneBy file edges first before) where
  pub unloaded_none : IsUnloadedTo edges 0 first first before
  unloaded_none = record { fits = refl; either = λ e. inl refl; done = λ j l low at. absurd (omega (arith, low)) }

  pub unloaded_next : (now next : List Action) (k : ℕ) (l : LoadedEdge) (a : Action) → slice_get edges k ≡ Some l → next ≡ set now l.edge a → a ≡ undone file l.restat (action_at now l.edge) → IsUnloadedTo edges k first now before → IsUnloadedTo edges (k + 1) first next before
  unloaded_next now next k l a at put is state = record {
    fits = ap length put ∙ (length-set now l.edge a ∙ state.fits);
    either = λ e. elim (cases_eq e l.edge) [
      | inl same ↦ inr (subst (λ (n : ℕ). action_at next n ≡ action_at before n) (sym same) here)
      | inr other ↦ elim (state.either e) [
        | inl left ↦ inl (there e other ∙ left)
        | inr right ↦ inr (there e other ∙ right)
      ]
    ];
    done = λ j m low there_at. elim (below_next j k low) [
      | inl less ↦ elim (cases_eq m.edge l.edge) [
        | inl same ↦ subst (λ (n : ℕ). action_at next n ≡ action_at before n) (sym same) here
        | inr other ↦ there m.edge other ∙ state.done j m less there_at
      ]
      | inr last ↦
          let same : l ≡ m = some_is l m (sym at ∙ (ap (λ (n : ℕ). slice_get edges n) (sym last) ∙ there_at)) in
          subst (λ (x : LoadedEdge). action_at next x.edge ≡ action_at before x.edge) same here
    ];
  }
    where
      within : l.edge < length now
      within = let low = are.within k l at in let size = state.fits in omega (arith, low, size)

      value : undone file l.restat (action_at now l.edge) ≡ action_at before l.edge
      value = elim (state.either l.edge) [
        | inl left ↦ ap (undone file l.restat) left ∙ are.each k l at
        | inr right ↦ ap (undone file l.restat) (right ∙ sym (are.each k l at)) ∙ (undone_twice file l.restat (action_at first l.edge) ∙ are.each k l at)
      ]

      here : action_at next l.edge ≡ action_at before l.edge
      here = ap (λ (x : List Action). action_at x l.edge) put ∙ (get_or-set_same now l.edge a no_action within ∙ (is ∙ value))

      there : (e : ℕ) → e ≢ l.edge → action_at next e ≡ action_at now e
      there e other = ap (λ (x : List Action). action_at x e) put ∙ get_or-set_other now l.edge e a no_action other

  pub unloaded_all : (now : List Action) (count : ℕ) → length edges ≤ count → IsUnloadedTo edges count first now before → now ≡ before
  unloaded_all now count all state = ext_get_or no_action now before (state.fits ∙ sym are.fits) (λ e low. elim (state.either e) [
    | inr right ↦ right
    | inl left ↦ elim (cases_Bool (has_number (numbers_in edges) e)) [
      | inl has ↦
          let at = number_at edges e has in
          subst (λ (n : ℕ). action_at now n ≡ action_at before n) at.1.2 (state.done at.0 at.1.0 (within at.0 at.1.0 at.1.1) at.1.1)
      | inr none ↦ left ∙ are.others e none
    ]
  ])
    where
      within : (k : ℕ) (l : LoadedEdge) → slice_get edges k ≡ Some l → k < count
      within k l at = let low = slice_get_within edges k l at in omega (arith, low, all)

-- ---- recorded inputs

-- those of the edges at so many places are gone, and those of edges that do not stand in the list are as they were
pub record AreForgottenTo (edges : List LoadedEdge) (count : ℕ) (first now : List (List ℕ)) : Type 0 where
  pub fits : length now ≡ length first
  pub gone : (j : ℕ) (l : LoadedEdge) → j < count → slice_get edges j ≡ Some l → list_at now l.edge ≡ []
  pub others : (e : ℕ) → has_number (numbers_in edges) e ≡ false → list_at now e ≡ list_at first e

pub forgotten_none : (edges : List LoadedEdge) (first : List (List ℕ)) → AreForgottenTo edges 0 first first
forgotten_none edges first = record { fits = refl; gone = λ j l low at. absurd (omega (arith, low)); others = λ e none. refl }

pub forgotten_next : (edges : List LoadedEdge) (first now next : List (List ℕ)) (k : ℕ) (l : LoadedEdge) → slice_get edges k ≡ Some l → l.edge < length first → next ≡ set now l.edge [] → AreForgottenTo edges k first now → AreForgottenTo edges (k + 1) first next
forgotten_next edges first now next k l at within put state = record {
  fits = ap length put ∙ (length-set now l.edge [] ∙ state.fits);
  gone = λ j m low there_at. elim (below_next j k low) [
    | inl less ↦ elim (cases_eq m.edge l.edge) [
      | inl same ↦ subst (λ (n : ℕ). list_at next n ≡ []) (sym same) here
      | inr other ↦ there m.edge other ∙ state.gone j m less there_at
    ]
    | inr last ↦
        let same : l ≡ m = some_is l m (sym at ∙ (ap (λ (n : ℕ). slice_get edges n) (sym last) ∙ there_at)) in
        subst (λ (x : LoadedEdge). list_at next x.edge ≡ []) same here
  ];
  others = λ e none. there e (λ same. false≢true (sym none ∙ (ap (has_number (numbers_in edges)) same ∙ number_there edges k l at))) ∙ state.others e none;
}
  where
    here : list_at next l.edge ≡ []
    here = ap (λ (x : List (List ℕ)). list_at x l.edge) put ∙ get_or-set_same now l.edge [] [] (let size = state.fits in omega (arith, within, size))

    there : (e : ℕ) → e ≢ l.edge → list_at next e ≡ list_at now e
    there e other = ap (λ (x : List (List ℕ)). list_at x e) put ∙ get_or-set_other now l.edge e [] [] other

pub forgotten_all : (edges : List LoadedEdge) (first now : List (List ℕ)) (count : ℕ) → length edges ≤ count → AreForgottenTo edges count first now → (k : ℕ) (l : LoadedEdge) → slice_get edges k ≡ Some l → list_at now l.edge ≡ []
forgotten_all edges first now count all state k l at = state.gone k l (let low = slice_get_within edges k l at in omega (arith, low, all)) at

-- so the recorded inputs are those of before, where these edges had none
pub forgotten_is : (edges : List LoadedEdge) (first now before : List (List ℕ)) → length now ≡ length first → ((k : ℕ) (l : LoadedEdge) → slice_get edges k ≡ Some l → list_at now l.edge ≡ [])
    → ((e : ℕ) → has_number (numbers_in edges) e ≡ false → list_at now e ≡ list_at first e) → length before ≡ length first
    → ((e : ℕ) → has_number (numbers_in edges) e ≡ false → list_at first e ≡ list_at before e) → ((e : ℕ) → has_number (numbers_in edges) e ≡ true → list_at before e ≡ []) → now ≡ before
forgotten_is edges first now before size gone kept fits others none = ext_get_or [] now before (size ∙ sym fits) (λ e low. elim (cases_Bool (has_number (numbers_in edges) e)) [
  | inl has ↦
      let at = number_at edges e has in
      ap (list_at now) (sym at.1.2) ∙ (gone at.0 at.1.0 at.1.1 ∙ sym (none e has))
  | inr absent ↦ kept e absent ∙ others e absent
])

-- ---- which edges were loaded

numbers_more : (xs ys : List LoadedEdge) → numbers_in (xs ++ ys) ≡ numbers_in xs ++ numbers_in ys
numbers_more xs ys = map-append (λ (l : LoadedEdge). l.edge) xs ys

-- what stands in two lists stands in one of them
either_list : (xs ys : List LoadedEdge) (k : ℕ) (l : LoadedEdge) → slice_get (xs ++ ys) k ≡ Some l → ((j : ℕ) × (slice_get xs j ≡ Some l)) ⊎ ((j : ℕ) × (slice_get ys j ≡ Some l))
either_list [] ys k l at = inr (k, at)
either_list (x ∷ xs) ys zero l at = inl (0, at)
either_list (x ∷ xs) ys (suc k) l at = elim (either_list xs ys k l at) [
  | inl here ↦ inl (suc here.0, here.1)
  | inr later ↦ inr later
]

by_one : (actions : List Action) (e : ℕ) (o : Option ℕ) (k : ℕ) (l : LoadedEdge) → slice_get (loaded_by e (action_at actions e) o) k ≡ Some l → (l.edge ≡ e) × ((is_some o ≡ true) × (l.restat ≡ has_restat (action_at actions l.edge)))
by_one actions e None k l at = absurd (none_is l at)
by_one actions e (Some s) zero l at =
    let is = some_is (record { edge = e; restat = has_restat (action_at actions e) }) l at in
    (sym (ap (λ (x : LoadedEdge). x.edge) is), (refl, sym (ap (λ (x : LoadedEdge). x.restat) is) ∙ ap (λ (n : ℕ). has_restat (action_at actions n)) (ap (λ (x : LoadedEdge). x.edge) is)))
by_one actions e (Some s) (suc k) l at = absurd (none_is l at)

-- each is of one of the list
by_list : (actions : List Action) (chosen : List Choice) (k : ℕ) (l : LoadedEdge) → slice_get (loaded_all actions chosen) k ≡ Some l
    → (j : ℕ) × (j < length chosen) × ((get_or chosen j no_choice).edge ≡ l.edge) × (is_some (get_or chosen j no_choice).statement ≡ true) × (l.restat ≡ has_restat (action_at actions l.edge))
by_list actions [] k l at = absurd (none_is l at)
by_list actions (c ∷ cs) k l at = elim (either_list (loaded_by c.edge (action_at actions c.edge) c.statement) (loaded_all actions cs) k l at) [
  | inl here ↦ let is = by_one actions c.edge c.statement here.0 l here.1 in (0, omega arith, sym is.0, is.1.0, is.1.1)
  | inr later ↦ let rest = by_list actions cs later.0 l later.1 in (suc rest.0, let low = rest.1 in omega (arith, low), rest.2, rest.3, rest.4)
]

-- and each that has a statement is there
listed : (actions : List Action) (chosen : List Choice) (e : ℕ) → is_some (choice_in chosen e) ≡ true → has_number (numbers_in (loaded_all actions chosen)) e ≡ true
listed actions [] e some = absurd (false≢true some)
listed actions (c ∷ cs) e some = subst (λ (l : List ℕ). has_number l e ≡ true) (sym (numbers_more (loaded_by c.edge (action_at actions c.edge) c.statement) (loaded_all actions cs))) (elim (cases_Bool (c.edge == e)) [
  | inl here ↦ has_number-left (numbers_in (loaded_by c.edge (action_at actions c.edge) c.statement)) (numbers_in (loaded_all actions cs)) e (one c.statement (ap is_some (sym (choice_here c cs e here)) ∙ some) here)
  | inr past ↦ has_number-right (numbers_in (loaded_by c.edge (action_at actions c.edge) c.statement)) (numbers_in (loaded_all actions cs)) e (listed actions cs e (ap is_some (sym (choice_past c cs e past)) ∙ some))
])
  where
    one : (o : Option ℕ) → is_some o ≡ true → (c.edge == e) ≡ true → has_number (numbers_in (loaded_by c.edge (action_at actions c.edge) o)) e ≡ true
    one None some is = absurd (false≢true some)
    one (Some s) some is = or_left (c.edge == e) false is

-- the edges for which a statement was chosen are just these
pub loaded_each : (actions : List Action) (chosen : List Choice) → AreRising (chosen_edges chosen) → AreLoadedEdges actions (choice_in chosen) (loaded_all actions chosen)
loaded_each actions chosen rising = record {
  each = λ k l at.
      let is = by_list actions chosen k l at in
      record {
        some = ap is_some (ap (choice_in chosen) (sym is.2) ∙ choice_at chosen is.0 rising is.1) ∙ is.3;
        restat = is.4;
      };
  all = listed actions chosen;
}

-- each of them stands once
loaded_chosen : (actions : List Action) (chosen : List Choice) (e : ℕ) → has_number (numbers_in (loaded_all actions chosen)) e ≡ true → has_number (chosen_edges chosen) e ≡ true
loaded_chosen actions [] e has = absurd (false≢true has)
loaded_chosen actions (c ∷ cs) e has = by c.statement (loaded_chosen actions cs e) (subst (λ (l : List ℕ). has_number l e ≡ true) (numbers_more (loaded_by c.edge (action_at actions c.edge) c.statement) (loaded_all actions cs)) has)
  where
    by : (o : Option ℕ) → (has_number (numbers_in (loaded_all actions cs)) e ≡ true → has_number (chosen_edges cs) e ≡ true) → has_number (numbers_in (loaded_by c.edge (action_at actions c.edge) o) ++ numbers_in (loaded_all actions cs)) e ≡ true
        → has_number (chosen_edges (c ∷ cs)) e ≡ true
    by None rest there = or_right (c.edge == e) (has_number (chosen_edges cs) e) (rest there)
    by (Some k) rest there = elim (or_cases (c.edge == e) (has_number (numbers_in (loaded_all actions cs)) e) there) [
      | inl here ↦ or_left (c.edge == e) (has_number (chosen_edges cs) e) here
      | inr later ↦ or_right (c.edge == e) (has_number (chosen_edges cs) e) (rest later)
    ]

pub loaded_once : (actions : List Action) (chosen : List Choice) → AreRising (chosen_edges chosen) → StandOnce (numbers_in (loaded_all actions chosen))
loaded_once actions [] rising = once_none
loaded_once actions (c ∷ cs) rising =
    subst StandOnce (sym (numbers_more (loaded_by c.edge (action_at actions c.edge) c.statement) (loaded_all actions cs))) (by c.statement (loaded_once actions cs (rising_tail c.edge (chosen_edges cs) rising)))
  where
    rest : List ℕ
    rest = numbers_in (loaded_all actions cs)

    absent : has_number rest c.edge ≡ false
    absent = false_from_ne_true (has_number rest c.edge) (λ there. false≢true (sym (rising_absent c.edge (chosen_edges cs) rising) ∙ loaded_chosen actions cs c.edge there))

    by : (o : Option ℕ) → StandOnce rest → StandOnce (numbers_in (loaded_by c.edge (action_at actions c.edge) o) ++ rest)
    by None later = later
    by (Some k) later = once_append (c.edge ∷ []) rest (once_push [] c.edge once_none refl) later (λ n here. subst (λ (m : ℕ). has_number rest m ≡ false) (has_number-is c.edge n here) absent)
