-- The edges that name a dyndep file, found among those that it is an input of.
use Rattle.std.proofs.Common.{◌≡◌, inl, inr, ℕ, zero, suc, ◌+◌, ◌<◌, ◌≤◌, ◌==◌, ◌||◌, ◌&&◌, Bool, true, false, List, [], ◌∷◌, ◌++◌, Option, Some, None, IfSome, length, take, get_or, refl, sym, ◌∙◌, ap, subst, arith}
use Rattle.std.specs.Prelude.{All}
use Rattle.std.specs.Option.{is_some}
use Rattle.std.proofs.lemmas.Bool.{cases_eq, cases_lt, eqb-true, false≢true}
use Rattle.std.proofs.lemmas.List.{get_or_past}
use Rattle.model.specs.Graph.{has_number}
use Rattle.theory.proofs.Lists.{has_number-left, has_number-append}
use Rattle.paths.specs.declared.line.Line.{Line}
use Rattle.paths.specs.Lists.{no_line, line_at, line_inputs}
use Rattle.paths.specs.Commands.{no_action}
use Rattle.paths.specs.Told.{text_at}
use Rattle.graph.specs.declared.choice.Choice.{Choice}
use Rattle.graph.specs.declared.graph.Graph.{Graph}
use Rattle.graph.specs.Chosen.{chosen_edges, choice_in, AreRising, HasJoinedIf, AreNamers, IsWithin}
use Rattle.graph.specs.Extended.{dyndep_at}
use Rattle.graph.specs.Held.{list_at, times, dyndep_of}
use Rattle.graph.specs.Links.{needs_of}
use Rattle.graph.specs.Statements.{is_place, owner_for, HasPassed, NoneLacks, IsLowestLacking}
use Rattle.graph.specs.Told.{declared_by}
use Rattle.graph.proofs.Choosing.{owner_some, names_number, is_at, place_is}
use Rattle.graph.proofs.Chosen.{no_choice, has_there, there_has, edge_there, edges_length, choice_at, choice_of_place, read_choice, none_of}
use Rattle.graph.proofs.Lists.{times_of_has, has_of_times}

none_some : {X : Type 0} (x : X) → None ≡ Some x → ⊥
none_some x is = cc

-- an edge that names a file is one of the graph
pub namer_within : (graph : Graph) (e file : ℕ) → dyndep_at graph e ≡ Some file → e < length graph.manifest.lines
namer_within graph e file names = elim (cases_lt e (length graph.manifest.lines)) [
  | inl lt ↦ lt
  | inr past ↦ absurd (none_some file (sym (ap dyndep_of (get_or_past graph.manifest.actions e no_action (let fit = graph.manifest.fits in omega (arith, past, fit)))) ∙ names))
]

-- and so is one that waits for a path
pub needer_within : (graph : Graph) (e p : ℕ) → has_number (needs_of graph e) p ≡ true → e < length graph.manifest.lines
needer_within graph e p has = elim (cases_lt e (length graph.manifest.lines)) [
  | inl lt ↦ lt
  | inr past ↦
      let line : line_at graph.manifest.lines e ≡ no_line = get_or_past graph.manifest.lines e no_line past in
      let recorded : list_at graph.recorded e ≡ [] = get_or_past graph.recorded e [] (let fit = graph.recording.fits in omega (arith, past, fit)) in
      absurd (false≢true (sym (ap (λ (l : Line). has_number (line_inputs l ++ list_at graph.recorded e) p) line ∙ ap (λ (l : List ℕ). has_number ([] ++ l) p) recorded) ∙ has))
]

module _ (graph : Graph) (file : ℕ) (users : List ℕ) (counted : (e : ℕ) → times users e ≡ times (needs_of graph e) file) where
  pub user_within : (k : ℕ) → k < length users → get_or users k 0 < length graph.manifest.lines
  user_within k low =
      let n = get_or users k 0 in
      let some = times_of_has users n (has_there users k low) in
      needer_within graph n file (has_of_times (needs_of graph n) file (let same = counted n in omega (arith, some, same)))

  -- the file is an input of each edge that names it
  namer_used : (e : ℕ) → dyndep_at graph e ≡ Some file → has_number users e ≡ true
  namer_used e names =
      let input = graph.dyndeps e file names in
      let some = times_of_has (needs_of graph e) file (has_number-left (line_inputs (line_at graph.manifest.lines e)) (list_at graph.recorded e) file input) in
      has_of_times users e (let same = counted e in omega (arith, some, same))

take_next : (xs : List ℕ) (k x : ℕ) → k < length xs → x ≡ get_or xs k x → take (suc k) xs ≡ take k xs ++ x ∷ []
take_next [] k x lt is = absurd (omega (arith, lt))
take_next (y ∷ xs) zero x lt is = ap (λ (n : ℕ). n ∷ []) (sym is)
take_next (y ∷ xs) (suc k) x lt is = ap (λ (l : List ℕ). y ∷ l) (take_next xs k x (omega (arith, lt)) is)

all_taken : (xs : List ℕ) (k : ℕ) → length xs ≤ k → take k xs ≡ xs
all_taken [] zero long = refl
all_taken [] (suc k) long = refl
all_taken (x ∷ xs) zero long = absurd (omega (arith, long))
all_taken (x ∷ xs) (suc k) long = ap (λ (l : List ℕ). x ∷ l) (all_taken xs k (omega (arith, long)))

-- one more, which has what is asked
one_more : (a p x : Bool) → (x ≡ true → p ≡ true) → ((a && p) || x) ≡ ((a || (x || false)) && p)
one_more true true true h = refl
one_more true true false h = refl
one_more true false true h = absurd (false≢true (h refl))
one_more true false false h = refl
one_more false true true h = refl
one_more false true false h = refl
one_more false false true h = absurd (false≢true (h refl))
one_more false false false h = refl

-- and one that has not
no_more : (a p x : Bool) → (x ≡ true → p ≡ false) → (a && p) ≡ ((a || (x || false)) && p)
no_more true true true h = refl
no_more true true false h = refl
no_more true false true h = refl
no_more true false false h = refl
no_more false true true h = absurd (false≢true (sym (h refl)))
no_more false true false h = refl
no_more false false true h = refl
no_more false false false h = refl

and_false : (a : Bool) → (a && false) ≡ false
and_false true = refl
and_false false = refl

-- of the first so many users those that name the file
pub record AreNamersOf (graph : Graph) (file : ℕ) (users : List ℕ) (chosen : List Choice) : Type 0 where
  pub rising : AreRising (chosen_edges chosen)
  pub edges : (e : ℕ) → has_number (chosen_edges chosen) e ≡ (has_number users e && is_place (dyndep_at graph e) file)
  pub none : (e : ℕ) → choice_in chosen e ≡ None

pub namers_none : (graph : Graph) (file : ℕ) → AreNamersOf graph file [] []
namers_none graph file = record { rising = λ j k less within. absurd (omega (arith, within)); edges = λ e. refl; none = λ e. refl }

module _ (graph : Graph) (file : ℕ) (users : List ℕ) where
  longer : (count n : ℕ) → count < length users → n ≡ get_or users count n → (e : ℕ) → has_number (take (count + 1) users) e ≡ (has_number (take count users) e || ((n == e) || false))
  longer count n low is e =
      let next : count + 1 ≡ suc count = omega arith in
      ap (λ (k : ℕ). has_number (take k users) e) next ∙ (ap (λ (l : List ℕ). has_number l e) (take_next users count n low is) ∙ has_number-append (take count users) (n ∷ []) e)

  pub namers_next : (count n : ℕ) (old new : List Choice) → count < length users → n ≡ get_or users count n → HasJoinedIf (is_place (dyndep_at graph n) file) old n new → AreNamersOf graph file (take count users) old
      → AreNamersOf graph file (take (count + 1) users) new
  namers_next count n old new low is joined before = by (is_place (dyndep_at graph n) file) refl joined
    where
      of_last : (e : ℕ) (b : Bool) → is_place (dyndep_at graph n) file ≡ b → (n == e) ≡ true → is_place (dyndep_at graph e) file ≡ b
      of_last e b name same = subst (λ (m : ℕ). is_place (dyndep_at graph m) file ≡ b) (eqb-true n e same) name

      by : (b : Bool) → is_place (dyndep_at graph n) file ≡ b → HasJoinedIf b old n new → AreNamersOf graph file (take (count + 1) users) new
      by true name has = record {
        rising = has.rising;
        edges = λ e.
            has.edges e ∙ (ap (λ (b : Bool). b || (n == e)) (before.edges e)
            ∙ (one_more (has_number (take count users) e) (is_place (dyndep_at graph e) file) (n == e) (of_last e true name)
            ∙ ap (λ (b : Bool). b && is_place (dyndep_at graph e) file) (sym (longer count n low is e))));
        none = λ e. has.none e (before.none e);
      }
      by false name same = subst (AreNamersOf graph file (take (count + 1) users)) (sym same) record {
        rising = before.rising;
        edges = λ e.
            before.edges e
            ∙ (no_more (has_number (take count users) e) (is_place (dyndep_at graph e) file) (n == e) (of_last e false name)
            ∙ ap (λ (b : Bool). b && is_place (dyndep_at graph e) file) (sym (longer count n low is e)));
        none = before.none;
      }

  pub namers_all : ((e : ℕ) → times users e ≡ times (needs_of graph e) file) → (count : ℕ) (chosen : List Choice) → length users ≤ count → AreNamersOf graph file (take count users) chosen → AreNamers graph file (chosen_edges chosen)
  namers_all counted count chosen past met = record { rising = met.rising; are = λ e. met.edges e ∙ by e (is_place (dyndep_at graph e) file) refl }
    where
      by : (e : ℕ) (b : Bool) → is_place (dyndep_at graph e) file ≡ b → (has_number (take count users) e && b) ≡ b
      by e true is =
          ap (λ (b : Bool). b && true) (ap (λ (l : List ℕ). has_number l e) (all_taken users count past)
          ∙ namer_used graph file users counted e (place_is (dyndep_at graph e) file is))
      by e false is = and_false (has_number (take count users) e)

-- the edge of a statement names the file
pub owner_named : (graph : Graph) (file e : ℕ) (output : List ℕ) → file < length graph.manifest.paths → Some (suc e) ≡ owner_for graph file output → dyndep_at graph e ≡ Some file
owner_named graph file e output low is = names_number graph e file low (owner_some (declared_by graph).edges (text_at graph.manifest.paths file) output (suc e) (sym is)).0

-- and one of no such edge is passed
pub passed_none : (owner : Option ℕ) (old : ℕ → Option ℕ) → None ≡ owner → HasPassed owner old old
passed_none owner old is = record { same = λ e. refl; taken = λ e owns none. none_some (suc e) (is ∙ owns) }

-- ---- edges without statements

pub given_next : (cs : List Choice) (k : ℕ) (x : Choice) → k < length cs → x ≡ get_or cs k x → is_some x.statement ≡ true → ((j : ℕ) → j < k → is_some (get_or cs j no_choice).statement ≡ true)
    → (j : ℕ) → j < k + 1 → is_some (get_or cs j no_choice).statement ≡ true
given_next cs k x low is some before j less = elim (cases_eq j k) [
  | inl same ↦ subst (λ (n : ℕ). is_some (get_or cs n no_choice).statement ≡ true) (sym same) (ap (λ (c : Choice). is_some c.statement) (sym (read_choice cs k x low is)) ∙ some)
  | inr other ↦ before j (omega (arith, less, other))
]

module _ (graph : Graph) (file : ℕ) (cs : List Choice) (named : AreNamers graph file (chosen_edges cs)) where
  -- an edge at a place names the file
  pub names_at : (k : ℕ) → k < length cs → dyndep_at graph (get_or cs k no_choice).edge ≡ Some file
  names_at k low =
      let there = edge_there cs k no_choice low in
      let long = edges_length cs in
      place_is (dyndep_at graph (get_or cs k no_choice).edge) file (sym (named.are (get_or cs k no_choice).edge) ∙ subst (λ (n : ℕ). has_number (chosen_edges cs) n ≡ true) there (has_there (chosen_edges cs) k (omega (arith, low, long))))

  -- and one that names it stands at a place
  namer_at : (e : ℕ) → dyndep_at graph e ≡ Some file → (k : ℕ) × (k < length cs) × (get_or (chosen_edges cs) k 0 ≡ e)
  namer_at e names =
      let there = there_has (chosen_edges cs) e (named.are e ∙ is_at (dyndep_at graph e) file names) in
      let long = edges_length cs in
      let low = there.1 in
      (there.0, omega (arith, low, long), there.2)

  pub first_without : (k : ℕ) → k < length cs → (get_or cs k no_choice).statement ≡ None → ((j : ℕ) → j < k → is_some (get_or cs j no_choice).statement ≡ true) → IsLowestLacking graph file (choice_in cs) (get_or cs k no_choice).edge
  first_without k low none earlier = record {
    lacks = record {
      within = namer_within graph (get_or cs k no_choice).edge file (names_at k low);
      names = names_at k low;
      none = choice_at cs k named.rising low ∙ none;
    };
    lowest = λ e less lacks.
        let there = namer_at e lacks.names in
        let j = there.0 in
        let within = there.1 in
        let is = there.2 in
        let here = edge_there cs k no_choice low in
        let long = edges_length cs in
        elim (cases_lt j k) [
          | inl before ↦ false≢true (sym (ap is_some (sym (choice_of_place cs j e named.rising within is) ∙ lacks.none)) ∙ earlier j before)
          | inr behind ↦ elim (cases_eq k j) [
            | inl same ↦ omega (arith, less, here, is, ap (λ (n : ℕ). get_or (chosen_edges cs) n 0) same)
            | inr other ↦ let more = named.rising k j (omega (arith, behind, other)) (omega (arith, within, long)) in omega (arith, more, less, here, is)
          ]
        ];
  }

  pub none_without : ((j : ℕ) → j < length cs → is_some (get_or cs j no_choice).statement ≡ true) → NoneLacks graph file (choice_in cs)
  none_without all e lacks =
      let there = namer_at e lacks.names in
      false≢true (sym (ap is_some (sym (choice_of_place cs there.0 e named.rising there.1 there.2) ∙ lacks.none)) ∙ all there.0 there.1)

  -- the same, of what was read at a place
  pub first_read : (k : ℕ) (x : Choice) → k < length cs → x ≡ get_or cs k x → is_some x.statement ≡ false → ((j : ℕ) → j < k → is_some (get_or cs j no_choice).statement ≡ true) → IsLowestLacking graph file (choice_in cs) x.edge
  first_read k x low is none earlier =
      let there = read_choice cs k x low is in
      subst (λ (c : Choice). IsLowestLacking graph file (choice_in cs) c.edge) (sym there) (first_without k low (ap (λ (c : Choice). c.statement) (sym there) ∙ none_of x.statement none) earlier)

  -- edges and statements that are there
  pub each_within : (count : ℕ) → ((e k : ℕ) → choice_in cs e ≡ Some k → k < count) → All (IsWithin (length graph.manifest.lines) count) cs
  each_within count below k d low = subst (IsWithin (length graph.manifest.lines) count) (default_same cs k low) record {
    edge = namer_within graph (get_or cs k no_choice).edge file (names_at k low);
    statement = by (get_or cs k no_choice).statement refl;
  }
    where
      default_same : (l : List Choice) (j : ℕ) → j < length l → get_or l j no_choice ≡ get_or l j d
      default_same [] j lt = absurd (omega (arith, lt))
      default_same (x ∷ l) zero lt = refl
      default_same (x ∷ l) (suc j) lt = default_same l j (omega (arith, lt))

      by : (o : Option ℕ) → (get_or cs k no_choice).statement ≡ o → IfSome o (λ n. n < count)
      by None is = tt
      by (Some n) is = below (get_or cs k no_choice).edge n (choice_at cs k named.rising low ∙ is)
