-- The edges of a graph with what a dyndep file says.
use Rattle.std.proofs.Common.{◌≡◌, ◌⊎◌, inl, inr, ℕ, zero, suc, ◌+◌, ◌<◌, ◌≤◌, ◌||◌, Bool, true, false, List, [], ◌∷◌, ◌++◌, Option, Some, None, MatchOption, map, length, get_or, slice_get, refl, sym, ◌∙◌, ap, subst, arith}
use Rattle.std.specs.List.{AllByRecursion, flat_map}
use Rattle.std.specs.Option.{option_map}
use Rattle.std.proofs.lemmas.Bool.{cases_lt, false≢true, false_from_ne_true}
use Rattle.std.proofs.lemmas.List.{append-nil, get_or_past, map-append, length-append}
use Rattle.model.specs.declared.graph.Edge.{Edge}
use Rattle.model.specs.Graph.{has, has_number, no_edge, edge_at, outputs, all_outputs, Addition, grown_edge, StandsTwice, IsMadeOnce, IsMadeTwice}
use Rattle.model.specs.Phases.{IsOnlyFor, IsGrownBy}
use Rattle.theory.proofs.Lists.{has_number-left, has_number-right}
use Rattle.paths.specs.declared.line.Line.{Line}
use Rattle.paths.specs.declared.manifest.Action.{Action}
use Rattle.paths.specs.declared.manifest.Action.TheVariants.{Alias, Command}
use Rattle.paths.specs.declared.manifest.Manifest.{Manifest}
use Rattle.paths.specs.declared.manifest.Command.{Command as Does}
use Rattle.paths.specs.Lists.{line_at, line_outputs, line_inputs, line_paths, grown_line}
use Rattle.paths.specs.Commands.{no_action, dyndep_stop}
use Rattle.paths.specs.Told.{text_at, texts_at, edge_of, edges_of}
use Rattle.graph.specs.declared.fault.ExtendFault.{ExtendFault}
use Rattle.graph.specs.declared.fault.ExtendFault.TheVariants.{Memory, Unfit, MadeTwice}
use Rattle.graph.specs.declared.graph.Graph.{Graph}
use Rattle.graph.specs.declared.loaded.Gain.{Gain}
use Rattle.graph.specs.Held.{list_at, dyndep_of, AreRecorded}
use Rattle.graph.specs.Linked.{IsFirstRepeated}
use Rattle.graph.specs.Told.{declared_by}
use Rattle.graph.specs.Extended.{dyndep_at, IsRemadeBy, IsRefusedLoad}
use Rattle.graph.specs.Statements.{owner_in, owners_of, IsFirstOf, IsChoice, FitsAt, AreChosen, HasMore, IsGainIn, no_addition, addition_at, AreGainsIn, gain_of, line_with, AreGrownLines, action_at, loaded_action, action_with, AreLoadedActions, IsMadeTwiceIn, IsRemadeIn, IsLoadFault}
use Rattle.graph.proofs.Choosing.{owner_some, owner_is, names_number, named_within}
use Rattle.graph.proofs.Gaining.{more_length, more_texts}
use Rattle.graph.proofs.Loading.{line_within, inputs_more}
use Rattle.graph.proofs.Longer.{texts_longer, edge_longer}
use Rattle.graph.proofs.Makes.{named_below}
use Rattle.graph.proofs.Places.{at_split, IsAt, split_of, get_within, get_there, get_map, map_get}
use Rattle.graph.proofs.Texts.{AreWithin, within_of, outputs_of, length-edges, edge_get, all_outputs_of}
use Rattle.graph.proofs.Unfitting.{all_at}
use Rattle.graph.proofs.Longer.{part_within}

none_some : {X : Type 0} (x : X) → None ≡ Some x → ⊥
none_some x is = cc

some_same : {X : Type 0} (a b : X) → Some a ≡ Some b → a ≡ b
some_same a b is = cc

-- ---- one edge

-- the edge of a command whose file is loaded
edge_grown : (paths more : List (List ℕ)) (line : Line) (command : Does) (a : Addition) (gain : Gain) → ((p : ℕ) → has_number (line_paths line) p ≡ true → p < length paths) → IsGainIn (paths ++ more) a gain
    → edge_of (paths ++ more) (grown_line line gain.outputs gain.inputs) (loaded_action a.restat (Command command)) ≡ grown_edge (edge_of paths line (Command command)) a
edge_grown paths more line command a gain each gained =
    let parts = part_within (length paths) line each in
    let eo = texts_longer paths more line.explicit_outputs parts.0 in
    let io : texts_at (paths ++ more) (line.implicit_outputs ++ gain.outputs) ≡ texts_at paths line.implicit_outputs ++ a.outputs =
    map-append (text_at (paths ++ more)) line.implicit_outputs gain.outputs ∙ (ap (λ (l : List (List ℕ)). l ++ texts_at (paths ++ more) gain.outputs) (texts_longer paths more line.implicit_outputs parts.1) ∙ ap (λ (l : List (List ℕ)). texts_at paths line.implicit_outputs ++ l) gained.outputs.are) in
    let ei = texts_longer paths more line.explicit_inputs parts.2 in
    let ii : texts_at (paths ++ more) (line.implicit_inputs ++ gain.inputs) ≡ texts_at paths line.implicit_inputs ++ a.inputs =
    map-append (text_at (paths ++ more)) line.implicit_inputs gain.inputs ∙ (ap (λ (l : List (List ℕ)). l ++ texts_at (paths ++ more) gain.inputs) (texts_longer paths more line.implicit_inputs parts.3) ∙ ap (λ (l : List (List ℕ)). texts_at paths line.implicit_inputs ++ l) gained.inputs.are) in
    let oo = texts_longer paths more line.order_only_inputs parts.4 in
    let vs = texts_longer paths more line.validations parts.5 in
    cc

-- a line that gains nothing
pub same_line : (line : Line) → grown_line line [] [] ≡ line
same_line line =
    ap (λ (os : List ℕ). line_made line os (line.implicit_inputs ++ [])) (append-nil line.implicit_outputs) ∙ ap (λ (is : List ℕ). line_made line line.implicit_outputs is) (append-nil line.implicit_inputs)
  where
    line_made : Line → List ℕ → List ℕ → Line
    line_made l os is = record { explicit_outputs = l.explicit_outputs; implicit_outputs = os; explicit_inputs = l.explicit_inputs; implicit_inputs = is; order_only_inputs = l.order_only_inputs; validations = l.validations }

-- ---- all edges

module _ (graph : Graph) (once : IsMadeOnce (declared_by graph).edges) (file : ℕ) (low : file < length graph.manifest.paths) (additions : List Addition) (choice : ℕ → Option ℕ) (are : AreChosen graph file additions choice)
    (paths : List (List ℕ)) (more : HasMore graph.manifest.paths paths) (gains : List Gain) (gained : AreGainsIn paths additions gains) (lines : List Line) (grown : AreGrownLines graph.manifest.lines choice gains lines)
    (actions : List Action) (loaded : AreLoadedActions graph.manifest.actions choice additions actions) where
  abbrev edges : List Edge
  edges = (declared_by graph).edges

  abbrev next : List Edge
  next = edges_of paths lines actions

  abbrev name : List ℕ
  name = text_at graph.manifest.paths file

  abbrev owners : List (Option ℕ)
  owners = owners_of edges name additions

  abbrev owner : Addition → Option ℕ
  owner a = owner_in edges name a.output

  fits : length actions ≡ length lines
  fits = loaded.fits ∙ (graph.manifest.fits ∙ sym grown.fits)

  as_many : length next ≡ length edges
  as_many = length-edges paths lines actions fits ∙ (grown.fits ∙ sym (length-edges graph.manifest.paths graph.manifest.lines graph.manifest.actions graph.manifest.fits))

  old_edge : (e : ℕ) → edge_at edges (suc e) ≡ edge_of graph.manifest.paths (line_at graph.manifest.lines e) (action_at graph.manifest.actions e)
  old_edge e = edge_get graph.manifest.paths graph.manifest.lines graph.manifest.actions e graph.manifest.fits

  new_edge : (e : ℕ) → e < length graph.manifest.lines → edge_at next (suc e) ≡ edge_of (graph.manifest.paths ++ more.added) (line_with gains (line_at graph.manifest.lines e) (choice e)) (action_with additions (action_at graph.manifest.actions e) (choice e))
  new_edge e lt =
      edge_get paths lines actions e fits
      ∙ (ap (λ (l : Line). edge_of paths l (action_at actions e)) (grown.each e lt)
      ∙ (ap (λ (a : Action). edge_of paths (line_with gains (line_at graph.manifest.lines e) (choice e)) a) (loaded.each e)
      ∙ ap (λ (ps : List (List ℕ)). edge_of ps (line_with gains (line_at graph.manifest.lines e) (choice e)) (action_with additions (action_at graph.manifest.actions e) (choice e))) more.grows))

  gained_in : AreGainsIn (graph.manifest.paths ++ more.added) additions gains
  gained_in = subst (λ (ps : List (List ℕ)). AreGainsIn ps additions gains) more.grows gained

  -- the edge has a command, as it names a file
  named_edge : (e k : ℕ) → dyndep_at graph e ≡ Some file → choice e ≡ Some k → k < length additions → e < length graph.manifest.lines → edge_at next (suc e) ≡ grown_edge (edge_at edges (suc e)) (addition_at additions k)
  named_edge e k names is lt within = new_edge e within ∙ (by (action_at graph.manifest.actions e) refl ∙ ap (λ (edge : Edge). grown_edge edge (addition_at additions k)) (sym (old_edge e)))
    where
      by : (a : Action) → action_at graph.manifest.actions e ≡ a
          → edge_of (graph.manifest.paths ++ more.added) (line_with gains (line_at graph.manifest.lines e) (choice e)) (action_with additions (action_at graph.manifest.actions e) (choice e))
          ≡ grown_edge (edge_of graph.manifest.paths (line_at graph.manifest.lines e) (action_at graph.manifest.actions e)) (addition_at additions k)
      by Alias at = absurd (none_some file (sym (ap dyndep_of at) ∙ names))
      by (Command command) at =
          let line = line_at graph.manifest.lines e in
          ap (λ (o : Option ℕ). edge_of (graph.manifest.paths ++ more.added) (line_with gains line o) (action_with additions (action_at graph.manifest.actions e) o)) is
          ∙ (ap (λ (x : Action). edge_of (graph.manifest.paths ++ more.added) (line_with gains line (Some k)) (action_with additions x (Some k))) at
          ∙ (edge_grown graph.manifest.paths more.added line command (addition_at additions k) (gain_of gains (Some k)) (λ p h. let below = named_below graph.manifest e p h in omega (arith, below)) (gained_in.each k lt)
          ∙ ap (λ (x : Action). grown_edge (edge_of graph.manifest.paths line x) (addition_at additions k)) (sym at)))

  other_edge : (e : ℕ) → choice e ≡ None → e < length graph.manifest.lines → edge_at next (suc e) ≡ edge_at edges (suc e)
  other_edge e is within =
      let line = line_at graph.manifest.lines e in
      let action = action_at graph.manifest.actions e in
      new_edge e within
      ∙ (ap (λ (o : Option ℕ). edge_of (graph.manifest.paths ++ more.added) (line_with gains line o) (action_with additions action o)) is
      ∙ (ap (λ (l : Line). edge_of (graph.manifest.paths ++ more.added) l action) (same_line line)
      ∙ (edge_longer graph.manifest.paths more.added line action (λ p h. named_below graph.manifest e p h) (graph.manifest.dyndeps e) ∙ sym (old_edge e))))

  choice_of : (e : ℕ) → dyndep_at graph e ≡ Some file → e < length graph.manifest.lines → (k : ℕ) × (choice e ≡ Some k) × (k < length additions) × IsFirstOf owners k (suc e)
  choice_of e names within = by (choice e) refl (are.choices e)
    where
      by : (o : Option ℕ) → choice e ≡ o → IsChoice owners (length additions) e o → (k : ℕ) × (choice e ≡ Some k) × (k < length additions) × IsFirstOf owners k (suc e)
      by None is choice = absurd (are.each e within names is)
      by (Some k) is choice = (k, is, choice.0, choice.1)

  owner_at : (j : ℕ) (a : Addition) → slice_get additions j ≡ Some a → slice_get owners j ≡ Some (owner a)
  owner_at j a is = get_map owner additions j a is

  -- the chosen statement is the only one of its edge
  only_for : (i k : ℕ) → (edge_at edges i).dyndep ≡ Some name → k < length additions → IsFirstOf owners k i → IsOnlyFor (edge_at edges i) additions (addition_at additions k)
  only_for i k names lt first =
      let a = addition_at additions k in
      let at : slice_get additions k ≡ Some a = get_there additions k no_addition lt in
      let parts = split_of additions k a at in
      record {
        before = parts.front;
        after = parts.rest;
        splits = parts.splits;
        fits = (owner_some edges name a.output i (some_same (owner a) (Some i) (sym (owner_at k a at) ∙ first.at))).1;
        earlier = all_at (λ b. has (outputs (edge_at edges i)) b.output ≡ false) parts.front (λ j b is.
            false_from_ne_true _ (λ makes.
            let here : slice_get additions j ≡ Some b = ap (λ (l : List Addition). slice_get l j) parts.splits ∙ in_front parts.front (a ∷ parts.rest) j b is in
            let below = get_within parts.front j b is in
            first.earlier j (omega (arith, below, parts.place)) (owner_at j b here ∙ ap (λ (o : Option ℕ). Some o) (owner_is edges name b.output i once names makes))));
        later = all_at (λ b. has (outputs (edge_at edges i)) b.output ≡ false) parts.rest (λ j b is.
            false_from_ne_true _ (λ makes.
            let place : ℕ = length parts.front + suc j in
            let here : slice_get additions place ≡ Some b = ap (λ (l : List Addition). slice_get l place) parts.splits ∙ in_rest parts.front a parts.rest j b is in
            let mine : slice_get owners place ≡ Some (Some i) = owner_at place b here ∙ ap (λ (o : Option ℕ). Some o) (owner_is edges name b.output i once names makes) in
            let fit = are.all place (get_within additions place b here) in
            let same : fit.0 ≡ i = some_same fit.0 i (some_same (Some fit.0) (Some i) (sym fit.1.at ∙ mine)) in
            fit.1.earlier k (omega (arith, parts.place)) (first.at ∙ ap (λ (n : ℕ). Some (Some n)) (sym same))));
      }
    where
      in_front : (xs ys : List Addition) (j : ℕ) (x : Addition) → slice_get xs j ≡ Some x → slice_get (xs ++ ys) j ≡ Some x
      in_front [] ys zero x is = cc
      in_front [] ys (suc j) x is = cc
      in_front (z ∷ xs) ys zero x is = is
      in_front (z ∷ xs) ys (suc j) x is = in_front xs ys j x is

      in_rest : (xs : List Addition) (y : Addition) (ys : List Addition) (j : ℕ) (x : Addition) → slice_get ys j ≡ Some x → slice_get (xs ++ y ∷ ys) (length xs + suc j) ≡ Some x
      in_rest [] y ys j x is = let n : 0 + suc j ≡ suc j = omega arith in ap (λ (m : ℕ). slice_get (y ∷ ys) m) n ∙ is
      in_rest (z ∷ xs) y ys j x is = let n : suc (length xs) + suc j ≡ suc (length xs + suc j) = omega arith in ap (λ (m : ℕ). slice_get (z ∷ (xs ++ y ∷ ys)) m) n ∙ in_rest xs y ys j x is

  pub is_grown : IsGrownBy name additions edges next
  is_grown = record {
    as_many = as_many;
    named = named;
    others = others;
    fit = all_at (λ a. (i : ℕ) × ((edge_at edges i).dyndep ≡ Some name) × (has (outputs (edge_at edges i)) a.output ≡ true)) additions (λ k a at.
        let fit = are.all k (get_within additions k a at) in
        let both = owner_some edges name a.output fit.0 (some_same (owner a) (Some fit.0) (sym (owner_at k a at) ∙ fit.1.at)) in
        (fit.0, both.0, both.1));
  }
    where
      named : (i : ℕ) → (edge_at edges i).dyndep ≡ Some name → (a : Addition) × IsOnlyFor (edge_at edges i) additions a × (edge_at next i ≡ grown_edge (edge_at edges i) a)
      named zero names = absurd (none_some name names)
      named (suc e) names =
          let within = named_within graph name e names in
          let number = names_number graph e file low names in
          let choice = choice_of e number within in
          (addition_at additions choice.0, only_for (suc e) choice.0 names choice.2 choice.3, named_edge e choice.0 number choice.1 choice.2 within)

      others : (i : ℕ) → ((edge_at edges i).dyndep ≡ Some name → ⊥) → edge_at next i ≡ edge_at edges i
      others zero other = refl
      others (suc e) other = by_place (cases_lt e (length graph.manifest.lines))
        where
          by_choice : (o : Option ℕ) → choice e ≡ o → IsChoice owners (length additions) e o → e < length graph.manifest.lines → edge_at next (suc e) ≡ edge_at edges (suc e)
          by_choice None is choice within = other_edge e is within
          by_choice (Some k) is choice within =
              let one = map_get owner additions k (Some (suc e)) choice.1.at in
              absurd (other (owner_some edges name one.0.output (suc e) one.2).0)

          by_place : (e < length graph.manifest.lines) ⊎ (length graph.manifest.lines ≤ e) → edge_at next (suc e) ≡ edge_at edges (suc e)
          by_place (inl within) = by_choice (choice e) refl (are.choices e) within
          by_place (inr past) =
              let many = as_many in
              let size = length-edges graph.manifest.paths graph.manifest.lines graph.manifest.actions graph.manifest.fits in
              get_or_past next e no_edge (omega (arith, past, many, size)) ∙ sym (get_or_past edges e no_edge (omega (arith, past, size)))

-- ---- what else a graph keeps

-- the dyndep files that are still named are inputs of their edges
pub dyndeps_loaded : (graph : Graph) (additions : List Addition) (choice : ℕ → Option ℕ) (gains : List Gain) (lines : List Line) (actions : List Action) → AreGrownLines graph.manifest.lines choice gains lines
    → AreLoadedActions graph.manifest.actions choice additions actions → (e p : ℕ) → dyndep_of (action_at actions e) ≡ Some p → has_number (line_inputs (line_at lines e)) p ≡ true
dyndeps_loaded graph additions choice gains lines actions grown loaded e p names = by (choice e) refl (action_at graph.manifest.actions e) refl (sym (ap dyndep_of (loaded.each e)) ∙ names)
  where
    there : dyndep_at graph e ≡ Some p → has_number (line_inputs (line_at lines e)) p ≡ true
    there old =
        let line = line_at graph.manifest.lines e in
        let input = graph.dyndeps e p old in
        let within = line_within graph.manifest.lines e p (has_number-right (line_outputs line) (line_inputs line ++ line.validations) p (has_number-left (line_inputs line) line.validations p input)) in
        subst (λ (l : Line). has_number (line_inputs l) p ≡ true) (sym (grown.each e within)) (inputs_more line (gain_of gains (choice e)).outputs (gain_of gains (choice e)).inputs p input)

    by : (o : Option ℕ) → choice e ≡ o → (a : Action) → action_at graph.manifest.actions e ≡ a → dyndep_of (action_with additions (action_at graph.manifest.actions e) (choice e)) ≡ Some p → has_number (line_inputs (line_at lines e)) p ≡ true
    by None is a at names_it = there (sym (ap (λ (x : Option ℕ). dyndep_of (action_with additions (action_at graph.manifest.actions e) x)) is) ∙ names_it)
    by (Some k) is Alias at names_it = absurd (none_some p (sym (ap (λ (x : Option ℕ). dyndep_of (action_with additions (action_at graph.manifest.actions e) x)) is ∙ ap (λ (y : Action). dyndep_of (action_with additions y (Some k))) at) ∙ names_it))
    by (Some k) is (Command command) at names_it = absurd (none_some p (sym (ap (λ (x : Option ℕ). dyndep_of (action_with additions (action_at graph.manifest.actions e) x)) is ∙ ap (λ (y : Action). dyndep_of (action_with additions y (Some k))) at) ∙ names_it))

pub recorded_loaded : (graph : Graph) (now : Manifest) → HasMore graph.manifest.paths now.paths → length now.lines ≡ length graph.manifest.lines → AreRecorded now graph.recorded
recorded_loaded graph now more long = record {
  fits = graph.recording.fits ∙ sym long;
  within = λ e p h. let low = graph.recording.within e p h in let size = more_length graph.manifest.paths now.paths more in omega (arith, low, size);
  once = graph.recording.once;
}

pub recorded_same : (graph : Graph) (paths : List (List ℕ)) → HasMore graph.manifest.paths paths → (e : ℕ) → texts_at paths (list_at graph.recorded e) ≡ texts_at graph.manifest.paths (list_at graph.recorded e)
recorded_same graph paths more e = more_texts graph.manifest.paths paths more (list_at graph.recorded e) (within_of (length graph.manifest.paths) (list_at graph.recorded e) (graph.recording.within e))

-- two lists for each number are the same where they are for 0 and for each other number
pub by_number : (f g : ℕ → List (List ℕ)) → f 0 ≡ g 0 → ((e : ℕ) → f (suc e) ≡ g (suc e)) → (i : ℕ) → f i ≡ g i
by_number f g none some zero = none
by_number f g none some (suc e) = some e

pub defaults_same : (graph : Graph) (paths : List (List ℕ)) → HasMore graph.manifest.paths paths → texts_at paths graph.manifest.defaults ≡ texts_at graph.manifest.paths graph.manifest.defaults
defaults_same graph paths more = more_texts graph.manifest.paths paths more graph.manifest.defaults (each graph.manifest.defaults graph.manifest.known)
  where
    each : (xs : List ℕ) → ((k : ℕ) → k < length xs → get_or xs k 0 < graph.manifest.named) → AllByRecursion (λ p. p < length graph.manifest.paths) xs
    each [] low = tt
    each (x ∷ xs) low = (let first = low 0 (omega arith) in omega (arith, first, graph.manifest.names), each xs (λ k lt. low (suc k) (omega (arith, lt))))

-- ---- a file that makes a path twice

abbrev load_all : List Action → (ℕ → Option ℕ) → List Addition → List Action
load_all [] choice additions = []
load_all (a ∷ actions) choice additions = action_with additions a (choice 0) ∷ load_all actions (λ (e : ℕ). choice (suc e)) additions

loaded_length : (actions : List Action) (choice : ℕ → Option ℕ) (additions : List Addition) → length (load_all actions choice additions) ≡ length actions
loaded_length [] choice additions = refl
loaded_length (a ∷ actions) choice additions = ap suc (loaded_length actions (λ (e : ℕ). choice (suc e)) additions)

alias_stays : (additions : List Addition) (o : Option ℕ) → Alias ≡ action_with additions Alias o
alias_stays additions None = refl
alias_stays additions (Some k) = refl

loaded_each : (actions : List Action) (choice : ℕ → Option ℕ) (additions : List Addition) (e : ℕ) → action_at (load_all actions choice additions) e ≡ action_with additions (action_at actions e) (choice e)
loaded_each [] choice additions e = alias_stays additions (choice e)
loaded_each (a ∷ actions) choice additions zero = refl
loaded_each (a ∷ actions) choice additions (suc e) = loaded_each actions (λ (n : ℕ). choice (suc n)) additions e

-- what edges make does not hang on what they do
same_outputs : (paths : List (List ℕ)) (lines : List Line) (actions others : List Action) → length actions ≡ length lines → length others ≡ length lines → (i : ℕ) → outputs (edge_at (edges_of paths lines actions) i) ≡ outputs (edge_at (edges_of paths lines others) i)
same_outputs paths lines actions others whole fit zero = refl
same_outputs paths lines actions others whole fit (suc e) =
    ap outputs (edge_get paths lines actions e whole) ∙ (outputs_of paths (line_at lines e) (action_at actions e)
    ∙ (sym (outputs_of paths (line_at lines e) (action_at others e)) ∙ ap outputs (sym (edge_get paths lines others e fit))))

same_twice : (few many : List Edge) (p : List ℕ) → ((i : ℕ) → outputs (edge_at few i) ≡ outputs (edge_at many i)) → IsMadeTwice few p → IsMadeTwice many p
same_twice few many p same (inl (i, j, other, one, two)) = inl (i, j, other, subst (λ (l : List (List ℕ)). has l p ≡ true) (same i) one, subst (λ (l : List (List ℕ)). has l p ≡ true) (same j) two)
same_twice few many p same (inr (i, twice)) = inr (i, subst (λ (l : List (List ℕ)). StandsTwice l p) (same i) twice)

module _ (graph : Graph) (once : IsMadeOnce (declared_by graph).edges) (file : ℕ) (low : file < length graph.manifest.paths) (additions : List Addition) (choice : ℕ → Option ℕ) (are : AreChosen graph file additions choice) where
  remade : (p : List ℕ) → IsRemadeIn graph.manifest additions choice p → IsRemadeBy (declared_by graph).edges (text_at graph.manifest.paths file) additions p
  remade p is =
      let actions = load_all graph.manifest.actions choice additions in
      let long = loaded_length graph.manifest.actions choice additions in
      let fits : length graph.manifest.actions ≡ length is.lines = graph.manifest.fits ∙ sym is.grown.fits in
      let fit : length actions ≡ length is.lines = long ∙ fits in
      record {
        next = edges_of is.paths is.lines actions;
        grown = is_grown graph once file low additions choice are is.paths is.more is.gains is.gained is.lines is.grown actions (record { fits = long; each = loaded_each graph.manifest.actions choice additions });
        twice = same_twice (edges_of is.paths is.lines graph.manifest.actions) (edges_of is.paths is.lines actions) p (same_outputs is.paths is.lines graph.manifest.actions actions fits fit) is.twice.twice;
        first = subst (λ (l : List (List ℕ)). IsFirstRepeated l p) (all_outputs_of is.paths is.lines graph.manifest.actions fits ∙ sym (all_outputs_of is.paths is.lines actions fit)) is.twice.first;
      }

  pub refused : (fault : ExtendFault) → IsLoadFault graph.manifest additions choice fault → IsRefusedLoad graph (text_at graph.manifest.paths file) additions fault
  refused Memory is = tt
  refused (Unfit output) is = absurd is
  refused (MadeTwice p) is = remade p is
