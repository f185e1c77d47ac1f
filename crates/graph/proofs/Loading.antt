-- A manifest with what a dyndep file says.
use Rattle.std.proofs.Common.{◌≡◌, ◌⊎◌, inl, inr, ℕ, ◌<◌, ◌≤◌, true, List, [], ◌∷◌, ◌++◌, Option, Some, None, length, get_or, refl, sym, ◌∙◌, ap, subst, arith, append_assoc}
use Rattle.std.proofs.lemmas.Bool.{cases_lt, false≢true}
use Rattle.std.proofs.lemmas.List.{get_or_past}
use Rattle.model.specs.declared.graph.Edge.{Edge}
use Rattle.model.specs.Graph.{has_number, outputs, all_outputs, Addition}
use Rattle.theory.proofs.Lists.{has_number-left, has_number-right, has_number-cases}
use Rattle.paths.specs.declared.line.Line.{Line}
use Rattle.paths.specs.declared.manifest.Action.{Action}
use Rattle.paths.specs.declared.manifest.Action.TheVariants.{Alias, Command}
use Rattle.paths.specs.declared.manifest.Manifest.{Manifest}
use Rattle.paths.specs.Lists.{no_line, line_at, line_outputs, line_regular_inputs, line_inputs, line_paths, all_paths, grown_line}
use Rattle.paths.specs.Commands.{no_action, dyndep_stop}
use Rattle.paths.specs.Told.{graph_of}
use Rattle.graph.specs.declared.fault.ExtendFault.{ExtendFault}
use Rattle.graph.specs.declared.fault.ExtendFault.TheVariants.{Memory, Unfit, MadeTwice}
use Rattle.graph.specs.declared.fault.GraphFault.{GraphFault}
use Rattle.graph.specs.declared.fault.GraphFault.TheVariants.{Memory as MemoryFault, MadeTwice as MadeTwiceFault, NoDyndepInput as NoDyndepInputFault, Occupied as OccupiedFault}
use Rattle.graph.specs.declared.loaded.Gain.{Gain}
use Rattle.graph.specs.Making.{IsMakingFault}
use Rattle.graph.specs.Statements.{HasMore, AreGainsIn, gain_of, AreGrownLines, AreChoicesBelow, action_at, action_with, AreLoadedActions, IsMadeTwiceIn, IsLoadFault, IsFaultIn, IsPartsFault, extend_fault_of}
use Rattle.graph.proofs.Asked.{flat_has}
use Rattle.graph.proofs.Gaining.{more_length}
use Rattle.graph.proofs.Makes.{in_all}

-- ---- lines with more

more_behind : (xs ys zs : List ℕ) (p : ℕ) → has_number (xs ++ ys) p ≡ true → has_number (xs ++ (ys ++ zs)) p ≡ true
more_behind xs ys zs p h = elim (has_number-cases xs ys p h) [
  | inl first ↦ has_number-left xs (ys ++ zs) p first
  | inr second ↦ has_number-right xs (ys ++ zs) p (has_number-left ys zs p second)
]

less_behind : (xs ys zs : List ℕ) (p : ℕ) → has_number (xs ++ (ys ++ zs)) p ≡ true → (has_number (xs ++ ys) p ≡ true) ⊎ (has_number zs p ≡ true)
less_behind xs ys zs p h = elim (has_number-cases xs (ys ++ zs) p h) [
  | inl first ↦ inl (has_number-left xs ys p first)
  | inr rest ↦ elim (has_number-cases ys zs p rest) [
    | inl second ↦ inl (has_number-right xs ys p second)
    | inr third ↦ inr third
  ]
]

module _ (line : Line) (outs ins : List ℕ) (p : ℕ) where
  pub outputs_more : has_number (line_outputs line) p ≡ true → has_number (line_outputs (grown_line line outs ins)) p ≡ true
  outputs_more h = more_behind line.explicit_outputs line.implicit_outputs outs p h

  pub inputs_more : has_number (line_inputs line) p ≡ true → has_number (line_inputs (grown_line line outs ins)) p ≡ true
  inputs_more h = elim (has_number-cases (line_regular_inputs line) line.order_only_inputs p h) [
    | inl regular ↦ has_number-left (line_regular_inputs (grown_line line outs ins)) line.order_only_inputs p (more_behind line.explicit_inputs line.implicit_inputs ins p regular)
    | inr rest ↦ has_number-right (line_regular_inputs (grown_line line outs ins)) line.order_only_inputs p rest
  ]

  pub paths_more : has_number (line_paths line) p ≡ true → has_number (line_paths (grown_line line outs ins)) p ≡ true
  paths_more h = elim (has_number-cases (line_outputs line) (line_inputs line ++ line.validations) p h) [
    | inl made ↦ has_number-left (line_outputs (grown_line line outs ins)) (line_inputs (grown_line line outs ins) ++ line.validations) p (outputs_more made)
    | inr rest ↦ has_number-right (line_outputs (grown_line line outs ins)) (line_inputs (grown_line line outs ins) ++ line.validations) p (elim (has_number-cases (line_inputs line) line.validations p rest) [
      | inl needed ↦ has_number-left (line_inputs (grown_line line outs ins)) line.validations p (inputs_more needed)
      | inr named ↦ has_number-right (line_inputs (grown_line line outs ins)) line.validations p named
    ])
  ]

  inputs_less : has_number (line_inputs (grown_line line outs ins)) p ≡ true → (has_number (line_inputs line) p ≡ true) ⊎ (has_number ins p ≡ true)
  inputs_less h = elim (has_number-cases (line_regular_inputs (grown_line line outs ins)) line.order_only_inputs p h) [
    | inl regular ↦ elim (less_behind line.explicit_inputs line.implicit_inputs ins p regular) [
      | inl old ↦ inl (has_number-left (line_regular_inputs line) line.order_only_inputs p old)
      | inr new ↦ inr new
    ]
    | inr rest ↦ inl (has_number-right (line_regular_inputs line) line.order_only_inputs p rest)
  ]

  pub paths_less : has_number (line_paths (grown_line line outs ins)) p ≡ true → (has_number (line_paths line) p ≡ true) ⊎ ((has_number outs p ≡ true) ⊎ (has_number ins p ≡ true))
  paths_less h = elim (has_number-cases (line_outputs (grown_line line outs ins)) (line_inputs (grown_line line outs ins) ++ line.validations) p h) [
    | inl made ↦ elim (less_behind line.explicit_outputs line.implicit_outputs outs p made) [
      | inl old ↦ inl (has_number-left (line_outputs line) (line_inputs line ++ line.validations) p old)
      | inr new ↦ inr (inl new)
    ]
    | inr rest ↦ elim (has_number-cases (line_inputs (grown_line line outs ins)) line.validations p rest) [
      | inl needed ↦ elim (inputs_less needed) [
        | inl old ↦ inl (has_number-right (line_outputs line) (line_inputs line ++ line.validations) p (has_number-left (line_inputs line) line.validations p old))
        | inr new ↦ inr (inr new)
      ]
      | inr named ↦ inl (has_number-right (line_outputs line) (line_inputs line ++ line.validations) p (has_number-right (line_inputs line) line.validations p named))
    ]
  ]

pub line_within : (lines : List Line) (e p : ℕ) → has_number (line_paths (line_at lines e)) p ≡ true → e < length lines
line_within lines e p h = elim (cases_lt e (length lines)) [
  | inl low ↦ low
  | inr past ↦ absurd (false≢true (sym (ap (λ (l : Line). has_number (line_paths l) p) (get_or_past lines e no_line past)) ∙ h))
]

-- ---- the manifest

module _ (manifest : Manifest) (paths : List (List ℕ)) (more : HasMore manifest.paths paths) (additions : List Addition) (gains : List Gain) (gained : AreGainsIn paths additions gains)
    (choice : ℕ → Option ℕ) (below : AreChoicesBelow (length additions) choice) (lines : List Line) (grown : AreGrownLines manifest.lines choice gains lines) where
  pub gain_within : (o : Option ℕ) → ((k : ℕ) → o ≡ Some k → k < length additions) → (p : ℕ) → (has_number (gain_of gains o).outputs p ≡ true) ⊎ (has_number (gain_of gains o).inputs p ≡ true) → p < length paths
  gain_within None low p (inl h) = absurd (false≢true h)
  gain_within None low p (inr h) = absurd (false≢true h)
  gain_within (Some k) low p (inl h) = (gained.each k (low k refl)).outputs.within p h
  gain_within (Some k) low p (inr h) = (gained.each k (low k refl)).inputs.within p h

  pub lines_numbered : (p : ℕ) → p < manifest.named → has_number (all_paths lines) p ≡ true
  lines_numbered p low =
      let at = flat_has line_paths manifest.lines p (manifest.numbered p low) in
      let here = line_within manifest.lines at.0 p at.1 in
      in_all lines at.0 p (subst (λ (l : Line). has_number (line_paths l) p ≡ true) (sym (grown.each at.0 here))
      (paths_more (line_at manifest.lines at.0) (gain_of gains (choice at.0)).outputs (gain_of gains (choice at.0)).inputs p at.1))

  pub lines_within : (p : ℕ) → has_number (all_paths lines) p ≡ true → p < length paths
  lines_within p h =
      let at = flat_has line_paths lines p h in
      let here = line_within lines at.0 p at.1 in
      let is = grown.each at.0 (omega (arith, here, grown.fits)) in
      let long = more_length manifest.paths paths more in
      elim (paths_less (line_at manifest.lines at.0) (gain_of gains (choice at.0)).outputs (gain_of gains (choice at.0)).inputs p (subst (λ (l : Line). has_number (line_paths l) p ≡ true) is at.1)) [
        | inl old ↦ let low = manifest.within p (in_all manifest.lines at.0 p old) in omega (arith, low, long)
        | inr new ↦ gain_within (choice at.0) (below at.0) p new
      ]

  pub stops_more : (k : ℕ) → dyndep_stop (get_or manifest.actions k no_action) ≤ length paths
  stops_more k = let low = manifest.dyndeps k in let long = more_length manifest.paths paths more in omega (arith, low, long)

  -- the dyndep files that are still named are inputs of their edges
  module _ (actions : List Action) (loaded : AreLoadedActions manifest.actions choice additions actions) where
    pub stops_loaded : (k : ℕ) → dyndep_stop (get_or actions k no_action) ≤ length paths
    stops_loaded k = subst (λ (a : Action). dyndep_stop a ≤ length paths) (sym (loaded.each k)) (by (action_at manifest.actions k) (choice k) (stops_more k))
      where
        by : (a : Action) (o : Option ℕ) → dyndep_stop a ≤ length paths → dyndep_stop (action_with additions a o) ≤ length paths
        by a None low = low
        by Alias (Some j) low = omega arith
        by (Command command) (Some j) low = omega arith

-- ---- why there are no makers

outputs_behind : (before : List Edge) (edge : Edge) (after : List Edge) → all_outputs (before ++ edge ∷ after) ≡ (all_outputs before ++ outputs edge) ++ all_outputs after
outputs_behind [] edge after = refl
outputs_behind (e ∷ before) edge after =
    ap (λ (l : List (List ℕ)). outputs e ++ l) (outputs_behind before edge after)
    ∙ (sym (append_assoc (outputs e) (all_outputs before ++ outputs edge) (all_outputs after))
    ∙ ap (λ (l : List (List ℕ)). l ++ all_outputs after) (sym (append_assoc (outputs e) (all_outputs before) (outputs edge))))

pub made_twice_in : (manifest : Manifest) (count : ℕ) (p : List ℕ) → IsMakingFault (graph_of manifest).edges count (MadeTwiceFault p) → IsMadeTwiceIn manifest.paths manifest.lines manifest.actions p
made_twice_in manifest count p fault =
    let first = fault.1.2 in
    record {
      twice = fault.0;
      first = record {
        before = first.faulty.before;
        after = first.faulty.after ++ all_outputs first.after;
        splits = ap all_outputs first.splits ∙ (outputs_behind first.before first.edge first.after
            ∙ (ap (λ (l : List (List ℕ)). l ++ all_outputs first.after) first.faulty.splits ∙ append_assoc first.faulty.before (p ∷ first.faulty.after) (all_outputs first.after)));
        earlier = first.faulty.earlier;
        distinct = first.faulty.distinct;
      };
    }

pub parts_fault : (manifest : Manifest) (count : ℕ) (fault : GraphFault) → IsMakingFault (graph_of manifest).edges count fault → IsPartsFault manifest (extend_fault_of fault)
parts_fault manifest count MemoryFault is = tt
parts_fault manifest count (MadeTwiceFault p) is = made_twice_in manifest count p is
parts_fault manifest count (NoDyndepInputFault p) is = tt
parts_fault manifest count (OccupiedFault occupied) is = tt

-- ---- why edges do not get what they gain

pub load_fault : (old : Manifest) (additions : List Addition) (choice : ℕ → Option ℕ) (gains : List Gain) (paths : List (List ℕ)) (lines : List Line) (fault : ExtendFault) → IsFaultIn paths lines old.actions fault → HasMore old.paths paths
    → AreGainsIn paths additions gains → AreGrownLines old.lines choice gains lines → IsLoadFault old additions choice fault
load_fault old additions choice gains paths lines Memory is more gained grown = tt
load_fault old additions choice gains paths lines (Unfit output) is more gained grown = is
load_fault old additions choice gains paths lines (MadeTwice p) is more gained grown = record { paths = paths; more = more; gains = gains; gained = gained; lines = lines; grown = grown; twice = is }
