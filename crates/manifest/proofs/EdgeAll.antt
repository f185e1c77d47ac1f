-- The edges that are expanded so far, and the build statements that are left.
use Rattle.std.proofs.Common.{◌≡◌, ℕ, zero, suc, ◌<◌, ◌≤◌, ◌+◌, length, drop, true, false, map, List, [], ◌∷◌, ◌++◌, Option, Some, None, refl, subst, sym, ap, ◌∙◌, arith, add-one, drop-cons}
use Rattle.std.specs.List.{AllZip, AllByRecursion}
use Rattle.std.specs.Map.Iter.{deref}
use Rattle.std.specs.Option.{option_map}
use Rattle.std.specs.declared.alloc.Global.{Global}
use Rattle.std.specs.declared.rc.Rc.{Rc}
use Rattle.model.specs.declared.graph.Deps.TheVariants.{Unset}
use Rattle.model.specs.declared.graph.Edge.{Edge}
use Rattle.model.specs.declared.graph.Pool.{Pool}
use Rattle.paths.specs.declared.line.Line.{Line}
use Rattle.paths.specs.declared.manifest.Action.{Action}
use Rattle.paths.specs.declared.manifest.Action.TheVariants.{Alias, Command}
use Rattle.paths.specs.declared.manifest.Command.{Command as Does}
use Rattle.paths.specs.Commands.{stop_of, dyndep_stop}
use Rattle.paths.specs.Lists.{line_at, no_line}
use Rattle.paths.specs.Told.{text_at, texts_at, edge_of, edges_of}
use Rattle.scopes.specs.Moves.{Move}
use Rattle.scopes.specs.declared.template.Rule.{Rule}
use Rattle.scopes.specs.declared.usage.Paths.{Paths}
use Rattle.manifest.specs.declared.fault.ReadError.{ReadError}
use Rattle.manifest.specs.declared.kept.ReadEdge.{ReadEdge}
use Rattle.manifest.specs.declared.values.Values.{Values}
use Rattle.manifest.specs.Answer.{IsFaultOf}
use Rattle.manifest.specs.Edges.{OfEdge, OfEdges, ValuesOf, ValuesOfRule, CommandValues, IsEdgeOf}
use Rattle.manifest.specs.Held.{IsBuildOf, IsLineFor, ShowsPaths, kept_of}
use Rattle.manifest.specs.InNumbers.{IsLonger, IsWithin, paths_at}
use Rattle.manifest.specs.Readings.{Outcome}
use Rattle.manifest.specs.Readings.Outcome.{Reached, Broken}
use Rattle.manifest.specs.Readings.Then.{goes_on}
use Rattle.manifest.specs.Readings.Where.{with_value}
use Rattle.manifest.specs.Spelled.{EdgePaths}
use Rattle.manifest.specs.States.{Build}
use Rattle.manifest.proofs.Added.{text_stays, paths_stay, within_stays}
use Rattle.manifest.proofs.Binds.{then_fault, fault_in_wider}
use Rattle.manifest.proofs.OwnOutputs.{grow_lines}

-- the rule that is kept is that of the statement
pub rule_is : (build : Build) (kept : Option (Rc Rule Global)) (rule : Rc Rule Global) (shown : Rule)
    → option_map (λ (k : Rc Rule Global). k.value) kept ≡ build.rule → kept ≡ Some rule → shown ≡ rule.value → build.rule ≡ Some shown
rule_is build kept rule shown same is of_rule = sym same ∙ (ap (option_map (λ (k : Rc Rule Global). k.value)) is ∙ ap (λ (k : Rule). Some k) (sym of_rule))

pub no_rule : (build : Build) (kept : Option (Rc Rule Global)) → option_map (λ (k : Rc Rule Global). k.value) kept ≡ build.rule → kept ≡ None → build.rule ≡ None
no_rule build kept same is = sym same ∙ ap (option_map (λ (k : Rc Rule Global). k.value)) is

-- ---- one edge

abbrev alias_of : EdgePaths → Edge
alias_of paths = record {
  explicit_outputs = paths.explicit_outputs;
  implicit_outputs = paths.implicit_outputs;
  explicit_inputs = paths.explicit_inputs;
  implicit_inputs = paths.implicit_inputs;
  order_only_inputs = paths.order_only_inputs;
  validations = paths.validations;
  act = record { command = []; depfile = []; response_path = []; response_content = [] };
  description = [];
  deps = Unset;
  restat = false;
  pool = None;
  dyndep = None;
  phony = true;
}

abbrev command_edge : Does → EdgePaths → Option (List ℕ) → Edge
command_edge command paths dyndep = record {
  explicit_outputs = paths.explicit_outputs;
  implicit_outputs = paths.implicit_outputs;
  explicit_inputs = paths.explicit_inputs;
  implicit_inputs = paths.implicit_inputs;
  order_only_inputs = paths.order_only_inputs;
  validations = paths.validations;
  act = command.act;
  description = command.description;
  deps = command.deps;
  restat = command.restat;
  pool = command.pool;
  dyndep = dyndep;
  phony = false;
}

module _ (past : List Move) (said : List Pool) (build : Build) (table : List (List ℕ)) (line : Line) (for : IsLineFor table build line) where
  pub alias_made : build.rule ≡ None → OfEdge past said build (Reached (edge_of table line Alias))
  alias_made none = goes_on (subst (λ (rule : Option Rule). ValuesOfRule past said build rule (Reached None)) (sym none) refl)
      (with_value (ap alias_of (for.paths ∙ ap (λ (rule : Option Rule). kept_of rule build.paths) none)) refl)

  module _ (rule : Rule) (some : build.rule ≡ Some rule) where
    line_paths : paths_at table line ≡ build.paths
    line_paths = for.paths ∙ ap (λ (r : Option Rule). kept_of r build.paths) some

    pub shows : (plain : Paths) → map deref plain.inputs.now ≡ texts_at table line.explicit_inputs → map deref plain.outputs.now ≡ texts_at table line.explicit_outputs → ShowsPaths plain build
    shows plain inputs outputs = record {
      inputs = inputs ∙ ap (λ (p : EdgePaths). p.explicit_inputs) line_paths;
      outputs = outputs ∙ ap (λ (p : EdgePaths). p.explicit_outputs) line_paths;
    }

    pub values_fault : (error : ReadError) → IsFaultOf (CommandValues past said build rule) error → IsFaultOf (OfEdge past said build) error
    values_fault error is =
        then_fault (ValuesOf past said build) _ error
        (subst (λ (r : Option Rule). IsFaultOf (ValuesOfRule past said build r) error) (sym some) (then_fault (CommandValues past said build rule) _ error is))

    pub command_made : (new : List (List ℕ)) (values : Values) (command : Does) → IsLonger table new → CommandValues past said build rule (Reached values)
        → IsEdgeOf (paths_at new line) values (edge_of new line (Command command)) → OfEdge past said build (Reached (edge_of new line (Command command)))
    command_made new values command longer reading is =
        goes_on (subst (λ (r : Option Rule). ValuesOfRule past said build r (Reached (Some values))) (sym some) (goes_on reading refl))
        (with_value (subst (λ (p : EdgePaths). IsEdgeOf p values (edge_of new line (Command command))) (paths_stay table new line longer for.within ∙ line_paths) is) refl)

-- ---- edges in a table that grows

dyndep_stays : (old new : List (List ℕ)) (number : Option ℕ) → IsLonger old new → stop_of number ≤ length old → option_map (text_at new) number ≡ option_map (text_at old) number
dyndep_stays old new None longer low = refl
dyndep_stays old new (Some number) longer low = ap (λ (p : List ℕ). Some p) (text_stays old new number longer (omega arith))

edge_stays : (old new : List (List ℕ)) (line : Line) (action : Action) → IsLonger old new → IsWithin old line → dyndep_stop action ≤ length old → edge_of new line action ≡ edge_of old line action
edge_stays old new line Alias longer within low = ap alias_of (paths_stay old new line longer within)
edge_stays old new line (Command command) longer within low =
    ap (λ (p : EdgePaths). command_edge command p (option_map (text_at new) command.dyndep)) (paths_stay old new line longer within)
    ∙ ap (command_edge command (paths_at old line)) (dyndep_stays old new command.dyndep longer low)

edges_stay : (old new : List (List ℕ)) (lines : List Line) (actions : List Action) → IsLonger old new → AllByRecursion (IsWithin old) lines
    → AllByRecursion (λ (action : Action). dyndep_stop action ≤ length old) actions → edges_of new lines actions ≡ edges_of old lines actions
edges_stay old new [] actions longer within low = refl
edges_stay old new (line ∷ lines) [] longer within low = refl
edges_stay old new (line ∷ lines) (action ∷ actions) longer within low =
    let here = edge_stays old new line action longer within.0 low.0 in
    let rest = edges_stay old new lines actions longer within.1 low.1 in
    rw (here, rest) refl

edges_push : (table : List (List ℕ)) (lines : List Line) (done : List Action) (action : Action) → length done < length lines
    → edges_of table lines (done ++ action ∷ []) ≡ edges_of table lines done ++ edge_of table (line_at lines (length done)) action ∷ []
edges_push table [] done action low = absurd (omega arith)
edges_push table (line ∷ []) [] action low = refl
edges_push table (line ∷ next ∷ lines) [] action low = refl
edges_push table (line ∷ lines) (first ∷ done) action low = ap (λ (l : List Edge). edge_of table line first ∷ l) (edges_push table lines done action (omega arith))

-- one more edge, where the table may have grown
pub edges_more : (old new : List (List ℕ)) (lines : List Line) (done after : List Action) (action : Action) → IsLonger old new → AllByRecursion (IsWithin old) lines
    → AllByRecursion (λ (a : Action). dyndep_stop a ≤ length old) done → length done < length lines → after ≡ done ++ action ∷ []
    → edges_of new lines after ≡ edges_of old lines done ++ edge_of new (line_at lines (length done)) action ∷ []
edges_more old new lines done after action longer within low count pushed =
    ap (edges_of new lines) pushed ∙ (edges_push new lines done action count
    ∙ ap (λ (l : List Edge). l ++ edge_of new (line_at lines (length done)) action ∷ []) (edges_stay old new lines done longer within low))

pub within_all : (old new : List (List ℕ)) (lines : List Line) → IsLonger old new → AllByRecursion (IsWithin old) lines → AllByRecursion (IsWithin new) lines
within_all old new [] longer all = tt
within_all old new (line ∷ lines) longer all = (within_stays old new line longer all.0, within_all old new lines longer all.1)

pub within_at : (table : List (List ℕ)) (lines : List Line) (i : ℕ) → i < length lines → AllByRecursion (IsWithin table) lines → IsWithin table (line_at lines i)
within_at table [] i low all = absurd (omega arith)
within_at table (line ∷ lines) zero low all = all.0
within_at table (line ∷ lines) (suc i) low all = within_at table lines i (omega arith) all.1

pub dyndeps_more : (old new : ℕ) (done after : List Action) (action : Action) → old ≤ new → after ≡ done ++ action ∷ [] → dyndep_stop action ≤ new
    → AllByRecursion (λ (a : Action). dyndep_stop a ≤ old) done → AllByRecursion (λ (a : Action). dyndep_stop a ≤ new) after
dyndeps_more old new done after action more pushed low all = subst (AllByRecursion (λ (a : Action). dyndep_stop a ≤ new)) (sym pushed) (by done all)
  where
    by : (xs : List Action) → AllByRecursion (λ (a : Action). dyndep_stop a ≤ old) xs → AllByRecursion (λ (a : Action). dyndep_stop a ≤ new) (xs ++ action ∷ [])
    by [] all = (low, tt)
    by (x ∷ xs) all = let h : dyndep_stop x ≤ old = all.0 in (omega arith, by xs all.1)

-- ---- the edges so far

-- what the statements that are left give behind these edges, all of them give
pub record Goes (past : List Move) (said : List Pool) (builds : List Build) (table : List (List ℕ)) (left : List ReadEdge) (lines : List Line) (done : List Edge) : Type 0 where
  pub rest : List Build
  pub kept : AllZip IsBuildOf left rest
  pub named : AllZip (IsLineFor table) rest lines
  pub whole : (outcome : Outcome (List Edge)) → OfEdges past said rest done outcome → OfEdges past said builds [] outcome

module _ (past : List Move) (said : List Pool) (builds : List Build) (table : List (List ℕ)) where
  pub goes_first : (read : List ReadEdge) (lines : List Line) → AllZip IsBuildOf read builds → AllZip (IsLineFor table) builds lines → Goes past said builds table read lines []
  goes_first read lines all named = record { rest = builds; kept = all; named = named; whole = λ outcome is. is }

  module _ (edge : ReadEdge) (next : List ReadEdge) (line : Line) (lines : List Line) where
    on : (new : List (List ℕ)) (done : List Edge) (e : Edge) → IsLonger table new → ((build : Build) → IsBuildOf edge build → IsLineFor table build line → OfEdge past said build (Reached e))
        → (rest : List Build) → AllZip IsBuildOf (edge ∷ next) rest → AllZip (IsLineFor table) rest (line ∷ lines)
        → ((outcome : Outcome (List Edge)) → OfEdges past said rest done outcome → OfEdges past said builds [] outcome) → Goes past said builds new next lines (done ++ e ∷ [])
    on new done e longer given [] kept named whole = absurd kept
    on new done e longer given (build ∷ rest) kept named whole = record {
      rest = rest;
      kept = kept.1;
      named = grow_lines table new rest lines longer named.1;
      whole = λ outcome is. whole outcome (goes_on (given build kept.0 named.0) is);
    }

    stuck : (done : List Edge) (error : ReadError) → ((build : Build) → IsBuildOf edge build → IsLineFor table build line → IsFaultOf (OfEdge past said build) error)
        → (rest : List Build) → AllZip IsBuildOf (edge ∷ next) rest → AllZip (IsLineFor table) rest (line ∷ lines)
        → ((outcome : Outcome (List Edge)) → OfEdges past said rest done outcome → OfEdges past said builds [] outcome) → IsFaultOf (OfEdges past said builds []) error
    stuck done error told [] kept named whole = absurd kept
    stuck done error told (build ∷ rest) kept named whole =
        fault_in_wider (OfEdges past said (build ∷ rest) done) (OfEdges past said builds []) error (λ fault. whole (Broken fault)) (then_fault _ _ error (told build kept.0 named.0))

  module _ (left : List ReadEdge) (edge : ReadEdge) (next : List ReadEdge) (all : List Line) (i : ℕ) (low : i < length all) (step : left ≡ edge ∷ next) where
    lines_step : drop i all ≡ line_at all i ∷ drop (i + 1) all
    lines_step = drop-cons all i no_line low ∙ rw add-one refl

    -- the next is expanded
    pub goes_next : (new : List (List ℕ)) (done after : List Edge) (count : ℕ) (e : Edge) → IsLonger table new → after ≡ done ++ e ∷ [] → count ≡ i + 1
        → ((build : Build) → IsBuildOf edge build → IsLineFor table build (line_at all i) → OfEdge past said build (Reached e))
        → Goes past said builds table left (drop i all) done → Goes past said builds new next (drop count all) after
    goes_next new done after count e longer pushed counted given goes =
        rw (pushed, counted) (on edge next (line_at all i) (drop (i + 1) all) new done e longer given goes.rest (subst (λ (l : List ReadEdge). AllZip IsBuildOf l goes.rest) step goes.kept)
        (subst (λ (l : List Line). AllZip (IsLineFor table) goes.rest l) lines_step goes.named) goes.whole)

    -- the next is refused
    pub goes_wrong : (done : List Edge) (error : ReadError) → ((build : Build) → IsBuildOf edge build → IsLineFor table build (line_at all i) → IsFaultOf (OfEdge past said build) error)
        → Goes past said builds table left (drop i all) done → IsFaultOf (OfEdges past said builds []) error
    goes_wrong done error told goes =
        stuck edge next (line_at all i) (drop (i + 1) all) done error told goes.rest (subst (λ (l : List ReadEdge). AllZip IsBuildOf l goes.rest) step goes.kept)
        (subst (λ (l : List Line). AllZip (IsLineFor table) goes.rest l) lines_step goes.named) goes.whole

  last : (done : List Edge) (rest : List Build) → AllZip IsBuildOf [] rest → OfEdges past said rest done (Reached done)
  last done [] all = refl
  last done (build ∷ rest) all = absurd all

  -- nothing is left
  pub goes_all : (left : List ReadEdge) (lines : List Line) (done : List Edge) → left ≡ [] → Goes past said builds table left lines done → OfEdges past said builds [] (Reached done)
  goes_all left lines done none goes = goes.whole (Reached done) (last done goes.rest (subst (λ (l : List ReadEdge). AllZip IsBuildOf l goes.rest) none goes.kept))

pub none_left : {X : Type 0} (xs : List X) → length xs ≡ 0 → xs ≡ []
none_left [] h = refl
none_left (x ∷ xs) h = cc

edges_none : (table : List (List ℕ)) (lines : List Line) → edges_of table lines [] ≡ []
edges_none table [] = refl
edges_none table (line ∷ lines) = refl

pub goes_begin : (past : List Move) (said : List Pool) (builds : List Build) (table : List (List ℕ)) (read left : List ReadEdge) (lines : List Line) (actions : List Action) → left ≡ read → actions ≡ []
    → AllZip IsBuildOf read builds → AllZip (IsLineFor table) builds lines → Goes past said builds table left (drop (length actions) lines) (edges_of table lines actions)
goes_begin past said builds table read left lines actions same none all named =
    subst (λ (l : List ReadEdge). Goes past said builds table l (drop (length actions) lines) (edges_of table lines actions)) (sym same)
    (subst (λ (a : List Action). Goes past said builds table read (drop (length a) lines) (edges_of table lines a)) (sym none)
    (subst (λ (e : List Edge). Goes past said builds table read lines e) (sym (edges_none table lines)) (goes_first past said builds table read lines all named)))
