-- The edge of a build statement, when all is read (manual: "Rule variables", "The `phony` rule", "Pools", "deps").
use Rattle.std.specs.Prelude.{◌≡◌, ℕ, ◌||◌, ◌&&◌, not, Bool, true, false, if◌then◌else◌, List, [], ◌∷◌, ◌++◌, filter, Option, None, Some, bytes_eq, codes}
use Rattle.lexer.specs.declared.fault.FaultKind.TheVariants.{TooLarge}
use Rattle.lexer.specs.Path.{IsCanonical}
use Rattle.model.specs.declared.graph.Deps.TheVariants.{Unset, Gcc}
use Rattle.model.specs.declared.graph.Edge.{Edge}
use Rattle.model.specs.declared.graph.Pool.{Pool}
use Rattle.model.specs.Graph.{has, console}
use Rattle.scopes.specs.declared.template.Rule.{Rule}
use Rattle.scopes.specs.Moves.{Move}
use Rattle.manifest.specs.declared.fault.FaultKind.TheVariants.{Line, UnknownPool, Circle, UnknownDeps}
use Rattle.manifest.specs.Spelled.{EdgePaths}
use Rattle.manifest.specs.declared.values.Values.{Values}
use Rattle.manifest.specs.Readings.{Reading, Give, Unless, Then, Where, fault_at}
use Rattle.manifest.specs.Expansion.{is_empty}
use Rattle.manifest.specs.States.{Build, is_pool}
use Rattle.manifest.specs.Uses.{opened_in, LeadsIntoCircle, HasLargeValue, AreValuesOf}

-- ---- a phony

abbrev pub outputs_of : EdgePaths → List (List ℕ)
outputs_of paths = paths.explicit_outputs ++ paths.implicit_outputs

-- an input that is an output of the same statement is dropped (this project's own)
abbrev pub without : List (List ℕ) → List (List ℕ) → List (List ℕ)
without outputs paths = filter (λ path. not (has outputs path)) paths

abbrev pub phony_edge : EdgePaths → Edge
phony_edge paths = record {
  explicit_outputs = paths.explicit_outputs;
  implicit_outputs = paths.implicit_outputs;
  explicit_inputs = without (outputs_of paths) paths.explicit_inputs;
  implicit_inputs = without (outputs_of paths) paths.implicit_inputs;
  order_only_inputs = without (outputs_of paths) paths.order_only_inputs;
  validations = paths.validations;
  act = record { command = []; depfile = []; response_path = []; response_content = [] };
  description = [];
  deps = Unset;
  restat = false;
  pool = None;
  dyndep = None;
  phony = true;
}

-- ---- an edge with a command

-- a path that expands to nothing is none
abbrev pub IsPathOrNone : List ℕ → List ℕ → Type 0
IsPathOrNone [] path = path ≡ []
IsPathOrNone (b ∷ bytes) path = IsCanonical (b ∷ bytes) path

abbrev pub IsFileOrNone : List ℕ → Option (List ℕ) → Type 0
IsFileOrNone [] file = file ≡ None
IsFileOrNone (b ∷ bytes) None = ⊥
IsFileOrNone (b ∷ bytes) (Some file) = IsCanonical (b ∷ bytes) file

abbrev pub some_text : List ℕ → Option (List ℕ)
some_text [] = None
some_text (b ∷ bytes) = Some (b ∷ bytes)

abbrev pub is_gcc : List ℕ → Bool
is_gcc text = bytes_eq text (codes "gcc")

pub record IsEdgeOf (paths : EdgePaths) (values : Values) (edge : Edge) : Type 0 where
  pub explicit_outputs : edge.explicit_outputs ≡ paths.explicit_outputs
  pub implicit_outputs : edge.implicit_outputs ≡ paths.implicit_outputs
  pub explicit_inputs : edge.explicit_inputs ≡ paths.explicit_inputs
  pub implicit_inputs : edge.implicit_inputs ≡ paths.implicit_inputs
  pub order_only_inputs : edge.order_only_inputs ≡ paths.order_only_inputs
  pub validations : edge.validations ≡ paths.validations
  pub command : edge.act.command ≡ values.command
  pub depfile : IsPathOrNone values.depfile edge.act.depfile
  pub response_path : IsPathOrNone values.rspfile edge.act.response_path
  pub response_content : edge.act.response_content ≡ values.rspfile_content
  pub description : edge.description ≡ values.description
  pub deps : edge.deps ≡ (if is_gcc values.deps then Gcc else Unset)
  pub restat : edge.restat ≡ not (is_empty values.restat)
  pub pool : edge.pool ≡ some_text values.pool
  pub dyndep : IsFileOrNone values.dyndep edge.dyndep
  pub phony : edge.phony ≡ false

-- a pool is named that was declared nowhere
abbrev pub is_unknown_pool : List Pool → List ℕ → Bool
is_unknown_pool pools name = not (is_empty name || (bytes_eq name console || is_pool pools name))

-- neither nothing nor `gcc`, or `gcc` without a depfile
abbrev pub is_unknown_deps : Values → Bool
is_unknown_deps values = not (is_empty values.deps) && (not (is_gcc values.deps) || is_empty values.depfile)

-- a circle goes before a value that is too large
abbrev pub ExpandedValues : List Move → Build → Rule → Reading Values
ExpandedValues past build rule =
    Unless (LeadsIntoCircle (opened_in build rule)) (fault_at build.place (Circle build.rule_name))
    (Unless (HasLargeValue build rule past) (fault_at build.place (Line TooLarge))
    (Where (AreValuesOf build rule past) (λ (values : Values). Give values)))

abbrev pub CheckedPool : List Pool → Build → Values → Reading (Unit {0})
CheckedPool pools build values = Unless (is_unknown_pool pools values.pool ≡ true) (fault_at build.place (UnknownPool values.pool)) (Give tt)

abbrev pub CheckedDeps : Build → Values → Reading (Unit {0})
CheckedDeps build values = Unless (is_unknown_deps values ≡ true) (fault_at build.place (UnknownDeps values.deps)) (Give tt)

abbrev pub CommandValues : List Move → List Pool → Build → Rule → Reading Values
CommandValues past pools build rule =
    Then (ExpandedValues past build rule) (λ (values : Values).
    Then (CheckedPool pools build values) (λ _. Then (CheckedDeps build values) (λ _. Give values)))

-- the values of a rule; a phony has none
abbrev pub ValuesOfRule : List Move → List Pool → Build → Option Rule → Reading (Option Values)
ValuesOfRule past pools build None = Give None
ValuesOfRule past pools build (Some rule) = Then (CommandValues past pools build rule) (λ (values : Values). Give (Some values))

abbrev pub ValuesOf : List Move → List Pool → Build → Reading (Option Values)
ValuesOf past pools build = ValuesOfRule past pools build build.rule

abbrev pub IsEdgeFor : EdgePaths → Option Values → Edge → Type 0
IsEdgeFor paths None edge = edge ≡ phony_edge paths
IsEdgeFor paths (Some values) edge = IsEdgeOf paths values edge

abbrev pub OfEdge : List Move → List Pool → Build → Reading Edge
OfEdge past pools build =
    Then (ValuesOf past pools build) (λ (values : Option Values). Where (IsEdgeFor build.paths values) (λ (edge : Edge). Give edge))

-- the edges, behind these
abbrev pub OfEdges : List Move → List Pool → List Build → List Edge → Reading (List Edge)
OfEdges past pools [] before = Give before
OfEdges past pools (build ∷ builds) before = Then (OfEdge past pools build) (λ edge. OfEdges past pools builds (before ++ edge ∷ []))
