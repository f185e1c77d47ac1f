-- What the answer of a read says of the site and of the build files.
use Rattle.std.specs.Prelude.{◌≢◌, ℕ, List, [], ◌++◌, Result, Ok, Err}
use Rattle.std.specs.List.{AllByRecursion}
use Rattle.lexer.specs.Path.{IsCanonical}
use Rattle.model.specs.declared.graph.BuildGraph.{BuildGraph}
use Rattle.model.specs.declared.graph.Edge.{Edge}
use Rattle.model.specs.declared.fault.SiteFault.{SiteFault}
use Rattle.model.specs.declared.event.Moment.{Moment}
use Rattle.model.specs.World.{file_at, content_of}
use Rattle.model.specs.Calls.{Sees}
use Rattle.paths.specs.declared.manifest.Manifest.{Manifest}
use Rattle.paths.specs.Told.{graph_of}
use Rattle.manifest.specs.declared.fault.ReadError.{ReadError}
use Rattle.manifest.specs.declared.fault.ReadError.TheVariants.{Memory, Site, Refused}
use Rattle.manifest.specs.Readings.{Outcome}
use Rattle.manifest.specs.Readings.Outcome.{Reached, Broken}
use Rattle.manifest.specs.Files.{Holds}
use Rattle.manifest.specs.Graphs.{Declares}

-- the answer of a call that gives nothing else
abbrev pub Answer : Type 0
Answer = Result (Unit {0}) ReadError

-- the answer as far as the site has part in it: its fault, where it gave one
abbrev pub site_part : {T : Type 0} → Result T ReadError → Result (Unit {0}) SiteFault
site_part (Ok value) = Ok tt
site_part (Err Memory) = Ok tt
site_part (Err (Site fault)) = Err fault
site_part (Err (Refused fault)) = Ok tt

-- the answer with its graph of texts
abbrev pub in_texts : Result Manifest ReadError → Result BuildGraph ReadError
in_texts (Ok manifest) = Ok (graph_of manifest)
in_texts (Err error) = Err error

-- the fault is the reading's, unless memory was refused; the site is not asked
abbrev pub IsFaultOf : {X : Type 0} → (Outcome X → Type 0) → ReadError → Type 0
IsFaultOf reading Memory = Unit {0}
IsFaultOf reading (Site fault) = ⊥
IsFaultOf reading (Refused fault) = reading (Broken fault)

-- the same where the site is asked, which may give a fault
abbrev pub IsFaultSeen : {X : Type 0} → (Outcome X → Type 0) → ReadError → Type 0
IsFaultSeen reading Memory = Unit {0}
IsFaultSeen reading (Site fault) = Unit {0}
IsFaultSeen reading (Refused fault) = reading (Broken fault)

-- the answer is that of the reading
abbrev pub IsAnswerOf : {X : Type 0} → (Outcome X → Type 0) → Result X ReadError → Type 0
IsAnswerOf reading (Ok value) = reading (Reached value)
IsAnswerOf reading (Err error) = IsFaultOf reading error

-- what a file held at some moment between the two
abbrev pub held : List Moment → List Moment → Holds
held old new name content = Sees (λ history. content_of (file_at history name)) content old new

-- the answer is what the build files declared that stood there during the call
abbrev pub ReadsFile : List ℕ → List Moment → List Moment → Result BuildGraph ReadError → Type 0
ReadsFile name old new (Ok graph) = Declares (held old new) name (Reached graph)
ReadsFile name old new (Err error) = IsFaultSeen (Declares (held old new) name) error

-- ---- what every graph has that was read

-- the canonical form of some text
pub record IsPath (path : List ℕ) : Type 0 where
  pub text : List ℕ
  pub canonical : IsCanonical text path
  pub some : path ≢ []

abbrev pub ArePathsOnly : List (List ℕ) → Type 0
ArePathsOnly paths = AllByRecursion IsPath paths

pub record IsWellFormed (edge : Edge) : Type 0 where
  pub made : edge.explicit_outputs ++ edge.implicit_outputs ≢ []
  pub explicit_outputs : ArePathsOnly edge.explicit_outputs
  pub implicit_outputs : ArePathsOnly edge.implicit_outputs
  pub explicit_inputs : ArePathsOnly edge.explicit_inputs
  pub implicit_inputs : ArePathsOnly edge.implicit_inputs
  pub order_only_inputs : ArePathsOnly edge.order_only_inputs
  pub validations : ArePathsOnly edge.validations

abbrev pub IsGraph : BuildGraph → Type 0
IsGraph graph = AllByRecursion IsWellFormed graph.edges
