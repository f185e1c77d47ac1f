-- Two commands, of which one reads what the other makes and reports an input.
use Rattle.std.specs.Prelude.{ℕ, true, false, List, [], ◌∷◌, Some, None, codes}
use Rattle.model.specs.declared.act.Act.{Act}
use Rattle.model.specs.declared.graph.Deps.TheVariants.{Gcc}
use Rattle.model.specs.declared.graph.Edge.{Edge}
use Rattle.model.specs.Outcome.{Behaviour}
use Rattle.model.specs.Schedule.{Step, Judged, Started, Ended}
use Rattle.sim.specs.Toy.{toy_outcome}

-- an act with a command and, where it is not empty, a depfile
abbrev pub act_with : List ℕ → List ℕ → Act
act_with command depfile = record { command = command; depfile = depfile; response_path = []; response_content = [] }

-- an edge with these explicit outputs and inputs, order-only inputs and validations
abbrev pub edge_with : List (List ℕ) → List (List ℕ) → List (List ℕ) → List (List ℕ) → Act → Edge
edge_with outs ins order_only validations act = record {
  explicit_outputs = outs;
  implicit_outputs = [];
  explicit_inputs = ins;
  implicit_inputs = [];
  order_only_inputs = order_only;
  validations = validations;
  act = act;
  description = [];
  deps = Gcc;
  restat = false;
  pool = None;
  dyndep = None;
  phony = false;
}

-- `build b: cat a`, `build o: both o o.d b` with the depfile `o.d`
abbrev pub two_edges : List Edge
two_edges =
    edge_with (codes "b" ∷ []) (codes "a" ∷ []) [] [] (act_with (codes "cat b a") [])
    ∷ edge_with (codes "o" ∷ []) (codes "b" ∷ []) [] [] (act_with (codes "both o o.d b") (codes "o.d"))
    ∷ []

-- the toy commands, with depfiles that hold just one path; no dyndep file can be read
abbrev pub toys : Behaviour
toys = record { outcome = toy_outcome; depfile = λ content. Some (content ∷ []); dyndep = λ content. None }

-- both commands are judged out of date and run, one after the other
abbrev pub one_by_one : List Step
one_by_one = Judged 1 true ∷ Started 1 ∷ Ended 1 true ∷ Judged 2 true ∷ Started 2 ∷ Ended 2 true ∷ []
