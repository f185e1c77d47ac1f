-- What is told of due commands, after calls that only look.
use Rattle.std.proofs.Common.{Bool, List}
use Rattle.model.specs.declared.graph.BuildGraph.{BuildGraph}
use Rattle.model.specs.World.{World}
use Rattle.model.specs.Calls.{OnlyLooks}
use Rattle.theory.proofs.Looks.{looks_then}
use Rattle.builder.specs.declared.asked.Asked.{Asked as Request}
use Rattle.builder.specs.declared.explained.Explanation.{Explanation}
use Rattle.builder.specs.Explained.{ExplainsBuild}

-- what is told behind a call that only looked is told of the whole
pub explains_before : (tells : Bool) (graph : BuildGraph) (request : Request) (old mid new : World) (said : List Explanation) → OnlyLooks tells old mid → ExplainsBuild tells graph request mid new said → ExplainsBuild tells graph request old new said
explains_before tells graph request old mid new said looks so = record {
  course = so.course;
  asked = so.asked;
  entry = so.entry;
  looks = looks_then tells old mid so.entry looks so.looks;
  explains = so.explains;
}
