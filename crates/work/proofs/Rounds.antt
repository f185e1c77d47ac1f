-- A run of a graph, round by round: it goes on to the next load, loads the file, and begins again.
use Rattle.std.proofs.Common.{◌≡◌, ℕ, Bool, List, ap, subst}
use Rattle.model.specs.declared.graph.BuildGraph.{BuildGraph}
use Rattle.model.specs.declared.graph.Edge.{Edge}
use Rattle.model.specs.World.{World}
use Rattle.model.specs.Phases.{Phase}
use Rattle.graph.specs.declared.graph.Graph.{Graph}
use Rattle.graph.specs.Told.{declared_by}
use Rattle.work.specs.declared.state.Work.{Work}
use Rattle.work.specs.declared.summary.Pause.{Pause}
use Rattle.work.specs.declared.summary.Pause.TheVariants.{Load, Ended}
use Rattle.work.specs.declared.summary.Summary.{Summary}
use Rattle.work.specs.Course.{Course}
use Rattle.work.specs.declared.stop.Stop.{Stop}
use Rattle.work.specs.Standing.{BeginsAt, IsAtNextLoad, HasDone, HasHalted, HasPausedSo}

module _ (tells : Bool) (course : Course) (edges : List Edge) (phases : List Phase) (graph : Graph) (old : Work) (was : World) (at : BeginsAt tells course edges phases graph old was) (after : Work) (now : World) where
  edges_are : edges ≡ (declared_by graph).edges
  edges_are = ap (λ (b : BuildGraph). b.edges) at.stands.suits.same

  -- nothing is left to do
  pub done_there : (pause : Pause) (summary : Summary) → pause ≡ Ended summary → HasPausedSo tells course edges phases graph after now pause → HasDone tells course (declared_by graph).edges graph after.cone now summary
  done_there pause summary is so =
      subst (λ (es : List Edge). HasDone tells course es graph after.cone now summary) edges_are (subst (λ (p : Pause). HasPausedSo tells course edges phases graph after now p) is so)

  -- this file is loaded next
  pub load_next : (pause : Pause) (file : ℕ) → pause ≡ Load file → HasPausedSo tells course edges phases graph after now pause → IsAtNextLoad tells course edges phases graph after file now
  load_next pause file is so = subst (λ (p : Pause). HasPausedSo tells course edges phases graph after now p) is so

  -- it has halted, over the edges that the graph has
  pub halted_there : (stop : Stop) → HasHalted tells course edges graph after now stop → HasHalted tells course (declared_by graph).edges graph after now stop
  halted_there stop halted = subst (λ (es : List Edge). HasHalted tells course es graph after now stop) edges_are halted
