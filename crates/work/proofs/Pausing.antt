-- What a run leaves that pauses.
use Rattle.std.proofs.Common.{◌≡◌, inl, Bool, true, false, List, None, Ok, Err, refl}
use Rattle.model.specs.declared.graph.Edge.{Edge}
use Rattle.model.specs.World.{World}
use Rattle.model.specs.Phases.{Phase}
use Rattle.theory.proofs.SiteCalls.{unrefused_none}
use Rattle.graph.specs.declared.graph.Graph.{Graph}
use Rattle.work.specs.declared.cut.Cut.{Cut}
use Rattle.work.specs.declared.state.Work.{Work}
use Rattle.work.specs.declared.summary.Pause.{Pause}
use Rattle.work.specs.declared.summary.Pause.TheVariants.{Load, Ended}
use Rattle.work.specs.After.{ComesAfter, LooksUnlessMore}
use Rattle.work.specs.Course.{Course, goes_on, Suits, IsOn}
use Rattle.work.specs.Cut.{fault_of, IsLeft}
use Rattle.work.specs.Going.{IsGoing}
use Rattle.work.specs.Ran.{HasPaused}
use Rattle.work.specs.Standing.{grown_course, HasSourcesAt, GoesWell, HasPausedSo, WasCut}
use Rattle.work.proofs.Halting.{load_at, done_at, cut_at}

pub well_none : (w : World) → w.stopped ≡ false → GoesWell w w
well_none w running = record { unrefused = unrefused_none w running; starts = inl refl }

module _ (tells : Bool) (course : Course) (edges : List Edge) (phases : List Phase) (graph : Graph) (state : Work) (now : World) (at : HasSourcesAt tells course edges phases graph state now) where
  -- the run goes on from there
  pub going_at : IsGoing tells true graph state now
  going_at = record { course = grown_course course edges phases; suits = at.stands.suits; is = at.stands.goes; on = at.stands.on }

  module _ (after : Work) (new : World) (grows : ComesAfter tells now new) where
    pub paused_at : (pause : Pause) → LooksUnlessMore tells graph now new state.looks after.looks
        → ((of : Course) → Suits of graph → goes_on of ≡ true → IsOn tells of graph None state now → HasPaused tells of graph after new (Ok pause)) → HasPausedSo tells course edges phases graph after new pause
    paused_at (Load file) looked ran = load_at tells course edges phases graph state now at.stands after file new grows looked at.asked (ran (grown_course course edges phases) at.stands.suits at.stands.goes at.stands.on)
    paused_at (Ended summary) looked ran = done_at tells course edges phases graph state now at.stands after summary new grows at.asked (ran (grown_course course edges phases) at.stands.suits at.stands.goes at.stands.on)

    pub cut_from : (cut : Cut) → IsLeft new cut → ((of : Course) → Suits of graph → goes_on of ≡ true → IsOn tells of graph None state now → HasPaused tells of graph after new (Err cut)) → WasCut tells course edges new (fault_of cut)
    cut_from cut left ran = cut_at tells course edges phases graph state now at.stands cut new left grows at.asked (ran (grown_course course edges phases) at.stands.suits at.stands.goes at.stands.on)
