-- What is known of edges that were found not to be due, until a command has ended well.
use Rattle.std.specs.Prelude.{◌≡◌, ℕ, Bool, true, false, IsTrue, List, [], None}
use Rattle.model.specs.World.{World, runs}
use Rattle.model.specs.Graph.{has_number}
use Rattle.model.specs.Premises.{FilesAreKept}
use Rattle.model.specs.Schedule.{Step as Done, running_in, well_in}
use Rattle.graph.specs.declared.graph.Graph.{Graph}
use Rattle.plan.specs.declared.step.Standing.TheVariants.{Unjudged}
use Rattle.plan.specs.declared.step.Step.TheVariants.{Judge}
use Rattle.plan.specs.Planned.{IsCountIn, IsNext}
use Rattle.plan.specs.Standing.{standing_at}
use Rattle.judge.specs.Dues.{due_at}
use Rattle.judge.specs.Judged.{IsAnswer}
use Rattle.work.specs.declared.state.Work.{Work}
use Rattle.work.specs.Course.{Course, Suits, edges_of, goes_on, is_quiet, IsOn}

-- just the commands run that run by these steps
abbrev pub HaveRunning : List Done → World → Type 0
HaveRunning steps now = (job : ℕ) → runs job now.events ≡ has_number (running_in steps) job

-- no reason is found why the edge has to run, as if no command had ended, by the files of now, where files are kept
abbrev pub IsClean : Bool → Course → Graph → ℕ → World → Type 0
IsClean tells course graph e now =
    IsTrue tells → (files : FilesAreKept course.own (edges_of course) course.entry.history now.history) → (steps : List Done) → HaveRunning steps now
    → IsAnswer graph course.store.records course.store.deps [] e None (is_quiet files.free course.own (edges_of course) steps) now.history

-- so it is of each edge that was not due when sources were asked for, and was not judged
abbrev pub KnowsClean : Bool → Course → Graph → Work → World → Type 0
KnowsClean tells course graph state now =
    (e : ℕ) → due_at state.due.items e ≡ false → standing_at state.plan.standings.items e ≡ Unjudged → IsClean tells course graph e now

-- a run of which that is known stands there still, and goes on, in the same world
abbrev pub StaysKnowing : Graph → Work → Work → Type 0
StaysKnowing graph before after =
    (tells : Bool) (now : World) (course : Course) → Suits course graph → goes_on course ≡ true → IsOn tells course graph None before now
    → KnowsClean tells course graph before now → IsOn tells course graph None after now

-- the edge was not due, and no command has ended well
pub record WasClean (state : Work) (e : ℕ) : Type 0 where
  pub flag : due_at state.due.items e ≡ false
  pub calm : IsCountIn state.plan well_in 0

-- and it is judged next
pub record IsCleanNext (state : Work) (e : ℕ) : Type 0 where
  pub next : IsNext state.plan (Judge e)
  pub was : WasClean state e
