-- What a run keeps goes on over a call that looks, and notes what it saw of paths.
use Rattle.std.proofs.Common.{◌≡◌, ℕ, not, Bool, true, List, Option, None, Some, refl, ◌∙◌, ap}
use Rattle.model.specs.World.{World, file_at, stamp_of}
use Rattle.model.specs.Judgement.{is_same_number}
use Rattle.model.specs.Schedule.{Step as Done}
use Rattle.paths.specs.Told.{text_at}
use Rattle.graph.specs.declared.graph.Graph.{Graph}
use Rattle.judge.specs.declared.looks.Looks.{Looks}
use Rattle.judge.specs.declared.sums.Sums.{Sums}
use Rattle.judge.specs.Looking.{HasLooked}
use Rattle.judge.specs.Seen.{look_at, look_of, is_asked}
use Rattle.work.proofs.Seeing.{asked_stamp, with_sums, saw_sums}
use Rattle.records.specs.Laws.{LogStays}
use Rattle.work.specs.declared.state.Work.{Work}
use Rattle.work.specs.Course.{Course, Suits, edges_of, is_quiet, AreSeenBefore, IsOn}
use Rattle.work.specs.Restat.{is_same_look}
use Rattle.work.proofs.Quiet.{files_then}
use Rattle.work.proofs.Keeping.{looks_carried, looks_leave, looks_quiet, looks_removed, logging_over, told_over, started_over, still_anew, still_before}

-- the looks differ as the stamps do
pub differs_as : (before after : Option ℕ) → not (is_same_look (look_of before) (look_of after)) ≡ not (is_same_number before after)
differs_as None None = refl
differs_as None (Some after) = refl
differs_as (Some before) None = refl
differs_as (Some before) (Some after) = refl

module _ (tells : Bool) (course : Course) (graph : Graph) where
  -- the state with other looks
  abbrev pub with_looks : Work → Looks → Work
  with_looks state looks =
      record { alloc = state.alloc; graph = state.graph; cone = state.cone; plan = state.plan; looks = looks; records = state.records; display = state.display; tick = state.tick; due = state.due; starts = state.starts; failed = state.failed }

  -- what was seen of outputs before is still known where nothing is forgotten
  pub before_kept : (steps : List Done) (state : Work) (now : World) (after : Looks) → ((p : ℕ) → is_asked (look_at state.looks.seen.items p) ≡ true → look_at after.seen.items p ≡ look_at state.looks.seen.items p)
      → AreSeenBefore tells course graph steps state now → AreSeenBefore tells course graph steps (with_looks state after) now
  before_kept steps state now after stays before tell kept e stale unended restat p made =
      let was = before tell kept e stale unended restat p made in
      stays p (ap is_asked was ∙ asked_stamp (stamp_of (file_at course.entry.history (text_at graph.manifest.paths p)))) ∙ was

  abbrev pub on_looked : (stays : LogStays) → Suits course graph → (state : Work) (now new : World) (after : Looks) → HasLooked tells graph now new state.looks after → IsOn tells course graph None state now
      → IsOn tells course graph None (with_looks state after) new
  on_looked stays suits state now new after looked on =
      let quiet = looks_quiet tells course graph stays None state now new on looked.looks in
      let carried = looks_carried tells course graph stays None state now new on looked.looks in
      let told = told_over tells course graph on.steps state now new quiet on.told in
      record {
        steps = on.steps;
        planned = on.planned;
        taken = on.taken;
        since = on.since;
        carried = carried;
        logging = logging_over tells course graph stays on.steps on.steps None None now new state.records.logs (looks_leave tells course graph now new looked.looks) carried on.logging;
        told = record { records = told.records; deps = told.deps; known = told.known; same = told.same };
        seen = λ tell files.
            let call = quiet tell files in
            looked.seen tell (is_quiet files.free course.own (edges_of course) on.steps) call.1 (on.seen tell (files_then course.own (edges_of course) course.entry now new call.0 files));
        anew = still_anew tells course graph stays None state now new on suits.once quiet;
        before = before_kept on.steps state new after looked.stays (still_before tells course graph stays None state now new on quiet);
        started = started_over tells course graph on.steps state now new looked.looks.events on.started;
        removed = looks_removed tells course graph stays None state now new on looked.looks;
        room = record { looks = looked.fits ∙ on.room.looks; starts = on.room.starts };
        cone = on.cone;
        ticking = on.ticking;
        noted = on.noted;
      }

  -- other sums change nothing of what a run keeps
  abbrev pub on_summed : (stays : LogStays) → Suits course graph → (state : Work) (now : World) (sums : Sums) → IsOn tells course graph None state now → IsOn tells course graph None (with_looks state (with_sums state.looks sums)) now
  on_summed stays suits state now sums on = on_looked stays suits state now now (with_sums state.looks sums) (saw_sums tells graph now state.looks sums) on
