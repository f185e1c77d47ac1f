-- The statements of specs/Laws, proved.
use Rattle.std.proofs.Common.{◌≡◌, inl, inr, true, List, Some, refl, ℕ, ◌+◌, [], ◌∷◌, length, sym, subst, ◌∙◌, ap, ◌++◌}
use Rattle.model.specs.Schedule.{Started, running_in}
use Rattle.std.proofs.lemmas.Bool.{cases_Bool}
use Rattle.model.specs.Graph.{has, edge_at, inputs}
use Rattle.model.specs.SingleBuild.{task_of}
use Rattle.theory.specs.RunLaws.{LoadsComeFirst, OnePhaseIsLawful, ReadsOr, SettledIsClean, SuccessIsClean, RunKeepsFrame, NothingToMakeReady, OrderlyStartsAreStale, OnePhaseAsksAtEntry, NothingIsUpToDate, EndIsSettled, ScheduleSettlesInOrder, StartsOnce, RunningIsAsTold}
use Rattle.theory.proofs.Rounds as rounds
use Rattle.theory.proofs.Steps as steps
use Rattle.theory.proofs.Orderly as orderly
use Rattle.theory.proofs.Settling as settling
use Rattle.theory.proofs.Turns as turns
use Rattle.theory.proofs.Runs as runs
use Rattle.theory.proofs.Counts as counts
use Rattle.theory.proofs.Builds as builds
use Rattle.theory.proofs.Walked as walked
use Rattle.theory.proofs.Loads as loads
use Rattle.theory.proofs.Ready as ready
use Rattle.model.specs.OutOfDate.{NothingIsMissing}
use Rattle.model.specs.declared.event.Moment.{Moment}

pub settled_is_clean : SettledIsClean
settled_is_clean B edges files others order settling one explained i o within is =
    rounds.clean_by_order B edges files (ReadsOr edges files others) (λ j p read. inl read) order settling (λ j h. (one j h, λ p is_output. explained j p h is_output)) i o within is

pub success_is_clean : SuccessIsClean
success_is_clean tells B own asked store steps old now tell idle rest once none first settled premises lefts =
    builds.clean_at_success tells own asked store steps old now tell idle rest once none B first settled premises lefts

pub run_keeps_frame : RunKeepsFrame
run_keeps_frame tells own asked store steps old now tell idle rest once ready = builds.frame_of_run tells own asked store steps old now tell idle rest once ready

pub nothing_to_make_ready : NothingToMakeReady
nothing_to_make_ready tells own asked store steps old now tell rest none = ready.ready_of_none tells own (task_of asked store) steps old now rest tell none

pub orderly_starts_are_stale : OrderlyStartsAreStale
orderly_starts_are_stale B free asked store steps met old new lawful judged = ready.stale_starts free asked.graph.edges store steps old new lawful judged.verdicts

pub one_phase_asks_at_entry : OnePhaseAsksAtEntry
one_phase_asks_at_entry own task store old new nothing unloaded apart at point = subst (λ (l : List Moment). NothingIsMissing task.graph.edges store [] l task.targets) (sym (point.entry refl)) nothing

pub nothing_is_up_to_date : NothingIsUpToDate
nothing_is_up_to_date tells B free own asked steps old now tell idle rest lawful none some no_depfiles =
    builds.judged_of_nothing tells own asked steps old now idle rest lawful B free tell none some no_depfiles

pub end_is_settled : EndIsSettled
end_is_settled task steps order unjudged unstarted idle fine makers cone i h =
    turns.settled_at_end task steps unjudged unstarted idle fine order makers cone i h

pub schedule_settles_in_order : ScheduleSettlesInOrder
schedule_settles_in_order task s lawful = settling.settling_order task s lawful

pub starts_once : StartsOnce
starts_once task before after i lawful = (
  (steps.lawful_parts task [] before (Started i ∷ after) lawful).1.0.1.once,
  orderly.started_once_more task.graph.edges before after i (orderly.orderly_from task [] (before ++ Started i ∷ after) lawful),
)

pub running_is_as_told : RunningIsAsTold
running_is_as_told tells own task s old now idle run = (
  (λ j. runs.running_now tells own task old s now idle run j),
  counts.started_length task.graph.edges s run.orderly ∙ ap (λ (n : ℕ). length (running_in s) + n) (counts.ended_length s),
)

pub loads_come_first : LoadsComeFirst
loads_come_first B texts asked store steps old new build once once_last others premise = (
  loads.build_is_orderly B.dyndep texts asked.declared (task_of asked store) store steps build,
  (λ i h. walked.build_loaded B.dyndep texts asked.declared (task_of asked store) store B steps old new premise once once_last inputs_named (λ j. refl) steps build i h),
  walked.build_reads_first B.dyndep texts asked.declared (task_of asked store) store B steps old new premise once once_last inputs_named (λ j. refl) steps build,
)
  where
    inputs_named : (i : ℕ) (file : List ℕ) → (edge_at asked.declared i).dyndep ≡ Some file → has (inputs (edge_at asked.declared i)) file ≡ true
    inputs_named i file names = elim (cases_Bool (has (inputs (edge_at asked.declared i)) file)) [
      | inl is ↦ is
      | inr other ↦ absurd (others file (record { edge = i; names = names; other = other }))
    ]

pub one_phase_is_lawful : OnePhaseIsLawful
one_phase_is_lawful B texts asked store steps same none lawful = loads.one_phase B.dyndep texts asked.declared (task_of asked store) store steps same none lawful
