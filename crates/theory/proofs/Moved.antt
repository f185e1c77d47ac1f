-- A run over edges that grow: what was done stands over the edges that a load gives.
use Rattle.std.proofs.Common.{inl, inr, ℕ, Bool, List, [], ◌∷◌, ◌++◌, length, Option, sym, ◌∙◌, ap}
use Rattle.model.specs.declared.act.Act.{Act}
use Rattle.model.specs.declared.graph.Edge.{Edge}
use Rattle.model.specs.declared.event.Event.{Event}
use Rattle.model.specs.declared.event.Event.TheVariants.{Start, Finish}
use Rattle.model.specs.declared.event.Moment.{Moment}
use Rattle.model.specs.declared.event.Moment.TheVariants.{Wrote, Happened}
use Rattle.model.specs.declared.event.Writer.TheVariants.{Program, Command, Someone}
use Rattle.model.specs.World.{World}
use Rattle.model.specs.Graph.{edge_at}
use Rattle.model.specs.Records.{OwnFiles}
use Rattle.model.specs.Schedule.{Task, Step, Judged, Started, Ended, IsEndOf, AreEventsOf}
use Rattle.model.specs.SingleBuild.{IsOwnWrite}
use Rattle.theory.specs.Order.{IsOrderlyStep, IsOrderlyFrom}
use Rattle.theory.specs.Run.{steps_until, AreOfRun, IsRun, IsRunOrRest}
use Rattle.theory.proofs.Growth.{HasGrown}

module _ (few many : List Edge) (grown : HasGrown few many) where
  end_moved : (i : ℕ) (well ok : Bool) → IsEndOf (edge_at few i) well ok → IsEndOf (edge_at many i) well ok
  end_moved i well ok is = (is.0, λ none. is.1 (ap (λ (a : Act). a.depfile) (sym (grown.act i)) ∙ none))

  pub events_moved : (steps : List Step) (es : List Event) → AreEventsOf few steps es → AreEventsOf many steps es
  events_moved [] [] a = tt
  events_moved [] (e ∷ es) a = absurd a
  events_moved (Judged i b ∷ steps) es a = events_moved steps es a
  events_moved (Started i ∷ steps) [] a = absurd a
  events_moved (Started i ∷ steps) (Start job act stamp ∷ es) a = (a.0, a.1 ∙ sym (grown.act i), events_moved steps es a.2)
  events_moved (Started i ∷ steps) (Finish job ok ∷ es) a = absurd a
  events_moved (Ended i w ∷ steps) [] a = absurd a
  events_moved (Ended i w ∷ steps) (Start job act stamp ∷ es) a = absurd a
  events_moved (Ended i w ∷ steps) (Finish job ok ∷ es) a = (a.0, end_moved i w ok a.1, events_moved steps es a.2)

  write_moved : (own : OwnFiles) (steps : List Step) (path : List ℕ) (content : Option (List ℕ)) → IsOwnWrite own few steps path content → IsOwnWrite own many steps path content
  write_moved own steps path content (inl mine) = inl mine
  write_moved own steps path content (inr (inl (i, out, is, gone))) = inr (inl (i, out, is ∙ ap (λ (a : Act). a.depfile) (sym (grown.act i)), gone))
  write_moved own steps path content (inr (inr (i, out, is))) = inr (inr (i, out, is ∙ ap (λ (a : Act). a.response_path) (sym (grown.act i))))

  of_run_moved : (own : OwnFiles) (steps : List Step) (before events : List Event) (ms : List Moment) → AreOfRun own few steps before events ms → AreOfRun own many steps before events ms
  of_run_moved own steps before events [] a = tt
  of_run_moved own steps before events (Wrote Program path content stamp ∷ ms) a = (write_moved own (steps_until steps (length events)) path content a.0, of_run_moved own steps before events ms a.1)
  of_run_moved own steps before events (Wrote (Command job) path content stamp ∷ ms) a = (a.0, of_run_moved own steps before events ms a.1)
  of_run_moved own steps before events (Wrote Someone path content stamp ∷ ms) a = of_run_moved own steps before events ms a
  of_run_moved own steps before events (Happened event ∷ ms) a = of_run_moved own steps before (events ++ event ∷ []) ms a

  step_moved : (before : List Step) (s : Step) → IsOrderlyStep few before s → IsOrderlyStep many before s
  step_moved before (Judged i b) orderly = (grown.phony i ∙ orderly.0, orderly.1)
  step_moved before (Started i) orderly = orderly
  step_moved before (Ended i w) orderly = orderly

  pub orderly_moved : (before steps : List Step) → IsOrderlyFrom few before steps → IsOrderlyFrom many before steps
  orderly_moved before [] orderly = tt
  orderly_moved before (s ∷ steps) orderly = (step_moved before s orderly.0, orderly_moved (before ++ s ∷ []) steps orderly.1)

-- a run goes on over the edges that a load gives
pub rest_moved : (tells : Bool) (own : OwnFiles) (few many : Task) (steps : List Step) (old now : World) → HasGrown few.graph.edges many.graph.edges
    → IsRunOrRest tells own few steps old now → IsRunOrRest tells own many steps old now
rest_moved tells own few many steps old now grown rest = record {
  orderly = orderly_moved few.graph.edges many.graph.edges grown [] steps rest.orderly;
  first = rest.first;
  later = rest.later;
  grows = rest.grows;
  of_steps = events_moved few.graph.edges many.graph.edges grown steps rest.first rest.of_steps;
  finishes = rest.finishes;
  history = λ tell.
      let told = rest.history tell in
      record {
        more = told.more;
        grows = told.grows;
        happened = told.happened;
        all = of_run_moved few.graph.edges many.graph.edges grown own steps old.events [] told.more told.all;
      };
}

pub run_moved : (tells : Bool) (own : OwnFiles) (few many : Task) (steps : List Step) (old now : World) → HasGrown few.graph.edges many.graph.edges → IsRun tells own few steps old now → IsRun tells own many steps old now
run_moved tells own few many steps old now grown run = record {
  orderly = orderly_moved few.graph.edges many.graph.edges grown [] steps run.orderly;
  events = run.events;
  grows = run.grows;
  of_steps = events_moved few.graph.edges many.graph.edges grown steps run.events run.of_steps;
  history = λ tell.
      let told = run.history tell in
      record {
        more = told.more;
        grows = told.grows;
        happened = told.happened;
        all = of_run_moved few.graph.edges many.graph.edges grown own steps old.events [] told.more told.all;
      };
}
