-- Where files are not kept, and clauses of a build that need less hold all the same.
use Rattle.std.specs.Prelude.{◌≡◌, Bool, true, false, if◌then◌else◌, List, [], ◌∷◌, ◌++◌, Some, None, bytes_eq, codes}
use Rattle.model.specs.declared.act.Act.{Act}
use Rattle.model.specs.declared.event.Event.TheVariants.{Start, Finish}
use Rattle.model.specs.declared.event.Moment.{Moment}
use Rattle.model.specs.declared.event.Moment.TheVariants.{Wrote, Happened}
use Rattle.model.specs.declared.event.Writer.TheVariants.{Command, Someone}
use Rattle.model.specs.declared.graph.Edge.{Edge}
use Rattle.model.specs.Outcome.{Behaviour}
use Rattle.model.specs.Records.{OwnFiles}
use Rattle.model.specs.Schedule.{Step, Judged, Started, Ended}
use Rattle.model.specs.Premises.{FilesAreKept, OutputsAreKept}
use Rattle.model.specs.SingleBuild.{EndRightly, EndAsRead}
use Rattle.witness.specs.Small.{act_with, edge_with, copies}
use Rattle.witness.specs.Refused.{own, with_depfile}

-- it tells what it read in `d`
abbrev pub tells : Act
tells = act_with (codes "copy") (codes "d") []

-- `build b: copy a`, and `build c: copy a` with the same depfile
abbrev pub one_depfile : List Edge
one_depfile = edge_with tells ∷ record (edge_with tells) { explicit_outputs = codes "c" ∷ [] } ∷ []

-- a depfile that holds `no` is refused
abbrev pub refuses_no : Behaviour
refuses_no = record { outcome = copies.outcome; depfile = λ content. if bytes_eq content (codes "no") then None else Some []; dyndep = copies.dyndep }

-- the command has written its depfile
abbrev pub told_in_d : List Moment
told_in_d = Happened (Start 1 tells 9) ∷ Wrote (Command 1) (codes "d") (Some (codes "yes")) 10 ∷ []

-- It ends well, and then somebody writes there.
abbrev pub spoilt : List Moment
spoilt = told_in_d ++ Happened (Finish 1 true) ∷ Wrote Someone (codes "d") (Some (codes "no")) 11 ∷ []

-- what stands there now is read: the command counts as a failed one
abbrev pub failed_steps : List Step
failed_steps = Judged 1 true ∷ Started 1 ∷ Ended 1 false ∷ []

-- What is so though files are not kept.
pub record FewerPremises : Type 0 where
  -- two edges have one depfile: no output is written before the start of its command all the same
  pub outputs : OutputsAreKept own one_depfile [] []
  pub shared : (all : OwnFiles) → FilesAreKept all one_depfile [] [] → ⊥
  -- a depfile is written by somebody else before it is read: how the command ended is right by what was read, and not by what it left
  pub as_read : EndAsRead refuses_no with_depfile failed_steps None [] spoilt
  pub as_left : EndRightly refuses_no with_depfile failed_steps None [] spoilt → ⊥
  pub spoils : (all : OwnFiles) → FilesAreKept all with_depfile [] spoilt → ⊥
