-- What a call of a run leaves of what was before it.
use Rattle.std.specs.Prelude.{◌≡◌, Bool, IsTrue, List, ◌++◌, Result, OnOk}
use Rattle.model.specs.declared.event.Event.{Event}
use Rattle.model.specs.declared.event.Moment.{Moment}
use Rattle.model.specs.World.{World}
use Rattle.graph.specs.declared.graph.Graph.{Graph}
use Rattle.judge.specs.declared.looks.Looks.{Looks}
use Rattle.judge.specs.Looking.{HasLooked}
use Rattle.work.specs.declared.state.Work.{Work}

-- what was started and ended, and the history, is that of before, and more
pub record ComesAfter (tells : Bool) (old new : World) : Type 0 where
  pub events : (more : List Event) × (new.events ≡ old.events ++ more)
  pub history : IsTrue tells → (more : List Moment) × (new.history ≡ old.history ++ more)

-- where nothing was started or ended, the site was only looked at
abbrev pub LooksUnlessMore : Bool → Graph → World → World → Looks → Looks → Type 0
LooksUnlessMore tells graph old new before after = new.events ≡ old.events → HasLooked tells graph old new before after

-- so it is of the site over a call that was well, and of what a run has seen
abbrev pub SeesOn : {S T E : Type 0} → Bool → (S → World) → S → S → Work → Work → Result T E → Type 0
SeesOn tells world old new before after result = OnOk result (LooksUnlessMore tells before.graph (world old) (world new) before.looks after.looks)

-- the site was only looked at, and what a run has seen of its files stays right
abbrev pub SeesFiles : {S : Type 0} → Bool → (S → World) → S → S → Work → Work → Type 0
SeesFiles tells world old new before after = HasLooked tells before.graph (world old) (world new) before.looks after.looks
