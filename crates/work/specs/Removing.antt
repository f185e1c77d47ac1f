-- What becomes of the files of commands that ended well: the response file is removed, and the depfile where `deps = gcc` asks for
-- that (manual: "deps"); without `deps` it stays.
use Rattle.std.specs.Prelude.{◌≡◌, ◌≢◌, ℕ, Bool, true, IsTrue, List, [], ◌∷◌, ◌++◌, Option, Some, None, Result, OnOk}
use Rattle.model.specs.declared.act.Act.{Act}
use Rattle.model.specs.declared.event.Moment.{Moment}
use Rattle.model.specs.declared.event.Moment.TheVariants.{Wrote}
use Rattle.model.specs.declared.event.Writer.TheVariants.{Program}
use Rattle.model.specs.declared.graph.Deps.TheVariants.{Unset, Gcc}
use Rattle.model.specs.declared.graph.Edge.{Edge}
use Rattle.model.specs.World.{World, IsRunning, view_of}
use Rattle.model.specs.Calls.{AllByOthers, Writes}
use Rattle.model.specs.Graph.{has_number, edge_at}
use Rattle.model.specs.Records.{OwnFiles}
use Rattle.model.specs.Schedule.{Step as Done, well_in}
use Rattle.model.specs.Premises.{EndedAt}
use Rattle.theory.specs.Ledger.{HoldsStill}
use Rattle.paths.specs.declared.manifest.Command.{Command}

-- The program removed the file, and since then it wrote nothing, and nothing was started or ended.
pub record IsRemovedLast (path : List ℕ) (running : ℕ → Type 0) (old new : List Moment) : Type 0 where
  pub earlier : List Moment
  pub stamp : ℕ
  pub later : List Moment
  pub grows : new ≡ old ++ (earlier ++ Wrote Program path None stamp ∷ later)
  pub others : AllByOthers running later

-- the last thing that the program did was to remove the response file that the act names, if it names one
abbrev pub EndsByRemoving : Bool → Act → World → World → Type 0
EndsByRemoving tells act old new = act.response_path ≢ [] → IsTrue tells → IsRemovedLast act.response_path (IsRunning new.events) old.history new.history

-- No command that ended well has left its response file, but for that of the edge in hand.
abbrev pub AreResponsesRemoved : Bool → OwnFiles → List Edge → List Done → Option ℕ → World → World → Type 0
AreResponsesRemoved tells own edges steps hand old now =
    (i : ℕ) → has_number (well_in steps) i ≡ true → (hand ≡ Some i → ⊥) → (edge_at edges i).act.response_path ≢ []
    → HoldsStill tells own edges (edge_at edges i).act.response_path None old now

-- With `deps = gcc` none has left its depfile, but for that of the edge in hand.
abbrev pub AreDepfilesRemoved : Bool → OwnFiles → List Edge → List Done → Option ℕ → World → World → Type 0
AreDepfilesRemoved tells own edges steps hand old now =
    (i : ℕ) → has_number (well_in steps) i ≡ true → (hand ≡ Some i → ⊥) → (edge_at edges i).deps ≡ Gcc → (edge_at edges i).act.depfile ≢ []
    → HoldsStill tells own edges (edge_at edges i).act.depfile None old now

-- Without `deps` the depfile of each holds what it held when the command ended, where it is not its response file, too.
abbrev pub DepfilesStay : Bool → OwnFiles → List Edge → List Done → World → World → Type 0
DepfilesStay tells own edges steps old now =
    (i : ℕ) → has_number (well_in steps) i ≡ true → (edge_at edges i).deps ≡ Unset → (edge_at edges i).act.depfile ≢ []
    → (edge_at edges i).act.depfile ≢ (edge_at edges i).act.response_path
    → (at : List Moment) → EndedAt i old.history now.history at → HoldsStill tells own edges (edge_at edges i).act.depfile (view_of at (edge_at edges i).act.depfile) old now

-- The files of commands that ended well are removed where they are not to stay, but for those of the edge in hand, where files are
-- kept.
pub record AreRemoved (tells : Bool) (own : OwnFiles) (edges : List Edge) (steps : List Done) (hand : Option ℕ) (old now : World) : Type 0 where
  pub responses : AreResponsesRemoved tells own edges steps hand old now
  pub depfiles : AreDepfilesRemoved tells own edges steps hand old now
  pub stay : DepfilesStay tells own edges steps old now

-- ---- what is written and removed round a command

-- a file that is named is removed where the call is well
abbrev pub RemovesIfNamed : {S T E : Type 0} → Bool → (S → World) → S → S → List ℕ → Result T E → Type 0
RemovesIfNamed tells world old new path result = OnOk result (path ≢ [] → Writes tells path None (world old) (world new))

-- so is the depfile of a command with `deps = gcc`
abbrev pub RemovesRead : {S T E : Type 0} → Bool → (S → World) → S → S → Command → Result T E → Type 0
RemovesRead tells world old new command result = OnOk result (command.deps ≡ Gcc → command.act.depfile ≢ [] → Writes tells command.act.depfile None (world old) (world new))

-- and a response file that is named is written, with what the act says
abbrev pub WritesResponse : {S T E : Type 0} → Bool → (S → World) → S → S → Act → Result T E → Type 0
WritesResponse tells world old new act result = OnOk result (act.response_path ≢ [] → Writes tells act.response_path (Some act.response_content) (world old) (world new))
