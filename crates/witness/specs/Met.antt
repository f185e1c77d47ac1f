-- A history of the site in memory that meets the premises of the headline over histories.
use Rattle.std.specs.Prelude.{◌≡◌, ℕ, true, false, List, [], ◌∷◌, Option, Some, map, codes}
use Rattle.std.specs.List.{AllByRecursion}
use Rattle.model.specs.declared.fault.SiteFault.TheVariants.{Stopped}
use Rattle.model.specs.World.{view_of}
use Rattle.model.specs.Graph.{Addition, maker}
use Rattle.model.specs.Outcome.{Behaviour, reports_of}
use Rattle.model.specs.Records.{LogFormat, store_in, recorded_inputs}
use Rattle.model.specs.SingleBuild.{Success, Failed, Fault}
use Rattle.model.specs.Faithful.{IsFaithfulStore}
use Rattle.model.specs.History.{Visit, Edited, Built, Unread, Restarted, IsHistory, Keeps, exit_of}
use Rattle.model.specs.Driven.{Reader, CarriesOut, RestartsFrom, HasLogs, answers_in}
use Rattle.depfile.specs.Depfile.{IsReading}
use Rattle.log_text.specs.DepsFormat.{ReadsLogs}
use Rattle.sim.specs.World.{fresh, restarted}
use Rattle.witness.specs.Scanning.{scan, edges, asked, toys, own, file_text, naming}
use Rattle.witness.specs.Worlds.{AreOfSim, writes, after, moves, failing_calls, stopping_calls, first_calls, second_calls, first, declared, sourced, named, failed, edited, stopped, restarted_world, built, edited_again, last, worlds}

-- each build reads the two edges, where the build file declares them
abbrev pub one_graph : Reader
one_graph = record { Reads = λ targets old new wanted. (view_of old.history (codes "build.ninja") ≡ Some file_text) × (wanted ≡ asked); Refuses = λ targets old new answer. ⊥ }

-- a build with this folder for its logs
abbrev pub IsInFolder : {B : Behaviour} {format : LogFormat} → List ℕ → Visit true B format → Type 0
IsInFolder folder (Edited path content old new change) = ⊥
IsInFolder folder (Built wanted old new answer build) = wanted.folder ≡ folder
IsInFolder folder (Unread old new answer cause) = ⊥
IsInFolder folder (Restarted others old new restart) = ⊥

-- The worlds are those that the calls leave on a site in memory, from one on which nothing has happened.
pub record AreCalled : Type 0 where
  pub begins : first ≡ fresh
  pub declares : declared ≡ writes (codes "build.ninja") file_text first
  pub sources : sourced ≡ writes (codes "g") (codes "x") declared
  pub names : named ≡ writes (codes "a") (naming (codes "k")) sourced
  pub fails : failed ≡ after failing_calls named
  pub edits : edited ≡ writes (codes "a") (naming (codes "h")) failed
  pub stops : stopped ≡ after stopping_calls edited
  pub restarts : restarted_world ≡ restarted stopped
  pub builds : built ≡ after first_calls restarted_world
  pub edits_again : edited_again ≡ writes (codes "g") (codes "y") built
  pub builds_again : last ≡ after second_calls edited_again

-- These visits carry out the moves, with these answers, by these worlds, from a faithful store, and keep all premises of the headline;
-- the builds among them are as a single build is, and leave the logs as they should be.
pub record Meets (B : Behaviour) (format : LogFormat) : Type 0 where
  pub visits : List (Visit true B format)
  pub history : IsHistory visits first last
  pub carries : CarriesOut one_graph moves visits
  pub restarts : RestartsFrom false visits
  pub answers : answers_in visits ≡ Failed (codes "b" ∷ []) ∷ Fault Stopped ∷ Success 1 ∷ Success 2 ∷ []
  pub exits : map exit_of visits ≡ worlds
  pub faithful : IsFaithfulStore B format own [] first
  pub keeps : AllByRecursion (λ v. Keeps own v) visits
  pub logs : AllByRecursion HasLogs visits
  -- the second command tells what the first one made, and the last build reckons with what was recorded of that
  pub reports : reports_of B scan (view_of last.history) ≡ codes "h" ∷ []
  pub above : maker edges (codes "h") ≡ Some 1
  pub recorded : recorded_inputs (store_in format own (view_of edited_again.history)) edges 2 ≡ codes "h" ∷ []
  -- a build whose folder is another has other logs, and does not keep the premises
  pub one_folder : (build : Visit true B format) → IsInFolder (codes "out") build → Keeps own build → ⊥

-- However depfiles and logs are read, as their grammars say, and whatever dyndep files say.
pub record HistoryIsMet : Type 0 where
  pub of_sim : AreOfSim
  pub called : AreCalled
  pub meets : (depfile : List ℕ → Option (List (List ℕ))) (dyndep : List ℕ → Option (List Addition)) (format : LogFormat) → IsReading depfile → ReadsLogs format → Meets (toys depfile dyndep) format
