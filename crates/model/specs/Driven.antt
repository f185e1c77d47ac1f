-- What it means that a list of moves was carried out: by which visits, with which restarts between them, and with which answers.
-- All is this project's own.
use Rattle.std.specs.Prelude.{◌≡◌, ◌≢◌, ◌⊎◌, ℕ, Bool, true, false, IsTrue, List, [], ◌∷◌, ◌++◌, Option, Some, None}
use Rattle.std.specs.List.{AllByRecursion}
use Rattle.model.specs.declared.moves.Move.{Move}
use Rattle.model.specs.declared.moves.Move.TheVariants.{Write, Delete, Build}
use Rattle.model.specs.World.{World}
use Rattle.model.specs.Outcome.{Behaviour}
use Rattle.model.specs.Records.{LogFormat, OwnFiles, IsOwnIn}
use Rattle.model.specs.SingleBuild.{Asked, Answer, is_fault}
use Rattle.model.specs.Calls.{IsRestart}
use Rattle.model.specs.Kept.{KeepsLogs}
use Rattle.model.specs.History.{Visit, Edited, Built, Unread, Restarted, IsHistory, HeadlineOver, IsLeftBy}

-- ---- moves

-- What a build that is asked for with these words reads, and what it answers where its files are refused or cannot be read: said
-- by the contract of the build, over the site at its entry and at its exit.
pub record Reader : Type 1 where
  pub Reads : List (List ℕ) → World → World → Asked → Type 0
  pub Refuses : List (List ℕ) → World → World → Answer → Type 0

-- the visit carries out the move
abbrev pub Does : {tells : Bool} {B : Behaviour} {format : LogFormat} → Reader → Move → Visit tells B format → Type 0
Does R (Write p text) (Edited path content old new edit) = (path ≡ p) × (content ≡ Some text)
Does R (Write p text) (Built asked old new answer build) = ⊥
Does R (Write p text) (Unread old new answer cause) = ⊥
Does R (Write p text) (Restarted edges old new restart) = ⊥
Does R (Delete p) (Edited path content old new edit) = (path ≡ p) × (content ≡ None)
Does R (Delete p) (Built asked old new answer build) = ⊥
Does R (Delete p) (Unread old new answer cause) = ⊥
Does R (Delete p) (Restarted edges old new restart) = ⊥
Does R (Build words) (Edited path content old new edit) = ⊥
Does R (Build words) (Built asked old new answer build) = R.Reads words old new asked
Does R (Build words) (Unread old new answer cause) = R.Refuses words old new answer
Does R (Build words) (Restarted edges old new restart) = ⊥

abbrev pub is_restart : {tells : Bool} {B : Behaviour} {format : LogFormat} → Visit tells B format → Bool
is_restart (Edited path content old new edit) = false
is_restart (Built asked old new answer build) = false
is_restart (Unread old new answer cause) = false
is_restart (Restarted edges old new restart) = true

-- the visits carry these moves out, one after another; a restart may come before a move
abbrev pub CarriesOut : {tells : Bool} {B : Behaviour} {format : LogFormat} → Reader → List Move → List (Visit tells B format) → Type 0
CarriesOut R moves [] = moves ≡ []
CarriesOut R moves (v ∷ vs) =
    ((is_restart v ≡ true) × (moves ≢ []) × CarriesOut R moves vs)
    ⊎ ((move : Move) × (rest : List Move) × (moves ≡ move ∷ rest) × Does R move v × CarriesOut R rest vs)

-- ---- restarts

-- after it the site is started again before the next move: a build that answered a fault, or an edit in which the site stopped
abbrev pub asks_restart : {tells : Bool} {B : Behaviour} {format : LogFormat} → Visit tells B format → Bool
asks_restart (Edited path content old new edit) = new.stopped
asks_restart (Built asked old new answer build) = is_fault answer
asks_restart (Unread old new answer cause) = is_fault answer
asks_restart (Restarted edges old new restart) = false

-- the site is started again just where that is asked for
abbrev pub RestartsFrom : {tells : Bool} {B : Behaviour} {format : LogFormat} → Bool → List (Visit tells B format) → Type 0
RestartsFrom asked [] = Unit {0}
RestartsFrom asked (v ∷ vs) = (is_restart v ≡ asked) × RestartsFrom (asks_restart v) vs

-- ---- answers

-- what the builds among the visits answered, in order
abbrev pub answers_in : {tells : Bool} {B : Behaviour} {format : LogFormat} → List (Visit tells B format) → List Answer
answers_in [] = []
answers_in (Edited path content old new edit ∷ vs) = answers_in vs
answers_in (Built asked old new answer build ∷ vs) = answer ∷ answers_in vs
answers_in (Unread old new answer cause ∷ vs) = answer ∷ answers_in vs
answers_in (Restarted edges old new restart ∷ vs) = answers_in vs

-- ---- a list of moves

-- a build among the visits keeps its logs as it should
abbrev pub HasLogs : {tells : Bool} {B : Behaviour} {format : LogFormat} → Visit tells B format → Type 0
HasLogs (Edited path content old new edit) = Unit {0}
HasLogs {tells} {B} {format} (Built asked old new answer build) =
    (own : OwnFiles) (fits : IsOwnIn own asked.folder) → KeepsLogs tells B format own asked old new answer (build own fits)
HasLogs (Unread old new answer cause) = Unit {0}
HasLogs (Restarted edges old new restart) = Unit {0}

-- these moves were carried out from one site to another, with these answers, by builds that keep their logs and are as the
-- headline says
pub record IsDriven (tells : Bool) (B : Behaviour) (format : LogFormat) (R : Reader) (moves : List Move) (answers : List Answer) (first last : World) : Type 0 where
  pub visits : List (Visit tells B format)
  pub history : IsHistory visits first last
  pub carries : CarriesOut R moves visits
  pub restarts : RestartsFrom false visits
  pub answered : answers ≡ answers_in visits
  pub logs : AllByRecursion HasLogs visits
  pub headline : HeadlineOver first visits

-- whether a restart is asked for after these visits
abbrev pub asks_at_end : {tells : Bool} {B : Behaviour} {format : LogFormat} → Bool → List (Visit tells B format) → Bool
asks_at_end asked [] = asked
asks_at_end asked (v ∷ vs) = asks_at_end (asks_restart v) vs

-- the site is started again where that was asked for, and left as it is elsewhere
abbrev pub StartsAgain : Bool → Bool → World → World → Type 0
StartsAgain tells asked now mid = ((asked ≡ false) × (mid ≡ now)) ⊎ ((asked ≡ true) × IsRestart tells now mid)

-- an edit that found no memory, and so is the last move
pub record IsCutEdit (tells : Bool) (path : List ℕ) (content : Option (List ℕ)) (old new : World) : Type 0 where
  pub events : new.events ≡ old.events
  pub earlier : new.earlier ≡ old.earlier
  pub left : IsTrue tells → IsLeftBy path content old new

-- the move that comes next is such an edit
abbrev pub IsCutNext : Bool → List Move → World → World → Type 0
IsCutNext tells [] old new = ⊥
IsCutNext tells (Write path content ∷ rest) old new = IsCutEdit tells path (Some content) old new
IsCutNext tells (Delete path ∷ rest) old new = IsCutEdit tells path None old new
IsCutNext tells (Build words ∷ rest) old new = ⊥

-- Memory was wanting: a beginning of the moves was carried out, and perhaps the site was started again, where that was asked for,
-- and the edit that comes next is left by half.
pub record IsCutShort (tells : Bool) (B : Behaviour) (format : LogFormat) (R : Reader) (moves : List Move) (first last : World) : Type 0 where
  pub done : List Move
  pub rest : List Move
  pub splits : moves ≡ done ++ rest
  pub answers : List Answer
  pub before : World
  pub driven : IsDriven tells B format R done answers first before
  pub next : (last ≡ before) ⊎ ((again : World) × StartsAgain tells (asks_at_end false driven.visits) before again × IsCutNext tells rest again last)
