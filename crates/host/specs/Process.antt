-- What a command that runs is, as contracts see it, and what is handed over to start one.
use Rattle.std.specs.Prelude.{◌≡◌, ℕ, ℤ, Bool, ◌<◌, ◌↔◌, List, [], ◌∷◌, ◌++◌, map, length, pos, codes, Option, Some, None, IfSome, IsTrue, slice_index_or}
use Rattle.os.specs.Paths.{HasNoNul}
use Rattle.host.specs.declared.commands.Running.{Running}
use Rattle.host.specs.declared.commands.End.{End}
use Rattle.host.specs.declared.files.Hold.{Hold}
use Rattle.host.specs.declared.files.Hold.TheVariants.{Untold, Locked, Alone}
use Rattle.host.specs.declared.files.Printed.{Printed}
use Rattle.host.specs.declared.process.Handed.{Handed}
use Rattle.host.specs.declared.process.State.{State}
use Rattle.host.specs.declared.process.State.TheVariants.{Runs, Ended, Lost}
use Rattle.host.specs.declared.process.Status.{Status}
use Rattle.host.specs.declared.process.Variables.{Variables}
use Rattle.host.specs.declared.process.Variables.TheVariants.{Lent, Made}

-- ---- what is handed over

-- the shell's file
abbrev pub shell : List ℕ
shell = codes "/bin/sh"

-- the variables that a process gets, each ended by a NUL
abbrev pub block_of : Variables → List ℕ
block_of (Lent block) = block.now
block_of (Made block) = block.items

-- the words by which the shell runs a command, each ended by a NUL
abbrev pub words_of : List ℕ → List ℕ
words_of command = (shell ++ 0 ∷ []) ++ (codes "-c" ++ 0 ∷ []) ++ (command ++ 0 ∷ [])

-- what is handed over so that the shell runs this command with these variables and descriptors, in the program's own folder
pub record IsHanded (command variables : List ℕ) (fds : List ℤ) (handed : Handed) : Type 0 where
  pub program : handed.program.now ≡ shell
  pub words : handed.words.items ≡ words_of command
  pub whole : HasNoNul command
  pub environment : block_of handed.environment ≡ variables
  pub folder : handed.folder.now ≡ []
  pub streams : handed.streams ≡ fds

-- ---- how a process ended

-- the process has this number: it was started under it, and a wait that has put how it ended answered for it
abbrev pub IsOf : ℤ → State → Type 0
IsOf number (Runs own) = own.value ≡ number
IsOf number (Ended status) = status.of ≡ number
IsOf number Lost = Unit {0}

-- a wait has put how the process ended
abbrev pub IsPut : State → Type 0
IsPut (Runs own) = ⊥
IsPut (Ended status) = Unit {0}
IsPut Lost = ⊥

abbrev pub status_in : State → Option Status
status_in (Runs own) = None
status_in (Ended status) = Some status
status_in Lost = None

-- the status that the wait put is 0
abbrev pub IsZero : State → Type 0
IsZero (Runs own) = ⊥
IsZero (Ended status) = status.bits ≡ pos 0
IsZero Lost = ⊥

-- ---- files into which commands print

-- by the last answer of the system another opening has the file locked
abbrev pub IsHeldBy : Hold → Type 0
IsHeldBy Untold = ⊥
IsHeldBy Locked = Unit {0}
IsHeldBy Alone = ⊥

abbrev pub IsLocked : Printed → Type 0
IsLocked printed = IsHeldBy printed.hold

-- none has, or there are no locks
abbrev pub IsFree : Hold → Type 0
IsFree Untold = Unit {0}
IsFree Locked = ⊥
IsFree Alone = Unit {0}

abbrev pub IsLetGo : Printed → Type 0
IsLetGo printed = IsFree printed.hold

-- none has
abbrev pub IsOwn : Hold → Type 0
IsOwn Untold = ⊥
IsOwn Locked = ⊥
IsOwn Alone = Unit {0}

abbrev pub IsAlone : Printed → Type 0
IsAlone printed = IsOwn printed.hold

-- ---- commands

-- the jobs that commands were started for, in their order
abbrev pub jobs_of : List Running → List ℕ
jobs_of commands = map (λ command. command.job) commands

-- the process has this number
abbrev pub HasNumber : ℤ → Running → Type 0
HasNumber number command = IsOf number command.process.state

-- no other opening has locked the file into which it prints, unless it prints elsewhere
abbrev pub HasLetGo : Running → Type 0
HasLetGo command = IfSome command.printed IsLetGo

-- a wait has put how the process ended, and nobody has its output
abbrev pub HasEnded : Running → Type 0
HasEnded command = IsPut command.process.state × HasLetGo command

abbrev pub HasEndedAt : ℕ → List Running → Type 0
HasEndedAt place commands = place < length commands × ((default : Running) → HasEnded (slice_index_or commands place default))

-- the status that the wait put is 0
abbrev pub IsWell : Running → Type 0
IsWell command = IsZero command.process.state

-- the end is that of this process: of the job that it was started for, and well exactly where its status is 0
pub record IsEndOf (command : Running) (end : End) : Type 0 where
  pub job : end.job ≡ command.job
  pub well : IsTrue end.ok ↔ IsWell command

-- a command that has ended did so well just where this is so
pub record EndedSo (ok : Bool) : Type 0 where
  pub command : Running
  pub ended : HasEnded command
  pub well : IsTrue ok ↔ IsWell command
