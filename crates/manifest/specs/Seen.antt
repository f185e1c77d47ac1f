-- What the reading of files says of the site and of the files that it reads.
use Rattle.std.specs.Prelude.{◌≡◌, ℕ, ◌<◌, ◌≤◌, Bool, false, IsTrue, List, [], ◌∷◌, map, Option, None, Result, Ok, Err, IsErrOf}
use Rattle.std.specs.Option.{option_map}
use Rattle.lexer.specs.declared.fault.Fault.{Fault}
use Rattle.lexer.specs.declared.statement.Line.{Line}
use Rattle.lexer.specs.declared.statement.Value.{Value}
use Rattle.lexer.specs.Said.{fragments_of, form_of, said_of}
use Rattle.model.specs.declared.fault.SiteFault.{SiteFault}
use Rattle.model.specs.declared.fault.SiteFault.TheVariants.{Device}
use Rattle.model.specs.World.{World}
use Rattle.model.specs.Calls.{is_stop}
use Rattle.manifest.specs.declared.blocks.Group.{Group as KeptGroup}
use Rattle.manifest.specs.declared.kept.Declared.{Declared}
use Rattle.manifest.specs.declared.reader.Opened.{Opened}
use Rattle.manifest.specs.Readings.{Outcome, Reading}
use Rattle.manifest.specs.Readings.Outcome.{Reached}
use Rattle.manifest.specs.States.{State}
use Rattle.manifest.specs.Blocks.{block_lines, groups_of}
use Rattle.manifest.specs.declared.place.Place.{Place as KeptPlace}
use Rattle.manifest.specs.Files.{Holds, Inner, Found, OfForm, OfGroups, Reads, OfFile, OpenOf, InScope, fault_in, too_deep_at, inner_at}
use Rattle.manifest.specs.declared.fault.ReadError.{ReadError}
use Rattle.manifest.specs.Answer.{Answer, held, site_part, IsFaultSeen}
use Rattle.manifest.specs.Places.{place_of}
use Rattle.manifest.specs.Held.{IsStateOf, InEachState}

-- what was seen from one world to another, when all of this lies between an entry and an exit
abbrev pub Covers : World → World → World → World → Type 0
Covers entry exit old new =
    (name : List ℕ) (content : Option (List ℕ)) → held old.history new.history name content → held entry.history exit.history name content

abbrev pub seen : World → World → Holds
seen entry exit = held entry.history exit.history

-- A fault of the site has its cause, and nothing else is counted as one, in calls of which the last alone may have failed. A site
-- that has stopped before is not asked here.
pub record IsCaused {T : Type 0} (old new : World) (result : Result T SiteFault) : Type 0 where
  pub grows : old.failures ≤ new.failures
  pub device : IsErrOf result Device → old.failures < new.failures
  pub others : (IsErrOf result Device → ⊥) → new.failures ≡ old.failures
  pub stopped : old.stopped ≡ false → new.stopped ≡ is_stop result
  pub earlier : new.earlier ≡ old.earlier

-- the file that was found, or why none was, is that of the reading
abbrev pub FindsFile : (Outcome Found → Type 0) → Result Opened ReadError → Type 0
FindsFile reading (Ok opened) = reading (Reached (record { name = opened.file.value; bytes = opened.bytes }))
FindsFile reading (Err error) = IsFaultSeen reading error

-- the call's answer, and what is kept after it, are those of the reading; the site may give a fault
abbrev pub SaysSeen : Result (Unit {0}) ReadError → Declared → (Outcome State → Type 0) → Type 0
SaysSeen (Ok value) after reading = (state : State) × IsStateOf after state × reading (Reached state)
SaysSeen (Err error) after reading = IsFaultSeen reading error

-- what is kept is what some build files say
abbrev pub IsStated : Declared → Type 0
IsStated declared = (state : State) × IsStateOf declared state

-- what a statement says, and what statements say
abbrev pub GroupSays : Holds → ℕ → KeptGroup → State → Reading State
GroupSays holds levels group =
    OfForm holds (too_deep_at levels) (inner_at holds levels) (place_of group.place) (form_of group.statement.now)
    (block_lines (map said_of group.block.now)) (option_map (fault_in group.place.file.now.value) group.behind)

abbrev pub LinesSay : Holds → ℕ → List ℕ → Option Fault → List Line → State → Reading State
LinesSay holds levels file fault lines =
    OfGroups holds (too_deep_at levels) (inner_at holds levels) file (option_map (fault_in file) fault) (groups_of (map said_of lines))

abbrev pub if_no_line : List Line → Option Fault → Option Fault
if_no_line [] fault = fault
if_no_line (line ∷ lines) fault = None

-- ---- of all worlds between which a call lies

-- what is read from files that hold this
abbrev pub FromHolds : Type 0 → Type 1
FromHolds X = Holds → State → Reading X

abbrev pub HasCauseIn : {T : Type 0} → World → World → Result T ReadError → Type 0
HasCauseIn old new result = IsCaused old new (site_part result)

-- of what may have been seen, and of each state that was kept
abbrev pub OfSeen : World → World → Declared → (Holds → State → Type 0) → Type 0
OfSeen old new kept P = (entry exit : World) → Covers entry exit old new
    → InEachState kept (λ state. P (seen entry exit) state)

-- the answer, and what is kept after it, are those of the reading
abbrev pub Tells : Bool → World → World → Declared → Declared → Answer → FromHolds State → Type 0
Tells tells old new before after result reading = IsTrue tells
    → OfSeen old new before (λ holds state. SaysSeen result after (reading holds state))

abbrev pub Finds : Bool → World → World → Declared → Result Opened ReadError → FromHolds Found → Type 0
Finds tells old new kept result reading = IsTrue tells
    → OfSeen old new kept (λ holds state. FindsFile (reading holds state) result)

-- what a file, its statements and one of them say, by what files hold
abbrev pub FileSays : ℕ → List ℕ → List ℕ → FromHolds State
FileSays levels file bytes holds = Reads holds levels file bytes

abbrev pub TextSays : ℕ → List ℕ → Option Fault → List Line → FromHolds State
TextSays levels file fault lines holds = LinesSay holds levels file fault lines

abbrev pub StatementSays : ℕ → KeptGroup → FromHolds State
StatementSays levels group holds = GroupSays holds levels group

-- what `include` and `subninja` say, and the file that they open
abbrev pub OfPath : ℕ → KeptPlace → Value → Holds → Inner → State → Reading State
OfPath levels place path holds inner = OfFile (place_of place) holds (too_deep_at levels) inner (fragments_of path)

abbrev pub IncludeSays : ℕ → KeptPlace → Value → FromHolds State
IncludeSays levels place path holds = OfPath levels place path holds (inner_at holds levels)

abbrev pub SubninjaSays : ℕ → KeptPlace → Value → FromHolds State
SubninjaSays levels place path holds = OfPath levels place path holds (InScope (inner_at holds levels))

abbrev pub OpenSays : ℕ → KeptPlace → Value → FromHolds Found
OpenSays levels place path holds = OpenOf (place_of place) holds (too_deep_at levels) (fragments_of path)
