-- lines on standard error
use Rattle.std.specs.Prelude.{◌≡◌, ◌+◌, ◌≤◌, ℕ, List, ◌⊎◌, Option, IfSome, codes, drop}
use Rattle.locks.specs.Names.{BeginsWith}
use Rattle.locks.specs.declared.lines.Holders.{Holders}

-- a line by which a build tells that it waits for the folder
abbrev pub TellsFolder : List ℕ → Type 0
TellsFolder = BeginsWith (codes "nj: waiting for another nj in this folder")

-- and for a command
abbrev pub TellsCommand : List ℕ → Type 0
TellsCommand = BeginsWith (codes "nj: waiting for a command of an earlier build")

-- and for what a command of its own left behind
abbrev pub TellsBehind : List ℕ → Type 0
TellsBehind = BeginsWith (codes "nj: waiting for what a command left behind")

-- a line by which a build tells that it waits
abbrev pub TellsWait : List ℕ → Type 0
TellsWait line = (TellsFolder line ⊎ TellsCommand line) ⊎ TellsBehind line

-- the end of a text from some place on
abbrev pub IsEndOf : List ℕ → List ℕ → Type 0
IsEndOf text end = (start : ℕ) × (end ≡ drop start text)

-- one more process is seen that holds something
abbrev pub with_one_more : Holders → Holders
with_one_more holders = record holders { more = holders.more + 1 }

-- It is time to tell what commands left behind: the process of one ended half a second ago, and the last line came a minute ago, if one
-- came. Times are in milliseconds.
abbrev pub IsBehindDue : ℕ → Option ℕ → Type 0
IsBehindDue ended told = (500 ≤ ended) × IfSome told (λ told. 60000 ≤ told)
