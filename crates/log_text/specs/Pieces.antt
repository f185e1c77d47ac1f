-- How far the text of a log was read that comes in pieces.
use Rattle.std.specs.Prelude.{◌≡◌, ◌≢◌, ℕ, List, [], ◌++◌}
use Rattle.text.specs.Marks.{Lacks}
use Rattle.text.specs.Handed.{TakesOn}
use Rattle.log_text.specs.declared.form.Version.{Version}
use Rattle.log_text.specs.declared.pieces.Stage.{Stage}
use Rattle.log_text.specs.declared.pieces.Stage.TheVariants.{First, Lines, Broken}
use Rattle.log_text.specs.declared.pieces.SoFar.{SoFar}
use Rattle.log_text.specs.declared.pieces.Pieces.{Pieces}
use Rattle.log_text.specs.Form.{Form}
use Rattle.log_text.specs.Keeping.{Keeping}
use Rattle.log_text.specs.Text.{IsLogOf, EndsLine}

-- whole lines, one at least, with which no log begins
pub record BeginNoLog {R : Type 0} (forms : Version → Form R) (lines : List ℕ) : Type 0 where
  pub some : lines ≢ []
  pub ends : EndsLine lines
  pub none : (more : List ℕ) (version : Version) (records : List R) → IsLogOf (forms version) (lines ++ more) records → ⊥

-- these lines are a log of records that are kept
abbrev pub IsKeptLog : {R L : Type 0} → Form R → Keeping R L → List ℕ → L → Type 0
IsKeptLog {R} form Keeps lines log = (records : List R) × IsLogOf form lines records × Keeps records log

-- these lines were read: none; or a log of this version, whose records are kept; or lines with which no log begins
abbrev pub StandsAt : {R L : Type 0} → (Version → Form R) → Keeping R L → List ℕ → L → Stage → Type 0
StandsAt forms Keeps lines log First = (lines ≡ []) × Keeps [] log
StandsAt forms Keeps lines log (Lines version) = IsKeptLog (forms version) Keeps lines log
StandsAt forms Keeps lines log Broken = BeginNoLog forms lines

-- so it is of what was kept of them
abbrev pub HasRead : {R L : Type 0} → (Version → Form R) → Keeping R L → List ℕ → SoFar L → Type 0
HasRead forms Keeps lines it = StandsAt forms Keeps lines it.log it.stage

-- what stands in front of the rest of these lines was read: the first line of the log, or nothing
pub record PassesFirst {R L : Type 0} (forms : Version → Form R) (Keeps : List R → L → Type 0) (lines rest : List ℕ) (old new : SoFar L) : Type 0 where
  pub front : List ℕ
  pub parts : lines ≡ front ++ rest
  pub ends : EndsLine rest
  pub none : new.stage ≡ First → rest ≡ []
  pub passed : TakesOn (HasRead forms Keeps) front old new

-- the text was read so far: its lines, and behind them bytes without a line feed
pub record ReadsTo {R L : Type 0} (forms : Version → Form R) (Keeps : List R → L → Type 0) (text : List ℕ) (pieces : Pieces L) : Type 0 where
  pub lines : List ℕ
  pub parts : text ≡ lines ++ pieces.rest.items
  pub lacks : Lacks 10 pieces.rest.items
  pub told : HasRead forms Keeps lines pieces.so_far

-- some text was read so far
abbrev pub ReadsSome : {R L : Type 0} → (Version → Form R) → Keeping R L → Pieces L → Type 0
ReadsSome forms Keeps pieces = (text : List ℕ) × ReadsTo forms Keeps text pieces
