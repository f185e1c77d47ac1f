-- What is shown of a command that has ended, behind its line (this project's own).
use Rattle.std.specs.Prelude.{ℕ, List, [], ◌∷◌, ◌++◌, Option, Some, None, length, codes, decimal, nat_eq, ◌==◌, ◌||◌, if◌then◌else◌}
use Rattle.std.specs.List.{join_with_byte, ends_with}

-- what is wrong with a depfile: the number of the refusal, and its text
pub record DepfileFault : Type 0 where
  pub path : List ℕ
  pub number : ℕ
  pub text : List ℕ

pub record Failure : Type 0 where
  pub outputs : List (List ℕ)
  pub command : List ℕ
  pub depfile : Option DepfileFault

-- how the command failed, if it did, and what it printed
pub record Ending : Type 0 where
  pub failure : Option Failure
  pub output : List ℕ

-- a line of its own: `nj: depfile 'PATH': Nn: TEXT`
abbrev pub depfile_line : Option DepfileFault → List ℕ
depfile_line None = []
depfile_line (Some fault) = codes "nj: depfile '" ++ fault.path ++ codes "': N" ++ decimal fault.number ++ codes ": " ++ fault.text ++ 10 ∷ []

-- all outputs with spaces between them, and the command, each on a line
abbrev pub failed_lines : Option Failure → List ℕ
failed_lines None = []
failed_lines (Some failure) = codes "FAILED: " ++ join_with_byte 32 failure.outputs ++ 10 ∷ [] ++ failure.command ++ 10 ∷ [] ++ depfile_line failure.depfile

-- the bytes, with a newline added where the last line lacks one
abbrev pub whole_lines : List ℕ → List ℕ
whole_lines bytes = if length bytes == 0 || ends_with nat_eq bytes (10 ∷ []) then bytes else bytes ++ 10 ∷ []

abbrev pub ending_text : Ending → List ℕ
ending_text ending = failed_lines ending.failure ++ whole_lines ending.output
