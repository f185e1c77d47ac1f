-- What the log of another ninja tells, as far as it is asked.
use Rattle.std.specs.Prelude.{◌≡◌, ◌≢◌, ℕ, List, ◌∷◌, ◌++◌}
use Rattle.text.specs.Marks.{Lacks}

-- the path of an output is the fourth field of the line, and a tab ends each field
pub record IsOutputIn (line output : List ℕ) : Type 0 where
  pub start : List ℕ
  pub stop : List ℕ
  pub stamp : List ℕ
  pub more : List ℕ
  pub stands : line ≡ start ++ 9 ∷ (stop ++ 9 ∷ (stamp ++ 9 ∷ (output ++ 9 ∷ more)))
  pub fields : Lacks 9 start × Lacks 9 stop × Lacks 9 stamp × Lacks 9 output

-- the line tells of an output other than this one
pub record IsOfAnother (line other : List ℕ) : Type 0 where
  pub output : List ℕ
  pub tells : IsOutputIn line output
  pub differs : output ≢ other

-- a line of the log, with its end, tells of an output other than this one
pub record TellsOfAnother (log other : List ℕ) : Type 0 where
  pub before : List ℕ
  pub line : List ℕ
  pub after : List ℕ
  pub stands : log ≡ before ++ (line ++ 10 ∷ after)
  pub whole : Lacks 10 line
  pub tells : IsOfAnother line other
