-- The name of a program in a command.
use Rattle.std.specs.Prelude.{◌≡◌, ◌≢◌, ℕ, List, [], ◌++◌}
use Rattle.text.specs.Marks.{Lacks}

-- the name stands in the command; it is not empty, and has no slash and no blank
pub record IsNameIn (command name : List ℕ) : Type 0 where
  pub before : List ℕ
  pub after : List ℕ
  pub stands : command ≡ before ++ (name ++ after)
  pub some : name ≢ []
  pub last : Lacks 47 name
  pub word : Lacks 32 name
