-- the names of files by which the commands of a build are known, and of programs
use Rattle.std.specs.Prelude.{◌≡◌, ◌==◌, ℕ, List, ◌++◌, ◌⊎◌, codes}
use Rattle.std.specs.List.{before_first}
use Rattle.std.specs.Str.Parse.{IsNumeral, digits_value, without_leading_plus}

-- a text begins with another
abbrev pub BeginsWith : List ℕ → List ℕ → Type 0
BeginsWith start text = (rest : List ℕ) × (text ≡ start ++ rest)

-- a file into which a command prints
abbrev pub IsOutput : List ℕ → Type 0
IsOutput = BeginsWith (codes ".nj_out.")

-- a text whose part in front of the first full stop spells this number, with a plus in front or not
abbrev pub BeginsWithNumber : ℕ → List ℕ → Type 0
BeginsWithNumber number text =
    let word = without_leading_plus (before_first (λ b. b == 46) text) in
    IsNumeral 10 word × (digits_value 10 word ≡ number)

-- a file into which a command of the build of this process prints
abbrev pub IsMadeBy : ℕ → List ℕ → Type 0
IsMadeBy process name = (numbers : List ℕ) × (name ≡ codes ".nj_out." ++ numbers) × BeginsWithNumber process numbers

-- a file that a command has from its build
abbrev pub IsLeft : List ℕ → Type 0
IsLeft name = (name ≡ codes ".nj_in") ⊎ IsOutput name

-- a program that makes builds
abbrev pub IsBuilder : List ℕ → Type 0
IsBuilder name = (name ≡ codes "nj") ⊎ (name ≡ codes "ninja")
