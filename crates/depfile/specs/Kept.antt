-- What is kept while a depfile is read.
use Rattle.std.specs.Prelude.{◌≡◌, ℕ, List, ◌++◌, [], ◌∷◌, map, Option, Some, None, Err}
use Rattle.std.specs.List.{AllZip}
use Rattle.std.specs.Cow.{cow_str_bytes}
use Rattle.std.specs.declared.borrow.CowStr.{CowStr}
use Rattle.lexer.specs.Path.{IsCanonical}
use Rattle.depfile.specs.Signs.{signs, spelled}
use Rattle.depfile.specs.declared.fault.DepFault.TheVariants.{NoColon}
use Rattle.depfile.specs.declared.fault.ReadError.{ReadError}
use Rattle.depfile.specs.declared.fault.ReadError.TheVariants.{Memory, Fault}
use Rattle.depfile.specs.Depfile.{Word, both, inputs, firsts, AreInputs, IsRead}

-- the texts are these paths, each once
abbrev pub AreKept : {Z : Type 0} → List (List ℕ) → List (CowStr Z) → Type 0
AreKept all kept = map cow_str_bytes kept ≡ firsts all

-- the inputs of a text are new ones, whose paths were added to those kept, and then those of the rest
pub record Adds {Z : Type 0} (left : Option (List Word)) (rest : List ℕ) (all : List (List ℕ)) (kept : List (CowStr Z)) : Type 0 where
  pub words : List Word
  pub paths : List (List ℕ)
  pub canonical : AllZip IsCanonical (map spelled words) paths
  pub now : AreKept (all ++ paths) kept
  pub left_is : left ≡ both (Some words) (inputs (signs rest))

-- the path that these characters name was added to those kept
pub record AddsPath {Z : Type 0} (name : List ℕ) (all : List (List ℕ)) (kept : List (CowStr Z)) : Type 0 where
  pub path : List ℕ
  pub canonical : IsCanonical name path
  pub now : AreKept (all ++ path ∷ []) kept

-- all inputs of a text are kept
pub record SaysInputs {Z : Type 0} (text : List ℕ) (kept : List (CowStr Z)) : Type 0 where
  pub words : List Word
  pub said : inputs (signs text) ≡ Some words
  pub inputs_are : AreInputs words (map cow_str_bytes kept)

abbrev pub RefusesText : List ℕ → ReadError → Type 0
RefusesText text Memory = Unit {0}
RefusesText text (Fault fault) = (fault ≡ NoColon) × (inputs (signs text) ≡ None)

-- the fault that is answered is that of the bytes
abbrev pub AnswersFault : List ℕ → ReadError → Type 0
AnswersFault bytes Memory = Unit {0}
AnswersFault bytes (Fault fault) = IsRead bytes (Err fault)

-- so it is, whatever was kept before
abbrev pub AddsMore : {Y Z : Type 0} → Option (List Word) → List ℕ → List (CowStr Y) → List (CowStr Z) → Type 0
AddsMore left rest old new = (all : List (List ℕ)) → AreKept all old → Adds left rest all new

abbrev pub AddsName : {Y Z : Type 0} → List ℕ → List (CowStr Y) → List (CowStr Z) → Type 0
AddsName name old new = (all : List (List ℕ)) → AreKept all old → AddsPath name all new
