-- What is noted while paths are expanded.
use Rattle.std.specs.Prelude.{◌≡◌, ℕ, ◌||◌, Bool, true, List, Option, None, Some}
use Rattle.lexer.specs.declared.fault.FaultKind.TheVariants.{TooLarge, EmptyPath}
use Rattle.lexer.specs.Path.{IsCanonical}
use Rattle.lexer.specs.Said.{Fragments}
use Rattle.manifest.specs.declared.fault.FaultKind.TheVariants.{Line}
use Rattle.manifest.specs.declared.path_reader.PathReader.{PathReader}
use Rattle.manifest.specs.Readings.{Place, Reading, Unless, Give, fault_at}
use Rattle.manifest.specs.Expansion.{some_text, is_empty, is_large}

-- what is wrong with some of these is noted
pub record FlagsAfter (old new : PathReader) (value : List ℕ → List ℕ) (texts : List Fragments) : Type 0 where
  pub empty : new.has_empty ≡ (old.has_empty || some_text is_empty value texts)
  pub large : new.has_large ≡ (old.has_large || some_text is_large value texts)

abbrev pub IsPathFound : List ℕ → Option (List ℕ) → Type 0
IsPathFound text None = ⊥
IsPathFound text (Some path) = IsCanonical text path

abbrev pub NoneIsWrong : Place → Bool → Bool → Reading (Unit {0})
NoneIsWrong place has_empty has_large =
    Unless (has_empty ≡ true) (fault_at place (Line EmptyPath)) (Unless (has_large ≡ true) (fault_at place (Line TooLarge)) (Give tt))
