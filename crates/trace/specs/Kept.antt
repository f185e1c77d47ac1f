-- That nothing is lost of a trace that tells something.
use Rattle.std.specs.Prelude.{◌≡◌, ℕ, List, ◌∷◌, ◌++◌, Some}
use Rattle.trace.specs.declared.fact.Fact.{Fact}
use Rattle.trace.specs.declared.lines.Reached.{Reached}
use Rattle.trace.specs.Lines.{after, lines_of, told}

-- the line was understood behind those in front of it, and what it tells stands among these facts
pub record TellsLine (start line : List ℕ) (facts : List Fact) : Type 0 where
  pub before : Reached
  pub next : Reached
  pub is : after start before line ≡ Some next
  pub new : List Fact
  pub adds : next.facts ≡ before.facts ++ new
  pub later : List Fact
  pub kept : facts ≡ next.facts ++ later

-- the lines of a trace, each of which is told
pub record AllTold (start trace : List ℕ) (facts : List Fact) : Type 0 where
  pub lines : List (List ℕ)
  pub are : lines_of trace ≡ Some lines
  pub each : (front : List (List ℕ)) (line : List ℕ) (back : List (List ℕ)) → lines ≡ front ++ line ∷ back → TellsLine start line facts

abbrev pub EachLineIsTold : Type 0
EachLineIsTold = (start trace : List ℕ) (facts : List Fact) → told start trace ≡ Some facts → AllTold start trace facts
