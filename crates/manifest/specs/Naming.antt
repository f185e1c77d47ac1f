-- Defaults, by the paths that build lines name, and laws of what build files declare.
use Rattle.std.specs.Prelude.{◌≡◌, ℕ, List, map, length, Option, Result}
use Rattle.std.specs.List.{AllZip}
use Rattle.model.specs.declared.event.Moment.{Moment}
use Rattle.model.specs.declared.graph.BuildGraph.{BuildGraph}
use Rattle.manifest.specs.declared.fault.ReadError.{ReadError}
use Rattle.manifest.specs.declared.kept.ReadDefault.{ReadDefault}
use Rattle.manifest.specs.Answer.{IsAnswerOf, ReadsFile}
use Rattle.manifest.specs.Graphs.{OfDefault, OfDefaults, Declares}
use Rattle.manifest.specs.Held.{IsDefaultOf, is_done}
use Rattle.manifest.specs.InNumbers.{AreKeys, IsLonger}
use Rattle.manifest.specs.Readings.{Outcome}
use Rattle.manifest.specs.States.{Default}

-- ---- defaults

-- of the paths whose texts are the first of the table, and whatever the defaults say
abbrev pub OfNamed : {S : Type 0} → List (List ℕ) → ℕ → (List (List ℕ) → S → Type 0) → Type 0
OfNamed {S = S} table count P = (known paths : List (List ℕ)) (said : S)
    → IsLonger known table → count ≡ length known → AreKeys known paths → P paths said

abbrev pub IsDefaultFound : {T : Type 0} → ReadDefault → Result T ReadError → List (List ℕ) → Default → Type 0
IsDefaultFound default result paths said = IsDefaultOf default said → IsAnswerOf (OfDefault paths said) (is_done result)

abbrev pub AreDefaultsFound : {T : Type 0} → List ReadDefault → Result T ReadError → List (List ℕ) → List Default → Type 0
AreDefaultsFound defaults result paths said =
    AllZip IsDefaultOf defaults said → IsAnswerOf (OfDefaults paths said) (is_done result)

abbrev pub default_paths : List ReadDefault → List (List ℕ)
default_paths defaults = map (λ (default : ReadDefault). default.path) defaults

-- ---- laws

-- what files that stand still declare
abbrev pub DeclaresStill : (List ℕ → Option (List ℕ)) → List ℕ → Outcome BuildGraph → Type 0
DeclaresStill files name outcome = Declares (λ file content. content ≡ files file) name outcome

abbrev pub HaveOneOutcome : (List ℕ → Option (List ℕ)) → List ℕ → Type 0
HaveOneOutcome files name =
    (one other : Outcome BuildGraph) → DeclaresStill files name one → DeclaresStill files name other → one ≡ other

-- what was declared up to a moment was declared up to a later one
abbrev pub IsReadLater : List ℕ → List Moment → List Moment → List Moment → Result BuildGraph ReadError → Type 0
IsReadLater name old mid new result = ReadsFile name old mid result → ReadsFile name old new result
