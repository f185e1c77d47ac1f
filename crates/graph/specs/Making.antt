-- Makers while they are given, and what is wrong with the lowest edge that has a flaw.
use Rattle.std.specs.Prelude.{◌≡◌, ◌⊎◌, ℕ, ◌<◌, true, false, if◌then◌else◌, List, ◌∷◌, ◌++◌, length, take, get_or, Option, Some, None, is_some}
use Rattle.std.specs.List.{flat_map}
use Rattle.model.specs.declared.graph.Edge.{Edge}
use Rattle.model.specs.Graph.{has_number, IsMadeTwice}
use Rattle.model.specs.SingleBuild.{NamesOther}
use Rattle.paths.specs.declared.line.Line.{Line}
use Rattle.paths.specs.declared.manifest.Manifest.{Manifest}
use Rattle.paths.specs.Lists.{line_at, line_outputs, line_inputs}
use Rattle.paths.specs.Commands.{no_action}
use Rattle.paths.specs.Told.{text_at}
use Rattle.graph.specs.declared.makers.Flaw.{Flaw}
use Rattle.graph.specs.declared.makers.Flaw.TheVariants.{MadeTwice, NoDyndepInput}
use Rattle.graph.specs.declared.fault.GraphFault.{GraphFault}
use Rattle.graph.specs.declared.fault.GraphFault.TheVariants.{Memory, MadeTwice as MadeTwiceFault, NoDyndepInput as NoDyndepInputFault, Occupied as OccupiedFault}
use Rattle.graph.specs.Held.{maker_in, dyndep_of, StandOnce}
use Rattle.graph.specs.Linked.{IsFirstFault}

-- what the first so many edges make, in order
abbrev pub made_below : List Line → ℕ → List ℕ
made_below lines count = flat_map line_outputs (take count lines)

-- the outputs had no maker, and have this one
pub record HaveClaimed (old new : List (Option ℕ)) (outputs : List ℕ) (edge : ℕ) : Type 0 where
  pub once : StandOnce outputs
  pub fresh : (p : ℕ) → has_number outputs p ≡ true → maker_in old p ≡ None
  pub is : (p : ℕ) → maker_in new p ≡ (if has_number outputs p then Some edge else maker_in old p)

-- the first of these outputs that has a maker, or stands before already
pub record IsFirstClaimed (makers : List (Option ℕ)) (outputs : List ℕ) (p : ℕ) : Type 0 where
  pub before : List ℕ
  pub after : List ℕ
  pub splits : outputs ≡ before ++ p ∷ after
  pub once : StandOnce before
  pub fresh : (q : ℕ) → has_number before q ≡ true → maker_in makers q ≡ None
  pub claimed : (is_some (maker_in makers p) ≡ true) ⊎ (has_number before p ≡ true)

abbrev pub IsClaimedTwice : List (Option ℕ) → List ℕ → Flaw → Type 0
IsClaimedTwice makers outputs (MadeTwice p) = IsFirstClaimed makers outputs p
IsClaimedTwice makers outputs (NoDyndepInput p) = ⊥

-- the first so many edges make these paths, each once
pub record AreMakersBelow (lines : List Line) (makers : List (Option ℕ)) (count : ℕ) : Type 0 where
  pub made : (p e : ℕ) → maker_in makers p ≡ Some e → (e < count) × (has_number (line_outputs (line_at lines e)) p ≡ true)
  pub all : (p e : ℕ) → e < count → has_number (line_outputs (line_at lines e)) p ≡ true → maker_in makers p ≡ Some e
  pub once : StandOnce (made_below lines count)

-- the dyndep files of the first so many edges are inputs of these
abbrev pub HaveDyndepsBelow : Manifest → ℕ → Type 0
HaveDyndepsBelow manifest count =
    (e p : ℕ) → e < count → dyndep_of (get_or manifest.actions e no_action) ≡ Some p → has_number (line_inputs (line_at manifest.lines e)) p ≡ true

abbrev pub IsOtherDyndep : Manifest → ℕ → Flaw → Type 0
IsOtherDyndep manifest e (MadeTwice p) = ⊥
IsOtherDyndep manifest e (NoDyndepInput p) = (dyndep_of (get_or manifest.actions e no_action) ≡ Some p) × (has_number (line_inputs (line_at manifest.lines e)) p ≡ false)

-- the output is the first of the edge that was made before
pub record IsRemade (lines : List Line) (e p : ℕ) : Type 0 where
  pub before : List ℕ
  pub after : List ℕ
  pub splits : line_outputs (line_at lines e) ≡ before ++ p ∷ after
  pub once : StandOnce (made_below lines e ++ before)
  pub earlier : has_number (made_below lines e ++ before) p ≡ true

abbrev pub IsFlaw : Manifest → ℕ → Flaw → Type 0
IsFlaw manifest e (MadeTwice p) = IsRemade manifest.lines e p
IsFlaw manifest e (NoDyndepInput p) = StandOnce (made_below manifest.lines e ++ line_outputs (line_at manifest.lines e)) × IsOtherDyndep manifest e (NoDyndepInput p)

-- the flaw of the lowest edge that has one
pub record IsFirstFlaw (manifest : Manifest) (flaw : Flaw) : Type 0 where
  pub edge : ℕ
  pub within : edge < length manifest.lines
  pub once : StandOnce (made_below manifest.lines edge)
  pub dyndeps : HaveDyndepsBelow manifest edge
  pub is : IsFlaw manifest edge flaw

-- that edge is one of the first so many
abbrev pub IsFlawBelow : Manifest → ℕ → Flaw → Type 0
IsFlawBelow manifest count flaw = (first : IsFirstFlaw manifest flaw) × (first.edge < count)

-- the lowest edge with such a fault is one of the first so many
abbrev pub IsFirstBelow : List Edge → ℕ → GraphFault → Type 0
IsFirstBelow edges count fault = (k : ℕ) × (k < count) × IsFirstFault edges k fault

-- why not each of the first so many edges becomes the maker of its outputs, in texts
abbrev pub IsMakingFault : List Edge → ℕ → GraphFault → Type 0
IsMakingFault edges count Memory = Unit {0}
IsMakingFault edges count (MadeTwiceFault p) = IsMadeTwice edges p × IsFirstBelow edges count (MadeTwiceFault p)
IsMakingFault edges count (NoDyndepInputFault p) = NamesOther edges p × IsFirstBelow edges count (NoDyndepInputFault p)
IsMakingFault edges count (OccupiedFault occupied) = ⊥

-- the fault has the text of the flaw
abbrev pub IsFaultFor : List (List ℕ) → Flaw → GraphFault → Type 0
IsFaultFor paths (MadeTwice p) fault = fault ≡ MadeTwiceFault (text_at paths p)
IsFaultFor paths (NoDyndepInput p) fault = fault ≡ NoDyndepInputFault (text_at paths p)
