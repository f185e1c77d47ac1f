-- How far the lines of a text were read that comes in pieces.
use Rattle.std.specs.Prelude.{◌≡◌, ℕ, List, [], ◌∷◌, ◌++◌}
use Rattle.std.specs.List.{AllByRecursion}
use Rattle.text.specs.Marks.{Lacks}
use Rattle.shares.specs.declared.reading.Lines.{Lines}

-- whatever lines were taken before, this one was taken behind them
abbrev pub ReadsOn : {T : Type 0} → (List (List ℕ) → T → Type 0) → List ℕ → T → T → Type 0
ReadsOn Read line old new = (lines : List (List ℕ)) → Read lines old → Read (lines ++ line ∷ []) new

-- lines, each of which is ended by a line feed
abbrev pub text_of_lines : List (List ℕ) → List ℕ
text_of_lines [] = []
text_of_lines (line ∷ lines) = line ++ 10 ∷ text_of_lines lines

-- the text was read so far: its lines, and behind them bytes without a line feed
pub record ReadsTo {T : Type 0} (Read : List (List ℕ) → T → Type 0) (text : List ℕ) (it : Lines T) : Type 0 where
  pub lines : List (List ℕ)
  pub parts : text ≡ text_of_lines lines ++ it.rest.items
  pub whole : AllByRecursion (Lacks 10) lines
  pub lacks : Lacks 10 it.rest.items
  pub told : Read lines it.taker

-- whatever was read before, these bytes and a line feed were read behind it
abbrev pub ReadsWhole : {T : Type 0} → (List (List ℕ) → T → Type 0) → List ℕ → Lines T → Lines T → Type 0
ReadsWhole Read front old new = (text : List ℕ) → ReadsTo Read text old → ReadsTo Read ((text ++ front) ++ 10 ∷ []) new

-- whatever text was read, its whole lines were taken
abbrev pub HasRead : {T : Type 0} → (List (List ℕ) → T → Type 0) → Lines T → T → Type 0
HasRead Read it taker =
    (text : List ℕ) → ReadsTo Read text it → (lines : List (List ℕ)) × (text ≡ text_of_lines lines ++ it.rest.items) × Read lines taker
