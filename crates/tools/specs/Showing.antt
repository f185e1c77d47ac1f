-- Trees of paths and sorted texts, line by line: what is still to be printed between two lines.
use Rattle.std.specs.Prelude.{◌≡◌, ℕ, zero, suc, ◌+◌, ◌-◌, ◌*◌, ◌<◌, ◌≤◌, List, [], ◌∷◌, ◌++◌, Option, None, Some, drop, length, get_or, flat_map, bytes_eq, if◌then◌else◌}
use Rattle.graph.specs.Links.{links_of}
use Rattle.tools.specs.Answers.{indented, lines, path_text, tree, with_rule}
use Rattle.tools.specs.declared.declared.Declared.{Declared}
use Rattle.tools.specs.declared.listing.Level.{Level}

-- so many spaces stand in front of a line, two for each level
abbrev pub indentation : ℕ → List ℕ
indentation zero = []
indentation (suc level) = 32 ∷ 32 ∷ indentation level

-- the line of a path
abbrev pub head_line : Declared → (level p : ℕ) → Option ℕ → List ℕ
head_line declared level p None = indented level (path_text declared p)
head_line declared level p (Some e) = indented level (with_rule declared e p)

abbrev pub path_line : Declared → (level p : ℕ) → List ℕ
path_line declared level p = head_line declared level p ((links_of declared.graph).maker p)

-- what these paths of a level come to
abbrev pub shown : Declared → (depth level : ℕ) → List ℕ → List (List ℕ)
shown declared depth level paths = flat_map (tree declared (depth - level) level) paths

abbrev pub left_from : Declared → (depth level : ℕ) → List Level → List (List ℕ)
left_from declared depth level [] = []
left_from declared depth level (one ∷ levels) = left_from declared depth (suc level) levels ++ shown declared depth level (drop one.place one.paths.now)

-- the lines that are still to be printed, the lowest level first in the list
abbrev pub left_lines : Declared → ℕ → List Level → List (List ℕ)
left_lines declared depth levels = left_from declared depth 0 levels

-- what is still to be done
abbrev pub to_show : Declared → ℕ → List Level → ℕ
to_show declared depth levels = 2 * length (left_lines declared depth levels) + length levels

-- the level above the edge was opened
abbrev pub OpensAbove : Declared → Option ℕ → (old new : List Level) → Type 0
OpensAbove declared None old new = new ≡ old
OpensAbove declared (Some e) old new = (level : Level) × (new ≡ old ++ level ∷ []) × (level.paths.now ≡ (links_of declared.graph).inputs e) × (level.place ≡ 0)

-- So it was where the path has one, and lines are shown as deep as that.
pub record Opens (declared : Declared) (depth p : ℕ) (old new : List Level) : Type 0 where
  pub deep : depth ≤ length old → new ≡ old
  pub above : length old < depth → OpensAbove declared ((links_of declared.graph).maker p) old new

-- The last level was gone on with: what was told and what is left are what they were, and there is less to do.
pub record Shows (declared : Declared) (depth : ℕ) (level : Level) (old new : List Level) (told more : List ℕ) : Type 0 where
  pub same : more ++ lines (left_lines declared depth new) ≡ told ++ lines (left_lines declared depth (old ++ level ∷ []))
  pub nearer : to_show declared depth new < to_show declared depth (old ++ level ∷ [])
  pub fits : length new ≤ depth

-- So the level goes on: this is its next path.
pub record Goes (level : Level) (path : ℕ) : Type 0 where
  pub within : level.place < length level.paths.now
  pub is : path ≡ get_or level.paths.now level.place path

-- nothing of a level is left, or it goes on so
abbrev pub IsGoneOn : Level → Option ℕ → Type 0
IsGoneOn level None = length level.paths.now ≤ level.place
IsGoneOn level (Some path) = Goes level path

-- ---- texts, each once

-- a text, unless it is the last one again
abbrev pub unless_same : Option (List ℕ) → List ℕ → List (List ℕ)
unless_same None text = text ∷ []
unless_same (Some last) text = if bytes_eq last text then [] else text ∷ []

-- these texts, of equal ones that stand side by side one
abbrev pub unrepeated : Option (List ℕ) → List (List ℕ) → List (List ℕ)
unrepeated last [] = []
unrepeated last (text ∷ texts) = unless_same last text ++ unrepeated (Some text) texts
