-- What a terminal shows of what is written to it: a small model, this project's own.
use Rattle.std.specs.Prelude.{◌≡◌, ℕ, Bool, true, false, List, [], ◌∷◌, ◌++◌, codes, length, ◌==◌, if◌then◌else◌}
use Rattle.std.specs.List.{flat_map}

-- ---- what is written, piece by piece

pub data Piece : Type 0 where
  -- bytes as they are
  Bytes : List ℕ → Piece
  -- up over the rows of this text, which are erased
  Over : List ℕ → Piece
  -- lines are cut at the edge from here on
  Cut : Piece
  -- lines are wrapped from here on
  Wrap : Piece

-- one row up where a line of it ends
abbrev pub up : ℕ → List ℕ
up byte = if byte == 10 then 27 ∷ codes "[A" else []

-- to the first column, and all from there on is erased; nothing where there are no rows
abbrev pub erased : List ℕ → List ℕ
erased rows = if length rows == 0 then [] else 13 ∷ 27 ∷ codes "[J"

-- how a piece is written
abbrev pub piece_text : Piece → List ℕ
piece_text (Bytes bytes) = bytes
piece_text (Over rows) = flat_map up rows ++ erased rows
piece_text Cut = 27 ∷ codes "[?7l"
piece_text Wrap = 27 ∷ codes "[?7h"

abbrev pub written : List Piece → List ℕ
written [] = []
written (piece ∷ pieces) = piece_text piece ++ written pieces

-- ---- what is shown

-- what stands above, whose lines are wrapped, and the rows below it, each of which is cut at the edge: so it takes one row of the
-- screen, whatever its width
pub record Screen : Type 0 where
  pub above : List ℕ
  pub below : List ℕ
  -- lines are cut from here on
  pub cuts : Bool

-- a screen whose lines are wrapped from here on
abbrev pub screen : List ℕ → List ℕ → Screen
screen above below = record { above = above; below = below; cuts = false }

-- a text is written: below where lines are cut; above where they are wrapped, and only where no rows stand below
abbrev pub PutsBytes : Bool → List ℕ → Screen → Screen → Type 0
PutsBytes true bytes old new = new ≡ record { above = old.above; below = old.below ++ bytes; cuts = true }
PutsBytes false bytes old new = (old.below ≡ []) × (new ≡ record { above = old.above ++ bytes; below = []; cuts = false })

-- what a piece does; rows are erased only where just these stand below
abbrev pub Puts : Piece → Screen → Screen → Type 0
Puts (Bytes bytes) old new = PutsBytes old.cuts bytes old new
Puts (Over rows) old new = (old.below ≡ rows) × (new ≡ record { above = old.above; below = []; cuts = old.cuts })
Puts Cut old new = new ≡ record { above = old.above; below = old.below; cuts = true }
Puts Wrap old new = new ≡ record { above = old.above; below = old.below; cuts = false }

abbrev pub Draws : List Piece → Screen → Screen → Type 0
Draws [] old new = new ≡ old
Draws (piece ∷ pieces) old new = (next : Screen) × Puts piece old next × Draws pieces next new

-- ---- drawings

-- over the old rows, then what stays, wrapped, then the new rows, cut; at the end lines are wrapped
abbrev pub drawing : (old_rows stays new_rows : List ℕ) → List Piece
drawing old_rows stays new_rows =
    Cut ∷ Over old_rows ∷ Wrap ∷ Bytes stays ∷ Cut ∷ Bytes new_rows ∷ Wrap ∷ []

-- The bytes take a screen with these rows below, whatever stands above, to one with those: just this text stays, behind all that stands
-- above, and lines are wrapped then.
pub record Shows (old_rows bytes stays new_rows : List ℕ) : Type 0 where
  pub pieces : List Piece
  pub are : bytes ≡ written pieces
  pub draw : (above : List ℕ) → Draws pieces (screen above old_rows) (screen (above ++ stays) new_rows)
