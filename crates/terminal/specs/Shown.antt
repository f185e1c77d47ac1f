-- What a step shows. The definitions are this project's own.
use Rattle.std.specs.Prelude.{◌≡◌, ◌⊎◌, ℕ, List, [], ◌∷◌, ◌++◌, Option, Some, None, unwrap_or, vec_items}
use Rattle.std.specs.Option.{option_map}
use Rattle.terminal.specs.declared.live.Live.{Live}
use Rattle.terminal.specs.Screen.{Shows}
use Rattle.terminal.specs.Texts.{IsLine}

-- the rows that are drawn; none where none may be
abbrev pub drawn_of : Live → List ℕ
drawn_of live = unwrap_or (option_map vec_items live.area) []

-- a line that stays, with its end; nothing where it is empty
abbrev pub whole_line : List ℕ → List ℕ
whole_line [] = []
whole_line (byte ∷ bytes) = (byte ∷ bytes) ++ 10 ∷ []

-- what stays where the rows are taken away for good: the line that passed, where rows may be drawn
abbrev pub last_line : Live → List ℕ
last_line live = unwrap_or (option_map (λ rows. whole_line live.line.items) live.area) []

-- the text is one line, which passes: nothing of it stays, and it is the line to be drawn
pub record PassesBy (text bytes : List ℕ) (old new : Live) : Type 0 where
  pub line : List ℕ
  pub is : IsLine text line
  pub shows : Shows (drawn_of old) bytes [] (drawn_of new)
  pub drawn : new.line.items ≡ line

-- the text stays, or is one line, which passes
abbrev pub ShowsText : List ℕ → List ℕ → Live → Live → Type 0
ShowsText text bytes old new = Shows (drawn_of old) bytes text (drawn_of new) ⊎ PassesBy text bytes old new
