-- Values: how large they may be, and what their parts stand for (manual: "Variables").
use Rattle.std.specs.Prelude.{◌≡◌, ℕ, ◌*◌, ◌||◌, Bool, false, List, [], ◌∷◌, ◌++◌, bytes_eq}
use Rattle.std.specs.List.{flat_map}
use Rattle.lexer.specs.declared.statement.Piece.{Piece}
use Rattle.lexer.specs.declared.statement.Piece.TheVariants.{Text as PieceText, Name as PieceName}
use Rattle.scopes.specs.declared.template.Part.{Part}
use Rattle.scopes.specs.declared.template.Part.TheVariants.{Text, Name}

-- a value has at most 16 MiB (this project's own)
abbrev pub largest_value : ℕ
largest_value = 16 * 1024 * 1024

-- texts with the separator between each two
abbrev pub joined : List ℕ → List (List ℕ) → List ℕ
joined separator [] = []
joined separator (text ∷ texts) = text ++ flat_map (λ (next : List ℕ). separator ++ next) texts

-- the text of pieces, where each name stands for this value
abbrev pub piece_text : (List ℕ → List ℕ) → Piece → List ℕ
piece_text value (PieceText characters) = characters.now
piece_text value (PieceName name) = value name.now

abbrev pub expansion_of_pieces : (List ℕ → List ℕ) → List Piece → List ℕ
expansion_of_pieces value pieces = flat_map (piece_text value) pieces

-- the same of the parts that a rule keeps
abbrev pub part_text : (List ℕ → List ℕ) → Part → List ℕ
part_text value (Text text) = text
part_text value (Name name) = value name

abbrev pub expansion : (List ℕ → List ℕ) → List Part → List ℕ
expansion value parts = flat_map (part_text value) parts

-- whether the parts name it
abbrev pub names : List Part → List ℕ → Bool
names [] name = false
names (Text text ∷ parts) name = names parts name
names (Name other ∷ parts) name = bytes_eq other name || names parts name

-- the part that a rule keeps of a piece
abbrev pub IsPartOf : Piece → Part → Type 0
IsPartOf (PieceText characters) (Text text) = text ≡ characters.now
IsPartOf (PieceName name) (Name kept) = kept ≡ name.now
IsPartOf (PieceText characters) (Name kept) = ⊥
IsPartOf (PieceName name) (Text text) = ⊥
