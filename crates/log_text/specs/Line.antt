-- A line of a log: fields with a tab behind each, and a dot.
use Rattle.std.specs.Prelude.{◌≡◌, ◌<◌, ◌^◌, ℕ, List, [], ◌∷◌, ◌++◌, ◌==◌, if◌then◌else◌, decimal, length}
use Rattle.std.specs.List.{flat_map, AllByRecursion}
use Rattle.std.specs.Str.{IsUtf8}
use Rattle.text.specs.Marks.{Lacks}

-- a backslash, a tab and a line feed are written as a backslash and a letter
abbrev pub escaped : ℕ → List ℕ
escaped byte =
    if byte == 92 then 92 ∷ 92 ∷ [] else if byte == 9 then 92 ∷ 116 ∷ [] else if byte == 10 then 92 ∷ 110 ∷ [] else byte ∷ []

-- the field of a text
abbrev pub field_text : List ℕ → List ℕ
field_text text = flat_map escaped text

-- a field and the tab behind it
abbrev pub field_and_tab : List ℕ → List ℕ
field_and_tab text = field_text text ++ 9 ∷ []

-- the line of these fields, without its line feed
abbrev pub line_text : List (List ℕ) → List ℕ
line_text fields = flat_map field_and_tab fields ++ 46 ∷ []

-- the fields, and the tab behind each
abbrev pub fields_text : List (List ℕ) → List ℕ
fields_text fields = flat_map field_and_tab fields

-- the fields of a list: how many there are, and each
abbrev pub counted : List (List ℕ) → List (List ℕ)
counted texts = decimal (length texts) ∷ texts

abbrev pub AreTexts : List (List ℕ) → Type 0
AreTexts = AllByRecursion IsUtf8

-- no byte of the text is written as two
abbrev pub IsPlain : List ℕ → Type 0
IsPlain text = Lacks 92 text × Lacks 9 text × Lacks 10 text

-- the bytes are no text's field
abbrev pub SpellsNothing : List ℕ → Type 0
SpellsNothing field = (text : List ℕ) → IsUtf8 text → field ≡ field_text text → ⊥

-- the line is no texts'
abbrev pub IsNoLine : List ℕ → Type 0
IsNoLine line = (texts : List (List ℕ)) → AreTexts texts → line ≡ line_text texts → ⊥

-- the bytes begin with nothing that a byte is written as
abbrev pub IsNoEscape : List ℕ → Type 0
IsNoEscape bytes = (byte : ℕ) (after : List ℕ) → bytes ≡ escaped byte ++ after → ⊥

-- the fields are those of this list, and others behind them
abbrev pub HaveListFirst : List (List ℕ) → List (List ℕ) → List (List ℕ) → Type 0
HaveListFirst texts fields after = (fields ≡ counted texts ++ after) × (length texts < 2 ^ 64)

abbrev pub HaveSomeListFirst : List (List ℕ) → Type 0
HaveSomeListFirst fields =
    (texts : List (List ℕ)) × (after : List (List ℕ)) × (fields ≡ counted texts ++ after) × (length texts < 2 ^ 64)

-- the fields begin with no list
abbrev pub HaveNoListFirst : List (List ℕ) → Type 0
HaveNoListFirst fields = (texts after : List (List ℕ)) → length texts < 2 ^ 64 → fields ≡ counted texts ++ after → ⊥

-- the text begins with a digit from 1 to 9
abbrev pub Leads : List ℕ → Type 0
Leads [] = ⊥
Leads (byte ∷ rest) = (48 < byte) × (byte < 58)
