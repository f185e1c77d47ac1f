-- What names and texts of the rule stand for where some of its texts are expanded already, whatever was done to the scopes.
use Rattle.std.specs.Prelude.{◌≡◌, ◌<◌, ℕ, List, length, Some, String}
use Rattle.std.specs.declared.alloc.Global.{Global}
use Rattle.scopes.specs.declared.template.Part.{Part}
use Rattle.scopes.specs.declared.template.Template.{Template}
use Rattle.scopes.specs.declared.at_use.Known.{Known}
use Rattle.scopes.specs.Texts.{expansion, part_text, largest_value}
use Rattle.scopes.specs.Moves.{Move}
use Rattle.scopes.specs.Scopes.{Always}
use Rattle.scopes.specs.Use.{opened}
use Rattle.scopes.specs.Known.{known_value, other_value, text_of, Learns}
use Rattle.scopes.specs.Growing.{AddsValue, IsTooMuchValue}

-- ---- values

-- a name stands for this, or for what is too large
abbrev pub IsKnownValue : Known → List ℕ → List ℕ → Type 0
IsKnownValue known name value = Always known.scopes.now (λ past. value ≡ known_value known past name)

abbrev pub IsLargeValue : Known → List ℕ → Type 0
IsLargeValue known name = Always known.scopes.now (λ past. largest_value < length (known_value known past name))

-- a name that stands for no paths stands for this
abbrev pub IsOtherValue : Known → List ℕ → List ℕ → Type 0
IsOtherValue known name value = Always known.scopes.now (λ past. value ≡ other_value known past name)

-- a text of the rule expands to this, or to what is too large
abbrev pub IsTextOf : Known → Template → List ℕ → Type 0
IsTextOf known template value = Always known.scopes.now (λ past. value ≡ text_of known past template)

abbrev pub IsLargeText : Known → Template → Type 0
IsLargeText known template = Always known.scopes.now (λ past. largest_value < length (text_of known past template))

-- the same of the text of the rule that the name stands for, if it does
abbrev pub IsTextAt : Known → List ℕ → List ℕ → Type 0
IsTextAt known name value = (template : Template) → opened known.at.now name ≡ Some template → IsTextOf known template value

abbrev pub IsLargeTextAt : Known → List ℕ → Type 0
IsLargeTextAt known name = (template : Template) → opened known.at.now name ≡ Some template → IsLargeText known template

-- the value of that text is known now
abbrev pub HasLearnt : Known → Known → List ℕ → Template → Type 0
HasLearnt old new name template = (value : List ℕ) × Learns old new name value × IsTextOf old template value

abbrev pub LearnsText : Known → Known → List ℕ → Type 0
LearnsText old new name = (template : Template) → opened old.at.now name ≡ Some template → HasLearnt old new name template

-- ---- what is put behind a text

-- what a name, a part, parts stand for
abbrev pub name_in : Known → List ℕ → List Move → List ℕ
name_in known name past = known_value known past name

abbrev pub part_in : Known → Part → List Move → List ℕ
part_in known part past = part_text (known_value known past) part

abbrev pub parts_in : Known → List Part → List Move → List ℕ
parts_in known parts past = expansion (known_value known past) parts

-- it was put behind the text
abbrev pub AddsName : Known → String Global → String Global → List ℕ → Type 0
AddsName known old new name = AddsValue known.scopes.now old new (name_in known name)

abbrev pub AddsPart : Known → String Global → String Global → Part → Type 0
AddsPart known old new part = AddsValue known.scopes.now old new (part_in known part)

abbrev pub AddsParts : Known → String Global → String Global → List Part → Type 0
AddsParts known old new parts = AddsValue known.scopes.now old new (parts_in known parts)

-- with it the text would be too large
abbrev pub IsTooMuchName : Known → String Global → List ℕ → Type 0
IsTooMuchName known old name = IsTooMuchValue known.scopes.now old (name_in known name)

abbrev pub IsTooMuchPart : Known → String Global → Part → Type 0
IsTooMuchPart known old part = IsTooMuchValue known.scopes.now old (part_in known part)

abbrev pub AreTooMuch : Known → String Global → List Part → Type 0
AreTooMuch known old parts = IsTooMuchValue known.scopes.now old (parts_in known parts)
