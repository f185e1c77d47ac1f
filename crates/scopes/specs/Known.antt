-- What names stand for where some of the rule's texts are expanded already.
use Rattle.std.specs.Prelude.{◌≡◌, ℕ, List, [], Some, unwrap_or, if◌then◌else◌, bytes_eq}
use Rattle.indexmap.specs.IndexMap.{get_by_text}
use Rattle.scopes.specs.declared.template.Template.{Template}
use Rattle.scopes.specs.declared.at_use.Known.{Known}
use Rattle.scopes.specs.Block.{block_value}
use Rattle.scopes.specs.Texts.{expansion}
use Rattle.scopes.specs.Moves.{Move, or_else, value_at_end}
use Rattle.scopes.specs.Use.{special_value}

-- a name that stands for no paths
abbrev pub other_value : Known → List Move → List ℕ → List ℕ
other_value known past name = unwrap_or (or_else (block_value known.at.now.block.now name) (or_else (get_by_text known.values name) (value_at_end past known.at.now.scope name))) []

abbrev pub known_value : Known → List Move → List ℕ → List ℕ
known_value known past name = unwrap_or (special_value known.paths name) (other_value known past name)

-- the text of the name, with its names taken as they are known
abbrev pub text_of : Known → List Move → Template → List ℕ
text_of known past template = expansion (known_value known past) template.parts

-- one value more is known
abbrev pub Learns : Known → Known → List ℕ → List ℕ → Type 0
Learns old new name value = (other : List ℕ) → get_by_text new.values other ≡ (if bytes_eq name other then Some value else get_by_text old.values other)
