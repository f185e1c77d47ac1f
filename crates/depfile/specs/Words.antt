-- Words and what stands between them, and what is left of a depfile at a place.
use Rattle.std.specs.Prelude.{◌≡◌, ℕ, ◌<◌, ◌≤◌, Bool, true, false, cond, List, [], ◌∷◌, ◌++◌, length, Option, Some, None, ◌⊎◌}
use Rattle.std.specs.List.{AllByRecursion, slice_split}
use Rattle.depfile.specs.declared.words.Word.{Word}
use Rattle.depfile.specs.declared.words.Token.{Token}
use Rattle.depfile.specs.declared.words.Token.TheVariants.{RuleEnd, Name}
use Rattle.depfile.specs.declared.rules.Behind.{Behind}
use Rattle.depfile.specs.declared.rules.Behind.TheVariants.{Inputs, Rule}
use Rattle.depfile.specs.Signs.{Sign, signs, spelled, is_blank, is_newline}
use Rattle.depfile.specs.Signs.Sign.{letter, colon, blank, newline}
use Rattle.depfile.specs.Depfile.{is_some_word, ends_with_colon, words, behind_colon, both, inputs_of_rules, inputs}
use Rattle.depfile.specs.Depfile.{Word as Signs}

abbrev pub is_of_word : Sign → Bool
is_of_word (letter b) = true
is_of_word colon = true
is_of_word blank = false
is_of_word newline = false

-- the word that stands first, and what stands behind it
abbrev pub front_word : List Sign → List Sign
front_word [] = []
front_word (sign ∷ text) = cond (is_of_word sign) (sign ∷ front_word text) []

abbrev pub behind_word : List Sign → List Sign
behind_word [] = []
behind_word (sign ∷ text) = cond (is_of_word sign) (behind_word text) (sign ∷ text)

-- the first word of the text, with this rest behind it
pub record IsWord (text : List ℕ) (word : Word) (rest : List ℕ) : Type 0 where
  pub begins : word.from.now ≡ text
  pub some : is_some_word (front_word (signs text)) ≡ true
  pub behind : signs rest ≡ behind_word (signs text)
  pub colon : word.ends_with_colon ≡ ends_with_colon (front_word (signs text))
  pub plain : word.is_plain ≡ true → word.written.now ≡ spelled (front_word (signs text))
  pub shorter : length rest < length text

abbrev pub AreOfWord : List Sign → Type 0
AreOfWord = AllByRecursion (λ sign. is_of_word sign ≡ true)

-- a word begins the text and may go on at this rest
pub record WordSoFar (text rest : List ℕ) (is_plain with_colon : Bool) : Type 0 where
  pub word : List Sign
  pub taken : List ℕ
  pub written : text ≡ taken ++ rest
  pub signs_are : signs text ≡ word ++ signs rest
  pub all : AreOfWord word
  pub some : is_some_word word ≡ true
  pub plain : is_plain ≡ true → taken ≡ spelled word
  pub colon_is : with_colon ≡ ends_with_colon word
  pub shorter : length rest < length text

abbrev pub AreBlanks : List Sign → Type 0
AreBlanks = AllByRecursion (λ sign. is_blank sign ≡ true)

-- blanks stand between the texts
pub record IsBehindBlanks (text rest : List ℕ) : Type 0 where
  pub blanks : List Sign
  pub are : AreBlanks blanks
  pub signs_are : signs text ≡ blanks ++ signs rest
  pub shorter : length rest ≤ length text

abbrev pub is_at_blank : Option (Sign × List ℕ) → Bool
is_at_blank None = false
is_at_blank (Some found) = is_blank found.0

abbrev pub EndsRule : List ℕ → List ℕ → Type 0
EndsRule text rest = ((signs text ≡ newline ∷ signs rest) × (length rest < length text)) ⊎ ((text ≡ []) × (rest ≡ []))

-- a token that stands here, with this rest behind it
abbrev pub IsTokenHere : List ℕ → Token → List ℕ → Type 0
IsTokenHere text RuleEnd rest = EndsRule text rest
IsTokenHere text (Name word) rest = IsWord text word rest

-- the first token of the text, with this rest behind it
pub record IsToken (text : List ℕ) (token : Token) (rest : List ℕ) : Type 0 where
  pub start : List ℕ
  pub blanks : IsBehindBlanks text start
  pub here : IsTokenHere start token rest

-- ---- what is left at a place

-- the inputs of a text that begins among the inputs of a rule
abbrev pub inputs_then : List (List Sign) → Option (List Signs)
inputs_then [] = Some []
inputs_then (rule ∷ rules) = both (Some (words rule)) (inputs_of_rules rules)

abbrev pub behind_targets : List Sign → Option (List Signs)
behind_targets text = inputs_then (slice_split is_newline text)

-- the same, where it begins behind a target
abbrev pub targets_then : List (List Sign) → Option (List Signs)
targets_then [] = None
targets_then (rule ∷ rules) = both (behind_colon (words rule)) (inputs_of_rules rules)

-- the same, where it begins among targets, of which there may have been one
abbrev pub among_targets : Bool → List Sign → Option (List Signs)
among_targets false text = inputs text
among_targets true text = targets_then (slice_split is_newline text)

abbrev pub left_behind : Behind → Option (List Signs)
left_behind (Inputs text) = behind_targets (signs text.now)
left_behind (Rule text) = inputs (signs text.now)

abbrev pub text_behind : Behind → List ℕ
text_behind (Inputs text) = text.now
text_behind (Rule text) = text.now
