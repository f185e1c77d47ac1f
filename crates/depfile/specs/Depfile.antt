-- What a depfile says (manual: "Depfile"; how its text is read is this project's own rule).
use Rattle.std.specs.Prelude.{◌≡◌, ℕ, Bool, true, false, not, cond, List, [], ◌∷◌, ◌++◌, map, filter, Option, Some, None, Result, Ok, Err, bytes_eq, option_map}
use Rattle.std.specs.List.{slice_split, AllZip}
use Rattle.std.specs.Str.{IsUtf8}
use Rattle.depfile.specs.declared.fault.DepFault.{DepFault}
use Rattle.depfile.specs.declared.fault.DepFault.TheVariants.{NoColon, NotUtf8}
use Rattle.lexer.specs.Path.{IsCanonical}
use Rattle.depfile.specs.Signs.{Sign, signs, spelled, is_blank, is_newline}
use Rattle.depfile.specs.Signs.Sign.{letter, colon, blank, newline}

-- a word is what stands between blanks
abbrev pub Word : Type 0
Word = List Sign

abbrev pub is_some_word : Word → Bool
is_some_word [] = false
is_some_word (sign ∷ word) = true

abbrev pub words : List Sign → List Word
words rule = filter is_some_word (slice_split is_blank rule)

-- the last character of the word is a colon: a blank or the end of the rule stands behind it
abbrev pub ends_with_colon : Word → Bool
ends_with_colon [] = false
ends_with_colon (colon ∷ []) = true
ends_with_colon (letter b ∷ []) = false
ends_with_colon (blank ∷ []) = false
ends_with_colon (newline ∷ []) = false
ends_with_colon (sign ∷ next ∷ word) = ends_with_colon (next ∷ word)

-- the inputs of a rule stand behind its first word that ends with a colon
abbrev pub behind_colon : List Word → Option (List Word)
behind_colon [] = None
behind_colon (word ∷ words) = cond (ends_with_colon word) (Some words) (behind_colon words)

-- a rule without a word has no inputs; one with words and no such colon is refused
abbrev pub inputs_of_rule : List Word → Option (List Word)
inputs_of_rule [] = Some []
inputs_of_rule (word ∷ words) = behind_colon (word ∷ words)

-- the words of one list and then those of the other, where there are both
abbrev pub both : Option (List Word) → Option (List Word) → Option (List Word)
both None later = None
both (Some words) later = option_map (λ more. words ++ more) later

abbrev pub inputs_of_rules : List (List Sign) → Option (List Word)
inputs_of_rules [] = Some []
inputs_of_rules (rule ∷ rules) = both (inputs_of_rule (words rule)) (inputs_of_rules rules)

-- the inputs of all rules as they are written; None where a rule has a word and no colon
abbrev pub inputs : List Sign → Option (List Word)
inputs text = inputs_of_rules (slice_split is_newline text)

-- ---- what is answered

-- each path once, in the order in which they stand first
abbrev pub firsts : List (List ℕ) → List (List ℕ)
firsts [] = []
firsts (path ∷ paths) = path ∷ filter (λ other. not (bytes_eq path other)) (firsts paths)

-- the paths are the canonical ones of what the words spell, each once
pub record AreInputs (words : List Word) (paths : List (List ℕ)) : Type 0 where
  pub all : List (List ℕ)
  pub canonical : AllZip IsCanonical (map spelled words) all
  pub once : paths ≡ firsts all

-- what the bytes of a depfile say: its inputs, or why it is refused
abbrev pub IsRead : List ℕ → Result (List (List ℕ)) DepFault → Type 0
IsRead bytes (Ok paths) = IsUtf8 bytes × (words : List Word) × (inputs (signs bytes) ≡ Some words) × AreInputs words paths
IsRead bytes (Err NoColon) = IsUtf8 bytes × (inputs (signs bytes) ≡ None)
IsRead bytes (Err NotUtf8) = ¬ (IsUtf8 bytes)

abbrev pub accepted : Result (List (List ℕ)) DepFault → Option (List (List ℕ))
accepted (Ok paths) = Some paths
accepted (Err fault) = None

-- a function that reads each depfile as it says here, and gives None where it is refused
abbrev pub IsReading : (List ℕ → Option (List (List ℕ))) → Type 0
IsReading reading = (bytes : List ℕ) → (said : Result (List (List ℕ)) DepFault) × IsRead bytes said × (reading bytes ≡ accepted said)

-- there is such a function
abbrev pub HasReading : Type 0
HasReading = (reading : List ℕ → Option (List (List ℕ))) × IsReading reading
