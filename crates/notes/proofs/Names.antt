-- The name of a program in a command.
use Rattle.std.proofs.Common.{◌≡◌, ◌≢◌, ◌∙◌, ℕ, suc, ◌==◌, List, [], ◌∷◌, ◌++◌, length, take, drop, sym, ap, subst, arith, append_assoc, append-nil, Option}
use Rattle.std.specs.Char.{is_whitespace}
use Rattle.std.specs.Str.{NoCharPasses}
use Rattle.std.specs.Str.Iter.{HasSubslice, NoAsciiPasses}
use Rattle.std.specs.Str.Pattern.{CutsPrefixes, IsTrimStartMatches}
use Rattle.std.proofs.lemmas.Bool.{false≢true}
use Rattle.std.proofs.lemmas.Str.Pattern.{NoCharPasses-char}
use Rattle.std.proofs.lemmas.List.{take-append-drop, get_or_default}
use Rattle.std.proofs.lemmas.List.Elements.{recursion_from_All}
use Rattle.text.specs.Marks.{Lacks}
use Rattle.notes.specs.Program.{IsNameIn}

-- a part of a part is one
pub part_of_part : (text part piece : List ℕ) → HasSubslice text part → HasSubslice part piece → HasSubslice text piece
part_of_part text part piece outer inner =
    (outer.0 ++ inner.0, inner.1 ++ outer.1, outer.2 ∙ (ap (λ (l : List ℕ). outer.0 ++ (l ++ outer.1)) inner.2 ∙ grouped outer.0 outer.1 inner.0 inner.1))
  where
    grouped : (a b c d : List ℕ) → a ++ ((c ++ (piece ++ d)) ++ b) ≡ (a ++ c) ++ (piece ++ (d ++ b))
    grouped a b c d = simp (append_assoc)

pub back_part : (text : List ℕ) (n : ℕ) → HasSubslice text (drop n text)
back_part text n = (take n text, [], sym (ap (λ (l : List ℕ). take n text ++ l) (append-nil (drop n text)) ∙ take-append-drop n text))

pub front_part : (text : List ℕ) (n : ℕ) → HasSubslice text (take n text)
front_part text n = ([], drop n text, sym (take-append-drop n text))

-- what is left where the front was cut off again and again
cut_part : (R : List ℕ → Option ℕ → Type 0) (text : List ℕ) (ns : List ℕ) (rest : List ℕ) → CutsPrefixes R text ns rest → HasSubslice text rest
cut_part R text [] rest is = subst (λ (l : List ℕ). HasSubslice text l) (sym is) ([], [], sym (append-nil text))
cut_part R text (n ∷ ns) rest cut =
    part_of_part text cut.0 rest (cut_part R text ns cut.0 cut.1) (subst (λ (l : List ℕ). HasSubslice cut.0 l) (sym cut.3) (back_part cut.0 n))

-- what is left where then the end was cut off
pub trimmed_part : (R : List ℕ → Option ℕ → Type 0) (text front rest : List ℕ) → IsTrimStartMatches R text front → rest ≡ take (length rest) front → HasSubslice text rest
trimmed_part R text front rest cut is =
    part_of_part text front rest (cut_part R text cut.0.0 front cut.0.1) (subst (λ (l : List ℕ). HasSubslice front l) (sym is) (front_part front (length rest)))

pub no_slash : (text : List ℕ) → NoCharPasses (λ d. d == 47) text → Lacks 47 text
no_slash text none =
    recursion_from_All (λ (b : ℕ). b ≢ 47) text (λ k d lt. subst (λ (b : ℕ). b ≢ 47) (get_or_default text k 0 d lt) (NoCharPasses-char 47 text k none (omega arith) lt))

no_blanks : (name rest : List ℕ) → NoAsciiPasses is_whitespace (name ++ rest) → Lacks 32 name
no_blanks [] rest none = tt
no_blanks (x ∷ xs) rest none = (first, no_blanks xs rest (λ k lt. none (suc k) (omega (arith, lt))))
  where
    first : x ≢ 32
    first is = false≢true (sym (none 0 (omega arith) (omega (arith, is))) ∙ ap is_whitespace is)

no_blanks_at : (front name rest : List ℕ) → NoAsciiPasses is_whitespace (front ++ (name ++ rest)) → Lacks 32 name
no_blanks_at [] name rest none = no_blanks name rest none
no_blanks_at (x ∷ xs) name rest none = no_blanks_at xs name rest (λ k lt. none (suc k) (omega (arith, lt)))

-- a part of a word of the command, without a slash
pub name_in : (command word name : List ℕ) → HasSubslice command word → NoAsciiPasses is_whitespace word → HasSubslice word name → Lacks 47 name → name ≢ [] → IsNameIn command name
name_in command word name stands none part last some =
    let whole = part_of_part command word name stands part in
    record {
      before = whole.0;
      after = whole.1;
      stands = whole.2;
      some = some;
      last = last;
      word = no_blanks_at part.0 name part.1 (subst (λ (l : List ℕ). NoAsciiPasses is_whitespace l) part.2 none);
    }

-- where the next word stands, behind a gap
pub word_at : (command before rest gap word after : List ℕ) → command ≡ before ++ rest → rest ≡ gap ++ (word ++ after) → HasSubslice command word
word_at command before rest gap word after is next =
    (before ++ gap, after, is ∙ (ap (λ (l : List ℕ). before ++ l) next ∙ sym (append_assoc before gap (word ++ after))))

-- what is left behind it
pub read_word : (command before rest gap word after : List ℕ) → command ≡ before ++ rest → rest ≡ gap ++ (word ++ after) → (front : List ℕ) × (command ≡ front ++ after)
read_word command before rest gap word after is next =
    (before ++ (gap ++ word), is ∙ (ap (λ (l : List ℕ). before ++ l) (next ∙ sym (append_assoc gap word after)) ∙ sym (append_assoc before (gap ++ word) after)))
