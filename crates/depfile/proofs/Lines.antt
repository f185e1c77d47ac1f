-- What is left of a depfile behind each token.
use Rattle.std.proofs.Common.{◌≡◌, ℕ, ◌<◌, Bool, true, false, cond, List, [], ◌∷◌, ◌++◌, length, filter, arith, ap, sym, ◌∙◌, refl, append_assoc, append-nil, Option, Some, None, inl, inr}
use Rattle.std.specs.List.{AllByRecursion, slice_split, onto_first}
use Rattle.depfile.specs.declared.words.Word.{Word}
use Rattle.depfile.specs.declared.words.Token.TheVariants.{RuleEnd, Name}
use Rattle.depfile.specs.Signs.{Sign, signs, is_blank, is_newline}
use Rattle.depfile.specs.Signs.Sign.{letter, colon, blank, newline}
use Rattle.depfile.specs.Depfile.{is_some_word, ends_with_colon, words, behind_colon, both, inputs_of_rule, inputs_of_rules, inputs}
use Rattle.depfile.specs.Depfile.{Word as Signs}
use Rattle.depfile.specs.Pieces.{IsSeparated, is_end}
use Rattle.depfile.specs.Words.{IsWord, AreOfWord, IsBehindBlanks, AreBlanks, EndsRule, IsToken, front_word, inputs_then, behind_targets, targets_then, among_targets}
use Rattle.depfile.proofs.Fronts.{front_behind, front_of_word, behind_ends}

-- ---- blanks

blanks-append : (blanks : List Sign) → AreBlanks blanks → AreBlanks (blanks ++ blank ∷ [])
blanks-append [] are = (refl, tt)
blanks-append (sign ∷ blanks) are = (are.0, blanks-append blanks are.1)

pub one_more_blank : (text between rest : List ℕ) → IsBehindBlanks text between → IsSeparated between blank rest → IsBehindBlanks text rest
one_more_blank text between rest far is = record {
  blanks = far.blanks ++ blank ∷ [];
  are = blanks-append far.blanks far.are;
  signs_are = far.signs_are ∙ ap (λ (xs : List Sign). far.blanks ++ xs) is.signs_are ∙ sym (append_assoc far.blanks (blank ∷ []) (signs rest));
  shorter = let a = far.shorter in let b = is.shorter in omega arith;
}

blank_inputs : (text : List Sign) → inputs (blank ∷ text) ≡ inputs text
blank_inputs text = by (slice_split is_newline text)
  where
    by : (rules : List (List Sign)) → inputs_of_rules (onto_first blank rules) ≡ inputs_of_rules rules
    by [] = refl
    by (rule ∷ rules) = refl

blank_behind : (text : List Sign) → behind_targets (blank ∷ text) ≡ behind_targets text
blank_behind text = by (slice_split is_newline text)
  where
    by : (rules : List (List Sign)) → inputs_then (onto_first blank rules) ≡ inputs_then rules
    by [] = refl
    by (rule ∷ rules) = refl

blank_among : (named : Bool) (text : List Sign) → among_targets named (blank ∷ text) ≡ among_targets named text
blank_among false text = blank_inputs text
blank_among true text = by (slice_split is_newline text)
  where
    by : (rules : List (List Sign)) → targets_then (onto_first blank rules) ≡ targets_then rules
    by [] = refl
    by (rule ∷ rules) = refl

is_blank_sign : (sign : Sign) → is_blank sign ≡ true → sign ≡ blank
is_blank_sign (letter b) e = absurd (cc)
is_blank_sign colon e = absurd (cc)
is_blank_sign blank e = refl
is_blank_sign newline e = absurd (cc)

-- blanks say nothing
pub blanks_behind : (blanks text : List Sign) → AreBlanks blanks → behind_targets (blanks ++ text) ≡ behind_targets text
blanks_behind [] text are = refl
blanks_behind (sign ∷ blanks) text are = ap (λ (x : Sign). behind_targets (x ∷ (blanks ++ text))) (is_blank_sign sign are.0) ∙ blank_behind (blanks ++ text) ∙ blanks_behind blanks text are.1

pub blanks_among : (named : Bool) (blanks text : List Sign) → AreBlanks blanks → among_targets named (blanks ++ text) ≡ among_targets named text
blanks_among named [] text are = refl
blanks_among named (sign ∷ blanks) text are = ap (λ (x : Sign). among_targets named (x ∷ (blanks ++ text))) (is_blank_sign sign are.0) ∙ blank_among named (blanks ++ text) ∙ blanks_among named blanks text are.1

-- ---- the end of a rule

pub nothing_before : (later : Option (List Signs)) → both (Some []) later ≡ later
nothing_before None = refl
nothing_before (Some words) = refl

ends_inputs : (text rest : List ℕ) → EndsRule text rest → inputs (signs text) ≡ inputs (signs rest)
ends_inputs text rest (inl is) = ap inputs is.0 ∙ nothing_before (inputs (signs rest))
ends_inputs text rest (inr is) = ap (λ (xs : List ℕ). inputs (signs xs)) (is.0 ∙ sym is.1)

ends_behind : (text rest : List ℕ) → EndsRule text rest → behind_targets (signs text) ≡ inputs (signs rest)
ends_behind text rest (inl is) = ap behind_targets is.0 ∙ nothing_before (inputs (signs rest))
ends_behind text rest (inr is) = ap (λ (xs : List ℕ). behind_targets (signs xs)) is.0 ∙ sym (ap (λ (xs : List ℕ). inputs (signs xs)) is.1)

ends_targets : (text rest : List ℕ) → EndsRule text rest → among_targets true (signs text) ≡ None
ends_targets text rest (inl is) = ap (among_targets true) is.0
ends_targets text rest (inr is) = ap (λ (xs : List ℕ). among_targets true (signs xs)) is.0

-- ---- words

abbrev pub onto_front : List Sign → List (List Sign) → List (List Sign)
onto_front word [] = word ∷ []
onto_front word (part ∷ parts) = (word ++ part) ∷ parts

split_front : (p : Sign → Bool) (word rest : List Sign) → is_some_word word ≡ true → AllByRecursion (λ sign. p sign ≡ false) word → slice_split p (word ++ rest) ≡ onto_front word (slice_split p rest)
split_front p [] rest some all = absurd (cc)
split_front p (sign ∷ []) rest some all = rw all.0 (by (slice_split p rest))
  where
    by : (parts : List (List Sign)) → onto_first sign parts ≡ onto_front (sign ∷ []) parts
    by [] = refl
    by (part ∷ parts) = refl
split_front p (sign ∷ next ∷ word) rest some all = rw all.0 (ap (onto_first sign) (split_front p (next ∷ word) rest refl all.1) ∙ by (slice_split p rest))
  where
    by : (parts : List (List Sign)) → onto_first sign (onto_front (next ∷ word) parts) ≡ onto_front (sign ∷ next ∷ word) parts
    by [] = refl
    by (part ∷ parts) = refl

no_newline_in : (word : List Sign) → AreOfWord word → AllByRecursion (λ sign. is_newline sign ≡ false) word
no_newline_in [] all = tt
no_newline_in (letter b ∷ word) all = (refl, no_newline_in word all.1)
no_newline_in (colon ∷ word) all = (refl, no_newline_in word all.1)
no_newline_in (blank ∷ word) all = absurd (let e = all.0 in cc)
no_newline_in (newline ∷ word) all = absurd (let e = all.0 in cc)

no_blank_in : (word : List Sign) → AreOfWord word → AllByRecursion (λ sign. is_blank sign ≡ false) word
no_blank_in [] all = tt
no_blank_in (letter b ∷ word) all = (refl, no_blank_in word all.1)
no_blank_in (colon ∷ word) all = (refl, no_blank_in word all.1)
no_blank_in (blank ∷ word) all = absurd (let e = all.0 in cc)
no_blank_in (newline ∷ word) all = absurd (let e = all.0 in cc)

-- a line that begins with a word
abbrev pub ends_word : List Sign → Bool
ends_word [] = true
ends_word (letter b ∷ line) = false
ends_word (colon ∷ line) = false
ends_word (blank ∷ line) = true
ends_word (newline ∷ line) = false

words_front : (word line : List Sign) → is_some_word word ≡ true → AreOfWord word → ends_word line ≡ true → words (word ++ line) ≡ word ∷ words line
words_front word [] some all ends =
    ap (filter is_some_word) (split_front is_blank word [] some (no_blank_in word all))
    ∙ ap (λ (xs : List Sign). filter is_some_word (xs ∷ [])) (append-nil word) ∙ rw some refl
words_front word (blank ∷ line) some all ends =
    ap (filter is_some_word) (split_front is_blank word (blank ∷ line) some (no_blank_in word all))
    ∙ ap (λ (xs : List Sign). filter is_some_word (xs ∷ slice_split is_blank line)) (append-nil word) ∙ rw some refl
words_front word (letter b ∷ line) some all ends = absurd (cc)
words_front word (colon ∷ line) some all ends = absurd (cc)
words_front word (newline ∷ line) some all ends = absurd (cc)

-- the line that goes on behind a word, and those below it
record Lined (text : List Sign) : Type 0 where
  pub line : List Sign
  pub lines : List (List Sign)
  pub are : slice_split is_newline text ≡ line ∷ lines
  pub ends : ends_word line ≡ true

lined : (text : List Sign) → is_end text ≡ true → Lined text
lined [] ends = record { line = []; lines = []; are = refl; ends = refl }
lined (letter b ∷ text) ends = absurd (cc)
lined (colon ∷ text) ends = absurd (cc)
lined (newline ∷ text) ends = record { line = []; lines = slice_split is_newline text; are = refl; ends = refl }
lined (blank ∷ text) ends = by (slice_split is_newline text) refl
  where
    by : (parts : List (List Sign)) → slice_split is_newline text ≡ parts → Lined (blank ∷ text)
    by [] is = record { line = blank ∷ []; lines = []; are = ap (onto_first blank) is; ends = refl }
    by (part ∷ parts) is = record { line = blank ∷ part; lines = parts; are = ap (onto_first blank) is; ends = refl }

-- the lines behind a word
lines_front : (word rest : List Sign) → is_some_word word ≡ true → AreOfWord word → (l : Lined rest) → slice_split is_newline (word ++ rest) ≡ (word ++ l.line) ∷ l.lines
lines_front word rest some all l = split_front is_newline word rest some (no_newline_in word all) ∙ ap (onto_front word) l.are

behind_word_is : (rest : List Sign) (l : Lined rest) (b : Bool) → both (cond b (Some (words l.line)) (behind_colon (words l.line))) (inputs_of_rules l.lines) ≡ cond b (behind_targets rest) (among_targets true rest)
behind_word_is rest l true = ap inputs_then (sym l.are)
behind_word_is rest l false = ap targets_then (sym l.are)

pub word_among : (named : Bool) (word rest : List Sign) → is_some_word word ≡ true → AreOfWord word → is_end rest ≡ true → among_targets named (word ++ rest) ≡ cond (ends_with_colon word) (behind_targets rest) (among_targets true rest)
word_among false word rest some all ends =
    let l = lined rest ends in
    ap inputs_of_rules (lines_front word rest some all l)
    ∙ ap (λ (ws : List Signs). both (inputs_of_rule ws) (inputs_of_rules l.lines)) (words_front word l.line some all l.ends)
    ∙ behind_word_is rest l (ends_with_colon word)
word_among true word rest some all ends =
    let l = lined rest ends in
    ap targets_then (lines_front word rest some all l)
    ∙ ap (λ (ws : List Signs). both (behind_colon ws) (inputs_of_rules l.lines)) (words_front word l.line some all l.ends)
    ∙ behind_word_is rest l (ends_with_colon word)

pub both_both : (first second : List Signs) (later : Option (List Signs)) → both (Some first) (both (Some second) later) ≡ both (Some (first ++ second)) later
both_both first second None = refl
both_both first second (Some more) = ap Some (sym (append_assoc first second more))

pub word_behind : (word rest : List Sign) → is_some_word word ≡ true → AreOfWord word → is_end rest ≡ true → behind_targets (word ++ rest) ≡ both (Some (word ∷ [])) (behind_targets rest)
word_behind word rest some all ends =
    let l = lined rest ends in
    ap inputs_then (lines_front word rest some all l)
    ∙ ap (λ (ws : List Signs). both (Some ws) (inputs_of_rules l.lines)) (words_front word l.line some all l.ends)
    ∙ sym (both_both (word ∷ []) (words l.line) (inputs_of_rules l.lines))
    ∙ ap (λ (xs : List (List Sign)). both (Some (word ∷ [])) (inputs_then xs)) (sym l.are)

-- ---- tokens

begins_with : (text : List ℕ) (word : Word) (rest : List ℕ) → IsWord text word rest → signs text ≡ front_word (signs text) ++ signs rest
begins_with text word rest is = sym (front_behind (signs text)) ∙ ap (λ (xs : List Sign). front_word (signs text) ++ xs) (sym is.behind)

rest_ends : (text : List ℕ) (word : Word) (rest : List ℕ) → IsWord text word rest → is_end (signs rest) ≡ true
rest_ends text word rest is = ap is_end is.behind ∙ behind_ends (signs text)

pub name_among : (named : Bool) (text rest : List ℕ) (word : Word) → IsToken text (Name word) rest → among_targets named (signs text) ≡ cond word.ends_with_colon (behind_targets (signs rest)) (among_targets true (signs rest))
name_among named text rest word is =
    let here : IsWord is.start word rest = is.here in
    ap (among_targets named) is.blanks.signs_are ∙ blanks_among named is.blanks.blanks (signs is.start) is.blanks.are
    ∙ ap (among_targets named) (begins_with is.start word rest here)
    ∙ word_among named (front_word (signs is.start)) (signs rest) here.some (front_of_word (signs is.start)) (rest_ends is.start word rest here)
    ∙ ap (λ (b : Bool). cond b (behind_targets (signs rest)) (among_targets true (signs rest))) (sym here.colon)

pub end_among : (text rest : List ℕ) → IsToken text RuleEnd rest → (inputs (signs text) ≡ inputs (signs rest)) × (among_targets true (signs text) ≡ None)
end_among text rest is =
    let here : EndsRule is.start rest = is.here in (
      ap inputs is.blanks.signs_are ∙ blanks_among false is.blanks.blanks (signs is.start) is.blanks.are ∙ ends_inputs is.start rest here,
      ap (among_targets true) is.blanks.signs_are ∙ blanks_among true is.blanks.blanks (signs is.start) is.blanks.are ∙ ends_targets is.start rest here,
    )

pub name_behind : (text rest : List ℕ) (word : Word) → (is : IsToken text (Name word) rest) → behind_targets (signs text) ≡ both (Some (front_word (signs is.start) ∷ [])) (behind_targets (signs rest))
name_behind text rest word is =
    let here : IsWord is.start word rest = is.here in
    ap behind_targets is.blanks.signs_are ∙ blanks_behind is.blanks.blanks (signs is.start) is.blanks.are
    ∙ ap behind_targets (begins_with is.start word rest here)
    ∙ word_behind (front_word (signs is.start)) (signs rest) here.some (front_of_word (signs is.start)) (rest_ends is.start word rest here)

pub end_behind : (text rest : List ℕ) → IsToken text RuleEnd rest → behind_targets (signs text) ≡ inputs (signs rest)
end_behind text rest is =
    let here : EndsRule is.start rest = is.here in
    ap behind_targets is.blanks.signs_are ∙ blanks_behind is.blanks.blanks (signs is.start) is.blanks.are ∙ ends_behind is.start rest here

-- ---- what is left is shorter

pub name_shorter : (text rest : List ℕ) (word : Word) → IsToken text (Name word) rest → length rest < length text
name_shorter text rest word is = let here : IsWord is.start word rest = is.here in let a = here.shorter in let b = is.blanks.shorter in omega arith
