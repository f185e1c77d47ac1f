-- Lines of a trace, one after another.
use Rattle.std.proofs.Common.{◌≡◌, ◌≢◌, ℕ, Bool, true, false, List, [], ◌∷◌, ◌++◌, refl, sym, ap, ◌∙◌, Option, Some, None, append_assoc, append-nil}
use Rattle.std.specs.Prelude.{nat_eq, option_map, option_and_then, codes}
use Rattle.std.specs.List.{starts_with}
use Rattle.trace.specs.declared.lines.Reached.{Reached}
use Rattle.trace.specs.Marks.{cut, in_front}
use Rattle.trace.specs.Lines.{after, after_all, after_text_of, lines_from, lines_of}

-- the lines of a text of which so much of the first line was seen, where one ends
abbrev pub by_cut : List ℕ → Option (List ℕ × List ℕ) → Option (List (List ℕ))
by_cut so_far None = None
by_cut so_far (Some parts) = option_map (λ lines. (so_far ++ parts.0) ∷ lines) (lines_of parts.1)

more_seen : (so_far : List ℕ) (b : ℕ) (found : Option (List ℕ × List ℕ)) → by_cut (so_far ++ b ∷ []) found ≡ by_cut so_far (option_map (in_front (b ∷ [])) found)
more_seen so_far b None = refl
more_seen so_far b (Some parts) = ap (λ (line : List ℕ). option_map (λ lines. line ∷ lines) (lines_of parts.1)) (append_assoc so_far (b ∷ []) parts.0)

ended : (so_far : List ℕ) (b : ℕ) → lines_from (so_far ++ b ∷ []) [] ≡ by_cut (so_far ++ b ∷ []) (cut (codes "\n") [])
ended [] b = refl
ended (a ∷ so_far) b = refl

by_first : (so_far : List ℕ) (b : ℕ) (text : List ℕ) → lines_from (so_far ++ b ∷ []) text ≡ by_cut (so_far ++ b ∷ []) (cut (codes "\n") text)
    → (is : Bool) → starts_with nat_eq (b ∷ text) (codes "\n") ≡ is → lines_from so_far (b ∷ text) ≡ by_cut so_far (cut (codes "\n") (b ∷ text))
by_first so_far b text more true is = rw is (ap (λ (line : List ℕ). option_map (λ lines. line ∷ lines) (lines_of text)) (sym (append-nil so_far)))
by_first so_far b text more false is = rw is (more ∙ more_seen so_far b (cut (codes "\n") text))

-- the first line of a text ends at its first line feed
lines_are : (so_far : List ℕ) (b : ℕ) (text : List ℕ) → lines_from so_far (b ∷ text) ≡ by_cut so_far (cut (codes "\n") (b ∷ text))
lines_are so_far b [] = by_first so_far b [] (ended so_far b) (starts_with nat_eq (b ∷ []) (codes "\n")) refl
lines_are so_far b (c ∷ text) = by_first so_far b (c ∷ text) (lines_are (so_far ++ b ∷ []) c text) (starts_with nat_eq (b ∷ c ∷ text) (codes "\n")) refl

lines_cut : (text : List ℕ) → text ≢ [] → lines_of text ≡ by_cut [] (cut (codes "\n") text)
lines_cut [] some = absurd (some refl)
lines_cut (b ∷ text) some = lines_are [] b text

first_is_read : (start : List ℕ) (old new : Reached) (line : List ℕ) → after start old line ≡ Some new → (lines : Option (List (List ℕ)))
    → option_and_then (after_all start old) (option_map (λ ls. line ∷ ls) lines) ≡ option_and_then (after_all start new) lines
first_is_read start old new line is None = refl
first_is_read start old new line is (Some lines) = rw is refl

first_is_not : (start : List ℕ) (old : Reached) (line : List ℕ) → after start old line ≡ None → (lines : Option (List (List ℕ)))
    → option_and_then (after_all start old) (option_map (λ ls. line ∷ ls) lines) ≡ None
first_is_not start old line is None = refl
first_is_not start old line is (Some lines) = rw is refl

-- one line more was read
pub row_read : (start : List ℕ) (old new : Reached) (text line rest : List ℕ) → text ≢ [] → cut (codes "\n") text ≡ Some (line, rest) → after start old line ≡ Some new
    → after_text_of start old text ≡ after_text_of start new rest
row_read start old new text line rest some cuts is =
    ap (option_and_then (after_all start old)) (lines_cut text some ∙ ap (by_cut []) cuts) ∙ first_is_read start old new line is (lines_of rest)

-- one is not understood
pub row_not : (start : List ℕ) (old : Reached) (text line rest : List ℕ) → text ≢ [] → cut (codes "\n") text ≡ Some (line, rest) → after start old line ≡ None
    → after_text_of start old text ≡ None
row_not start old text line rest some cuts is =
    ap (option_and_then (after_all start old)) (lines_cut text some ∙ ap (by_cut []) cuts) ∙ first_is_not start old line is (lines_of rest)

-- the last is cut off
pub row_cut : (start : List ℕ) (old : Reached) (text : List ℕ) → text ≢ [] → cut (codes "\n") text ≡ None → after_text_of start old text ≡ None
row_cut start old text some cuts = ap (option_and_then (after_all start old)) (lines_cut text some ∙ ap (by_cut []) cuts)
