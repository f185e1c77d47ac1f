-- Lines of a text that comes in pieces.
use Rattle.std.proofs.Common.{◌≡◌, ℕ, List, [], ◌∷◌, ◌++◌, refl, sym, ap, ◌∙◌, append_assoc, append-nil}
use Rattle.std.specs.List.{AllByRecursion}
use Rattle.text.specs.Marks.{Lacks}
use Rattle.shares.specs.Reading.{text_of_lines}

pub all_more : (xs : List (List ℕ)) (x : List ℕ) → AllByRecursion (Lacks 10) xs → Lacks 10 x → AllByRecursion (Lacks 10) (xs ++ x ∷ [])
all_more [] x all is = (is, tt)
all_more (y ∷ ys) x all is = (all.0, all_more ys x all.1 is)

pub lacks_both : (m : ℕ) (a b : List ℕ) → Lacks m a → Lacks m b → Lacks m (a ++ b)
lacks_both m [] b left right = right
lacks_both m (x ∷ a) b left right = (left.0, lacks_both m a b left.1 right)

text_more : (lines : List (List ℕ)) (line : List ℕ) → text_of_lines (lines ++ line ∷ []) ≡ text_of_lines lines ++ (line ++ 10 ∷ [])
text_more [] line = refl
text_more (first ∷ lines) line =
    ap (λ (l : List ℕ). first ++ 10 ∷ l) (text_more lines line) ∙ sym (append_assoc first (10 ∷ text_of_lines lines) (line ++ 10 ∷ []))

-- one line more was read, whose beginning was held
pub line_more : (text : List ℕ) (lines : List (List ℕ)) (rest front line left : List ℕ) → text ≡ text_of_lines lines ++ rest → line ≡ rest ++ front → left ≡ []
    → (text ++ front) ++ 10 ∷ [] ≡ text_of_lines (lines ++ line ∷ []) ++ left
line_more text lines rest front line left parts is none =
    ap (λ (l : List ℕ). (l ++ front) ++ 10 ∷ []) parts
    ∙ (ap (λ (l : List ℕ). l ++ 10 ∷ []) (append_assoc (text_of_lines lines) rest front)
    ∙ (append_assoc (text_of_lines lines) (rest ++ front) (10 ∷ [])
    ∙ (ap (λ (l : List ℕ). text_of_lines lines ++ (l ++ 10 ∷ [])) (sym is)
    ∙ (sym (text_more lines line)
    ∙ (sym (append-nil (text_of_lines (lines ++ line ∷ []))) ∙ ap (λ (l : List ℕ). text_of_lines (lines ++ line ∷ []) ++ l) (sym none))))))

-- more of a line was read
pub rest_more : (text : List ℕ) (lines : List (List ℕ)) (rest more new : List ℕ) → text ≡ text_of_lines lines ++ rest → new ≡ rest ++ more
    → text ++ more ≡ text_of_lines lines ++ new
rest_more text lines rest more new parts is =
    ap (λ (l : List ℕ). l ++ more) parts ∙ (append_assoc (text_of_lines lines) rest more ∙ ap (λ (l : List ℕ). text_of_lines lines ++ l) (sym is))

-- what was passed of a piece, with a line more
pub passed_more : (piece passed left front behind : List ℕ) → piece ≡ passed ++ left → left ≡ front ++ 10 ∷ behind → piece ≡ ((passed ++ front) ++ 10 ∷ []) ++ behind
passed_more piece passed left front behind parts cut =
    parts ∙ (ap (λ (l : List ℕ). passed ++ l) cut
    ∙ (sym (append_assoc passed front (10 ∷ behind)) ∙ sym (append_assoc (passed ++ front) (10 ∷ []) behind)))

pub piece_passed : (text piece passed left : List ℕ) → piece ≡ passed ++ left → text ++ piece ≡ (text ++ passed) ++ left
piece_passed text piece passed left parts = ap (λ (l : List ℕ). text ++ l) parts ∙ sym (append_assoc text passed left)

pub text_passed : (text passed front : List ℕ) → ((text ++ passed) ++ front) ++ 10 ∷ [] ≡ text ++ ((passed ++ front) ++ 10 ∷ [])
text_passed text passed front =
    ap (λ (l : List ℕ). l ++ 10 ∷ []) (append_assoc text passed front) ∙ append_assoc text (passed ++ front) (10 ∷ [])
