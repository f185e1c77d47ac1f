-- Lines of records, one after another.
use Rattle.std.proofs.Common.{◌≡◌, ◌≢◌, ℕ, Bool, List, [], ◌∷◌, ◌++◌, refl, sym, ap, ◌∙◌, subst, append_assoc, Result, Ok, Err}
use Rattle.log_text.specs.Answered.{IfYes, IfNo}
use Rattle.log_text.specs.Keeping.{Keeping, KeepsSame, PutsFields, PutsLine}
use Rattle.text.specs.Marks.{Lacks}
use Rattle.text.specs.Fronts.{IsFront, IsNext}
use Rattle.text.proofs.Fronts.{front_none, front_more, front_stops, front_all}
use Rattle.log_text.specs.Line.{line_text, AreTexts}
use Rattle.log_text.specs.Form.{Form, record_line, HasLine, lines_text, AreNoRecord, IsNoLineOf, AreNoLinesOf}
use Rattle.log_text.proofs.Bytes.{one_cut, has_mark}
use Rattle.log_text.proofs.Lines.{one_line, Lacks-line_text}

-- no two records of the form have the same fields
abbrev pub AreApart : {R : Type 0} → Form R → Type 0
AreApart {R} form = (r s : R) → form.Fits r → form.Fits s → form.fields r ≡ form.fields s → r ≡ s

-- how far the lines are read: rest is left
abbrev pub AreRead : {R : Type 0} → Form R → List ℕ → List R → List ℕ → Type 0
AreRead form = IsFront (record_line form) (HasLine form)

some_line : (rest line after : List ℕ) → rest ≡ line ++ 10 ∷ after → rest ≢ []
some_line rest [] after e f = let clash : 10 ∷ after ≡ [] = sym e ∙ f in cc
some_line rest (b ∷ line) after e f = let clash : b ∷ (line ++ 10 ∷ after) ≡ [] = sym e ∙ f in cc

module _ {R : Type 0} (form : Form R) where
  pub starts : (lines : List ℕ) → AreRead form lines [] lines
  starts lines = front_none (record_line form) (HasLine form) lines

  -- the line in front is a record's only where it is its line
  pub front_line : (rest line after : List ℕ) (r : R) (others : List ℕ) → rest ≡ line ++ 10 ∷ after → Lacks 10 line → rest ≡ record_line form r ++ others → (line ≡ line_text (form.fields r)) × (after ≡ others)
  front_line rest line after r others e lacks f = one_cut 10 line (line_text (form.fields r)) after others lacks (Lacks-line_text (form.fields r)) (sym e ∙ (f ∙ append_assoc (line_text (form.fields r)) (10 ∷ []) others))

  -- a line in front of others
  next_line : AreApart form → (r : R) (after : List ℕ) → HasLine form r → IsNext (record_line form) (HasLine form) (record_line form r ++ after) r after
  next_line apart r after has = record {
    spelled = refl;
    fits = has;
    only = λ other others fits f.
        let parts = front_line (record_line form r ++ after) (line_text (form.fields r)) after other others (append_assoc (line_text (form.fields r)) (10 ∷ []) after) (Lacks-line_text (form.fields r)) f in
        (apart r other has.fits fits.fits (one_line (form.fields r) (form.fields other) parts.0), parts.1);
  }

  -- a line that spells the fields of a record, with a line feed behind it
  pub next_record : AreApart form → (rest line after : List ℕ) (r : R) → rest ≡ line ++ 10 ∷ after → line ≡ line_text (form.fields r) → HasLine form r → IsNext (record_line form) (HasLine form) rest r after
  next_record apart rest line after r e is has =
      let front : rest ≡ record_line form r ++ after = e ∙ (ap (λ (xs : List ℕ). xs ++ 10 ∷ after) is ∙ sym (append_assoc (line_text (form.fields r)) (10 ∷ []) after)) in
      subst (λ (xs : List ℕ). IsNext (record_line form) (HasLine form) xs r after) (sym front) (next_line apart r after has)

  pub one_more : AreApart form → (lines : List ℕ) (rs : List R) (rest line after : List ℕ) (r : R) → AreRead form lines rs rest → rest ≡ line ++ 10 ∷ after → line ≡ line_text (form.fields r) → HasLine form r → AreRead form lines (rs ++ r ∷ []) after
  one_more apart lines rs rest line after r read e is has =
      front_more (record_line form) (HasLine form) lines rs rest r after read (some_line rest line after e) (next_record apart rest line after r e is has)

  pub stops_at_line : (lines : List ℕ) (rs : List R) (rest line after : List ℕ) → AreRead form lines rs rest → rest ≡ line ++ 10 ∷ after → Lacks 10 line → IsNoLineOf form line → AreNoLinesOf form lines
  stops_at_line lines rs rest line after read e lacks none =
      front_stops (record_line form) (HasLine form) lines rs rest read (some_line rest line after e) (λ r others has f. none r has (front_line rest line after r others e lacks f).0)

  -- without a line feed nothing may be left
  pub stops_at_end : (lines : List ℕ) (rs : List R) (rest : List ℕ) → AreRead form lines rs rest → Lacks 10 rest → rest ≢ [] → AreNoLinesOf form lines
  stops_at_end lines rs rest read lacks some =
      front_stops (record_line form) (HasLine form) lines rs rest read some (λ r others has f. has_mark 10 (line_text (form.fields r)) others (subst (Lacks 10) (f ∙ append_assoc (line_text (form.fields r)) (10 ∷ []) others) lacks))

  pub all_read : (lines : List ℕ) (rs : List R) (rest : List ℕ) → AreRead form lines rs rest → rest ≡ [] → lines ≡ lines_text form rs
  all_read lines rs rest read e = front_all (record_line form) (HasLine form) lines rs rest read e

-- fields that are no record's are in no record's line
pub no_line : {R E : Type 0} (form : Form R) (found : Result Bool E) (line : List ℕ) (fields : List (List ℕ)) → line ≡ line_text fields → IfNo found (AreNoRecord form fields)
    → IfNo found (IsNoLineOf form line)
no_line form (Ok b) line fields e none = λ no r has f. none no r has.fits (one_line fields (form.fields r) (sym e ∙ f))
no_line form (Err x) line fields e none = tt

-- fields that are a record's are put behind what was put before, which stands for the same as at first
pub put_behind : {R L E : Type 0} (form : Form R) (Keeps : Keeping R L) (found : Result Bool E) (line : List ℕ) (fields : List (List ℕ)) (old mid new : L) → line ≡ line_text fields → AreTexts fields → KeepsSame Keeps old mid
    → IfYes found (PutsFields form Keeps fields mid new)
    → IfYes found (PutsLine form Keeps line old new)
put_behind form Keeps (Ok b) line fields old mid new e texts same put = λ yes.
    let p = put yes in
    (p.0, e ∙ ap line_text p.1, record { fits = p.2; texts = subst AreTexts p.1 texts }, λ records keeps. p.3 records (same records keeps))
put_behind form Keeps (Err x) line fields old mid new e texts same put = tt
