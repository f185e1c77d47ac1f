-- A log that was read up to the end of one of its lines.
use Rattle.std.proofs.Common.{◌≡◌, inl, inr, ℕ, List, [], ◌∷◌, ◌++◌, refl, sym, ap, ◌∙◌, subst, append_assoc, append-nil}
use Rattle.text.specs.Marks.{Lacks}
use Rattle.log_text.specs.declared.form.Version.{Version}
use Rattle.log_text.specs.declared.pieces.Stage.{Stage}
use Rattle.log_text.specs.declared.pieces.Stage.TheVariants.{First, Lines, Broken}
use Rattle.log_text.specs.Line.{line_text}
use Rattle.log_text.specs.Form.{Form, record_line, lines_text, HaveLines, AreNoLinesOf, IsReadable}
use Rattle.log_text.specs.Text.{EndsLine, IsLogOf, IsDamaged}
use Rattle.log_text.specs.Keeping.{Keeping, KeepsAlso, KeepsMore}
use Rattle.log_text.specs.Pieces.{BeginNoLog, IsKeptLog, StandsAt}
use Rattle.log_text.proofs.Bytes.{has_mark, one_cut, one_tail}
use Rattle.log_text.proofs.Lines.{one_line, Lacks-line_text}
use Rattle.log_text.proofs.Reading.{AreApart}
use Rattle.log_text.proofs.Tails.{some_mark, log_ends, log_cut, log_first, log_lines, log_of_lines, damaged_lines}
use Rattle.log_text.proofs.Decided.{last_cut}
use Rattle.log_text.proofs.LawLemmas.{lines_front, HaveLines-front, log_more}

-- ---- ends of lines

-- whole lines in which no line feed stands are none
pub ends_none : (lines : List ℕ) → EndsLine lines → Lacks 10 lines → lines ≡ []
ends_none lines (inl none) lacks = none
ends_none lines (inr f) lacks = absurd (has_mark 10 f.0 [] (subst (Lacks 10) f.1 lacks))

-- what stands behind whole lines, and ends a line together with them, has a line feed at its end
pub ends_tail : (lines rest : List ℕ) → EndsLine lines → EndsLine (lines ++ rest) → Lacks 10 rest → rest ≡ []
ends_tail lines rest (inl none) all lacks = ends_none rest (subst (λ (xs : List ℕ). EndsLine (xs ++ rest)) none all) lacks
ends_tail lines rest (inr f) (inl none) lacks = absurd (some_mark f.0 rest (sym (split lines rest f.0 f.1) ∙ none))
  where
    split : (lines rest front : List ℕ) → lines ≡ front ++ 10 ∷ [] → lines ++ rest ≡ front ++ 10 ∷ rest
    split lines rest front e = ap (λ (xs : List ℕ). xs ++ rest) e ∙ append_assoc front (10 ∷ []) rest
ends_tail lines rest (inr f) (inr g) lacks =
    (one_tail 10 f.0 g.0 rest [] lacks tt (sym (ap (λ (xs : List ℕ). xs ++ rest) f.1 ∙ append_assoc f.0 (10 ∷ []) rest) ∙ g.1)).1

pub ends_append : (a b : List ℕ) → EndsLine a → EndsLine b → EndsLine (a ++ b)
ends_append a b ends (inl none) = subst EndsLine (sym (append-nil a) ∙ ap (λ (xs : List ℕ). a ++ xs) (sym none)) ends
ends_append a b ends (inr f) = inr (a ++ f.0, ap (λ (xs : List ℕ). a ++ xs) f.1 ∙ sym (append_assoc a f.0 (10 ∷ [])))

-- what stands behind the first of whole lines are whole lines
pub ends_behind : (first rest : List ℕ) → EndsLine (first ++ 10 ∷ rest) → EndsLine rest
ends_behind first rest ends = elim (last_cut 10 rest) [
  | inl lacks ↦
      let all : EndsLine ((first ++ 10 ∷ []) ++ rest) = subst EndsLine (sym (append_assoc first (10 ∷ []) rest)) ends in
      inl (ends_tail (first ++ 10 ∷ []) rest (inr (first, refl)) all lacks)
  | inr c ↦
      let front : (first ++ 10 ∷ c.front) ++ 10 ∷ c.after ≡ first ++ 10 ∷ rest = append_assoc first (10 ∷ c.front) (10 ∷ c.after) ∙ ap (λ (xs : List ℕ). first ++ 10 ∷ xs) (sym c.splits) in
      let all : EndsLine (((first ++ 10 ∷ c.front) ++ 10 ∷ []) ++ c.after) = subst EndsLine (sym (append_assoc (first ++ 10 ∷ c.front) (10 ∷ []) c.after ∙ front)) ends in
      let none : c.after ≡ [] = ends_tail ((first ++ 10 ∷ c.front) ++ 10 ∷ []) c.after (inr (first ++ 10 ∷ c.front, refl)) all c.lacks in
      inr (c.front, c.splits ∙ ap (λ (xs : List ℕ). c.front ++ 10 ∷ xs) none)
]

-- ---- records one behind another

-- no record more
pub keeps_none : {R L : Type 0} (Keeps : Keeping R L) (log : L) → KeepsMore Keeps [] log log
keeps_none {R} Keeps log records keeps = subst (λ (rs : List R). Keeps rs log) (sym (append-nil records)) keeps

-- these records, and one more
pub keeps_then : {R L : Type 0} (Keeps : Keeping R L) (more : List R) (r : R) (old mid new : L) → KeepsMore Keeps more old mid → KeepsAlso Keeps r mid new → KeepsMore Keeps (more ++ r ∷ []) old new
keeps_then {R} Keeps more r old mid new first next records keeps =
    subst (λ (rs : List R). Keeps rs new) (append_assoc records more (r ∷ [])) (next (records ++ more) (first records keeps))

module _ {R : Type 0} (form : Form R) where
  lines_end : (rs : List R) → EndsLine (lines_text form rs)
  lines_end [] = inl refl
  lines_end (r ∷ rs) = ends_append (record_line form r) (lines_text form rs) (inr (line_text (form.fields r), refl)) (lines_end rs)

  -- lines that are no records' are not so with others behind them
  pub no_lines_more : (lines : List ℕ) → EndsLine lines → AreNoLinesOf form lines → (more : List ℕ) (rs : List R) → HaveLines form rs → lines ++ more ≡ lines_text form rs → ⊥
  no_lines_more lines ends none more rs fit e =
      let front = lines_front form rs lines more (sym e) in
      let all : EndsLine (lines_text form front.seen ++ front.part) = subst EndsLine front.text ends in
      let end : front.part ≡ [] = ends_tail (lines_text form front.seen) front.part (lines_end front.seen) all front.lacks in
      let whole : lines ≡ lines_text form front.seen = front.text ∙ (ap (λ (xs : List ℕ). lines_text form front.seen ++ xs) end ∙ append-nil (lines_text form front.seen)) in
      none front.seen (HaveLines-front form front.seen front.left (subst (HaveLines form) front.split fit)) whole

  cut_line : (r : R) (rs : List R) (rest : List ℕ) → lines_text form (r ∷ rs) ++ rest ≡ line_text (form.fields r) ++ 10 ∷ (lines_text form rs ++ rest)
  cut_line r rs rest = append_assoc (record_line form r) (lines_text form rs) rest ∙ append_assoc (line_text (form.fields r)) (10 ∷ []) (lines_text form rs ++ rest)

  -- where lines begin with those of some records, they go on with those of the others
  pub strip_lines : AreApart form → (rs all : List R) (rest : List ℕ) → HaveLines form rs → HaveLines form all → lines_text form rs ++ rest ≡ lines_text form all → (more : List R) × (all ≡ rs ++ more) × HaveLines form more × (rest ≡ lines_text form more)
  strip_lines apart [] all rest h k e = (all, refl, k, e)
  strip_lines apart (r ∷ rs) [] rest h k e = absurd (some_mark (line_text (form.fields r)) (lines_text form rs ++ rest) (sym (cut_line r rs rest) ∙ e))
  strip_lines apart (r ∷ rs) (s ∷ all) rest h k e =
      let parts = one_cut 10 (line_text (form.fields r)) (line_text (form.fields s)) (lines_text form rs ++ rest) (lines_text form all) (Lacks-line_text (form.fields r)) (Lacks-line_text (form.fields s)) (sym (cut_line r rs rest) ∙ (e ∙ append_assoc (line_text (form.fields s)) (10 ∷ []) (lines_text form all))) in
      let same : r ≡ s = apart r s h.0.fits k.0.fits (one_line (form.fields r) (form.fields s) parts.0) in
      let inner = strip_lines apart rs all rest h.1 k.1 parts.1 in
      (inner.0, ap (λ (x : R). x ∷ all) (sym same) ∙ ap (λ (xs : List R). r ∷ xs) inner.1, inner.2, inner.3)

-- ---- lines with which no log begins

module _ {R : Type 0} (forms : Version → Form R) (readable : IsReadable forms) where
  -- a first line that tells no version
  pub begins_so : (first : List ℕ) → Lacks 10 first → ((version : Version) → first ≡ (forms version).first → ⊥) → BeginNoLog forms (first ++ 10 ∷ [])
  begins_so first lacks other = record {
    some = some_mark first [];
    ends = inr (first, refl);
    none = λ more version rs log. other version (log_first forms readable version ((first ++ 10 ∷ []) ++ more) first more rs (append_assoc first (10 ∷ []) more) lacks log);
  }

  -- lines behind a log that are no records'
  pub goes_on_so : (v : Version) (text lines : List ℕ) (records : List R) → IsLogOf (forms v) text records → EndsLine lines → AreNoLinesOf (forms v) lines → BeginNoLog forms (text ++ lines)
  goes_on_so v text lines records log ends other =
      let end = log_ends (forms v) text records log in
      let cut = log_cut (forms v) text records log in record {
        some = λ none. some_mark end.0 lines (sym (ap (λ (xs : List ℕ). xs ++ lines) end.1 ∙ append_assoc end.0 (10 ∷ []) lines) ∙ none);
        ends = ends_append text lines (inr end) ends;
        none = λ more w rs longer.
            let behind : (text ++ lines) ++ more ≡ (forms v).first ++ 10 ∷ (lines_text (forms v) records ++ (lines ++ more)) =
            append_assoc text lines more ∙ (ap (λ (xs : List ℕ). xs ++ (lines ++ more)) cut ∙ append_assoc (forms v).first (10 ∷ lines_text (forms v) records) (lines ++ more)) in
            let told = log_lines forms readable v w ((text ++ lines) ++ more) (forms v).first (lines_text (forms v) records ++ (lines ++ more)) rs behind (readable.one_line v) refl longer in
            let left = strip_lines (forms v) (readable.one_record v) records rs (lines ++ more) log.fit told.1 told.0 in
            no_lines_more (forms v) lines ends other more left.0 left.2 left.3;
      }

  -- and so they are with more lines behind them
  pub broken_more : (lines more : List ℕ) → EndsLine more → BeginNoLog forms lines → BeginNoLog forms (lines ++ more)
  broken_more lines more ends broken = record {
    some = λ none. broken.some (front_empty lines more none);
    ends = ends_append lines more broken.ends ends;
    none = λ others version rs log. broken.none (more ++ others) version rs (subst (λ (xs : List ℕ). IsLogOf (forms version) xs rs) (append_assoc lines more others) log);
  }
    where
      front_empty : (xs ys : List ℕ) → xs ++ ys ≡ [] → xs ≡ []
      front_empty [] ys e = refl
      front_empty (x ∷ xs) ys e = absurd (let clash : x ∷ (xs ++ ys) ≡ [] = e in cc)

module _ {R L : Type 0} (forms : Version → Form R) (Keeps : Keeping R L) where
  -- a first line that tells the version is a log without records
  pub is_begun : (version : Version) (first : List ℕ) (log : L) → first ≡ (forms version).first → Keeps [] log → IsKeptLog (forms version) Keeps (first ++ 10 ∷ []) log
  is_begun version first log is keeps = ([], log_of_lines (forms version) (first ++ 10 ∷ []) first [] [] refl is refl tt, keeps)

  -- lines of records behind a log
  pub goes_on : (version : Version) (text lines : List ℕ) (all : List R) (old new : L) → lines ≡ lines_text (forms version) all → HaveLines (forms version) all → KeepsMore Keeps all old new
      → IsKeptLog (forms version) Keeps text old
      → IsKeptLog (forms version) Keeps (text ++ lines) new
  goes_on version text lines all old new is fit more kept =
      (kept.0 ++ all, subst (λ (xs : List ℕ). IsLogOf (forms version) (text ++ xs) (kept.0 ++ all)) (sym is) (log_more (forms version) text kept.0 all kept.1 fit), more kept.0 kept.2)

  -- where the first line was not read, or no log begins so, whole lines more change nothing
  pub stands_still : IsReadable forms → (lines rest : List ℕ) (log : L) (stage : Stage) → EndsLine rest → (stage ≡ First → rest ≡ []) → ((version : Version) → stage ≡ Lines version → ⊥) → StandsAt forms Keeps lines log stage → StandsAt forms Keeps (lines ++ rest) log stage
  stands_still readable lines rest log First ends none other stands = (subst (λ (xs : List ℕ). lines ++ xs ≡ []) (sym (none refl)) (append-nil lines ∙ stands.0), stands.1)
  stands_still readable lines rest log (Lines version) ends none other stands = absurd (other version refl)
  stands_still readable lines rest log Broken ends none other stands = broken_more forms readable lines rest ends stands

  -- of an empty text nothing was read, and nothing is left; and the other way round
  pub is_nothing : (text lines rest : List ℕ) (log : L) (stage : Stage) → text ≡ lines ++ rest → StandsAt forms Keeps lines log stage → text ≡ [] → (stage ≡ First) × (rest ≡ [])
  is_nothing text lines rest log stage parts stands none = (first stage (fronts lines rest (sym parts ∙ none)).0 stands, (fronts lines rest (sym parts ∙ none)).1)
    where
      fronts : (xs ys : List ℕ) → xs ++ ys ≡ [] → (xs ≡ []) × (ys ≡ [])
      fronts [] ys e = (refl, e)
      fronts (x ∷ xs) ys e = absurd (let clash : x ∷ (xs ++ ys) ≡ [] = e in cc)

      first : (at : Stage) → lines ≡ [] → StandsAt forms Keeps lines log at → at ≡ First
      first First e is = refl
      first (Lines version) e is = let end = log_ends (forms version) lines is.0 is.1 in absurd (some_mark end.0 [] (sym end.1 ∙ e))
      first Broken e is = absurd (is.some e)

  pub was_nothing : (text lines rest : List ℕ) (log : L) (stage : Stage) → text ≡ lines ++ rest → StandsAt forms Keeps lines log stage → stage ≡ First → rest ≡ [] → text ≡ []
  was_nothing text lines rest log stage parts stands is none =
      let first = subst (StandsAt forms Keeps lines log) is stands in
      parts ∙ (ap (λ (xs : List ℕ). xs ++ rest) first.0 ∙ none)

-- bytes that begin with lines with which no log begins are a damaged log
pub broken_damaged : {R : Type 0} (forms : Version → Form R) (text lines rest : List ℕ) → text ≡ lines ++ rest → Lacks 10 rest → BeginNoLog forms lines → IsDamaged forms text
broken_damaged forms text lines rest parts lacks broken =
    damaged_lines forms text lines rest parts lacks broken.ends broken.some (λ version rs log. broken.none [] version rs (subst (λ (xs : List ℕ). IsLogOf (forms version) xs rs) (sym (append-nil lines)) log))

-- ---- pieces

-- a piece without a line feed
pub piece_within : (text lines rest piece : List ℕ) → text ≡ lines ++ rest → text ++ piece ≡ lines ++ (rest ++ piece)
piece_within text lines rest piece e = ap (λ (xs : List ℕ). xs ++ piece) e ∙ append_assoc lines rest piece

-- a piece that ends a line, with more lines behind it
pub piece_behind : (text lines rest piece front behind more last : List ℕ) → text ≡ lines ++ rest → piece ≡ front ++ 10 ∷ behind → behind ≡ more ++ last → text ++ piece ≡ ((lines ++ ((rest ++ front) ++ 10 ∷ [])) ++ more) ++ last
piece_behind text lines rest piece front behind more last e f g = rw (e, f, g) (simp append_assoc)
