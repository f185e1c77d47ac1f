-- How a log ends.
use Rattle.std.proofs.Common.{◌≡◌, ◌≢◌, ℕ, List, [], ◌∷◌, ◌++◌, inl, inr, refl, sym, ap, ◌∙◌, subst, append_assoc, append-nil}
use Rattle.text.specs.Marks.{Lacks}
use Rattle.log_text.specs.declared.form.Version.{Version}
use Rattle.log_text.specs.declared.form.Version.TheVariants.{One, Two}
use Rattle.log_text.specs.declared.tail.Tail.TheVariants.{Whole, Old, Torn}
use Rattle.log_text.specs.Line.{line_text}
use Rattle.log_text.specs.Form.{Form, lines_text, HaveLines, IsReadable}
use Rattle.log_text.specs.Text.{header, EndsLine, IsLogOf, IsEnded, IsTornOf, IsDamaged, IsRead}
use Rattle.log_text.proofs.Bytes.{Lacks-front, has_mark, one_cut, one_tail}

pub some_mark : (xs ys : List ℕ) → xs ++ 10 ∷ ys ≡ [] → ⊥
some_mark [] ys e = cc
some_mark (x ∷ xs) ys e = cc

module _ {R : Type 0} (form : Form R) where
  lines_end : (rs : List R) (front : List ℕ) → (last : List ℕ) × ((front ++ 10 ∷ []) ++ lines_text form rs ≡ last ++ 10 ∷ [])
  lines_end [] front = (front, append-nil (front ++ 10 ∷ []))
  lines_end (r ∷ rs) front =
      let more = lines_end rs ((front ++ 10 ∷ []) ++ line_text (form.fields r)) in
      (more.0, ap (λ (xs : List ℕ). xs) (simp append_assoc) ∙ more.1)

  pub log_ends : (text : List ℕ) (rs : List R) → IsLogOf form text rs → (last : List ℕ) × (text ≡ last ++ 10 ∷ [])
  log_ends text rs log = let end = lines_end rs form.first in (end.0, log.lines ∙ end.1)

  pub no_log : (text : List ℕ) (rs : List R) → Lacks 10 text → IsLogOf form text rs → ⊥
  no_log text rs lacks log = let end = log_ends text rs log in has_mark 10 end.0 [] (subst (Lacks 10) end.1 lacks)

  -- a log begins with the first line
  pub log_cut : (text : List ℕ) (rs : List R) → IsLogOf form text rs → text ≡ form.first ++ 10 ∷ lines_text form rs
  log_cut text rs log = log.lines ∙ append_assoc form.first (10 ∷ []) (lines_text form rs)

  -- bytes without a line feed that do not begin the first line
  pub not_torn_header : (bytes : List ℕ) (rs : List R) → Lacks 10 bytes → ((rest : List ℕ) → header form ≡ bytes ++ rest → ⊥) → IsTornOf form bytes rs → ⊥
  not_torn_header bytes rs lacks other (inl h) = other h.rest h.begins
  not_torn_header bytes rs lacks other (inr l) = no_log l.whole rs (Lacks-front 10 l.whole l.rest (subst (Lacks 10) l.parts lacks)) l.log

  no_front : (xs rest : List ℕ) → xs ++ 10 ∷ rest ≡ [] → ⊥
  no_front [] rest g = cc
  no_front (x ∷ xs) rest g = cc

  split_end : (bytes whole rest front : List ℕ) → bytes ≡ whole ++ rest → whole ≡ front ++ 10 ∷ [] → bytes ≡ front ++ 10 ∷ rest
  split_end bytes whole rest front parts e = parts ∙ (ap (λ (xs : List ℕ). xs ++ rest) e ∙ append_assoc front (10 ∷ []) rest)

  -- whole lines that are no log, and bytes without a line feed behind them
  pub not_ended : (bytes whole rest front : List ℕ) (rs : List R) → bytes ≡ whole ++ rest → whole ≡ front ++ 10 ∷ [] → Lacks 10 rest → ((all : List R) → IsLogOf form whole all → ⊥) → IsEnded form bytes rs → ⊥
  not_ended bytes whole rest front rs parts e lacks none (inl h) = no_front front rest (sym (split_end bytes whole rest front parts e) ∙ h.0)
  not_ended bytes whole rest front rs parts e lacks none (inr log) =
      let split = split_end bytes whole rest front parts e in
      let end = log_ends bytes rs log in
      let same = one_tail 10 front end.0 rest [] lacks tt (sym split ∙ end.1) in
      none rs (subst (λ (t : List ℕ). IsLogOf form t rs) (end.1 ∙ (ap (λ (xs : List ℕ). xs ++ 10 ∷ []) (sym same.0) ∙ sym e)) log)

  pub not_torn : (bytes whole rest front : List ℕ) (rs : List R) → bytes ≡ whole ++ rest → whole ≡ front ++ 10 ∷ [] → Lacks 10 rest → ((all : List R) → IsLogOf form whole all → ⊥) → IsTornOf form bytes rs → ⊥
  not_torn bytes whole rest front rs parts e lacks none (inl h) = has_mark 10 front rest (subst (Lacks 10) (split_end bytes whole rest front parts e) h.lacks)
  not_torn bytes whole rest front rs parts e lacks none (inr l) =
      let split = split_end bytes whole rest front parts e in
      let end = log_ends l.whole rs l.log in
      let same = one_tail 10 front end.0 rest l.rest lacks l.lacks (sym split ∙ (l.parts ∙ (ap (λ (xs : List ℕ). xs ++ l.rest) end.1 ∙ append_assoc end.0 (10 ∷ []) l.rest))) in
      none rs (subst (λ (t : List ℕ). IsLogOf form t rs) (end.1 ∙ (ap (λ (xs : List ℕ). xs ++ 10 ∷ []) (sym same.0) ∙ sym e)) l.log)

module _ {R : Type 0} (forms : Version → Form R) where
  pub damaged_header : (bytes : List ℕ) → Lacks 10 bytes → bytes ≢ [] → ((version : Version) (rest : List ℕ) → header (forms version) ≡ bytes ++ rest → ⊥) → IsDamaged forms bytes
  damaged_header bytes lacks some other = record {
    not_ended = λ version rs ended. elim ended [ inl e ↦ some e.0 | inr log ↦ no_log (forms version) bytes rs lacks log ];
    not_torn = λ rs torn. not_torn_header (forms torn.0) bytes rs lacks (other torn.0) torn.1;
  }

  pub damaged_lines : (bytes whole rest : List ℕ) → bytes ≡ whole ++ rest → Lacks 10 rest → EndsLine whole → whole ≢ [] → ((version : Version) (rs : List R) → IsLogOf (forms version) whole rs → ⊥) → IsDamaged forms bytes
  damaged_lines bytes whole rest parts lacks (inl e) some none = absurd (some e)
  damaged_lines bytes whole rest parts lacks (inr f) some none = record {
    not_ended = λ version rs. not_ended (forms version) bytes whole rest f.0 rs parts f.1 lacks (none version);
    not_torn = λ rs torn. not_torn (forms torn.0) bytes whole rest f.0 rs parts f.1 lacks (none torn.0) torn.1;
  }

  -- the first line tells the version
  pub one_version : IsReadable forms → (v w : Version) → (forms v).first ≡ (forms w).first → v ≡ w
  one_version readable One One e = refl
  one_version readable One Two e = absurd (readable.differ e)
  one_version readable Two One e = absurd (readable.differ (sym e))
  one_version readable Two Two e = refl

  -- where lines stand behind a first line, a log of them has that first line
  pub log_first : IsReadable forms → (w : Version) (text first lines : List ℕ) (rs : List R) → text ≡ first ++ 10 ∷ lines → Lacks 10 first → IsLogOf (forms w) text rs → first ≡ (forms w).first
  log_first readable w text first lines rs e lacks log = (one_cut 10 first (forms w).first lines (lines_text (forms w) rs) lacks (readable.one_line w) (sym e ∙ log_cut (forms w) text rs log)).0

  pub log_lines : IsReadable forms → (v w : Version) (text first lines : List ℕ) (rs : List R) → text ≡ first ++ 10 ∷ lines → Lacks 10 first → first ≡ (forms v).first → IsLogOf (forms w) text rs → (lines ≡ lines_text (forms v) rs) × HaveLines (forms v) rs
  log_lines readable v w text first lines rs e lacks is log =
      let same = one_cut 10 first (forms w).first lines (lines_text (forms w) rs) lacks (readable.one_line w) (sym e ∙ log_cut (forms w) text rs log) in
      let version : v ≡ w = one_version readable v w (sym is ∙ same.0) in
      (subst (λ u. lines ≡ lines_text (forms u) rs) (sym version) same.1, subst (λ u. HaveLines (forms u) rs) (sym version) log.fit)

-- bytes without a line feed that begin a header begin its line
pub within_line : (first bytes rest : List ℕ) → Lacks 10 bytes → first ++ 10 ∷ [] ≡ bytes ++ rest → (more : List ℕ) × (first ≡ bytes ++ more)
within_line first [] rest lacks e = (first, refl)
within_line [] (b ∷ bytes) rest lacks e = absurd (let same : b ≡ 10 = cc in lacks.0 same)
within_line (f ∷ first) (b ∷ bytes) rest lacks e =
    let same : f ≡ b = cc in
    let more = within_line first bytes rest lacks.1 cc in
    (more.0, subst (λ (y : ℕ). f ∷ first ≡ y ∷ (bytes ++ more.0)) same (ap (λ (xs : List ℕ). f ∷ xs) more.1))

-- a whole log, and nothing or something behind it
pub whole_behind : {R : Type 0} (forms : Version → Form R) (whole rest : List ℕ) (records : List R) → rest ≡ [] → IsLogOf (forms Two) whole records → IsRead forms (whole ++ rest) records Whole
whole_behind forms whole rest records none log = inr (subst (λ (xs : List ℕ). IsLogOf (forms Two) xs records) (sym (append-nil whole) ∙ ap (λ (xs : List ℕ). whole ++ xs) (sym none)) log)

pub old_behind : {R : Type 0} (forms : Version → Form R) (whole rest : List ℕ) (records : List R) → rest ≡ [] → IsLogOf (forms One) whole records → IsRead forms (whole ++ rest) records Old
old_behind forms whole rest records none log = subst (λ (xs : List ℕ). IsLogOf (forms One) xs records) (sym (append-nil whole) ∙ ap (λ (xs : List ℕ). whole ++ xs) (sym none)) log

pub torn_behind : {R : Type 0} (forms : Version → Form R) (v : Version) (whole rest : List ℕ) (records : List R) → rest ≢ [] → Lacks 10 rest → IsLogOf (forms v) whole records → IsRead forms (whole ++ rest) records Torn
torn_behind forms v whole rest records some lacks log = (v, inr (record { whole = whole; rest = rest; parts = refl; some = some; lacks = lacks; log = log }))

-- lines behind a first line are the log of their records
pub log_of_lines : {R : Type 0} (form : Form R) (text first lines : List ℕ) (records : List R) → text ≡ first ++ 10 ∷ lines → first ≡ form.first → lines ≡ lines_text form records → HaveLines form records → IsLogOf form text records
log_of_lines form text first lines records e f is fit = record {
  lines = e ∙ (ap (λ (xs : List ℕ). xs ++ 10 ∷ lines) f ∙ (ap (λ (xs : List ℕ). form.first ++ 10 ∷ xs) is ∙ sym (append_assoc form.first (10 ∷ []) (lines_text form records))));
  fit = fit;
}
