-- The laws of logs.
use Rattle.std.proofs.Common.{◌≡◌, ◌≢◌, ℕ, List, [], ◌∷◌, ◌++◌, ◌⊎◌, inl, inr, refl, sym, ap, ◌∙◌, subst, append_assoc, append-nil}
use Rattle.std.proofs.lemmas.List.Concat.{flat_map-append}
use Rattle.text.specs.Marks.{Lacks}
use Rattle.log_text.specs.declared.form.Version.{Version}
use Rattle.log_text.specs.declared.form.Version.TheVariants.{One, Two}
use Rattle.log_text.specs.declared.tail.Tail.TheVariants.{Whole, Old, Torn, Damaged}
use Rattle.log_text.specs.Line.{line_text}
use Rattle.log_text.specs.Form.{Form, record_line, IsLineOf, lines_text, HaveLines, IsReadable}
use Rattle.log_text.specs.Text.{header, IsLogOf, IsEnded, IsTornOf, EndsLine}
use Rattle.log_text.specs.Laws.{OneReading, OneSpelling, LineGrowsLog, FrontOfLog, FrontOfLines, IsEndedOrTorn, TellsFront}
use Rattle.log_text.proofs.Bytes.{Lacks-front, has_mark, one_tail, one_cut}
use Rattle.log_text.proofs.Escapes.{one_text}
use Rattle.log_text.proofs.Lines.{one_line, Lacks-line_text}
use Rattle.log_text.proofs.Reading.{AreApart}
use Rattle.log_text.proofs.Tails.{some_mark, log_ends, no_log, log_cut}

pub one_spelling_law : OneSpelling
one_spelling_law = (one_text, one_line)

front_empty : (xs ys : List ℕ) → xs ++ ys ≡ [] → xs ≡ []
front_empty [] ys e = refl
front_empty (x ∷ xs) ys e = absurd (let clash : x ∷ (xs ++ ys) ≡ [] = e in cc)

-- a line and what follows it, parted anywhere: behind the line, or within it
parted : (line after bytes rest : List ℕ) → Lacks 10 line → line ++ 10 ∷ after ≡ bytes ++ rest
    → ((more : List ℕ) × (bytes ≡ line ++ 10 ∷ more) × (after ≡ more ++ rest)) ⊎ (Lacks 10 bytes × ((end : List ℕ) × (line ++ 10 ∷ [] ≡ bytes ++ end)))
parted line after [] rest lacks e = inr (tt, (line ++ 10 ∷ [], refl))
parted [] after (b ∷ bytes) rest lacks e =
    let first : b ≡ 10 = cc in
    let back : after ≡ bytes ++ rest = cc in
    inl (bytes, ap (λ (x : ℕ). x ∷ bytes) first, back)
parted (x ∷ line) after (b ∷ bytes) rest lacks e =
    let first : x ≡ b = cc in
    elim (parted line after bytes rest lacks.1 cc) [
      | inl p ↦ inl (p.0, rw (first, p.1) refl, p.2)
      | inr q ↦ inr ((subst (λ (y : ℕ). y ≢ 10) first lacks.0, q.0), (q.1.0, rw (first, q.1.1) refl))
    ]

module _ {R : Type 0} (form : Form R) where
  record_line-cut : (r : R) (after : List ℕ) → record_line form r ++ after ≡ line_text (form.fields r) ++ 10 ∷ after
  record_line-cut r after = append_assoc (line_text (form.fields r)) (10 ∷ []) after

  one_lines : AreApart form → (a b : List R) → HaveLines form a → HaveLines form b → lines_text form a ≡ lines_text form b → a ≡ b
  one_lines apart [] [] h k e = refl
  one_lines apart [] (s ∷ b) h k e = absurd (some_mark (line_text (form.fields s)) (lines_text form b) (sym (record_line-cut s (lines_text form b)) ∙ sym e))
  one_lines apart (r ∷ a) [] h k e = absurd (some_mark (line_text (form.fields r)) (lines_text form a) (sym (record_line-cut r (lines_text form a)) ∙ e))
  one_lines apart (r ∷ a) (s ∷ b) h k e =
      let parts = one_cut 10 (line_text (form.fields r)) (line_text (form.fields s)) (lines_text form a) (lines_text form b) (Lacks-line_text (form.fields r)) (Lacks-line_text (form.fields s)) (sym (record_line-cut r (lines_text form a)) ∙ (e ∙ record_line-cut s (lines_text form b))) in
      rw (apart r s h.0.fits k.0.fits (one_line (form.fields r) (form.fields s) parts.0), one_lines apart a b h.1 k.1 parts.1) refl

  empty_log : (text : List ℕ) (a : List R) → text ≡ [] → IsLogOf form text a → ⊥
  empty_log text a e log = let end = log_ends form text a log in some_mark end.0 [] (sym end.1 ∙ e)

  pub HaveLines-append : (rs more : List R) → HaveLines form rs → HaveLines form more → HaveLines form (rs ++ more)
  HaveLines-append [] more h k = k
  HaveLines-append (r ∷ rs) more h k = (h.0, HaveLines-append rs more h.1 k)

  -- ---- lines behind a log

  pub log_more : (text : List ℕ) (old new : List R) → IsLogOf form text old → HaveLines form new → IsLogOf form (text ++ lines_text form new) (old ++ new)
  log_more text old new log fit = record {
    lines = ap (λ (xs : List ℕ). xs ++ lines_text form new) log.lines ∙ (append_assoc (header form) (lines_text form old) (lines_text form new) ∙ ap (λ (xs : List ℕ). header form ++ xs) (sym (flat_map-append (record_line form) old new)));
    fit = HaveLines-append old new log.fit fit;
  }

  pub line_behind : (text line : List ℕ) (records : List R) (r : R) → IsLogOf form text records → IsLineOf form r line → IsLogOf form (text ++ line) (records ++ r ∷ [])
  line_behind text line records r log is =
      subst (λ (xs : List ℕ). IsLogOf form (text ++ xs) (records ++ r ∷ [])) (append-nil (record_line form r) ∙ sym is.spelled) (log_more text records (r ∷ []) log (is.has, tt))

  -- ---- beginnings

  -- a beginning of lines: whole ones, and bytes without a line feed
  pub record IsFrontOf (bytes : List ℕ) (all : List R) : Type 0 where
    pub seen : List R
    pub left : List R
    pub part : List ℕ
    pub split : all ≡ seen ++ left
    pub text : bytes ≡ lines_text form seen ++ part
    pub lacks : Lacks 10 part

  pub lines_front : (all : List R) (bytes rest : List ℕ) → lines_text form all ≡ bytes ++ rest → IsFrontOf bytes all
  lines_front [] [] rest e = record { seen = []; left = []; part = []; split = refl; text = refl; lacks = tt }
  lines_front [] (b ∷ bytes) rest e = absurd (let clash : [] ≡ b ∷ (bytes ++ rest) = e in cc)
  lines_front (r ∷ all) bytes rest e =
      elim (parted (line_text (form.fields r)) (lines_text form all) bytes rest (Lacks-line_text (form.fields r)) (sym (record_line-cut r (lines_text form all)) ∙ e)) [
        | inl p ↦ let more = lines_front all p.0 rest p.2 in record { seen = r ∷ more.seen; left = more.left; part = more.part; split = ap (λ (rs : List R). r ∷ rs) more.split; text = p.1 ∙ (sym (record_line-cut r p.0) ∙ (ap (λ (xs : List ℕ). record_line form r ++ xs) more.text ∙ sym (append_assoc (record_line form r) (lines_text form more.seen) more.part))); lacks = more.lacks }
        | inr q ↦ record { seen = []; left = r ∷ all; part = bytes; split = refl; text = refl; lacks = q.0 }
      ]

  pub HaveLines-front : (seen left : List R) → HaveLines form (seen ++ left) → HaveLines form seen
  HaveLines-front [] left h = tt
  HaveLines-front (r ∷ seen) left h = (h.0, HaveLines-front seen left h.1)

  none_behind : (b : ℕ) (part xs : List ℕ) → xs ++ b ∷ part ≡ [] → ⊥
  none_behind b part [] e = cc
  none_behind b part (x ∷ xs) e = cc

  not_end : (text : List ℕ) (records : List R) (b : ℕ) (part : List ℕ) → IsLogOf form text records → Lacks 10 (b ∷ part) → EndsLine (text ++ b ∷ part) → ⊥
  not_end text records b part log lacks (inl e) = none_behind b part text e
  not_end text records b part log lacks (inr f) =
      let front = log_ends form text records log in
      let same = one_tail 10 front.0 f.0 (b ∷ part) [] lacks tt (sym (append_assoc front.0 (10 ∷ []) (b ∷ part)) ∙ (ap (λ (xs : List ℕ). xs ++ b ∷ part) (sym front.1) ∙ f.1)) in
      let clash : b ∷ part ≡ [] = same.1 in cc

  -- a log, and bytes without a line feed behind it
  with_part : (text part : List ℕ) (records : List R) → IsLogOf form text records → Lacks 10 part → IsEndedOrTorn form (text ++ part) records
  with_part text [] records log lacks =
      let whole : IsLogOf form (text ++ []) records = subst (λ (xs : List ℕ). IsLogOf form xs records) (sym (append-nil text)) log in
      inl (inr (log_ends form (text ++ []) records whole), inr whole)
  with_part text (b ∷ part) records log lacks = inr (not_end text records b part log lacks, inr (record { whole = text; rest = b ∷ part; parts = refl; some = (λ (e : b ∷ part ≡ []). cc); lacks = lacks; log = log }))

  pub lines_behind : (text bytes rest : List ℕ) (old new : List R) → IsLogOf form text old → HaveLines form new → lines_text form new ≡ bytes ++ rest
      → (seen : List R) × (left : List R) × (new ≡ seen ++ left) × IsEndedOrTorn form (text ++ bytes) (old ++ seen)
  lines_behind text bytes rest old new log fit e =
      let front = lines_front new bytes rest e in
      let seen_fit = HaveLines-front front.seen front.left (subst (HaveLines form) front.split fit) in
      (front.seen, front.left, front.split, subst (λ (xs : List ℕ). IsEndedOrTorn form xs (old ++ front.seen)) (append_assoc text (lines_text form front.seen) front.part ∙ ap (λ (xs : List ℕ). text ++ xs) (sym front.text)) (with_part (text ++ lines_text form front.seen) front.part (old ++ front.seen) (log_more text old front.seen log seen_fit) front.lacks))

  -- bytes within the first line
  within : (bytes end : List ℕ) → Lacks 10 bytes → header form ≡ bytes ++ end → IsEndedOrTorn form bytes []
  within [] end lacks e = inl (inl refl, inl (refl, refl))
  within (b ∷ bytes) end lacks e = inr (no_end, inl (record { some = (λ (f : b ∷ bytes ≡ []). cc); lacks = lacks; rest = end; begins = e; none = refl }))
    where
      no_end : EndsLine (b ∷ bytes) → ⊥
      no_end (inl f) = let clash : b ∷ bytes ≡ [] = f in cc
      no_end (inr f) = has_mark 10 f.0 [] (subst (Lacks 10) f.1 lacks)

  pub front_tells : Lacks 10 form.first → (bytes rest : List ℕ) (all : List R) → IsLogOf form (bytes ++ rest) all → TellsFront form bytes all
  front_tells lacks bytes rest all log =
      elim (parted form.first (lines_text form all) bytes rest lacks (sym (log_cut form (bytes ++ rest) all log))) [
        | inl p ↦
            let front = lines_behind (header form) p.0 rest [] all (record { lines = sym (append-nil (header form)); fit = tt }) log.fit p.2 in
            record { seen = front.0; left = front.1; split = front.2; ends = subst (λ (xs : List ℕ). IsEndedOrTorn form xs front.0) (append_assoc form.first (10 ∷ []) p.0 ∙ sym p.1) front.3 }
        | inr q ↦ record { seen = []; left = all; split = refl; ends = within bytes q.1.0 q.0 q.1.1 }
      ]

module _ {R : Type 0} (forms : Version → Form R) (readable : IsReadable forms) where
  abbrev apart : (version : Version) → AreApart (forms version)
  apart version = readable.one_record version

  -- ---- one reading

  one_log : (v w : Version) (text : List ℕ) (a b : List R) → IsLogOf (forms v) text a → IsLogOf (forms w) text b → (v ≡ w) × (a ≡ b)
  one_log One One text a b h k = (refl, one_lines (forms One) (apart One) a b h.fit k.fit (one_cut 10 (forms One).first (forms One).first (lines_text (forms One) a) (lines_text (forms One) b) (readable.one_line One) (readable.one_line One) (sym (log_cut (forms One) text a h) ∙ log_cut (forms One) text b k)).1)
  one_log Two Two text a b h k = (refl, one_lines (forms Two) (apart Two) a b h.fit k.fit (one_cut 10 (forms Two).first (forms Two).first (lines_text (forms Two) a) (lines_text (forms Two) b) (readable.one_line Two) (readable.one_line Two) (sym (log_cut (forms Two) text a h) ∙ log_cut (forms Two) text b k)).1)
  one_log One Two text a b h k = absurd (readable.differ (one_cut 10 (forms One).first (forms Two).first (lines_text (forms One) a) (lines_text (forms Two) b) (readable.one_line One) (readable.one_line Two) (sym (log_cut (forms One) text a h) ∙ log_cut (forms Two) text b k)).0)
  one_log Two One text a b h k = absurd (readable.differ (one_cut 10 (forms One).first (forms Two).first (lines_text (forms One) b) (lines_text (forms Two) a) (readable.one_line One) (readable.one_line Two) (sym (log_cut (forms One) text b k) ∙ log_cut (forms Two) text a h)).0)

  -- where a log ends behind its last line feed, no other bytes are left
  whole_rest : (v w : Version) (text whole rest : List ℕ) (a b : List R) → IsLogOf (forms v) text a → IsLogOf (forms w) whole b → text ≡ whole ++ rest → Lacks 10 rest → rest ≡ []
  whole_rest v w text whole rest a b h k e lacks =
      let end = log_ends (forms v) text a h in
      let front = log_ends (forms w) whole b k in
      (one_tail 10 front.0 end.0 rest [] lacks tt (sym (append_assoc front.0 (10 ∷ []) rest) ∙ (ap (λ (xs : List ℕ). xs ++ rest) (sym front.1) ∙ (sym e ∙ end.1)))).1

  log_torn : (v w : Version) (bytes : List ℕ) (a b : List R) → IsLogOf (forms v) bytes a → IsTornOf (forms w) bytes b → ⊥
  log_torn v w bytes a b log (inl h) = no_log (forms v) bytes a h.lacks log
  log_torn v w bytes a b log (inr l) = l.some (whole_rest v w bytes l.whole l.rest a b log l.log l.parts l.lacks)

  ended_torn : (v w : Version) (bytes : List ℕ) (a b : List R) → IsEnded (forms v) bytes a → IsTornOf (forms w) bytes b → ⊥
  ended_torn v w bytes a b (inl none) (inl h) = h.some none.0
  ended_torn v w bytes a b (inl none) (inr l) = empty_log (forms w) l.whole b (front_empty l.whole l.rest (sym l.parts ∙ none.0)) l.log
  ended_torn v w bytes a b (inr log) torn = log_torn v w bytes a b log torn

  torn_torn : (v w : Version) (bytes : List ℕ) (a b : List R) → IsTornOf (forms v) bytes a → IsTornOf (forms w) bytes b → a ≡ b
  torn_torn v w bytes a b (inl h) (inl k) = h.none ∙ sym k.none
  torn_torn v w bytes a b (inl h) (inr l) = absurd (no_log (forms w) l.whole b (Lacks-front 10 l.whole l.rest (subst (Lacks 10) l.parts h.lacks)) l.log)
  torn_torn v w bytes a b (inr l) (inl h) = absurd (no_log (forms v) l.whole a (Lacks-front 10 l.whole l.rest (subst (Lacks 10) l.parts h.lacks)) l.log)
  torn_torn v w bytes a b (inr l) (inr m) =
      let front = log_ends (forms v) l.whole a l.log in
      let other = log_ends (forms w) m.whole b m.log in
      let same = one_tail 10 front.0 other.0 l.rest m.rest l.lacks m.lacks (cut l.whole front.0 l.rest front.1 ∙ (sym l.parts ∙ (m.parts ∙ sym (cut m.whole other.0 m.rest other.1)))) in
      (one_log v w l.whole a b l.log (subst (λ (text : List ℕ). IsLogOf (forms w) text b) (other.1 ∙ (ap (λ (xs : List ℕ). xs ++ 10 ∷ []) (sym same.0) ∙ sym front.1)) m.log)).1
    where
      cut : (whole front rest : List ℕ) → whole ≡ front ++ 10 ∷ [] → front ++ 10 ∷ rest ≡ whole ++ rest
      cut whole front rest e = sym (append_assoc front (10 ∷ []) rest) ∙ ap (λ (xs : List ℕ). xs ++ rest) (sym e)

  whole_whole : (bytes : List ℕ) (a b : List R) → IsEnded (forms Two) bytes a → IsEnded (forms Two) bytes b → a ≡ b
  whole_whole bytes a b (inl e) (inl f) = e.1 ∙ sym f.1
  whole_whole bytes a b (inl e) (inr log) = absurd (empty_log (forms Two) bytes b e.0 log)
  whole_whole bytes a b (inr log) (inl f) = absurd (empty_log (forms Two) bytes a f.0 log)
  whole_whole bytes a b (inr log) (inr other) = (one_log Two Two bytes a b log other).1

  whole_old : (bytes : List ℕ) (a b : List R) → IsEnded (forms Two) bytes a → IsLogOf (forms One) bytes b → ⊥
  whole_old bytes a b (inl e) old = empty_log (forms One) bytes b e.0 old
  whole_old bytes a b (inr log) old = let clash : Two ≡ One = (one_log Two One bytes a b log old).0 in cc

  pub one_reading_law : OneReading forms
  one_reading_law bytes a b Whole Whole h k = (whole_whole bytes a b h k, refl)
  one_reading_law bytes a b Whole Old h k = absurd (whole_old bytes a b h k)
  one_reading_law bytes a b Whole Torn h k = absurd (ended_torn Two k.0 bytes a b h k.1)
  one_reading_law bytes a b Whole Damaged h k = absurd (k.1.not_ended Two a h)
  one_reading_law bytes a b Old Whole h k = absurd (whole_old bytes b a k h)
  one_reading_law bytes a b Old Old h k = ((one_log One One bytes a b h k).1, refl)
  one_reading_law bytes a b Old Torn h k = absurd (log_torn One k.0 bytes a b h k.1)
  one_reading_law bytes a b Old Damaged h k = absurd (k.1.not_ended One a (inr h))
  one_reading_law bytes a b Torn Whole h k = absurd (ended_torn Two h.0 bytes b a k h.1)
  one_reading_law bytes a b Torn Old h k = absurd (log_torn One h.0 bytes b a k h.1)
  one_reading_law bytes a b Torn Torn h k = (torn_torn h.0 k.0 bytes a b h.1 k.1, refl)
  one_reading_law bytes a b Torn Damaged h k = absurd (k.1.not_torn a h)
  one_reading_law bytes a b Damaged Whole h k = absurd (h.1.not_ended Two b k)
  one_reading_law bytes a b Damaged Old h k = absurd (h.1.not_ended One b (inr k))
  one_reading_law bytes a b Damaged Torn h k = absurd (h.1.not_torn b k)
  one_reading_law bytes a b Damaged Damaged h k = (h.0 ∙ sym k.0, refl)

  pub line_grows_log_law : LineGrowsLog forms
  line_grows_log_law version text line records r = line_behind (forms version) text line records r

  pub front_of_lines_law : FrontOfLines forms
  front_of_lines_law version = lines_behind (forms version)

  pub front_of_log_law : FrontOfLog forms
  front_of_log_law version bytes rest all log = front_tells (forms version) (readable.one_line version) bytes rest all log
