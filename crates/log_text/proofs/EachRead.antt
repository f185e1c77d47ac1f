-- All bytes have a reading.
use Rattle.std.proofs.Common.{◌≡◌, ◌≢◌, ◌⊎◌, inl, inr, ℕ, List, [], ◌∷◌, ◌++◌, refl, sym, ap, ◌∙◌, subst, append_assoc}
use Rattle.std.specs.Str.{bytes_eq}
use Rattle.std.proofs.lemmas.Bool.{cases_eq, cases_Bool, false≢true}
use Rattle.std.proofs.lemmas.Slice.Eq.{bytes_eq-Decides}
use Rattle.text.specs.Marks.{Lacks}
use Rattle.log_text.specs.declared.form.Version.{Version}
use Rattle.log_text.specs.declared.form.Version.TheVariants.{One, Two}
use Rattle.log_text.specs.declared.tail.Tail.{Tail}
use Rattle.log_text.specs.declared.tail.Tail.TheVariants.{Whole, Old, Torn, Damaged}
use Rattle.log_text.specs.Form.{Form, IsReadable}
use Rattle.log_text.specs.Text.{header, IsLogOf, IsRead}
use Rattle.log_text.specs.Laws.{OneReading, EachIsRead, HasReader, told_at}
use Rattle.log_text.proofs.Bytes.{has_mark}
use Rattle.log_text.proofs.Tails.{some_mark, damaged_header, damaged_lines, log_first, log_lines, log_of_lines, whole_behind, old_behind, torn_behind}
use Rattle.log_text.proofs.Decided.{first_cut, last_cut, records_of_lines}

-- whether bytes begin a text
begins : (text bytes : List ℕ) → ((rest : List ℕ) × (text ≡ bytes ++ rest)) ⊎ ((rest : List ℕ) → text ≡ bytes ++ rest → ⊥)
begins text [] = inl (text, refl)
begins [] (b ∷ bytes) = inr (λ rest e. let clash : [] ≡ b ∷ (bytes ++ rest) = e in cc)
begins (t ∷ text) (b ∷ bytes) = elim (cases_eq t b) [
  | inl same ↦ elim (begins text bytes) [
    | inl more ↦ inl (more.0, rw (same, more.1) refl)
    | inr none ↦ inr (λ rest e. none rest (let both : t ∷ text ≡ b ∷ (bytes ++ rest) = e in cc))
  ]
  | inr other ↦ inr (λ rest e. other (let both : t ∷ text ≡ b ∷ (bytes ++ rest) = e in cc))
]

pub same_or_not : (a b : List ℕ) → (a ≡ b) ⊎ (a ≡ b → ⊥)
same_or_not a b = elim (cases_Bool (bytes_eq a b)) [
  | inl same ↦ inl ((bytes_eq-Decides a b).0 same)
  | inr other ↦ inr (λ e. false≢true (sym other ∙ (bytes_eq-Decides a b).1 e))
]

none_or_some : (xs : List ℕ) → (xs ≡ []) ⊎ (xs ≢ [])
none_or_some [] = inl refl
none_or_some (x ∷ xs) = inr (λ (e : x ∷ xs ≡ []). cc)

module _ {R : Type 0} (forms : Version → Form R) (readable : IsReadable forms) where
  abbrev Reading : List ℕ → Type 0
  Reading bytes = (records : List R) × (tail : Tail) × IsRead forms bytes records tail

  -- bytes without a line feed
  read_beginning : (bytes : List ℕ) → Lacks 10 bytes → Reading bytes
  read_beginning bytes lacks = elim (none_or_some bytes) [
    | inl none ↦ ([], Whole, inl (none, refl))
    | inr some ↦ elim (begins (header (forms Two)) bytes) [
      | inl two ↦ ([], Torn, (Two, inl (record { some = some; lacks = lacks; rest = two.0; begins = two.1; none = refl })))
      | inr not_two ↦ elim (begins (header (forms One)) bytes) [
        | inl one ↦ ([], Torn, (One, inl (record { some = some; lacks = lacks; rest = one.0; begins = one.1; none = refl })))
        | inr not_one ↦ ([], Damaged, (refl, damaged_header forms bytes lacks some (neither not_one not_two)))
      ]
    ]
  ]
    where
      neither : ((rest : List ℕ) → header (forms One) ≡ bytes ++ rest → ⊥) → ((rest : List ℕ) → header (forms Two) ≡ bytes ++ rest → ⊥) → (version : Version) (rest : List ℕ) → header (forms version) ≡ bytes ++ rest → ⊥
      neither one two One = one
      neither one two Two = two

  -- a log of a version, and what stands behind it
  read_behind : (version : Version) (whole rest : List ℕ) (records : List R) → Lacks 10 rest → IsLogOf (forms version) whole records → Reading (whole ++ rest)
  read_behind One whole rest records lacks log = elim (none_or_some rest) [
    | inl none ↦ (records, Old, old_behind forms whole rest records none log)
    | inr some ↦ (records, Torn, torn_behind forms One whole rest records some lacks log)
  ]
  read_behind Two whole rest records lacks log = elim (none_or_some rest) [
    | inl none ↦ (records, Whole, whole_behind forms whole rest records none log)
    | inr some ↦ (records, Torn, torn_behind forms Two whole rest records some lacks log)
  ]

  -- whole lines, the first of which is one of this version, and what stands behind them
  read_lines : (version : Version) (front rest first lines : List ℕ) → Lacks 10 rest → front ++ 10 ∷ [] ≡ first ++ 10 ∷ lines → Lacks 10 first → first ≡ (forms version).first → Reading ((front ++ 10 ∷ []) ++ rest)
  read_lines version front rest first lines lacks splits plain is =
      elim (records_of_lines (forms version) (readable.one_record version) (readable.decided version) lines) [
        | inl found ↦ read_behind version (front ++ 10 ∷ []) rest found.0 lacks (log_of_lines (forms version) (front ++ 10 ∷ []) first lines found.0 splits is found.1 found.2)
        | inr none ↦ (
          [],
          Damaged,
          (
            refl,
            damaged_lines forms ((front ++ 10 ∷ []) ++ rest) (front ++ 10 ∷ []) rest refl lacks (inr (front, refl)) (some_mark front []) (λ w rs log.
                let same = log_lines forms readable version w (front ++ 10 ∷ []) first lines rs splits plain is log in
                none rs same.1 same.0),
          ),
        )
      ]

  -- whole lines, and what stands behind them
  read_whole : (front rest : List ℕ) → Lacks 10 rest → Reading ((front ++ 10 ∷ []) ++ rest)
  read_whole front rest lacks = elim (first_cut 10 (front ++ 10 ∷ [])) [
    | inl none ↦ absurd (has_mark 10 front [] none)
    | inr c ↦ elim (same_or_not c.front (forms Two).first) [
      | inl two ↦ read_lines Two front rest c.front c.after lacks c.splits c.lacks two
      | inr not_two ↦ elim (same_or_not c.front (forms One).first) [
        | inl one ↦ read_lines One front rest c.front c.after lacks c.splits c.lacks one
        | inr not_one ↦ (
          [],
          Damaged,
          (
            refl,
            damaged_lines forms ((front ++ 10 ∷ []) ++ rest) (front ++ 10 ∷ []) rest refl lacks (inr (front, refl)) (some_mark front []) (λ w rs log.
                neither c.front not_one not_two w (log_first forms readable w (front ++ 10 ∷ []) c.front c.after rs c.splits c.lacks log)),
          ),
        )
      ]
    ]
  ]
    where
      neither : (first : List ℕ) → (first ≡ (forms One).first → ⊥) → (first ≡ (forms Two).first → ⊥) → (version : Version) → first ≡ (forms version).first → ⊥
      neither first one two One = one
      neither first one two Two = two

  pub each_is_read_law : EachIsRead forms
  each_is_read_law bytes = elim (last_cut 10 bytes) [
    | inl lacks ↦ read_beginning bytes lacks
    | inr c ↦ subst Reading (append_assoc c.front (10 ∷ []) c.after ∙ sym c.splits) (read_whole c.front c.after c.lacks)
  ]

-- what a reading tells, by any reading of the same bytes
pub has_reader_law : {R : Type 0} (forms : Version → Form R) → OneReading forms → EachIsRead forms → HasReader forms
has_reader_law {R} forms one each = (λ bytes. told_at (each bytes).1 (each bytes).0, reads)
  where
    reads : (bytes : List ℕ) (records : List R) (tail : Tail) → IsRead forms bytes records tail → told_at (each bytes).1 (each bytes).0 ≡ told_at tail records
    reads bytes records tail is =
        let same = one bytes (each bytes).0 records (each bytes).1 tail (each bytes).2 is in
        ap (λ (t : Tail). told_at t (each bytes).0) same.1 ∙ ap (told_at tail) same.0
