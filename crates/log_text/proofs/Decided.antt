-- What stands in a text can be told: items one after another from its front, where a mark stands, what fields and lines spell.
use Rattle.std.proofs.Common.{◌≡◌, ◌≢◌, ◌<◌, ◌⊎◌, inl, inr, ℕ, zero, suc, true, false, List, [], ◌∷◌, ◌++◌, length, refl, sym, ap, ◌∙◌, subst, append_assoc, length-append, arith}
use Rattle.std.specs.List.{flat_map, AllByRecursion}
use Rattle.std.specs.Str.{IsUtf8, is_utf8}
use Rattle.std.proofs.lemmas.Str.{IsUtf8-from_is_utf8, is_utf8-from_IsUtf8}
use Rattle.std.proofs.lemmas.Bool.{cases_eq, cases_Bool}
use Rattle.std.proofs.lemmas.Bool.Decides.{nat_tests}
use Rattle.text.specs.Marks.{Lacks}
use Rattle.text.specs.Fronts.{IsNext, HasNoNext}
use Rattle.log_text.specs.Line.{field_text, field_and_tab, escaped, line_text, AreTexts, IsNoLine, SpellsNothing}
use Rattle.log_text.specs.Form.{Form, record_line, HasLine, HaveLines, lines_text, IsRecordOrNone, AreNoLinesOf}
use Rattle.log_text.proofs.Bytes.{has_mark}
use Rattle.log_text.proofs.Escapes.{AnyByte, all_fit, one_escape, escaped-plain, not_utf8}
use Rattle.log_text.proofs.Lines.{front_field, next_field, dot_ends, no_dot, one_line}
use Rattle.log_text.proofs.Reading.{AreApart, front_line, next_record}

-- ---- marks

-- the bytes before the first mark, and those behind it
pub record IsCut (mark : ℕ) (xs : List ℕ) : Type 0 where
  pub front : List ℕ
  pub after : List ℕ
  pub splits : xs ≡ front ++ mark ∷ after
  pub lacks : Lacks mark front

pub first_cut : (mark : ℕ) (xs : List ℕ) → Lacks mark xs ⊎ IsCut mark xs
first_cut mark [] = inl tt
first_cut mark (x ∷ xs) = elim (cases_eq x mark) [
  | inl same ↦ inr (record { front = []; after = xs; splits = ap (λ (y : ℕ). y ∷ xs) same; lacks = tt })
  | inr other ↦ elim (first_cut mark xs) [
    | inl lacks ↦ inl (other, lacks)
    | inr c ↦ inr (record { front = x ∷ c.front; after = c.after; splits = ap (λ (l : List ℕ). x ∷ l) c.splits; lacks = (other, c.lacks) })
  ]
]

-- the bytes before the last mark, and those behind it
pub record IsLastCut (mark : ℕ) (xs : List ℕ) : Type 0 where
  pub front : List ℕ
  pub after : List ℕ
  pub splits : xs ≡ front ++ mark ∷ after
  pub lacks : Lacks mark after

pub last_cut : (mark : ℕ) (xs : List ℕ) → Lacks mark xs ⊎ IsLastCut mark xs
last_cut mark [] = inl tt
last_cut mark (x ∷ xs) = elim (last_cut mark xs) [
  | inr c ↦ inr (record { front = x ∷ c.front; after = c.after; splits = ap (λ (l : List ℕ). x ∷ l) c.splits; lacks = c.lacks })
  | inl lacks ↦ elim (cases_eq x mark) [
    | inl same ↦ inr (record { front = []; after = xs; splits = ap (λ (y : ℕ). y ∷ xs) same; lacks = lacks })
    | inr other ↦ inl (other, lacks)
  ]
]

less_behind : (xs front after : List ℕ) (mark : ℕ) → xs ≡ front ++ mark ∷ after → length after < length xs
less_behind xs front after mark e =
    let all : length xs ≡ length (front ++ mark ∷ after) = ap (λ (l : List ℕ). length l) e in
    let parts = length-append front (mark ∷ after) in
    omega (arith, all, parts)

-- ---- items

module _ {X : Type 0} (spell : X → List ℕ) (Fits : X → Type 0) where
  -- an item stands in front, and less is left behind it
  pub record HasNext (rest : List ℕ) : Type 0 where
    pub item : X
    pub after : List ℕ
    pub next : IsNext spell Fits rest item after
    pub less : length after < length rest

  abbrev pub AreNoItems : List ℕ → Type 0
  AreNoItems text = (items : List X) → AllByRecursion Fits items → text ≡ flat_map spell items → ⊥

  abbrev pub AreItemsOrNone : List ℕ → Type 0
  AreItemsOrNone text = ((items : List X) × (text ≡ flat_map spell items) × AllByRecursion Fits items) ⊎ AreNoItems text

  none_behind : (b : ℕ) (text : List ℕ) (h : HasNext (b ∷ text)) → AreNoItems h.after → AreNoItems (b ∷ text)
  none_behind b text h none [] fit e = let clash : b ∷ text ≡ [] = e in cc
  none_behind b text h none (x ∷ items) fit e = none items fit.1 (h.next.only x (flat_map spell items) fit.0 e).1

  none_here : (b : ℕ) (text : List ℕ) → HasNoNext spell Fits (b ∷ text) → AreNoItems (b ∷ text)
  none_here b text none [] fit e = let clash : b ∷ text ≡ [] = e in cc
  none_here b text none (x ∷ items) fit e = none x (flat_map spell items) fit.0 e

  pub items_of : ((rest : List ℕ) → HasNext rest ⊎ HasNoNext spell Fits rest) → (bound : ℕ) (text : List ℕ) → length text < bound → AreItemsOrNone text
  items_of next zero text lt = absurd (omega (arith, lt))
  items_of next (suc bound) [] lt = inl ([], refl, tt)
  items_of next (suc bound) (b ∷ text) lt = elim (next (b ∷ text)) [
    | inl h ↦ elim (items_of next bound h.after (omega (arith, lt, h.less))) [
      | inl more ↦ inl (h.item ∷ more.0, h.next.spelled ∙ ap (λ (xs : List ℕ). spell h.item ++ xs) more.1, (h.next.fits, more.2))
      | inr none ↦ inr (none_behind b text h none)
    ]
    | inr none ↦ inr (none_here b text none)
  ]

-- ---- fields

no_escape_alone : (item : ℕ) (after : List ℕ) → 92 ∷ [] ≡ escaped item ++ after → ⊥
no_escape_alone item after e = grind (arith, nat_tests)

no_escape : (b : ℕ) (rest : List ℕ) → b ≢ 92 → b ≢ 116 → b ≢ 110 → (item : ℕ) (after : List ℕ) → 92 ∷ b ∷ rest ≡ escaped item ++ after → ⊥
no_escape b rest x y z item after e = grind (arith, nat_tests)

no_tab : (b : ℕ) (rest : List ℕ) → b ≡ 9 → (item : ℕ) (after : List ℕ) → b ∷ rest ≡ escaped item ++ after → ⊥
no_tab b rest x item after e = grind (arith, nat_tests)

no_line_feed : (b : ℕ) (rest : List ℕ) → b ≡ 10 → (item : ℕ) (after : List ℕ) → b ∷ rest ≡ escaped item ++ after → ⊥
no_line_feed b rest x item after e = grind (arith, nat_tests)

next_is : (rest : List ℕ) (item : ℕ) (after : List ℕ) → rest ≡ escaped item ++ after → length after < length rest → HasNext escaped AnyByte rest
next_is rest item after e less = record {
  item = item;
  after = after;
  next = record { spelled = e; fits = tt; only = λ other others fits f. one_escape item other after others (sym e ∙ f) };
  less = less;
}

next_letter : (b : ℕ) (rest : List ℕ) → HasNext escaped AnyByte (92 ∷ b ∷ rest) ⊎ HasNoNext escaped AnyByte (92 ∷ b ∷ rest)
next_letter b rest = elim (cases_eq b 92) [
  | inl same ↦ inl (next_is (92 ∷ b ∷ rest) 92 rest (ap (λ (x : ℕ). 92 ∷ x ∷ rest) same) (omega arith))
  | inr x ↦ elim (cases_eq b 116) [
    | inl same ↦ inl (next_is (92 ∷ b ∷ rest) 9 rest (ap (λ (x : ℕ). 92 ∷ x ∷ rest) same) (omega arith))
    | inr y ↦ elim (cases_eq b 110) [
      | inl same ↦ inl (next_is (92 ∷ b ∷ rest) 10 rest (ap (λ (x : ℕ). 92 ∷ x ∷ rest) same) (omega arith))
      | inr z ↦ inr (λ item after fits e. no_escape b rest x y z item after e)
    ]
  ]
]

next_escape : (rest : List ℕ) → HasNext escaped AnyByte rest ⊎ HasNoNext escaped AnyByte rest
next_escape [] = inr (λ item after fits e. grind (arith, nat_tests))
next_escape (b ∷ rest) = elim (cases_eq b 92) [
  | inl same ↦ subst (λ (x : ℕ). HasNext escaped AnyByte (x ∷ rest) ⊎ HasNoNext escaped AnyByte (x ∷ rest)) (sym same) (behind rest)
  | inr x ↦ elim (cases_eq b 9) [
    | inl same ↦ inr (λ item after fits e. no_tab b rest same item after e)
    | inr y ↦ elim (cases_eq b 10) [
      | inl same ↦ inr (λ item after fits e. no_line_feed b rest same item after e)
      | inr z ↦ inl (next_is (b ∷ rest) b rest (sym (ap (λ (l : List ℕ). l ++ rest) (escaped-plain b x y z))) (omega arith))
    ]
  ]
]
  where
    behind : (rest : List ℕ) → HasNext escaped AnyByte (92 ∷ rest) ⊎ HasNoNext escaped AnyByte (92 ∷ rest)
    behind [] = inr (λ item after fits e. no_escape_alone item after e)
    behind (c ∷ rest) = next_letter c rest

-- the text that a field spells, or that it spells none
pub text_of : (field : List ℕ) → ((text : List ℕ) × (field ≡ field_text text) × IsUtf8 text) ⊎ SpellsNothing field
text_of field = elim (items_of escaped AnyByte next_escape (suc (length field)) field (omega arith)) [
  | inl found ↦ elim (cases_Bool (is_utf8 found.0)) [
    | inl good ↦ inl (found.0, found.1, IsUtf8-from_is_utf8 found.0 good)
    | inr bad ↦ inr (not_utf8 field found.0 found.1 (λ utf8. let clash : true ≡ false = sym (is_utf8-from_IsUtf8 found.0 utf8) ∙ bad in cc))
  ]
  | inr none ↦ inr (λ text utf8 e. none text (all_fit text) e)
]

-- ---- lines of fields

field_next : (rest : List ℕ) → HasNext field_and_tab IsUtf8 rest ⊎ HasNoNext field_and_tab IsUtf8 rest
field_next rest = elim (first_cut 9 rest) [
  | inl lacks ↦ inr (λ text others utf8 e. has_mark 9 (field_text text) others (subst (Lacks 9) (e ∙ append_assoc (field_text text) (9 ∷ []) others) lacks))
  | inr c ↦ elim (text_of c.front) [
    | inl t ↦ inl (record { item = t.0; after = c.after; next = next_field rest c.front c.after t.0 c.splits c.lacks t.1 t.2; less = less_behind rest c.front c.after 9 c.splits })
    | inr none ↦ inr (λ text others utf8 e. none text utf8 (front_field rest c.front c.after text others c.splits c.lacks e).0)
  ]
]

dot_of : (line : List ℕ) → ((front : List ℕ) × (line ≡ front ++ 46 ∷ [])) ⊎ ((front : List ℕ) → line ≡ front ++ 46 ∷ [] → ⊥)
dot_of [] = inr none
  where
    none : (front : List ℕ) → [] ≡ front ++ 46 ∷ [] → ⊥
    none [] e = cc
    none (x ∷ xs) e = cc
dot_of (x ∷ []) = elim (cases_eq x 46) [
  | inl same ↦ inl ([], ap (λ (y : ℕ). y ∷ []) same)
  | inr other ↦ inr (none other)
]
  where
    none : x ≢ 46 → (front : List ℕ) → x ∷ [] ≡ front ++ 46 ∷ [] → ⊥
    none other [] e = other cc
    none other (y ∷ []) e = cc
    none other (y ∷ z ∷ ys) e = cc
dot_of (x ∷ y ∷ line) = elim (dot_of (y ∷ line)) [
  | inl d ↦ inl (x ∷ d.0, ap (λ (l : List ℕ). x ∷ l) d.1)
  | inr not ↦ inr (none not)
]
  where
    none : ((front : List ℕ) → y ∷ line ≡ front ++ 46 ∷ [] → ⊥) → (front : List ℕ) → x ∷ y ∷ line ≡ front ++ 46 ∷ [] → ⊥
    none not [] e = cc
    none not (z ∷ front) e = not front cc

-- the texts that a line spells, or that it spells none
pub fields_of_line : (line : List ℕ) → ((fields : List (List ℕ)) × (line ≡ line_text fields) × AreTexts fields) ⊎ IsNoLine line
fields_of_line line = elim (dot_of line) [
  | inl d ↦ elim (items_of field_and_tab IsUtf8 field_next (suc (length d.0)) d.0 (omega arith)) [
    | inl found ↦ inl (found.0, d.1 ∙ ap (λ (l : List ℕ). l ++ 46 ∷ []) found.1, found.2)
    | inr none ↦ inr (λ whole texts f. none whole texts (dot_ends d.0 (flat_map field_and_tab whole) (sym d.1 ∙ f)))
  ]
  | inr not ↦ inr (no_dot line not)
]

-- ---- lines of records

module _ {R : Type 0} (form : Form R) (apart : AreApart form) (decided : (fields : List (List ℕ)) → IsRecordOrNone form fields) where
  record_next : (rest : List ℕ) → HasNext (record_line form) (HasLine form) rest ⊎ HasNoNext (record_line form) (HasLine form) rest
  record_next rest = elim (first_cut 10 rest) [
    | inl lacks ↦ inr (λ r others has e. has_mark 10 (line_text (form.fields r)) others (subst (Lacks 10) (e ∙ append_assoc (line_text (form.fields r)) (10 ∷ []) others) lacks))
    | inr c ↦ elim (fields_of_line c.front) [
      | inl l ↦ elim (decided l.0) [
        | inl r ↦ inl (record {
          item = r.0;
          after = c.after;
          next = next_record form apart rest c.front c.after r.0 c.splits (l.1 ∙ ap line_text r.1) (record { fits = r.2; texts = subst AreTexts r.1 l.2 });
          less = less_behind rest c.front c.after 10 c.splits;
        })
        | inr none ↦ inr (λ r others has e. none r has.fits (one_line l.0 (form.fields r) (sym l.1 ∙ (front_line form rest c.front c.after r others c.splits c.lacks e).0)))
      ]
      | inr none ↦ inr (λ r others has e. none (form.fields r) has.texts (front_line form rest c.front c.after r others c.splits c.lacks e).0)
    ]
  ]

  -- the records whose lines these are, or that they are no records' lines
  pub records_of_lines : (lines : List ℕ) → ((records : List R) × (lines ≡ lines_text form records) × HaveLines form records) ⊎ AreNoLinesOf form lines
  records_of_lines lines = items_of (record_line form) (HasLine form) record_next (suc (length lines)) lines (omega arith)
