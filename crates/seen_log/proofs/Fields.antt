-- The fields of a record.
use Rattle.std.proofs.Common.{◌≡◌, ◌<◌, ℕ, decimal, true, false, List, [], ◌∷◌, length, get_or, refl, sym, ap, ◌∙◌, arith}
use Rattle.std.proofs.lemmas.Fmt.{decimal_injective}
use Rattle.text.specs.Marks.{Lacks}
use Rattle.log_text.specs.declared.form.Version.{Version}
use Rattle.log_text.specs.declared.form.Version.TheVariants.{One, Two}
use Rattle.seen_log.specs.declared.note.Kind.{Kind}
use Rattle.seen_log.specs.declared.note.Kind.TheVariants.{Source, Made, Turned}
use Rattle.seen_log.specs.declared.note.Note.{Note}
use Rattle.seen_log.specs.declared.note.Noted.{Noted}
use Rattle.seen_log.specs.declared.note.Numbers.{Numbers}
use Rattle.seen_log.specs.Record.{noted_fields, number_fields, fields_of, first_line, letter, AreLow, IsLow}

-- a letter is of one kind
pub one_letter : (a b : Kind) → letter a ≡ letter b → a ≡ b
one_letter Source Source e = refl
one_letter Source Made e = absurd (let clash : 115 ≡ 109 = e in omega (arith, clash))
one_letter Source Turned e = absurd (let clash : 115 ≡ 116 = e in omega (arith, clash))
one_letter Made Source e = absurd (let clash : 109 ≡ 115 = e in omega (arith, clash))
one_letter Made Made e = refl
one_letter Made Turned e = absurd (let clash : 109 ≡ 116 = e in omega (arith, clash))
one_letter Turned Source e = absurd (let clash : 116 ≡ 115 = e in omega (arith, clash))
one_letter Turned Made e = absurd (let clash : 116 ≡ 109 = e in omega (arith, clash))
one_letter Turned Turned e = refl

-- what the parts of the fields are, where they are a record's
abbrev pub ArePartsOf : Note → List ℕ → List ℕ → List (List ℕ) → Type 0
ArePartsOf r kind path after = (kind ≡ letter r.noted.kind ∷ []) × (path ≡ r.path) × (after ≡ noted_fields r.noted)

pub kind_of : (fields : List (List ℕ)) (kind : List ℕ) (rest : List (List ℕ)) → fields ≡ kind ∷ rest → (other : Note) → fields ≡ fields_of other → (kind ≡ letter other.noted.kind ∷ []) × (rest ≡ other.path ∷ noted_fields other.noted)
kind_of fields kind rest e other g =
    let both : kind ∷ rest ≡ (letter other.noted.kind ∷ []) ∷ other.path ∷ noted_fields other.noted = sym e ∙ g in
    let first : kind ≡ letter other.noted.kind ∷ [] = cc in
    let others : rest ≡ other.path ∷ noted_fields other.noted = cc in
    (first, others)

pub parts_of : (fields : List (List ℕ)) (kind : List ℕ) (rest : List (List ℕ)) (path : List ℕ) (after : List (List ℕ)) → fields ≡ kind ∷ rest → rest ≡ path ∷ after → (other : Note) → fields ≡ fields_of other → ArePartsOf other kind path after
parts_of fields kind rest path after e f other g =
    let first = kind_of fields kind rest e other g in
    let both : path ∷ after ≡ other.path ∷ noted_fields other.noted = sym f ∙ first.1 in
    let second : path ≡ other.path = cc in
    let others : after ≡ noted_fields other.noted = cc in
    (first.0, second, others)

-- the numbers of what is noted
abbrev pub numbers_of : Noted → Numbers
numbers_of noted = record { stamp = noted.stamp; size = noted.size; number = noted.number }

pub low_numbers : (noted : Noted) → IsLow noted → AreLow (numbers_of noted)
low_numbers noted low = record { stamp = low.stamp; size = low.size; number = low.number }

-- ---- texts of both versions are read in one way

one_number : (a b : ℕ) → a < 18446744073709551616 → b < 18446744073709551616 → decimal a ≡ decimal b → a ≡ b
one_number a b h k e = decimal_injective a b h k e

-- what is noted is read from fields in one way
one_noted : (a b : Noted) → IsLow a → IsLow b → a.kind ≡ b.kind → noted_fields a ≡ noted_fields b → a ≡ b
one_noted a b h k kind e =
    let first : decimal a.stamp ≡ decimal b.stamp = cc in
    let second : decimal a.size ≡ decimal b.size = cc in
    let third : decimal a.number ≡ decimal b.number = cc in
    let stamp = one_number a.stamp b.stamp h.stamp k.stamp first in
    let size = one_number a.size b.size h.size k.size second in
    let number = one_number a.number b.number h.number k.number third in
    λ i. record { kind = kind i; stamp = stamp i; size = size i; number = number i }

head_is : (a b : ℕ) → a ∷ [] ≡ b ∷ [] → a ≡ b
head_is a b e = ap (λ (xs : List ℕ). get_or xs 0 0) e

pub one_record : (v : Version) (r s : Note) → IsLow r.noted → IsLow s.noted → fields_of r ≡ fields_of s → r ≡ s
one_record v r s x y e =
    let parts = parts_of (fields_of r) (letter r.noted.kind ∷ []) (r.path ∷ noted_fields r.noted) r.path (noted_fields r.noted) refl refl s e in
    let kind = one_letter r.noted.kind s.noted.kind (head_is (letter r.noted.kind) (letter s.noted.kind) parts.0) in
    let noted = one_noted r.noted s.noted x y kind parts.2 in
    λ i. record { path = parts.1 i; noted = noted i }

pub no_line_feed : (v : Version) → Lacks 10 (first_line v)
no_line_feed One = (omega arith, (omega arith, (omega arith, (omega arith, (omega arith, (omega arith, (omega arith, (omega arith, (omega arith, tt)))))))))
no_line_feed Two = (omega arith, (omega arith, (omega arith, (omega arith, (omega arith, (omega arith, (omega arith, (omega arith, (omega arith, tt)))))))))

abbrev byte_at : List ℕ → ℕ → ℕ
byte_at xs n = get_or xs n 0

pub other_lines : first_line One ≡ first_line Two → ⊥
other_lines e = let clash = ap (λ (xs : List ℕ). byte_at xs 8) e in omega arith
