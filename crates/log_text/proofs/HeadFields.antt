-- The fields of a record.
use Rattle.std.proofs.Common.{◌≡◌, ◌<◌, ℕ, decimal, true, false, List, [], ◌∷◌, ◌++◌, not, length, get_or, refl, sym, ap, ◌∙◌, arith, append-nil, Option, Some, None}
use Rattle.std.specs.Prelude.{IfNone}
use Rattle.std.specs.Str.{bytes_eq}
use Rattle.std.proofs.lemmas.Slice.Eq.{bytes_eq-Decides}
use Rattle.std.proofs.lemmas.Bool.{false≢true, not-false}
use Rattle.std.proofs.lemmas.Fmt.{decimal_injective}
use Rattle.text.specs.Marks.{Lacks}
use Rattle.model.specs.declared.record.DepsRecord.{DepsRecord}
use Rattle.log_text.specs.declared.form.Version.{Version}
use Rattle.log_text.specs.declared.form.Version.TheVariants.{One, Two}
use Rattle.log_text.specs.Line.{counted}
use Rattle.log_text.specs.BuildRecord.{output_fields, HasRoomFor}
use Rattle.log_text.specs.DepsRecordLine.{told_fields, fields_of, IsRecord, first_line}

append_same : (os ps xs ys : List (List ℕ)) → length os ≡ length ps → os ++ xs ≡ ps ++ ys → (os ≡ ps) × (xs ≡ ys)
append_same [] [] xs ys len e = (refl, e)
append_same [] (p ∷ ps) xs ys len e = absurd (omega arith)
append_same (o ∷ os) [] xs ys len e = absurd (omega arith)
append_same (o ∷ os) (p ∷ ps) xs ys len e =
    let first : o ≡ p = cc in
    let rest : os ++ xs ≡ ps ++ ys = cc in
    let both = append_same os ps xs ys (omega arith) rest in
    (ap (λ (x : List ℕ). x ∷ os) first ∙ ap (λ (l : List (List ℕ)). p ∷ l) both.0, both.1)

-- a counted list is read from fields in one way
one_list : (os ps xs ys : List (List ℕ)) → length os < 18446744073709551616 → length ps < 18446744073709551616 → counted os ++ xs ≡ counted ps ++ ys → (os ≡ ps) × (xs ≡ ys)
one_list os ps xs ys h k e =
    let count : decimal (length os) ≡ decimal (length ps) = cc in
    let rest : os ++ xs ≡ ps ++ ys = cc in
    append_same os ps xs ys (decimal_injective (length os) (length ps) h k count) rest

-- and so are outputs
one_split : (v : Version) (os ps xs ys : List (List ℕ)) → HasRoomFor v os → HasRoomFor v ps → output_fields v os ++ xs ≡ output_fields v ps ++ ys → (os ≡ ps) × (xs ≡ ys)
one_split One os ps xs ys h k e = append_same os ps xs ys (h ∙ sym k) e
one_split Two os ps xs ys h k e = one_list os ps xs ys h.1 k.1 e

-- what the parts of the fields are, where they are a record's
abbrev pub ArePartsOf : DepsRecord → List ℕ → List (List ℕ) → List (List ℕ) → Type 0
ArePartsOf r kind outputs after = (kind ≡ 114 ∷ []) × (outputs ≡ r.outputs) × (after ≡ told_fields r.start r.paths)

pub kind_of : (v : Version) (fields : List (List ℕ)) (kind : List ℕ) (rest : List (List ℕ)) → fields ≡ kind ∷ rest → (other : DepsRecord) → fields ≡ fields_of v other → (kind ≡ 114 ∷ []) × (rest ≡ output_fields v other.outputs ++ told_fields other.start other.paths)
kind_of v fields kind rest e other g =
    let both : kind ∷ rest ≡ (114 ∷ []) ∷ (output_fields v other.outputs ++ told_fields other.start other.paths) = sym e ∙ g in
    let first : kind ≡ 114 ∷ [] = cc in
    let others : rest ≡ output_fields v other.outputs ++ told_fields other.start other.paths = cc in
    (first, others)

pub parts_of : (v : Version) (fields : List (List ℕ)) (kind : List ℕ) (rest outputs after : List (List ℕ)) → fields ≡ kind ∷ rest → rest ≡ output_fields v outputs ++ after → HasRoomFor v outputs → (other : DepsRecord) → IsRecord v other → fields ≡ fields_of v other → ArePartsOf other kind outputs after
parts_of v fields kind rest outputs after e f room other is g =
    let both = kind_of v fields kind rest e other g in
    let same = one_split v outputs other.outputs after (told_fields other.start other.paths) room is.room (sym f ∙ both.1) in
    (both.0, same.0, same.1)

-- ---- texts of both versions are read in one way

-- a start and paths are read from fields in one way
one_telling : (m n : ℕ) (ps qs : List (List ℕ)) → m < 18446744073709551616 → n < 18446744073709551616 → length ps < 18446744073709551616 → length qs < 18446744073709551616 → told_fields m ps ≡ told_fields n qs → (m ≡ n) × (ps ≡ qs)
one_telling m n ps qs h k a b e =
    let first : decimal m ≡ decimal n = cc in
    let rest : counted ps ≡ counted qs = cc in
    (decimal_injective m n h k first, (one_list ps qs [] [] a b (append-nil (counted ps) ∙ (rest ∙ sym (append-nil (counted qs))))).0)

pub one_record : (v : Version) (r s : DepsRecord) → IsRecord v r → IsRecord v s → fields_of v r ≡ fields_of v s → r ≡ s
one_record v r s x y e =
    let parts = parts_of v (fields_of v r) (114 ∷ []) (output_fields v r.outputs ++ told_fields r.start r.paths) r.outputs (told_fields r.start r.paths) refl refl x.room s y e in
    let told = one_telling r.start s.start r.paths s.paths x.start y.start x.paths y.paths parts.2 in
    λ i. record { outputs = parts.1 i; start = told.0 i; paths = told.1 i }

pub no_line_feed : (v : Version) → Lacks 10 (first_line v)
no_line_feed One = (omega arith, (omega arith, (omega arith, (omega arith, (omega arith, (omega arith, (omega arith, (omega arith, (omega arith, tt)))))))))
no_line_feed Two = (omega arith, (omega arith, (omega arith, (omega arith, (omega arith, (omega arith, (omega arith, (omega arith, (omega arith, tt)))))))))

abbrev byte_at : List ℕ → ℕ → ℕ
byte_at xs n = get_or xs n 0

pub other_lines : first_line One ≡ first_line Two → ⊥
other_lines e = let clash = ap (λ (xs : List ℕ). byte_at xs 8) e in omega arith

-- ---- tests of texts

pub same_text : (a b : List ℕ) → false ≡ not (bytes_eq a b) → a ≡ b
same_text a b e = (bytes_eq-Decides a b).0 (not-false (bytes_eq a b) (sym e))

pub not_text : (a b : List ℕ) → true ≡ not (bytes_eq a b) → a ≡ b → ⊥
not_text a b e f = false≢true (sym (e ∙ ap not ((bytes_eq-Decides a b).1 f)))

-- ---- what is told is told in one way

pub not_told : (fields : List (List ℕ)) (first : List ℕ) (rest paths after : List (List ℕ)) (n : ℕ) → fields ≡ first ∷ rest → first ≡ decimal n → rest ≡ counted paths ++ after → length paths < 18446744073709551616 → (length after ≡ 0 → ⊥) → (start : ℕ) (others : List (List ℕ)) → start < 18446744073709551616 → length others < 18446744073709551616 → fields ≡ told_fields start others → ⊥
not_told fields first rest paths after n e is f room some start others below lt g =
    let both : first ∷ rest ≡ decimal start ∷ counted others = sym e ∙ g in
    let tail : rest ≡ counted others = cc in
    let same = one_list paths others after [] room lt (sym f ∙ (tail ∙ sym (append-nil (counted others)))) in
    some (ap length same.1)

pub no_paths : (fields : List (List ℕ)) (first : List ℕ) (rest : List (List ℕ)) → fields ≡ first ∷ rest → ((texts after : List (List ℕ)) → length texts < 18446744073709551616 → rest ≡ counted texts ++ after → ⊥) → (start : ℕ) (paths : List (List ℕ)) → start < 18446744073709551616 → length paths < 18446744073709551616 → fields ≡ told_fields start paths → ⊥
no_paths fields first rest e none start paths below lt g =
    let both : first ∷ rest ≡ decimal start ∷ counted paths = sym e ∙ g in
    let tail : rest ≡ counted paths = cc in
    none paths [] lt (tail ∙ sym (append-nil (counted paths)))

pub if_none : {A : Type 0} (found : Option A) {P : Type 0} → P → IfNone found P
if_none None p = p
if_none (Some x) p = tt
