-- The line of a record in front of others, read from front to back.
use Rattle.std.proofs.Common.{◌≡◌, ◌+◌, ℕ, decimal, List, [], ◌∷◌, ◌++◌, Option, Some, take, drop, length, refl, sym, ap, ◌∙◌, subst, append_assoc, append-nil, arith}
use Rattle.std.specs.Prelude.{IfSome}
use Rattle.std.proofs.Math.Seq.{take-append_seam, drop-append_seam}
use Rattle.std.proofs.lemmas.List.{length-append}
use Rattle.std.proofs.lemmas.List.Concat.{flat_map-append}
use Rattle.log_text.specs.declared.form.Version.TheVariants.{Two}
use Rattle.log_text.specs.Form.{lines_text, record_line}
use Rattle.log_text.specs.Line.{field_and_tab, fields_text, line_text, IsPlain}
use Rattle.seen_log.specs.declared.note.Note.{Note}
use Rattle.seen_log.specs.declared.note.Noted.{Noted}
use Rattle.seen_log.specs.Record.{fields_of, forms, letter, noting, AreNumbersFirst}
use Rattle.seen_log.proofs.Fields.{numbers_of}
use Rattle.seen_log.proofs.InFront.{field_in_front}
use Rattle.seen_log.proofs.Plain.{letter_field}

-- ---- parts of a text

-- a text behind two bytes
pub part_is : (text named field told part : List ℕ) (first second count : ℕ) → part ≡ take count (drop 2 text) → count ≡ length field → text ≡ first ∷ second ∷ named → named ≡ field ++ 9 ∷ told → part ≡ field
part_is text named field told part first second count is len e f =
    is
    ∙ ((λ i. take (len i) (drop 2 (e i)))
    ∙ (ap (λ (l : List ℕ). take (length field) l) f ∙ take-append_seam field (9 ∷ told)))

-- as many bytes as stand at the end
pub last_is : (text last front back : List ℕ) (before count : ℕ) → last ≡ drop before text → before + count ≡ length text → text ≡ front ++ back → length back ≡ count → last ≡ back
last_is text last front back before count is sum e len =
    let whole : length text ≡ length front + length back = ap length e ∙ length-append front back in
    let at : before ≡ length front = omega arith in
    is ∙ ((λ i. drop (at i) (e i)) ∙ drop-append_seam front back)

-- ---- a line

-- fields in front of a text
abbrev fields_before : List (List ℕ) → List ℕ → List ℕ
fields_before [] rest = rest
fields_before (f ∷ fs) rest = field_and_tab f ++ fields_before fs rest

before_is : (fs : List (List ℕ)) (rest : List ℕ) → fields_before fs rest ≡ fields_text fs ++ rest
before_is [] rest = refl
before_is (f ∷ fs) rest = ap (λ (l : List ℕ). field_and_tab f ++ l) (before_is fs rest) ∙ sym (append_assoc (field_and_tab f) (fields_text fs) rest)

record_before : (r : Note) (rest : List ℕ) → fields_before (fields_of r) (46 ∷ 10 ∷ rest) ≡ record_line (forms Two) r ++ rest
record_before r rest =
    let fields = fields_text (fields_of r) in
    before_is (fields_of r) (46 ∷ 10 ∷ rest)
    ∙ sym (append_assoc (fields ++ 46 ∷ []) (10 ∷ []) rest ∙ append_assoc fields (46 ∷ []) (10 ∷ rest))

pub first_line_is : (text named field told ended left path : List ℕ) (noted : Noted) → text ≡ letter noted.kind ∷ 9 ∷ named → named ≡ field ++ 9 ∷ told → IsPlain field → AreNumbersFirst told (numbers_of noted) ended → ended ≡ 46 ∷ 10 ∷ left
    → path ≡ field → text ≡ record_line (forms Two) (noting path noted) ++ left
first_line_is text named field told ended left path noted e f plain numbers end same =
    let a = field_and_tab (decimal noted.stamp) in
    let b = field_and_tab (decimal noted.size) in
    let d = field_and_tab (decimal noted.number) in
    let told_is : told ≡ a ++ (b ++ (d ++ 46 ∷ 10 ∷ left)) = numbers ∙ ap (λ (l : List ℕ). a ++ (b ++ (d ++ l))) end in
    let tail : List ℕ = field_and_tab path ++ (a ++ (b ++ (d ++ 46 ∷ 10 ∷ left))) in
    let behind : named ≡ tail =
    f ∙ (field_in_front field told plain ∙ (ap (λ (l : List ℕ). field_and_tab field ++ l) told_is ∙ ap (λ (p : List ℕ). field_and_tab p ++ (a ++ (b ++ (d ++ 46 ∷ 10 ∷ left)))) (sym same))) in
    e
    ∙ (ap (λ (l : List ℕ). letter noted.kind ∷ 9 ∷ l) behind
    ∙ (ap (λ (l : List ℕ). l ++ tail) (sym (letter_field noted.kind)) ∙ record_before (noting path noted) left))

-- a line that was cut from the text, by its fields
pub cut_line_is : (text line left after : List ℕ) (fields : List (List ℕ)) (r : Note) → text ≡ line ++ 10 ∷ left → line ≡ line_text fields → fields ≡ fields_of r → after ≡ left → text ≡ record_line (forms Two) r ++ after
cut_line_is text line left after fields r e spelled is same =
    e
    ∙ (sym (append_assoc line (10 ∷ []) left)
    ∙ (λ i. ((spelled ∙ ap line_text is) i ++ 10 ∷ []) ++ sym same i))

-- ---- lines

pub lines_more : (lines rest after : List ℕ) (records : List Note) (r : Note) → lines ≡ lines_text (forms Two) records ++ rest → rest ≡ record_line (forms Two) r ++ after → lines ≡ lines_text (forms Two) (records ++ r ∷ []) ++ after
lines_more lines rest after records r e f =
    let done = lines_text (forms Two) records in
    let line = record_line (forms Two) r in
    e
    ∙ (ap (λ (l : List ℕ). done ++ l) f
    ∙ (sym (append_assoc done line after)
    ∙ ap (λ (l : List ℕ). l ++ after) (ap (λ (l : List ℕ). done ++ l) (sym (append-nil line)) ∙ sym (flat_map-append (record_line (forms Two)) records (r ∷ [])))))

pub lines_all : (lines rest : List ℕ) (records : List Note) → lines ≡ lines_text (forms Two) records ++ rest → rest ≡ [] → lines ≡ lines_text (forms Two) records
lines_all lines rest records e none = e ∙ (ap (λ (l : List ℕ). lines_text (forms Two) records ++ l) none ∙ append-nil (lines_text (forms Two) records))

-- what holds of what was found
pub at_some : {X : Type 0} (P : X → Type 0) (found : Option X) (x : X) → found ≡ Some x → IfSome found P → P x
at_some P found x is holds = subst (λ o. IfSome o P) is holds
