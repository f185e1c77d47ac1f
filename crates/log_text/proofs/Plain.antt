-- A line in which nothing is escaped, of a record with one output.
use Rattle.std.proofs.Common.{◌≡◌, ◌<◌, ◌^◌, ℕ, zero, suc, decimal, true, List, [], ◌∷◌, ◌++◌, length, sym, ap, ◌∙◌, subst, arith, append-nil, append_assoc}
use Rattle.std.specs.List.{flat_map}
use Rattle.std.specs.Str.{IsUtf8, IsAscii}
use Rattle.std.proofs.lemmas.Fmt.{decimal_digit}
use Rattle.std.proofs.lemmas.Str.{IsUtf8-from_ascii}
use Rattle.std.proofs.lemmas.List.Concat.{flat_map-append}
use Rattle.std.proofs.lemmas.Bool.{false≢true}
use Rattle.model.specs.Graph.{has}
use Rattle.model.specs.declared.record.DepsRecord.{DepsRecord}
use Rattle.log_text.specs.declared.form.Version.{Version}
use Rattle.log_text.specs.declared.form.Version.TheVariants.{Two}
use Rattle.log_text.specs.Line.{field_and_tab, line_text, AreTexts}
use Rattle.log_text.specs.Form.{HasLine}
use Rattle.log_text.specs.Kept.{AreDistinct, AreNumbersOf}
use Rattle.log_text.specs.Taken.{AreTakenFrom}
use Rattle.log_text.specs.DepsRecordLine.{head_fields, fields_of, forms}

-- the record of one output
abbrev pub plain_record : List ℕ → ℕ → List (List ℕ) → DepsRecord
plain_record output start paths = record { outputs = output ∷ []; start = start; paths = paths }

pub one : decimal 1 ≡ 49 ∷ []
one = decimal_digit 1 (omega arith)

fields_are : (output : List ℕ) (start count : ℕ) (paths : List (List ℕ)) → length paths ≡ count → head_fields output start count ++ paths ≡ fields_of Two (plain_record output start paths)
fields_are output start count paths many =
    ap (λ (d : List ℕ). (114 ∷ []) ∷ d ∷ output ∷ decimal start ∷ decimal count ∷ paths) (sym one)
    ∙ ap (λ (n : ℕ). (114 ∷ []) ∷ decimal 1 ∷ output ∷ decimal start ∷ decimal n ∷ paths) (sym many)

pub line_is : (known : List (List ℕ)) (line rest output : List ℕ) (start count : ℕ) (numbers : List ℕ) → line ≡ (flat_map field_and_tab (head_fields output start count) ++ rest) ++ 46 ∷ [] → (taken : AreTakenFrom known rest count numbers [])
    → line ≡ line_text (fields_of Two (plain_record output start taken.texts))
line_is known line rest output start count numbers e taken =
    let head = head_fields output start count in
    e ∙ ap (λ (l : List ℕ). l ++ 46 ∷ [])
    (ap (λ (l : List ℕ). flat_map field_and_tab head ++ l) (taken.spelled ∙ append-nil (flat_map field_and_tab taken.texts))
    ∙ (sym (flat_map-append field_and_tab head taken.texts) ∙ ap (flat_map field_and_tab) (fields_are output start count taken.texts taken.many)))

no_items : (before after : List (List ℕ)) (p : List ℕ) → [] ≡ before ++ p ∷ after → ⊥
no_items [] after p e = absurd (let clash : [] ≡ p ∷ after = e in cc)
no_items (b ∷ before) after p e = absurd (let clash : [] ≡ b ∷ (before ++ p ∷ after) = e in cc)

splits_no_more : (output p : List ℕ) (before after : List (List ℕ)) → output ∷ [] ≡ before ++ p ∷ after → has before p ≡ true → ⊥
splits_no_more output p [] after e earlier = false≢true earlier
splits_no_more output p (b ∷ before) after e earlier = no_items before after p (let tail : [] ≡ before ++ p ∷ after = cc in tail)

-- one output is not listed twice
pub alone : (output : List ℕ) → AreDistinct (output ∷ [])
alone output p twice = splits_no_more output p twice.before twice.after twice.splits twice.earlier

pub has_line : (output : List ℕ) (start count : ℕ) (paths : List (List ℕ)) → start < 2 ^ 64 → count < 2 ^ 64 → length paths ≡ count → AreTexts (head_fields output start count) → AreTexts paths → HasLine (forms Two) (plain_record output start paths)
has_line output start count paths low few many head texts = record {
  fits = record { room = (omega arith, omega arith); once = alone output; start = low; paths = subst (λ (n : ℕ). n < 2 ^ 64) (sym many) few };
  texts = subst AreTexts (fields_are output start count paths many) (head.0, (head.1.0, (head.1.1.0, (head.1.1.1.0, (head.1.1.1.1.0, texts)))));
}

-- ---- the line of a record with one output

pub head_is : (front named told counted paths output : List ℕ) (start count : ℕ) → front ≡ 114 ∷ 9 ∷ 49 ∷ 9 ∷ named → named ≡ field_and_tab output ++ told → told ≡ field_and_tab (decimal start) ++ counted → counted ≡ field_and_tab (decimal count) ++ paths
    → front ≡ flat_map field_and_tab (head_fields output start count) ++ paths
head_is front named told counted paths output start count kind first second third =
    let a = field_and_tab output in
    let b = field_and_tab (decimal start) in
    let d = field_and_tab (decimal count) in
    let joined : (a ++ (b ++ (d ++ []))) ++ paths ≡ a ++ (b ++ (d ++ paths)) =
    append_assoc a (b ++ (d ++ [])) paths ∙ ap (λ (l : List ℕ). a ++ l) (append_assoc b (d ++ []) paths ∙ ap (λ (l : List ℕ). b ++ l) (append_assoc d [] paths)) in
    kind
    ∙ ap (λ (l : List ℕ). 114 ∷ 9 ∷ 49 ∷ 9 ∷ l)
    (first ∙ (ap (λ (l : List ℕ). a ++ l) (second ∙ ap (λ (l : List ℕ). b ++ l) third) ∙ sym joined))

ascii_one : (b : ℕ) → b < 128 → IsAscii (b ∷ [])
ascii_one b lt zero = lt
ascii_one b lt (suc i) = omega arith

pub byte_utf8 : (b : ℕ) → b < 128 → IsUtf8 (b ∷ [])
byte_utf8 b low = IsUtf8-from_ascii (b ∷ []) (ascii_one b low)

pub kind_utf8 : IsUtf8 (114 ∷ [])
kind_utf8 = byte_utf8 114 (omega arith)

pub one_utf8 : IsUtf8 (49 ∷ [])
one_utf8 = byte_utf8 49 (omega arith)

-- the line is that of a record
pub record IsLineOfPlain (version : Version) (line output : List ℕ) (start : ℕ) (paths : List (List ℕ)) : Type 0 where
  pub spelled : line ≡ line_text ((forms version).fields (plain_record output start paths))
  pub has : HasLine (forms version) (plain_record output start paths)

line_of_two : (line bytes output : List ℕ) (start count : ℕ) (known : List (List ℕ)) (numbers : List ℕ) → line ≡ (flat_map field_and_tab (head_fields output start count) ++ bytes) ++ 46 ∷ [] → AreTexts (head_fields output start count) → start < 2 ^ 64 → count < 2 ^ 64 → (taken : AreTakenFrom known bytes count numbers [])
    → IsLineOfPlain Two line output start taken.texts
line_of_two line bytes output start count known numbers e head low few taken = record {
  spelled = line_is known line bytes output start count numbers e taken;
  has = has_line output start count taken.texts low few taken.many head taken.utf8;
}

pub plain_line : (version : Version) (line bytes output : List ℕ) (start count : ℕ) (known : List (List ℕ)) (numbers rest : List ℕ) → version ≡ Two → line ≡ (flat_map field_and_tab (head_fields output start count) ++ bytes) ++ 46 ∷ [] → AreTexts (head_fields output start count) → start < 2 ^ 64 → count < 2 ^ 64 → rest ≡ [] → AreTakenFrom known bytes count numbers rest
    → (texts : List (List ℕ)) × AreNumbersOf known numbers texts × IsLineOfPlain version line output start texts
plain_line version line bytes output start count known numbers rest is e head low few none taken =
    let all : AreTakenFrom known bytes count numbers [] = subst (AreTakenFrom known bytes count numbers) none taken in
    (all.texts, all.numbered, subst (λ (v : Version). IsLineOfPlain v line output start all.texts) (sym is) (line_of_two line bytes output start count known numbers e head low few all))
