-- The line of a record of two outputs.
use Rattle.std.proofs.Common.{◌≡◌, ℕ, decimal, false, List, [], ◌∷◌, ◌++◌, Option, Some, None, Result, IfOk, Ok, Err, refl, sym, ap, ◌∙◌, subst, arith}
use Rattle.std.specs.Str.{IsUtf8, bytes_eq}
use Rattle.std.proofs.lemmas.Bool.{or_from}
use Rattle.std.proofs.lemmas.Fmt.{decimal_digit}
use Rattle.text.specs.Marks.{Lacks}
use Rattle.model.specs.declared.record.Record.{Record}
use Rattle.model.specs.declared.record.Record.TheVariants.{Begun, Done as DoneRecord}
use Rattle.log_text.specs.declared.done.Done.{Done}
use Rattle.log_text.specs.declared.form.Version.{Version}
use Rattle.log_text.specs.declared.form.Version.TheVariants.{Two}
use Rattle.log_text.specs.Line.{field_and_tab, fields_text, line_text, AreTexts}
use Rattle.log_text.specs.Form.{HasLine}
use Rattle.log_text.specs.Kept.{AreDistinct}
use Rattle.log_text.specs.BuildLog.{saying}
use Rattle.log_text.specs.OneOutput.{IsPairHead, IsSaidBehind}
use Rattle.log_text.specs.BuildRecord.{done_fields, fields_of, forms}
use Rattle.log_text.proofs.Distinct.{distinct_push, bytes_differ}
use Rattle.log_text.proofs.Plain.{alone, byte_utf8}

two : decimal 2 ≡ 50 ∷ []
two = decimal_digit 2 (omega arith)

-- two outputs that are not the same
pub both_distinct : (a b : List ℕ) → (a ≡ b → ⊥) → AreDistinct (a ∷ b ∷ [])
both_distinct a b other = distinct_push (a ∷ []) b (alone a) (or_from (bytes_eq a b) false (bytes_differ a b other) refl)

-- ---- the record

abbrev pub record_of : List ℕ → List ℕ → Option Done → Record
record_of a b None = Begun (a ∷ b ∷ [])
record_of a b (Some done) = DoneRecord (a ∷ b ∷ []) done.start done.act

pub says : (a b : List ℕ) (said : Option Done) → saying (record_of a b said) ≡ (a ∷ b ∷ [], said)
says a b None = refl
says a b (Some done) = refl

-- the line is that of the record
pub record IsLineOfPair (version : Version) (line a b : List ℕ) (said : Option Done) : Type 0 where
  pub spelled : line ≡ line_text ((forms version).fields (record_of a b said))
  pub has : HasLine (forms version) (record_of a b said)

begun_fields : (a b : List ℕ) → (98 ∷ []) ∷ (50 ∷ []) ∷ a ∷ b ∷ [] ≡ fields_of Two (Begun (a ∷ b ∷ []))
begun_fields a b = ap (λ (d : List ℕ). (98 ∷ []) ∷ d ∷ a ∷ b ∷ []) (sym two)

done_fields_are : (a b : List ℕ) (done : Done) → (100 ∷ []) ∷ (50 ∷ []) ∷ a ∷ b ∷ done_fields done ≡ fields_of Two (DoneRecord (a ∷ b ∷ []) done.start done.act)
done_fields_are a b done = ap (λ (d : List ℕ). (100 ∷ []) ∷ d ∷ a ∷ b ∷ done_fields done) (sym two)

line_of_two : (line named rest told a b : List ℕ) (kind : ℕ) (said : Option Done) → IsPairHead kind named line → named ≡ field_and_tab a ++ rest → rest ≡ field_and_tab b ++ told → IsUtf8 a → IsUtf8 b → (a ≡ b → ⊥) → IsSaidBehind kind told said → IsLineOfPair Two line a b said
line_of_two line named rest told a b kind None head first second utf8_a utf8_b other is =
    let behind : named ≡ field_and_tab a ++ (field_and_tab b ++ []) = first ∙ ap (λ (l : List ℕ). field_and_tab a ++ l) (second ∙ ap (λ (l : List ℕ). field_and_tab b ++ l) is.1) in
    record {
      spelled =
          head
          ∙ (ap (λ (k : ℕ). (k ∷ 9 ∷ 50 ∷ 9 ∷ named) ++ 46 ∷ []) is.0
          ∙ (ap (λ (l : List ℕ). (98 ∷ 9 ∷ 50 ∷ 9 ∷ l) ++ 46 ∷ []) behind ∙ ap line_text (begun_fields a b)));
      has = record {
        fits = record { room = (omega arith, omega arith); once = both_distinct a b other; start = tt };
        texts = subst AreTexts (begun_fields a b) (byte_utf8 98 (omega arith), (byte_utf8 50 (omega arith), (utf8_a, (utf8_b, tt))));
      };
    }
line_of_two line named rest told a b kind (Some done) head first second utf8_a utf8_b other is =
    let behind : named ≡ field_and_tab a ++ (field_and_tab b ++ fields_text (done_fields done)) = first ∙ ap (λ (l : List ℕ). field_and_tab a ++ l) (second ∙ ap (λ (l : List ℕ). field_and_tab b ++ l) is.1.0) in
    record {
      spelled =
          head
          ∙ (ap (λ (k : ℕ). (k ∷ 9 ∷ 50 ∷ 9 ∷ named) ++ 46 ∷ []) is.0
          ∙ (ap (λ (l : List ℕ). (100 ∷ 9 ∷ 50 ∷ 9 ∷ l) ++ 46 ∷ []) behind ∙ ap line_text (done_fields_are a b done)));
      has = record {
        fits = record { room = (omega arith, omega arith); once = both_distinct a b other; start = is.1.2 };
        texts = subst AreTexts (done_fields_are a b done) (byte_utf8 100 (omega arith), (byte_utf8 50 (omega arith), (utf8_a, (utf8_b, is.1.1))));
      };
    }

pub pair_line : (version : Version) (line named rest told a b : List ℕ) (kind : ℕ) (said : Option Done) → version ≡ Two → IsPairHead kind named line → named ≡ field_and_tab a ++ rest → rest ≡ field_and_tab b ++ told → IsUtf8 a → IsUtf8 b → (a ≡ b → ⊥) → IsSaidBehind kind told said → IsLineOfPair version line a b said
pair_line version line named rest told a b kind said is_two head first second utf8_a utf8_b other is =
    subst (λ (v : Version). IsLineOfPair v line a b said) (sym is_two) (line_of_two line named rest told a b kind said head first second utf8_a utf8_b other is)

-- ---- its parts

pub named_lacks : (front named : List ℕ) (kind : ℕ) → Lacks 10 front → front ≡ kind ∷ 9 ∷ 50 ∷ 9 ∷ named → Lacks 10 named
named_lacks front named kind lacks is = (subst (Lacks 10) is lacks).1.1.1.1

pub if_ok_then : {T E : Type 0} {P Q : T → Type 0} (r : Result T E) → IfOk r P → ((x : T) → P x → Q x) → IfOk r Q
if_ok_then (Ok x) p f = f x p
if_ok_then (Err e) p f = tt
