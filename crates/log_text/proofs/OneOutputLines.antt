-- The line of a record of one output.
use Rattle.std.proofs.Common.{◌≡◌, ◌<◌, ◌^◌, ℕ, zero, suc, decimal, true, List, [], ◌∷◌, ◌++◌, length, Option, Some, None, refl, sym, ap, ◌∙◌, subst, arith, append_assoc, append-nil}
use Rattle.std.specs.List.{flat_map}
use Rattle.std.specs.Str.{IsUtf8, IsAscii}
use Rattle.std.proofs.lemmas.Str.{IsUtf8-from_ascii}
use Rattle.text.specs.Marks.{Lacks}
use Rattle.model.specs.declared.act.Act.{Act}
use Rattle.model.specs.declared.record.Record.{Record}
use Rattle.model.specs.declared.record.Record.TheVariants.{Begun, Done as DoneRecord}
use Rattle.log_text.specs.declared.done.Done.{Done}
use Rattle.log_text.specs.declared.form.Version.{Version}
use Rattle.log_text.specs.declared.form.Version.TheVariants.{Two}
use Rattle.log_text.specs.Line.{field_and_tab, fields_text, line_text, field_text, AreTexts}
use Rattle.log_text.specs.Form.{HasLine}
use Rattle.log_text.specs.Kept.{AreDistinct}
use Rattle.log_text.specs.BuildLog.{saying}
use Rattle.log_text.specs.OneOutput.{IsHead, IsTextIn, IsActIn, IsDoneIn, IsSaidBehind}
use Rattle.log_text.specs.BuildRecord.{act_fields, done_fields, fields_of, forms}
use Rattle.log_text.proofs.Bytes.{Lacks-front, Lacks-back}
use Rattle.log_text.proofs.Plain.{alone, one, byte_utf8}

ascii_none : IsAscii []
ascii_none i = omega arith

pub nothing_utf8 : IsUtf8 []
nothing_utf8 = IsUtf8-from_ascii [] ascii_none

-- ---- the record

abbrev pub record_of : List ℕ → Option Done → Record
record_of text None = Begun (text ∷ [])
record_of text (Some done) = DoneRecord (text ∷ []) done.start done.act

pub says : (text : List ℕ) (said : Option Done) → saying (record_of text said) ≡ (text ∷ [], said)
says text None = refl
says text (Some done) = refl

-- the line is that of the record
pub record IsLineOfPlain (version : Version) (line text : List ℕ) (said : Option Done) : Type 0 where
  pub spelled : line ≡ line_text ((forms version).fields (record_of text said))
  pub has : HasLine (forms version) (record_of text said)

begun_fields : (text : List ℕ) → (98 ∷ []) ∷ (49 ∷ []) ∷ text ∷ [] ≡ fields_of Two (Begun (text ∷ []))
begun_fields text = ap (λ (d : List ℕ). (98 ∷ []) ∷ d ∷ text ∷ []) (sym one)

done_fields_are : (text : List ℕ) (done : Done) → (100 ∷ []) ∷ (49 ∷ []) ∷ text ∷ done_fields done ≡ fields_of Two (DoneRecord (text ∷ []) done.start done.act)
done_fields_are text done = ap (λ (d : List ℕ). (100 ∷ []) ∷ d ∷ text ∷ done_fields done) (sym one)

line_of_two : (line named told text : List ℕ) (kind : ℕ) (said : Option Done) → IsHead kind named line → named ≡ field_and_tab text ++ told → IsUtf8 text → IsSaidBehind kind told said → IsLineOfPlain Two line text said
line_of_two line named told text kind None head first utf8 is =
    let behind : named ≡ field_and_tab text ++ [] = first ∙ ap (λ (l : List ℕ). field_and_tab text ++ l) is.1 in
    record {
      spelled =
          head
          ∙ (ap (λ (k : ℕ). (k ∷ 9 ∷ 49 ∷ 9 ∷ named) ++ 46 ∷ []) is.0
          ∙ (ap (λ (l : List ℕ). (98 ∷ 9 ∷ 49 ∷ 9 ∷ l) ++ 46 ∷ []) behind ∙ ap line_text (begun_fields text)));
      has = record {
        fits = record { room = (omega arith, omega arith); once = alone text; start = tt };
        texts = subst AreTexts (begun_fields text) (byte_utf8 98 (omega arith), (byte_utf8 49 (omega arith), (utf8, tt)));
      };
    }
line_of_two line named told text kind (Some done) head first utf8 is =
    let behind : named ≡ field_and_tab text ++ fields_text (done_fields done) = first ∙ ap (λ (l : List ℕ). field_and_tab text ++ l) is.1.0 in
    record {
      spelled =
          head
          ∙ (ap (λ (k : ℕ). (k ∷ 9 ∷ 49 ∷ 9 ∷ named) ++ 46 ∷ []) is.0
          ∙ (ap (λ (l : List ℕ). (100 ∷ 9 ∷ 49 ∷ 9 ∷ l) ++ 46 ∷ []) behind ∙ ap line_text (done_fields_are text done)));
      has = record {
        fits = record { room = (omega arith, omega arith); once = alone text; start = is.1.2 };
        texts = subst AreTexts (done_fields_are text done) (byte_utf8 100 (omega arith), (byte_utf8 49 (omega arith), (utf8, is.1.1)));
      };
    }

pub plain_line : (version : Version) (line named told text : List ℕ) (kind : ℕ) (said : Option Done) → version ≡ Two → IsHead kind named line → named ≡ field_and_tab text ++ told → IsUtf8 text → IsSaidBehind kind told said → IsLineOfPlain version line text said
plain_line version line named told text kind said two head first utf8 is = subst (λ (v : Version). IsLineOfPlain v line text said) (sym two) (line_of_two line named told text kind said head first utf8 is)

-- ---- its parts

pub named_lacks : (front named : List ℕ) (kind : ℕ) → Lacks 10 front → front ≡ kind ∷ 9 ∷ 49 ∷ 9 ∷ named → Lacks 10 named
named_lacks front named kind lacks is = (subst (Lacks 10) is lacks).1.1.1.1

pub done_is : (told fields : List ℕ) (start : ℕ) (act : Act) → told ≡ field_and_tab (decimal start) ++ fields → IsUtf8 (decimal start) → start < 2 ^ 64 → IsActIn fields act → IsDoneIn told (record { start = start; act = act })
done_is told fields start act e utf8 low is = (e ∙ ap (λ (l : List ℕ). field_and_tab (decimal start) ++ l) is.0, (utf8, is.1), low)

-- what stands behind a field lacks what all lacks
pub behind_lacks : (bytes field after : List ℕ) → Lacks 10 bytes → bytes ≡ field ++ 9 ∷ after → Lacks 10 after
behind_lacks bytes field after lacks e = (Lacks-back 10 field (9 ∷ after) (subst (Lacks 10) e lacks)).1

pub no_text : (bytes after text : List ℕ) → bytes ≡ 9 ∷ after → text ≡ [] → IsTextIn bytes text after
no_text bytes after text e none = subst (λ (t : List ℕ). IsTextIn bytes t after) (sym none) (e, nothing_utf8)
