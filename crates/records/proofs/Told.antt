-- What a log's text tells, by a function that reads it.
use Rattle.std.proofs.Common.{◌≡◌, ◌⊎◌, inl, inr, ℕ, List, [], ◌∷◌, ◌++◌, Option, Some, None, refl, sym, ◌∙◌, ap, subst}
use Rattle.std.proofs.lemmas.List.{append-nil}
use Rattle.model.specs.Records.{read_log}
use Rattle.log_text.specs.declared.form.Version.{Version}
use Rattle.log_text.specs.declared.form.Version.TheVariants.{Two}
use Rattle.log_text.specs.declared.tail.Tail.{Tail}
use Rattle.log_text.specs.declared.tail.Tail.TheVariants.{Whole, Old, Torn, Damaged}
use Rattle.log_text.specs.Text.{IsRead, IsLogOf}
use Rattle.log_text.specs.Form.{Form, IsLineOf, record_line}
use Rattle.log_text.specs.Laws.{Reads, IsEndedOrTorn, FrontOfLines}
use Rattle.records.specs.Held.{AreRecordsIn, IsToldBy, behind}

module _ {R : Type 0} (forms : Version → Form R) where
  same_some : (a b : List R) → Some a ≡ Some b → a ≡ b
  same_some a b is = cc

  module _ (reader : List ℕ → Option (List R)) (reads : Reads forms reader) where
    -- a text that can be read
    pub text_told : (text : List ℕ) (rs : List R) → IsToldBy forms text rs → reader text ≡ Some rs
    text_told text rs (inl whole) = reads text rs Whole whole
    text_told text rs (inr torn) = reads text rs Torn (Two, torn)

    read_of_text : (text : List ℕ) (rs : List R) (tail : Tail) → IsRead forms text rs tail → read_log reader (Some text) ≡ rs
    read_of_text text rs Whole is = rw (reads text rs Whole is, read_log) refl
    read_of_text text rs Old is = rw (reads text rs Old is, read_log) refl
    read_of_text text rs Torn is = rw (reads text rs Torn is, read_log) refl
    read_of_text text rs Damaged is = rw (reads text rs Damaged is, read_log) (sym is.0)

    none_of_nothing : (rs : List R) (tail : Tail) → IsRead forms [] rs tail → [] ≡ rs
    none_of_nothing rs Whole is = same_some [] rs (sym (reads [] [] Whole (inl (refl, refl))) ∙ reads [] rs Whole is)
    none_of_nothing rs Old is = same_some [] rs (sym (reads [] [] Whole (inl (refl, refl))) ∙ reads [] rs Old is)
    none_of_nothing rs Torn is = same_some [] rs (sym (reads [] [] Whole (inl (refl, refl))) ∙ reads [] rs Torn is)
    none_of_nothing rs Damaged is = sym is.0

    -- the records of a file are those that the store has of it
    pub records_told : (content : Option (List ℕ)) (rs : List R) → AreRecordsIn forms content rs → read_log reader content ≡ rs
    records_told None rs (tail, is) = none_of_nothing rs tail is
    records_told (Some text) rs (tail, is) = read_of_text text rs tail is

  -- a log and a beginning of a line: the records of the log, and perhaps this one more
  ended_told : (text : List ℕ) (rs : List R) → IsEndedOrTorn (forms Two) text rs → IsToldBy forms text rs
  ended_told text rs (inl (ends, whole)) = inl whole
  ended_told text rs (inr (other, torn)) = inr torn

  front_of_one : (r : R) (seen left : List R) → r ∷ [] ≡ seen ++ left → (seen ≡ []) ⊎ (seen ≡ r ∷ [])
  front_of_one r [] left is = inl refl
  front_of_one r (x ∷ []) left is = inr (cc)
  front_of_one r (x ∷ y ∷ seen) left is = absurd (cc)

  pub torn_told : FrontOfLines forms → (text part rest line : List ℕ) (rs : List R) (r : R) → IsLogOf (forms Two) text rs → IsLineOf (forms Two) r line → part ++ rest ≡ line
      → IsToldBy forms (text ++ part) (behind rs None) ⊎ IsToldBy forms (text ++ part) (behind rs (Some r))
  torn_told front text part rest line rs r log is_line split =
      let found = front Two text part rest rs (r ∷ []) log (is_line.has, tt) (append-nil (record_line (forms Two) r) ∙ (sym is_line.spelled ∙ sym split)) in
      let told = ended_told (text ++ part) (rs ++ found.0) found.3 in
      elim (front_of_one r found.0 found.1 found.2) [
        | inl none ↦ inl (subst (λ (l : List R). IsToldBy forms (text ++ part) l) (ap (λ (l : List R). rs ++ l) none ∙ append-nil rs) told)
        | inr one ↦ inr (subst (λ (l : List R). IsToldBy forms (text ++ part) l) (ap (λ (l : List R). rs ++ l) one) told)
      ]
