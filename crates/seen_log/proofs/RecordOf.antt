-- Of any fields it can be told whether they are a record's.
use Rattle.std.proofs.Common.{◌≡◌, ◌≢◌, ◌⊎◌, inl, inr, ℕ, decimal, true, false, List, [], ◌∷◌, length, refl, sym, ap, ◌∙◌, arith}
use Rattle.std.specs.Str.{bytes_eq}
use Rattle.std.proofs.lemmas.Bool.{cases_Bool, false≢true}
use Rattle.std.proofs.lemmas.Slice.Eq.{bytes_eq-Decides}
use Rattle.log_text.specs.declared.form.Version.{Version}
use Rattle.log_text.specs.Form.{IsRecordOrNone}
use Rattle.log_text.specs.Laws.{PartsAreDecided}
use Rattle.seen_log.specs.declared.note.Kind.{Kind}
use Rattle.seen_log.specs.declared.note.Kind.TheVariants.{Source, Made, Turned}
use Rattle.seen_log.specs.declared.note.Numbers.{Numbers}
use Rattle.seen_log.specs.Record.{number_fields, noted_fields, forms, letter, AreLow, AreNotNoted, IsNoKind}
use Rattle.seen_log.proofs.Fields.{kind_of, parts_of, numbers_of, low_numbers}

other_text : (text letter : List ℕ) → bytes_eq text letter ≡ false → text ≡ letter → ⊥
other_text text letter other e = false≢true (sym other ∙ (bytes_eq-Decides text letter).1 e)

-- no letter is this text
pub no_kind : (text : List ℕ) → bytes_eq text (115 ∷ []) ≡ false → bytes_eq text (109 ∷ []) ≡ false → bytes_eq text (116 ∷ []) ≡ false → IsNoKind text
no_kind text s m t Source e = other_text text (115 ∷ []) s e
no_kind text s m t Made e = other_text text (109 ∷ []) m e
no_kind text s m t Turned e = other_text text (116 ∷ []) t e

kind_or_not : (text : List ℕ) → ((kind : Kind) × (text ≡ letter kind ∷ [])) ⊎ IsNoKind text
kind_or_not text = elim (cases_Bool (bytes_eq text (115 ∷ []))) [
  | inl same ↦ inl (Source, (bytes_eq-Decides text (115 ∷ [])).0 same)
  | inr s ↦ elim (cases_Bool (bytes_eq text (109 ∷ []))) [
    | inl same ↦ inl (Made, (bytes_eq-Decides text (109 ∷ [])).0 same)
    | inr m ↦ elim (cases_Bool (bytes_eq text (116 ∷ []))) [
      | inl same ↦ inl (Turned, (bytes_eq-Decides text (116 ∷ [])).0 same)
      | inr t ↦ inr (no_kind text s m t)
    ]
  ]
]

-- what the fields behind the path tell
record IsNoted (fields : List (List ℕ)) : Type 0 where
  pub numbers : Numbers
  pub spelled : fields ≡ number_fields numbers
  pub low : AreLow numbers

not_three : (fields : List (List ℕ)) → length fields ≢ 3 → (numbers : Numbers) → fields ≡ number_fields numbers → ⊥
not_three fields other numbers e = other (ap (λ (l : List (List ℕ)). length l) e)

module _ (parts : PartsAreDecided) where
  noted_or_not : (fields : List (List ℕ)) → IsNoted fields ⊎ AreNotNoted fields
  noted_or_not [] = inr (λ noted low e. not_three [] (omega arith) noted e)
  noted_or_not (a ∷ []) = inr (λ noted low e. not_three (a ∷ []) (omega arith) noted e)
  noted_or_not (a ∷ b ∷ []) = inr (λ noted low e. not_three (a ∷ b ∷ []) (omega arith) noted e)
  noted_or_not (a ∷ b ∷ c ∷ []) = elim (parts.number a) [
    | inr none ↦ inr (λ noted low e. none noted.stamp low.stamp (let first : a ≡ decimal noted.stamp = cc in first))
    | inl m ↦ elim (parts.number b) [
      | inr none ↦ inr (λ noted low e. none noted.size low.size (let second : b ≡ decimal noted.size = cc in second))
      | inl n ↦ elim (parts.number c) [
        | inr none ↦ inr (λ noted low e. none noted.number low.number (let third : c ≡ decimal noted.number = cc in third))
        | inl o ↦ inl (record {
          numbers = record { stamp = m.0; size = n.0; number = o.0 };
          spelled = ap (λ (x : List ℕ). x ∷ b ∷ c ∷ []) m.2 ∙ (ap (λ (x : List ℕ). decimal m.0 ∷ x ∷ c ∷ []) n.2 ∙ ap (λ (x : List ℕ). decimal m.0 ∷ decimal n.0 ∷ x ∷ []) o.2);
          low = record { stamp = m.1; size = n.1; number = o.1 };
        })
      ]
    ]
  ]
  noted_or_not (a ∷ b ∷ c ∷ d ∷ rest) = inr (λ noted low e. not_three (a ∷ b ∷ c ∷ d ∷ rest) (omega arith) noted e)

  pub record_of_fields : (version : Version) (fields : List (List ℕ)) → IsRecordOrNone (forms version) fields
  record_of_fields version [] = inr (λ r is e. let clash : [] ≡ (letter r.noted.kind ∷ []) ∷ r.path ∷ noted_fields r.noted = e in cc)
  record_of_fields version (kind ∷ []) = inr (λ r is e. let clash : [] ≡ r.path ∷ noted_fields r.noted = (kind_of (kind ∷ []) kind [] refl r e).1 in cc)
  record_of_fields version (kind ∷ path ∷ rest) = elim (kind_or_not kind) [
    | inr other ↦ inr (λ r is e. other r.noted.kind (kind_of (kind ∷ path ∷ rest) kind (path ∷ rest) refl r e).0)
    | inl known ↦ elim (noted_or_not rest) [
      | inr none ↦ inr (λ r is e. none (numbers_of r.noted) (low_numbers r.noted is) (parts_of (kind ∷ path ∷ rest) kind (path ∷ rest) path rest refl refl r e).2)
      | inl told ↦ inl (
        record { path = path; noted = record { kind = known.0; stamp = told.numbers.stamp; size = told.numbers.size; number = told.numbers.number } },
        ap (λ (k : List ℕ). k ∷ path ∷ rest) known.1 ∙ ap (λ (xs : List (List ℕ)). (letter known.0 ∷ []) ∷ path ∷ xs) told.spelled,
        record { stamp = told.low.stamp; size = told.low.size; number = told.low.number },
      )
    ]
  ]
