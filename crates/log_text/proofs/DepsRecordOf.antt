-- Of any fields it can be told whether they are a record's.
use Rattle.std.proofs.Common.{◌≡◌, ◌<◌, ◌⊎◌, inl, inr, ℕ, decimal, List, [], ◌∷◌, ◌++◌, length, refl, sym, ap, ◌∙◌, subst, append-nil, arith}
use Rattle.std.specs.Str.{bytes_eq}
use Rattle.std.proofs.lemmas.Bool.{cases_Bool, false≢true}
use Rattle.std.proofs.lemmas.Slice.Eq.{bytes_eq-Decides}
use Rattle.log_text.specs.declared.form.Version.{Version}
use Rattle.log_text.specs.Line.{counted}
use Rattle.log_text.specs.Form.{IsRecordOrNone}
use Rattle.log_text.specs.Kept.{AreDistinct}
use Rattle.log_text.specs.Laws.{PartsAreDecided}
use Rattle.log_text.specs.BuildRecord.{output_fields}
use Rattle.log_text.specs.DepsRecordLine.{told_fields, forms}
use Rattle.log_text.proofs.HeadFields.{kind_of, parts_of, no_paths, not_told}

is_kind : (kind : List ℕ) → (kind ≡ 114 ∷ []) ⊎ (kind ≡ 114 ∷ [] → ⊥)
is_kind kind = elim (cases_Bool (bytes_eq kind (114 ∷ []))) [
  | inl same ↦ inl ((bytes_eq-Decides kind (114 ∷ [])).0 same)
  | inr other ↦ inr (λ e. false≢true (sym other ∙ (bytes_eq-Decides kind (114 ∷ [])).1 e))
]

-- what the fields behind the outputs tell
record IsTold (fields : List (List ℕ)) : Type 0 where
  pub start : ℕ
  pub paths : List (List ℕ)
  pub spelled : fields ≡ told_fields start paths
  pub below : start < 18446744073709551616
  pub room : length paths < 18446744073709551616

abbrev IsNotTold : List (List ℕ) → Type 0
IsNotTold fields = (start : ℕ) (paths : List (List ℕ)) → start < 18446744073709551616 → length paths < 18446744073709551616 → fields ≡ told_fields start paths → ⊥

nothing_behind : (start : ℕ) (paths : List (List ℕ)) → [] ≡ told_fields start paths → ⊥
nothing_behind start paths e = let clash : [] ≡ decimal start ∷ counted paths = e in cc

module _ (parts : PartsAreDecided) where
  told_or_not : (fields : List (List ℕ)) → IsTold fields ⊎ IsNotTold fields
  told_or_not [] = inr (λ start paths below room e. nothing_behind start paths e)
  told_or_not (first ∷ rest) = elim (parts.number first) [
    | inl n ↦ elim (parts.list rest) [
      | inl l ↦ all_or_more n l (l.1) refl
      | inr none ↦ inr (no_paths (first ∷ rest) first rest refl none)
    ]
    | inr none ↦ inr (λ start paths below room e. none start below (let both : first ∷ rest ≡ decimal start ∷ counted paths = e in cc))
  ]
    where
      all_or_more : (n : (m : ℕ) × (m < 18446744073709551616) × (first ≡ decimal m)) (l : (texts : List (List ℕ)) × (after : List (List ℕ)) × (rest ≡ counted texts ++ after) × (length texts < 18446744073709551616)) (after : List (List ℕ)) → l.1 ≡ after → IsTold (first ∷ rest) ⊎ IsNotTold (first ∷ rest)
      all_or_more n l [] is = inl (record {
        start = n.0;
        paths = l.0;
        spelled = ap (λ (f : List ℕ). f ∷ rest) n.2 ∙ ap (λ (xs : List (List ℕ)). decimal n.0 ∷ xs) (l.2 ∙ (ap (λ (xs : List (List ℕ)). counted l.0 ++ xs) is ∙ append-nil (counted l.0)));
        below = n.1;
        room = l.3;
      })
      all_or_more n l (a ∷ after) is = inr (not_told (first ∷ rest) first rest l.0 l.1 n.0 refl n.2 l.2 l.3 (λ none. let some : length l.1 ≡ length (a ∷ after) = ap (λ (xs : List (List ℕ)). length xs) is in omega (arith, none, some)))

  pub record_of_fields : (version : Version) (fields : List (List ℕ)) → IsRecordOrNone (forms version) fields
  record_of_fields version [] = inr (λ r is e. let clash : [] ≡ (114 ∷ []) ∷ (output_fields version r.outputs ++ told_fields r.start r.paths) = e in cc)
  record_of_fields version (kind ∷ rest) = elim (is_kind kind) [
    | inr other ↦ inr (λ r is e. other (kind_of version (kind ∷ rest) kind rest refl r e).0)
    | inl kind_is ↦ elim (parts.outputs version rest) [
      | inr none ↦ inr (λ r is e. none r.outputs (told_fields r.start r.paths) is.room (kind_of version (kind ∷ rest) kind rest refl r e).1)
      | inl found ↦ elim (told_or_not found.1) [
        | inr none ↦ inr (λ r is e. none r.start r.paths is.start is.paths (parts_of version (kind ∷ rest) kind rest found.0 found.1 refl found.2 found.3 r is e).2)
        | inl told ↦ elim (parts.distinct found.0) [
          | inr twice ↦ inr (λ r is e. twice (subst AreDistinct (sym (parts_of version (kind ∷ rest) kind rest found.0 found.1 refl found.2 found.3 r is e).1) is.once))
          | inl once ↦ inl (
            record { outputs = found.0; start = told.start; paths = told.paths },
            ap (λ (k : List ℕ). k ∷ rest) kind_is ∙ ap (λ (xs : List (List ℕ)). (114 ∷ []) ∷ xs) (found.2 ∙ ap (λ (xs : List (List ℕ)). output_fields version found.0 ++ xs) told.spelled),
            record { room = found.3; once = once; start = told.below; paths = told.room },
          )
        ]
      ]
    ]
  ]
