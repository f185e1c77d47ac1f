-- Of any fields it can be told whether they are a record's.
use Rattle.std.proofs.Common.{◌≡◌, ◌≢◌, ◌<◌, ◌⊎◌, inl, inr, ℕ, zero, suc, decimal, List, [], ◌∷◌, ◌++◌, length, None, refl, sym, ap, ◌∙◌, subst, append-nil, length-append, arith}
use Rattle.std.proofs.lemmas.Bool.{cases_eq, cases_Bool, false≢true}
use Rattle.model.specs.Graph.{has}
use Rattle.model.specs.declared.record.Record.{Record}
use Rattle.model.specs.declared.record.Record.TheVariants.{Begun, Done}
use Rattle.log_text.specs.declared.done.Done.{Done as DoneData}
use Rattle.log_text.specs.declared.form.Version.{Version}
use Rattle.log_text.specs.declared.form.Version.TheVariants.{One, Two}
use Rattle.log_text.specs.Form.{IsRecordOrNone}
use Rattle.log_text.specs.Kept.{AreDistinct}
use Rattle.log_text.specs.Laws.{IsNumberOrNone, AreCountedOrNone, AreOutputsOrNone, PartsAreDecided}
use Rattle.log_text.specs.BuildRecord.{act_fields, done_fields, output_fields, fields_of, HasRoomFor, IsRecord, forms}
use Rattle.log_text.proofs.Distinct.{AreOnce, distinct_of_once, once_of_distinct}
use Rattle.log_text.proofs.EachRead.{same_or_not}
use Rattle.log_text.proofs.Parts.{ArePartsOf, parts_of, not_split, not_distinct, not_kind, not_done, not_empty, too_few}

-- ---- numbers

-- whether the text is that of a number below the bound
number_below : (bound : ℕ) (text : List ℕ) → ((n : ℕ) × (n < bound) × (text ≡ decimal n)) ⊎ ((n : ℕ) → n < bound → text ≡ decimal n → ⊥)
number_below zero text = inr (λ n lt e. absurd (omega (arith, lt)))
number_below (suc bound) text = elim (same_or_not text (decimal bound)) [
  | inl same ↦ inl (bound, omega arith, same)
  | inr other ↦ elim (number_below bound text) [
    | inl found ↦ inl (found.0, omega (arith, found.1), found.2)
    | inr none ↦ inr (λ n lt e. elim (cases_eq n bound) [
      | inl last ↦ other (e ∙ ap decimal last)
      | inr less ↦ none n (omega (arith, lt, less)) e
    ])
  ]
]

number_of_text : (text : List ℕ) → IsNumberOrNone text
number_of_text text = number_below 18446744073709551616 text

-- ---- lists of texts

once_or_not : (ps : List (List ℕ)) → AreOnce ps ⊎ (AreOnce ps → ⊥)
once_or_not [] = inl tt
once_or_not (p ∷ ps) = elim (cases_Bool (has ps p)) [
  | inl twice ↦ inr (λ once. false≢true (sym once.0 ∙ twice))
  | inr new ↦ elim (once_or_not ps) [
    | inl once ↦ inl (new, once)
    | inr not ↦ inr (λ once. not once.1)
  ]
]

distinct_or_not : (ps : List (List ℕ)) → AreDistinct ps ⊎ (AreDistinct ps → ⊥)
distinct_or_not ps = elim (once_or_not ps) [
  | inl once ↦ inl (distinct_of_once ps once)
  | inr not ↦ inr (λ distinct. not (once_of_distinct ps distinct))
]

-- so many from the front
front_of : (n : ℕ) (fields : List (List ℕ)) → ((texts : List (List ℕ)) × (after : List (List ℕ)) × (fields ≡ texts ++ after) × (length texts ≡ n)) ⊎ (length fields < n)
front_of zero fields = inl ([], fields, refl, refl)
front_of (suc n) [] = inr (omega arith)
front_of (suc n) (f ∷ fields) = elim (front_of n fields) [
  | inl found ↦ inl (f ∷ found.0, found.1, ap (λ (l : List (List ℕ)). f ∷ l) found.2, ap suc found.3)
  | inr few ↦ inr (omega (arith, few))
]

-- as many as the first of them says
counted_of : (fields : List (List ℕ)) → AreCountedOrNone fields
counted_of [] = inr (λ texts after lt e. let clash : [] ≡ decimal (length texts) ∷ (texts ++ after) = e in cc)
counted_of (first ∷ rest) = elim (number_of_text first) [
  | inl n ↦ elim (front_of n.0 rest) [
    | inl found ↦ inl (
      found.0,
      found.1,
      ap (λ (f : List ℕ). f ∷ rest) (n.2 ∙ ap decimal (sym found.3)) ∙ ap (λ (l : List (List ℕ)). decimal (length found.0) ∷ l) found.2,
      subst (λ (m : ℕ). m < 18446744073709551616) (sym found.3) n.1,
    )
    | inr few ↦ inr (too_few {A = ℕ} None (first ∷ rest) first rest n.0 refl n.2 n.1 few)
  ]
  | inr none ↦ inr (λ texts after lt e. none (length texts) lt (let both : first ∷ rest ≡ decimal (length texts) ∷ (texts ++ after) = e in cc))
]

outputs_in : (version : Version) (fields : List (List ℕ)) → AreOutputsOrNone version fields
outputs_in One fields = elim (front_of 1 fields) [
  | inl found ↦ inl found
  | inr few ↦ inr (λ outputs after room e.
      let all : length fields ≡ length (outputs ++ after) = ap (λ (l : List (List ℕ)). length l) e in
      let parts = length-append outputs after in
      omega (arith, few, room, all, parts))
]
outputs_in Two fields = elim (counted_of fields) [
  | inl found ↦ elim (cases_eq (length found.0) 0) [
    | inl none ↦ inr (λ outputs after room e. not_empty fields found.0 found.1 outputs after found.2 found.3 none room e)
    | inr some ↦ inl (found.0, found.1, found.2, (omega (arith, some), found.3))
  ]
  | inr none ↦ inr (λ outputs after room e. none outputs after room.1 e)
]

pub parts_are_decided_law : PartsAreDecided
parts_are_decided_law = record { number = number_of_text; list = counted_of; outputs = outputs_in; distinct = distinct_or_not }

-- ---- what a done record tells

not_five : (fields : List (List ℕ)) → length fields ≢ 5 → (done : DoneData) → fields ≡ done_fields done → ⊥
not_five fields other done e = other (ap (λ (l : List (List ℕ)). length l) e)

abbrev IsDoneOrNone : List (List ℕ) → Type 0
IsDoneOrNone fields = ((done : DoneData) × (fields ≡ done_fields done) × (done.start < 18446744073709551616)) ⊎ ((done : DoneData) → done.start < 18446744073709551616 → fields ≡ done_fields done → ⊥)

done_in_fields : (fields : List (List ℕ)) → IsDoneOrNone fields
done_in_fields [] = inr (λ done lt e. not_five [] (omega arith) done e)
done_in_fields (a ∷ []) = inr (λ done lt e. not_five (a ∷ []) (omega arith) done e)
done_in_fields (a ∷ b ∷ []) = inr (λ done lt e. not_five (a ∷ b ∷ []) (omega arith) done e)
done_in_fields (a ∷ b ∷ c ∷ []) = inr (λ done lt e. not_five (a ∷ b ∷ c ∷ []) (omega arith) done e)
done_in_fields (a ∷ b ∷ c ∷ d ∷ []) = inr (λ done lt e. not_five (a ∷ b ∷ c ∷ d ∷ []) (omega arith) done e)
done_in_fields (a ∷ b ∷ c ∷ d ∷ f ∷ []) = elim (number_of_text a) [
  | inl n ↦ inl (record { start = n.0; act = record { command = b; depfile = c; response_path = d; response_content = f } }, ap (λ (x : List ℕ). x ∷ b ∷ c ∷ d ∷ f ∷ []) n.2, n.1)
  | inr none ↦ inr (λ done lt e. none done.start lt (let both : a ∷ b ∷ c ∷ d ∷ f ∷ [] ≡ decimal done.start ∷ act_fields done.act = e in cc))
]
done_in_fields (a ∷ b ∷ c ∷ d ∷ f ∷ g ∷ rest) = inr (λ done lt e. not_five (a ∷ b ∷ c ∷ d ∷ f ∷ g ∷ rest) (omega arith) done e)

-- ---- records

nothing_left : (after : List (List ℕ)) → (after ≡ []) ⊎ (after ≢ [])
nothing_left [] = inl refl
nothing_left (a ∷ after) = inr (λ (e : a ∷ after ≡ []). cc)

module _ (version : Version) (kind : List ℕ) (rest outputs after : List (List ℕ)) (splits : rest ≡ output_fields version outputs ++ after) (room : HasRoomFor version outputs) (once : AreDistinct outputs) where
  parts : (r : Record) → IsRecord version r → kind ∷ rest ≡ fields_of version r → ArePartsOf r kind outputs after
  parts r is e = parts_of version (kind ∷ rest) kind rest outputs after refl splits room r is e

  done_or_none : (kind ≡ 98 ∷ [] → after ≡ [] → ⊥) → IsRecordOrNone (forms version) (kind ∷ rest)
  done_or_none not_begun = elim (same_or_not kind (100 ∷ [])) [
    | inl done ↦ elim (done_in_fields after) [
      | inl told ↦ inl (
        Done outputs told.0.start told.0.act,
        ap (λ (k : List ℕ). k ∷ rest) done ∙ ap (λ (l : List (List ℕ)). (100 ∷ []) ∷ l) (splits ∙ ap (λ (l : List (List ℕ)). output_fields version outputs ++ l) told.1),
        record { room = room; once = once; start = told.2 },
      )
      | inr none ↦ inr (λ r is e. not_done version r kind outputs after is (parts r is e) done none)
    ]
    | inr not ↦ inr (λ r is e. not_kind r kind outputs after (parts r is e) not_begun not)
  ]

  told_by_kind : IsRecordOrNone (forms version) (kind ∷ rest)
  told_by_kind = elim (same_or_not kind (98 ∷ [])) [
    | inl begun ↦ elim (nothing_left after) [
      | inl none ↦ inl (
        Begun outputs,
        ap (λ (k : List ℕ). k ∷ rest) begun ∙ ap (λ (l : List (List ℕ)). (98 ∷ []) ∷ l) (splits ∙ (ap (λ (l : List (List ℕ)). output_fields version outputs ++ l) none ∙ append-nil (output_fields version outputs))),
        record { room = room; once = once; start = tt },
      )
      | inr some ↦ done_or_none (λ is none. some none)
    ]
    | inr not ↦ done_or_none (λ is none. not is)
  ]

no_fields : (version : Version) (r : Record) → [] ≡ fields_of version r → ⊥
no_fields version (Begun outputs) e = let clash : [] ≡ (98 ∷ []) ∷ output_fields version outputs = e in cc
no_fields version (Done outputs start act) e = let clash : [] ≡ (100 ∷ []) ∷ (output_fields version outputs ++ decimal start ∷ act_fields act) = e in cc

pub record_of_fields : (version : Version) (fields : List (List ℕ)) → IsRecordOrNone (forms version) fields
record_of_fields version [] = inr (λ r is e. no_fields version r e)
record_of_fields version (kind ∷ rest) = elim (outputs_in version rest) [
  | inl found ↦ elim (distinct_or_not found.0) [
    | inl once ↦ told_by_kind version kind rest found.0 found.1 found.2 found.3 once
    | inr twice ↦ inr (λ r is e. not_distinct version r kind found.0 found.1 is (parts_of version (kind ∷ rest) kind rest found.0 found.1 refl found.2 found.3 r is e) twice)
  ]
  | inr none ↦ inr (not_split version (kind ∷ rest) kind rest refl none)
]
