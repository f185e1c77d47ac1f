-- A log is written line by line.
use Rattle.std.proofs.Common.{◌≡◌, ◌+◌, ℕ, List, [], ◌∷◌, ◌++◌, map, take, refl, sym, ap, ◌∙◌, subst, append_assoc, append-nil, Bor, slice_get, Some, zero, suc, arith}
use Rattle.std.specs.List.{AllByRecursion}
use Rattle.std.proofs.lemmas.List.Concat.{flat_map-append}
use Rattle.model.specs.declared.record.DepsRecord.{DepsRecord}
use Rattle.log_text.specs.declared.form.Version.TheVariants.{Two}
use Rattle.log_text.specs.Form.{HasLine, HaveLines, record_line, lines_text, IsAppended}
use Rattle.log_text.specs.Text.{header}
use Rattle.log_text.specs.Found.{tellings_in, IsNamed}
use Rattle.log_text.specs.declared.deps.Deps.{Deps}
use Rattle.log_text.specs.DepsRecordLine.{forms}
use Rattle.log_text.specs.DepsLog.{record_in, told_in, deps_record, IsLog}
use Rattle.log_text.proofs.Sayings.{on}

HaveLines-push : (records : List DepsRecord) (r : DepsRecord) → HaveLines (forms Two) records → HasLine (forms Two) r → HaveLines (forms Two) (records ++ r ∷ [])
HaveLines-push [] r have is = (is, tt)
HaveLines-push (q ∷ rs) r have is = (have.0, HaveLines-push rs r have.1 is)

pub line_behind : (old new : List ℕ) (records : List DepsRecord) (r : DepsRecord) → IsLog old records → IsAppended (forms Two) r old new → IsLog new (records ++ r ∷ [])
line_behind old new records r log line = record {
  lines = line.text ∙ (ap (λ (xs : List ℕ). xs ++ record_line (forms Two) r) log.lines
      ∙ (append_assoc (header (forms Two)) (lines_text (forms Two) records) (record_line (forms Two) r)
      ∙ ap (λ (xs : List ℕ). header (forms Two) ++ xs) (ap (λ (xs : List ℕ). lines_text (forms Two) records ++ xs) (sym (append-nil (record_line (forms Two) r))) ∙ sym (flat_map-append (record_line (forms Two)) records (r ∷ [])))));
  fit = HaveLines-push records r log.fit line.has;
}

-- the records of what is in force
pub records_are : (xs : List (List ℕ)) (found : List (List (Bor (List ℕ)) × Bor Deps)) → map (record_in xs) found ≡ map deps_record (map (on (told_in xs)) (tellings_in found))
records_are xs [] = refl
records_are xs (t ∷ found) = ap (λ (l : List DepsRecord). record_in xs t ∷ l) (records_are xs found)

pub named_at : (found : List (List (Bor (List ℕ)) × Bor Deps)) (i : ℕ) (t : List (Bor (List ℕ)) × Bor Deps) → AllByRecursion IsNamed found → slice_get found i ≡ Some t → IsNamed t
named_at [] i t are e = cc
named_at (x ∷ found) zero t are e = let same : x ≡ t = cc in subst IsNamed same are.0
named_at (x ∷ found) (suc i) t are e = named_at found i t are.1 e

pub log_of_none : (text : List ℕ) → text ≡ header (forms Two) → IsLog text []
log_of_none text is = record { lines = is ∙ sym (append-nil (header (forms Two))); fit = tt }

-- the first records, and the next one
pub next_records : (xs : List (List ℕ)) (found : List (List (Bor (List ℕ)) × Bor Deps)) (i : ℕ) (t : List (Bor (List ℕ)) × Bor Deps) → slice_get found i ≡ Some t → map (record_in xs) (take (i + 1) found) ≡ map (record_in xs) (take i found) ++ record_in xs t ∷ []
next_records xs [] i t e = cc
next_records xs (y ∷ found) zero t e = let same : y ≡ t = cc in ap (λ (u : List (Bor (List ℕ)) × Bor Deps). record_in xs u ∷ []) same
next_records xs (y ∷ found) (suc i) t e =
    ap (λ (m : ℕ). map (record_in xs) (take m (y ∷ found))) (let same : suc i + 1 ≡ suc (i + 1) = omega arith in same)
    ∙ ap (λ (l : List DepsRecord). record_in xs y ∷ l) (next_records xs found i t e)
