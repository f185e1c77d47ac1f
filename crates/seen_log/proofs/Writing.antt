-- A log is written line by line.
use Rattle.std.proofs.Common.{◌≡◌, ◌+◌, ℕ, List, [], ◌∷◌, ◌++◌, map, take, refl, sym, ap, ◌∙◌, subst, append_assoc, append-nil, slice_get, Some, zero, suc, arith, Result, Ok, Err}
use Rattle.std.specs.Prelude.{OnOk}
use Rattle.std.specs.Borrow.{Bor}
use Rattle.std.proofs.lemmas.List.Concat.{flat_map-append}
use Rattle.log_text.specs.declared.form.Version.TheVariants.{Two}
use Rattle.log_text.specs.Form.{HasLine, HaveLines, record_line, lines_text, IsAppended}
use Rattle.log_text.specs.Text.{header}
use Rattle.seen_log.specs.declared.note.Last.{Last}
use Rattle.seen_log.specs.declared.note.Note.{Note}
use Rattle.seen_log.specs.Record.{forms}
use Rattle.seen_log.specs.Log.{IsLog}
use Rattle.seen_log.specs.Keeping.{entry_note}

pub HaveLines-push : (records : List Note) (r : Note) → HaveLines (forms Two) records → HasLine (forms Two) r → HaveLines (forms Two) (records ++ r ∷ [])
HaveLines-push [] r have is = (is, tt)
HaveLines-push (q ∷ rs) r have is = (have.0, HaveLines-push rs r have.1 is)

line_behind : (old new : List ℕ) (records : List Note) (r : Note) → IsLog old records → IsAppended (forms Two) r old new → IsLog new (records ++ r ∷ [])
line_behind old new records r log line = record {
  lines = line.text ∙ (ap (λ (xs : List ℕ). xs ++ record_line (forms Two) r) log.lines
      ∙ (append_assoc (header (forms Two)) (lines_text (forms Two) records) (record_line (forms Two) r)
      ∙ ap (λ (xs : List ℕ). header (forms Two) ++ xs) (ap (λ (xs : List ℕ). lines_text (forms Two) records ++ xs) (sym (append-nil (record_line (forms Two) r))) ∙ sym (flat_map-append (record_line (forms Two)) records (r ∷ [])))));
  fit = HaveLines-push records r log.fit line.has;
}

pub log_of_none : (text : List ℕ) → text ≡ header (forms Two) → IsLog text []
log_of_none text is = record { lines = is ∙ sym (append-nil (header (forms Two))); fit = tt }

-- the first entries, and the next one
next_entries : (es : List (Bor (List ℕ) × Last)) (i : ℕ) (e : Bor (List ℕ) × Last) → slice_get es i ≡ Some e → map entry_note (take (i + 1) es) ≡ map entry_note (take i es) ++ entry_note e ∷ []
next_entries [] i e at = cc
next_entries (f ∷ es) zero e at = let same : f ≡ e = cc in ap (λ (u : Bor (List ℕ) × Last). entry_note u ∷ []) same
next_entries (f ∷ es) (suc i) e at =
    ap (λ (m : ℕ). map entry_note (take m (f ∷ es))) (let same : suc i + 1 ≡ suc (i + 1) = omega arith in same)
    ∙ ap (λ (l : List Note). entry_note f ∷ l) (next_entries es i e at)

pub entry_behind : (es : List (Bor (List ℕ) × Last)) (i : ℕ) (e : Bor (List ℕ) × Last) (old new : List ℕ) → slice_get es i ≡ Some e → IsAppended (forms Two) (entry_note e) old new
    → IsLog old (map entry_note (take i es)) → IsLog new (map entry_note (take (i + 1) es))
entry_behind es i e old new at line log = subst (IsLog new) (sym (next_entries es i e at)) (line_behind old new (map entry_note (take i es)) (entry_note e) log line)

-- what follows where all was well
pub then_ok : {T E : Type 0} (r : Result T E) {P Q : Type 0} → OnOk r P → (P → Q) → OnOk r Q
then_ok (Ok x) p then = then p
then_ok (Err e) p then = tt
