-- Lines of what is noted grow.
use Rattle.std.proofs.Common.{◌≡◌, ℕ, Bool, true, false, List, [], ◌++◌, Result, Ok, Err, refl, sym, ap, ◌∙◌, append-nil, append_assoc}
use Rattle.std.specs.Prelude.{OnOk}
use Rattle.std.proofs.lemmas.Bool.{false≢true}
use Rattle.seen_log.specs.declared.note.Kind.{Kind}
use Rattle.seen_log.specs.declared.note.Noted.{Noted}
use Rattle.seen_log.specs.Log.{Notes}
use Rattle.seen.specs.declared.answer.Looked.{Looked}
use Rattle.seen_true.specs.Counting.{absence}
use Rattle.seen.specs.Noting.{AbsenceOf, Grows, SeenOf, UnlessSettled}

pub grows_none : (lines : List ℕ) → Grows lines lines
grows_none lines = ([], sym (append-nil lines))

pub grows_then : (a b c : List ℕ) → Grows a b → Grows b c → Grows a c
grows_then a b c first second = (first.0 ++ second.0, second.1 ∙ (ap (λ (l : List ℕ). l ++ second.0) first.1 ∙ append_assoc a first.0 second.0))

-- where nothing is noted
pub grows_same : {T E : Type 0} (r : Result T E) (old new : List ℕ) → new ≡ old → OnOk r (Grows old new)
grows_same (Ok v) old new same = ([], same ∙ sym (append-nil old))
grows_same (Err fault) old new same = tt

-- a line that was put there
pub notes_grow : {T E : Type 0} (r : Result T E) (path : List ℕ) (noted : Noted) (old new : List ℕ) → OnOk r (Notes path noted old new) → OnOk r (Grows old new)
notes_grow (Ok v) path noted old new is = (_, is.text)
notes_grow (Err fault) path noted old new is = tt

-- what was asked for before, and what was not
pub settled_yes : (settled : Bool) (looked : Looked) (path lines : List ℕ) → true ≡ settled → UnlessSettled settled looked path lines lines
settled_yes true looked path lines is = refl
settled_yes false looked path lines is = absurd (false≢true (sym is))

pub settled_not : {T E : Type 0} (r : Result T E) (settled : Bool) (looked : Looked) (path old new : List ℕ) → false ≡ settled
    → OnOk r (SeenOf looked.found looked.how looked.last path old new) → OnOk r (UnlessSettled settled looked path old new)
settled_not r true looked path old new is seen = absurd (false≢true is)
settled_not r false looked path old new is seen = seen

-- that nothing is there was noted before, or it was not
pub noted_yes : (is_noted : Bool) (kind : Kind) (path lines : List ℕ) → true ≡ is_noted → AbsenceOf is_noted kind path lines lines
noted_yes true kind path lines is = refl
noted_yes false kind path lines is = absurd (false≢true (sym is))

pub noted_not : {T E : Type 0} (r : Result T E) (is_noted : Bool) (kind : Kind) (path old new : List ℕ) → false ≡ is_noted
    → OnOk r (Notes path (absence kind) old new) → OnOk r (AbsenceOf is_noted kind path old new)
noted_not r true kind path old new is notes = absurd (false≢true is)
noted_not r false kind path old new is notes = notes
