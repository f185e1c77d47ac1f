-- What is written to an output.
use Rattle.std.proofs.Common.{◌≡◌, ℕ, Bool, List, [], Option, Some, None, Result, Ok, Err, IfOk, sym, subst, length, ◌∙◌, append-nil}
use Rattle.std.specs.Prelude.{IsErrAnd}
use Rattle.std.specs.Io.KnownBytes.{Appends, Keeps}
use Rattle.work.specs.declared.report.Report.{Report}
use Rattle.work.specs.declared.report.Report.TheVariants.{Failed}
use Rattle.nj_run.specs.Texts.{Adds, err_of, stopped}

-- written, and flushed
pub flushed : (a b c : Option (List ℕ)) (text : List ℕ) → Appends a b text → Keeps b c → Appends a c text
flushed None b c text wrote kept = tt
flushed (Some x) None c text wrote kept = absurd wrote
flushed (Some x) (Some y) None text wrote kept = absurd kept
flushed (Some x) (Some y) (Some z) text wrote kept = kept ∙ wrote

-- only flushed
pub kept_only : (a b : Option (List ℕ)) → Keeps a b → Appends a b []
kept_only None b kept = tt
kept_only (Some x) None kept = absurd kept
kept_only (Some x) (Some y) kept = kept ∙ sym (append-nil x)

pub untouched : (a : Option (List ℕ)) → Appends a a []
untouched None = tt
untouched (Some x) = sym (append-nil x)

-- an error is no `Ok`
pub if_ok_of_err : {T E : Type 0} (r : Result T E) (Q : E → Type 0) (P : T → Type 0) → IsErrAnd r Q → IfOk r P
if_ok_of_err (Ok v) Q P is = absurd is
if_ok_of_err (Err e) Q P is = tt

-- what is told of commands that failed
pub after_failed : (report : Report) (outputs : List (List ℕ)) (refused : Bool) (count : ℕ) (old new : Option (List ℕ))
    → report ≡ Failed outputs → count ≡ length outputs → Adds old new (Some (stopped count)) → Adds old new (err_of report refused)
after_failed report outputs refused count old new is counts told =
    subst (λ (r : Report). Adds old new (err_of r refused)) (sym is) (subst (λ (n : ℕ). Adds old new (Some (stopped n))) counts told)

pub ruleset telling = (flushed, kept_only, untouched, if_ok_of_err)
