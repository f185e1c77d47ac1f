-- What an audit tells.
use Rattle.std.proofs.Common.{◌≡◌, ◌++◌, ℕ, Bool, List, Option, Some, None, ap, ◌∙◌, if◌then◌else◌}
use Rattle.std.proofs.KnownBytes.{Appends-trans}
use Rattle.std.specs.Prelude.{option_map}
use Rattle.work.specs.declared.report.Report.{Report}
use Rattle.nj_run.specs.Ends.{TellsAudit}
use Rattle.nj_run.specs.Judged.{TellsFound, told_of}
use Rattle.nj_run.specs.Status.{status_of}
use Rattle.nj_run.specs.Texts.{Adds, err_of, out_of}

-- a text behind one that may be open
added : (a b c told : Option (List ℕ)) (more : List ℕ) → Adds a b told → Adds b c (Some more) → Adds a c (option_map (λ text. text ++ more) told)
added a b c None more first second = tt
added a b c (Some text) more first second = Appends-trans a b c text more first second

-- what was told of a build, and then what was found
pub tells_audit : (report : Report) (refused : Bool) (given : ℕ) (keeps : Bool) (status : ℕ) (old_out shown new_out old_err new_err : Option (List ℕ))
    → given ≡ status_of report → status ≡ (if keeps then given else 1) → Adds old_out shown (out_of report) → Adds old_err new_err (err_of report refused)
    → TellsFound keeps shown new_out → TellsAudit report status old_out new_out old_err new_err
tells_audit report refused given keeps status old_out shown new_out old_err new_err is so out err found = record {
  refused = refused;
  judged = found.judged;
  status = so ∙ (ap (λ (n : ℕ). if keeps then n else 1) is ∙ ap (λ (b : Bool). if b then status_of report else 1) found.is);
  out = added old_out shown new_out (out_of report) (told_of found.judged) out found.told;
  err = err;
}
