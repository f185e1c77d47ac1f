-- How the program ends.
use Rattle.std.proofs.Common.{◌≡◌, ◌≢◌, ◌≤◌, ℕ, Bool, true, false, if◌then◌else◌, List, [], Option, Some, Result, Ok, Err, IfOk, OnOk, inl, inr, refl, sym, ap, ◌∙◌, arith}
use Rattle.std.specs.Result.{result_unwrap_or}
use Rattle.clap.specs.Words.{HasKind, IsAmong, Text, fault_of, kind_of}
use Rattle.clap.specs.declared.error.Error.{Error}
use Rattle.clap.specs.declared.error.kind.ErrorKind.TheVariants.{OutOfMemory}
use Rattle.nj_run.specs.Options.{AreAsked, Options, audits, nj}
use Rattle.model.specs.World.{World}
use Rattle.work.specs.declared.report.Report.{Report}
use Rattle.work.specs.declared.report.Report.TheVariants.{Success, Failed, Refused, Fault}
use Rattle.host.specs.World.{any_outcome, fresh}
use Rattle.nj_run.specs.Alone.{BuildsAlone}
use Rattle.nj_run.specs.Status.{status_of}
use Rattle.nj_run.specs.Texts.{Adds, err_of, no_tracer, out_of, traced_over}
use Rattle.nj_run.specs.Traces.{IsTracePath}
use Rattle.nj_run.specs.Judged.{Judged, Unjudged, keeps_of}
use Rattle.nj_run.proofs.Telling.{untouched}
use Rattle.nj_run.specs.Ends.{AreDone, AsksWhy, Audited, Built, Comes, Ending, NoTracer, TellsAudit, TracedOver, ToldWhy, Unexplained, Ends, EndsBy, EndsFor, EndsWell, Help, MayEnd, NoFolder, NoMemory, BadWords, exit_status}

-- after a build the status is no 2
pub built : {F : Type 0} (done told : Result ℕ F) (status : ℕ) → status ≡ result_unwrap_or told 1 → told ≡ done → IfOk done (λ given. given ≤ 1) → status ≡ 2 → ⊥
built (Ok given) told status is same within two =
    let all : status ≡ given = is ∙ ap (λ (r : Result ℕ _). result_unwrap_or r 1) same in omega (arith, all, within, two)
built (Err fault) told status is same within two =
    let all : status ≡ 1 = is ∙ ap (λ (r : Result ℕ _). result_unwrap_or r 1) same in omega (arith, all, two)

-- where words are not refused, an error is want of memory, and then the status is no 2
pub explained : {F K : Type 0} (taken : Bool) (kind memory : K) (done told : Result ℕ F) (status : ℕ) → status ≡ result_unwrap_or told 1 → told ≡ done → IfOk done (λ given. given ≡ 2 → kind ≢ memory) → (taken ≡ true → kind ≡ memory) → status ≡ 2 → taken ≡ false
explained false kind memory done told status is same other cause two = refl
explained true kind memory (Ok given) told status is same other cause two =
    let all : status ≡ given = is ∙ ap (λ (r : Result ℕ _). result_unwrap_or r 1) same in absurd (other (sym all ∙ two) (cause refl))
explained true kind memory (Err fault) told status is same other cause two =
    let all : status ≡ 1 = is ∙ ap (λ (r : Result ℕ _). result_unwrap_or r 1) same in let never : ⊥ = omega (arith, all, two) in absurd never

-- a folder that could not be gone to
pub no_folder : {W E F : Type 0} (asked : Options) (on_out : W → Option Text) (on_err : E → Option Text) (out : W) (old_err new_err : E) (folder : Text) (told : Result ℕ F)
    → asked.folder ≡ Some folder → IfOk told (λ status. status ≡ 1) → Comes (EndsFor asked) on_out on_err out out old_err new_err told
no_folder asked on_out on_err out old_err new_err folder (Ok status) is one =
    record { ending = NoFolder folder; may = is; tells = (one, record { shown = out; before = refl; out = untouched (on_out out); err = tt }) }
no_folder asked on_out on_err out old_err new_err folder (Err fault) is one = record { ending = NoFolder folder; may = is; tells = tt }

-- what a build reported, and what was told of it
pub reported : {W E F : Type 0} (asked : Options) (on_out : W → Option Text) (on_err : E → Option Text) (old_out shown new_out : W) (old_err new_err : E) (report : Report) (refused : Bool) (told : Result ℕ F)
    → asked.why ≡ false → audits asked ≡ false → ((later : World) × BuildsAlone false any_outcome asked fresh later report) → IfOk told (λ status. status ≡ status_of report)
    → OnOk told (Adds (on_out shown) (on_out new_out) (out_of report)) → OnOk told (Adds (on_err old_err) (on_err new_err) (err_of report refused))
    → Comes (EndsFor asked) on_out on_err old_out new_out old_err new_err told
reported asked on_out on_err old_out shown new_out old_err new_err report refused (Ok status) untold plain so is out err =
    record { ending = Built report refused; may = (untold, plain, so.0, so.1); tells = (is, record { shown = shown; before = tt; out = out; err = err }) }
reported asked on_out on_err old_out shown new_out old_err new_err report refused (Err fault) untold plain so is out err =
    record { ending = Built report refused; may = (untold, plain, so.0, so.1); tells = tt }

-- nothing traces commands here
pub untraced : {W E F : Type 0} (asked : Options) (on_out : W → Option Text) (on_err : E → Option Text) (out : W) (old_err new_err : E) (told : Result ℕ F)
    → asked.why ≡ false → audits asked ≡ true → IfOk told (λ status. status ≡ 1) → OnOk told (Adds (on_err old_err) (on_err new_err) (Some no_tracer))
    → Comes (EndsFor asked) on_out on_err out out old_err new_err told
untraced asked on_out on_err out old_err new_err (Ok status) untold audit one said =
    record { ending = NoTracer; may = (untold, audit); tells = (one, record { shown = out; before = refl; out = untouched (on_out out); err = said }) }
untraced asked on_out on_err out old_err new_err (Err fault) untold audit one said = record { ending = NoTracer; may = (untold, audit); tells = tt }

-- build lines name what traces are written to
pub named_over : {W E F : Type 0} (asked : Options) (on_out : W → Option Text) (on_err : E → Option Text) (old_out shown : W) (old_err new_err : E) (path : Text) (told : Result ℕ F)
    → asked.why ≡ false → audits asked ≡ true → IsTracePath path → IfOk told (λ status. status ≡ 1) → OnOk told (Adds (on_err old_err) (on_err new_err) (Some (traced_over path)))
    → Comes (EndsFor asked) on_out on_err old_out shown old_err new_err told
named_over asked on_out on_err old_out shown old_err new_err path (Ok status) untold audit is one said =
    record { ending = TracedOver path; may = (untold, audit, is); tells = (one, record { shown = shown; before = tt; out = untouched (on_out shown); err = said }) }
named_over asked on_out on_err old_out shown old_err new_err path (Err fault) untold audit is one said = record { ending = TracedOver path; may = (untold, audit, is); tells = tt }

-- what a build reported that was audited, and what was told of it
pub audited : {W E F : Type 0} (asked : Options) (on_out : W → Option Text) (on_err : E → Option Text) (old_out shown new_out : W) (old_err new_err : E) (report : Report) (told : Result ℕ F)
    → asked.why ≡ false → audits asked ≡ true → ((later : World) × BuildsAlone false any_outcome asked fresh later report)
    → IfOk told (λ status. TellsAudit report status (on_out shown) (on_out new_out) (on_err old_err) (on_err new_err))
    → Comes (EndsFor asked) on_out on_err old_out new_out old_err new_err told
audited asked on_out on_err old_out shown new_out old_err new_err report (Ok status) untold audit so is = record {
  ending = Audited report is.refused is.judged;
  may = (untold, audit, so.0, so.1);
  tells = (is.status, record { shown = shown; before = tt; out = is.out; err = is.err });
}
audited asked on_out on_err old_out shown new_out old_err new_err report (Err fault) untold audit so is =
    record { ending = Audited report false Unjudged; may = (untold, audit, so.0, so.1); tells = tt }

-- the status of an audit is none but 0 and 1
pub within_one : {F : Type 0} (report : Report) (old_out new_out old_err new_err : Option Text) (told : Result ℕ F)
    → IfOk told (λ status. TellsAudit report status old_out new_out old_err new_err) → IfOk told (λ status. status ≤ 1)
within_one report old_out new_out old_err new_err (Ok status) is = by (keeps_of is.judged) is.status
  where
    by : (keeps : Bool) → status ≡ (if keeps then status_of report else 1) → status ≤ 1
    by true same = so report same
      where
        so : (r : Report) → status ≡ status_of r → status ≤ 1
        so (Success started) same = omega (arith, same)
        so (Failed outputs) same = omega (arith, same)
        so (Refused refusal) same = omega (arith, same)
        so (Fault fault) same = omega (arith, same)
    by false same = omega (arith, same)
within_one report old_out new_out old_err new_err (Err fault) is = tt

-- why commands are due, which was told
pub told_why : {W E F : Type 0} (asked : Options) (on_out : W → Option Text) (on_err : E → Option Text) (old_out shown new_out : W) (err : E) (told : Result ℕ F)
    → AsksWhy asked → IfOk told (λ status. status ≡ 0) → Comes (EndsFor asked) on_out on_err old_out new_out err err told
told_why asked on_out on_err old_out shown new_out err (Ok status) asks is =
    record { ending = ToldWhy; may = asks; tells = (is, record { shown = shown; before = tt; out = tt; err = untouched (on_err err) }) }
told_why asked on_out on_err old_out shown new_out err (Err fault) asks is = record { ending = ToldWhy; may = asks; tells = tt }

-- or why that could not be told
pub told_why_not : {W E F : Type 0} (asked : Options) (on_out : W → Option Text) (on_err : E → Option Text) (old_out shown new_out : W) (old_err new_err : E) (report : Report) (refused : Bool) (told : Result ℕ F)
    → AsksWhy asked → IfOk told (λ status. status ≡ 1)
    → OnOk told (Adds (on_out shown) (on_out new_out) (out_of report)) → OnOk told (Adds (on_err old_err) (on_err new_err) (err_of report refused))
    → Comes (EndsFor asked) on_out on_err old_out new_out old_err new_err told
told_why_not asked on_out on_err old_out shown new_out old_err new_err report refused (Ok status) asks is out err =
    record { ending = Unexplained report refused; may = asks; tells = (is, record { shown = shown; before = tt; out = out; err = err }) }
told_why_not asked on_out on_err old_out shown new_out old_err new_err report refused (Err fault) asks is out err = record { ending = Unexplained report refused; may = asks; tells = tt }

-- what a run has come to, and its status
pub ends : {W E F : Type 0} (words : List Text) (May : Ending → Type 0) (on_out : W → Option Text) (on_err : E → Option Text) (old_out new_out : W) (old_err new_err : E) (done told : Result ℕ F) (status : ℕ)
    → status ≡ result_unwrap_or told 1 → told ≡ done → Comes May on_out on_err old_out new_out old_err new_err done → ((ending : Ending) → May ending → MayEnd words ending)
    → Ends words on_out on_err old_out new_out old_err new_err status
ends words May on_out on_err old_out new_out old_err new_err (Ok given) told status is same comes may =
    let all : status ≡ given = is ∙ ap (λ (r : Result ℕ _). result_unwrap_or r 1) same in
    record { ending = comes.ending; may = may comes.ending comes.may; tells = inl (all ∙ comes.tells.0, comes.tells.1) }
ends words May on_out on_err old_out new_out old_err new_err (Err fault) told status is same comes may =
    record { ending = comes.ending; may = may comes.ending comes.may; tells = inr (is ∙ ap (λ (r : Result ℕ _). result_unwrap_or r 1) same) }

among : (words : List Text) (error : Error) → HasKind (fault_of nj words) error → kind_of error ≢ OutOfMemory → IsAmong (kind_of error) (fault_of nj words)
among words error (inl memory) other = absurd (other memory)
among words error (inr fault) other = fault

-- words that clap refuses by this error
pub refused : (words : List Text) (error : Error) → HasKind (fault_of nj words) error → (ending : Ending) → EndsBy (kind_of error) ending → MayEnd words ending
refused words error has Help so = record { kind = kind_of error; fault = among words error has so.1; so = so }
refused words error has BadWords so = record { kind = kind_of error; fault = among words error has so.1; so = so }
refused words error has NoMemory so = tt
refused words error has (NoFolder folder) so = absurd so
refused words error has (Built report told) so = absurd so
refused words error has ToldWhy so = absurd so
refused words error has (Unexplained report told) so = absurd so
refused words error has NoTracer so = absurd so
refused words error has (TracedOver path) so = absurd so
refused words error has (Audited report told _) so = absurd so

-- words that ask for this
pub done : (words : List Text) (asked : Options) → fault_of nj words ≡ [] → AreAsked words asked → (ending : Ending) → EndsFor asked ending → MayEnd words ending
done words asked faultless are Help so = absurd so
done words asked faultless are BadWords so = absurd so
done words asked faultless are NoMemory so = absurd so
done words asked faultless are (NoFolder folder) so = record { faultless = faultless; asked = asked; are_asked = are; so = so }
done words asked faultless are (Built report told) so = record { faultless = faultless; asked = asked; are_asked = are; so = so }
done words asked faultless are ToldWhy so = record { faultless = faultless; asked = asked; are_asked = are; so = so }
done words asked faultless are (Unexplained report told) so = record { faultless = faultless; asked = asked; are_asked = are; so = so }
done words asked faultless are NoTracer so = record { faultless = faultless; asked = asked; are_asked = are; so = so }
done words asked faultless are (TracedOver path) so = record { faultless = faultless; asked = asked; are_asked = are; so = so }
done words asked faultless are (Audited report told _) so = record { faultless = faultless; asked = asked; are_asked = are; so = so }

well_after : (words : List Text) (report : Report) (told : Bool) → AreDone words (Built report told) → 0 ≡ status_of report → EndsWell words
well_after words (Success started) told done zero = inr (inl (started, told, done))
well_after words (Failed outputs) told done zero = absurd (omega (arith, zero))
well_after words (Refused refusal) told done zero = absurd (omega (arith, zero))
well_after words (Fault fault) told done zero = absurd (omega (arith, zero))

well_audited : (words : List Text) (report : Report) (told : Bool) (judged : Judged) (keeps : Bool) → keeps_of judged ≡ keeps
    → AreDone words (Audited report told judged) → 0 ≡ (if keeps then status_of report else 1) → EndsWell words
well_audited words report told judged false is done zero = absurd (omega (arith, zero))
well_audited words (Success started) told judged true is done zero = inr (inr (inr (started, told, judged, is, done)))
well_audited words (Failed outputs) told judged true is done zero = absurd (omega (arith, zero))
well_audited words (Refused refusal) told judged true is done zero = absurd (omega (arith, zero))
well_audited words (Fault fault) told judged true is done zero = absurd (omega (arith, zero))

well_by : (words : List Text) (ending : Ending) → MayEnd words ending → 0 ≡ exit_status ending → EndsWell words
well_by words Help may zero = inl may
well_by words BadWords may zero = absurd (omega (arith, zero))
well_by words NoMemory may zero = absurd (omega (arith, zero))
well_by words (NoFolder folder) may zero = absurd (omega (arith, zero))
well_by words (Built report told) may zero = well_after words report told may zero
well_by words ToldWhy may zero = inr (inr (inl may))
well_by words (Unexplained report told) may zero = absurd (omega (arith, zero))
well_by words NoTracer may zero = absurd (omega (arith, zero))
well_by words (TracedOver path) may zero = absurd (omega (arith, zero))
well_by words (Audited report told judged) may zero = well_audited words report told judged (keeps_of judged) refl may zero

-- where the status is 0, the run has ended well
pub well : {W E : Type 0} (words : List Text) (on_out : W → Option Text) (on_err : E → Option Text) (old_out new_out : W) (old_err new_err : E) (status : ℕ)
    → Ends words on_out on_err old_out new_out old_err new_err status → status ≡ 0 → EndsWell words
well words on_out on_err old_out new_out old_err new_err status ended zero = elim ended.tells [
  | inl told ↦ well_by words ended.ending ended.may (sym zero ∙ told.0)
  | inr one ↦ absurd (omega (arith, zero, one))
]
