-- What the program tells at its end, and on which of its two outputs.
use Rattle.std.specs.Prelude.{ℕ, Bool, List, [], ◌∷◌, ◌++◌, Option, Some, None, length, codes, decimal, ◌==◌, if◌then◌else◌, ⊤}
use Rattle.std.specs.Io.KnownBytes.{Appends}
use Rattle.model.specs.declared.fault.SiteFault.TheVariants.{Memory, Device, Stopped}
use Rattle.work.specs.declared.report.Report.{Report}
use Rattle.work.specs.declared.report.Report.TheVariants.{Success, Failed, Refused, Fault}

abbrev pub line : List ℕ → List ℕ
line text = text ++ 10 ∷ []

abbrev pub no_work : List ℕ
no_work = line (codes "nj: no work to do.")

abbrev pub stopped : ℕ → List ℕ
stopped count = line (codes "nj: build stopped, failed commands: " ++ decimal count)

abbrev pub no_memory : List ℕ
no_memory = line (codes "nj: error: N61: out of memory")

abbrev pub no_tracer : List ℕ
no_tracer = line (codes "nj: error: no strace in PATH that traces a program here; nothing was started")

-- where build lines name this path
abbrev pub traced_over : List ℕ → List ℕ
traced_over path = line (codes "nj: error: nothing was started, since traces would be written over what build lines name: " ++ path)

abbrev pub site_failed : List ℕ
site_failed = line (codes "nj: error: N60: the site failed")

-- what is told after a success that started so many commands
abbrev pub after_success : ℕ → List ℕ
after_success started = if started == 0 then no_work else []

-- What is told where the site failed, and whether the device has refused a call. Then a line `nj: PATH: REASON` follows, and
-- all is open (`None`).
abbrev pub after_failure : Bool → Option (List ℕ)
after_failure refused = if refused then None else Some site_failed

-- What is told of a report on the standard output.
abbrev pub out_of : Report → Option (List ℕ)
out_of (Success started) = Some (after_success started)
out_of (Failed outputs) = Some []
out_of (Refused refusal) = Some []
out_of (Fault fault) = Some []

-- What is told of a report on the standard error, and whether the device has refused a call. `None` is a text that is open. So
-- is each text with a value in it of which no contract tells how it prints, as a refusal behind `nj: error: `, or an error of
-- the system: of such a text the kit's `writeln!` promises nothing at all, nor that what the writer held still stands in front
-- of it.
abbrev pub err_of : Report → Bool → Option (List ℕ)
err_of (Success started) refused = Some []
err_of (Failed outputs) refused = Some (stopped (length outputs))
err_of (Refused refusal) refused = None
err_of (Fault Memory) refused = Some no_memory
err_of (Fault Device) refused = after_failure refused
err_of (Fault Stopped) refused = after_failure refused

-- An output that held the first bytes holds the second ones now: the same, and this text behind them. It says nothing where the
-- writer does not tell what it holds, and of a text that is open.
abbrev pub Adds : Option (List ℕ) → Option (List ℕ) → Option (List ℕ) → Type 0
Adds old new None = ⊤
Adds old new (Some text) = Appends old new text
