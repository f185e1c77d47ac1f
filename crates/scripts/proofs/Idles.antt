-- After an answer that is no fault no command runs.
use Rattle.std.proofs.Common.{◌≡◌, inl, inr, ℕ, Bool, true, false, List, Option, None, Some, map, refl, sym, ◌∙◌, ap, subst}
use Rattle.std.specs.Prelude.{option_map}
use Rattle.model.specs.declared.act.Act.{Act}
use Rattle.model.specs.declared.event.Event.{Event}
use Rattle.model.specs.declared.graph.Edge.{Edge}
use Rattle.model.specs.declared.outcome.Outcome.{Outcome}
use Rattle.model.specs.World.{World, View, IsIdle}
use Rattle.model.specs.Graph.{Addition}
use Rattle.model.specs.Records.{OwnFiles, IsOwnIn, file_in, build_log_name, deps_log_name}
use Rattle.model.specs.SingleBuild.{Answer, is_fault}
use Rattle.builder.specs.declared.asked.Limits.{Limits}
use Rattle.work.specs.declared.report.Refusal.TheVariants.{File, MadeTwice, NoDyndepInput, Occupied, NoDyndep, BadVersion, BadStatement, Unfit, UnknownTarget, Cycle, Missing}
use Rattle.work.specs.declared.report.Report.{Report}
use Rattle.work.specs.declared.report.Report.TheVariants.{Success, Failed, Refused, Fault}
use Rattle.log_text.specs.DepsFormat.{HasFormat}
use Rattle.depfile.specs.Depfile.{HasReading}
use Rattle.dyndep_law.specs.Readings.{HasReading as HasDyndeps}
use Rattle.graph.specs.Extended.{addition_of}
use Rattle.builder.specs.Build.{missing_answer, Says, IsBuild}
use Rattle.work.specs.Loads.{ReadsDyndeps}
use Rattle.scripts.specs.Script.{GoesOn}

abbrev is_trouble : Report → Bool
is_trouble (Success started) = false
is_trouble (Failed outputs) = false
is_trouble (Refused refusal) = false
is_trouble (Fault fault) = true

missing_fault : (path : List ℕ) (needed : Option (List ℕ)) → is_fault (missing_answer path needed) ≡ false
missing_fault path None = refl
missing_fault path (Some output) = refl

-- the answer that a report gives is a fault only where the report is
no_fault : (edges : List Edge) (given targets : List (List ℕ)) (report : Report) (said : Answer) → is_trouble report ≡ false → Says edges given targets report said → is_fault said ≡ false
no_fault edges given targets (Success started) said fine says = ap is_fault says
no_fault edges given targets (Failed outputs) said fine says = ap is_fault says
no_fault edges given targets (Refused (File fault)) said fine says = absurd says
no_fault edges given targets (Refused (MadeTwice path)) said fine says = ap is_fault says
no_fault edges given targets (Refused (NoDyndepInput path)) said fine says = ap is_fault says
no_fault edges given targets (Refused (Occupied occupied)) said fine says = ap is_fault says
no_fault edges given targets (Refused (NoDyndep path)) said fine says = ap is_fault says
no_fault edges given targets (Refused (BadVersion path)) said fine says = ap is_fault says
no_fault edges given targets (Refused (BadStatement path)) said fine says = ap is_fault says
no_fault edges given targets (Refused (Unfit unfit)) said fine says = ap is_fault says
no_fault edges given targets (Refused (UnknownTarget target)) said fine says = ap is_fault says.1
no_fault edges given targets (Refused (Cycle paths)) said fine says = ap is_fault says
no_fault edges given targets (Refused (Missing missing)) said fine says = ap is_fault says ∙ missing_fault missing.path missing.needed_by
no_fault edges given targets (Fault fault) said fine says = absurd (cc)

-- own files that lie in a folder
abbrev own_of : List ℕ → OwnFiles
own_of folder = record { build_log = file_in folder build_log_name; deps_log = file_in folder deps_log_name; files = λ p. true; set = λ p. true }

own_in : (folder : List ℕ) → IsOwnIn (own_of folder) folder
own_in folder = record { build_log = refl; deps_log = refl; is_log = refl; is_deps = refl; tick = refl; new_log = refl; new_deps = refl; outputs = λ digits are. refl }

-- a reading of dyndep files, in the words of builds
readings : HasDyndeps → (dyndep : List ℕ → Option (List Addition)) × ReadsDyndeps dyndep
readings dyndeps = (
  λ bytes. option_map (map addition_of) (dyndeps.0 bytes),
  λ bytes. let read = dyndeps.1 bytes in (read.0, read.1, ap (λ statements. option_map (map addition_of) statements) read.2),
)

module _ (outcome : Act → View → Outcome) (name : List ℕ) (limits : Limits) (given : List (List ℕ)) (old exit : World) (idle : IsIdle old.events) (logs : HasFormat) (depfiles : HasReading) (dyndeps : HasDyndeps) where
  ends_idle : (report : Report) → is_trouble report ≡ false → IsBuild true outcome name limits given old exit report → IsIdle exit.events
  ends_idle report fine (inl unread) = subst IsIdle (sym {A = List Event} unread.looks.events) idle
  ends_idle report fine (inr built) =
      let some = readings dyndeps in
      let builds = built.builds (own_of built.folder) logs.0 depfiles.0 some.0 depfiles.1 some.1 logs.1 (own_in built.folder) in
      builds.build.idle (no_fault built.graph.edges given built.targets report builds.answer fine builds.said)

  -- the site goes on without running commands
  pub goes_idle : (report : Report) (now : World) → IsBuild true outcome name limits given old exit report → GoesOn report exit now → IsIdle now.events
  goes_idle (Success started) now build on = subst (λ (w : World). IsIdle w.events) (sym on) (ends_idle (Success started) refl build)
  goes_idle (Failed outputs) now build on = subst (λ (w : World). IsIdle w.events) (sym on) (ends_idle (Failed outputs) refl build)
  goes_idle (Refused refusal) now build on = subst (λ (w : World). IsIdle w.events) (sym on) (ends_idle (Refused refusal) refl build)
  goes_idle (Fault fault) now build on = subst IsIdle (sym {A = List Event} on.events) (λ job. refl)
