-- The worlds are those that calls leave on a site in memory.
use Rattle.std.proofs.Common.{◌≡◌, ℕ, true, List, [], ◌∷◌, ◌++◌, Option, Some, None, refl, sym, ◌∙◌, ap, append_assoc}
use Rattle.std.proofs.lemmas.List.{append-nil}
use Rattle.std.specs.Prelude.{codes}
use Rattle.model.specs.declared.event.Event.TheVariants.{Finish}
use Rattle.model.specs.declared.outcome.Outcome.{Outcome}
use Rattle.model.specs.declared.record.DepsRecord.{DepsRecord}
use Rattle.model.specs.declared.record.Record.{Record}
use Rattle.model.specs.World.{World, file_at, view_of}
use Rattle.model.specs.Calls.{content_or_empty}
use Rattle.model.specs.Records.{build_log_name, deps_log_name, tick_name}
use Rattle.log_text.specs.declared.form.Version.TheVariants.{Two}
use Rattle.log_text.specs.Form.{Form, record_line, lines_text}
use Rattle.log_text.specs.Text.{header}
use Rattle.log_text.specs.BuildRecord.{forms as record_forms}
use Rattle.log_text.specs.DepsRecordLine.{forms as deps_forms}
use Rattle.sim.specs.World.{ticked, started, happened, worked}
use Rattle.witness.specs.Scanning.{cat, scan, naming, begun, copied, scanned, told, log_text, deps_text}
use Rattle.witness.specs.Worlds.{Call, now_given, waits, stops, after, logs, tells, copying, scanning, recording, writes, removes, failing_calls, stopping_calls, first_calls, second_calls, failed_log, stopped_log, built_log, named, failed, edited, stopped, restarted_world, built, edited_again, last}
use Rattle.witness.specs.Met.{AreCalled}
use Rattle.witness.proofs.Given.{IsName, h_is_name, k_is_name, giving, outcome_is}

-- ---- a line behind a log

lines_grow : {R : Type 0} (form : Form R) (rs : List R) (r : R) → lines_text form rs ++ record_line form r ≡ lines_text form (rs ++ r ∷ [])
lines_grow form [] r = sym (append-nil (record_line form r))
lines_grow form (s ∷ rs) r = append_assoc (record_line form s) (lines_text form rs) (record_line form r) ∙ ap (λ (l : List ℕ). record_line form s ++ l) (lines_grow form rs r)

text_grows : {R : Type 0} (form : Form R) (rs : List R) (r : R) → (header form ++ lines_text form rs) ++ record_line form r ≡ header form ++ lines_text form (rs ++ r ∷ [])
text_grows form rs r = append_assoc (header form) (lines_text form rs) (record_line form r) ∙ ap (λ (l : List ℕ). header form ++ l) (lines_grow form rs r)

-- ---- waiting

given_by : (name : List ℕ) → IsName name → (world : World) (held : Option (List ℕ)) → view_of world.history (codes "a") ≡ Some (naming name) → view_of world.history name ≡ held
    → now_given scan world ≡ giving name held
given_by name is_name world held naming_is held_is = outcome_is name is_name (view_of world.history) naming_is ∙ ap (giving name) held_is

-- ---- one call and what follows

waits_then : (call : Call) (world : World) (given : Outcome) → now_given scan world ≡ given → call (waits 2 scan world) ≡ call (happened (Finish 2 given.ok) (worked 2 given world))
waits_then call world given is = ap (λ (o : Outcome). call (happened (Finish 2 o.ok) (worked 2 o world))) is

stops_giving : (world : World) (given : Outcome) → now_given scan world ≡ given → stops 2 scan world ≡ record (worked 2 given world) { wait_refused = Some world.failures; stopped = true }
stops_giving world given is = ap (λ (o : Outcome). record (worked 2 o world) { wait_refused = Some world.failures; stopped = true }) is

logs_then : (call : Call) (rs : List Record) (r : Record) (world : World) → content_or_empty (file_at world.history build_log_name) ≡ log_text rs
    → call (logs r world) ≡ call (writes build_log_name (log_text (rs ++ r ∷ [])) world)
logs_then call rs r world is =
    ap (λ (held : List ℕ). call (writes build_log_name (held ++ record_line (record_forms Two) r) world)) is
    ∙ ap (λ (text : List ℕ). call (writes build_log_name text world)) (text_grows (record_forms Two) rs r)

tells_then : (call : Call) (rs : List DepsRecord) (r : DepsRecord) (world : World) → content_or_empty (file_at world.history deps_log_name) ≡ deps_text rs
    → call (tells r world) ≡ call (writes deps_log_name (deps_text (rs ++ r ∷ [])) world)
tells_then call rs r world is =
    ap (λ (held : List ℕ). call (writes deps_log_name (held ++ record_line (deps_forms Two) r) world)) is
    ∙ ap (λ (text : List ℕ). call (writes deps_log_name text world)) (text_grows (deps_forms Two) rs r)

-- ---- parts of a build, where the log has these records before

abbrev copies : List Record → World → World
copies rs world = waits 1 cat (started 1 cat (ticked tick_name (writes build_log_name (log_text (rs ++ begun (codes "h") ∷ [])) world)))

abbrev copies_all : List Record → ℕ → World → World
copies_all rs start world = writes build_log_name (log_text (rs ++ begun (codes "h") ∷ copied start ∷ [])) (copies rs world)

copies_then : (call : Call) (rs : List Record) (start : ℕ) (world : World) → content_or_empty (file_at world.history build_log_name) ≡ log_text rs
    → content_or_empty (file_at (copies rs world).history build_log_name) ≡ log_text (rs ++ begun (codes "h") ∷ [])
    → call (after (copying start) world) ≡ call (copies_all rs start world)
copies_then call rs start world is then_is =
    logs_then (λ w. call (logs (copied start) (waits 1 cat (started 1 cat (ticked tick_name w))))) rs (begun (codes "h")) world is
    ∙ logs_then call (rs ++ begun (codes "h") ∷ []) (copied start) (copies rs world) then_is
    ∙ ap (λ (all : List Record). call (writes build_log_name (log_text all) (copies rs world))) (append_assoc rs (begun (codes "h") ∷ []) (copied start ∷ []))

abbrev scans : List Record → World → World
scans rs world = started 2 scan (ticked tick_name (removes (codes "b.d") (writes build_log_name (log_text (rs ++ begun (codes "b") ∷ [])) world)))

scans_then : (call : Call) (rs : List Record) (world : World) → content_or_empty (file_at world.history build_log_name) ≡ log_text rs
    → call (after scanning world) ≡ call (scans rs world)
scans_then call rs world is = logs_then (λ w. call (started 2 scan (ticked tick_name (removes (codes "b.d") w)))) rs (begun (codes "b")) world is

-- the second command has ended well
abbrev ended : List ℕ → World → World
ended content world = happened (Finish 2 true) (worked 2 (giving (codes "h") (Some content)) world)

records_then : (ds : List DepsRecord) (rs : List Record) (start : ℕ) (world : World) → content_or_empty (file_at world.history deps_log_name) ≡ deps_text ds
    → content_or_empty (file_at (writes deps_log_name (deps_text (ds ++ told start ∷ [])) world).history build_log_name) ≡ log_text rs
    → after (recording start) world ≡ removes (codes "b.d") (writes build_log_name (log_text (rs ++ scanned start ∷ [])) (writes deps_log_name (deps_text (ds ++ told start ∷ [])) world))
records_then ds rs start world deps_are logs_are =
    tells_then (λ w. removes (codes "b.d") (logs (scanned start) w)) ds (told start) world deps_are
    ∙ logs_then (removes (codes "b.d")) rs (scanned start) (writes deps_log_name (deps_text (ds ++ told start ∷ [])) world) logs_are

-- ---- the builds

abbrev with_log : World
with_log = writes build_log_name (header (record_forms Two)) named

abbrev first_copied : World
first_copied = copies_all [] 6 with_log

abbrev first_scanned : World
first_scanned = scans (begun (codes "h") ∷ copied 6 ∷ []) first_copied

fails : failed ≡ after failing_calls named
fails =
    sym (copies_then (λ w. waits 2 scan (after scanning w)) [] 6 with_log refl refl
    ∙ scans_then (waits 2 scan) (begun (codes "h") ∷ copied 6 ∷ []) first_copied refl
    ∙ waits_then (λ w. w) first_scanned (giving (codes "k") None) (given_by (codes "k") k_is_name first_scanned None refl refl))

stops_so : stopped ≡ after stopping_calls edited
stops_so =
    sym (scans_then (stops 2 scan) failed_log edited refl
    ∙ stops_giving (scans failed_log edited) (giving (codes "h") (Some (codes "x"))) (given_by (codes "h") h_is_name (scans failed_log edited) (Some (codes "x")) refl refl))

abbrev scanned_again : World
scanned_again = scans stopped_log restarted_world

builds : built ≡ after first_calls restarted_world
builds =
    sym (scans_then (λ w. after (recording 20) (writes deps_log_name (header (deps_forms Two)) (waits 2 scan w))) stopped_log restarted_world refl
    ∙ waits_then (λ w. after (recording 20) (writes deps_log_name (header (deps_forms Two)) w)) scanned_again (giving (codes "h") (Some (codes "x")))
    (given_by (codes "h") h_is_name scanned_again (Some (codes "x")) refl refl)
    ∙ records_then [] (stopped_log ++ begun (codes "b") ∷ []) 20 (writes deps_log_name (header (deps_forms Two)) (ended (codes "x") scanned_again)) refl refl)

abbrev copied_again : World
copied_again = copies_all built_log 29 edited_again

abbrev scanned_last : World
scanned_last = scans (built_log ++ begun (codes "h") ∷ copied 29 ∷ []) copied_again

builds_again : last ≡ after second_calls edited_again
builds_again =
    sym (copies_then (λ w. after (recording 34) (waits 2 scan (after scanning w))) built_log 29 edited_again refl refl
    ∙ scans_then (λ w. after (recording 34) (waits 2 scan w)) (built_log ++ begun (codes "h") ∷ copied 29 ∷ []) copied_again refl
    ∙ waits_then (after (recording 34)) scanned_last (giving (codes "h") (Some (codes "y"))) (given_by (codes "h") h_is_name scanned_last (Some (codes "y")) refl refl)
    ∙ records_then (told 20 ∷ []) (built_log ++ begun (codes "h") ∷ copied 29 ∷ begun (codes "b") ∷ []) 34 (ended (codes "y") scanned_last) refl refl)

pub called : AreCalled
called = record {
  begins = refl;
  declares = refl;
  sources = refl;
  names = refl;
  fails = fails;
  edits = refl;
  stops = stops_so;
  restarts = refl;
  builds = builds;
  edits_again = refl;
  builds_again = builds_again;
}
