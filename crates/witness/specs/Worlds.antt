-- What happens on a site in memory: which calls are made on it for each move, and what they leave. That the program makes just these calls
-- for these moves is shown by the rows `calls` of `rows_worlds`.
use Rattle.std.specs.Prelude.{◌≡◌, ℕ, true, false, List, [], ◌∷◌, ◌++◌, Some, None, codes}
use Rattle.model.specs.declared.event.Event.{Event}
use Rattle.model.specs.declared.event.Event.TheVariants.{Start, Finish}
use Rattle.model.specs.declared.event.Finished.{Finished}
use Rattle.model.specs.declared.event.Moment.{Moment}
use Rattle.model.specs.declared.event.Moment.TheVariants.{Wrote, Happened}
use Rattle.model.specs.declared.event.Writer.TheVariants.{Program, Command}
use Rattle.model.specs.declared.moves.Move.{Move}
use Rattle.model.specs.declared.moves.Move.TheVariants.{Write, Build}
use Rattle.model.specs.declared.outcome.Outcome.{Outcome}
use Rattle.model.specs.declared.record.DepsRecord.{DepsRecord}
use Rattle.model.specs.declared.record.Record.{Record}
use Rattle.model.specs.declared.act.Act.{Act}
use Rattle.model.specs.World.{World, view_of}
use Rattle.model.specs.Records.{build_log_name, deps_log_name, tick_name}
use Rattle.log_text.specs.declared.form.Version.TheVariants.{Two}
use Rattle.log_text.specs.Form.{record_line}
use Rattle.log_text.specs.Text.{header}
use Rattle.log_text.specs.BuildRecord.{forms as record_forms}
use Rattle.log_text.specs.DepsRecordLine.{forms as deps_forms}
use Rattle.sim.specs.Toy.{toy_outcome}
use Rattle.sim.specs.Sim.{Ends, Halts, noting}
use Rattle.sim.specs.World.{wrote, ticked, appended, started, happened, worked}
use Rattle.sim.specs.World.{world_of as world_of_sim}
use Rattle.sim.specs.declared.jobs.Running.{Running}
use Rattle.sim.specs.declared.sim.Sim.{Sim}
use Rattle.sim.specs.declared.toy.Toy.{Toy}
use Rattle.witness.specs.Scanning.{cat, scan, file_text, naming, telling, begun, copied, scanned, told, log_text, deps_text}

-- ---- calls, as the contracts of the site in memory have them

abbrev pub Call : Type 0
Call = World → World

abbrev pub writes : List ℕ → List ℕ → Call
writes path content world = wrote Program path (Some content) world

abbrev pub removes : List ℕ → Call
removes path world = wrote Program path None world

-- what the command gives in the view of that moment
abbrev pub now_given : Act → World → Outcome
now_given act world = toy_outcome act (view_of world.history)

-- the command has made its writes, and ends
abbrev pub waits : ℕ → Act → Call
waits job act world = happened (Finish job (now_given act world).ok) (worked job (now_given act world) world)

-- the site stops in the wait, which is noted: the command has made its writes
abbrev pub stops : ℕ → Act → Call
stops job act world = record (worked job (now_given act world) world) { wait_refused = Some world.failures; stopped = true }

-- Waiting and stopping are what the contracts of the site say, where the command that runs has not written yet.
pub record AreOfSim : Type 0 where
  pub waits : (old new : Sim Toy) (finished : Finished) (ends : Ends toy_outcome finished old new) → ends.one.done ≡ None
      → world_of_sim new ≡ waits finished.job ends.one.act (world_of_sim old)
  pub stops : (old new : Sim Toy) (job : ℕ) (one : Running) → Halts toy_outcome (noting old) new → one.done ≡ None → old.jobs.running ≡ (job, one) ∷ [] → new.lost ≡ false
      → world_of_sim new ≡ stops job one.act (world_of_sim old)

abbrev pub after : List Call → World → World
after [] world = world
after (call ∷ calls) world = after calls (call world)

abbrev pub logs : Record → Call
logs r = appended build_log_name (record_line (record_forms Two) r)

abbrev pub tells : DepsRecord → Call
tells r = appended deps_log_name (record_line (deps_forms Two) r)

-- the first command is run; it starts under this stamp
abbrev pub copying : ℕ → List Call
copying start = logs (begun (codes "h")) ∷ ticked tick_name ∷ started 1 cat ∷ waits 1 cat ∷ logs (copied start) ∷ []

-- the second one is started
abbrev pub scanning : List Call
scanning = logs (begun (codes "b")) ∷ removes (codes "b.d") ∷ ticked tick_name ∷ started 2 scan ∷ []

-- what is done at its good end, where it was started under this stamp
abbrev pub recording : ℕ → List Call
recording start = tells (told start) ∷ logs (scanned start) ∷ removes (codes "b.d") ∷ []

-- ---- the moves

-- what `a` names is not there when the first build runs, and the site stops in the second
abbrev pub moves : List Move
moves =
    Write (codes "build.ninja") file_text ∷ Write (codes "g") (codes "x") ∷ Write (codes "a") (naming (codes "k")) ∷ Build []
    ∷ Write (codes "a") (naming (codes "h")) ∷ Build [] ∷ Build [] ∷ Write (codes "g") (codes "y") ∷ Build [] ∷ []

-- the calls that the builds make
abbrev pub failing_calls : List Call
failing_calls = writes build_log_name (header (record_forms Two)) ∷ (copying 6 ++ (scanning ++ waits 2 scan ∷ []))

abbrev pub stopping_calls : List Call
stopping_calls = scanning ++ stops 2 scan ∷ []

abbrev pub first_calls : List Call
first_calls = scanning ++ (waits 2 scan ∷ writes deps_log_name (header (deps_forms Two)) ∷ recording 20)

abbrev pub second_calls : List Call
second_calls = copying 29 ++ (scanning ++ (waits 2 scan ∷ recording 34))

-- ---- what they leave

abbrev pub put : List ℕ → List ℕ → ℕ → Moment
put path content stamp = Wrote Program path (Some content) stamp

abbrev pub gone : List ℕ → ℕ → Moment
gone path stamp = Wrote Program path None stamp

abbrev pub left : ℕ → List ℕ → List ℕ → ℕ → Moment
left job path content stamp = Wrote (Command job) path (Some content) stamp

-- the build log between the moves
abbrev pub failed_log : List Record
failed_log = begun (codes "h") ∷ copied 6 ∷ begun (codes "b") ∷ []

abbrev pub stopped_log : List Record
stopped_log = failed_log ++ begun (codes "b") ∷ []

abbrev pub built_log : List Record
built_log = stopped_log ++ begun (codes "b") ∷ scanned 20 ∷ []

abbrev pub last_log : List Record
last_log = built_log ++ begun (codes "h") ∷ copied 29 ∷ begun (codes "b") ∷ scanned 34 ∷ []

abbrev pub failing : List Moment
failing =
    put build_log_name (log_text []) 4 ∷ put build_log_name (log_text (begun (codes "h") ∷ [])) 5 ∷ put tick_name [] 6 ∷ Happened (Start 1 cat 6)
    ∷ left 1 (codes "h") (codes "x") 7 ∷ Happened (Finish 1 true) ∷ put build_log_name (log_text (begun (codes "h") ∷ copied 6 ∷ [])) 8
    ∷ put build_log_name (log_text failed_log) 9 ∷ gone (codes "b.d") 10 ∷ put tick_name [] 11 ∷ Happened (Start 2 scan 11) ∷ Happened (Finish 2 false) ∷ []

abbrev pub stopping : List Moment
stopping =
    put build_log_name (log_text stopped_log) 13 ∷ gone (codes "b.d") 14 ∷ put tick_name [] 15 ∷ Happened (Start 2 scan 15)
    ∷ left 2 (codes "b") (codes "x") 16 ∷ left 2 (codes "b.d") (telling (codes "h")) 17 ∷ []

abbrev pub succeeding : List Moment
succeeding =
    put build_log_name (log_text (stopped_log ++ begun (codes "b") ∷ [])) 18 ∷ gone (codes "b.d") 19 ∷ put tick_name [] 20 ∷ Happened (Start 2 scan 20)
    ∷ left 2 (codes "b") (codes "x") 21 ∷ left 2 (codes "b.d") (telling (codes "h")) 22 ∷ Happened (Finish 2 true)
    ∷ put deps_log_name (deps_text []) 23 ∷ put deps_log_name (deps_text (told 20 ∷ [])) 24 ∷ put build_log_name (log_text built_log) 25 ∷ gone (codes "b.d") 26 ∷ []

abbrev pub again : List Moment
again =
    put build_log_name (log_text (built_log ++ begun (codes "h") ∷ [])) 28 ∷ put tick_name [] 29 ∷ Happened (Start 1 cat 29) ∷ left 1 (codes "h") (codes "y") 30
    ∷ Happened (Finish 1 true) ∷ put build_log_name (log_text (built_log ++ begun (codes "h") ∷ copied 29 ∷ [])) 31
    ∷ put build_log_name (log_text (built_log ++ begun (codes "h") ∷ copied 29 ∷ begun (codes "b") ∷ [])) 32 ∷ gone (codes "b.d") 33 ∷ put tick_name [] 34
    ∷ Happened (Start 2 scan 34) ∷ left 2 (codes "b") (codes "y") 35 ∷ left 2 (codes "b.d") (telling (codes "h")) 36 ∷ Happened (Finish 2 true)
    ∷ put deps_log_name (deps_text (told 20 ∷ told 34 ∷ [])) 37 ∷ put build_log_name (log_text last_log) 38 ∷ gone (codes "b.d") 39 ∷ []

-- ---- the worlds between

abbrev pub world_of : List Moment → List Event → List Event → ℕ → World
world_of history events earlier tick =
    record { history = history; events = events; earlier = earlier; ticked = tick; failures = 0; failures_at_start = 0; wait_refused = None; stopped = false }

abbrev pub first : World
first = world_of [] [] [] 0

abbrev pub declared : World
declared = world_of (put (codes "build.ninja") file_text 1 ∷ []) [] [] 0

abbrev pub sourced : World
sourced = world_of (declared.history ++ put (codes "g") (codes "x") 2 ∷ []) [] [] 0

abbrev pub named : World
named = world_of (sourced.history ++ put (codes "a") (naming (codes "k")) 3 ∷ []) [] [] 0

abbrev pub failed_events : List Event
failed_events = Start 1 cat 6 ∷ Finish 1 true ∷ Start 2 scan 11 ∷ Finish 2 false ∷ []

abbrev pub failed : World
failed = world_of (named.history ++ failing) failed_events [] 11

abbrev pub edited : World
edited = world_of (failed.history ++ put (codes "a") (naming (codes "h")) 12 ∷ []) failed_events [] 11

abbrev pub stopped_events : List Event
stopped_events = failed_events ++ Start 2 scan 15 ∷ []

abbrev pub stopped : World
stopped = record (world_of (edited.history ++ stopping) stopped_events [] 15) { wait_refused = Some 0; stopped = true }

abbrev pub restarted_world : World
restarted_world = world_of stopped.history [] stopped_events 15

abbrev pub built_events : List Event
built_events = Start 2 scan 20 ∷ Finish 2 true ∷ []

abbrev pub built : World
built = world_of (restarted_world.history ++ succeeding) built_events stopped_events 20

abbrev pub edited_again : World
edited_again = world_of (built.history ++ put (codes "g") (codes "y") 27 ∷ []) built_events stopped_events 20

abbrev pub more_events : List Event
more_events = Start 1 cat 29 ∷ Finish 1 true ∷ Start 2 scan 34 ∷ Finish 2 true ∷ []

abbrev pub last : World
last = world_of (edited_again.history ++ again) (built_events ++ more_events) stopped_events 34

abbrev pub worlds : List World
worlds = declared ∷ sourced ∷ named ∷ failed ∷ edited ∷ stopped ∷ restarted_world ∷ built ∷ edited_again ∷ last ∷ []
