-- How a run goes from stage to stage.
use Rattle.std.proofs.Common.{◌≡◌, ◌⊎◌, inl, inr, ℕ, Bool, true, false, IsTrue, List, [], Option, None, Some, Result, Ok, Err, IfErr, IfOk, IsErrAnd, refl, sym, ap, ◌∙◌, subst, arith}
use Rattle.std.proofs.lemmas.Bool.{false≢true}
use Rattle.model.specs.declared.act.Act.{Act}
use Rattle.model.specs.declared.event.Event.{Event}
use Rattle.model.specs.declared.fault.SiteFault.{SiteFault}
use Rattle.model.specs.declared.fault.SiteFault.TheVariants.{Device, Memory, Stopped}
use Rattle.model.specs.declared.outcome.Outcome.{Outcome}
use Rattle.model.specs.Calls.{HasCause, IsRestart, OnlyLooks}
use Rattle.model.specs.World.{IsIdle, View, World}
use Rattle.theory.specs.Seen.{Looked, Unrefused}
use Rattle.theory.proofs.SiteCalls.{unrefused_none, unrefused_then}
use Rattle.theory.proofs.Looks.{looks_nothing, looks_then}
use Rattle.manifest.specs.declared.fault.ReadError.TheVariants as read
use Rattle.tools.specs.declared.declared.Declared.{Declared}
use Rattle.builder.specs.Build.{IsBuild, limits_of}
use Rattle.work.specs.declared.report.Options.{Options}
use Rattle.work.specs.declared.report.Report.{Report}
use Rattle.work.specs.declared.report.Report.TheVariants.{Fault, Success}
use Rattle.nj_run.specs.Alone.{Passes}
use Rattle.stand_in.specs.Moves.{EndsFirst, FailedAt, IsEndOf, IsNext, IsOneBuild, IsPrepared, IsReady, MayBeBuiltFirst, WasReadAlone, WasReadHere, WasUnreadAlone, WasUnreadHere, end_in, outcome_in}
use Rattle.stand_in.specs.declared.build.Ended.{Ended}
use Rattle.stand_in.specs.declared.build.Next.{Next}
use Rattle.stand_in.specs.declared.build.Next.TheVariants.{Build, ReadAnew, End as EndsBy}
use Rattle.stand_in.specs.declared.build.Outcome.{Outcome as End}
use Rattle.stand_in.specs.declared.build.Outcome.TheVariants.{Built}

-- ---- calls

pub idle_then : (tells : Bool) (old new : World) → OnlyLooks tells old new → IsIdle old.events → IsIdle new.events
idle_then tells old new looks idle = subst (λ (events : List Event). IsIdle events) (sym looks.events) idle

pub looked_nothing : (tells : Bool) (w : World) → w.stopped ≡ false → Looked tells w w
looked_nothing tells w runs = record { looks = looks_nothing tells w; unrefused = unrefused_none w runs }

pub looked_then : (tells : Bool) (old mid new : World) → Looked tells old mid → Looked tells mid new → Looked tells old new
looked_then tells old mid new first second = record { looks = looks_then tells old mid new first.looks second.looks; unrefused = unrefused_then old mid new first.unrefused second.unrefused }

-- a call that found no memory, and did nothing
memory_cause : (w : World) → w.stopped ≡ false → HasCause {T = Unit {0}} w w (Ok tt)
memory_cause w runs = record {
  grows = omega arith;
  device = λ is. absurd (cc);
  others = λ none. refl;
  stopped = runs;
  after_stop = λ is. absurd (false≢true (sym runs ∙ is));
  earlier = refl;
}

-- time went by before it was read, and then again
pub alone_by : (tells : Bool) (name : List ℕ) (old entry read now : World) (declared : Declared) → OnlyLooks tells old entry → WasReadHere tells name entry read declared → Passes tells read now → WasReadAlone tells name old now declared
alone_by tells name old entry read now declared before was passes = record {
  entry = entry;
  before = before;
  read = read;
  was_read = was;
  since = record { looks = passes.looks; unrefused = record { failures = passes.failures; began = was.looked.unrefused.goes_on; goes_on = passes.stopped ∙ was.looked.unrefused.goes_on; earlier = passes.earlier } };
}

-- and nothing since
pub alone_last : (tells : Bool) (name : List ℕ) (old entry now : World) (r : Result Declared Report) → OnlyLooks tells old entry → IfOk r (WasReadHere tells name entry now) → IfOk r (WasReadAlone tells name old now)
alone_last tells name old entry now (Ok declared) before was = record { entry = entry; before = before; read = now; was_read = was; since = looked_nothing tells now was.looked.unrefused.goes_on }
alone_last tells name old entry now (Err report) before was = tt

pub unread_last : (tells : Bool) (outcome : Act → View → Outcome) (name : List ℕ) (old entry now : World) (r : Result Declared Report) → OnlyLooks tells old entry → IfErr r (WasUnreadHere tells outcome name entry now) → IfErr r (WasUnreadAlone tells outcome name old now)
unread_last tells outcome name old entry now (Ok declared) before unread = tt
unread_last tells outcome name old entry now (Err report) before unread = (entry, before, unread)

module _ (tells : Bool) (outcome : Act → View → Outcome) (options : Options) where
  -- nothing was built first
  pub prepared_at : (old new : World) → OnlyLooks tells old new → IsPrepared tells outcome options old new
  prepared_at old new looks = record { entry = new; before = looks; first = new; built = inl refl; edits = looks_nothing tells new }

  -- something was, or was not, and then there was only looked
  pub prepared_by : (old entry first new : World) → OnlyLooks tells old entry → MayBeBuiltFirst tells outcome options entry first → OnlyLooks tells first new → IsPrepared tells outcome options old new
  prepared_by old entry first new before built edits = record { entry = entry; before = before; first = first; built = built; edits = edits }

  pub prepared_then : (old mid new : World) → IsPrepared tells outcome options old mid → OnlyLooks tells mid new → IsPrepared tells outcome options old new
  prepared_then old mid new prepared looks = prepared_by old prepared.entry prepared.first new prepared.before prepared.built (looks_then tells prepared.first mid new prepared.edits looks)

  -- a build that begins here
  pub built_end : (old entry new : World) (report : Report) → IsPrepared tells outcome options old entry → IsOneBuild tells outcome options entry new report → IsEndOf tells outcome options old new (Built report)
  built_end old entry new report prepared built = inl (entry, prepared, built)

  -- there is no memory, where the site goes on
  memory_built : (w : World) → w.stopped ≡ false → IsOneBuild tells outcome options w w (Fault Memory)
  memory_built w runs = ([], inl record { error = read.Memory; is = refl; looks = looks_nothing tells w; cause = memory_cause w runs; file = λ tell. tt })

  pub memory_end : (old new : World) → IsPrepared tells outcome options old new → new.stopped ≡ false → IsEndOf tells outcome options old new (Built (Fault Memory))
  memory_end old new prepared runs = built_end old new new (Fault Memory) prepared (memory_built new runs)

  -- a fault of the site behind what was prepared
  pub fault_end : (old mid new : World) (fault : SiteFault) → IsPrepared tells outcome options old mid → FailedAt tells mid new fault → IsEndOf tells outcome options old new (Built (Fault fault))
  fault_end old mid new fault prepared failed =
      built_end old failed.mid new (Fault fault) (prepared_then old mid failed.mid prepared failed.before)
      ([], inl record { error = read.Site fault; is = refl; looks = failed.looks; cause = failed.cause; file = λ tell. tt })

  -- ---- reading

  pub unread_end : (old new : World) (report : Report) → IsIdle old.events → WasUnreadAlone tells outcome options.file old new report → IsEndOf tells outcome options old new (Built report)
  unread_end old new report idle unread =
      built_end old unread.0 new report (prepared_at old unread.0 unread.1) ([], unread.2 (idle_then tells old unread.0 unread.1 idle) (limits_of options))

  pub unread_here_end : (old mid new : World) (report : Report) → IsPrepared tells outcome options old mid → IsIdle mid.events → WasUnreadHere tells outcome options.file mid new report → IsEndOf tells outcome options old new (Built report)
  unread_here_end old mid new report prepared idle unread = built_end old mid new report prepared ([], unread idle (limits_of options))

  -- what was read when nobody else was at work
  pub alone_looked : (old now : World) (declared : Declared) (was : WasReadAlone tells options.file old now declared) → Looked tells was.entry now
  alone_looked old now declared was = looked_then tells was.entry was.read now was.was_read.looked was.since

  pub alone_looks : (old now : World) (declared : Declared) → WasReadAlone tells options.file old now declared → OnlyLooks tells old now
  alone_looks old now declared was = looks_then tells old was.entry now was.before (alone_looked old now declared was).looks

  -- so all is prepared, where nothing was out of date
  pub ready_at : (old now new : World) (declared : Declared) → WasReadAlone tells options.file old now declared → Looked tells now new → IsReady tells outcome options old new declared
  ready_at old now new declared was since = record {
    entry = was.entry;
    prepared = prepared_at old was.entry was.before;
    read = was.read;
    was_read = was.was_read;
    since = looked_then tells was.read now new was.since since;
  }

  -- and is prepared, whatever the build files say
  pub ready_prepared : (old now : World) (declared : Declared) → IsReady tells outcome options old now declared → IsPrepared tells outcome options old now
  ready_prepared old now declared ready =
      prepared_then old ready.read now (prepared_then old ready.entry ready.read ready.prepared ready.was_read.looked.looks) ready.since.looks

  -- ---- by results

  pub end_by : (old new : World) (report : Report) → IsEndOf tells outcome options old new (Built report) → (r : Result Ended Report) → IsErrAnd r (λ (told : Report). told ≡ report) → IsEndOf tells outcome options old new (end_in r)
  end_by old new report is (Ok ended) passed = absurd passed
  end_by old new report is (Err told) passed = subst (λ (r : Report). IsEndOf tells outcome options old new (Built r)) (sym passed) is

  pub outcome_by : (old new : World) (report : Report) → IsEndOf tells outcome options old new (Built report) → (r : Result End Report) → IsErrAnd r (λ (told : Report). told ≡ report) → IsEndOf tells outcome options old new (outcome_in r)
  outcome_by old new report is (Ok ended) passed = absurd passed
  outcome_by old new report is (Err told) passed = subst (λ (r : Report). IsEndOf tells outcome options old new (Built r)) (sym passed) is

  pub next_by : (entry old new : World) (report : Report) → IsEndOf tells outcome options entry new (Built report) → (r : Result Next Report) → IsErrAnd r (λ (told : Report). told ≡ report) → IsNext tells outcome options entry old new r
  next_by entry old new report is (Ok next) passed = absurd passed
  next_by entry old new report is (Err told) passed = subst (λ (r : Report). IsEndOf tells outcome options entry new (Built r)) (sym passed) is
