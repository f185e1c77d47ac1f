-- What a build is told when it begins: what counts, and faithful records.
use Rattle.std.proofs.Common.{◌≡◌, ℕ, suc, ◌<◌, ◌≤◌, max, true, List, [], ◌∷◌, ◌++◌, Some, None, refl, sym, ◌∙◌, ap, subst, append-nil, arith}
use Rattle.std.proofs.Math.Nat.{le-max_left, le-max_right}
use Rattle.std.proofs.Math.Seq.{drop-length}
use Rattle.model.specs.declared.event.Event.{Event}
use Rattle.model.specs.declared.event.Event.TheVariants.{Start, Finish}
use Rattle.model.specs.declared.event.Moment.{Moment}
use Rattle.model.specs.declared.event.Moment.TheVariants.{Wrote, Happened}
use Rattle.model.specs.declared.graph.Edge.{Edge}
use Rattle.model.specs.Faithful.{IsFaithfulStore, IsReadable}
use Rattle.model.specs.Outcome.{Behaviour}
use Rattle.model.specs.Records.{LogFormat, Made, OwnFiles, Store, Told, deps_in_force, in_force, store_in}
use Rattle.model.specs.World.{IsIdle, View, World, content_of, file_at, next_from, next_stamp, runs, view_of}
use Rattle.seen_law.specs.Retold.{none_started, retell, retold, told_file}
use Rattle.seen_law.specs.Meanwhile.{edits, told_next}
use Rattle.seen_true.specs.Between.{paths_between}
use Rattle.seen_true.specs.Soundly.{NextBeginsSoundly}
use Rattle.seen_builds.specs.From.{telling_in, told_first, told_nothing}
use Rattle.seen_builds.specs.Runs.{Conventions, HasLateNumber, OthersCountSoundly, Run, entry_in}
use Rattle.seen_builds.proofs.Beginning.{always_begins}

-- ---- what is told then

-- nothing has happened since
pub entry_history : (run : Run) → (entry_in run).history ≡ told_first run.counts run.entry
entry_history run =
    let first = run.entry.history in
    let before = told_first run.counts run.entry in
    ap (λ (ms : List Moment). before ++ retell (telling_in run.counts) none_started (file_at first) ms) (drop-length first) ∙ append-nil before

-- each file is told as it counts
pub entry_files : (run : Run) (p : List ℕ) → file_at (entry_in run).history p ≡ told_file (telling_in run.counts).counts None p (file_at run.entry.history p)
entry_files run p =
    ap (λ (h : List Moment). file_at h p) (entry_history run)
    ∙ always_begins (telling_in run.counts) (told_nothing run.counts run.entry) run.entry.history p

-- ---- the least stamp that may be given then

next_grows : (n : ℕ) (ms : List Moment) → n ≤ next_from n ms
next_grows n [] = omega arith
next_grows n (Wrote by path content stamp ∷ ms) = omega (arith, le-max_left n stamp, next_grows (max n stamp) ms)
next_grows n (Happened (Start job act stamp) ∷ ms) = omega (arith, le-max_left n (suc stamp), next_grows (max n (suc stamp)) ms)
next_grows n (Happened (Finish job ok) ∷ ms) = next_grows n ms

behind : (stamp number : ℕ) (ms : List Moment) → number ≤ stamp → number ≤ next_from (max 0 stamp) ms
behind stamp number ms low = omega (arith, low, le-max_right 0 stamp, next_grows (max 0 stamp) ms)

-- it is no earlier than the number of the build
number_is_told : (run : Run) → run.counts.number ≤ next_stamp (entry_in run).history
number_is_told run =
    let real = run.entry.history in
    let nothing = told_nothing run.counts run.entry in
    subst (λ (h : List Moment). run.counts.number ≤ next_stamp h) (sym (entry_history run))
    (behind (max run.counts.number (next_stamp real)) run.counts.number (edits (telling_in run.counts) nothing real (paths_between nothing real))
    (le-max_left run.counts.number (next_stamp real)))

-- ---- faithful records

module _ (B : Behaviour) (format : LogFormat) (own : OwnFiles) (edges : List Edge) (one other : World) (same : (p : List ℕ) → file_at other.history p ≡ file_at one.history p)
    (events : other.events ≡ one.events) where
  same_view : view_of other.history ≡ view_of one.history
  same_view = λ i p. content_of (same p i)

  same_store : store_in format own (view_of other.history) ≡ store_in format own (view_of one.history)
  same_store = ap (λ (v : View). store_in format own v) same_view

  -- where the same files stand there, and each start is before what may be given next, records that were faithful are so
  faithful_same : ((o : List ℕ) (made : Made) → in_force (store_in format own (view_of other.history)).records o ≡ Some made → made.start < next_stamp other.history)
      → ((o : List ℕ) (deps : Told) → deps_in_force (store_in format own (view_of other.history)).deps o ≡ Some deps → deps.start < next_stamp other.history)
      → IsFaithfulStore B format own edges one → IsFaithfulStore B format own edges other
  faithful_same clock deps_clock faithful = record {
    build_log = subst (λ (v : View). IsReadable format.records (v own.build_log)) (sym same_view) faithful.build_log;
    deps_log = subst (λ (v : View). IsReadable format.deps (v own.deps_log)) (sym same_view) faithful.deps_log;
    records = λ o made is.
        let was = faithful.records o made (subst (λ (s : Store). in_force s.records o ≡ Some made) same_store is) in (
          record {
            seen = was.0.seen;
            well = was.0.well;
            holds = λ content held. was.0.holds content (subst (λ (v : View). v o ≡ Some content) same_view held);
            reports = λ deps told. was.0.reports deps (subst (λ (s : Store). deps_in_force s.deps o ≡ Some deps) same_store told);
            older = λ p file stands. was.0.older p file (sym (same p) ∙ stands);
            clock = clock o made is;
          },
          was.1,
        );
    deps = deps_clock;
    running = λ job o is_running makes.
        subst (λ (s : Store). in_force s.records o ≡ None) (sym same_store) (faithful.running job o (subst (λ (es : List Event). runs job es ≡ true) events is_running) makes);
  }

-- the records that it finds are faithful, where those of before were, and what others did since counts soundly
pub entry_faithful : NextBeginsSoundly → (here : Conventions) (edges others : List Edge) (last : World) (told : List Moment) (run : Run) → last.history ≡ told → IsIdle run.entry.events
    → OthersCountSoundly here told run → HasLateNumber here run → IsFaithfulStore here.does here.format here.own edges last
    → IsFaithfulStore here.does here.format here.own others (entry_in run)
entry_faithful law here edges others last told run was idle sound late faithful =
    let t = telling_in run.counts in
    let next : List Moment = told_next t told run.entry.history (paths_between told run.entry.history) in
    let all = law here.does here.format here.own edges others t last run.entry told (paths_between told run.entry.history) was idle sound faithful in
    faithful_same here.does here.format here.own others (retold t run.entry.history next [] run.entry) (entry_in run)
    (λ p. entry_files run p ∙ sym (ap (λ (h : List Moment). file_at h p) (append-nil next) ∙ all.0 p)) refl
    (λ o made is. let low = late.records o made is in omega (arith, low, number_is_told run))
    (λ o deps is. let low = late.deps o deps is in omega (arith, low, number_is_told run))
    all.2
