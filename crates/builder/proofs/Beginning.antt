-- The beginning of a run: from what was read before it.
use Rattle.std.proofs.Common.{◌≡◌, ℕ, suc, Bool, true, false, IsTrue, List, [], ◌∷◌, ◌++◌, Option, Some, None, map, length, vec_len, arith, refl, sym, ◌∙◌, ap, subst, replicate}
use Rattle.std.proofs.lemmas.Bool.{false≢true}
use Rattle.std.proofs.lemmas.List.{append-nil}
use Rattle.model.specs.declared.event.Moment.{Moment}
use Rattle.model.specs.declared.graph.Edge.{Edge}
use Rattle.model.specs.World.{World, file_at, stamp_of, view_of, IsIdle}
use Rattle.model.specs.Calls.{OnlyLooks}
use Rattle.model.specs.Graph.{maker, IsMadeOnce}
use Rattle.model.specs.Judgement.{is_same_number}
use Rattle.model.specs.Outcome.{Behaviour}
use Rattle.model.specs.OutOfDate.{is_made_anew}
use Rattle.model.specs.Phases.{Phase, steps_of}
use Rattle.model.specs.Premises.{FilesAreKept}
use Rattle.model.specs.Records.{Store, OwnFiles, LogFormat, store_in, file_in, tick_name, IsOwnIn}
use Rattle.model.specs.Schedule.{Step as Done}
use Rattle.model.specs.SingleBuild.{Asked, NamesOther, task_of}
use Rattle.theory.specs.Seen.{Looked}
use Rattle.theory.proofs.Looks.{logs_left, looks_nothing}
use Rattle.depfile.specs.Depfile.{IsReading}
use Rattle.theory.specs.Ledger.{IsCarried}
use Rattle.theory.proofs.Ledger.{carried_entry, carried_found, carried_looks}
use Rattle.manifest.specs.Answer.{IsGraph}
use Rattle.paths.specs.Told.{text_at}
use Rattle.graph.specs.declared.cone.Cone.{Cone}
use Rattle.graph.specs.declared.graph.Graph.{Graph}
use Rattle.graph.specs.Told.{declared_by}
use Rattle.judge.specs.Stores.{IsConeIn}
use Rattle.judge.specs.declared.looks.Looks.{Looks}
use Rattle.judge.specs.declared.looks.Look.TheVariants.{Unasked}
use Rattle.records.specs.declared.records.Records.{Records}
use Rattle.records.specs.Known.{AreKnown}
use Rattle.records.specs.Logging.{IsLogging}
use Rattle.plan.specs.Flags.{has as has_flag}
use Rattle.plan.specs.declared.plan.Plan.{Plan}
use Rattle.plan.specs.Planned.{IsPlanned}
use Rattle.work.specs.declared.state.Work.{Work}
use Rattle.work.specs.Course.{Course, IsOwnTick, HasCone, Suits, IsOn}
use Rattle.builder.specs.declared.asked.Asked.{Asked as Request}
use Rattle.builder.specs.Build.{asked_of}
use Rattle.work.specs.Standing.{BeginsAt, grown_course}
use Rattle.work.specs.Loads.{ReadsDyndeps}
use Rattle.work.specs.Recorded.{IsRecordedBy}
use Rattle.builder.specs.Reports.{HasRead, IsConeRecorded, IsPlanFor, course_of}
use Rattle.builder.proofs.Looking.{IsFoundAt, left_before}
use Rattle.builder.proofs.Builds.{any_own, own_in, none_kept, looked_nothing, idle_after}
use Rattle.builder.proofs.Entry.{AreUnasked, none_asked, all_there}
use Rattle.builder.proofs.Folders.{logs_apart, tick_is_no_build_log, tick_is_no_deps_log}
use Rattle.builder.proofs.Formed.{have_outputs}

-- A run of what was asked for may begin now: no command ran at the entry, since which there was only looked; where files are kept, the
-- records that were read are those of the entry.
pub record MayBegin (tells : Bool) (graph : Graph) (request : Request) (records : Records) (B : Behaviour) (format : LogFormat) (own : OwnFiles) (store : Store) (entry now : World) : Type 0 where
  pub owned : IsOwnIn own request.folder
  pub reads : IsReading B.depfile
  pub dyndeps : ReadsDyndeps B.dyndep
  pub found : IsTrue tells → FilesAreKept own (declared_by graph).edges entry.history now.history → store ≡ store_in format own (view_of entry.history)
  pub idle : IsIdle entry.events
  pub looked : Looked tells entry now
  pub in_use : IsRecordedBy graph store
  pub logging : IsLogging tells B format own (declared_by graph).edges [] None store entry now records.logs
  pub known : AreKnown graph store.records store.deps records

-- ---- by what was read

module _ (tells : Bool) (graph : Graph) (request : Request) (records : Records) (course : Course) (now : World) (has : HasRead tells graph request records course now) where
  -- what was found is so wherever the build ends
  pub found_later : (exit : World) → (IsTrue tells → (more : List Moment) × (exit.history ≡ now.history ++ more)) → IsFoundAt tells course.format course.own course.store course.entry exit
  found_later exit grows tell left = let more = grows tell in has.found tell (left_before course.own course.entry.history now.history exit.history more.0 more.1 left)

  logging : (later : World) → OnlyLooks tells now later → IsLogging tells course.behaviour course.format course.own (declared_by graph).edges [] None course.store course.entry later records.logs
  logging later looks =
      subst (λ (a : Asked). IsLogging tells course.behaviour course.format course.own a.graph.edges [] None course.store course.entry later records.logs) has.asked (has.logging later looks)

  known : AreKnown graph course.store.records course.store.deps records
  known = subst (λ (s : Store). AreKnown graph s.records s.deps records) (sym {A = Store} has.store) has.told

  pub may_begin : MayBegin tells graph request records course.behaviour course.format course.own course.store course.entry now
  may_begin = record {
    owned = has.owned;
    reads = has.reads;
    dyndeps = has.dyndeps;
    found = λ tell kept. has.found tell (logs_left course.own (declared_by graph).edges course.entry.history now.history kept);
    idle = has.idle;
    looked = has.looked;
    in_use = has.in_use;
    logging = logging now (looks_nothing tells now);
    known = known;
  }

  nothing_kept : {So : Type 0} → FilesAreKept (any_own request.folder) (declared_by graph).edges now.history now.history → So
  nothing_kept kept = absurd (none_kept request.folder (declared_by graph).edges now.history now.history kept)

  -- It may begin anew from here, with such files of its own that nothing is kept.
  pub may_begin_here : MayBegin tells graph request records course.behaviour course.format (any_own request.folder) course.store now now
  may_begin_here =
      let told = logging now (looks_nothing tells now) in
      let idle = idle_after tells course.entry now has.looked.looks has.idle in
      record {
        owned = own_in request.folder;
        reads = has.reads;
        dyndeps = has.dyndeps;
        found = λ tell kept. nothing_kept kept;
        idle = idle;
        looked = looked_nothing tells now has.looked.unrefused.goes_on;
        in_use = has.in_use;
        logging = record {
          build_log = told.build_log ∙ has.owned.build_log;
          deps_log = told.deps_log ∙ has.owned.deps_log;
          apart = logs_apart request.folder;
          reads = told.reads;
          commands = λ job is. absurd (false≢true (sym (idle job) ∙ is));
          grows = λ tell. ([], sym (append-nil now.history));
          build_held = λ tell kept. nothing_kept kept;
          deps_held = λ tell kept. nothing_kept kept;
          logged = λ tell kept. nothing_kept kept;
        };
        known = known;
      }

-- ---- the first phase begins

-- before any command ended nothing is made anew
none_anew : (edges : List Edge) (same : Bool) (m : Option ℕ) → is_made_anew edges [] same m ≡ false
none_anew edges same None = refl
none_anew edges same (Some j) = refl

-- no steps have no last phase
last_of_none : (earlier : List Phase) (last taken_in : List Done) → [] ≡ steps_of earlier ++ (last ++ taken_in) → last ≡ []
last_of_none earlier last taken_in is = first_none last taken_in (rest_none (steps_of earlier) (last ++ taken_in) is)
  where
    rest_none : (xs ys : List Done) → [] ≡ xs ++ ys → [] ≡ ys
    rest_none [] ys is = is
    rest_none (x ∷ xs) ys is = absurd (cc)

    first_none : (xs ys : List Done) → [] ≡ xs ++ ys → xs ≡ []
    first_none [] ys is = refl
    first_none (x ∷ xs) ys is = absurd (cc)

module _ (tells : Bool) (graph : Graph) (request : Request) (records : Records) (B : Behaviour) (format : LogFormat) (own : OwnFiles) (store : Store) (entry now : World) (may : MayBegin tells graph request records B format own store entry now)
    (formed : IsGraph (declared_by graph)) (once : IsMadeOnce (declared_by graph).edges) (others : (file : List ℕ) → NamesOther (declared_by graph).edges file → ⊥) where
  -- what was asked for
  abbrev asked : Asked
  asked = asked_of (declared_by graph) request.folder request.limits request.targets

  abbrev pub course : Course
  course = course_of B format own asked store entry

  -- over the edges that the build files have
  abbrev first : Course
  first = grown_course course (declared_by graph).edges []

  carried : IsCarried tells B format own asked store [] true [] None entry now
  carried =
      let told = store_in format own (view_of entry.history) in
      carried_found tells B format own asked told entry refl others store None now may.found
      (carried_looks tells B format own asked told entry [] true [] None entry now may.looked.looks
      (carried_entry tells B format own asked told entry refl others refl may.idle))

  suits : Suits first graph
  suits = record {
    same = refl;
    recorded = may.in_use;
    once = once;
    some = have_outputs (declared_by graph) formed;
    depfiles = may.reads;
    log_owned = ap own.files may.owned.build_log ∙ may.owned.is_log;
    deps_owned = ap own.files may.owned.deps_log ∙ may.owned.is_deps;
    idle = may.idle;
  }

  own_tick : (tick : List ℕ) → tick ≡ file_in request.folder tick_name → IsOwnTick own tick
  own_tick tick is = record {
    owned = ap own.files is ∙ may.owned.tick;
    no_build_log = λ other. tick_is_no_build_log request.folder (sym is ∙ (other ∙ may.owned.build_log));
    no_deps_log = λ other. tick_is_no_deps_log request.folder (sym is ∙ (other ∙ may.owned.deps_log));
  }

  module _ (cone : Cone) (listed : IsConeIn graph store request.targets cone) (plan : Plan) (flags : (p : ℕ) → has_flag plan.changed.items p ≡ false) (planned : IsPlanned (task_of asked store) graph plan [])
      (looks : Looks) (unseen : looks.seen.items ≡ replicate (length graph.manifest.paths) Unasked)
      (state : Work) (plan_is : state.plan ≡ plan) (looks_are : state.looks ≡ looks) (records_are : state.records ≡ records) (none : state.failed.items ≡ []) (starts : vec_len state.starts ≡ length graph.manifest.lines)
      (ticks : state.tick ≡ file_in request.folder tick_name) (cone_is : state.cone ≡ cone) where
    unasked : AreUnasked state.looks
    unasked = none_asked (length graph.manifest.paths) state.looks (ap (λ (l : Looks). l.seen.items) looks_are ∙ unseen)

    abbrev on : IsOn tells first graph None state now
    on = record {
      steps = [];
      planned = subst (λ (p : Plan). IsPlanned (task_of asked store) graph p []) (sym {A = Plan} plan_is) planned;
      taken = record { orderly = tt; within = λ i judged. absurd (false≢true judged) };
      since = tt;
      carried = carried;
      logging = subst (λ (r : Records). IsLogging tells B format own (declared_by graph).edges [] None store entry now r.logs) (sym {A = Records} records_are) may.logging;
      told = record {
        records = store.records;
        deps = store.deps;
        known = subst (λ (r : Records). AreKnown graph store.records store.deps r) (sym {A = Records} records_are) may.known;
        same = (refl, refl);
      };
      seen = λ tell kept p asked quiet. absurd (false≢true (sym (unasked p) ∙ asked));
      anew = λ tell kept p lt fine.
          let text = text_at graph.manifest.paths p in
          ap (λ (l : Plan). has_flag l.changed.items p) plan_is
          ∙ (flags p ∙ sym (none_anew (declared_by graph).edges (is_same_number (stamp_of (file_at entry.history text)) (stamp_of (file_at now.history text))) (maker (declared_by graph).edges text)));
      before = λ tell kept e stale. absurd (false≢true stale);
      started = λ e runs. absurd (false≢true runs);
      removed = record { responses = λ i well. absurd (false≢true well); depfiles = λ i well. absurd (false≢true well); stay = λ i well. absurd (false≢true well) };
      room = record { looks = ap (λ (l : Looks). length l.seen.items) looks_are ∙ all_there (length graph.manifest.paths) looks unseen; starts = omega (arith, starts, state.starts.ok.0) };
      cone = subst (λ (k : Cone). HasCone first.asked first.store graph k) (sym {A = Cone} cone_is) (record { listed = listed.listed; within = listed.within; numbers = listed.numbers });
      ticking = own_tick state.tick ticks;
      noted = ap (map suc) none;
    }

    pub begins : BeginsAt tells course (declared_by graph).edges [] graph state now
    begins = record {
      stands = record {
        goes = refl;
        dyndeps = may.dyndeps;
        others = others;
        suits = suits;
        on = on;
        acyclic = listed.acyclic;
        unstarted = λ none. record { looks = may.looked.looks; seen = λ tell free edits p asked bound. absurd (false≢true (sym (unasked p) ∙ asked)) };
      };
      fresh = last_of_none carried.phased.build.earlier carried.phased.build.last carried.phased.build.taken_in carried.phased.build.whole;
      asked = λ tell kept nothing. tt;
    }

-- so it begins on the course by which was read, and anew from here
module _ (tells : Bool) (graph : Graph) (request : Request) (records : Records) (course : Course) (now : World) (has : HasRead tells graph request records course now)
    (formed : IsGraph (declared_by graph)) (once : IsMadeOnce (declared_by graph).edges) (others : (file : List ℕ) → NamesOther (declared_by graph).edges file → ⊥)
    (cone : Cone) (coned : IsConeRecorded graph request.targets cone) (plan : Plan) (first : IsPlanFor graph cone request.limits plan) (looks : Looks) (unseen : looks.seen.items ≡ replicate (length graph.manifest.paths) Unasked)
    (state : Work) (plan_is : state.plan ≡ plan) (looks_are : state.looks ≡ looks) (records_are : state.records ≡ records) (none : state.failed.items ≡ []) (starts : vec_len state.starts ≡ length graph.manifest.lines)
    (ticks : state.tick ≡ file_in request.folder tick_name) (cone_is : state.cone ≡ cone) where
  abbrev pub this : Course
  this = course_of course.behaviour course.format course.own (asked_of (declared_by graph) request.folder request.limits request.targets) course.store course.entry

  abbrev pub here : Course
  here = course_of course.behaviour course.format (any_own request.folder) (asked_of (declared_by graph) request.folder request.limits request.targets) course.store now

  of_course : (own : OwnFiles) (entry : World) → MayBegin tells graph request records course.behaviour course.format own course.store entry now
      → BeginsAt tells (course_of course.behaviour course.format own (asked_of (declared_by graph) request.folder request.limits request.targets) course.store entry) (declared_by graph).edges [] graph state now
  of_course own entry may =
      let listed = coned course.store has.in_use in
      begins tells graph request records course.behaviour course.format own course.store entry now may formed once others cone listed plan first.flags (first.planned request.folder request.targets course.store has.in_use listed)
      looks unseen state plan_is looks_are records_are none starts ticks cone_is

  pub begins_this : BeginsAt tells this (declared_by graph).edges [] graph state now
  begins_this = of_course course.own course.entry (may_begin tells graph request records course now has)

  pub begins_here : BeginsAt tells here (declared_by graph).edges [] graph state now
  begins_here = of_course (any_own request.folder) now (may_begin_here tells graph request records course now has)
