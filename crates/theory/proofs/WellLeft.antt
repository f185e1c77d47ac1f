-- What a success leaves to do: of an edge whose command ended well nothing but the named exceptions.
use Rattle.std.proofs.Common.{◌≡◌, ◌≢◌, ◌⊎◌, inl, inr, ℕ, suc, ◌<◌, ◌≤◌, max, ◌==◌, ◌&&◌, ◌||◌, not, cond, Bool, true, false, IsTrue, List, [], ◌∷◌, ◌++◌, map, Option, Some, None, is_some, bytes_eq, refl, sym, ◌∙◌, ap, subst, arith, append_assoc}
use Rattle.std.specs.Prelude.{is_none, find, nat_lt}
use Rattle.std.specs.List.{list_any, list_all, AllByRecursion}
use Rattle.std.proofs.Math.Nat.{le-max_right}
use Rattle.std.proofs.lemmas.Bool.{false≢true, true≢false, cases_Bool, or_cases, or_left, or_right, and_parts, eqb-true, eq-eqb, ltb-true, not-true}
use Rattle.model.specs.declared.act.Act.{Act}
use Rattle.model.specs.declared.event.Event.TheVariants.{Start, Finish}
use Rattle.model.specs.declared.event.Moment.{Moment}
use Rattle.model.specs.declared.event.Moment.TheVariants.{Wrote, Happened}
use Rattle.model.specs.declared.event.Writer.{Writer}
use Rattle.model.specs.declared.event.Writer.TheVariants.{Command}
use Rattle.model.specs.declared.graph.Deps.{Deps}
use Rattle.model.specs.declared.graph.Deps.TheVariants.{Unset, Gcc}
use Rattle.model.specs.declared.graph.Edge.{Edge}
use Rattle.model.specs.declared.reason.Reason.{Reason}
use Rattle.model.specs.declared.reason.Reason.TheVariants.{OutputAbsent, NoRecord, OtherAct, InputAbsent, InputChanged, InputLater, OutputOlder, DepsUnknown}
use Rattle.model.specs.declared.record.DepsRecord.{DepsRecord}
use Rattle.model.specs.World.{World, File, written, file_at, file_from, stamp_of, view_of, next_stamp, IsIdle}
use Rattle.model.specs.Graph.{has, has_number, edge_at, maker, outputs, inputs, IsMadeOnce, IsCommand}
use Rattle.model.specs.Outcome.{Behaviour, depfile_in, listed}
use Rattle.model.specs.Reading.{IsRead}
use Rattle.model.specs.Records.{Told, Store, OwnFiles, Made, in_force, deps_in_force, is_same_act, is_known, paths_in, all_paths_in, recorded_of, recorded_inputs, ListsOnce}
use Rattle.model.specs.Judgement.{OutputFacts, InputFacts, Facts, is_later, start_of, has_other_act, is_same_number, is_empty_text, is_unset, holds, all_reasons, reason_of}
use Rattle.model.specs.OutOfDate.{deps_start, output_facts, input_facts, facts_of, ListsCounted, IsVerdict}
use Rattle.model.specs.Schedule.{Step, judged_in, started_in, well_in, done_in, IsSettled}
use Rattle.model.specs.Premises.{FilesAreKept, RecordedApart, StampsGrow, Increases, EndedAt, IsFromAbove, IsReported, Matters, ReportsComeFromAbove, StartsAreTicked}
use Rattle.model.specs.SingleBuild.{Asked, task_of}
use Rattle.model.specs.Kept.{StartedUnder, IsRecorded, IsWritten, IsExcepted}
use Rattle.theory.specs.Run.{IsRunOrRest, IsToldBy}
use Rattle.theory.proofs.Lists.{same_rest, all_has, bytes_same, has-left, has-right, has-cases, same_some}
use Rattle.theory.proofs.Makers.{one_maker}
use Rattle.theory.proofs.Files.{IsElsewhere, file_from-append, outputs_kept}
use Rattle.theory.proofs.Orderly.{IsKept, kept_orderly}
use Rattle.theory.specs.Order.{AreReadFirst}
use Rattle.theory.proofs.Nothing.{ReadsAre, reads_where_settled}
use Rattle.theory.proofs.Exit.{unwritten_until}
use Rattle.theory.specs.Logged.{KeepsBoth, HasNone, HasNew, HasNewDeps, IsLogged}
use Rattle.theory.proofs.Starts.{TickedAfter, was_stamped, ticked_after}
use Rattle.theory.proofs.Stamps.{stamp_lies}
use Rattle.theory.proofs.Explained.{some_or_none, recorded_is}
use Rattle.theory.proofs.Carried.{read_apart}
use Rattle.theory.proofs.Left.{anew_none}
use Rattle.theory.proofs.Ticked.{file_within, written_from, settled_early, reads_early}

-- ---- tests that hold

record IsFound (P : List ℕ → Type 0) (xs : List (List ℕ)) : Type 0 where
  path : List ℕ
  among : has xs path ≡ true
  is : P path

any_some : {Y : Type 0} (test : Y → Bool) (f : List ℕ → Y) (xs : List (List ℕ)) → list_any test (map f xs) ≡ true → IsFound (λ x. test (f x) ≡ true) xs
any_some test f [] is = absurd (false≢true is)
any_some test f (x ∷ xs) is = elim (or_cases (test (f x)) (list_any test (map f xs)) is) [
  | inl here ↦ record { path = x; among = or_left (bytes_eq x x) (has xs x) (bytes_same x); is = here }
  | inr there ↦ let rest = any_some test f xs there in record { path = rest.path; among = or_right (bytes_eq x rest.path) (has xs rest.path) rest.among; is = rest.is }
]

record IsReason (test : Reason → Bool) : Type 0 where
  reason : Reason
  is : test reason ≡ true

some_holds : (test : Reason → Bool) (rs : List Reason) → is_some (find test rs) ≡ true → IsReason test
some_holds test [] is = absurd (false≢true is)
some_holds test (r ∷ rs) is = elim (cases_Bool (test r)) [
  | inl here ↦ record { reason = r; is = here }
  | inr there ↦ some_holds test rs (ap (λ (b : Bool). is_some (cond b (Some r) (find test rs))) (sym there) ∙ is)
]

absent : (f : Option File) → is_none (stamp_of f) ≡ true → f ≡ None
absent None is = refl
absent (Some file) is = absurd (false≢true is)

is_there : {X : Type 0} (m : Option X) (x : X) → m ≡ Some x → is_none m ≡ true → ⊥
is_there None x is none = cc
is_there (Some y) x is none = false≢true none

four_same : (act : Act) → is_same_act act act ≡ true
four_same act = rw (bytes_same act.command, bytes_same act.depfile, bytes_same act.response_path, bytes_same act.response_content) refl

no_other : (act : Act) (held : Option Made) (start : ℕ) → held ≡ Some (record { act = act; start = start }) → has_other_act act held ≡ true → ⊥
no_other act None start is other = cc
no_other act (Some m) start is other =
    let same : m ≡ record { act = act; start = start } = cc in
    true≢false (sym (four_same act) ∙ (ap (λ (x : Made). is_same_act x.act act) (sym same) ∙ not-true (is_same_act m.act act) other))

later_is : (f : Option File) (than : ℕ) → is_later (stamp_of f) (Some than) ≡ true → (file : File) × (f ≡ Some file) × (than < file.stamp)
later_is None than is = absurd (false≢true is)
later_is (Some file) than is = elim (cases_Bool (nat_lt than file.stamp)) [
  | inl lt ↦ (file, refl, omega (arith, below than file.stamp lt))
  | inr other ↦ absurd (false≢true (sym other ∙ is))
]
  where
    below : (a b : ℕ) → nat_lt a b ≡ true → a < b
    below a b lt = ltb-true a b lt

record IsLaterThan (f g : Option File) : Type 0 where
  first : File
  first_is : f ≡ Some first
  second : File
  second_is : g ≡ Some second
  lower : second.stamp < first.stamp

later_than : (f g : Option File) → is_later (stamp_of f) (stamp_of g) ≡ true → IsLaterThan f g
later_than None g is = absurd (false≢true is)
later_than (Some x) None is = absurd (false≢true is)
later_than (Some x) (Some y) is = record { first = x; first_is = refl; second = y; second_is = refl; lower = ltb-true y.stamp x.stamp is }

not_empty : (t : List ℕ) → not (is_empty_text t) ≡ true → t ≢ []
not_empty [] is = absurd (false≢true is)
not_empty (c ∷ cs) is = λ none. cc

unset : (deps : Deps) → is_unset deps ≡ true → deps ≡ Unset
unset Unset is = refl
unset Gcc is = absurd (false≢true is)

not_there : (f : Option File) → not (is_some f) ≡ true → f ≡ None
not_there None is = refl
not_there (Some file) is = absurd (false≢true is)

of_one_start : (held : Option Made) (found : Option Told) (made : Made) (deps : Told) → held ≡ Some made → found ≡ Some deps → deps.start ≡ made.start → not (is_same_number (start_of held) (deps_start found)) ≡ true → ⊥
of_one_start None found made deps a b same other = cc
of_one_start (Some m) None made deps a b same other = cc
of_one_start (Some m) (Some d) made deps a b same other =
    let one : made ≡ m = cc in
    let two : deps ≡ d = cc in
    let starts : m.start ≡ d.start = sym (ap (λ (x : Made). x.start) one) ∙ (sym same ∙ ap (λ (x : Told). x.start) two) in
    false≢true (sym (ap not (eq-eqb m.start d.start starts)) ∙ other)

-- ---- recorded inputs in use

in_recorded : (store : Store) (e : Edge) (p : List ℕ) → has (recorded_of store e) p ≡ true
    → (list_all (λ o. is_known e.act (in_force store.records o) (deps_in_force store.deps o)) (outputs e) ≡ true) × (has (all_paths_in store.deps (outputs e)) p ≡ true)
in_recorded store e p h = by_test (list_all (λ o. is_known e.act (in_force store.records o) (deps_in_force store.deps o)) (outputs e)) h
  where
    by_test : (t : Bool) → has (cond t (all_paths_in store.deps (outputs e)) []) p ≡ true → (t ≡ true) × (has (all_paths_in store.deps (outputs e)) p ≡ true)
    by_test true h = (refl, h)
    by_test false h = absurd (false≢true h)

in_paths : (deps : List DepsRecord) (outs : List (List ℕ)) (p : List ℕ) → has (all_paths_in deps outs) p ≡ true → IsFound (λ o. has (paths_in (deps_in_force deps o)) p ≡ true) outs
in_paths deps [] p h = absurd (false≢true h)
in_paths deps (o ∷ outs) p h = elim (has-cases (paths_in (deps_in_force deps o)) (all_paths_in deps outs) p h) [
  | inl here ↦ record { path = o; among = or_left (bytes_eq o o) (has outs o) (bytes_same o); is = here }
  | inr there ↦ let rest = in_paths deps outs p there in record { path = rest.path; among = or_right (bytes_eq o rest.path) (has outs rest.path) rest.among; is = rest.is }
]

all_true : (test : List ℕ → Bool) (ps : List (List ℕ)) → list_all test ps ≡ true → AllByRecursion (λ o. test o ≡ true) ps
all_true test [] is = tt
all_true test (p ∷ ps) is = let both = and_parts (test p) (list_all test ps) is in (both.0, all_true test ps both.1)

of_known : (act : Act) (held : Option Made) (found : Option Told) (start : ℕ) (p : List ℕ) → held ≡ Some (record { act = act; start = start }) → is_known act held found ≡ true → has (paths_in found) p ≡ true
    → (deps : Told) × (found ≡ Some deps) × (deps.start ≡ start) × (has deps.paths p ≡ true)
of_known act None found start p is known among = cc
of_known act (Some m) None start p is known among = absurd (false≢true among)
of_known act (Some m) (Some deps) start p is known among =
    let same : m ≡ record { act = act; start = start } = cc in
    (deps, refl, eqb-true deps.start m.start (and_parts (is_same_act m.act act) (deps.start == m.start) known).1 ∙ ap (λ (x : Made). x.start) same, among)

-- ---- what a command writes is later than its start

-- what is written behind a start, and was not before, is stamped later than the start
written_behind : (n : ℕ) (first after : List Moment) (i : ℕ) (act : Act) (begun : ℕ) (before later : List Moment) (by : Writer) (o : List ℕ) (content : Option (List ℕ)) (stamp : ℕ) (held : Option File)
    → AllByRecursion (IsElsewhere o) first → first ++ Happened (Start i act begun) ∷ after ≡ before ++ Wrote by o content stamp ∷ later → Increases n (first ++ Happened (Start i act begun) ∷ after)
    → (file : File) → file_from o held (first ++ Happened (Start i act begun) ∷ after) ≡ Some file → begun < file.stamp
written_behind n [] after i act begun [] later by o content stamp held none same grows file is = cc
written_behind n [] after i act begun (w ∷ before) later by o content stamp held none same grows file is =
    let rest : after ≡ before ++ Wrote by o content stamp ∷ later = cc in
    let from = written_from (max n (suc begun)) before later by o content stamp held (subst (λ (l : List Moment). Increases (max n (suc begun)) l) rest grows) file
    (ap (λ (l : List Moment). file_from o held l) (sym rest) ∙ is) in
    omega (arith, from, le-max_right n (suc begun))
written_behind n (x ∷ first) after i act begun [] later by o content stamp held none same grows file is =
    let head : x ≡ Wrote by o content stamp = cc in
    absurd (false≢true (sym (subst (λ (m : Moment). IsElsewhere o m) head none.0) ∙ bytes_same o))
written_behind n (Wrote b p c s ∷ first) after i act begun (w ∷ before) later by o content stamp held none same grows file is =
    let rest : first ++ Happened (Start i act begun) ∷ after ≡ before ++ Wrote by o content stamp ∷ later = cc in
    written_behind s first after i act begun before later by o content stamp (cond (bytes_eq p o) (written c s) held) none.1 rest grows.1 file is
written_behind n (Happened (Start j a s) ∷ first) after i act begun (w ∷ before) later by o content stamp held none same grows file is =
    let rest : first ++ Happened (Start i act begun) ∷ after ≡ before ++ Wrote by o content stamp ∷ later = cc in
    written_behind (max n (suc s)) first after i act begun before later by o content stamp held none.1 rest grows file is
written_behind n (Happened (Finish j ok) ∷ first) after i act begun (w ∷ before) later by o content stamp held none same grows file is =
    let rest : first ++ Happened (Start i act begun) ∷ after ≡ before ++ Wrote by o content stamp ∷ later = cc in
    written_behind n first after i act begun before later by o content stamp held none.1 rest grows file is

module _ (tells : Bool) (B : Behaviour) (own : OwnFiles) (asked : Asked) (entry exit : Store) (steps : List Step) (old now : World)
    (tell : IsTrue tells) (idle : IsIdle old.events) (rest : IsRunOrRest tells own (task_of asked entry) steps old now) (once : IsMadeOnce asked.graph.edges)
    (files : FilesAreKept own asked.graph.edges old.history now.history) (logged : IsLogged B asked.graph.edges steps None entry exit old now) (ticks : StartsAreTicked old.history now.history)
    (early_deps : (o : List ℕ) (deps : Told) → deps_in_force entry.deps o ≡ Some deps → deps.start < next_stamp old.history)
    (apart : RecordedApart own (recorded_inputs entry asked.graph.edges)) (stamps : StampsGrow old.history now.history)
    (above : ReportsComeFromAbove B own asked.graph.edges (recorded_inputs entry asked.graph.edges) steps old.history now.history)
    (loaded : (j : ℕ) → has_number (judged_in steps) j ≡ true → (edge_at asked.graph.edges j).dyndep ≡ None)
    (first_read : AreReadFirst asked.graph.edges (Matters B asked.graph.edges (recorded_inputs entry asked.graph.edges) steps old.history now.history) steps)
    (i : ℕ) (command : IsCommand asked.graph.edges i) (well : has_number (well_in steps) i ≡ true)
    (unread : (p : List ℕ) → Matters B asked.graph.edges (recorded_inputs entry asked.graph.edges) steps old.history now.history i p → files.free p ≡ false)
    (inputs_settled : (q : List ℕ) (j : ℕ) → has (inputs (edge_at asked.graph.edges i)) q ≡ true → maker asked.graph.edges q ≡ Some j → IsSettled asked.graph.edges (done_in steps) j) where
  all : IsKept asked.graph.edges steps
  all = kept_orderly asked.graph.edges steps rest.orderly

  started_i : has_number (started_in steps) i ≡ true
  started_i = all.ended i (all.well i well)

  ticked : (k stamp : ℕ) → StartedUnder k stamp old now → TickedAfter tells own (task_of asked entry) steps k stamp old now
  ticked k stamp started = ticked_after tells own (task_of asked entry) steps old now rest tell idle ticks k stamp started

  -- what the logs tell of an output
  record HasOwn (o : List ℕ) : Type 0 where
    stamp : ℕ
    at : List Moment
    started : StartedUnder i stamp old now
    ended : EndedAt i old.history now.history at
    recorded : IsRecorded B asked.graph.edges exit i stamp at o

  own_record : (o : List ℕ) → has (outputs (edge_at asked.graph.edges i)) o ≡ true → HasOwn o
  own_record o makes = by_case (logged.records o)
    where
      none_some : None ≡ Some i → ⊥
      none_some is = cc

      by_case : KeepsBoth asked.graph.edges steps entry exit o ⊎ HasNone asked.graph.edges steps None exit o ⊎ HasNew B asked.graph.edges steps exit old now o → HasOwn o
      by_case (inl keeps) = absurd (keeps.unstarted i started_i makes)
      by_case (inr (inl none)) = absurd (none_some (logged.whole i o well makes none.none))
      by_case (inr (inr new)) =
          let same : new.edge ≡ i = one_maker asked.graph.edges o new.edge i once new.makes makes in
          record {
            stamp = new.stamp;
            at = new.at;
            started = subst (λ (k : ℕ). StartedUnder k new.stamp old now) same new.started;
            ended = subst (λ (k : ℕ). EndedAt k old.history now.history new.at) same new.ended;
            recorded = subst (λ (k : ℕ). IsRecorded B asked.graph.edges exit k new.stamp new.at o) same new.recorded;
          }

  lies : (stamp : ℕ) → StartedUnder i stamp old now → (next_stamp old.history ≤ stamp) × (stamp < next_stamp now.history)
  lies stamp started = stamp_lies stamp old.history now.history (was_stamped tells own (task_of asked entry) steps old now rest tell ticks i stamp started) stamps

  -- ---- what is read is earlier

  read_early : (stamp : ℕ) → StartedUnder i stamp old now → (p : List ℕ) → IsRead asked.graph.edges (view_of now.history) i p → (file : File) → file_at now.history p ≡ Some file → file.stamp ≤ stamp
  read_early stamp started p read file is = by_tick (ticked i stamp started)
    where
      by_tick : TickedAfter tells own (task_of asked entry) steps i stamp old now → file.stamp ≤ stamp
      by_tick t =
          settled_early tells own asked entry steps old now tell idle once rest files stamps i stamp t p
          (read_apart asked.graph.edges (view_of now.history) (λ q. own.set q ≡ false) files.own_files.inputs i p read) (unread p (inl read))
          (λ j made is. reads_early tells own asked entry steps old now tell idle once rest files stamps i stamp t
          (Matters B asked.graph.edges (recorded_inputs entry asked.graph.edges) steps old.history now.history) first_read p j (inl read) made is) file is

  told_is_early : (stamp : ℕ) → StartedUnder i stamp old now → (p : List ℕ) → own.set p ≡ false → IsReported B asked.graph.edges steps old.history now.history i p → (file : File) → file_at now.history p ≡ Some file → file.stamp ≤ stamp
  told_is_early stamp started p outside reported file is = settled_early tells own asked entry steps old now tell idle once rest files stamps i stamp (ticked i stamp started) p outside (unread p (inr (inr reported)))
      (λ j made also. reads_early tells own asked entry steps old now tell idle once rest files stamps i stamp (ticked i stamp started)
      (Matters B asked.graph.edges (recorded_inputs entry asked.graph.edges) steps old.history now.history) first_read p j (inr (inr reported)) made also) file is

  recorded_early : (stamp : ℕ) → StartedUnder i stamp old now → (p : List ℕ) → has (recorded_inputs exit asked.graph.edges i) p ≡ true → (file : File) → file_at now.history p ≡ Some file → file.stamp ≤ stamp
  recorded_early stamp started p recorded file is = by_output (in_paths exit.deps (outputs (edge_at asked.graph.edges i)) p parts.1)
    where
      parts : (list_all (λ o. is_known (edge_at asked.graph.edges i).act (in_force exit.records o) (deps_in_force exit.deps o)) (outputs (edge_at asked.graph.edges i)) ≡ true) × (has (all_paths_in exit.deps (outputs (edge_at asked.graph.edges i))) p ≡ true)
      parts = in_recorded exit (edge_at asked.graph.edges i) p
          (sym (ap (λ (ps : List (List ℕ)). has ps p) (recorded_is exit asked.graph.edges i command (loaded i (all.out_of_date i (all.started i started_i))))) ∙ recorded)

      by_output : IsFound (λ o. has (paths_in (deps_in_force exit.deps o)) p ≡ true) (outputs (edge_at asked.graph.edges i)) → file.stamp ≤ stamp
      by_output out = by_deps (of_known (edge_at asked.graph.edges i).act (in_force exit.records out.path) (deps_in_force exit.deps out.path) mine.stamp p mine.recorded.done
          (all_has (λ o. is_known (edge_at asked.graph.edges i).act (in_force exit.records o) (deps_in_force exit.deps o) ≡ true) (outputs (edge_at asked.graph.edges i)) out.path
          (all_true (λ o. is_known (edge_at asked.graph.edges i).act (in_force exit.records o) (deps_in_force exit.deps o)) (outputs (edge_at asked.graph.edges i)) parts.0) out.among) out.is)
        where
          mine : HasOwn out.path
          mine = own_record out.path out.among

          by_deps : (deps : Told) × (deps_in_force exit.deps out.path ≡ Some deps) × (deps.start ≡ mine.stamp) × (has deps.paths p ≡ true) → file.stamp ≤ stamp
          by_deps (deps, there, start, among) = some_or_none (edge_at asked.graph.edges i).act.depfile (λ none. absurd (no_deps none (logged.deps out.path))) (λ some. by_list some (mine.recorded.deps some))
            where
              no_deps : (edge_at asked.graph.edges i).act.depfile ≡ [] → (deps_in_force exit.deps out.path ≡ deps_in_force entry.deps out.path) ⊎ HasNewDeps asked.graph.edges exit old now out.path → ⊥
              no_deps none (inl same) = let early = early_deps out.path deps (sym same ∙ there) in omega (arith, early, start, (lies mine.stamp mine.started).0)
              no_deps none (inr other) =
                  other.depfile (ap (λ (k : ℕ). (edge_at asked.graph.edges k).act.depfile) (one_maker asked.graph.edges out.path other.edge i once other.makes out.among) ∙ none)

              by_list : (edge_at asked.graph.edges i).act.depfile ≢ [] → (found : Told) × (deps_in_force exit.deps out.path ≡ Some found) × (found.start ≡ mine.stamp) × ListsOnce found.paths (listed (depfile_in B (edge_at asked.graph.edges i).act (view_of mine.at)))
                  → file.stamp ≤ stamp
              by_list some (found, found_there, found_start, lists) =
                  let told : has (listed (depfile_in B (edge_at asked.graph.edges i).act (view_of mine.at))) p ≡ true =
                  sym (lists.same p) ∙ (ap (λ (d : Told). has d.paths p) (same_some found deps (sym found_there ∙ there)) ∙ among) in
                  told_is_early stamp started p
                  (all_has (IsFromAbove own asked.graph.edges (recorded_inputs entry asked.graph.edges) i) (listed (depfile_in B (edge_at asked.graph.edges i).act (view_of mine.at))) p (above i mine.at mine.ended well) told).apart
                  (record { at = mine.at; ended = mine.ended; well = well; told = told })
                  file is

  -- ---- what the command wrote is later

  written_later : (stamp : ℕ) → StartedUnder i stamp old now → (o : List ℕ) → has (outputs (edge_at asked.graph.edges i)) o ≡ true → IsWritten i o old.history now.history → (file : File) → file_at now.history o ≡ Some file → stamp < file.stamp
  written_later stamp started o makes written_so file is = by_tick (ticked i stamp started)
    where
      by_tick : TickedAfter tells own (task_of asked entry) steps i stamp old now → stamp < file.stamp
      by_tick t =
          written_behind (next_stamp old.history) first st_after i st_act stamp written_so.before written_so.after (Command i) o written_so.content written_so.stamp (file_at old.history o) none_before
          (same_rest old.history (first ++ Happened (Start i st_act stamp) ∷ st_after) (written_so.before ++ Wrote (Command i) o written_so.content written_so.stamp ∷ written_so.after) (sym grows ∙ written_so.splits))
          (stamps (first ++ Happened (Start i st_act stamp) ∷ st_after) grows) file
          (sym (file_from-append o None old.history (first ++ Happened (Start i st_act stamp) ∷ st_after)) ∙ (ap (λ (h : List Moment). file_at h o) (sym grows) ∙ is))
        where
          mid : IsToldBy own asked.graph.edges t.done old.events (t.run.first ++ t.run.later) old.history t.mid.history
          mid = t.run.history tell

          st_act : Act
          st_act = t.stamped.act

          st_after : List Moment
          st_after = t.stamped.after

          tick : List Moment
          tick = t.stamped.before ++ Wrote t.stamped.by t.stamped.path t.stamped.content stamp ∷ t.stamped.between

          first : List Moment
          first = mid.more ++ (t.stamped.before ++ Wrote t.stamped.by t.stamped.path t.stamped.content stamp ∷ t.stamped.between)

          grows : now.history ≡ old.history ++ ((mid.more ++ (t.stamped.before ++ Wrote t.stamped.by t.stamped.path t.stamped.content stamp ∷ t.stamped.between)) ++ Happened (Start i t.stamped.act stamp) ∷ t.stamped.after)
          grows =
              t.stamped.splits
              ∙ (ap (λ (l : List Moment). t.mid.history ++ l) (sym (append_assoc t.stamped.before (Wrote t.stamped.by t.stamped.path t.stamped.content stamp ∷ t.stamped.between) (Happened (Start i t.stamped.act stamp) ∷ t.stamped.after)))
              ∙ (ap (λ (l : List Moment). l ++ (tick ++ Happened (Start i t.stamped.act stamp) ∷ t.stamped.after)) mid.grows
              ∙ (append_assoc old.history mid.more (tick ++ Happened (Start i t.stamped.act stamp) ∷ t.stamped.after)
              ∙ ap (λ (l : List Moment). old.history ++ l) (sym (append_assoc mid.more tick (Happened (Start i t.stamped.act stamp) ∷ t.stamped.after))))))

          none_before : AllByRecursion (IsElsewhere o) first
          none_before =
              unwritten_until tells own (task_of asked entry) steps old now idle rest tell once (outputs_kept own asked.graph.edges old.history now.history files) i stamp st_act o first st_after grows makes

  -- an output that the command wrote, and that is there, is stamped later than it was at the entry: so one whose stamp is as it was
  -- (`restat`) was not written, or is gone
  pub restat_is_unwritten : (stamp : ℕ) → StartedUnder i stamp old now → (o : List ℕ) → has (outputs (edge_at asked.graph.edges i)) o ≡ true → (file before : File) → file_at now.history o ≡ Some file → file_at old.history o ≡ Some before
      → before.stamp ≡ file.stamp → IsWritten i o old.history now.history → ⊥
  restat_is_unwritten stamp started o makes file before is was same wrote =
      omega (arith, written_later stamp started o makes wrote file is, (lies stamp started).0, file_within old.history o before was, same)

  -- ---- what is read, and each reason

  reads : ReadsAre asked.graph.edges (view_of now.history) i
  reads = reads_where_settled asked.graph.edges (view_of now.history) (done_in steps) i inputs_settled

  abbrev read : List (List ℕ)
  read = reads.paths ++ recorded_inputs exit asked.graph.edges i

  counted : ListsCounted asked.graph.edges exit now.history i (reads.paths ++ recorded_inputs exit asked.graph.edges i)
  counted p = (
    (λ h. elim (has-cases reads.paths (recorded_inputs exit asked.graph.edges i) p h) [
      | inl here ↦ inl (reads.has_read p here)
      | inr there ↦ inr there
    ]),
    (λ counts. elim counts [
      | inl here ↦ has-left reads.paths (recorded_inputs exit asked.graph.edges i) p (reads.read_has p here)
      | inr there ↦ has-right reads.paths (recorded_inputs exit asked.graph.edges i) p there
    ]),
  )

  counted_early : (stamp : ℕ) → StartedUnder i stamp old now → (p : List ℕ) → has (reads.paths ++ recorded_inputs exit asked.graph.edges i) p ≡ true → (file : File) → file_at now.history p ≡ Some file → file.stamp ≤ stamp
  counted_early stamp started p h file is = elim (has-cases reads.paths (recorded_inputs exit asked.graph.edges i) p h) [
    | inl here ↦ read_early stamp started p (reads.has_read p here) file is
    | inr there ↦ recorded_early stamp started p there file is
  ]

  abbrev facts : Facts
  facts = facts_of asked.graph.edges exit [] now.history now.history i (reads.paths ++ recorded_inputs exit asked.graph.edges i)

  in_outputs : (test : OutputFacts → Bool) → list_any test facts.outputs ≡ true → IsFound (λ o. test (output_facts exit now.history o) ≡ true) (outputs (edge_at asked.graph.edges i))
  in_outputs test is = any_some test (output_facts exit now.history) (outputs (edge_at asked.graph.edges i)) is

  in_inputs : (test : InputFacts → Bool) → list_any test facts.inputs ≡ true → IsFound (λ p. test (input_facts asked.graph.edges [] now.history now.history p) ≡ true) (reads.paths ++ recorded_inputs exit asked.graph.edges i)
  in_inputs test is = any_some test (input_facts asked.graph.edges [] now.history now.history) (reads.paths ++ recorded_inputs exit asked.graph.edges i) is

  excepted : (r : Reason) → holds facts r ≡ true → IsExcepted asked.graph.edges exit steps old.history now.history i
  excepted OutputAbsent is =
      let o = in_outputs (λ x. is_none x.stamp) is in
      inl (o.path, inl o.among, absent (file_at now.history o.path) o.is)
  excepted NoRecord is =
      let o = in_outputs (λ x. is_none x.made) is in
      let mine = own_record o.path o.among in
      absurd (is_there (in_force exit.records o.path) (record { act = (edge_at asked.graph.edges i).act; start = mine.stamp }) mine.recorded.done o.is)
  excepted OtherAct is =
      let o = in_outputs (λ x. has_other_act facts.act x.made) is in
      let mine = own_record o.path o.among in
      absurd (no_other (edge_at asked.graph.edges i).act (in_force exit.records o.path) mine.stamp mine.recorded.done o.is)
  excepted InputAbsent is =
      let p = in_inputs (λ x. is_none x.stamp) is in
      inl (p.path, inr ((counted p.path).0 p.among), absent (file_at now.history p.path) p.is)
  excepted InputChanged is =
      let p = in_inputs (λ x. x.changed) is in
      absurd (false≢true (sym (anew_none asked.graph.edges (is_same_number (stamp_of (file_at now.history p.path)) (stamp_of (file_at now.history p.path))) (maker asked.graph.edges p.path)) ∙ p.is))
  excepted InputLater is =
      let o = in_outputs (λ x. list_any (λ y. is_later y.stamp (start_of x.made)) facts.inputs) is in
      let mine = own_record o.path o.among in
      let p = in_inputs (λ y. is_later y.stamp (start_of (in_force exit.records o.path))) o.is in
      let late = later_is (file_at now.history p.path) mine.stamp (ap (λ (m : Option Made). is_later (stamp_of (file_at now.history p.path)) (start_of m)) (sym mine.recorded.done) ∙ p.is) in
      absurd (omega (arith, late.2, counted_early mine.stamp mine.started p.path p.among late.0 late.1))
  excepted OutputOlder is =
      let parts = and_parts (not (edge_at asked.graph.edges i).restat) (list_any (λ x. list_any (λ y. is_later y.stamp x.stamp) facts.inputs) facts.outputs) is in
      let o = in_outputs (λ x. list_any (λ y. is_later y.stamp x.stamp) facts.inputs) parts.1 in
      let mine = own_record o.path o.among in
      let p = in_inputs (λ y. is_later y.stamp (stamp_of (file_at now.history o.path))) o.is in
      let both = later_than (file_at now.history p.path) (file_at now.history o.path) p.is in
      inr (inl (
        not-true (edge_at asked.graph.edges i).restat parts.0,
        started_i,
        (
          o.path,
          o.among,
          λ wrote.
              omega (
                arith,
                both.lower,
                counted_early mine.stamp mine.started p.path p.among both.first both.first_is,
                written_later mine.stamp mine.started o.path o.among wrote both.second both.second_is,
              ),
        ),
      ))
  excepted DepsUnknown is =
      let parts = and_parts (not (is_empty_text (edge_at asked.graph.edges i).act.depfile)) (list_any (λ x. not (is_same_number (start_of x.made) x.deps_start)) facts.outputs || (is_unset facts.deps && not facts.depfile)) is in
      let some = not_empty (edge_at asked.graph.edges i).act.depfile parts.0 in
      elim (or_cases (list_any (λ x. not (is_same_number (start_of x.made) x.deps_start)) facts.outputs) (is_unset facts.deps && not facts.depfile) parts.1) [
        | inl other ↦
            let o = in_outputs (λ x. not (is_same_number (start_of x.made) x.deps_start)) other in
            let mine = own_record o.path o.among in
            let found = mine.recorded.deps some in
            absurd (of_one_start (in_force exit.records o.path) (deps_in_force exit.deps o.path) (record { act = (edge_at asked.graph.edges i).act; start = mine.stamp }) found.0 mine.recorded.done found.1 found.2 o.is)
        | inr gone ↦
            let both = and_parts (is_unset (edge_at asked.graph.edges i).deps) (not (is_some (file_at now.history (edge_at asked.graph.edges i).act.depfile))) gone in
            inr (inr (some, unset (edge_at asked.graph.edges i).deps both.0, not_there (file_at now.history (edge_at asked.graph.edges i).act.depfile) both.1))
      ]

  pub well_left : IsExcepted asked.graph.edges exit steps old.history now.history i ⊎ IsVerdict asked.graph.edges exit [] now.history now.history i false
  well_left = elim (cases_Bool (is_some (reason_of facts))) [
    | inl some ↦ let found = some_holds (λ reason. holds facts reason) all_reasons some in inl (excepted found.reason found.is)
    | inr none ↦ inr (record { read = reads.paths ++ recorded_inputs exit asked.graph.edges i; counted = counted; verdict = sym none })
  ]
