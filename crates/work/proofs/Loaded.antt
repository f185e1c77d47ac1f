-- A dyndep file was loaded while a run stood before it: what it keeps is so of the graph that has what the file says.
use Rattle.std.proofs.Common.{◌≡◌, ◌≢◌, ◌⊎◌, inl, inr, ℕ, zero, suc, ◌<◌, ◌≤◌, ◌&&◌, not, Bool, true, false, cond, IsTrue, List, [], ◌∷◌, ◌++◌, map, length, get_or, Option, Some, None, is_some, refl, sym, ◌∙◌, ap, subst, arith}
use Rattle.std.proofs.lemmas.List.{get_or_past}
use Rattle.std.proofs.lemmas.Option.{slice_get-get_or}
use Rattle.std.proofs.lemmas.Bool.{false≢true, true≢false, or_cases, or_left, or_right, eq-eqb}
use Rattle.model.specs.declared.act.Act.{Act}
use Rattle.model.specs.declared.graph.BuildGraph.{BuildGraph}
use Rattle.model.specs.declared.graph.Edge.{Edge}
use Rattle.model.specs.declared.graph.Pool.{Pool}
use Rattle.model.specs.declared.record.Record.{Record}
use Rattle.model.specs.declared.record.DepsRecord.{DepsRecord}
use Rattle.model.specs.World.{World, file_at, stamp_of, view_of}
use Rattle.model.specs.Graph.{has, has_number, edge_at, maker, outputs, Addition, IsMadeOnce}
use Rattle.model.specs.Judgement.{is_same_number}
use Rattle.model.specs.Records.{Store, recorded_of, recorded_inputs}
use Rattle.model.specs.OutOfDate.{is_made_anew, input_facts}
use Rattle.model.specs.Schedule.{Step as Done, started_in, well_in}
use Rattle.model.specs.Phases.{IsGrownBy, IsNextLoad, IsInOrderAt}
use Rattle.model.specs.Premises.{FilesAreKept}
use Rattle.model.specs.SingleBuild.{HeldAt, asked_with, task_of}
use Rattle.model.specs.Kept.{StartedUnder}
use Rattle.theory.specs.Run.{IsRunOrRest}
use Rattle.theory.proofs.Growth.{HasGrown, grown_by}
use Rattle.theory.proofs.Lists.{same_some, same_bytes, bytes_same}
use Rattle.theory.proofs.Makers.{maker_has, maker_is}
use Rattle.theory.proofs.Orderly.{IsKept, kept_orderly}
use Rattle.theory.proofs.Runs.{rest_begins}
use Rattle.theory.specs.Ledger.{IsCarried}
use Rattle.theory.proofs.Loading.{carried_load}
use Rattle.theory.proofs.Turned.{kept_then}
use Rattle.plan.specs.Flags as flags
use Rattle.paths.specs.Told.{text_at}
use Rattle.graph.specs.declared.graph.Graph.{Graph}
use Rattle.graph.specs.Links.{links_of}
use Rattle.graph.specs.Linked.{StandFor}
use Rattle.graph.specs.Told.{declared_by, recorded_by, AreSameInputs}
use Rattle.judge.specs.declared.looks.Look.{Look}
use Rattle.judge.specs.Seen.{look_at, look_of, is_asked}
use Rattle.plan.specs.Planned.{IsTaskOf, IsPlanned, AreTaken}
use Rattle.plan.specs.Extended.{IsGrownTask, GoesOnFrom}
use Rattle.records.specs.declared.logs.Logs.{Logs}
use Rattle.records.specs.Known.{AreKnown}
use Rattle.records.specs.Logging.{IsLogging}
use Rattle.work.specs.declared.state.Work.{Work}
use Rattle.work.specs.Course.{Course, IsOwnTick, HasCone, edges_of, goes_on, Suits, is_quiet, IsSeenStill, AreAnew, AreSeenBefore, AreTold, AreStarted, IsOn}
use Rattle.work.specs.Removing.{AreRemoved}
use Rattle.work.proofs.Finishing.{makes_it}
use Rattle.work.proofs.Onward.{since_goes}
use Rattle.work.proofs.Quiet.{quiet_parts, quiet_from}

-- the course behind a load: these are the edges now, and `last` are the steps of the phase that ended with it
abbrev pub loaded_course : Course → List Edge → List Done → Course
loaded_course course next last = record {
  behaviour = course.behaviour;
  format = course.format;
  own = course.own;
  asked = asked_with course.asked next;
  store = course.store;
  entry = course.entry;
  phases = course.phases ++ record { edges = edges_of course; steps = last } ∷ [];
  refused = course.refused;
}

-- The graph has what a file says, and perhaps more paths and recorded inputs; nothing else of it is changed.
pub record HasMore (graph grown : Graph) (file : List ℕ) (additions : List Addition) : Type 0 where
  pub edges : IsGrownBy file additions (declared_by graph).edges (declared_by grown).edges
  pub once : IsMadeOnce (declared_by grown).edges
  pub pools : (declared_by grown).pools ≡ (declared_by graph).pools
  pub defaults : (declared_by grown).defaults ≡ (declared_by graph).defaults
  pub builddir : (declared_by grown).builddir ≡ (declared_by graph).builddir
  pub lines : length grown.manifest.lines ≡ length graph.manifest.lines
  pub added : List (List ℕ)
  pub paths : grown.manifest.paths ≡ graph.manifest.paths ++ added

-- The state has room for what the graph got, and what it knew stays.
pub record HasRoomFor (graph grown : Graph) (old new : Work) : Type 0 where
  pub fits : length new.looks.seen.items ≡ length grown.manifest.paths
  pub looks : (p : ℕ) → look_at new.looks.seen.items p ≡ look_at old.looks.seen.items p
  pub logs : new.records.logs ≡ old.records.logs
  pub known : (rs : List Record) (ds : List DepsRecord) → AreKnown graph rs ds old.records → AreKnown grown rs ds new.records
  pub changed : (p : ℕ) → flags.has new.plan.changed.items p ≡ flags.has old.plan.changed.items p
  pub tick : new.tick ≡ old.tick
  pub starts : new.starts.items ≡ old.starts.items
  pub failed : new.failed.items ≡ old.failed.items

-- ---- lists

below_or : (p n : ℕ) → (p < n) ⊎ (n ≤ p)
below_or p zero = inr (omega arith)
below_or zero (suc n) = inl (omega arith)
below_or (suc p) (suc n) = elim (below_or p n) [
  | inl lt ↦ inl (omega (arith, lt))
  | inr le ↦ inr (omega (arith, le))
]

text_in_front : (first more : List (List ℕ)) (p : ℕ) → p < length first → text_at (first ++ more) p ≡ text_at first p
text_in_front [] more p lt = absurd (omega (arith, lt))
text_in_front (x ∷ first) more zero lt = refl
text_in_front (x ∷ first) more (suc p) lt = text_in_front first more p (omega (arith, lt))

-- a text among those of some numbers is that of one of them
number_of : (paths : List (List ℕ)) (xs : List ℕ) (text : List ℕ) → has (map (text_at paths) xs) text ≡ true → (q : ℕ) × (has_number xs q ≡ true) × (text_at paths q ≡ text)
number_of paths [] text there = absurd (false≢true there)
number_of paths (x ∷ xs) text there = elim (or_cases _ (has (map (text_at paths) xs) text) there) [
  | inl here ↦ (x, or_left _ (has_number xs x) (eq-eqb x x refl), same_bytes (text_at paths x) text here)
  | inr later ↦
      let rest = number_of paths xs text later in
      (rest.0, or_right _ (has_number xs rest.0) rest.1, rest.2)
]

no_member : (xs : List (List ℕ)) → ((q : List ℕ) → has xs q ≡ true → ⊥) → xs ≡ []
no_member [] none = refl
no_member (x ∷ xs) none = absurd (none x (or_left _ (has xs x) (bytes_same x)))

asked_below : (seen : List Look) (p : ℕ) → is_asked (look_at seen p) ≡ true → p < length seen
asked_below [] p asked = absurd (false≢true asked)
asked_below (look ∷ seen) zero asked = omega arith
asked_below (look ∷ seen) (suc p) asked = let lt = asked_below seen p asked in omega (arith, lt)

same_graph : (b : BuildGraph) (pools : List Pool) (defaults : List (List ℕ)) (builddir : List ℕ) → pools ≡ b.pools → defaults ≡ b.defaults → builddir ≡ b.builddir
    → record { edges = b.edges; pools = pools; defaults = defaults; builddir = builddir } ≡ b
same_graph b pools defaults builddir one two three =
    ap (λ (x : List Pool). record { edges = b.edges; pools = x; defaults = defaults; builddir = builddir }) one
    ∙ (ap (λ (x : List (List ℕ)). record { edges = b.edges; pools = b.pools; defaults = x; builddir = builddir }) two
    ∙ ap (λ (x : List ℕ). record { edges = b.edges; pools = b.pools; defaults = b.defaults; builddir = x }) three)

-- the recorded inputs in use of an edge
abbrev recorded_at : Store → Edge → List (List ℕ)
recorded_at store edge = cond edge.phony [] (cond (is_some edge.dyndep) [] (recorded_of store edge))

none_unloaded : (phony : Bool) (d : Option (List ℕ)) (f : List ℕ) (rest : List (List ℕ)) (p : List ℕ) → d ≡ Some f → has (cond phony [] (cond (is_some d) [] rest)) p ≡ true → ⊥
none_unloaded true d f rest p is there = false≢true there
none_unloaded false d f rest p is there = false≢true (sym (ap (λ (o : Option (List ℕ)). has (cond (is_some o) [] rest) p) is) ∙ there)

-- ---- over the load

module _ (tells : Bool) (course : Course) (graph grown : Graph) (file : List ℕ) (additions : List Addition) (gains : HasMore graph grown file additions) (suits : Suits course graph) (goes : goes_on course ≡ true)
    (state after : Work) (now : World) (on : IsOn tells course graph None state now) (room : HasRoomFor graph grown state after)
    (stand : StandFor (declared_by graph).edges graph.manifest.paths (links_of graph)) (stands : StandFor (declared_by grown).edges grown.manifest.paths (links_of grown)) where
  abbrev few : List Edge
  few = edges_of course

  abbrev next : List Edge
  next = (declared_by grown).edges

  abbrev pub later : Course
  later = loaded_course course next on.carried.phased.build.last

  same_edges : few ≡ (declared_by graph).edges
  same_edges = ap (λ (b : BuildGraph). b.edges) suits.same

  grown_here : IsGrownBy file additions few next
  grown_here = subst (λ (es : List Edge). IsGrownBy file additions es next) (sym same_edges) gains.edges

  more : HasGrown few next
  more = grown_by file additions few next grown_here

  kept : IsKept few on.steps
  kept = kept_orderly few on.steps on.carried.run.orderly

  rest : IsRunOrRest tells course.own (task_of course.asked course.store) on.steps course.entry now
  rest = rest_begins tells course.own (task_of course.asked course.store) course.entry on.steps now on.carried.run

  -- an edge that was judged has its dyndep file, and is as it was
  loaded_before : (i : ℕ) → has_number (started_in on.steps) i ≡ true → (edge_at few i).dyndep ≡ None
  loaded_before i started = on.carried.phased.loaded i (kept.out_of_date i (kept.started i started))

  started_same : (i : ℕ) → has_number (started_in on.steps) i ≡ true → edge_at next i ≡ edge_at few i
  started_same i started = more.same i (loaded_before i started)

  well_same : (i : ℕ) → has_number (well_in on.steps) i ≡ true → edge_at next i ≡ edge_at few i
  well_same i well = started_same i (kept.ended i (kept.well i well))

  abbrev before : IsTrue tells → FilesAreKept course.own next course.entry.history now.history → FilesAreKept course.own few course.entry.history now.history
  before tell files = kept_then tells course.own (task_of course.asked course.store) next more on.steps course.entry now tell on.carried.beside.idle rest loaded_before files

  -- ---- paths

  text_same : (p : ℕ) → p < length graph.manifest.paths → text_at grown.manifest.paths p ≡ text_at graph.manifest.paths p
  text_same p lt = ap (λ (l : List (List ℕ)). text_at l p) gains.paths ∙ text_in_front graph.manifest.paths gains.added p lt

  longer : (p : ℕ) → p < length graph.manifest.paths → p < length grown.manifest.paths
  longer p lt = subst (λ (l : List (List ℕ)). p < length l) (sym gains.paths) (in_front graph.manifest.paths gains.added p lt)
    where
      in_front : (xs ys : List (List ℕ)) (k : ℕ) → k < length xs → k < length (xs ++ ys)
      in_front [] ys k lt = absurd (omega (arith, lt))
      in_front (x ∷ xs) ys zero lt = omega arith
      in_front (x ∷ xs) ys (suc k) lt = let less = in_front xs ys k (omega (arith, lt)) in omega (arith, less)

  same_number : (p q : ℕ) → p < length grown.manifest.paths → q < length grown.manifest.paths → text_at grown.manifest.paths p ≡ text_at grown.manifest.paths q → p ≡ q
  same_number p q lt less same = grown.apart p q (text_at grown.manifest.paths p) (slice_get-get_or grown.manifest.paths p [] lt) (slice_get-get_or grown.manifest.paths q [] less ∙ ap (λ (t : List ℕ). Some t) (sym same))

  -- what an edge made before the load has its number of then
  made_before : (e p : ℕ) → p < length grown.manifest.paths → has (outputs (edge_at few (suc e))) (text_at grown.manifest.paths p) ≡ true → has_number ((links_of graph).outputs e) p ≡ true
  made_before e p lt makes = subst (λ (n : ℕ). has_number ((links_of graph).outputs e) n ≡ true) (sym (same_number p found.0 lt (longer found.0 within) (sym found.2 ∙ sym (text_same found.0 within)))) found.1
    where
      found : (q : ℕ) × (has_number ((links_of graph).outputs e) q ≡ true) × (text_at graph.manifest.paths q ≡ text_at grown.manifest.paths p)
      found = number_of graph.manifest.paths ((links_of graph).outputs e) (text_at grown.manifest.paths p)
          (ap (λ (l : List (List ℕ)). has l (text_at grown.manifest.paths p)) (stand.outputs_are e ∙ ap (λ (es : List Edge). outputs (edge_at es (suc e))) (sym same_edges)) ∙ makes)

      within : found.0 < length graph.manifest.paths
      within = stand.outputs_within e found.0 found.1

  was_there : (i p : ℕ) → p < length grown.manifest.paths → has (outputs (edge_at few i)) (text_at grown.manifest.paths p) ≡ true → p < length graph.manifest.paths
  was_there zero p lt makes = absurd (false≢true makes)
  was_there (suc e) p lt makes = stand.outputs_within e p (made_before e p lt makes)

  -- ---- what was made anew

  made_still : (p : List ℕ) (j : ℕ) → maker few p ≡ Some j → maker next p ≡ Some j
  made_still p j is = maker_is next p j gains.once (more.outputs j p (maker_has few p j is))

  -- whoever makes the path now
  anew_same : (same : Bool) (p : List ℕ) (m n : Option ℕ) → maker few p ≡ m → maker next p ≡ n → is_made_anew few (well_in on.steps) same m ≡ is_made_anew next (well_in on.steps) same n
  anew_same same p None None was is = refl
  anew_same same p None (Some j) was is = by_well (has_number (well_in on.steps) j) refl
    where
      none_some : None ≡ Some j → ⊥
      none_some none = cc

      by_well : (b : Bool) → has_number (well_in on.steps) j ≡ b → false ≡ has_number (well_in on.steps) j && not ((edge_at next j).restat && same)
      by_well true well = absurd (none_some (sym was ∙ maker_is few p j suits.once (ap (λ (e : Edge). has (outputs e) p) (sym (well_same j well)) ∙ maker_has next p j is)))
      by_well false well = ap (λ (b : Bool). b && not ((edge_at next j).restat && same)) (sym well)
  anew_same same p (Some j) None was is = absurd (some_none (sym (made_still p j was) ∙ is))
    where
      some_none : Some j ≡ None → ⊥
      some_none none = cc
  anew_same same p (Some j) (Some k) was is = subst (λ (i : ℕ). is_made_anew few (well_in on.steps) same (Some j) ≡ is_made_anew next (well_in on.steps) same (Some i)) (same_some j k (sym (made_still p j was) ∙ is)) (by_well (has_number (well_in on.steps) j) refl)
    where
      by_well : (b : Bool) → has_number (well_in on.steps) j ≡ b → has_number (well_in on.steps) j && not ((edge_at few j).restat && same) ≡ has_number (well_in on.steps) j && not ((edge_at next j).restat && same)
      by_well true well = ap (λ (e : Edge). has_number (well_in on.steps) j && not (e.restat && same)) (sym (well_same j well))
      by_well false well = ap (λ (b : Bool). b && not ((edge_at few j).restat && same)) well ∙ sym (ap (λ (b : Bool). b && not ((edge_at next j).restat && same)) well)

  -- a path that the graph got is of no command that ended well
  anew_none : (same : Bool) (p : ℕ) → p < length grown.manifest.paths → length graph.manifest.paths ≤ p → (n : Option ℕ) → maker next (text_at grown.manifest.paths p) ≡ n → false ≡ is_made_anew next (well_in on.steps) same n
  anew_none same p lt past None is = refl
  anew_none same p lt past (Some j) is = by_well (has_number (well_in on.steps) j) refl
    where
      by_well : (b : Bool) → has_number (well_in on.steps) j ≡ b → false ≡ has_number (well_in on.steps) j && not ((edge_at next j).restat && same)
      by_well true well =
          let less = was_there j p lt (ap (λ (e : Edge). has (outputs e) (text_at grown.manifest.paths p)) (sym (well_same j well)) ∙ maker_has next (text_at grown.manifest.paths p) j is) in
          absurd (omega (arith, less, past))
      by_well false well = ap (λ (b : Bool). b && not ((edge_at next j).restat && same)) (sym well)

  pub loaded_anew : AreAnew tells later grown on.steps after now
  loaded_anew tell files p lt unfailed = elim (below_or p (length graph.manifest.paths)) [
    | inl less ↦
        let text = text_same p less in
        room.changed p
        ∙ (on.anew tell (before tell files) p less (λ j is. unfailed j (ap (maker next) text ∙ made_still (text_at graph.manifest.paths p) j is))
        ∙ (anew_same (is_same_number (stamp_of (file_at course.entry.history (text_at graph.manifest.paths p))) (stamp_of (file_at now.history (text_at graph.manifest.paths p)))) (text_at graph.manifest.paths p)
        (maker few (text_at graph.manifest.paths p)) (maker next (text_at graph.manifest.paths p)) refl refl
        ∙ ap (λ (t : List ℕ). (input_facts next (well_in on.steps) course.entry.history now.history t).changed) (sym text)))
    | inr past ↦
        let size = on.planned.over.flags in
        room.changed p
        ∙ (get_or_past state.plan.changed.items p false (omega (arith, size, past))
        ∙ anew_none (is_same_number (stamp_of (file_at course.entry.history (text_at grown.manifest.paths p))) (stamp_of (file_at now.history (text_at grown.manifest.paths p)))) p lt past (maker next (text_at grown.manifest.paths p)) refl)
  ]

  -- ---- what was seen

  quiet_before : (free : List ℕ → Bool) (p : List ℕ) → is_quiet free course.own next on.steps p ≡ true → is_quiet free course.own few on.steps p ≡ true
  quiet_before free p quiet =
      let parts = quiet_parts free course.own next on.steps p quiet in
      quiet_from free course.own few on.steps p (record {
        bound = parts.bound;
        foreign = parts.foreign;
        private = λ i command named. parts.private i (more.phony i ∙ command) (subst (λ (a : Act). (p ≡ a.depfile) ⊎ (p ≡ a.response_path)) (sym (more.act i)) named);
        rests = λ i runs makes. parts.rests i runs (more.outputs i p makes);
      })

  pub loaded_seen : IsSeenStill tells later grown on.steps after now
  loaded_seen tell files p asked quiet =
      room.looks p ∙ (on.seen tell (before tell files) p asked_then (quiet_before files.free (text_at graph.manifest.paths p) (subst (λ (t : List ℕ). is_quiet files.free course.own next on.steps t ≡ true) text quiet))
      ∙ ap (λ (t : List ℕ). look_of (stamp_of (file_at now.history t))) (sym text))
    where
      asked_then : is_asked (look_at state.looks.seen.items p) ≡ true
      asked_then = ap is_asked (sym (room.looks p)) ∙ asked

      less : p < length graph.manifest.paths
      less = let lt = asked_below state.looks.seen.items p asked_then in let size = on.room.looks in omega (arith, lt, size)

      text : text_at grown.manifest.paths p ≡ text_at graph.manifest.paths p
      text = text_same p less

  pub loaded_seen_before : AreSeenBefore tells later grown on.steps after now
  loaded_seen_before tell files e stale unended restat p made =
      room.looks p
      ∙ (on.before tell (before tell files) e stale unended (ap (λ (edge : Edge). edge.restat) (sym same) ∙ restat) p made_then
      ∙ ap (λ (t : List ℕ). look_of (stamp_of (file_at course.entry.history t))) (sym (text_same p (stand.outputs_within e p made_then))))
    where
      same : edge_at next (suc e) ≡ edge_at few (suc e)
      same = more.same (suc e) (on.carried.phased.loaded (suc e) (kept.out_of_date (suc e) stale))

      made_then : has_number ((links_of graph).outputs e) p ≡ true
      made_then = made_before e p (stands.outputs_within e p made)
          (ap (λ (edge : Edge). has (outputs edge) (text_at grown.manifest.paths p)) (sym same) ∙ makes_it next grown gains.once stands e p made)

  -- ---- the logs, and the files of commands that ended well

  pub loaded_told : AreTold tells later grown after now
  loaded_told = record { records = on.told.records; deps = on.told.deps; known = room.known on.told.records on.told.deps on.told.known; same = on.told.same }

  pub loaded_removed : AreRemoved tells course.own next on.steps None course.entry now
  loaded_removed = record {
    responses = λ i well free named tell files.
        ap (λ (edge : Edge). view_of now.history edge.act.response_path) (well_same i well)
        ∙ on.removed.responses i well free (subst (λ (edge : Edge). edge.act.response_path ≢ []) (well_same i well) named) tell (before tell files);
    depfiles = λ i well free gcc named tell files.
        ap (λ (edge : Edge). view_of now.history edge.act.depfile) (well_same i well)
        ∙ on.removed.depfiles i well free (ap (λ (edge : Edge). edge.deps) (sym (well_same i well)) ∙ gcc) (subst (λ (edge : Edge). edge.act.depfile ≢ []) (well_same i well) named) tell (before tell files);
    stay = λ i well unset named other at ended tell files.
        ap (λ (edge : Edge). view_of now.history edge.act.depfile) (well_same i well)
        ∙ (on.removed.stay i well (ap (λ (edge : Edge). edge.deps) (sym (well_same i well)) ∙ unset) (subst (λ (edge : Edge). edge.act.depfile ≢ []) (well_same i well) named)
        (subst (λ (edge : Edge). edge.act.depfile ≢ edge.act.response_path) (well_same i well) other) at ended tell (before tell files)
        ∙ ap (λ (edge : Edge). view_of at edge.act.depfile) (sym (well_same i well)));
  }

  -- ---- the task

  recorded_more : (i : ℕ) (p : List ℕ) → has (recorded_inputs course.store few i) p ≡ true → has (recorded_inputs course.store next i) p ≡ true
  recorded_more i p there = by_dyndep (edge_at few i).dyndep refl
    where
      by_dyndep : (d : Option (List ℕ)) → (edge_at few i).dyndep ≡ d → has (recorded_inputs course.store next i) p ≡ true
      by_dyndep None is = ap (λ (edge : Edge). has (recorded_at course.store edge) p) (more.same i is) ∙ there
      by_dyndep (Some f) is = absurd (none_unloaded (edge_at few i).phony (edge_at few i).dyndep f (recorded_of course.store (edge_at few i)) p is there)

  pub grown_task : IsGrownTask (task_of course.asked course.store) (task_of later.asked later.store)
  grown_task = record { file = file; additions = additions; grown = grown_here; once = gains.once; recorded = recorded_more; targets = refl; jobs = refl; keep = refl }

  -- the graph suits the course behind the load, where its recorded inputs are those in use
  pub suits_loaded : AreSameInputs (recorded_inputs course.store next) (recorded_by grown) → Suits later grown
  suits_loaded recorded = record {
    same = same_graph (declared_by grown) course.asked.graph.pools course.asked.graph.defaults course.asked.graph.builddir
        (ap (λ (b : BuildGraph). b.pools) suits.same ∙ sym gains.pools) (ap (λ (b : BuildGraph). b.defaults) suits.same ∙ sym gains.defaults) (ap (λ (b : BuildGraph). b.builddir) suits.same ∙ sym gains.builddir);
    recorded = recorded;
    once = gains.once;
    some = λ i command none. suits.some i (sym (more.phony i) ∙ command) (no_member (outputs (edge_at few i)) (λ q makes. false≢true (ap (λ (l : List (List ℕ)). has l q) (sym none) ∙ more.outputs i q makes)));
    depfiles = suits.depfiles;
    log_owned = suits.log_owned;
    deps_owned = suits.deps_owned;
    idle = suits.idle;
  }

  -- ---- the run

  module _ (content : List ℕ) (is_next : IsNextLoad (task_of course.asked course.store) on.steps file) (read : course.behaviour.dyndep content ≡ Some additions) (order : IsInOrderAt course.store (task_of later.asked course.store))
      (holds : IsTrue tells → (files : FilesAreKept course.own few course.entry.history now.history) → files.free file ≡ false → view_of now.history file ≡ Some content)
      (held_then : IsTrue tells → HeldAt file (Some content) on.steps course.entry.history now.history)
      (planned : GoesOnFrom graph grown after.cone state.plan after.plan) (stated : IsTaskOf (task_of later.asked later.store) grown)
      (coned : HasCone later.asked later.store grown after.cone) where
    carried_then : IsCarried tells course.behaviour course.format course.own later.asked course.store later.phases true on.steps None course.entry now
    carried_then = carried_load tells course.behaviour course.format course.own course.asked course.store course.phases course.entry now next file content additions grown_here on.steps
        (record { run = on.carried.run; phased = on.carried.phased; goes = λ h. on.carried.goes goes; refused = λ off. absurd (true≢false off); beside = on.carried.beside }) is_next read order holds held_then

    pub carried_later : IsCarried tells course.behaviour course.format course.own later.asked course.store later.phases (goes_on later) on.steps None course.entry now
    carried_later = record {
      run = carried_then.run;
      phased = carried_then.phased;
      goes = λ h. carried_then.goes refl;
      refused = λ off. absurd (false≢true (sym off ∙ goes));
      beside = carried_then.beside;
    }

    pub plan_later : IsPlanned (task_of later.asked later.store) grown after.plan on.steps × AreTaken (task_of later.asked later.store) on.steps
    plan_later = planned (task_of course.asked course.store) (task_of later.asked later.store) on.steps on.planned on.taken stated grown_task coned.listed

    pub logging_later : IsLogging tells course.behaviour course.format course.own next on.steps None course.store course.entry now after.records.logs
    logging_later = subst (λ (l : Logs). IsLogging tells course.behaviour course.format course.own next on.steps None course.store course.entry now l) (sym {A = Logs} room.logs) (record {
      build_log = on.logging.build_log;
      deps_log = on.logging.deps_log;
      apart = on.logging.apart;
      reads = on.logging.reads;
      commands = λ job runs. more.phony job ∙ on.logging.commands job runs;
      grows = on.logging.grows;
      build_held = λ tell files. on.logging.build_held tell (before tell files);
      deps_held = λ tell files. on.logging.deps_held tell (before tell files);
      logged = carried_then.beside.logged;
    })

    pub started_later : AreStarted later on.steps after now
    started_later e runs = subst (λ (l : List ℕ). StartedUnder (suc e) (get_or l e 0) course.entry now) (sym room.starts) (on.started e runs)

    -- it stands behind the load, with the same steps
    abbrev pub on_loaded : IsOn tells later grown None after now
    on_loaded = record {
      steps = on.steps;
      planned = plan_later.0;
      taken = plan_later.1;
      since = since_goes course.refused goes on.steps;
      carried = carried_later;
      logging = logging_later;
      told = loaded_told;
      seen = loaded_seen;
      anew = loaded_anew;
      before = loaded_seen_before;
      started = started_later;
      removed = loaded_removed;
      room = record { looks = room.fits; starts = ap length room.starts ∙ (on.room.starts ∙ sym gains.lines) };
      cone = coned;
      ticking = subst (λ (t : List ℕ). IsOwnTick course.own t) (sym {A = List ℕ} room.tick) on.ticking;
      noted = ap (map suc) room.failed ∙ on.noted;
    }
