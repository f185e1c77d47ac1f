-- What a dyndep file says joins a graph: what follows for recorded inputs, targets, records and the plan, and how it is taken back.
use Rattle.std.proofs.Common.{◌≡◌, ◌⊎◌, inl, inr, ℕ, zero, suc, ◌<◌, ◌≤◌, cond, bytes_eq, Bool, true, false, List, [], ◌∷◌, ◌++◌, length, map, take, get_or, Option, Some, None, is_some, refl, sym, ◌∙◌, ap, subst, append_assoc, arith}
use Rattle.std.specs.List.{All}
use Rattle.std.specs.Option.{option_map}
use Rattle.std.proofs.lemmas.Bool.{cases_Bool, false≢true, eqb-true, eq-eqb, or_left}
use Rattle.std.proofs.lemmas.List.{length-append, take_all}
use Rattle.std.proofs.lemmas.Option.{slice_get-get_or}
use Rattle.model.specs.declared.graph.BuildGraph.{BuildGraph}
use Rattle.model.specs.declared.graph.Edge.{Edge}
use Rattle.model.specs.declared.graph.Pool.{Pool}
use Rattle.model.specs.declared.record.Record.{Record}
use Rattle.model.specs.declared.record.DepsRecord.{DepsRecord}
use Rattle.model.specs.Graph.{has, has_number, edge_at, targets_of, IsMadeOnce, Addition}
use Rattle.model.specs.Phases.{IsGrownBy}
use Rattle.model.specs.Records.{Store, in_force, deps_in_force, recorded_of, recorded_inputs}
use Rattle.model.specs.SingleBuild.{Asked, asked_with, declared_graph}
use Rattle.theory.proofs.Cones.{no_cycle_by_order}
use Rattle.theory.proofs.Lists.{same_some, some_none, bytes_same}
use Rattle.paths.specs.declared.manifest.Action.{Action}
use Rattle.paths.specs.declared.manifest.Action.TheVariants.{Alias, Command}
use Rattle.paths.specs.Commands.{no_action}
use Rattle.paths.specs.declared.line.Line.{Line}
use Rattle.paths.specs.Lists.{line_at, line_inputs}
use Rattle.paths.specs.Told.{text_at, texts_at, edge_of}
use Rattle.graph.specs.declared.back.Before.{Before}
use Rattle.graph.specs.declared.cone.Cone.{Cone}
use Rattle.graph.specs.declared.graph.Graph.{Graph}
use Rattle.graph.specs.Alone.{HasGrownAlone}
use Rattle.graph.specs.Back.{Undoes, MayBeTakenBack}
use Rattle.graph.specs.Extended.{HasLoaded, FilesStand, dyndep_at}
use Rattle.graph.specs.Held.{list_at, dyndep_of, maker_in}
use Rattle.graph.specs.Links.{links_of, needs_of}
use Rattle.graph.specs.Linked.{IsConeOf}
use Rattle.graph.specs.LoadedEdges.{numbers_in}
use Rattle.graph.specs.Statements.{is_place}
use Rattle.graph.specs.Targets.{IsConeOfNumbers}
use Rattle.graph.specs.Told.{declared_by, recorded_by, AreSameInputs}
use Rattle.log_text.specs.BuildLog.{Keeps, makings}
use Rattle.log_text.specs.DepsLog.{Keeps as KeepsDeps, tolds}
use Rattle.records.specs.declared.logs.Logs.{Logs}
use Rattle.records.specs.declared.records.Records.{Records}
use Rattle.records.specs.Held.{ArePlaces}
use Rattle.records.specs.Known.{IsOf, IsOfDeps, AreKnown, AreStillKnown}
use Rattle.judge.specs.Answers.{HasGrownBy}
use Rattle.plan.specs.Staying.{MayGoOnBy}
use Rattle.work.specs.declared.state.Work.{Work}
use Rattle.work.specs.declared.report.Refusal.{Refusal}
use Rattle.work.specs.Joined.{MayJoin, MayKeep, HasJoinedFile, IsCircle, IsUnjoined, StayKnown, MayShrink}
use Rattle.work.specs.Recorded.{AreToJoin, HasGrownAt, HasJoinedOf}
use Rattle.work.proofs.Joining.{recorded_kept, nothing_of}
use Rattle.work.proofs.Telling.{edge_is}

-- ---- the dyndep file of an edge

dyndep_is : (graph : Graph) (e : ℕ) → (edge_at (declared_by graph).edges (suc e)).dyndep ≡ option_map (text_at graph.manifest.paths) (dyndep_at graph e)
dyndep_is graph e = ap (λ (x : Edge). x.dyndep) (edge_is graph.manifest e) ∙ by_action (get_or graph.manifest.actions e no_action)
  where
    by_action : (a : Action) → (edge_of graph.manifest.paths (line_at graph.manifest.lines e) a).dyndep ≡ option_map (text_at graph.manifest.paths) (dyndep_of a)
    by_action Alias = refl
    by_action (Command command) = refl

names_it : (graph : Graph) (e file : ℕ) → is_place (dyndep_at graph e) file ≡ true → (edge_at (declared_by graph).edges (suc e)).dyndep ≡ Some (text_at graph.manifest.paths file)
names_it graph e file is = dyndep_is graph e ∙ by_dyndep (dyndep_at graph e) is
  where
    by_dyndep : (d : Option ℕ) → is_place d file ≡ true → option_map (text_at graph.manifest.paths) d ≡ Some (text_at graph.manifest.paths file)
    by_dyndep None is = absurd (false≢true is)
    by_dyndep (Some p) is = ap (λ (n : ℕ). Some (text_at graph.manifest.paths n)) (eqb-true p file is)

names_other : FilesStand → (graph : Graph) (e file : ℕ) → file < length graph.manifest.paths → is_place (dyndep_at graph e) file ≡ false → (edge_at (declared_by graph).edges (suc e)).dyndep ≡ Some (text_at graph.manifest.paths file) → ⊥
names_other stand graph e file within other is = by_dyndep (dyndep_at graph e) refl
  where
    by_dyndep : (d : Option ℕ) → dyndep_at graph e ≡ d → ⊥
    by_dyndep None none = some_none (text_at graph.manifest.paths file) (sym is ∙ (dyndep_is graph e ∙ ap (option_map (text_at graph.manifest.paths)) none))
    by_dyndep (Some p) some = false≢true (sym other ∙ (ap (λ (d : Option ℕ). is_place d file) some ∙ eq-eqb p file number))
      where
        same : text_at graph.manifest.paths p ≡ text_at graph.manifest.paths file
        same = same_some (text_at graph.manifest.paths p) (text_at graph.manifest.paths file) (sym (dyndep_is graph e ∙ ap (option_map (text_at graph.manifest.paths)) some) ∙ is)

        number : p ≡ file
        number = graph.apart p file (text_at graph.manifest.paths p) (slice_get-get_or graph.manifest.paths p [] (stand graph e p some).1)
            (slice_get-get_or graph.manifest.paths file [] within ∙ ap (λ (t : List ℕ). Some t) (sym {A = List ℕ} same))

-- a phony edge names none
alias_names : (graph : Graph) (i : ℕ) → (edge_at (declared_by graph).edges i).phony ≡ true → (edge_at (declared_by graph).edges i).dyndep ≡ None
alias_names graph zero phony = refl
alias_names graph (suc e) phony = ap (λ (x : Edge). x.dyndep) (edge_is graph.manifest e) ∙ by_action (get_or graph.manifest.actions e no_action) (sym (ap (λ (x : Edge). x.phony) (edge_is graph.manifest e)) ∙ phony)
  where
    by_action : (a : Action) → (edge_of graph.manifest.paths (line_at graph.manifest.lines e) a).phony ≡ true → (edge_of graph.manifest.paths (line_at graph.manifest.lines e) a).dyndep ≡ None
    by_action Alias is = refl
    by_action (Command command) is = absurd (false≢true is)

-- an edge with a file that is not loaded has no recorded inputs in use
pub none_unloaded : (phony : Bool) (d : Option (List ℕ)) (f : List ℕ) (rest : List (List ℕ)) (p : List ℕ) → d ≡ Some f → has (cond phony [] (cond (is_some d) [] rest)) p ≡ true → ⊥
none_unloaded true d f rest p is there = false≢true there
none_unloaded false d f rest p is there = false≢true (sym (ap (λ (o : Option (List ℕ)). has (cond (is_some o) [] rest) p) is) ∙ there)

nothing_in : (xs : List (List ℕ)) → ((q : List ℕ) → has xs q ≡ true → ⊥) → xs ≡ []
nothing_in [] none = refl
nothing_in (x ∷ xs) none = absurd (none x (here x xs))
  where
    here : (x : List ℕ) (xs : List (List ℕ)) → has (x ∷ xs) x ≡ true
    here x xs = or_left (bytes_eq x x) (has xs x) (bytes_same x)

-- ---- lists in front

pub text_front : (paths more : List (List ℕ)) (p : ℕ) → p < length paths → text_at (paths ++ more) p ≡ text_at paths p
text_front [] more p lt = absurd (omega (arith, lt))
text_front (x ∷ paths) more zero lt = refl
text_front (x ∷ paths) more (suc p) lt = text_front paths more p (omega (arith, lt))

pub texts_front : (paths more : List (List ℕ)) (numbers : List ℕ) → All (λ p. p < length paths) numbers → texts_at (paths ++ more) numbers ≡ texts_at paths numbers
texts_front paths more [] within = refl
texts_front paths more (n ∷ numbers) within =
    ap (λ (t : List ℕ). t ∷ texts_at (paths ++ more) numbers) (text_front paths more n (within 0 n (omega arith)))
    ∙ ap (λ (l : List (List ℕ)). text_at paths n ∷ l) (texts_front paths more numbers (λ k d lt. within (suc k) d (omega (arith, lt))))

pub same_graph : (b : BuildGraph) (pools : List Pool) (defaults : List (List ℕ)) (builddir : List ℕ) → pools ≡ b.pools → defaults ≡ b.defaults → builddir ≡ b.builddir
    → record { edges = b.edges; pools = pools; defaults = defaults; builddir = builddir } ≡ b
same_graph b pools defaults builddir one two three =
    ap (λ (x : List Pool). record { edges = b.edges; pools = x; defaults = defaults; builddir = builddir }) one
    ∙ (ap (λ (x : List (List ℕ)). record { edges = b.edges; pools = b.pools; defaults = x; builddir = builddir }) two
    ∙ ap (λ (x : List ℕ). record { edges = b.edges; pools = b.pools; defaults = b.defaults; builddir = x }) three)

-- ---- the file joins

-- the state, over another graph
abbrev pub with_graph : Work → Graph → Work
with_graph state graph =
    record { alloc = state.alloc; graph = graph; cone = state.cone; plan = state.plan; looks = state.looks; records = state.records; display = state.display; tick = state.tick; due = state.due; starts = state.starts; failed = state.failed }

-- so it may of a state that has the loaded graph already
pub may_over : {asked : Asked} {store : Store} {graph : Graph} {state : Work} {file : ℕ} → (loaded : Graph) → MayJoin asked store graph state file → MayJoin asked store graph (with_graph state loaded) file
may_over loaded may = record { same = may.same; recorded = may.recorded; known = may.known; over = may.over; some = may.some; within = may.within; seen = may.seen; targets = may.targets; numbers = may.numbers; listed = may.listed }

module _ {asked : Asked} {store : Store} {graph : Graph} {state : Work} {file : ℕ} (may : MayJoin asked store graph state file) where
  abbrev path : List ℕ
  path = text_at graph.manifest.paths file

  abbrev old : List Edge
  old = (declared_by graph).edges

  was_recorded : (i : ℕ) (p : List ℕ) → has (recorded_inputs store old i) p ≡ has (recorded_by graph i) p
  was_recorded i p = ap (λ (b : BuildGraph). has (recorded_inputs store b.edges i) p) (sym {A = BuildGraph} may.same) ∙ may.recorded i p

  none_recorded : (e : ℕ) → is_place (dyndep_at graph e) file ≡ true → (p : List ℕ) → has (recorded_by graph (suc e)) p ≡ true → ⊥
  none_recorded e names p there =
      none_unloaded (edge_at old (suc e)).phony (edge_at old (suc e)).dyndep path (recorded_of store (edge_at old (suc e))) p (names_it graph e file names) (was_recorded (suc e) p ∙ there)

  module _ {before : Before} {loaded : Graph} {additions : List Addition} (undoes : Undoes graph loaded file before) (has_it : HasLoaded graph loaded path additions) where
    abbrev numbers : List ℕ
    numbers = numbers_in before.edges.items

    -- the edges of the file are edges, and nothing is recorded of them
    pub numbers_within : FilesStand → (e : ℕ) → has_number numbers e ≡ true → e < length loaded.manifest.lines
    numbers_within stand e there = by_dyndep (dyndep_at graph e) refl (sym (undoes.edges e) ∙ there)
      where
        by_dyndep : (d : Option ℕ) → dyndep_at graph e ≡ d → is_place d file ≡ true → e < length loaded.manifest.lines
        by_dyndep None none is = absurd (false≢true is)
        by_dyndep (Some p) some is = subst (λ (n : ℕ). e < n) (sym {A = ℕ} has_it.lines) (stand graph e p some).0

    pub to_join : AreToJoin numbers loaded store.records store.deps
    to_join e there p is = absurd (none_recorded e (sym (undoes.edges e) ∙ there) p (ap (λ (l : List (List ℕ)). has l p) (sym (has_it.recorded (suc e))) ∙ is))

    -- just its edges have changed, and none of them is phony
    pub has_grown_by : FilesStand → {grown : Graph} → HasGrownAt numbers loaded grown → HasGrownBy numbers graph grown
    has_grown_by stand so_far = record {
      file = path;
      additions = additions;
      grown = subst (λ (b : BuildGraph). IsGrownBy path additions old b.edges) (sym {A = BuildGraph} so_far.grown.declared) has_it.grown;
      once = subst (λ (b : BuildGraph). IsMadeOnce b.edges) (sym {A = BuildGraph} so_far.grown.declared) has_it.once;
      paths = record {
        added = has_it.added ++ so_far.grown.more;
        grows = so_far.grown.paths ∙ (ap (λ (l : List (List ℕ)). l ++ so_far.grown.more) has_it.paths ∙ append_assoc graph.manifest.paths has_it.added so_far.grown.more);
      };
      others = λ e absent. names_other stand graph e file may.within (sym (undoes.edges e) ∙ absent);
      aliases = alias_names graph;
      recorded = λ e absent. so_far.others e absent ∙ ap (λ (l : List (List ℕ)). list_at l e) has_it.numbers;
    }

    -- ---- taken back

    pub may_take_back : {grown : Graph} → HasGrownAt numbers loaded grown → MayBeTakenBack graph loaded grown before
    may_take_back so_far = record {
      file = file;
      undoes = undoes;
      gained = record {
        paths = record { added = so_far.grown.more; grows = so_far.grown.paths };
        named = so_far.grown.named;
        actions = so_far.grown.actions;
        pools = ap (λ (b : BuildGraph). b.pools) so_far.grown.declared;
        defaults = so_far.grown.defaults;
        builddir = ap (λ (b : BuildGraph). b.builddir) so_far.grown.declared;
        lines = so_far.grown.lines;
        others = so_far.others;
        makers = so_far.grown.makers;
        users = so_far.grown.users;
      };
      none = λ e there. nothing_of graph.manifest.paths (list_at graph.recorded e) (nothing_in (recorded_by graph (suc e)) (none_recorded e (sym (undoes.edges e) ∙ there)));
    }

    module _ (stand : FilesStand) {grown : Graph} (joined : HasJoinedOf numbers loaded grown store.records store.deps) where
      abbrev next : List Edge
      next = (declared_by grown).edges

      by_place : (e : ℕ) (p : List ℕ) → (has_number numbers e ≡ true) ⊎ (has_number numbers e ≡ false) → has (recorded_inputs store next (suc e)) p ≡ has (recorded_by grown (suc e)) p
      by_place e p (inl there) = sym (joined.joined e there p)
      by_place e p (inr absent) =
          ap (λ (b : BuildGraph). has (recorded_inputs store b.edges (suc e)) p) joined.grown.declared
          ∙ (ap (λ (x : Edge). has (cond x.phony [] (cond (is_some x.dyndep) [] (recorded_of store x))) p) (has_it.grown.others (suc e) (names_other stand graph e file may.within (sym (undoes.edges e) ∙ absent)))
          ∙ (was_recorded (suc e) p
          ∙ ap (λ (l : List (List ℕ)). has l p) (sym (recorded_kept loaded grown joined.grown e (joined.others e absent) ∙ has_it.recorded (suc e)))))

      -- the recorded inputs of the graph are those in use
      pub recorded_now : AreSameInputs (recorded_inputs store next) (recorded_by grown)
      recorded_now zero p = refl
      recorded_now (suc e) p = by_place e p (cases_Bool (has_number numbers e))

      pub joined_file : HasJoinedFile store graph grown path additions
      joined_file = record { loaded = loaded; has = has_it; more = joined.grown; recorded = recorded_now }

      -- ---- what was asked, over the edges as they are now

      abbrev pub asked_now : Asked
      asked_now = asked_with asked next

      same_manifest : (declared_by grown).pools ≡ (declared_by graph).pools
      same_manifest = ap (λ (b : BuildGraph). b.pools) joined.grown.declared ∙ has_it.pools

      same_defaults : (declared_by grown).defaults ≡ (declared_by graph).defaults
      same_defaults = ap (λ (b : BuildGraph). b.defaults) joined.grown.declared ∙ has_it.defaults

      same_builddir : (declared_by grown).builddir ≡ (declared_by graph).builddir
      same_builddir = ap (λ (b : BuildGraph). b.builddir) joined.grown.declared ∙ has_it.builddir

      pub asked_same : asked_now.graph ≡ declared_by grown
      asked_same = same_graph (declared_by grown) asked.graph.pools asked.graph.defaults asked.graph.builddir
          (ap (λ (b : BuildGraph). b.pools) may.same ∙ sym same_manifest) (ap (λ (b : BuildGraph). b.defaults) may.same ∙ sym same_defaults) (ap (λ (b : BuildGraph). b.builddir) may.same ∙ sym same_builddir)

      paths_are : grown.manifest.paths ≡ graph.manifest.paths ++ (has_it.added ++ joined.grown.more)
      paths_are = joined.grown.paths ∙ (ap (λ (l : List (List ℕ)). l ++ joined.grown.more) has_it.paths ∙ append_assoc graph.manifest.paths has_it.added joined.grown.more)

      pub longer : length graph.manifest.paths ≤ length grown.manifest.paths
      longer = let sum = ap length paths_are ∙ length-append graph.manifest.paths (has_it.added ++ joined.grown.more) in omega (arith, sum)

      pub targets_within : All (λ p. p < length grown.manifest.paths) state.cone.targets.items
      targets_within k d lt = let was = may.targets k d lt in omega (arith, was, longer)

      pub targets_are : targets_of (declared_graph asked_now) asked_now.targets ≡ texts_at grown.manifest.paths state.cone.targets.items
      targets_are =
          sym may.numbers
          ∙ sym (ap (λ (l : List (List ℕ)). texts_at l state.cone.targets.items) paths_are ∙ texts_front graph.manifest.paths (has_it.added ++ joined.grown.more) state.cone.targets.items may.targets)

      -- edges need one another in a circle
      pub circle_by : (refusal : Refusal) → IsCircle asked_now store refusal → IsUnjoined asked store path additions refusal
      circle_by refusal circle = inr (record { next = next; grown = grown_by_it; once = once_now; circle = circle })
        where
          grown_by_it : IsGrownBy path additions asked.graph.edges next
          grown_by_it = subst (λ (b : BuildGraph). IsGrownBy path additions b.edges next) (sym {A = BuildGraph} may.same)
              (subst (λ (b : BuildGraph). IsGrownBy path additions old b.edges) (sym {A = BuildGraph} joined.grown.declared) has_it.grown)

          once_now : IsMadeOnce next
          once_now = subst (λ (b : BuildGraph). IsMadeOnce b.edges) (sym {A = BuildGraph} joined.grown.declared) has_it.once

      -- ---- the plan, what was seen, and the records

      -- what another edge needs is as it was when the file was loaded
      needs_kept : (e : ℕ) → has_number numbers e ≡ false → needs_of grown e ≡ needs_of loaded e
      needs_kept e absent =
          ap (λ (l : List Line). line_inputs (line_at l e) ++ list_at grown.recorded e) joined.grown.lines
          ∙ ap (λ (r : List ℕ). line_inputs (line_at loaded.manifest.lines e) ++ r) (joined.others e absent)

      files_kept : (e : ℕ) → dyndep_at grown e ≡ dyndep_at loaded e
      files_kept e = ap (λ (l : List Action). dyndep_of (get_or l e no_action)) joined.grown.actions

      maker_kept : (p : ℕ) → (links_of grown).maker p ≡ (links_of loaded).maker p
      maker_kept p = ap (λ v. maker_in v p) joined.grown.makers

      still_alone : HasGrownAlone numbers before.file graph loaded → HasGrownAlone numbers before.file graph grown
      still_alone alone = record {
        were = alone.were;
        below = alone.below;
        needs = λ e absent. needs_kept e absent ∙ alone.needs e absent;
        files = λ e absent. files_kept e ∙ alone.files e absent;
        loaded = λ e there. files_kept e ∙ alone.loaded e there;
        made = λ p e is. maker_kept p ∙ alone.made p e is;
        makers = λ p e is. alone.makers p e (sym (maker_kept p) ∙ is);
      }

      pub may_go_on_by : MayGoOnBy graph loaded state.plan before → MayGoOnBy graph grown state.plan before
      may_go_on_by goes = record {
        over = goes.over;
        some = goes.some;
        edges = ap length joined.grown.lines ∙ goes.edges;
        paths = let sum = ap length joined.grown.paths ∙ length-append loaded.manifest.paths joined.grown.more in let was = goes.paths in omega (arith, sum, was);
        pools = ap (λ (b : BuildGraph). b.pools) joined.grown.declared ∙ goes.pools;
        pool = λ i. ap (λ (b : BuildGraph). (edge_at b.edges i).pool) joined.grown.declared ∙ goes.pool i;
        alone = still_alone goes.alone;
      }

      -- what was recorded is so still
      still_recorded : (i : ℕ) (p : List ℕ) → has (recorded_inputs store old i) p ≡ true → has (recorded_by grown i) p ≡ true
      still_recorded zero p there = absurd (false≢true there)
      still_recorded (suc e) p there = by (has_number numbers e) refl
        where
          noted : has (recorded_by graph (suc e)) p ≡ true
          noted = sym (was_recorded (suc e) p) ∙ there

          by : (b : Bool) → has_number numbers e ≡ b → has (recorded_by grown (suc e)) p ≡ true
          by true named = absurd (none_recorded e (sym (undoes.edges e) ∙ named) p noted)
          by false other = ap (λ (l : List (List ℕ)). has l p) (recorded_kept loaded grown joined.grown e (joined.others e other) ∙ has_it.recorded (suc e)) ∙ noted

      -- the cone may be kept
      pub may_keep : MayGoOnBy graph grown state.plan before → MayKeep grown state.cone before
      may_keep goes = record {
        old = graph;
        earlier = recorded_inputs store old;
        within = subst (λ (n : ℕ). n < length graph.manifest.paths) (sym {A = ℕ} undoes.of) may.within;
        lines = goes.edges;
        additions = additions;
        grown = subst (λ (b : BuildGraph). IsGrownBy (text_at graph.manifest.paths before.file) additions old b.edges) (sym {A = BuildGraph} joined.grown.declared)
            (subst (λ (n : ℕ). IsGrownBy (text_at graph.manifest.paths n) additions old (declared_by loaded).edges) (sym {A = ℕ} undoes.of) has_it.grown);
        alone = goes.alone;
        were = was_recorded;
        stay = still_recorded;
        was = subst (λ (ts : List (List ℕ)). IsConeOf old (recorded_inputs store old) ts state.cone.order.items state.cone.marks.items) same_targets may.listed;
      }
        where
          same_targets : texts_at graph.manifest.paths state.cone.targets.items ≡ texts_at grown.manifest.paths state.cone.targets.items
          same_targets = sym (ap (λ (l : List (List ℕ)). texts_at l state.cone.targets.items) paths_are ∙ texts_front graph.manifest.paths (has_it.added ++ joined.grown.more) state.cone.targets.items may.targets)

      pub seen_fits : length state.looks.seen.items ≤ length grown.manifest.paths
      seen_fits = let was = may.seen in omega (arith, was, longer)

-- ---- a cone that is kept

pub file_is : (o : Option ℕ) (n : ℕ) → is_place o n ≡ true → o ≡ Some n
file_is None n is = absurd (false≢true is)
file_is (Some m) n is = ap (λ (k : ℕ). Some k) (eqb-true m n is)

pub kept_cone : (graph : Graph) (recorded : ℕ → List (List ℕ)) (cone : Cone) → IsConeOf (declared_by graph).edges recorded (texts_at graph.manifest.paths cone.targets.items) cone.order.items cone.marks.items → IsConeOfNumbers graph recorded cone.targets.items cone
kept_cone graph recorded cone listed = record {
  listed = listed;
  acyclic = λ i in_cone. no_cycle_by_order (declared_by graph).edges recorded (map suc cone.order.items) listed.ordered i (listed.all i in_cone);
  numbers = refl;
}

-- ---- records that shrink again

-- they are known of the graph for which they were, whatever was looked up on the way
pub known_alike : (graph : Graph) (rs : List Record) (ds : List DepsRecord) (old new : Records) → new.logs ≡ old.logs → new.places.items ≡ old.places.items → new.deps_places.items ≡ old.deps_places.items → AreKnown graph rs ds old → AreKnown graph rs ds new
known_alike graph rs ds was new logs places deps_places known = record {
  paths = known.paths;
  more = known.more;
  grown = known.grown;
  outputs = known.outputs;
  known = record {
    keeps = subst (λ (l : Logs). Keeps rs l.build_log.log) (sym {A = Logs} logs) known.known.keeps;
    fits = subst (λ (l : List (Option ℕ)). length l ≤ length known.paths) (sym places) known.known.fits;
    made = subst (λ (l : List (Option ℕ)). ArePlaces makings in_force rs known.paths l) (sym places) known.known.made;
  };
  told = record {
    keeps = subst (λ (l : Logs). KeepsDeps ds l.deps_log.log) (sym {A = Logs} logs) known.told.keeps;
    fits = subst (λ (l : List (Option ℕ)). length l ≤ length known.paths) (sym deps_places) known.told.fits;
    told = subst (λ (l : List (Option ℕ)). ArePlaces tolds deps_in_force ds known.paths l) (sym deps_places) known.told.told;
  };
}

-- what was looked up for these paths stands within them
pub taken_whole : (n : ℕ) (was now shrunk : List (Option ℕ)) → shrunk ≡ take n now → now ≡ was → length was ≤ n → shrunk ≡ was
taken_whole n was now shrunk is same low = is ∙ (ap (take n) same ∙ take_all n was low)

module _ (graph : Graph) (added : List (List ℕ)) (loaded : Graph) (grows : loaded.manifest.paths ≡ graph.manifest.paths ++ added) (was now shrunk : Records) where
  pub known_shrunk : MayShrink loaded was now → shrunk.logs ≡ was.logs → shrunk.places.items ≡ take (length graph.manifest.paths) now.places.items → shrunk.deps_places.items ≡ take (length graph.manifest.paths) now.deps_places.items
      → AreStillKnown graph now shrunk → StayKnown graph graph was shrunk
  known_shrunk (inl same) logs places deps_places still rs ds known =
      let long = ap length known.grown ∙ length-append known.paths known.more in
      let few = known.known.fits in
      let few_deps = known.told.fits in
      known_alike graph rs ds was shrunk logs
      (taken_whole (length graph.manifest.paths) was.places.items now.places.items shrunk.places.items places same.places (omega (arith, long, few)))
      (taken_whole (length graph.manifest.paths) was.deps_places.items now.deps_places.items shrunk.deps_places.items deps_places same.deps_places (omega (arith, long, few_deps))) known
  known_shrunk (inr all) logs places deps_places still rs ds known =
      let both = all graph added grows rs ds known in
      still added rs ds (subst (λ (l : List (List ℕ)). IsOf rs l now) grows both.0) (subst (λ (l : List (List ℕ)). IsOfDeps ds l now) grows both.1)
