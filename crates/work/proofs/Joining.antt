-- The recorded inputs in use join the graph, edge by edge.
use Rattle.std.proofs.Common.{◌≡◌, ◌⊎◌, inl, inr, ◌<◌, ◌≤◌, ◌+◌, ◌==◌, ◌&&◌, cond, Bool, true, false, ℕ, zero, suc, List, [], ◌∷◌, ◌++◌, length, take, get_or, slice_get, Option, Some, None, is_some, refl, sym, ◌∙◌, ap, subst, append_assoc, append-nil, arith}
use Rattle.std.specs.List.{list_all, All}
use Rattle.std.proofs.lemmas.Option.{slice_get-get_or}
use Rattle.std.specs.Option.{option_map, option_and_then}
use Rattle.std.proofs.lemmas.Bool.{cases_Bool, cases_eq, eq-eqb, false≢true, false_from_ne_true, or_left, or_right}
use Rattle.std.proofs.lemmas.List.{map-append, take_more, take_all, get_or_past, get_or_default}
use Rattle.std.proofs.lemmas.List.Folds.{list_all-map, list_all_more, list_all_at}
use Rattle.model.specs.declared.act.Act.{Act}
use Rattle.model.specs.declared.graph.BuildGraph.{BuildGraph}
use Rattle.model.specs.declared.graph.Edge.{Edge}
use Rattle.model.specs.declared.record.Record.{Record}
use Rattle.model.specs.declared.record.DepsRecord.{DepsRecord}
use Rattle.model.specs.Graph.{has, has_number, edge_at, no_edge, outputs}
use Rattle.model.specs.Records.{Store, Told, in_force, deps_in_force, is_known, paths_in, all_paths_in, recorded_inputs}
use Rattle.theory.proofs.Lists.{has_number-append, has_number-push, has_number-push_other}
use Rattle.log_text.specs.Kept.{if_some, texts_at as logged_at}
use Rattle.log_text.specs.DepsLog.{tolds}
use Rattle.paths.specs.declared.line.Line.{Line}
use Rattle.paths.specs.declared.manifest.Action.{Action}
use Rattle.paths.specs.declared.manifest.Action.TheVariants.{Alias, Command}
use Rattle.paths.specs.declared.manifest.Command.{Command as Does}
use Rattle.paths.specs.declared.manifest.Manifest.{Manifest}
use Rattle.paths.specs.Commands.{no_action}
use Rattle.paths.specs.Lists.{line_at, line_outputs}
use Rattle.paths.specs.Told.{text_at, texts_at, edge_of, graph_of}
use Rattle.graph.specs.declared.graph.Graph.{Graph}
use Rattle.graph.specs.Grown.{HasGained}
use Rattle.graph.specs.Held.{list_at}
use Rattle.graph.specs.LoadedEdges.{numbers_in}
use Rattle.graph.specs.declared.back.LoadedEdge.{LoadedEdge}
use Rattle.graph.specs.Links.{links_of}
use Rattle.graph.specs.Told.{declared_by, recorded_by}
use Rattle.theory.proofs.Mapped.{has_mapped, mapped_has}
use Rattle.records.specs.declared.records.Records.{Records}
use Rattle.records.specs.Known.{AreKnown}
use Rattle.judge.specs.Facts.{AreKnownOf}
use Rattle.work.specs.Recorded.{are_known, is_in_use, HasMorePaths, HasOnlyMorePaths, AreNumbered, HaveJust, IsShared, IsJoined, MayBeJoined, HasJoinedOf, AreJoined, HasJoined, deps_place, named_by}
use Rattle.work.proofs.Numbering.{text_before, texts_more, more_then, has_both}
use Rattle.work.proofs.Telling.{edge_is, outputs_are, length_edges}

-- ---- places

below_next : (e place : ℕ) → e < place + 1 → (e < place) ⊎ (e ≡ place)
below_next zero zero lt = inr refl
below_next zero (suc place) lt = inl (omega arith)
below_next (suc e) zero lt = absurd (omega (arith, lt))
below_next (suc e) (suc place) lt = elim (below_next e place (omega (arith, lt))) [ inl before ↦ inl (omega (arith, before)) | inr here ↦ inr (ap suc here) ]

below_or_past : (e count : ℕ) → (e < count) ⊎ (count ≤ e)
below_or_past e zero = inr (omega arith)
below_or_past zero (suc count) = inl (omega arith)
below_or_past (suc e) (suc count) = elim (below_or_past e count) [ inl before ↦ inl (omega (arith, before)) | inr past ↦ inr (omega (arith, past)) ]

at_has : (xs : List ℕ) (k d : ℕ) → k < length xs → has_number xs (get_or xs k d) ≡ true
at_has [] k d lt = absurd (omega (arith, lt))
at_has (x ∷ xs) zero d lt = or_left (x == x) (has_number xs x) (eq-eqb x x refl)
at_has (x ∷ xs) (suc k) d lt = or_right (x == get_or xs k d) (has_number xs (get_or xs k d)) (at_has xs k d (omega (arith, lt)))

-- ---- whether recorded inputs are in use

module _ (graph : Graph) (rs : List Record) (ds : List DepsRecord) where
  pub in_use_alias : (e : ℕ) (action : Action) → action ≡ get_or graph.manifest.actions e no_action → action ≡ Alias → false ≡ is_in_use rs ds (edge_at (declared_by graph).edges (suc e))
  in_use_alias e action does alias =
      sym (ap (is_in_use rs ds) (edge_is graph.manifest e ∙ ap (edge_of graph.manifest.paths (line_at graph.manifest.lines e)) (sym {A = Action} does ∙ alias)))

  module _ (e : ℕ) (action : Action) (command : Does) (does : action ≡ get_or graph.manifest.actions e no_action) (is : action ≡ Command command) where
    edge_does : edge_at (declared_by graph).edges (suc e) ≡ edge_of graph.manifest.paths (line_at graph.manifest.lines e) (Command command)
    edge_does = edge_is graph.manifest e ∙ ap (edge_of graph.manifest.paths (line_at graph.manifest.lines e)) (sym {A = Action} does ∙ is)

    some_text : (dyndep : Option ℕ) → is_some (option_map (text_at graph.manifest.paths) dyndep) ≡ is_some dyndep
    some_text None = refl
    some_text (Some d) = refl

    by_dyndep : (late : Bool) → is_some command.dyndep ≡ late
        → is_in_use rs ds (edge_at (declared_by graph).edges (suc e)) ≡ cond late false (are_known rs ds command.act (outputs (edge_of graph.manifest.paths (line_at graph.manifest.lines e) (Command command))))
    by_dyndep late test =
        ap (is_in_use rs ds) edge_does
        ∙ ap (λ (b : Bool). cond b false (are_known rs ds command.act (outputs (edge_of graph.manifest.paths (line_at graph.manifest.lines e) (Command command))))) (some_text command.dyndep ∙ test)

    pub in_use_late : is_some command.dyndep ≡ true → false ≡ is_in_use rs ds (edge_at (declared_by graph).edges (suc e))
    in_use_late late = sym (by_dyndep true late)

    pub in_use_command : is_some command.dyndep ≡ false → (known : Bool) → known ≡ are_known rs ds command.act (texts_at graph.manifest.paths (line_outputs (line_at graph.manifest.lines e)))
        → known ≡ is_in_use rs ds (edge_at (declared_by graph).edges (suc e))
    in_use_command none known known_is = known_is ∙ (ap (are_known rs ds command.act) (sym (outputs_are graph.manifest e) ∙ ap outputs edge_does) ∙ sym (by_dyndep false none))

-- the outputs of an edge are known, where all are
pub outputs_known : (graph : Graph) (rs : List Record) (ds : List DepsRecord) (records : Records) → AreKnown graph rs ds records → (e : ℕ) (numbers : List ℕ) → numbers ≡ (links_of graph).outputs e
    → AreKnownOf graph.manifest.paths numbers rs ds records
outputs_known graph rs ds records known e numbers are = record {
  first = known.paths;
  more = known.more;
  grown = known.grown;
  within = λ p made. known.outputs e p (subst (λ (l : List ℕ). has_number l p ≡ true) are made);
  known = known.known;
  told = known.told;
}

-- ---- what is known of several outputs

-- what is known of one of them by the paths in front is known of it by all
pub known_as : (paths : List (List ℕ)) (numbers : List ℕ) (rs : List Record) (ds : List DepsRecord) (records : Records) (of : AreKnownOf paths numbers rs ds records) (act : Act) (k n : ℕ) → k < length numbers → n ≡ get_or numbers k n → (is : Bool)
    → (n < length of.first → is ≡ is_known act (in_force rs (text_at of.first n)) (deps_in_force ds (text_at of.first n))) → is_known act (in_force rs (text_at paths n)) (deps_in_force ds (text_at paths n)) ≡ is
known_as paths numbers rs ds records of act k n lt at is known =
    let within = of.within n (subst (λ (m : ℕ). has_number numbers m ≡ true) (sym {A = ℕ} at) (at_has numbers k n lt)) in
    ap (λ (t : List ℕ). is_known act (in_force rs t) (deps_in_force ds t)) (ap (λ (l : List (List ℕ)). text_at l n) of.grown ∙ text_before of.first of.more n within) ∙ sym (known within)

module _ (paths : List (List ℕ)) (rs : List Record) (ds : List DepsRecord) (act : Act) (numbers : List ℕ) (k : ℕ) (lt : k < length numbers) where
  abbrev pub is_known_at : ℕ → Bool
  is_known_at n = is_known act (in_force rs (text_at paths n)) (deps_in_force ds (text_at paths n))

  known_so_far : (ns : List ℕ) → are_known rs ds act (texts_at paths ns) ≡ list_all is_known_at ns
  known_so_far ns = list_all-map (λ o. is_known act (in_force rs o) (deps_in_force ds o)) (text_at paths) ns

  pub known_next : (n : ℕ) → n ≡ get_or numbers k n → are_known rs ds act (texts_at paths (take k numbers)) ≡ true → is_known_at n ≡ true → are_known rs ds act (texts_at paths (take (k + 1) numbers)) ≡ true
  known_next n at before one =
      known_so_far (take (k + 1) numbers)
      ∙ (list_all_more is_known_at numbers k n lt
      ∙ (ap (λ (b : Bool). b && is_known_at (get_or numbers k n)) (sym (known_so_far (take k numbers)) ∙ before)
      ∙ (ap is_known_at (sym {A = ℕ} at) ∙ one)))

  pub known_not : (n : ℕ) → n ≡ get_or numbers k n → is_known_at n ≡ false → are_known rs ds act (texts_at paths numbers) ≡ false
  known_not n at other = known_so_far numbers ∙ list_all_at is_known_at numbers k n lt (ap is_known_at (sym {A = ℕ} at) ∙ other)

-- ---- what the records of several outputs name

-- one more path of a record of the log
pub logged_next : (texts : List (List ℕ)) (numbers : List ℕ) (k d : ℕ) → k < length numbers → logged_at texts (take (k + 1) numbers) ≡ logged_at texts (take k numbers) ++ if_some (slice_get texts (get_or numbers k d))
logged_next texts numbers k d lt = ap (logged_at texts) (take_more numbers k d lt) ∙ logged_last (take k numbers) (get_or numbers k d)
  where
    logged_last : (ns : List ℕ) (n : ℕ) → logged_at texts (ns ++ n ∷ []) ≡ logged_at texts ns ++ if_some (slice_get texts n)
    logged_last [] n = append-nil (if_some (slice_get texts n))
    logged_last (m ∷ ns) n = ap (λ (l : List (List ℕ)). if_some (slice_get texts m) ++ l) (logged_last ns n) ∙ sym (append_assoc (if_some (slice_get texts m)) (logged_at texts ns) (if_some (slice_get texts n)))

pub logged_item : (texts : List (List ℕ)) (items numbers : List ℕ) → items ≡ numbers → (k d : ℕ) → k < length items → logged_at texts (take k numbers) ++ if_some (slice_get texts (get_or items k d)) ≡ logged_at texts (take (k + 1) numbers)
logged_item texts items numbers same k d lt =
    subst (λ (ns : List ℕ). logged_at texts (take k ns) ++ if_some (slice_get texts (get_or items k d)) ≡ logged_at texts (take (k + 1) ns)) same (sym (logged_next texts items k d lt))

paths_append : (ds : List DepsRecord) (os qs : List (List ℕ)) → all_paths_in ds (os ++ qs) ≡ all_paths_in ds os ++ all_paths_in ds qs
paths_append ds [] qs = refl
paths_append ds (o ∷ os) qs = ap (λ (l : List (List ℕ)). paths_in (deps_in_force ds o) ++ l) (paths_append ds os qs) ∙ sym (append_assoc (paths_in (deps_in_force ds o)) (all_paths_in ds os) (all_paths_in ds qs))

pub named_next : (paths : List (List ℕ)) (ds : List DepsRecord) (numbers : List ℕ) (k n : ℕ) → k < length numbers → n ≡ get_or numbers k n → named_by paths ds numbers (k + 1) ≡ named_by paths ds numbers k ++ paths_in (deps_in_force ds (text_at paths n))
named_next paths ds numbers k n lt at =
    ap (λ (ns : List ℕ). all_paths_in ds (texts_at paths ns)) (take_more numbers k n lt ∙ ap (λ (m : ℕ). take k numbers ++ m ∷ []) (sym {A = ℕ} at))
    ∙ (ap (all_paths_in ds) (map-append (text_at paths) (take k numbers) (n ∷ []))
    ∙ (paths_append ds (texts_at paths (take k numbers)) (text_at paths n ∷ [])
    ∙ ap (λ (l : List (List ℕ)). named_by paths ds numbers k ++ l) (append-nil (paths_in (deps_in_force ds (text_at paths n))))))

-- what the record in force names is as it stands in the log
module _ (paths : List (List ℕ)) (numbers : List ℕ) (rs : List Record) (ds : List DepsRecord) (records : Records) (of : AreKnownOf paths numbers rs ds records) where
  module _ (p : ℕ) (made : has_number numbers p ≡ true) where
    same_text : text_at of.first p ≡ text_at paths p
    same_text = sym (ap (λ (l : List (List ℕ)). text_at l p) of.grown ∙ text_before of.first of.more p (of.within p made))

    pub told_by_deps : (found : Option Told) → (p < length of.first → found ≡ deps_in_force ds (text_at of.first p)) → paths_in (deps_in_force ds (text_at paths p)) ≡ paths_in found
    told_by_deps found is = ap (λ (t : List ℕ). paths_in (deps_in_force ds t)) (sym {A = List ℕ} same_text) ∙ sym (ap paths_in (is (of.within p made)))

    told_at_place : option_and_then (slice_get (tolds ds)) (deps_place records p) ≡ deps_in_force ds (text_at paths p)
    told_at_place = of.told.told p (of.within p made) ∙ ap (deps_in_force ds) same_text

  -- the paths of one more record
  pub named_too : (k n : ℕ) → k < length numbers → n ≡ get_or numbers k n → (found : Option Told) → (n < length of.first → found ≡ deps_in_force ds (text_at of.first n)) → named_by paths ds numbers k ++ paths_in found ≡ named_by paths ds numbers (k + 1)
  named_too k n lt at found is =
      sym (named_next paths ds numbers k n lt at ∙ ap (λ (l : List (List ℕ)). named_by paths ds numbers k ++ l) (told_by_deps n (subst (λ (m : ℕ). has_number numbers m ≡ true) (sym {A = ℕ} at) (at_has numbers k n lt)) found is))

  -- an output that shares the deps record of the one before it adds no path
  module _ (k : ℕ) (lt : k < length numbers) (shared : IsShared records numbers k) where
    abbrev here : List (List ℕ)
    here = paths_in (deps_in_force ds (text_at paths (get_or numbers k 0)))

    lt_before : shared.before < length numbers
    lt_before = let next = shared.next in omega (arith, lt, next)

    same_told : paths_in (deps_in_force ds (text_at paths (get_or numbers shared.before 0))) ≡ here
    same_told =
        ap paths_in
        (sym (told_at_place (get_or numbers shared.before 0) (at_has numbers shared.before 0 lt_before))
        ∙ (ap (option_and_then (slice_get (tolds ds))) shared.same ∙ told_at_place (get_or numbers k 0) (at_has numbers k 0 lt)))

    -- what is named up to here ends in that
    ends_so : named_by paths ds numbers k ≡ named_by paths ds numbers shared.before ++ here
    ends_so =
        ap (named_by paths ds numbers) (shared.next ∙ plus shared.before)
        ∙ (named_next paths ds numbers shared.before (get_or numbers shared.before 0) lt_before (get_or_default numbers shared.before 0 (get_or numbers shared.before 0) lt_before)
        ∙ ap (λ (l : List (List ℕ)). named_by paths ds numbers shared.before ++ l) same_told)
      where
        plus : (n : ℕ) → suc n ≡ n + 1
        plus n = omega arith

    pub adds_nothing : (p : List ℕ) → has (named_by paths ds numbers k) p ≡ has (named_by paths ds numbers (k + 1)) p
    adds_nothing p =
        sym (ap (λ (l : List (List ℕ)). has l p) (named_next paths ds numbers k (get_or numbers k 0) lt (get_or_default numbers k 0 (get_or numbers k 0) lt))
        ∙ (has_both (named_by paths ds numbers k) here p ∙ twice))
      where
        either : (a b : Bool) → cond (cond a true b) true b ≡ cond a true b
        either true b = refl
        either false true = refl
        either false false = refl

        there : has (named_by paths ds numbers k) p ≡ cond (has (named_by paths ds numbers shared.before) p) true (has here p)
        there = ap (λ (l : List (List ℕ)). has l p) ends_so ∙ has_both (named_by paths ds numbers shared.before) here p

        twice : cond (has (named_by paths ds numbers k) p) true (has here p) ≡ has (named_by paths ds numbers k) p
        twice = ap (λ (b : Bool). cond b true (has here p)) there ∙ (either (has (named_by paths ds numbers shared.before) p) (has here p) ∙ sym there)

-- ---- the graph gets the inputs of an edge

-- lists that have the same numbers have the same texts
same_texts : (paths : List (List ℕ)) (ms ns : List ℕ) → ((n : ℕ) → has_number ms n ≡ has_number ns n) → (p : List ℕ) → has (texts_at paths ms) p ≡ has (texts_at paths ns) p
same_texts paths ms ns same p = by_test (cases_Bool (has (texts_at paths ms) p))
  where
    one_way : (xs ys : List ℕ) → ((n : ℕ) → has_number xs n ≡ has_number ys n) → has (texts_at paths xs) p ≡ true → has (texts_at paths ys) p ≡ true
    one_way xs ys same h =
        let found = mapped_has (text_at paths) xs p h in
        subst (λ (t : List ℕ). has (texts_at paths ys) t ≡ true) found.2 (has_mapped (text_at paths) ys found.0 (sym (same found.0) ∙ found.1))

    by_test : (has (texts_at paths ms) p ≡ true) ⊎ (has (texts_at paths ms) p ≡ false) → has (texts_at paths ms) p ≡ has (texts_at paths ns) p
    by_test (inl there) = there ∙ sym (one_way ms ns same there)
    by_test (inr absent) = absent ∙ sym (false_from_ne_true _ (λ h. false≢true (sym absent ∙ one_way ns ms (λ n. sym (same n)) h)))

pub nothing_of : (paths : List (List ℕ)) (numbers : List ℕ) → texts_at paths numbers ≡ [] → numbers ≡ []
nothing_of paths [] is = refl
nothing_of paths (n ∷ numbers) is = absurd (differ is)
  where
    differ : text_at paths n ∷ texts_at paths numbers ≡ [] → ⊥
    differ e = cc

-- what is recorded keeps its texts where the graph gets more paths
pub recorded_more : (old new : Graph) → HasOnlyMorePaths old new → (i : ℕ) → recorded_by new i ≡ recorded_by old i
recorded_more old new more zero = refl
recorded_more old new more (suc e) =
    ap (λ (l : List (List ℕ)). texts_at new.manifest.paths (list_at l e)) more.recorded
    ∙ texts_more old new more.grown (list_at old.recorded e) (λ n h. old.recording.within e n h)

module _ (graph : Graph) (rs : List Record) (ds : List DepsRecord) where
  abbrev edge : ℕ → Edge
  edge e = edge_at (declared_by graph).edges (suc e)

  -- the recorded inputs in use, by whether there are such
  in_use_are : (e : ℕ) (is : Bool) → is_in_use rs ds (edge e) ≡ is → recorded_inputs (record { records = rs; deps = ds }) (declared_by graph).edges (suc e) ≡ cond is (all_paths_in ds (outputs (edge e))) []
  in_use_are e is test =
      by_tests (edge e).phony (is_some (edge e).dyndep) (are_known rs ds (edge e).act (outputs (edge e))) (all_paths_in ds (outputs (edge e)))
      ∙ ap (λ (b : Bool). cond b (all_paths_in ds (outputs (edge e))) []) test
    where
      by_tests : (phony dyndep known : Bool) (paths : List (List ℕ)) → cond phony [] (cond dyndep [] (cond known paths [])) ≡ cond (cond phony false (cond dyndep false known)) paths []
      by_tests true dyndep known paths = refl
      by_tests false true known paths = refl
      by_tests false false known paths = refl

  -- where they are not in use the edge has none
  pub joined_unused : (e : ℕ) → is_in_use rs ds (edge e) ≡ false → MayBeJoined graph rs ds e → IsJoined graph rs ds e
  joined_unused e none may p = by_test (cases_Bool (has (recorded_by graph (suc e)) p))
    where
      nothing : has (recorded_inputs (record { records = rs; deps = ds }) (declared_by graph).edges (suc e)) p ≡ false
      nothing = ap (λ (l : List (List ℕ)). has l p) (in_use_are e false none)

      by_test : (has (recorded_by graph (suc e)) p ≡ true) ⊎ (has (recorded_by graph (suc e)) p ≡ false)
          → has (recorded_by graph (suc e)) p ≡ has (recorded_inputs (record { records = rs; deps = ds }) (declared_by graph).edges (suc e)) p
      by_test (inl there) = absurd (false≢true (sym nothing ∙ may p there))
      by_test (inr absent) = absent ∙ sym nothing

  module _ (numbered new : Graph) (more : HasOnlyMorePaths graph numbered) (e : ℕ) (inputs : List ℕ) (gained : HasGained numbered new e inputs) where
    declared : declared_by new ≡ declared_by graph
    declared = ap graph_of gained.manifest ∙ more.grown.declared

    pub others_kept : (d : ℕ) → (d ≡ e → ⊥) → list_at new.recorded d ≡ list_at graph.recorded d
    others_kept d other = gained.others d other ∙ ap (λ (l : List (List ℕ)). list_at l d) more.recorded

    -- the edge gets them beside what it has, which is among them
    pub joined_used : is_in_use rs ds (edge e) ≡ true → HaveJust numbered inputs (all_paths_in ds (outputs (edge e))) → MayBeJoined graph rs ds e → IsJoined new rs ds e
    joined_used used just may p =
        subst (λ (g : BuildGraph). has (recorded_by new (suc e)) p ≡ has (recorded_inputs (record { records = rs; deps = ds }) g.edges (suc e)) p) (sym {A = BuildGraph} declared)
        (ap (λ (m : Manifest). has (texts_at m.paths (list_at new.recorded e)) p) gained.manifest
        ∙ (same_texts numbered.manifest.paths (list_at new.recorded e) (list_at numbered.recorded e ++ inputs) either p
        ∙ (ap (λ (l : List (List ℕ)). has l p) (map-append (text_at numbered.manifest.paths) (list_at numbered.recorded e) inputs)
        ∙ (has_both (texts_at numbered.manifest.paths (list_at numbered.recorded e)) (texts_at numbered.manifest.paths inputs) p
        ∙ (ap (λ (b : Bool). cond (has (texts_at numbered.manifest.paths (list_at numbered.recorded e)) p) true b) (just.same p)
        ∙ (absorbed (has (texts_at numbered.manifest.paths (list_at numbered.recorded e)) p) (has (all_paths_in ds (outputs (edge e))) p) among
        ∙ sym named))))))
      where
        named : has (recorded_inputs (record { records = rs; deps = ds }) (declared_by graph).edges (suc e)) p ≡ has (all_paths_in ds (outputs (edge e))) p
        named = ap (λ (l : List (List ℕ)). has l p) (in_use_are e true used)

        either : (n : ℕ) → has_number (list_at new.recorded e) n ≡ has_number (list_at numbered.recorded e ++ inputs) n
        either n = gained.gained n ∙ sym (has_number-append (list_at numbered.recorded e) inputs n)

        absorbed : (a b : Bool) → (a ≡ true → b ≡ true) → cond a true b ≡ b
        absorbed true b among = sym (among refl)
        absorbed false b among = refl

        among : has (texts_at numbered.manifest.paths (list_at numbered.recorded e)) p ≡ true → has (all_paths_in ds (outputs (edge e))) p ≡ true
        among there = sym named ∙ may p (ap (λ (l : List (List ℕ)). has l p) (sym (recorded_more graph numbered more (suc e))) ∙ there)

-- ---- from one graph to the next

module _ (old new : Graph) (more : HasMorePaths old new) (e : ℕ) (same : list_at new.recorded e ≡ list_at old.recorded e) where
  pub recorded_kept : recorded_by new (suc e) ≡ recorded_by old (suc e)
  recorded_kept = ap (texts_at new.manifest.paths) same ∙ texts_more old new more (list_at old.recorded e) (λ n h. old.recording.within e n h)

  module _ (rs : List Record) (ds : List DepsRecord) where
    inputs_kept : (p : List ℕ) → has (recorded_inputs (record { records = rs; deps = ds }) (declared_by new).edges (suc e)) p ≡ has (recorded_inputs (record { records = rs; deps = ds }) (declared_by old).edges (suc e)) p
    inputs_kept p = ap (λ (g : BuildGraph). has (recorded_inputs (record { records = rs; deps = ds }) g.edges (suc e)) p) more.declared

    pub joined_more : IsJoined old rs ds e → IsJoined new rs ds e
    joined_more joined p = ap (λ (l : List (List ℕ)). has l p) recorded_kept ∙ (joined p ∙ sym (inputs_kept p))

    pub may_be_more : MayBeJoined old rs ds e → MayBeJoined new rs ds e
    may_be_more may p there = inputs_kept p ∙ may p (ap (λ (l : List (List ℕ)). has l p) (sym recorded_kept) ∙ there)

-- nothing is recorded yet of the next edge
pub may_be_first : (graph : Graph) (rs : List Record) (ds : List DepsRecord) (place : ℕ) → AreJoined graph rs ds place → MayBeJoined graph rs ds place
may_be_first graph rs ds place so_far p there = absurd (false≢true (ap (λ (l : List (List ℕ)). has l p) (sym (so_far.others place (λ h. omega (arith, h)))) ∙ there))

pub joined_next : (old new : Graph) (rs : List Record) (ds : List DepsRecord) (place : ℕ) → AreJoined old rs ds place → HasMorePaths old new → ((e : ℕ) → (e ≡ place → ⊥) → list_at new.recorded e ≡ list_at old.recorded e)
    → IsJoined new rs ds place → AreJoined new rs ds (place + 1)
joined_next old new rs ds place so_far more others here = record {
  joined = λ e lt p. elim (below_next e place lt) [
    | inl before ↦ joined_more old new more e (others e (λ same. omega (arith, before, same))) rs ds (so_far.joined e before) p
    | inr is ↦ subst (λ (d : ℕ). has (recorded_by new (suc d)) p ≡ has (recorded_inputs (record { records = rs; deps = ds }) (declared_by new).edges (suc d)) p) (sym {A = ℕ} is) (here p)
  ];
  others = λ e other. recorded_kept old new more e (others e (λ same. other (omega (arith, same)))) ∙ so_far.others e (λ h. other (omega (arith, h)));
}

-- ---- the edges of a file that was loaded

-- the numbers of the first edges, and one more
pub numbers_next : (edges : List LoadedEdge) (k : ℕ) (d : LoadedEdge) → k < length edges → numbers_in (take (k + 1) edges) ≡ numbers_in (take k edges) ++ (get_or edges k d).edge ∷ []
numbers_next edges k d lt = ap numbers_in (take_more edges k d lt) ∙ map-append (λ (l : LoadedEdge). l.edge) (take k edges) (get_or edges k d ∷ [])

pub numbers_whole : (edges : List LoadedEdge) (k : ℕ) → length edges ≤ k → numbers_in (take k edges) ≡ numbers_in edges
numbers_whole edges k past = ap numbers_in (take_all k edges past)

pub numbers_at : (edges : List LoadedEdge) (k : ℕ) (d : LoadedEdge) → k < length edges → has_number (numbers_in edges) (get_or edges k d).edge ≡ true
numbers_at [] k d lt = absurd (omega (arith, lt))
numbers_at (l ∷ edges) zero d lt = or_left (l.edge == l.edge) (has_number (numbers_in edges) l.edge) (eq-eqb l.edge l.edge refl)
numbers_at (l ∷ edges) (suc k) d lt = or_right (l.edge == (get_or edges k d).edge) (has_number (numbers_in edges) (get_or edges k d).edge) (numbers_at edges k d (omega (arith, lt)))

module _ (xs : List ℕ) (n : ℕ) (first now new : Graph) (rs : List Record) (ds : List DepsRecord) (so_far : HasJoinedOf xs first now rs ds) (may : MayBeJoined first rs ds n) where
  pub may_be_now : MayBeJoined now rs ds n
  may_be_now = by_test (cases_Bool (has_number xs n))
    where
      by_test : (has_number xs n ≡ true) ⊎ (has_number xs n ≡ false) → MayBeJoined now rs ds n
      by_test (inl before) p there = sym (so_far.joined n before p) ∙ there
      by_test (inr not_before) p there = may_be_more first now so_far.grown n (so_far.others n not_before) rs ds may p there

  -- one more of them
  pub joined_push : HasMorePaths now new → ((e : ℕ) → (e ≡ n → ⊥) → list_at new.recorded e ≡ list_at now.recorded e) → IsJoined new rs ds n → HasJoinedOf (xs ++ n ∷ []) first new rs ds
  joined_push more others here = record {
    grown = more_then first now new so_far.grown more;
    joined = λ e there. elim (cases_eq e n) [
      | inl same ↦ subst (λ (d : ℕ). IsJoined new rs ds d) (sym {A = ℕ} same) here
      | inr other ↦ joined_more now new more e (others e other) rs ds (so_far.joined e (sym (has_number-push_other xs n e (λ same. other (sym same))) ∙ there))
    ];
    others = λ e absent.
        let other : e ≡ n → ⊥ = (λ same. false≢true (sym absent ∙ (ap (has_number (xs ++ n ∷ [])) same ∙ has_number-push xs n))) in
        others e other ∙ so_far.others e (sym (has_number-push_other xs n e (λ same. other (sym same))) ∙ absent);
  }

pub numbered_gained : (numbered new : Graph) (e : ℕ) (inputs : List ℕ) → HasGained numbered new e inputs → (texts : List (List ℕ)) (numbers : List (Option ℕ)) → AreNumbered numbered texts numbers → AreNumbered new texts numbers
numbered_gained numbered new e inputs gained texts numbers are k n is =
    subst (λ (m : Manifest). (n < length m.paths) × (slice_get texts k ≡ Some (text_at m.paths n))) (sym {A = Manifest} gained.manifest) (are k n is)

pub all_within : (graph : Graph) (numbers items : List ℕ) (paths : List (List ℕ)) → items ≡ numbers → HaveJust graph numbers paths → All (λ p. p < length graph.manifest.paths) items
all_within graph numbers items paths same just = subst (λ (l : List ℕ). All (λ p. p < length graph.manifest.paths) l) (sym {A = List ℕ} same) (λ k d lt. just.within k (get_or numbers k d) (slice_get-get_or numbers k d lt))

pub numbered_none : (graph : Graph) (texts : List (List ℕ)) (numbers : List (Option ℕ)) → numbers ≡ [] → AreNumbered graph texts numbers
numbered_none graph texts numbers none k n is = absurd (differ n (sym (ap (λ (l : List (Option ℕ)). get_or l k None) none) ∙ is))
  where
    differ : (n : ℕ) → None ≡ Some n → ⊥
    differ n e = cc

-- ---- before the first edge, and behind the last

pub joined_none : (graph : Graph) (rs : List Record) (ds : List DepsRecord) → ((i : ℕ) → recorded_by graph i ≡ []) → AreJoined graph rs ds 0
joined_none graph rs ds none = record { joined = λ e lt p. absurd (omega (arith, lt)); others = λ e other. none (suc e) }

pub known_more : (old new : Graph) → HasMorePaths old new → (rs : List Record) (ds : List DepsRecord) (records : Records) → AreKnown old rs ds records → AreKnown new rs ds records
known_more old new more rs ds records known = record {
  paths = known.paths;
  more = known.more ++ more.more;
  grown = more.paths ∙ (ap (λ (l : List (List ℕ)). l ++ more.more) known.grown ∙ append_assoc known.paths known.more more.more);
  outputs = λ e p made. known.outputs e p (subst (λ (ls : List Line). has_number (line_outputs (line_at ls e)) p ≡ true) more.lines made);
  known = known.known;
  told = known.told;
}

pub has_joined : (old new : Graph) (rs : List Record) (ds : List DepsRecord) (records : Records) (count : ℕ) → length new.manifest.lines ≤ count → HasMorePaths old new → AreKnown old rs ds records → AreJoined new rs ds count
    → HasJoined old new rs ds records
has_joined old new rs ds records count all more known all_joined = record {
  grown = more;
  known = known_more old new more rs ds records known;
  in_use = λ store is_records is_deps i p.
      let is : store ≡ record { records = rs; deps = ds } =
      ap (λ (l : List Record). record { records = l; deps = store.deps }) is_records ∙ ap (λ (l : List DepsRecord). record { records = rs; deps = l }) is_deps in
      ap (λ (s : Store). has (recorded_inputs s edges i) p) is ∙ sym (by_job i p);
}
  where
    edges : List Edge
    edges = (declared_by new).edges

    past : (e : ℕ) → count ≤ e → edge_at edges (suc e) ≡ no_edge
    past e lt = get_or_past edges e no_edge (let long = length_edges new.manifest.paths new.manifest.lines new.manifest.actions new.manifest.fits in omega (arith, all, lt, long))

    by_place : (e : ℕ) (p : List ℕ) → (e < count) ⊎ (count ≤ e) → has (recorded_by new (suc e)) p ≡ has (recorded_inputs (record { records = rs; deps = ds }) edges (suc e)) p
    by_place e p (inl lt) = all_joined.joined e lt p
    by_place e p (inr lt) =
        ap (λ (l : List (List ℕ)). has l p)
        (all_joined.others e (λ h. omega (arith, h, lt)) ∙ sym (in_use_are new rs ds e false (ap (is_in_use rs ds) (past e lt))))

    by_job : (i : ℕ) (p : List ℕ) → has (recorded_by new i) p ≡ has (recorded_inputs (record { records = rs; deps = ds }) edges i) p
    by_job zero p = refl
    by_job (suc e) p = by_place e p (below_or_past e count)
