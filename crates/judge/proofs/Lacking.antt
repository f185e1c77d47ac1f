-- What looking for sources tells of the files.
use Rattle.std.proofs.Common.{◌≡◌, ◌↔◌, ℕ, suc, ◌+◌, ◌<◌, ◌≤◌, ◌==◌, Bool, true, false, List, [], ◌∷◌, ◌++◌, Option, Some, None, IfSome, length, take, drop, get_or, refl, sym, ◌∙◌, ap, subst, arith}
use borrow.Author.Count.{below_more}
use Rattle.std.proofs.lemmas.Bool.{false≢true, or_right}
use Rattle.std.proofs.lemmas.List.{map-append, take_more, drop_more, take-append-drop, get_or_past}
use Rattle.model.specs.declared.event.Moment.{Moment}
use Rattle.model.specs.declared.graph.Edge.{Edge}
use Rattle.model.specs.World.{World, file_at}
use Rattle.model.specs.Calls.{OnlyLooks}
use Rattle.model.specs.Graph.{has, has_number, edge_at, later_number, regular_inputs, inputs, maker}
use Rattle.model.specs.OutOfDate.{IsDue, IsMissing, NoneIsMissing, IsFirstMissing}
use Rattle.model.specs.Records.{Store, recorded_inputs}
use Rattle.model.specs.Schedule.{Step, out_of_date_in}
use Rattle.theory.proofs.Lists.{all_append, has-left, some_none}
use Rattle.paths.specs.Told.{text_at, texts_at}
use Rattle.graph.specs.declared.graph.Graph.{Graph}
use Rattle.graph.specs.declared.cone.Mark.{Mark}
use Rattle.graph.specs.declared.cone.Mark.TheVariants.{Unseen}
use Rattle.graph.specs.Cone.{mark_at, is_listed}
use Rattle.graph.specs.Linked.{IsConeOf, StandFor}
use Rattle.graph.specs.Links.{links_of}
use Rattle.graph.specs.Told.{declared_by}
use Rattle.judge.specs.declared.lack.Lack.{Lack}
use Rattle.judge.specs.declared.looks.Looks.{Looks}
use Rattle.judge.specs.Looking.{HasLooked}
use Rattle.judge.specs.Facts.{AreIn}
use Rattle.judge.specs.Quiet.{IsUnmade, HasPathsFor, IfStill}
use Rattle.judge.specs.Dues.{AreDue, due_at, is_absent, IsSourceIn, AreSourcesIn, HasAllSources}
use Rattle.judge.specs.Lacks.{IsFound, IsLackedBy, NoneBelow, IsMissingAt, IsFirstIn, IsFirstFor, IsFirstOfDue, IsFoundOfDue, IsSourceOf, IsSourceFor}
use Rattle.judge.proofs.AliasDues.{none_there, there_none}
use Rattle.judge.proofs.NumbersAsTexts.{has_here, has_text, suc_has}
use Rattle.judge.proofs.FilesStay.{Follow, Stay, still_first, still_second, all_at}

-- ---- one path

pub missing_by : (edges : List Edge) (paths : List (List ℕ)) (files : List Moment) (p : ℕ) → maker edges (text_at paths p) ≡ None → (is : Bool) → is ≡ is_absent paths files p → (is ≡ true) ↔ IsMissing edges files (text_at paths p)
missing_by edges paths files p source is seen = (
  (λ so. record { source = source; absent = none_there (file_at files (text_at paths p)) (sym seen ∙ so) }),
  (λ missing. seen ∙ there_none (file_at files (text_at paths p)) missing.absent),
)

-- ---- several paths

module _ (edges : List Edge) (paths : List (List ℕ)) (files : List Moment) (xs : List ℕ) (k d : ℕ) (lt : k < length xs) (none : NoneIsMissing edges files (texts_at paths (take k xs))) where
  pub none_more : (IsMissing edges files (text_at paths (get_or xs k d)) → ⊥) → NoneIsMissing edges files (texts_at paths (take (k + 1) xs))
  none_more there =
      subst (NoneIsMissing edges files) (sym (ap (texts_at paths) (take_more xs k d lt) ∙ map-append (text_at paths) (take k xs) (get_or xs k d ∷ [])))
      (all_append (λ p. IsMissing edges files p → ⊥) (texts_at paths (take k xs)) (text_at paths (get_or xs k d) ∷ []) none (there, tt))

  pub first_here : IsMissing edges files (text_at paths (get_or xs k d)) → IsFirstMissing edges files (texts_at paths xs) (text_at paths (get_or xs k d))
  first_here missing = record {
    before = texts_at paths (take k xs);
    after = texts_at paths (drop (k + 1) xs);
    splits = ap (texts_at paths) (sym (take-append-drop k xs) ∙ ap (λ (l : List ℕ). take k xs ++ l) (drop_more xs k d lt)) ∙ map-append (text_at paths) (take k xs) (get_or xs k d ∷ drop (k + 1) xs);
    earlier = none;
    missing = missing;
  }

-- ---- a path more, by a call

module _ (follow : Follow) (stay : Stay) (tells : Bool) (graph : Graph) (a b c : World) (first_looks second_looks : Looks) (first : HasLooked tells graph a b first_looks second_looks) (second : OnlyLooks tells b c) where
  abbrev all : List Edge
  all = (declared_by graph).edges

  abbrev table : List (List ℕ)
  table = graph.manifest.paths

  module _ (xs : List ℕ) (k d : ℕ) (within : k < length xs) (so_far : IfStill tells graph a b first_looks (λ set files. AreSourcesIn set graph xs → NoneIsMissing all files (texts_at table (take k xs))))
      (p : ℕ) (is_at : p ≡ get_or xs k d) (is : Bool) (now : IfStill tells graph b c second_looks (IsMissingAt graph p is))
    where
      none_before : IfStill tells graph a c first_looks (λ set files. AreSourcesIn set graph xs → NoneIsMissing all files (texts_at table (take k xs)))
      none_before = still_first follow stay tells graph a b c first_looks second_looks first second (λ set files. AreSourcesIn set graph xs → NoneIsMissing all files (texts_at table (take k xs))) so_far

      said : IfStill tells graph a c first_looks (λ set files. AreSourcesIn set graph xs → (is ≡ true) ↔ IsMissing all files (text_at table (get_or xs k d)))
      said told set kept seen files same fit =
          subst (λ (q : ℕ). (is ≡ true) ↔ IsMissing all files (text_at table q)) is_at
          (still_second follow stay tells graph a b c first_looks second_looks first second (IsMissingAt graph p is) now told set kept seen files same (subst (IsSourceIn set graph) (sym is_at) (all_at (IsSourceIn set graph) xs k d within fit)))

      pub missing_passed : is ≡ false → IfStill tells graph a c first_looks (λ set files. AreSourcesIn set graph xs → NoneIsMissing all files (texts_at table (take (k + 1) xs)))
      missing_passed not_so told set kept seen files same fit =
          none_more all table files xs k d within (none_before told set kept seen files same fit) (λ missing. false≢true (sym not_so ∙ (said told set kept seen files same fit).1 missing))

      pub missing_found : is ≡ true → IfStill tells graph a c first_looks (λ set files. AreSourcesIn set graph xs → IsFirstIn graph xs files (Some p))
      missing_found so told set kept seen files same fit =
          subst (λ (q : ℕ). IsFirstMissing all files (texts_at table xs) (text_at table q)) (sym is_at)
          (first_here all table files xs k d within (none_before told set kept seen files same fit) ((said told set kept seen files same fit).0 so))

-- ---- whatever the files are

-- a source among the inputs of an edge
pub source_for : (graph : Graph) → StandFor (declared_by graph).edges graph.manifest.paths (links_of graph) → (e : ℕ) (found : Option ℕ) → IfSome found (IsSourceOf graph ((links_of graph).inputs e)) → IfSome found (IsSourceFor graph e)
source_for graph stands e None named = tt
source_for graph stands e (Some p) named = record {
  within = named.within;
  source = named.source;
  input = subst (λ (l : List (List ℕ)). has l (text_at graph.manifest.paths p) ≡ true) (stands.inputs_are e) (has_text graph.manifest.paths ((links_of graph).inputs e) p named.listed);
}

-- ---- several edges

module _ (graph : Graph) (due : List Bool) (files : List Moment) where
  -- what was found of an edge's inputs
  pub first_for : StandFor (declared_by graph).edges graph.manifest.paths (links_of graph) → (e : ℕ) → due_at due e ≡ true → (found : Option ℕ) → IsFirstIn graph ((links_of graph).inputs e) files found → IsFirstFor graph due e files found
  first_for stands e is_due None none = λ so. subst (NoneIsMissing (declared_by graph).edges files) (stands.inputs_are e) none
  first_for stands e is_due (Some p) first = (is_due, subst (λ (l : List (List ℕ)). IsFirstMissing (declared_by graph).edges files l (text_at graph.manifest.paths p)) (stands.inputs_are e) first)

  pub one_edge : (count : ℕ) → NoneBelow (declared_by graph).edges due files count → (found : Option ℕ) → found ≡ None → IsFirstFor graph due count files found → NoneBelow (declared_by graph).edges due files (count + 1)
  one_edge count below None none clear = below_more (λ e. due_at due e ≡ true → NoneIsMissing (declared_by graph).edges files (inputs (edge_at (declared_by graph).edges (suc e)))) count below clear
  one_edge count below (Some p) none clear = cc

  pub first_edge : (e p : ℕ) → NoneBelow (declared_by graph).edges due files e → (found : Option ℕ) → found ≡ Some p → IsFirstFor graph due e files found → IsFirstOfDue graph due files (record { path = p; needed_by = Some e })
  first_edge e p below None some first = cc
  first_edge e p below (Some q) some first = record {
    edge = e;
    is_due = first.0;
    lowest = below;
    first = let same : q ≡ p = cc in subst (λ (n : ℕ). IsFirstMissing (declared_by graph).edges files (inputs (edge_at (declared_by graph).edges (suc e))) (text_at graph.manifest.paths n)) same first.1;
    needed_by = refl;
  }

-- an edge more, by a call
module _ (follow : Follow) (stay : Stay) (tells : Bool) (graph : Graph) (a b c : World) (first_looks second_looks : Looks) (first : HasLooked tells graph a b first_looks second_looks) (second : OnlyLooks tells b c) (due : List Bool)
    (count : ℕ) (so_far : IfStill tells graph a b first_looks (λ set files. HasAllSources set graph → NoneBelow (declared_by graph).edges due files count))
    (e : ℕ) (is_at : e ≡ count) (found : Option ℕ) (now : IfStill tells graph b c second_looks (λ set files. AreSourcesIn set graph ((links_of graph).inputs e) → IsFirstFor graph due e files found))
  where
    below : IfStill tells graph a c first_looks (λ set files. HasAllSources set graph → NoneBelow (declared_by graph).edges due files count)
    below = still_first follow stay tells graph a b c first_looks second_looks first second (λ set files. HasAllSources set graph → NoneBelow (declared_by graph).edges due files count) so_far

    here : IfStill tells graph a c first_looks (λ set files. HasAllSources set graph → IsFirstFor graph due e files found)
    here told set kept seen files same all =
        still_second follow stay tells graph a b c first_looks second_looks first second (λ set files. AreSourcesIn set graph ((links_of graph).inputs e) → IsFirstFor graph due e files found) now told set kept seen files same (all e)

    pub edge_passed : found ≡ None → IfStill tells graph a c first_looks (λ set files. HasAllSources set graph → NoneBelow (declared_by graph).edges due files (count + 1))
    edge_passed none told set kept seen files same all =
        one_edge graph due files count (below told set kept seen files same all) found none (subst (λ (q : ℕ). IsFirstFor graph due q files found) is_at (here told set kept seen files same all))

    pub edge_found : (p : ℕ) → found ≡ Some p → IfStill tells graph a c first_looks (λ set files. HasAllSources set graph → IsFoundOfDue graph due files (Some (record { path = p; needed_by = Some e })))
    edge_found p some told set kept seen files same all =
        first_edge graph due files e p (subst (NoneBelow (declared_by graph).edges due files) (sym is_at) (below told set kept seen files same all)) found some (here told set kept seen files same all)

-- ---- the paths that may be looked at

module _ (graph : Graph) (stands : StandFor (declared_by graph).edges graph.manifest.paths (links_of graph)) (store : Store) (targets : List (List ℕ)) (before : List Step) (set : List ℕ → Bool)
    (has_all : HasPathsFor (declared_by graph).edges store targets before set)
  where
    source_of : (n : ℕ) → n < length graph.manifest.paths → (links_of graph).maker n ≡ None → maker (declared_by graph).edges (text_at graph.manifest.paths n) ≡ None
    source_of n lt source = stands.makers n lt ∙ ap later_number source

    free : (p : List ℕ) → maker (declared_by graph).edges p ≡ None → IsUnmade (declared_by graph).edges before p
    free p source j made = absurd (some_none j (sym made ∙ source))

    from_list : (xs : List ℕ) → ((n : ℕ) → has_number xs n ≡ true → IsSourceIn set graph n) → AreSourcesIn set graph xs
    from_list [] each = tt
    from_list (x ∷ xs) each = (each x (has_here x xs), from_list xs (λ n h. each n (or_right (x == n) (has_number xs n) h)))

    named_sources : (i : ℕ) (xs : List ℕ) → ((n : ℕ) → has_number xs n ≡ true → n < length graph.manifest.paths) → ((n : ℕ) → has_number xs n ≡ true → has (inputs (edge_at (declared_by graph).edges i)) (text_at graph.manifest.paths n) ≡ true)
        → AreSourcesIn set graph xs
    named_sources i xs within named =
        from_list xs (λ n h source. has_all.named i (text_at graph.manifest.paths n) (named n h) (free (text_at graph.manifest.paths n) (source_of n (within n h) source)))

    pub inputs_known : HasAllSources set graph
    inputs_known e =
        named_sources (suc e) ((links_of graph).inputs e) (stands.inputs_within e)
        (λ n h. subst (λ (l : List (List ℕ)). has l (text_at graph.manifest.paths n) ≡ true) (stands.inputs_are e) (has_text graph.manifest.paths ((links_of graph).inputs e) n h))

    pub regular_known : (e : ℕ) → AreSourcesIn set graph ((links_of graph).regular e)
    regular_known e =
        named_sources (suc e) ((links_of graph).regular e) (stands.regular_within e)
        (λ n h. has-left (regular_inputs (edge_at (declared_by graph).edges (suc e))) (edge_at (declared_by graph).edges (suc e)).order_only_inputs (text_at graph.manifest.paths n)
        (subst (λ (l : List (List ℕ)). has l (text_at graph.manifest.paths n) ≡ true) (stands.regular_are e) (has_text graph.manifest.paths ((links_of graph).regular e) n h)))

    pub requested_known : (xs : List ℕ) → texts_at graph.manifest.paths xs ≡ targets → ((n : ℕ) → has_number xs n ≡ true → n < length graph.manifest.paths) → AreSourcesIn set graph xs
    requested_known xs named within =
        from_list xs (λ n h source. has_all.requested (text_at graph.manifest.paths n) (subst (λ (l : List (List ℕ)). has l (text_at graph.manifest.paths n) ≡ true) named (has_text graph.manifest.paths xs n h)) (source_of n (within n h) source))

    texts_in : (xs : List ℕ) → ((n : ℕ) → has_number xs n ≡ true → set (text_at graph.manifest.paths n) ≡ true) → AreIn set graph.manifest.paths xs
    texts_in [] each = tt
    texts_in (x ∷ xs) each = (each x (has_here x xs), texts_in xs (λ n h. each n (or_right (x == n) (has_number xs n) h)))

    pub outputs_known : (e : ℕ) → has_number (out_of_date_in before) (suc e) ≡ false → AreIn set graph.manifest.paths ((links_of graph).outputs e)
    outputs_known e fresh =
        texts_in ((links_of graph).outputs e)
        (λ n h. has_all.made (suc e) (text_at graph.manifest.paths n) fresh (subst (λ (l : List (List ℕ)). has l (text_at graph.manifest.paths n) ≡ true) (stands.outputs_are e) (has_text graph.manifest.paths ((links_of graph).outputs e) n h)))

-- ---- the cone

pub listed_within : (marks : List Mark) (e : ℕ) → is_listed (mark_at marks e) ≡ true → e < length marks
listed_within marks e listed = by_place (λ past. false≢true (sym (ap is_listed (get_or_past marks e Unseen past)) ∙ listed))
  where
    by_place : (length marks ≤ e → ⊥) → e < length marks
    by_place not = omega (arith, not)

in_graph : (edges : List Edge) (recorded : ℕ → List (List ℕ)) (targets : List (List ℕ)) (order : List ℕ) (marks : List Mark) → IsConeOf edges recorded targets order marks
    → (e : ℕ) → has_number order e ≡ true → e < length edges
in_graph edges recorded targets order marks cone e h = omega (arith, listed_within marks e (cone.marked e ∙ h), cone.fits)

-- what is found of the due edges of the cone is what is told
pub found_of : (graph : Graph) → StandFor (declared_by graph).edges graph.manifest.paths (links_of graph) → (targets : List (List ℕ)) (order : List ℕ) (marks : List Mark) (store : Store) (before : List Step) (files : List Moment)
    → IsConeOf (declared_by graph).edges (recorded_inputs store (declared_by graph).edges) targets order marks
    → NoneIsMissing (declared_by graph).edges files targets → (due : List Bool) → AreDue (declared_by graph).edges store before files order due → (found : Option Lack) → IsFoundOfDue graph due files found → IsFound graph store before targets files found
found_of graph stands targets order marks store before files cone of_targets due are None none = record {
  of_targets = of_targets;
  of_edges = λ i asked.
      let edges = (declared_by graph).edges in
      let place = suc_has order i (cone.all i asked.within) in
      let low : place.0 < length graph.manifest.lines = omega (arith, in_graph edges (recorded_inputs store edges) targets order marks cone place.0 place.2, stands.fits) in
      subst (λ (n : ℕ). NoneIsMissing edges files (inputs (edge_at edges n))) place.1
      (none place.0 low ((are place.0).1 (place.2, subst (λ (n : ℕ). IsDue edges store before files n) (sym place.1) asked.due)));
}
found_of graph stands targets order marks store before files cone of_targets due are (Some lack) first =
    subst (IsLackedBy (declared_by graph).edges store before targets files (text_at graph.manifest.paths lack.path)) (sym {A = Option ℕ} first.needed_by) (
    record {
      asked = record { within = cone.within first.edge listed.0; due = listed.1 };
      of_targets = of_targets;
      lowest = λ k less asked.
          let edges = (declared_by graph).edges in
          let place = suc_has order k (cone.all k asked.within) in
          subst (λ (n : ℕ). NoneIsMissing edges files (inputs (edge_at edges n))) place.1
          (first.lowest place.0 (omega (arith, less, place.1)) ((are place.0).1 (place.2, subst (λ (n : ℕ). IsDue edges store before files n) (sym place.1) asked.due)));
      first = first.first;
    }
    )
  where
    listed : (has_number order first.edge ≡ true) × IsDue (declared_by graph).edges store before files (suc first.edge)
    listed = (are first.edge).0 first.is_due
