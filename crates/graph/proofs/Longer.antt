-- A table of paths that grew.
use Rattle.std.proofs.Common.{◌≡◌, ◌⊎◌, inl, inr, ℕ, zero, suc, ◌+◌, ◌<◌, ◌≤◌, Bool, true, false, cond, List, [], ◌∷◌, ◌++◌, Option, Some, None, Result, Ok, Err, IfOk, OnErr, length, get_or, take, refl, sym, ◌∙◌, ap, arith, length-append}
use Rattle.std.specs.List.{AllByRecursion}
use Rattle.std.specs.Option.{option_map}
use Rattle.std.proofs.lemmas.Bool.{cases_Bool, cases_lt, false_from_ne_true}
use Rattle.std.proofs.lemmas.List.{get_or_past, get_or_append_left}
use Rattle.model.specs.declared.graph.BuildGraph.{BuildGraph}
use Rattle.model.specs.declared.graph.Edge.{Edge}
use Rattle.model.specs.declared.graph.Pool.{Pool}
use Rattle.model.specs.Graph.{has, has_number}
use Rattle.theory.proofs.Lists.{has_number-left, has_number-right}
use Rattle.paths.specs.declared.line.Line.{Line}
use Rattle.paths.specs.declared.manifest.Action.{Action}
use Rattle.paths.specs.declared.manifest.Action.TheVariants.{Alias, Command}
use Rattle.paths.specs.declared.manifest.Manifest.{Manifest}
use Rattle.paths.specs.Numbers.{IsAdded}
use Rattle.paths.specs.Lists.{line_at, line_outputs, line_regular_inputs, line_inputs, line_paths}
use Rattle.paths.specs.Commands.{no_action, dyndep_stop, stop_of}
use Rattle.paths.specs.Told.{text_at, texts_at, edge_of, edges_of, graph_of}
use Rattle.graph.specs.declared.graph.Graph.{Graph}
use Rattle.graph.specs.Held.{list_at, times}
use Rattle.graph.specs.Links.{links_of, needs_at}
use Rattle.graph.proofs.GraphIs.{need_within}
use Rattle.graph.proofs.Lists.{times_none}
use Rattle.graph.proofs.Makes.{named_below}
use Rattle.graph.proofs.Texts.{AreWithin, within_of}

abbrev pub IsLonger : List (List ℕ) → List (List ℕ) → List ℕ → Type 0
IsLonger old new path = (new ≡ old) ⊎ (new ≡ old ++ path ∷ [])

pub added_longer : {E : Type 0} (r : Result ℕ E) (old new : List (List ℕ)) (path : List ℕ) → IfOk r (λ n. IsAdded old new path n) → OnErr r (new ≡ old) → IsLonger old new path
added_longer (Ok n) old new path added kept = elim (cases_Bool (has old path)) [
  | inl there ↦ inl (added.grows ∙ ap (λ (b : Bool). cond b old (old ++ path ∷ [])) there)
  | inr absent ↦ inr (added.grows ∙ ap (λ (b : Bool). cond b old (old ++ path ∷ [])) absent)
]
added_longer (Err e) old new path added kept = inl kept

pub longer_length : (old new : List (List ℕ)) (path : List ℕ) → IsLonger old new path → length old ≤ length new
longer_length old new path (inl same) = let long = ap length same in omega (arith, long)
longer_length old new path (inr more) = let long = ap length more in let sum = length-append old (path ∷ []) in omega (arith, long, sum)

-- ---- the same texts

pub texts_longer : (paths more : List (List ℕ)) (numbers : List ℕ) → AreWithin paths numbers → texts_at (paths ++ more) numbers ≡ texts_at paths numbers
texts_longer paths more [] within = refl
texts_longer paths more (n ∷ numbers) within =
    ap (λ (t : List ℕ). t ∷ texts_at (paths ++ more) numbers) (get_or_append_left paths more [] n within.0) ∙ ap (λ (l : List (List ℕ)). text_at paths n ∷ l) (texts_longer paths more numbers within.1)

pub part_within : (n : ℕ) (line : Line) → ((p : ℕ) → has_number (line_paths line) p ≡ true → p < n)
    → AllByRecursion (λ p. p < n) line.explicit_outputs × AllByRecursion (λ p. p < n) line.implicit_outputs × AllByRecursion (λ p. p < n) line.explicit_inputs
    × AllByRecursion (λ p. p < n) line.implicit_inputs × AllByRecursion (λ p. p < n) line.order_only_inputs × AllByRecursion (λ p. p < n) line.validations
part_within n line each = (
  within_of n line.explicit_outputs (λ p h. made p (has_number-left line.explicit_outputs line.implicit_outputs p h)),
  within_of n line.implicit_outputs (λ p h. made p (has_number-right line.explicit_outputs line.implicit_outputs p h)),
  within_of n line.explicit_inputs (λ p h. regular p (has_number-left line.explicit_inputs line.implicit_inputs p h)),
  within_of n line.implicit_inputs (λ p h. regular p (has_number-right line.explicit_inputs line.implicit_inputs p h)),
  within_of n line.order_only_inputs (λ p h. needed p (has_number-right (line_regular_inputs line) line.order_only_inputs p h)),
  within_of n line.validations (λ p h. each p (has_number-right (line_outputs line) (line_inputs line ++ line.validations) p (has_number-right (line_inputs line) line.validations p h))),
)
  where
    made : (p : ℕ) → has_number (line_outputs line) p ≡ true → p < n
    made p h = each p (has_number-left (line_outputs line) (line_inputs line ++ line.validations) p h)

    needed : (p : ℕ) → has_number (line_inputs line) p ≡ true → p < n
    needed p h = each p (has_number-right (line_outputs line) (line_inputs line ++ line.validations) p (has_number-left (line_inputs line) line.validations p h))

    regular : (p : ℕ) → has_number (line_regular_inputs line) p ≡ true → p < n
    regular p h = needed p (has_number-left (line_regular_inputs line) line.order_only_inputs p h)

pub edge_longer : (paths more : List (List ℕ)) (line : Line) (action : Action) → ((p : ℕ) → has_number (line_paths line) p ≡ true → p < length paths) → dyndep_stop action ≤ length paths
    → edge_of (paths ++ more) line action ≡ edge_of paths line action
edge_longer paths more line Alias each low =
    let parts = part_within (length paths) line each in
    let a = texts_longer paths more line.explicit_outputs parts.0 in
    let b = texts_longer paths more line.implicit_outputs parts.1 in
    let c = texts_longer paths more line.explicit_inputs parts.2 in
    let d = texts_longer paths more line.implicit_inputs parts.3 in
    let e = texts_longer paths more line.order_only_inputs parts.4 in
    let f = texts_longer paths more line.validations parts.5 in
    cc
edge_longer paths more line (Command command) each low =
    let parts = part_within (length paths) line each in
    let a = texts_longer paths more line.explicit_outputs parts.0 in
    let b = texts_longer paths more line.implicit_outputs parts.1 in
    let c = texts_longer paths more line.explicit_inputs parts.2 in
    let d = texts_longer paths more line.implicit_inputs parts.3 in
    let e = texts_longer paths more line.order_only_inputs parts.4 in
    let f = texts_longer paths more line.validations parts.5 in
    let g = dyndep command.dyndep low in
    cc
  where
    dyndep : (o : Option ℕ) → stop_of o ≤ length paths → option_map (text_at (paths ++ more)) o ≡ option_map (text_at paths) o
    dyndep None low = refl
    dyndep (Some p) low = ap (λ (t : List ℕ). Some t) (get_or_append_left paths more [] p (omega (arith, low)))

pub edges_longer : (paths more : List (List ℕ)) (lines : List Line) (actions : List Action) → ((e p : ℕ) → has_number (line_paths (line_at lines e)) p ≡ true → p < length paths)
    → ((e : ℕ) → dyndep_stop (get_or actions e no_action) ≤ length paths) → edges_of (paths ++ more) lines actions ≡ edges_of paths lines actions
edges_longer paths more [] actions each low = refl
edges_longer paths more (line ∷ lines) [] each low = refl
edges_longer paths more (line ∷ lines) (action ∷ actions) each low =
    ap (λ (edge : Edge). edge ∷ edges_of (paths ++ more) lines actions) (edge_longer paths more line action (each 0) (low 0))
    ∙ ap (λ (l : List Edge). edge_of paths line action ∷ l) (edges_longer paths more lines actions (λ e. each (suc e)) (λ e. low (suc e)))

abbrev graph_made : List Edge → List Pool → List (List ℕ) → List ℕ → BuildGraph
graph_made edges pools defaults builddir = record { edges = edges; pools = pools; defaults = defaults; builddir = builddir }

pub told_longer : (manifest : Manifest) (new : List (List ℕ)) (path : List ℕ) → IsLonger manifest.paths new path
    → graph_made (edges_of new manifest.lines manifest.actions) manifest.pools (texts_at new manifest.defaults) manifest.builddir ≡ graph_of manifest
told_longer manifest new path (inl same) = ap (λ (l : List (List ℕ)). graph_made (edges_of l manifest.lines manifest.actions) manifest.pools (texts_at l manifest.defaults) manifest.builddir) same
told_longer manifest new path (inr more) =
    ap (λ (l : List (List ℕ)). graph_made (edges_of l manifest.lines manifest.actions) manifest.pools (texts_at l manifest.defaults) manifest.builddir) more
    ∙ (ap (λ (l : List Edge). graph_made l manifest.pools (texts_at (manifest.paths ++ path ∷ []) manifest.defaults) manifest.builddir)
    (edges_longer manifest.paths (path ∷ []) manifest.lines manifest.actions (λ e p h. let low = named_below manifest e p h in omega (arith, low, manifest.names)) manifest.dyndeps)
    ∙ ap (λ (l : List (List ℕ)). graph_made (edges_of manifest.paths manifest.lines manifest.actions) manifest.pools l manifest.builddir) (texts_longer manifest.paths (path ∷ []) manifest.defaults defaults_within))
  where
    defaults_within : AreWithin manifest.paths manifest.defaults
    defaults_within = each manifest.defaults manifest.known
      where
        each : (xs : List ℕ) → ((k : ℕ) → k < length xs → get_or xs k 0 < manifest.named) → AllByRecursion (λ p. p < length manifest.paths) xs
        each [] low = tt
        each (x ∷ xs) low = (let first = low 0 (omega arith) in omega (arith, first, manifest.names), each xs (λ k lt. low (suc k) (omega (arith, lt))))

-- ---- one more list of users

nothing_behind : (xs : List (List ℕ)) (p : ℕ) → list_at (xs ++ [] ∷ []) p ≡ list_at xs p
nothing_behind [] zero = refl
nothing_behind [] (suc p) = refl
nothing_behind (x ∷ xs) zero = refl
nothing_behind (x ∷ xs) (suc p) = nothing_behind xs p

take_front : (xs ys : List (List ℕ)) (n : ℕ) → n ≡ length xs → take n (xs ++ ys) ≡ xs
take_front [] ys zero is = refl
take_front [] ys (suc n) is = absurd (omega (arith, is))
take_front (x ∷ xs) ys zero is = absurd (omega (arith, is))
take_front (x ∷ xs) ys (suc n) is = ap (λ (l : List (List ℕ)). x ∷ l) (take_front xs ys n (omega (arith, is)))

take_whole : (xs : List (List ℕ)) (n : ℕ) → n ≡ length xs → take n xs ≡ xs
take_whole [] zero is = refl
take_whole [] (suc n) is = refl
take_whole (x ∷ xs) zero is = absurd (omega (arith, is))
take_whole (x ∷ xs) (suc n) is = ap (λ (l : List (List ℕ)). x ∷ l) (take_whole xs n (omega (arith, is)))

module _ (graph : Graph) (new : List (List ℕ)) (path : List ℕ) (longer : IsLonger graph.manifest.paths new path) (users : List (List ℕ)) (is : users ≡ take (length new) (graph.users ++ [] ∷ [])) where
  users_are : (users ≡ graph.users) × (length users ≡ length new) ⊎ (users ≡ graph.users ++ [] ∷ []) × (length users ≡ length new)
  users_are = by longer
    where
      by : IsLonger graph.manifest.paths new path → (users ≡ graph.users) × (length users ≡ length new) ⊎ (users ≡ graph.users ++ [] ∷ []) × (length users ≡ length new)
      by (inl same) =
          let long : length new ≡ length graph.users = ap length same ∙ sym graph.using.fits in
          let kept : users ≡ graph.users = is ∙ take_front graph.users ([] ∷ []) (length new) long in
          inl (kept, ap length kept ∙ sym long)
      by (inr more) =
          let sum : length new ≡ length (graph.users ++ [] ∷ []) = ap length more ∙ (length-append graph.manifest.paths (path ∷ []) ∙ (ap (λ (n : ℕ). n + 1) (sym graph.using.fits) ∙ sym (length-append graph.users ([] ∷ [])))) in
          let all : users ≡ graph.users ++ [] ∷ [] = is ∙ take_whole (graph.users ++ [] ∷ []) (length new) sum in
          inr (all, ap length all ∙ sym sum)

  pub users_fit : length users ≡ length new
  users_fit = elim users_are [ inl kept ↦ kept.1 | inr more ↦ more.1 ]

  pub users_same : (p : ℕ) → list_at users p ≡ list_at graph.users p
  users_same p = elim users_are [
    | inl kept ↦ ap (λ (l : List (List ℕ)). list_at l p) kept.0
    | inr more ↦ ap (λ (l : List (List ℕ)). list_at l p) more.0 ∙ nothing_behind graph.users p
  ]

  pub users_counted : (p e : ℕ) → times (list_at users p) e ≡ times (needs_at (links_of graph) e) p
  users_counted p e = elim (cases_lt p (length graph.manifest.paths)) [
    | inl low ↦ ap (λ (l : List ℕ). times l e) (users_same p) ∙ graph.using.counted p e low
    | inr past ↦
        let none : list_at users p ≡ [] = users_same p ∙ get_or_past graph.users p [] (omega (arith, past, graph.using.fits)) in
        let absent : has_number (needs_at (links_of graph) e) p ≡ false = false_from_ne_true (has_number (needs_at (links_of graph) e) p) (λ h. let low = need_within graph e p h in omega (arith, low, past)) in
        ap (λ (l : List ℕ). times l e) none ∙ sym (times_none (needs_at (links_of graph) e) p absent)
  ]
