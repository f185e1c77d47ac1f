-- What is built, and its cone.
use Rattle.std.proofs.Common.{◌≡◌, inl, inr, ℕ, zero, suc, ◌+◌, ◌<◌, ◌==◌, not, Bool, true, false, cond, List, [], ◌∷◌, ◌++◌, Some, IfOk, Result, Ok, Err, filter, length, get_or, take, slice_get, refl, sym, ◌∙◌, ap, subst, arith}
use Rattle.std.specs.Prelude.{All}
use Rattle.std.specs.List.{AllByRecursion, flat_map}
use Rattle.std.proofs.lemmas.Bool.{false≢true, true≢false}
use Rattle.std.proofs.lemmas.List.{map-append, length-map}
use Rattle.std.proofs.lemmas.Option.{get_or_from_slice_get}
use Rattle.model.specs.declared.graph.Edge.{Edge}
use Rattle.model.specs.Graph.{has, has_number, is_named, roots, all_outputs, all_inputs, or_else, targets_of}
use Rattle.model.specs.Records.{Store, recorded_inputs}
use Rattle.model.specs.SingleBuild.{Asked, declared_graph}
use Rattle.theory.proofs.Lists.{has_number-cases}
use Rattle.paths.specs.declared.line.Line.{Line}
use Rattle.paths.specs.Numbers.{HaveOnePlace}
use Rattle.paths.specs.Lists.{line_at, line_inputs, line_outputs}
use Rattle.paths.specs.Told.{text_at, texts_at}
use Rattle.graph.specs.declared.graph.Graph.{Graph}
use Rattle.graph.specs.declared.cone.Cone.{Cone}
use Rattle.graph.specs.declared.cone.ConeFault.{ConeFault}
use Rattle.graph.specs.declared.cone.ConeFault.TheVariants.{Memory, Unknown, Cycle}
use Rattle.graph.specs.ConeOf.{StandFor, IsConeForEach, IsFaultForEach}
use Rattle.graph.specs.Free.{free_of}
use Rattle.graph.specs.Linked.{default_targets, IsGraphOf, IsConeOf, AreMakersOf}
use Rattle.graph.specs.Links.{links_of}
use Rattle.graph.specs.Targets.{IsConeFor, IsConeOfNumbers, IsNoCone, IsNoConeAgain, IsFirstUnknown, IsUnknownIn}
use Rattle.graph.specs.Told.{declared_by, recorded_by, AreSameInputs}
use Rattle.graph.proofs.ConesOf.{no_cycle}
use Rattle.graph.proofs.GraphIs.{graph_is, links_are}
use Rattle.graph.proofs.Makes.{output_below, input_below}
use Rattle.graph.proofs.Parts.{all_index}
use Rattle.graph.proofs.Texts.{AreWithin, within_of, has_texts, all_outputs_of, all_inputs_of}

-- ---- defaults

pub flat_has : (f : Line → List ℕ) (lines : List Line) (n : ℕ) → has_number (flat_map f lines) n ≡ true → (e : ℕ) × (has_number (f (line_at lines e)) n ≡ true)
flat_has f [] n h = absurd (false≢true h)
flat_has f (line ∷ lines) n h = elim (has_number-cases (f line) (flat_map f lines) n h) [
  | inl here ↦ (0, here)
  | inr later ↦ let rest = flat_has f lines n later in (suc rest.0, rest.1)
]

free_texts : (paths : List (List ℕ)) → HaveOnePlace paths → (marks : List Bool) (ins outs : List ℕ) → AreWithin paths ins → AreWithin paths outs → ((p : ℕ) → get_or marks p false ≡ has_number ins p)
    → texts_at paths (free_of marks outs) ≡ filter (λ p. not (has (texts_at paths ins) p)) (texts_at paths outs)
free_texts paths once marks ins [] a b are = refl
free_texts paths once marks ins (n ∷ outs) a b are = by (get_or marks n false) refl (free_texts paths once marks ins outs a b.1 are)
  where
    test : has (texts_at paths ins) (text_at paths n) ≡ get_or marks n false
    test = has_texts paths once ins n b.0 a ∙ sym (are n)

    by : (m : Bool) → get_or marks n false ≡ m → texts_at paths (free_of marks outs) ≡ filter (λ p. not (has (texts_at paths ins) p)) (texts_at paths outs) → texts_at paths (cond (not (get_or marks n false)) (n ∷ free_of marks outs) (free_of marks outs))
        ≡ cond (not (has (texts_at paths ins) (text_at paths n))) (text_at paths n ∷ filter (λ p. not (has (texts_at paths ins) p)) (texts_at paths outs)) (filter (λ p. not (has (texts_at paths ins) p)) (texts_at paths outs))
    by true is rest =
        ap (λ (m : Bool). texts_at paths (cond (not m) (n ∷ free_of marks outs) (free_of marks outs))) is
        ∙ (rest
        ∙ sym (ap (λ (m : Bool). cond (not m) (text_at paths n ∷ filter (λ p. not (has (texts_at paths ins) p)) (texts_at paths outs)) (filter (λ p. not (has (texts_at paths ins) p)) (texts_at paths outs))) (test ∙ is)))
    by false is rest =
        ap (λ (m : Bool). texts_at paths (cond (not m) (n ∷ free_of marks outs) (free_of marks outs))) is
        ∙ (ap (λ (l : List (List ℕ)). text_at paths n ∷ l) rest
        ∙ sym (ap (λ (m : Bool). cond (not m) (text_at paths n ∷ filter (λ p. not (has (texts_at paths ins) p)) (texts_at paths outs)) (filter (λ p. not (has (texts_at paths ins) p)) (texts_at paths outs))) (test ∙ is)))

free_all : (outs : List ℕ) → free_of [] outs ≡ outs
free_all [] = refl
free_all (n ∷ outs) = ap (λ (l : List ℕ). n ∷ l) (free_all outs)

free_below : (n : ℕ) (marks : List Bool) (outs : List ℕ) → AllByRecursion (λ p. p < n) outs → AllByRecursion (λ p. p < n) (free_of marks outs)
free_below n marks [] all = tt
free_below n marks (p ∷ outs) all = by (get_or marks p false) refl (free_below n marks outs all.1)
  where
    by : (m : Bool) → get_or marks p false ≡ m → AllByRecursion (λ q. q < n) (free_of marks outs) → AllByRecursion (λ q. q < n) (cond (not (get_or marks p false)) (p ∷ free_of marks outs) (free_of marks outs))
    by true is rest = subst (λ (m : Bool). AllByRecursion (λ q. q < n) (cond (not m) (p ∷ free_of marks outs) (free_of marks outs))) (sym is) rest
    by false is rest = subst (λ (m : Bool). AllByRecursion (λ q. q < n) (cond (not m) (p ∷ free_of marks outs) (free_of marks outs))) (sym is) (all.0, rest)

or_else_some : (xs ys : List (List ℕ)) → (length xs == 0) ≡ false → or_else xs ys ≡ xs
or_else_some [] ys some = absurd (true≢false some)
or_else_some (x ∷ xs) ys some = refl

module _ (graph : Graph) where
  outs_below : AllByRecursion (λ p. p < length graph.manifest.paths) (flat_map line_outputs graph.manifest.lines)
  outs_below = within_of (length graph.manifest.paths) (flat_map line_outputs graph.manifest.lines) (λ p h. let at = flat_has line_outputs graph.manifest.lines p h in output_below graph.manifest at.0 p at.1)

  outs_within : AreWithin graph.manifest.paths (flat_map line_outputs graph.manifest.lines)
  outs_within = within_of (length graph.manifest.paths) (flat_map line_outputs graph.manifest.lines) (λ p h. let at = flat_has line_outputs graph.manifest.lines p h in let low = output_below graph.manifest at.0 p at.1 in omega (arith, low, graph.manifest.names))

  ins_within : AreWithin graph.manifest.paths (flat_map line_inputs graph.manifest.lines)
  ins_within = within_of (length graph.manifest.paths) (flat_map line_inputs graph.manifest.lines) (λ p h. let at = flat_has line_inputs graph.manifest.lines p h in let low = input_below graph.manifest at.0 p at.1 in omega (arith, low, graph.manifest.names))

  pub free_within : (marks : List Bool) (free : List ℕ) → free ≡ free_of marks (flat_map line_outputs graph.manifest.lines) → (k d : ℕ) → k < length free → get_or free k d < length graph.manifest.paths
  free_within marks free is = subst (λ (l : List ℕ). (k d : ℕ) → k < length l → get_or l k d < length graph.manifest.paths) (sym {A = List ℕ} is)
      (all_index (length graph.manifest.paths) (free_of marks (flat_map line_outputs graph.manifest.lines)) (free_below (length graph.manifest.paths) marks (flat_map line_outputs graph.manifest.lines) outs_below))

  roots_are : (marks : List Bool) → ((p : ℕ) → get_or marks p false ≡ has_number (flat_map line_inputs graph.manifest.lines) p)
      → texts_at graph.manifest.paths (free_of marks (flat_map line_outputs graph.manifest.lines)) ≡ roots (declared_by graph).edges
  roots_are marks are =
      free_texts graph.manifest.paths graph.apart marks (flat_map line_inputs graph.manifest.lines) (flat_map line_outputs graph.manifest.lines) ins_within outs_within are
      ∙ (ap (λ (l : List (List ℕ)). filter (λ p. not (has l p)) (texts_at graph.manifest.paths (flat_map line_outputs graph.manifest.lines))) (sym (all_inputs_of graph.manifest.paths graph.manifest.lines graph.manifest.actions graph.manifest.fits))
      ∙ ap (filter (λ p. not (has (all_inputs (declared_by graph).edges) p))) (sym (all_outputs_of graph.manifest.paths graph.manifest.lines graph.manifest.actions graph.manifest.fits)))

  -- some outputs are no inputs
  pub defaults_some : (marks : List Bool) (free : List ℕ) → ((p : ℕ) → get_or marks p false ≡ has_number (flat_map line_inputs graph.manifest.lines) p) → free ≡ free_of marks (flat_map line_outputs graph.manifest.lines)
      → (length free == 0) ≡ false → texts_at graph.manifest.paths free ≡ default_targets (declared_by graph).edges
  defaults_some marks free are is some =
      ap (texts_at graph.manifest.paths) is ∙ (roots_are marks are
      ∙ sym (or_else_some (roots (declared_by graph).edges) (all_outputs (declared_by graph).edges) (ap (λ (l : List (List ℕ)). length l == 0) (sym (roots_are marks are) ∙ ap (texts_at graph.manifest.paths) (sym is)) ∙ (same_count free ∙ some))))
    where
      same_count : (xs : List ℕ) → (length (texts_at graph.manifest.paths xs) == 0) ≡ (length xs == 0)
      same_count xs = ap (λ (n : ℕ). n == 0) (length-map xs (text_at graph.manifest.paths))

  -- all outputs are inputs too
  pub defaults_none : (marks : List Bool) (free all : List ℕ) → ((p : ℕ) → get_or marks p false ≡ has_number (flat_map line_inputs graph.manifest.lines) p) → free ≡ free_of marks (flat_map line_outputs graph.manifest.lines)
      → free ≡ [] → all ≡ free_of [] (flat_map line_outputs graph.manifest.lines) → texts_at graph.manifest.paths all ≡ default_targets (declared_by graph).edges
  defaults_none marks free all are is none all_is =
      ap (texts_at graph.manifest.paths) (all_is ∙ free_all (flat_map line_outputs graph.manifest.lines))
      ∙ (sym (all_outputs_of graph.manifest.paths graph.manifest.lines graph.manifest.actions graph.manifest.fits)
      ∙ ap (λ (l : List (List ℕ)). or_else l (all_outputs (declared_by graph).edges)) (sym (sym (roots_are marks are) ∙ ap (texts_at graph.manifest.paths) (sym is ∙ none))))

  -- ---- targets

  pub targets_asked : (asked : List (List ℕ)) → (length asked == 0) ≡ false → targets_of (declared_by graph) asked ≡ asked
  targets_asked asked some = or_else_some asked (or_else (declared_by graph).defaults (or_else (roots (declared_by graph).edges) (all_outputs (declared_by graph).edges))) some

  pub targets_declared : (asked : List (List ℕ)) → asked ≡ [] → (length graph.manifest.defaults == 0) ≡ false → targets_of (declared_by graph) asked ≡ texts_at graph.manifest.paths graph.manifest.defaults
  targets_declared asked none some =
      ap (targets_of (declared_by graph)) none
      ∙ or_else_some (texts_at graph.manifest.paths graph.manifest.defaults) (or_else (roots (declared_by graph).edges) (all_outputs (declared_by graph).edges)) (same_count graph.manifest.defaults ∙ some)
    where
      same_count : (xs : List ℕ) → (length (texts_at graph.manifest.paths xs) == 0) ≡ (length xs == 0)
      same_count xs = ap (λ (n : ℕ). n == 0) (length-map xs (text_at graph.manifest.paths))

  pub targets_default : (asked : List (List ℕ)) → asked ≡ [] → graph.manifest.defaults ≡ [] → targets_of (declared_by graph) asked ≡ default_targets (declared_by graph).edges
  targets_default asked none undeclared =
      ap (targets_of (declared_by graph)) none ∙ ap (λ (l : List ℕ). or_else (texts_at graph.manifest.paths l) (or_else (roots (declared_by graph).edges) (all_outputs (declared_by graph).edges))) undeclared

  -- ---- the cone

  stand_for : (recorded : ℕ → List (List ℕ)) → AreSameInputs recorded (recorded_by graph) → (targets : List (List ℕ)) (requested : List ℕ) → AreMakersOf (declared_by graph).edges targets requested
      → StandFor (declared_by graph).edges recorded targets (links_of graph) requested
  stand_for recorded same targets requested makers = record {
    linked = links_are (declared_by graph).edges recorded graph.manifest.paths (links_of graph) (graph_is graph recorded same);
    makers = makers;
  }

  pub cone_for : (recorded : ℕ → List (List ℕ)) → AreSameInputs recorded (recorded_by graph) → (asked : List (List ℕ)) (numbers requested : List ℕ) → All (λ p. p < length graph.manifest.paths) numbers → texts_at graph.manifest.paths numbers ≡ targets_of (declared_by graph) asked
      → AllByRecursion (λ p. is_named (declared_by graph).edges p ≡ true) asked → AreMakersOf (declared_by graph).edges (texts_at graph.manifest.paths numbers) requested
      → (the_cone : Cone) → the_cone.targets.items ≡ numbers → IsConeForEach (links_of graph) requested the_cone.order.items the_cone.marks.items → IsConeFor graph recorded asked the_cone
  cone_for recorded same asked numbers requested within told named makers the_cone kept cone = record {
    listed = listed;
    named = named;
    acyclic = no_cycle (declared_by graph).edges recorded (targets_of (declared_by graph) asked) the_cone.order.items the_cone.marks.items listed;
    within = subst (All (λ p. p < length graph.manifest.paths)) (sym {A = List ℕ} kept) within;
    numbers = ap (texts_at graph.manifest.paths) kept ∙ told;
  }
    where
      listed : IsConeOf (declared_by graph).edges recorded (targets_of (declared_by graph) asked) the_cone.order.items the_cone.marks.items
      listed = cone (declared_by graph).edges recorded (targets_of (declared_by graph) asked)
          (stand_for recorded same (targets_of (declared_by graph) asked) requested (subst (λ (l : List (List ℕ)). AreMakersOf (declared_by graph).edges l requested) told makers))

  pub cone_of_numbers : (recorded : ℕ → List (List ℕ)) → AreSameInputs recorded (recorded_by graph) → (numbers requested : List ℕ) → AreMakersOf (declared_by graph).edges (texts_at graph.manifest.paths numbers) requested
      → (the_cone : Cone) → the_cone.targets.items ≡ numbers → IsConeForEach (links_of graph) requested the_cone.order.items the_cone.marks.items → IsConeOfNumbers graph recorded numbers the_cone
  cone_of_numbers recorded same numbers requested makers the_cone kept cone =
      let listed = cone (declared_by graph).edges recorded (texts_at graph.manifest.paths numbers) (stand_for recorded same (texts_at graph.manifest.paths numbers) requested makers) in
      record {
        listed = listed;
        acyclic = no_cycle (declared_by graph).edges recorded (texts_at graph.manifest.paths numbers) the_cone.order.items the_cone.marks.items listed;
        numbers = kept;
      }

-- where the targets are those of an earlier cone
pub no_cone_again : (graph : Graph) (asked : Asked) (store : Store) → asked.graph ≡ declared_by graph → AreSameInputs (recorded_inputs store asked.graph.edges) (recorded_by graph) → (numbers requested : List ℕ)
    → targets_of (declared_graph asked) asked.targets ≡ texts_at graph.manifest.paths numbers → AreMakersOf (declared_by graph).edges (texts_at graph.manifest.paths numbers) requested
    → (fault : ConeFault) → IsFaultForEach (links_of graph) requested fault → IsNoConeAgain asked store graph.manifest.paths fault
no_cone_again graph asked store is same numbers requested told makers Memory fault = tt
no_cone_again graph asked store is same numbers requested told makers (Unknown place) fault = absurd fault
no_cone_again graph asked store is same numbers requested told makers (Cycle cycle) fault =
    let edges_are : asked.graph.edges ≡ (declared_by graph).edges = ap (λ g. g.edges) is in
    fault asked store graph.manifest.paths
    (subst (λ (es : List Edge). IsGraphOf es (recorded_inputs store asked.graph.edges) graph.manifest.paths (links_of graph)) (sym {A = List Edge} edges_are) (graph_is graph (recorded_inputs store asked.graph.edges) same))
    (subst (λ (es : List Edge). StandFor es (recorded_inputs store asked.graph.edges) (targets_of (declared_graph asked) asked.targets) (links_of graph) requested) (sym {A = List Edge} edges_are)
    (subst (λ (ts : List (List ℕ)). StandFor (declared_by graph).edges (recorded_inputs store asked.graph.edges) ts (links_of graph) requested) (sym {A = List (List ℕ)} told)
    (stand_for graph (recorded_inputs store asked.graph.edges) same (texts_at graph.manifest.paths numbers) requested makers)))

-- where what is asked is of this graph
module _ (graph : Graph) (asked : Asked) (store : Store) (targets : List (List ℕ)) (declared : asked.declared ≡ asked.graph.edges) (is : asked.graph ≡ declared_by graph) (wants : asked.targets ≡ targets)
    (same : AreSameInputs (recorded_inputs store asked.graph.edges) (recorded_by graph)) where
  edges_are : asked.graph.edges ≡ (declared_by graph).edges
  edges_are = ap (λ g. g.edges) is

  targets_are : targets_of (declared_graph asked) asked.targets ≡ targets_of (declared_by graph) targets
  targets_are = ap (λ (es : List Edge). targets_of (record { edges = es; pools = asked.graph.pools; defaults = asked.graph.defaults; builddir = asked.graph.builddir }) asked.targets) declared
      ∙ (ap (λ g. targets_of g asked.targets) is ∙ ap (targets_of (declared_by graph)) wants)

  pub no_cone_for : (numbers requested : List ℕ) → texts_at graph.manifest.paths numbers ≡ targets_of (declared_by graph) targets → AllByRecursion (λ p. is_named (declared_by graph).edges p ≡ true) targets
      → AreMakersOf (declared_by graph).edges (texts_at graph.manifest.paths numbers) requested → (fault : ConeFault) → IsFaultForEach (links_of graph) requested fault → IsNoCone asked store graph.manifest.paths fault
  no_cone_for numbers requested told named makers Memory fault = tt
  no_cone_for numbers requested told named makers (Unknown place) fault = absurd fault
  no_cone_for numbers requested told named makers (Cycle cycle) fault = (
    subst (λ (es : List Edge). AllByRecursion (λ p. is_named es p ≡ true) asked.targets) (sym {A = List Edge} (declared ∙ edges_are))
        (subst (λ (ts : List (List ℕ)). AllByRecursion (λ p. is_named (declared_by graph).edges p ≡ true) ts) (sym {A = List (List ℕ)} wants) named),
    fault asked store graph.manifest.paths
        (subst (λ (es : List Edge). IsGraphOf es (recorded_inputs store asked.graph.edges) graph.manifest.paths (links_of graph)) (sym {A = List Edge} edges_are) (graph_is graph (recorded_inputs store asked.graph.edges) same))
        (subst (λ (es : List Edge). StandFor es (recorded_inputs store asked.graph.edges) (targets_of (declared_graph asked) asked.targets) (links_of graph) requested) (sym {A = List Edge} edges_are)
        (subst (λ (ts : List (List ℕ)). StandFor (declared_by graph).edges (recorded_inputs store asked.graph.edges) ts (links_of graph) requested) (sym {A = List (List ℕ)} (targets_are))
        (stand_for graph (recorded_inputs store asked.graph.edges) same (targets_of (declared_by graph) targets) requested (subst (λ (l : List (List ℕ)). AreMakersOf (declared_by graph).edges l requested) told makers)))),
  )

  pub unknown_for : (fault : ConeFault) → IsUnknownIn (declared_by graph).edges targets fault → IsNoCone asked store graph.manifest.paths fault
  unknown_for Memory fault = tt
  unknown_for (Unknown place) fault =
      subst (λ (es : List Edge). IsFirstUnknown es asked.targets place) (sym {A = List Edge} (declared ∙ edges_are)) (subst (λ (ts : List (List ℕ)). IsFirstUnknown (declared_by graph).edges ts place) (sym {A = List (List ℕ)} wants) fault)
  unknown_for (Cycle cycle) fault = absurd fault

-- ---- one more target

take_text : (xs : List (List ℕ)) (k : ℕ) (x : List ℕ) → k < length xs → x ≡ get_or xs k x → take (k + 1) xs ≡ take k xs ++ x ∷ []
take_text xs k x lt is = let next : k + 1 ≡ suc k = omega arith in ap (λ (n : ℕ). take n xs) next ∙ by xs k lt is
  where
    by : (ys : List (List ℕ)) (j : ℕ) → j < length ys → x ≡ get_or ys j x → take (suc j) ys ≡ take j ys ++ x ∷ []
    by [] j low at = absurd (omega (arith, low))
    by (y ∷ ys) zero low at = ap (λ (t : List ℕ). t ∷ []) (sym at)
    by (y ∷ ys) (suc j) low at = ap (λ (l : List (List ℕ)). y ∷ l) (by ys j (omega (arith, low)) at)

all_texts : (P : List ℕ → Type 0) (xs : List (List ℕ)) (x : List ℕ) → AllByRecursion P xs → P x → AllByRecursion P (xs ++ x ∷ [])
all_texts P [] x all is = (is, tt)
all_texts P (y ∷ xs) x all is = (all.0, all_texts P xs x all.1 is)

pub texts_next : (paths asked : List (List ℕ)) (numbers new : List ℕ) (k n : ℕ) (target : List ℕ) → k < length asked → target ≡ get_or asked k target → slice_get paths n ≡ Some target → new ≡ numbers ++ n ∷ []
    → texts_at paths numbers ≡ take k asked → texts_at paths new ≡ take (k + 1) asked
texts_next paths asked numbers new k n target lt is at grown so_far =
    ap (texts_at paths) grown ∙ (map-append (text_at paths) numbers (n ∷ [])
    ∙ (ap (λ (l : List (List ℕ)). l ++ text_at paths n ∷ []) so_far ∙ (ap (λ (t : List ℕ). take k asked ++ t ∷ []) (get_or_from_slice_get paths n target [] at) ∙ sym (take_text asked k target lt is))))

pub named_next : (P : List ℕ → Type 0) (asked : List (List ℕ)) (k : ℕ) (target : List ℕ) → k < length asked → target ≡ get_or asked k target → AllByRecursion P (take k asked) → P target → AllByRecursion P (take (k + 1) asked)
named_next P asked k target lt is all here = subst (AllByRecursion P) (sym (take_text asked k target lt is)) (all_texts P (take k asked) target all here)

pub if_ok_both : {T E : Type 0} {P Q R : T → Type 0} (r : Result T E) → IfOk r P → IfOk r Q → ((x : T) → P x → Q x → R x) → IfOk r R
if_ok_both (Ok x) p q f = f x p q
if_ok_both (Err e) p q f = tt
