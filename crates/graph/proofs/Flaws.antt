-- What is wrong with the lowest edge that has a flaw, by numbers and in texts.
use Rattle.std.proofs.Common.{◌≡◌, inl, inr, ℕ, zero, suc, ◌+◌, ◌<◌, ◌≤◌, ◌==◌, true, List, [], ◌∷◌, ◌++◌, Option, Some, None, length, get_or, take, refl, sym, ◌∙◌, ap, subst, arith, append_assoc}
use Rattle.std.specs.List.{AllByRecursion}
use Rattle.std.specs.Option.{option_map}
use Rattle.std.proofs.lemmas.Bool.{cases_eq, cases_lt, or_left, eq-eqb}
use Rattle.std.proofs.lemmas.List.{map-append, get_or_default}
use Rattle.model.specs.declared.graph.Edge.{Edge}
use Rattle.model.specs.Graph.{has, has_number, no_edge, inputs, outputs, all_outputs}
use Rattle.theory.proofs.Lists.{has_number-left, has_number-right, has_number-cases}
use Rattle.paths.specs.declared.line.Line.{Line}
use Rattle.paths.specs.declared.manifest.Action.{Action}
use Rattle.paths.specs.declared.manifest.Action.TheVariants.{Alias, Command}
use Rattle.paths.specs.declared.manifest.Manifest.{Manifest}
use Rattle.paths.specs.Numbers.{HaveOnePlace}
use Rattle.paths.specs.Lists.{line_at, line_outputs, line_inputs}
use Rattle.paths.specs.Commands.{no_action, dyndep_stop, stop_of}
use Rattle.paths.specs.Told.{text_at, texts_at, edges_of, graph_of}
use Rattle.graph.specs.declared.fault.GraphFault.{GraphFault}
use Rattle.graph.specs.declared.fault.GraphFault.TheVariants.{MadeTwice as MadeTwiceFault, NoDyndepInput as NoDyndepInputFault}
use Rattle.graph.specs.declared.makers.Flaw.{Flaw}
use Rattle.graph.specs.declared.makers.Flaw.TheVariants.{MadeTwice, NoDyndepInput}
use Rattle.graph.specs.Held.{dyndep_of, DyndepsAreInputs, StandOnce}
use Rattle.graph.specs.Linked.{AreDistinct, AreInOrder, NamesDyndepInput}
use Rattle.graph.specs.Making.{made_below, HaveClaimed, AreMakersBelow, HaveDyndepsBelow, IsOtherDyndep, IsRemade, IsFirstFlaw, IsFlawBelow, IsClaimedTwice, IsFaultFor, IsMakingFault}
use Rattle.graph.proofs.Makes.{output_below, outputs_within, inputs_within, claimed_once, remade, distinct_texts, below_has}
use Rattle.graph.proofs.Repeats.{fault_turn, dyndep_fault_turn}
use Rattle.graph.proofs.Texts.{AreWithin, within_has, within_of, has_text, has_texts, outputs_of, inputs_of, dyndep_is, length-edges, edge_get, all_outputs_of, edges_take}

-- ---- by numbers

pub claim_flaw : (manifest : Manifest) (makers : List (Option ℕ)) (count e : ℕ) → e < count → e < length manifest.lines → AreMakersBelow manifest.lines makers e → HaveDyndepsBelow manifest e → (flaw : Flaw)
    → IsClaimedTwice makers (line_outputs (line_at manifest.lines e)) flaw → IsFlawBelow manifest count flaw
claim_flaw manifest makers count e low lt below dyndeps (MadeTwice p) first = (record { edge = e; within = lt; once = below.once; dyndeps = dyndeps; is = remade manifest.lines makers makers e lt below p first }, low)
claim_flaw manifest makers count e low lt below dyndeps (NoDyndepInput p) first = absurd first

pub dyndep_flaw : (manifest : Manifest) (makers new : List (Option ℕ)) (count e : ℕ) → e < count → e < length manifest.lines → AreMakersBelow manifest.lines makers e → HaveDyndepsBelow manifest e → HaveClaimed makers new (line_outputs (line_at manifest.lines e)) e
    → (flaw : Flaw) → IsOtherDyndep manifest e flaw → IsFlawBelow manifest count flaw
dyndep_flaw manifest makers new count e low lt below dyndeps claimed (MadeTwice p) other = absurd other
dyndep_flaw manifest makers new count e low lt below dyndeps claimed (NoDyndepInput p) other =
    (record { edge = e; within = lt; once = below.once; dyndeps = dyndeps; is = (claimed_once manifest.lines makers new e lt below claimed, other) }, low)

pub dyndeps_turn : (manifest : Manifest) (place e : ℕ) → e ≡ place → HaveDyndepsBelow manifest place
    → ((p : ℕ) → dyndep_of (get_or manifest.actions e no_action) ≡ Some p → has_number (line_inputs (line_at manifest.lines e)) p ≡ true) → HaveDyndepsBelow manifest (place + 1)
dyndeps_turn manifest place e same before here d p low names = elim (cases_eq e d) [
  | inl this ↦ subst (λ (n : ℕ). has_number (line_inputs (line_at manifest.lines n)) p ≡ true) this (here p (subst (λ (n : ℕ). dyndep_of (get_or manifest.actions n no_action) ≡ Some p) (sym this) names))
  | inr other ↦ before d p (omega (arith, low, other, same)) names
]

past_action : (actions : List Action) (e : ℕ) → length actions ≤ e → dyndep_of (get_or actions e no_action) ≡ None
past_action [] e past = refl
past_action (action ∷ actions) zero past = absurd (omega (arith, past))
past_action (action ∷ actions) (suc e) past = past_action actions e (omega (arith, past))

pub dyndeps_whole : (manifest : Manifest) (count : ℕ) → count ≡ length manifest.lines → HaveDyndepsBelow manifest count → DyndepsAreInputs manifest
dyndeps_whole manifest count whole below e p names = elim (cases_lt e count) [
  | inl low ↦ below e p low names
  | inr past ↦ absurd (none_some (sym (past_action manifest.actions e (omega (arith, past, whole, manifest.fits))) ∙ names))
]
  where
    none_some : None ≡ Some p → ⊥
    none_some is = cc

-- ---- in texts

pub dyndep_low : (manifest : Manifest) (e p : ℕ) → dyndep_of (get_or manifest.actions e no_action) ≡ Some p → p < length manifest.paths
dyndep_low manifest e p is = by (get_or manifest.actions e no_action) (manifest.dyndeps e) is
  where
    by : (action : Action) → dyndep_stop action ≤ length manifest.paths → dyndep_of action ≡ Some p → p < length manifest.paths
    by Alias low names = cc
    by (Command command) low names = let stop : stop_of command.dyndep ≡ suc p = ap stop_of names in omega (arith, low, stop)

abbrev pub flaw_path : Flaw → ℕ
flaw_path (MadeTwice p) = p
flaw_path (NoDyndepInput p) = p

pub flaw_within : (manifest : Manifest) (flaw : Flaw) → IsFirstFlaw manifest flaw → flaw_path flaw < length manifest.paths
flaw_within manifest (MadeTwice p) first =
    let there : has_number (line_outputs (line_at manifest.lines first.edge)) p ≡ true = subst (λ (l : List ℕ). has_number l p ≡ true) (sym first.is.splits) (has_number-right first.is.before (p ∷ first.is.after) p (or_left (p == p) (has_number first.is.after p) (eq-eqb p p refl))) in
    let low = output_below manifest first.edge p there in
    omega (arith, low, manifest.names)
flaw_within manifest (NoDyndepInput p) first = dyndep_low manifest first.edge p first.is.1.0

option_text : (text : ℕ → List ℕ) (o : Option ℕ) (file : List ℕ) → option_map text o ≡ Some file → (p : ℕ) × (o ≡ Some p) × (text p ≡ file)
option_text text None file is = cc
option_text text (Some p) file is = (p, refl, cc)

pub dyndeps_texts : (paths : List (List ℕ)) (lines : List Line) (actions : List Action) (k : ℕ)
    → ((e p : ℕ) → e < k → dyndep_of (get_or actions e no_action) ≡ Some p → has_number (line_inputs (line_at lines e)) p ≡ true) → AllByRecursion NamesDyndepInput (take k (edges_of paths lines actions))
dyndeps_texts paths lines actions zero each = tt
dyndeps_texts paths [] actions (suc k) each = tt
dyndeps_texts paths (line ∷ lines) [] (suc k) each = tt
dyndeps_texts paths (line ∷ lines) (action ∷ actions) (suc k) each = (
  (λ file names.
      let one = option_text (text_at paths) (dyndep_of action) file (sym (dyndep_is paths line action) ∙ names) in
      subst (λ (l : List (List ℕ)). has l file ≡ true) (sym (inputs_of paths line action)) (subst (λ (t : List ℕ). has (texts_at paths (line_inputs line)) t ≡ true) one.2 (has_text paths (line_inputs line) one.0 (each 0 one.0 (omega arith) one.1)))),
  dyndeps_texts paths lines actions k (λ e p lt names. each (suc e) p (omega (arith, lt)) names),
)

take_fits : {X Y : Type 0} (xs : List X) (ys : List Y) (k : ℕ) → length xs ≡ length ys → length (take k xs) ≡ length (take k ys)
take_fits xs ys zero fits = refl
take_fits [] [] (suc k) fits = refl
take_fits [] (y ∷ ys) (suc k) fits = absurd (omega (arith, fits))
take_fits (x ∷ xs) [] (suc k) fits = absurd (omega (arith, fits))
take_fits (x ∷ xs) (y ∷ ys) (suc k) fits = ap suc (take_fits xs ys k (omega (arith, fits)))

module _ (manifest : Manifest) (once : HaveOnePlace manifest.paths) where
  below_within : (k : ℕ) → AreWithin manifest.paths (made_below manifest.lines k)
  below_within k = within_of (length manifest.paths) (made_below manifest.lines k) (λ p h.
      let edge = below_has manifest.lines k p h in
      let low = output_below manifest edge.0 p edge.2 in
      omega (arith, low, manifest.names))

  below_texts : (k : ℕ) → texts_at manifest.paths (made_below manifest.lines k) ≡ all_outputs (take k (graph_of manifest).edges)
  below_texts k = sym (ap all_outputs (edges_take manifest.paths manifest.lines manifest.actions k)
      ∙ all_outputs_of manifest.paths (take k manifest.lines) (take k manifest.actions) (take_fits manifest.actions manifest.lines k manifest.fits))

  joined_within : (xs ys : List ℕ) → AreWithin manifest.paths xs → AreWithin manifest.paths ys → AreWithin manifest.paths (xs ++ ys)
  joined_within xs ys a b = within_of (length manifest.paths) (xs ++ ys) (λ p h. elim (has_number-cases xs ys p h) [
    | inl left ↦ within_has (length manifest.paths) xs p a left
    | inr right ↦ within_has (length manifest.paths) ys p b right
  ])

  -- the first so many edges are in order
  pub in_order_below : (k : ℕ) → StandOnce (made_below manifest.lines k) → HaveDyndepsBelow manifest k → AreInOrder (take k (graph_of manifest).edges)
  in_order_below k stand dyndeps = record {
    distinct = subst AreDistinct (below_texts k) (distinct_texts manifest.paths once (made_below manifest.lines k) (below_within k) stand);
    dyndep = dyndeps_texts manifest.paths manifest.lines manifest.actions k dyndeps;
  }

  module _ (count k : ℕ) (low : k < count) (lt : k < length manifest.lines) (stand : StandOnce (made_below manifest.lines k)) (dyndeps : HaveDyndepsBelow manifest k) where
    edge : Edge
    edge = get_or (graph_of manifest).edges k no_edge

    edge_lt : k < length (graph_of manifest).edges
    edge_lt = let long = length-edges manifest.paths manifest.lines manifest.actions manifest.fits in omega (arith, lt, long)

    edge_at_is : get_or (graph_of manifest).edges k no_edge ≡ get_or (graph_of manifest).edges k (get_or (graph_of manifest).edges k no_edge)
    edge_at_is = get_or_default (graph_of manifest).edges k no_edge (get_or (graph_of manifest).edges k no_edge) edge_lt

    outputs_are : outputs (get_or (graph_of manifest).edges k no_edge) ≡ texts_at manifest.paths (line_outputs (line_at manifest.lines k))
    outputs_are = ap outputs (edge_get manifest.paths manifest.lines manifest.actions k manifest.fits) ∙ outputs_of manifest.paths (line_at manifest.lines k) (get_or manifest.actions k no_action)

    inputs_are : inputs (get_or (graph_of manifest).edges k no_edge) ≡ texts_at manifest.paths (line_inputs (line_at manifest.lines k))
    inputs_are = ap inputs (edge_get manifest.paths manifest.lines manifest.actions k manifest.fits) ∙ inputs_of manifest.paths (line_at manifest.lines k) (get_or manifest.actions k no_action)

    now_distinct : AreDistinct (texts_at manifest.paths (made_below manifest.lines k))
    now_distinct = distinct_texts manifest.paths once (made_below manifest.lines k) (below_within k) stand

    named_before : AllByRecursion NamesDyndepInput (take k (graph_of manifest).edges)
    named_before = dyndeps_texts manifest.paths manifest.lines manifest.actions k dyndeps

    twice_told : (p : ℕ) → IsRemade manifest.lines k p → IsMakingFault (graph_of manifest).edges count (MadeTwiceFault (text_at manifest.paths p))
    twice_told p again =
        fault_turn (graph_of manifest).edges k (get_or (graph_of manifest).edges k no_edge) (texts_at manifest.paths (made_below manifest.lines k)) edge_lt edge_at_is (below_texts k) now_distinct named_before count low
        (MadeTwiceFault (text_at manifest.paths p)) record {
          before = texts_at manifest.paths (made_below manifest.lines k ++ again.before);
          after = texts_at manifest.paths again.after;
          splits = ap (λ (l : List (List ℕ)). texts_at manifest.paths (made_below manifest.lines k) ++ l) outputs_are
              ∙ (sym (map-append (text_at manifest.paths) (made_below manifest.lines k) (line_outputs (line_at manifest.lines k)))
              ∙ (ap (λ (l : List ℕ). texts_at manifest.paths (made_below manifest.lines k ++ l)) again.splits
              ∙ (ap (texts_at manifest.paths) (sym (append_assoc (made_below manifest.lines k) again.before (p ∷ again.after)))
              ∙ map-append (text_at manifest.paths) (made_below manifest.lines k ++ again.before) (p ∷ again.after))));
          earlier = has_text manifest.paths (made_below manifest.lines k ++ again.before) p again.earlier;
          distinct = distinct_texts manifest.paths once (made_below manifest.lines k ++ again.before) front_within again.once;
        }
      where
        front_within : AreWithin manifest.paths (made_below manifest.lines k ++ again.before)
        front_within = joined_within (made_below manifest.lines k) again.before (below_within k)
            (within_of (length manifest.paths) again.before (λ q h.
            within_has (length manifest.paths) (line_outputs (line_at manifest.lines k)) q (outputs_within manifest k) (subst (λ (l : List ℕ). has_number l q ≡ true) (sym again.splits) (has_number-left again.before (p ∷ again.after) q h))))

    other_told : (p : ℕ) → StandOnce (made_below manifest.lines k ++ line_outputs (line_at manifest.lines k)) → IsOtherDyndep manifest k (NoDyndepInput p) → IsMakingFault (graph_of manifest).edges count (NoDyndepInputFault (text_at manifest.paths p))
    other_told p whole other =
        dyndep_fault_turn (graph_of manifest).edges k (get_or (graph_of manifest).edges k no_edge) (texts_at manifest.paths (made_below manifest.lines k)) edge_lt edge_at_is (below_texts k) now_distinct named_before count low
        (texts_at manifest.paths (made_below manifest.lines k ++ line_outputs (line_at manifest.lines k)))
        (map-append (text_at manifest.paths) (made_below manifest.lines k) (line_outputs (line_at manifest.lines k)) ∙ ap (λ (l : List (List ℕ)). texts_at manifest.paths (made_below manifest.lines k) ++ l) (sym outputs_are))
        (distinct_texts manifest.paths once (made_below manifest.lines k ++ line_outputs (line_at manifest.lines k)) (joined_within (made_below manifest.lines k) (line_outputs (line_at manifest.lines k)) (below_within k) (outputs_within manifest k)) whole)
        (NoDyndepInputFault (text_at manifest.paths p)) (
          ap (λ (e : Edge). e.dyndep) (edge_get manifest.paths manifest.lines manifest.actions k manifest.fits) ∙ (dyndep_is manifest.paths (line_at manifest.lines k) (get_or manifest.actions k no_action) ∙ ap (option_map (text_at manifest.paths)) other.0),
          ap (λ (l : List (List ℕ)). has l (text_at manifest.paths p)) inputs_are ∙ (has_texts manifest.paths once (line_inputs (line_at manifest.lines k)) p (dyndep_low manifest k p other.0) (inputs_within manifest k) ∙ other.1),
        )

  pub fault_told : (count : ℕ) (flaw : Flaw) (fault : GraphFault) → IsFlawBelow manifest count flaw → IsFaultFor manifest.paths flaw fault → IsMakingFault (graph_of manifest).edges count fault
  fault_told count (MadeTwice p) fault first is =
      subst (IsMakingFault (graph_of manifest).edges count) (sym is) (twice_told count first.0.edge first.1 first.0.within first.0.once first.0.dyndeps p first.0.is)
  fault_told count (NoDyndepInput p) fault first is =
      subst (IsMakingFault (graph_of manifest).edges count) (sym is) (other_told count first.0.edge first.1 first.0.within first.0.once first.0.dyndeps p first.0.is.0 first.0.is.1)
