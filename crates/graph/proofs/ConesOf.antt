-- A walk's cone is the cone of its targets, and the paths round a cycle are shown as the definitions say.
use Rattle.std.proofs.Common.{◌≡◌, inl, inr, ℕ, suc, ◌<◌, ◌==◌, true, false, cond, Bool, List, [], ◌∷◌, ◌++◌, Option, Some, None, map, length, slice_index, Result, Ok, Err, IfErr, refl, sym, ◌∙◌, ap, subst, arith, append_assoc}
use Rattle.std.specs.List.{AllByRecursion}
use Rattle.std.proofs.lemmas.List.{map-append, append-nil}
use Rattle.std.proofs.lemmas.Bool.{false≢true, or_cases, or_left, eqb-true, eq-eqb, cases_Bool}
use Rattle.model.specs.declared.graph.Edge.{Edge}
use Rattle.model.specs.Graph.{has, has_number, edge_at, maker, later_number, outputs, targets_of}
use Rattle.model.specs.Records.{Store, recorded_inputs}
use Rattle.model.specs.Reading.{IsInCone, Wanted, Needed, Validating, IsCycle}
use Rattle.model.specs.SingleBuild.{Asked, declared_graph, IsChainOf, IsShownCycle}
use Rattle.theory.specs.Order.{AreMakersFirst}
use Rattle.theory.proofs.Cones.{cone_within, no_cycle_by_order}
use Rattle.theory.proofs.Lists.{same_bytes, bytes_same, has-left, has-right, has_number-right, all_parts}
use Rattle.graph.specs.Links.{Links, needs_at}
use Rattle.graph.specs.declared.cone.Mark.{Mark}
use Rattle.graph.specs.Cone.{IsNeeded, Asked as Requested, Above, Beside, made_by, Follows, IsOrder, IsCone, IsChain, IsRound, IsConeFault}
use Rattle.paths.specs.Told.{text_at}
use Rattle.graph.specs.Linked.{IsGraphOf, HasMaker, IsLinksOf, IsConeOf, AreMakersOf}
use Rattle.graph.specs.declared.cone.ConeFault.{ConeFault}
use Rattle.graph.specs.declared.cone.ConeFault.TheVariants.{Memory, Unknown, Cycle}
use Rattle.graph.specs.ConeOf.{IsConeForEach, IsFaultForEach}
use Rattle.graph.proofs.Rounds.{has_at}
use Rattle.graph.proofs.Walking.{place_in}

-- ---- lists

pub has_suc : (xs : List ℕ) (n : ℕ) → has_number xs n ≡ true → has_number (map suc xs) (suc n) ≡ true
has_suc [] n h = absurd (false≢true h)
has_suc (x ∷ xs) n h = elim (or_cases (x == n) (has_number xs n) h) [
  | inl here ↦ or_left (suc x == suc n) (has_number (map suc xs) (suc n)) (eq-eqb (suc x) (suc n) (ap suc (eqb-true x n here)))
  | inr later ↦ has_number-right (suc x ∷ []) (map suc xs) (suc n) (has_suc xs n later)
]

pub suc_has : (xs : List ℕ) (i : ℕ) → has_number (map suc xs) i ≡ true → (e : ℕ) × (suc e ≡ i) × (has_number xs e ≡ true)
suc_has [] i h = absurd (false≢true h)
suc_has (x ∷ xs) i h = elim (or_cases (suc x == i) (has_number (map suc xs) i) h) [
  | inl here ↦ (x, eqb-true (suc x) i here, or_left (x == x) (has_number xs x) (eq-eqb x x refl))
  | inr later ↦ let rest = suc_has xs i later in (rest.0, rest.1, has_number-right (x ∷ []) xs rest.0 rest.2)
]

has_text : (text : ℕ → List ℕ) (xs : List ℕ) (n : ℕ) → has_number xs n ≡ true → has (map text xs) (text n) ≡ true
has_text text [] n h = absurd (false≢true h)
has_text text (x ∷ xs) n h = elim (or_cases (x == n) (has_number xs n) h) [
  | inl here ↦ subst (λ (m : ℕ). has (map text (x ∷ xs)) (text m) ≡ true) (eqb-true x n here) (has-left (text x ∷ []) (map text xs) (text x) (or_left _ _ (bytes_same (text x))))
  | inr later ↦ has-right (text x ∷ []) (map text xs) (text n) (has_text text xs n later)
]

number_of : (text : ℕ → List ℕ) (xs : List ℕ) (p : List ℕ) → has (map text xs) p ≡ true → (n : ℕ) × (has_number xs n ≡ true) × (text n ≡ p)
number_of text [] p h = absurd (false≢true h)
number_of text (x ∷ xs) p h = elim (or_cases _ (has (map text xs) p) h) [
  | inl here ↦ (x, or_left (x == x) (has_number xs x) (eq-eqb x x refl), same_bytes (text x) p here)
  | inr later ↦ let rest = number_of text xs p later in (rest.0, has_number-right (x ∷ []) xs rest.0 rest.1, rest.2)
]

later_some : (o : Option ℕ) (i : ℕ) → later_number o ≡ Some i → (m : ℕ) × (o ≡ Some m) × (suc m ≡ i)
later_some None i is = cc
later_some (Some m) i is = (m, refl, cc)

-- edges have no number 0
maker_later : (edges : List Edge) (p : List ℕ) (i : ℕ) → maker edges p ≡ Some i → (e : ℕ) × (suc e ≡ i)
maker_later [] p i is = cc
maker_later (e ∷ es) p i is = elim (cases_Bool (has (outputs e) p)) [
  | inl here ↦ let first : Some 1 ≡ Some i = sym (ap (λ (b : Bool). cond b (Some 1) (later_number (maker es p))) here) ∙ is in (0, cc)
  | inr below ↦
      let rest = later_some (maker es p) i (sym (ap (λ (b : Bool). cond b (Some 1) (later_number (maker es p))) below) ∙ is) in
      (rest.0, rest.2)
]

-- ---- the cone

module _ (edges : List Edge) (recorded : ℕ → List (List ℕ)) (targets : List (List ℕ)) (links : Links) (requested : List ℕ) (linked : IsLinksOf edges recorded links) (makers : AreMakersOf edges targets requested) where
  -- what is needed by the numbers is in the cone
  pub needed_in_cone : (e : ℕ) → IsNeeded links requested e → IsInCone edges recorded targets (suc e)
  needed_in_cone _ (Requested k lt) =
      let want = makers.each (slice_index requested k) (has_at requested k lt) in
      Wanted (suc (slice_index requested k)) want.path want.wanted want.made
  needed_in_cone _ (Above e k m need lt is) =
      let link = linked.linked e (suc m) record { place = k; number = m; within = lt; is = is; same = refl } in
      Needed (suc m) (suc e) link.path (needed_in_cone e need) link.needed link.made
  needed_in_cone _ (Beside e k m need lt is) =
      let link = linked.validating e (suc m) record { place = k; number = m; within = lt; is = is; same = refl } in
      Validating (suc m) (suc e) link.path (needed_in_cone e need) link.named link.made

  made_before : (before : List ℕ) (e : ℕ) → Follows links before e → (j : ℕ) → HasMaker links e j → has_number (map suc before) j ≡ true
  made_before before e follows j made =
      subst (λ (n : ℕ). has_number (map suc before) n ≡ true) made.same
      (has_suc before made.number (subst (λ (o : Option ℕ). made_by before o ≡ true) made.is (follows.made made.place made.within)))

  -- makers come first
  makers_first : (before es : List ℕ) → IsOrder links before es → AreMakersFirst edges recorded (map suc before) (map suc es)
  makers_first before [] order = tt
  makers_first before (e ∷ es) order = (
    (λ p j need is. made_before before e order.0 j (linked.complete e j record { path = p; needed = need; made = is })),
    subst (λ (l : List ℕ). AreMakersFirst edges recorded l (map suc es)) (map-append suc before (e ∷ [])) (makers_first (before ++ e ∷ []) es order.1),
  )

  -- each edge once
  once_at : (before front after : List ℕ) (e : ℕ) → IsOrder links before (front ++ e ∷ after) → has_number (before ++ front) e ≡ false
  once_at before [] after e order = subst (λ (l : List ℕ). has_number l e ≡ false) (sym (append-nil before)) order.0.once
  once_at before (d ∷ front) after e order = subst (λ (l : List ℕ). has_number l e ≡ false) (append_assoc before (d ∷ []) front) (once_at (before ++ d ∷ []) front after e order.1)

  pub cone_of : (order : List ℕ) (marks : List Mark) → IsCone links requested order marks → IsConeOf edges recorded targets order marks
  cone_of order marks cone = record {
    fits = cone.fits ∙ linked.fits;
    marked = cone.marked;
    once = λ before after e splits. once_at [] before after e (subst (IsOrder links []) splits cone.ordered);
    within = λ e h. needed_in_cone e (cone.needed e h);
    all = λ i in_cone. cone_within edges recorded targets (map suc order) first listed validated i in_cone;
    ordered = first;
  }
    where
      first : AreMakersFirst edges recorded [] (map suc order)
      first = makers_first [] order cone.ordered

      listed : (p : List ℕ) (i : ℕ) → has targets p ≡ true → maker edges p ≡ Some i → has_number (map suc order) i ≡ true
      listed p i target is =
          let edge = maker_later edges p i is in
          let place = place_in requested edge.0 (makers.all p edge.0 target (is ∙ ap (λ (n : ℕ). Some n) (sym edge.1))) in
          subst (λ (n : ℕ). has_number (map suc order) n ≡ true) edge.1
          (has_suc order edge.0 (subst (λ (n : ℕ). has_number order n ≡ true) place.2 (cone.asked place.0 place.1)))

      validated : (j : ℕ) (p : List ℕ) (i : ℕ) → has_number (map suc order) j ≡ true → has (edge_at edges j).validations p ≡ true → maker edges p ≡ Some i → has_number (map suc order) i ≡ true
      validated j p i h validation is =
          let edge = suc_has order j h in
          let made = linked.validated edge.0 i record { path = p; named = subst (λ (n : ℕ). has (edge_at edges n).validations p ≡ true) (sym edge.1) validation; made = is } in
          subst (λ (n : ℕ). has_number (map suc order) n ≡ true) made.same
          (has_suc order made.number (subst (λ (o : Option ℕ). made_by order o ≡ true) made.is (cone.validated edge.0 edge.2 made.place made.within)))

-- such a cone has no cycle
pub no_cycle : (edges : List Edge) (recorded : ℕ → List (List ℕ)) (targets : List (List ℕ)) (order : List ℕ) (marks : List Mark) → IsConeOf edges recorded targets order marks
    → (i : ℕ) → IsInCone edges recorded targets i → IsCycle edges recorded i → ⊥
no_cycle edges recorded targets order marks cone i in_cone = no_cycle_by_order edges recorded (map suc order) cone.ordered i (cone.all i in_cone)

-- ---- cycles

module _ (edges : List Edge) (recorded : ℕ → List (List ℕ)) (paths : List (List ℕ)) (links : Links) (graph : IsGraphOf edges recorded paths links) where
  input_within : (e q : ℕ) → has_number (needs_at links e) q ≡ true → q < length paths
  input_within e q h = let place = place_in (needs_at links e) q h in subst (λ (n : ℕ). n < length paths) place.2 (graph.numbered e place.0 place.1)

  -- the paths after the first are inputs
  chain_within : (p : ℕ) (ps : List ℕ) → IsChain links (p ∷ ps) → AllByRecursion (λ q. q < length paths) ps
  chain_within p [] chain = tt
  chain_within p (q ∷ ps) chain = (input_within chain.0.edge q chain.0.needs, chain_within q ps chain.1)

  chain_of : (p : ℕ) (ps : List ℕ) → p < length paths → IsChain links (p ∷ ps) → IsChainOf edges recorded (map (text_at paths) (p ∷ ps))
  chain_of p [] lt chain = tt
  chain_of p (q ∷ ps) lt chain = (
    (
      suc chain.0.edge,
      graph.makers p lt ∙ ap later_number chain.0.made,
      sym (graph.needs chain.0.edge (text_at paths q)) ∙ has_text (text_at paths) (needs_at links chain.0.edge) q chain.0.needs,
    ),
    chain_of q ps (input_within chain.0.edge q chain.0.needs) chain.1,
  )

  -- the maker of a text by that of its number
  maker_number : (p : List ℕ) (n i : ℕ) → n < length paths → text_at paths n ≡ p → maker edges p ≡ Some i → (m : ℕ) × (links.maker n ≡ Some m) × (suc m ≡ i)
  maker_number p n i lt same is =
      later_some (links.maker n) i (sym (graph.makers n lt) ∙ (ap (maker edges) same ∙ is))

  module _ (requested numbers : List ℕ) (round : IsRound links requested numbers) where
    chain : IsChain links (round.first ∷ (round.middle ++ round.first ∷ []))
    chain = subst (IsChain links) round.round round.chain

    rest_within : AllByRecursion (λ q. q < length paths) (round.middle ++ round.first ∷ [])
    rest_within = chain_within round.first (round.middle ++ round.first ∷ []) chain

    first_within : round.first < length paths
    first_within = (all_parts (λ q. q < length paths) round.middle (round.first ∷ []) rest_within).1.0

    number_within : (n : ℕ) → has_number numbers n ≡ true → n < length paths
    number_within n h = all_numbers (round.first ∷ (round.middle ++ round.first ∷ [])) (first_within, rest_within) n (subst (λ (l : List ℕ). has_number l n ≡ true) round.round h)
      where
        all_numbers : (xs : List ℕ) → AllByRecursion (λ q. q < length paths) xs → (n : ℕ) → has_number xs n ≡ true → n < length paths
        all_numbers [] all n h = absurd (false≢true h)
        all_numbers (x ∷ xs) all n h = elim (or_cases (x == n) (has_number xs n) h) [
          | inl here ↦ subst (λ (m : ℕ). m < length paths) (eqb-true x n here) all.0
          | inr later ↦ all_numbers xs all.1 n later
        ]

    pub shown_chain : IsChainOf edges recorded (map (text_at paths) numbers)
    shown_chain = subst (λ (l : List ℕ). IsChainOf edges recorded (map (text_at paths) l)) (sym round.round) (chain_of round.first (round.middle ++ round.first ∷ []) first_within chain)

    pub shown_maker : (p : List ℕ) (i : ℕ) → has (map (text_at paths) numbers) p ≡ true → maker edges p ≡ Some i → (m : ℕ) × IsNeeded links requested m × (suc m ≡ i)
    shown_maker p i h is =
        let number = number_of (text_at paths) numbers p h in
        let made = maker_number p number.0 i (number_within number.0 number.1) number.2 is in
        (made.0, round.needed number.0 made.0 number.1 made.1, made.2)

    pub shown_lowest : (p : List ℕ) (i j : ℕ) → maker edges (text_at paths round.first) ≡ Some i → has (map (text_at paths) numbers) p ≡ true → maker edges p ≡ Some j → j < i → ⊥
    shown_lowest p i j first_is h is less =
        let number = number_of (text_at paths) numbers p h in
        let made = maker_number p number.0 j (number_within number.0 number.1) number.2 is in
        let first_made = maker_number (text_at paths round.first) round.first i first_within refl first_is in
        omega (arith, round.lowest number.0 first_made.0 made.0 first_made.1 number.1 made.1, first_made.2, made.2, less)

-- the texts of the paths round a cycle of edges that a build of these targets needs
pub shown_cycle : (asked : Asked) (store : Store) (paths : List (List ℕ)) (links : Links) (requested numbers : List ℕ)
    → IsGraphOf asked.graph.edges (recorded_inputs store asked.graph.edges) paths links → IsLinksOf asked.graph.edges (recorded_inputs store asked.graph.edges) links
    → AreMakersOf asked.graph.edges (targets_of (declared_graph asked) asked.targets) requested
    → IsRound links requested numbers → IsShownCycle asked store (map (text_at paths) numbers)
shown_cycle asked store paths links requested numbers graph linked makers round = record {
  first = text_at paths round.first;
  middle = map (text_at paths) round.middle;
  round = ap (map (text_at paths)) round.round ∙ ap (λ (l : List (List ℕ)). text_at paths round.first ∷ l) (map-append (text_at paths) round.middle (round.first ∷ []));
  chain = shown_chain edges recorded paths links graph requested numbers round;
  within = λ p i h is.
      let made = shown_maker edges recorded paths links graph requested numbers round p i h is in
      subst (IsInCone edges recorded (targets_of (declared_graph asked) asked.targets)) made.2 (needed_in_cone edges recorded (targets_of (declared_graph asked) asked.targets) links requested linked makers made.0 made.1);
  lowest = λ p i j first_is h is less. shown_lowest edges recorded paths links graph requested numbers round p i j first_is h is less;
}
  where
    edges : List Edge
    edges = asked.graph.edges

    recorded : ℕ → List (List ℕ)
    recorded = recorded_inputs store edges

-- ---- for each edges that the numbers stand for

pub cone_for_each : (links : Links) (requested order : List ℕ) (marks : List Mark) → IsCone links requested order marks → IsConeForEach links requested order marks
cone_for_each links requested order marks cone edges recorded targets stand = cone_of edges recorded targets links requested stand.linked stand.makers order marks cone

pub fault_for_each : (links : Links) (requested : List ℕ) (fault : ConeFault) → IsConeFault links requested fault → IsFaultForEach links requested fault
fault_for_each links requested Memory is = tt
fault_for_each links requested (Unknown place) is = is
fault_for_each links requested (Cycle numbers) round = λ asked store paths graph stand. shown_cycle asked store paths links requested numbers graph stand.linked stand.makers round

pub fault_in : {T : Type 0} (links : Links) (requested : List ℕ) (result : Result T ConeFault) → IfErr result (IsConeFault links requested) → IfErr result (IsFaultForEach links requested)
fault_in links requested (Ok x) is = tt
fault_in links requested (Err fault) is = fault_for_each links requested fault is
