-- What the numbers of a graph stand for.
use Rattle.std.proofs.Common.{◌≡◌, inl, inr, ℕ, zero, suc, ◌<◌, ◌||◌, Bool, true, List, [], ◌∷◌, ◌++◌, Option, Some, None, map, length, get_or, refl, sym, ◌∙◌, ap, subst, arith}
use Rattle.std.specs.Prelude.{slice_index}
use Rattle.std.proofs.lemmas.Bool.{false≢true, or_left, or_right}
use Rattle.std.proofs.lemmas.List.{map-append}
use Rattle.model.specs.declared.graph.Edge.{Edge}
use Rattle.model.specs.Graph.{has, has_number, edge_at, inputs, maker, later_number}
use Rattle.model.specs.Reading.{needs}
use Rattle.theory.proofs.Lists.{bytes_same, has_number-cases}
use Rattle.paths.specs.declared.line.Line.{Line}
use Rattle.paths.specs.Lists.{line_at, line_outputs}
use Rattle.paths.specs.Commands.{no_action}
use Rattle.paths.specs.Told.{text_at, texts_at, edge_of}
use Rattle.graph.specs.declared.graph.Graph.{Graph}
use Rattle.graph.specs.Held.{list_at}
use Rattle.graph.specs.Links.{Links, links_of, needs_at}
use Rattle.graph.specs.Linked.{IsGraphOf, IsLinksOf}
use Rattle.graph.specs.Told.{declared_by, recorded_by, AreSameInputs}
use Rattle.graph.proofs.Rounds.{has_at}
use Rattle.graph.proofs.Texts.{length-edges, edge_get, inputs_of, validations_of, number_of}
use Rattle.graph.proofs.Walking.{place_in}
use Rattle.graph.proofs.Makes.{maker_is, input_below, validation_below}

has_append : (xs ys : List (List ℕ)) (p : List ℕ) → has (xs ++ ys) p ≡ (has xs p || has ys p)
has_append [] ys p = refl
has_append (x ∷ xs) ys p = grind (arith, has_append xs ys p)

has_text : (text : ℕ → List ℕ) (xs : List ℕ) (k : ℕ) → k < length xs → has (map text xs) (text (slice_index xs k)) ≡ true
has_text text [] k lt = absurd (omega (arith, lt))
has_text text (x ∷ xs) zero lt = or_left _ (has (map text xs) (text x)) (bytes_same (text x))
has_text text (x ∷ xs) (suc k) lt = or_right _ (has (map text xs) (text (slice_index xs k))) (has_text text xs k (omega (arith, lt)))

later_some : (o : Option ℕ) (i : ℕ) → later_number o ≡ Some i → (m : ℕ) × (o ≡ Some m) × (suc m ≡ i)
later_some None i is = cc
later_some (Some m) i is = (m, refl, cc)

module _ (graph : Graph) where
  pub edge_is : (e : ℕ) → edge_at (declared_by graph).edges (suc e) ≡ edge_of graph.manifest.paths (line_at graph.manifest.lines e) (get_or graph.manifest.actions e no_action)
  edge_is e = edge_get graph.manifest.paths graph.manifest.lines graph.manifest.actions e graph.manifest.fits

  pub inputs_are : (e : ℕ) → inputs (edge_at (declared_by graph).edges (suc e)) ≡ texts_at graph.manifest.paths ((links_of graph).inputs e)
  inputs_are e = ap inputs (edge_is e) ∙ inputs_of graph.manifest.paths (line_at graph.manifest.lines e) (get_or graph.manifest.actions e no_action)

  pub validations_are : (e : ℕ) → (edge_at (declared_by graph).edges (suc e)).validations ≡ texts_at graph.manifest.paths ((links_of graph).validations e)
  validations_are e = ap (λ (edge : Edge). edge.validations) (edge_is e) ∙ validations_of graph.manifest.paths (line_at graph.manifest.lines e) (get_or graph.manifest.actions e no_action)

  pub need_within : (e p : ℕ) → has_number (needs_at (links_of graph) e) p ≡ true → p < length graph.manifest.paths
  need_within e p h = elim (has_number-cases ((links_of graph).inputs e) ((links_of graph).recorded e) p h) [
    | inl declared ↦ let low = input_below graph.manifest e p declared in omega (arith, low, graph.manifest.names)
    | inr held ↦ graph.recording.within e p held
  ]

  validation_within : (e p : ℕ) → has_number ((links_of graph).validations e) p ≡ true → p < length graph.manifest.paths
  validation_within e p h = let low = validation_below graph.manifest e p h in omega (arith, low, graph.manifest.names)

  needs_are : (e : ℕ) → map (text_at graph.manifest.paths) (needs_at (links_of graph) e) ≡ needs (declared_by graph).edges (recorded_by graph) (suc e)
  needs_are e =
      map-append (text_at graph.manifest.paths) ((links_of graph).inputs e) ((links_of graph).recorded e)
      ∙ ap (λ (l : List (List ℕ)). l ++ texts_at graph.manifest.paths (list_at graph.recorded e)) (sym (inputs_are e))

  pub graph_is : (recorded : ℕ → List (List ℕ)) → AreSameInputs recorded (recorded_by graph) → IsGraphOf (declared_by graph).edges recorded graph.manifest.paths (links_of graph)
  graph_is recorded same = record {
    fits = sym (length-edges graph.manifest.paths graph.manifest.lines graph.manifest.actions graph.manifest.fits);
    numbered = λ e k lt. need_within e (slice_index (needs_at (links_of graph) e) k) (has_at (needs_at (links_of graph) e) k lt);
    needs = λ e p.
        ap (λ (l : List (List ℕ)). has l p) (needs_are e)
        ∙ (has_append (inputs (edge_at (declared_by graph).edges (suc e))) (recorded_by graph (suc e)) p
        ∙ (ap (λ (b : Bool). has (inputs (edge_at (declared_by graph).edges (suc e))) p || b) (sym (same (suc e) p))
        ∙ sym (has_append (inputs (edge_at (declared_by graph).edges (suc e))) (recorded (suc e)) p)));
    makers = λ p lt. maker_is graph.manifest graph.makers graph.making graph.apart p lt;
    validated = λ e k lt. validation_within e (slice_index ((links_of graph).validations e) k) (has_at ((links_of graph).validations e) k lt);
    validations = λ e. sym (validations_are e);
  }

  pub maker_within : (p e : ℕ) → (links_of graph).maker p ≡ Some e → e < length graph.manifest.lines
  maker_within p e is = within graph.manifest.lines e (graph.making.made p e is)
    where
      within : (lines : List Line) (e : ℕ) → has_number (line_outputs (line_at lines e)) p ≡ true → e < length lines
      within [] e h = absurd (false≢true h)
      within (line ∷ lines) zero h = omega arith
      within (line ∷ lines) (suc e) h = let low = within lines e h in omega (arith, low)

-- ---- who waits for whom

pub links_are : (edges : List Edge) (recorded : ℕ → List (List ℕ)) (paths : List (List ℕ)) (links : Links) → IsGraphOf edges recorded paths links → IsLinksOf edges recorded links
links_are edges recorded paths links graph = record {
  fits = graph.fits;
  linked = λ e j has_maker. record {
    path = text_at paths (slice_index (needs_at links e) has_maker.place);
    needed = sym (graph.needs e (text_at paths (slice_index (needs_at links e) has_maker.place))) ∙ has_text (text_at paths) (needs_at links e) has_maker.place has_maker.within;
    made =
        graph.makers (slice_index (needs_at links e) has_maker.place) (graph.numbered e has_maker.place has_maker.within)
        ∙ (ap later_number has_maker.is ∙ ap (λ (n : ℕ). Some n) has_maker.same);
  };
  complete = λ e j for.
      let number = number_of paths (needs_at links e) for.path (graph.needs e for.path ∙ for.needed) in
      let place = place_in (needs_at links e) number.0 number.1 in
      let text : text_at paths (slice_index (needs_at links e) place.0) ≡ for.path = ap (text_at paths) place.2 ∙ number.2 in
      let later = later_some (links.maker (slice_index (needs_at links e) place.0)) j
      (sym (graph.makers (slice_index (needs_at links e) place.0) (graph.numbered e place.0 place.1)) ∙ (ap (maker edges) text ∙ for.made)) in
      record { place = place.0; number = later.0; within = place.1; is = later.1; same = later.2 };
  validating = λ e j has_maker. record {
    path = text_at paths (slice_index (links.validations e) has_maker.place);
    named = subst (λ (l : List (List ℕ)). has l (text_at paths (slice_index (links.validations e) has_maker.place)) ≡ true) (graph.validations e) (has_text (text_at paths) (links.validations e) has_maker.place has_maker.within);
    made =
        graph.makers (slice_index (links.validations e) has_maker.place) (graph.validated e has_maker.place has_maker.within)
        ∙ (ap later_number has_maker.is ∙ ap (λ (n : ℕ). Some n) has_maker.same);
  };
  validated = λ e j for.
      let number = number_of paths (links.validations e) for.path (subst (λ (l : List (List ℕ)). has l for.path ≡ true) (sym (graph.validations e)) for.named) in
      let place = place_in (links.validations e) number.0 number.1 in
      let text : text_at paths (slice_index (links.validations e) place.0) ≡ for.path = ap (text_at paths) place.2 ∙ number.2 in
      let later = later_some (links.maker (slice_index (links.validations e) place.0)) j
      (sym (graph.makers (slice_index (links.validations e) place.0) (graph.validated e place.0 place.1)) ∙ (ap (maker edges) text ∙ for.made)) in
      record { place = place.0; number = later.0; within = place.1; is = later.1; same = later.2 };
}
