-- What a load changes of the numbers of a graph is at the edges of its file alone.
use Rattle.std.proofs.Common.{◌≡◌, ◌⊎◌, inl, inr, ℕ, ◌<◌, ◌≤◌, ◌||◌, Bool, true, false, List, [], ◌∷◌, ◌++◌, Option, Some, None, length, get_or, slice_get, refl, sym, ◌∙◌, ap, subst, arith}
use Rattle.std.specs.Option.{is_some}
use Rattle.std.proofs.lemmas.Bool.{cases_Bool, cases_lt, false≢true}
use Rattle.std.proofs.lemmas.List.{get_or_past}
use Rattle.model.specs.Graph.{has_number, Addition}
use Rattle.theory.proofs.Lists.{has_number-left}
use Rattle.paths.specs.declared.line.Line.{Line}
use Rattle.paths.specs.declared.manifest.Action.{Action}
use Rattle.paths.specs.declared.manifest.Action.TheVariants.{Alias, Command}
use Rattle.paths.specs.Lists.{no_line, line_at, line_outputs, line_inputs}
use Rattle.graph.specs.declared.back.LoadedEdge.{LoadedEdge}
use Rattle.graph.specs.declared.graph.Graph.{Graph}
use Rattle.graph.specs.declared.loaded.Gain.{Gain}
use Rattle.graph.specs.Alone.{HasGrownAlone}
use Rattle.graph.specs.Back.{AreLoadedEdges}
use Rattle.graph.specs.Extended.{dyndep_at}
use Rattle.graph.specs.Held.{list_at, dyndep_of}
use Rattle.graph.specs.LoadedEdges.{numbers_in}
use Rattle.graph.specs.Statements.{is_place, gain_of, line_with, AreGrownLines, action_at, action_with, loaded_action, addition_at, AreLoadedActions}
use Rattle.graph.specs.Told.{recorded_by}
use Rattle.graph.proofs.Extending.{same_line}
use Rattle.graph.proofs.GraphIs.{graph_is}
use Rattle.graph.proofs.Loading.{line_within, outputs_more}
use Rattle.graph.proofs.Undoing.{number_at}

not_some : {X : Type 0} (o : Option X) → is_some o ≡ false → o ≡ None
not_some None is = refl
not_some (Some x) is = absurd (false≢true (sym is))

some_of : {X : Type 0} (o : Option X) → is_some o ≡ true → (x : X) × (o ≡ Some x)
some_of None is = absurd (false≢true is)
some_of (Some x) is = (x, refl)

names_none : (restat : Bool) (a : Action) → dyndep_of (loaded_action restat a) ≡ None
names_none restat Alias = refl
names_none restat (Command command) = refl

module _ (old new : Graph) (file : ℕ) (additions : List Addition) (choice : ℕ → Option ℕ) (gains : List Gain) (edges : List LoadedEdge) (lines : AreGrownLines old.manifest.lines choice gains new.manifest.lines)
    (actions : AreLoadedActions old.manifest.actions choice additions new.manifest.actions) (chosen : AreLoadedEdges old.manifest.actions choice edges) where
  unchosen : (e : ℕ) → has_number (numbers_in edges) e ≡ false → choice e ≡ None
  unchosen e absent = by (is_some (choice e)) refl
    where
      by : (b : Bool) → is_some (choice e) ≡ b → choice e ≡ None
      by true some = absurd (false≢true (sym absent ∙ chosen.all e some))
      by false none = not_some (choice e) none

  given : (e : ℕ) → has_number (numbers_in edges) e ≡ true → (k : ℕ) × (choice e ≡ Some k)
  given e there =
      let at = number_at edges e there in
      some_of (choice e) (subst (λ (n : ℕ). is_some (choice n) ≡ true) at.1.2 (chosen.each at.0 at.1.0 at.1.1).some)

  -- the line of another edge is as it was
  line_stays : (e : ℕ) → has_number (numbers_in edges) e ≡ false → line_at new.manifest.lines e ≡ line_at old.manifest.lines e
  line_stays e absent = elim (cases_lt e (length old.manifest.lines)) [
    | inl low ↦ lines.each e low ∙ (ap (line_with gains (line_at old.manifest.lines e)) (unchosen e absent) ∙ same_line (line_at old.manifest.lines e))
    | inr past ↦ get_or_past new.manifest.lines e no_line (let size = lines.fits in omega (arith, past, size)) ∙ sym (get_or_past old.manifest.lines e no_line past)
  ]

  -- what an edge made it makes still
  made_still : (p e : ℕ) → has_number (line_outputs (line_at old.manifest.lines e)) p ≡ true → has_number (line_outputs (line_at new.manifest.lines e)) p ≡ true
  made_still p e made =
      let line = line_at old.manifest.lines e in
      let low = line_within old.manifest.lines e p (has_number-left (line_outputs line) (line_inputs line ++ line.validations) p made) in
      subst (λ (l : Line). has_number (line_outputs l) p ≡ true) (sym (lines.each e low)) (outputs_more line (gain_of gains (choice e)).outputs (gain_of gains (choice e)).inputs p made)

  pub grown_alone : ((e : ℕ) → has_number (numbers_in edges) e ≡ is_place (dyndep_at old e) file) → new.recorded ≡ old.recorded → HasGrownAlone (numbers_in edges) file old new
  grown_alone were recorded = record {
    were = were;
    below = (graph_is old (recorded_by old) (λ i p. refl)).numbered;
    needs = λ e absent. ap (λ (l : Line). line_inputs l ++ list_at new.recorded e) (line_stays e absent) ∙ ap (λ (r : List (List ℕ)). line_inputs (line_at old.manifest.lines e) ++ list_at r e) recorded;
    files = λ e absent. ap dyndep_of (actions.each e ∙ ap (action_with additions (action_at old.manifest.actions e)) (unchosen e absent));
    loaded = λ e there.
        let one = given e there in
        ap dyndep_of (actions.each e ∙ ap (action_with additions (action_at old.manifest.actions e)) one.1) ∙ names_none (addition_at additions one.0).restat (action_at old.manifest.actions e);
    made = λ p e is. new.making.all p e (made_still p e (old.making.made p e is));
    makers = λ p e is. elim (cases_Bool (has_number (numbers_in edges) e)) [
      | inl there ↦ inr there
      | inr absent ↦ inl (old.making.all p e (subst (λ (l : Line). has_number (line_outputs l) p ≡ true) (line_stays e absent) (new.making.made p e is)))
    ];
  }
