use Rattle.std.proofs.Common.{◌≡◌, ◌∙◌, ℕ, suc, List, [], ◌∷◌, false, get_or, refl, sym, ap, subst}
use Rattle.std.specs.Option.{option_map}
use Rattle.std.proofs.lemmas.Bool.{false≢true}
use Rattle.model.specs.declared.graph.BuildGraph.{BuildGraph}
use Rattle.model.specs.declared.graph.Edge.{Edge}
use Rattle.model.specs.Graph.{has, edge_at, maker}
use Rattle.theory.proofs.Lists.{bytes_same}
use Rattle.std.proofs.lemmas.Bool.{or_left}
use Rattle.paths.specs.declared.line.Line.{Line}
use Rattle.paths.specs.declared.manifest.Action.{Action}
use Rattle.paths.specs.declared.manifest.Action.TheVariants as action
use Rattle.paths.specs.Lists.{line_at}
use Rattle.paths.specs.Commands.{no_action}
use Rattle.paths.specs.Told.{edge_of, text_at}
use Rattle.graph.specs.Held.{dyndep_of}
use Rattle.graph.specs.Links.{links_of, is_alias}
use Rattle.graph.specs.Linked.{IsLinksOf}
use Rattle.graph.specs.Told.{declared_by}
use Rattle.plan.proofs.Grown.{pool_is}
use Rattle.plan.proofs.laws.task_of.Goals as goal

phony_is : (paths : List (List ℕ)) (line : Line) (a : Action) → is_alias a ≡ (edge_of paths line a).phony
phony_is paths line action.Alias = refl
phony_is paths line (action.Command command) = refl

dyndep_is : (paths : List (List ℕ)) (line : Line) (a : Action) → (edge_of paths line a).dyndep ≡ option_map (text_at paths) (dyndep_of a)
dyndep_is paths line action.Alias = refl
dyndep_is paths line (action.Command command) = refl

none_there : (texts : List (List ℕ)) → ((p : List ℕ) → has texts p ≡ false) → texts ≡ []
none_there [] none = refl
none_there (t ∷ texts) none = absurd (false≢true (sym (none t) ∙ or_left _ (has texts t) (bytes_same t)))

pub returns : goal.returns
returns c = λ task is.
    let graph = c.args.graph.now in
    let law = c.numbers_stand.ensures in
    let edges : task.graph.edges ≡ (declared_by graph).edges = ap (λ (g : BuildGraph). g.edges) is.declared in
    let paths = graph.manifest.paths in
    let line = λ (e : ℕ). line_at graph.manifest.lines e in
    record {
      linked = subst (λ (es : List Edge). IsLinksOf es task.recorded (links_of graph)) (sym edges) (law.linked task.recorded is.recorded);
      numbered = law.numbered;
      phony = λ e. phony_is paths (line e) (get_or graph.manifest.actions e no_action) ∙ sym (ap (λ (es : List Edge). (edge_at es (suc e)).phony) edges ∙ ap (λ (edge : Edge). edge.phony) (law.edges e));
      pools = ap (λ (g : BuildGraph). g.pools) is.declared;
      pool = λ e. ap (λ (es : List Edge). (edge_at es (suc e)).pool) edges ∙ (ap (λ (edge : Edge). edge.pool) (law.edges e) ∙ pool_is paths (line e) (get_or graph.manifest.actions e no_action));
      makers = λ p lt. ap (λ (es : List Edge). maker es (text_at paths p)) edges ∙ c.lists_stand.ensures.makers p lt;
      apart = graph.apart;
      files = λ e. ap (λ (es : List Edge). (edge_at es (suc e)).dyndep) edges ∙ (ap (λ (edge : Edge). edge.dyndep) (law.edges e) ∙ dyndep_is paths (line e) (get_or graph.manifest.actions e no_action));
      known = λ e file names. (c.files_stand.ensures graph e file names).1;
      bare = λ i phony. none_there (task.recorded i) (λ p. is.recorded i p ∙ ap (λ (texts : List (List ℕ)). has texts p) (is.bare i (sym (ap (λ (es : List Edge). (edge_at es i).phony) edges) ∙ phony)));
    }
