-- Which edges a run has to do with, and what they do.
use Rattle.std.proofs.Common.{◌≡◌, ℕ, zero, suc, ◌<◌, false, true, List, [], ◌∷◌, length, get_or, Option, Some, refl, sym, ◌∙◌, ap, subst, arith}
use Rattle.std.proofs.lemmas.Bool.{true≢false}
use Rattle.model.specs.declared.graph.Edge.{Edge}
use Rattle.model.specs.Graph.{has_number, edge_at, no_edge, IsCommand}
use Rattle.paths.specs.declared.line.Line.{Line}
use Rattle.paths.specs.declared.manifest.Action.{Action}
use Rattle.paths.specs.declared.manifest.Command.{Command as Order}
use Rattle.paths.specs.declared.manifest.Action.TheVariants.{Alias, Command}
use Rattle.paths.specs.Lists.{line_at}
use Rattle.paths.specs.Commands.{no_action}
use Rattle.paths.specs.Told.{edge_of, edges_of}
use Rattle.graph.specs.declared.graph.Graph.{Graph}
use Rattle.graph.specs.Held.{maker_in}
use Rattle.graph.specs.Links.{is_alias, links_of}
use Rattle.graph.specs.Told.{declared_by}
use Rattle.work.proofs.Noting.{item_has}

-- ---- edges by number

-- the edge of a line, in the graph of texts
edge_read : (paths : List (List ℕ)) (lines : List Line) (actions : List Action) (e : ℕ) → length actions ≡ length lines → e < length lines → get_or (edges_of paths lines actions) e no_edge ≡ edge_of paths (line_at lines e) (get_or actions e no_action)
edge_read paths [] actions e fits lt = absurd (omega (arith, lt))
edge_read paths (line ∷ lines) [] e fits lt = absurd (omega (arith, fits))
edge_read paths (line ∷ lines) (action ∷ actions) zero fits lt = refl
edge_read paths (line ∷ lines) (action ∷ actions) (suc e) fits lt = edge_read paths lines actions e (omega (arith, fits)) (omega (arith, lt))

-- a command is one of the lines
command_within : (paths : List (List ℕ)) (lines : List Line) (actions : List Action) (e : ℕ) → (get_or (edges_of paths lines actions) e no_edge).phony ≡ false → e < length lines
command_within paths [] actions e is = absurd (true≢false is)
command_within paths (line ∷ lines) [] e is = absurd (true≢false is)
command_within paths (line ∷ lines) (action ∷ actions) zero is = omega arith
command_within paths (line ∷ lines) (action ∷ actions) (suc e) is = let lt = command_within paths lines actions e is in omega (arith, lt)

module _ (graph : Graph) (e : ℕ) (command : IsCommand (declared_by graph).edges (suc e)) where
  pub within : e < length graph.manifest.lines
  within = command_within graph.manifest.paths graph.manifest.lines graph.manifest.actions e command

  read : edge_at (declared_by graph).edges (suc e) ≡ edge_of graph.manifest.paths (line_at graph.manifest.lines e) (get_or graph.manifest.actions e no_action)
  read = edge_read graph.manifest.paths graph.manifest.lines graph.manifest.actions e graph.manifest.fits within

  pub no_alias : get_or graph.manifest.actions e no_action ≡ Alias → ⊥
  no_alias is = true≢false (sym (ap (λ (x : Edge). x.phony) (read ∙ ap (edge_of graph.manifest.paths (line_at graph.manifest.lines e)) is)) ∙ command)

  pub act_is : (what : Order) → get_or graph.manifest.actions e no_action ≡ Command what → what.act ≡ (edge_at (declared_by graph).edges (suc e)).act
  act_is what is = sym (ap (λ (x : Edge). x.act) (read ∙ ap (edge_of graph.manifest.paths (line_at graph.manifest.lines e)) is))

  pub deps_is : (what : Order) → get_or graph.manifest.actions e no_action ≡ Command what → what.deps ≡ (edge_at (declared_by graph).edges (suc e)).deps
  deps_is what is = sym (ap (λ (x : Edge). x.deps) (read ∙ ap (edge_of graph.manifest.paths (line_at graph.manifest.lines e)) is))

  pub phony_is : (links_of graph).phony e ≡ false
  phony_is = by_action (get_or graph.manifest.actions e no_action) refl
    where
      by_action : (what : Action) → get_or graph.manifest.actions e no_action ≡ what → is_alias what ≡ false
      by_action Alias is = absurd (no_alias is)
      by_action (Command what) is = refl

  pub restat_is : (what : Order) → get_or graph.manifest.actions e no_action ≡ Command what → what.restat ≡ (edge_at (declared_by graph).edges (suc e)).restat
  restat_is what is = sym (ap (λ (x : Edge). x.restat) (read ∙ ap (edge_of graph.manifest.paths (line_at graph.manifest.lines e)) is))

maker_within : (makers : List (Option ℕ)) (p e : ℕ) → maker_in makers p ≡ Some e → p < length makers
maker_within [] p e is = cc
maker_within (m ∷ makers) zero e is = omega arith
maker_within (m ∷ makers) (suc p) e is = let lt = maker_within makers p e is in omega (arith, lt)

-- what a loop reads at a place of a list
pub read_item : (xs : List ℕ) (i v : ℕ) → v ≡ get_or xs i v → i < length xs → v ≡ get_or xs i 0
read_item [] i v read lt = absurd (omega (arith, lt))
read_item (x ∷ xs) zero v read lt = read
read_item (x ∷ xs) (suc i) v read lt = read_item xs i v read (omega (arith, lt))

-- what an edge makes is one of the paths
pub output_within : (graph : Graph) (e k : ℕ) (outputs : List ℕ) (p : ℕ) → outputs ≡ (links_of graph).outputs e → k < length outputs → p ≡ get_or outputs k 0 → p < length graph.manifest.paths
output_within graph e k outputs p same lt is =
    let has = subst (λ (l : List ℕ). has_number l p ≡ true) same (ap (λ (n : ℕ). has_number outputs n) is ∙ item_has outputs k 0 lt) in
    let inside = maker_within graph.makers p e (graph.making.all p e has) in
    let fits = graph.making.fits in
    omega (arith, inside, fits)
