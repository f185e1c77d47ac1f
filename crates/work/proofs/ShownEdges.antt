-- What the numbers of a graph stand for.
use Rattle.std.proofs.Common.{◌≡◌, ℕ, zero, suc, ◌+◌, ◌<◌, ◌≤◌, ◌==◌, Bool, true, false, List, [], ◌∷◌, ◌++◌, map, length, get_or, take, Option, Some, None, refl, sym, ◌∙◌, ap, subst, arith, bytes_eq, Bor}
use Rattle.std.proofs.lemmas.Bool.{eq-eqb, or_left, or_right}
use Rattle.std.proofs.lemmas.List.{map-append, take_all, take_more}
use Rattle.model.specs.Graph.{has_number, edge_at, no_edge, outputs, console}
use Rattle.paths.specs.declared.line.Line.{Line}
use Rattle.paths.specs.declared.manifest.Action.{Action}
use Rattle.paths.specs.declared.manifest.Action.TheVariants.{Alias, Command}
use Rattle.paths.specs.Lists.{line_at, line_outputs}
use Rattle.paths.specs.Commands.{no_action}
use Rattle.paths.specs.Told.{text_at, texts_at, edge_of, edges_of}
use Rattle.graph.specs.declared.graph.Graph.{Graph}
use Rattle.graph.specs.Held.{maker_in}
use Rattle.graph.specs.Links.{links_of}
use Rattle.graph.specs.Told.{declared_by}

-- the edge of a line, in the graph of texts
edge_read : (paths : List (List ℕ)) (lines : List Line) (actions : List Action) (e : ℕ) → length actions ≡ length lines → e < length lines → get_or (edges_of paths lines actions) e no_edge ≡ edge_of paths (line_at lines e) (get_or actions e no_action)
edge_read paths [] actions e fits lt = absurd (omega (arith, lt))
edge_read paths (line ∷ lines) [] e fits lt = absurd (omega (arith, fits))
edge_read paths (line ∷ lines) (action ∷ actions) zero fits lt = refl
edge_read paths (line ∷ lines) (action ∷ actions) (suc e) fits lt = edge_read paths lines actions e (omega (arith, fits)) (omega (arith, lt))

outputs_of : (paths : List (List ℕ)) (line : Line) (action : Action) → outputs (edge_of paths line action) ≡ texts_at paths (line_outputs line)
outputs_of paths line Alias = sym (map-append (text_at paths) line.explicit_outputs line.implicit_outputs)
outputs_of paths line (Command command) = sym (map-append (text_at paths) line.explicit_outputs line.implicit_outputs)

maker_within : (makers : List (Option ℕ)) (p e : ℕ) → maker_in makers p ≡ Some e → p < length makers
maker_within [] p e is = cc
maker_within (m ∷ makers) zero e is = omega arith
maker_within (m ∷ makers) (suc p) e is = let lt = maker_within makers p e is in omega (arith, lt)

listed : (xs : List ℕ) (k v : ℕ) → k < length xs → v ≡ get_or xs k v → has_number xs v ≡ true
listed [] k v lt is = absurd (omega (arith, lt))
listed (x ∷ xs) zero v lt is = or_left (x == v) (has_number xs v) (eq-eqb x v (sym is))
listed (x ∷ xs) (suc k) v lt is = or_right (x == v) (has_number xs v) (listed xs k v (omega (arith, lt)) is)

module _ (graph : Graph) (e : ℕ) (lt : e < length graph.manifest.lines) where
  pub edge_is : edge_at (declared_by graph).edges (suc e) ≡ edge_of graph.manifest.paths (line_at graph.manifest.lines e) (get_or graph.manifest.actions e no_action)
  edge_is = edge_read graph.manifest.paths graph.manifest.lines graph.manifest.actions e graph.manifest.fits lt

  -- the edge of an action
  pub edge_does : (action : Action) → get_or graph.manifest.actions e no_action ≡ action → edge_at (declared_by graph).edges (suc e) ≡ edge_of graph.manifest.paths (line_at graph.manifest.lines e) action
  edge_does action is = edge_is ∙ ap (edge_of graph.manifest.paths (line_at graph.manifest.lines e)) is

  pub outputs_are : texts_at graph.manifest.paths ((links_of graph).outputs e) ≡ outputs (edge_at (declared_by graph).edges (suc e))
  outputs_are = sym (ap outputs edge_is ∙ outputs_of graph.manifest.paths (line_at graph.manifest.lines e) (get_or graph.manifest.actions e no_action))

-- what an edge makes is one of the paths
pub output_within : (graph : Graph) (e k : ℕ) (outputs : List ℕ) (p : ℕ) → outputs ≡ (links_of graph).outputs e → k < length outputs → p ≡ get_or outputs k p → p < length graph.manifest.paths
output_within graph e k outputs p same lt is =
    let has = subst (λ (l : List ℕ). has_number l p ≡ true) same (listed outputs k p lt is) in
    let inside = maker_within graph.makers p e (graph.making.all p e has) in
    let fits = graph.making.fits in
    omega (arith, inside, fits)

-- ---- what is shown of an edge

-- whether this is the pool of commands at the terminal
abbrev pub is_for_terminal : Option (List ℕ) → Bool
is_for_terminal pool = elim pool as (λ pool. Bool) [ None ↦ false | Some name ↦ bytes_eq name console ]

-- ---- texts of paths, one after the other

pub one_more : (paths : List (List ℕ)) (texts : List (Bor (List ℕ))) (text : Bor (List ℕ)) (numbers : List ℕ) (k p : ℕ)
    → map (λ (t : Bor (List ℕ)). t.now) texts ≡ texts_at paths (take k numbers) → k < length numbers → p ≡ get_or numbers k p → text.now ≡ text_at paths p
    → map (λ (t : Bor (List ℕ)). t.now) (texts ++ text ∷ []) ≡ texts_at paths (take (k + 1) numbers)
one_more paths texts text numbers k p is lt read told =
    let next : texts_at paths (take (k + 1) numbers) ≡ texts_at paths (take k numbers) ++ text_at paths (get_or numbers k p) ∷ [] = ap (texts_at paths) (take_more numbers k p lt) ∙ map-append (text_at paths) (take k numbers) (get_or numbers k p ∷ []) in
    map-append (λ (t : Bor (List ℕ)). t.now) texts (text ∷ [])
    ∙ (ap (λ (l : List (List ℕ)). l ++ text.now ∷ []) is
    ∙ (ap (λ (t : List ℕ). texts_at paths (take k numbers) ++ t ∷ []) (told ∙ ap (text_at paths) read) ∙ sym next))

pub all_told : (paths : List (List ℕ)) (numbers : List ℕ) (k : ℕ) → length numbers ≤ k → texts_at paths (take k numbers) ≡ texts_at paths numbers
all_told paths numbers k le = ap (texts_at paths) (take_all k numbers le)
