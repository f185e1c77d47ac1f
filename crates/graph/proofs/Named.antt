-- Numbers of paths that edges name.
use Rattle.std.proofs.Common.{◌≡◌, ℕ, zero, suc, ◌<◌, true, List, [], ◌∷◌, ◌++◌, get_or, nat_lt, sym, ◌∙◌, ap, arith}
use Rattle.std.proofs.lemmas.Bool.{false≢true, or_left, or_right}
use Rattle.std.proofs.lemmas.List.{map-append}
use Rattle.model.specs.declared.graph.Edge.{Edge}
use Rattle.model.specs.Graph.{has, has_number, no_edge, inputs, paths_of, is_named}
use Rattle.paths.specs.declared.line.Line.{Line}
use Rattle.paths.specs.declared.manifest.Action.{Action}
use Rattle.paths.specs.declared.manifest.Manifest.{Manifest}
use Rattle.paths.specs.Lists.{line_at, line_outputs, line_inputs, line_paths, all_paths}
use Rattle.paths.specs.Commands.{no_action}
use Rattle.paths.specs.Told.{text_at, texts_at, edge_of, graph_of}
use Rattle.graph.proofs.Asked.{flat_has}
use Rattle.graph.proofs.Texts.{has_text, outputs_of, inputs_of, validations_of, edge_get}

named_get : (edges : List Edge) (e : ℕ) (t : List ℕ) → has (paths_of (get_or edges e no_edge)) t ≡ true → is_named edges t ≡ true
named_get [] e t h = absurd (false≢true h)
named_get (edge ∷ edges) zero t h = or_left (has (paths_of edge) t) (is_named edges t) h
named_get (edge ∷ edges) (suc e) t h = or_right (has (paths_of edge) t) (is_named edges t) (named_get edges e t h)

paths_are : (paths : List (List ℕ)) (line : Line) (action : Action) → paths_of (edge_of paths line action) ≡ texts_at paths (line_paths line)
paths_are paths line action =
    ap (λ (l : List (List ℕ)). l ++ (inputs (edge_of paths line action) ++ (edge_of paths line action).validations)) (outputs_of paths line action)
    ∙ (ap (λ (l : List (List ℕ)). texts_at paths (line_outputs line) ++ (l ++ (edge_of paths line action).validations)) (inputs_of paths line action)
    ∙ (ap (λ (l : List (List ℕ)). texts_at paths (line_outputs line) ++ (texts_at paths (line_inputs line) ++ l)) (validations_of paths line action)
    ∙ (ap (λ (l : List (List ℕ)). texts_at paths (line_outputs line) ++ l) (sym (map-append (text_at paths) (line_inputs line) line.validations))
    ∙ sym (map-append (text_at paths) (line_outputs line) (line_inputs line ++ line.validations)))))

pub named_number : (manifest : Manifest) (n : ℕ) → has_number (all_paths manifest.lines) n ≡ true → is_named (graph_of manifest).edges (text_at manifest.paths n) ≡ true
named_number manifest n among =
    let there = flat_has line_paths manifest.lines n among in
    let line = line_at manifest.lines there.0 in
    named_get (graph_of manifest).edges there.0 (text_at manifest.paths n)
    (ap (λ (l : List (List ℕ)). has l (text_at manifest.paths n)) (ap paths_of (edge_get manifest.paths manifest.lines manifest.actions there.0 manifest.fits) ∙ paths_are manifest.paths line (get_or manifest.actions there.0 no_action))
    ∙ has_text manifest.paths (line_paths line) n there.1)
