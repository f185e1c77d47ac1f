use Rattle.std.proofs.Common.{◌≡◌, ◌++◌, ℕ, List, true, false, Bool, sym, ap, ◌∙◌}
use Rattle.std.proofs.lemmas.List.{append-nil}
use Rattle.model.specs.Graph.{has_number}
use Rattle.graph.specs.Links.{links_of}
use Rattle.tools.proofs.Putting.{any_has, filter_one_no, filter_one_yes}
use Rattle.tools.proofs.asked_paths.push_if_validated.Goals as goal

pub returns-then-contains : goal.returns-then-contains
returns-then-contains c =
    let links = links_of c.args.declared.now.graph in
    let path = c.args.path in
    let has : has_number (links.validations c.args.edge) path ≡ true =
    ap (λ (l : List ℕ). has_number l path) (sym c.validations.ensures) ∙ (sym (any_has c.validations.result.now path) ∙ (sym c.contains.ensures.value ∙ c.if-contains.true)) in
    c.in_ok-push.ensures.items ∙ ap (λ (l : List ℕ). c.args.edges.now.items ++ l) (sym (filter_one_yes (λ (e : ℕ). has_number (links.validations e) path) c.args.edge has))

pub returns : goal.returns
returns c =
    let links = links_of c.args.declared.now.graph in
    let path = c.args.path in
    let has : has_number (links.validations c.args.edge) path ≡ false =
    ap (λ (l : List ℕ). has_number l path) (sym c.validations.ensures) ∙ (sym (any_has c.validations.result.now path) ∙ (sym c.contains.ensures.value ∙ c.if-contains.false)) in
    sym (append-nil c.args.edges.now.items) ∙ ap (λ (l : List ℕ). c.args.edges.now.items ++ l) (sym (filter_one_no (λ (e : ℕ). has_number (links.validations e) path) c.args.edge has))
