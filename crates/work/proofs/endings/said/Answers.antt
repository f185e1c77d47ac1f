use Rattle.std.proofs.Common.{List, ℕ, ap, ◌∙◌}
use Rattle.status.specs.Line.{said_of}
use Rattle.work.specs.EdgeIn.{edge_in}
use Rattle.work.proofs.endings.said.Goals as goal

pub returns : goal.returns
returns c =
    let edge = edge_in c.args.graph.now c.args.edge in
    c.in_ok-text.ensures
    ∙ (c.said_of-shown.ensures
    ∙ (ap (λ (text : List ℕ). said_of c.args.verbose text c.as_str.result.now) c.description_of-description.ensures
    ∙ ap (λ (text : List ℕ). said_of c.args.verbose edge.description text) (c.as_str.ensures ∙ c.in_ok-line.ensures)))
