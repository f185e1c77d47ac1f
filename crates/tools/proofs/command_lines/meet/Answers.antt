use Rattle.std.proofs.Common.{◌≡◌, ◌<◌, ◌++◌, ◌∷◌, [], ℕ, List, Bool, true, false, get_or, length, arith, sym, ap, ◌∙◌, subst}
use Rattle.std.proofs.Math.ListN.{set}
use Rattle.model.specs.Graph.{has_number}
use Rattle.tools.specs.Answers.{AreMet}
use Rattle.tools.proofs.Making.{met_source, met_known, met_new}
use Rattle.tools.proofs.command_lines.meet.Goals as goal

pub returns-in_default : goal.returns-in_default
returns-in_default c = λ paths at. met_source c.args.graph.now paths c.args.path c.args.met.now.items c.args.edges.now.items at (sym c.in_default.ensures.value)

pub returns-then-is_marked : goal.returns-then-is_marked
returns-then-is_marked c = λ paths at.
    let edge = c.in-Some.edge in
    let low = c.in-Some.ensures.within in
    met_known c.args.graph.now paths c.args.path c.args.met.now.items c.args.edges.now.items at edge (sym c.in-Some.ensures.value)
    (sym (at.marked edge low) ∙ (ap (λ (n : ℕ). get_or c.args.met.now.items n false) (sym c.index.ensures.place) ∙ (ap (λ (l : List Bool). get_or l c.index.result false) (sym c.as_slice.ensures.value) ∙ (sym c.is_marked.ensures ∙ c.if-is_marked.true))))

pub returns : goal.returns
returns c = λ paths at.
    let edge = c.in-Some.edge in
    let low = c.in-Some.ensures.within in
    let met = c.args.met.now.items in
    let edges = c.args.edges.now.items in
    let count = at.count in
    let inside : edge < length met = omega (arith, low, count) in
    let place = c.index.ensures.place in
    let other = c.index-2.ensures.place in
    let none : has_number edges edge ≡ false =
    sym (at.marked edge low) ∙ (ap (λ (n : ℕ). get_or met n false) (sym place) ∙ (ap (λ (l : List Bool). get_or l c.index.result false) (sym c.as_slice.ensures.value) ∙ (sym c.is_marked.ensures ∙ c.if-is_marked.false))) in
    let written = c.set_mark.ensures.within (omega (arith, inside, other)) ∙ ap (λ (n : ℕ). set met n true) other in
    subst (λ (l : List Bool). AreMet c.args.graph.now (paths ++ c.args.path ∷ []) l c.push.new.self.items) (sym written)
    (subst (λ (l : List ℕ). AreMet c.args.graph.now (paths ++ c.args.path ∷ []) (set met edge true) l) (sym c.in_ok-push.ensures.items)
    (met_new c.args.graph.now paths c.args.path met edges at edge (sym c.in-Some.ensures.value) inside none))
