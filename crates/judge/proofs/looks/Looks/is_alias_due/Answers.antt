use Rattle.std.proofs.Common.{◌≡◌, ◌==◌, ℕ, List, true, false, length, sym, ◌∙◌, subst, rules}
use Rattle.std.proofs.lemmas.Bool.{false≢true}
use Rattle.graph.specs.Links.{links_of}
use Rattle.judge.specs.Ruled.{is_absent_seen, is_due_seen, WasAsked, WasSourceAsked, IsAnyAsked}
use Rattle.judge.proofs.NumbersAsTexts.{if_ok_then, within_by}
use Rattle.judge.proofs.looks.Looks.is_alias_due.Goals as goal

pub has_absent-requires-clause-within : goal.has_absent-requires-clause-within
has_absent-requires-clause-within g c =
    let graph = c.args.graph.now in
    within_by (length graph.manifest.paths) ((links_of graph).outputs c.args.edge) c.outputs.result.now c.outputs.ensures (c.lists_stand.ensures.outputs_within c.args.edge)

pub has_due_path-requires-clause-within : goal.has_due_path-requires-clause-within
has_due_path-requires-clause-within g c =
    let graph = c.args.graph.now in
    within_by (length graph.manifest.paths) ((links_of graph).regular c.args.edge) c.regular_inputs.result.now c.regular_inputs.ensures (c.lists_stand.ensures.regular_within c.args.edge)

pub returns-then-is_empty-clause-ruled : goal.returns-then-is_empty-clause-ruled
returns-then-is_empty-clause-ruled g c =
    let links = links_of c.args.graph.now in
    let seen = c.has_absent.new.self.seen.items in
    let empty : (length (links.inputs c.args.edge) == 0) ≡ true = search rules in
    if_ok_then c.has_absent.result c.has_absent.ensures.has (λ is found. record {
      of_nothing = λ so. subst (λ (l : List ℕ). IsAnyAsked (WasAsked seen) (is_absent_seen seen) l is) c.outputs.ensures found;
      of_inputs = λ some. absurd (false≢true (sym some ∙ empty));
    })

pub returns-else-is_empty-clause-ruled : goal.returns-else-is_empty-clause-ruled
returns-else-is_empty-clause-ruled g c =
    let links = links_of c.args.graph.now in
    let seen = c.has_due_path.new.self.seen.items in
    let some : (length (links.inputs c.args.edge) == 0) ≡ false = search rules in
    if_ok_then c.has_due_path.result c.has_due_path.ensures.has (λ is found. record {
      of_nothing = λ empty. absurd (false≢true (sym some ∙ empty));
      of_inputs = λ so. subst (λ (l : List ℕ). IsAnyAsked (WasSourceAsked links seen) (is_due_seen links seen c.args.due.now) l is) c.regular_inputs.ensures found;
    })
