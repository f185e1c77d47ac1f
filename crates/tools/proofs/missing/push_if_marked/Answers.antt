use Rattle.std.proofs.Common.{◌≡◌, ◌++◌, ℕ, List, true, false, get_or, append-nil, ap, sym, ◌∙◌}
use Rattle.tools.proofs.Putting.{filter_one_no, filter_one_yes}
use Rattle.tools.proofs.missing.push_if_marked.Goals as goal

pub returns-then-is_marked : goal.returns-then-is_marked
returns-then-is_marked c =
    let marks = c.args.marks.now in
    let path = c.args.path in
    let yes : get_or marks path false ≡ true = ap (λ (n : ℕ). get_or marks n false) (sym c.index.ensures.place) ∙ (sym c.is_marked.ensures ∙ c.if-is_marked.true) in
    c.in_ok-push.ensures.items ∙ ap (λ (l : List ℕ). c.args.outputs.now.items ++ l) (sym (filter_one_yes (λ (p : ℕ). get_or marks p false) path yes))

pub returns : goal.returns
returns c =
    let marks = c.args.marks.now in
    let path = c.args.path in
    let no : get_or marks path false ≡ false = ap (λ (n : ℕ). get_or marks n false) (sym c.index.ensures.place) ∙ (sym c.is_marked.ensures ∙ c.if-is_marked.false) in
    sym (append-nil c.args.outputs.now.items) ∙ ap (λ (l : List ℕ). c.args.outputs.now.items ++ l) (sym (filter_one_no (λ (p : ℕ). get_or marks p false) path no))
