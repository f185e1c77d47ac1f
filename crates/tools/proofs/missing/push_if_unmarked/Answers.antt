use Rattle.std.proofs.Common.{◌≡◌, ℕ, true, false, get_or, ap, sym, ◌∙◌}
use Rattle.tools.proofs.Lacking.{marked_none, unmarked_one}
use Rattle.tools.proofs.missing.push_if_unmarked.Goals as goal

pub returns-then-is_marked : goal.returns-then-is_marked
returns-then-is_marked c =
    let marks = c.args.marks.now in
    let yes : get_or marks c.args.dep.maker false ≡ true = ap (λ (n : ℕ). get_or marks n false) (sym c.index.ensures.place) ∙ (sym c.is_marked.ensures ∙ c.if-is_marked.true) in
    marked_none marks c.args.dep c.args.missing.now.items yes

pub returns : goal.returns
returns c =
    let marks = c.args.marks.now in
    let no : get_or marks c.args.dep.maker false ≡ false = ap (λ (n : ℕ). get_or marks n false) (sym c.index.ensures.place) ∙ (sym c.is_marked.ensures ∙ c.if-is_marked.false) in
    unmarked_one marks c.args.dep c.args.missing.now.items c.push.new.self.items no c.in_ok-push.ensures.items
