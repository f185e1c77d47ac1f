use Rattle.std.proofs.Common.{ℕ, List, ◌++◌, sym, ap, ◌∙◌}
use Rattle.ninja_words.proofs.Leaving.{same, stays_outside}
use Rattle.ninja_words.proofs.escapes.push_outside.Goals as goal

pub returns-clause-text : goal.returns-clause-text
returns-clause-text c =
    c.in_ok-extend_from_slice.ensures.items ∙ ap (λ (l : List ℕ). c.args.text.now.items ++ l) (sym (same c.args.printed.now (sym c.contains.ensures.value ∙ c.if-contains.false)))

pub returns-clause-escape : goal.returns-clause-escape
returns-clause-escape c = sym (stays_outside c.args.printed.now (sym c.contains.ensures.value ∙ c.if-contains.false))
