use Rattle.std.proofs.Common.{◌==◌, ℕ, List, length, sym, ap, ◌∙◌}
use Rattle.std.proofs.lemmas.Bool.{false≢true}
use Rattle.tools.proofs.Adding.{adds_text}
use Rattle.tools.proofs.cleaning.add_text.Goals as goal

pub returns : goal.returns
returns c =
    adds_text c.args.paths.now c.add.new.self c.args.path.now c.in_ok-add.field-0 c.in_ok-add.ensures.added
    (λ empty. false≢true (sym c.if-is_empty.false ∙ (c.is_empty.ensures ∙ ap (λ (l : List ℕ). length l == 0) empty)))
