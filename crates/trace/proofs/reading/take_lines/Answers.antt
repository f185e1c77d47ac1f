use Rattle.std.proofs.Common.{rules, ◌≡◌, ◌≢◌, ◌∙◌, sym, false, List, ℕ, length, ◌==◌, arith, [], ◌∷◌}
use Rattle.std.specs.Prelude.{codes}
use Rattle.std.proofs.lemmas.Bool.{false≢true}
use Rattle.trace.proofs.Cutting.{behind_is_shorter}
use Rattle.trace.proofs.Rows.{row_read, row_not, row_cut}
use Rattle.trace.proofs.reading.take_lines.Goals as goal

some_text : (text : List ℕ) → (length text == 0) ≡ false → text ≢ []
some_text [] other = absurd (false≢true (sym other))
some_text (b ∷ text) other = λ e. absurd (cc)

pub returns-in_default : goal.returns-in_default
returns-in_default c =
    c.lines.invariant ∙ row_cut c.args.start.now c.lines.reached c.lines.rest.now (some_text c.lines.rest.now (search rules)) (search rules)

pub returns-then-not-branch : goal.returns-then-not-branch
returns-then-not-branch c =
    c.lines.invariant ∙ row_not c.args.start.now c.lines.reached c.lines.rest.now c.in-Some.line.now c.in-Some.next.now (some_text c.lines.rest.now (search rules)) (sym c.in-Some.ensures.cut) (search rules)

pub lines-smaller : goal.lines-smaller
lines-smaller c = behind_is_shorter (codes "\n") c.lines.rest.now (omega arith) (c.in-Some.line.now, c.in-Some.next.now) (sym c.in-Some.ensures.cut)

pub lines-preserved : goal.lines-preserved
lines-preserved c =
    c.lines.invariant ∙ row_read c.args.start.now c.lines.reached c.take_line.new.self c.lines.rest.now c.in-Some.line.now c.in-Some.next.now (some_text c.lines.rest.now (search rules)) (sym c.in-Some.ensures.cut) (search rules)
