use Rattle.std.proofs.Common.{◌≡◌, ◌∙◌, ◌+◌, ℕ, List, ap, drop, get_or, length, refl, subst, sym}
use Rattle.paths.specs.declared.line.Line.{Line}
use Rattle.graph.specs.declared.choice.Choice.{Choice}
use Rattle.graph.specs.Chosen.{IsWithin}
use Rattle.graph.specs.InTurn.{lines_taken}
use Rattle.graph.proofs.InTurn.{drop_next, drop_past, length-given, length-without, taken_back}
use Rattle.graph.proofs.loaded.shrink_lines.Goals as goal

pub loop-choice-init : goal.loop-choice-init
loop-choice-init c = record { fits = refl; rest = refl }

pub shrink_line-requires : goal.shrink_line-requires
shrink_line-requires c =
    let before = c.requires.0 in
    let given = c.requires.1 in
    let x = c.choice-item.result in
    let count = length c.args.gains.now in
    let long : length c.loop-choice.lines ≡ length before = c.loop-choice.invariant.fits ∙ (ap (λ (l : List Line). length l) given.are ∙ length-given c.args.gains.now before c.args.chosen.now) in
    subst (λ (n : ℕ). IsWithin n count x) (sym long) (subst (IsWithin (length before) count) (sym c.choice-item.is) (given.within c.loop-choice.choice-index x c.loop-choice-test.true))

pub loop-choice-preserved : goal.loop-choice-preserved
loop-choice-preserved c =
    let gains = c.args.gains.now in
    let chosen = c.args.chosen.now in
    let place = c.loop-choice.choice-index in
    let x = c.choice-item.result in
    let old = c.loop-choice.lines in
    record {
      fits = ap (λ (l : List Line). length l) c.shrink_line.ensures ∙ (length-without gains old x.edge x.statement ∙ c.loop-choice.invariant.fits);
      rest = ap (λ (l : List Line). lines_taken gains l (drop (place + 1) chosen)) c.shrink_line.ensures
          ∙ (ap (lines_taken gains old) (sym (drop_next chosen place x c.loop-choice-test.true c.choice-item.is)) ∙ c.loop-choice.invariant.rest);
    }

pub returns : goal.returns
returns c before given =
    ap (lines_taken c.args.gains.now c.loop-choice.lines) (sym (drop_past c.args.chosen.now c.loop-choice.choice-index c.loop-choice-test.false))
    ∙ (c.loop-choice.invariant.rest ∙ taken_back c.args.gains.now c.args.chosen.now before c.args.lines.now given)
