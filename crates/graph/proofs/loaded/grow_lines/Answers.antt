use Rattle.std.proofs.Common.{◌≡◌, ◌∙◌, ◌+◌, ℕ, List, ap, get_or, length, subst, sym, take}
use Rattle.std.specs.Prelude.{All}
use Rattle.std.proofs.lemmas.List.Elements.{All-take}
use Rattle.paths.specs.declared.line.Line.{Line}
use Rattle.graph.specs.declared.choice.Choice.{Choice}
use Rattle.graph.specs.Chosen.{chosen_edges, AreRising, IsWithin}
use Rattle.graph.specs.InTurn.{lines_given, lines_with}
use Rattle.graph.proofs.Ends.{ok_of, err_of}
use Rattle.graph.proofs.InTurn.{all_chosen, edges_take, given_push, length-given, rising_take, take_push}
use Rattle.graph.proofs.loaded.grow_lines.Goals as goal

pub grow_line-requires : goal.grow_line-requires
grow_line-requires c =
    let gains = c.args.gains.now in
    let chosen = c.args.chosen.now in
    let x = c.index-chosen-done.result in
    let long : length c.loop-done.lines ≡ length c.args.lines.now = ap (λ (l : List Line). length l) c.loop-done.invariant ∙ length-given gains c.args.lines.now (take c.loop-done.done chosen) in
    subst (λ (n : ℕ). IsWithin n (length gains) x) (sym long) (subst (IsWithin (length c.args.lines.now) (length gains)) (sym c.index-chosen-done.is) (c.requires.within c.loop-done.done x c.loop-done-test.true))

pub shrink_lines-requires : goal.shrink_lines-requires
shrink_lines-requires c =
    let gains = c.args.gains.now in
    let chosen = c.args.chosen.now in
    let done = c.loop-done.done in
    let kept : c.grow_line.new.lines ≡ c.loop-done.lines = err_of c.grow_line.result (sym c.if-is_err.ensures.value) c.grow_line.ensures.err in (
      c.args.lines.now,
      record {
        rising = subst AreRising (sym (edges_take done chosen)) (rising_take done (chosen_edges chosen) c.requires.rising);
        within = All-take (IsWithin (length c.args.lines.now) (length gains)) done chosen c.requires.within;
        are = kept ∙ c.loop-done.invariant;
      },
    )

pub returns-then-is_err-clause-err : goal.returns-then-is_err-clause-err
returns-then-is_err-clause-err c =
    let gains = c.args.gains.now in
    let chosen = c.args.chosen.now in
    let done = c.loop-done.done in
    let kept : c.grow_line.new.lines ≡ c.loop-done.lines = err_of c.grow_line.result (sym c.if-is_err.ensures.value) c.grow_line.ensures.err in
    c.shrink_lines.ensures c.args.lines.now record {
      rising = subst AreRising (sym (edges_take done chosen)) (rising_take done (chosen_edges chosen) c.requires.rising);
      within = All-take (IsWithin (length c.args.lines.now) (length gains)) done chosen c.requires.within;
      are = kept ∙ c.loop-done.invariant;
    }

pub loop-done-preserved : goal.loop-done-preserved
loop-done-preserved c =
    let gains = c.args.gains.now in
    let chosen = c.args.chosen.now in
    let done = c.loop-done.done in
    let x = c.index-chosen-done.result in
    ok_of c.grow_line.result (sym c.if-is_err.ensures.value) c.grow_line.ensures.ok
    ∙ (ap (λ (l : List Line). lines_with gains l x.edge x.statement) c.loop-done.invariant
    ∙ (sym (given_push gains c.args.lines.now (take done chosen) x) ∙ sym (ap (lines_given gains c.args.lines.now) (take_push chosen done x c.loop-done-test.true c.index-chosen-done.is))))

pub returns-clause-ok : goal.returns-clause-ok
returns-clause-ok c = c.loop-done.invariant ∙ ap (lines_given c.args.gains.now c.args.lines.now) (all_chosen c.args.chosen.now c.loop-done.done c.loop-done-test.false)
