use Rattle.std.proofs.Common.{◌∙◌, ap, sym, length, arith}
use Rattle.std.proofs.lemmas.List.{length-map}
use Rattle.paths.specs.Lists.{line_of}
use Rattle.paths.proofs.Growing.{copied_next}
use Rattle.paths.proofs.lines.Lines.packed.Goals as goal

pub loop-place-preserved : goal.loop-place-preserved
loop-place-preserved c =
    let rows = c.self.inside.rows.items in
    let long = ap length (sym c.self.view_is) ∙ length-map rows (line_of c.self.inside.numbers.items) in
    copied_next c.self.inside.numbers.items c.deref.result.now rows c.args.self.now c.loop-place.packed c.push_lists.new.self c.loop-place.place c.index.result.now c.self.view_is c.self.invariant.lie
    (omega (arith, long, c.loop-place-test.true, c.len-place-end.ensures, c.self.inside.rows.ok.0)) c.index.ensures c.deref.ensures.value c.loop-place.invariant c.in_ok-push_lists.ensures
