use Rattle.std.proofs.Common.{sym, ◌∙◌}
use Rattle.shares.proofs.Cutting.{found_at, found_nowhere, more_passed}
use Rattle.shares.proofs.marks.cut_at.Goals as goal

pub returns-then-starts_with : goal.returns-then-starts_with
returns-then-starts_with c =
    found_at c.args.first c.args.others.now c.args.text.now c.starts.place c.starts.rest.now c.in-Some.front.now c.in-Some.after.now c.starts.invariant
    c.in-Some.ensures.found c.in-Some.ensures.first (sym c.starts_with.ensures.value ∙ c.if-starts_with.true)

pub starts-preserved : goal.starts-preserved
starts-preserved c =
    more_passed c.args.first c.args.others.now c.args.text.now c.starts.place c.starts.rest.now c.in-Some.front.now c.in-Some.after.now c.starts.invariant
    c.in-Some.ensures.found c.in-Some.ensures.first (sym c.starts_with.ensures.value ∙ c.if-starts_with.false)

pub returns : goal.returns
returns c = found_nowhere c.args.first c.args.others.now c.args.text.now c.starts.place c.starts.rest.now c.starts.invariant c.in_default.ensures.none
