use Rattle.std.proofs.Common.{inr, IsSome, sym, ap, subst, ◌∙◌}
use Rattle.std.specs.Map.{lookup}
use Rattle.std.specs.Map.Iter.{deref_pair}
use Rattle.std.proofs.lemmas.Map.Iter.{rest_more, rest_all}
use Rattle.scopes.specs.Marks.{IsMarked}
use Rattle.scopes.proofs.Few.{is_named}
use Rattle.scopes.proofs.Marking.{passed, all_passed}
use Rattle.scopes.proofs.marks.marks_of.Goals as goal

pub loop-name-init : goal.loop-name-init
loop-name-init g c = λ name some. inr (subst IsSome (sym (ap (lookup (is_named name)) (c.into_iter-name-iterator.ensures.into_iter_gives ∙ c.iter-name-items.ensures.rest))) some)

pub loop-name-preserved : goal.loop-name-preserved
loop-name-preserved g c = λ name some.
    let step = rest_more deref_pair c.loop-name.name-iterator c.next.new.self c.next.result (c.in-Some.name, c.in-Some.field-0-1) c.in-Some.is c.next.ensures.steps in
    passed c.loop-name.marks c.with-marks.result c.loop-name.name-iterator c.next.new.self c.in-Some.name.now c.in-Some.field-0-1.now name step (subst (IsMarked c.with-marks.result) c.as_str.ensures.value c.with-marks.ensures.marked) c.with-marks.ensures.kept (c.loop-name.invariant name some)

pub returns : goal.returns
returns g c = λ name some.
    let all = rest_all deref_pair c.loop-name.name-iterator c.next.new.self c.next.result c.in-None.is c.next.ensures.steps in
    all_passed c.loop-name.marks c.loop-name.name-iterator name all (c.loop-name.invariant name some)
