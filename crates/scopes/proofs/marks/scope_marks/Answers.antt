use Rattle.std.proofs.Common.{◌≡◌, Some, ◌+◌, ◌++◌, ◌∷◌, [], List, slice_get, sym, ap, subst, ◌∙◌, length, arith}
use Rattle.std.proofs.lemmas.List.{length-append}
use Rattle.scopes.specs.declared.marks.Marks.{Marks}
use Rattle.scopes.specs.Marks.{AreOfScopes}
use Rattle.scopes.proofs.Marking.{scopes_marked, none_of_scopes, item_at, IsAround}
use Rattle.scopes.proofs.marks.scope_marks.Goals as goal

pub loop-scope-init : goal.loop-scope-init
loop-scope-init c = record { count = ap length c.in_ok-all.ensures.items; marks = none_of_scopes c.args.scopes.now c.in_ok-all.all.items c.in_ok-all.ensures.items }

pub loop-scope-preserved : goal.loop-scope-preserved
loop-scope-preserved c =
    let all = c.loop-scope.all.items in
    let x = c.scope-item.result in
    let marks = c.and.result in
    let pushed : c.push.new.self.items ≡ all ++ marks ∷ [] = c.in_ok-push.ensures.items in
    let at = item_at c.args.scopes.now.scopes.items c.as_slice-scope-items.result.now c.loop-scope.scope-index x c.loop-scope-test.true c.scope-item.is c.as_slice-scope-items.ensures.value in
    let here : slice_get c.args.scopes.now.scopes.items (length all) ≡ Some x = ap (slice_get c.args.scopes.now.scopes.items) c.loop-scope.invariant.count ∙ at in
    let around : IsAround all x.around c.marks_around-around.result = subst (λ (l : List Marks). IsAround l x.around c.marks_around-around.result) c.as_slice.ensures.value c.marks_around-around.ensures in
    record {
      count = ap length pushed ∙ (length-append all (marks ∷ []) ∙ ap (λ n. n + 1) c.loop-scope.invariant.count);
      marks = subst (AreOfScopes c.args.scopes.now) (sym pushed)
          (scopes_marked c.args.scopes.now all x c.marks_of.result c.marks_around-around.result marks here c.loop-scope.invariant.marks c.marks_of.ensures around c.and.ensures.these c.and.ensures.others);
    }

pub returns-clause-count : goal.returns-clause-count
returns-clause-count c =
    let ok = c.loop-scope.all.ok.0 in
    let count = c.loop-scope.invariant.count in
    let last = c.loop-scope.auto.scope-index-end in
    let end = c.loop-scope-test.false in
    let len = c.as_slice-scope-items.ensures.len in
    omega arith

pub returns-clause-marks : goal.returns-clause-marks
returns-clause-marks c = c.loop-scope.invariant.marks
