use Rattle.std.proofs.Common.{◌≡◌, ℕ, List, length, map, subst, sym, ◌∙◌}
use Rattle.std.specs.List.{AllZip}
use Rattle.std.specs.Map.Iter.{deref}
use denote.Ref.{Bor}
use Rattle.std.proofs.lemmas.Bool.{eqb-true}
use Rattle.std.proofs.lemmas.List.{take_all}
use Rattle.tools.specs.Found.{IsNamed}
use Rattle.tools.proofs.Asking.{asked_first, asked_more, none_asked}
use Rattle.tools.proofs.found.asked.Goals as goal

pub returns-then-is_empty : goal.returns-then-is_empty
returns-then-is_empty c =
    let none : length c.args.words.now ≡ 0 = eqb-true _ 0 (sym c.is_empty.ensures ∙ c.if-is_empty.true) in
    none_asked c.args.words.now c.defaults.result (λ paths. AllZip (IsNamed c.args.graph.now) (map deref c.args.words.now) paths.items) none

pub loop-word-init : goal.loop-word-init
loop-word-init c = asked_first c.args.graph.now c.in_ok-paths.paths.items c.in_ok-paths.ensures.items

pub loop-word-preserved : goal.loop-word-preserved
loop-word-preserved c =
    asked_more c.args.graph.now c.args.words.now c.loop-word.word-index _ c.loop-word.paths.items c.push.new.self.items c.in_ok-target.field-0 c.loop-word-test.true c.loop-word.invariant c.in_ok-target.ensures
    c.in_ok-push.ensures.items

pub returns : goal.returns
returns c = λ some.
    subst (λ (l : List (Bor (List ℕ))). AllZip (IsNamed c.args.graph.now) (map deref l) c.loop-word.paths.items) (take_all c.loop-word.word-index c.args.words.now c.loop-word-test.false) c.loop-word.invariant
