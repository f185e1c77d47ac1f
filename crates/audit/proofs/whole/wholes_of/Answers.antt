use Rattle.std.proofs.Common.{◌∙◌, ◌++◌, ◌∷◌, [], List, Option, IfSome, ap, get_or, sym, subst, arith, take}
use Rattle.std.proofs.lemmas.List.{take_more}
use Rattle.trace.specs.declared.fact.Fact.{Fact}
use Rattle.audit.specs.declared.whole.Whole.{Whole}
use Rattle.audit.specs.Standing.{after, nowhere}
use Rattle.audit.specs.Stood.{Stood}
use Rattle.audit.specs.Wholes.{AreWhole, IsWholeOf}
use Rattle.audit.proofs.Members.{after_all, after_more, one_more}
use Rattle.audit.proofs.whole.wholes_of.Goals as goal

pub loop-fact-preserved : goal.loop-fact-preserved
loop-fact-preserved c =
    let facts = c.args.facts.now in
    let old = c.args.old.now in
    let place = c.loop-fact.fact-index in
    let whole = c.in-Some.whole in
    let fact = get_or facts place c.fact-item.result in
    let longer = take_more facts place c.fact-item.result (omega arith) in
    let its : IsWholeOf c.loop-fact.own old c.fact-item.result whole = subst (λ (o : Option Whole). IfSome o (IsWholeOf c.loop-fact.own old c.fact-item.result)) c.in-Some.is c.in_ok-whole.ensures in
    let one : IsWholeOf c.loop-fact.own old fact whole = subst (λ (f : Fact). IsWholeOf c.loop-fact.own old f whole) c.fact-item.is its in
    let there : IsWholeOf (after_all nowhere c.loop-fact.wholes) old fact whole = subst (λ (own : Stood). IsWholeOf own old fact whole) c.loop-fact.invariant.1 one in (
      subst (λ (fs : List Fact). AreWhole old fs c.push.new.self) (sym {A = List Fact} longer)
          (subst (λ (ws : List Whole). AreWhole old (take place facts ++ fact ∷ []) ws) (sym {A = List Whole} c.in_ok-push.ensures.ok)
          (one_more nowhere old (take place facts) c.loop-fact.wholes fact whole c.loop-fact.invariant.0 there)),
      c.in_ok-take.ensures ∙ (ap (λ (own : Stood). after own whole) c.loop-fact.invariant.1
          ∙ (sym (after_more nowhere c.loop-fact.wholes whole) ∙ ap (after_all nowhere) (sym {A = List Whole} c.in_ok-push.ensures.ok))),
    )
