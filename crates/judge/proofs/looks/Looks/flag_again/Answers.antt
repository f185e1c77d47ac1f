use Rattle.std.proofs.Common.{◌≡◌, Bool, List, Vec, Global, Some, None, length, sym, ◌∙◌, ap, subst}
use Rattle.theory.proofs.Lists.{same_some, some_none}
use Rattle.judge.specs.declared.dues.Dues.{Dues}
use Rattle.judge.specs.Ruled.{IsEdgeFound}
use Rattle.judge.specs.UnderWay.{judged_due}
use Rattle.judge.proofs.LooksStay.{looked_none}
use Rattle.judge.proofs.NumbersAsTexts.{if_ok_then}
use Rattle.judge.proofs.looks.Looks.flag_again.Goals as goal

-- it was judged
pub returns-in-Some-clause-looked : goal.returns-in-Some-clause-looked
returns-in-Some-clause-looked g c = looked_none g.S.Texts.tells c.args.graph.now (g.S.Texts.world c.args.site.now) c.args.self.now

pub returns-in-Some-clause-ruled : goal.returns-in-Some-clause-ruled
returns-in-Some-clause-ruled g c =
    let told : judged_due c.args.graph.now c.args.plan.now c.args.edge ≡ Some c.in-Some.judged = sym c.judged_due.ensures ∙ c.in-Some.is in
    record { judged = λ was so. same_some c.in-Some.judged was (sym told ∙ so); unjudged = λ none. absurd (some_none c.in-Some.judged (sym told ∙ none)) }

-- ---- it was not

pub is_due-found-requires-clause-due : goal.is_due-found-requires-clause-due
is_due-found-requires-clause-due g c =
    ap (λ (l : List Bool). length l) c.deref.ensures.value ∙ (ap (λ (v : Vec Bool Global). length v.items) c.replace-flags.ensures.value ∙ c.requires.due)

-- the flags were taken out for the call
pub returns-clause-looked : goal.returns-clause-looked
returns-clause-looked g c =
    let looked = c.is_due-found.ensures.looked in
    record { looks = looked.looks; fits = looked.fits; seen = looked.seen; stays = looked.stays }

pub returns-clause-summed : goal.returns-clause-summed
returns-clause-summed g c = c.is_due-found.ensures.summed

pub returns-clause-known : goal.returns-clause-known
returns-clause-known g c = c.is_due-found.ensures.known

pub returns-clause-dues : goal.returns-clause-dues
returns-clause-dues g c =
    let was = c.args.self.now.sums.answers.dues in
    let is = c.is_due-found.new.self.sums.answers.dues in
    ap (λ (v : Vec Bool Global). record { known = is.known; flags = v; todo = is.todo; fresh = is.fresh }) c.replace-flags.ensures.value ∙ ap (λ (dues : Dues). record { known = dues.known; flags = was.flags; todo = dues.todo; fresh = dues.fresh }) c.is_due-found.ensures.dues

pub returns-clause-ruled : goal.returns-clause-ruled
returns-clause-ruled g c =
    let told : judged_due c.args.graph.now c.args.plan.now c.args.edge ≡ None = sym c.judged_due.ensures ∙ c.in_default.is in
    if_ok_then c.is_due-found.result c.is_due-found.ensures.ruled (λ is found. record {
      judged = λ was so. absurd (some_none was (sym so ∙ told));
      unjudged = λ none.
          subst (λ (l : List Bool). IsEdgeFound g.S.Texts.tells c.args.graph.now c.args.records.now (g.S.Texts.world c.args.site.now) (g.S.Texts.world c.is_due-found.new.site) c.is_due-found.new.self.seen.items l c.args.edge is) c.deref.ensures.value found;
    })
