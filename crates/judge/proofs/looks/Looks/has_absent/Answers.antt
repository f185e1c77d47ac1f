use Rattle.std.proofs.Common.{◌≡◌, ℕ, List, true, false, refl, ◌∙◌, subst, arith}
use Rattle.std.proofs.lemmas.Bool.{false≢true}
use Rattle.std.proofs.lemmas.List.{take_all}
use Rattle.theory.proofs.SiteCalls.{unrefused_none, unrefused_call, unrefused_then}
use Rattle.judge.specs.Ruled.{is_absent_seen, WasAsked, IsAbsentAsked, NoneAsked}
use Rattle.judge.proofs.AskedAny.{absent_stays, one_asked, none_more, all_asked}
use Rattle.judge.proofs.LooksStay.{looked_none}
use Rattle.judge.proofs.FilesStay.{looked_then}
use Rattle.judge.proofs.looks.Looks.has_absent.Goals as goal

pub returns-in_err-is_absent-clause-looked : goal.returns-in_err-is_absent-clause-looked
returns-in_err-is_absent-clause-looked g c =
    looked_then c.looks_follow.ensures.follow g.S.Texts.tells c.args.graph.now (g.S.Texts.world c.args.site.now) (g.S.Texts.world c.loop-path.site) (g.S.Texts.world c.is_absent.new.site) c.args.self.now c.loop-path.self c.is_absent.new.self c.loop-path.invariant.looked c.is_absent.ensures.looked

pub returns-then-branch-clause-looked : goal.returns-then-branch-clause-looked
returns-then-branch-clause-looked g c =
    looked_then c.looks_follow.ensures.follow g.S.Texts.tells c.args.graph.now (g.S.Texts.world c.args.site.now) (g.S.Texts.world c.loop-path.site) (g.S.Texts.world c.is_absent.new.site) c.args.self.now c.loop-path.self c.is_absent.new.self c.loop-path.invariant.looked c.is_absent.ensures.looked

pub loop-path-init : goal.loop-path-init
loop-path-init g c = record {
  sums = refl;
  looked = looked_none g.S.Texts.tells c.args.graph.now (g.S.Texts.world c.args.site.now) c.args.self.now;
  unrefused = unrefused_none (g.S.Texts.world c.args.site.now) c.requires.running;
  none = λ p listed. absurd (false≢true listed);
}

pub returns-then-branch-clause-has : goal.returns-then-branch-clause-has
returns-then-branch-clause-has g c =
    let seen = c.loop-path.self.seen.items in
    let new = c.is_absent.new.self.seen.items in
    let found = subst (λ (p : ℕ). IsAbsentAsked new p c.in_ok-is_absent.field-0) c.path-item.is c.in_ok-is_absent.ensures.seen in
    let is : c.in_ok-is_absent.field-0 ≡ true = cc in
    one_asked (WasAsked seen) (WasAsked new) (is_absent_seen seen) (is_absent_seen new) (absent_stays seen new c.is_absent.ensures.looked.stays) c.args.paths.now c.loop-path.path-index c.path-item.result c.loop-path-test.true found.asked (found.same ∙ is)

pub loop-path-preserved : goal.loop-path-preserved
loop-path-preserved g c =
    let seen = c.loop-path.self.seen.items in
    let new = c.is_absent.new.self.seen.items in
    let found = subst (λ (p : ℕ). IsAbsentAsked new p c.in_ok-is_absent.field-0) c.path-item.is c.in_ok-is_absent.ensures.seen in
    let is : c.in_ok-is_absent.field-0 ≡ false = cc in
    record {
      sums = c.is_absent.ensures.sums ∙ c.loop-path.invariant.sums;
      looked = looked_then c.looks_follow.ensures.follow g.S.Texts.tells c.args.graph.now (g.S.Texts.world c.args.site.now) (g.S.Texts.world c.loop-path.site) (g.S.Texts.world c.is_absent.new.site) c.args.self.now c.loop-path.self c.is_absent.new.self c.loop-path.invariant.looked c.is_absent.ensures.looked;
      unrefused = unrefused_then (g.S.Texts.world c.args.site.now) (g.S.Texts.world c.loop-path.site) (g.S.Texts.world c.is_absent.new.site) c.loop-path.invariant.unrefused (unrefused_call (g.S.Texts.world c.loop-path.site) (g.S.Texts.world c.is_absent.new.site) _ c.in_ok-is_absent.ensures.cause);
      none = none_more (WasAsked seen) (WasAsked new) (is_absent_seen seen) (is_absent_seen new) (absent_stays seen new c.is_absent.ensures.looked.stays) c.args.paths.now c.loop-path.path-index c.path-item.result c.loop-path-test.true found.asked c.loop-path.invariant.none (found.same ∙ is);
    }

pub returns-clause-has : goal.returns-clause-has
returns-clause-has g c =
    let seen = c.loop-path.self.seen.items in
    all_asked (WasAsked seen) (is_absent_seen seen) c.args.paths.now
    (subst (λ (l : List ℕ). NoneAsked (WasAsked seen) (is_absent_seen seen) l) (take_all c.loop-path.path-index c.args.paths.now (omega arith)) c.loop-path.invariant.none)

pub returns-in_err-is_absent-clause-sums : goal.returns-in_err-is_absent-clause-sums
returns-in_err-is_absent-clause-sums g c = c.is_absent.ensures.sums ∙ c.loop-path.invariant.sums

pub returns-then-branch-clause-sums : goal.returns-then-branch-clause-sums
returns-then-branch-clause-sums g c = c.is_absent.ensures.sums ∙ c.loop-path.invariant.sums
