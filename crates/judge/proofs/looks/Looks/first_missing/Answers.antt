use Rattle.std.proofs.Common.{refl, ◌∙◌, ◌≡◌, ◌<◌, ℕ, true, List, length, sym, subst, arith}
use Rattle.std.proofs.lemmas.List.{take_all}
use Rattle.model.specs.Graph.{has_number}
use Rattle.model.specs.OutOfDate.{NoneIsMissing}
use Rattle.theory.proofs.SiteCalls.{unrefused_none, unrefused_call, unrefused_then}
use Rattle.judge.proofs.LooksStay.{looked_none}
use Rattle.paths.specs.Told.{texts_at}
use Rattle.graph.specs.Told.{declared_by}
use Rattle.judge.proofs.Lacking.{missing_passed, missing_found}
use Rattle.judge.proofs.NumbersAsTexts.{at_has}
use Rattle.judge.proofs.FilesStay.{looked_then}
use Rattle.std.proofs.lemmas.Bool.{false≢true}
use Rattle.judge.specs.KeptDues.{IsSourceSeen, AreSourcesSeen}
use Rattle.judge.proofs.SourcesSeen.{sources_more}
use Rattle.judge.proofs.looks.Looks.first_missing.Goals as goal

pub loop-path-init : goal.loop-path-init
loop-path-init g c = record {
  sums = refl;
  looked = looked_none g.S.Texts.tells c.args.graph.now (g.S.Texts.world c.args.site.now) c.args.self.now;
  unrefused = unrefused_none (g.S.Texts.world c.args.site.now) c.requires.running;
  none = λ told set kept seen files same sources. tt;
  there = λ p listed. absurd (false≢true listed);
}

pub returns-in_err-is_missing-clause-looked : goal.returns-in_err-is_missing-clause-looked
returns-in_err-is_missing-clause-looked g c =
    looked_then c.looks_follow.ensures.follow g.S.Texts.tells c.args.graph.now (g.S.Texts.world c.args.site.now) (g.S.Texts.world c.loop-path.site) (g.S.Texts.world c.is_missing.new.site) c.args.self.now c.loop-path.self c.is_missing.new.self c.loop-path.invariant.looked c.is_missing.ensures.looked

pub returns-then-branch-clause-looked : goal.returns-then-branch-clause-looked
returns-then-branch-clause-looked g c =
    looked_then c.looks_follow.ensures.follow g.S.Texts.tells c.args.graph.now (g.S.Texts.world c.args.site.now) (g.S.Texts.world c.loop-path.site) (g.S.Texts.world c.is_missing.new.site) c.args.self.now c.loop-path.self c.is_missing.new.self c.loop-path.invariant.looked c.is_missing.ensures.looked

pub returns-then-branch-clause-first : goal.returns-then-branch-clause-first
returns-then-branch-clause-first g c =
    missing_found c.looks_follow.ensures.follow c.looks_follow.ensures.stay g.S.Texts.tells c.args.graph.now (g.S.Texts.world c.args.site.now) (g.S.Texts.world c.loop-path.site) (g.S.Texts.world c.is_missing.new.site) c.args.self.now c.loop-path.self c.loop-path.invariant.looked c.is_missing.ensures.looked.looks c.args.paths.now c.loop-path.path-index c.path-item.result c.loop-path-test.true c.loop-path.invariant.none
    c.path-item.result c.path-item.is c.in_ok-is_missing.field-0 c.in_ok-is_missing.ensures.missing (cc)

pub loop-path-preserved : goal.loop-path-preserved
loop-path-preserved g c = record {
  sums = c.is_missing.ensures.sums ∙ c.loop-path.invariant.sums;
  looked = looked_then c.looks_follow.ensures.follow g.S.Texts.tells c.args.graph.now (g.S.Texts.world c.args.site.now) (g.S.Texts.world c.loop-path.site) (g.S.Texts.world c.is_missing.new.site) c.args.self.now c.loop-path.self c.is_missing.new.self c.loop-path.invariant.looked c.is_missing.ensures.looked;
  unrefused = unrefused_then (g.S.Texts.world c.args.site.now) (g.S.Texts.world c.loop-path.site) (g.S.Texts.world c.is_missing.new.site) c.loop-path.invariant.unrefused (unrefused_call (g.S.Texts.world c.loop-path.site) (g.S.Texts.world c.is_missing.new.site) _ c.in_ok-is_missing.ensures.cause);
  none = missing_passed c.looks_follow.ensures.follow c.looks_follow.ensures.stay g.S.Texts.tells c.args.graph.now (g.S.Texts.world c.args.site.now) (g.S.Texts.world c.loop-path.site) (g.S.Texts.world c.is_missing.new.site) c.args.self.now c.loop-path.self c.loop-path.invariant.looked c.is_missing.ensures.looked.looks c.args.paths.now c.loop-path.path-index c.path-item.result c.loop-path-test.true c.loop-path.invariant.none
      c.path-item.result c.path-item.is c.in_ok-is_missing.field-0 c.in_ok-is_missing.ensures.missing (cc);
  there = sources_more c.args.graph.now c.loop-path.self.seen.items c.is_missing.new.self.seen.items c.is_missing.ensures.looked.stays c.args.paths.now c.loop-path.path-index c.path-item.result c.loop-path-test.true c.loop-path.invariant.there
      (subst (λ (p : ℕ). IsSourceSeen c.args.graph.now c.is_missing.new.self.seen.items p) c.path-item.is (c.in_ok-is_missing.ensures.there (cc)));
}

pub returns-clause-first : goal.returns-clause-first
returns-clause-first g c told set kept seen files same fit =
    subst (λ (l : List ℕ). NoneIsMissing (declared_by c.args.graph.now).edges files (texts_at c.args.graph.now.manifest.paths l)) (take_all c.loop-path.path-index c.args.paths.now (omega arith))
    (c.loop-path.invariant.none told set kept seen files same fit)

pub returns-then-branch-clause-within : goal.returns-then-branch-clause-within
returns-then-branch-clause-within g c = record {
  within = subst (λ (p : ℕ). p < length c.args.graph.now.manifest.paths) (sym {A = ℕ} c.path-item.is) (c.requires.within c.loop-path.path-index c.path-item.result c.loop-path-test.true);
  listed = subst (λ (p : ℕ). has_number c.args.paths.now p ≡ true) (sym {A = ℕ} c.path-item.is) (at_has c.args.paths.now c.loop-path.path-index c.path-item.result c.loop-path-test.true);
  source = c.in_ok-is_missing.ensures.source (cc);
}

pub returns-in_err-is_missing-clause-sums : goal.returns-in_err-is_missing-clause-sums
returns-in_err-is_missing-clause-sums g c = c.is_missing.ensures.sums ∙ c.loop-path.invariant.sums

pub returns-then-branch-clause-sums : goal.returns-then-branch-clause-sums
returns-then-branch-clause-sums g c = c.is_missing.ensures.sums ∙ c.loop-path.invariant.sums

pub returns-clause-there : goal.returns-clause-there
returns-clause-there g c = subst (λ (l : List ℕ). AreSourcesSeen c.args.graph.now c.loop-path.self.seen.items l) (take_all c.loop-path.path-index c.args.paths.now (omega arith)) c.loop-path.invariant.there
