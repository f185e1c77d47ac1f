use Rattle.std.proofs.Common.{◌≡◌, ℕ, List, true, false, refl, ◌∙◌, subst, arith}
use Rattle.std.proofs.lemmas.Bool.{false≢true}
use Rattle.std.proofs.lemmas.List.{take_all}
use Rattle.theory.proofs.SiteCalls.{unrefused_none, unrefused_call, unrefused_then}
use Rattle.graph.specs.Links.{links_of}
use Rattle.judge.specs.Ruled.{is_due_seen, WasSourceAsked, IsDueAsked, NoneAsked}
use Rattle.judge.proofs.AskedAny.{due_stays, one_asked, none_more, all_asked}
use Rattle.judge.proofs.LooksStay.{looked_none}
use Rattle.judge.proofs.FilesStay.{looked_then}
use Rattle.judge.proofs.looks.Looks.has_due_path.Goals as goal

pub returns-in_err-is_due_path-clause-looked : goal.returns-in_err-is_due_path-clause-looked
returns-in_err-is_due_path-clause-looked g c =
    looked_then c.looks_follow.ensures.follow g.S.Texts.tells c.args.graph.now (g.S.Texts.world c.args.site.now) (g.S.Texts.world c.loop-path.site) (g.S.Texts.world c.is_due_path.new.site) c.args.self.now c.loop-path.self c.is_due_path.new.self c.loop-path.invariant.looked c.is_due_path.ensures.looked

pub returns-then-branch-clause-looked : goal.returns-then-branch-clause-looked
returns-then-branch-clause-looked g c =
    looked_then c.looks_follow.ensures.follow g.S.Texts.tells c.args.graph.now (g.S.Texts.world c.args.site.now) (g.S.Texts.world c.loop-path.site) (g.S.Texts.world c.is_due_path.new.site) c.args.self.now c.loop-path.self c.is_due_path.new.self c.loop-path.invariant.looked c.is_due_path.ensures.looked

pub loop-path-init : goal.loop-path-init
loop-path-init g c = record {
  sums = refl;
  looked = looked_none g.S.Texts.tells c.args.graph.now (g.S.Texts.world c.args.site.now) c.args.self.now;
  unrefused = unrefused_none (g.S.Texts.world c.args.site.now) c.requires.running;
  none = λ p listed. absurd (false≢true listed);
}

pub returns-then-branch-clause-has : goal.returns-then-branch-clause-has
returns-then-branch-clause-has g c =
    let seen = c.loop-path.self.seen.items in
    let new = c.is_due_path.new.self.seen.items in
    let found = subst (λ (p : ℕ). IsDueAsked (links_of c.args.graph.now) new c.args.due.now p c.in_ok-is_due_path.field-0) c.path-item.is c.in_ok-is_due_path.ensures.due in
    let is : c.in_ok-is_due_path.field-0 ≡ true = cc in
    one_asked (WasSourceAsked (links_of c.args.graph.now) seen) (WasSourceAsked (links_of c.args.graph.now) new) (is_due_seen (links_of c.args.graph.now) seen c.args.due.now) (is_due_seen (links_of c.args.graph.now) new c.args.due.now) (due_stays seen new c.is_due_path.ensures.looked.stays (links_of c.args.graph.now) c.args.due.now) c.args.paths.now c.loop-path.path-index c.path-item.result c.loop-path-test.true found.asked (found.same ∙ is)

pub loop-path-preserved : goal.loop-path-preserved
loop-path-preserved g c =
    let seen = c.loop-path.self.seen.items in
    let new = c.is_due_path.new.self.seen.items in
    let found = subst (λ (p : ℕ). IsDueAsked (links_of c.args.graph.now) new c.args.due.now p c.in_ok-is_due_path.field-0) c.path-item.is c.in_ok-is_due_path.ensures.due in
    let is : c.in_ok-is_due_path.field-0 ≡ false = cc in
    record {
      sums = c.is_due_path.ensures.sums ∙ c.loop-path.invariant.sums;
      looked = looked_then c.looks_follow.ensures.follow g.S.Texts.tells c.args.graph.now (g.S.Texts.world c.args.site.now) (g.S.Texts.world c.loop-path.site) (g.S.Texts.world c.is_due_path.new.site) c.args.self.now c.loop-path.self c.is_due_path.new.self c.loop-path.invariant.looked c.is_due_path.ensures.looked;
      unrefused = unrefused_then (g.S.Texts.world c.args.site.now) (g.S.Texts.world c.loop-path.site) (g.S.Texts.world c.is_due_path.new.site) c.loop-path.invariant.unrefused (unrefused_call (g.S.Texts.world c.loop-path.site) (g.S.Texts.world c.is_due_path.new.site) _ c.in_ok-is_due_path.ensures.cause);
      none = none_more (WasSourceAsked (links_of c.args.graph.now) seen) (WasSourceAsked (links_of c.args.graph.now) new) (is_due_seen (links_of c.args.graph.now) seen c.args.due.now) (is_due_seen (links_of c.args.graph.now) new c.args.due.now) (due_stays seen new c.is_due_path.ensures.looked.stays (links_of c.args.graph.now) c.args.due.now) c.args.paths.now c.loop-path.path-index c.path-item.result c.loop-path-test.true found.asked c.loop-path.invariant.none (found.same ∙ is);
    }

pub returns-clause-has : goal.returns-clause-has
returns-clause-has g c =
    let seen = c.loop-path.self.seen.items in
    all_asked (WasSourceAsked (links_of c.args.graph.now) seen) (is_due_seen (links_of c.args.graph.now) seen c.args.due.now) c.args.paths.now
    (subst (λ (l : List ℕ). NoneAsked (WasSourceAsked (links_of c.args.graph.now) seen) (is_due_seen (links_of c.args.graph.now) seen c.args.due.now) l) (take_all c.loop-path.path-index c.args.paths.now (omega arith)) c.loop-path.invariant.none)

pub returns-in_err-is_due_path-clause-sums : goal.returns-in_err-is_due_path-clause-sums
returns-in_err-is_due_path-clause-sums g c = c.is_due_path.ensures.sums ∙ c.loop-path.invariant.sums

pub returns-then-branch-clause-sums : goal.returns-then-branch-clause-sums
returns-then-branch-clause-sums g c = c.is_due_path.ensures.sums ∙ c.loop-path.invariant.sums
