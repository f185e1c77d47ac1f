use Rattle.std.proofs.Common.{refl, ◌∙◌, ◌≡◌, ℕ, true, Option, Some, IfSome, subst, arith}
use Rattle.theory.proofs.SiteCalls.{unrefused_none, unrefused_call, unrefused_then}
use Rattle.judge.proofs.LooksStay.{looked_none}
use Rattle.judge.specs.Dues.{due_at}
use Rattle.judge.specs.Lacks.{IsSourceFor}
use Rattle.judge.proofs.Lacking.{edge_passed, edge_found}
use Rattle.judge.proofs.FilesStay.{looked_then}
use Rattle.judge.proofs.SourcesSeen.{inputs_more, none_given, due_within}
use Rattle.judge.proofs.looks.Looks.lack_of_due.Goals as goal

pub loop-place-init : goal.loop-place-init
loop-place-init g c = record {
  sums = refl;
  looked = looked_none g.S.Texts.tells c.args.graph.now (g.S.Texts.world c.args.site.now) c.args.self.now;
  unrefused = unrefused_none (g.S.Texts.world c.args.site.now) c.requires.running;
  none = λ told set kept seen files same all e lt due. absurd (omega (arith, lt));
  there = λ e lt due. absurd (omega (arith, lt));
}

pub returns-in_err-path-clause-looked : goal.returns-in_err-path-clause-looked
returns-in_err-path-clause-looked g c =
    looked_then c.looks_follow.ensures.follow g.S.Texts.tells c.args.graph.now (g.S.Texts.world c.args.site.now) (g.S.Texts.world c.loop-place.site) (g.S.Texts.world c.missing_of_edge.new.site) c.args.self.now c.loop-place.self c.missing_of_edge.new.self c.loop-place.invariant.looked c.missing_of_edge.ensures.looked

pub returns-in-Some-clause-looked : goal.returns-in-Some-clause-looked
returns-in-Some-clause-looked g c =
    looked_then c.looks_follow.ensures.follow g.S.Texts.tells c.args.graph.now (g.S.Texts.world c.args.site.now) (g.S.Texts.world c.loop-place.site) (g.S.Texts.world c.missing_of_edge.new.site) c.args.self.now c.loop-place.self c.missing_of_edge.new.self c.loop-place.invariant.looked c.missing_of_edge.ensures.looked

pub returns-in-Some-clause-found : goal.returns-in-Some-clause-found
returns-in-Some-clause-found g c =
    edge_found c.looks_follow.ensures.follow c.looks_follow.ensures.stay g.S.Texts.tells c.args.graph.now (g.S.Texts.world c.args.site.now) (g.S.Texts.world c.loop-place.site) (g.S.Texts.world c.missing_of_edge.new.site) c.args.self.now c.loop-place.self c.loop-place.invariant.looked c.missing_of_edge.ensures.looked.looks c.args.due.now c.loop-place.place c.loop-place.invariant.none c.edge-edge.result c.edge-edge.ensures
    c.in_ok-path.field-0 c.in_ok-path.ensures.first c.in-Some.path (cc)

pub loop-place-preserved : goal.loop-place-preserved
loop-place-preserved g c = record {
  sums = c.missing_of_edge.ensures.sums ∙ c.loop-place.invariant.sums;
  looked = looked_then c.looks_follow.ensures.follow g.S.Texts.tells c.args.graph.now (g.S.Texts.world c.args.site.now) (g.S.Texts.world c.loop-place.site) (g.S.Texts.world c.missing_of_edge.new.site) c.args.self.now c.loop-place.self c.missing_of_edge.new.self c.loop-place.invariant.looked c.missing_of_edge.ensures.looked;
  unrefused = unrefused_then (g.S.Texts.world c.args.site.now) (g.S.Texts.world c.loop-place.site) (g.S.Texts.world c.missing_of_edge.new.site) c.loop-place.invariant.unrefused (unrefused_call (g.S.Texts.world c.loop-place.site) (g.S.Texts.world c.missing_of_edge.new.site) _ c.in_ok-path.ensures.cause);
  none = edge_passed c.looks_follow.ensures.follow c.looks_follow.ensures.stay g.S.Texts.tells c.args.graph.now (g.S.Texts.world c.args.site.now) (g.S.Texts.world c.loop-place.site) (g.S.Texts.world c.missing_of_edge.new.site) c.args.self.now c.loop-place.self c.loop-place.invariant.looked c.missing_of_edge.ensures.looked.looks c.args.due.now c.loop-place.place c.loop-place.invariant.none c.edge-edge.result c.edge-edge.ensures
      c.in_ok-path.field-0 c.in_ok-path.ensures.first (cc);
  there = inputs_more c.args.graph.now c.loop-place.self.seen.items c.missing_of_edge.new.self.seen.items c.missing_of_edge.ensures.looked.stays c.args.due.now c.loop-place.place c.loop-place.invariant.there c.edge-edge.result c.edge-edge.ensures
      (none_given c.in_ok-path.field-0 (cc) c.in_ok-path.ensures.there);
}

pub returns-clause-found : goal.returns-clause-found
returns-clause-found g c told set kept seen files same all e lt due = c.loop-place.invariant.none told set kept seen files same all e (omega (arith, lt, c.loop-place-test.false, c.edges-place-end.ensures)) due

pub returns-in-Some-clause-named : goal.returns-in-Some-clause-named
returns-in-Some-clause-named g c =
    let is : c.in_ok-path.field-0 ≡ Some c.in-Some.path = cc in
    subst (λ (o : Option ℕ). IfSome o (λ path. due_at c.args.due.now c.edge-edge.result ≡ true)) is c.in_ok-path.ensures.marked

pub returns-in-Some-clause-within : goal.returns-in-Some-clause-within
returns-in-Some-clause-within g c =
    let is : c.in_ok-path.field-0 ≡ Some c.in-Some.path = cc in
    let named = subst (λ (o : Option ℕ). IfSome o (IsSourceFor c.args.graph.now c.edge-edge.result)) is c.in_ok-path.ensures.within in
    record { path = named.within; edge = omega (arith, c.edge-edge.ensures, c.loop-place-test.true, c.edges-place-end.ensures); source = named.source; input = named.input }

pub returns-in_err-path-clause-sums : goal.returns-in_err-path-clause-sums
returns-in_err-path-clause-sums g c = c.missing_of_edge.ensures.sums ∙ c.loop-place.invariant.sums

pub returns-in-Some-clause-sums : goal.returns-in-Some-clause-sums
returns-in-Some-clause-sums g c = c.missing_of_edge.ensures.sums ∙ c.loop-place.invariant.sums

pub returns-clause-there : goal.returns-clause-there
returns-clause-there g c e due =
    let low = due_within c.args.due.now e due in
    c.loop-place.invariant.there e (omega (arith, low, c.requires.due, c.loop-place-test.false, c.edges-place-end.ensures)) due
