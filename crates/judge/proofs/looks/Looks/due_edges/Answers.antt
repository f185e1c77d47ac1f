use Rattle.std.proofs.Common.{◌≡◌, ◌<◌, ◌+◌, ℕ, [], List, Bool, true, false, Some, None, get_or, length, sym, ◌∙◌, subst, arith, take, ap, rules}
use Rattle.std.proofs.Math.ListN.{set, replicate}
use Rattle.std.proofs.lemmas.Bool.{false≢true}
use Rattle.std.proofs.lemmas.List.{take_all, length-set, get_or_default}
use Rattle.model.specs.Graph.{has_number}
use Rattle.theory.proofs.SiteCalls.{unrefused_none, unrefused_call, unrefused_then}
use Rattle.graph.specs.Links.{links_of}
use Rattle.judge.specs.declared.answers.Answers.{Answers}
use Rattle.judge.specs.Answers.{answer_at}
use Rattle.judge.specs.UnderWay.{judged_due}
use Rattle.judge.specs.Dues.{AreListed, AreFoundClean, AwaitsJudgement, IsFoundClean}
use Rattle.judge.specs.Ruled.{IsEdgeFound, EachRuledFound, AreRuledFound, ComeAfterMakers}
use Rattle.judge.proofs.AfterMakers.{after_makers}
use Rattle.judge.proofs.CleanEdges.{clean_added, clean_one_more}
use Rattle.judge.proofs.LooksStay.{looked_cleared}
use Rattle.judge.proofs.Judging.{awaits_none}
use Rattle.judge.proofs.DueEdges.{none_listed, listed_one_more}
use Rattle.judge.proofs.NumbersAsTexts.{at_has}
use Rattle.judge.proofs.FilesStay.{looked_then}
use Rattle.judge.proofs.RuledDues.{ruled_are_due}
use Rattle.judge.proofs.RuledMore.{each_first, edge_second, ruled_judged, ruled_unjudged, ruled_more}
use Rattle.judge.proofs.looks.Looks.due_edges.Goals as goal

pub loop-edge-init : goal.loop-edge-init
loop-edge-init g c =
    let none : c.in_ok-due.due.items ≡ replicate c.edges.result false = c.in_ok-due.ensures.items_if_clones_equal (λ y h. h) in
    record {
      looked = looked_cleared g.S.Texts.tells c.args.graph.now (g.S.Texts.world c.args.site.now) c.args.self.now
          (record { alloc = c.clear.new.self.alloc; by_edge = c.clear.new.self.by_edge; passing = c.clear.new.self.passing; answers = c.make_room.new.self });
      unrefused = unrefused_none (g.S.Texts.world c.args.site.now) c.requires.running;
      summed = c.clear.ensures.summed c.args.graph.now [] c.args.self.now.seen.items;
      known = λ e answer is. c.requires.known e answer (ap (λ (a : Answers). answer_at a e) (sym {A = Answers} c.clear.ensures.answers) ∙ (sym (c.make_room.ensures.same e) ∙ is));
      dues = c.make_room.ensures.dues ∙ ap (λ (a : Answers). a.dues) c.clear.ensures.answers;
      fits = search rules;
      listed = subst (λ (l : List Bool). AreListed c.args.cone.now.order.items l) (sym none) (none_listed c.args.cone.now.order.items c.edges.result);
      ruled = λ after e listed. absurd (false≢true listed);
      clean = λ e listed. absurd (false≢true listed);
    }

pub judged_due-requires-clause-within : goal.judged_due-requires-clause-within
judged_due-requires-clause-within g c =
    let low = c.requires.order c.loop-edge.edge-index c.edge-item.result (subst (λ (l : List ℕ). c.loop-edge.edge-index < length l) c.as_slice-order.ensures.value c.loop-edge-test.true) in
    subst (λ (e : ℕ). e < length c.args.graph.now.manifest.lines) (sym {A = ℕ} c.edge-item.is)
    (subst (λ (l : List ℕ). get_or l c.loop-edge.edge-index c.edge-item.result < length c.args.graph.now.manifest.lines) (sym {A = List ℕ} c.as_slice-order.ensures.value) low)

pub is_due-requires-clause-within : goal.is_due-requires-clause-within
is_due-requires-clause-within g c =
    let low = c.requires.order c.loop-edge.edge-index c.edge-item.result (subst (λ (l : List ℕ). c.loop-edge.edge-index < length l) c.as_slice-order.ensures.value c.loop-edge-test.true) in
    subst (λ (e : ℕ). e < length c.args.graph.now.manifest.lines) (sym {A = ℕ} c.edge-item.is)
    (subst (λ (l : List ℕ). get_or l c.loop-edge.edge-index c.edge-item.result < length c.args.graph.now.manifest.lines) (sym {A = List ℕ} c.as_slice-order.ensures.value) low)

pub returns-in_err-due-2-clause-looked : goal.returns-in_err-due-2-clause-looked
returns-in_err-due-2-clause-looked g c =
    looked_then c.looks_follow.ensures.follow g.S.Texts.tells c.args.graph.now (g.S.Texts.world c.args.site.now) (g.S.Texts.world c.loop-edge.site) (g.S.Texts.world c.is_due.new.site) c.args.self.now c.loop-edge.self c.is_due.new.self c.loop-edge.invariant.looked c.is_due.ensures.looked

pub index_mut-requires : goal.index_mut-requires
index_mut-requires g c =
    let low = c.requires.order c.loop-edge.edge-index c.edge-item.result (subst (λ (l : List ℕ). c.loop-edge.edge-index < length l) c.as_slice-order.ensures.value c.loop-edge-test.true) in
    let same : c.edge-item.result ≡ get_or c.args.cone.now.order.items c.loop-edge.edge-index c.edge-item.result = c.edge-item.is ∙ ap (λ (l : List ℕ). get_or l c.loop-edge.edge-index c.edge-item.result) c.as_slice-order.ensures.value in
    omega (arith, low, same, c.index.ensures.place, c.loop-edge.due.ok.0, c.loop-edge.invariant.fits)

-- an edge that was judged is due as it was found, and no file is looked at
pub loop-edge-preserved-in-Some : goal.loop-edge-preserved-in-Some
loop-edge-preserved-in-Some g c =
    let graph = c.args.graph.now in
    let order = c.as_slice-order.result.now in
    let place = c.loop-edge.edge-index in
    let due = c.loop-edge.due.items in
    let judged = c.in-Some.judged in
    let low : get_or order place 0 < length graph.manifest.lines = subst (λ (l : List ℕ). get_or l place 0 < length graph.manifest.lines) (sym {A = List ℕ} c.as_slice-order.ensures.value)
    (c.requires.order place 0 (subst (λ (l : List ℕ). place < length l) c.as_slice-order.ensures.value c.loop-edge-test.true)) in
    let at : c.edge-item.result ≡ get_or order place 0 = c.edge-item.is ∙ get_or_default order place c.edge-item.result 0 c.loop-edge-test.true in
    record {
      looked = c.loop-edge.invariant.looked;
      unrefused = c.loop-edge.invariant.unrefused;
      summed = c.loop-edge.invariant.summed;
      known = c.loop-edge.invariant.known;
      dues = c.loop-edge.invariant.dues;
      fits = length-set due c.index.result judged ∙ c.loop-edge.invariant.fits;
      listed = subst (λ (e : ℕ). AreListed c.args.cone.now.order.items (set due e judged)) (sym {A = ℕ} (c.index.ensures.place ∙ at))
          (listed_one_more c.args.cone.now.order.items due (get_or order place 0) judged
          (subst (λ (l : List ℕ). has_number l (get_or order place 0) ≡ true) c.as_slice-order.ensures.value (at_has order place 0 c.loop-edge-test.true)) c.loop-edge.invariant.listed);
      ruled = λ after.
          let is : judged_due graph c.args.plan.now (get_or order place 0) ≡ Some judged = subst (λ (e : ℕ). judged_due graph c.args.plan.now e ≡ Some judged) at (sym c.judged_due.ensures ∙ c.in-Some.is) in
          let fits : get_or order place 0 < length due = omega (arith, low, c.loop-edge.invariant.fits) in
          let old = g.S.Texts.world c.args.site.now in
          let new = g.S.Texts.world c.loop-edge.site in
          let seen = c.loop-edge.self.seen.items in
          subst (λ (e : ℕ). EachRuledFound g.S.Texts.tells graph c.args.records.now c.args.plan.now old new seen (set due e judged) (take (place + 1) order)) (sym {A = ℕ} (c.index.ensures.place ∙ at))
          (ruled_more g.S.Texts.tells graph c.args.records.now c.args.plan.now old new seen order after place c.loop-edge-test.true due fits judged (c.loop-edge.invariant.ruled after)
          (ruled_judged g.S.Texts.tells graph c.args.records.now c.args.plan.now old new seen order after place c.loop-edge-test.true due fits judged is));
      clean =
          let is : judged_due graph c.args.plan.now (get_or order place 0) ≡ Some judged = subst (λ (e : ℕ). judged_due graph c.args.plan.now e ≡ Some judged) at (sym c.judged_due.ensures ∙ c.in-Some.is) in
          subst (λ (e : ℕ). AreFoundClean g.S.Texts.tells graph c.args.records.now c.args.plan.now (g.S.Texts.world c.args.site.now) (g.S.Texts.world c.loop-edge.site) c.args.self.now (take (place + 1) order) (set due e judged)) (sym {A = ℕ} (c.index.ensures.place ∙ at))
          (clean_added g.S.Texts.tells graph c.args.records.now c.args.plan.now (g.S.Texts.world c.args.site.now) (g.S.Texts.world c.loop-edge.site) c.args.self.now order place c.loop-edge-test.true due (omega (arith, low, c.loop-edge.invariant.fits)) judged
          c.loop-edge.invariant.clean (λ not_due awaits. absurd (awaits_none graph c.args.plan.now (get_or order place 0) judged awaits is)));
    }

pub index_mut-requires-in-loop-edge : goal.index_mut-requires-in-loop-edge
index_mut-requires-in-loop-edge g c =
    let low = c.requires.order c.loop-edge.edge-index c.edge-item.result (subst (λ (l : List ℕ). c.loop-edge.edge-index < length l) c.as_slice-order.ensures.value c.loop-edge-test.true) in
    let same : c.edge-item.result ≡ get_or c.args.cone.now.order.items c.loop-edge.edge-index c.edge-item.result = c.edge-item.is ∙ ap (λ (l : List ℕ). get_or l c.loop-edge.edge-index c.edge-item.result) c.as_slice-order.ensures.value in
    omega (arith, low, same, c.index-in-loop-edge.ensures.place, c.loop-edge.due.ok.0, c.loop-edge.invariant.fits)

pub loop-edge-preserved : goal.loop-edge-preserved
loop-edge-preserved g c =
    let graph = c.args.graph.now in
    let order = c.as_slice-order.result.now in
    let place = c.loop-edge.edge-index in
    let due = c.loop-edge.due.items in
    let low : get_or order place 0 < length graph.manifest.lines = subst (λ (l : List ℕ). get_or l place 0 < length graph.manifest.lines) (sym {A = List ℕ} c.as_slice-order.ensures.value)
    (c.requires.order place 0 (subst (λ (l : List ℕ). place < length l) c.as_slice-order.ensures.value c.loop-edge-test.true)) in
    let at : c.edge-item.result ≡ get_or order place 0 = c.edge-item.is ∙ get_or_default order place c.edge-item.result 0 c.loop-edge-test.true in
    record {
      looked = looked_then c.looks_follow.ensures.follow g.S.Texts.tells c.args.graph.now (g.S.Texts.world c.args.site.now) (g.S.Texts.world c.loop-edge.site) (g.S.Texts.world c.is_due.new.site) c.args.self.now c.loop-edge.self c.is_due.new.self c.loop-edge.invariant.looked c.is_due.ensures.looked;
      unrefused = unrefused_then (g.S.Texts.world c.args.site.now) (g.S.Texts.world c.loop-edge.site) (g.S.Texts.world c.is_due.new.site) c.loop-edge.invariant.unrefused (unrefused_call (g.S.Texts.world c.loop-edge.site) (g.S.Texts.world c.is_due.new.site) _ c.in_ok-due-2.ensures.cause);
      summed = c.is_due.ensures.summed;
      known = c.is_due.ensures.known;
      dues = c.is_due.ensures.dues ∙ c.loop-edge.invariant.dues;
      fits = length-set due c.index-in-loop-edge.result c.in_ok-due-2.field-0 ∙ c.loop-edge.invariant.fits;
      listed = subst (λ (e : ℕ). AreListed c.args.cone.now.order.items (set due e c.in_ok-due-2.field-0)) (sym {A = ℕ} (c.index-in-loop-edge.ensures.place ∙ at))
          (listed_one_more c.args.cone.now.order.items due (get_or order place 0) c.in_ok-due-2.field-0
          (subst (λ (l : List ℕ). has_number l (get_or order place 0) ≡ true) c.as_slice-order.ensures.value (at_has order place 0 c.loop-edge-test.true)) c.loop-edge.invariant.listed);
      ruled = λ after.
          let tells = g.S.Texts.tells in
          let records = c.args.records.now in
          let plan = c.args.plan.now in
          let old = g.S.Texts.world c.args.site.now in
          let mid = g.S.Texts.world c.loop-edge.site in
          let new = g.S.Texts.world c.is_due.new.site in
          let seen = c.is_due.new.self.seen.items in
          let is = c.in_ok-due-2.field-0 in
          let follow = c.looks_follow.ensures.follow in
          let stay = c.looks_follow.ensures.stay in
          let first = c.loop-edge.invariant.looked.looks in
          let second = c.is_due.ensures.looked in
          let none : judged_due graph plan (get_or order place 0) ≡ None = subst (λ (e : ℕ). judged_due graph plan e ≡ None) at (sym c.judged_due.ensures ∙ c.in_default.is) in
          let fits : get_or order place 0 < length due = omega (arith, low, c.loop-edge.invariant.fits) in
          let found = edge_second follow stay tells graph records old mid new c.loop-edge.self c.is_due.new.self due seen (get_or order place 0) is first second.looks
          (subst (λ (e : ℕ). IsEdgeFound tells graph records mid new seen due e is) at
          (subst (λ (l : List Bool). IsEdgeFound tells graph records mid new seen l c.edge-item.result is) c.deref.ensures.value c.in_ok-due-2.ensures.ruled)) in
          subst (λ (e : ℕ). EachRuledFound tells graph records plan old new seen (set due e is) (take (place + 1) order)) (sym {A = ℕ} (c.index-in-loop-edge.ensures.place ∙ at))
          (ruled_more tells graph records plan old new seen order after place c.loop-edge-test.true due fits is
          (each_first follow stay tells graph records old mid new c.loop-edge.self c.is_due.new.self due plan (take place order) first second (c.loop-edge.invariant.ruled after))
          (ruled_unjudged tells graph records plan old new seen order after place c.loop-edge-test.true due fits is none found));
      clean =
          subst (λ (e : ℕ). AreFoundClean g.S.Texts.tells graph c.args.records.now c.args.plan.now (g.S.Texts.world c.args.site.now) (g.S.Texts.world c.is_due.new.site) c.args.self.now (take (place + 1) order) (set due e c.in_ok-due-2.field-0)) (sym {A = ℕ} (c.index-in-loop-edge.ensures.place ∙ at))
          (clean_one_more c.looks_follow.ensures.follow c.looks_follow.ensures.stay g.S.Texts.tells graph c.args.records.now c.args.plan.now (g.S.Texts.world c.args.site.now) (g.S.Texts.world c.loop-edge.site) (g.S.Texts.world c.is_due.new.site) c.args.self.now c.loop-edge.self
          c.loop-edge.invariant.looked c.is_due.ensures.looked.looks order place c.loop-edge-test.true due (omega (arith, low, c.loop-edge.invariant.fits)) c.in_ok-due-2.field-0 c.loop-edge.invariant.clean
          (subst (λ (e : ℕ). c.in_ok-due-2.field-0 ≡ false → AwaitsJudgement graph c.args.plan.now e → IsFoundClean g.S.Texts.tells graph c.args.records.now (g.S.Texts.world c.loop-edge.site) (g.S.Texts.world c.is_due.new.site) c.loop-edge.self e) at (λ not_due awaits. c.in_ok-due-2.ensures.clean not_due awaits.0)));
    }

-- where the order is one of makers first each flag is what the rule says
pub returns-clause-ruled : goal.returns-clause-ruled
returns-clause-ruled g c after =
    let order = c.as_slice-order.result.now in
    let whole : take c.loop-edge.edge-index order ≡ c.args.cone.now.order.items = take_all c.loop-edge.edge-index order (omega arith) ∙ c.as_slice-order.ensures.value in
    let here = subst (ComeAfterMakers (links_of c.args.graph.now)) (sym {A = List ℕ} c.as_slice-order.ensures.value) after in
    record { flagged = c.loop-edge.invariant.listed; each = λ e listed. c.loop-edge.invariant.ruled here e (subst (λ (l : List ℕ). has_number l e ≡ true) (sym whole) listed) }

-- so it is in a build under way, and such flags tell what is due
pub returns-clause-due : goal.returns-clause-due
returns-clause-due g c store targets before way =
    let tells = g.S.Texts.tells in
    let graph = c.args.graph.now in
    let old = g.S.Texts.world c.args.site.now in
    let new = g.S.Texts.world c.loop-edge.site in
    let order = c.as_slice-order.result.now in
    let whole : take c.loop-edge.edge-index order ≡ c.args.cone.now.order.items = take_all c.loop-edge.edge-index order (omega arith) ∙ c.as_slice-order.ensures.value in
    let after = after_makers graph c.lists_stand.ensures c.args.records.now c.args.cone.now c.args.plan.now store targets before way in
    let here = subst (ComeAfterMakers (links_of graph)) (sym {A = List ℕ} c.as_slice-order.ensures.value) after in
    let are : AreRuledFound tells graph c.args.records.now c.args.plan.now old new c.loop-edge.self.seen.items c.loop-edge.due.items c.args.cone.now.order.items =
    record { flagged = c.loop-edge.invariant.listed; each = λ e listed. c.loop-edge.invariant.ruled here e (subst (λ (l : List ℕ). has_number l e ≡ true) (sym whole) listed) } in
    ruled_are_due c.looks_follow.ensures.follow c.looks_follow.ensures.stay tells graph c.lists_stand.ensures c.args.records.now c.args.cone.now c.args.plan.now old new c.args.self.now c.loop-edge.self c.loop-edge.invariant.looked
    c.loop-edge.due.items are store targets before way

pub returns-clause-listed : goal.returns-clause-listed
returns-clause-listed g c = c.loop-edge.invariant.listed

pub returns-clause-clean : goal.returns-clause-clean
returns-clause-clean g c =
    let order = c.as_slice-order.result.now in
    let whole : take c.loop-edge.edge-index order ≡ c.args.cone.now.order.items = take_all c.loop-edge.edge-index order (omega arith) ∙ c.as_slice-order.ensures.value in
    subst (λ (l : List ℕ). AreFoundClean g.S.Texts.tells c.args.graph.now c.args.records.now c.args.plan.now (g.S.Texts.world c.args.site.now) (g.S.Texts.world c.loop-edge.site) c.args.self.now l c.loop-edge.due.items) whole c.loop-edge.invariant.clean

pub returns-clause-known : goal.returns-clause-known
returns-clause-known g c = c.loop-edge.invariant.known

pub returns-in_err-due-2-clause-known : goal.returns-in_err-due-2-clause-known
returns-in_err-due-2-clause-known g c = c.is_due.ensures.known

-- the flags that are kept are left alone
pub returns-clause-dues : goal.returns-clause-dues
returns-clause-dues g c = c.loop-edge.invariant.dues

pub returns-in_err-due-2-clause-dues : goal.returns-in_err-due-2-clause-dues
returns-in_err-due-2-clause-dues g c = c.is_due.ensures.dues ∙ c.loop-edge.invariant.dues
