use Rattle.std.proofs.Common.{◌≡◌, ◌<◌, ◌≤◌, ℕ, [], true, length, sym, ◌∙◌, ap, subst, arith}
use Rattle.std.proofs.lemmas.List.{get_or_default}
use Rattle.model.specs.Graph.{has_number}
use Rattle.theory.proofs.SiteCalls.{unrefused_none, unrefused_call, unrefused_then}
use Rattle.judge.specs.declared.answers.Answers.{Answers}
use Rattle.judge.specs.declared.dues.Dues.{Dues}
use Rattle.judge.specs.declared.sums.Sums.{Sums}
use Rattle.judge.specs.Answers.{AreAnswers}
use Rattle.judge.specs.KeptDues.{edge_of_place, NotesFound, AreRuledBut, LacksNoneBut}
use Rattle.judge.specs.Ruled.{IsFlagFound}
use Rattle.judge.proofs.FilesStay.{looked_then}
use Rattle.judge.proofs.KeptFlags.{dues_stay}
use Rattle.judge.proofs.LooksStay.{looked_cleared}
use Rattle.judge.proofs.NumbersAsTexts.{at_has}
use Rattle.judge.proofs.RuledAgain.{IsAgainAt, room_within, again_start, again_kept, again_end, again_more, again_less}
use Rattle.judge.proofs.SourcesSeen.{lacks_stay, lacks_found}
use Rattle.judge.proofs.looks.Looks.due_again.Goals as goal

-- ---- the edge of the lowest place

pub index-edge-requires : goal.index-edge-requires
index-edge-requires g c = let low = c.loop-place.invariant.again.room.within c.in-Some.place c.in-Some.ensures.is in omega (arith, low, c.args.cone.now.order.ok.0)

pub flag_again-requires-clause-within : goal.flag_again-requires-clause-within
flag_again-requires-clause-within g c =
    let cone = c.args.cone.now in
    let k = c.in-Some.place in
    let room = c.loop-place.invariant.again.room in
    let low : k < length cone.order.items = room.within k c.in-Some.ensures.is in
    let at : c.index-edge.result.now ≡ edge_of_place cone k = c.index-edge.ensures ∙ get_or_default cone.order.items k c.index-edge.result.now 0 low in
    room_within c.args.graph.now cone c.loop-place.self.sums.answers.dues room c.index-edge.result.now (subst (λ (n : ℕ). has_number cone.order.items n ≡ true) (sym {A = ℕ} at) (at_has cone.order.items k 0 low))

pub flag_again-requires-clause-due : goal.flag_again-requires-clause-due
flag_again-requires-clause-due g c = c.loop-place.invariant.again.room.fits

pub found-requires-clause-listed : goal.found-requires-clause-listed
found-requires-clause-listed g c =
    let cone = c.args.cone.now in
    let k = c.in-Some.place in
    let low : k < length cone.order.items = c.loop-place.invariant.again.room.within k c.in-Some.ensures.is in
    let at : c.index-edge.result.now ≡ edge_of_place cone k = c.index-edge.ensures ∙ get_or_default cone.order.items k c.index-edge.result.now 0 low in
    subst (λ (n : ℕ). has_number cone.order.items n ≡ true) (sym {A = ℕ} at) (at_has cone.order.items k 0 low)

pub found-requires-clause-within : goal.found-requires-clause-within
found-requires-clause-within g c =
    let cone = c.args.cone.now in
    let k = c.in-Some.place in
    let room = c.loop-place.invariant.again.room in
    let low : k < length cone.order.items = room.within k c.in-Some.ensures.is in
    let at : c.index-edge.result.now ≡ edge_of_place cone k = c.index-edge.ensures ∙ get_or_default cone.order.items k c.index-edge.result.now 0 low in
    room_within c.args.graph.now cone c.loop-place.self.sums.answers.dues room c.index-edge.result.now (subst (λ (n : ℕ). has_number cone.order.items n ≡ true) (sym {A = ℕ} at) (at_has cone.order.items k 0 low))

pub found-requires-clause-fits : goal.found-requires-clause-fits
found-requires-clause-fits g c = ap (λ (dues : Dues). length dues.flags.items) c.flag_again.ensures.dues ∙ c.loop-place.invariant.again.room.fits

pub found-requires-clause-sized : goal.found-requires-clause-sized
found-requires-clause-sized g c = c.loop-place.invariant.again.room.sized

pub found-requires-clause-marks : goal.found-requires-clause-marks
found-requires-clause-marks g c = c.loop-place.invariant.again.room.marks

pub found-requires-clause-room : goal.found-requires-clause-room
found-requires-clause-room g c = subst (λ (dues : Dues). length c.args.cone.now.order.items ≤ length dues.todo) (sym {A = Dues} c.flag_again.ensures.dues) c.loop-place.invariant.again.room.room

pub found-requires-clause-asking : goal.found-requires-clause-asking
found-requires-clause-asking g c =
    let cone = c.args.cone.now in
    let k = c.in-Some.place in
    let room = c.loop-place.invariant.again.room in
    let low : k < length cone.order.items = room.within k c.in-Some.ensures.is in
    let at : c.index-edge.result.now ≡ edge_of_place cone k = c.index-edge.ensures ∙ get_or_default cone.order.items k c.index-edge.result.now 0 low in
    let within = room_within c.args.graph.now cone c.loop-place.self.sums.answers.dues room c.index-edge.result.now (subst (λ (n : ℕ). has_number cone.order.items n ≡ true) (sym {A = ℕ} at) (at_has cone.order.items k 0 low)) in
    let asking = c.loop-place.invariant.lacks.room.room in
    let same = ap (λ (dues : Dues). length dues.fresh) c.flag_again.ensures.dues in
    omega (arith, within, asking, same)

-- ---- the site failed

pub returns-in_err-flag-clause-looked : goal.returns-in_err-flag-clause-looked
returns-in_err-flag-clause-looked g c =
    looked_then c.looks_follow.ensures.follow g.S.Texts.tells c.args.graph.now (g.S.Texts.world c.args.site.now) (g.S.Texts.world c.loop-place.site) (g.S.Texts.world c.flag_again.new.site) c.args.self.now c.loop-place.self c.flag_again.new.self
    c.loop-place.invariant.looked c.flag_again.ensures.looked

pub returns-in_err-flag-clause-known : goal.returns-in_err-flag-clause-known
returns-in_err-flag-clause-known g c = c.flag_again.ensures.known

pub returns-in_err-flag-clause-kept : goal.returns-in_err-flag-clause-kept
returns-in_err-flag-clause-kept g c =
    let graph = c.args.graph.now in
    let records = c.args.records.now in
    let cone = c.args.cone.now in
    let plan = c.args.plan.now in
    let one = c.loop-place.self in
    let two = c.flag_again.new.self in
    subst (λ (dues : Dues). AreRuledBut graph records cone plan two.seen.items dues) (sym {A = Dues} c.flag_again.ensures.dues)
    (dues_stay graph records cone plan one.seen.items two.seen.items c.flag_again.ensures.looked.stays one.sums.answers.dues
    (again_kept g.S.Texts.tells graph records cone plan (g.S.Texts.world c.args.site.now) (g.S.Texts.world c.loop-place.site) one.seen.items one.sums.answers.dues c.loop-place.invariant.again))

pub returns-in_err-flag-clause-lacks : goal.returns-in_err-flag-clause-lacks
returns-in_err-flag-clause-lacks g c =
    let graph = c.args.graph.now in
    let cone = c.args.cone.now in
    let one = c.loop-place.self in
    let two = c.flag_again.new.self in
    subst (λ (dues : Dues). LacksNoneBut graph cone two.seen.items dues) (sym {A = Dues} c.flag_again.ensures.dues)
    (lacks_stay graph one.seen.items two.seen.items c.flag_again.ensures.looked.stays cone one.sums.answers.dues c.loop-place.invariant.lacks)

-- ---- one more after another

pub loop-place-init : goal.loop-place-init
loop-place-init g c =
    let tells = g.S.Texts.tells in
    let graph = c.args.graph.now in
    let now = g.S.Texts.world c.args.site.now in
    record {
      looked = looked_cleared tells graph now c.args.self.now c.clear.new.self;
      unrefused = unrefused_none now c.requires.running;
      summed = c.clear.ensures.summed graph [] c.args.self.now.seen.items;
      known = subst (λ (answers : Answers). AreAnswers graph c.args.records.now c.args.self.now.seen.items answers) (sym {A = Answers} c.clear.ensures.answers) c.requires.known;
      again =
          subst (λ (answers : Answers). IsAgainAt tells graph c.args.records.now c.args.cone.now c.args.plan.now now now c.args.self.now.seen.items answers.dues) (sym {A = Answers} c.clear.ensures.answers)
          (again_start tells graph c.args.records.now c.args.cone.now c.args.plan.now now c.args.self.now.seen.items c.args.self.now.sums.answers.dues c.requires.ruled c.requires.asked);
      lacks = subst (λ (answers : Answers). LacksNoneBut graph c.args.cone.now c.args.self.now.seen.items answers.dues) (sym {A = Answers} c.clear.ensures.answers) c.requires.lacks;
    }

pub loop-place-preserved : goal.loop-place-preserved
loop-place-preserved g c =
    let tells = g.S.Texts.tells in
    let graph = c.args.graph.now in
    let records = c.args.records.now in
    let cone = c.args.cone.now in
    let plan = c.args.plan.now in
    let a = g.S.Texts.world c.args.site.now in
    let b = g.S.Texts.world c.loop-place.site in
    let d = g.S.Texts.world c.flag_again.new.site in
    let one = c.loop-place.self in
    let two = c.flag_again.new.self in
    let k = c.in-Some.place in
    let is = c.in_ok-flag.flag in
    let again = c.loop-place.invariant.again in
    let low : k < length cone.order.items = again.room.within k c.in-Some.ensures.is in
    let at : c.index-edge.result.now ≡ edge_of_place cone k = c.index-edge.ensures ∙ get_or_default cone.order.items k c.index-edge.result.now 0 low in
    let sums : Sums = record { alloc = two.sums.alloc; by_edge = two.sums.by_edge; passing = two.sums.passing; answers = record { known = two.sums.answers.known; dues = c.found.new.self } } in
    let notes = subst (λ (dues : Dues). NotesFound graph cone (edge_of_place cone k) is dues c.found.new.self) c.flag_again.ensures.dues
    (subst (λ (e : ℕ). NotesFound graph cone e is two.sums.answers.dues c.found.new.self) at c.found.ensures) in
    let flag = subst (λ (dues : Dues). IsFlagFound tells graph records plan b d two.seen.items dues.flags.items (edge_of_place cone k) is) c.flag_again.ensures.dues
    (subst (λ (e : ℕ). IsFlagFound tells graph records plan b d two.seen.items two.sums.answers.dues.flags.items e is) at c.in_ok-flag.ensures.ruled) in
    record {
      looked = looked_then c.looks_follow.ensures.follow tells graph a d d c.args.self.now two (record { seen = two.seen; sums = sums })
          (looked_then c.looks_follow.ensures.follow tells graph a b d c.args.self.now one two c.loop-place.invariant.looked c.flag_again.ensures.looked) (looked_cleared tells graph d two sums);
      unrefused = unrefused_then a b d c.loop-place.invariant.unrefused (unrefused_call b d _ c.in_ok-flag.ensures.cause);
      summed = c.flag_again.ensures.summed;
      known = c.flag_again.ensures.known;
      again = again_more c.looks_follow.ensures.follow c.looks_follow.ensures.stay tells graph c.lists_stand.ensures records cone plan a b d one two c.loop-place.invariant.looked.looks c.flag_again.ensures.looked
          one.sums.answers.dues c.found.new.self again k c.in-Some.ensures is notes flag;
      lacks =
          let listed = at_has cone.order.items k 0 low in
          lacks_found graph cone two.seen.items one.sums.answers.dues c.found.new.self (edge_of_place cone k) listed (room_within graph cone one.sums.answers.dues again.room (edge_of_place cone k) listed) is notes again.flagged
          (lacks_stay graph one.seen.items two.seen.items c.flag_again.ensures.looked.stays cone one.sums.answers.dues c.loop-place.invariant.lacks);
    }

pub loop-place-smaller : goal.loop-place-smaller
loop-place-smaller g c =
    let graph = c.args.graph.now in
    let cone = c.args.cone.now in
    let one = c.loop-place.self in
    let two = c.flag_again.new.self in
    let k = c.in-Some.place in
    let is = c.in_ok-flag.flag in
    let again = c.loop-place.invariant.again in
    let low : k < length cone.order.items = again.room.within k c.in-Some.ensures.is in
    let at : c.index-edge.result.now ≡ edge_of_place cone k = c.index-edge.ensures ∙ get_or_default cone.order.items k c.index-edge.result.now 0 low in
    let notes = subst (λ (dues : Dues). NotesFound graph cone (edge_of_place cone k) is dues c.found.new.self) c.flag_again.ensures.dues
    (subst (λ (e : ℕ). NotesFound graph cone e is two.sums.answers.dues c.found.new.self) at c.found.ensures) in
    again_less c.looks_follow.ensures.follow c.looks_follow.ensures.stay g.S.Texts.tells graph c.lists_stand.ensures c.args.records.now cone c.args.plan.now (g.S.Texts.world c.args.site.now) (g.S.Texts.world c.loop-place.site)
    (g.S.Texts.world c.flag_again.new.site) one two c.loop-place.invariant.looked.looks c.flag_again.ensures.looked one.sums.answers.dues c.found.new.self again k c.in-Some.ensures is notes (omega (arith, low, again.room.room))

pub returns-clause-kept : goal.returns-clause-kept
returns-clause-kept g c =
    again_kept g.S.Texts.tells c.args.graph.now c.args.records.now c.args.cone.now c.args.plan.now (g.S.Texts.world c.args.site.now) (g.S.Texts.world c.loop-place.site) c.loop-place.self.seen.items c.loop-place.self.sums.answers.dues c.loop-place.invariant.again

pub returns-clause-ruled : goal.returns-clause-ruled
returns-clause-ruled g c =
    again_end g.S.Texts.tells c.args.graph.now c.args.records.now c.args.cone.now c.args.plan.now (g.S.Texts.world c.args.site.now) (g.S.Texts.world c.loop-place.site) c.loop-place.self.seen.items c.loop-place.self.sums.answers.dues c.loop-place.invariant.again c.in_default.ensures

pub returns-clause-known : goal.returns-clause-known
returns-clause-known g c = c.loop-place.invariant.known

pub returns-clause-lacks : goal.returns-clause-lacks
returns-clause-lacks g c = c.loop-place.invariant.lacks
