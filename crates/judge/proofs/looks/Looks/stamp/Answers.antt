use Rattle.std.proofs.Common.{ℕ, List, sym, subst, arith}
use Rattle.judge.specs.declared.looks.Look.{Look}
use Rattle.judge.specs.Seen.{AreSeenOf, IsStampIn}
use Rattle.std.specs.Prelude.{slice_set}
use Rattle.judge.proofs.Kept.{seen_kept, seen_more, stamp_kept}
use Rattle.judge.proofs.looks.Looks.stamp.Goals as goal

pub returns-in_err-stamp-in-Unasked-clause-kept : goal.returns-in_err-stamp-in-Unasked-clause-kept
returns-in_err-stamp-in-Unasked-clause-kept g c told set kept are =
    let call = c.stat.ensures.looks.history told in
    seen_kept set (g.S.Texts.world c.args.site.now).history (g.S.Texts.world c.stat.new.self).history call.more call.grows kept c.args.graph.now.manifest.paths c.args.self.now.seen.items are

pub returns-in_ok-stamp-in-Unasked-clause-stamp : goal.returns-in_ok-stamp-in-Unasked-clause-stamp
returns-in_ok-stamp-in-Unasked-clause-stamp g c told set kept are =
    subst (λ (path : List ℕ). IsStampIn path c.in_ok-stamp-in-Unasked.stamp set (g.S.Texts.world c.stat.new.self).history) c.text.ensures
    (stamp_kept set c.text.result.now c.in_ok-stamp-in-Unasked.stamp (g.S.Texts.world c.args.site.now).history (g.S.Texts.world c.stat.new.self).history (c.in_ok-stamp-in-Unasked.ensures.stamp told) kept)

pub returns-in_ok-stamp-in-Unasked-clause-kept : goal.returns-in_ok-stamp-in-Unasked-clause-kept
returns-in_ok-stamp-in-Unasked-clause-kept g c told set kept are =
    let call = c.stat.ensures.looks.history told in
    let paths = c.args.graph.now.manifest.paths in
    let seen = c.args.self.now.seen.items in
    let files = (g.S.Texts.world c.stat.new.self).history in
    subst (λ (p : ℕ). AreSeenOf set paths files (slice_set seen p c.look_of.result)) (sym {A = ℕ} c.index-place.ensures.place)
    (subst (λ (look : Look). AreSeenOf set paths files (slice_set seen c.args.path look)) (sym {A = Look} c.look_of.ensures)
    (seen_more set paths files seen c.args.path c.in_ok-stamp-in-Unasked.stamp (omega (arith, c.requires.within, c.requires.fits))
    (seen_kept set (g.S.Texts.world c.args.site.now).history files call.more call.grows kept paths seen are)
    (subst (λ (path : List ℕ). IsStampIn path c.in_ok-stamp-in-Unasked.stamp set files) c.text.ensures
    (stamp_kept set c.text.result.now c.in_ok-stamp-in-Unasked.stamp (g.S.Texts.world c.args.site.now).history files (c.in_ok-stamp-in-Unasked.ensures.stamp told) kept))))
