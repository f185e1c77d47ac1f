use Rattle.judge.proofs.Answered.{depfile_then, reason_found}
use Rattle.judge.proofs.LooksStay.{looked_then}
use Rattle.judge.proofs.Taking.{looked_still}
use Rattle.judge.proofs.looks.Looks.reason.Goals as goal

pub returns-in_err-depfile-clause-looked : goal.returns-in_err-depfile-clause-looked
returns-in_err-depfile-clause-looked g c =
    looked_still g.S.Texts.tells c.args.graph.now (g.S.Texts.world c.args.site.now) (g.S.Texts.world c.depfile_of.new.site) c.args.self.now
    (c.looks_follow.ensures.stay g.S.Texts.tells (g.S.Texts.world c.args.site.now) (g.S.Texts.world c.depfile_of.new.site)) c.depfile_of.ensures.looks

pub returns-in_err-reason-clause-looked : goal.returns-in_err-reason-clause-looked
returns-in_err-reason-clause-looked g c =
    let tells = g.S.Texts.tells in
    let a = g.S.Texts.world c.args.site.now in
    let h = g.S.Texts.world c.depfile_of.new.site in
    looked_then tells c.args.graph.now a h (g.S.Texts.world c.reason_by.new.site) c.args.self.now c.args.self.now c.reason_by.new.self
    (looked_still tells c.args.graph.now a h c.args.self.now (c.looks_follow.ensures.stay tells a h) c.depfile_of.ensures.looks) c.reason_by.ensures.looked

pub returns-clause-looked : goal.returns-clause-looked
returns-clause-looked g c =
    let tells = g.S.Texts.tells in
    let a = g.S.Texts.world c.args.site.now in
    let h = g.S.Texts.world c.depfile_of.new.site in
    looked_then tells c.args.graph.now a h (g.S.Texts.world c.reason_by.new.site) c.args.self.now c.args.self.now c.reason_by.new.self
    (looked_still tells c.args.graph.now a h c.args.self.now (c.looks_follow.ensures.stay tells a h) c.depfile_of.ensures.looks) c.reason_by.ensures.looked

pub returns-clause-reason : goal.returns-clause-reason
returns-clause-reason g c =
    let tells = g.S.Texts.tells in
    let graph = c.args.graph.now in
    let a = g.S.Texts.world c.args.site.now in
    let h = g.S.Texts.world c.depfile_of.new.site in
    let d = g.S.Texts.world c.reason_by.new.site in
    let looked = looked_then tells graph a h d c.args.self.now c.args.self.now c.reason_by.new.self
    (looked_still tells graph a h c.args.self.now (c.looks_follow.ensures.stay tells a h) c.depfile_of.ensures.looks) c.reason_by.ensures.looked in
    reason_found tells graph c.lists_stand.ensures c.args.records.now c.args.changed.now c.args.edge c.in_ok-depfile.depfile c.in_ok-reason.reason a d c.args.self.now c.reason_by.new.self looked
    (depfile_then c.looks_follow.ensures.follow c.looks_follow.ensures.stay tells graph c.args.edge c.in_ok-depfile.depfile a h d c.args.self.now c.depfile_of.ensures.looks c.reason_by.ensures.looked.looks c.in_ok-depfile.ensures.there)
    c.in_ok-reason.ensures.reason
