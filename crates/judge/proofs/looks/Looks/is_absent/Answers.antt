use Rattle.std.proofs.Common.{◌≡◌, ◌∙◌, rules}
use Rattle.std.specs.Option.{is_none}
use Rattle.paths.specs.Told.{text_at}
use Rattle.judge.proofs.AskedAny.{absent_noted}
use Rattle.judge.proofs.FilesStay.{absent_still}
use Rattle.judge.proofs.looks.Looks.is_absent.Goals as goal

pub returns-clause-absent : goal.returns-clause-absent
returns-clause-absent g c told set kept seen files same fit =
    let is : c.is_none.result ≡ is_none c.in_ok-stamp.stamp = search rules in
    is
    ∙ absent_still g.S.Texts.tells c.args.graph.now (g.S.Texts.world c.args.site.now) (g.S.Texts.world c.stamp_of.new.site) c.args.self.now (text_at c.args.graph.now.manifest.paths c.args.path) c.in_ok-stamp.stamp c.in_ok-stamp.ensures.stamp told set kept seen files same fit

pub returns-clause-seen : goal.returns-clause-seen
returns-clause-seen g c =
    let is : c.is_none.result ≡ is_none c.in_ok-stamp.stamp = search rules in
    absent_noted c.stamp_of.new.self.seen.items c.args.path c.in_ok-stamp.stamp c.is_none.result is c.in_ok-stamp.ensures.seen
