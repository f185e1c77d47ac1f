use Rattle.std.proofs.Common.{inl, ℕ, List, subst, ap, ◌∙◌}
use Rattle.model.specs.Calls.{Appends, AppendsOrNot}
use Rattle.theory.specs.Writes.{WritesAt}
use Rattle.theory.proofs.Writing.{then_at, appends_at, appends_or_not_at}
use Rattle.records.specs.Held.{Held}
use Rattle.records.proofs.Results.{on_err}
use Rattle.records.proofs.Appending.{append_ok, append_more, append_err}
use Rattle.records.proofs.file.LogFile.append.Goals as goal

pub returns-in_err-make_usable-clause-err : goal.returns-in_err-make_usable-clause-err
returns-in_err-make_usable-clause-err g c = on_err c.from_residual.result (λ own edges first r is_line l tell kept. inl (c.make_usable.ensures.anew own edges first l tell kept))

pub returns-in_err-append-clause-writes : goal.returns-in_err-append-clause-writes
returns-in_err-append-clause-writes g c =
    let tells = g.S.Texts.tells in
    let old = g.S.Texts.world c.args.site.now in
    let mid = g.S.Texts.world c.make_usable.new.site in
    let new = g.S.Texts.world c.append.new.self in
    let was = c.in_ok-make_usable.ensures in
    then_at tells c.args.self.now.path old mid new was.writes (subst (λ (p : List ℕ). WritesAt tells p mid new) (c.as_str.ensures.value ∙ (ap (λ (h : Held _). h.path) c.self.view_is ∙ was.same.path))
    (appends_or_not_at tells c.as_str.result.now c.args.line.now mid new c.in_err-append.ensures.err))

pub returns-in_err-append-clause-err : goal.returns-in_err-append-clause-err
returns-in_err-append-clause-err g c = on_err c.from_residual-in_err-append.result (λ own edges first r is_line l.
    let tells = g.S.Texts.tells in
    let old = g.S.Texts.world c.args.site.now in
    let mid = g.S.Texts.world c.make_usable.new.site in
    let new = g.S.Texts.world c.append.new.self in
    let was = c.in_ok-make_usable.ensures in
    let t = g.L.Records in
    append_err t.forms t.Keeps t.in_force tells own edges first old mid new c.args.self.now c.make_usable.new.self was.same was.usable (was.carried own edges first l) (was.anew own edges first l)
    c.one_reading.ensures c.line_grows_log.ensures c.front_of_lines.ensures r c.args.line.now is_line
    (subst (λ (p : List ℕ). AppendsOrNot tells p c.args.line.now mid new) (c.as_str.ensures.value ∙ ap (λ (h : Held _). h.path) c.self.view_is) c.in_err-append.ensures.err))

pub returns-clause-writes : goal.returns-clause-writes
returns-clause-writes g c =
    let tells = g.S.Texts.tells in
    let old = g.S.Texts.world c.args.site.now in
    let mid = g.S.Texts.world c.make_usable.new.site in
    let new = g.S.Texts.world c.append.new.self in
    let was = c.in_ok-make_usable.ensures in
    then_at tells c.args.self.now.path old mid new was.writes (subst (λ (p : List ℕ). WritesAt tells p mid new) (c.as_str.ensures.value ∙ (ap (λ (h : Held _). h.path) c.self.view_is ∙ was.same.path))
    (appends_at tells c.as_str.result.now c.args.line.now mid new c.in_ok-append.ensures.appends))

pub returns-clause-carried : goal.returns-clause-carried
returns-clause-carried g c own edges first r is_line l =
    let tells = g.S.Texts.tells in
    let old = g.S.Texts.world c.args.site.now in
    let mid = g.S.Texts.world c.make_usable.new.site in
    let new = g.S.Texts.world c.append.new.self in
    let was = c.in_ok-make_usable.ensures in
    let t = g.L.Records in
    append_ok t.forms t.Keeps t.in_force tells own edges first old mid new c.args.self.now c.make_usable.new.self was.same was.usable (was.carried own edges first l) (was.anew own edges first l)
    c.one_reading.ensures c.line_grows_log.ensures c.front_of_lines.ensures r c.args.line.now is_line
    (subst (λ (p : List ℕ). Appends tells p c.args.line.now mid new) (c.as_str.ensures.value ∙ ap (λ (h : Held _). h.path) c.self.view_is) c.in_ok-append.ensures.appends)

pub returns-clause-ok : goal.returns-clause-ok
returns-clause-ok g c own edges first r is_line l =
    let tells = g.S.Texts.tells in
    let old = g.S.Texts.world c.args.site.now in
    let mid = g.S.Texts.world c.make_usable.new.site in
    let new = g.S.Texts.world c.append.new.self in
    let was = c.in_ok-make_usable.ensures in
    let t = g.L.Records in
    append_more t.forms t.Keeps t.in_force tells own edges first old mid new c.args.self.now c.make_usable.new.self was.same was.usable (was.carried own edges first l) (was.anew own edges first l)
    c.one_reading.ensures c.line_grows_log.ensures c.front_of_lines.ensures r c.args.line.now is_line
    (subst (λ (p : List ℕ). Appends tells p c.args.line.now mid new) (c.as_str.ensures.value ∙ ap (λ (h : Held _). h.path) c.self.view_is) c.in_ok-append.ensures.appends)
