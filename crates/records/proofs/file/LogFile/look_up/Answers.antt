use Rattle.std.proofs.Common.{◌≡◌, ◌∙◌, ℕ, sym, subst, ap}
use Rattle.records.specs.Held.{Held}
use Rattle.records.proofs.Places.{all_placed, none_placed, longer_none}
use Rattle.records.proofs.file.LogFile.look_up.Goals as goal

pub returns-then-records-eq0-clause-longer : goal.returns-then-records-eq0-clause-longer
returns-then-records-eq0-clause-longer g c = longer_none c.args.places.now.items

pub returns-then-records-eq0-clause-made : goal.returns-then-records-eq0-clause-made
returns-then-records-eq0-clause-made g c rs paths more grows fits keeps are =
    let k = g.L.Records in
    none_placed k.told k.in_force rs paths more c.args.graph.now.manifest.paths grows c.args.places.now.items fits are c.keeps_in_force.ensures.nothing
    (sym (c.records.ensures rs (subst (k.Keeps rs) (ap (λ (h : Held _). h.log) (sym c.self.view_is)) keeps)) ∙ c.if-records-eq0.true)

pub returns-clause-made : goal.returns-clause-made
returns-clause-made g c rs paths more grows fits keeps are =
    let k = g.L.Records in
    all_placed k.told k.in_force rs paths more c.args.graph.now.manifest.paths grows c.args.places.now.items fits are c.look_up_each.new.places.items c.look_up_each.ensures.longer (c.in_ok-look_up_each.ensures.made rs keeps)
