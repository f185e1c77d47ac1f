use Rattle.std.proofs.Common.{◌≡◌, ◌∙◌, List, Bool, true, false, length, ap, subst, arith}
use Rattle.std.proofs.lemmas.List.{with_items_is}
use Rattle.plan.specs.Loads.{HavePushed}
use Rattle.plan.proofs.Loaded.{loads_are, loads_none}
use Rattle.plan.proofs.loads.loads_of.Goals as goal

pub returns-then-not-names_any : goal.returns-then-not-names_any
returns-then-not-names_any c = loads_none c.args.graph.now c.args.standings.now c.new.result.items c.new.ensures.items (c.names_any.ensures c.if-not-names_any.true)

pub returns : goal.returns
returns c =
    let graph = c.args.graph.now in
    let wanted = c.in_ok-wanted.wanted in
    let left = c.push_wanted.new.wanted in
    let none = c.new-loads.result.items in
    let sources = c.push_wanted.new.loads.items in
    let loads = c.push_wanted-2.new.loads.items in
    let size : length left ≡ wanted.len = omega (arith, c.push_wanted.ensures.length, ap (λ (l : List Bool). length l) c.deref_mut.ensures.value, wanted.ok.0) in
    loads_are graph c.args.standings.now wanted.items left c.push_wanted-2.new.wanted none sources loads c.in_ok-wanted.ensures c.new-loads.ensures.items
    (subst (λ (fs : List Bool). HavePushed graph false fs left none sources) c.deref_mut.ensures.value c.in_ok-push_wanted.ensures.pushed)
    (subst (λ (fs : List Bool). HavePushed graph true fs c.push_wanted-2.new.wanted sources loads) (c.deref_mut-2.ensures.value ∙ with_items_is wanted left size) c.in_ok-push_wanted-2.ensures.pushed)
