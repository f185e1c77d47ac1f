use Rattle.std.proofs.Common.{◌∙◌, refl, sym, ap, subst, length, string_bytes}
use Rattle.std.proofs.Math.ListN.{length-map}
use Rattle.paths.specs.Numbers.{HaveOnePlace}
use Rattle.paths.proofs.Places.{added_known, added_new, inserted, kept_once, numbered}
use Rattle.paths.proofs.table.Paths.add.Goals as goal

pub returns-in-Some-clause-added : goal.returns-in-Some-clause-added
returns-in-Some-clause-added c = added_known c.args.self.now c.args.path.now c.in-Some.number c.in-Some.ensures.place

pub invariant_of-self-2 : goal.invariant_of-self-2
invariant_of-self-2 c =
    let view = c.self.view_is in
    let grown = inserted c.self.inside.texts.keys c.insert.new.self.keys _ c.args.self.now _ c.args.path.now view refl c.in_default.ensures.place c.in_ok-from_str.ensures.ok c.in_ok-insert.ensures.keys in
    let count = c.len.ensures.len ∙ (sym (length-map c.self.inside.texts.keys string_bytes) ∙ ap length view) in
    let at = numbered c.len.result c.in-Some-at.number c.at.result c.at.ensures c.in-Some-at.is in
    kept_once c.args.self.now _ c.args.path.now c.len.result (subst HaveOnePlace view c.self.invariant.0) c.in_default.ensures.place grown count at.1

pub returns-clause-added : goal.returns-clause-added
returns-clause-added c =
    let view = c.self.view_is in
    let grown = inserted c.self.inside.texts.keys c.insert.new.self.keys _ c.args.self.now _ c.args.path.now view refl c.in_default.ensures.place c.in_ok-from_str.ensures.ok c.in_ok-insert.ensures.keys in
    let count = c.len.ensures.len ∙ (sym (length-map c.self.inside.texts.keys string_bytes) ∙ ap length view) in
    let at = numbered c.len.result c.in-Some-at.number c.at.result c.at.ensures c.in-Some-at.is in
    added_new c.args.self.now _ c.args.path.now c.in-Some-at.number c.in_default.ensures.place grown (at.0 ∙ count)
