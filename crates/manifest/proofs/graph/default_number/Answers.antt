use Rattle.std.proofs.Common.{◌≡◌, ◌<◌, ◌≤◌, true, false, length, refl, sym, ◌∙◌, ap, arith}
use Rattle.std.proofs.lemmas.Bool.{false≢true}
use Rattle.model.specs.Graph.{has}
use Rattle.manifest.specs.declared.fault.FaultKind.TheVariants.{UnknownDefault}
use Rattle.manifest.specs.Readings.Outcome.{Reached}
use Rattle.manifest.proofs.Added.{at_is}
use Rattle.manifest.proofs.Binds.{unless_ok, unless_at}
use Rattle.manifest.proofs.DefaultsAll.{known_path, unknown_path, absent_path}
use Rattle.manifest.proofs.EdgeLists.{at_place}
use Rattle.manifest.proofs.graph.default_number.Goals as goal
use Rattle.manifest.proofs.graph.default_number.Goals.{in-Some+else-index-named, in_default}

pub returns-then-index-named-clause-said : goal.returns-then-index-named-clause-said
returns-then-index-named-clause-said c = λ known paths said longer count keys is.
    let low : c.in-Some.number < length known = let e = c.index.ensures.place in let h = c.if-index-named.true in omega arith in
    let there : has known c.as_str.result.now ≡ true = known_path known c.args.table.now c.as_str.result.now c.in-Some.number longer c.in-Some.ensures.place low in
    let kept : has paths said.path ≡ true = ap (has paths) (sym (c.as_str.ensures ∙ is.path)) ∙ (sym (keys.same c.as_str.result.now) ∙ there) in
    unless_ok _ _ _ (Reached tt) (λ absent. false≢true (sym absent ∙ kept)) refl

pub returns-then-index-named-clause-text : goal.returns-then-index-named-clause-text
returns-then-index-named-clause-text c = (at_is c.args.table.now c.in-Some.number c.as_str.result.now c.in-Some.ensures.place).1 ∙ c.as_str.ensures

pub returns-clause-said : goal.returns-clause-said
returns-clause-said c = λ known paths said longer count keys is.
    let missing : has known c.as_str.result.now ≡ false = elim c.match-number_of.branch [
      | in-Some+else-index-named w ↦
          let high : length known ≤ w.in-Some.number = let e = w.index.ensures.place in let h = w.if-index-named.false in omega arith in
          unknown_path known c.args.table.now c.as_str.result.now w.in-Some.number c.number_of.ensures.once longer w.in-Some.ensures.place high
      | in_default w ↦ absent_path known c.args.table.now c.as_str.result.now longer (rw w.in_default.is at c.number_of.ensures.place)
    ] in
    let absent : has paths said.path ≡ false = ap (has paths) (sym (c.as_str.ensures ∙ is.path)) ∙ (sym (keys.same c.as_str.result.now) ∙ missing) in
    unless_at _ _ said.place (UnknownDefault said.path) c.fault.result absent
    (at_place _ said.place _ (UnknownDefault said.path) c.fault.result is.file is.line
    (ap UnknownDefault (c.in_ok-from_str.ensures ∙ (c.as_str-2.ensures ∙ is.path))) c.fault.ensures)
