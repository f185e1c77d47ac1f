use Rattle.std.proofs.Common.{◌≡◌, ℕ, true, false, refl, ◌∙◌, sym, ap, arith, rules}
use Rattle.std.proofs.Math.ListN.{set}
use Rattle.model.specs.Graph.{has_number}
use Rattle.graph.specs.Cone.{mark_at, is_listed}
use Rattle.judge.proofs.NotedPlaces.{notes_one, notes_outside}
use Rattle.judge.proofs.dues.Dues.note.Goals as goal

pub insert-requires : goal.insert-requires
insert-requires c =
    let cone = c.args.cone.now in
    let mark : is_listed (mark_at cone.marks.items c.args.edge) ≡ true = search rules in
    let stands = cone.placed c.args.edge (sym (c.requires.marks c.args.edge) ∙ mark) in
    omega (arith, stands.0, c.requires.room, c.place_in.ensures)

pub returns-then-has : goal.returns-then-has
returns-then-has c =
    let cone = c.args.cone.now in
    let old = c.args.self.now in
    let mark : is_listed (mark_at cone.marks.items c.args.edge) ≡ true = search rules in
    let listed : has_number cone.order.items c.args.edge ≡ true = sym (c.requires.marks c.args.edge) ∙ mark in
    let stands = cone.placed c.args.edge listed in
    notes_one cone c.args.edge listed old (record { known = old.known; flags = old.flags; todo = c.insert.new.self; fresh = old.fresh }) (omega (arith, stands.0, c.requires.room)) refl refl refl
    (c.insert.ensures ∙ ap (λ (n : ℕ). set old.todo n true) c.place_in.ensures)

pub returns-else-has : goal.returns-else-has
returns-else-has c =
    let mark : is_listed (mark_at c.args.cone.now.marks.items c.args.edge) ≡ false = search rules in
    notes_outside c.args.cone.now c.requires.marks c.args.edge mark c.args.self.now
