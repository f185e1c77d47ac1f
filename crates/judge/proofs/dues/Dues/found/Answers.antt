use Rattle.std.proofs.Common.{ℕ, List, Bool, true, false, length, refl, ◌∙◌, ap, arith}
use Rattle.std.proofs.Math.ListN.{set}
use Rattle.std.proofs.lemmas.List.{length-set}
use Rattle.judge.proofs.NotedPlaces.{found_same, found_other}
use Rattle.judge.proofs.dues.Dues.found.Goals as goal

pub remove-requires : goal.remove-requires
remove-requires c =
    let stands = c.args.cone.now.placed c.args.edge c.requires.listed in
    omega (arith, stands.0, c.requires.room, c.place_in.ensures)

pub insert-requires : goal.insert-requires
insert-requires c = omega (arith, c.index.ensures.place, c.requires.asking)

pub note_users-requires-clause-room : goal.note_users-requires-clause-room
note_users-requires-clause-room c =
    let fits = ap (λ (l : List Bool). length l) c.remove.ensures in
    let same = length-set c.args.self.now.todo c.place_in.result false in
    omega (arith, fits, same, c.requires.room)

-- the flag is as it was
pub returns-then-has_flag : goal.returns-then-has_flag
returns-then-has_flag c =
    let old = c.args.self.now in
    let stands = c.args.cone.now.placed c.args.edge c.requires.listed in
    found_same c.args.graph.now c.args.cone.now c.args.edge c.args.is old c.remove.new.self (omega (arith, stands.0, c.requires.room)) (c.remove.ensures ∙ ap (λ (n : ℕ). set old.todo n false) c.place_in.ensures)
    (c.has_flag.ensures c.if-has_flag.true) (record { known = old.known; flags = old.flags; todo = c.remove.new.self; fresh = c.insert.new.self }) refl refl refl (c.insert.ensures ∙ ap (λ (n : ℕ). set old.fresh n true) c.index.ensures.place)

-- it has changed
pub returns : goal.returns
returns c =
    let old = c.args.self.now in
    let stands = c.args.cone.now.placed c.args.edge c.requires.listed in
    found_other c.args.graph.now c.args.cone.now c.args.edge c.args.is old c.remove.new.self (omega (arith, stands.0, c.requires.room)) (c.remove.ensures ∙ ap (λ (n : ℕ). set old.todo n false) c.place_in.ensures)
    (omega (arith, c.requires.within, c.requires.fits)) _ c.note_users.new.self refl (ap (λ (n : ℕ). set old.flags.items n c.args.is) c.index-2.ensures.place) refl (c.insert.ensures ∙ ap (λ (n : ℕ). set old.fresh n true) c.index.ensures.place) c.note_users.ensures
