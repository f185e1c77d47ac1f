use Rattle.std.proofs.Common.{◌≡◌, ◌≤◌, ◌∙◌, ◌∷◌, [], ℕ, List, true, get_or, length, sym, subst, arith}
use Rattle.std.proofs.lemmas.List.{take_all, get_or_default}
use Rattle.model.specs.Graph.{has_number}
use Rattle.judge.specs.KeptDues.{NotesEdges}
use Rattle.judge.proofs.NotedPlaces.{notes_none, notes_more}
use Rattle.judge.proofs.NumbersAsTexts.{at_has}
use Rattle.judge.proofs.dues.Dues.note_all.Goals as goal

pub loop-edge-init : goal.loop-edge-init
loop-edge-init c = record { notes = notes_none c.args.cone.now c.args.self.now }

pub note-requires-clause-within : goal.note-requires-clause-within
note-requires-clause-within c =
    let edges = c.args.edges.now in
    let k = c.loop-edge.edge-index in
    let x = c.edge-item.result in
    let at : x ≡ get_or edges k 0 = c.edge-item.is ∙ get_or_default edges k x 0 c.loop-edge-test.true in
    c.requires.within x (subst (λ (n : ℕ). has_number edges n ≡ true) (sym at) (at_has edges k 0 c.loop-edge-test.true))

pub note-requires-clause-room : goal.note-requires-clause-room
note-requires-clause-room c = subst (λ (n : ℕ). length c.args.cone.now.order.items ≤ n) (sym {A = ℕ} c.loop-edge.invariant.notes.fits) c.requires.room

pub loop-edge-preserved : goal.loop-edge-preserved
loop-edge-preserved c = record {
  notes =
      notes_more c.args.cone.now c.args.edges.now c.loop-edge.edge-index c.edge-item.result c.loop-edge-test.true c.args.self.now c.loop-edge.self c.note.new.self c.loop-edge.invariant.notes
      (subst (λ (e : ℕ). NotesEdges c.args.cone.now (e ∷ []) c.loop-edge.self c.note.new.self) c.edge-item.is c.note.ensures);
}

pub returns : goal.returns
returns c = subst (λ (l : List ℕ). NotesEdges c.args.cone.now l c.args.self.now c.loop-edge.self) (take_all c.loop-edge.edge-index c.args.edges.now (omega arith)) c.loop-edge.invariant.notes
