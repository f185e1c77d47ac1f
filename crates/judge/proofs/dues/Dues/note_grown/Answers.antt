use Rattle.std.proofs.Common.{◌≡◌, ◌≤◌, ◌∙◌, ◌∷◌, [], ℕ, List, true, length, sym, subst, arith}
use Rattle.std.proofs.lemmas.List.{take_all}
use Rattle.model.specs.Graph.{has_number}
use Rattle.graph.specs.declared.back.LoadedEdge.{LoadedEdge}
use Rattle.graph.specs.Links.{links_of}
use Rattle.graph.specs.LoadedEdges.{numbers_in}
use Rattle.judge.specs.KeptDues.{NotesEdges, NotesUsers, NotesGrown}
use Rattle.judge.proofs.NotedPlaces.{grown_none, grown_next, numbers_has}
use Rattle.judge.proofs.dues.Dues.note_grown.Goals as goal

pub loop-loaded-init : goal.loop-loaded-init
loop-loaded-init c = record { notes = grown_none c.args.graph.now c.args.cone.now c.args.self.now }

pub note-requires-clause-within : goal.note-requires-clause-within
note-requires-clause-within c =
    let edges = c.args.edges.now in
    let k = c.loop-loaded.loaded-index in
    let x = c.loaded-item.result in
    let low = c.requires.within x.edge (subst (λ (l : LoadedEdge). has_number (numbers_in edges) l.edge ≡ true) (sym {A = LoadedEdge} c.loaded-item.is) (numbers_has edges k x c.loop-loaded-test.true)) in
    omega (arith, low, c.requires.sized)

pub note-requires-clause-marks : goal.note-requires-clause-marks
note-requires-clause-marks c = c.requires.places.marks

pub note-requires-clause-room : goal.note-requires-clause-room
note-requires-clause-room c = subst (λ (n : ℕ). length c.args.cone.now.order.items ≤ n) (sym {A = ℕ} c.loop-loaded.invariant.notes.fits) c.requires.places.room

pub note_users-requires-clause-within : goal.note_users-requires-clause-within
note_users-requires-clause-within c =
    let edges = c.args.edges.now in
    let k = c.loop-loaded.loaded-index in
    let x = c.loaded-item.result in
    c.requires.within x.edge (subst (λ (l : LoadedEdge). has_number (numbers_in edges) l.edge ≡ true) (sym {A = LoadedEdge} c.loaded-item.is) (numbers_has edges k x c.loop-loaded-test.true))

pub note_users-requires-clause-marks : goal.note_users-requires-clause-marks
note_users-requires-clause-marks c = c.requires.places.marks

pub note_users-requires-clause-room : goal.note_users-requires-clause-room
note_users-requires-clause-room c = subst (λ (n : ℕ). length c.args.cone.now.order.items ≤ n) (sym {A = ℕ} (c.note.ensures.fits ∙ c.loop-loaded.invariant.notes.fits)) c.requires.places.room

pub loop-loaded-preserved : goal.loop-loaded-preserved
loop-loaded-preserved c =
    let graph = c.args.graph.now in
    let cone = c.args.cone.now in
    let edges = c.args.edges.now in
    let k = c.loop-loaded.loaded-index in
    let x = c.loaded-item.result in
    record {
      notes =
          grown_next graph cone edges k x c.loop-loaded-test.true c.args.self.now c.loop-loaded.self c.note.new.self c.note_users.new.self c.loop-loaded.invariant.notes
          (subst (λ (l : LoadedEdge). NotesEdges cone (l.edge ∷ []) c.loop-loaded.self c.note.new.self) c.loaded-item.is c.note.ensures)
          (subst (λ (l : LoadedEdge). NotesUsers graph cone ((links_of graph).outputs l.edge) c.note.new.self c.note_users.new.self) c.loaded-item.is c.note_users.ensures);
    }

pub returns : goal.returns
returns c =
    subst (λ (l : List LoadedEdge). NotesGrown c.args.graph.now c.args.cone.now (numbers_in l) c.args.self.now c.loop-loaded.self) (take_all c.loop-loaded.loaded-index c.args.edges.now (omega arith)) c.loop-loaded.invariant.notes
