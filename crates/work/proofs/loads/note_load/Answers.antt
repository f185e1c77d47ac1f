use Rattle.std.proofs.Common.{◌≡◌, List, true, length, vec_len, Option, sym, ◌∙◌, subst}
use Rattle.std.proofs.lemmas.Bool.{false≢true}
use Rattle.model.specs.Graph.{has_number}
use Rattle.graph.specs.declared.back.LoadedEdge.{LoadedEdge}
use Rattle.graph.specs.declared.cone.Cone.{Cone}
use Rattle.graph.specs.LoadedEdges.{numbers_in}
use Rattle.judge.specs.KeptDues.{NotesGrown}
use Rattle.work.specs.Joined.{cone_then}
use Rattle.work.proofs.loads.note_load.Goals as goal

pub note_loaded-requires-clause-within : goal.note_loaded-requires-clause-within
note_loaded-requires-clause-within c e there = c.requires.edges e (subst (λ (l : List LoadedEdge). has_number (numbers_in l) e ≡ true) c.deref.ensures.value there)

pub note_loaded-requires-clause-sized : goal.note_loaded-requires-clause-sized
note_loaded-requires-clause-sized c = subst (λ (o : Option Cone). vec_len (cone_then c.args.kept.now o).marks ≡ length c.args.graph.now.manifest.lines) c.in-None.is c.requires.marks

pub returns-in-Some : goal.returns-in-Some
returns-in-Some c on = absurd (false≢true (sym c.forget.ensures ∙ on))

pub returns-in-None : goal.returns-in-None
returns-in-None c on =
    let was = sym c.note_loaded.ensures.known ∙ on in
    record {
      none = c.in-None.is;
      known = was;
      noted = subst (λ (l : List LoadedEdge). NotesGrown c.args.graph.now c.args.kept.now (numbers_in l) c.args.dues.now c.note_loaded.new.self) c.deref.ensures.value (c.note_loaded.ensures.noted was);
    }
