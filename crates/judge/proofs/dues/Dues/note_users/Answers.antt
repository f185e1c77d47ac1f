use Rattle.std.proofs.Common.{◌≡◌, ◌≤◌, ◌∙◌, ℕ, List, true, take, get_or, length, sym, subst, arith}
use Rattle.std.proofs.lemmas.List.{take_all, get_or_default}
use Rattle.model.specs.Graph.{has_number}
use Rattle.graph.specs.Links.{links_of, users_at}
use Rattle.judge.specs.KeptDues.{NotesEdges, NotesUsers}
use Rattle.judge.proofs.NotedPlaces.{needer_within, user_needs, users_none, users_more}
use Rattle.judge.proofs.NumbersAsTexts.{at_has}
use Rattle.judge.proofs.dues.Dues.note_users.Goals as goal

pub loop-path-init : goal.loop-path-init
loop-path-init c = record { notes = users_none c.args.graph.now c.args.cone.now c.args.self.now }

pub users-requires : goal.users-requires
users-requires c =
    let outputs = c.outputs-path-items.result.now in
    let k = c.loop-path.path-index in
    let x = c.path-item.result in
    let at : x ≡ get_or outputs k 0 = c.path-item.is ∙ get_or_default outputs k x 0 c.loop-path-test.true in
    let there : has_number outputs x ≡ true = subst (λ (n : ℕ). has_number outputs n ≡ true) (sym at) (at_has outputs k 0 c.loop-path-test.true) in
    c.lists_stand.ensures.outputs_within c.args.edge x (subst (λ (l : List ℕ). has_number l x ≡ true) c.outputs-path-items.ensures there)

pub note_all-requires-clause-within : goal.note_all-requires-clause-within
note_all-requires-clause-within c e listed =
    let graph = c.args.graph.now in
    let needed = user_needs graph c.path-item.result c.users.result.now c.users.ensures.counted e listed in
    let low = needer_within graph e c.path-item.result needed in
    omega (arith, low, c.requires.sized)

pub note_all-requires-clause-room : goal.note_all-requires-clause-room
note_all-requires-clause-room c = subst (λ (n : ℕ). length c.args.cone.now.order.items ≤ n) (sym {A = ℕ} c.loop-path.invariant.notes.fits) c.requires.room

pub loop-path-preserved : goal.loop-path-preserved
loop-path-preserved c =
    let graph = c.args.graph.now in
    let cone = c.args.cone.now in
    let outputs = c.outputs-path-items.result.now in
    let k = c.loop-path.path-index in
    let x = c.path-item.result in
    record {
      notes =
          users_more graph cone outputs k x c.loop-path-test.true c.args.self.now c.loop-path.self c.note_all.new.self c.loop-path.invariant.notes
          (subst (λ (p : ℕ). NotesEdges cone (users_at graph p) c.loop-path.self c.note_all.new.self) c.path-item.is
          (subst (λ (l : List ℕ). NotesEdges cone l c.loop-path.self c.note_all.new.self) c.users.ensures.value c.note_all.ensures));
    }

pub returns : goal.returns
returns c =
    let outputs = c.outputs-path-items.result.now in
    let whole : take c.loop-path.path-index outputs ≡ (links_of c.args.graph.now).outputs c.args.edge = take_all c.loop-path.path-index outputs (omega arith) ∙ c.outputs-path-items.ensures in
    subst (λ (l : List ℕ). NotesUsers c.args.graph.now c.args.cone.now l c.args.self.now c.loop-path.self) whole c.loop-path.invariant.notes
