-- What a run knows of commands that were not judged, and of due edges.
use Rattle.std.specs.Prelude.{◌≡◌, ℕ, Bool, true, List, Vec, Option, None, Result, IfOk}
use Rattle.std.specs.declared.alloc.Global.{Global}
use Rattle.graph.specs.declared.cone.Cone.{Cone}
use Rattle.graph.specs.declared.graph.Graph.{Graph}
use Rattle.judge.specs.declared.dues.Dues.{Dues}
use Rattle.judge.specs.Answers.{KnowsRight, KnowsOthers, HasGrownBy}
use Rattle.judge.specs.KeptDues.{HasPlaces, KeepsDues, NotesGrown}
use Rattle.work.specs.declared.state.Work.{Work}

-- what was found of commands is right by what the run has seen so far, and so are flags that are kept
pub record AreAnswersOf (state : Work) : Type 0 where
  pub known : KnowsRight state.graph state.records state.looks
  pub kept : KeepsDues state.graph state.records state.cone state.plan state.looks

-- where flags are kept the marks of the cone say which edges are listed, and there is room for their places
abbrev pub HasRoomToNote : Work → Type 0
HasRoomToNote state = state.looks.sums.answers.dues.known ≡ true → HasPlaces state.cone state.looks.sums.answers.dues

-- Where flags are kept, they were before, of the same cone, and what a load of these edges changes is noted.
pub record NotesLoad (edges : List ℕ) (old new : Work) : Type 0 where
  pub cone : new.cone ≡ old.cone
  pub known : old.looks.sums.answers.dues.known ≡ true
  pub noted : NotesGrown new.graph old.cone edges old.looks.sums.answers.dues new.looks.sums.answers.dues

abbrev pub NotesIfKept : List ℕ → Work → Work → Type 0
NotesIfKept edges old new = new.looks.sums.answers.dues.known ≡ true → NotesLoad edges old new

-- Where flags are kept, no other cone was made, they were kept before, and what a load of these edges changes is noted.
pub record NotesStill (graph : Graph) (cone : Cone) (made : Option Cone) (edges : List ℕ) (old new : Dues) : Type 0 where
  pub none : made ≡ None
  pub known : old.known ≡ true
  pub noted : NotesGrown graph cone edges old new

abbrev pub NotesGrownIf : Graph → Cone → Option Cone → List ℕ → Dues → Dues → Type 0
NotesGrownIf graph cone made edges old new = new.known ≡ true → NotesStill graph cone made edges old new

abbrev pub NotesIfStill : Option Cone → List ℕ → Work → Work → Type 0
NotesIfStill made edges old new = NotesGrownIf old.graph old.cone made edges old.looks.sums.answers.dues new.looks.sums.answers.dues

-- The graph has got what a dyndep file says. What was found of edges that named it is forgotten, and of no others; what flags change by that
-- is noted.
pub record ForgetsGrown (old new : Work) : Type 0 where
  pub edges : List ℕ
  pub grown : HasGrownBy edges old.graph new.graph
  pub forgets : KnowsOthers edges old.looks.sums.answers new.looks.sums.answers
  pub notes : NotesIfKept edges old new

-- the flags that are answered are those that are kept, if any are
abbrev pub AnswersKept : {E : Type 0} → Work → Result (Vec Bool Global) E → Type 0
AnswersKept after result = IfOk result (λ due. after.looks.sums.answers.dues.known ≡ true → after.looks.sums.answers.dues.flags.items ≡ due.items)

-- each edge that is due by the flags that are kept has the flag that counts, and no other has one
abbrev pub HasKeptFlags : Work → Type 0
HasKeptFlags state = state.looks.sums.answers.dues.known ≡ true → state.looks.sums.answers.dues.flags.items ≡ state.due.items

-- flags that are kept, and count, are right still
abbrev pub StaysKept : Work → Work → Type 0
StaysKept old new = HasKeptFlags old → AreAnswersOf old → AreAnswersOf new
