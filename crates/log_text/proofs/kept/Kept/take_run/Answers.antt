use Rattle.std.proofs.Common.{[], List, ℕ, sym, subst, length}
use Rattle.log_text.specs.Taken.{AreTakenFrom}
use Rattle.log_text.proofs.Notes.{taken_within, front_taken}
use Rattle.log_text.proofs.kept.Kept.take_run.Goals as goal

pub front_before-front-requires : goal.front_before-front-requires
front_before-front-requires g c = taken_within _ c.args.bytes.now (length c.in_ok-few.few.items) c.in_ok-few.few.items c.in_ok-few.after.now c.in_ok-few.ensures.taken

pub note_run-requires : goal.note_run-requires
note_run-requires g c =
    let few = c.in_ok-few.few.items in
    let front = c.front_before-front.result.now in
    subst (λ (ns : List ℕ). AreTakenFrom c.self.inside.outputs front (length ns) ns []) (sym c.as_slice.ensures.value) (front_taken c.self.inside.outputs c.args.bytes.now (length few) few c.in_ok-few.after.now front c.in_ok-few.ensures.taken c.front_before-front.ensures)
