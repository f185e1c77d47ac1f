use Rattle.std.proofs.Common.{◌≡◌, ◌<◌, ◌≤◌, ◌++◌, [], List, ℕ, ap, ◌∙◌, sym, subst, length, arith}
use Rattle.log_text.specs.Taken.{AreTakenFrom}
use Rattle.log_text.specs.Noted.{IsRunFrom}
use Rattle.log_text.proofs.Notes.{run_read, taken_whole}
use Rattle.log_text.proofs.texts.Texts.run_at.Goals as goal

pub returns : goal.returns
returns c =
    let run = c.in_ok-run.run'.now in
    let bytes = c.args.bytes.now in
    let after = c.in_ok-after.after.now in
    let at = run_read c.self.inside.runs.items c.deref.result.now c.in_ok-place.field-0 run c.in_ok-run.ensures.lookup.3.0 c.in_ok-run.ensures.lookup.1 c.deref.ensures.value in
    let taken : AreTakenFrom c.args.self.now run.bytes (length run.numbers) run.numbers [] = subst (λ (texts : List (List ℕ)). AreTakenFrom texts run.bytes (length run.numbers) run.numbers []) c.self.view_is (c.self.invariant.1 c.in_ok-place.field-0 run at) in
    let e : bytes ≡ run.bytes ++ after = c.in_ok-after.ensures ∙ ap (λ (l : List ℕ). l ++ after) c.as_slice.ensures in
    let count = c.len-count.ensures in
    let some : 0 < length run.numbers = let t = c.if-count-eq0.false in omega arith in
    let few : length run.numbers ≤ c.args.most = let t = c.if-most-count.false in omega arith in
    subst (λ (ns : List ℕ). IsRunFrom c.args.self.now bytes c.args.most ns after) (sym c.as_slice-2.ensures)
    (record { taken = taken_whole c.args.self.now run.bytes (length run.numbers) run.numbers bytes after taken e; some = some; few = few })
