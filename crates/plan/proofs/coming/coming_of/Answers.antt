use Rattle.std.proofs.Common.{◌≡◌, ◌∙◌, ◌++◌, ℕ, List, Bool, false, ap, drop, length, subst, sym, take, arith}
use Rattle.std.proofs.Math.Seq.{take-append_seam}
use Rattle.plan.specs.Coming.{AreMarked}
use Rattle.plan.proofs.FilesThere.{empty_comes}
use Rattle.plan.proofs.coming.coming_of.Goals as goal

pub returns-then-is_empty : goal.returns-then-is_empty
returns-then-is_empty c = empty_comes c.args.loads.now c.args.there.now c.new.result.items false (sym c.is_empty.ensures ∙ c.if-is_empty.true)

pub returns : goal.returns
returns c =
    let loads = c.args.loads.now in
    let there = c.args.there.now in
    let files = c.in_ok-files.files in
    let now = c.mark_files.new.flags in
    let held = ap (λ (l : List Bool). length l) c.deref_mut.ensures.value in
    let size : length now ≡ length files.items = c.mark_files.ensures.fits ∙ held in
    let long : files.len ≡ length now = omega (arith, files.ok.0, size) in
    let whole : take files.len (now ++ drop (length now) files.items) ≡ now = ap (λ (n : ℕ). take n (now ++ drop (length now) files.items)) long ∙ take-append_seam now (drop (length now) files.items) in
    let count : length c.deref_mut.result.now ≡ length there = omega (arith, held, files.ok.0, c.in_ok-files.ensures.len) in
    record {
      marked = subst (AreMarked (length there) loads) (sym {A = List Bool} whole) (subst (λ (n : ℕ). AreMarked n loads now) count c.mark_files.ensures.marked);
      none = c.is_any_there.ensures;
    }
