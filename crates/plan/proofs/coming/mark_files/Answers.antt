use Rattle.std.proofs.Common.{◌≡◌, ◌∙◌, ℕ, List, Bool, ap, get_or, length, refl, subst, true}
use Rattle.std.proofs.Math.ListN.{set}
use Rattle.std.proofs.lemmas.List.{get_or_default, length-set}
use Rattle.plan.specs.Coming.{AreMarked}
use Rattle.plan.proofs.FilesThere.{all_taken, marked_none, marked_next}
use Rattle.plan.proofs.coming.mark_files.Goals as goal

pub loop-file-init : goal.loop-file-init
loop-file-init c = record { fits = refl; marked = marked_none (length c.args.flags.now) c.args.flags.now }

pub loop-file-preserved : goal.loop-file-preserved
loop-file-preserved c =
    let loads = c.args.loads.now in
    let place = c.loop-file.file-index in
    let x = c.file-item.result in
    let old = c.loop-file.flags in
    let at : x ≡ get_or loads place 0 = c.file-item.is ∙ get_or_default loads place x 0 c.loop-file-test.true in
    let put : c.mark.new.flags ≡ set old x true = c.mark.ensures ∙ ap (λ (n : ℕ). set old n true) c.index.ensures.place in
    record {
      fits = ap (λ (l : List Bool). length l) put ∙ (length-set old x true ∙ c.loop-file.invariant.fits);
      marked = marked_next (length c.args.flags.now) place x loads old c.mark.new.flags c.loop-file-test.true at c.loop-file.invariant.fits put c.loop-file.invariant.marked;
    }

pub returns-clause-marked : goal.returns-clause-marked
returns-clause-marked c = subst (λ (l : List ℕ). AreMarked (length c.args.flags.now) l c.loop-file.flags) (all_taken c.args.loads.now c.loop-file.file-index c.loop-file-test.false) c.loop-file.invariant.marked
