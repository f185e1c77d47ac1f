use Rattle.std.proofs.Common.{◌≡◌, ◌∙◌, ◌<◌, ℕ, refl, sym, subst, arith, length, get_or, take, ◌+◌}
use Rattle.std.proofs.Math.ListN.{set}
use Rattle.std.proofs.lemmas.List.{get_or_default, length-set}
use Rattle.graph.specs.declared.side_files.Naming.{Naming}
use Rattle.graph.specs.declared.side_files.Naming.TheVariants.{More}
use Rattle.graph.specs.Namings.{AreNoted}
use Rattle.graph.proofs.Beside.{noted_next}
use Rattle.graph.proofs.side_files.note_more.Goals as goal

pub loop-path-preserved : goal.loop-path-preserved
loop-path-preserved c =
    let place = c.loop-path.path-index in
    let paths = c.args.paths.now in
    let namings = c.loop-path.namings in
    let path = c.path-item.result in
    let low : get_or paths place 0 < length c.args.namings.now = c.requires place 0 c.loop-path-test.true in
    let at : path ≡ get_or paths place 0 = c.path-item.is ∙ get_or_default paths place path 0 c.loop-path-test.true in
    let within : path < length namings = omega (arith, low, at, c.loop-path.invariant.fits) in
    let change : Naming → Naming = λ (naming : Naming). More in
    record {
      fits = length-set namings c.index.result More ∙ c.loop-path.invariant.fits;
      noted = subst (λ (n : ℕ). AreNoted change (take (place + 1) paths) c.args.namings.now (set namings n More)) (sym {A = ℕ} c.index.ensures.place)
          (noted_next change (λ x. refl) c.args.namings.now namings paths place path c.loop-path-test.true c.path-item.is within c.loop-path.invariant.noted);
    }
