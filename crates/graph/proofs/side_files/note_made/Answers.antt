use Rattle.std.proofs.Common.{◌≡◌, ◌∙◌, ◌<◌, ℕ, ap, sym, subst, arith, length, get_or, take, ◌+◌}
use Rattle.std.proofs.Math.ListN.{set}
use Rattle.std.proofs.lemmas.List.{get_or_default, length-set}
use Rattle.graph.specs.declared.side_files.Naming.{Naming}
use Rattle.graph.specs.Namings.{naming_in, made_too, AreNoted}
use Rattle.graph.proofs.Beside.{noted_next, twice_made}
use Rattle.graph.proofs.side_files.note_made.Goals as goal

pub naming_at-requires : goal.naming_at-requires
naming_at-requires c =
    let place = c.loop-output.output-index in
    let low : get_or c.args.outputs.now place 0 < length c.args.namings.now = c.requires place 0 c.loop-output-test.true in
    let at : c.output-item.result ≡ get_or c.args.outputs.now place 0 = c.output-item.is ∙ get_or_default c.args.outputs.now place c.output-item.result 0 c.loop-output-test.true in
    omega (arith, low, at, c.loop-output.invariant.fits)

pub loop-output-preserved : goal.loop-output-preserved
loop-output-preserved c =
    let place = c.loop-output.output-index in
    let outputs = c.args.outputs.now in
    let namings = c.loop-output.namings in
    let path = c.output-item.result in
    let low : get_or outputs place 0 < length c.args.namings.now = c.requires place 0 c.loop-output-test.true in
    let at : path ≡ get_or outputs place 0 = c.output-item.is ∙ get_or_default outputs place path 0 c.loop-output-test.true in
    let within : path < length namings = omega (arith, low, at, c.loop-output.invariant.fits) in
    let change : Naming → Naming = made_too c.args.edge in
    let value : c.made_too-changed.result ≡ change (naming_in namings path) = c.made_too-changed.ensures ∙ ap change c.naming_at.ensures in
    record {
      fits = length-set namings c.index.result c.made_too-changed.result ∙ c.loop-output.invariant.fits;
      noted = subst (λ (n : ℕ). AreNoted change (take (place + 1) outputs) c.args.namings.now (set namings n c.made_too-changed.result)) (sym {A = ℕ} c.index.ensures.place)
          (subst (λ (v : Naming). AreNoted change (take (place + 1) outputs) c.args.namings.now (set namings path v)) (sym {A = Naming} value)
          (noted_next change (twice_made c.args.edge) c.args.namings.now namings outputs place path c.loop-output-test.true c.output-item.is within c.loop-output.invariant.noted));
    }
