use Rattle.std.proofs.Common.{◌≡◌, ◌∙◌, ℕ, true, get_or, length, refl, ap, arith}
use Rattle.std.proofs.Math.ListN.{set}
use Rattle.plan.proofs.Arriving.{read_number, come_next, all_come}
use Rattle.plan.proofs.Noting.{listed_at}
use Rattle.plan.proofs.plan.note_all.Goals as goal

pub bounds-flags-place : goal.bounds-flags-place
bounds-flags-place c =
    let paths = c.args.paths.now in
    let k = c.loop-path.path-index in
    let item : c.path-item.result ≡ get_or paths k 0 = read_number paths k c.path-item.result c.path-item.result refl c.path-item.is c.loop-path-test.true in
    let lt = c.requires (get_or paths k 0) (listed_at paths k c.loop-path-test.true) in
    omega (arith, lt, item, c.index-place.ensures.place, c.loop-path.auto.flags)

pub loop-path-preserved : goal.loop-path-preserved
loop-path-preserved c =
    let paths = c.args.paths.now in
    let k = c.loop-path.path-index in
    let item : c.index-place.result ≡ get_or paths k 0 = c.index-place.ensures.place ∙ read_number paths k c.path-item.result c.path-item.result refl c.path-item.is c.loop-path-test.true in
    come_next (length c.args.flags.now) paths k c.args.flags.now c.loop-path.flags _ c.loop-path-test.true c.loop-path.auto.flags (ap (λ (n : ℕ). set c.loop-path.flags n true) item) c.loop-path.invariant

pub returns-clause-flags : goal.returns-clause-flags
returns-clause-flags c =
    all_come c.args.paths.now c.loop-path.path-index c.args.flags.now c.loop-path.flags (let past = c.loop-path-test.false in omega (arith, past)) c.requires c.loop-path.invariant
