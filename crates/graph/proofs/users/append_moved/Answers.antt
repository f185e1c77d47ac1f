use Rattle.std.proofs.Common.{◌≡◌, ◌<◌, ◌+◌, ◌-◌, ◌++◌, ◌^◌, List, ℕ, length, take, drop, refl, sym, ◌∙◌, ap, arith}
use Rattle.std.proofs.Math.Seq.{take-append_seam}
use Rattle.std.proofs.Math.ListN.{replicate}
use Rattle.paths.specs.Lists.{between}
use Rattle.graph.proofs.Spaces.{moved_over, unsaturated}
use Rattle.graph.proofs.users.append_moved.Goals as goal

pub returns-clause-ok : goal.returns-clause-ok
returns-clause-ok c =
    let old = c.args.edges.now in
    let wide = c.resize.new.self in
    let copied = c.copy_behind.new.edges in
    let end = c.len-end.result in
    let count = c.args.stop - c.args.start in
    let size = c.saturating_add.result in
    let at_end : end ≡ length old.items = c.len-end.ensures ∙ old.ok.0 in
    let long : wide.len ≡ size = c.in_ok-resize.ensures.len in
    let room : size < 2 ^ 63 = let fits = wide.ok.1 in let small = wide.small in omega (arith, long, fits, small) in
    let more = c.args.more in
    let is_size : size ≡ end + count + 1 + more = unsaturated (end + count + 1 + more) size c.saturating_add.ensures room in
    let same : wide.len ≡ length copied = wide.ok.0 ∙ (sym (ap length c.as_mut_slice.ensures.value) ∙ sym c.copy_behind.ensures.length) in
    let whole = ap (λ (n : ℕ). take n (copied ++ drop (length copied) wide.items)) same ∙ take-append_seam copied (drop (length copied) wide.items) in
    let held = ap (λ (l : List ℕ). take end l ++ (between l c.args.start c.args.stop ++ drop (end + count) l)) c.as_mut_slice.ensures.value in
    let ended = ap (λ (n : ℕ). take n wide.items ++ (between wide.items c.args.start c.args.stop ++ drop (n + count) wide.items)) at_end in
    moved_over old.items wide.items (take wide.len (copied ++ drop (length copied) wide.items)) c.args.start c.args.stop count more size c.args.edge (end + count + 1) c.requires.order c.requires.within refl
    (omega (arith, is_size, at_end)) (c.in_ok-resize.ensures.items ∙ ap (λ (n : ℕ). take size old.items ++ replicate (size - n) c.args.edge) old.ok.0)
    (whole ∙ (c.copy_behind.ensures.copied ∙ (held ∙ ended))) (omega (arith, at_end))
