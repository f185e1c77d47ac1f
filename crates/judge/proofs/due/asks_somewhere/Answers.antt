use Rattle.std.proofs.Common.{◌≡◌, ◌<◌, ℕ, List, get_or, length, sym, ◌∙◌, ap, subst, arith}
use Rattle.std.proofs.lemmas.List.{get_or_default}
use Rattle.judge.specs.KeptDues.{AsksForNone}
use Rattle.judge.proofs.SourcesSeen.{each_more}
use Rattle.judge.proofs.due.asks_somewhere.Goals as goal

pub loop-edge-init : goal.loop-edge-init
loop-edge-init c = record { none = λ k lt. absurd (omega (arith, lt)) }

pub asks_for_depfile-requires : goal.asks_for_depfile-requires
asks_for_depfile-requires c =
    let items = c.as_slice-edge-items.result.now in
    let order = c.args.cone.now.order.items in
    let k = c.loop-edge.edge-index in
    let low = c.requires k c.edge-item.result (subst (λ (l : List ℕ). k < length l) c.as_slice-edge-items.ensures.value c.loop-edge-test.true) in
    subst (λ (e : ℕ). e < length c.args.graph.now.manifest.lines) (sym {A = ℕ} (c.edge-item.is ∙ ap (λ (l : List ℕ). get_or l k c.edge-item.result) c.as_slice-edge-items.ensures.value)) low

pub loop-edge-preserved : goal.loop-edge-preserved
loop-edge-preserved c =
    let items = c.as_slice-edge-items.result.now in
    let k = c.loop-edge.edge-index in
    let at : c.edge-item.result ≡ get_or items k 0 = c.edge-item.is ∙ get_or_default items k c.edge-item.result 0 c.loop-edge-test.true in
    record { none = each_more (λ n. AsksForNone c.args.graph.now (get_or items n 0)) k c.loop-edge.invariant.none (subst (AsksForNone c.args.graph.now) at (c.asks_for_depfile.ensures c.if-asks_for_depfile.false)) }

pub returns : goal.returns
returns c asks k lt =
    let items = c.as_slice-edge-items.result.now in
    subst (λ (l : List ℕ). AsksForNone c.args.graph.now (get_or l k 0)) c.as_slice-edge-items.ensures.value
    (c.loop-edge.invariant.none k (let size = ap (λ (l : List ℕ). length l) c.as_slice-edge-items.ensures.value in omega (arith, lt, size, c.loop-edge-test.false)))
