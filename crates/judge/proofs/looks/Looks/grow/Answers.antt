use Rattle.std.proofs.Common.{◌≡◌, ◌∙◌, ◌-◌, ◌++◌, List, length, take, ap, arith}
use Rattle.std.proofs.Math.ListN.{replicate}
use Rattle.std.proofs.lemmas.List.{take_all}
use Rattle.std.proofs.Math.Seq.{take-append_seam}
use Rattle.judge.specs.declared.looks.Look.{Look}
use Rattle.judge.specs.declared.looks.Look.TheVariants.{Unasked}
use Rattle.judge.specs.Seen.{look_at}
use Rattle.judge.proofs.Grown.{look_filled, stays_seen}
use Rattle.judge.proofs.looks.Looks.grow.Goals as goal

pub returns-clause-same : goal.returns-clause-same
returns-clause-same c p =
    let old = c.args.self.now.seen.items in
    let more = c.paths.result - c.args.self.now.seen.len in
    let whole : take c.paths.result old ≡ old = take_all c.paths.result old (omega (arith, c.requires, c.paths.ensures)) in
    ap (λ (l : List Look). look_at l p) (c.in_ok-resize.ensures.items ∙ ap (λ (l : List Look). l ++ replicate more Unasked) whole) ∙ look_filled old more p

pub returns-clause-seen : goal.returns-clause-seen
returns-clause-seen c paths more grows size =
    let old = c.args.self.now.seen.items in
    let room = c.paths.result - c.args.self.now.seen.len in
    let whole : take c.paths.result old ≡ old = take_all c.paths.result old (omega (arith, c.requires, c.paths.ensures)) in
    let is : c.resize.new.self.items ≡ old ++ replicate room Unasked = c.in_ok-resize.ensures.items ∙ ap (λ (l : List Look). l ++ replicate room Unasked) whole in
    stays_seen paths more c.args.graph.now.manifest.paths old c.resize.new.self.items grows size (λ p. ap (λ (l : List Look). look_at l p) is ∙ look_filled old room p)

pub returns-in_err-resize-clause-front : goal.returns-in_err-resize-clause-front
returns-in_err-resize-clause-front c =
    let old = c.args.self.now.seen.items in
    ap (λ (l : List Look). take (length old) l) c.in_err-resize.ensures.items ∙ take_all (length old) old (omega arith)

pub returns-clause-front : goal.returns-clause-front
returns-clause-front c =
    let old = c.args.self.now.seen.items in
    let room = c.paths.result - c.args.self.now.seen.len in
    let whole : take c.paths.result old ≡ old = take_all c.paths.result old (omega (arith, c.requires, c.paths.ensures)) in
    let is : c.resize.new.self.items ≡ old ++ replicate room Unasked = c.in_ok-resize.ensures.items ∙ ap (λ (l : List Look). l ++ replicate room Unasked) whole in
    ap (λ (l : List Look). take (length old) l) is ∙ take-append_seam old (replicate room Unasked)
