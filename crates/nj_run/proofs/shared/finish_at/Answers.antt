use Rattle.std.proofs.Common.{◌∙◌, ap}
use Rattle.std.proofs.Math.Seq.{map-set_same}
use Rattle.nj_run.specs.declared.shared.Started.{Started}
use Rattle.nj_run.proofs.shared.finish_at.Goals as goal

-- its job stays
pub returns : goal.returns
returns c =
    map-set_same (λ (s : Started). s.job) c.args.started.now.items c.args.index c.end.new.self c.index_mut.result.now (c.end.ensures ∙ ap (λ (s : Started). s.job) c.index_mut.ensures.value)
