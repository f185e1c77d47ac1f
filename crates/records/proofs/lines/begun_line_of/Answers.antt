use Rattle.std.proofs.Common.{sym, ap, subst, ◌∙◌, ℕ, List, map, suc}
use Rattle.log_text.specs.Kept.{AreDistinct}
use Rattle.graph.specs.Told.{declared_by}
use Rattle.records.proofs.Distinct.{distinct}
use Rattle.records.proofs.lines.begun_line_of.Goals as goal

pub begun_line-requires-clause-once : goal.begun_line-requires-clause-once
begun_line-requires-clause-once c =
    subst (λ (os : List (List ℕ)). AreDistinct os) (sym (ap (map (λ o. o.now)) c.as_slice.ensures.value ∙ c.in_ok-outputs.ensures)) (distinct (declared_by c.args.graph.now).edges (suc c.args.edge) c.requires.once)
