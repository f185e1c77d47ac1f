-- A success leaves nothing to do, but for the named exceptions.
use Rattle.std.proofs.Common.{inl, inr, false}
use Rattle.model.specs.Graph.{edge_at, inputs}
use Rattle.model.specs.Kept.{store_at}
use Rattle.model.specs.Reading.{Needed}
use Rattle.model.specs.Records.{recorded_inputs}
use Rattle.model.specs.Schedule.{clean_in, well_in, done_in}
use Rattle.theory.proofs.Lists.{has_number-cases, has-left}
use Rattle.theory.proofs.Settled.{settled_command}
use Rattle.theory.specs.LogLaws.{NothingIsLeft}
use Rattle.theory.proofs.Kept.{clean_step}
use Rattle.theory.proofs.Left.{clean_left}
use Rattle.theory.proofs.WellLeft.{well_left}

pub nothing_is_left : NothingIsLeft
nothing_is_left tells B format own asked store steps met old now tell idle rest once loaded early logged ticked premises judged first settled i is_quiet within command =
    elim (has_number-cases (clean_in steps) (well_in steps) i (settled_command asked.graph.edges (done_in steps) i command (settled i within))) [
      | inl clean ↦
          let judgement = clean_step steps i clean in
          inr (clean_left tells B format own asked store (store_at format own now) steps old now tell idle rest once premises.kept logged i (well_in judgement.before) clean
          (judged.verdicts judgement.before judgement.after i false judgement.splits (λ p counts. elim counts [
            | inl read ↦ premises.alone.unread i p is_quiet (inl read)
            | inr recorded ↦ premises.alone.unread i p is_quiet (inr (inl recorded))
          ])))
      | inr well ↦ well_left tells B own asked store (store_at format own now) steps old now tell idle rest once premises.kept logged ticked
          early premises.recorded_apart premises.stamps premises.reports loaded first i command well (λ p reads. premises.alone.unread i p is_quiet reads)
          (λ q j h made. settled j (Needed j i q within (has-left (inputs (edge_at asked.graph.edges i)) (recorded_inputs store asked.graph.edges i) q h) made))
    ]
