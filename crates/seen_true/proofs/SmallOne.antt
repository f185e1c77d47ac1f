-- Where what is noted is not enough.
use Rattle.std.proofs.Common.{◌⊎◌, inl, inr, ◌<◌, refl, arith}
use Rattle.std.proofs.Math.Logic.{∥∥₁_elim}
use Rattle.model.specs.World.{File}
use Rattle.seen_law.specs.Rows.{edited, output, source, was, some_act}
use Rattle.seen_true.specs.Soundly.{IsLaterThanRecords, WasTold}
use Rattle.seen_true.specs.Small.{PutBackIsNotSound, UnmadeIsNotSound, away, own, reads}
use Rattle.seen_true.proofs.Small.{none_some}

abbrev put_back : File
put_back = record { content = was; stamp = 5 }

pub away_law : PutBackIsNotSound
away_law paths soundly = ∥∥₁_elim (soundly.files source put_back refl) (λ x y. absurd x) by
  where
    by : WasTold away source put_back ⊎ IsLaterThanRecords reads own away 5 → ⊥
    by (inl told) = none_some told.there
    by (inr late) = let early : 6 < 5 = late output (record { act = some_act; start = 6 }) refl in absurd (omega (arith, early))

pub unmade_law : UnmadeIsNotSound
unmade_law paths soundly = none_some (soundly.outputs output (record { act = some_act; start = 6 }) refl (record { content = edited; stamp = 9 }) refl)
