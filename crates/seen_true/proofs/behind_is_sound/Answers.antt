use Rattle.seen_true.proofs.Behind.{sound_law}
use Rattle.seen_true.proofs.behind_is_sound.Goals as goal

pub returns : goal.returns
returns c = sound_law c.files_are_told.ensures c.one_reading.ensures
