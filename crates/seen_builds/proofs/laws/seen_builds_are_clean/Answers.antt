use Rattle.seen_builds.proofs.Following.{runs_law}
use Rattle.seen_builds.proofs.laws.seen_builds_are_clean.Goals as goal

pub returns : goal.returns
returns c = runs_law c.next_begins_soundly.ensures c.behind_is_sound.ensures c.files_are_told.ensures
