-- How a build began, and the site as it is told since.
use Rattle.std.specs.Prelude.{◌≡◌, Bool, true, false, [], None, ◌++◌, IsTrue}
use Rattle.model.specs.World.{World}
use Rattle.seen_law.specs.Retold.{BeginsSo, retold}
use Rattle.seen_true.specs.Counting.{telling}
use Rattle.seen_true.specs.Going.{Entered, since}

-- what was known, what had happened on the site when the build was asked for and when it began, and what was told of that
abbrev pub Begun : Type 0
Begun = Entered

-- nothing was known, and nothing had happened
abbrev pub plainly_begun : Begun
plainly_begun = record {
  knows = record { noted = λ p. None; is_output = λ p. false; is_own = λ p. false; number = 0; makes = λ job. []; seen = [] };
  asked = [];
  first = [];
  before = [];
}

-- what was told then is what counts
abbrev pub BeginsTold : Begun → Type 0
BeginsTold b = BeginsSo (telling b.knows) b.first b.before

-- where the site tells its files, they are those of the beginning and of what happened since
abbrev pub GoesOn : Bool → Begun → World → Type 0
GoesOn tells b world = IsTrue tells → world.history ≡ b.first ++ since b world

-- the site as it is told, where it tells its files
abbrev pub told_world : Bool → Begun → World → World
told_world false b world = world
told_world true b world = retold (telling b.knows) b.first b.before (since b world) world
