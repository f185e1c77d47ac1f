-- What an audit does to the site once the build has ended.
use Rattle.std.specs.Prelude.{◌≡◌}
use Rattle.model.specs.World.{World}

-- no command was started, and none was taken in
abbrev pub StartsNothing : World → World → Type 0
StartsNothing old new = new.events ≡ old.events
