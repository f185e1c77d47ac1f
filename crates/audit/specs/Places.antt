-- What a path is to a command.
use Rattle.std.specs.Prelude.{ℕ, List}
use Rattle.model.specs.Graph.{has}
use Rattle.audit.specs.declared.place.Lists.{Lists}
use Rattle.audit.specs.declared.place.Around.{Around}
use Rattle.audit.specs.declared.place.Place.{Place}

abbrev pub place_of : Lists → Around → List ℕ → Place
place_of lists around path = record {
  output = has lists.outputs path;
  side = has lists.sides path;
  input = has lists.inputs path;
  order_only = has lists.order_only path;
  reported = has lists.reported path;
  restat = lists.restat;
  around = around;
}
