use Rattle.graph.specs.Rooms.{AreLaid}
use Rattle.graph.proofs.users.lay_rooms.Given as goal

abbrev pub invariant-loop-count : goal.invariant-loop-count
invariant-loop-count l = AreLaid l.count-index l.end l.rooms.items
