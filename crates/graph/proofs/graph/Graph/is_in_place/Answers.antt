use Rattle.std.proofs.Common.{◌∙◌, sym}
use Rattle.graph.proofs.graph.Graph.is_in_place.Goals as goal

pub returns : goal.returns
returns c = λ is. record {
  listed = sym c.has.ensures ∙ c.if-not-has.false;
  needs = c.is_behind_makers.ensures c.if-not-is_behind_makers.false;
  users = c.is_before_users.ensures is;
}
