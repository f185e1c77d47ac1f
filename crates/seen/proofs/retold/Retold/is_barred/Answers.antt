use Rattle.std.proofs.Common.{◌∙◌, sym}
use Rattle.seen_true.specs.Counting.{telling}
use Rattle.seen.proofs.Kept.{here_same, numbers_same, owns_same}
use Rattle.seen.proofs.Seeing.{counted_same, hidden_same, makes_same, may_be_told, room_same, started_same}
use Rattle.seen.proofs.retold.Retold.is_barred.Goals as goal

pub invariant_of-self : goal.invariant_of-self
invariant_of-self g c = record {
  one = c.args.self.now.one;
  begun = c.args.self.now.begun;
  counted = λ is. counted_same g.B.Beginning.begun c.args.self.now.known c.is_barred.new.self c.is_barred.ensures.same (c.args.self.now.counted is);
  hidden = λ is. hidden_same g.B.Beginning.begun c.args.self.now.known c.is_barred.new.self c.is_barred.ensures.same (c.args.self.now.hidden is);
  makes = λ is. makes_same g.B.Beginning.begun c.args.self.now.known c.is_barred.new.self c.is_barred.ensures.same (c.args.self.now.makes is);
  room = λ is. room_same g.B.Beginning.begun c.args.self.now.known c.is_barred.new.self c.is_barred.ensures.same (c.args.self.now.room is);
  begins = c.args.self.now.begins;
  so_far = c.args.self.now.so_far;
  started = λ is p. c.args.self.now.started is p ∙ started_same g.B.Beginning.begun c.args.self.now.known c.is_barred.new.self c.is_barred.ensures.same p;
  numbers = λ is. numbers_same g.B.Beginning.begun c.args.self.now.known c.is_barred.new.self c.is_barred.ensures.same (c.args.self.now.numbers is);
  owns = λ is. owns_same g.B.Beginning.begun c.args.self.now.known c.is_barred.new.self c.is_barred.ensures.same.own (c.args.self.now.owns is);
  here = λ is. here_same g.B.Beginning.begun c.args.self.now.known c.is_barred.new.self c.is_barred.ensures.same.own (c.args.self.now.here is);
  stand = c.args.self.now.stand;
  kept = c.args.self.now.kept;
}

pub returns-clause-told : goal.returns-clause-told
returns-clause-told g c = λ tells no. may_be_told c.args.self.now.known c.args.path.now (telling g.B.Beginning.begun.knows) (c.args.self.now.counted tells c.args.path.now) (c.args.self.now.hidden tells c.args.path.now) (c.is_barred.ensures.may no)
