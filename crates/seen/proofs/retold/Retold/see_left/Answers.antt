use Rattle.std.proofs.Common.{sym}
use Rattle.std.specs.Option.{option_map}
use Rattle.std.proofs.lemmas.Bool.{false≢true}
use Rattle.seen.proofs.retold.Retold.see_left.Goals as goal

pub invariant_of-self : goal.invariant_of-self
invariant_of-self g c = record {
  one = c.look.new.self.one;
  begun = c.look.new.self.begun;
  counted = c.look.new.self.counted;
  hidden = c.look.new.self.hidden;
  makes = c.look.new.self.makes;
  room = c.look.new.self.room;
  begins = c.look.new.self.begins;
  so_far = c.look.new.self.so_far;
  started = c.look.new.self.started;
  numbers = c.look.new.self.numbers;
  owns = c.look.new.self.owns;
  here = c.look.new.self.here;
  stand = c.look.new.self.stand;
  kept = λ whole. absurd (false≢true (sym whole));
}

pub invariant_of-self-2 : goal.invariant_of-self-2
invariant_of-self-2 g c = record {
  one = c.look.new.self.one;
  begun = c.look.new.self.begun;
  counted = c.look.new.self.counted;
  hidden = c.look.new.self.hidden;
  makes = c.look.new.self.makes;
  room = c.look.new.self.room;
  begins = c.look.new.self.begins;
  so_far = c.look.new.self.so_far;
  started = c.look.new.self.started;
  numbers = c.look.new.self.numbers;
  owns = c.look.new.self.owns;
  here = c.look.new.self.here;
  stand = c.look.new.self.stand;
  kept = λ whole. c.in_ok-looked.ensures.leave (option_map (λ text. text.items) c.look.new.self.base) c.look.new.self.noted.lines.items c.end.new.self.lines.items c.in_ok-end.ensures.noted (c.look.new.self.kept whole);
}
