use Rattle.stand_in.proofs.place.SeenPlace.should_wait.Goals as goal

-- the world is as it was
pub invariant_of-retold : goal.invariant_of-retold
invariant_of-retold g c = record {
  one = c.args.self.now.retold.one;
  begun = c.args.self.now.retold.begun;
  counted = c.args.self.now.retold.counted;
  hidden = c.args.self.now.retold.hidden;
  makes = c.args.self.now.retold.makes;
  room = c.args.self.now.retold.room;
  begins = c.args.self.now.retold.begins;
  so_far = rw c.should_wait.ensures c.args.self.now.retold.so_far;
  started = λ is p. rw c.should_wait.ensures (c.args.self.now.retold.started is p);
  numbers = c.args.self.now.retold.numbers;
  owns = c.args.self.now.retold.owns;
  here = c.args.self.now.retold.here;
  stand = rw c.should_wait.ensures c.args.self.now.retold.stand;
  kept = λ whole. rw c.should_wait.ensures (c.args.self.now.retold.kept whole);
}
