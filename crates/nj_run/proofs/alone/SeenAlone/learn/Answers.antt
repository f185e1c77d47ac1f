use Rattle.nj_run.proofs.alone.SeenAlone.learn.Goals as goal

-- the world is as it was
pub invariant_of-retold : goal.invariant_of-retold
invariant_of-retold g c = record {
  one = c.know.new.self.retold.one;
  begun = c.know.new.self.retold.begun;
  counted = c.know.new.self.retold.counted;
  hidden = c.know.new.self.retold.hidden;
  makes = c.know.new.self.retold.makes;
  room = c.know.new.self.retold.room;
  begins = c.know.new.self.retold.begins;
  so_far = rw c.learn.ensures c.know.new.self.retold.so_far;
  started = λ is p. rw c.learn.ensures (c.know.new.self.retold.started is p);
  numbers = c.know.new.self.retold.numbers;
  owns = c.know.new.self.retold.owns;
  here = c.know.new.self.retold.here;
  stand = rw c.learn.ensures c.know.new.self.retold.stand;
  kept = λ whole. rw c.learn.ensures (c.know.new.self.retold.kept whole);
}
