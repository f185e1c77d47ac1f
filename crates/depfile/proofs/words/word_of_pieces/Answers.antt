use Rattle.depfile.proofs.Fronts.{word_begins}
use Rattle.depfile.proofs.words.word_of_pieces.Goals as goal

pub word_going_on-found-requires : goal.word_going_on-found-requires
word_going_on-found-requires c = rw (c.is_itself.ensures, c.is_colon.ensures) (word_begins c.args.text.now c.in_ok-first.after.now c.in_ok-first.first c.in_ok-first.ensures.piece)
