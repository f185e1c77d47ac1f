use Rattle.dyndep.proofs.Parts.{block_within, is_split}
use Rattle.dyndep.proofs.statements.split_block.Goals as goal

pub split_at-requires : goal.split_at-requires
split_at-requires c = let within = block_within c.args.lines.now in rw c.block_length-count.ensures within

pub returns : goal.returns
returns c = rw (c.split_at.ensures.front, c.split_at.ensures.back) (is_split c.args.lines.now c.block_length-count.result c.block_length-count.ensures)
