use Rattle.manifest.proofs.BlockLemmas.{within, is_split}
use Rattle.manifest.proofs.blocks.split_block.Goals as goal

pub split_at-requires : goal.split_at-requires
split_at-requires c = within c.args.lines.now c.block_length-count.result c.block_length-count.ensures

pub returns : goal.returns
returns c = rw (c.split_at.ensures.front, c.split_at.ensures.back) (is_split c.args.lines.now c.block_length-count.result c.block_length-count.ensures)
