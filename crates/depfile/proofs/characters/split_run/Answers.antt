use Rattle.std.proofs.Common.{◌∙◌, sym}
use Rattle.depfile.specs.Runs.{IsRunEnd}
use Rattle.depfile.proofs.Cuts.{parted_at, cut_at_end}
use Rattle.depfile.proofs.characters.split_run.Goals as goal

pub split_at-requires : goal.split_at-requires
split_at-requires c =
    let ends : IsRunEnd c.args.class c.args.text.now 0 c.end_of.result = rw (← c.as_bytes.ensures.value) c.end_of.ensures in
    cut_at_end c.args.class c.args.text.now c.end_of.result c.utf8.text ends

pub returns-clause-run : goal.returns-clause-run
returns-clause-run c =
    let ends : IsRunEnd c.args.class c.args.text.now 0 c.end_of.result = rw (← c.as_bytes.ensures.value) c.end_of.ensures in
    c.split_at.ensures.front ∙ sym (parted_at c.args.class c.args.text.now c.end_of.result ends).0

pub returns-clause-rest : goal.returns-clause-rest
returns-clause-rest c =
    let ends : IsRunEnd c.args.class c.args.text.now 0 c.end_of.result = rw (← c.as_bytes.ensures.value) c.end_of.ensures in
    c.split_at.ensures.back ∙ sym (parted_at c.args.class c.args.text.now c.end_of.result ends).1
