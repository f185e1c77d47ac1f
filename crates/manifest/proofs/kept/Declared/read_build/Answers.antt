use Rattle.std.proofs.Common.{refl, map, ◌∙◌}
use Rattle.std.proofs.lemmas.Result.{err_from_is_err_and}
use Rattle.lexer.specs.Said.{build_of, said_of}
use Rattle.manifest.specs.declared.kept.Declared.{Declared}
use Rattle.manifest.specs.Blocks.{block_lines}
use Rattle.manifest.specs.BuildParts.{made_of, rule_in}
use Rattle.manifest.specs.Places.{place_of}
use Rattle.manifest.specs.States.{with_build}
use Rattle.manifest.proofs.BuildReads.{rule_fault, present_here, keeps_build, keeps_formed}
use Rattle.manifest.proofs.kept.Declared.read_build.Goals as goal

pub returns-in_err-read-clause-said : goal.returns-in_err-read-clause-said
returns-in_err-read-clause-said c state is =
    let failed = err_from_is_err_and c.from_residual.result c.from_residual.ensures.1 in
    rw (failed.1, failed.2) (rule_fault (place_of c.args.place.now) (build_of c.args.build.now) (block_lines (map said_of c.args.block.now)) state _ (c.in_err-read.ensures.rule state is))

pub returns-in_err-read_line-clause-said : goal.returns-in_err-read_line-clause-said
returns-in_err-read_line-clause-said c state is =
    let failed = err_from_is_err_and c.from_residual-in_err-read_line.result c.from_residual-in_err-read_line.ensures.1 in
    rw (failed.1, failed.2) (c.in_err-read_line.ensures.said state is.scopes is.paths (block_lines (map said_of c.args.block.now))
    (c.in_ok-read.ensures.block state.past is.scopes c.args.place.now.file.now.value) (c.in_ok-read.ensures.rule state is))

pub returns-clause-said : goal.returns-clause-said
returns-clause-said c state is =
    let block_read = c.in_ok-read.ensures.block state.past is.scopes c.args.place.now.file.now.value in
    let kept = c.in_ok-read_line.ensures.said state is.scopes is.paths (block_lines (map said_of c.args.block.now)) block_read (c.in_ok-read.ensures.rule state is) in
    let made = made_of (place_of c.args.place.now) (build_of c.args.build.now) (block_lines (map said_of c.args.block.now)) state (rule_in c.in_ok-read.read) kept.0 in
    let after : Declared = record { scopes = c.args.self.now.scopes; edges = c.push.new.self; pools = c.args.self.now.pools; defaults = c.args.self.now.defaults; paths = c.read_line.new.self; room = c.read_line.new.room } in (
      with_build made state,
      keeps_build c.args.self.now after state _ made c.in_ok-push.ensures.items (record {
        file = c.in_ok-read.ensures.file;
        line = c.in_ok-read.ensures.line;
        scope = c.in_ok-read.ensures.scope ∙ present_here c.args.self.now.scopes state is.scopes;
        rule_name = c.in_ok-read.ensures.name;
        rule = refl;
        block = block_read.bound;
      }) is refl refl refl kept.1,
      kept.2,
    )

pub returns-clause-formed : goal.returns-clause-formed
returns-clause-formed c formed some =
    keeps_formed c.args.self.now _ _ formed c.in_ok-read.ensures.within refl c.in_ok-push.ensures.items
    (c.in_ok-read_line.ensures.formed formed.past formed.scopes formed.paths some)
