use Rattle.std.proofs.Common.{arith}
use Rattle.std.specs.Option.{option_map}
use Rattle.lexer.specs.Said.{fragments_of}
use Rattle.scopes.specs.Moves.{Enter, Leave}
use Rattle.manifest.specs.Files.{fault_in, InScope, too_deep_at, inner_at}
use Rattle.manifest.specs.Seen.{seen}
use Rattle.manifest.specs.Places.{place_of}
use Rattle.manifest.proofs.Looking.{looks_then, looks_none, caused_on, caused_then, fine, covers_before, covers_after}
use Rattle.manifest.proofs.ReadTo.{own_cause, own_stated, stop_cause, read_to_first, split_shorter, read_to_none, read_to_next, read_to_fault, read_to_end, always_ok}
use Rattle.manifest.proofs.Including.{bytes_large, bytes_unread, bytes_say, bytes_formed, declaration_says, says_at, file_unopened, file_says, scope_fault, scope_reading, state_moved, stated_moved, formed_entered, formed_left}
use Rattle.manifest.proofs.reader.+files.Goals as goal

-- ---- read_bytes

pub read_bytes-returns-then-bytes-gt-LARGEST_FILE-clause-said :
    goal.read_bytes-returns-then-bytes-gt-LARGEST_FILE-clause-said
read_bytes-returns-then-bytes-gt-LARGEST_FILE-clause-said g t c = λ told entry exit covered state is.
    bytes_large (seen entry exit) c.args.levels c.args.file.now.value c.args.bytes.now state c.too_large.result c.if-bytes-gt-LARGEST_FILE.true c.too_large.ensures

pub read_bytes-returns-in_default-clause-said : goal.read_bytes-returns-in_default-clause-said
read_bytes-returns-in_default-clause-said g t c = λ told entry exit covered state is.
    bytes_unread (seen entry exit) c.args.levels c.args.file.now.value c.args.bytes.now state c.fault.result c.if-bytes-gt-LARGEST_FILE.false c.in_default.ensures.cases.0 c.fault.ensures

pub read_bytes-read_lines-requires : goal.read_bytes-read_lines-requires
read_bytes-read_lines-requires g t c κs within = (omega (arith, c.decreases), within)

pub read_bytes-returns-clause-said : goal.read_bytes-returns-clause-said
read_bytes-returns-clause-said g t c = λ told entry exit covered state is.
    bytes_say (seen entry exit) c.args.levels c.args.file.now.value c.args.bytes.now state c.in-Ok.text.now c.in_ok-lines.field-0.lines c.as_slice.result.now c.in_ok-lines.field-0.fault
    c.read_lines.result c.read_lines.new.declared c.if-bytes-gt-LARGEST_FILE.false c.in-Ok.ensures.cases.1 c.in-Ok.ensures.cases.0 c.in_ok-lines.ensures c.as_slice.ensures
    (c.read_lines.ensures.said told entry exit covered state is)

pub read_bytes-returns-clause-formed : goal.read_bytes-returns-clause-formed
read_bytes-returns-clause-formed g t c =
    bytes_formed c.in-Ok.text.now c.in_ok-lines.field-0.lines c.as_slice.result.now c.in_ok-lines.field-0.fault c.read_lines.result _ c.in_ok-lines.ensures c.as_slice.ensures c.read_lines.ensures.formed

-- ---- read_file

pub read_file-returns-in_err-file-clause-said : goal.read_file-returns-in_err-file-clause-said
read_file-returns-in_err-file-clause-said g t c = λ told entry exit covered state is.
    file_unopened (place_of c.args.place.now) (seen entry exit) c.args.levels (fragments_of c.args.path.now) state (inner_at (seen entry exit) c.args.levels) _ c.from_residual.result c.args.declared.now
    c.from_residual.ensures.1 (c.in_err-file.ensures.opened told entry exit covered state is)

pub read_file-read_bytes-requires : goal.read_file-read_bytes-requires
read_file-read_bytes-requires g t c κs within = (omega (arith, c.decreases, c.in_ok-file.ensures.levels), within)

pub read_file-returns-clause-looks : goal.read_file-returns-clause-looks
read_file-returns-clause-looks g t c = looks_then _ _ _ _ c.open.ensures.looks c.read_bytes.ensures.looks

pub read_file-returns-clause-said : goal.read_file-returns-clause-said
read_file-returns-clause-said g t c = λ told entry exit covered state is.
    file_says (place_of c.args.place.now) (seen entry exit) c.args.levels (fragments_of c.args.path.now) state c.in_ok-file.field-0.file.value c.in_ok-file.field-0.bytes c.as_slice.result.now c.as_slice.ensures
    (c.in_ok-file.ensures.opened told entry exit (covers_before g.R.Texts.tells entry exit (g.R.Texts.world c.args.texts.now) (g.R.Texts.world c.open.new.texts) (g.R.Texts.world c.read_bytes.new.texts) told c.read_bytes.ensures.looks covered) state is) c.in_ok-file.ensures.levels c.read_bytes.result c.read_bytes.new.declared
    (c.read_bytes.ensures.said told entry exit (covers_after g.R.Texts.tells entry exit (g.R.Texts.world c.args.texts.now) (g.R.Texts.world c.open.new.texts) (g.R.Texts.world c.read_bytes.new.texts) told c.open.ensures.looks covered) state is)

-- ---- read_group

pub read_group-read_file-requires : goal.read_group-read_file-requires
read_group-read_file-requires g t c κs within = (omega (arith, c.decreases), within)

pub read_group-read_scope-requires : goal.read_group-read_scope-requires
read_group-read_scope-requires g t c κs within = (omega (arith, c.decreases), within)

pub read_group-returns-in-Include-clause-said : goal.read_group-returns-in-Include-clause-said
read_group-returns-in-Include-clause-said g t c = λ told entry exit covered state is.
    says_at (seen entry exit) (too_deep_at c.args.levels) (inner_at (seen entry exit) c.args.levels) _ _ _ _ _ state c.read_file.result c.read_file.new.declared c.in-Include.is (c.read_file.ensures.said told entry exit covered state is)

pub read_group-returns-in-Subninja-clause-said : goal.read_group-returns-in-Subninja-clause-said
read_group-returns-in-Subninja-clause-said g t c = λ told entry exit covered state is.
    says_at (seen entry exit) (too_deep_at c.args.levels) (inner_at (seen entry exit) c.args.levels) _ _ _ _ _ state c.read_scope.result c.read_scope.new.declared c.in-Subninja.is (c.read_scope.ensures.said told entry exit covered state is)

pub read_group-returns-in_default : goal.read_group-returns-in_default
read_group-returns-in_default g t c = record {
  looks = looks_none _ _;
  cause = own_cause _ _ _ _ c.read_declaration.result c.read_declaration.ensures.said;
  said = λ told entry exit covered state is.
      declaration_says (seen entry exit) (too_deep_at c.args.levels) (inner_at (seen entry exit) c.args.levels) _ _ _ _ state c.read_declaration.result c.read_declaration.new.self
      c.in_default.not-Include c.in_default.not-Subninja (c.read_declaration.ensures.said state is);
  scopes = c.read_declaration.ensures.scopes;
  stated = own_stated _ _ _ c.read_declaration.result c.read_declaration.ensures.said;
  formed = c.read_declaration.ensures.formed;
}

-- ---- read_lines

pub read_lines-loop-line-init : goal.read_lines-loop-line-init
read_lines-loop-line-init g t c = read_to_none _ _ _ _ _ c.args.lines.now c.split_block.result.0.now c.split_block.result.1.now _ c.split_block.ensures

pub read_lines-read_group-requires : goal.read_lines-read_group-requires
read_lines-read_group-requires g t c κs within = (omega (arith, c.decreases), within)

pub read_lines-returns-in_err-read_group-clause-looks :
    goal.read_lines-returns-in_err-read_group-clause-looks
read_lines-returns-in_err-read_group-clause-looks g t c = looks_then _ _ _ _ c.loop-line.invariant.looks c.read_group.ensures.looks

pub read_lines-returns-in_err-read_group-clause-cause :
    goal.read_lines-returns-in_err-read_group-clause-cause
read_lines-returns-in_err-read_group-clause-cause g t c = λ stated.
    caused_on _ _ _ _ c.from_residual.result (c.loop-line.invariant.failed stated) (c.in_err-read_group.ensures.cause (c.loop-line.invariant.stated stated)) c.from_residual.ensures.1

pub read_lines-returns-in_err-read_group-clause-said :
    goal.read_lines-returns-in_err-read_group-clause-said
read_lines-returns-in_err-read_group-clause-said g t c =
    read_to_fault _ _ _ _ _ _ _ c.if_last.result _ c.in-Some.line.now c.in-Some.following.now c.split_block-in-Some.result.0.now c.split_block-in-Some.result.1.now _ _ c.read_group.new.declared
    (read_to_first _ _ _ _ _ _ _ _ _ _ _ _ c.in-Some.ensures.cases.0 c.loop-line.invariant) c.split_block-in-Some.ensures c.if_last.ensures c.read_group.ensures.looks
    _ c.from_residual.result c.read_group.new.declared c.from_residual.ensures.1 c.in_err-read_group.ensures.said

pub read_lines-loop-line-smaller : goal.read_lines-loop-line-smaller
read_lines-loop-line-smaller g t c =
    split_shorter c.loop-line.rest.now c.in-Some.following.now c.split_block-in-Some.result.0.now c.split_block-in-Some.result.1.now c.in-Some.line.now c.in-Some.ensures.cases.0 c.split_block-in-Some.ensures

pub read_lines-loop-line-preserved : goal.read_lines-loop-line-preserved
read_lines-loop-line-preserved g t c =
    read_to_next _ _ _ _ _ _ _ c.if_last.result _ c.in-Some.line.now c.in-Some.following.now c.split_block-in-Some.result.0.now c.split_block-in-Some.result.1.now _ _ _
    (read_to_first _ _ _ _ _ _ _ _ _ _ _ _ c.in-Some.ensures.cases.0 c.loop-line.invariant) c.split_block-in-Some.ensures c.if_last.ensures c.read_group.ensures.looks
    c.in_ok-read_group.ensures.cause c.in_ok-read_group.ensures.stated c.in_ok-read_group.ensures.said c.in_ok-read_group.ensures.scopes c.in_ok-read_group.ensures.formed

pub read_lines-returns-clause-looks : goal.read_lines-returns-clause-looks
read_lines-returns-clause-looks g t c = c.loop-line.invariant.looks

pub read_lines-returns-clause-cause : goal.read_lines-returns-clause-cause
read_lines-returns-clause-cause g t c = λ stated. stop_cause _ _ (option_map (fault_in c.args.file.now.value) c.args.fault) c.stop_at.result (c.loop-line.invariant.failed stated) c.stop_at.ensures

pub read_lines-returns-clause-said : goal.read_lines-returns-clause-said
read_lines-returns-clause-said g t c = read_to_end _ _ _ _ _ _ _ _ _ _ c.stop_at.result c.loop-line.invariant c.in_default.ensures.cases c.stop_at.ensures

pub read_lines-returns-clause-scopes : goal.read_lines-returns-clause-scopes
read_lines-returns-clause-scopes g t c = always_ok c.stop_at.result c.loop-line.invariant.scopes

pub read_lines-returns-clause-stated : goal.read_lines-returns-clause-stated
read_lines-returns-clause-stated g t c = always_ok c.stop_at.result c.loop-line.invariant.stated

pub read_lines-returns-clause-formed : goal.read_lines-returns-clause-formed
read_lines-returns-clause-formed g t c = always_ok c.stop_at.result c.loop-line.invariant.formed

-- ---- read_scope

pub read_scope-returns-in_err-file-clause-said : goal.read_scope-returns-in_err-file-clause-said
read_scope-returns-in_err-file-clause-said g t c = λ told entry exit covered state is.
    file_unopened (place_of c.args.place.now) (seen entry exit) c.args.levels (fragments_of c.args.path.now) state (InScope (inner_at (seen entry exit) c.args.levels)) _ c.from_residual.result c.args.declared.now
    c.from_residual.ensures.1 (c.in_err-file.ensures.opened told entry exit covered state is)

pub read_scope-read_bytes-requires : goal.read_scope-read_bytes-requires
read_scope-read_bytes-requires g t c κs within = (omega (arith, c.decreases, c.in_ok-file.ensures.levels), within)

pub read_scope-returns-in_err-read_bytes-clause-looks :
    goal.read_scope-returns-in_err-read_bytes-clause-looks
read_scope-returns-in_err-read_bytes-clause-looks g t c = looks_then _ _ _ _ c.open.ensures.looks c.read_bytes.ensures.looks

pub read_scope-returns-in_err-read_bytes-clause-said :
    goal.read_scope-returns-in_err-read_bytes-clause-said
read_scope-returns-in_err-read_bytes-clause-said g t c = λ told entry exit covered state is.
    scope_fault (place_of c.args.place.now) (seen entry exit) c.args.levels (fragments_of c.args.path.now) state c.in_ok-file.field-0.file.value c.in_ok-file.field-0.bytes c.as_slice.result.now c.as_slice.ensures
    (c.in_ok-file.ensures.opened told entry exit (covers_before g.R.Texts.tells entry exit (g.R.Texts.world c.args.texts.now) (g.R.Texts.world c.open.new.texts) (g.R.Texts.world c.read_bytes.new.texts) told c.read_bytes.ensures.looks covered) state is) c.in_ok-file.ensures.levels
    _ c.from_residual-in_err-read_bytes.result c.read_bytes.new.declared c.from_residual-in_err-read_bytes.ensures.1
    (c.in_err-read_bytes.ensures.said told entry exit (covers_after g.R.Texts.tells entry exit (g.R.Texts.world c.args.texts.now) (g.R.Texts.world c.open.new.texts) (g.R.Texts.world c.read_bytes.new.texts) told c.open.ensures.looks covered) _ (state_moved _ _ _ state is (c.in_ok-enter.ensures.ok _ is.scopes)))

pub read_scope-returns-clause-looks : goal.read_scope-returns-clause-looks
read_scope-returns-clause-looks g t c = looks_then _ _ _ _ c.open.ensures.looks c.read_bytes.ensures.looks

pub read_scope-returns-clause-said : goal.read_scope-returns-clause-said
read_scope-returns-clause-said g t c = λ told entry exit covered state is.
    let inner = c.in_ok-read_bytes.ensures.said told entry exit (covers_after g.R.Texts.tells entry exit (g.R.Texts.world c.args.texts.now) (g.R.Texts.world c.open.new.texts) (g.R.Texts.world c.read_bytes.new.texts) told c.open.ensures.looks covered) _ (state_moved _ _ _ state is (c.in_ok-enter.ensures.ok _ is.scopes)) in (
      _,
      state_moved _ _ _ inner.0 inner.1 (c.leave.ensures.left _ inner.1.scopes),
      scope_reading (place_of c.args.place.now) (seen entry exit) c.args.levels (fragments_of c.args.path.now) state c.in_ok-file.field-0.file.value c.in_ok-file.field-0.bytes c.as_slice.result.now c.as_slice.ensures
          (c.in_ok-file.ensures.opened told entry exit (covers_before g.R.Texts.tells entry exit (g.R.Texts.world c.args.texts.now) (g.R.Texts.world c.open.new.texts) (g.R.Texts.world c.read_bytes.new.texts) told c.read_bytes.ensures.looks covered) state is) c.in_ok-file.ensures.levels inner.0 inner.2,
    )

pub read_scope-returns-clause-formed : goal.read_scope-returns-clause-formed
read_scope-returns-clause-formed g t c = λ formed.
    formed_left _ _ c.leave.ensures.left (c.in_ok-read_bytes.ensures.formed (formed_entered _ _ c.in_ok-enter.ensures.ok formed))

pub read_scope-returns-in_err-read_bytes-clause-cause :
    goal.read_scope-returns-in_err-read_bytes-clause-cause
read_scope-returns-in_err-read_bytes-clause-cause g t c = λ stated.
    caused_on _ _ _ _ c.from_residual-in_err-read_bytes.result (c.in_ok-file.ensures.cause stated) (c.in_err-read_bytes.ensures.cause (stated_moved _ _ Enter c.in_ok-enter.ensures.ok stated))
    c.from_residual-in_err-read_bytes.ensures.1

pub read_scope-returns-clause-cause : goal.read_scope-returns-clause-cause
read_scope-returns-clause-cause g t c = λ stated.
    caused_then _ _ _ fine (c.in_ok-file.ensures.cause stated) (c.in_ok-read_bytes.ensures.cause (stated_moved _ _ Enter c.in_ok-enter.ensures.ok stated))

pub read_scope-returns-clause-stated : goal.read_scope-returns-clause-stated
read_scope-returns-clause-stated g t c = λ stated.
    stated_moved _ _ Leave c.leave.ensures.left (c.in_ok-read_bytes.ensures.stated (stated_moved _ _ Enter c.in_ok-enter.ensures.ok stated))
