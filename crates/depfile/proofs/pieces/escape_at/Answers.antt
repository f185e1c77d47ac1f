use Rattle.std.proofs.Common.{◌++◌, ◌∷◌, [], sym, ◌∙◌, ap, arith, refl}
use Rattle.depfile.specs.Signs.{signs}
use Rattle.depfile.proofs.Escapes.{behind_is}
use Rattle.depfile.proofs.Parts.{same_piece, escaped_piece, some_of, none_of, even_run, odd_run, escape_run, run_of_many, joined_run, lone_run, cut_run, longer}
use Rattle.depfile.proofs.pieces.escape_at.Goals as goal

pub returns-then-count-eq0 : goal.returns-then-count-eq0
returns-then-count-eq0 c =
    same_piece c.args.text.now c.args.run c.args.after.now c.requires.spelled c.requires.some
    (ap signs c.requires.spelled ∙ even_run c.args.run.now c.args.after.now c.in-Some.rest.now c.requires.run (behind_is 32 c.args.after.now c.in-Some.rest.now (sym c.in-Some.ensures)) c.if-count-eq0.true)

pub returns-in-Some : goal.returns-in-Some
returns-in-Some c =
    let is = behind_is 32 c.args.after.now c.in-Some.rest.now (sym c.in-Some.ensures) in
    escaped_piece c.args.text.now c.escaped.result c.in-Some.rest.now _ (32 ∷ []) c.escaped.ensures
    (c.args.run.now ++ 32 ∷ []) (longer c.args.text.now c.args.run.now c.args.after.now c.in-Some.rest.now 32 c.requires.spelled is).0 (longer c.args.text.now c.args.run.now c.args.after.now c.in-Some.rest.now 32 c.requires.spelled is).1 (omega arith)
    (ap signs c.requires.spelled ∙ odd_run c.args.run.now c.args.after.now c.in-Some.rest.now c.requires.run is c.if-count-eq0.false)

pub returns-then-is_some : goal.returns-then-is_some
returns-then-is_some c =
    let found = some_of c.strip_newline.result _ c.strip_newline.ensures c.if-is_some.ensures in
    let many = run_of_many c.args.run.now c.args.after.now found.0 c.requires.run c.requires.some found.1 (rw c.requires.spelled at c.requires.apart) in
    let cut = cut_run c.args.text.now c.args.run.now c.args.after.now c.requires.spelled many in
    same_piece c.args.text.now c.split_at.result.0 c.split_at.result.1.now
    (rw (c.split_at.ensures.front, c.split_at.ensures.back) cut.0)
    (rw c.split_at.ensures.front cut.1)
    (rw (c.split_at.ensures.front, c.split_at.ensures.back, cut.2, cut.3) (ap signs c.requires.spelled ∙ joined_run c.args.run.now c.args.after.now found.0 c.requires.run many found.1))

pub returns-in-Some-strip_one : goal.returns-in-Some-strip_one
returns-in-Some-strip_one c =
    let is = behind_is 35 c.args.after.now c.in-Some-strip_one.rest.now (sym c.in-Some-strip_one.ensures) in
    escaped_piece c.args.text.now c.escaped-in-Some-strip_one.result c.in-Some-strip_one.rest.now _ (35 ∷ []) c.escaped-in-Some-strip_one.ensures
    (c.args.run.now ++ 35 ∷ []) (longer c.args.text.now c.args.run.now c.args.after.now c.in-Some-strip_one.rest.now 35 c.requires.spelled is).0 (longer c.args.text.now c.args.run.now c.args.after.now c.in-Some-strip_one.rest.now 35 c.requires.spelled is).1 (omega arith)
    (ap signs c.requires.spelled ∙ escape_run c.args.run.now c.args.after.now c.in-Some-strip_one.rest.now 35 c.requires.run c.requires.some is refl refl refl refl refl refl)

pub returns-in-Some-strip_one-2 : goal.returns-in-Some-strip_one-2
returns-in-Some-strip_one-2 c =
    let is = behind_is 58 c.args.after.now c.in-Some-strip_one-2.rest.now (sym c.in-Some-strip_one-2.ensures) in
    escaped_piece c.args.text.now c.escaped-in-Some-strip_one-2.result c.in-Some-strip_one-2.rest.now _ (58 ∷ []) c.escaped-in-Some-strip_one-2.ensures
    (c.args.run.now ++ 58 ∷ []) (longer c.args.text.now c.args.run.now c.args.after.now c.in-Some-strip_one-2.rest.now 58 c.requires.spelled is).0 (longer c.args.text.now c.args.run.now c.args.after.now c.in-Some-strip_one-2.rest.now 58 c.requires.spelled is).1 (omega arith)
    (ap signs c.requires.spelled ∙ escape_run c.args.run.now c.args.after.now c.in-Some-strip_one-2.rest.now 58 c.requires.run c.requires.some is refl refl refl refl refl refl)

pub returns : goal.returns
returns c =
    same_piece c.args.text.now c.args.run c.args.after.now c.requires.spelled c.requires.some
    (ap signs c.requires.spelled ∙ lone_run c.args.run.now c.args.after.now c.requires.run c.requires.ends (sym c.in_default.ensures) (none_of c.strip_newline.result _ c.strip_newline.ensures c.if-is_some.ensures) (sym c.in_default-strip_one.ensures) (sym c.in_default-strip_one-2.ensures))
