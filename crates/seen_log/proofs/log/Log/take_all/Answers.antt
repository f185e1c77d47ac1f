use Rattle.std.proofs.Common.{◌≡◌, ◌++◌, [], List, ℕ, sym, ap, ◌∙◌}
use Rattle.log_text.specs.declared.form.Version.TheVariants.{Two}
use Rattle.log_text.specs.Form.{lines_text}
use Rattle.log_text.specs.Text.{header}
use Rattle.seen_log.specs.Record.{forms}
use Rattle.seen_log.proofs.log.Log.take_all.Goals as goal

pub take_lines-requires : goal.take_lines-requires
take_lines-requires c = c.make_room.ensures [] (c.in_ok-arena.ensures [] c.requires)

pub returns : goal.returns
returns c = λ yes.
    let kept = c.in_ok-is_whole.ensures yes in (
      kept.0,
      record {
        lines = c.in-Some.ensures ∙ ap (λ (l : List ℕ). header (forms Two) ++ l) (sym (c.in_ok-text.ensures ∙ c.in-Ok.ensures.cases.0) ∙ kept.1);
        fit = kept.2;
      },
      kept.3,
    )
