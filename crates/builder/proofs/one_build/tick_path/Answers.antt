use Rattle.std.proofs.Common.{ℕ, List, ◌∙◌, ap}
use Rattle.model.specs.Records.{file_in, tick_name}
use Rattle.builder.proofs.one_build.tick_path.Goals as goal

pub returns : goal.returns
returns c = c.from_string.ensures ∙ (c.in_ok-path.ensures ∙ ap (λ (folder : List ℕ). file_in folder tick_name) c.as_str.ensures)
