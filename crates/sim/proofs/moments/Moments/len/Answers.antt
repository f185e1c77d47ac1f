use Rattle.std.proofs.Common.{◌≡◌, ◌∙◌, ap, sym, length, rules}
use Rattle.std.specs.HashMap.{get_by_text}
use Rattle.sim.proofs.Undoing.{length-told}
use Rattle.sim.proofs.moments.Moments.len.Goals as goal

pub returns : goal.returns
returns c =
    let counts : c.len.result ≡ length c.self.inside.notes.items = search rules in
    counts ∙ sym (length-told c.self.inside.notes.items (get_by_text c.self.inside.lasts)) ∙ ap length c.self.view_is
