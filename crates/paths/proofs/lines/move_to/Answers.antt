use Rattle.paths.proofs.lines.move_to.Goals as goal

pub returns : goal.returns
returns c =
    let same = c.copy_within.ensures.by_index in
    record { fits = c.copy_within.ensures.len; front = λ k low. same.1 k 0 low; moved = λ k from to. same.0 k 0 from to; behind = λ k past. same.2 k 0 past }
