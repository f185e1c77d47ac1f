use Rattle.std.proofs.Common.{map}
use Rattle.nj_run.proofs.Ends.{built, done, ends, explained, refused, well}
use Rattle.nj_run.proofs.program.run_words.Goals as goal
use Rattle.nj_run.proofs.program.run_words.Goals.{in-Ok, in-Err+in-Some-1, in-Err+in-None-1}

pub returns-clause-refused : goal.returns-clause-refused
returns-clause-refused g c two = elim c.match-options.branch [
  | in-Ok w ↦ absurd (built w.build_asked-told.result _ _ c.unwrap_or.ensures w.told-is w.build_asked-told.ensures.range two)
  | in-Err+in-Some-1 w ↦ explained _ _ _ w.words-told.result _ _ c.unwrap_or.ensures w.told-is w.words-told.ensures.refused w.in-Err.ensures.err two
  | in-Err+in-None-1 w ↦ explained _ _ _ w.words-told.result _ _ c.unwrap_or.ensures w.told-is w.words-told.ensures.refused w.in-Err.ensures.err two
]

pub returns-clause-ends : goal.returns-clause-ends
returns-clause-ends g c =
    let words = map g.S.AsStr.text c.args.words.now in
    elim c.match-options.branch [
      | in-Ok w ↦ rw (w.out-is, w.err-is) (ends words _ _ _ _ _ _ _ w.build_asked-told.result _ _ c.unwrap_or.ensures w.told-is w.build_asked-told.ensures.comes (done words _ w.in-Ok.ensures.faultless w.in-Ok.ensures.ok))
      | in-Err+in-Some-1 w ↦ rw (w.out-is, w.err-is) (ends words _ _ _ _ _ _ _ w.words-told.result _ _ c.unwrap_or.ensures w.told-is w.words-told.ensures.comes (refused words w.in-Err.error w.in-Err.ensures.fault))
      | in-Err+in-None-1 w ↦ rw (w.out-is, w.err-is) (ends words _ _ _ _ _ _ _ w.words-told.result _ _ c.unwrap_or.ensures w.told-is w.words-told.ensures.comes (refused words w.in-Err.error w.in-Err.ensures.fault))
    ]

pub returns-clause-well : goal.returns-clause-well
returns-clause-well g c zero =
    well (map g.S.AsStr.text c.args.words.now) g.W.Write.contents g.E.Write.contents c.args.out.now c.match-options.out c.args.err.now c.match-options.err c.unwrap_or.result (returns-clause-ends g c) zero
