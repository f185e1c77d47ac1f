use Rattle.log_text.proofs.Reading.{no_line, put_behind}
use Rattle.log_text.proofs.read.put_line.Goals as goal

pub returns-clause-put : goal.returns-clause-put
returns-clause-put g c =
    let spelled = c.in_ok-take_fields.ensures.found c.if-not-branch.false in
    let texts = c.in_ok-take_fields.ensures.texts c.if-not-branch.false in
    let put = rw c.as_slice.ensures.value at c.put_fields.ensures.put in
    put_behind (g.L.Records.forms c.args.version) g.L.Records.Keeps c.put_fields.result c.args.line.now c.take_fields.new.fields.items c.args.log.now c.put_plain.new.self c.put_fields.new.self spelled texts (c.in_ok-put_plain.ensures.none c.if-branch.false) put

pub returns-clause-none : goal.returns-clause-none
returns-clause-none g c =
    let spelled = c.in_ok-take_fields.ensures.found c.if-not-branch.false in
    let none = rw c.as_slice.ensures.value at c.put_fields.ensures.none in
    no_line (g.L.Records.forms c.args.version) c.put_fields.result c.args.line.now c.take_fields.new.fields.items spelled none
