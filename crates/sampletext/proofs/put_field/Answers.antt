-- `put_field` meets its contract. Assumes nothing.
use Rattle.sampletext.proofs.Lines.{field_empty, field_digits}
use Rattle.sampletext.proofs.put_field.Goals as goal

pub returns-then-bytes-eq0 : goal.returns-then-bytes-eq0
returns-then-bytes-eq0 c = rw (← field_empty c.args.bytes.now c.if-bytes-eq0.true) c.put_byte.ensures

pub returns : goal.returns
returns c = rw (← field_digits c.args.bytes.now c.if-bytes-eq0.false) c.put_digits.ensures
