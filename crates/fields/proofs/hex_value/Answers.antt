-- `hex_value` meets its contract. Assumes nothing.
use native.Mathlib.Omega.{arith}
use Rattle.fields.specs.Bytes.{hex_value}
use Rattle.fields.proofs.Pairs.{within_so, within_low, within_high}
use Rattle.fields.proofs.hex_value.Goals as goal

pub returns-then-c-lt48 : goal.returns-then-c-lt48
unfolding hex_value
returns-then-c-lt48 c =
    let b = c.args.c in
    rw (within_low 48 57 b (omega arith), within_low 65 70 b (omega arith), within_low 97 102 b (omega arith))

pub returns-then-c-lt58 : goal.returns-then-c-lt58
unfolding hex_value
returns-then-c-lt58 c =
    let b = c.args.c in
    rw (within_so 48 57 b (omega arith) (omega arith))

pub returns-then-c-lt65 : goal.returns-then-c-lt65
unfolding hex_value
returns-then-c-lt65 c =
    let b = c.args.c in
    rw (within_high 48 57 b (omega arith), within_low 65 70 b (omega arith), within_low 97 102 b (omega arith))

pub returns-then-c-lt71 : goal.returns-then-c-lt71
unfolding hex_value
returns-then-c-lt71 c =
    let b = c.args.c in
    rw (within_high 48 57 b (omega arith), within_so 65 70 b (omega arith) (omega arith))

pub returns-then-c-lt97 : goal.returns-then-c-lt97
unfolding hex_value
returns-then-c-lt97 c =
    let b = c.args.c in
    rw (within_high 48 57 b (omega arith), within_high 65 70 b (omega arith), within_low 97 102 b (omega arith))

pub returns-then-c-lt103 : goal.returns-then-c-lt103
unfolding hex_value
returns-then-c-lt103 c =
    let b = c.args.c in
    rw (within_high 48 57 b (omega arith), within_high 65 70 b (omega arith), within_so 97 102 b (omega arith) (omega arith))

pub returns : goal.returns
unfolding hex_value
returns c =
    let b = c.args.c in
    rw (within_high 48 57 b (omega arith), within_high 65 70 b (omega arith), within_high 97 102 b (omega arith))
