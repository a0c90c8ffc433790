use Rattle.std.proofs.Common.{◌+◌, ◌-◌, ◌*◌, ◌/◌, arith}
use Rattle.std.proofs.lemmas.Result.{IfOk-at_ok}
use Rattle.sc_channel.specs.Classes.{class_count}
use Rattle.sc_check.specs.Failing.{FirstBehind}
use Rattle.sc_check.proofs.FailingSteps.{FirstIn-least, start-mono}
use Rattle.sc_check.proofs.failing.+first_in_parts+fn-first_in_parts-lower+fn-first_in_parts-upper.Goals as goal

pub returns : goal.returns
returns g t c =
    let code = c.args.walk.now.code.now in
    let channel = c.args.walk.now.classes.now in
    let count = class_count channel in
    let parts = c.args.parts in
    let middle = c.args.from + (c.args.to - c.args.from) / 2 in
    λ burst.
    rw c.least.ensures
    (FirstIn-least code channel (c.args.from * count / parts) (middle * count / parts) (c.args.to * count / parts) c.in_ok-left.field-0 c.in_ok-right.field-0
    (start-mono c.args.from middle count parts (omega arith) (omega arith))
    (start-mono middle c.args.to count parts (omega arith) (omega arith))
    (IfOk-at_ok (FirstBehind code channel (c.args.from * count / parts) (middle * count / parts)) {r = c.join-left.result.0} c.in_ok-left.was c.join-left.ensures.first burst)
    (IfOk-at_ok (FirstBehind code channel (middle * count / parts) (c.args.to * count / parts)) {r = c.join-left.result.1} c.in_ok-right.was c.join-left.ensures.second burst))
