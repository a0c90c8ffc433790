use Rattle.std.proofs.Common.{◌≡◌, ℕ, ◌/◌, ◌%◌, OnOk, subst}
use Rattle.sc_check.specs.Span.{image, unit_stream}
use Rattle.sc_check.proofs.span.write_unit.Goals as goal

pub returns : goal.returns
returns c =
    let code = c.args.code.now in
    let n : ℕ = c.args.n in
    subst (λ (k : ℕ). OnOk c.push_block.result (c.push_block.new.bytes.items ≡ image code c.args.slots (unit_stream (n / k) (n % code.k)))) c.k.ensures.number
    (subst (λ (k : ℕ). OnOk c.push_block.result (c.push_block.new.bytes.items ≡ image code c.args.slots (unit_stream (n / c.k.result) (n % k)))) c.k-2.ensures.number c.push_block.ensures)
