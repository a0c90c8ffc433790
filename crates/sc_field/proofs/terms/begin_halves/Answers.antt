use Rattle.std.proofs.Common.{◌+◌, length, arith}
use Rattle.sc_field.specs.Terms.{two_ends}
use Rattle.sc_field.proofs.Making.{begun_with_zeros, begun_with_old}
use Rattle.sc_field.proofs.terms.begin_halves.Goals.{then-fresh, else-fresh}
use Rattle.sc_field.proofs.terms.begin_halves.Goals as goal

pub returns : goal.returns
returns c =
    elim c.if-fresh.branch [
      | then-fresh w ↦ begun_with_zeros c.args.fresh c.args.dst.now c.if-fresh.result 32 32 (two_ends 16 (length c.args.dst.now)) w.if-fresh.true w.result-is
      | else-fresh w ↦
          begun_with_old c.args.fresh c.args.dst.now c.if-fresh.result 32 32 (two_ends 16 (length c.args.dst.now)) (λ j. 0 + two_ends 16 (length c.args.dst.now) j) w.if-fresh.false (λ j. omega arith)
          (rw w.result-is w.load_halves.ensures)
    ]
