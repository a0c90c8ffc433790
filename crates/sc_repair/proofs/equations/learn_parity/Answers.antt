use Rattle.std.proofs.Common.{◌*◌, ◌+◌, ◌-◌, ◌<◌, [], get_or, take, drop, ◌∙◌, arith}
use Rattle.sc_matrix.specs.Layout.{cut}
use Rattle.sc_matrix.proofs.LayoutLaws.{row_part}
use Rattle.sc_slots.specs.Rows.{parity_row}
use Rattle.sc_repair.specs.Equations.{Gives}
use Rattle.sc_repair.proofs.EquationSteps.{learns_same, refuses_same, learns_more, refuses_more}
use Rattle.sc_repair.proofs.equations.learn_parity.Goals as goal

pub returns-then-not-add_row-clause-refuses : goal.returns-then-not-add_row-clause-refuses
returns-then-not-add_row-clause-refuses c e =
    let code = c.args.code.now in
    let m = c.args.m in
    let j = c.loop-j.j in
    let parity = c.args.parity.now in
    let row = parity_row 0 1 code c.args.places c.args.place in
    let few = c.r-j-end.ensures.number in
    let lt : j < code.r = omega (arith, c.loop-j-test.true) in
    refuses_more (λ i s. Gives m (row i) (get_or (cut code.r m parity) i []) s) c.args.known.now c.loop-j.known j code.r lt c.loop-j.invariant.3
    (refuses_same c.loop-j.known c.loop-j.known.width m c.write_parity_row.new.row (row j) (take ((j * m + m) - j * m) (drop (j * m) parity)) (get_or (cut code.r m parity) j [])
    (c.loop-j.invariant.2 ∙ c.requires.width) c.write_parity_row.ensures (row_part code.r m parity j (j * m) (omega arith) lt)
    (c.add_row.ensures.refuses c.if-not-add_row.true))

pub loop-j-preserved : goal.loop-j-preserved
loop-j-preserved c =
    let code = c.args.code.now in
    let m = c.args.m in
    let j = c.loop-j.j in
    let parity = c.args.parity.now in
    let row = parity_row 0 1 code c.args.places c.args.place in
    let few = c.r-j-end.ensures.number in
    let lt : j < code.r = omega (arith, c.loop-j-test.true) in (
      c.add_row.ensures.row ∙ c.write_parity_row.auto.row ∙ c.loop-j.invariant.0,
      c.add_row.ensures.cols ∙ c.loop-j.invariant.1,
      c.add_row.ensures.width ∙ c.loop-j.invariant.2,
      learns_more (λ i s. Gives m (row i) (get_or (cut code.r m parity) i []) s) c.args.known.now c.loop-j.known c.add_row.new.self j c.loop-j.invariant.3
          (learns_same c.loop-j.known c.add_row.new.self c.loop-j.known.width m c.write_parity_row.new.row (row j) (take ((j * m + m) - j * m) (drop (j * m) parity)) (get_or (cut code.r m parity) j [])
          (c.loop-j.invariant.2 ∙ c.requires.width) c.write_parity_row.ensures (row_part code.r m parity j (j * m) (omega arith) lt)
          (c.add_row.ensures.learns c.if-not-add_row.false)),
    )
