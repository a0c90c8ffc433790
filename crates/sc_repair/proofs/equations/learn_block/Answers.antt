use Rattle.std.proofs.Common.{ℕ, ◌*◌, ◌+◌, ◌-◌, [], get_or, set, take, drop, replicate, ap, ◌∙◌, arith}
use Rattle.sc_matrix.specs.Layout.{cut}
use Rattle.sc_matrix.proofs.LayoutLaws.{row_part}
use Rattle.sc_slots.specs.Rows.{symbol_row}
use Rattle.sc_repair.specs.Equations.{Gives}
use Rattle.sc_repair.proofs.EquationSteps.{symbol_row_is, learns_same, refuses_same, learns_more, refuses_more}
use Rattle.sc_repair.proofs.RunSteps.{learns_block}
use Rattle.sc_repair.proofs.equations.learn_block.Goals as goal

pub returns-then-not-learn_symbol-clause-refuses : goal.returns-then-not-learn_symbol-clause-refuses
returns-then-not-learn_symbol-clause-refuses c e =
    let k = c.args.k in
    let m = c.args.m in
    let n = c.args.places in
    let place = c.args.place in
    let i = c.loop-i.i in
    let block = c.args.block.now in
    refuses_more (λ j s. Gives m (symbol_row 0 1 k n place j) (get_or (cut k m block) j []) s) c.args.known.now c.loop-i.known i k c.loop-i-test.true c.loop-i.invariant.3
    (refuses_same c.loop-i.known c.loop-i.known.width m (set (replicate c.loop-i.known.cols 0) (place * k + i) 1) (symbol_row 0 1 k n place i) (take ((i * m + m) - i * m) (drop (i * m) block)) (get_or (cut k m block) i [])
    (c.loop-i.invariant.2 ∙ c.requires.width)
    (ap (λ (x : ℕ). set (replicate x 0) (place * k + i) 1) (c.loop-i.invariant.1 ∙ c.requires.cols) ∙ symbol_row_is k n place i c.requires.place c.loop-i-test.true)
    (row_part k m block i (i * m) (omega arith) c.loop-i-test.true)
    (c.learn_symbol.ensures.refuses c.if-not-learn_symbol.true))

pub loop-i-preserved : goal.loop-i-preserved
loop-i-preserved c =
    let k = c.args.k in
    let m = c.args.m in
    let n = c.args.places in
    let place = c.args.place in
    let i = c.loop-i.i in
    let block = c.args.block.now in (
      c.learn_symbol.ensures.row ∙ c.loop-i.invariant.0,
      c.learn_symbol.ensures.cols ∙ c.loop-i.invariant.1,
      c.learn_symbol.ensures.width ∙ c.loop-i.invariant.2,
      learns_more (λ j s. Gives m (symbol_row 0 1 k n place j) (get_or (cut k m block) j []) s) c.args.known.now c.loop-i.known c.learn_symbol.new.known i c.loop-i.invariant.3
          (learns_same c.loop-i.known c.learn_symbol.new.known c.loop-i.known.width m (set (replicate c.loop-i.known.cols 0) (place * k + i) 1) (symbol_row 0 1 k n place i) (take ((i * m + m) - i * m) (drop (i * m) block)) (get_or (cut k m block) i [])
          (c.loop-i.invariant.2 ∙ c.requires.width)
          (ap (λ (x : ℕ). set (replicate x 0) (place * k + i) 1) (c.loop-i.invariant.1 ∙ c.requires.cols) ∙ symbol_row_is k n place i c.requires.place c.loop-i-test.true)
          (row_part k m block i (i * m) (omega arith) c.loop-i-test.true)
          (c.learn_symbol.ensures.learns c.if-not-learn_symbol.false)),
    )

pub returns-then-store_all-clause-learns : goal.returns-then-store_all-clause-learns
returns-then-store_all-clause-learns c e =
    learns_block c.args.known.now c.store_all.new.self c.args.k c.args.m c.args.places c.args.place c.args.block.now c.requires.place c.requires.cols c.requires.width (c.store_all.ensures.stores c.if-store_all.true)
