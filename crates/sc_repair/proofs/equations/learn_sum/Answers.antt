use Rattle.std.proofs.Common.{◌≡◌, ℕ, ◌+◌, ◌-◌, ◌*◌, ◌≤◌, [], get_or, take, drop, length, sym, ap, ap₂, ◌∙◌, subst, arith}
use Rattle.sc_matrix.specs.Layout.{cut}
use Rattle.sc_matrix.proofs.LayoutLaws.{row_part}
use Rattle.sc_slots.specs.Rows.{parity_row}
use Rattle.sc_repair.specs.Sum.{RowSum, placed, own_sum}
use Rattle.sc_repair.proofs.EquationSteps.{learns_same, refuses_same}
use Rattle.sc_repair.proofs.SumSteps.{own_room, own_placed}
use Rattle.sc_repair.proofs.equations.learn_sum.Goals as goal

pub add_sum-requires-clause-room : goal.add_sum-requires-clause-room
add_sum-requires-clause-room c =
    let code = c.args.code.now in
    let place = c.args.place in
    let j = c.args.j in
    let x = c.index-sums-j.result in
    let is : x ≡ own_sum code c.args.m j = c.index-sums-j.is ∙ c.requires.sums.each j x c.requires.symbol in
    let memory : c.memory.result ≡ length code.lags - 1 = (let n = c.memory.ensures.number in omega arith) in
    let some : 1 ≤ length code.lags = (let n = c.memory.ensures.number in omega arith) in
    subst (λ (s : RowSum). (place - c.memory.result) * c.k.result + length s.row ≤ c.args.known.now.cols) (sym is)
    (subst (λ (n : ℕ). (place - c.memory.result) * c.k.result + length (own_sum code c.args.m j).row ≤ n) (sym c.requires.cols)
    (subst (λ (k : ℕ). (place - c.memory.result) * k + length (own_sum code c.args.m j).row ≤ c.args.places * code.k) (sym c.k.ensures.number)
    (subst (λ (n : ℕ). (place - n) * code.k + length (own_sum code c.args.m j).row ≤ c.args.places * code.k) (sym memory)
    (own_room code c.args.places place j some c.requires.reaches c.requires.place))))

pub returns-clause-learns : goal.returns-clause-learns
returns-clause-learns c yes' =
    let code = c.args.code.now in
    let place = c.args.place in
    let m = c.args.m in
    let j = c.args.j in
    let parity = c.args.parity.now in
    let known = c.args.known.now in
    let x = c.index-sums-j.result in
    let is : x ≡ own_sum code m j = c.index-sums-j.is ∙ c.requires.sums.each j x c.requires.symbol in
    let memory : c.memory.result ≡ length code.lags - 1 = (let n = c.memory.ensures.number in omega arith) in
    let some : 1 ≤ length code.lags = (let n = c.memory.ensures.number in omega arith) in
    let row : placed known.cols ((place - c.memory.result) * c.k.result) x.row ≡ parity_row 0 1 code c.args.places place j =
    ap (λ (n : ℕ). placed n ((place - c.memory.result) * c.k.result) x.row) c.requires.cols ∙ ap₂ (λ (a b : ℕ). placed (c.args.places * code.k) ((place - a) * b) x.row) memory c.k.ensures.number
    ∙ ap (λ (s : RowSum). placed (c.args.places * code.k) ((place - (length code.lags - 1)) * code.k) s.row) is ∙ own_placed code c.args.places place j some c.requires.reaches c.requires.place in
    learns_same known c.add_sum.new.self known.width m (placed known.cols ((place - c.memory.result) * c.k.result) x.row) (parity_row 0 1 code c.args.places place j) (take ((j * m + m) - j * m) (drop (j * m) parity)) (get_or (cut code.r m parity) j [])
    c.requires.width row (row_part code.r m parity j (j * m) (omega arith) c.requires.symbol) (c.add_sum.ensures.learns yes')

pub returns-clause-refuses : goal.returns-clause-refuses
returns-clause-refuses c no' =
    let code = c.args.code.now in
    let place = c.args.place in
    let m = c.args.m in
    let j = c.args.j in
    let parity = c.args.parity.now in
    let known = c.args.known.now in
    let x = c.index-sums-j.result in
    let is : x ≡ own_sum code m j = c.index-sums-j.is ∙ c.requires.sums.each j x c.requires.symbol in
    let memory : c.memory.result ≡ length code.lags - 1 = (let n = c.memory.ensures.number in omega arith) in
    let some : 1 ≤ length code.lags = (let n = c.memory.ensures.number in omega arith) in
    let row : placed known.cols ((place - c.memory.result) * c.k.result) x.row ≡ parity_row 0 1 code c.args.places place j =
    ap (λ (n : ℕ). placed n ((place - c.memory.result) * c.k.result) x.row) c.requires.cols ∙ ap₂ (λ (a b : ℕ). placed (c.args.places * code.k) ((place - a) * b) x.row) memory c.k.ensures.number
    ∙ ap (λ (s : RowSum). placed (c.args.places * code.k) ((place - (length code.lags - 1)) * code.k) s.row) is ∙ own_placed code c.args.places place j some c.requires.reaches c.requires.place in
    refuses_same known known.width m (placed known.cols ((place - c.memory.result) * c.k.result) x.row) (parity_row 0 1 code c.args.places place j) (take ((j * m + m) - j * m) (drop (j * m) parity)) (get_or (cut code.r m parity) j [])
    c.requires.width row (row_part code.r m parity j (j * m) (omega arith) c.requires.symbol) (c.add_sum.ensures.refuses no')
