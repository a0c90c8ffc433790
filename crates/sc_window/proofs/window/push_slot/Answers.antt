use Rattle.std.proofs.Common.{◌≡◌, length, map, sym, ap, ◌∙◌, arith}
use Rattle.std.proofs.lemmas.List.{length-map}
use Rattle.std.proofs.lemmas.List.Elements.{All-same}
use Rattle.std.proofs.lemmas.List.Sums.{count_by-le-length}
use Rattle.sc_field.specs.Field.{IsNumber}
use Rattle.sc_channel.specs.Flags.{set_count}
use Rattle.sc_matrix.specs.Matrix.{row_count}
use Rattle.sc_window.specs.Rows.{window_row}
use Rattle.sc_window.proofs.WindowSteps.{window_row-elements}
use Rattle.sc_window.proofs.RowSteps.{length-window_row, rows_so_far, rows_more, are_numbers, elements_again, slot_room}
use Rattle.sc_window.proofs.window.push_slot.Goals as goal

pub push_row-requires-clause-width : goal.push_row-requires-clause-width
push_row-requires-clause-width g c =
    let row = window_row g.F.Field.zero c.args.code.now c.args.t c.loop-j.j 0 c.args.class.now in
    ap length (c.as_slice.ensures.value ∙ c.in_ok-write_row.ensures) ∙ length-map row g.F.Field.number
    ∙ length-window_row g.F.Field.zero c.args.code.now c.args.t c.loop-j.j 0 c.args.class.now
    ∙ sym c.requires.cols ∙ sym (ap (λ m. m.cols) c.loop-j.invariant)

pub push_row-requires-clause-numbers : goal.push_row-requires-clause-numbers
push_row-requires-clause-numbers g c =
    let row = window_row g.F.Field.zero c.args.code.now c.args.t c.loop-j.j 0 c.args.class.now in
    All-same (IsNumber g.F.Field.IsElement g.F.Field.number g.F.Field.element) c.as_slice.result.now (map g.F.Field.number row) (c.as_slice.ensures.value ∙ c.in_ok-write_row.ensures)
    (are_numbers g.met.F.Field.numbered row
    (window_row-elements g.met.F.Field.field c.args.code.now c.args.t c.loop-j.j 0 c.args.class.now c.r-j-end.ensures.limits))

pub push_row-requires-clause-small : goal.push_row-requires-clause-small
push_row-requires-clause-small g c =
    let code = c.args.code.now in
    let class = c.args.class.now in
    (slot_room code.k code.r (length code.lags) (length class) (set_count class) c.args.t c.loop-j.j (row_count c.args.matrix.now) (row_count c.loop-j.matrix) c.loop-j.matrix.cols
    c.r-j-end.ensures.limits.in_range (count_by-le-length (λ flag. flag) class) c.requires.few c.requires.slot (omega (arith, c.r-j-end.ensures.number)) c.requires.room
    (rows_so_far g.F.Field.zero code class c.args.t c.loop-j.j c.args.matrix.now c.loop-j.matrix c.loop-j.invariant) (ap (λ m. m.cols) c.loop-j.invariant ∙ c.requires.cols)).small

pub push_row-requires-clause-counts : goal.push_row-requires-clause-counts
push_row-requires-clause-counts g c =
    let code = c.args.code.now in
    let class = c.args.class.now in
    let few =
    (slot_room code.k code.r (length code.lags) (length class) (set_count class) c.args.t c.loop-j.j (row_count c.args.matrix.now) (row_count c.loop-j.matrix) c.loop-j.matrix.cols
    c.r-j-end.ensures.limits.in_range (count_by-le-length (λ flag. flag) class) c.requires.few c.requires.slot (omega (arith, c.r-j-end.ensures.number)) c.requires.room
    (rows_so_far g.F.Field.zero code class c.args.t c.loop-j.j c.args.matrix.now c.loop-j.matrix c.loop-j.invariant) (ap (λ m. m.cols) c.loop-j.invariant ∙ c.requires.cols)).few in
    omega arith

pub loop-j-preserved : goal.loop-j-preserved
loop-j-preserved g c =
    let zero = g.F.Field.zero in
    let code = c.args.code.now in
    let class = c.args.class.now in
    let row = window_row zero code c.args.t c.loop-j.j 0 class in
    let same : map g.F.Field.element c.as_slice.result.now ≡ row =
    ap (map g.F.Field.element) (c.as_slice.ensures.value ∙ c.in_ok-write_row.ensures)
    ∙ elements_again g.met.F.Field.numbered row (window_row-elements g.met.F.Field.field code c.args.t c.loop-j.j 0 class c.r-j-end.ensures.limits) in
    c.in_ok-push_row.ensures.pushed ∙ rows_more zero code class c.args.t c.loop-j.j c.args.matrix.now c.loop-j.matrix c.loop-j.invariant (map g.F.Field.element c.as_slice.result.now) same
