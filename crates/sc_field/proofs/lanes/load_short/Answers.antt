use Rattle.std.proofs.Common.{ℕ, ◌+◌, ◌<◌, ◌≤◌, slice_index, ◌∙◌, subst, arith}
use Rattle.sc_field.specs.Terms.{Lanes, two_ends}
use Rattle.sc_field.proofs.Making.{two_loaded, one_loaded, piece_eight, piece_four, piece_two, piece_one, piece_fits, piece_below_eight, piece_below_four, piece_below_two}
use Rattle.sc_field.proofs.lanes.load_short.Goals.{then-width-ge8, else-width-ge8, then-width-ge4, else-width-ge4, then-width-ge2, else-width-ge2}
use Rattle.sc_field.proofs.lanes.load_short.Goals as goal

pub returns : goal.returns
returns c =
    let at = c.args.at in
    let n = c.args.n in
    let s = c.args.s.now in
    let v = c.if-width-ge8.result in
    let room = c.requires.room in
    let is = c.requires.width in
    let fits = piece_fits n c.requires.short.0 c.requires.short.1 in
    let le : c.args.width ≤ n = omega (arith, fits.0, is) in
    let holds = λ (w : ℕ). Lanes v 16 (w + w) (λ j. slice_index s (at + two_ends w n j)) in
    elim c.if-width-ge8.branch [
      | then-width-ge8 w ↦
          let ge : 8 ≤ n = omega (arith, le, w.if-width-ge8.true) in
          subst holds (piece_eight n ge) (two_loaded 8 16 at n s v ge room (omega arith) w.result-is)
      | else-width-ge8 w ↦
          let lt : n < 8 = piece_below_eight n (omega (arith, is, w.if-width-ge8.false)) in
          elim w.if-width-ge4.branch [
            | then-width-ge4 u ↦
                let ge : 4 ≤ n = omega (arith, le, u.if-width-ge4.true) in
                subst holds (piece_four n ge lt) (two_loaded 4 16 at n s v ge room (omega arith) (w.result-is ∙ u.result-is))
            | else-width-ge4 u ↦
                let few : n < 4 = piece_below_four n (omega (arith, is, u.if-width-ge4.false)) in
                elim u.if-width-ge2.branch [
                  | then-width-ge2 t ↦
                      let ge : 2 ≤ n = omega (arith, le, t.if-width-ge2.true) in
                      subst holds (piece_two n ge few) (two_loaded 2 16 at n s v ge room (omega arith) (w.result-is ∙ u.result-is ∙ t.result-is))
                  | else-width-ge2 t ↦
                      let one : n < 2 = piece_below_two n (omega (arith, is, t.if-width-ge2.false)) in
                      subst holds (piece_one n one) (one_loaded 16 at n s v c.requires.short.0 one (omega arith) (w.result-is ∙ u.result-is ∙ t.result-is))
                ]
          ]
    ]
