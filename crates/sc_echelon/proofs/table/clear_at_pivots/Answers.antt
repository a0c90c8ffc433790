use Rattle.std.proofs.Common.{◌≡◌, ◌+◌, ◌-◌, bit_xor, length, get_or, refl, sym, ◌∙◌, ap, arith}
use Rattle.sc_echelon.specs.Steps.{reduce}
use Rattle.sc_echelon.specs.Storage.{table_of}
use Rattle.sc_echelon.specs.Knowledge.{xor_bytes, act_bytes}
use Rattle.sc_echelon.proofs.Bytes.{bytes_module}
use Rattle.sc_echelon.proofs.Skipped.{reduce-zeros}
use Rattle.sc_echelon.proofs.StoredSteps.{slot_on, slot_off, reduce_on, reduce_off, width_at, plus_width, plus_right}
use Rattle.sc_echelon.proofs.table.clear_at_pivots.Goals as goal
use Rattle.sc_echelon.proofs.table.clear_at_pivots.Goals.{then-used-k, else-used-k}

pub clear_by-requires-clause-coeffs : goal.clear_by-requires-clause-coeffs
clear_by-requires-clause-coeffs g c =
    c.loop-k.invariant.width ∙ c.requires.width ∙ sym (width_at (λ r. length r.coeffs) (length c.args.used.now) c.args.rows.now c.loop-k.k c.index-rows-k.result (omega arith) c.index-rows-k.is c.requires.widths)

pub clear_by-requires-clause-right : goal.clear_by-requires-clause-right
clear_by-requires-clause-right g c =
    c.loop-k.invariant.right ∙ sym (width_at (λ r. length r.right) (length c.args.work.now.right) c.args.rows.now c.loop-k.k c.index-rows-k.result (omega arith) c.index-rows-k.is c.requires.rights)

pub clear_by-requires-clause-one : goal.clear_by-requires-clause-one
clear_by-requires-clause-one g c =
    c.requires.ones c.loop-k.k c.index-rows-k.result (slot_on c.args.used.now c.args.rows.now c.requires.count c.loop-k.k c.index-rows-k.result (omega arith) c.if-used-k.true c.index-rows-k.is)

pub loop-k-preserved : goal.loop-k-preserved
loop-k-preserved g c =
    let zero = g.F.Field.zero in
    let add = g.F.Field.add in
    let sub = g.F.Field.sub in
    let mul = g.F.Field.mul in
    let act = act_bytes g.F.Field.act in
    let used = c.args.used.now in
    let rows = c.args.rows.now in
    let t = table_of used rows in
    let k = c.loop-k.k in
    elim c.if-used-k.branch [
      | then-used-k w ↦
          (let r = w.index-rows-k.result in
          let x = sub zero (get_or c.loop-k.work.coeffs k zero) in
          let made = w.work-is ∙ w.clear_by.ensures in
          let a = c.loop-k.invariant.width ∙ c.requires.width ∙ sym (width_at (λ s. length s.coeffs) (length used) rows k r (omega arith) w.index-rows-k.is c.requires.widths) in
          let b = c.loop-k.invariant.right ∙ sym (width_at (λ s. length s.right) (length c.args.work.now.right) rows k r (omega arith) w.index-rows-k.is c.requires.rights) in
          record {
            value = reduce_on zero add sub mul xor_bytes act t c.args.work.now c.loop-k.work r c.if-used-k.work k x (slot_on used rows c.requires.count k r (omega arith) w.if-used-k.true w.index-rows-k.is) c.loop-k.invariant.value refl made;
            width = ap (λ s. length s.coeffs) made ∙ plus_width add mul xor_bytes act c.loop-k.work x r a ∙ c.loop-k.invariant.width;
            right = ap (λ s. length s.right) made ∙ plus_right add mul bit_xor g.F.Field.act c.loop-k.work x r b ∙ c.loop-k.invariant.right;
            within = omega arith;
          })
      | else-used-k w ↦ record {
        value = reduce_off zero add sub mul xor_bytes act t c.args.work.now c.loop-k.work c.if-used-k.work k (slot_off used rows c.requires.count k c.args.work.now (omega arith) w.if-used-k.false) c.loop-k.invariant.value w.work-is;
        width = ap (λ s. length s.coeffs) w.work-is ∙ c.loop-k.invariant.width;
        right = ap (λ s. length s.right) w.work-is ∙ c.loop-k.invariant.right;
        within = omega arith;
      }
    ]

-- the columns before the row's first touched one
pub loop-k-init : goal.loop-k-init
loop-k-init g c =
    let F = g.F.Field in
    let q = c.args.work.now in
    let width = c.requires.width in
    let from = c.from-k.ensures in
    let within = from.within in
    let start : 0 + c.from-k.result ≡ c.from-k.result = omega arith in
    record {
      value =
          reduce-zeros g.met.F.Field.field (bytes_module g.met.F.Field.action (length q.right)) (length c.args.used.now) (table_of c.args.used.now c.args.rows.now) q q 0 c.from-k.result c.requires.elements
          (record { width = width; elements = c.known.ensures.elements; value = record { width = refl; entries = c.known.ensures.bytes } })
          refl (λ j a b. from.zeros j (omega arith))
          ∙ ap (λ i. reduce F.zero F.add F.sub F.mul xor_bytes (act_bytes F.act) (table_of c.args.used.now c.args.rows.now) i q) start;
      width = refl;
      right = refl;
      within = omega arith;
    }

-- and those from its last touched one on
pub returns-clause-value : goal.returns-clause-value
returns-clause-value g c =
    let F = g.F.Field in
    let q = c.args.work.now in
    let m = c.loop-k.work in
    let k = c.loop-k.k in
    let n = length c.args.used.now in
    let h = c.loop-k.invariant in
    let within = h.within in
    let past = c.loop-k-test.false in
    let rest : k + (n - k) ≡ n = omega arith in
    reduce-zeros g.met.F.Field.field (bytes_module g.met.F.Field.action (length q.right)) n (table_of c.args.used.now c.args.rows.now) q m k (n - k) c.requires.elements
    (record { width = h.width ∙ c.requires.width; elements = c.known-2.ensures.elements; value = record { width = h.right; entries = c.known-2.ensures.bytes } })
    h.value (λ j a b. c.end.ensures.zeros j (omega arith))
    ∙ ap (λ i. reduce F.zero F.add F.sub F.mul xor_bytes (act_bytes F.act) (table_of c.args.used.now c.args.rows.now) i q) rest
