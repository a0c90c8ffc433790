use Rattle.std.proofs.Common.{◌≡◌, ℕ, ◌*◌, ◌+◌, ◌-◌, List, [], length, get_or, set, sym, ap, ◌∙◌, subst, arith, inl, inr}
use Rattle.std.proofs.lemmas.Bool.{cases_lt}
use Rattle.std.proofs.lemmas.List.{get_or-set_same, get_or-set_other}
use borrow.Rule.Slice.PartMut.{put_mid}
use Rattle.sc_field.specs.Gf256.{gf256_product}
use Rattle.sc_matrix.specs.Layout.{cut}
use Rattle.sc_matrix.proofs.LayoutLaws.{row_within, row_part, length-row, length-cut, cut-put_mid, length-put_mid}
use Rattle.sc_echelon.specs.Knowledge.{IsValueAt}
use Rattle.sc_repair.proofs.equations.read_block.Goals as goal

pub loop-i-preserved : goal.loop-i-preserved
loop-i-preserved c =
    let k = c.args.k in
    let m = c.args.m in
    let i = c.loop-i.i in
    let known = c.args.known.now in
    let old = c.loop-i.block in
    let bytes = c.copy_from_slice-in-Some-value_of.new.self in
    let width : (i * m + m) - i * m ≡ m = omega arith in
    let room = row_within k m i c.loop-i-test.true in
    let count : length old ≡ k * m = c.loop-i.invariant.0 ∙ c.requires.block in
    let long : length bytes ≡ m = c.copy_from_slice-in-Some-value_of.ensures.len ∙ ap length (row_part k m old i (i * m) (omega arith) c.loop-i-test.true) ∙ length-row k m old i count c.loop-i-test.true in
    let written : cut k m (put_mid (i * m) ((i * m + m) - i * m) old bytes) ≡ set (cut k m old) i bytes =
    ap (λ (n : ℕ). cut k m (put_mid (i * m) n old bytes)) width ∙ cut-put_mid k m old i bytes count c.loop-i-test.true long in (
      length-put_mid (i * m) ((i * m + m) - i * m) old bytes (omega arith) (long ∙ sym width) ∙ c.loop-i.invariant.0,
      λ j lt. elim (cases_lt j i) [
        | inl low ↦
            let kept : get_or (cut k m old) j [] ≡ get_or (cut k m (put_mid (i * m) ((i * m + m) - i * m) old bytes)) j [] =
            sym (ap (λ (l : List (List ℕ)). get_or l j []) written ∙ get_or-set_other (cut k m old) i j bytes [] (λ e. (let same : i ≡ j = sym e in absurd (omega arith)))) in
            subst (λ (b : List ℕ). IsValueAt gf256_product known (c.args.place * k + j) b) kept (c.loop-i.invariant.1 j low)
        | inr high ↦
            let same : i ≡ j = omega arith in
            let here : c.in-Some-value_of.bytes.now ≡ get_or (cut k m (put_mid (i * m) ((i * m + m) - i * m) old bytes)) i [] =
            sym (ap (λ (l : List (List ℕ)). get_or l i []) written ∙ get_or-set_same (cut k m old) i bytes [] (omega (arith, length-cut k m old, c.loop-i-test.true)) ∙ c.copy_from_slice-in-Some-value_of.ensures.after) in
            subst (λ (x : ℕ). IsValueAt gf256_product known (c.args.place * k + x) (get_or (cut k m (put_mid (i * m) ((i * m + m) - i * m) old bytes)) x [])) same
            (subst (λ (b : List ℕ). IsValueAt gf256_product known (c.args.place * k + i) b) here c.in-Some-value_of.ensures)
      ],
    )
