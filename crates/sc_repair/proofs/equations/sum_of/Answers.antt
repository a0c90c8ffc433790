use Rattle.std.proofs.Common.{◌≡◌, ℕ, ◌+◌, ◌*◌, ◌≤◌, List, replicate, length, sym, ap, ◌∙◌, subst, arith}
use Rattle.std.proofs.lemmas.List.{length-replicate}
use Rattle.sc_matrix.proofs.LayoutLaws.{items_written}
use Rattle.sc_repair.proofs.EquationSteps.{few_bytes}
use Rattle.sc_repair.proofs.equations.sum_of.Goals as goal

pub of-requires : goal.of-requires
of-requires c =
    let m = c.args.m in
    let lags = c.memory-lags.result + 1 in
    let k = c.k.result in
    let row = c.in_ok-row.row in
    let start : row.items ≡ replicate (lags * k) 0 = c.in_ok-row.ensures.items_if_clones_equal (λ y e. e) ∙ ap (replicate (lags * k)) c.zero.ensures.value in
    let long : length c.write_parity_row.new.row ≡ length row.items = c.write_parity_row.auto.row ∙ ap length c.as_mut_slice.ensures.value in
    let items = items_written row c.write_parity_row.new.row long in
    let same : k ≡ c.args.code.now.k = c.k.ensures.number in
    let small : k * m ≤ 65503 = subst (λ (x : ℕ). x * m ≤ 65503) (sym same) c.requires.small in
    let few = c.memory-lags.ensures.number in
    let limit = c.k.ensures.limits.in_range.lag_limit in
    let count : length row.items ≡ lags * k = ap length start ∙ length-replicate (lags * k) 0 in
    subst (λ (xs : List ℕ). length xs * m ≤ 67108864) (sym items) (subst (λ (x : ℕ). x * m ≤ 67108864) (sym (long ∙ count)) (few_bytes lags k m (omega arith) small))
