use Rattle.std.proofs.Common.{◌≡◌, ℕ, ◌*◌, List, Bool, true, false, replicate, length, sym, ap, ◌∙◌, subst}
use Rattle.std.proofs.lemmas.List.{length-replicate}
use Rattle.sc_field.specs.Gf256.{gf256_product}
use Rattle.sc_echelon.specs.Knowledge.{Knowledge, IsSolution, nothing_known}
use Rattle.sc_repair.specs.Columns.{IsRoomyColumns, all_known}
use Rattle.sc_repair.proofs.ColumnSteps.{columns_start, any_at_start, quiet_start}
use Rattle.sc_repair.proofs.columns.Columns.start.Goals as goal

pub invariant_of-result : goal.invariant_of-result
invariant_of-result c =
    let n = c.args.cols in
    let w = c.args.width in
    let known = c.in_ok-known.known in
    let k : known ≡ nothing_known n w = c.in_ok-known.ensures in
    let whole : c.in_ok-whole.whole.items ≡ replicate n false = c.in_ok-whole.ensures.items_if_clones_equal (λ y e. e) in
    let free : c.in_ok-free.free.items ≡ replicate n true = c.in_ok-free.ensures.items_if_clones_equal (λ y e. e) in
    let bytes : c.in_ok-bytes.bytes ≡ replicate (n * w) 0 = c.in_ok-bytes.ensures in
    let sum : c.in_ok-sum.sum.items ≡ replicate w 0 = c.in_ok-sum.ensures.items_if_clones_equal (λ y e. e) in
    subst (λ (x : Knowledge ℕ). IsRoomyColumns x false c.in_ok-whole.whole.items c.in_ok-free.free.items c.in_ok-bytes.bytes c.in_ok-sum.sum.items) (sym k)
    (subst (λ (x : List Bool). IsRoomyColumns (nothing_known n w) false x c.in_ok-free.free.items c.in_ok-bytes.bytes c.in_ok-sum.sum.items) (sym whole)
    (subst (λ (x : List Bool). IsRoomyColumns (nothing_known n w) false (replicate n false) x c.in_ok-bytes.bytes c.in_ok-sum.sum.items) (sym free)
    (subst (λ (x : List ℕ). IsRoomyColumns (nothing_known n w) false (replicate n false) (replicate n true) x c.in_ok-sum.sum.items) (sym bytes)
    (record { columns = columns_start n w c.requires.width; quiet = λ _. quiet_start n w; sum_count = ap length sum ∙ length-replicate w 0 }))))

pub returns-clause-any : goal.returns-clause-any
returns-clause-any c vs values =
    let n = c.args.cols in
    let w = c.args.width in
    let k : c.in_ok-known.known ≡ nothing_known n w = c.in_ok-known.ensures in
    let whole : c.in_ok-whole.whole.items ≡ replicate n false = c.in_ok-whole.ensures.items_if_clones_equal (λ y e. e) in
    let bytes : c.in_ok-bytes.bytes ≡ replicate (n * w) 0 = c.in_ok-bytes.ensures in
    subst (λ (x : Knowledge ℕ). IsSolution gf256_product (all_known x c.in_ok-whole.whole.items c.in_ok-bytes.bytes) vs) (sym k)
    (subst (λ (x : List Bool). IsSolution gf256_product (all_known (nothing_known n w) x c.in_ok-bytes.bytes) vs) (sym whole)
    (subst (λ (x : List ℕ). IsSolution gf256_product (all_known (nothing_known n w) (replicate n false) x) vs) (sym bytes) (any_at_start n w vs values)))
