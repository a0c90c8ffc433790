use Rattle.std.proofs.Common.{◌≡◌, ℕ, ◌*◌, ◌+◌, List, max, ap, ap₂, subst, arith}
use Rattle.sc_field.specs.Gf256.{gf256_product}
use Rattle.sc_matrix.specs.Vector.{IsVector}
use Rattle.sc_echelon.specs.Knowledge.{IsSolution, IsBytes}
use Rattle.sc_repair.proofs.CallSteps.{Stands-start}
use Rattle.sc_repair.proofs.EquationSteps.{few_bytes}
use Rattle.sc_repair.proofs.repairer.Repairer.start_by.Goals as goal

pub start-requires-clause-small : goal.start-requires-clause-small
start-requires-clause-small c =
    let most = c.max-places.ensures in
    let lags = c.memory-memory.ensures.number in
    let limit = c.k-k.ensures.limits.in_range.lag_limit in
    let k = c.k-k.ensures.number in
    let m = c.from-width.ensures in
    let same = ap₂ (λ (a b : ℕ). a * b) k m in
    let small = c.requires.small in
    let deadline = c.requires.deadline in
    few_bytes (c.max-places.result + 1) c.k-k.result c.from-width.result (omega arith) (omega arith)

pub returns-clause-stands : goal.returns-clause-stands
returns-clause-stands c =
    let most = c.max-places.ensures in
    let cols : (c.max-places.result + 1) * c.k-k.result ≡ (max c.memory-memory.result c.args.deadline + 1) * c.k-k.result = ap (λ (x : ℕ). (x + 1) * c.k-k.result) most in
    let width : c.from-width.result ≡ c.args.m = c.from-width.ensures in
    Stands-start c.k-k.result c.r.result c.memory-memory.result c.args.deadline c.args.m c.in_ok-known.known c.in_ok-block.block.items c.in_ok-own.own
    (subst (λ (n : ℕ). (symbols : List (List ℕ)) → IsVector (IsBytes c.args.m) n symbols → IsSolution gf256_product c.in_ok-known.known symbols) cols
    (subst (λ (m : ℕ). (symbols : List (List ℕ)) → IsVector (IsBytes m) ((c.max-places.result + 1) * c.k-k.result) symbols → IsSolution gf256_product c.in_ok-known.known symbols) width c.in_ok-known.ensures.any))
