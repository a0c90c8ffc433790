-- A byte is the xor of its halves, so what is additive on bytes goes by two tables.
use Rattle.std.proofs.Common.{◌≡◌, ℕ, ◌+◌, ◌*◌, ◌/◌, ◌%◌, ◌^◌, ◌<◌, List, bit_xor, sym, ap, ap₂, ◌∙◌, arith}
use Rattle.std.specs.Int.Bits.{xor_shifted}
use Rattle.std.proofs.lemmas.Nat.{xor_comm}
use Rattle.sc_field.specs.Field.{IsAction}
use Rattle.sc_field.specs.Scale.{IsTableOf, IsByHalves}

halves : (b : ℕ) → bit_xor (1 * (b % 16)) (16 * (b / 16)) ≡ b
halves b =
    let one : 1 * (b % 16) ≡ b % 16 = omega arith in
    let shifted : 16 * (b / 16) ≡ (b / 16) * 2 ^ 4 = omega arith in
    let small : b % 16 < 2 ^ 4 = omega arith in
    let whole : (b / 16) * 2 ^ 4 + b % 16 ≡ b = omega arith in
    ap₂ bit_xor one shifted ∙ xor_comm (b % 16) ((b / 16) * 2 ^ 4) ∙ xor_shifted (b / 16) 4 (b % 16) small ∙ whole

pub IsByHalves-tables : {A : Type 0} {IsElement : A → Type 0} {zero one : A} {add mul : A → A → A} {act : A → ℕ → ℕ} → IsAction IsElement zero one add mul act
    → (c : A) (low high : List ℕ) → IsElement c → IsTableOf (act c) 1 low → IsTableOf (act c) 16 high → IsByHalves (act c) low high
IsByHalves-tables {act = act} laws c low high element p q b lt =
    ap (act c) (sym (halves b)) ∙ laws.of_xor c (1 * (b % 16)) (16 * (b / 16)) element (omega arith) (omega arith)
    ∙ sym (ap₂ bit_xor (p (b % 16) (omega arith)) (q (b / 16) (omega arith)))
