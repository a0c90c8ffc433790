-- The number of ways to choose, by products that are divided without a rest.
use Rattle.std.proofs.Common.{◌≡◌, ℕ, zero as none, suc, ◌+◌, ◌-◌, ◌*◌, ◌/◌, ◌^◌, ◌<◌, ◌≤◌, refl, ap, ◌∙◌, arith, inl, inr, lit≤}
use Rattle.std.proofs.lemmas.Bool.{cases_lt}
use Rattle.std.proofs.Math.Nat.{mul-div_cancel_left, two-pow-succ, pow-le-pow_right}
use Rattle.std.proofs.lemmas.Nat.{pow_pos}
use Rattle.sc_channel.specs.Classes.{choose}

-- no more places can be chosen than there are
choose-past : (places n : ℕ) → places < n → choose places n ≡ 0
choose-past places none lt = absurd (omega arith)
choose-past none (suc n) lt = refl
choose-past (suc places) (suc n) lt = omega (arith, choose-past places n (omega arith), choose-past places (suc n) (omega arith))

pub choose-within : (places n : ℕ) → 0 < choose places n → n ≤ places
choose-within places none some = omega arith
choose-within none (suc n) some = absurd (omega arith)
choose-within (suc places) (suc n) some =
    elim (cases_lt places n) [
      | inl past ↦ absurd (omega (arith, choose-past (suc places) (suc n) (omega arith)))
      | inr within ↦ omega arith
    ]

choose-bound : (places n : ℕ) → choose places n ≤ 2 ^ places
choose-bound places none = pow_pos places
choose-bound none (suc n) = omega arith
choose-bound (suc places) (suc n) = omega (arith, two-pow-succ places, choose-bound places n, choose-bound places (suc n))

-- the rule of Pascal's row: each entry by the one before it
choose-row : (places n : ℕ) → suc n * choose places (suc n) + n * choose places n ≡ places * choose places n
choose-row none none = refl
choose-row none (suc n) = omega arith
choose-row (suc places) none = omega (arith, choose-row places none)
choose-row (suc places) (suc n) = omega (arith, choose-row places n, choose-row places (suc n))

-- each entry by the one above it
choose-column : (places n : ℕ) → suc n * choose (suc places) (suc n) ≡ suc places * choose places n
choose-column places n = omega (arith, choose-row places n)

-- the next entry of a row
choose-times : (places i rest : ℕ) → places ≡ i + rest → choose places i * rest ≡ suc i * choose places (suc i)
choose-times places i rest e = omega (arith, choose-row places i, ap (λ (p : ℕ). p * choose places i) e)

pub choose-next : (places i : ℕ) → i < places → choose places i * (places - i) / (i + 1) ≡ choose places (i + 1)
choose-next places i lt =
    let next : i + 1 ≡ suc i = omega arith in
    let product : choose places i * (places - i) ≡ suc i * choose places (suc i) = choose-times places i (places - i) (omega arith) in
    rw (next, product) (mul-div_cancel_left (choose places (suc i)) (omega arith))

-- of the ways to choose n of some places, how many have the first place
abbrev pub ways_with_first : ℕ → ℕ → ℕ
ways_with_first places none = 0
ways_with_first places (suc n) = choose places n

pub ways_with_first-is : (places n : ℕ) → choose (suc places) n * n / suc places ≡ ways_with_first places n
ways_with_first-is places none = let nothing : 1 * 0 ≡ suc places * 0 = omega arith in ap (λ (k : ℕ). k / suc places) nothing ∙ mul-div_cancel_left 0 (omega arith)
ways_with_first-is places (suc n) =
    let product : choose (suc places) (suc n) * suc n ≡ suc places * choose places n = omega (arith, choose-column places n) in
    rw product (mul-div_cancel_left (choose places n) (omega arith))

-- the number of ways to choose of at most 40 places, and that it fits where it is multiplied
pub choose-limit : (places n : ℕ) → places ≤ 40 → choose places n ≤ 1099511627776
choose-limit places n limit =
    let most : 2 ^ places ≤ 2 ^ 40 = pow-le-pow_right (lit≤ tt) limit in
    omega (arith, choose-bound places n, most)
