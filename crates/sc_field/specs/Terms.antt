-- One row of bytes made of many: multiples of pieces of a source, added up.
use Rattle.std.specs.Prelude.{◌≡◌, ℕ, ◌+◌, ◌-◌, ◌<◌, ◌≤◌, Bool, List, length, take, drop, fold, bit_xor, slice_index, replicate, nat_lt, if◌then◌else◌}
use Rattle.sc_field.specs.Scale.{scaled_sum}

-- dst with terms added in turn. Each adds f of as many bytes of src as dst has, from the term's place on
abbrev pub combined : {T : Type 0} → (T → ℕ → ℕ) → (T → ℕ) → List T → List ℕ → List ℕ → List ℕ
combined f place terms dst src = fold (λ sum t. scaled_sum (f t) sum (take (length sum) (drop (place t) src))) dst terms

-- a term's bytes, from its place on, lie within those of src
abbrev pub IsWithin : ℕ → List ℕ → ℕ → Type 0
IsWithin width src at = at + width ≤ length src

-- what is summed into: dst as it was, or zeros
abbrev pub sum_from : Bool → List ℕ → List ℕ
sum_from fresh dst = if fresh then replicate (length dst) 0 else dst

-- the byte at place k of the sum, where x is the byte that it begins with
abbrev pub sum_at : {T : Type 0} → (T → ℕ → ℕ) → (T → ℕ) → List T → List ℕ → ℕ → ℕ → ℕ
sum_at f place terms src k x = fold (λ sum t. bit_xor sum (f t (slice_index src (place t + k)))) x terms

-- the places of a vector that has w bytes of the front of n bytes, and then the last w of them
abbrev pub two_ends : ℕ → ℕ → ℕ → ℕ
two_ends w n j = if nat_lt j w then j else (n - w) + (j - w)

-- the largest of 8, 4, 2 and 1 that is at most n
abbrev pub piece : ℕ → ℕ
piece n = if nat_lt n 2 then 1 else if nat_lt n 4 then 2 else if nat_lt n 8 then 4 else 8

-- of a vector of so many lanes the first m are f 0, f 1 and so on
pub record Lanes (v : List ℕ) (lanes m : ℕ) (f : ℕ → ℕ) : Type 0 where
  pub long : length v ≡ lanes
  pub each : (j : ℕ) → j < m → slice_index v j ≡ f j
