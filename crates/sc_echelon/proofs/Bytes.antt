-- The byte strings of one width are a module over a field whose elements act on bytes.
use Rattle.std.proofs.Common.{◌≡◌, ◌≢◌, ℕ, ◌<◌, List, get_or, replicate, ap, arith}
use Rattle.std.proofs.lemmas.List.{get_or-replicate}
use Rattle.sc_field.specs.Field.{IsAction}
use Rattle.sc_matrix.specs.Module.{IsModule}
use Rattle.sc_matrix.proofs.VectorLaws.{IsVector-replicate}
use Rattle.sc_matrix.proofs.Modules.{byte_module, vector_module}
use Rattle.sc_echelon.specs.Knowledge.{IsBytes, zero_bytes, xor_bytes, act_bytes}

pub bytes_module : {A : Type 0} {IsElement : A → Type 0} {zero one : A} {add mul : A → A → A} {act : A → ℕ → ℕ} → IsAction IsElement zero one add mul act → (w : ℕ) → IsModule IsElement zero one add mul (IsBytes w) (zero_bytes w) xor_bytes (act_bytes act)
bytes_module action w = vector_module (byte_module action) w

-- a byte string that isn't zero, where the width isn't 0
abbrev pub one_bytes : ℕ → List ℕ
one_bytes w = replicate w 1

pub one_bytes_value : (w : ℕ) → IsBytes w (one_bytes w)
one_bytes_value w = IsVector-replicate w 1 (omega arith)

not_both : (a b : ℕ) → a ≡ 1 → b ≡ 0 → a ≡ b → ⊥
not_both a b p q e = absurd (omega arith)

pub one_bytes-nonzero : (w : ℕ) → 0 < w → one_bytes w ≢ zero_bytes w
one_bytes-nonzero w h e =
    not_both (get_or (replicate w 1) 0 0) (get_or (replicate w 0) 0 0) (get_or-replicate w 0 1 0 h) (get_or-replicate w 0 0 0 h)
    (ap (λ (xs : List ℕ). get_or xs 0 0) e)
