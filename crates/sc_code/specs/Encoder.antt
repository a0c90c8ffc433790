-- What an encoder keeps, and the streams that it stands for.
use Rattle.std.specs.Prelude.{◌≡◌, ℕ, ◌*◌, ◌-◌, ◌≤◌, List, length, map, drop, refl}
use Rattle.std.specs.Coded.{Coded, code_by, coded×, coded_ℕ, coded_list}
use Rattle.sc_matrix.specs.Layout.{cut}
use Rattle.sc_code.specs.Code.{Code, code_code, IsCode}
use Rattle.sc_code.specs.Parity.{last_blocks}
use Rattle.sc_code.specs.Ring.{Ring, blocks_of}
use Rattle.sc_code.specs.Sum.{Sum, AreSums}

-- the code and the width that it was started with, and the last blocks, as many as the greatest lag, the oldest first
pub record Encoder (A : Type 0) : Type 0 where
  pub code : Code A
  pub width : ℕ
  pub kept : List (List (List ℕ))

-- an encoder is stored as the tuple of its fields
abbrev pub encoder_code : {A : Type 0} → Coded A → Coded (Encoder A)
encoder_code {A} code =
    code_by (Code A × (ℕ × List (List (List ℕ)))) (coded× (code_code code) (coded× coded_ℕ (coded_list (coded_list (coded_list coded_ℕ))))) (λ e. (e.code, (e.width, e.kept)))
    (λ p. record { code = p.0; width = p.1.0; kept = p.1.1 }) (λ _. refl)

-- An encoder stands for every stream that ends in its kept blocks, with zero blocks in front where it has fewer.
abbrev pub StandsFor : {A : Type 0} → Encoder A → List (List (List ℕ)) → Type 0
StandsFor e stream = e.kept ≡ last_blocks e.code.k e.width (length e.code.lags - 1) stream

-- the kept blocks: all in the ring but the oldest, which is no longer needed
abbrev pub kept_in : ℕ → ℕ → Ring → List (List (List ℕ))
kept_in k m ring = map (cut k m) (drop 1 (blocks_of ring))

-- the ring has as many blocks as there are lags, each of k symbols of m bytes, and the sums are those of the code
pub record IsPrepared {A : Type 0} (IsElement : A → Type 0) (zero : A) (act : A → ℕ → ℕ) (code : Code A) (m : ℕ) (ring : Ring) (sums : List (Sum A)) : Type 0 where
  pub is_code : IsCode IsElement code
  pub some : 1 ≤ m
  pub small : code.k * m ≤ 65503
  pub size : ring.size ≡ code.k * m
  pub count : length ring.places ≡ length code.lags
  pub are_sums : AreSums zero act code m sums
