-- Laws of the parities of streams, and of streams that agree under a loss.
use Rattle.std.proofs.Common.{◌≡◌, ℕ, ◌+◌, ◌<◌, ◌↔◌, Bool, List, [], ◌∷◌, ◌++◌, length, get_or, map, replicate, bit_xor, sym, ap, ap₂, ◌∙◌, subst, arith}
use Rattle.std.specs.List.{range_with_len}
use Rattle.std.proofs.lemmas.List.{length-replicate, get_or_append_left, get_or-append-add}
use Rattle.std.proofs.lemmas.List.FromFn.{length-map-range_with_len}
use Rattle.std.proofs.lemmas.Nat.{xor_lt}
use Rattle.sc_field.specs.Field.{IsField, IsAction}
use Rattle.sc_matrix.specs.Vector.{IsVector, add_vectors}
use Rattle.sc_matrix.specs.Module.{IsByte}
use Rattle.sc_matrix.proofs.VectorLaws.{IsVector-add_vectors, length-add_vectors, get_or-add_vectors}
use Rattle.sc_matrix.proofs.Modules.{byte_module}
use Rattle.sc_code.specs.Code.{Code, IsCode}
use Rattle.sc_code.specs.Stream.{IsBlock, IsStream, zero_block, block_at, byte_at, column, xor_blocks, xor_streams}
use Rattle.sc_code.specs.Parity.{parity_byte, parity}
use Rattle.sc_code.specs.Determined.{IsSameSlot, IsDeterminedAt, IsDetermined}
use Rattle.sc_code.proofs.ParityLaws.{plus_symbols, symbols_from, parity_symbol-same, parity_symbol-from, parity_symbol-value, parity_symbol-plus}
use Rattle.sc_code.proofs.ColumnLaws.{same_map, All-map_range, same_block_from_bytes, column-zeros, AreValues-column, block_of, stream_of, IsStream-stream_of, block_at-stream_of, column-stream_of, byte_at-parity, same_parity_from_bytes, parity-same, column-same_slot, parity_byte-same_slot, parity_byte-stream_of}

-- ---- sums of blocks

pub IsBlock-xor : (k m : ℕ) (a b : List (List ℕ)) → IsBlock k m a → IsBlock k m b → IsBlock k m (xor_blocks a b)
IsBlock-xor k m a b ha hb =
    IsVector-add_vectors (add_vectors bit_xor) a b (λ x y hx hy. IsVector-add_vectors bit_xor x y (λ u v hu hv. xor_lt 8 u v hu hv) hx hy) ha hb

-- each byte of a sum is the sum of two bytes
pub byte_at-xor : (k m : ℕ) (a b : List (List ℕ)) (i c : ℕ) → IsBlock k m a → IsBlock k m b → i < k → c < m → byte_at (xor_blocks a b) i c ≡ bit_xor (byte_at a i c) (byte_at b i c)
byte_at-xor k m a b i c ha hb hi hc =
    let e : length a ≡ length b = ha.width ∙ sym hb.width in
    let na = ha.width in
    let nb = hb.width in
    let in_a : i < length a = omega arith in
    let in_b : i < length b = omega arith in
    let wa : length (get_or a i []) ≡ m = (ha.entries i [] in_a).width in
    let wb : length (get_or b i []) ≡ m = (hb.entries i [] in_b).width in
    ap (λ (s : List ℕ). get_or s c 0) (get_or-add_vectors (add_vectors bit_xor) a b i [] e in_a)
    ∙ get_or-add_vectors bit_xor (get_or a i []) (get_or b i []) c 0 (wa ∙ sym wb) (omega arith)

-- ---- sums of streams

pub length-xor_streams : (xs ys : List (List (List ℕ))) → length xs ≡ length ys → length (xor_streams xs ys) ≡ length xs
length-xor_streams xs ys e = length-add_vectors xor_blocks xs ys e

pub block_at-xor : (xs ys : List (List (List ℕ))) (t : ℕ) → length xs ≡ length ys → t < length xs → block_at (xor_streams xs ys) t ≡ xor_blocks (block_at xs t) (block_at ys t)
block_at-xor xs ys t e h = get_or-add_vectors xor_blocks xs ys t [] e h

pub IsStream-xor : (k m : ℕ) (xs ys : List (List (List ℕ))) → length xs ≡ length ys → IsStream k m xs → IsStream k m ys → IsStream k m (xor_streams xs ys)
IsStream-xor k m xs ys e hx hy t d h =
    let n : length (xor_streams xs ys) ≡ length xs = length-xor_streams xs ys e in
    let in_x : t < length xs = omega arith in
    let in_y : t < length ys = omega arith in
    subst (IsBlock k m) (sym (get_or-add_vectors xor_blocks xs ys t d e in_x)) (IsBlock-xor k m (get_or xs t d) (get_or ys t d) (hx t d in_x) (hy t d in_y))

-- ---- parities, whatever the coefficients
module _ {A : Type 0} (zero : A) (act : A → ℕ → ℕ) where
  -- Blocks that are appended don't change the parities before them.
  pub parity-append : (code : Code A) (m : ℕ) (xs more : List (List (List ℕ))) (t : ℕ) → t < length xs → parity zero act code m (xs ++ more) t ≡ parity zero act code m xs t
  parity-append code m xs more t h =
      parity-same zero act code m (xs ++ more) xs t (λ u le. get_or_append_left xs more [] u (omega arith))

  -- Zero blocks before a stream shift its parities, and change nothing else.
  pub parity-after_zeros : (code : Code A) (m s : ℕ) (xs : List (List (List ℕ))) (t : ℕ) → parity zero act code m (replicate s (zero_block code.k m) ++ xs) (s + t) ≡ parity zero act code m xs t
  parity-after_zeros code m s xs t =
      let zeros = replicate s (zero_block code.k m) in
      let n : length zeros ≡ s = length-replicate s (zero_block code.k m) in
      same_map _ _ code.r (λ j hj. same_map _ _ m (λ c hc.
      sym (parity_symbol-from zero 0 bit_xor act code s (column (zeros ++ xs) c) t j (λ u i hu hi.
      ap (λ (b : List (List ℕ)). byte_at b i c) (get_or_append_left zeros xs [] u (omega arith)) ∙ column-zeros code.k m s c u i))
      ∙ parity_symbol-same zero 0 bit_xor act code (symbols_from s (column (zeros ++ xs) c)) (column xs c) t j (λ u i hu hi.
      let place : s + u ≡ length zeros + u = omega arith in
      ap (λ (v : ℕ). column (zeros ++ xs) c v i) place ∙ ap (λ (b : List (List ℕ)). byte_at b i c) (get_or-append-add zeros xs u []))))

  -- a slot of two streams that is the same is so in each column
  IsSameSlot-columns : (code : Code A) (m n : ℕ) (xs ys : List (List (List ℕ))) (t c : ℕ) → t < n → c < m → IsSameSlot zero act code m xs ys t → IsSameSlot zero act code 1 (stream_of code.k n (column xs c)) (stream_of code.k n (column ys c)) t
  IsSameSlot-columns code m n xs ys t c within hc same =
      record {
        same_block =
            block_at-stream_of code.k n (column xs c) t within
            ∙ same_map _ _ code.k (λ i hi. ap (λ (b : ℕ). b ∷ []) (column-same_slot zero act code m xs ys t c same i))
            ∙ sym (block_at-stream_of code.k n (column ys c) t within);
        same_parity =
            same_parity_from_bytes zero act code 1 (stream_of code.k n (column xs c)) (stream_of code.k n (column ys c)) t (λ j d hj hd.
            parity_byte-stream_of zero act code n (column xs c) t j d within hd
            ∙ parity_byte-same_slot zero act code m xs ys t j c same hj hc
            ∙ sym (parity_byte-stream_of zero act code n (column ys c) t j d within hd));
      }

  -- A block that is determined in streams of width 1 is determined whatever the width.
  pub IsDeterminedAt-from_one : (code : Code A) (m deadline : ℕ) (loss : List Bool) (t : ℕ) → IsDeterminedAt zero act code 1 deadline loss t → IsDeterminedAt zero act code m deadline loss t
  IsDeterminedAt-from_one code m deadline loss t determined xs ys hx hy lx ly agree =
      let n : ℕ = t + deadline + 1 in
      let within : t < t + deadline + 1 = omega arith in
      same_block_from_bytes code.k m (block_at xs t) (block_at ys t) (hx t [] (omega arith)) (hy t [] (omega arith)) (λ i c hi hc.
      let same : block_at (stream_of code.k (t + deadline + 1) (column xs c)) t ≡ block_at (stream_of code.k (t + deadline + 1) (column ys c)) t =
      determined (stream_of code.k (t + deadline + 1) (column xs c)) (stream_of code.k (t + deadline + 1) (column ys c))
      (IsStream-stream_of code.k (t + deadline + 1) (column xs c) (AreValues-column code.k m xs c hx)) (IsStream-stream_of code.k (t + deadline + 1) (column ys c) (AreValues-column code.k m ys c hy))
      (length-map-range_with_len (λ t. block_of code.k (column xs c t)) 0 (t + deadline + 1)) (length-map-range_with_len (λ t. block_of code.k (column ys c t)) 0 (t + deadline + 1))
      (λ u le kept. IsSameSlot-columns code m (t + deadline + 1) xs ys u c (omega arith) hc (agree u le kept)) in
      sym (column-stream_of code.k (t + deadline + 1) (column xs c) t i within hi)
      ∙ ap (λ (b : List (List ℕ)). byte_at b i 0) same
      ∙ column-stream_of code.k (t + deadline + 1) (column ys c) t i within hi)

  pub IsDetermined-iff_one : (code : Code A) (deadline : ℕ) (loss : List Bool) (t : ℕ) → IsDetermined zero act code deadline loss t ↔ IsDeterminedAt zero act code 1 deadline loss t
  IsDetermined-iff_one code deadline loss t =
      (λ determined. determined 1 (omega arith), λ determined m some. IsDeterminedAt-from_one code m deadline loss t determined)

-- ---- parities under the laws of the field
module _ {A : Type 0} {IsElement : A → Type 0} {zero one : A} {add sub mul : A → A → A} {inv : A → A} {act : A → ℕ → ℕ} (laws : IsField IsElement zero one add sub mul inv) (action : IsAction IsElement zero one add mul act) where
  -- a parity is a block of r symbols of m bytes
  pub IsBlock-parity : (code : Code A) (m : ℕ) (xs : List (List (List ℕ))) (t : ℕ) → IsCode IsElement code → IsStream code.k m xs → IsBlock code.r m (parity zero act code m xs t)
  IsBlock-parity code m xs t hc hx =
      record {
        width = length-map-range_with_len (λ j. map (λ c. parity_byte zero act code (column xs c) t j) (range_with_len 0 m)) 0 code.r;
        entries = All-map_range (IsVector IsByte m) (λ j. map (λ c. parity_byte zero act code (column xs c) t j) (range_with_len 0 m)) code.r (λ j hj. record {
          width = length-map-range_with_len (λ c. parity_byte zero act code (column xs c) t j) 0 m;
          entries = All-map_range IsByte (λ c. parity_byte zero act code (column xs c) t j) m (λ c lt. parity_symbol-value laws (byte_module action) code (column xs c) t j hc (AreValues-column code.k m xs c hx));
        });
      }

  -- The parity of a sum of two streams is the sum of their parities.
  pub parity-xor : (code : Code A) (m : ℕ) (xs ys : List (List (List ℕ))) (t : ℕ) → IsCode IsElement code → IsStream code.k m xs → IsStream code.k m ys → length xs ≡ length ys → t < length xs
      → parity zero act code m (xor_streams xs ys) t ≡ xor_blocks (parity zero act code m xs t) (parity zero act code m ys t)
  parity-xor code m xs ys t hc hx hy e within =
      let px = IsBlock-parity code m xs t hc hx in
      let py = IsBlock-parity code m ys t hc hy in
      same_block_from_bytes code.r m (parity zero act code m (xor_streams xs ys) t) (xor_blocks (parity zero act code m xs t) (parity zero act code m ys t))
      (IsBlock-parity code m (xor_streams xs ys) t hc (IsStream-xor code.k m xs ys e hx hy)) (IsBlock-xor code.r m (parity zero act code m xs t) (parity zero act code m ys t) px py) (λ j c hj lt.
      byte_at-parity zero act code m (xor_streams xs ys) t j c hj lt
      ∙ parity_symbol-same zero 0 bit_xor act code (column (xor_streams xs ys) c) (plus_symbols bit_xor (column xs c) (column ys c)) t j (λ u i hu hi.
      let in_x : u < length xs = omega arith in
      let in_y : u < length ys = omega arith in
      ap (λ (b : List (List ℕ)). byte_at b i c) (block_at-xor xs ys u e in_x)
      ∙ byte_at-xor code.k m (block_at xs u) (block_at ys u) i c (hx u [] in_x) (hy u [] in_y) hi lt)
      ∙ parity_symbol-plus laws (byte_module action) code (column xs c) (column ys c) t j hc (AreValues-column code.k m xs c hx) (AreValues-column code.k m ys c hy)
      ∙ sym (byte_at-xor code.r m (parity zero act code m xs t) (parity zero act code m ys t) j c px py hj lt
      ∙ ap₂ bit_xor (byte_at-parity zero act code m xs t j c hj lt) (byte_at-parity zero act code m ys t j c hj lt)))
