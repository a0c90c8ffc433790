-- What an encoder's sums over its ring are: the parity of the next slot.
use Rattle.std.proofs.Common.{◌≡◌, ◌≢◌, ℕ, ◌+◌, ◌-◌, ◌*◌, ◌<◌, ◌≤◌, List, [], ◌∷◌, ◌++◌, length, get_or, map, set, take, drop, replicate, slice_index, bit_xor, All, refl, sym, ap, ◌∙◌, arith, inl, inr}
use Rattle.std.specs.Bool.{⊤}
use Rattle.std.specs.List.{range_with_len, drop-map}
use Rattle.std.specs.Int.Bits.{xor_zero_r}
use Rattle.std.proofs.lemmas.Bool.{cases_lt}
use borrow.Rule.Slice.PartMut.{put_mid}
use Rattle.std.proofs.lemmas.List.{length-drop, length-take-le, get_or-set_same, get_or-set_other, length-map, map-append, drop-replicate, get_or-map, get_or-take, get_or-drop}
use Rattle.std.proofs.lemmas.List.FromFn.{length-map-range_with_len}
use Rattle.sc_matrix.specs.Module.{IsByte}
use Rattle.sc_matrix.specs.Layout.{cut}
use Rattle.sc_matrix.specs.Vector.{IsVector}
use Rattle.sc_matrix.proofs.MatrixLaws.{map-replicate}
use Rattle.sc_matrix.proofs.LayoutLaws.{row_within, length-cut, vectors-cut, entry_part, cut-replicate, cut-put_mid}
use Rattle.sc_code.specs.Code.{Code, coefficient}
use Rattle.sc_code.specs.Stream.{byte_at, column}
use Rattle.sc_code.specs.Parity.{sum_below, parity_byte, parity, last_blocks}
use Rattle.sc_code.specs.Ring.{Ring, blocks_of, place_of}
use Rattle.sc_code.specs.Sum.{Sum, sum_of, HasTerms}
use Rattle.sc_code.specs.Encoder.{kept_in}
use Rattle.sc_code.proofs.SumLaws.{All-or, sum_below-same}
use Rattle.sc_code.proofs.ParityLaws.{earlier-within}
use Rattle.sc_code.proofs.ColumnLaws.{All-map_range, same_block_from_bytes, byte_at-parity}
use Rattle.sc_code.proofs.LastBlocksLaws.{last_blocks-none, last_blocks_push, parity-last_blocks}

-- the blocks in the ring, as a stream
abbrev pub stream_in : ℕ → ℕ → Ring → List (List (List ℕ))
stream_in k m ring = map (cut k m) (blocks_of ring)

-- a byte of a block in the ring
column-stream_in : (k m : ℕ) (ring : Ring) (u i c : ℕ) → ring.size ≡ k * m → u < length ring.places → i < k → c < m → column (stream_in k m ring) c u i ≡ get_or ring.bytes (get_or ring.places u 0 + i * m + c) 0
column-stream_in k m ring u i c e hu hi hc =
    let p : ℕ = get_or ring.places u 0 in
    let l = length-map ring.places (λ (place : ℕ). take ring.size (drop place ring.bytes)) in
    let low : i * m + c < ring.size = omega (arith, row_within k m i hi) in
    let place : p + (i * m + c) ≡ p + i * m + c = omega arith in
    ap (λ (b : List (List ℕ)). byte_at b i c)
    (get_or-map (cut k m) (blocks_of ring) u [] [] (omega arith) ∙ ap (cut k m) (get_or-map (λ (place : ℕ). take ring.size (drop place ring.bytes)) ring.places u 0 [] hu))
    ∙ sym (entry_part k m (take ring.size (drop p ring.bytes)) 0 i c (i * m) refl hi hc)
    ∙ get_or-take ring.size (drop p ring.bytes) (i * m + c) 0 low
    ∙ get_or-drop p ring.bytes (i * m + c) 0
    ∙ ap (λ (n : ℕ). get_or ring.bytes n 0) place

module _ {A : Type 0} (zero : A) (act : A → ℕ → ℕ) where
  -- a sum over the ring is a byte of the parity of its newest block
  sum_of-parity : (code : Code A) (m j c : ℕ) (ring : Ring) (s : Sum A) → HasTerms zero act code m j (length code.lags) 0 s → ring.size ≡ code.k * m → length ring.places ≡ length code.lags → All IsByte ring.bytes → c < m
      → sum_of act s (λ lag at. get_or ring.bytes (place_of ring lag + at + c) 0) ≡ parity_byte zero act code (column (stream_in code.k m ring) c) (length code.lags - 1) j
  sum_of-parity code m j c ring s h size count bytes hc =
      let small : 0 < 256 = omega arith in
      h.total (λ lag at. get_or ring.bytes (place_of ring lag + at + c) 0) (λ lag at. All-or IsByte ring.bytes (place_of ring lag + at + c) 0 bytes small)
      ∙ xor_zero_r (sum_below 0 bit_xor (length code.lags) (λ lag. sum_below 0 bit_xor code.k (λ i. act (coefficient zero code lag i j) (get_or ring.bytes (place_of ring lag + i * m + c) 0))))
      ∙ sum_below-same 0 bit_xor (length code.lags) _ _ (λ lag hl.
      sum_below-same 0 bit_xor code.k _ _ (λ i hi.
      let back : length ring.places - 1 - lag ≡ length code.lags - 1 - lag = omega arith in
      ap (act (coefficient zero code lag i j))
      (ap (λ (u : ℕ). get_or ring.bytes (get_or ring.places u 0 + i * m + c) 0) back
      ∙ sym (column-stream_in code.k m ring (length code.lags - 1 - lag) i c size (omega arith) hi hc)
      ∙ sym (earlier-within 0 (column (stream_in code.k m ring) c) (length code.lags - 1) lag i (omega arith)))))

  -- Bytes that are such sums are the parity of the newest block.
  rows-parity : (code : Code A) (m : ℕ) (ring : Ring) (bytes : List ℕ) → length bytes ≡ code.r * m
      → ((j c : ℕ) → j < code.r → c < m → byte_at (cut code.r m bytes) j c ≡ parity_byte zero act code (column (stream_in code.k m ring) c) (length code.lags - 1) j)
      → cut code.r m bytes ≡ parity zero act code m (stream_in code.k m ring) (length code.lags - 1)
  rows-parity code m ring bytes l e =
      same_block_from_bytes {P = λ _. ⊤} code.r m (cut code.r m bytes) (parity zero act code m (stream_in code.k m ring) (length code.lags - 1))
      (record { width = length-cut code.r m bytes; entries = vectors-cut (λ _. ⊤) code.r m bytes l (λ k d lt. tt) })
      (record {
        width = length-map-range_with_len (λ j. map (λ c. parity_byte zero act code (column (stream_in code.k m ring) c) (length code.lags - 1) j) (range_with_len 0 m)) 0 code.r;
        entries = All-map_range (IsVector (λ _. ⊤) m) (λ j. map (λ c. parity_byte zero act code (column (stream_in code.k m ring) c) (length code.lags - 1) j) (range_with_len 0 m)) code.r (λ j hj. record {
          width = length-map-range_with_len (λ c. parity_byte zero act code (column (stream_in code.k m ring) c) (length code.lags - 1) j) 0 m;
          entries = λ k d lt. tt;
        });
      })
      (λ j c hj hc. e j c hj hc ∙ sym (byte_at-parity zero act code m (stream_in code.k m ring) (length code.lags - 1) j c hj hc))

  -- what a sum is for each parity symbol
  pub parity_written : (code : Code A) (m : ℕ) (ring : Ring) (bytes : List ℕ) (sum_at : ℕ → Sum A) → length bytes ≡ code.r * m → ring.size ≡ code.k * m → length ring.places ≡ length code.lags → All IsByte ring.bytes
      → ((j : ℕ) → j < code.r → HasTerms zero act code m j (length code.lags) 0 (sum_at j))
      → ((j c : ℕ) → j < code.r → c < m → byte_at (cut code.r m bytes) j c ≡ sum_of act (sum_at j) (λ lag at. slice_index ring.bytes (place_of ring lag + at + c)))
      → cut code.r m bytes ≡ parity zero act code m (stream_in code.k m ring) (length code.lags - 1)
  parity_written code m ring bytes sum_at l size count known terms e =
      rows-parity code m ring bytes l (λ j c hj hc. e j c hj hc ∙ sum_of-parity code m j c ring (sum_at j) (terms j hj) size count known hc)

-- ---- the ring after the next block

stream_in-push : (k m : ℕ) (old new : Ring) (block : List ℕ) → blocks_of new ≡ drop 1 (blocks_of old) ++ block ∷ [] → stream_in k m new ≡ kept_in k m old ++ cut k m block ∷ []
stream_in-push k m old new block e = ap (map (cut k m)) e ∙ map-append (cut k m) (drop 1 (blocks_of old)) (block ∷ [])

module _ {A : Type 0} (zero : A) (act : A → ℕ → ℕ) where
  -- the parity of the newest block, for every stream that the encoder stands for
  pub parity-pushed : (code : Code A) (m : ℕ) (old new : Ring) (block : List ℕ) (stream : List (List (List ℕ))) → 1 ≤ length code.lags → blocks_of new ≡ drop 1 (blocks_of old) ++ block ∷ []
      → kept_in code.k m old ≡ last_blocks code.k m (length code.lags - 1) stream
      → parity zero act code m (stream_in code.k m new) (length code.lags - 1) ≡ parity zero act code m (stream ++ cut code.k m block ∷ []) (length stream)
  parity-pushed code m old new block stream some e stands =
      ap (λ (xs : List (List (List ℕ))). parity zero act code m xs (length code.lags - 1)) (stream_in-push code.k m old new block e ∙ ap (λ (xs : List (List (List ℕ))). xs ++ cut code.k m block ∷ []) stands)
      ∙ sym (parity-last_blocks zero act code m (length code.lags - 1) stream (cut code.k m block) (omega arith))

-- and it stands for that stream with the block at its end
pub kept_in-push : (k m n : ℕ) (old new : Ring) (block : List ℕ) (stream : List (List (List ℕ))) → blocks_of new ≡ drop 1 (blocks_of old) ++ block ∷ []
    → kept_in k m old ≡ last_blocks k m n stream → kept_in k m new ≡ last_blocks k m n (stream ++ cut k m block ∷ [])
kept_in-push k m n old new block stream e stands =
    sym (drop-map (cut k m) 1 (blocks_of new)) ∙ ap (drop 1) (stream_in-push k m old new block e ∙ ap (λ (xs : List (List (List ℕ))). xs ++ cut k m block ∷ []) stands)
    ∙ sym (last_blocks_push k m n stream (cut k m block))

-- at the start it stands for the stream of no block
pub kept_in-start : (k m count : ℕ) (ring : Ring) → blocks_of ring ≡ replicate count (replicate (k * m) 0) → kept_in k m ring ≡ last_blocks k m (count - 1) []
kept_in-start k m count ring e =
    ap (λ (bs : List (List ℕ)). map (cut k m) (drop 1 bs)) e ∙ ap (map (cut k m)) (drop-replicate 1 count (replicate (k * m) 0))
    ∙ map-replicate (cut k m) (count - 1) (replicate (k * m) 0) ∙ ap (replicate (count - 1)) (cut-replicate k m 0)
    ∙ sym (last_blocks-none k m (count - 1))

-- ---- the parity, symbol after symbol
pub rows_more : (r m j s : ℕ) (parity ys : List ℕ) (f : ℕ → ℕ → ℕ) → length parity ≡ r * m → j < r → s ≡ j * m → length ys ≡ m → ((c : ℕ) → c < m → get_or ys c 0 ≡ f j c)
    → ((i c : ℕ) → i < j → c < m → byte_at (cut r m parity) i c ≡ f i c)
    → (i c : ℕ) → i < j + 1 → c < m → byte_at (cut r m (put_mid s ((s + m) - s) parity ys)) i c ≡ f i c
rows_more r m j s parity ys f l hj at w here before i c hi hc =
    let k : (s + m) - s ≡ m = omega arith in
    let rows : cut r m (put_mid s ((s + m) - s) parity ys) ≡ set (cut r m parity) j ys = rw (k, at) (cut-put_mid r m parity j ys l hj w) in
    let count = length-cut r m parity in
    ap (λ (b : List (List ℕ)). byte_at b i c) rows
    ∙ elim (cases_lt i j) [
      | inl low ↦ ap (λ (s : List ℕ). get_or s c 0) (get_or-set_other (cut r m parity) j i ys [] (λ e. (let no : i ≢ j = omega arith in no e))) ∙ before i c low hc
      | inr last ↦
          let e : i ≡ j = omega arith in
          ap (λ (n : ℕ). get_or (get_or (set (cut r m parity) j ys) n []) c 0) e
          ∙ ap (λ (s : List ℕ). get_or s c 0) (get_or-set_same (cut r m parity) j ys [] (omega arith)) ∙ here c hc ∙ ap (λ (n : ℕ). f n c) (sym e)
    ]

-- the bytes of one parity symbol
pub length-part : (s m : ℕ) (xs : List ℕ) → s + m ≤ length xs → length (take ((s + m) - s) (drop s xs)) ≡ m
length-part s m xs h = let l = length-drop s xs in let n : (s + m) - s ≡ m = omega arith in length-take-le ((s + m) - s) (drop s xs) (omega arith) ∙ n
