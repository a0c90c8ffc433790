-- Streams and their byte columns: blocks and parities are equal where their bytes are.
use Rattle.std.proofs.Common.{◌≡◌, ℕ, ◌<◌, ◌≤◌, List, [], ◌∷◌, length, get_or, map, replicate, slice_index, All, bit_xor, refl, sym, ap, ◌∙◌, subst, arith}
use Rattle.std.specs.List.{range_with_len}
use Rattle.std.specs.Int.Bits.{xor_self, xor_zero_l}
use Rattle.std.proofs.lemmas.List.{length-replicate, get_or-replicate, get_or_default, same_lists}
use Rattle.std.proofs.lemmas.List.Elements.{All-nil, All-replicate}
use Rattle.std.proofs.lemmas.List.FromFn.{length-map-range_with_len, get_or-map-range_with_len, fill_by_all}
use Rattle.sc_field.specs.Laws.Xor.{xor_twice}
use Rattle.sc_code.specs.Code.{Code}
use Rattle.sc_matrix.specs.Module.{IsByte}
use Rattle.sc_matrix.specs.Vector.{IsVector}
use Rattle.sc_matrix.proofs.VectorLaws.{IsVector-replicate}
use Rattle.sc_code.specs.Stream.{IsBlock, IsStream, zero_block, block_at, byte_at, column}
use Rattle.sc_code.specs.Parity.{parity_byte, parity}
use Rattle.sc_code.specs.Determined.{IsSameSlot}
use Rattle.sc_code.proofs.SumLaws.{All-or}
use Rattle.sc_code.proofs.ParityLaws.{AreValues, parity_symbol-same}

-- ---- lists made from a function of the index

-- two such lists are equal where the functions are
pub same_map : {X : Type 0} (f g : ℕ → X) (n : ℕ) → ((i : ℕ) → i < n → f i ≡ g i) → map f (range_with_len 0 n) ≡ map g (range_with_len 0 n)
same_map f g n e =
    same_lists (map f (range_with_len 0 n)) (map g (range_with_len 0 n)) (length-map-range_with_len f 0 n ∙ sym (length-map-range_with_len g 0 n))
    (λ k d h.
    let lt : k < n = omega (arith, length-map-range_with_len f 0 n) in
    get_or-map-range_with_len f 0 n k k d lt (omega arith) ∙ e k lt ∙ sym (get_or-map-range_with_len g 0 n k k d lt (omega arith)))

pub replicate-map : {X : Type 0} (f : ℕ → X) (n : ℕ) (x : X) → ((i : ℕ) → i < n → f i ≡ x) → map f (range_with_len 0 n) ≡ replicate n x
replicate-map f n x e =
    sym (fill_by_all f (replicate n x) n x (length-replicate n x) (λ k h. get_or-replicate n k x x h ∙ sym (e k h)))

pub All-map_range : {X : Type 0} (P : X → Type 0) (f : ℕ → X) (n : ℕ) → ((i : ℕ) → i < n → P (f i)) → All P (map f (range_with_len 0 n))
All-map_range P f n h k d lt =
    let below : k < n = omega (arith, length-map-range_with_len f 0 n) in
    subst P (sym (get_or-map-range_with_len f 0 n k k d below (omega arith))) (h k below)

-- ---- bytes of blocks

-- two symbols of m bytes are equal where their bytes are
same_symbol : {P : ℕ → Type 0} (m : ℕ) (a b : List ℕ) → IsVector P m a → IsVector P m b → ((c : ℕ) → c < m → get_or a c 0 ≡ get_or b c 0) → a ≡ b
same_symbol m a b ha hb e =
    same_lists a b (ha.width ∙ sym hb.width)
    (λ c d h.
    let in_m : c < m = omega (arith, ha.width) in
    let in_b : c < length b = omega (arith, hb.width) in
    get_or_default a c d 0 h ∙ e c in_m ∙ get_or_default b c 0 d in_b)

-- Two blocks of k symbols of m bytes are equal where their bytes are.
pub same_block_from_bytes : {P : ℕ → Type 0} (k m : ℕ) (a b : List (List ℕ)) → IsVector (IsVector P m) k a → IsVector (IsVector P m) k b → ((i c : ℕ) → i < k → c < m → byte_at a i c ≡ byte_at b i c) → a ≡ b
same_block_from_bytes k m a b ha hb e =
    same_lists a b (ha.width ∙ sym hb.width)
    (λ i d h.
    let in_k : i < k = omega (arith, ha.width) in
    let in_b : i < length b = omega (arith, hb.width) in
    get_or_default a i d [] h
    ∙ same_symbol m (get_or a i []) (get_or b i []) (ha.entries i [] h) (hb.entries i [] in_b) (λ c hc. e i c in_k hc)
    ∙ get_or_default b i [] d in_b)

pub zero-byte : (b : ℕ) → b ≡ 0 → b < 256
zero-byte b e = omega arith

pub IsBlock-zeros : (k m : ℕ) → IsBlock k m (zero_block k m)
IsBlock-zeros k m = IsVector-replicate k (replicate m 0) (IsVector-replicate m 0 (zero-byte 0 refl))

byte-zeros : (m c : ℕ) → slice_index (replicate m 0) c ≡ 0
byte-zeros m c = All-or (λ (b : ℕ). b ≡ 0) (replicate m 0) c 0 (All-replicate (λ (b : ℕ). b ≡ 0) m 0 refl) refl

-- each byte of a zero block is 0
pub byte_at-zeros : (k m i c : ℕ) → byte_at (zero_block k m) i c ≡ 0
byte_at-zeros k m i c =
    All-or (λ (symbol : List ℕ). slice_index symbol c ≡ 0) (zero_block k m) i [] (All-replicate (λ (symbol : List ℕ). slice_index symbol c ≡ 0) k (replicate m 0) (byte-zeros m c)) refl

-- a block whose bytes are 0 is the zero block
pub zero_block_from_bytes : (k m : ℕ) (a : List (List ℕ)) → IsBlock k m a → ((i c : ℕ) → i < k → c < m → byte_at a i c ≡ 0) → a ≡ zero_block k m
zero_block_from_bytes k m a ha e =
    same_block_from_bytes k m a (zero_block k m) ha (IsBlock-zeros k m) (λ i c hi hc. e i c hi hc ∙ sym (byte_at-zeros k m i c))

-- ---- columns of streams

-- the columns of a stream consist of bytes
pub AreValues-column : (k m : ℕ) (xs : List (List (List ℕ))) (c : ℕ) → IsStream k m xs → AreValues IsByte (column xs c)
AreValues-column k m xs c hs =
    record {
      value = λ t i.
          let block : All (λ (s : List ℕ). All IsByte s) (block_at xs t) =
          All-or (λ (a : List (List ℕ)). All (λ (s : List ℕ). All IsByte s) a) xs t []
          (λ l d h j e hj. ((hs l d h).entries j e hj).entries) (All-nil (λ (s : List ℕ). All IsByte s)) in
          All-or IsByte (get_or (block_at xs t) i []) c 0
          (All-or (λ (s : List ℕ). All IsByte s) (block_at xs t) i [] block (All-nil IsByte)) (zero-byte 0 refl);
    }

-- n zero blocks are a stream, whose columns are 0
pub IsStream-zeros : (k m n : ℕ) → IsStream k m (replicate n (zero_block k m))
IsStream-zeros k m n = All-replicate (IsBlock k m) n (zero_block k m) (IsBlock-zeros k m)

pub column-zeros : (k m n c t i : ℕ) → column (replicate n (zero_block k m)) c t i ≡ 0
column-zeros k m n c t i =
    All-or (λ (b : List (List ℕ)). byte_at b i c ≡ 0) (replicate n (zero_block k m)) t [] (All-replicate (λ (b : List (List ℕ)). byte_at b i c ≡ 0) n (zero_block k m) (byte_at-zeros k m i c)) refl

-- two bytes whose sum is 0 are equal
pub same_from_xor : (a b : ℕ) → bit_xor a b ≡ 0 → a ≡ b
same_from_xor a b e = sym (xor_twice a b) ∙ ap (λ (n : ℕ). bit_xor n b) e ∙ xor_zero_l b

pub xor_same : (a b : ℕ) → a ≡ b → bit_xor a b ≡ 0
xor_same a b e = ap (λ (n : ℕ). bit_xor n b) e ∙ xor_self b

-- ---- the stream of width 1 whose one column is given

abbrev pub block_of : ℕ → (ℕ → ℕ) → List (List ℕ)
block_of k f = map (λ i. f i ∷ []) (range_with_len 0 k)

-- n blocks of k symbols of one byte
abbrev pub stream_of : ℕ → ℕ → (ℕ → ℕ → ℕ) → List (List (List ℕ))
stream_of k n f = map (λ t. block_of k (f t)) (range_with_len 0 n)

pub IsBlock-block_of : (k : ℕ) (f : ℕ → ℕ) → ((i : ℕ) → f i < 256) → IsBlock k 1 (block_of k f)
IsBlock-block_of k f h =
    record {
      width = length-map-range_with_len (λ i. f i ∷ []) 0 k;
      entries = All-map_range (IsVector IsByte 1) (λ i. f i ∷ []) k (λ i lt. IsVector-replicate 1 (f i) (h i));
    }

pub IsStream-stream_of : (k n : ℕ) (f : ℕ → ℕ → ℕ) → AreValues IsByte f → IsStream k 1 (stream_of k n f)
IsStream-stream_of k n f hf = All-map_range (IsBlock k 1) (λ t. block_of k (f t)) n (λ t lt. IsBlock-block_of k (f t) (hf.value t))

pub block_at-stream_of : (k n : ℕ) (f : ℕ → ℕ → ℕ) (t : ℕ) → t < n → block_at (stream_of k n f) t ≡ block_of k (f t)
block_at-stream_of k n f t h = get_or-map-range_with_len (λ t. block_of k (f t)) 0 n t t [] h (omega arith)

pub byte_at-block_of : (k : ℕ) (f : ℕ → ℕ) (i : ℕ) → i < k → byte_at (block_of k f) i 0 ≡ f i
byte_at-block_of k f i h = ap (λ (s : List ℕ). get_or s 0 0) (get_or-map-range_with_len (λ i. f i ∷ []) 0 k i i [] h (omega arith))

pub column-stream_of : (k n : ℕ) (f : ℕ → ℕ → ℕ) (t i : ℕ) → t < n → i < k → column (stream_of k n f) 0 t i ≡ f t i
column-stream_of k n f t i ht hi =
    ap (λ (b : List (List ℕ)). byte_at b i 0) (block_at-stream_of k n f t ht) ∙ byte_at-block_of k (f t) i hi

-- ---- parities by their bytes
module _ {A : Type 0} (zero : A) (act : A → ℕ → ℕ) where
  -- each byte of a parity is the sum over its own column
  pub byte_at-parity : (code : Code A) (m : ℕ) (xs : List (List (List ℕ))) (t j c : ℕ) → j < code.r → c < m → byte_at (parity zero act code m xs t) j c ≡ parity_byte zero act code (column xs c) t j
  byte_at-parity code m xs t j c hj hc =
      ap (λ (s : List ℕ). get_or s c 0) (get_or-map-range_with_len (λ j. map (λ c. parity_byte zero act code (column xs c) t j) (range_with_len 0 m)) 0 code.r j j [] hj (omega arith))
      ∙ get_or-map-range_with_len (λ c. parity_byte zero act code (column xs c) t j) 0 m c c 0 hc (omega arith)

  pub same_parity_from_bytes : (code : Code A) (m : ℕ) (xs ys : List (List (List ℕ))) (t : ℕ) → ((j c : ℕ) → j < code.r → c < m → parity_byte zero act code (column xs c) t j ≡ parity_byte zero act code (column ys c) t j) → parity zero act code m xs t ≡ parity zero act code m ys t
  same_parity_from_bytes code m xs ys t e =
      same_map _ _ code.r (λ j hj. same_map _ _ m (λ c hc. e j c hj hc))

  pub zero_parity_from_bytes : (code : Code A) (m : ℕ) (xs : List (List (List ℕ))) (t : ℕ) → ((j c : ℕ) → j < code.r → c < m → parity_byte zero act code (column xs c) t j ≡ 0) → parity zero act code m xs t ≡ zero_block code.r m
  zero_parity_from_bytes code m xs t e =
      replicate-map _ code.r (replicate m 0) (λ j hj. replicate-map _ m 0 (λ c hc. e j c hj hc))

  -- The parity of a slot depends on the blocks up to it alone.
  pub parity-same : (code : Code A) (m : ℕ) (xs ys : List (List (List ℕ))) (t : ℕ) → ((u : ℕ) → u ≤ t → block_at xs u ≡ block_at ys u) → parity zero act code m xs t ≡ parity zero act code m ys t
  parity-same code m xs ys t e =
      same_parity_from_bytes code m xs ys t (λ j c hj hc.
      parity_symbol-same zero 0 bit_xor act code (column xs c) (column ys c) t j (λ u i hu hi. ap (λ (b : List (List ℕ)). byte_at b i c) (e u hu)))

  -- the same slot has the same bytes
  pub column-same_slot : (code : Code A) (m : ℕ) (xs ys : List (List (List ℕ))) (t c : ℕ) → IsSameSlot zero act code m xs ys t → (i : ℕ) → column xs c t i ≡ column ys c t i
  column-same_slot code m xs ys t c same i = ap (λ (b : List (List ℕ)). byte_at b i c) same.same_block

  pub parity_byte-same_slot : (code : Code A) (m : ℕ) (xs ys : List (List (List ℕ))) (t j c : ℕ) → IsSameSlot zero act code m xs ys t → j < code.r → c < m → parity_byte zero act code (column xs c) t j ≡ parity_byte zero act code (column ys c) t j
  parity_byte-same_slot code m xs ys t j c same hj hc =
      sym (byte_at-parity code m xs t j c hj hc) ∙ ap (λ (b : List (List ℕ)). byte_at b j c) same.same_parity ∙ byte_at-parity code m ys t j c hj hc

  -- the parity bytes of the stream that has a column
  pub parity_byte-stream_of : (code : Code A) (n : ℕ) (f : ℕ → ℕ → ℕ) (t j c : ℕ) → t < n → c < 1 → parity_byte zero act code (column (stream_of code.k n f) c) t j ≡ parity_byte zero act code f t j
  parity_byte-stream_of code n f t j c within lt =
      let e : c ≡ 0 = omega arith in
      ap (λ (c : ℕ). parity_byte zero act code (column (stream_of code.k n f) c) t j) e
      ∙ parity_symbol-same zero 0 bit_xor act code (column (stream_of code.k n f) 0) f t j (λ u i hu hi. column-stream_of code.k n f u i (omega arith) hi)
