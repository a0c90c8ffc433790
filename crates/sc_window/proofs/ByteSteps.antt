-- Over the bytes as elements of a field, a difference in elements is one in streams of width 1, and the least is the least.
use Rattle.std.proofs.Common.{◌≡◌, ℕ, zero as naught, suc, ◌<◌, ◌≤◌, Bool, List, [], ◌∷◌, ◌++◌, length, get_or, map, replicate, All, bit_xor, refl, sym, ap, ap₂, ◌∙◌, subst, arith, inl, inr}
use Rattle.std.proofs.lemmas.Bool.{cases_lt}
use Rattle.std.proofs.lemmas.List.{length-map, map-append, map-id, get_or-map, get_or_past}
use Rattle.std.proofs.lemmas.List.Elements.{All-nil, All-cons, All-head, All-tail, All-map}
use Rattle.sc_matrix.proofs.VectorLaws.{IsVector-map}
use Rattle.sc_matrix.specs.Module.{IsByte}
use Rattle.sc_matrix.specs.Vector.{IsVector}
use Rattle.sc_matrix.proofs.MatrixLaws.{get_or-map_all, map-replicate}
use Rattle.sc_echelon.specs.Kernel.{IsBefore}
use Rattle.sc_code.specs.Code.{Code}
use Rattle.sc_code.specs.Stream.{IsStream, IsBlock, block_at, column, byte_at}
use Rattle.sc_code.specs.Parity.{parity_byte}
use Rattle.sc_code.specs.Determined.{IsZeroSlot}
use Rattle.sc_code.specs.Elements.{element_at, IsZeroElements}
use Rattle.sc_code.proofs.ParityLaws.{parity_symbol-same}
use Rattle.sc_code.proofs.ColumnLaws.{byte_at-parity, byte_at-zeros, zero_parity_from_bytes}
use Rattle.sc_window.specs.Window.{symbols_of}
use Rattle.sc_window.specs.Difference.{IsDifference, IsLeastDifference, IsByteDifference, IsLeastByteDifference}

-- ---- symbols of one byte
abbrev pub symbol_of : ℕ → List ℕ
symbol_of n = n ∷ []

abbrev pub byte_of : List ℕ → ℕ
byte_of symbol = get_or symbol 0 0

abbrev pub as_bytes : List (List ℕ) → List (List (List ℕ))
as_bytes xs = map (map symbol_of) xs

abbrev pub as_elements : List (List (List ℕ)) → List (List ℕ)
as_elements xs = map (map byte_of) xs

same_symbol : (s : List ℕ) → IsVector IsByte 1 s → symbol_of (byte_of s) ≡ s
same_symbol [] h = let w = h.width in absurd (omega arith)
same_symbol (n ∷ []) h = refl
same_symbol (n ∷ m ∷ s) h = let w = h.width in absurd (omega arith)

same_symbols : (block : List (List ℕ)) → All (IsVector IsByte 1) block → map symbol_of (map byte_of block) ≡ block
same_symbols [] h = refl
same_symbols (s ∷ block) h =
    ap₂ (λ (x : List ℕ) (xs : List (List ℕ)). x ∷ xs) (same_symbol s (All-head (IsVector IsByte 1) s block h)) (same_symbols block (All-tail (IsVector IsByte 1) s block h))

pub same_stream : (k : ℕ) (xs : List (List (List ℕ))) → IsStream k 1 xs → as_bytes (as_elements xs) ≡ xs
same_stream k [] h = refl
same_stream k (block ∷ xs) h =
    ap₂ (λ (y : List (List ℕ)) (ys : List (List (List ℕ))). y ∷ ys) (same_symbols block (All-head (IsBlock k 1) block xs h).entries) (same_stream k xs (All-tail (IsBlock k 1) block xs h))

elements_again : (b : List ℕ) → map byte_of (map symbol_of b) ≡ b
elements_again [] = refl
elements_again (n ∷ b) = ap (λ (ns : List ℕ). n ∷ ns) (elements_again b)

-- the numbers of bytes are the bytes
pub numbers-same : (xs : List (List ℕ)) → map (map (λ n. n)) xs ≡ xs
numbers-same [] = refl
numbers-same (b ∷ xs) = ap₂ (λ (c : List ℕ) (ys : List (List ℕ)). c ∷ ys) (map-id b) (numbers-same xs)

-- ---- blocks and symbols
block-as_bytes : (xs : List (List ℕ)) (t : ℕ) → block_at (as_bytes xs) t ≡ map symbol_of (get_or xs t [])
block-as_bytes xs t = get_or-map_all (map symbol_of) xs t [] [] refl

block-as_elements : (xs : List (List (List ℕ))) (t : ℕ) → get_or (as_elements xs) t [] ≡ map byte_of (block_at xs t)
block-as_elements xs t = get_or-map_all (map byte_of) xs t [] [] refl

byte_at-symbols : (b : List ℕ) (i : ℕ) → byte_at (map symbol_of b) i 0 ≡ get_or b i 0
byte_at-symbols [] i = refl
byte_at-symbols (n ∷ b) naught = refl
byte_at-symbols (n ∷ b) (suc i) = byte_at-symbols b i

column-as_bytes : (xs : List (List ℕ)) (t i : ℕ) → column (as_bytes xs) 0 t i ≡ element_at 0 xs t i
column-as_bytes xs t i = ap (λ (b : List (List ℕ)). byte_at b i 0) (block-as_bytes xs t) ∙ byte_at-symbols (get_or xs t []) i

element_at-as_elements : (xs : List (List (List ℕ))) (t i : ℕ) → element_at 0 (as_elements xs) t i ≡ column xs 0 t i
element_at-as_elements xs t i = ap (λ (b : List ℕ). get_or b i 0) (block-as_elements xs t) ∙ get_or-map_all byte_of (block_at xs t) i [] 0 refl

pub IsStream-as_bytes : (k : ℕ) (xs : List (List ℕ)) → All (IsVector IsByte k) xs → IsStream k 1 (as_bytes xs)
IsStream-as_bytes k xs h =
    All-map (IsBlock k 1) (map symbol_of) xs (λ i d lt.
    IsVector-map symbol_of (get_or xs i d) (λ n hn. record { width = refl; entries = All-cons IsByte n [] hn (All-nil IsByte) }) (h i d lt))

pub vectors-as_elements : (k : ℕ) (xs : List (List (List ℕ))) → IsStream k 1 xs → All (IsVector IsByte k) (as_elements xs)
vectors-as_elements k xs h =
    All-map (IsVector IsByte k) (map byte_of) xs (λ i d lt.
    IsVector-map byte_of (get_or xs i d) (λ s hs. let w = hs.width in hs.entries 0 0 (omega arith)) (h i d lt))

-- ---- slots that are zero
module _ (act : ℕ → ℕ → ℕ) (code : Code ℕ) where
  IsZeroSlot-as_bytes : (xs : List (List ℕ)) (t : ℕ) → IsZeroElements 0 bit_xor act code xs t → IsZeroSlot 0 act code 1 (as_bytes xs) t
  IsZeroSlot-as_bytes xs t z = record {
    zero_symbols = block-as_bytes xs t ∙ ap (map symbol_of) z.symbols ∙ map-replicate symbol_of code.k 0;
    zero_parity = zero_parity_from_bytes 0 act code 1 (as_bytes xs) t (λ j c hj hc.
        let e : c ≡ 0 = omega arith in
        ap (λ (d : ℕ). parity_byte 0 act code (column (as_bytes xs) d) t j) e
        ∙ parity_symbol-same 0 0 bit_xor act code (column (as_bytes xs) 0) (element_at 0 xs) t j (λ u i hu hi. column-as_bytes xs u i)
        ∙ z.parities j hj);
  }

  IsZeroElements-as_elements : (xs : List (List (List ℕ))) (t : ℕ) → IsZeroSlot 0 act code 1 xs t → IsZeroElements 0 bit_xor act code (as_elements xs) t
  IsZeroElements-as_elements xs t z = record {
    symbols = block-as_elements xs t ∙ ap (map byte_of) z.zero_symbols ∙ map-replicate byte_of code.k (replicate 1 0);
    parities = λ j hj.
        parity_symbol-same 0 0 bit_xor act code (element_at 0 (as_elements xs)) (column xs 0) t j (λ u i hu hi. element_at-as_elements xs u i)
        ∙ sym (byte_at-parity 0 act code 1 xs t j 0 hj (omega arith))
        ∙ ap (λ (b : List (List ℕ)). byte_at b j 0) z.zero_parity ∙ byte_at-zeros code.r 1 j 0;
  }

  -- ---- differences
  IsByteDifference-as_bytes : (class : List Bool) (xs : List (List ℕ)) → IsDifference IsByte 0 bit_xor act code class xs → IsByteDifference 0 act code class (as_bytes xs)
  IsByteDifference-as_bytes class xs d = record {
    stream = IsStream-as_bytes code.k xs d.blocks;
    blocks = length-map xs (map symbol_of) ∙ d.count;
    zeros = λ t kept. IsZeroSlot-as_bytes xs t (d.zeros t kept);
    block_differs = λ e.
        d.block_differs
        (sym (elements_again (get_or xs 0 [])) ∙ ap (map byte_of) (sym (block-as_bytes xs 0) ∙ e) ∙ map-replicate byte_of code.k (replicate 1 0));
  }

  IsDifference-as_elements : (class : List Bool) (xs : List (List (List ℕ))) → 1 ≤ length class → IsByteDifference 0 act code class xs → IsDifference IsByte 0 bit_xor act code class (as_elements xs)
  IsDifference-as_elements class xs some d = record {
    blocks = vectors-as_elements code.k xs d.stream;
    count = length-map xs (map byte_of) ∙ d.blocks;
    zeros = λ t kept. IsZeroElements-as_elements xs t (d.zeros t kept);
    block_differs = λ e.
        let count = d.blocks in
        d.block_differs
        (sym (same_symbols (block_at xs 0) (d.stream 0 [] (omega arith)).entries) ∙ ap (map symbol_of) (sym (block-as_elements xs 0) ∙ e) ∙ map-replicate symbol_of code.k 0);
  }

-- ---- the order
symbols-as_bytes : (xs : List (List ℕ)) → symbols_of (as_bytes xs) ≡ map symbol_of (symbols_of xs)
symbols-as_bytes [] = refl
symbols-as_bytes (b ∷ xs) = ap (λ (ys : List (List ℕ)). map symbol_of b ++ ys) (symbols-as_bytes xs) ∙ sym (map-append symbol_of b (symbols_of xs))

before-symbols : (u v : List ℕ) → IsBefore 0 (λ n. n) u v → IsBefore [] byte_of (map symbol_of u) (map symbol_of v)
before-symbols u v h =
    let within = h.within in
    let less = h.less in
    let l = length-map u symbol_of in
    let inside : h.col < length v =
    elim (cases_lt h.col (length v)) [
      | inl lt ↦ lt
      | inr past ↦ absurd (let none : get_or v h.col 0 ≡ 0 = get_or_past v h.col 0 past in omega arith)
    ] in
    record {
      col = h.col;
      within = omega arith;
      same = λ j lt. get_or-map symbol_of u j 0 [] (omega arith) ∙ ap symbol_of (h.same j lt) ∙ sym (get_or-map symbol_of v j 0 [] (omega arith));
      less = rw (get_or-map symbol_of u h.col 0 [] within, get_or-map symbol_of v h.col 0 [] inside) less;
    }

-- The least difference in elements is the least in streams of width 1.
pub IsLeastByteDifference-as_bytes : (act : ℕ → ℕ → ℕ) (code : Code ℕ) (class : List Bool) (numbers : List (List ℕ)) → 1 ≤ length class → IsLeastDifference IsByte 0 bit_xor act (λ n. n) code class numbers
    → IsLeastByteDifference 0 act code class (as_bytes numbers)
IsLeastByteDifference-as_bytes act code class numbers some h =
    let stream = h.stream in
    let least = h.is_least in
    let same : numbers ≡ stream = h.are_numbers ∙ numbers-same stream in
    subst (λ (ns : List (List ℕ)). IsLeastByteDifference 0 act code class (as_bytes ns)) (sym same)
    (record {
      belongs = IsByteDifference-as_bytes act code class stream least.belongs;
      least = λ ys d.
          let again = same_stream code.k ys d.stream in
          elim (least.least (as_elements ys) (IsDifference-as_elements act code class ys some d)) [
            | inl e ↦ inl (ap as_bytes e ∙ again)
            | inr before ↦ inr
                (subst (λ (zs : List (List (List ℕ))). IsBefore [] byte_of (symbols_of (as_bytes stream)) (symbols_of zs)) again
                (rw (symbols-as_bytes stream, symbols-as_bytes (as_elements ys)) (before-symbols (symbols_of stream) (symbols_of (as_elements ys)) before)))
          ];
    })
