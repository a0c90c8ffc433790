-- A byte code is a table code at every horizon: a block of k bytes is a number below 256 ^ k, a slot of k + r bytes one below
-- 256 ^ (k + r), and a slot knows no later block. What one meets the other meets, so the bound holds for byte codes.
use Rattle.std.proofs.Common.{◌≡◌, ℕ, zero, suc, ◌+◌, ◌-◌, ◌*◌, ◌^◌, ◌<◌, ◌≤◌, true, false, List, [], ◌∷◌, ◌++◌, length, map, get_or, take, drop, All, refl, sym, ap, ap₂, ◌∙◌, subst, arith}
use Rattle.std.proofs.Math.Seq.{take-append_seam, drop-append_seam}
use Rattle.std.proofs.lemmas.List.{get_or-map, get_or-take, get_or_default, length-append, length-map, length-take-le, take-map}
use Rattle.std.proofs.lemmas.List.Elements.{All-append}
use Rattle.sc_field.specs.Gf256.{gf256_product}
use Rattle.sc_field.specs.Laws.Gf256Laws.{gf256_field, gf256_action}
use Rattle.sc_matrix.specs.Module.{IsByte}
use Rattle.sc_channel.specs.Channel.{ChannelNumbers}
use Rattle.sc_channel.specs.Certificate.{CertificateNumbers, IsCertificate, IsAccepted}
use Rattle.sc_code.specs.Code.{Code, IsCode}
use Rattle.sc_code.specs.Stream.{IsBlock, IsStream, block_at}
use Rattle.sc_code.specs.Parity.{parity}
use Rattle.sc_code.specs.Determined.{IsSameSlot, Meets}
use Rattle.sc_code.proofs.ColumnLaws.{same_block_from_bytes, parity-same}
use Rattle.sc_code.proofs.StreamLaws.{IsBlock-parity}
use Rattle.sc_rate.specs.TableCode.{AreSymbols, IsTable, sent, TableMeets}
use Rattle.sc_rate.specs.Rate.{kept_count}
use Rattle.sc_rate.proofs.WordSteps.{digits, number, length-digits, AreSymbols-digits, number-digits, number-lt, same_from_number}
use Rattle.sc_rate.proofs.BoundSteps.{byte_rate_bounded}

-- ---- blocks of one byte a symbol, as lists of bytes

-- the block with a symbol for each byte
abbrev of_bytes : List ℕ → List (List ℕ)
of_bytes bytes = map (λ b. b ∷ []) bytes

-- the first byte of each symbol
abbrev bytes_of : List (List ℕ) → List ℕ
bytes_of block = map (λ s. get_or s 0 0) block

bytes_of-of_bytes : (bytes : List ℕ) → bytes_of (of_bytes bytes) ≡ bytes
bytes_of-of_bytes [] = refl
bytes_of-of_bytes (b ∷ bytes) = ap (λ (bs : List ℕ). b ∷ bs) (bytes_of-of_bytes bytes)

IsBlock-of_bytes : (k : ℕ) (bytes : List ℕ) → length bytes ≡ k → AreSymbols 256 bytes → IsBlock k 1 (of_bytes bytes)
IsBlock-of_bytes k bytes count small =
    record {
      width = length-map bytes (λ b. b ∷ []) ∙ count;
      entries = λ i d within.
          let inside : i < length bytes = omega (arith, length-map bytes (λ (b : ℕ). b ∷ [])) in
          rw (get_or-map (λ (b : ℕ). b ∷ []) bytes i 0 d inside) (record { width = refl; entries = one (get_or bytes i 0) (small i 0 inside) });
    }
  where
    one : (b : ℕ) → b < 256 → All IsByte (b ∷ [])
    one b below zero d within = below
    one b below (suc i) d within = absurd (omega arith)

AreSymbols-bytes_of : (n : ℕ) (block : List (List ℕ)) → IsBlock n 1 block → AreSymbols 256 (bytes_of block)
AreSymbols-bytes_of n block is i d within =
    let inside : i < length block = omega (arith, length-map block (λ (s : List ℕ). get_or s 0 0)) in
    let symbol = is.entries i [] inside in
    rw (get_or-map (λ (s : List ℕ). get_or s 0 0) block i [] d inside) (symbol.entries 0 0 (omega (arith, symbol.width)))

same_block : (n : ℕ) (a b : List (List ℕ)) → IsBlock n 1 a → IsBlock n 1 b → bytes_of a ≡ bytes_of b → a ≡ b
same_block n a b is_a is_b same =
    same_block_from_bytes {P = IsByte} n 1 a b is_a is_b (λ i c hi hc.
    let first : c ≡ 0 = omega arith in
    let at : (x : List (List ℕ)) → IsBlock n 1 x → get_or (bytes_of x) i 0 ≡ get_or (get_or x i []) 0 0 =
    λ x is. get_or-map (λ (s : List ℕ). get_or s 0 0) x i [] 0 (omega (arith, is.width)) in
    rw first (sym (at a is_a) ∙ ap (λ (bytes : List ℕ). get_or bytes i 0) same ∙ at b is_b))

-- ---- streams of numbers

-- the stream whose blocks have these numbers
abbrev stream_of : ℕ → List ℕ → List (List (List ℕ))
stream_of k xs = map (λ x. of_bytes (digits 256 k x)) xs

IsStream-stream_of : (k : ℕ) (xs : List ℕ) → IsStream k 1 (stream_of k xs)
IsStream-stream_of k xs i d within =
    let inside : i < length xs = omega (arith, length-map xs (λ (x : ℕ). of_bytes (digits 256 k x))) in
    rw (get_or-map (λ (x : ℕ). of_bytes (digits 256 k x)) xs i 0 d inside)
    (IsBlock-of_bytes k (digits 256 k (get_or xs i 0)) (length-digits 256 k (get_or xs i 0)) (AreSymbols-digits 256 k (get_or xs i 0) (omega arith)))

block_at-stream_of : (k : ℕ) (xs : List ℕ) (t : ℕ) → t < length xs → block_at (stream_of k xs) t ≡ of_bytes (digits 256 k (get_or xs t 0))
block_at-stream_of k xs t within = get_or-map (λ (x : ℕ). of_bytes (digits 256 k x)) xs t 0 [] within

-- equal blocks have equal numbers
same_number : (k : ℕ) (xs ys : List ℕ) (t : ℕ) → t < length xs → t < length ys → AreSymbols (256 ^ k) xs → AreSymbols (256 ^ k) ys
    → block_at (stream_of k xs) t ≡ block_at (stream_of k ys) t → get_or xs t 0 ≡ get_or ys t 0
same_number k xs ys t in_x in_y small_x small_y same =
    let x = get_or xs t 0 in
    let y = get_or ys t 0 in
    let blocks : of_bytes (digits 256 k x) ≡ of_bytes (digits 256 k y) = sym (block_at-stream_of k xs t in_x) ∙ same ∙ block_at-stream_of k ys t in_y in
    let equal : digits 256 k x ≡ digits 256 k y = sym (bytes_of-of_bytes (digits 256 k x)) ∙ ap bytes_of blocks ∙ bytes_of-of_bytes (digits 256 k y) in
    sym (number-digits 256 k x (omega arith) (small_x t 0 in_x)) ∙ ap (number 256) equal ∙ number-digits 256 k y (omega arith) (small_y t 0 in_y)

split_same : (a b c d : List ℕ) → length a ≡ length c → a ++ b ≡ c ++ d → (a ≡ c) × (b ≡ d)
split_same a b c d same e = (
  sym (take-append_seam a b) ∙ ap₂ (λ (n : ℕ) (l : List ℕ). take n l) same e ∙ take-append_seam c d,
  sym (drop-append_seam a b) ∙ ap₂ (λ (n : ℕ) (l : List ℕ). drop n l) same e ∙ drop-append_seam c d,
)

module _ (code : Code ℕ) (is : IsCode IsByte code) where
  -- the parity of a slot
  abbrev parity_at : List (List (List ℕ)) → ℕ → List (List ℕ)
  parity_at stream t = parity 0 gf256_product code 1 stream t

  -- the bytes that are sent in a slot: its block's, and its parity's
  abbrev slot_bytes : List (List (List ℕ)) → ℕ → List ℕ
  slot_bytes stream t = bytes_of (block_at stream t) ++ bytes_of (parity_at stream t)

  -- the code as a table: the number of what is sent in the last slot
  abbrev byte_table : List ℕ → ℕ
  byte_table xs = number 256 (slot_bytes (stream_of code.k xs) (length xs - 1))

  is_parity : (xs : List ℕ) (t : ℕ) → IsBlock code.r 1 (parity_at (stream_of code.k xs) t)
  is_parity xs t = IsBlock-parity gf256_field gf256_action code 1 (stream_of code.k xs) t is (IsStream-stream_of code.k xs)

  is_block : (xs : List ℕ) (t : ℕ) → t < length xs → IsBlock code.k 1 (block_at (stream_of code.k xs) t)
  is_block xs t within =
      IsStream-stream_of code.k xs t [] (omega (arith, length-map xs (λ (x : ℕ). of_bytes (digits 256 code.k x))))

  length-block : (xs : List ℕ) (t : ℕ) → t < length xs → length (bytes_of (block_at (stream_of code.k xs) t)) ≡ code.k
  length-block xs t within = length-map (block_at (stream_of code.k xs) t) (λ (s : List ℕ). get_or s 0 0) ∙ (is_block xs t within).width

  length-slot : (xs : List ℕ) (t : ℕ) → t < length xs → length (slot_bytes (stream_of code.k xs) t) ≡ code.k + code.r
  length-slot xs t within =
      omega (
        arith,
        length-append (bytes_of (block_at (stream_of code.k xs) t)) (bytes_of (parity_at (stream_of code.k xs) t)),
        length-block xs t within,
        length-map (parity_at (stream_of code.k xs) t) (λ (s : List ℕ). get_or s 0 0),
        (is_parity xs t).width,
      )

  AreSymbols-slot : (xs : List ℕ) (t : ℕ) → t < length xs → AreSymbols 256 (slot_bytes (stream_of code.k xs) t)
  AreSymbols-slot xs t within =
      All-append (λ b. b < 256) (bytes_of (block_at (stream_of code.k xs) t)) (bytes_of (parity_at (stream_of code.k xs) t))
      (AreSymbols-bytes_of code.k (block_at (stream_of code.k xs) t) (is_block xs t within))
      (AreSymbols-bytes_of code.r (parity_at (stream_of code.k xs) t) (is_parity xs t))

  byte_table-IsTable : (horizon : ℕ) → IsTable (256 ^ code.k) (256 ^ (code.k + code.r)) horizon byte_table
  byte_table-IsTable horizon =
      record {
        entry = λ numbers small some short.
            let last : length numbers - 1 < length numbers = omega arith in
            subst (λ (n : ℕ). byte_table numbers < 256 ^ n) (length-slot numbers (length numbers - 1) last)
            (number-lt 256 (slot_bytes (stream_of code.k numbers) (length numbers - 1)) (AreSymbols-slot numbers (length numbers - 1) last));
      }

  -- what is sent in a slot of a longer list is the slot's bytes, since a slot knows no later block
  sent_is : (xs : List ℕ) (t : ℕ) → t < length xs → sent byte_table xs t ≡ number 256 (slot_bytes (stream_of code.k xs) t)
  sent_is xs t within =
      let front = take (t + 1) xs in
      let stream = stream_of code.k xs in
      let last : length front - 1 ≡ t = omega (arith, length-take-le (t + 1) xs (omega arith)) in
      let part : stream_of code.k front ≡ take (t + 1) stream = sym (take-map (λ x. of_bytes (digits 256 code.k x)) (t + 1) xs) in
      let blocks : (u : ℕ) → u ≤ t → block_at (take (t + 1) stream) u ≡ block_at stream u = λ u le. get_or-take (t + 1) stream u [] (omega arith) in
      ap₂ (λ (s : List (List (List ℕ))) (n : ℕ). number 256 (slot_bytes s n)) part last
      ∙ ap₂ (λ (block par : List (List ℕ)). number 256 (bytes_of block ++ bytes_of par)) (blocks t (omega arith)) (parity-same 0 gf256_product code 1 (take (t + 1) stream) stream t blocks)

  -- the same is sent in a slot only where block and parity are the same
  same_slot : (xs ys : List ℕ) (t : ℕ) → t < length xs → t < length ys → sent byte_table xs t ≡ sent byte_table ys t
      → IsSameSlot 0 gf256_product code 1 (stream_of code.k xs) (stream_of code.k ys) t
  same_slot xs ys t in_x in_y same =
      let x = stream_of code.k xs in
      let y = stream_of code.k ys in
      let slots : slot_bytes x t ≡ slot_bytes y t =
      same_from_number 256 (slot_bytes x t) (slot_bytes y t) (length-slot xs t in_x ∙ sym (length-slot ys t in_y)) (AreSymbols-slot xs t in_x) (AreSymbols-slot ys t in_y)
      (sym (sent_is xs t in_x) ∙ same ∙ sent_is ys t in_y) in
      let parts =
      split_same (bytes_of (block_at x t)) (bytes_of (parity_at x t)) (bytes_of (block_at y t)) (bytes_of (parity_at y t)) (length-block xs t in_x ∙ sym (length-block ys t in_y)) slots in
      record {
        same_block = same_block code.k (block_at x t) (block_at y t) (is_block xs t in_x) (is_block ys t in_y) parts.0;
        same_parity = same_block code.r (parity_at x t) (parity_at y t) (is_parity xs t) (is_parity ys t) parts.1;
      }

  byte_table-TableMeets : (channel : ChannelNumbers) (horizon : ℕ) → Meets 0 gf256_product code channel → TableMeets channel (256 ^ code.k) horizon byte_table
  byte_table-TableMeets channel horizon meets =
      record {
        determined = λ t loss short count ok. record {
          same = λ xs ys lx ly small_x small_y alike.
              let width : (zs : List ℕ) → length (stream_of code.k zs) ≡ length zs = λ zs. length-map zs (λ (x : ℕ). of_bytes (digits 256 code.k x)) in
              same_number code.k xs ys t (omega arith) (omega arith) small_x small_y
              (meets t loss count ok 1 (omega arith) (stream_of code.k xs) (stream_of code.k ys) (IsStream-stream_of code.k xs) (IsStream-stream_of code.k ys)
              (width xs ∙ lx) (width ys ∙ ly)
              (λ i le kept.
              let within : i < length loss = omega arith in
              same_slot xs ys i (omega arith) (omega arith) (alike i within (get_or_default loss i false true within ∙ kept))));
        };
      }

  -- the bound
  pub byte_code_bounded : (channel : ChannelNumbers) (certificate : CertificateNumbers) → Meets 0 gf256_product code channel → IsCertificate certificate → IsAccepted channel certificate
      → code.k * certificate.period ≤ kept_count certificate * (code.k + code.r)
  byte_code_bounded channel certificate meets valid accepted =
      let horizon = certificate.period * (256 ^ (code.k + code.r)) ^ (kept_count certificate + channel.t) + channel.t in
      byte_rate_bounded channel certificate code.k (code.k + code.r) horizon byte_table valid accepted
      (byte_table-IsTable horizon) (byte_table-TableMeets channel horizon meets) (omega arith)
