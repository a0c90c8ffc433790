-- A code meets a channel exactly where every admissible loss of deadline + 1 flags with flag 0 set decides.
--
-- Let two streams agree under a loss. Their sum is zero in each kept slot. If it is zero before slot n, then it is zero
-- in slot n too: either flag n isn't set, or the flags from n to n + deadline are such a loss, and decide. So one walk
-- over the slots shows that the sum is zero up to the slot asked for.
use Rattle.std.proofs.Common.{◌≡◌, ◌≢◌, ℕ, zero as none, suc, ◌+◌, ◌<◌, ◌≤◌, ◌↔◌, Bool, true, false, List, [], ◌∷◌, ◌++◌, length, get_or, take, drop, replicate, bit_xor, sym, ap, ◌∙◌, subst, arith, inl, inr}
use Rattle.std.proofs.lemmas.Bool.{both_ways, cases_lt, cases_Bool}
use Rattle.std.proofs.lemmas.List.{length-replicate, get_or-replicate, get_or_default, get_or_past, get_or-take, get_or-drop, length-take, length-drop, take-append-drop}
use Rattle.std.proofs.lemmas.List.FromFn.{length-map-range_with_len}
use Rattle.sc_field.specs.Field.{IsField, IsAction}
use Rattle.sc_channel.specs.Channel.{ChannelNumbers}
use Rattle.sc_channel.specs.Flags.{IsSet}
use Rattle.sc_channel.specs.Loss.{IsAdmissible}
use Rattle.sc_channel.proofs.FineLaws.{IsAdmissible-part}
use Rattle.sc_matrix.specs.Module.{IsByte}
use Rattle.sc_matrix.proofs.Modules.{byte_module}
use Rattle.sc_code.specs.Code.{Code, IsCode}
use Rattle.sc_code.specs.Stream.{IsStream, zero_block, block_at, byte_at, column}
use Rattle.sc_code.specs.Parity.{parity_byte}
use Rattle.sc_code.specs.Determined.{IsKept, IsSameSlot, IsZeroSlot, Meets, IsDecided, DecidesAllLosses, IsRefutation}
use Rattle.sc_code.proofs.ParityLaws.{AreValues, plus_symbols, symbols_from, AreValues-plus, AreValues-from, parity_symbol-from, parity_symbol-plus, parity_symbol-zeros}
use Rattle.sc_code.proofs.ColumnLaws.{replicate-map, same_block_from_bytes, byte_at-zeros, IsStream-zeros, column-zeros, AreValues-column, same_from_xor, xor_same, block_of, stream_of, IsStream-stream_of, block_at-stream_of, column-stream_of, parity_byte-stream_of, zero_parity_from_bytes, column-same_slot, parity_byte-same_slot}

-- ---- kept slots

pub IsKept-in_range : (loss : List Bool) (i : ℕ) → IsKept loss i → i < length loss
IsKept-in_range loss i kept =
    elim (cases_lt i (length loss)) [ inl within ↦ within | inr past ↦ absurd (both_ways _ kept (get_or_past loss i true past)) ]

-- a slot of a loss is lost or kept
pub IsSet-from_true : (loss : List Bool) (i : ℕ) → i < length loss → get_or loss i true ≡ true → IsSet loss i
IsSet-from_true loss i within e = get_or_default loss i false true within ∙ e

pub IsSet-to_true : (loss : List Bool) (i : ℕ) → i < length loss → IsSet loss i → get_or loss i true ≡ true
IsSet-to_true loss i within set = get_or_default loss i true false within ∙ set

-- the flags from s to s + deadline
abbrev pub stretch : ℕ → ℕ → List Bool → List Bool
stretch deadline s loss = take (deadline + 1) (drop s loss)

-- a kept slot of a stretch is one of the loss
IsKept-stretch : (deadline s : ℕ) (loss : List Bool) (i : ℕ) → IsKept (stretch deadline s loss) i → (i < deadline + 1) × IsKept loss (s + i)
IsKept-stretch deadline s loss i kept =
    let within : i < length (stretch deadline s loss) = IsKept-in_range (stretch deadline s loss) i kept in
    let below : i < deadline + 1 = omega (arith, length-take (deadline + 1) (drop s loss)) in
    (below, sym (get_or-drop s loss i true) ∙ sym (get_or-take (deadline + 1) (drop s loss) i true below) ∙ kept)

length-stretch : (deadline s : ℕ) (loss : List Bool) → s + deadline + 1 ≤ length loss → length (stretch deadline s loss) ≡ deadline + 1
length-stretch deadline s loss h = omega (arith, length-take (deadline + 1) (drop s loss), length-drop s loss)

-- a stretch begins with the flag at its place
IsSet-stretch : (deadline s : ℕ) (loss : List Bool) → IsSet loss s → IsSet (stretch deadline s loss) 0
IsSet-stretch deadline s loss set =
    let first : 0 < deadline + 1 = omega arith in
    let place : s + 0 ≡ s = omega arith in
    get_or-take (deadline + 1) (drop s loss) 0 false first ∙ get_or-drop s loss 0 false ∙ ap (λ (k : ℕ). get_or loss k false) place ∙ set

-- a stretch of an admissible loss is admissible
IsAdmissible-stretch : (channel : ChannelNumbers) (deadline s : ℕ) (loss : List Bool) → IsAdmissible channel loss → IsAdmissible channel (stretch deadline s loss)
IsAdmissible-stretch channel deadline s loss admissible =
    let e : take s loss ++ (stretch deadline s loss ++ drop (deadline + 1) (drop s loss)) ≡ loss =
    ap (λ rest. take s loss ++ rest) (take-append-drop (deadline + 1) (drop s loss)) ∙ take-append-drop s loss in
    IsAdmissible-part channel (take s loss) (stretch deadline s loss) (drop (deadline + 1) (drop s loss)) (subst (IsAdmissible channel) (sym e) admissible)

-- ---- what a class decides in one byte column

-- a column is zero in slot t, in symbols and parities
pub record IsZeroIn {A : Type 0} (zero : A) (act : A → ℕ → ℕ) (code : Code A) (f : ℕ → ℕ → ℕ) (t : ℕ) : Type 0 where
  pub symbols : (i : ℕ) → i < code.k → f t i ≡ 0
  pub parities : (j : ℕ) → j < code.r → parity_byte zero act code f t j ≡ 0

-- a column that is zero in each kept slot has a zero block 0
pub record DecidesColumns {A : Type 0} (zero : A) (act : A → ℕ → ℕ) (code : Code A) (class : List Bool) : Type 0 where
  pub decides : (f : ℕ → ℕ → ℕ) → AreValues IsByte f → ((t : ℕ) → IsKept class t → IsZeroIn zero act code f t) → (i : ℕ) → i < code.k → f 0 i ≡ 0

module _ {A : Type 0} (zero : A) (act : A → ℕ → ℕ) where
  -- the stream that has a column which is zero in slot t is zero there
  IsZeroSlot-stream_of : (code : Code A) (n : ℕ) (f : ℕ → ℕ → ℕ) (t : ℕ) → t < n → IsZeroIn zero act code f t → IsZeroSlot zero act code 1 (stream_of code.k n f) t
  IsZeroSlot-stream_of code n f t within z =
      record {
        zero_symbols = block_at-stream_of code.k n f t within ∙ replicate-map (λ i. f t i ∷ []) code.k (0 ∷ []) (λ i hi. ap (λ (b : ℕ). b ∷ []) (z.symbols i hi));
        zero_parity =
            zero_parity_from_bytes zero act code 1 (stream_of code.k n f) t (λ j c hj hc. parity_byte-stream_of zero act code n f t j c within hc ∙ z.parities j hj);
      }

  pub DecidesColumns-from_decided : (code : Code A) (class : List Bool) → 0 < length class → IsDecided zero act code class → DecidesColumns zero act code class
  DecidesColumns-from_decided code class some decided =
      record {
        decides = λ f hf z i hi.
            let xs = stream_of code.k (length class) f in
            let block : block_at xs 0 ≡ zero_block code.k 1 =
            decided xs (IsStream-stream_of code.k (length class) f hf) (length-map-range_with_len (λ t. block_of code.k (f t)) 0 (length class))
            (λ t kept. IsZeroSlot-stream_of code (length class) f t (IsKept-in_range class t kept) (z t kept)) in
            sym (column-stream_of code.k (length class) f 0 i some hi) ∙ ap (λ (b : List (List ℕ)). byte_at b i 0) block ∙ byte_at-zeros code.k 1 i 0;
      }

  -- One step of the walk: a column that is zero before slot n and in each kept slot is zero in slot n.
  zero_at : (code : Code A) (deadline t : ℕ) (loss : List Bool) (f : ℕ → ℕ → ℕ) (n : ℕ) → AreValues IsByte f → length loss ≡ t + deadline + 1 → n ≤ t
      → ((u : ℕ) → u ≤ t + deadline → IsKept loss u → IsZeroIn zero act code f u)
      → (IsSet loss n → DecidesColumns zero act code (stretch deadline n loss))
      → ((u i : ℕ) → u < n → i < code.k → f u i ≡ 0)
      → (i : ℕ) → i < code.k → f n i ≡ 0
  zero_at code deadline t loss f n hf e le zeros stretches before i hi =
      elim (cases_Bool (get_or loss n true)) [
        | inl set ↦
            let place : n ≡ n + 0 = omega arith in
            ap (λ (u : ℕ). f u i) place
            ∙ (stretches (IsSet-from_true loss n (omega arith) set)).decides (symbols_from n f) (AreValues-from n f hf)
            (λ u kept.
            let there = IsKept-stretch deadline n loss u kept in
            let low : u < deadline + 1 = there.0 in
            let z = zeros (n + u) (omega arith) there.1 in
            record {
              symbols = λ i hi. z.symbols i hi;
              parities = λ j hj. parity_symbol-from zero 0 bit_xor act code n f u j before ∙ z.parities j hj;
            }) i hi
        | inr kept ↦ (zeros n (omega arith) kept).symbols i hi
      ]

  -- The walk: such a column is zero up to slot t.
  zero_up_to : (code : Code A) (deadline t : ℕ) (loss : List Bool) (f : ℕ → ℕ → ℕ) → AreValues IsByte f → length loss ≡ t + deadline + 1
      → ((u : ℕ) → u ≤ t + deadline → IsKept loss u → IsZeroIn zero act code f u)
      → ((s : ℕ) → s ≤ t → IsSet loss s → DecidesColumns zero act code (stretch deadline s loss))
      → (n : ℕ) → n ≤ t + 1 → (u i : ℕ) → u < n → i < code.k → f u i ≡ 0
  zero_up_to code deadline t loss f hf e zeros stretches none le u i lt hi = absurd (omega arith)
  zero_up_to code deadline t loss f hf e zeros stretches (suc n) le u i lt hi =
      let before : (u i : ℕ) → u < n → i < code.k → f u i ≡ 0 = zero_up_to code deadline t loss f hf e zeros stretches n (omega arith) in
      let low : n ≤ t = omega arith in
      elim (cases_lt u n) [
        | inl earlier ↦ before u i earlier hi
        | inr last ↦
            let here : u ≡ n = omega arith in
            ap (λ (v : ℕ). f v i) here ∙ zero_at code deadline t loss f n hf e low zeros (stretches n low) before i hi
      ]

-- ---- the two directions
module _ {A : Type 0} {IsElement : A → Type 0} {zero one : A} {add sub mul : A → A → A} {inv : A → A} {act : A → ℕ → ℕ} (laws : IsField IsElement zero one add sub mul inv) (action : IsAction IsElement zero one add mul act) where
  -- two streams that agree under a loss have a sum that is zero in the kept slots
  IsZeroIn-agreeing : (code : Code A) (m : ℕ) (xs ys : List (List (List ℕ))) (u c : ℕ) → IsCode IsElement code → IsStream code.k m xs → IsStream code.k m ys → c < m → IsSameSlot zero act code m xs ys u → IsZeroIn zero act code (plus_symbols bit_xor (column xs c) (column ys c)) u
  IsZeroIn-agreeing code m xs ys u c hc hx hy lt same =
      record {
        symbols = λ i hi. xor_same (column xs c u i) (column ys c u i) (column-same_slot zero act code m xs ys u c same i);
        parities = λ j hj.
            parity_symbol-plus laws (byte_module action) code (column xs c) (column ys c) u j hc (AreValues-column code.k m xs c hx) (AreValues-column code.k m ys c hy)
            ∙ xor_same _ _ (parity_byte-same_slot zero act code m xs ys u j c same hj lt);
      }

  pub Meets-from_decided : (code : Code A) (channel : ChannelNumbers) → IsCode IsElement code → DecidesAllLosses zero act code channel → Meets zero act code channel
  Meets-from_decided code channel hc decided t loss e admissible m some xs ys hx hy lx ly agree =
      same_block_from_bytes code.k m (block_at xs t) (block_at ys t) (hx t [] (omega arith)) (hy t [] (omega arith))
      (λ i c hi lt.
      same_from_xor (column xs c t i) (column ys c t i)
      (zero_up_to zero act code channel.t t loss (plus_symbols bit_xor (column xs c) (column ys c))
      (AreValues-plus laws (byte_module action) (column xs c) (column ys c) (AreValues-column code.k m xs c hx) (AreValues-column code.k m ys c hy)) e
      (λ u le kept. IsZeroIn-agreeing code m xs ys u c hc hx hy lt (agree u le kept))
      (λ s le set.
      let n : length (stretch channel.t s loss) ≡ channel.t + 1 = length-stretch channel.t s loss (omega arith) in
      DecidesColumns-from_decided zero act code (stretch channel.t s loss) (omega arith)
      (decided (stretch channel.t s loss) n (IsSet-stretch channel.t s loss set) (IsAdmissible-stretch channel channel.t s loss admissible)))
      (t + 1) (omega arith) t i (omega arith) hi))

  -- a slot that is zero is that of the stream of zeros
  IsSameSlot-zeros : (code : Code A) (n : ℕ) (xs : List (List (List ℕ))) (i : ℕ) → IsCode IsElement code → i < n → IsZeroSlot zero act code 1 xs i → IsSameSlot zero act code 1 xs (replicate n (zero_block code.k 1)) i
  IsSameSlot-zeros code n xs i hc within z =
      record {
        same_block = z.zero_symbols ∙ sym (get_or-replicate n i (zero_block code.k 1) [] within);
        same_parity =
            z.zero_parity
            ∙ sym (zero_parity_from_bytes zero act code 1 (replicate n (zero_block code.k 1)) i
            (λ j c hj lt. parity_symbol-zeros laws (byte_module action) code (column (replicate n (zero_block code.k 1)) c) i j hc (λ u s hu hs. column-zeros code.k 1 n c u s)));
      }

  -- An admissible loss of deadline + 1 flags is the case of block 0, and the stream of zeros is one of the two.
  pub decided_from_Meets : (code : Code A) (channel : ChannelNumbers) (class : List Bool) → IsCode IsElement code → Meets zero act code channel → length class ≡ channel.t + 1 → IsAdmissible channel class → IsDecided zero act code class
  decided_from_Meets code channel class hc meets e admissible xs hx lx zeros =
      let ys = replicate (length class) (zero_block code.k 1) in
      let n : length ys ≡ length class = length-replicate (length class) (zero_block code.k 1) in
      meets 0 class (omega arith) admissible 1 (omega arith) xs ys hx (IsStream-zeros code.k 1 (length class)) (omega arith) (omega arith)
      (λ i le kept. IsSameSlot-zeros code (length class) xs i hc (IsKept-in_range class i kept) (zeros i kept))
      ∙ get_or-replicate (length class) 0 (zero_block code.k 1) [] (omega arith)

  -- A code meets a channel exactly where every admissible loss of deadline + 1 flags with flag 0 set decides.
  pub Meets-iff_decided : (code : Code A) (channel : ChannelNumbers) → IsCode IsElement code → Meets zero act code channel ↔ DecidesAllLosses zero act code channel
  Meets-iff_decided code channel hc =
      (λ meets class e set admissible. decided_from_Meets code channel class hc meets e admissible, Meets-from_decided code channel hc)

  -- A refutation refutes.
  pub not_Meets-from_refutation : (code : Code A) (channel : ChannelNumbers) (loss : List Bool) (xs : List (List (List ℕ))) → IsRefutation zero act code channel loss xs → Meets zero act code channel → ⊥
  not_Meets-from_refutation code channel loss xs refutation meets =
      let ys = replicate (channel.t + 1) (zero_block code.k 1) in
      let n : length ys ≡ channel.t + 1 = length-replicate (channel.t + 1) (zero_block code.k 1) in
      let blocks = refutation.blocks in
      let flags = refutation.flags in
      refutation.block_differs
      (meets 0 loss (omega arith) refutation.admissible 1 (omega arith) xs ys refutation.stream (IsStream-zeros code.k 1 (channel.t + 1)) (omega arith) (omega arith)
      (λ i le kept. refutation.agree i (omega arith) kept)
      ∙ get_or-replicate (channel.t + 1) 0 (zero_block code.k 1) [] (omega arith))

  -- A stream that shows that an admissible loss doesn't decide is a refutation.
  pub IsRefutation-from_undecided : (code : Code A) (channel : ChannelNumbers) (loss : List Bool) (xs : List (List (List ℕ))) → IsCode IsElement code → length loss ≡ channel.t + 1 → IsSet loss 0 → IsAdmissible channel loss
      → IsStream code.k 1 xs → length xs ≡ length loss → ((i : ℕ) → IsKept loss i → IsZeroSlot zero act code 1 xs i) → block_at xs 0 ≢ zero_block code.k 1 → IsRefutation zero act code channel loss xs
  IsRefutation-from_undecided code channel loss xs hc e first admissible hx lx zeros differs =
      record {
        flags = e;
        first_lost = first;
        admissible = admissible;
        blocks = lx ∙ e;
        stream = hx;
        block_differs = differs;
        agree = λ i le kept. IsSameSlot-zeros code (channel.t + 1) xs i hc (omega arith) (zeros i kept);
      }
