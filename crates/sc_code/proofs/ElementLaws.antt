-- Streams of elements of the field, and streams of bytes: what a class decides of the ones and of the others.
use Rattle.std.proofs.Common.{◌≡◌, ℕ, ◌<◌, ◌↔◌, Bool, List, [], length, get_or, map, replicate, All, bit_xor, refl, sym, ap, ◌∙◌, arith, inl, inr}
use Rattle.std.specs.List.{range_with_len}
use Rattle.std.proofs.lemmas.List.{length-replicate, get_or-replicate, get_or_default, same_lists}
use Rattle.std.proofs.lemmas.List.Elements.{All-nil}
use Rattle.std.proofs.lemmas.List.FromFn.{length-map-range_with_len, get_or-map-range_with_len}
use Rattle.sc_field.specs.Field.{IsField, IsAction, IsExact}
use Rattle.sc_field.specs.FieldLemmas.{same_or_differ}
use Rattle.sc_field.specs.ActionLemmas.{act_zero, act_cancel}
use Rattle.sc_matrix.specs.Module.{IsByte, IsLinear}
use Rattle.sc_matrix.specs.Vector.{IsVector}
use Rattle.sc_matrix.proofs.Modules.{field_module}
use Rattle.sc_code.specs.Code.{Code, IsCode}
use Rattle.sc_code.specs.Stream.{block_at, byte_at, column}
use Rattle.sc_code.specs.Parity.{parity_symbol, parity_byte}
use Rattle.sc_code.specs.Determined.{IsKept, IsZeroSlot, IsDecided}
use Rattle.sc_code.specs.Elements.{element_at, IsDecidedOver}
use Rattle.sc_code.proofs.SumLaws.{All-or}
use Rattle.sc_code.proofs.ParityLaws.{AreValues, parity_symbol-same, linear-parity_symbol}
use Rattle.sc_code.proofs.ColumnLaws.{All-map_range, replicate-map, zero_block_from_bytes, byte_at-zeros, AreValues-column, byte_at-parity}
use Rattle.sc_code.proofs.MeetsLaws.{IsKept-in_range, IsZeroIn, DecidesColumns, DecidesColumns-from_decided}

-- ---- streams of bytes: a class decides where it decides each column

module _ {A : Type 0} (zero : A) (act : A → ℕ → ℕ) where
  -- a zero slot is zero in its column
  IsZeroIn-column : (code : Code A) (xs : List (List (List ℕ))) (t : ℕ) → IsZeroSlot zero act code 1 xs t → IsZeroIn zero act code (column xs 0) t
  IsZeroIn-column code xs t z =
      record {
        symbols = λ i hi. ap (λ (b : List (List ℕ)). byte_at b i 0) z.zero_symbols ∙ byte_at-zeros code.k 1 i 0;
        parities = λ j hj.
            let one : 0 < 1 = omega arith in
            sym (byte_at-parity zero act code 1 xs t j 0 hj one) ∙ ap (λ (b : List (List ℕ)). byte_at b j 0) z.zero_parity ∙ byte_at-zeros code.r 1 j 0;
      }

  pub decided_from_DecidesColumns : (code : Code A) (class : List Bool) → 0 < length class → DecidesColumns zero act code class → IsDecided zero act code class
  decided_from_DecidesColumns code class some decides xs hx lx zeros =
      zero_block_from_bytes code.k 1 (block_at xs 0) (hx 0 [] (omega arith)) (λ i c hi hc.
      let e : c ≡ 0 = omega arith in
      ap (λ (c : ℕ). byte_at (block_at xs 0) i c) e
      ∙ decides.decides (column xs 0) (AreValues-column code.k 1 xs 0 hx) (λ t kept. IsZeroIn-column code xs t (zeros t kept)) i hi)

-- ---- streams of elements, by a function from a slot and a symbol

-- what a class decides of such functions
pub record DecidesElements {A : Type 0} (IsElement : A → Type 0) (zero : A) (add mul : A → A → A) (code : Code A) (class : List Bool) : Type 0 where
  pub decides : (f : ℕ → ℕ → A) → AreValues IsElement f
      → ((t : ℕ) → IsKept class t → (i : ℕ) → i < code.k → f t i ≡ zero)
      → ((t : ℕ) → IsKept class t → (j : ℕ) → j < code.r → parity_symbol zero zero add mul code f t j ≡ zero)
      → (i : ℕ) → i < code.k → f 0 i ≡ zero

module _ {A : Type 0} (IsElement : A → Type 0) (zero : A) (add mul : A → A → A) where
  -- n blocks of k symbols
  abbrev elements_of : ℕ → ℕ → (ℕ → ℕ → A) → List (List A)
  elements_of k n f = map (λ t. map (λ i. f t i) (range_with_len 0 k)) (range_with_len 0 n)

  element_at-elements_of : (k n : ℕ) (f : ℕ → ℕ → A) (t i : ℕ) → t < n → i < k → element_at zero (elements_of k n f) t i ≡ f t i
  element_at-elements_of k n f t i ht hi =
      ap (λ (b : List A). get_or b i zero) (get_or-map-range_with_len (λ t. map (λ i. f t i) (range_with_len 0 k)) 0 n t t [] ht (omega arith))
      ∙ get_or-map-range_with_len (λ i. f t i) 0 k i i zero hi (omega arith)

  IsVector-elements_of : (k n : ℕ) (f : ℕ → ℕ → A) → AreValues IsElement f → All (IsVector IsElement k) (elements_of k n f)
  IsVector-elements_of k n f hf =
      All-map_range (IsVector IsElement k) (λ t. map (λ i. f t i) (range_with_len 0 k)) n (λ t ht. record {
        width = length-map-range_with_len (λ i. f t i) 0 k;
        entries = All-map_range IsElement (λ i. f t i) k (λ i hi. hf.value t i);
      })

  pub DecidesElements-from_decided : (code : Code A) (class : List Bool) → 0 < length class → IsDecidedOver IsElement zero add mul code class → DecidesElements IsElement zero add mul code class
  DecidesElements-from_decided code class some decided =
      record {
        decides = λ f hf symbols parities i hi.
            let n : ℕ = length class in
            let block : get_or (elements_of code.k (length class) f) 0 [] ≡ replicate code.k zero =
            decided (elements_of code.k (length class) f) (IsVector-elements_of code.k (length class) f hf)
            (length-map-range_with_len (λ t. map (λ i. f t i) (range_with_len 0 code.k)) 0 (length class))
            (λ t kept.
            let within : t < length class = IsKept-in_range class t kept in
            record {
              symbols =
                  get_or-map-range_with_len (λ t. map (λ i. f t i) (range_with_len 0 code.k)) 0 (length class) t t [] within (omega arith)
                  ∙ replicate-map (λ i. f t i) code.k zero (λ i hi. symbols t kept i hi);
              parities = λ j hj.
                  parity_symbol-same zero zero add mul code (element_at zero (elements_of code.k (length class) f)) f t j (λ u i hu hi. element_at-elements_of code.k (length class) f u i (omega arith) hi)
                  ∙ parities t kept j hj;
            }) in
            sym (element_at-elements_of code.k (length class) f 0 i some hi) ∙ ap (λ (b : List A). get_or b i zero) block ∙ get_or-replicate code.k i zero zero hi;
      }

  -- a block whose symbols are zero
  zero_elements : (k : ℕ) (b : List A) → length b ≡ k → ((i : ℕ) → i < k → get_or b i zero ≡ zero) → b ≡ replicate k zero
  zero_elements k b e h =
      same_lists b (replicate k zero) (e ∙ sym (length-replicate k zero)) (λ i d lt.
      let below : i < k = omega arith in
      get_or_default b i d zero lt ∙ h i below ∙ sym (get_or-replicate k i zero d below))

  pub decided_from_DecidesElements : (code : Code A) (class : List Bool) → IsElement zero → 0 < length class → DecidesElements IsElement zero add mul code class → IsDecidedOver IsElement zero add mul code class
  decided_from_DecidesElements code class hz some decides xs hx lx zeros =
      zero_elements code.k (get_or xs 0 []) (hx 0 [] (omega arith)).width
      (decides.decides (element_at zero xs)
      (record { value = λ t i. All-or IsElement (get_or xs t []) i zero (All-or (λ (b : List A). All IsElement b) xs t [] (λ l d h. (hx l d h).entries) (All-nil IsElement)) hz })
      (λ t kept i hi. ap (λ (b : List A). get_or b i zero) (zeros t kept).symbols ∙ get_or-replicate code.k i zero zero hi)
      (λ t kept j hj. (zeros t kept).parities j hj))

-- ---- where the elements are the bytes, and the sum is xor, both are the same

-- A class decides the streams of elements exactly where it decides the streams of width 1, if the elements are the bytes.
pub IsDecidedOver-iff_bytes : (act : ℕ → ℕ → ℕ) (code : Code ℕ) (class : List Bool) → 0 < length class → IsDecidedOver IsByte 0 bit_xor act code class ↔ IsDecided 0 act code class
IsDecidedOver-iff_bytes act code class some = (
  λ decided.
      let d = DecidesElements-from_decided IsByte 0 bit_xor act code class some decided in
      decided_from_DecidesColumns 0 act code class some (record {
        decides = λ f hf zeros i hi.
            d.decides f hf (λ t kept i hi. (zeros t kept).symbols i hi) (λ t kept j hj. (zeros t kept).parities j hj) i hi;
      }),
  λ decided.
      let d = DecidesColumns-from_decided 0 act code class some decided in
      let small : 0 < 256 = omega arith in
      decided_from_DecidesElements IsByte 0 bit_xor act code class small some (record {
        decides = λ f hf symbols parities i hi.
            d.decides f hf (λ t kept. record { symbols = λ i hi. symbols t kept i hi; parities = λ j hj. parities t kept j hj }) i hi;
      }),
)

one-not_zero : (a b : ℕ) → a ≡ 1 → b ≡ 0 → a ≡ b → ⊥
one-not_zero a b ha hb e = absurd (omega arith)

-- ---- over every field, a class that decides bytes decides elements: their products with the byte 1 are such bytes
module _ {A : Type 0} {IsElement : A → Type 0} {zero one : A} {add sub mul : A → A → A} {inv : A → A} {act : A → ℕ → ℕ} {eq : A → A → Bool} (laws : IsField IsElement zero one add sub mul inv) (action : IsAction IsElement zero one add mul act) (exact : IsExact IsElement eq) where
  -- the byte that stands for an element
  act-linear : IsLinear IsElement IsElement zero add mul 0 bit_xor act (λ x. act x 1)
  act-linear = record {
    of_none = action.by_zero 1 (omega arith);
    of_plus = λ u v hu hv. action.by_add u v 1 hu hv (omega arith);
    of_times = λ x v hx hv. action.by_mul x v 1 hx hv (omega arith);
  }

  act-parity : (code : Code A) (f : ℕ → ℕ → A) (t j : ℕ) → IsCode IsElement code → AreValues IsElement f → act (parity_symbol zero zero add mul code f t j) 1 ≡ parity_byte zero act code (λ t i. act (f t i) 1) t j
  act-parity code f t j hc hf = linear-parity_symbol laws (field_module laws) act-linear code f t j hc hf

  -- an element whose byte is 0 is zero
  zero_from_byte : (x : A) → IsElement x → act x 1 ≡ 0 → x ≡ zero
  zero_from_byte x hx e =
      elim (same_or_differ exact x zero hx laws.zero_element) [
        | inl same ↦ same
        | inr differ ↦ absurd (one-not_zero 1 0 refl refl (act_cancel laws action x 1 0 hx differ (omega arith) (omega arith) (e ∙ sym (act_zero laws action x hx))))
      ]

  pub IsDecidedOver-from_bytes : (code : Code A) (class : List Bool) → IsCode IsElement code → 0 < length class → IsDecided zero act code class → IsDecidedOver IsElement zero add mul code class
  IsDecidedOver-from_bytes code class hc some decided =
      let d = DecidesColumns-from_decided zero act code class some decided in
      decided_from_DecidesElements IsElement zero add mul code class laws.zero_element some (record {
        decides = λ f hf symbols parities i hi.
            zero_from_byte (f 0 i) (hf.value 0 i)
            (d.decides (λ t i. act (f t i) 1) (record { value = λ t i. action.below (f t i) 1 (hf.value t i) (omega arith) }) (λ t kept. record {
              symbols = λ i hi. ap (λ (x : A). act x 1) (symbols t kept i hi) ∙ action.by_zero 1 (omega arith);
              parities = λ j hj. sym (act-parity code f t j hc hf) ∙ ap (λ (x : A). act x 1) (parities t kept j hj) ∙ action.by_zero 1 (omega arith);
            }) i hi);
      })
