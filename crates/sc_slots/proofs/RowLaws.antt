-- The equations of a taken slot are met exactly where its rows are: the sums of products of coefficients and symbols are the
-- slot's symbols.
use Rattle.std.proofs.Common.{◌≡◌, ℕ, zero as nought, suc, ◌+◌, ◌-◌, ◌<◌, ◌↔◌, Bool, true, false, cond, ◌&&◌, eqb, leb, List, [], ◌∷◌, ◌++◌, length, get_or, map, flat_map, All, bit_xor, refl, sym, ap, ap₂, ◌∙◌, arith, inl, inr}
use Rattle.std.specs.List.{range_with_len}
use Rattle.std.specs.Int.Bits.{xor_assoc, xor_zero_l, xor_zero_r}
use Rattle.std.proofs.lemmas.Bool.{cases_lt, cases_eq, cond-true, cond-false, eq-eqb, ne_eqb, le-leb, lt-leb, and_left, and_right, and_from}
use Rattle.std.proofs.lemmas.List.{length-map, length-replicate, get_or-map, get_or-replicate, ext_get_or}
use Rattle.std.proofs.lemmas.List.Elements.{All-nil, All-head, All-tail, All-append}
use Rattle.std.proofs.lemmas.List.FromFn.{length-map-range_with_len}
use Rattle.sc_field.specs.Field.{IsField, IsAction}
use Rattle.sc_matrix.specs.Module.{IsByte}
use Rattle.sc_matrix.specs.Vector.{combination}
use Rattle.sc_matrix.proofs.Modules.{byte_module}
use Rattle.sc_matrix.proofs.VectorLaws.{length-add_vectors, get_or-add_vectors}
use Rattle.sc_code.specs.Code.{Code, IsCode, coefficient}
use Rattle.sc_code.specs.Stream.{IsBlock, IsStream, block_at, byte_at, column}
use Rattle.sc_code.specs.Parity.{sum_below, parity_byte, parity}
use Rattle.sc_slots.proofs.XorSteps.{xor_below-same, xor_below-zeros, xor_below-longer, xor_below-first}
use Rattle.sc_code.proofs.ParityLaws.{AreValues, parity_symbol-by_slots}
use Rattle.sc_code.proofs.ColumnLaws.{AreValues-column, byte_at-parity}
use Rattle.sc_code.proofs.StreamLaws.{IsBlock-parity}
use Rattle.sc_slots.specs.Taken.{Taken}
use Rattle.sc_slots.specs.Kept.{IsAfterTake}
use Rattle.sc_slots.specs.Rows.{symbols_of, row_of, symbol_row, parity_row, MeetsRows}

-- ---- sums by bytes
module _ {A : Type 0} (act : A → ℕ → ℕ) where
  -- byte c of a combination
  abbrev byte_sum : List A → List (List ℕ) → ℕ → ℕ
  byte_sum [] symbols c = 0
  byte_sum (x ∷ coeffs) [] c = 0
  byte_sum (x ∷ coeffs) (symbol ∷ symbols) c = bit_xor (act x (get_or symbol c 0)) (byte_sum coeffs symbols c)

  pub length-combination : (m : ℕ) (coeffs : List A) (symbols : List (List ℕ)) → All (λ s. length s ≡ m) symbols → length (combination 0 bit_xor act m coeffs symbols) ≡ m
  length-combination m [] symbols h = length-replicate m 0
  length-combination m (x ∷ coeffs) [] h = length-replicate m 0
  length-combination m (x ∷ coeffs) (symbol ∷ symbols) h =
      let first : length symbol ≡ m = All-head (λ (s : List ℕ). length s ≡ m) symbol symbols h in
      let rest : length (combination 0 bit_xor act m coeffs symbols) ≡ m = length-combination m coeffs symbols (All-tail (λ (s : List ℕ). length s ≡ m) symbol symbols h) in
      let mapped : length (map (act x) symbol) ≡ length symbol = length-map symbol (act x) in
      length-add_vectors bit_xor (map (act x) symbol) (combination 0 bit_xor act m coeffs symbols) (omega arith) ∙ (mapped ∙ first)

  byte_of_combination : (m : ℕ) (coeffs : List A) (symbols : List (List ℕ)) (c : ℕ) → All (λ s. length s ≡ m) symbols → c < m → get_or (combination 0 bit_xor act m coeffs symbols) c 0 ≡ byte_sum coeffs symbols c
  byte_of_combination m [] symbols c h lt = get_or-replicate m c 0 0 lt
  byte_of_combination m (x ∷ coeffs) [] c h lt = get_or-replicate m c 0 0 lt
  byte_of_combination m (x ∷ coeffs) (symbol ∷ symbols) c h lt =
      let tail = All-tail (λ (s : List ℕ). length s ≡ m) symbol symbols h in
      let first : length symbol ≡ m = All-head (λ (s : List ℕ). length s ≡ m) symbol symbols h in
      let rest : length (combination 0 bit_xor act m coeffs symbols) ≡ m = length-combination m coeffs symbols tail in
      let mapped : length (map (act x) symbol) ≡ length symbol = length-map symbol (act x) in
      get_or-add_vectors bit_xor (map (act x) symbol) (combination 0 bit_xor act m coeffs symbols) c 0 (omega arith) (omega arith)
      ∙ ap₂ bit_xor (get_or-map (act x) symbol c 0 0 (omega arith)) (byte_of_combination m coeffs symbols c tail lt)

  byte_sum-append : (xs ys : List A) (us vs : List (List ℕ)) (c : ℕ) → length xs ≡ length us → byte_sum (xs ++ ys) (us ++ vs) c ≡ bit_xor (byte_sum xs us c) (byte_sum ys vs c)
  byte_sum-append [] ys [] vs c e = sym (xor_zero_l (byte_sum ys vs c))
  byte_sum-append [] ys (u ∷ us) vs c e = absurd (omega arith)
  byte_sum-append (x ∷ xs) ys [] vs c e = absurd (omega arith)
  byte_sum-append (x ∷ xs) ys (u ∷ us) vs c e =
      ap (bit_xor (act x (get_or u c 0))) (byte_sum-append xs ys us vs c (omega arith)) ∙ sym (xor_assoc (act x (get_or u c 0)) (byte_sum xs us c) (byte_sum ys vs c))

  -- coefficients from a function of the index
  byte_sum-range : (f : ℕ → A) (s : ℕ) (symbols : List (List ℕ)) (c n : ℕ) → length symbols ≡ n → byte_sum (map f (range_with_len s n)) symbols c ≡ sum_below 0 bit_xor n (λ i. act (f (s + i)) (get_or (get_or symbols i []) c 0))
  byte_sum-range f s symbols c nought e = refl
  byte_sum-range f s [] c (suc n) e = absurd (omega arith)
  byte_sum-range f s (v ∷ symbols) c (suc n) e =
      let here : s ≡ s + 0 = omega arith in
      ap₂ bit_xor (ap (λ (p : ℕ). act (f p) (get_or v c 0)) here)
      (byte_sum-range f (s + 1) symbols c n (omega arith)
      ∙ xor_below-same n _ _ (λ i lt. let next : s + 1 + i ≡ s + suc i = omega arith in ap (λ (p : ℕ). act (f p) (get_or (get_or symbols i []) c 0)) next))
      ∙ sym (xor_below-first n (λ i. act (f (s + i)) (get_or (get_or (v ∷ symbols) i []) c 0)))

  -- and from one of the place and the symbol
  byte_sum-blocks : (g : ℕ → ℕ → A) (k s : ℕ) (blocks : List (List (List ℕ))) (c n : ℕ) → length blocks ≡ n → All (λ b. length b ≡ k) blocks
      → byte_sum (flat_map (λ p. map (g p) (range_with_len 0 k)) (range_with_len s n)) (symbols_of blocks) c ≡ sum_below 0 bit_xor n (λ p. sum_below 0 bit_xor k (λ i. act (g (s + p) i) (byte_at (block_at blocks p) i c)))
  byte_sum-blocks g k s blocks c nought e h = refl
  byte_sum-blocks g k s [] c (suc n) e h = absurd (omega arith)
  byte_sum-blocks g k s (b ∷ blocks) c (suc n) e h =
      let width : length b ≡ k = All-head (λ (x : List (List ℕ)). length x ≡ k) b blocks h in
      let here : s ≡ s + 0 = omega arith in
      byte_sum-append (map (g s) (range_with_len 0 k)) (flat_map (λ p. map (g p) (range_with_len 0 k)) (range_with_len (s + 1) n)) b (symbols_of blocks) c (length-map-range_with_len (g s) 0 k ∙ sym width)
      ∙ ap₂ bit_xor
      (byte_sum-range (g s) 0 b c k width
      ∙ xor_below-same k _ _ (λ i lt. let index : 0 + i ≡ i = omega arith in ap₂ (λ (p q : ℕ). act (g p q) (get_or (get_or b i []) c 0)) here index))
      (byte_sum-blocks g k (s + 1) blocks c n (omega arith) (All-tail (λ (x : List (List ℕ)). length x ≡ k) b blocks h)
      ∙ xor_below-same n _ _ (λ p lt. xor_below-same k _ _ (λ i hi. let next : s + 1 + p ≡ s + suc p = omega arith in ap (λ (q : ℕ). act (g q i) (byte_at (block_at blocks p) i c)) next)))
      ∙ sym (xor_below-first n (λ p. sum_below 0 bit_xor k (λ i. act (g (s + p) i) (byte_at (block_at (b ∷ blocks) p) i c))))

  row_sum : (f : ℕ → ℕ → A) (k m n : ℕ) (blocks : List (List (List ℕ))) (c : ℕ) → length blocks ≡ n → IsStream k m blocks
      → byte_sum (row_of k n f) (symbols_of blocks) c ≡ sum_below 0 bit_xor n (λ p. sum_below 0 bit_xor k (λ i. act (f p i) (byte_at (block_at blocks p) i c)))
  row_sum f k m n blocks c e hs =
      byte_sum-blocks f k 0 blocks c n e (λ i d lt. (hs i d lt).width)
      ∙ xor_below-same n _ _ (λ p lt. xor_below-same k _ _ (λ i hi. let place : 0 + p ≡ p = omega arith in ap (λ (q : ℕ). act (f q i) (byte_at (block_at blocks p) i c)) place))

-- the symbols of a stream have its width
pub symbol_widths : (k m : ℕ) (blocks : List (List (List ℕ))) → IsStream k m blocks → All (λ s. length s ≡ m) (symbols_of blocks)
symbol_widths k m [] hs = All-nil (λ (s : List ℕ). length s ≡ m)
symbol_widths k m (b ∷ blocks) hs =
    let first : IsBlock k m b = All-head (IsBlock k m) b blocks hs in
    All-append (λ (s : List ℕ). length s ≡ m) b (symbols_of blocks) (λ i d lt. (first.entries i d lt).width) (symbol_widths k m blocks (All-tail (IsBlock k m) b blocks hs))

-- a sum with one term that may be other than 0
xor_below-one : (n : ℕ) (f : ℕ → ℕ) (i : ℕ) → i < n → ((j : ℕ) → j < n → (j ≡ i → ⊥) → f j ≡ 0) → sum_below 0 bit_xor n f ≡ f i
xor_below-one nought f i lt zeros = absurd (omega arith)
xor_below-one (suc n) f i lt zeros =
    elim (cases_eq i n) [
      | inl last ↦
          ap (λ (x : ℕ). bit_xor x (f n)) (xor_below-zeros n f (λ j h. zeros j (omega arith) (λ e. (let same : j ≡ i = e in absurd (omega arith)))))
          ∙ xor_zero_l (f n) ∙ ap f (sym last)
      | inr other ↦
          let below : i < n = elim (cases_lt i n) [ inl low ↦ low | inr high ↦ (let e : i ≡ n = omega arith in absurd (other e)) ] in
          ap₂ bit_xor (xor_below-one n f i below (λ j h. zeros j (omega arith))) (zeros n (omega arith) (λ e. other (sym e))) ∙ xor_zero_r (f i)
    ]

module _ {A : Type 0} {IsElement : A → Type 0} {zero one : A} {add sub mul : A → A → A} {inv : A → A} {act : A → ℕ → ℕ} (laws : IsField IsElement zero one add sub mul inv) (action : IsAction IsElement zero one add mul act) where
  -- ---- a symbol

  one_act : (b : Bool) (x : ℕ) → x < 256 → b ≡ true → act (cond b one zero) x ≡ x
  one_act b x h e = ap (λ (y : A). act y x) (cond-true b one zero e) ∙ action.by_one x h

  zero_act : (b : Bool) (x : ℕ) → x < 256 → b ≡ false → act (cond b one zero) x ≡ 0
  zero_act b x h e = ap (λ (y : A). act y x) (cond-false b one zero e) ∙ action.by_zero x h

  symbol_sum : (k m n : ℕ) (blocks : List (List (List ℕ))) (place i c : ℕ) → IsStream k m blocks → place < n → i < k
      → sum_below 0 bit_xor n (λ p. sum_below 0 bit_xor k (λ s. act (cond (eqb p place && eqb s i) one zero) (byte_at (block_at blocks p) s c))) ≡ byte_at (block_at blocks place) i c
  symbol_sum k m n blocks place i c hs lt hi =
      let byte : (p s : ℕ) → byte_at (block_at blocks p) s c < 256 = λ p s. (AreValues-column k m blocks c hs).value p s in
      xor_below-one n _ place lt (λ p hp differ.
      xor_below-zeros k _ (λ s h. zero_act (eqb p place && eqb s i) (byte_at (block_at blocks p) s c) (byte p s) (and_left (eqb p place) (eqb s i) (ne_eqb p place differ))))
      ∙ xor_below-one k _ i hi (λ s h differ. zero_act (eqb place place && eqb s i) (byte_at (block_at blocks place) s c) (byte place s) (and_right (eqb place place) (eqb s i) (ne_eqb s i differ)))
      ∙ one_act (eqb place place && eqb i i) (byte_at (block_at blocks place) i c) (byte place i) (and_from (eqb place place) (eqb i i) (eq-eqb place place refl) (eq-eqb i i refl))

  -- The row of a symbol gives the symbol.
  pub symbol_row_gives : (k m n : ℕ) (blocks : List (List (List ℕ))) (place i : ℕ) → IsStream k m blocks → length blocks ≡ n → place < n → i < k → combination 0 bit_xor act m (symbol_row zero one k n place i) (symbols_of blocks) ≡ get_or (block_at blocks place) i []
  symbol_row_gives k m n blocks place i hs e lt hi =
      let widths = symbol_widths k m blocks hs in
      let block : IsBlock k m (block_at blocks place) = hs place [] (omega arith) in
      let count = block.width in
      let width : length (get_or (block_at blocks place) i []) ≡ m = (block.entries i [] (omega arith)).width in
      let long : length (combination 0 bit_xor act m (symbol_row zero one k n place i) (symbols_of blocks)) ≡ m = length-combination act m (symbol_row zero one k n place i) (symbols_of blocks) widths in
      ext_get_or 0 (combination 0 bit_xor act m (symbol_row zero one k n place i) (symbols_of blocks)) (get_or (block_at blocks place) i []) (long ∙ sym width) (λ c h.
      byte_of_combination act m (symbol_row zero one k n place i) (symbols_of blocks) c widths (omega arith)
      ∙ row_sum act (λ p s. cond (eqb p place && eqb s i) one zero) k m n blocks c e hs
      ∙ symbol_sum k m n blocks place i c hs lt hi)

  -- ---- a parity symbol

  parity_sum : (code : Code A) (m n : ℕ) (blocks : List (List (List ℕ))) (place j c : ℕ) → IsCode IsElement code → IsStream code.k m blocks → place < n
      → sum_below 0 bit_xor n (λ p. sum_below 0 bit_xor code.k (λ s. act (cond (leb p place) (coefficient zero code (place - p) s j) zero) (byte_at (block_at blocks p) s c))) ≡ parity_byte zero act code (column blocks c) place j
  parity_sum code m n blocks place j c hc hs lt =
      let columns : AreValues IsByte (column blocks c) = AreValues-column code.k m blocks c hs in
      let F : ℕ → ℕ = λ p. sum_below 0 bit_xor code.k (λ s. act (cond (leb p place) (coefficient zero code (place - p) s j) zero) (byte_at (block_at blocks p) s c)) in
      let count : n ≡ suc place + (n - suc place) = omega arith in
      ap (λ (x : ℕ). sum_below 0 bit_xor x F) count
      ∙ xor_below-longer (suc place) (n - suc place) F (λ p le h.
      xor_below-zeros code.k _ (λ s hs. ap (λ (y : A). act y (byte_at (block_at blocks p) s c)) (cond-false (leb p place) (coefficient zero code (place - p) s j) zero (lt-leb p place (omega arith))) ∙ action.by_zero (byte_at (block_at blocks p) s c) (columns.value p s)))
      ∙ xor_below-same (suc place) F _ (λ p h. xor_below-same code.k _ _ (λ s hs. ap (λ (y : A). act y (byte_at (block_at blocks p) s c)) (cond-true (leb p place) (coefficient zero code (place - p) s j) zero (le-leb p place (omega arith)))))
      ∙ sym (parity_symbol-by_slots laws (byte_module action) code (column blocks c) place j hc columns)

  -- The row of a parity symbol gives the parity symbol.
  pub parity_row_gives : (code : Code A) (m n : ℕ) (blocks : List (List (List ℕ))) (place j : ℕ) → IsCode IsElement code → IsStream code.k m blocks → length blocks ≡ n → place < n → j < code.r
      → combination 0 bit_xor act m (parity_row zero one code n place j) (symbols_of blocks) ≡ get_or (parity zero act code m blocks place) j []
  parity_row_gives code m n blocks place j hc hs e lt hj =
      let widths = symbol_widths code.k m blocks hs in
      let block : IsBlock code.r m (parity zero act code m blocks place) = IsBlock-parity laws action code m blocks place hc hs in
      let count = block.width in
      let width : length (get_or (parity zero act code m blocks place) j []) ≡ m = (block.entries j [] (omega arith)).width in
      let long : length (combination 0 bit_xor act m (parity_row zero one code n place j) (symbols_of blocks)) ≡ m = length-combination act m (parity_row zero one code n place j) (symbols_of blocks) widths in
      ext_get_or 0 (combination 0 bit_xor act m (parity_row zero one code n place j) (symbols_of blocks)) (get_or (parity zero act code m blocks place) j []) (long ∙ sym width) (λ c h.
      byte_of_combination act m (parity_row zero one code n place j) (symbols_of blocks) c widths (omega arith)
      ∙ row_sum act (λ p s. cond (leb p place) (coefficient zero code (place - p) s j) zero) code.k m n blocks c e hs
      ∙ parity_sum code m n blocks place j c hc hs lt
      ∙ sym (byte_at-parity zero act code m blocks place j c hj (omega arith)))

-- ---- a slot

-- two blocks are the same where their symbols are
same_symbols : (k m : ℕ) (a b : List (List ℕ)) → IsBlock k m a → IsBlock k m b → ((i : ℕ) → i < k → get_or a i [] ≡ get_or b i []) → a ≡ b
same_symbols k m a b ha hb e =
    let na = ha.width in
    ext_get_or [] a b (ha.width ∙ sym hb.width) (λ i h. e i (omega arith))

module _ {A : Type 0} {IsElement : A → Type 0} {zero one : A} {add sub mul : A → A → A} {inv : A → A} {act : A → ℕ → ℕ} (laws : IsField IsElement zero one add sub mul inv) (action : IsAction IsElement zero one add mul act) where
  -- What is kept, cut by a taken slot, is what meets the slot's rows.
  pub IsAfterTake-iff_rows : (m n : ℕ) (slot : Taken A) (place : ℕ) (kept : List (List (List ℕ)) → Type 0) (blocks : List (List (List ℕ))) → IsCode IsElement slot.code
      → IsBlock slot.code.k m slot.block → IsBlock slot.code.r m slot.parity → IsStream slot.code.k m blocks → length blocks ≡ n → place < n
      → IsAfterTake zero act m slot place kept blocks ↔ (kept blocks × MeetsRows zero one act slot.code.k m n slot place (symbols_of blocks))
  IsAfterTake-iff_rows m n slot place kept blocks hc hb hp hs e lt =
      let k = slot.code.k in (
        λ x. (
          x.is_kept,
          record {
            of_block = λ i hi. symbol_row_gives laws action slot.code.k m n blocks place i hs e lt hi ∙ ap (λ (b : List (List ℕ)). get_or b i []) x.same_block;
            of_parity = λ j hj. parity_row_gives laws action slot.code m n blocks place j hc hs e lt hj ∙ ap (λ (b : List (List ℕ)). get_or b j []) x.same_parity;
          },
        ),
        λ x. record {
          is_kept = x.0;
          same_block = same_symbols slot.code.k m (block_at blocks place) slot.block (hs place [] (omega arith)) hb (λ i hi. sym (symbol_row_gives laws action slot.code.k m n blocks place i hs e lt hi) ∙ x.1.of_block i hi);
          same_parity = same_symbols slot.code.r m (parity zero act slot.code m blocks place) slot.parity (IsBlock-parity laws action slot.code m blocks place hc hs) hp (λ j hj. sym (parity_row_gives laws action slot.code m n blocks place j hc hs e lt hj) ∙ x.1.of_parity j hj);
        },
      )
