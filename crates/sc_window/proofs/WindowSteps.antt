-- The kernel of a window matrix: the dot product of a row with the lost symbols of a stream is a parity of the stream.
use Rattle.std.proofs.Common.{◌≡◌, ◌↔◌, ℕ, zero as naught, suc, ◌+◌, ◌-◌, ◌*◌, ◌<◌, ◌≤◌, leb, Bool, true, false, List, [], ◌∷◌, ◌++◌, length, get_or, All, refl, sym, ap, ap₂, ◌∙◌, subst, arith}
use Rattle.std.proofs.lemmas.Bool.{both_ways, cond-true, cond-false, cond_both, le-leb, lt-leb}
use Rattle.std.proofs.lemmas.List.{length-append, get_or-replicate, get_or-append-add}
use Rattle.std.proofs.Math.ListN.{get_or-append}
use Rattle.std.proofs.lemmas.List.Elements.{All-nil, All-head, All-append}
use Rattle.std.proofs.lemmas.List.FromFn.{length-map-range_with_len, get_or-map-range_with_len}
use Rattle.sc_field.specs.Field.{IsField}
use Rattle.sc_channel.specs.Flags.{set_count}
use Rattle.sc_matrix.specs.Vector.{IsVector, dot}
use Rattle.sc_matrix.proofs.VectorLaws.{vector_of}
use Rattle.sc_matrix.proofs.ModuleLaws.{none_plus, times_none, dot-append}
use Rattle.sc_matrix.proofs.Modules.{field_module}
use Rattle.sc_echelon.specs.Kernel.{IsKernelVector}
use Rattle.sc_code.specs.Code.{Code, IsCode, coefficient}
use Rattle.sc_code.specs.Parity.{sum_below, parity_symbol}
use Rattle.sc_code.specs.Determined.{IsKept}
use Rattle.sc_code.specs.Elements.{element_at}
use Rattle.sc_code.proofs.SumLaws.{All-or, sum_below-same, value-sum_below, sum_below-zeros, sum_below-longer, sum_below-reversed, dot-sum_below}
use Rattle.sc_code.proofs.ParityLaws.{element-coefficient, parity_symbol-by_slots}
use Rattle.sc_code.proofs.ColumnLaws.{All-map_range}
use Rattle.sc_code.proofs.MeetsLaws.{IsKept-in_range}
use Rattle.sc_window.specs.Window.{lost_symbols, spelled, IsLostStream, IsZeroWhereKept}
use Rattle.sc_window.specs.Rows.{window_entry, block_entries, window_row, slot_rows, window_rows}
use Rattle.sc_window.proofs.SpellLaws.{IsLostStream-rest, IsLostStream-spelled, IsVector-lost_symbols, lost_symbols-spelled}

-- ---- what holds of each element of two lists in a row
All-front : {X : Type 0} (P : X → Type 0) (xs ys : List X) → All P (xs ++ ys) → All P xs
All-front P xs ys h i d lt = let l = length-append xs ys in subst P (get_or-append xs ys d i lt) (h i d (omega arith))

All-back : {X : Type 0} (P : X → Type 0) (xs ys : List X) → All P (xs ++ ys) → All P ys
All-back P xs ys h i d lt = let l = length-append xs ys in subst P (get_or-append-add xs ys i d) (h (length xs + i) d (omega arith))

-- ---- what holds of each row
module _ {A : Type 0} (zero : A) (code : Code A) (class : List Bool) (P : List A → Type 0) where
  -- of the rows of the kept slots of some flags, where the first flag is that of slot t
  abbrev pub HoldInKept : ℕ → List Bool → Type 0
  HoldInKept s flags = (t : ℕ) → IsKept flags t → (j : ℕ) → j < code.r → P (window_row zero code (s + t) j 0 class)

  pub rows_to_slots : (s : ℕ) (flags : List Bool) → All P (window_rows zero code class s flags) → HoldInKept s flags
  rows_to_slots s [] h t kept j hj = absurd (both_ways _ kept refl)
  rows_to_slots s (true ∷ flags) h naught kept j hj = absurd (both_ways _ kept refl)
  rows_to_slots s (true ∷ flags) h (suc t) kept j hj =
      let e : suc s + t ≡ s + suc t = omega arith in
      subst (λ (u : ℕ). P (window_row zero code u j 0 class)) e (rows_to_slots (suc s) flags h t kept j hj)
  rows_to_slots s (false ∷ flags) h naught kept j hj =
      let e : s ≡ s + 0 = omega arith in
      let front : All P (slot_rows zero code class s) = All-front P (slot_rows zero code class s) (window_rows zero code class (suc s) flags) h in
      let l = length-map-range_with_len (λ j. window_row zero code s j 0 class) 0 code.r in
      subst (λ (u : ℕ). P (window_row zero code u j 0 class)) e
      (subst P (get_or-map-range_with_len (λ j. window_row zero code s j 0 class) 0 code.r j j [] hj (omega arith)) (front j [] (omega arith)))
  rows_to_slots s (false ∷ flags) h (suc t) kept j hj =
      let e : suc s + t ≡ s + suc t = omega arith in
      subst (λ (u : ℕ). P (window_row zero code u j 0 class)) e
      (rows_to_slots (suc s) flags (All-back P (slot_rows zero code class s) (window_rows zero code class (suc s) flags) h) t kept j hj)

  pub rows_from_slots : (s : ℕ) (flags : List Bool) → HoldInKept s flags → All P (window_rows zero code class s flags)
  rows_from_slots s [] h = All-nil P
  rows_from_slots s (true ∷ flags) h =
      rows_from_slots (suc s) flags (λ t kept j hj.
      let e : s + suc t ≡ suc s + t = omega arith in
      subst (λ (u : ℕ). P (window_row zero code u j 0 class)) e (h (suc t) kept j hj))
  rows_from_slots s (false ∷ flags) h =
      All-append P (slot_rows zero code class s) (window_rows zero code class (suc s) flags)
      (All-map_range P (λ j. window_row zero code s j 0 class) code.r (λ j hj.
      let e : s + 0 ≡ s = omega arith in
      subst (λ (u : ℕ). P (window_row zero code u j 0 class)) e (h 0 refl j hj)))
      (rows_from_slots (suc s) flags (λ t kept j hj.
      let e : s + suc t ≡ suc s + t = omega arith in
      subst (λ (u : ℕ). P (window_row zero code u j 0 class)) e (h (suc t) kept j hj)))

module _ {A : Type 0} {IsElement : A → Type 0} {zero one : A} {add sub mul : A → A → A} {inv : A → A} (laws : IsField IsElement zero one add sub mul inv) where
  -- the first term of a sum set apart
  sum_below-first : (n : ℕ) (f : ℕ → A) → ((i : ℕ) → IsElement (f i)) → sum_below zero add (suc n) f ≡ add (f 0) (sum_below zero add n (λ i. f (suc i)))
  sum_below-first naught f h = laws.add_comm zero (f 0) laws.zero_element (h 0)
  sum_below-first (suc n) f h =
      let turned : sum_below zero add (suc n) (λ i. f (suc n - i)) ≡ sum_below zero add (suc n) (λ i. f (suc (n - i))) =
      sum_below-same zero add (suc n) (λ i. f (suc n - i)) (λ i. f (suc (n - i))) (λ i lt. let e : suc n - i ≡ suc (n - i) = omega arith in ap f e) in
      let last : suc n - suc n ≡ 0 = omega arith in
      sum_below-reversed laws (field_module laws) (suc n) f h
      ∙ ap₂ add (turned ∙ sym (sum_below-reversed laws (field_module laws) n (λ i. f (suc i)) (λ i. h (suc i)))) (ap f last)
      ∙ laws.add_comm (sum_below zero add (suc n) (λ i. f (suc i))) (f 0) (value-sum_below laws (field_module laws) (suc n) (λ i. f (suc i)) (λ i. h (suc i))) (h 0)

  element-window_entry : (code : Code A) (t j s i : ℕ) → IsCode IsElement code → IsElement (window_entry zero code t j s i)
  element-window_entry code t j s i hc =
      cond_both (leb s t) (coefficient zero code (t - s) i j) zero IsElement (λ e. element-coefficient laws (field_module laws) code (t - s) i j hc) (λ e. laws.zero_element)

  block_vector : (code : Code A) (t j s : ℕ) → IsCode IsElement code → IsVector IsElement code.k (block_entries zero code t j s)
  block_vector code t j s hc = record {
    width = length-map-range_with_len (window_entry zero code t j s) 0 code.k;
    entries = All-map_range IsElement (window_entry zero code t j s) code.k (λ i hi. element-window_entry code t j s i hc);
  }

  pub window_row-elements : (code : Code A) (t j s : ℕ) (class : List Bool) → IsCode IsElement code → All IsElement (window_row zero code t j s class)
  window_row-elements code t j s [] hc = All-nil IsElement
  window_row-elements code t j s (true ∷ class) hc =
      All-append IsElement (block_entries zero code t j s) (window_row zero code t j (suc s) class) (block_vector code t j s hc).entries (window_row-elements code t j (suc s) class hc)
  window_row-elements code t j s (false ∷ class) hc = window_row-elements code t j (suc s) class hc

  element-element_at : (k : ℕ) (xs : List (List A)) (t i : ℕ) → All (IsVector IsElement k) xs → IsElement (element_at zero xs t i)
  element-element_at k xs t i h =
      All-or IsElement (get_or xs t []) i zero (All-or (λ (b : List A). All IsElement b) xs t [] (λ l d lt. (h l d lt).entries) (All-nil IsElement)) laws.zero_element

  -- what the block of slot l, which lies s slots on, gives to parity symbol j of slot t
  abbrev term_of : Code A → ℕ → ℕ → ℕ → List (List A) → ℕ → ℕ → A
  term_of code t j s xs l i = mul (window_entry zero code t j (s + l) i) (element_at zero xs l i)

  abbrev slot_part : Code A → ℕ → ℕ → ℕ → List (List A) → ℕ → A
  slot_part code t j s xs l = sum_below zero add code.k (term_of code t j s xs l)

  element-term : (code : Code A) (t j s : ℕ) (xs : List (List A)) (l i : ℕ) → IsCode IsElement code → All (IsVector IsElement code.k) xs → IsElement (term_of code t j s xs l i)
  element-term code t j s xs l i hc hx =
      laws.mul_element (window_entry zero code t j (s + l) i) (element_at zero xs l i) (element-window_entry code t j (s + l) i hc) (element-element_at code.k xs l i hx)

  element-slot_part : (code : Code A) (t j s : ℕ) (xs : List (List A)) (l : ℕ) → IsCode IsElement code → All (IsVector IsElement code.k) xs → IsElement (slot_part code t j s xs l)
  element-slot_part code t j s xs l hc hx = value-sum_below laws (field_module laws) code.k (term_of code t j s xs l) (λ i. element-term code t j s xs l i hc hx)

  -- the first slot's part, and those of the slots behind it
  slot_part-first : (code : Code A) (t j s : ℕ) (x : List A) (xs : List (List A)) → slot_part code t j s (x ∷ xs) 0 ≡ sum_below zero add code.k (λ i. mul (window_entry zero code t j s i) (get_or x i zero))
  slot_part-first code t j s x xs =
      let e : s + 0 ≡ s = omega arith in
      ap (λ (u : ℕ). sum_below zero add code.k (λ i. mul (window_entry zero code t j u i) (get_or x i zero))) e

  slot_parts-rest : (code : Code A) (t j s n : ℕ) (x : List A) (xs : List (List A)) → sum_below zero add n (λ l. slot_part code t j s (x ∷ xs) (suc l)) ≡ sum_below zero add n (slot_part code t j (suc s) xs)
  slot_parts-rest code t j s n x xs =
      sum_below-same zero add n (λ l. slot_part code t j s (x ∷ xs) (suc l)) (slot_part code t j (suc s) xs) (λ l lt.
      let e : s + suc l ≡ suc s + l = omega arith in
      ap (λ (u : ℕ). sum_below zero add code.k (λ i. mul (window_entry zero code t j u i) (element_at zero xs l i))) e)

  -- The dot product of a row with the lost symbols is the sum of the parts of all slots.
  dot_row : (code : Code A) (t j s : ℕ) (class : List Bool) (xs : List (List A)) → IsCode IsElement code → IsLostStream IsElement zero code.k class xs
      → dot zero add mul (window_row zero code t j s class) (lost_symbols class xs) ≡ sum_below zero add (length class) (slot_part code t j s xs)
  dot_row code t j s [] xs hc h = refl
  dot_row code t j s (flag ∷ class) [] hc h = let c = h.count in absurd (omega arith)
  dot_row code t j s (true ∷ class) (x ∷ xs) hc h =
      let hx : IsVector IsElement code.k x = All-head (IsVector IsElement code.k) x xs h.blocks in
      let hr : IsLostStream IsElement zero code.k class xs = IsLostStream-rest zero code.k true class x xs h in
      let hb = block_vector code t j s hc in
      let w = hb.width ∙ sym hx.width in
      let here : dot zero add mul (block_entries zero code t j s) x ≡ slot_part code t j s (x ∷ xs) 0 =
      dot-sum_below laws (field_module laws) (block_entries zero code t j s) x w hb.entries hx.entries
      ∙ ap (λ (n : ℕ). sum_below zero add n (λ i. mul (get_or (block_entries zero code t j s) i zero) (get_or x i zero))) hb.width
      ∙ sum_below-same zero add code.k (λ i. mul (get_or (block_entries zero code t j s) i zero) (get_or x i zero)) (λ i. mul (window_entry zero code t j s i) (get_or x i zero))
      (λ i hi. ap (λ (c : A). mul c (get_or x i zero)) (get_or-map-range_with_len (window_entry zero code t j s) 0 code.k i i zero hi (omega arith)))
      ∙ sym (slot_part-first code t j s x xs) in
      dot-append laws (field_module laws) (block_entries zero code t j s) (window_row zero code t j (suc s) class) x (lost_symbols class xs) w hb
      (vector_of (window_row zero code t j (suc s) class) (window_row-elements code t j (suc s) class hc)) hx (IsVector-lost_symbols zero code.k class xs hr)
      ∙ ap₂ add here (dot_row code t j (suc s) class xs hc hr ∙ sym (slot_parts-rest code t j s (length class) x xs))
      ∙ sym (sum_below-first (length class) (slot_part code t j s (x ∷ xs)) (λ l. element-slot_part code t j s (x ∷ xs) l hc h.blocks))
  dot_row code t j s (false ∷ class) (x ∷ xs) hc h =
      let hr : IsLostStream IsElement zero code.k class xs = IsLostStream-rest zero code.k false class x xs h in
      let rest = sum_below zero add (length class) (λ l. slot_part code t j s (x ∷ xs) (suc l)) in
      let none : slot_part code t j s (x ∷ xs) 0 ≡ zero =
      sum_below-zeros laws (field_module laws) code.k (term_of code t j s (x ∷ xs) 0) (λ i hi.
      ap (mul (window_entry zero code t j (s + 0) i)) (ap (λ (b : List A). get_or b i zero) (h.zeros 0 refl) ∙ get_or-replicate code.k i zero zero hi)
      ∙ times_none laws (field_module laws) (window_entry zero code t j (s + 0) i) (element-window_entry code t j (s + 0) i hc)) in
      dot_row code t j (suc s) class xs hc hr ∙ sym (slot_parts-rest code t j s (length class) x xs)
      ∙ sym (sum_below-first (length class) (slot_part code t j s (x ∷ xs)) (λ l. element-slot_part code t j s (x ∷ xs) l hc h.blocks)
      ∙ ap (λ (y : A). add y rest) none
      ∙ none_plus laws (field_module laws) rest (value-sum_below laws (field_module laws) (length class) (λ l. slot_part code t j s (x ∷ xs) (suc l)) (λ l. element-slot_part code t j s (x ∷ xs) (suc l) hc h.blocks)))

  -- the part of a slot up to t, and of a later one
  slot_part-early : (code : Code A) (t j : ℕ) (xs : List (List A)) (l : ℕ) → l ≤ t → slot_part code t j 0 xs l ≡ sum_below zero add code.k (λ i. mul (coefficient zero code (t - l) i j) (element_at zero xs l i))
  slot_part-early code t j xs l le =
      let e : 0 + l ≡ l = omega arith in
      sum_below-same zero add code.k (term_of code t j 0 xs l) (λ i. mul (coefficient zero code (t - l) i j) (element_at zero xs l i)) (λ i hi.
      ap (λ (c : A). mul c (element_at zero xs l i)) (ap (λ (u : ℕ). window_entry zero code t j u i) e ∙ cond-true (leb l t) (coefficient zero code (t - l) i j) zero (le-leb l t le)))

  slot_part-late : (code : Code A) (t j : ℕ) (xs : List (List A)) (l : ℕ) → t < l → All (IsVector IsElement code.k) xs → slot_part code t j 0 xs l ≡ zero
  slot_part-late code t j xs l lt hx =
      let e : 0 + l ≡ l = omega arith in
      sum_below-zeros laws (field_module laws) code.k (term_of code t j 0 xs l) (λ i hi.
      ap (λ (c : A). mul c (element_at zero xs l i)) (ap (λ (u : ℕ). window_entry zero code t j u i) e ∙ cond-false (leb l t) (coefficient zero code (t - l) i j) zero (lt-leb l t lt))
      ∙ (field_module laws).times_zero (element_at zero xs l i) (element-element_at code.k xs l i hx))

  -- The dot product of a row with the lost symbols of a stream is the stream's parity symbol.
  pub dot-parity : (code : Code A) (t j : ℕ) (class : List Bool) (xs : List (List A)) → IsCode IsElement code → t < length class → IsLostStream IsElement zero code.k class xs
      → dot zero add mul (window_row zero code t j 0 class) (lost_symbols class xs) ≡ parity_symbol zero zero add mul code (element_at zero xs) t j
  dot-parity code t j class xs hc within h =
      let n : length class ≡ suc t + (length class - suc t) = omega arith in
      dot_row code t j 0 class xs hc h
      ∙ ap (λ (m : ℕ). sum_below zero add m (slot_part code t j 0 xs)) n
      ∙ sum_below-longer laws (field_module laws) (suc t) (length class - suc t) (slot_part code t j 0 xs) (λ l. element-slot_part code t j 0 xs l hc h.blocks) (λ l le lt. slot_part-late code t j xs l (omega arith) h.blocks)
      ∙ sum_below-same zero add (suc t) (slot_part code t j 0 xs) (λ l. sum_below zero add code.k (λ i. mul (coefficient zero code (t - l) i j) (element_at zero xs l i))) (λ l lt. slot_part-early code t j xs l (omega arith))
      ∙ sym (parity_symbol-by_slots laws (field_module laws) code (element_at zero xs) t j hc (record { value = λ l i. element-element_at code.k xs l i h.blocks }))

  -- The kernel is the vectors that spell a stream which is zero in each kept slot.
  pub window_kernel : (code : Code A) (class : List Bool) (v : List A) → IsCode IsElement code
      → IsKernelVector IsElement zero add mul (code.k * set_count class) (window_rows zero code class 0 class) v
      ↔ (IsVector IsElement (code.k * set_count class) v × IsZeroWhereKept zero add mul code class (spelled zero code.k class v))
  window_kernel code class v hc = (
    λ kernel.
        let hv : IsVector IsElement (code.k * set_count class) v = record { width = kernel.width; entries = kernel.elements } in
        let stream = IsLostStream-spelled zero laws.zero_element code.k class v hv in
        let slots = rows_to_slots zero code class (λ row. dot zero add mul row v ≡ zero) 0 class kernel.zeros in (
          hv,
          λ t kept.
              let e : 0 + t ≡ t = omega arith in
              record {
                symbols = stream.zeros t kept;
                parities = λ j hj.
                    sym (dot-parity code t j class (spelled zero code.k class v) hc (IsKept-in_range class t kept) stream)
                    ∙ ap (dot zero add mul (window_row zero code t j 0 class)) (lost_symbols-spelled zero code.k class v hv)
                    ∙ ap (λ (u : ℕ). dot zero add mul (window_row zero code u j 0 class) v) (sym e)
                    ∙ slots t kept j hj;
              },
        ),
    λ spells.
        let hv = spells.0 in
        let stream = IsLostStream-spelled zero laws.zero_element code.k class v hv in
        record {
          width = hv.width;
          elements = hv.entries;
          zeros = rows_from_slots zero code class (λ row. dot zero add mul row v ≡ zero) 0 class (λ t kept j hj.
              let e : 0 + t ≡ t = omega arith in
              ap (λ (u : ℕ). dot zero add mul (window_row zero code u j 0 class) v) e
              ∙ ap (dot zero add mul (window_row zero code t j 0 class)) (sym (lost_symbols-spelled zero code.k class v hv))
              ∙ dot-parity code t j class (spelled zero code.k class v) hc (IsKept-in_range class t kept) stream
              ∙ (spells.1 t kept).parities j hj);
        },
  )
