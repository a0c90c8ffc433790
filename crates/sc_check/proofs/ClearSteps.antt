-- Columns are cleared by row operations, and images of unit streams are columns of the code's matrices.
use Rattle.std.proofs.Common.{◌≡◌, ◌≢◌, ℕ, zero as none, suc, ◌+◌, ◌*◌, ◌-◌, ◌<◌, ◌≤◌, bit_xor, List, [], ◌∷◌, ◌++◌, length, get_or, map, take, replicate, refl, sym, ap, ap₂, ◌∙◌, subst, arith, inl, inr}
use Rattle.std.specs.List.{range_with_len}
use Rattle.std.specs.Int.Bits.{xor_self}
use Rattle.std.proofs.lemmas.Bool.{cases_lt}
use Rattle.std.proofs.lemmas.List.{append_assoc, length-append, get_or-set_same, get_or_default, get_or-take, length-take-le, take_all}
use Rattle.std.proofs.lemmas.Nat.{mul-le}
use Rattle.std.proofs.lemmas.List.FromFn.{map-range_with_len_more, length-map-range_with_len}
use Rattle.std.proofs.lemmas.List.Edits.{length-swap}
use Rattle.sc_field.specs.Gf256.{gf256_product, gf256_inverse}
use Rattle.sc_field.specs.Laws.Gf256Laws.{gf256_field}
use Rattle.sc_field.specs.FieldLemmas.{zero_add, mul_zero, second_zero}
use Rattle.sc_matrix.specs.Module.{IsByte}
use Rattle.sc_matrix.specs.Vector.{IsVector, add_vectors, scale_vector, combination}
use Rattle.sc_matrix.specs.Matrix.{Matrix, IsMatrix, entry, row, row_count, add_row, swap_rows, first_rows}
use Rattle.sc_matrix.specs.RowSpace.{IsInRowSpace, RowsAreIn, HaveOneRowSpace}
use Rattle.sc_matrix.proofs.VectorLaws.{entry_at, IsVector-take, get_or-add_vectors, get_or-scale_vector, length-scale_vector, vector_of}
use Rattle.sc_matrix.proofs.ModuleLaws.{dot_more}
use Rattle.sc_matrix.proofs.Modules.{vector_module, IsVector-combination}
use Rattle.sc_matrix.proofs.RowSpaceLaws.{row-in_row_space, row_space-rows_in, row_space-swap_rows}
use Rattle.sc_code.specs.Code.{Code, IsCode, coefficient}
use Rattle.sc_code.specs.Parity.{sum_below}
use Rattle.sc_code.proofs.SumLaws.{sum_below-zeros}
use Rattle.sc_code.proofs.ParityLaws.{AreValues, element-coefficient, coefficient-past, parity_symbol-by_slots, parity_symbol-zeros}
use Rattle.sc_check.specs.Span.{IsCleared, parity_at, unit_stream}
use Rattle.sc_check.proofs.SpanSteps.{elements_module, zero_in_row_space, byte-unit, unit-other_slot, unit-other_symbol, unit-one}

abbrev RowSpace : Matrix ℕ → List ℕ → Type 0
RowSpace m v = IsInRowSpace IsByte 0 bit_xor gf256_product m v

abbrev OneSpace : Matrix ℕ → Matrix ℕ → Type 0
OneSpace k m = HaveOneRowSpace IsByte 0 bit_xor gf256_product k m

-- ---- row spaces
rows_in-self : (m : Matrix ℕ) → IsMatrix IsByte m → RowsAreIn IsByte 0 bit_xor gf256_product m m
rows_in-self m hm = record { cols = refl; rows = λ k d h. subst (RowSpace m) (get_or_default m.rows k [] d h) (row-in_row_space gf256_field m k hm h) }

pub one_space-self : (m : Matrix ℕ) → IsMatrix IsByte m → OneSpace m m
one_space-self m hm = record { first_in = rows_in-self m hm; second_in = rows_in-self m hm }

rows_in-trans : (a b c : Matrix ℕ) → IsMatrix IsByte c → RowsAreIn IsByte 0 bit_xor gf256_product a b → RowsAreIn IsByte 0 bit_xor gf256_product b c → RowsAreIn IsByte 0 bit_xor gf256_product a c
rows_in-trans a b c hc ab bc = record { cols = ab.cols ∙ bc.cols; rows = λ k d h. row_space-rows_in gf256_field b c (get_or a.rows k d) hc bc (ab.rows k d h) }

pub one_space-trans : (a b c : Matrix ℕ) → IsMatrix IsByte a → IsMatrix IsByte c → OneSpace a b → OneSpace b c → OneSpace a c
one_space-trans a b c ha hc ab bc = record { first_in = rows_in-trans a b c hc ab.first_in bc.first_in; second_in = rows_in-trans c b a ha bc.second_in ab.second_in }

-- ---- a row is cleared
pub cleared_entry : (m : Matrix ℕ) (i c last : ℕ) → IsMatrix IsByte m → i < row_count m → last < row_count m → c < m.cols → entry 0 m last c ≢ 0
    → entry 0 (add_row bit_xor gf256_product m i (gf256_product (entry 0 m i c) (gf256_inverse (entry 0 m last c))) last) i c ≡ 0
cleared_entry m i c last hm hi hl hcol ne =
    let x : ℕ = entry 0 m i c in
    let p : ℕ = entry 0 m last c in
    let vi : IsVector IsByte m.cols (row m i) = hm.vectors i [] hi in
    let vl : IsVector IsByte m.cols (row m last) = hm.vectors last [] hl in
    let hx : IsByte (entry 0 m i c) = entry_at c 0 vi hcol in
    let hp : IsByte (entry 0 m last c) = entry_at c 0 vl hcol in
    let hv : IsByte (gf256_inverse (entry 0 m last c)) = gf256_field.inv_element (entry 0 m last c) hp ne in
    let factor : ℕ = gf256_product (entry 0 m i c) (gf256_inverse (entry 0 m last c)) in
    let back : gf256_product (gf256_product (entry 0 m i c) (gf256_inverse (entry 0 m last c))) (entry 0 m last c) ≡ entry 0 m i c =
    gf256_field.mul_assoc (entry 0 m i c) (gf256_inverse (entry 0 m last c)) (entry 0 m last c) hx hv hp
    ∙ ap (gf256_product (entry 0 m i c)) (gf256_field.mul_comm (gf256_inverse (entry 0 m last c)) (entry 0 m last c) hv hp ∙ gf256_field.mul_inv (entry 0 m last c) hp ne)
    ∙ gf256_field.mul_one (entry 0 m i c) hx in
    let same : length (row m i) ≡ length (scale_vector gf256_product (gf256_product (entry 0 m i c) (gf256_inverse (entry 0 m last c))) (row m last)) =
    vi.width ∙ sym (length-scale_vector gf256_product (gf256_product (entry 0 m i c) (gf256_inverse (entry 0 m last c))) (row m last) ∙ vl.width) in
    ap (λ (r : List ℕ). get_or r c 0) (get_or-set_same m.rows i (add_vectors bit_xor (row m i) (scale_vector gf256_product (gf256_product (entry 0 m i c) (gf256_inverse (entry 0 m last c))) (row m last))) [] hi)
    ∙ get_or-add_vectors bit_xor (row m i) (scale_vector gf256_product (gf256_product (entry 0 m i c) (gf256_inverse (entry 0 m last c))) (row m last)) c 0 same (omega (arith, vi.width))
    ∙ ap (bit_xor (entry 0 m i c)) (get_or-scale_vector gf256_product (gf256_product (entry 0 m i c) (gf256_inverse (entry 0 m last c))) (row m last) c 0 (omega (arith, vl.width)) ∙ back)
    ∙ xor_self (entry 0 m i c)

-- ---- cleared columns
pub IsCleared-none : (m : Matrix ℕ) (from : ℕ) → IsCleared m m from (from + 0)
IsCleared-none m from =
    record { cols = refl; within = λ v is. is; zero_there = λ v is c le lt. absurd (omega arith); all_of_them = λ v is zeros. is }

pub IsCleared-more : (a b d : Matrix ℕ) (from c : ℕ) → from ≤ c → IsCleared a b from c → IsCleared b d c (c + 1) → IsCleared a d from (c + 1)
IsCleared-more a b d from c low x y =
    record {
      cols = y.cols ∙ x.cols;
      within = λ v is. x.within v (y.within v is);
      zero_there = λ v is n le lt.
          elim (cases_lt n c) [
            | inl before ↦ x.zero_there v (y.within v is) n le before
            | inr here ↦ y.zero_there v is n here lt
          ];
      all_of_them = λ v is zeros. y.all_of_them v (x.all_of_them v is (λ n le lt. zeros n le (omega arith))) (λ n le lt. zeros n (omega arith) lt);
    }

-- where each row is zero already
pub IsCleared-zeros : (m : Matrix ℕ) (c : ℕ) → IsMatrix IsByte m → c < m.cols → ((k : ℕ) → k < row_count m → entry 0 m k c ≡ 0) → IsCleared m m c (c + 1)
IsCleared-zeros m c hm lt zeros =
    record {
      cols = refl;
      within = λ v is. is;
      zero_there = λ v is n le high. let here : c ≡ n = omega arith in subst (λ (j : ℕ). get_or v j 0 ≡ 0) here (zero_in_row_space m c hm lt zeros v is);
      all_of_them = λ v is there. is;
    }

-- where all rows but the last are zero there, and the last is dropped
IsCleared-last : (m : Matrix ℕ) (c last : ℕ) → IsMatrix IsByte m → IsMatrix IsByte (first_rows last m) → c < m.cols → row_count m ≡ last + 1 → entry 0 m last c ≢ 0 → ((k : ℕ) → k < last → entry 0 m k c ≡ 0)
    → IsCleared m (first_rows last m) c (c + 1)
IsCleared-last m c last hm hf lt count ne zeros =
    let few : length (take last m.rows) ≡ last = length-take-le last m.rows (omega arith) in
    let first_zero : (v : List ℕ) → RowSpace (first_rows last m) v → get_or v c 0 ≡ 0 = zero_in_row_space (first_rows last m) c hf lt (λ k h.
    ap (λ (r : List ℕ). get_or r c 0) (get_or-take last m.rows k [] (omega arith)) ∙ zeros k (omega arith)) in
    let inside : RowsAreIn IsByte 0 bit_xor gf256_product (first_rows last m) m = record {
      cols = refl;
      rows = λ k d h.
          subst (RowSpace m) (get_or_default m.rows k [] d (omega arith) ∙ sym (get_or-take last m.rows k d (omega arith))) (row-in_row_space gf256_field m k hm (omega arith));
    } in
    record {
      cols = refl;
      within = λ v is. row_space-rows_in gf256_field (first_rows last m) m v hm inside is;
      zero_there = λ v is n le high. let here : c ≡ n = omega arith in subst (λ (j : ℕ). get_or v j 0 ≡ 0) here (first_zero v is);
      all_of_them = λ v is there.
          let cs : List ℕ = is.coefficients in
          let x : ℕ = get_or is.coefficients last 0 in
          let p : List ℕ = get_or m.rows last [] in
          let hx : IsByte (get_or is.coefficients last 0) = entry_at last 0 is.are_elements (omega arith) in
          let hp : IsVector IsByte m.cols (get_or m.rows last []) = hm.vectors last [] (omega arith) in
          let he : IsByte (get_or (get_or m.rows last []) c 0) = entry_at c 0 hp lt in
          let rest : List ℕ = combination 0 bit_xor gf256_product m.cols (take last is.coefficients) (take last m.rows) in
          let ht : IsVector IsByte last (take last is.coefficients) = IsVector-take last is.coefficients is.are_elements (omega arith) in
          let in_first : RowSpace (first_rows last m) (combination 0 bit_xor gf256_product m.cols (take last is.coefficients) (take last m.rows)) =
          record { coefficients = take last is.coefficients; are_elements = subst (λ (n : ℕ). IsVector IsByte n (take last is.coefficients)) (sym few) ht; is_combination = refl } in
          let all_cs : take (last + 1) is.coefficients ≡ is.coefficients = take_all (last + 1) is.coefficients (omega (arith, is.are_elements.width)) in
          let all_rows : take (last + 1) m.rows ≡ m.rows = take_all (last + 1) m.rows (omega arith) in
          let split : v ≡ add_vectors bit_xor (combination 0 bit_xor gf256_product m.cols (take last is.coefficients) (take last m.rows)) (scale_vector gf256_product (get_or is.coefficients last 0) (get_or m.rows last (replicate m.cols 0))) =
          is.is_combination
          ∙ sym (ap₂ (λ (cs : List ℕ) (rs : List (List ℕ)). combination 0 bit_xor gf256_product m.cols cs rs) all_cs all_rows)
          ∙ dot_more gf256_field (vector_module elements_module m.cols) is.coefficients m.rows last is.are_elements (vector_of m.rows hm.vectors) (omega arith) (omega arith) in
          let same_row : get_or m.rows last (replicate m.cols 0) ≡ get_or m.rows last [] = get_or_default m.rows last (replicate m.cols 0) [] (omega arith) in
          let hr : IsVector IsByte m.cols (combination 0 bit_xor gf256_product m.cols (take last is.coefficients) (take last m.rows)) =
          IsVector-combination gf256_field elements_module m.cols (take last is.coefficients) (take last m.rows) ht (vector_of (take last m.rows) hf.vectors) in
          let hs : IsVector IsByte m.cols (scale_vector gf256_product (get_or is.coefficients last 0) (get_or m.rows last [])) = (vector_module elements_module m.cols).times_value (get_or is.coefficients last 0) (get_or m.rows last []) hx hp in
          let product : gf256_product (get_or is.coefficients last 0) (get_or (get_or m.rows last []) c 0) ≡ 0 =
          sym (zero_add gf256_field (gf256_product (get_or is.coefficients last 0) (get_or (get_or m.rows last []) c 0)) (gf256_field.mul_element (get_or is.coefficients last 0) (get_or (get_or m.rows last []) c 0) hx he))
          ∙ ap₂ bit_xor (sym (first_zero (combination 0 bit_xor gf256_product m.cols (take last is.coefficients) (take last m.rows)) in_first))
          (sym (get_or-scale_vector gf256_product (get_or is.coefficients last 0) (get_or m.rows last []) c 0 (omega (arith, hp.width))))
          ∙ sym (get_or-add_vectors bit_xor (combination 0 bit_xor gf256_product m.cols (take last is.coefficients) (take last m.rows)) (scale_vector gf256_product (get_or is.coefficients last 0) (get_or m.rows last [])) c 0 (hr.width ∙ sym hs.width) (omega (arith, hr.width)))
          ∙ ap (λ (r : List ℕ). get_or (add_vectors bit_xor (combination 0 bit_xor gf256_product m.cols (take last is.coefficients) (take last m.rows)) (scale_vector gf256_product (get_or is.coefficients last 0) r)) c 0) (sym same_row)
          ∙ ap (λ (r : List ℕ). get_or r c 0) (sym split) ∙ there c (omega arith) (omega arith) in
          let nothing : get_or is.coefficients last 0 ≡ 0 =
          second_zero gf256_field (get_or (get_or m.rows last []) c 0) (get_or is.coefficients last 0) he hx ne (gf256_field.mul_comm (get_or (get_or m.rows last []) c 0) (get_or is.coefficients last 0) he hx ∙ product) in
          let dropped : scale_vector gf256_product (get_or is.coefficients last 0) (get_or m.rows last (replicate m.cols 0)) ≡ replicate m.cols 0 =
          ap₂ (λ (y : ℕ) (r : List ℕ). scale_vector gf256_product y r) nothing same_row
          ∙ (vector_module elements_module m.cols).times_zero (get_or m.rows last []) hp in
          subst (RowSpace (first_rows last m))
          (sym (split ∙ ap (add_vectors bit_xor (combination 0 bit_xor gf256_product m.cols (take last is.coefficients) (take last m.rows))) dropped
          ∙ (vector_module elements_module m.cols).plus_none (combination 0 bit_xor gf256_product m.cols (take last is.coefficients) (take last m.rows)) hr))
          in_first;
    }

-- a column is cleared: a pivot is put last, the rows before it are cleared, and it is dropped
pub IsCleared-pivot : (old swapped made new : Matrix ℕ) (c p last : ℕ) → IsMatrix IsByte old → IsMatrix IsByte made → IsMatrix IsByte new → c < old.cols → row_count old ≡ last + 1 → p < row_count old → swapped ≡ swap_rows old p last
    → OneSpace made swapped → row_count made ≡ row_count swapped → entry 0 made last c ≢ 0 → ((k : ℕ) → k < last → entry 0 made k c ≡ 0) → new ≡ first_rows last made → IsCleared old new c (c + 1)
IsCleared-pivot old swapped made new c p last ho hm hn lt count hp swap space rows ne zeros e =
    let one : OneSpace swapped old = subst (λ (s : Matrix ℕ). OneSpace s old) (sym swap) (row_space-swap_rows gf256_field old p last ho hp (omega arith)) in
    let all : OneSpace made old = one_space-trans made swapped old hm ho space one in
    let cols : made.cols ≡ old.cols = all.first_in.cols in
    let long : row_count swapped ≡ row_count old = ap (λ (s : Matrix ℕ). length s.rows) swap ∙ length-swap old.rows p last in
    let hf : IsMatrix IsByte (first_rows last made) = subst (IsMatrix IsByte) e hn in
    let cut : IsCleared made (first_rows last made) c (c + 1) = IsCleared-last made c last hm hf (omega arith) (omega arith) ne zeros in
    subst (λ (n : Matrix ℕ). IsCleared old n c (c + 1)) (sym e) (record {
      cols = cols;
      within = λ v is. row_space-rows_in gf256_field made old v ho all.first_in (cut.within v is);
      zero_there = cut.zero_there;
      all_of_them = λ v is there. cut.all_of_them v (row_space-rows_in gf256_field old made v hm all.second_in is) there;
    })

-- ---- lists that are filled from a function
pub filled : {X : Type 0} (f : ℕ → X) (items more : List X) (n : ℕ) (x : X) → more ≡ items ++ x ∷ [] → items ≡ map f (range_with_len 0 n) → x ≡ f n → more ≡ map f (range_with_len 0 (n + 1))
filled {X} f items more n x pushed so_far is =
    pushed ∙ ap₂ (λ (xs : List X) (y : X). xs ++ y ∷ []) so_far is ∙ sym (map-range_with_len_more f 0 n n (omega arith))

pub bounded : (a b : ℕ) → a ≤ 2700 → b ≤ 2688 → a * b ≤ 7257600
bounded a b ha hb = omega (arith, mul-le a b 2700 2688 ha hb)

-- ---- unit images
module _ (code : Code ℕ) (hc : IsCode IsByte code) where
  sum_below-one : (n p : ℕ) (f : ℕ → ℕ) → p < n → ((i : ℕ) → i < n → i ≢ p → f i ≡ 0) → IsByte (f p) → sum_below 0 bit_xor n f ≡ f p
  sum_below-one none p f lt others h = absurd (omega arith)
  sum_below-one (suc n) p f lt others h =
      elim (cases_lt p n) [
        | inl below ↦
            ap₂ bit_xor (sum_below-one n p f below (λ i hi ne. others i (omega arith) ne) h) (others n (omega arith) (λ e. absurd (omega arith))) ∙ gf256_field.add_zero (f p) h
        | inr last ↦
            let e : n ≡ p = omega arith in
            ap₂ bit_xor (sum_below-zeros gf256_field elements_module n f (λ i hi. others i (omega arith) (λ e. absurd (omega arith)))) (ap f e) ∙ zero_add gf256_field (f p) h
      ]

  pub parity-unit : (s p u j : ℕ) → p < code.k → s ≤ u → parity_at code (unit_stream s p) u j ≡ coefficient 0 code (u - s) p j
  parity-unit s p u j hp le =
      let hu : AreValues IsByte (unit_stream s p) = byte-unit s p in
      let hco : (lag i : ℕ) → IsByte (coefficient 0 code lag i j) = λ lag i. element-coefficient gf256_field elements_module code lag i j hc in
      let nothing : (l i : ℕ) → unit_stream s p l i ≡ 0 → gf256_product (coefficient 0 code (u - l) i j) (unit_stream s p l i) ≡ 0 = λ l i e.
      ap (gf256_product (coefficient 0 code (u - l) i j)) e ∙ mul_zero gf256_field (coefficient 0 code (u - l) i j) (hco (u - l) i) in
      let one_symbol : sum_below 0 bit_xor code.k (λ i. gf256_product (coefficient 0 code (u - s) i j) (unit_stream s p s i)) ≡ coefficient 0 code (u - s) p j =
      sum_below-one code.k p (λ i. gf256_product (coefficient 0 code (u - s) i j) (unit_stream s p s i)) hp (λ i hi ne. nothing s i (unit-other_symbol s p s i refl ne)) (gf256_field.mul_element (coefficient 0 code (u - s) p j) (unit_stream s p s p) (hco (u - s) p) (hu.value s p))
      ∙ ap (gf256_product (coefficient 0 code (u - s) p j)) (unit-one s p s p refl refl) ∙ gf256_field.mul_one (coefficient 0 code (u - s) p j) (hco (u - s) p) in
      parity_symbol-by_slots gf256_field elements_module code (unit_stream s p) u j hc hu
      ∙ sum_below-one (suc u) s (λ l. sum_below 0 bit_xor code.k (λ i. gf256_product (coefficient 0 code (u - l) i j) (unit_stream s p l i))) (omega arith)
      (λ l hl ne. sum_below-zeros gf256_field elements_module code.k (λ i. gf256_product (coefficient 0 code (u - l) i j) (unit_stream s p l i)) (λ i hi. nothing l i (unit-other_slot s p l i ne)))
      (subst IsByte (sym one_symbol) (hco (u - s) p))
      ∙ one_symbol

  pub parity-unit_before : (s p u j : ℕ) → u < s → parity_at code (unit_stream s p) u j ≡ 0
  parity-unit_before s p u j lt = parity_symbol-zeros gf256_field elements_module code (unit_stream s p) u j hc (λ t i ht hi. unit-other_slot s p t i (λ e. absurd (omega arith)))

  pub parity-unit_late : (s p u j : ℕ) → p < code.k → s ≤ u → length code.lags ≤ u - s → parity_at code (unit_stream s p) u j ≡ 0
  parity-unit_late s p u j hp le past = parity-unit s p u j hp le ∙ coefficient-past 0 code (u - s) p j past

pub rows_so_far : {X : Type 0} (rows more : List X) (f : ℕ → X) (p : ℕ) → more ≡ rows ++ map f (range_with_len 0 p) → length more ≡ length rows + p
rows_so_far rows more f p e = ap length e ∙ length-append rows (map f (range_with_len 0 p)) ∙ ap (λ (n : ℕ). length rows + n) (length-map-range_with_len f 0 p)

pub one_more : {X : Type 0} (rows more pushed : List X) (f : ℕ → X) (p : ℕ) (x : X) → pushed ≡ more ++ x ∷ [] → more ≡ rows ++ map f (range_with_len 0 p) → x ≡ f p → pushed ≡ rows ++ map f (range_with_len 0 (p + 1))
one_more {X} rows more pushed f p x e so_far is =
    e ∙ ap₂ (λ (xs : List X) (y : X). xs ++ y ∷ []) so_far is ∙ append_assoc rows (map f (range_with_len 0 p)) (f p ∷ []) ∙ ap (λ (xs : List X). rows ++ xs) (sym (map-range_with_len_more f 0 p p (omega arith)))

-- the sizes of codes within the limits
pub wide_at_most : (code : Code ℕ) (slots : ℕ) → IsCode IsByte code → slots ≤ 41 → slots * code.r + code.k ≤ 2688
wide_at_most code slots hc few = omega (arith, mul-le slots code.r 41 64 few (omega (arith, hc.in_range.size_limit)), hc.in_range.size_limit)

pub units_at_most : (code : Code ℕ) (slots : ℕ) → IsCode IsByte code → slots ≤ 41 → slots * code.k ≤ 2624
units_at_most code slots hc few = omega (arith, mul-le slots code.k 41 64 few (omega (arith, hc.in_range.size_limit)))
