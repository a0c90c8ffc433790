-- Numbers of elements as a module, and what the operations on rows of numbers are on the matrix of the elements. The laws
-- come first: under a bound `F: Field` they are `g.met.F.Field.field`, `.action`, `.numbered` and `.by_number`.
use Rattle.std.proofs.Common.{◌≡◌, ◌↔◌, ℕ, ◌-◌, ◌<◌, ◌≤◌, List, [], ◌++◌, All, Option, None, Some, MatchOption, length, get_or, map, take, drop, replicate, bit_xor, refl, sym, ◌∙◌, ap, ap₂, subst, arith}
use Rattle.std.specs.Int.Bits.{xor_zero_r}
use Rattle.std.proofs.lemmas.List.{map-append, take-map, drop-map, drop_all, take_all, length-map, length-replicate, get_or-map, get_or-replicate, ext_get_or}
use Rattle.std.proofs.lemmas.List.Elements.{All-same}
use Rattle.sc_field.specs.Field.{IsField, IsAction, IsNumbered, IsNumber}
use Rattle.sc_field.specs.ActionLemmas.{is_number, is_number_xor, is_number_act, element_xor, element_act}
use Rattle.sc_matrix.specs.Module.{IsModule, IsLinear}
use Rattle.sc_matrix.specs.Vector.{IsVector, add_vectors, scale_vector, dot, combination}
use Rattle.sc_matrix.specs.Matrix.{Matrix, IsMatrix, row_count, row, with_row, scale_row, add_row_from, transpose, submatrix, product, IsFirstNonzero}
use Rattle.sc_matrix.specs.Layout.{map_matrix}
use Rattle.sc_matrix.specs.Rows.{table}
use Rattle.sc_matrix.specs.Numbers.{elements_of, AreNumbers}
use Rattle.sc_matrix.specs.declared.rows.Rows.{Rows}
use Rattle.sc_matrix.proofs.VectorLaws.{map-map, map_same, map_const, map-add_vectors, IsVector-map, IsVector-append, IsVector-take, IsVector-drop, IsVector-replicate, vector_of}
use Rattle.sc_matrix.proofs.MatrixLaws.{matrix_rows, IsMatrix-map, IsMatrix-with_row, IsMatrix-transpose, IsMatrix-submatrix, row_count-map, row-map, map-with_row, map-transpose, map-submatrix, get_or-map_all}
use Rattle.sc_matrix.proofs.ProductLaws.{IsMatrix-product}
use Rattle.sc_matrix.proofs.ModuleLaws.{linear-dot, value-dot, dot_comm}
use Rattle.sc_matrix.proofs.Modules.{byte_module, vector_module}

-- from one account of an option to another
pub option_account : {A : Type 0} {P P' : Type 0} {Q Q' : A → Type 0} (o : Option A) → (P → P') → ((x : A) → Q x → Q' x) → MatchOption o P Q → MatchOption o P' Q'
option_account None f h m = f m
option_account (Some x) f h m = h x m

-- ---- the numbers of a field's elements
module _ {A : Type 0} {IsElement : A → Type 0} {zero one : A} {add sub mul : A → A → A} {inv : A → A} {act : A → ℕ → ℕ} {number : A → ℕ} {element : ℕ → A} (laws : IsField IsElement zero one add sub mul inv) (action : IsAction IsElement zero one add mul act) (numbered : IsNumbered IsElement zero one number element) (by_number : (x : A) → IsElement x → act x 1 ≡ number x) where
  -- a byte that is the number of an element
  abbrev pub Number : ℕ → Type 0
  Number n = IsNumber IsElement number element n

  number_below : (n : ℕ) → Number n → n < 256
  number_below n h = subst (λ (k : ℕ). k < 256) h.same (numbered.below (element n) h.is_element)

  pub zero_number : Number 0
  zero_number = subst Number numbered.of_zero (is_number laws action numbered by_number zero laws.zero_element)

  pub element_zero : element 0 ≡ zero
  element_zero = ap element (sym numbered.of_zero) ∙ numbered.element_number zero laws.zero_element

  pub number_module : IsModule IsElement zero one add mul Number 0 bit_xor act
  number_module =
      let bytes = byte_module action in
      record {
        none_value = zero_number;
        plus_value = λ u v hu hv. is_number_xor laws action numbered by_number u v hu hv;
        times_value = λ x v hx hv. is_number_act laws action numbered by_number x v hx hv;
        plus_comm = λ u v hu hv. bytes.plus_comm u v (number_below u hu) (number_below v hv);
        plus_assoc = λ u v w hu hv hw. bytes.plus_assoc u v w (number_below u hu) (number_below v hv) (number_below w hw);
        plus_none = λ v hv. bytes.plus_none v (number_below v hv);
        times_one = λ v hv. bytes.times_one v (number_below v hv);
        times_zero = λ v hv. bytes.times_zero v (number_below v hv);
        times_plus = λ x u v hx hu hv. bytes.times_plus x u v hx (number_below u hu) (number_below v hv);
        times_add = λ x y v hx hy hv. bytes.times_add x y v hx hy (number_below v hv);
        times_mul = λ x y v hx hy hv. bytes.times_mul x y v hx hy (number_below v hv);
      }

  -- rows of numbers are added and multiplied as the rows of their elements
  pub elements-add : {p q : ℕ} (us vs : List ℕ) → IsVector Number p us → IsVector Number q vs → map element (add_vectors bit_xor us vs) ≡ add_vectors add (map element us) (map element vs)
  elements-add us vs hu hv = map-add_vectors bit_xor add element us vs (λ x y hx hy. element_xor laws action numbered by_number x y hx hy) hu hv

  pub elements-times : {p : ℕ} (c : A) (us : List ℕ) → IsElement c → IsVector Number p us → map element (scale_vector act c us) ≡ scale_vector mul c (map element us)
  elements-times c us hc hu =
      map-map element (act c) us ∙ map_same (λ (n : ℕ). element (act c n)) (λ (n : ℕ). mul c (element n)) us (λ n hn. element_act laws action numbered by_number c n hc hn) hu
      ∙ sym (map-map (mul c) element us)

  -- the row a of add_row_from, as numbers and as elements
  module _ {c : ℕ} (u v : List ℕ) (x : A) (from : ℕ) (hx : IsElement x) (hu : IsVector Number c u) (hv : IsVector Number c v) (le : from ≤ c) where
    rest_u : IsVector Number (c - from) (drop from u)
    rest_u = IsVector-drop from u hu

    rest_v : IsVector Number (c - from) (scale_vector act x (drop from v))
    rest_v = (vector_module number_module (c - from)).times_value x _ hx (IsVector-drop from v hv)

    pub numbers-added : IsVector Number c (take from u ++ add_vectors bit_xor (drop from u) (scale_vector act x (drop from v)))
    numbers-added =
        let whole = IsVector-append _ _ (IsVector-take from u hu le) ((vector_module number_module (c - from)).plus_value _ _ rest_u rest_v) in
        record { width = omega (arith, whole.width); entries = whole.entries }

    pub elements-added : map element (take from u ++ add_vectors bit_xor (drop from u) (scale_vector act x (drop from v))) ≡ take from (map element u) ++ add_vectors add (drop from (map element u)) (scale_vector mul x (drop from (map element v)))
    elements-added =
        simp (map-append, take-map, drop-map, elements-add (drop from u) (scale_vector act x (drop from v)) rest_u rest_v, elements-times x (drop from v) hx (IsVector-drop from v hv))

  -- to take the element of a number is linear, and so is to take those of a row
  pub element_linear : IsLinear IsElement Number 0 bit_xor act zero add mul element
  element_linear = record {
    of_none = element_zero;
    of_plus = λ u v hu hv. element_xor laws action numbered by_number u v hu hv;
    of_times = λ x v hx hv. element_act laws action numbered by_number x v hx hv;
  }

  elements_linear : (n : ℕ) → IsLinear IsElement (IsVector Number n) (replicate n 0) (add_vectors bit_xor) (scale_vector act) (replicate n zero) (add_vectors add) (scale_vector mul) (map element)
  elements_linear n = record {
    of_none = map_const element zero (replicate n 0) (λ k e. ap element e ∙ element_zero) (IsVector-replicate n 0 refl);
    of_plus = λ u v hu hv. elements-add u v hu hv;
    of_times = λ x v hx hv. elements-times x v hx hv;
  }

  -- zeros of numbers and of elements
  pub element-zero_iff : (n : ℕ) → Number n → (element n ≡ zero) ↔ (n ≡ 0)
  element-zero_iff n h = (λ e. sym h.same ∙ ap number e ∙ numbered.of_zero, λ e. ap element e ∙ element_zero)

  -- what an operation on the rows in memory makes of their matrix
  module _ (r : Rows) {m : Matrix A} (kept : AreNumbers IsElement number element r) (view : elements_of element r ≡ m) where
    within : (a : ℕ) → a < row_count m → a < row_count (table r)
    within a h = let n = ap row_count view in let l = row_count-map element (table r) in omega arith

    pub row_scaled : {t : Matrix ℕ} (a : ℕ) (x : A) → IsElement x → a < row_count m → t ≡ scale_row act (table r) a x → IsMatrix Number t × (map_matrix element t ≡ scale_row mul m a x)
    row_scaled a x hx ha e =
        let hu = kept.vectors a [] (within a ha) in
        rw (e, ← view) (
          IsMatrix-with_row (table r) a _ kept ((vector_module number_module r.width).times_value x _ hx hu),
          map-with_row element (table r) a _ ∙ ap (with_row (elements_of element r) a) (elements-times x _ hx hu ∙ ap (scale_vector mul x) (sym (row-map element (table r) a))),
        )

    pub row_added : {t : Matrix ℕ} (a b from : ℕ) (x : A) → IsElement x → a < row_count m → b < row_count m → from ≤ m.cols → t ≡ add_row_from bit_xor act (table r) a x b from
        → IsMatrix Number t × (map_matrix element t ≡ add_row_from add mul m a x b from)
    row_added a b from x hx ha hb le e =
        let hu = kept.vectors a [] (within a ha) in
        let hv = kept.vectors b [] (within b hb) in
        let within_row : from ≤ r.width = omega (arith, ap (λ (k : Matrix A). k.cols) view) in
        rw (e, ← view) (
          IsMatrix-with_row (table r) a _ kept (numbers-added _ _ x from hx hu hv within_row),
          map-with_row element (table r) a _
              ∙ ap (with_row (elements_of element r) a)
              (elements-added _ _ x from hx hu hv within_row
              ∙ ap₂ (λ (s t : List A). take from s ++ add_vectors add (drop from s) (scale_vector mul x (drop from t))) (sym (row-map element (table r) a)) (sym (row-map element (table r) b))),
        )

    pub transposed : {t : Matrix ℕ} → t ≡ transpose 0 (table r) → IsMatrix Number t × (map_matrix element t ≡ transpose zero m)
    transposed e = rw (e, ← view) (IsMatrix-transpose 0 (table r) kept, map-transpose element (table r) 0 zero element_zero)

    pub part_taken : {t : Matrix ℕ} (is js : List ℕ) → t ≡ submatrix 0 (table r) is js → IsMatrix Number t × (map_matrix element t ≡ submatrix zero m is js)
    part_taken is js e = rw (e, ← view) (IsMatrix-submatrix 0 (table r) is js kept zero_number, map-submatrix element (table r) is js 0 zero element_zero)

    pub multiplied : {t : Matrix ℕ} {n : Matrix A} (s : Rows) → AreNumbers IsElement number element s → elements_of element s ≡ n → t ≡ product 0 bit_xor act (elements_of element r) (table s)
        → IsMatrix Number t × (map_matrix element t ≡ product zero add mul m n)
    multiplied s other seen e =
        let hr = IsMatrix-map element IsElement (table r) (λ n h. h.is_element) kept in
        rw (e, ← view, ← seen) (
          IsMatrix-product laws number_module (elements_of element r) (table s) hr other,
          ap (λ (rows : List (List A)). let m : Matrix A = record { cols = s.width; rows = rows } in m)
              (map-map (map element) (λ (c : List A). combination 0 bit_xor act s.width c (table s).rows) (elements_of element r).rows
              ∙ map_same (λ (c : List A). map element (combination 0 bit_xor act s.width c (table s).rows)) (λ (c : List A). combination zero add mul s.width c (elements_of element s).rows) (elements_of element r).rows
              (λ c hc. linear-dot laws (vector_module number_module s.width) (elements_linear s.width) c (table s).rows hc (matrix_rows other)) (matrix_rows hr)),
        )

    -- a row is zero where its numbers are, and its first entry that is not zero stands where its numbers have theirs
    pub first_found : (o : Option ℕ) (i : ℕ) → i < row_count m → MatchOption o ((j : ℕ) → get_or (row (table r) i) j 0 ≡ 0) (IsFirstNonzero 0 (row (table r) i))
        → MatchOption o (row m i ≡ replicate m.cols zero) (IsFirstNonzero zero (row m i))
    first_found o i h found =
        let ns = row (table r) i in
        let hn = kept.vectors i [] (within i h) in
        let w = hn.width in
        let l = length-map ns element in
        let k = length-replicate r.width zero in
        rw (← view, row-map element (table r) i)
        (option_account o
        (λ each. ext_get_or zero (map element ns) (replicate r.width zero) (omega arith)
        (λ j q. get_or-map element ns j 0 zero (omega arith) ∙ ap element (each j) ∙ element_zero ∙ sym (get_or-replicate r.width j zero zero (omega arith))))
        (λ j is. record {
          within = (let inside = is.within in omega arith);
          nonzero = λ e. is.nonzero ((element-zero_iff (get_or ns j 0) (hn.entries j 0 is.within)).0 (sym (get_or-map element ns j 0 zero is.within) ∙ e));
          before = λ k h. get_or-map_all element ns k 0 zero element_zero ∙ ap element (is.before k h) ∙ element_zero;
        })
        found)

  -- what a loop has that summed the products of all entries
  pub dot_summed : (v : List A) (ns : List ℕ) (n total : ℕ) → length v ≤ n → length v ≡ length ns → All Number ns → All IsElement (take n v)
      → dot 0 bit_xor act v ns ≡ bit_xor total (dot 0 bit_xor act (drop n v) (drop n ns)) → Number total × (element total ≡ dot zero add mul (map element ns) v)
  dot_summed v ns n total h l hn hv e =
      let rest : bit_xor total (dot 0 bit_xor act (drop n v) (drop n ns)) ≡ total = rw (drop_all n v h) (xor_zero_r total) in
      let elements : IsVector IsElement (length v) v = vector_of v (All-same IsElement _ _ (sym (take_all n v h)) hv) in
      let numbers : IsVector Number (length ns) ns = vector_of ns hn in
      rw (← (e ∙ rest)) (
        value-dot laws number_module v ns elements numbers,
        linear-dot laws number_module element_linear v ns elements numbers ∙ dot_comm laws v (map element ns) elements (IsVector-map element ns (λ m k. k.is_element) numbers),
      )
