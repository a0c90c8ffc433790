-- Laws of the products of matrices, of a matrix and a vector, and of the transpose. The matrix on the left has elements of
-- the field. What is on the right may have values of any module over it, as elements or bytes.
use Rattle.std.proofs.Common.{◌≡◌, ℕ, ◌<◌, List, [], get_or, map, replicate, refl, sym, ◌∙◌, ap, ap₂, subst, arith}
use Rattle.std.specs.List.{range_with_len}
use Rattle.std.proofs.lemmas.Grind.{get_or-set_at}
use Rattle.std.proofs.lemmas.List.{map-id, length-map, length-replicate, get_or-map, get_or-replicate, get_or-set_other, ext_get_or}
use Rattle.std.proofs.lemmas.List.FromFn.{fill_by_all, length-map-range_with_len, get_or-map-range_with_len}
use Rattle.sc_field.specs.Field.{IsField}
use Rattle.sc_matrix.specs.Module.{IsModule}
use Rattle.sc_matrix.specs.Vector.{IsVector, add_vectors, dot, combination, unit_vector}
use Rattle.sc_matrix.specs.Matrix.{Matrix, IsMatrix, row, row_count, column, apply, product, identity, transpose}
use Rattle.sc_matrix.specs.Laws.{AreProductLaws, AreTransposeLaws}
use Rattle.sc_matrix.proofs.VectorLaws.{IsVector-map, map_same, map_ext, map-plus, map-map, map-add_vectors, IsVector-set, IsVector-replicate, length-combination, get_or-combination}
use Rattle.sc_matrix.proofs.ModuleLaws.{dot-add_left, dot-add_right, dot-scale_right, dot_unit, dot_comm}
use Rattle.sc_matrix.proofs.Modules.{field_module, vector_module, dot-combination, IsVector-combination}
use Rattle.sc_matrix.proofs.MatrixLaws.{places_below, matrix_rows, elements-column, IsMatrix-transpose}

-- two matrices with the same columns and rows
pub same_matrix : {A : Type 0} (a b : Matrix A) → a.cols ≡ b.cols → a.rows ≡ b.rows → a ≡ b
same_matrix {A = A} a b e f = ap₂ (λ (c : ℕ) (r : List (List A)). let m : Matrix A = record { cols = c; rows = r } in m) e f

-- ---- a matrix and a vector
module _ {C A : Type 0} {IsElement : C → Type 0} {zero one : C} {add sub mul : C → C → C} {inv : C → C} {IsValue : A → Type 0} {none : A} {plus : A → A → A} {times : C → A → A} (laws : IsField IsElement zero one add sub mul inv) (ml : IsModule IsElement zero one add mul IsValue none plus times) where
  -- the product of matrices is the one by which the vector is multiplied twice
  apply-product : {q : ℕ} (a b : Matrix C) (v : List A) → IsMatrix IsElement a → IsMatrix IsElement b → IsVector IsValue q v
      → apply none plus times (product zero add mul a b) v ≡ apply none plus times a (apply none plus times b v)
  apply-product a b v ha hb hv =
      map-map _ _ a.rows ∙ map_same _ _ a.rows (λ r hr. dot-combination laws ml b.cols r b.rows v hr (matrix_rows hb) hv) (matrix_rows ha)

  apply-add_vectors : {q : ℕ} (m : Matrix C) (u v : List A) → IsMatrix IsElement m → IsVector IsValue q u → IsVector IsValue q v
      → apply none plus times m (add_vectors plus u v) ≡ add_vectors plus (apply none plus times m u) (apply none plus times m v)
  apply-add_vectors m u v hm hu hv = map-plus plus _ _ _ m.rows (λ r hr. dot-add_right laws ml r u v hr hu hv) (matrix_rows hm)

  apply-identity : (n : ℕ) (v : List A) → IsVector IsValue n v → apply none plus times (identity zero one n) v ≡ v
  apply-identity n v hv =
      map-map _ _ (range_with_len 0 n)
      ∙ sym (fill_by_all (λ (i : ℕ). dot none plus times (unit_vector zero one n i) v) v n none hv.width (λ i h. sym (dot_unit laws ml n i v hv h)))

  pub IsMatrix-product : (a : Matrix C) (b : Matrix A) → IsMatrix IsElement a → IsMatrix IsValue b → IsMatrix IsValue (product none plus times a b)
  IsMatrix-product a b ha hb = record {
    vectors = (IsVector-map {Q = IsVector IsValue b.cols} (λ (r : List C). combination none plus times b.cols r b.rows) a.rows (λ r hr. IsVector-combination laws ml b.cols r b.rows hr (matrix_rows hb)) (matrix_rows ha)).entries;
  }

-- ---- products of matrices: a matrix on the right is a vector of its rows
module _ {C A : Type 0} {IsElement : C → Type 0} {zero one : C} {add sub mul : C → C → C} {inv : C → C} {IsValue : A → Type 0} {none : A} {plus : A → A → A} {times : C → A → A} (laws : IsField IsElement zero one add sub mul inv) (ml : IsModule IsElement zero one add mul IsValue none plus times) where
  pub product_laws : AreProductLaws IsElement zero one add mul IsValue none plus times
  product_laws = record {
    with_vector = λ q a b v ha hb hv. apply-product laws ml a b v ha hb hv;
    associative = λ a b c ha hb hc. same_matrix _ _ refl (apply-product laws (vector_module ml c.cols) a b c.rows ha hb (matrix_rows hc));
    sum_left = λ a b c ha hb hc e.
        same_matrix _ _ refl
        (map-add_vectors (add_vectors add) (add_vectors plus) (λ (r : List C). combination none plus times c.cols r c.rows) a.rows b.rows
        (λ r s hr hs. dot-add_left laws (vector_module ml c.cols) r s c.rows hr hs (matrix_rows hc)) (matrix_rows ha)
        (subst (λ (n : ℕ). IsVector (IsVector IsElement n) (row_count b) b.rows) (sym e) (matrix_rows hb)));
    sum_right = λ a b c ha hb hc e n.
        same_matrix _ _ refl
        (apply-add_vectors laws (vector_module ml b.cols) a b.rows c.rows ha (matrix_rows hb) (record { width = sym n; entries = rw e hc.vectors })
        ∙ ap (λ (k : ℕ). add_vectors (add_vectors plus) (product none plus times a b).rows (map (λ (r : List C). combination none plus times k r c.rows) a.rows)) e);
    vector_sum = λ q m u v hm hu hv. apply-add_vectors laws ml m u v hm hu hv;
    vector_multiple = λ q m c v hm hc hv.
        map_same _ _ m.rows (λ r hr. dot-scale_right laws ml c r v hc hr hv) (matrix_rows hm) ∙ sym (map-map (times c) _ m.rows);
    identity_vector = apply-identity laws ml;
    identity_left = λ b hb. same_matrix _ b refl (apply-identity laws (vector_module ml b.cols) (row_count b) b.rows (matrix_rows hb));
    entries = λ a b i j hb h k.
        ap (λ (r : List A). get_or r j none) (get_or-map (λ (r : List C). combination none plus times b.cols r b.rows) a.rows i [] [] h)
        ∙ get_or-combination none plus times b.cols (row a i) b.rows j (matrix_rows hb) k;
  }

-- ---- transposes
module _ {A : Type 0} {P : A → Type 0} (zero : A) (m : Matrix A) (hm : IsMatrix P m) where
  column-transpose : (i : ℕ) → i < row_count m → column zero (transpose zero m) i ≡ row m i
  column-transpose i h =
      map-map _ _ (range_with_len 0 m.cols)
      ∙ sym
      (fill_by_all (λ (j : ℕ). get_or (column zero m j) i zero) (row m i) m.cols zero (hm.vectors i [] h).width
      (λ j k. sym (get_or-map (λ (r : List A). get_or r j zero) m.rows i [] zero h)))

  transpose-transpose : transpose zero (transpose zero m) ≡ m
  transpose-transpose =
      same_matrix _ m (length-map-range_with_len (column zero m) 0 m.cols)
      (sym (fill_by_all (column zero (transpose zero m)) m.rows (row_count m) [] refl (λ i h. sym (column-transpose i h))))

module _ {A : Type 0} {IsElement : A → Type 0} {zero one : A} {add sub mul : A → A → A} {inv : A → A} (laws : IsField IsElement zero one add sub mul inv) where
  pub IsVector-unit : (n i : ℕ) → IsVector IsElement n (unit_vector zero one n i)
  IsVector-unit n i = IsVector-set (replicate n zero) i one (IsVector-replicate n zero laws.zero_element) laws.one_element

  -- a vector times a matrix is the transpose times the vector
  apply-transpose : {p : ℕ} (cs : List A) (m : Matrix A) → IsMatrix IsElement m → IsVector IsElement p cs → combination zero add mul m.cols cs m.rows ≡ apply zero add mul (transpose zero m) cs
  apply-transpose cs m hm hc =
      fill_by_all (λ (j : ℕ). dot zero add mul (column zero m j) cs) _ m.cols zero (length-combination zero add mul m.cols cs m.rows (matrix_rows hm))
      (λ j h. get_or-combination zero add mul m.cols cs m.rows j (matrix_rows hm) h ∙ dot_comm laws cs (column zero m j) hc (elements-column zero m j hm h))
      ∙ sym (map-map _ _ (range_with_len 0 m.cols))

  -- ---- the identity matrix on the right
  unit_turned : (n i j : ℕ) → i < n → j < n → get_or (unit_vector zero one n i) j zero ≡ get_or (unit_vector zero one n j) i zero
  unit_turned n i j h k =
      let l = length-replicate n zero in
      grind (arith, get_or-set_at, get_or-set_other (replicate n zero) i j one zero, get_or-set_other (replicate n zero) j i one zero, get_or-replicate n j zero zero k, get_or-replicate n i zero zero h)

  column-identity : (n j : ℕ) → j < n → column zero (identity zero one n) j ≡ unit_vector zero one n j
  column-identity n j h =
      map-map _ _ (range_with_len 0 n)
      ∙ sym (fill_by_all (λ (i : ℕ). get_or (unit_vector zero one n i) j zero) (unit_vector zero one n j) n zero (IsVector-unit n j).width (λ i k. unit_turned n j i h k))

  times_identity : (n : ℕ) (r : List A) → IsVector IsElement n r → combination zero add mul n r (identity zero one n).rows ≡ r
  times_identity n r hr =
      let units : IsVector (IsVector IsElement n) n (identity zero one n).rows = IsVector-map (unit_vector zero one n) _ (λ i _. IsVector-unit n i) (places_below n) in
      let w = hr.width in
      let l = length-combination zero add mul n r _ units in
      ext_get_or zero _ r (omega arith)
      (λ j h.
      get_or-combination zero add mul n r _ j units (omega arith) ∙ ap (dot zero add mul r) (column-identity n j (omega arith))
      ∙ dot_comm laws r (unit_vector zero one n j) hr (IsVector-unit n j) ∙ dot_unit laws (field_module laws) n j r hr (omega arith))

  pub transpose_laws : AreTransposeLaws IsElement zero one add sub mul inv
  transpose_laws = record {
    left = λ p cs m hm hc. apply-transpose cs m hm hc;
    identity_right = λ m hm. same_matrix _ m refl (map_same _ (λ (r : List A). r) m.rows (times_identity m.cols) (matrix_rows hm) ∙ map-id m.rows);
    twice = λ m hm. transpose-transpose zero m hm;
    of_product = λ a b ha hb e.
        let col : (j : ℕ) → j < b.cols → column zero (product zero add mul a b) j ≡ combination zero add mul (row_count a) (column zero b j) (transpose zero a).rows =
        λ j h.
        map-map _ _ a.rows ∙ map_ext _ _ a.rows (λ r. get_or-combination zero add mul b.cols r b.rows j (matrix_rows hb) h)
        ∙ ap (λ (t : Matrix A). apply zero add mul t (column zero b j)) (sym (transpose-transpose zero a ha))
        ∙ sym (apply-transpose (column zero b j) (transpose zero a) (IsMatrix-transpose zero a ha) (elements-column zero b j hb h)) in
        same_matrix _ _ (length-map a.rows (λ (r : List A). combination zero add mul b.cols r b.rows))
        (map_same _ _ (range_with_len 0 b.cols) col (places_below b.cols) ∙ sym (map-map (λ (r : List A). combination zero add mul (row_count a) r (transpose zero a).rows) (column zero b) (range_with_len 0 b.cols)));
    entries = λ m i j h k.
        ap (λ (r : List A). get_or r i zero) (get_or-map-range_with_len (column zero m) 0 m.cols j j [] k (omega arith))
        ∙ get_or-map (λ (r : List A). get_or r j zero) m.rows i [] zero h;
  }
