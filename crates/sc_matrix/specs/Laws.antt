-- What is promised of vectors and matrices, whatever the field is. Each record states laws of linear algebra over the
-- operations of a field and of a module over it, and a public function has it as its contract.
use Rattle.std.specs.Prelude.{◌≡◌, ◌≢◌, ◌↔◌, ℕ, ◌<◌, ◌≤◌, Bool, List, ◌++◌, map, drop, replicate, slice_index_or}
use Rattle.sc_matrix.specs.Vector.{IsVector, add_vectors, scale_vector, dot, combination, unit_vector, picked, spread}
use Rattle.sc_matrix.specs.Matrix.{Matrix, IsMatrix, IsInKernel, row_count, row, entry, column, apply, product, matrix_sum, identity, transpose, swap_rows, scale_row, add_row, add_row_from, stacked}
use Rattle.sc_matrix.specs.RowSpace.{IsSubspace, IsInRowSpace, RowsAreIn, HaveOneRowSpace}

module _ {C A : Type 0} (IsElement : C → Type 0) (zero one : C) (add mul : C → C → C) (IsValue : A → Type 0) (none : A) (plus : A → A → A) (times : C → A → A) where
  -- The dot product of scalars and values is linear on both sides. So are linear combinations, which are dot products of
  -- coefficients and vectors. Zeros at the back or in front of the scalars leave it to the others, and a selection of the
  -- scalars has the dot product of all of them with zeros at the other places.
  pub record AreDotLaws : Type 0 where
    pub value : (p q : ℕ) (cs : List C) (vs : List A) → IsVector IsElement p cs → IsVector IsValue q vs → IsValue (dot none plus times cs vs)
    pub add_left : (p q : ℕ) (cs ds : List C) (vs : List A) → IsVector IsElement p cs → IsVector IsElement p ds → IsVector IsValue q vs
        → dot none plus times (add_vectors add cs ds) vs ≡ plus (dot none plus times cs vs) (dot none plus times ds vs)
    pub scale_left : (p q : ℕ) (k : C) (cs : List C) (vs : List A) → IsElement k → IsVector IsElement p cs → IsVector IsValue q vs
        → dot none plus times (scale_vector mul k cs) vs ≡ times k (dot none plus times cs vs)
    pub add_right : (p q : ℕ) (cs : List C) (vs ws : List A) → IsVector IsElement p cs → IsVector IsValue q vs → IsVector IsValue q ws
        → dot none plus times cs (add_vectors plus vs ws) ≡ plus (dot none plus times cs vs) (dot none plus times cs ws)
    pub scale_right : (p q : ℕ) (k : C) (cs : List C) (vs : List A) → IsElement k → IsVector IsElement p cs → IsVector IsValue q vs
        → dot none plus times cs (scale_vector times k vs) ≡ times k (dot none plus times cs vs)
    pub unit : (n i : ℕ) (vs : List A) → IsVector IsValue n vs → i < n → dot none plus times (unit_vector zero one n i) vs ≡ slice_index_or vs i none
    pub append : (p q r : ℕ) (cs ds : List C) (vs ws : List A) → IsVector IsElement p cs → IsVector IsElement q ds → IsVector IsValue p vs → IsVector IsValue r ws
        → dot none plus times (cs ++ ds) (vs ++ ws) ≡ plus (dot none plus times cs vs) (dot none plus times ds ws)
    pub zeros_back : (p q n : ℕ) (cs : List C) (vs : List A) → IsVector IsElement p cs → IsVector IsValue q vs
        → dot none plus times (cs ++ replicate n zero) vs ≡ dot none plus times cs vs
    pub zeros_front : (p q n : ℕ) (cs : List C) (vs : List A) → IsVector IsElement p cs → IsVector IsValue q vs
        → dot none plus times (replicate n zero ++ cs) vs ≡ dot none plus times cs (drop n vs)
    pub selection : (p q : ℕ) (flags : List Bool) (cs : List C) (vs : List A) → IsVector IsElement p cs → IsVector IsValue q vs
        → dot none plus times (picked flags cs) vs ≡ dot none plus times cs (spread none flags vs)
    pub of_combination : (p m n q : ℕ) (cs : List C) (rows : List (List C)) (vs : List A) → IsVector IsElement p cs → IsVector (IsVector IsElement n) m rows → IsVector IsValue q vs
        → dot none plus times (combination zero add mul n cs rows) vs ≡ dot none plus times cs (map (λ r. dot none plus times r vs) rows)

  -- The product is associative, also with a vector, distributes over sums, and leaves what the identity multiplies.
  pub record AreProductLaws : Type 0 where
    pub with_vector : (q : ℕ) (a b : Matrix C) (v : List A) → IsMatrix IsElement a → IsMatrix IsElement b → IsVector IsValue q v
        → apply none plus times (product zero add mul a b) v ≡ apply none plus times a (apply none plus times b v)
    pub associative : (a b : Matrix C) (c : Matrix A) → IsMatrix IsElement a → IsMatrix IsElement b → IsMatrix IsValue c
        → product none plus times (product zero add mul a b) c ≡ product none plus times a (product none plus times b c)
    pub sum_left : (a b : Matrix C) (c : Matrix A) → IsMatrix IsElement a → IsMatrix IsElement b → IsMatrix IsValue c → a.cols ≡ b.cols
        → product none plus times (matrix_sum add a b) c ≡ matrix_sum plus (product none plus times a c) (product none plus times b c)
    pub sum_right : (a : Matrix C) (b c : Matrix A) → IsMatrix IsElement a → IsMatrix IsValue b → IsMatrix IsValue c → b.cols ≡ c.cols → row_count b ≡ row_count c
        → product none plus times a (matrix_sum plus b c) ≡ matrix_sum plus (product none plus times a b) (product none plus times a c)
    pub vector_sum : (q : ℕ) (m : Matrix C) (u v : List A) → IsMatrix IsElement m → IsVector IsValue q u → IsVector IsValue q v
        → apply none plus times m (add_vectors plus u v) ≡ add_vectors plus (apply none plus times m u) (apply none plus times m v)
    pub vector_multiple : (q : ℕ) (m : Matrix C) (c : C) (v : List A) → IsMatrix IsElement m → IsElement c → IsVector IsValue q v
        → apply none plus times m (scale_vector times c v) ≡ scale_vector times c (apply none plus times m v)
    pub identity_vector : (n : ℕ) (v : List A) → IsVector IsValue n v → apply none plus times (identity zero one n) v ≡ v
    pub identity_left : (b : Matrix A) → IsMatrix IsValue b → product none plus times (identity zero one (row_count b)) b ≡ b
    pub entries : (a : Matrix C) (b : Matrix A) (i j : ℕ) → IsMatrix IsValue b → i < row_count a → j < b.cols
        → entry none (product none plus times a b) i j ≡ dot none plus times (row a i) (column none b j)

  -- The kernel is a subspace, its vectors have a zero dot product with the row space, and one row space has one kernel. The
  -- kernel of stacked matrices is what their kernels have in common.
  pub record AreKernelLaws : Type 0 where
    pub subspace : (m : Matrix C) → IsMatrix IsElement m
        → IsSubspace IsElement (replicate m.cols none) (add_vectors plus) (scale_vector times) (λ (v : List A). IsVector IsValue m.cols v × IsInKernel none plus times m v)
    pub orthogonal : (m : Matrix C) (r : List C) (v : List A) → IsMatrix IsElement m → IsInRowSpace IsElement zero add mul m r → IsVector IsValue m.cols v → IsInKernel none plus times m v
        → dot none plus times r v ≡ none
    pub of_stack : (a b : Matrix C) (v : List A) → a.cols ≡ b.cols
        → IsInKernel none plus times (stacked a b) v ↔ (IsInKernel none plus times a v × IsInKernel none plus times b v)
    pub one_row_space : (k m : Matrix C) (v : List A) → IsMatrix IsElement k → IsMatrix IsElement m → HaveOneRowSpace IsElement zero add mul k m → IsVector IsValue m.cols v
        → IsInKernel none plus times k v ↔ IsInKernel none plus times m v

module _ {A : Type 0} (IsElement : A → Type 0) (zero one : A) (add sub mul : A → A → A) (inv : A → A) where
  -- The row space is a subspace that has each row. Each row operation keeps it, and another one undoes it.
  pub record AreRowSpaceLaws : Type 0 where
    pub subspace : (m : Matrix A) → IsMatrix IsElement m → IsSubspace IsElement (replicate m.cols zero) (add_vectors add) (scale_vector mul) (IsInRowSpace IsElement zero add mul m)
    pub has_row : (m : Matrix A) (i : ℕ) → IsMatrix IsElement m → i < row_count m → IsInRowSpace IsElement zero add mul m (row m i)
    pub within : (k m : Matrix A) (v : List A) → IsMatrix IsElement m → RowsAreIn IsElement zero add mul k m → IsInRowSpace IsElement zero add mul k v → IsInRowSpace IsElement zero add mul m v
    pub swap : (m : Matrix A) (a b : ℕ) → IsMatrix IsElement m → a < row_count m → b < row_count m → HaveOneRowSpace IsElement zero add mul (swap_rows m a b) m
    pub scale : (m : Matrix A) (a : ℕ) (c : A) → IsMatrix IsElement m → IsElement c → c ≢ zero → a < row_count m → HaveOneRowSpace IsElement zero add mul (scale_row mul m a c) m
    pub sum : (m : Matrix A) (a b : ℕ) (c : A) → IsMatrix IsElement m → IsElement c → a < row_count m → b < row_count m → a ≢ b → HaveOneRowSpace IsElement zero add mul (add_row add mul m a c b) m
    pub sum_from : (m : Matrix A) (a b : ℕ) (c : A) (start : ℕ) → IsMatrix IsElement m → IsElement c → a < row_count m → b < row_count m → start ≤ m.cols → ((j : ℕ) → j < start → entry zero m b j ≡ zero)
        → add_row_from add mul m a c b start ≡ add_row add mul m a c b
    pub swap_back : (m : Matrix A) (a b : ℕ) → a < row_count m → b < row_count m → swap_rows (swap_rows m a b) a b ≡ m
    pub scale_back : (m : Matrix A) (a : ℕ) (c : A) → IsMatrix IsElement m → IsElement c → c ≢ zero → a < row_count m → scale_row mul (scale_row mul m a c) a (inv c) ≡ m
    pub sum_back : (m : Matrix A) (a b : ℕ) (c : A) → IsMatrix IsElement m → IsElement c → a < row_count m → b < row_count m → a ≢ b
        → add_row add mul (add_row add mul m a c b) a (sub zero c) b ≡ m

  -- The transpose undoes itself and turns products round. A vector times a matrix is the transpose times the vector.
  pub record AreTransposeLaws : Type 0 where
    pub left : (p : ℕ) (cs : List A) (m : Matrix A) → IsMatrix IsElement m → IsVector IsElement p cs → combination zero add mul m.cols cs m.rows ≡ apply zero add mul (transpose zero m) cs
    pub identity_right : (m : Matrix A) → IsMatrix IsElement m → product zero add mul m (identity zero one m.cols) ≡ m
    pub twice : (m : Matrix A) → IsMatrix IsElement m → transpose zero (transpose zero m) ≡ m
    pub of_product : (a b : Matrix A) → IsMatrix IsElement a → IsMatrix IsElement b → a.cols ≡ row_count b
        → transpose zero (product zero add mul a b) ≡ product zero add mul (transpose zero b) (transpose zero a)
    pub entries : (m : Matrix A) (i j : ℕ) → i < row_count m → j < m.cols → entry zero (transpose zero m) j i ≡ entry zero m i j
