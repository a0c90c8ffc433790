-- The answers that are read off a table of coefficients are exact for the kernel of the rows that it was built from.
use Rattle.std.proofs.Common.{◌≡◌, ◌≢◌, ◌↔◌, ◌⊎◌, ℕ, zero as naught, suc, ◌<◌, ◌≤◌, List, [], ◌∷◌, length, get_or, All, Option, None, Some, inl, inr, refl, sym, ◌∙◌, ap, subst, arith}
use Rattle.sc_field.specs.Field.{IsField, IsNumbered}
use Rattle.sc_matrix.specs.Matrix.{Matrix, IsInKernel}
use Rattle.sc_matrix.proofs.RowSpaceLaws.{kernel_rows}
use Rattle.sc_matrix.specs.Vector.{IsVector}
use Rattle.sc_echelon.specs.Equation.{Row}
use Rattle.sc_echelon.specs.Table.{slot, rows_of}
use Rattle.sc_echelon.specs.Kernel.{IsKernelVector, IsFree, CountsTo, IsRank, IsNonzeroBelow, IsLeastBelow}
use Rattle.sc_echelon.proofs.KernelLaws.{InKernel, filled_below, filled_all, IsLastFree, leading, leading_is, leading_is_least, none_below, free_exact, rank_exact}
use Rattle.sc_echelon.specs.Echelon.{homogeneous, IsEchelon, HasKernelOf}
use Rattle.sc_echelon.proofs.ReducedSteps.{slot_row, slot_none, slot_none_back, right_sides}

-- ---- what is said of a set of vectors doesn't depend on how the set is told
module _ {A : Type 0} (zero : A) (K L : List A → Type 0) (same : (v : List A) → K v ↔ L v) where
  pub IsFree-same : (col : ℕ) → IsFree zero K col → IsFree zero L col
  IsFree-same col f = record { vector = f.vector; belongs = (same f.vector).0 f.belongs; nonzero = f.nonzero; before = f.before }

  pub IsLeastBelow-same : (number : A → ℕ) (below : ℕ) (u : List A) → IsLeastBelow zero number K below u → IsLeastBelow zero number L below u
  IsLeastBelow-same number below u h = record {
    belongs = (same u).0 h.belongs;
    nonzero = h.nonzero;
    least = λ v hv nz. h.least v ((same v).1 hv) nz;
  }

pub CountsTo-same : (P Q : ℕ → Type 0) → ((i : ℕ) → P i ↔ Q i) → (n k : ℕ) → CountsTo P n k → CountsTo Q n k
CountsTo-same P Q same naught k h = h
CountsTo-same P Q same (suc n) k h = elim h [
  | inl (a, (j, e, b)) ↦ inl ((same n).0 a, (j, e, CountsTo-same P Q same n j b))
  | inr (a, b) ↦ inr ((λ q. a ((same n).1 q)), CountsTo-same P Q same n k b)
]

-- the rows of a table and those of its coefficients are as many
pub count_rows : {A : Type 0} (zero : A) (s : List (Option (List A))) → length (rows_of (homogeneous zero s)) ≡ length (rows_of s)
count_rows zero [] = refl
count_rows zero (None ∷ s) = count_rows zero s
count_rows zero (Some cs ∷ s) = ap suc (count_rows zero s)

module _ {A : Type 0} {IsElement : A → Type 0} {zero one : A} {add sub mul : A → A → A} {inv : A → A} (laws : IsField IsElement zero one add sub mul inv) where
  -- the kernel of a matrix is that of its rows
  pub kernel_of_matrix : (m : Matrix A) (v : List A) → All IsElement v → IsKernelVector IsElement zero add mul m.cols m.rows v ↔ IsInKernel zero add mul m v
  kernel_of_matrix m v hv = (
    λ k. record { width = k.width; zeros = (kernel_rows zero add mul m v).1 k.zeros },
    λ k. record { width = k.width; elements = hv; zeros = (kernel_rows zero add mul m v).0 k.zeros },
  )

  module _ (n : ℕ) (rows : List (List A)) (s : List (Option (List A))) (form : IsEchelon IsElement zero one n s) (kernel : HasKernelOf IsElement zero add mul n s rows) where
    -- the kernel of the rows
    abbrev pub K : List A → Type 0
    K v = IsKernelVector IsElement zero add mul n rows v

    same : (v : List A) → InKernel laws n (homogeneous zero s) v ↔ K v
    same v = (
      λ h. record { width = h.values.width; elements = h.values.entries; zeros = (kernel v h.values).0 h.solves },
      λ h.
          let hv : IsVector IsElement n v = record { width = h.width; entries = h.elements } in
          record { values = hv; solves = (kernel v hv).1 h.zeros },
    )

    back : (v : List A) → K v ↔ InKernel laws n (homogeneous zero s) v
    back v = ((same v).1, (same v).0)

    -- ---- a column is free exactly where it is no pivot
    pub is_free_exact : (col : ℕ) → col < n → IsFree zero K col ↔ (slot s col ≡ None)
    is_free_exact col l =
        let f = free_exact laws n (homogeneous zero s) form.reduced form.last (right_sides zero s) col l in (
          λ h. slot_none_back zero s col (f.0 (IsFree-same zero K (InKernel laws n (homogeneous zero s)) back col h)),
          λ e. IsFree-same zero (InKernel laws n (homogeneous zero s)) K same col (f.1 (slot_none zero s col e)),
        )

    -- ---- the rank is the number of rows that the table keeps
    pub is_rank : IsRank zero K n (length (rows_of s))
    is_rank =
        let h = rank_exact laws n (homogeneous zero s) form.reduced form.last (right_sides zero s) in
        let moved : IsRank zero K n (filled_below (homogeneous zero s) n) =
        CountsTo-same (λ col. IsFree zero (InKernel laws n (homogeneous zero s)) col → ⊥) (λ col. IsFree zero K col → ⊥)
        (λ i. (
          λ a f. a (IsFree-same zero K (InKernel laws n (homogeneous zero s)) back i f),
          λ a f. a (IsFree-same zero (InKernel laws n (homogeneous zero s)) K same i f),
        )) n (filled_below (homogeneous zero s) n) h in
        let e : filled_below (homogeneous zero s) n ≡ length (rows_of s) =
        ap (filled_below (homogeneous zero s)) (sym form.reduced.count) ∙ filled_all (homogeneous zero s) ∙ count_rows zero s in
        subst (λ (k : ℕ). IsRank zero K n k) e moved

    -- ---- the least kernel vector
    -- A one at the last free column below the bound, zeros at the other free columns, and at each pivot the negative of
    -- its row's coefficient at that free column.
    pub record Leads (j : ℕ) (u : List A) : Type 0 where
      pub count : length u ≡ n
      pub one_there : get_or u j zero ≡ one
      pub zero_elsewhere : (i : ℕ) → i < n → i ≢ j → slot s i ≡ None → get_or u i zero ≡ zero
      pub at_pivots : (i : ℕ) (cs : List A) → slot s i ≡ Some cs → get_or u i zero ≡ sub zero (get_or cs j zero)

    pub least_found : (number : A → ℕ) {element : ℕ → A} → IsNumbered IsElement zero one number element → (below k j : ℕ) (u : List A) → k ≤ below → k ≤ n → (below ≤ k) ⊎ (n ≤ k) → IsLastFree s k j → Leads j u → IsLeastBelow zero number K below u
    least_found number numbered below k j u kb kn whole last leads =
        let w = last.within in
        let free = slot_none zero s j last.free in
        let lj : j < n = omega arith in
        let is_u : u ≡ leading laws n (homogeneous zero s) form.reduced form.last (right_sides zero s) j =
        leading_is laws n (homogeneous zero s) form.reduced form.last (right_sides zero s) j u lj free leads.count leads.one_there
        (λ i l ne e. leads.zero_elsewhere i l ne (slot_none_back zero s i e))
        (λ i r e.
        let (cs, f, is_r) = slot_row zero s i r e in
        leads.at_pivots i cs f ∙ ap (λ (x : Row A A). sub zero (get_or x.coeffs j zero)) (sym is_r)) in
        subst (λ (v : List A). IsLeastBelow zero number K below v) (sym is_u)
        (IsLeastBelow-same zero (InKernel laws n (homogeneous zero s)) K same number below (leading laws n (homogeneous zero s) form.reduced form.last (right_sides zero s) j)
        (leading_is_least laws n (homogeneous zero s) form.reduced form.last (right_sides zero s) number numbered below j lj (omega arith) free
        (λ i a b c e. elim whole [
          | inl p ↦ last.after i a (omega arith) (slot_none_back zero s i e)
          | inr p ↦ last.after i a (omega arith) (slot_none_back zero s i e)
        ])))

    -- there is none exactly where no free column lies below the bound
    pub least_none : (number : A → ℕ) {element : ℕ → A} → IsNumbered IsElement zero one number element → (below : ℕ) → ((i : ℕ) → i < below → i < n → slot s i ≢ None) → (v : List A) → K v → IsNonzeroBelow zero below v → ⊥
    least_none number numbered below pivots v hv nz =
        none_below laws n (homogeneous zero s) form.reduced form.last (right_sides zero s) below
        (λ i a b e. pivots i a b (slot_none_back zero s i e)) v ((same v).1 hv) nz
