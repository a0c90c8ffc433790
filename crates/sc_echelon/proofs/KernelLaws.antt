-- The kernel of a reduced table whose pivots are the last nonzero entries of their rows, and whose right sides are zero.
use Rattle.std.proofs.Common.{◌≡◌, ◌≢◌, ◌↔◌, ◌⊎◌, ℕ, zero as naught, suc, ◌+◌, ◌<◌, ◌≤◌, List, [], ◌∷◌, length, get_or, replicate, Option, None, Some, inl, inr, refl, sym, ◌∙◌, ap, ap₂, subst, arith}
use Rattle.std.proofs.lemmas.List.{length-replicate, get_or-replicate, get_or_past, ext_get_or}
use Rattle.std.proofs.lemmas.Bool.{cases_eq, cases_lt}
use Rattle.sc_field.specs.Field.{IsField, IsNumbered}
use Rattle.sc_field.specs.FieldLemmas.{zero_add, mul-negative}
use Rattle.sc_matrix.specs.Vector.{dot, IsVector}
use Rattle.sc_echelon.specs.Equation.{Row}
use Rattle.sc_echelon.specs.Table.{slot, rows_of, IsReduced, HasLastPivots, SolvesTable}
use Rattle.sc_echelon.specs.Kernel.{IsFree, CountsTo, IsRank, IsNonzeroBelow, IsBefore, IsLeastBelow}
use Rattle.sc_matrix.proofs.Modules.{field_module}
use Rattle.sc_echelon.proofs.DotLaws.{dot_none, dot_one, same_at}
use Rattle.sc_echelon.proofs.Settle.{cases_option, none_is_not_some, slot_within, settle, settle_values, settle_free, settle_pivot, settle_solves, none_values, alone, alone_values, alone_at, alone_off}

-- ---- how many places of a table below k have a row
abbrev pub one_more : {X : Type 0} → Option X → ℕ → ℕ
one_more None k = k
one_more (Some r) k = suc k

abbrev pub filled_below : {X : Type 0} → List (Option X) → ℕ → ℕ
filled_below t naught = 0
filled_below t (suc k) = one_more (slot t k) (filled_below t k)

filled_after : {X : Type 0} (o : Option X) (t : List (Option X)) (k : ℕ) → filled_below (o ∷ t) (suc k) ≡ one_more o 0 + filled_below t k
filled_after None t naught = refl
filled_after (Some r) t naught = refl
filled_after o t (suc k) = ap (one_more (slot t k)) (filled_after o t k) ∙ moved (slot t k) (one_more o 0) (filled_below t k) where
  moved : {X : Type 0} (q : Option X) (a b : ℕ) → one_more q (a + b) ≡ a + one_more q b
  moved None a b = refl
  moved (Some r) a b = omega arith

pub filled_all : {X : Type 0} (t : List (Option X)) → filled_below t (length t) ≡ length (rows_of t)
filled_all [] = refl
filled_all (None ∷ t) = filled_after None t (length t) ∙ ap (λ (k : ℕ). 0 + k) (filled_all t) ∙ omega arith
filled_all (Some r ∷ t) = filled_after (Some r) t (length t) ∙ ap (λ (k : ℕ). 1 + k) (filled_all t) ∙ omega arith

-- ---- the last place below k that has no row
abbrev pub or_here : {X : Type 0} → Option X → ℕ → Option ℕ → Option ℕ
or_here None k o = Some k
or_here (Some r) k o = o

abbrev pub last_free : {X : Type 0} → List (Option X) → ℕ → Option ℕ
last_free t naught = None
last_free t (suc k) = or_here (slot t k) k (last_free t k)

pub record IsLastFree {X : Type 0} (t : List (Option X)) (k j : ℕ) : Type 0 where
  pub within : j < k
  pub free : slot t j ≡ None
  pub after : (i : ℕ) → j < i → i < k → slot t i ≢ None

pub last_free_found : {X : Type 0} (t : List (Option X)) (k j : ℕ) → last_free t k ≡ Some j → IsLastFree t k j
last_free_found t naught j e = none_is_not_some refl e
last_free_found t (suc k) j e = elim (cases_option (slot t k)) [
  | inl f ↦
      (let s : ◌≡◌ {A = Option ℕ} (Some k) (Some j) = sym (ap (λ o. or_here o k (last_free t k)) f) ∙ e in
      let is_k : k ≡ j = cc in
      record {
        within = omega arith;
        free = ap (slot t) (sym is_k) ∙ f;
        after = λ i a b. absurd (omega arith);
      })
  | inr (r, f) ↦
      (let h = last_free_found t k j (sym (ap (λ o. or_here o k (last_free t k)) f) ∙ e) in
      record {
        within = (let w = h.within in omega arith);
        free = h.free;
        after = λ i a b. elim (cases_eq i k) [
          | inl same ↦ λ g. none_is_not_some (ap (slot t) (sym same) ∙ g) f
          | inr ne ↦ h.after i a (omega arith)
        ];
      })
]

pub last_free_none : {X : Type 0} (t : List (Option X)) (k : ℕ) → last_free t k ≡ None → (i : ℕ) → i < k → slot t i ≢ None
last_free_none t naught e i l = absurd (omega arith)
last_free_none t (suc k) e i l = elim (cases_option (slot t k)) [
  | inl f ↦ none_is_not_some {o = Some k} {x = k} (sym (ap (λ o. or_here o k (last_free t k)) f) ∙ e) refl
  | inr (r, f) ↦
      elim (cases_eq i k) [
        | inl same ↦ λ g. none_is_not_some (ap (slot t) (sym same) ∙ g) f
        | inr ne ↦ last_free_none t k (sym (ap (λ o. or_here o k (last_free t k)) f) ∙ e) i (omega arith)
      ]
]

module _ {A : Type 0} {IsElement : A → Type 0} {zero one : A} {add sub mul : A → A → A} {inv : A → A} (laws : IsField IsElement zero one add sub mul inv) where
  -- the kernel of the table
  pub record InKernel (n : ℕ) (t : List (Option (Row A A))) (v : List A) : Type 0 where
    pub values : IsVector IsElement n v
    pub solves : SolvesTable zero add mul t v

  module _ (n : ℕ) (t : List (Option (Row A A))) (form : IsReduced IsElement zero one IsElement n t) (last : HasLastPivots zero t) (homogeneous : (i : ℕ) (r : Row A A) → slot t i ≡ Some r → r.right ≡ zero) where
    inside : (i : ℕ) (r : Row A A) → slot t i ≡ Some r → i < n
    inside i r e = let w = slot_within t i r e in let c = form.count in omega arith

    -- at a pivot a solution is determined by its entries before
    pub pivot_determined : (u v : List A) → InKernel n t u → InKernel n t v → (i : ℕ) (r : Row A A) → slot t i ≡ Some r → ((j : ℕ) → j < i → get_or u j zero ≡ get_or v j zero) → get_or u i zero ≡ get_or v i zero
    pivot_determined u v hu hv i r full same =
        let hr = form.rows i r full in
        let w = hr.width in
        let cu = hu.values.width in
        let cv = hv.values.width in
        let l = inside i r full in
        same_at laws (field_module laws) r.coeffs u v i hr.elements hu.values.entries hv.values.entries (omega arith) (omega arith) (omega arith)
        (λ j a b ne. elim (cases_lt j i) [
          | inl before ↦ inr (same j before)
          | inr after ↦ inl (last i j r full (omega arith))
        ])
        (λ z. laws.distinct (sym z ∙ form.one_at i r full))
        (hu.solves i r full ∙ sym (hv.solves i r full))

    -- solutions that agree at the free columns below k agree below k
    pub free_determine : (u v : List A) → InKernel n t u → InKernel n t v → (k : ℕ) → k ≤ n → ((i : ℕ) → i < k → slot t i ≡ None → get_or u i zero ≡ get_or v i zero) → (i : ℕ) → i < k → get_or u i zero ≡ get_or v i zero
    free_determine u v hu hv naught l free i h = absurd (omega arith)
    free_determine u v hu hv (suc k) l free i h =
        let below : (j : ℕ) → j < k → get_or u j zero ≡ get_or v j zero = free_determine u v hu hv k (omega arith) (λ j m e. free j (omega arith) e) in
        elim (cases_lt i k) [
          | inl lower ↦ below i lower
          | inr top ↦
              (let is_k : k ≡ i = omega arith in
              subst (λ (j : ℕ). get_or u j zero ≡ get_or v j zero) is_k
              (elim (cases_option (slot t k)) [
                | inl e ↦ free k (omega arith) e
                | inr (r, full) ↦ pivot_determined u v hu hv k r full below
              ]))
        ]

    -- ---- the zero vector
    pub zero_in_kernel : InKernel n t (replicate n zero)
    zero_in_kernel = record {
      values = none_values laws (field_module laws) n;
      solves = λ i r e.
          let hr = form.rows i r e in
          dot_none laws (field_module laws) r.coeffs (replicate n zero) hr.elements (none_values laws (field_module laws) n).entries
          (λ j a b. inr (get_or-replicate n j zero zero (let l = length-replicate n zero in omega arith)))
          ∙ sym (homogeneous i r e);
    }

    zero_at : (i : ℕ) → i < n → get_or (replicate n zero) i zero ≡ zero
    zero_at i l = get_or-replicate n i zero zero l

    -- a kernel vector that is zero at the free columns below k is zero below k
    pub zero_below : (v : List A) → InKernel n t v → (k : ℕ) → k ≤ n → ((i : ℕ) → i < k → slot t i ≡ None → get_or v i zero ≡ zero) → (i : ℕ) → i < k → get_or v i zero ≡ zero
    zero_below v hv k l free i h =
        free_determine v (replicate n zero) hv zero_in_kernel k l (λ j m e. free j m e ∙ sym (zero_at j (omega arith))) i h ∙ zero_at i (omega arith)

    -- ---- the vector that leads at a free column
    -- the kernel vector with a one at the free column j, and zeros at the other free columns
    abbrev pub leading : ℕ → List A
    leading j = settle laws (field_module laws) t (alone laws (field_module laws) n j one)

    seed_values : (j : ℕ) → IsVector IsElement n (alone laws (field_module laws) n j one)
    seed_values j = alone_values laws (field_module laws) n j one laws.one_element

    pub leading_in_kernel : (j : ℕ) → InKernel n t (leading j)
    leading_in_kernel j = record {
      values = settle_values laws (field_module laws) n t form (alone laws (field_module laws) n j one) (seed_values j);
      solves = settle_solves laws (field_module laws) n t form (alone laws (field_module laws) n j one) (seed_values j);
    }

    pub leading_one : (j : ℕ) → j < n → slot t j ≡ None → get_or (leading j) j zero ≡ one
    leading_one j l e = settle_free laws (field_module laws) n t form (alone laws (field_module laws) n j one) (seed_values j) j l e ∙ alone_at laws (field_module laws) n j one l

    pub leading_free : (j i : ℕ) → i < n → i ≢ j → slot t i ≡ None → get_or (leading j) i zero ≡ zero
    leading_free j i l ne e = settle_free laws (field_module laws) n t form (alone laws (field_module laws) n j one) (seed_values j) i l e ∙ alone_off laws (field_module laws) n j i one l ne

    pub leading_before : (j : ℕ) → j < n → (i : ℕ) → i < j → get_or (leading j) i zero ≡ zero
    leading_before j l = zero_below (leading j) (leading_in_kernel j) j (omega arith) (λ i m e. leading_free j i (omega arith) (omega arith) e)

    pub leading_pivot : (j i : ℕ) (r : Row A A) → j < n → slot t j ≡ None → slot t i ≡ Some r → get_or (leading j) i zero ≡ sub zero (get_or r.coeffs j zero)
    leading_pivot j i r lj free full =
        let hr = form.rows i r full in
        let w = hr.width in
        let f = alone laws (field_module laws) n j one in
        let hf = seed_values j in
        let c = hf.width in
        let li = inside i r full in
        let hx : IsElement (get_or r.coeffs j zero) = hr.elements j zero (omega arith) in
        let ne : i ≢ j = λ s. none_is_not_some free (ap (slot t) (sym s) ∙ full) in
        let m : A = sub zero one in
        let hm : IsElement (sub zero one) = laws.sub_element zero one laws.zero_element laws.one_element in
        let single : dot zero add mul r.coeffs f ≡ get_or r.coeffs j zero =
        dot_one laws (field_module laws) r.coeffs f j hr.elements hf.entries (omega arith) (omega arith) (λ k a b d. inr (alone_off laws (field_module laws) n j k one (omega arith) d))
        ∙ ap (mul (get_or r.coeffs j zero)) (alone_at laws (field_module laws) n j one lj) ∙ laws.mul_one (get_or r.coeffs j zero) hx in
        let negated : mul (sub zero one) (get_or r.coeffs j zero) ≡ sub zero (get_or r.coeffs j zero) =
        laws.mul_comm (sub zero one) (get_or r.coeffs j zero) hm hx ∙ mul-negative laws (get_or r.coeffs j zero) one hx laws.one_element
        ∙ ap (sub zero) (laws.mul_one (get_or r.coeffs j zero) hx) in
        let hn : IsElement (sub zero (get_or r.coeffs j zero)) = laws.sub_element zero (get_or r.coeffs j zero) laws.zero_element hx in
        settle_pivot laws (field_module laws) n t form f hf i r li full
        ∙ ap₂ add (alone_off laws (field_module laws) n j i one li ne) (ap₂ add (homogeneous i r full) (ap (mul (sub zero one)) single ∙ negated) ∙ zero_add laws (sub zero (get_or r.coeffs j zero)) hn)
        ∙ zero_add laws (sub zero (get_or r.coeffs j zero)) hn

    -- a vector with these entries is the one that leads
    pub leading_is : (j : ℕ) (u : List A) → j < n → slot t j ≡ None → length u ≡ n → get_or u j zero ≡ one → ((i : ℕ) → i < n → i ≢ j → slot t i ≡ None → get_or u i zero ≡ zero)
        → ((i : ℕ) (r : Row A A) → slot t i ≡ Some r → get_or u i zero ≡ sub zero (get_or r.coeffs j zero)) → u ≡ leading j
    leading_is j u lj free lu at_j at_free at_pivot =
        let c = (leading_in_kernel j).values.width in
        ext_get_or zero u (leading j) (lu ∙ sym c)
        (λ i l. elim (cases_option (slot t i)) [
          | inr (r, full) ↦ at_pivot i r full ∙ sym (leading_pivot j i r lj free full)
          | inl e ↦
              elim (cases_eq i j) [
                | inl s ↦ subst (λ (k : ℕ). get_or u k zero ≡ get_or (leading j) k zero) (sym s) (at_j ∙ sym (leading_one j lj free))
                | inr ne ↦ at_free i (omega arith) ne e ∙ sym (leading_free j i (omega arith) ne e)
              ]
        ])

    -- ---- free columns
    not_zero : one ≢ zero
    not_zero e = laws.distinct (sym e)

    -- a column that is no pivot is free
    pub free_column : (col : ℕ) → col < n → slot t col ≡ None → IsFree zero (InKernel n t) col
    free_column col l e = record {
      vector = leading col;
      belongs = leading_in_kernel col;
      nonzero = λ z. not_zero (sym (leading_one col l e) ∙ z);
      before = leading_before col l;
    }

    -- and a pivot isn't
    pub pivot_column : (col : ℕ) (r : Row A A) → slot t col ≡ Some r → IsFree zero (InKernel n t) col → ⊥
    pivot_column col r full f =
        let l = inside col r full in
        f.nonzero
        (pivot_determined f.vector (replicate n zero) f.belongs zero_in_kernel col r full (λ j m. f.before j m ∙ sym (zero_at j (omega arith)))
        ∙ zero_at col l)

    pub free_exact : (col : ℕ) → col < n → IsFree zero (InKernel n t) col ↔ (slot t col ≡ None)
    free_exact col l = (
      λ f. elim (cases_option (slot t col)) [
        | inl e ↦ e
        | inr (r, full) ↦ absurd (pivot_column col r full f)
      ],
      λ e. free_column col l e,
    )

    -- ---- the rank
    counts : (k : ℕ) → k ≤ n → CountsTo (λ col. IsFree zero (InKernel n t) col → ⊥) k (filled_below t k)
    counts naught l = refl
    counts (suc k) l = elim (cases_option (slot t k)) [
      | inl e ↦
          subst (λ (m : ℕ). CountsTo (λ col. IsFree zero (InKernel n t) col → ⊥) (suc k) m) (ap (λ (o : Option (Row A A)). one_more o (filled_below t k)) (sym e))
          (inr ((λ pivot. pivot (free_column k (omega arith) e)), counts k (omega arith)))
      | inr (r, full) ↦
          subst (λ (m : ℕ). CountsTo (λ col. IsFree zero (InKernel n t) col → ⊥) (suc k) m) (ap (λ (o : Option (Row A A)). one_more o (filled_below t k)) (sym full))
          (inl (pivot_column k r full, (filled_below t k, refl, counts k (omega arith))))
    ]

    pub rank_exact : IsRank zero (InKernel n t) n (filled_below t n)
    rank_exact = counts n (omega arith)

    -- ---- the least kernel vector
    module _ (number : A → ℕ) {element : ℕ → A} (numbered : IsNumbered IsElement zero one number element) where
      is_zero : (x : A) → IsElement x → (x ≡ zero) ⊎ (0 < number x)
      is_zero x h = elim (cases_eq (number x) 0) [
        | inl e ↦ inl (numbered.injective x zero h laws.zero_element (e ∙ sym numbered.of_zero))
        | inr ne ↦ inr (pos (number x) ne)
      ] where
        pos : (m : ℕ) → (m ≡ 0 → ⊥) → 0 < m
        pos naught h' = absurd (h' refl)
        pos (suc m) h' = omega arith

      module _ (below j : ℕ) (lj : j < n) (jb : j < below) (free : slot t j ≡ None) (pivots : (i : ℕ) → j < i → i < below → i < n → slot t i ≢ None) where
        u : List A
        u = leading j

        -- v isn't zero at j, if it is zero before it
        nonzero_there : (v : List A) → InKernel n t v → IsNonzeroBelow zero below v → ((i : ℕ) → i < j → get_or v i zero ≡ zero) → get_or v j zero ≢ zero
        nonzero_there v hv nz before e =
            let c = hv.values.width in
            elim (cases_lt nz.col n) [
              | inr past ↦ nz.nonzero (get_or_past v nz.col zero (omega arith))
              | inl l ↦
                  (let w = nz.within in
                  nz.nonzero (zero_below v hv (suc nz.col) (omega arith)
                  (λ i m none_at. elim (cases_lt i j) [
                    | inl b ↦ before i b
                    | inr a ↦
                        elim (cases_eq i j) [
                          | inl s ↦ subst (λ (k : ℕ). get_or v k zero ≡ zero) (sym s) e
                          | inr ne ↦ absurd (pivots i (omega arith) (omega arith) (omega arith) none_at)
                        ]
                  ]) nz.col (omega arith)))
            ]

        -- up to each column either the two agree, or the leading vector came first
        compare : (v : List A) → InKernel n t v → IsNonzeroBelow zero below v → (k : ℕ) → k ≤ n → ((i : ℕ) → i < k → get_or (leading j) i zero ≡ get_or v i zero) ⊎ IsBefore zero number (leading j) v
        compare v hv nz naught l = inl (λ i m. absurd (omega arith))
        compare v hv nz (suc k) l = elim (compare v hv nz k (omega arith)) [
          | inr b ↦ inr b
          | inl same ↦
              (let cu = (leading_in_kernel j).values.width in
              let cv = hv.values.width in
              let element : IsElement (get_or v k zero) = hv.values.entries k zero (omega arith) in
              let more : get_or (leading j) k zero ≡ get_or v k zero → (i : ℕ) → i < suc k → get_or (leading j) i zero ≡ get_or v i zero =
              λ e i m. elim (cases_lt i k) [
                | inl lower ↦ same i lower
                | inr top ↦ (let is_k : k ≡ i = omega arith in subst (λ (q : ℕ). get_or (leading j) q zero ≡ get_or v q zero) is_k e)
              ] in
              let first : number (get_or (leading j) k zero) < number (get_or v k zero) → IsBefore zero number (leading j) v =
              λ less. record { col = k; within = omega arith; same = same; less = less } in
              elim (cases_option (slot t k)) [
                | inr (r, full) ↦ inl (more (pivot_determined (leading j) v (leading_in_kernel j) hv k r full same))
                | inl none_at ↦
                    elim (cases_eq k j) [
                      | inr ne ↦
                          (let uz : get_or (leading j) k zero ≡ zero = leading_free j k (omega arith) ne none_at in
                          elim (is_zero (get_or v k zero) element) [
                            | inl z ↦ inl (more (uz ∙ sym z))
                            | inr p ↦ inr (first (let nu : number (get_or (leading j) k zero) ≡ 0 = ap number uz ∙ numbered.of_zero in omega arith))
                          ])
                      | inl s ↦
                          (let uo : get_or (leading j) k zero ≡ one = subst (λ (q : ℕ). get_or (leading j) q zero ≡ one) (sym s) (leading_one j lj free) in
                          let nu : number (get_or (leading j) k zero) ≡ 1 = ap number uo ∙ numbered.of_one in
                          elim (is_zero (get_or v k zero) element) [
                            | inl z ↦
                                absurd (nonzero_there v hv nz (λ i m. sym (same i (omega arith)) ∙ leading_before j lj i m)
                                (subst (λ (q : ℕ). get_or v q zero ≡ zero) s z))
                            | inr p ↦
                                elim (cases_eq (number (get_or v k zero)) 1) [
                                  | inl is_one ↦ inl (more (uo ∙ sym (numbered.injective (get_or v k zero) one element laws.one_element (is_one ∙ sym numbered.of_one))))
                                  | inr other ↦ inr (first (omega arith))
                                ]
                          ])
                    ]
              ])
        ]

        pub leading_is_least : IsLeastBelow zero number (InKernel n t) below (leading j)
        leading_is_least = record {
          belongs = leading_in_kernel j;
          nonzero = record { col = j; within = jb; nonzero = λ z. not_zero (sym (leading_one j lj free) ∙ z) };
          least = λ v hv nz. elim (compare v hv nz n (omega arith)) [
            | inr b ↦ inr b
            | inl same ↦
                (let cu = (leading_in_kernel j).values.width in
                let cv = hv.values.width in
                inl (ext_get_or zero (leading j) v (omega arith) (λ i l. same i (omega arith))))
          ];
        }

    -- where no free column lies below the bound, each kernel vector is zero there
    pub none_below : (below : ℕ) → ((i : ℕ) → i < below → i < n → slot t i ≢ None) → (v : List A) → InKernel n t v → IsNonzeroBelow zero below v → ⊥
    none_below below pivots v hv nz =
        let c = hv.values.width in
        let w = nz.within in
        elim (cases_lt nz.col n) [
          | inr past ↦ nz.nonzero (get_or_past v nz.col zero (omega arith))
          | inl l ↦ nz.nonzero (zero_below v hv (suc nz.col) (omega arith) (λ i m none_at. absurd (pivots i (omega arith) (omega arith) none_at)) nz.col (omega arith))
        ]
