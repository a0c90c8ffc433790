-- A system's coefficients are kept in reduced form where rows and flags are stored side by side.
use Rattle.std.proofs.Common.{◌≡◌, ◌≢◌, ◌↔◌, ℕ, zero as naught, suc, ◌+◌, ◌<◌, ◌≤◌, ◌⊎◌, min, List, [], ◌∷◌, ◌++◌, length, get_or, map, set, replicate, All, Bool, true, false, Option, None, Some, inl, inr, refl, sym, ◌∙◌, ap, subst, arith}
use Rattle.std.proofs.lemmas.List.{length-map, length-replicate, get_or-map, get_or_past, map-set}
use Rattle.std.proofs.lemmas.List.Elements.{All-nil, All-cons, All-head, All-tail}
use Rattle.std.proofs.lemmas.Bool.{cases_eq, cases_lt, cases_Bool}
use Rattle.sc_field.specs.Field.{IsField, IsNumbered}
use Rattle.sc_matrix.proofs.MatrixLaws.{map-replicate}
use Rattle.sc_matrix.specs.Vector.{IsVector, dot, scale_vector}
use Rattle.sc_echelon.specs.Equation.{Row, Meets, Solves}
use Rattle.sc_echelon.specs.Kernel.{IsKernelVector, IsNonzeroBelow, IsLeastBelow}
use Rattle.sc_echelon.specs.Table.{slot, rows_of}
use Rattle.sc_echelon.specs.Steps.{reduce, eliminate, clear_at, insert, led}
use Rattle.sc_echelon.specs.Echelon.{zero_row, homogeneous, IsEchelon, HasKernelOf, IsEchelonStored, IsLastOff, IsLeadingEntry, coeffs_at, coeffs_of, counted, on_below}
use Rattle.sc_echelon.proofs.KernelLaws.{one_more, filled_below, filled_all}
use Rattle.sc_echelon.specs.Storage.{place, table_of, HasOnes, HasRows, IsZeroOutside}
use Rattle.sc_echelon.specs.Knowledge.{xor_bytes, act_bytes}
use Rattle.sc_echelon.proofs.StorageLaws.{table_of-off, slot-table_of, length-table_of}
use Rattle.sc_echelon.proofs.Settle.{cases_option, none_is_not_some, slot_within}
use Rattle.sc_echelon.proofs.Insert.{solves_rows}
use Rattle.sc_echelon.proofs.ReducedLaws.{least_found, least_none}
use Rattle.sc_echelon.proofs.ReducedSteps.{slot_some, IsLeftOf, start_left, free_left, pivot_left, kernel_known, clear_coeffs, insert_coeffs, echelon_start, kernel_start, echelon_new, kernel_new}

module _ {A V : Type 0} where
  pub slot-coeffs_of : (t : List (Option (Row A V))) (i : ℕ) → slot (coeffs_of t) i ≡ coeffs_at (slot t i)
  slot-coeffs_of t i = elim (cases_lt i (length t)) [
    | inl l ↦ get_or-map coeffs_at t i None None l
    | inr past ↦
        (get_or_past (coeffs_of t) i None (let k = length-map t coeffs_at in omega arith)
        ∙ ap coeffs_at (sym (get_or_past t i None past)))
  ]

module _ {A : Type 0} {IsElement : A → Type 0} {zero one : A} {add sub mul : A → A → A} {inv : A → A} (laws : IsField IsElement zero one add sub mul inv) {V : Type 0} (plus : V → V → V) (times : A → V → V) (n : ℕ) (t : List (Option (Row A V))) (form : IsEchelon IsElement zero one n (coeffs_of t)) (q : Row A V) where
  -- what is left of a row's coefficients
  pub left_coeffs : length q.coeffs ≡ n → All IsElement q.coeffs → (k : ℕ) → IsLeftOf laws n (coeffs_of t) q.coeffs k (reduce zero add sub mul plus times t k q).coeffs
  left_coeffs l h naught = start_left laws n (coeffs_of t) q.coeffs l h
  left_coeffs l h (suc k) =
      let m = reduce zero add sub mul plus times t k q in
      let before : IsLeftOf laws n (coeffs_of t) q.coeffs k m.coeffs = left_coeffs l h k in
      elim (cases_option (slot t k)) [
        | inl free ↦
            subst (λ (o : Option (Row A V)). IsLeftOf laws n (coeffs_of t) q.coeffs (suc k) (eliminate zero add sub mul plus times o k m).coeffs) (sym free)
            (free_left laws n (coeffs_of t) q.coeffs k m.coeffs (slot-coeffs_of t k ∙ ap coeffs_at free) before)
        | inr (r, full) ↦
            subst (λ (o : Option (Row A V)). IsLeftOf laws n (coeffs_of t) q.coeffs (suc k) (eliminate zero add sub mul plus times o k m).coeffs) (sym full)
            (pivot_left laws n (coeffs_of t) q.coeffs k m.coeffs r.coeffs form (slot-coeffs_of t k ∙ ap coeffs_at full) before)
      ]

  cleared_coeffs : (p : ℕ) (d : Row A V) (s : List (Option (Row A V))) → map coeffs_at (map (clear_at zero add sub mul plus times p d) s) ≡ map (clear_coeffs laws p d.coeffs) (map coeffs_at s)
  cleared_coeffs p d [] = refl
  cleared_coeffs p d (None ∷ s) = ap (λ (xs : List (Option (List A))). None ∷ xs) (cleared_coeffs p d s)
  cleared_coeffs p d (Some r ∷ s) = ap (λ (xs : List (Option (List A))). clear_coeffs laws p d.coeffs (Some r.coeffs) ∷ xs) (cleared_coeffs p d s)

  pub insert_stored : (p : ℕ) (m : Row A V) → coeffs_of (insert zero add sub mul plus times p (led zero mul inv times p m) t) ≡ insert_coeffs laws p (scale_vector mul (inv (get_or m.coeffs p zero)) m.coeffs) (coeffs_of t)
  insert_stored p m =
      let d = led zero mul inv times p m in
      map-set coeffs_at (map (clear_at zero add sub mul plus times p d) t) p (Some d)
      ∙ ap (λ (xs : List (Option (List A))). set xs p (Some d.coeffs)) (cleared_coeffs p d t)

-- ---- the kernel of the kept rows is that of the table
module _ {A : Type 0} (zero : A) (add mul : A → A → A) where
  rows_solve : (v : List A) (s : List (Option (List A))) → Solves zero add mul (rows_of (homogeneous zero s)) v ↔ All (λ r. dot zero add mul r v ≡ zero) (rows_of s)
  rows_solve v [] = (λ a. All-nil (λ (r : List A). dot zero add mul r v ≡ zero), λ a. All-nil (λ (r : Row A A). Meets zero add mul r v))
  rows_solve v (None ∷ s) = rows_solve v s
  rows_solve v (Some cs ∷ s) =
      let P : List A → Type 0 = λ (r : List A). dot zero add mul r v ≡ zero in
      let Q : Row A A → Type 0 = λ (r : Row A A). Meets zero add mul r v in (
        λ a. All-cons P cs (rows_of s) (All-head Q (zero_row zero cs) (rows_of (homogeneous zero s)) a) ((rows_solve v s).0 (All-tail Q (zero_row zero cs) (rows_of (homogeneous zero s)) a)),
        λ a. All-cons Q (zero_row zero cs) (rows_of (homogeneous zero s)) (All-head P cs (rows_of s) a) ((rows_solve v s).1 (All-tail P cs (rows_of s) a)),
      )

  pub kernel_kept : (IsElement : A → Type 0) (n : ℕ) (s : List (Option (List A))) → HasKernelOf IsElement zero add mul n s (rows_of s)
  kernel_kept IsElement n s v hv =
      let a = solves_rows zero add mul v (homogeneous zero s) in
      let b = rows_solve v s in
      (λ x. b.0 (a.1 x), λ x. a.0 (b.1 x))

  -- so two systems that the table has the kernel of have one kernel
  pub same_kernel : (IsElement : A → Type 0) (n : ℕ) (s : List (Option (List A))) (rows : List (List A)) → HasKernelOf IsElement zero add mul n s rows
      → (v : List A) → IsKernelVector IsElement zero add mul n (rows_of s) v ↔ IsKernelVector IsElement zero add mul n rows v
  same_kernel IsElement n s rows kernel v = (
    λ k.
        let hv : IsVector IsElement n v = record { width = k.width; entries = k.elements } in
        record { width = k.width; elements = k.elements; zeros = (kernel v hv).0 ((kernel_kept IsElement n s v hv).1 k.zeros) },
    λ k.
        let hv : IsVector IsElement n v = record { width = k.width; entries = k.elements } in
        record { width = k.width; elements = k.elements; zeros = (kernel_kept IsElement n s v hv).0 ((kernel v hv).1 k.zeros) },
  )

-- ---- each row in use is an equation of no bytes
place_is : {X : Type 0} (b : Bool) (x y : X) → place b x ≡ Some y → x ≡ y
place_is true x y e = cc
place_is false x y e = none_is_not_some refl e

pub bare_rows : {A : Type 0} {IsElement : A → Type 0} {zero one : A} (used : List Bool) (rows : List (Row A (List ℕ))) → IsEchelonStored IsElement zero one used rows → HasRows IsElement (length used) 0 used rows
bare_rows {zero = zero} used rows stored i r e =
    let t = table_of used rows in
    let lt = length-table_of used rows stored.count in
    let w = slot_within (table_of used rows) i r e in
    let count = stored.count in
    let row = stored.form.reduced.rows i (zero_row zero r.coeffs) (slot_some zero (coeffs_of t) i r.coeffs (slot-coeffs_of t i ∙ ap coeffs_at e)) in
    let is : get_or rows i r ≡ r = place_is (get_or used i false) (get_or rows i r) r (sym (slot-table_of used rows i r count (omega arith)) ∙ e) in
    let bare : length r.right ≡ 0 = ap (λ (x : Row _ (List ℕ)). length x.right) (sym is) ∙ stored.rights i r (omega arith) in
    record { width = row.width; elements = row.elements; value = record { width = bare; entries = λ k d l. absurd (omega arith) } }

pub bare_ones : {A : Type 0} {IsElement : A → Type 0} {zero one : A} (used : List Bool) (rows : List (Row A (List ℕ))) → IsEchelonStored IsElement zero one used rows → HasOnes zero one (table_of used rows)
bare_ones {zero = zero} used rows stored i r e =
    let t = table_of used rows in
    stored.form.reduced.one_at i (zero_row zero r.coeffs) (slot_some zero (coeffs_of t) i r.coeffs (slot-coeffs_of t i ∙ ap coeffs_at e))

-- ---- a row is taken in
module _ {A : Type 0} {IsElement : A → Type 0} {zero one : A} {add sub mul : A → A → A} {inv : A → A} (laws : IsField IsElement zero one add sub mul inv) (act : A → ℕ → ℕ)
    (used : List Bool) (rows : List (Row A (List ℕ))) (stored : IsEchelonStored IsElement zero one used rows) (q m : Row A (List ℕ)) (l : length q.coeffs ≡ length used) (h : All IsElement q.coeffs)
    (is : m ≡ reduce zero add sub mul xor_bytes (act_bytes act) (table_of used rows) (length used) q) where
  n : ℕ
  n = length used

  left : IsLeftOf laws (length used) (coeffs_of (table_of used rows)) q.coeffs (length used) m.coeffs
  left =
      subst (λ (r : Row A (List ℕ)). IsLeftOf laws (length used) (coeffs_of (table_of used rows)) q.coeffs (length used) r.coeffs) (sym is)
      (left_coeffs laws xor_bytes (act_bytes act) (length used) (table_of used rows) stored.form q l h (length used))

  slot_kept : (i : ℕ) (r : Row A (List ℕ)) → slot (table_of used rows) i ≡ Some r → slot (homogeneous zero (coeffs_of (table_of used rows))) i ≡ Some (zero_row zero r.coeffs)
  slot_kept i r e = slot_some zero (coeffs_of (table_of used rows)) i r.coeffs (slot-coeffs_of (table_of used rows) i ∙ ap coeffs_at e)

  -- the other rows have a zero at the column of a new pivot, but for those of pivots behind it
  pub others_left : (p : ℕ) → get_or m.coeffs p zero ≢ zero → IsZeroOutside zero (p + 1) (length used) p (table_of used rows)
  others_left p ne =
      let lt = length-table_of used rows stored.count in
      record {
        before = λ i r e h. elim (cases_eq i p) [
          | inl s ↦
              (let w = slot_within (table_of used rows) i r e in
              absurd (ne (ap (λ (j : ℕ). get_or m.coeffs j zero) (sym s) ∙ left.clear i (zero_row zero r.coeffs) (slot_kept i r e) (omega arith))))
          | inr other ↦ stored.form.last i p (zero_row zero r.coeffs) (slot_kept i r e) (omega arith)
        ];
        after = λ i r e h. absurd (let w = slot_within (table_of used rows) i r e in omega arith);
      }

  module _ (zeros : (j : ℕ) → j < length m.coeffs → get_or m.coeffs j zero ≡ zero) where
    pub nothing_left : (rs : List (List A)) → HasKernelOf IsElement zero add mul (length used) (coeffs_of (table_of used rows)) rs → HasKernelOf IsElement zero add mul (length used) (coeffs_of (table_of used rows)) (rs ++ q.coeffs ∷ [])
    nothing_left rs kernel =
        let w = left.row.width in
        kernel_known laws (length used) (coeffs_of (table_of used rows)) rs q.coeffs m.coeffs stored.form kernel left (λ i lt. zeros i (omega arith))

  module _ (p : ℕ) (lp : p < length m.coeffs) (ne : get_or m.coeffs p zero ≢ zero) (after : (j : ℕ) → p < j → get_or m.coeffs j zero ≡ zero)
      (used' : List Bool) (rows' : List (Row A (List ℕ))) (flags : length used' ≡ length used) (table : table_of used' rows' ≡ insert zero add sub mul xor_bytes (act_bytes act) p (led zero mul inv (act_bytes act) p m) (table_of used rows)) where
    within : p < length used
    within = let w = left.row.width in omega arith

    made : coeffs_of (table_of used' rows') ≡ insert_coeffs laws p (scale_vector mul (inv (get_or m.coeffs p zero)) m.coeffs) (coeffs_of (table_of used rows))
    made = ap coeffs_of table ∙ insert_stored laws xor_bytes (act_bytes act) (length used) (table_of used rows) stored.form q p m

    pub form_left : IsEchelon IsElement zero one (length used') (coeffs_of (table_of used' rows'))
    form_left =
        subst (λ (k : ℕ). IsEchelon IsElement zero one k (coeffs_of (table_of used' rows'))) (sym flags)
        (subst (λ (s : List (Option (List A))). IsEchelon IsElement zero one (length used) s) (sym made)
        (echelon_new laws (length used) (coeffs_of (table_of used rows)) stored.form q.coeffs m.coeffs left p within ne after))

    pub kernel_left : (rs : List (List A)) → HasKernelOf IsElement zero add mul (length used) (coeffs_of (table_of used rows)) rs → HasKernelOf IsElement zero add mul (length used') (coeffs_of (table_of used' rows')) (rs ++ q.coeffs ∷ [])
    kernel_left rs kernel =
        subst (λ (k : ℕ). HasKernelOf IsElement zero add mul k (coeffs_of (table_of used' rows')) (rs ++ q.coeffs ∷ [])) (sym flags)
        (subst (λ (s : List (Option (List A))). HasKernelOf IsElement zero add mul (length used) s (rs ++ q.coeffs ∷ [])) (sym made)
        (kernel_new laws (length used) (coeffs_of (table_of used rows)) stored.form q.coeffs m.coeffs left p within ne rs kernel))

-- ---- the start
module _ {A : Type 0} {IsElement : A → Type 0} {zero one : A} {add sub mul : A → A → A} {inv : A → A} (laws : IsField IsElement zero one add sub mul inv)
    (n : ℕ) (used : List Bool) (rows : List (Row A (List ℕ))) (off : used ≡ replicate n false) (count : length rows ≡ n) where
  size : length used ≡ n
  size = ap length off ∙ length-replicate n false

  none_kept : coeffs_of (table_of used rows) ≡ replicate n None
  none_kept = ap (λ bs. coeffs_of (table_of bs rows)) off ∙ ap coeffs_of (table_of-off n rows count) ∙ map-replicate coeffs_at n None

  pub echelon_stored_start : All (λ r. length r.coeffs ≡ n) rows → All (λ r. length r.right ≡ 0) rows → IsEchelonStored IsElement zero one used rows
  echelon_stored_start widths rights = record {
    form =
        subst (λ (k : ℕ). IsEchelon IsElement zero one k (coeffs_of (table_of used rows))) (sym size)
        (subst (λ (s : List (Option (List A))). IsEchelon IsElement zero one n s) (sym none_kept) (echelon_start laws n));
    count = count ∙ sym size;
    widths = λ k d l. widths k d l ∙ sym size;
    rights = rights;
  }

  pub kernel_stored_start : HasKernelOf IsElement zero add mul (length used) (coeffs_of (table_of used rows)) []
  kernel_stored_start =
      subst (λ (k : ℕ). HasKernelOf IsElement zero add mul k (coeffs_of (table_of used rows)) []) (sym size)
      (subst (λ (s : List (Option (List A))). HasKernelOf IsElement zero add mul n s []) (sym none_kept) (kernel_start laws n))

-- ---- what a flag says
module _ {A : Type 0} (used : List Bool) (rows : List (Row A (List ℕ))) (count : length rows ≡ length used) (col : ℕ) (l : col < length used) where
  abbrev blank : Row A (List ℕ)
  blank = record { coeffs = []; right = [] }

  by_flag : (b : Bool) → get_or used col false ≡ b → slot (coeffs_of (table_of used rows)) col ≡ coeffs_at (place b (get_or rows col blank))
  by_flag b is = slot-coeffs_of (table_of used rows) col ∙ ap coeffs_at (slot-table_of used rows col blank count l) ∙ ap (λ f. coeffs_at (place f (get_or rows col blank))) is

  pub flag_off : get_or used col false ≡ false → slot (coeffs_of (table_of used rows)) col ≡ None
  flag_off off = by_flag false off

  pub flag_on : {Y : Type 0} → get_or used col false ≡ true → slot (coeffs_of (table_of used rows)) col ≡ None → Y
  flag_on on free = none_is_not_some free (by_flag true on)

  -- a pivot's row is the one that is stored
  pub flag_row : (cs : List A) → slot (coeffs_of (table_of used rows)) col ≡ Some cs → (get_or used col false ≡ true) × (cs ≡ (get_or rows col blank).coeffs)
  flag_row cs e = elim (cases_Bool (get_or used col false)) [
    | inl on ↦ (let s : ◌≡◌ {A = Option (List A)} (Some (get_or rows col blank).coeffs) (Some cs) = sym (by_flag true on) ∙ e in (on, cc))
    | inr off ↦ none_is_not_some (flag_off off) e
  ]

-- ---- the least kernel vector
module _ {A : Type 0} {IsElement : A → Type 0} {zero one : A} {add sub mul : A → A → A} {inv : A → A} (laws : IsField IsElement zero one add sub mul inv)
    {number : A → ℕ} {element : ℕ → A} (numbered : IsNumbered IsElement zero one number element)
    (used : List Bool) (rows : List (Row A (List ℕ))) (stored : IsEchelonStored IsElement zero one used rows) (below end : ℕ) (is_end : end ≡ min below (length used)) where
  bound : end ≤ below
  bound = omega arith

  inside : end ≤ length used
  inside = omega arith

  whole : (below ≤ end) ⊎ (length used ≤ end)
  whole = elim (cases_lt below (length used)) [ inl l ↦ inl (omega arith) | inr l ↦ inr (omega arith) ]

  abbrev table : List (Option (List A))
  table = coeffs_of (table_of used rows)

  abbrev kernel : HasKernelOf IsElement zero add mul (length used) table (rows_of table)
  kernel = kernel_kept zero add mul IsElement (length used) table

  -- where the flags below the bound are all on, no kernel vector is nonzero there
  pub least_none_stored : ((i : ℕ) → i < end → get_or used i false ≡ true)
      → (v : List A) → IsKernelVector IsElement zero add mul (length used) (rows_of table) v → IsNonzeroBelow zero below v → ⊥
  least_none_stored on v hv nz =
      least_none laws (length used) (rows_of table) table stored.form kernel number numbered below
      (λ i a b e. flag_on used rows stored.count i b (on i (elim whole [ inl p ↦ omega arith | inr p ↦ omega arith ])) e) v hv nz

  -- the vector with these entries is the least
  pub least_stored : (j : ℕ) → IsLastOff used end j → (u : List A) → length u ≡ length used
      → ((i : ℕ) → i < length used → IsLeadingEntry zero one sub used rows j i (get_or u i zero))
      → IsLeastBelow zero number (IsKernelVector IsElement zero add mul (length used) (rows_of table)) below u
  least_stored j last u count entries =
      let within = last.within in
      least_found laws (length used) (rows_of table) table stored.form kernel number numbered below end j u bound inside whole
      (record {
        within = within;
        free = flag_off used rows stored.count j (omega arith) last.off;
        after = λ i a b e. flag_on used rows stored.count i (omega arith) (last.after i a b) e;
      })
      (record {
        count = count;
        one_there = (entries j (omega arith)).there last.off refl;
        zero_elsewhere = λ i l ne e. elim (cases_Bool (get_or used i false)) [
          | inl on ↦ flag_on used rows stored.count i l on e
          | inr off ↦ (entries i l).elsewhere off ne
        ];
        at_pivots = λ i cs e.
            let l = slot_within table i cs e in
            let c = length-map (table_of used rows) coeffs_at ∙ length-table_of used rows stored.count in
            let (on, is) = flag_row used rows stored.count i (omega arith) cs e in
            (entries i (omega arith)).at_pivot on (record { coeffs = []; right = [] }) ∙ ap (λ (xs : List A). sub zero (get_or xs j zero)) (sym is);
      })

-- ---- how many flags are on
pub on_more : (bs : List Bool) (k n : ℕ) → get_or bs k false ≡ true → n ≡ on_below bs k → n + 1 ≡ on_below bs (k + 1)
on_more bs k n on e =
    next n ∙ ap suc e ∙ ap (λ (b : Bool). counted b (on_below bs k)) (sym on) ∙ ap (on_below bs) (sym (next k)) where
      next : (i : ℕ) → i + 1 ≡ suc i
      next i = omega arith

pub off_more : (bs : List Bool) (k n : ℕ) → get_or bs k false ≡ false → n ≡ on_below bs k → n ≡ on_below bs (k + 1)
off_more bs k n off e =
    e ∙ ap (λ (b : Bool). counted b (on_below bs k)) (sym off) ∙ ap (on_below bs) (sym (next k)) where
      next : (i : ℕ) → i + 1 ≡ suc i
      next i = omega arith

module _ {A : Type 0} (used : List Bool) (rows : List (Row A (List ℕ))) (count : length rows ≡ length used) where
  counts_alike : (b : Bool) (r : Row A (List ℕ)) (k : ℕ) → counted b k ≡ one_more (coeffs_at (place b r)) k
  counts_alike true r k = refl
  counts_alike false r k = refl

  filled_on : (k : ℕ) → k ≤ length used → on_below used k ≡ filled_below (coeffs_of (table_of used rows)) k
  filled_on naught h = refl
  filled_on (suc k) h =
      let d : Row A (List ℕ) = record { coeffs = []; right = [] } in
      ap (counted (get_or used k false)) (filled_on k (omega arith))
      ∙ counts_alike (get_or used k false) (get_or rows k d) (filled_below (coeffs_of (table_of used rows)) k)
      ∙ ap (λ (o : Option (List A)). one_more o (filled_below (coeffs_of (table_of used rows)) k))
      (sym (slot-coeffs_of (table_of used rows) k ∙ ap coeffs_at (slot-table_of used rows k d count (omega arith))))

  pub rows_on : on_below used (length used) ≡ length (rows_of (coeffs_of (table_of used rows)))
  rows_on =
      let e : length (coeffs_of (table_of used rows)) ≡ length used = length-map (table_of used rows) coeffs_at ∙ length-table_of used rows count in
      filled_on (length used) (omega arith) ∙ ap (filled_below (coeffs_of (table_of used rows))) (sym e) ∙ filled_all (coeffs_of (table_of used rows))
