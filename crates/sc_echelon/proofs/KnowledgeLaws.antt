-- What is known, kept as a reduced table of rows: each call of Knowledge is exact.
use Rattle.std.proofs.Common.{◌≡◌, ◌≢◌, ℕ, ◌+◌, ◌-◌, ◌<◌, ◌≤◌, Bool, false, List, [], ◌++◌, length, get_or, take, drop, replicate, Option, None, Some, inl, inr, sym, subst, ◌∙◌, arith}
use Rattle.std.proofs.lemmas.List.{get_or_default, get_or-replicate, get_or_past, length-replicate, length-append, length-take-le, take_at}
use Rattle.std.proofs.lemmas.List.Elements.{All-append, All-take}
use Rattle.std.proofs.lemmas.Bool.{cases_lt}
use Rattle.sc_field.specs.Field.{IsField, IsAction}
use Rattle.sc_matrix.specs.Module.{IsModule}
use Rattle.sc_matrix.specs.Vector.{IsVector}
use Rattle.sc_echelon.specs.Equation.{Row}
use Rattle.sc_echelon.specs.Table.{slot, SolvesTable}
use Rattle.sc_echelon.specs.Knowledge.{IsBytes, zero_bytes, xor_bytes, act_bytes, IsSolution, Follows, Contradicts, Adds, IsValueAt, IsOpenAt, Forgets}
use Rattle.sc_echelon.specs.Kept.{known_by, IsKept}
use Rattle.sc_echelon.specs.Storage.{HasReach, IsLoneUnless}
use Rattle.sc_echelon.specs.Steps.{IsLeft, insert, led, forget}
use Rattle.sc_echelon.proofs.Bytes.{bytes_module, one_bytes, one_bytes_value, one_bytes-nonzero}
use Rattle.sc_echelon.proofs.Settle.{none_is_not_some, slot_within, a_solution}
use Rattle.sc_echelon.proofs.AddRow.{known, clash, some_meets, some_fails}
use Rattle.sc_echelon.proofs.Insert.{reduced-new, first-new, reach-new, lone-new, solves-new, solves_rows}
use Rattle.sc_echelon.proofs.ForgetFront.{reduced-forget, first-forget, reach-forget, lone-forget, forget_keeps, forget_completes}
use Rattle.sc_echelon.proofs.ValueOf.{Differ, value_told, free_differs, mixed_differs}

module _ {A : Type 0} {IsElement : A → Type 0} {zero one : A} {add sub mul : A → A → A} {inv : A → A} {act : A → ℕ → ℕ} (laws : IsField IsElement zero one add sub mul inv) (action : IsAction IsElement zero one add mul act) where
  -- the module of byte strings
  abbrev pub bytes : (w : ℕ) → IsModule IsElement zero one add mul (IsBytes w) (zero_bytes w) xor_bytes (act_bytes act)
  bytes w = bytes_module action w

  module _ (n w : ℕ) (t : List (Option (Row A (List ℕ)))) where
    to_rows : (vs : List (List ℕ)) → IsVector (IsBytes w) n vs → SolvesTable (zero_bytes w) xor_bytes (act_bytes act) t vs → IsSolution act (known_by n w t) vs
    to_rows vs hv s = record { values = hv; solves = (solves_rows (zero_bytes w) xor_bytes (act_bytes act) vs t).1 s }

    to_table : (vs : List (List ℕ)) → IsSolution act (known_by n w t) vs → SolvesTable (zero_bytes w) xor_bytes (act_bytes act) t vs
    to_table vs s = (solves_rows (zero_bytes w) xor_bytes (act_bytes act) vs t).0 s.solves

  -- ---- the start
  no_slot : (n i : ℕ) (r : Row A (List ℕ)) {Y : Type 0} → slot (replicate n None) i ≡ Some r → Y
  no_slot n i r e =
      none_is_not_some
      (elim (cases_lt i n) [
        | inl l ↦ get_or-replicate {A = Option (Row A (List ℕ))} n i None None l
        | inr past ↦ get_or_past (replicate n None) i None (let l = length-replicate {A = Option (Row A (List ℕ))} n None in omega arith)
      ]) e

  -- nothing is known at the start
  pub kept_start : (n w : ℕ) → IsKept IsElement zero one n w (replicate n None)
  kept_start n w = record {
    reduced = record {
      count = length-replicate n None;
      rows = λ i r e. no_slot n i r e;
      one_at = λ i r e. no_slot n i r e;
      zero_at = λ i j r q e g ne. no_slot n i r e;
    };
    first = λ i j r e l. no_slot n i r e;
  }

  pub lone_start : (n : ℕ) (mixed : List Bool) → IsLoneUnless {A = A} {V = List ℕ} zero mixed (replicate n None)
  lone_start n mixed i j r e = no_slot n i r e

  pub reach_start : (n : ℕ) → HasReach {A = A} {V = List ℕ} zero 0 (replicate n None)
  reach_start n i j r e l = no_slot n i r e

  module _ (n w : ℕ) (t : List (Option (Row A (List ℕ)))) (kept : IsKept IsElement zero one n w t) where
    -- one solution always exists
    pub solution_exists : (vs : List (List ℕ)) × IsSolution act (known_by n w t) vs
    solution_exists = let (vs, hv, s) = a_solution laws (bytes w) n t kept.reduced in (vs, to_rows n w t vs hv s)

    -- ---- a row is added: m is what is left of it after the pivots were cleared
    module _ (q m : Row A (List ℕ)) (left : IsLeft IsElement zero (IsBytes w) (zero_bytes w) xor_bytes (act_bytes act) n t q n m) where
      -- nothing is left: every solution meets the row, and some does
      pub added_known : ((i : ℕ) → i < n → get_or m.coeffs i zero ≡ zero) → m.right ≡ zero_bytes w → Follows act (known_by n w t) q × (Contradicts act (known_by n w t) q → ⊥)
      added_known z e =
          let follows : Follows act (known_by n w t) q = λ vs s. known laws (bytes w) n t kept.reduced q m left z e vs s.values (to_table n w t vs s) in
          (follows, λ never. let (vs, s) = solution_exists in never vs s (follows vs s))

      -- only a right side is left: no solution meets the row, and some doesn't
      pub added_clash : ((i : ℕ) → i < n → get_or m.coeffs i zero ≡ zero) → m.right ≢ zero_bytes w → Contradicts act (known_by n w t) q × (Follows act (known_by n w t) q → ⊥)
      added_clash z ne =
          let contradicts : Contradicts act (known_by n w t) q = λ vs s a. clash laws (bytes w) n t kept.reduced q m left z ne vs s.values (to_table n w t vs s) a in
          (contradicts, λ always. let (vs, s) = solution_exists in contradicts vs s (always vs s))

      -- a coefficient is left: some solutions meet the row and some don't
      module _ (p : ℕ) (lp : p < n) (ne : get_or m.coeffs p zero ≢ zero) where
        pub added_new : 0 < w → (Follows act (known_by n w t) q → ⊥) × (Contradicts act (known_by n w t) q → ⊥)
        added_new hw = (
          λ always.
              let (vs, hv, s, fails) = some_fails laws (bytes w) n t kept.reduced q m left (one_bytes w) (one_bytes_value w) (one_bytes-nonzero w hw) p lp ne in
              fails (always vs (to_rows n w t vs hv s)),
          λ never.
              let (vs, hv, s, a) = some_meets laws (bytes w) n t kept.reduced q m left p lp ne in
              never vs (to_rows n w t vs hv s) a,
        )

        -- the table with the row, scaled to a one at p, and p cleared in the others
        abbrev pub with_row : List (Option (Row A (List ℕ)))
        with_row = insert zero add sub mul xor_bytes (act_bytes act) p (led zero mul inv (act_bytes act) p m) t

        pub kept_new : ((j : ℕ) → j < p → get_or m.coeffs j zero ≡ zero) → IsKept IsElement zero one n w with_row
        kept_new zeros = record {
          reduced = reduced-new laws (bytes w) n t kept.reduced q m left p lp ne;
          first = first-new laws (bytes w) n t kept.reduced q m left p lp ne kept.first zeros;
        }

        pub reach_new : (reach more low end : ℕ) → reach ≤ more → end ≤ low + more → low ≤ p → HasReach zero reach t → ((i : ℕ) (r : Row A (List ℕ)) → slot t i ≡ Some r → i < low → get_or r.coeffs p zero ≡ zero)
            → ((j : ℕ) → end ≤ j → get_or m.coeffs j zero ≡ zero) → HasReach zero more with_row
        reach_new = reach-new laws (bytes w) n t kept.reduced q m left p lp ne

        pub lone_new : (i j : ℕ) (r' : Row A (List ℕ)) → i ≢ p → slot with_row i ≡ Some r' → ((k : ℕ) (r : Row A (List ℕ)) → slot t i ≡ Some r → i < k → get_or r.coeffs k zero ≡ zero) → i < j → get_or r'.coeffs j zero ≡ zero
        lone_new = lone-new laws (bytes w) n t kept.reduced q m left p lp ne kept.first

        pub adds_new : Adds act (known_by n w t) q (known_by n w with_row)
        adds_new vs = (
          λ s.
              let (a, b) = (solves-new laws (bytes w) n t kept.reduced q m left p lp ne vs s.values).0 (to_table n w with_row vs s) in
              (to_rows n w t vs s.values a, b),
          λ (s, a). to_rows n w with_row vs s.values ((solves-new laws (bytes w) n t kept.reduced q m left p lp ne vs s.values).1 (to_table n w t vs s, a)),
        )

    -- ---- the value at a column
    default_at : (vs : List (List ℕ)) (col : ℕ) → IsVector (IsBytes w) n vs → col < n → get_or vs col [] ≡ get_or vs col (zero_bytes w)
    default_at vs col hv l = let c = hv.width in get_or_default vs col [] (zero_bytes w) (omega arith)

    -- a row whose pivot is its only nonzero coefficient tells the value
    pub value_known : (col : ℕ) (r : Row A (List ℕ)) → slot t col ≡ Some r → ((j : ℕ) → j < n → j ≢ col → get_or r.coeffs j zero ≡ zero) → IsValueAt act (known_by n w t) col r.right
    value_known col r full zeros vs s =
        let l : col < n = let k = slot_within t col r full in let c = kept.reduced.count in omega arith in
        default_at vs col s.values l ∙ value_told laws (bytes w) n t kept.reduced col r full zeros vs s.values (to_table n w t vs s)

    open_from : (col : ℕ) → col < n → Differ laws (bytes w) n t kept.reduced col → IsOpenAt act (known_by n w t) col
    open_from col l d = record {
      one_list = d.one_list;
      other_list = d.other_list;
      one_solves = to_rows n w t d.one_list d.one_values d.one_solves;
      other_solves = to_rows n w t d.other_list d.other_values d.other_solves;
      differ = λ e. d.differ (sym (default_at d.one_list col d.one_values l) ∙ e ∙ default_at d.other_list col d.other_values l);
    }

    -- at a column that is no pivot two solutions differ
    pub open_free : 0 < w → (col : ℕ) → col < n → slot t col ≡ None → IsOpenAt act (known_by n w t) col
    open_free hw col l e = open_from col l (free_differs laws (bytes w) n t kept.reduced (one_bytes w) (one_bytes_value w) (one_bytes-nonzero w hw) col l e)

    -- and at a pivot whose row has another nonzero coefficient
    pub open_mixed : 0 < w → (col : ℕ) (r : Row A (List ℕ)) (j : ℕ) → slot t col ≡ Some r → j < n → j ≢ col → get_or r.coeffs j zero ≢ zero → IsOpenAt act (known_by n w t) col
    open_mixed hw col r j full l ne nz =
        let lc : col < n = let k = slot_within t col r full in let c = kept.reduced.count in omega arith in
        open_from col lc (mixed_differs laws (bytes w) n t kept.reduced (one_bytes w) (one_bytes_value w) (one_bytes-nonzero w hw) col r j full l ne nz)

    -- where two solutions differ, no value is that of every solution
    pub no_value : (col : ℕ) (b : List ℕ) → IsOpenAt act (known_by n w t) col → IsValueAt act (known_by n w t) col b → ⊥
    no_value col b o v = o.differ (v o.one_list o.one_solves ∙ sym (v o.other_list o.other_solves))

    -- the value of every solution is the one value
    pub one_value : (col : ℕ) (a b : List ℕ) → IsValueAt act (known_by n w t) col a → IsValueAt act (known_by n w t) col b → a ≡ b
    one_value col a b va vb = let (vs, s) = solution_exists in sym (va vs s) ∙ vb vs s

    -- ---- the first columns are forgotten
    module _ (count : ℕ) (fits : count ≤ n) where
      -- the table without its first count places, and as many empty ones at its end
      abbrev pub without_front : List (Option (Row A (List ℕ)))
      without_front = forget zero count t

      pub kept_forget : IsKept IsElement zero one n w without_front
      kept_forget = record {
        reduced = reduced-forget laws (bytes w) n t kept.reduced kept.first count fits;
        first = first-forget laws (bytes w) n t kept.reduced kept.first count fits;
      }

      pub reach_forget : (reach : ℕ) → HasReach zero reach t → HasReach zero reach without_front
      reach_forget = reach-forget laws (bytes w) n t kept.reduced kept.first count fits

      pub lone_forget : (mixed : List Bool) → length mixed ≡ n → IsLoneUnless zero mixed t → IsLoneUnless zero (drop count mixed ++ replicate count false) without_front
      lone_forget = lone-forget laws (bytes w) n t kept.reduced kept.first count fits

      pub forgets : Forgets act count (known_by n w t) (known_by n w without_front)
      forgets vs hv = (
        λ s.
            let (us, hu, full) = forget_completes laws (bytes w) n t kept.reduced kept.first count fits vs hv (to_table n w without_front vs s) in
            (us, hu, to_rows n w t (us ++ take (n - count) vs) (joined us hu) full),
        λ (us, hu, s). to_rows n w without_front vs hv
            (forget_keeps laws (bytes w) n t kept.reduced kept.first count fits vs hv us hu (to_table n w t (us ++ take (n - count) vs) s)),
      ) where
        joined : (us : List (List ℕ)) → IsVector (IsBytes w) count us → IsVector (IsBytes w) n (us ++ take (n - count) vs)
        joined us hu =
            let c = hv.width in
            let d = hu.width in
            record {
              width = (let a = length-append us (take (n - count) vs) in let b = length-take-le (n - count) vs (omega arith) in omega arith);
              entries = All-append (IsBytes w) us (take (n - count) vs) hu.entries (All-take (IsBytes w) (n - count) vs hv.entries);
            }

      -- of the columns at the end nothing is known: any values stand there in a solution
      pub back_free : (vs zs : List (List ℕ)) → IsSolution act (known_by n w without_front) vs → IsVector (IsBytes w) count zs → IsSolution act (known_by n w without_front) (take (n - count) vs ++ zs)
      back_free vs zs s hz =
          let hv = s.values in
          let c = hv.width in
          let d = hz.width in
          let lt : length (take (n - count) vs) ≡ n - count = length-take-le (n - count) vs (omega arith) in
          let la = length-append (take (n - count) vs) zs in
          let hw : IsVector (IsBytes w) n (take (n - count) vs ++ zs) = record {
            width = omega arith;
            entries = All-append (IsBytes w) (take (n - count) vs) zs (All-take (IsBytes w) (n - count) vs hv.entries) hz.entries;
          } in
          let (us, hu, full) = (forgets vs hv).0 s in
          (forgets (take (n - count) vs ++ zs) hw).1
          (us, hu, subst (λ (ys : List (List ℕ)). IsSolution act (known_by n w t) (us ++ ys)) (sym (take_at (take (n - count) vs) zs (n - count) lt)) full)
