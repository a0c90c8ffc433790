-- Equations that say nothing beside the byte strings that are stored: they can be forgotten.
use Rattle.std.proofs.Common.{◌≡◌, ◌↔◌, ℕ, ◌-◌, ◌<◌, Bool, true, false, List, ◌++◌, length, get_or, take, sym, ap, ◌∙◌, subst, arith, inl, inr}
use Rattle.std.proofs.lemmas.List.{append-nil}
use Rattle.sc_field.specs.Gf256.{gf256_product}
use Rattle.sc_matrix.specs.Vector.{IsVector}
use Rattle.sc_echelon.specs.Knowledge.{Knowledge, IsSolution, IsBytes, Forgets}
use Rattle.sc_repair.specs.Columns.{all_known, HasStored, IsQuiet, IsColumns}
use Rattle.sc_repair.proofs.ColumnSteps.{cases, flag_within, all_known-iff, same_stored, columns_more}

-- the flags of the columns, however they are given
pub settled_is : (whole free ws fs : List Bool) → ws ≡ whole → fs ≡ free → ((c : ℕ) → c < length ws → get_or ws c false ≡ false → get_or fs c false ≡ true)
    → (c : ℕ) → c < length whole → get_or whole c false ≡ false → get_or free c false ≡ true
settled_is whole free ws fs e f h = rw (← e, ← f) h

-- each column is whole or free, and all columns of the equations are forgotten
module _ (known new : Knowledge ℕ) (whole free : List Bool) (bytes : List ℕ) (h : IsColumns known whole free bytes) (some : (vs : List (List ℕ)) × IsSolution gf256_product known vs)
    (settled : (c : ℕ) → c < length whole → get_or whole c false ≡ false → get_or free c false ≡ true) (cols : new.cols ≡ known.cols) (width : new.width ≡ known.width)
    (forgets : Forgets gf256_product known.cols known new) where
  before : (vs : List (List ℕ)) → IsVector (IsBytes new.width) new.cols vs → IsVector (IsBytes known.width) known.cols vs
  before vs values = subst (λ (x : ℕ). IsVector (IsBytes x) known.cols vs) width (subst (λ (x : ℕ). IsVector (IsBytes new.width) x vs) cols values)

  pub quiet_after : IsQuiet new
  quiet_after vs values =
      let none : known.cols - known.cols ≡ 0 = omega arith in
      let all : some.0 ++ take (known.cols - known.cols) vs ≡ some.0 = ap (λ (k : ℕ). some.0 ++ take k vs) none ∙ append-nil some.0 in
      (forgets vs (before vs values)).1 (some.0, some.1.values, subst (IsSolution gf256_product known) (sym all) some.1)

  pub columns_after : (free' : List Bool) → length free' ≡ length free → ((c : ℕ) → c < length free → get_or free' c false ≡ true) → IsColumns new whole free' bytes
  columns_after free' count all =
      columns_more known new whole free free' bytes h cols width count
      (λ c e. inl (all c (let l = flag_within whole c e in let w = h.whole_count in let f = h.free_count in omega arith)))
      (λ vs us s values same. quiet_after us values)

  pub same_after : (vs : List (List ℕ)) → IsSolution gf256_product (all_known new whole bytes) vs ↔ IsSolution gf256_product (all_known known whole bytes) vs
  same_after vs =
      let iff_old = all_known-iff known whole bytes h.whole_count vs in
      let iff_new = all_known-iff new whole bytes (h.whole_count ∙ sym cols) vs in
      let stored = same_stored known new bytes cols width in (
        λ s.
            let has = subst (λ (st : List (List ℕ)). HasStored whole st vs) stored (iff_new.0 s).1 in
            iff_old.1 (
              h.is_free some.0 vs some.1 (before vs s.values) (λ c lt e. elim (cases (get_or whole c false)) [
                | inl set_here ↦ elim (h.within c set_here) [
                  | inl f ↦ absurd (let other : true ≡ false = sym f ∙ e in cc)
                  | inr v ↦ has c set_here ∙ sym (v some.0 some.1)
                ]
                | inr not_set ↦ absurd (let other : true ≡ false = sym (settled c (let w = h.whole_count in omega arith) not_set) ∙ e in cc)
              ]),
              has,
            ),
        λ s.
            let x = iff_old.0 s in
            let values = subst (λ (n : ℕ). IsVector (IsBytes new.width) n vs) (sym cols) (subst (λ (w : ℕ). IsVector (IsBytes w) known.cols vs) (sym width) x.0.values) in
            iff_new.1 (quiet_after vs values, subst (λ (st : List (List ℕ)). HasStored whole st vs) (sym stored) x.1),
      )
