-- Vectors of the lost symbols, and the streams that they spell.
use Rattle.std.proofs.Common.{◌≡◌, ℕ, zero as naught, suc, ◌+◌, ◌*◌, ◌≤◌, Bool, true, false, cond, List, [], ◌∷◌, ◌++◌, length, get_or, take, drop, replicate, All, refl, sym, ap, ap₂, ◌∙◌, arith}
use Rattle.std.proofs.lemmas.Bool.{both_ways}
use Rattle.std.proofs.lemmas.List.{take-append-drop, nil_from_length, drop_at}
use Rattle.std.proofs.Math.Seq.{take-append_seam}
use Rattle.std.proofs.lemmas.List.Elements.{All-nil, All-cons, All-head, All-tail}
use Rattle.std.proofs.lemmas.List.Sums.{sum_by-cons}
use Rattle.sc_channel.specs.Flags.{IsSet, set_count}
use Rattle.sc_matrix.specs.Vector.{IsVector}
use Rattle.sc_matrix.proofs.VectorLaws.{IsVector-append, IsVector-take, IsVector-drop, IsVector-replicate}
use Rattle.sc_code.specs.Determined.{IsKept}
use Rattle.sc_window.specs.Window.{lost_symbols, spelled, IsLostStream}

-- ---- counts of set flags
pub count-lost : (class : List Bool) → set_count (true ∷ class) ≡ 1 + set_count class
count-lost class = sum_by-cons (λ flag. cond flag 1 0) true class

pub count-kept : (class : List Bool) → set_count (false ∷ class) ≡ set_count class
count-kept class = let e : set_count (false ∷ class) ≡ 0 + set_count class = sum_by-cons (λ flag. cond flag 1 0) false class in omega arith

-- the symbols of a lost slot, and those of the slots after it
pub lost_width : (k n : ℕ) (class : List Bool) → n ≡ k * set_count (true ∷ class) → n ≡ k + k * set_count class
lost_width k n class e = let c = count-lost class in e ∙ ap (λ (s : ℕ). k * s) c ∙ omega arith

pub kept_width : (k n : ℕ) (class : List Bool) → n ≡ k * set_count (false ∷ class) → n ≡ k * set_count class
kept_width k n class e = e ∙ ap (λ (s : ℕ). k * s) (count-kept class)

-- the symbols of slot 0 are among those of the lost slots
pub first_width : (k : ℕ) (class : List Bool) → IsSet class 0 → k ≤ k * set_count class
first_width k [] set = absurd (both_ways _ refl set)
first_width k (true ∷ class) set = let w = lost_width k (k * set_count (true ∷ class)) class refl in omega arith
first_width k (false ∷ class) set = absurd (both_ways _ refl set)

module _ {A : Type 0} {P : A → Type 0} where
  vector_as : {m : ℕ} (n : ℕ) (v : List A) → m ≡ n → IsVector P m v → IsVector P n v
  vector_as n v e h = record { width = h.width ∙ e; entries = h.entries }

  -- what is left of a vector behind the symbols of a lost slot
  pub rest_vector : (k : ℕ) (class : List Bool) (v : List A) → IsVector P (k * set_count (true ∷ class)) v → IsVector P (k * set_count class) (drop k v)
  rest_vector k class v h =
      let w = lost_width k (k * set_count (true ∷ class)) class refl in
      vector_as (k * set_count class) (drop k v) (omega arith) (IsVector-drop k v h)

  pub first_vector : (k : ℕ) (class : List Bool) (v : List A) → IsVector P (k * set_count (true ∷ class)) v → IsVector P k (take k v)
  first_vector k class v h =
      let w = lost_width k (k * set_count (true ∷ class)) class refl in
      IsVector-take k v h (omega arith)

  pub same_vector : (k : ℕ) (class : List Bool) (v : List A) → IsVector P (k * set_count (false ∷ class)) v → IsVector P (k * set_count class) v
  same_vector k class v h = vector_as (k * set_count class) v (kept_width k (k * set_count (false ∷ class)) class refl) h

module _ {A : Type 0} (zero : A) (k : ℕ) where
  pub length-spelled : (class : List Bool) (v : List A) → length (spelled zero k class v) ≡ length class
  length-spelled [] v = refl
  length-spelled (true ∷ class) v = ap suc (length-spelled class (drop k v))
  length-spelled (false ∷ class) v = ap suc (length-spelled class v)

  pub spelled-kept : (class : List Bool) (v : List A) (t : ℕ) → IsKept class t → get_or (spelled zero k class v) t [] ≡ replicate k zero
  spelled-kept [] v t kept = absurd (both_ways _ kept refl)
  spelled-kept (true ∷ class) v naught kept = absurd (both_ways _ kept refl)
  spelled-kept (true ∷ class) v (suc t) kept = spelled-kept class (drop k v) t kept
  spelled-kept (false ∷ class) v naught kept = refl
  spelled-kept (false ∷ class) v (suc t) kept = spelled-kept class v t kept

  -- block 0 is the first entries
  pub spelled-first : (class : List Bool) (v : List A) → IsSet class 0 → get_or (spelled zero k class v) 0 [] ≡ take k v
  spelled-first [] v set = absurd (both_ways _ refl set)
  spelled-first (true ∷ class) v set = refl
  spelled-first (false ∷ class) v set = absurd (both_ways _ refl set)

module _ {A : Type 0} {IsElement : A → Type 0} (zero : A) (hz : IsElement zero) (k : ℕ) where
  pub blocks-spelled : (class : List Bool) (v : List A) → IsVector IsElement (k * set_count class) v → All (IsVector IsElement k) (spelled zero k class v)
  blocks-spelled [] v h = All-nil (IsVector IsElement k)
  blocks-spelled (true ∷ class) v h =
      All-cons (IsVector IsElement k) (take k v) (spelled zero k class (drop k v)) (first_vector k class v h) (blocks-spelled class (drop k v) (rest_vector k class v h))
  blocks-spelled (false ∷ class) v h =
      All-cons (IsVector IsElement k) (replicate k zero) (spelled zero k class v) (IsVector-replicate k zero hz) (blocks-spelled class v (same_vector k class v h))

  -- a vector spells a stream that is zero in the kept slots
  pub IsLostStream-spelled : (class : List Bool) (v : List A) → IsVector IsElement (k * set_count class) v → IsLostStream IsElement zero k class (spelled zero k class v)
  IsLostStream-spelled class v h = record {
    blocks = blocks-spelled class v h;
    count = length-spelled zero k class v;
    zeros = spelled-kept zero k class v;
  }

module _ {A : Type 0} {IsElement : A → Type 0} (zero : A) (k : ℕ) where
  -- and the stream's lost symbols are the vector again
  pub lost_symbols-spelled : (class : List Bool) (v : List A) → IsVector IsElement (k * set_count class) v → lost_symbols class (spelled zero k class v) ≡ v
  lost_symbols-spelled [] v h = let w = h.width in sym (nil_from_length v (omega arith))
  lost_symbols-spelled (true ∷ class) v h =
      ap (λ (xs : List A). take k v ++ xs) (lost_symbols-spelled class (drop k v) (rest_vector k class v h)) ∙ take-append-drop k v
  lost_symbols-spelled (false ∷ class) v h = lost_symbols-spelled class v (same_vector k class v h)

  -- ---- a stream without its first block
  pub IsLostStream-rest : (flag : Bool) (class : List Bool) (x : List A) (xs : List (List A)) → IsLostStream IsElement zero k (flag ∷ class) (x ∷ xs) → IsLostStream IsElement zero k class xs
  IsLostStream-rest flag class x xs h = let c = h.count in record {
    blocks = All-tail (IsVector IsElement k) x xs h.blocks;
    count = omega arith;
    zeros = λ t kept. h.zeros (suc t) kept;
  }

  pub IsVector-lost_symbols : (class : List Bool) (xs : List (List A)) → IsLostStream IsElement zero k class xs → IsVector IsElement (k * set_count class) (lost_symbols class xs)
  IsVector-lost_symbols [] [] h = record { width = omega arith; entries = All-nil IsElement }
  IsVector-lost_symbols [] (x ∷ xs) h = let c = h.count in absurd (omega arith)
  IsVector-lost_symbols (flag ∷ class) [] h = let c = h.count in absurd (omega arith)
  IsVector-lost_symbols (true ∷ class) (x ∷ xs) h =
      let w = lost_width k (k * set_count (true ∷ class)) class refl in
      vector_as (k * set_count (true ∷ class)) (x ++ lost_symbols class xs) (sym w)
      (IsVector-append x (lost_symbols class xs) (All-head (IsVector IsElement k) x xs h.blocks) (IsVector-lost_symbols class xs (IsLostStream-rest true class x xs h)))
  IsVector-lost_symbols (false ∷ class) (x ∷ xs) h =
      vector_as (k * set_count (false ∷ class)) (lost_symbols class xs) (sym (kept_width k (k * set_count (false ∷ class)) class refl)) (IsVector-lost_symbols class xs (IsLostStream-rest false class x xs h))

  -- a stream that is zero in the kept slots is spelled by its lost symbols
  pub spelled-lost_symbols : (class : List Bool) (xs : List (List A)) → IsLostStream IsElement zero k class xs → spelled zero k class (lost_symbols class xs) ≡ xs
  spelled-lost_symbols [] [] h = refl
  spelled-lost_symbols [] (x ∷ xs) h = let c = h.count in absurd (omega arith)
  spelled-lost_symbols (flag ∷ class) [] h = let c = h.count in absurd (omega arith)
  spelled-lost_symbols (true ∷ class) (x ∷ xs) h =
      let w : length x ≡ k = (All-head (IsVector IsElement k) x xs h.blocks).width in
      ap₂ (λ (y : List A) (v : List A). y ∷ spelled zero k class v)
      (ap (λ (n : ℕ). take n (x ++ lost_symbols class xs)) (sym w) ∙ take-append_seam x (lost_symbols class xs))
      (drop_at x (lost_symbols class xs) k w)
      ∙ ap (λ (ys : List (List A)). x ∷ ys) (spelled-lost_symbols class xs (IsLostStream-rest true class x xs h))
  spelled-lost_symbols (false ∷ class) (x ∷ xs) h =
      ap₂ (λ (y : List A) (ys : List (List A)). y ∷ ys) (sym (h.zeros 0 refl)) (spelled-lost_symbols class xs (IsLostStream-rest false class x xs h))
