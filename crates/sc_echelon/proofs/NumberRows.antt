-- Coefficients kept as their numbers: what is read of the numbers holds of the elements.
use Rattle.std.proofs.Common.{◌≡◌, ◌≢◌, ◌↔◌, ℕ, ◌+◌, ◌<◌, List, [], ◌∷◌, ◌++◌, bit_xor, All, Option, None, Some, inl, inr, MatchOption, length, get_or, set, map, take, drop, replicate, sym, ◌∙◌, ap, ap₂, append_assoc, subst, arith}
use Rattle.std.proofs.lemmas.List.{get_or_past, length-map, length-take-le, get_or-map, set_at, drop_more, take_more, map-append, map-id, drop-map}
use Rattle.std.proofs.lemmas.List.Elements.{All-map, All-append, All-drop, All-replicate}
use Rattle.sc_field.specs.Field.{IsField, IsAction, IsNumbered, IsNumber}
use Rattle.sc_field.specs.Scale.{scaled_sum}
use Rattle.sc_field.specs.ActionLemmas.{is_number}
use Rattle.sc_matrix.specs.Vector.{IsVector, add_vectors, scale_vector}
use Rattle.sc_matrix.proofs.VectorLaws.{vector_of, map-map, map_same, IsVector-map, IsVector-add_vectors}
use Rattle.sc_matrix.proofs.MatrixLaws.{map-replicate}
use Rattle.sc_matrix.proofs.ByteSteps.{scaled_sum_is}
use Rattle.sc_matrix.proofs.NumberLaws.{number_module, elements-add, elements-times, element-zero_iff}
use Rattle.sc_echelon.specs.Equation.{Row}
use Rattle.std.proofs.lemmas.Bool.{cases_lt}
use Rattle.sc_echelon.specs.Echelon.{IsLastNonzero}

module _ {A : Type 0} {IsElement : A → Type 0} {zero one : A} {add sub mul : A → A → A} {inv : A → A} {act : A → ℕ → ℕ} {number : A → ℕ} {element : ℕ → A} (laws : IsField IsElement zero one add sub mul inv) (action : IsAction IsElement zero one add mul act) (numbered : IsNumbered IsElement zero one number element) (by_number : (x : A) → IsElement x → act x 1 ≡ number x) where
  abbrev Number : ℕ → Type 0
  Number = IsNumber IsElement number element

  -- ---- what is read
  pub entry_element : (ns : List ℕ) (j : ℕ) (d : ℕ) → j < length ns → get_or (map element ns) j zero ≡ element (get_or ns j d)
  entry_element ns j d l = get_or-map element ns j d zero l

  pub entry-zero : (ns : List ℕ) (j : ℕ) → All Number ns → j < length ns → (get_or (map element ns) j zero ≡ zero) ↔ (get_or ns j 0 ≡ 0)
  entry-zero ns j h l =
      let iff = element-zero_iff laws action numbered by_number (get_or ns j 0) (h j 0 l) in
      (λ e. iff.0 (sym (entry_element ns j 0 l) ∙ e), λ e. entry_element ns j 0 l ∙ iff.1 e)

  pub first_found : (ns : List ℕ) (cs : List A) → map element ns ≡ cs → All Number ns → (o : Option ℕ)
      → MatchOption o ((j : ℕ) → j < length ns → get_or ns j 0 ≡ 0) (λ p. (p < length ns) × (get_or ns p 0 ≢ 0) × ((j : ℕ) → j < p → get_or ns j 0 ≡ 0))
      → MatchOption o ((j : ℕ) → j < length cs → get_or cs j zero ≡ zero) (λ p. (p < length cs) × (get_or cs p zero ≢ zero) × ((j : ℕ) → j < p → get_or cs j zero ≡ zero))
  first_found ns cs e h None m = subst (λ (xs : List A). (j : ℕ) → j < length xs → get_or xs j zero ≡ zero) e (λ j l. let n = length-map ns element in (entry-zero ns j h (omega arith)).1 (m j (omega arith)))
  first_found ns cs e h (Some p) m =
      let n = length-map ns element in
      let within = m.0 in
      subst (λ (xs : List A). (p < length xs) × (get_or xs p zero ≢ zero) × ((j : ℕ) → j < p → get_or xs j zero ≡ zero)) e
      (omega arith, λ z. m.1 ((entry-zero ns p h within).0 z), λ j l. (entry-zero ns j h (omega arith)).1 (m.2 j l))

  pub last_found : (ns : List ℕ) (cs : List A) → map element ns ≡ cs → All Number ns → (o : Option ℕ) → IsLastNonzero ns (length ns) o
      → MatchOption o ((j : ℕ) → j < length cs → get_or cs j zero ≡ zero) (λ p. (p < length cs) × (get_or cs p zero ≢ zero) × ((j : ℕ) → p < j → get_or cs j zero ≡ zero))
  last_found ns cs e h None m = subst (λ (xs : List A). (j : ℕ) → j < length xs → get_or xs j zero ≡ zero) e (λ j l. let n = length-map ns element in (entry-zero ns j h (omega arith)).1 (m j (omega arith)))
  last_found ns cs e h (Some p) m =
      let n = length-map ns element in
      let within = m.0 in
      subst (λ (xs : List A). (p < length xs) × (get_or xs p zero ≢ zero) × ((j : ℕ) → p < j → get_or xs j zero ≡ zero)) e (
        omega arith,
        λ z. m.1 ((entry-zero ns p h within).0 z),
        λ j l. elim (cases_lt j (length ns)) [
          | inl a ↦ (entry-zero ns j h a).1 (m.2 j l a)
          | inr past ↦ get_or_past (map element ns) j zero (omega arith)
        ],
      )

  pub another_found : (ns : List ℕ) (cs : List A) (col : ℕ) → map element ns ≡ cs → All Number ns → (o : Option ℕ)
      → MatchOption o ((j : ℕ) → j < length ns → j ≢ col → get_or ns j 0 ≡ 0) (λ p. (p < length ns) × (p ≢ col) × (get_or ns p 0 ≢ 0))
      → MatchOption o ((j : ℕ) → j < length cs → j ≢ col → get_or cs j zero ≡ zero) (λ p. (p < length cs) × (p ≢ col) × (get_or cs p zero ≢ zero))
  another_found ns cs col e h None m =
      subst (λ (xs : List A). (j : ℕ) → j < length xs → j ≢ col → get_or xs j zero ≡ zero) e (λ j l ne. let n = length-map ns element in (entry-zero ns j h (omega arith)).1 (m j (omega arith) ne))
  another_found ns cs col e h (Some p) m =
      let n = length-map ns element in
      let within = m.0 in
      subst (λ (xs : List A). (p < length xs) × (p ≢ col) × (get_or xs p zero ≢ zero)) e (omega arith, m.1, λ z. m.2 ((entry-zero ns p h within).0 z))

  -- where all numbers are zeros from some place on, or before it
  pub zero_read : (ns : List ℕ) (cs : List A) (j : ℕ) → map element ns ≡ cs → All Number ns → get_or ns j 0 ≡ 0 → get_or cs j zero ≡ zero
  zero_read ns cs j e h z =
      subst (λ (xs : List A). get_or xs j zero ≡ zero) e
      (elim (cases_lt j (length ns)) [
        | inl l ↦ (entry-zero ns j h l).1 z
        | inr past ↦ get_or_past (map element ns) j zero (let n = length-map ns element in omega arith)
      ])

  -- ---- the front is forgotten
  pub numbers_shifted : (c : ℕ) (ns : List ℕ) → All Number ns → All Number (drop c ns ++ replicate c 0)
  numbers_shifted c ns h =
      All-append Number (drop c ns) (replicate c 0) (All-drop Number c ns h)
      (All-replicate Number c 0 (subst Number numbered.of_zero (is_number laws action numbered by_number zero laws.zero_element)))

  pub elements_shifted : (c : ℕ) (ns : List ℕ) → map element (drop c ns ++ replicate c 0) ≡ drop c (map element ns) ++ replicate c zero
  elements_shifted c ns =
      map-append element (drop c ns) (replicate c 0)
      ∙ ap₂ (λ (xs ys : List A). xs ++ ys) (sym (drop-map element c ns))
      (map-replicate element c 0 ∙ ap (replicate c) (ap element (sym numbered.of_zero) ∙ numbered.element_number zero laws.zero_element))

  -- ---- what is written
  pub numbers_of : (xs : List A) → All IsElement xs → All Number (map number xs)
  numbers_of xs h = All-map Number number xs (λ k d l. is_number laws action numbered by_number (get_or xs k d) (h k d l))

  pub elements_back : (xs : List A) → All IsElement xs → map element (map number xs) ≡ xs
  elements_back xs h = map-map element number xs ∙ map_same (λ (x : A). element (number x)) (λ (x : A). x) xs (λ x hx. numbered.element_number x hx) (vector_of xs h) ∙ map-id xs

  -- a multiple of a row of numbers is added
  pub numbers_added : (us vs : List ℕ) (c : A) → IsElement c → length vs ≡ length us → All Number us → All Number vs → All Number (scaled_sum (act c) us vs)
  numbers_added us vs c hc e hu hv =
      let m = number_module laws action numbered by_number in
      let pv : IsVector Number (length us) vs = record { width = e; entries = hv } in
      let sum = IsVector-add_vectors bit_xor us (scale_vector act c vs) m.plus_value (vector_of us hu) (IsVector-map (act c) vs (λ n hn. m.times_value c n hc hn) pv) in
      subst (All Number) (sym (scaled_sum_is (act c) us vs e)) sum.entries

  pub elements_added : (us vs : List ℕ) (c : A) → IsElement c → length vs ≡ length us → All Number us → All Number vs
      → map element (scaled_sum (act c) us vs) ≡ add_vectors add (map element us) (scale_vector mul c (map element vs))
  elements_added us vs c hc e hu hv =
      let m = number_module laws action numbered by_number in
      ap (map element) (scaled_sum_is (act c) us vs e)
      ∙ elements-add laws action numbered by_number us (scale_vector act c vs) (vector_of us hu) (IsVector-map (act c) vs (λ n hn. m.times_value c n hc hn) (vector_of vs hv))
      ∙ ap (add_vectors add (map element us)) (elements-times laws action numbered by_number c vs hc (vector_of vs hv))

  pub numbers_scaled : (us : List ℕ) (c : A) → IsElement c → All Number us → All Number (map (act c) us)
  numbers_scaled us c hc hu =
      let m = number_module laws action numbered by_number in
      (IsVector-map {Q = Number} (act c) us (λ n hn. m.times_value c n hc hn) (vector_of us hu)).entries

  pub elements_scaled : (us : List ℕ) (c : A) → IsElement c → All Number us → map element (map (act c) us) ≡ scale_vector mul c (map element us)
  elements_scaled us c hc hu = elements-times laws action numbered by_number c us hc (vector_of us hu)

-- ---- one place more is written
pub write_more : {X Y : Type 0} (f : X → Y) (xs : List X) (old bs : List Y) (i : ℕ) (x : X) (d : Y) → i < length xs → length old ≡ length xs → bs ≡ map f (take i xs) ++ drop i old → x ≡ get_or xs i x
    → set bs i (f x) ≡ map f (take (i + 1) xs) ++ drop (i + 1) old
write_more f xs old bs i x d l e h is =
    let n : length (map f (take i xs)) ≡ i = length-map (take i xs) f ∙ length-take-le i xs (omega arith) in
    ap (λ t. set t i (f x)) (h ∙ ap (λ t. map f (take i xs) ++ t) (drop_more old i d (omega arith)))
    ∙ set_at (map f (take i xs)) (get_or old i d) (drop (i + 1) old) (f x) i n
    ∙ sym (ap (λ t. t ++ drop (i + 1) old) (ap (map f) (take_more xs i x l ∙ ap (λ y. take i xs ++ y ∷ []) (sym is)) ∙ map-append f (take i xs) (x ∷ []))
    ∙ append_assoc (map f (take i xs)) (f x ∷ []) (drop (i + 1) old))

-- ---- rows
pub size_of : {X Y : Type 0} (f : X → Y) (ns : List X) (cs : List Y) → map f ns ≡ cs → length cs ≡ length ns
size_of f ns cs e = ap length (sym e) ∙ length-map ns f

pub same_row : {A : Type 0} (cs ds : List A) (b d : List ℕ) → cs ≡ ds → b ≡ d → ◌≡◌ {A = Row A (List ℕ)} (record { coeffs = cs; right = b }) (record { coeffs = ds; right = d })
same_row {A} cs ds b d e f = ap₂ (λ (x : List A) (y : List ℕ). record { coeffs = x; right = y }) e f
