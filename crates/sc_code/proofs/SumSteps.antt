-- How the terms of a parity symbol are gathered, and what their sum over a ring is.
use Rattle.std.proofs.Common.{◌≡◌, ◌≢◌, ℕ, ◌+◌, ◌-◌, ◌*◌, ◌<◌, ◌≤◌, List, [], ◌∷◌, ◌++◌, length, get_or, set, map, bit_xor, All, refl, sym, ap, ap₂, ◌∙◌, subst, arith, inl, inr}
use Rattle.std.specs.Int.Bits.{xor_assoc, xor_zero_l, xor_zero_r}
use Rattle.std.proofs.lemmas.Bool.{cases_lt}
use Rattle.std.proofs.lemmas.Grind.{same_number_lists}
use Rattle.std.proofs.lemmas.List.{length-append, length-map, map-append, map-set, get_or-map, get_or-set_same, get_or-set_other, get_or_append_left, get_or_at}
use Rattle.std.proofs.lemmas.List.Elements.{All-nil, All-cons, All-append, All-map}
use Rattle.sc_field.specs.Field.{IsAction}
use Rattle.sc_field.specs.Terms.{sum_at}
use Rattle.sc_matrix.specs.Vector.{dot}
use Rattle.sc_matrix.proofs.LayoutLaws.{row_within}
use Rattle.sc_code.specs.Code.{Code, coefficient}
use Rattle.sc_code.specs.Parity.{sum_below}
use Rattle.sc_code.specs.Ring.{Ring, place_of}
use Rattle.sc_code.specs.Sum.{Sum, with_term, sum_of, HasTerms}
use Rattle.sc_code.proofs.SumLaws.{sum_below_more}

-- one term more
dot-more : {A : Type 0} (act : A → ℕ → ℕ) (cs : List A) (vs : List ℕ) (c : A) (v : ℕ) → length cs ≡ length vs → dot 0 bit_xor act (cs ++ c ∷ []) (vs ++ v ∷ []) ≡ bit_xor (dot 0 bit_xor act cs vs) (act c v)
dot-more act [] [] c v e = xor_zero_r (act c v) ∙ sym (xor_zero_l (act c v))
dot-more act [] (w ∷ vs) c v e = absurd (omega arith)
dot-more act (b ∷ cs) [] c v e = absurd (omega arith)
dot-more act (b ∷ cs) (w ∷ vs) c v e =
    ap (bit_xor (act b w)) (dot-more act cs vs c v (omega arith)) ∙ sym (xor_assoc (act b w) (dot 0 bit_xor act cs vs) (act c v))

module _ {A : Type 0} (zero : A) (act : A → ℕ → ℕ) where
  -- what a symbol gives
  abbrev part : Code A → ℕ → ℕ → (ℕ → ℕ → ℕ) → ℕ → ℕ → ℕ
  part code m j bytes lag i = act (coefficient zero code lag i j) (bytes lag (i * m))

  pub HasTerms-none : (code : Code A) (m j : ℕ) → HasTerms zero act code m j 0 0 (record { coefficients = []; spots = [] })
  HasTerms-none code m j =
      record {
        paired = refl;
        nonzero = All-nil (λ (c : A). c ≢ zero);
        within = All-nil (λ spot. (spot.0 < length code.lags) × (spot.1 + m ≤ code.k * m));
        total = λ bytes hb. sym (xor_zero_r 0);
      }

  -- a lag is done
  pub HasTerms-lag : (code : Code A) (m j lag : ℕ) (s : Sum A) → HasTerms zero act code m j lag code.k s → HasTerms zero act code m j (lag + 1) 0 s
  HasTerms-lag code m j lag s h =
      record {
        paired = h.paired;
        nonzero = h.nonzero;
        within = h.within;
        total = λ bytes hb.
            h.total bytes hb ∙ sym (sum_below_more 0 bit_xor lag (λ lag. sum_below 0 bit_xor code.k (part code m j bytes lag)))
            ∙ sym (xor_zero_r (sum_below 0 bit_xor (lag + 1) (λ lag. sum_below 0 bit_xor code.k (part code m j bytes lag))));
      }

  -- a term for the next symbol
  pub HasTerms-push : (code : Code A) (m j lag i at : ℕ) (c : A) (s : Sum A) → c ≢ zero → c ≡ coefficient zero code lag i j → at ≡ i * m → lag < length code.lags → i < code.k → HasTerms zero act code m j lag i s → HasTerms zero act code m j lag (i + 1) (with_term s c lag at)
  HasTerms-push code m j lag i at c s differs is place hl hi h =
      let a = length-append s.coefficients (c ∷ []) in
      let b = length-append s.spots ((lag, at) ∷ []) in
      let p = h.paired in
      let fits : at + m ≤ code.k * m = rw place (row_within code.k m i hi) in
      record {
        paired = omega arith;
        nonzero = All-append (λ (c : A). c ≢ zero) s.coefficients (c ∷ []) h.nonzero (All-cons (λ (c : A). c ≢ zero) c [] differs (All-nil (λ (c : A). c ≢ zero)));
        within = All-append (λ spot. (spot.0 < length code.lags) × (spot.1 + m ≤ code.k * m)) s.spots ((lag, at) ∷ []) h.within
            (All-cons (λ spot. (spot.0 < length code.lags) × (spot.1 + m ≤ code.k * m)) (lag, at) [] (hl, fits) (All-nil (λ spot. (spot.0 < length code.lags) × (spot.1 + m ≤ code.k * m))));
        total = λ bytes hb.
            let before : ℕ = sum_below 0 bit_xor lag (λ lag. sum_below 0 bit_xor code.k (part code m j bytes lag)) in
            let here : ℕ = sum_below 0 bit_xor i (part code m j bytes lag) in
            ap (dot 0 bit_xor act (s.coefficients ++ c ∷ [])) (map-append (λ (spot : ℕ × ℕ). bytes spot.0 spot.1) s.spots ((lag, at) ∷ []))
            ∙ dot-more act s.coefficients (map (λ (spot : ℕ × ℕ). bytes spot.0 spot.1) s.spots) c (bytes lag at) (h.paired ∙ sym (length-map s.spots (λ (spot : ℕ × ℕ). bytes spot.0 spot.1)))
            ∙ ap₂ bit_xor (h.total bytes hb) (ap₂ (λ (x : A) (n : ℕ). act x (bytes lag n)) is place)
            ∙ xor_assoc before here (part code m j bytes lag i)
            ∙ ap (bit_xor before) (sym (sum_below_more 0 bit_xor i (part code m j bytes lag)));
      }

module _ {A : Type 0} {IsElement : A → Type 0} {zero one : A} {add mul : A → A → A} {act : A → ℕ → ℕ} (action : IsAction IsElement zero one add mul act) where
  -- none where the coefficient is zero
  pub HasTerms-skip : (code : Code A) (m j lag i : ℕ) (s : Sum A) → coefficient zero code lag i j ≡ zero → HasTerms zero act code m j lag i s → HasTerms zero act code m j lag (i + 1) s
  HasTerms-skip code m j lag i s e h =
      record {
        paired = h.paired;
        nonzero = h.nonzero;
        within = h.within;
        total = λ bytes hb.
            let before : ℕ = sum_below 0 bit_xor lag (λ lag. sum_below 0 bit_xor code.k (part zero act code m j bytes lag)) in
            let here : ℕ = sum_below 0 bit_xor i (part zero act code m j bytes lag) in
            h.total bytes hb
            ∙ ap (bit_xor before)
            (sym (sum_below_more 0 bit_xor i (part zero act code m j bytes lag)
            ∙ ap (bit_xor here) (ap (λ (x : A). act x (bytes lag (i * m))) e ∙ action.by_zero (bytes lag (i * m)) (hb lag (i * m))) ∙ xor_zero_r here));
      }

-- ---- the kernel's sum
module _ {A T : Type 0} (act : A → ℕ → ℕ) (coefficient_of : T → A) (place : T → ℕ) where
  sum_at-dot : (terms : List T) (src : List ℕ) (c x : ℕ) → sum_at (λ t. act (coefficient_of t)) place terms src c x ≡ bit_xor x (dot 0 bit_xor act (map coefficient_of terms) (map (λ at. get_or src (at + c) 0) (map place terms)))
  sum_at-dot [] src c x = sym (xor_zero_r x)
  sum_at-dot (t ∷ terms) src c x =
      let y : ℕ = act (coefficient_of t) (get_or src (place t + c) 0) in
      sum_at-dot terms src c (bit_xor x y) ∙ xor_assoc x y (dot 0 bit_xor act (map coefficient_of terms) (map (λ at. get_or src (at + c) 0) (map place terms)))

  same_bytes : {S : Type 0} (where_is : S → ℕ) (pair : S → ℕ × ℕ) (src : List ℕ) (c : ℕ) (bytes : ℕ → ℕ → ℕ) → ((x : S) → get_or src (where_is x + c) 0 ≡ bytes (pair x).0 (pair x).1)
      → (xs : List S) → map (λ at. get_or src (at + c) 0) (map where_is xs) ≡ map (λ (spot : ℕ × ℕ). bytes spot.0 spot.1) (map pair xs)
  same_bytes where_is pair src c bytes each [] = refl
  same_bytes where_is pair src c bytes each (x ∷ xs) = ap₂ (λ (y : ℕ) (ys : List ℕ). y ∷ ys) (each x) (same_bytes where_is pair src c bytes each xs)

  -- The sum of terms from zero on, where each term's place is that of its spot.
  pub sum_at-sum_of : {S : Type 0} (terms : List T) (spots : List S) (where_is : S → ℕ) (src : List ℕ) (c : ℕ) (s : Sum A) (bytes : ℕ → ℕ → ℕ) (pair : S → ℕ × ℕ) → map place terms ≡ map where_is spots → map coefficient_of terms ≡ s.coefficients → map pair spots ≡ s.spots
      → ((x : S) → get_or src (where_is x + c) 0 ≡ bytes (pair x).0 (pair x).1)
      → sum_at (λ t. act (coefficient_of t)) place terms src c 0 ≡ sum_of act s bytes
  sum_at-sum_of terms spots where_is src c s bytes pair places coefficients pairs each =
      sum_at-dot terms src c 0 ∙ xor_zero_l (dot 0 bit_xor act (map coefficient_of terms) (map (λ at. get_or src (at + c) 0) (map place terms)))
      ∙ ap₂ (dot 0 bit_xor act) coefficients
      (ap (map (λ at. get_or src (at + c) 0)) places ∙ same_bytes where_is pair src c bytes each spots ∙ ap (map (λ (spot : ℕ × ℕ). bytes spot.0 spot.1)) pairs)

-- ---- each term's place in the ring
module _ {T : Type 0} (place : T → ℕ) where
  pub placed_more : (terms : List T) (target : List ℕ) (x : ℕ) (t : T) → x < length terms → place t ≡ get_or target x 0 → ((y : ℕ) → y < x → get_or (map place terms) y 0 ≡ get_or target y 0)
      → (y : ℕ) → y < x + 1 → get_or (map place (set terms x t)) y 0 ≡ get_or target y 0
  placed_more terms target x t within here before y lt =
      let l = length-map terms place in
      elim (cases_lt y x) [
        | inl low ↦ ap (λ (ns : List ℕ). get_or ns y 0) (map-set place terms x t) ∙ get_or-set_other (map place terms) x y (place t) 0 (λ e. (let no : y ≢ x = omega arith in no e)) ∙ before y low
        | inr last ↦
            let e : y ≡ x = omega arith in
            ap₂ (λ (ns : List ℕ) (n : ℕ). get_or ns n 0) (map-set place terms x t) e ∙ get_or-set_same (map place terms) x (place t) 0 (omega arith) ∙ here ∙ ap (λ (n : ℕ). get_or target n 0) (sym e)
      ]

  pub placed_all : (terms : List T) (target : List ℕ) (x : ℕ) → length target ≡ length terms → length terms ≤ x → ((y : ℕ) → y < x → get_or (map place terms) y 0 ≡ get_or target y 0) → map place terms ≡ target
  placed_all terms target x e le h =
      let l = length-map terms place in
      same_number_lists (map place terms) target (l ∙ sym e) (λ k lt. h k (omega arith))

  -- a term lies within the bytes where its spot does
  pub terms_within : {S : Type 0} (terms : List T) (spots : List S) (where_is : S → ℕ) (m total : ℕ) → map place terms ≡ map where_is spots → All (λ s. where_is s + m ≤ total) spots → All (λ t. place t + m ≤ total) terms
  terms_within terms spots where_is m total e h k d lt =
      let all : All (λ n. n + m ≤ total) (map place terms) = rw e (All-map (λ n. n + m ≤ total) where_is spots h) in
      let l = length-map terms place in
      subst (λ (n : ℕ). n + m ≤ total) (get_or-map place terms k d (place d) lt) (all k (place d) (omega arith))

-- what holds of each image holds of what it is the image of
pub All-unmap : {X Y : Type 0} (P : Y → Type 0) (f : X → Y) (xs : List X) → All P (map f xs) → All (λ x. P (f x)) xs
All-unmap P f xs h k d lt = let l = length-map xs f in subst P (get_or-map f xs k d (f d) lt) (h k (f d) (omega arith))

-- one item more, where what holds of an item depends on its place
pub each_more : {X : Type 0} (P : ℕ → X → Type 0) (xs : List X) (x : X) → ((i : ℕ) (d : X) → i < length xs → P i (get_or xs i d)) → P (length xs) x → (i : ℕ) (d : X) → i < length (xs ++ x ∷ []) → P i (get_or (xs ++ x ∷ []) i d)
each_more P xs x h here i d lt =
    let l = length-append xs (x ∷ []) in
    elim (cases_lt i (length xs)) [
      | inl before ↦ subst (P i) (sym (get_or_append_left xs (x ∷ []) d i before)) (h i d before)
      | inr last ↦
          let e : length xs ≡ i = omega arith in
          subst (P i) (sym (get_or_at xs x [] d i e)) (subst (λ (n : ℕ). P n x) e here)
    ]

-- spots lie within the ring's bytes
pub spots_within : {S : Type 0} (ring : Ring) (spots : List S) (lag_of at_of : S → ℕ) (m : ℕ) → All (λ place. place + ring.size ≤ length ring.bytes) ring.places
    → All (λ s. (lag_of s < length ring.places) × (at_of s + m ≤ ring.size)) spots → All (λ s. place_of ring (lag_of s) + at_of s + m ≤ length ring.bytes) spots
spots_within ring spots lag_of at_of m within h k d lt =
    let both = h k d lt in
    let low = both.0 in
    let room = within (length ring.places - 1 - lag_of (get_or spots k d)) 0 (omega arith) in
    omega (arith, both.1, room)
