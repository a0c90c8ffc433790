-- Bytes that are zero but for some that lie together: what is done to these is done to all.
use Rattle.std.proofs.Common.{◌≡◌, ℕ, ◌+◌, ◌-◌, ◌<◌, ◌≤◌, List, ◌++◌, length, get_or, set, map, take, drop, replicate, bit_xor, min, max, inl, inr, sym, ◌∙◌, ap, ap₂, subst, arith}
use Rattle.std.specs.Int.Bits.{xor_zero_r}
use Rattle.std.proofs.lemmas.List.{length-map, length-set, get_or-set_same, get_or-set_other, length-take-le, length-drop, length-replicate, length-append, get_or-map, get_or-take, get_or-drop, get_or-replicate, get_or_append_left, get_or-append_right, get_or_past, ext_get_or}
use Rattle.std.proofs.lemmas.Bool.{cases_eq, cases_lt}
use borrow.Rule.Slice.PartMut.{put_mid}
use Rattle.sc_field.specs.Scale.{scaled_sum}
use Rattle.sc_matrix.proofs.VectorLaws.{length-add_vectors, get_or-add_vectors}
use Rattle.sc_matrix.proofs.LayoutLaws.{length-put_mid}
use Rattle.sc_matrix.proofs.ByteSteps.{scaled_sum_is}
use Rattle.sc_echelon.specs.Touched.{IsTouched, IsTouchedRow}

-- ---- a part of a list is written
module _ {X : Type 0} (a k : ℕ) (xs ys : List X) (fits : a + k ≤ length xs) (size : length ys ≡ k) (j : ℕ) (d : X) where
  front : length (take a xs) ≡ a
  front = length-take-le a xs (omega arith)

  pub put_mid-below : j < a → get_or (put_mid a k xs ys) j d ≡ get_or xs j d
  put_mid-below l = let f = front in get_or_append_left (take a xs) (ys ++ drop k (drop a xs)) d j (omega arith) ∙ get_or-take a xs j d l

  pub put_mid-in : a ≤ j → j < a + k → get_or (put_mid a k xs ys) j d ≡ get_or ys (j - a) d
  put_mid-in l m = get_or-append_right (take a xs) (ys ++ drop k (drop a xs)) a j d front l ∙ get_or_append_left ys (drop k (drop a xs)) d (j - a) (omega arith)

  pub put_mid-past : a + k ≤ j → get_or (put_mid a k xs ys) j d ≡ get_or xs j d
  put_mid-past l =
      get_or-append_right (take a xs) (ys ++ drop k (drop a xs)) a j d front (omega arith)
      ∙ get_or-append_right ys (drop k (drop a xs)) k (j - a) d size (omega arith)
      ∙ get_or-drop k (drop a xs) (j - a - k) d ∙ get_or-drop a xs (k + (j - a - k)) d
      ∙ ap (λ (i : ℕ). get_or xs i d) (omega arith)

-- a list is that part and what lies around it
whole : {X : Type 0} (a k : ℕ) (xs ys zs : List X) (d : X) → a + k ≤ length xs → length ys ≡ k → length zs ≡ length xs → ((j : ℕ) → j < a → get_or zs j d ≡ get_or xs j d) → ((j : ℕ) → j < k → get_or zs (a + j) d ≡ get_or ys j d)
    → ((j : ℕ) → a + k ≤ j → j < length xs → get_or zs j d ≡ get_or xs j d) → put_mid a k xs ys ≡ zs
whole a k xs ys zs d fits size same below inside past =
    let l = length-put_mid a k xs ys fits size in
    ext_get_or d (put_mid a k xs ys) zs (omega arith)
    (λ j h. elim (cases_lt j a) [
      | inl low ↦ (put_mid-below a k xs ys fits size j d low ∙ sym (below j low))
      | inr high ↦
          elim (cases_lt j (a + k)) [
            | inl in_it ↦
                (let at : a + (j - a) ≡ j = omega arith in
                put_mid-in a k xs ys fits size j d high in_it ∙ sym (inside (j - a) (omega arith)) ∙ ap (λ (i : ℕ). get_or zs i d) at)
            | inr far ↦ (put_mid-past a k xs ys fits size j d far ∙ sym (past j far (omega arith)))
          ]
    ])

pub length_mid : {X : Type 0} (a k : ℕ) (xs : List X) → a + k ≤ length xs → length (take k (drop a xs)) ≡ k
length_mid a k xs h = let d = length-drop a xs in length-take-le k (drop a xs) (omega arith)

get_mid : {X : Type 0} (a k j : ℕ) (xs : List X) (d : X) → j < k → get_or (take k (drop a xs)) j d ≡ get_or xs (a + j) d
get_mid a k j xs d l = get_or-take k (drop a xs) j d l ∙ get_or-drop a xs j d

-- ---- a multiple of the row is added
pub get_or-sum : (f : ℕ → ℕ) (us vs : List ℕ) (j : ℕ) → length vs ≡ length us → j < length us → get_or (scaled_sum f us vs) j 0 ≡ bit_xor (get_or us j 0) (f (get_or vs j 0))
get_or-sum f us vs j e l =
    let m = length-map vs f in
    ap (λ (xs : List ℕ). get_or xs j 0) (scaled_sum_is f us vs e) ∙ get_or-add_vectors bit_xor us (map f vs) j 0 (omega arith) l
    ∙ ap (bit_xor (get_or us j 0)) (get_or-map f vs j 0 0 (omega arith))

pub length-sum : (f : ℕ → ℕ) (us vs : List ℕ) → length vs ≡ length us → length (scaled_sum f us vs) ≡ length us
length-sum f us vs e = let m = length-map vs f in ap length (scaled_sum_is f us vs e) ∙ length-add_vectors bit_xor us (map f vs) (omega arith)

-- where nothing is added
sum_kept : (f : ℕ → ℕ) (us vs : List ℕ) (j : ℕ) → f 0 ≡ 0 → length vs ≡ length us → j < length us → get_or vs j 0 ≡ 0 → get_or (scaled_sum f us vs) j 0 ≡ get_or us j 0
sum_kept f us vs j none e l z = get_or-sum f us vs j e l ∙ ap (bit_xor (get_or us j 0)) (ap f z ∙ none) ∙ xor_zero_r (get_or us j 0)

pub sum-touched : (f : ℕ → ℕ) (us vs : List ℕ) (from end : ℕ) → f 0 ≡ 0 → length vs ≡ length us → IsTouched from end vs
    → put_mid from (end - from) us (scaled_sum f (take (end - from) (drop from us)) (take (end - from) (drop from vs))) ≡ scaled_sum f us vs
sum-touched f us vs from end none e touched =
    let k = end - from in
    let o = touched.order in
    let w = touched.within in
    let mu = length_mid from (end - from) us (omega arith) in
    let mv = length_mid from (end - from) vs (omega arith) in
    let lm = length-sum f (take (end - from) (drop from us)) (take (end - from) (drop from vs)) (omega arith) in
    whole from (end - from) us (scaled_sum f (take (end - from) (drop from us)) (take (end - from) (drop from vs))) (scaled_sum f us vs) 0 (omega arith) (omega arith) (length-sum f us vs e)
    (λ j l. sum_kept f us vs j none e (omega arith) (touched.before j l))
    (λ j l.
    get_or-sum f us vs (from + j) e (omega arith)
    ∙ ap₂ (λ (x y : ℕ). bit_xor x (f y)) (sym (get_mid from (end - from) j us 0 l)) (sym (get_mid from (end - from) j vs 0 l))
    ∙ sym (get_or-sum f (take (end - from) (drop from us)) (take (end - from) (drop from vs)) j (omega arith) (omega arith)))
    (λ j l h. sum_kept f us vs j none e h (touched.after j (omega arith)))

-- and the sum is zero where both are
pub IsTouched-sum : (f : ℕ → ℕ) (us vs : List ℕ) (a b c d : ℕ) → f 0 ≡ 0 → length vs ≡ length us → IsTouched a b us → IsTouched c d vs → IsTouched (min a c) (max b d) (scaled_sum f us vs)
IsTouched-sum f us vs a b c d none e hu hv =
    let ou = hu.order in
    let ov = hv.order in
    let wu = hu.within in
    let wv = hv.within in
    let l = length-sum f us vs e in
    let zero : (j : ℕ) → get_or us j 0 ≡ 0 → get_or vs j 0 ≡ 0 → get_or (scaled_sum f us vs) j 0 ≡ 0 =
    (λ j zu zv. elim (cases_lt j (length us)) [
      | inl h ↦ (sum_kept f us vs j none e h zv ∙ zu)
      | inr past ↦ get_or_past (scaled_sum f us vs) j 0 (omega arith)
    ]) in
    record {
      order = omega arith;
      within = omega arith;
      before = λ j h. zero j (hu.before j (omega arith)) (hv.before j (omega arith));
      after = λ j h. zero j (hu.after j (omega arith)) (hv.after j (omega arith));
    }

-- ---- the row is multiplied
pub map-touched : (f : ℕ → ℕ) (us : List ℕ) (from end : ℕ) → f 0 ≡ 0 → IsTouched from end us → put_mid from (end - from) us (map f (take (end - from) (drop from us))) ≡ map f us
map-touched f us from end none touched =
    let o = touched.order in
    let w = touched.within in
    let lm = length_mid from (end - from) us (omega arith) in
    let lf = length-map (take (end - from) (drop from us)) f in
    whole from (end - from) us (map f (take (end - from) (drop from us))) (map f us) 0 (omega arith) (omega arith) (length-map us f)
    (λ j l. get_or-map f us j 0 0 (omega arith) ∙ ap f (touched.before j l) ∙ none ∙ sym (touched.before j l))
    (λ j l.
    get_or-map f us (from + j) 0 0 (omega arith) ∙ ap f (sym (get_mid from (end - from) j us 0 l))
    ∙ sym (get_or-map f (take (end - from) (drop from us)) j 0 0 (omega arith)))
    (λ j l h. get_or-map f us j 0 0 h ∙ ap f (touched.after j (omega arith)) ∙ none ∙ sym (touched.after j (omega arith)))

pub IsTouched-map : (f : ℕ → ℕ) (us : List ℕ) (from end : ℕ) → f 0 ≡ 0 → IsTouched from end us → IsTouched from end (map f us)
IsTouched-map f us from end none h =
    let w = h.within in
    let l = length-map us f in
    let zero : (j : ℕ) → get_or us j 0 ≡ 0 → get_or (map f us) j 0 ≡ 0 =
    (λ j z. elim (cases_lt j (length us)) [
      | inl lt ↦ (get_or-map f us j 0 0 lt ∙ ap f z ∙ none)
      | inr past ↦ get_or_past (map f us) j 0 (omega arith)
    ]) in
    record { order = h.order; within = omega arith; before = λ j lt. zero j (h.before j lt); after = λ j ge. zero j (h.after j ge) }

-- ---- a place is cleared
pub IsTouched-clear : (us : List ℕ) (i from end : ℕ) → IsTouched from end us → IsTouched from end (set us i 0)
IsTouched-clear us i from end h =
    let w = h.within in
    let l = length-set us i 0 in
    let zero : (j : ℕ) → get_or us j 0 ≡ 0 → get_or (set us i 0) j 0 ≡ 0 =
    (λ j z. elim (cases_lt j (length us)) [
      | inl lt ↦
          elim (cases_eq j i) [
            | inl e ↦ (ap (λ (k : ℕ). get_or (set us i 0) k 0) e ∙ get_or-set_same us i 0 0 (omega arith))
            | inr ne ↦ (get_or-set_other us i j 0 0 ne ∙ z)
          ]
      | inr past ↦ get_or_past (set us i 0) j 0 (omega arith)
    ]) in
    record { order = h.order; within = omega arith; before = λ j lt. zero j (h.before j lt); after = λ j ge. zero j (h.after j ge) }

-- ---- the front is forgotten
-- what is read of a list without its first elements that has zeros at its end
get_shifted : (c j : ℕ) (xs : List ℕ) → c ≤ length xs → ◌≡◌ {A = ℕ} (get_or (drop c xs ++ replicate c 0) j 0) (get_or xs (c + j) 0)
get_shifted c j xs h =
    let d = length-drop c xs in
    let r = length-replicate {A = ℕ} c 0 in
    elim (cases_lt j (length xs - c)) [
      | inl l ↦ (get_or_append_left (drop c xs) (replicate c 0) 0 j (omega arith) ∙ get_or-drop c xs j 0)
      | inr past ↦
          (get_or-append_right (drop c xs) (replicate c 0) (length xs - c) j 0 (omega arith) past
          ∙ zeros (j - (length xs - c)) ∙ sym (get_or_past xs (c + j) 0 (omega arith)))
    ] where
      zeros : (i : ℕ) → ◌≡◌ {A = ℕ} (get_or (replicate c 0) i 0) 0
      zeros i = elim (cases_lt i c) [
        | inl l ↦ get_or-replicate c i 0 0 l
        | inr past ↦ get_or_past (replicate c 0) i 0 (let r' = length-replicate {A = ℕ} c 0 in omega arith)
      ]

pub IsTouched-shifted : (c from end : ℕ) (xs : List ℕ) → c ≤ length xs → IsTouched from end xs → IsTouched (from - c) (end - c) (drop c xs ++ replicate c 0)
IsTouched-shifted c from end xs h touched =
    let o = touched.order in
    let w = touched.within in
    let d = length-drop c xs in
    let r = length-replicate {A = ℕ} c 0 in
    let l = length-append (drop c xs) (replicate c 0) in
    record {
      order = omega arith;
      within = omega arith;
      before = λ j l. get_shifted c j xs h ∙ touched.before (c + j) (omega arith);
      after = λ j l. get_shifted c j xs h ∙ touched.after (c + j) (omega arith);
    }

pub IsTouchedRow-same : (P : ℕ → Type 0) (from end : ℕ) (xs ys : List ℕ) → xs ≡ ys → IsTouchedRow P from end ys → IsTouchedRow P from end xs
IsTouchedRow-same P from end xs ys e h = subst (λ (zs : List ℕ). IsTouchedRow P from end zs) (sym e) h

-- from what was read of a list
pub IsTouched-read : (from end : ℕ) (xs ys zs : List ℕ) → xs ≡ ys → xs ≡ zs → from ≤ end → end ≤ length zs → ((j : ℕ) → j < from → get_or ys j 0 ≡ 0) → ((j : ℕ) → end ≤ j → get_or zs j 0 ≡ 0) → IsTouched from end xs
IsTouched-read from end xs ys zs e f order within before after = record {
  order = order;
  within = (let l = ap length f in omega arith);
  before = λ j l. ap (λ (us : List ℕ). get_or us j 0) e ∙ before j l;
  after = λ j l. ap (λ (us : List ℕ). get_or us j 0) f ∙ after j l;
}

-- fewer zeros are left out on both sides
pub IsTouched-wider : (xs : List ℕ) (from end first last : ℕ) → first ≤ from → end ≤ last → last ≤ length xs → IsTouched from end xs → IsTouched first last xs
IsTouched-wider xs from end first last a b fits h = record {
  order = (let o = h.order in omega arith);
  within = fits;
  before = λ j l. h.before j (omega arith);
  after = λ j l. h.after j (omega arith);
}

-- more zeros are left out on both sides
pub IsTouched-trimmed : (xs ys : List ℕ) (a b from end : ℕ) → ys ≡ xs → IsTouched a b xs → from ≤ end → end ≤ b → ((j : ℕ) → a ≤ j → j < from → get_or ys j 0 ≡ 0) → ((j : ℕ) → end ≤ j → j < b → get_or ys j 0 ≡ 0) → IsTouched from end xs
IsTouched-trimmed xs ys a b from end e h order within before after =
    let same : (j : ℕ) → get_or ys j 0 ≡ 0 → get_or xs j 0 ≡ 0 = λ j z. ap (λ (us : List ℕ). get_or us j 0) (sym e) ∙ z in
    record {
      order = order;
      within = (let w = h.within in omega arith);
      before = λ j l. elim (cases_lt j a) [
        | inl low ↦ h.before j low
        | inr high ↦ same j (before j high l)
      ];
      after = λ j l. elim (cases_lt j b) [
        | inl low ↦ same j (after j l low)
        | inr past ↦ h.after j past
      ];
    }
