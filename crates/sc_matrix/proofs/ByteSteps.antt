-- What the kernels make of rows in memory: a sum of vectors, a row of which the end is written, and two rows exchanged. The
-- search takes `rows_steps` for the functions of src/rows.rt.
use Rattle.std.proofs.Common.{◌≡◌, ◌≢◌, ℕ, ◌+◌, ◌-◌, ◌*◌, ◌<◌, ◌≤◌, ◌⊎◌, inl, inr, List, [], ◌∷◌, ◌++◌, length, get_or, set, swap, map, take, drop, replicate, bit_xor, refl, sym, ◌∙◌, ap, ap₂, arith}
use Rattle.std.proofs.lemmas.Bool.{cases_lt}
use Rattle.std.proofs.lemmas.List.{append_assoc, length-map, length-append, length-take-le, length-drop, drop-drop, take-take, drop-take, set_comm, take_all, with_items_is, get_or-take, get_or-drop, length-replicate, length-set, get_or-replicate, get_or-set_other, get_or-map, ext_get_or, map_push, map_more, take-map}
use Rattle.std.proofs.lemmas.List.Edits.{swap_is}
use Rattle.std.proofs.lemmas.List.FromFn.{length-range_with_len, get_or-range_with_len}
use Rattle.std.proofs.lemmas.Grind.{take_at_read, get_or-set_at}
use Rattle.std.proofs.Math.Seq.{take-add}
use borrow.Rule.Slice.PartMut.{put_mid}
use Rattle.sc_field.specs.Scale.{scaled_sum}
use Rattle.sc_matrix.specs.Vector.{IsVector, add_vectors, combination}
use Rattle.sc_matrix.specs.Layout.{cut}
use Rattle.sc_matrix.proofs.VectorLaws.{length-add_vectors, length-combination}
use Rattle.sc_matrix.proofs.Modules.{vectors_none_left-bytes}
use Rattle.sc_matrix.proofs.LayoutLaws.{row_within, length-cut, length-row, get_or-cut, cut-set, cut-put_mid, cut-take, cut-push, cut-replicate, length-put_mid, vectors-cut}

pub rows_apart : (a b c : ℕ) → a ≢ b → (a * c + c ≤ b * c) ⊎ (b * c + c ≤ a * c)
rows_apart a b c ne = elim (cases_lt a b) [ inl lt ↦ inl (row_within b c a lt) | inr ge ↦ inr (row_within a c b (omega arith)) ]

-- ---- lists
-- a list whose entries are the images of those of another
pub mapped_all : {X Y : Type 0} (f : X → Y) (xs : List X) (ys : List Y) (d : X) (e : Y) → length ys ≡ length xs → ((k : ℕ) → k < length xs → get_or ys k e ≡ f (get_or xs k d)) → ys ≡ map f xs
mapped_all f xs ys d e l each =
    ext_get_or e ys (map f xs) (l ∙ sym (length-map xs f)) (λ k h. each k (omega arith) ∙ sym (get_or-map f xs k d e (omega arith)))

-- the image of one entry more
pub mapped_more : {X : Type 0} (f : ℕ → X) (ks : List ℕ) (n : ℕ) → n < length ks → take (n + 1) (map f ks) ≡ take n (map f ks) ++ f (get_or ks n 0) ∷ []
mapped_more f ks n h = simp (take-map, map_more f ks n 0 h)

-- ---- rows side by side
module _ {A : Type 0} where
  pub rows_filled : (n c : ℕ) (z : A) → replicate n (replicate c z) ≡ cut n c (replicate (n * c) z)
  rows_filled n c z = sym (cut-replicate n c z)

  pub row_put : (n c : ℕ) (xs : List A) (a : ℕ) (ys : List A) → length xs ≡ n * c → a < n → length ys ≡ c → set (cut n c xs) a ys ≡ cut n c (put_mid (a * c) c xs ys)
  row_put n c xs a ys e h f = sym (cut-put_mid n c xs a ys e h f)

  -- a write behind the first f entries of a row
  pub row_end_written : (c : ℕ) (xs ys : List A) (s f : ℕ) → s + c ≤ length xs → f ≤ c → put_mid (s + f) (c - f) xs ys ≡ put_mid s c xs (take f (take c (drop s xs)) ++ ys)
  row_end_written c xs ys s f room h =
      let e : s + f + (c - f) ≡ s + c = omega arith in
      simp (take-add, take-take f c (drop s xs) h, drop-drop, e, append_assoc)

  module _ (n c : ℕ) (xs : List A) (whole : length xs ≡ n * c) where
    -- the entries of row a from place f on
    row_end : (a f : ℕ) → a < n → f ≤ c → drop f (get_or (cut n c xs) a []) ≡ take (c - f) (drop (a * c + f) xs)
    row_end a f h le =
        let k : c ≡ f + (c - f) = omega arith in
        ap (drop f) (get_or-cut n c xs a [] h ∙ ap (λ m. take m (drop (a * c) xs)) k) ∙ simp (drop-take, drop-drop)

    row_end_put : (a f : ℕ) (zs : List A) → a < n → f ≤ c → length zs ≡ c - f → set (cut n c xs) a (take f (get_or (cut n c xs) a []) ++ zs) ≡ cut n c (put_mid (a * c + f) (c - f) xs zs)
    row_end_put a f zs h le l =
        let w = row_within n c a h in
        let u = get_or (cut n c xs) a [] in
        let lu = length-row n c xs a whole h in
        let lf = length-take-le f u (omega arith) in
        row_put n c xs a _ whole h (omega (arith, length-append (take f u) zs))
        ∙ ap (cut n c) (rw (get_or-cut n c xs a [] h) (sym (row_end_written c xs zs (a * c) f (omega arith) le)))

    pub rows_swapped : (a b : ℕ) → a < n → b < n → a ≢ b
        → (swap (cut n c xs) a b ≡ cut n c (put_mid (a * c) c (put_mid (b * c) c xs (take c (drop (a * c) xs))) (take c (drop (b * c) xs))))
        × (swap (cut n c xs) a b ≡ cut n c (put_mid (b * c) c (put_mid (a * c) c xs (take c (drop (b * c) xs))) (take c (drop (a * c) xs))))
    rows_swapped a b ha hb ne =
        let fa = row_within n c a ha in
        let fb = row_within n c b hb in
        let rows : List (List A) = cut n c xs in
        let wa = length-row n c xs a whole ha in
        let wb = length-row n c xs b whole hb in
        let k = length-cut n c xs in
        let is : set (set rows a (get_or rows b [])) b (get_or rows a []) ≡ swap rows a b = swap_is rows a b [] (omega arith) (omega arith) in
        grind (arith, set_comm, get_or-cut, cut-put_mid, length-put_mid, is)

-- ---- sums
-- the sum that the kernel makes is one of vectors
pub scaled_sum_is : (f : ℕ → ℕ) (dst src : List ℕ) → length src ≡ length dst → scaled_sum f dst src ≡ add_vectors bit_xor dst (map f src)
scaled_sum_is f [] src e = refl
scaled_sum_is f (d ∷ dst) [] e = absurd (omega arith)
scaled_sum_is f (d ∷ dst) (s ∷ src) e = ap (λ (xs : List ℕ). bit_xor d (f s) ∷ xs) (scaled_sum_is f dst src (omega arith))

-- to row a the images of row b are added, from place f on
pub row_added : (n c : ℕ) (xs : List ℕ) (a b f : ℕ) (g : ℕ → ℕ) → length xs ≡ n * c → a < n → b < n → f ≤ c
    → set (cut n c xs) a (take f (get_or (cut n c xs) a []) ++ add_vectors bit_xor (drop f (get_or (cut n c xs) a [])) (map g (drop f (get_or (cut n c xs) b []))))
    ≡ cut n c (put_mid (a * c + f) (c - f) xs (scaled_sum g (take (c - f) (drop (a * c + f) xs)) (take (c - f) (drop (b * c + f) xs))))
row_added n c xs a b f g whole ha hb le =
    let u = drop f (get_or (cut n c xs) a []) in
    let v = drop f (get_or (cut n c xs) b []) in
    let lu : length u ≡ c - f = simp (length-drop, length-row n c xs a whole ha) in
    let lv : length v ≡ c - f = simp (length-drop, length-row n c xs b whole hb) in
    let sum = length-add_vectors bit_xor u (map g v) (omega (arith, length-map v g)) in
    row_end_put n c xs whole a f (add_vectors bit_xor u (map g v)) ha le (omega arith)
    ∙ ap (λ (zs : List ℕ). cut n c (put_mid (a * c + f) (c - f) xs zs))
    (sym (scaled_sum_is g u v (omega arith)) ∙ ap₂ (scaled_sum g) (row_end n c xs whole a f ha le) (row_end n c xs whole b f hb le))

-- the first combination of rows that is added to zeros
pub sum_begins : {C : Type 0} (act : C → ℕ → ℕ) (n c : ℕ) (xs : List ℕ) (cs : List C) → length xs ≡ n * c
    → add_vectors bit_xor (replicate c 0) (combination 0 bit_xor act c cs (cut n c xs)) ≡ combination 0 bit_xor act c cs (cut n c xs)
sum_begins act n c xs cs e =
    let rows : IsVector (IsVector (λ (x : ℕ). Unit {0}) c) n (cut n c xs) = record { width = length-cut n c xs; entries = vectors-cut _ n c xs e (λ k d h. tt) } in
    vectors_none_left-bytes c _ (length-combination 0 bit_xor act c cs (cut n c xs) rows)

pub ruleset rows_steps = (length-replicate, length-set, get_or-replicate, get_or-set_at, get_or-set_other, mapped_more, length-map, length-append, get_or-range_with_len, length-range_with_len, take_at_read, map_push, append_assoc, row_put, cut-set, cut-take, cut-push, rows_filled, get_or-cut, length-cut, length-put_mid, with_items_is, take_all, get_or-take, get_or-drop)

pub ruleset two_rows = (rows_apart, rows_swapped, row_added, rows_steps)
