-- How the rows of a list that is cut into rows follow from the list.
use Rattle.std.proofs.Common.{◌≡◌, ℕ, zero, suc, ◌+◌, ◌*◌, ◌<◌, ◌≤◌, List, [], ◌∷◌, ◌++◌, length, get_or, take, drop, set, replicate, All, refl, sym, ◌∙◌, ap, ap₂, ◌-◌, arith, Vec}
use Rattle.std.proofs.lemmas.List.{take_at, drop_at, drop-drop, length-take-le, length-drop, take-append-le, drop-append-le, drop-take, take-replicate, drop-replicate, take_all, drop-set-lt, drop-set-add, take-set-le, take-take, nil_from_length, get_or-take, get_or-drop, length-append, with_items_is}
use Rattle.std.proofs.lemmas.List.Elements.{All-take, All-drop}
use Rattle.std.proofs.lemmas.Nat.{row_fits}
use Rattle.std.proofs.lemmas.Slice.{take-put_mid_below}
use Rattle.std.proofs.Math.Seq.{take-set-lt}
use borrow.Rule.Slice.PartMut.{put_mid}
use Rattle.sc_matrix.specs.Matrix.{entry}
use Rattle.sc_matrix.specs.Vector.{IsVector}
use Rattle.std.specs.Vec.{with_items}
use Rattle.sc_matrix.specs.Layout.{cut, laid_out}

-- the row i lies within the list
pub row_within : (n c i : ℕ) → i < n → i * c + c ≤ n * c
row_within n c i h = row_fits i c n c h (omega arith)

module _ {A : Type 0} where
  pub length-cut : (n c : ℕ) (xs : List A) → length (cut n c xs) ≡ n
  length-cut zero c xs = refl
  length-cut (suc n) c xs = ap suc (length-cut n c (drop c xs))

  -- row i of the cut
  pub get_or-cut : (n c : ℕ) (xs : List A) (i : ℕ) (d : List A) → i < n → get_or (cut n c xs) i d ≡ take c (drop (i * c) xs)
  get_or-cut zero c xs i d h = absurd (omega arith)
  get_or-cut (suc n) c xs zero d h = let e : 0 * c ≡ 0 = omega arith in rw e refl
  get_or-cut (suc n) c xs (suc i) d h =
      let e : suc i * c ≡ c + i * c = omega arith in
      get_or-cut n c (drop c xs) i d (omega arith) ∙ rw (e, drop-drop (i * c) c xs) refl

  -- each row has c entries
  pub vectors-cut : (P : A → Type 0) (n c : ℕ) (xs : List A) → length xs ≡ n * c → All P xs → All (IsVector P c) (cut n c xs)
  vectors-cut P n c xs e a k d h =
      let g = length-cut n c xs in
      let w = row_within n c k (omega arith) in
      rw (get_or-cut n c xs k d (omega arith))
      record { width = length-take-le c (drop (k * c) xs) (rw length-drop (omega arith)); entries = All-take P c _ (All-drop P (k * c) xs a) }

  pub length-row : (n c : ℕ) (xs : List A) (i : ℕ) → length xs ≡ n * c → i < n → length (get_or (cut n c xs) i []) ≡ c
  length-row n c xs i e h =
      let w = row_within n c i h in
      ap length (get_or-cut n c xs i [] h) ∙ length-take-le c (drop (i * c) xs) (rw length-drop (omega arith))

  -- one row more at the end
  pub cut-push : (n c : ℕ) (xs ys : List A) → length xs ≡ n * c → length ys ≡ c → cut n c xs ++ ys ∷ [] ≡ cut (n + 1) c (xs ++ ys)
  cut-push zero c xs ys e f =
      rw (nil_from_length xs (omega arith)) (ap (λ (r : List A). r ∷ []) (sym (take_all c ys (omega arith))))
  cut-push (suc n) c xs ys e f =
      let m : suc n + 1 ≡ suc (n + 1) = omega arith in
      let t : take c (xs ++ ys) ≡ take c xs = take-append-le c xs ys (omega arith) in
      let d : drop c (xs ++ ys) ≡ drop c xs ++ ys = drop-append-le c xs ys (omega arith) in
      let l : length (drop c xs) ≡ n * c = rw length-drop (omega arith) in
      rw (m, t, d) (ap (λ (r : List (List A)). take c xs ∷ r) (cut-push n c (drop c xs) ys l f))

  pub cut-replicate : (n c : ℕ) (z : A) → cut n c (replicate (n * c) z) ≡ replicate n (replicate c z)
  cut-replicate zero c z = refl
  cut-replicate (suc n) c z =
      let t : take c (replicate (suc n * c) z) ≡ replicate c z = take-replicate c (suc n * c) z (omega arith) in
      let m : suc n * c - c ≡ n * c = omega arith in
      let d : drop c (replicate (suc n * c) z) ≡ replicate (n * c) z = drop-replicate c (suc n * c) z ∙ ap (λ k. replicate k z) m in
      rw (t, d, cut-replicate n c z) refl

  -- a write to row a
  pub cut-put_mid : (n c : ℕ) (xs : List A) (a : ℕ) (ys : List A) → length xs ≡ n * c → a < n → length ys ≡ c
      → cut n c (put_mid (a * c) c xs ys) ≡ set (cut n c xs) a ys
  cut-put_mid zero c xs a ys e h f = absurd (omega arith)
  cut-put_mid (suc n) c xs zero ys e h f =
      let z : 0 * c ≡ 0 = omega arith in
      rw (z, take_at ys (drop c xs) c f, drop_at ys (drop c xs) c f) refl
  cut-put_mid (suc n) c xs (suc a) ys e h f =
      let w = row_within n c a (omega arith) in
      let s : suc a * c ≡ c + a * c = omega arith in
      let l = length-take-le (c + a * c) xs (omega arith) in
      let first : take c (put_mid (suc a * c) c xs ys) ≡ take c xs = take-put_mid_below (suc a * c) c xs ys c (omega arith) (omega arith) in
      let rest : drop c (put_mid (suc a * c) c xs ys) ≡ put_mid (a * c) c (drop c xs) ys =
      rw (s, drop-append-le c (take (c + a * c) xs) (ys ++ drop c (drop (c + a * c) xs)) (omega arith), drop-take c (a * c) xs, drop-drop (a * c) c xs) refl in
      ap₂ (λ (u : List A) (us : List (List A)). u ∷ us) first (ap (cut n c) rest ∙ cut-put_mid n c (drop c xs) a ys (omega (arith, length-drop c xs)) (omega arith) f)

  -- a write to the entry at row i and column j
  pub cut-set : (n c : ℕ) (xs : List A) (i j : ℕ) (v : A) → i < n → j < c → set (cut n c xs) i (set (get_or (cut n c xs) i []) j v) ≡ cut n c (set xs (i * c + j) v)
  cut-set zero c xs i j v h k = absurd (omega arith)
  cut-set (suc n) c xs zero j v h k =
      let z : 0 * c + j ≡ j = omega arith in
      rw (z, take-set-lt c xs j v k, drop-set-lt c xs j v k) refl
  cut-set (suc n) c xs (suc i) j v h k =
      let s : suc i * c + j ≡ c + (i * c + j) = omega arith in
      rw (s, take-set-le c xs (c + (i * c + j)) v (omega arith), drop-set-add c xs (i * c + j) v)
      (ap (λ (us : List (List A)). take c xs ∷ us) (cut-set n c (drop c xs) i j v (omega arith) k))

  -- the first k rows
  pub cut-take : (n k c : ℕ) (xs : List A) → k ≤ n → take k (cut n c xs) ≡ cut k c (take (k * c) xs)
  cut-take n zero c xs h = refl
  cut-take zero (suc k) c xs h = absurd (omega arith)
  cut-take (suc n) (suc k) c xs h =
      let e : suc k * c ≡ c + k * c = omega arith in
      let first : take c (take (suc k * c) xs) ≡ take c xs = take-take c (suc k * c) xs (omega arith) in
      let rest : drop c (take (suc k * c) xs) ≡ take (k * c) (drop c xs) = rw e (drop-take c (k * c) xs) in
      rw (first, rest) (ap (λ (r : List (List A)). take c xs ∷ r) (cut-take n k c (drop c xs) (omega arith)))

  -- ---- where the code has the first place s of row i
  -- the row as the part of the list from its first entry to its last
  pub row_part : (n c : ℕ) (xs : List A) (i s : ℕ) → s ≡ i * c → i < n → take ((s + c) - s) (drop s xs) ≡ get_or (cut n c xs) i []
  row_part n c xs i s e h = let k : (s + c) - s ≡ c = omega arith in rw (k, e, get_or-cut n c xs i [] h) refl

  pub entry_part : (n c : ℕ) (xs : List A) (z : A) (i j s : ℕ) → s ≡ i * c → i < n → j < c → get_or xs (s + j) z ≡ entry z (laid_out n c xs) i j
  entry_part n c xs z i j s e h k =
      rw (e, get_or-cut n c xs i [] h, get_or-take c (drop (i * c) xs) j z k) (sym (get_or-drop (i * c) xs j z))

  pub length-put_mid : (a k : ℕ) (xs ys : List A) → a + k ≤ length xs → length ys ≡ k → length (put_mid a k xs ys) ≡ length xs
  length-put_mid a k xs ys h e =
      let t = length-take-le a xs (omega arith) in
      simp (length-append, length-drop, t, e) (omega arith)

  -- the items of a `Vec` whose slice has been written
  pub items_written : {Z : Type 0} (v : Vec A Z) (zs : List A) → length zs ≡ length v.items → (with_items v zs).items ≡ zs
  items_written v zs l = with_items_is v zs (l ∙ sym v.ok.0)
