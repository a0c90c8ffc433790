-- What the calls on a window do to its bytes.
use Rattle.std.proofs.Common.{◌≡◌, ℕ, ◌+◌, ◌-◌, ◌≤◌, List, ◌++◌, length, take, drop, replicate, sym, ap, ap₂, ◌∙◌, subst, arith}
use Rattle.std.proofs.lemmas.List.{length-replicate, length-append, length-take-le, length-drop, take-append-drop, drop-append-le, drop-drop, drop_at, take_at, drop-replicate, replicate-append-replicate, append_assoc, append-nil, take-take, drop-take}
use Rattle.std.proofs.Math.Seq.{take-append-add, drop-length}
use Rattle.std.proofs.lemmas.Slice.{drop-put_mid}
use borrow.Rule.Slice.PartMut.{put_mid}
use Rattle.sc_matrix.proofs.LayoutLaws.{length-put_mid}
use Rattle.sc_echelon.specs.Window.{IsWindow}

module _ (count from : ℕ) (bytes : List ℕ) (h : IsWindow count from bytes) where
  pub window_long : length (take count (drop from bytes)) ≡ count
  window_long = length-take-le count (drop from bytes) (let l = length-drop from bytes in let w = h.within in omega arith)

  -- what is left behind the first bytes of the window: the rest of it, and the zeros
  rest_is : (skip : ℕ) → skip ≤ count → drop (from + skip) bytes ≡ drop skip (take count (drop from bytes)) ++ replicate (length bytes - (from + count)) 0
  rest_is skip le =
      let lt = window_long in
      let split : drop from bytes ≡ take count (drop from bytes) ++ replicate (length bytes - (from + count)) 0 =
      sym (take-append-drop count (drop from bytes)) ∙ ap (λ (b : List ℕ). take count (drop from bytes) ++ b) (drop-drop count from bytes ∙ h.zeros) in
      sym (drop-drop skip from bytes) ∙ ap (drop skip) split
      ∙ drop-append-le skip (take count (drop from bytes)) (replicate (length bytes - (from + count)) 0) (omega arith)

  -- so many bytes of a list that goes on with enough zeros
  module _ (skip more rest : ℕ) (le : skip ≤ count) (enough : more ≡ skip + rest) where
    pub with_zeros : take count (drop skip (take count (drop from bytes)) ++ replicate more 0) ≡ drop skip (take count (drop from bytes)) ++ replicate skip 0
    with_zeros =
        let w : List ℕ = drop skip (take count (drop from bytes)) in
        let lt = window_long in
        let lw = length-drop skip (take count (drop from bytes)) in
        let lr = length-replicate {A = ℕ} skip 0 in
        let la = length-append w (replicate skip 0) in
        ap (λ (x : ℕ). take count (w ++ replicate x 0)) enough
        ∙ ap (λ (b : List ℕ). take count (w ++ b)) (sym (replicate-append-replicate skip rest 0))
        ∙ ap (take count) (sym (append_assoc w (replicate skip 0) (replicate rest 0)))
        ∙ take_at (w ++ replicate skip 0) (replicate rest 0) count (omega arith)

    -- and what is behind these
    pub behind_zeros : drop count (drop skip (take count (drop from bytes)) ++ replicate more 0) ≡ replicate rest 0
    behind_zeros =
        let w : List ℕ = drop skip (take count (drop from bytes)) in
        let lt = window_long in
        let lw = length-drop skip (take count (drop from bytes)) in
        let lr = length-replicate {A = ℕ} skip 0 in
        let la = length-append w (replicate skip 0) in
        ap (λ (x : ℕ). drop count (w ++ replicate x 0)) enough
        ∙ ap (λ (b : List ℕ). drop count (w ++ b)) (sym (replicate-append-replicate skip rest 0))
        ∙ ap (drop count) (sym (append_assoc w (replicate skip 0) (replicate rest 0)))
        ∙ drop_at (w ++ replicate skip 0) (replicate rest 0) count (omega arith)

  module _ (skip : ℕ) (le : skip ≤ count) where
    -- the window that begins later
    pub later : from + skip + count ≤ length bytes → take count (drop (from + skip) bytes) ≡ drop skip (take count (drop from bytes)) ++ replicate skip 0
    later room = ap (take count) (rest_is skip le) ∙ with_zeros skip (length bytes - (from + count)) (length bytes - (from + count) - skip) le (omega arith)

    pub later_is : from + skip + count ≤ length bytes → IsWindow count (from + skip) bytes
    later_is room = record {
      within = room;
      zeros =
          let at : from + skip + count ≡ from + count + skip = omega arith in
          let left : length bytes - (from + count) - skip ≡ length bytes - (from + skip + count) = omega arith in
          ap (λ (x : ℕ). drop x bytes) at ∙ sym (drop-drop skip (from + count) bytes) ∙ ap (drop skip) h.zeros
          ∙ drop-replicate skip (length bytes - (from + count)) 0 ∙ ap (λ (x : ℕ). replicate x 0) left;
    }

    -- the window once its rest was moved to the front
    front : drop (from + skip) bytes ++ replicate (from + skip) 0 ≡ drop skip (take count (drop from bytes)) ++ replicate (length bytes - count + skip) 0
    front =
        let w = h.within in
        let e : length bytes - (from + count) + (from + skip) ≡ length bytes - count + skip = omega arith in
        ap (λ (b : List ℕ). b ++ replicate (from + skip) 0) (rest_is skip le)
        ∙ append_assoc (drop skip (take count (drop from bytes))) (replicate (length bytes - (from + count)) 0) (replicate (from + skip) 0)
        ∙ ap (λ (b : List ℕ). drop skip (take count (drop from bytes)) ++ b)
        (replicate-append-replicate (length bytes - (from + count)) (from + skip) 0 ∙ ap (λ (x : ℕ). replicate x 0) e)

    pub moved : take count (drop (from + skip) bytes ++ replicate (from + skip) 0) ≡ drop skip (take count (drop from bytes)) ++ replicate skip 0
    moved = ap (take count) front ∙ with_zeros skip (length bytes - count + skip) (length bytes - count) le (omega arith)

    pub moved_long : length (drop (from + skip) bytes ++ replicate (from + skip) 0) ≡ length bytes
    moved_long =
        let w = h.within in
        let ld = length-drop (from + skip) bytes in
        let lr = length-replicate {A = ℕ} (from + skip) 0 in
        length-append (drop (from + skip) bytes) (replicate (from + skip) 0) ∙ omega arith

    pub moved_is : IsWindow count 0 (drop (from + skip) bytes ++ replicate (from + skip) 0)
    moved_is =
        let w = h.within in
        let l = moved_long in
        let nought : 0 + count ≡ count = omega arith in
        let e : length bytes - count ≡ length (drop (from + skip) bytes ++ replicate (from + skip) 0) - (0 + count) = omega arith in
        record {
          within = omega arith;
          zeros =
              ap (λ (x : ℕ). drop x (drop (from + skip) bytes ++ replicate (from + skip) 0)) nought ∙ ap (drop count) front ∙ behind_zeros skip (length bytes - count + skip) (length bytes - count) le (omega arith)
              ∙ ap (λ (x : ℕ). replicate x 0) e;
        }

  -- ---- a part of the window
  pub part_is : (at n : ℕ) → at + n ≤ count → take n (drop (from + at) bytes) ≡ take n (drop at (take count (drop from bytes)))
  part_is at n room =
      let e : count ≡ at + (count - at) = omega arith in
      ap (take n) (sym (drop-drop at from bytes)) ∙ sym (take-take n (count - at) (drop at (drop from bytes)) (omega arith))
      ∙ ap (take n) (sym (drop-take at (count - at) (drop from bytes)) ∙ ap (λ (x : ℕ). drop at (take x (drop from bytes))) (sym e))

  -- is written
  module _ (at n : ℕ) (src : List ℕ) (room : at + n ≤ count) (long : length src ≡ n) where
    pub written : take count (drop from (put_mid (from + at) n bytes src)) ≡ put_mid at n (take count (drop from bytes)) src
    written =
        let within = h.within in
        let d : List ℕ = drop from bytes in
        let rest : List ℕ = drop n (drop at d) in
        let ld = length-drop from bytes in
        let lx : length (take (from + at) bytes) ≡ from + at = length-take-le (from + at) bytes (omega arith) in
        let la : length (take at d) ≡ at = length-take-le at d (omega arith) in
        let tail : drop n (drop (from + at) bytes) ≡ rest = ap (drop n) (sym (drop-drop at from bytes)) in
        let left : drop from (put_mid (from + at) n bytes src) ≡ take at d ++ (src ++ rest) =
        drop-append-le from (take (from + at) bytes) (src ++ drop n (drop (from + at) bytes)) (omega arith)
        ∙ ap₂ (λ (a b : List ℕ). a ++ (src ++ b)) (drop-take from at bytes) tail in
        let inner : take (count - at) (src ++ rest) ≡ src ++ take (count - at - n) rest =
        (let e : count - at ≡ length src + (count - at - n) = omega arith in ap (λ (x : ℕ). take x (src ++ rest)) e)
        ∙ take-append-add src rest (count - at - n) in
        let outer : take count (take at d ++ (src ++ rest)) ≡ take at d ++ take (count - at) (src ++ rest) =
        (let e : count ≡ length (take at d) + (count - at) = omega arith in ap (λ (x : ℕ). take x (take at d ++ (src ++ rest))) e)
        ∙ take-append-add (take at d) (src ++ rest) (count - at) in
        let first : take at (take count d) ≡ take at d = take-take at count d (omega arith) in
        let mid : drop at (take count d) ≡ take (count - at) (drop at d) =
        (let e : count ≡ at + (count - at) = omega arith in ap (λ (x : ℕ). drop at (take x d)) e) ∙ drop-take at (count - at) d in
        let last : drop n (take (count - at) (drop at d)) ≡ take (count - at - n) rest =
        (let e : count - at ≡ n + (count - at - n) = omega arith in ap (λ (x : ℕ). drop n (take x (drop at d))) e)
        ∙ drop-take n (count - at - n) (drop at d) in
        ap (take count) left ∙ outer ∙ ap (λ (b : List ℕ). take at d ++ b) inner
        ∙ sym (ap₂ (λ (a b : List ℕ). a ++ (src ++ b)) first (ap (drop n) mid ∙ last))

    pub written_is : IsWindow count from (put_mid (from + at) n bytes src)
    written_is =
        let w = h.within in
        let l = length-put_mid (from + at) n bytes src (omega arith) long in
        let e : length bytes - (from + count) ≡ length (put_mid (from + at) n bytes src) - (from + count) = omega arith in
        record {
          within = omega arith;
          zeros = drop-put_mid (from + at) n bytes src (from + count) (omega arith) (omega arith) long ∙ h.zeros ∙ ap (λ (x : ℕ). replicate x 0) e;
        }

  -- all of it is written
  module _ (src : List ℕ) (long : length src ≡ count) where
    at_front : put_mid from count bytes src ≡ put_mid (from + 0) count bytes src
    at_front = ap (λ (a : ℕ). put_mid a count bytes src) (omega arith)

    pub all_written : take count (drop from (put_mid from count bytes src)) ≡ src
    all_written =
        let w = h.within in
        let lt = length-take-le from bytes (omega arith) in
        ap (take count) (drop_at (take from bytes) (src ++ drop count (drop from bytes)) from lt) ∙ take_at src (drop count (drop from bytes)) count long

    pub all_written_is : IsWindow count from (put_mid from count bytes src)
    all_written_is = subst (IsWindow count from) (sym at_front) (written_is 0 count src (omega arith) long)

-- a whole list is written
pub put_all : (xs ys : List ℕ) → length xs ≡ length ys → put_mid 0 (length ys) xs ys ≡ ys
put_all xs ys e = ap (λ (k : ℕ). ys ++ drop k xs) (sym e) ∙ ap (λ (zs : List ℕ). ys ++ zs) (drop-length xs) ∙ append-nil ys
