-- How the blocks in a ring change with the next one.
use Rattle.std.proofs.Common.{◌≡◌, ℕ, ◌+◌, ◌-◌, ◌*◌, ◌<◌, ◌≤◌, Some, List, [], ◌∷◌, ◌++◌, length, get_or, take, drop, replicate, slice_get, All, Vec, refl, sym, ap, ap₂, ◌∙◌, subst, arith, inl, inr}
use Rattle.std.specs.Vec.{with_items}
use Rattle.std.proofs.lemmas.Option.{same_Some, slice_get_within, get_or_from_slice_get}
use Rattle.std.proofs.lemmas.List.{length-append, map-append, drop-take, take-replicate, drop-replicate}
use Rattle.std.proofs.lemmas.List.Elements.{All-nil, All-head, All-tail, All-cons, All-append}
use Rattle.std.proofs.lemmas.Slice.{take-put_mid_below, drop-put_mid, between-put_mid}
use borrow.Rule.Slice.PartMut.{put_mid}
use Rattle.circular_buffer.specs.Buffer.{Buffer, buffer, keep_last}
use Rattle.sc_matrix.proofs.VectorLaws.{vector_of, map_same, map_const}
use Rattle.sc_matrix.proofs.LayoutLaws.{row_within, length-put_mid, items_written}
use Rattle.sc_code.specs.Ring.{Ring, blocks_of, IsApart, AreApart, IsRing}

-- ---- blocks that don't overlap

IsApart-sym : (size p q : ℕ) → IsApart size p q → IsApart size q p
IsApart-sym size p q a = elim a [ inl before ↦ inr before | inr behind ↦ inl behind ]

pub AreApart-append : (size : ℕ) (ps : List ℕ) (q : ℕ) → AreApart size ps → All (λ p. IsApart size p q) ps → AreApart size (ps ++ q ∷ [])
AreApart-append size [] q apart from = (All-nil (IsApart size q), tt)
AreApart-append size (p ∷ ps) q (first, rest) from = (
  All-append (IsApart size p) ps (q ∷ []) first (All-cons (IsApart size p) q [] (All-head (λ p. IsApart size p q) p ps from) (All-nil (IsApart size p))),
  AreApart-append size ps q rest (All-tail (λ p. IsApart size p q) p ps from),
)

-- a write to one block leaves each block apart from it as it was
part_elsewhere : (size p q : ℕ) (xs block : List ℕ) → p + size ≤ length xs → length block ≡ size → IsApart size p q → take size (drop q (put_mid p size xs block)) ≡ take size (drop q xs)
part_elsewhere size p q xs block h e apart =
    elim apart [
      | inl before ↦ ap (take size) (drop-put_mid p size xs block q before (omega arith) e)
      | inr behind ↦
          sym (drop-take q size (put_mid p size xs block)) ∙ ap (drop q) (take-put_mid_below p size xs block (q + size) behind (omega arith)) ∙ drop-take q size xs
    ]

part_here : (size p : ℕ) (xs block : List ℕ) → p + size ≤ length xs → length block ≡ size → take size (drop p (put_mid p size xs block)) ≡ block
part_here size p xs block h e =
    let k : p + size - p ≡ size = omega arith in
    ap (λ (n : ℕ). take n (drop p (put_mid p size xs block))) (sym k) ∙ between-put_mid p size xs block (p + size) (omega arith) (e ∙ sym k)

-- ---- the next block takes the place of the oldest

pub record IsPushed (old new : Ring) (block : List ℕ) : Type 0 where
  pub ring : IsRing new
  pub blocks : blocks_of new ≡ drop 1 (blocks_of old) ++ block ∷ []
  pub count : length new.places ≡ length old.places

pushed_front : (size : ℕ) (bytes : List ℕ) (p : ℕ) (ps block : List ℕ) → IsRing (record { size = size; bytes = bytes; places = p ∷ ps }) → length block ≡ size
    → IsPushed (record { size = size; bytes = bytes; places = p ∷ ps }) (record { size = size; bytes = put_mid p size bytes block; places = ps ++ p ∷ [] }) block
pushed_front size bytes p ps block ring e =
    let after : List ℕ = put_mid p size bytes block in
    let fits : p + size ≤ length bytes = All-head (λ q. q + size ≤ length bytes) p ps ring.within in
    let same : length after ≡ length bytes = length-put_mid p size bytes block fits e in
    let others : All (IsApart size p) ps = ring.apart.0 in
    let counted : length (ps ++ p ∷ []) ≡ length ps + 1 = length-append ps (p ∷ []) in
    record {
      ring = record {
        some = omega arith;
        within = rw same (All-append (λ q. q + size ≤ length bytes) ps (p ∷ []) (All-tail (λ q. q + size ≤ length bytes) p ps ring.within)
            (All-cons (λ q. q + size ≤ length bytes) p [] fits (All-nil (λ q. q + size ≤ length bytes))));
        apart = AreApart-append size ps p ring.apart.1 (λ k d lt. IsApart-sym size p (get_or ps k d) (others k d lt));
      };
      blocks =
          map-append (λ (q : ℕ). take size (drop q after)) ps (p ∷ [])
          ∙ ap₂ (λ (bs : List (List ℕ)) (b : List ℕ). bs ++ b ∷ [])
          (map_same {P = IsApart size p} (λ q. take size (drop q after)) (λ q. take size (drop q bytes)) ps (λ q apart. part_elsewhere size p q bytes block fits e apart) (vector_of ps others))
          (part_here size p bytes block fits e);
      count = omega arith;
    }

pushed_list : (size : ℕ) (bytes places : List ℕ) (capacity p : ℕ) (block : List ℕ) → IsRing (record { size = size; bytes = bytes; places = places }) → length places ≡ capacity → slice_get places 0 ≡ Some p → length block ≡ size
    → IsPushed (record { size = size; bytes = bytes; places = places }) (record { size = size; bytes = put_mid p size bytes block; places = keep_last capacity (places ++ p ∷ []) }) block
pushed_list size bytes [] capacity p block ring full e l = let some = ring.some in absurd (omega arith)
pushed_list size bytes (q ∷ ps) capacity p block ring full e l =
    let here : q ≡ p = same_Some q p e in
    let counted : length ((p ∷ ps) ++ p ∷ []) ≡ length (p ∷ ps) + 1 = length-append (p ∷ ps) (p ∷ []) in
    let one : length ((p ∷ ps) ++ p ∷ []) - capacity ≡ 1 = omega arith in
    rw (here, one) (pushed_front size bytes p ps block (subst (λ (x : ℕ). IsRing (record { size = size; bytes = bytes; places = x ∷ ps })) here ring) l)

-- the same, as the code has it
pub pushed : {Z : Type 0} (v : Vec ℕ Z) (b after : Buffer ℕ) (size p : ℕ) (xs block : List ℕ) → IsRing (record { size = size; bytes = v.items; places = b.items }) → length b.items ≡ b.capacity → slice_get b.items 0 ≡ Some p
    → xs ≡ v.items → length block ≡ size → after ≡ buffer (keep_last b.capacity (b.items ++ p ∷ [])) b.capacity
    → IsPushed (record { size = size; bytes = v.items; places = b.items }) (record { size = size; bytes = (with_items v (put_mid p ((p + size) - p) xs block)).items; places = after.items }) block
pushed v b after size p xs block ring full first same l e =
    let at : get_or b.items 0 0 ≡ p = get_or_from_slice_get b.items 0 p 0 first in
    let fits : p + size ≤ length v.items = subst (λ (x : ℕ). x + size ≤ length v.items) at (ring.within 0 0 (slice_get_within b.items 0 p first)) in
    let k : p + size - p ≡ size = omega arith in
    rw (e, k, same, items_written v (put_mid p size v.items block) (length-put_mid p size v.items block fits l)) (pushed_list size v.items b.items b.capacity p block ring full first l)

-- ---- the places of a new ring

-- the first n places
pub record ArePlaces (size n capacity : ℕ) (b : Buffer ℕ) : Type 0 where
  pub count : length b.items ≡ n
  pub full : b.capacity ≡ capacity
  pub within : All (λ p. p + size ≤ n * size) b.items
  pub apart : AreApart size b.items

pub ArePlaces-none : (size capacity : ℕ) (b : Buffer ℕ) → b ≡ buffer [] capacity → ArePlaces size 0 capacity b
ArePlaces-none size capacity b e = rw e record { count = refl; full = refl; within = All-nil (λ p. p + size ≤ 0 * size); apart = tt }

pub ArePlaces-more : (size n capacity : ℕ) (b after : Buffer ℕ) → n < capacity → after ≡ buffer (keep_last b.capacity (b.items ++ n * size ∷ [])) b.capacity → ArePlaces size n capacity b → ArePlaces size (n + 1) capacity after
ArePlaces-more size n capacity b after lt e h =
    let counted : length (b.items ++ n * size ∷ []) ≡ length b.items + 1 = length-append b.items (n * size ∷ []) in
    let c = h.count in
    let f = h.full in
    let all : length (b.items ++ n * size ∷ []) - b.capacity ≡ 0 = omega arith in
    let next : n * size + size ≤ (n + 1) * size = row_within (n + 1) size n (omega arith) in
    rw (e, all) record {
      count = omega arith;
      full = h.full;
      within = All-append (λ p. p + size ≤ (n + 1) * size) b.items (n * size ∷ []) (λ k d lt. let w = h.within k d lt in omega arith)
          (All-cons (λ p. p + size ≤ (n + 1) * size) (n * size) [] next (All-nil (λ p. p + size ≤ (n + 1) * size)));
      apart = AreApart-append size b.items (n * size) h.apart (λ k d lt. inl (h.within k d lt));
    }

-- the blocks of a new ring are zeros
pub blocks-zeros : (size n total : ℕ) (bytes places : List ℕ) → bytes ≡ replicate total 0 → length places ≡ n → All (λ p. p + size ≤ total) places → blocks_of (record { size = size; bytes = bytes; places = places }) ≡ replicate n (replicate size 0)
blocks-zeros size n total bytes places e l within =
    map_const {P = λ p. p + size ≤ total} (λ p. take size (drop p bytes)) (replicate size 0) places
    (λ p h. rw e (ap (take size) (drop-replicate p total 0) ∙ take-replicate size (total - p) 0 (omega arith))) (record { width = l; entries = within })
