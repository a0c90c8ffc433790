-- What is done to the touched bytes of a window is done to all of it.
use Rattle.std.proofs.Common.{◌≡◌, ℕ, ◌+◌, ◌-◌, ◌≤◌, List, length, map, take, drop, sym, ap, ◌∙◌, subst, arith}
use Rattle.std.proofs.lemmas.List.{length-map}
use borrow.Rule.Slice.PartMut.{put_mid}
use Rattle.sc_field.specs.Scale.{scaled_sum}
use Rattle.sc_matrix.proofs.LayoutLaws.{length-put_mid}
use Rattle.sc_echelon.specs.Touched.{IsTouched}
use Rattle.sc_echelon.specs.Window.{IsWindow}
use Rattle.sc_echelon.proofs.Touched.{sum-touched, map-touched, length-sum, length_mid}
use Rattle.sc_echelon.proofs.WindowSteps.{part_is, written, written_is, window_long}

-- The bytes of the buffer are those of before but for a part, which lies in the window.
pub record IsWritten (count from at k : ℕ) (bytes part new : List ℕ) : Type 0 where
  pub room : at + k ≤ count
  pub long : length part ≡ k
  pub is : new ≡ put_mid (from + at) k bytes part

module _ {count from at k : ℕ} {bytes part new : List ℕ} (h : IsWindow count from bytes) (w : IsWritten count from at k bytes part new) where
  pub window_after : take count (drop from new) ≡ put_mid at k (take count (drop from bytes)) part
  window_after = ap (λ (x : List ℕ). take count (drop from x)) w.is ∙ written count from bytes h at k part w.room w.long

  pub window_kept : IsWindow count from new
  window_kept = subst (IsWindow count from) (sym w.is) (written_is count from bytes h at k part w.room w.long)

  pub long_after : length new ≡ length bytes
  long_after =
      let r = w.room in
      let i = h.within in
      ap length w.is ∙ length-put_mid (from + at) k bytes part (omega arith) w.long

module _ (count from : ℕ) (bytes : List ℕ) (h : IsWindow count from bytes) (f : ℕ → ℕ) (first end : ℕ) where
  -- a multiple of bytes that are touched there was added
  module _ (src : List ℕ) (size : length src ≡ count) (touched : IsTouched first end src) where
    pub add_written : (new : List ℕ)
        → new ≡ put_mid (from + first) (length (take (end - first) (drop first src))) bytes
        (scaled_sum f (take (length (take (end - first) (drop first src))) (drop (from + first) bytes)) (take (end - first) (drop first src)))
        → IsWritten count from first (end - first) bytes
        (scaled_sum f (take (end - first) (drop first (take count (drop from bytes)))) (take (end - first) (drop first src))) new
    add_written new is =
        let o = touched.order in
        let w = touched.within in
        let v = take (end - first) (drop first src) in
        let lw = window_long count from bytes h in
        let lv = length_mid first (end - first) src (omega arith) in
        let lu = length_mid first (end - first) (take count (drop from bytes)) (omega arith) in
        record {
          room = omega arith;
          long = length-sum f (take (end - first) (drop first (take count (drop from bytes)))) v (omega arith) ∙ lu;
          is =
              is ∙ ap (λ (n : ℕ). put_mid (from + first) n bytes (scaled_sum f (take n (drop (from + first) bytes)) v)) lv
              ∙ ap (λ (u : List ℕ). put_mid (from + first) (end - first) bytes (scaled_sum f u v)) (part_is count from bytes h first (end - first) (omega arith));
        }

    pub add_all : f 0 ≡ 0 → put_mid first (end - first) (take count (drop from bytes))
        (scaled_sum f (take (end - first) (drop first (take count (drop from bytes)))) (take (end - first) (drop first src)))
        ≡ scaled_sum f (take count (drop from bytes)) src
    add_all none = sum-touched f (take count (drop from bytes)) src first end none (size ∙ sym (window_long count from bytes h)) touched

  -- the touched bytes of the window were multiplied
  module _ (touched : IsTouched first end (take count (drop from bytes))) where
    pub scale_written : (new : List ℕ) → new ≡ put_mid (from + first) (end - first) bytes (map f (take (end - first) (drop (from + first) bytes)))
        → IsWritten count from first (end - first) bytes (map f (take (end - first) (drop first (take count (drop from bytes))))) new
    scale_written new is =
        let o = touched.order in
        let w = touched.within in
        let lw = window_long count from bytes h in
        let lu = length_mid first (end - first) (take count (drop from bytes)) (omega arith) in
        record {
          room = omega arith;
          long = length-map (take (end - first) (drop first (take count (drop from bytes)))) f ∙ lu;
          is = is ∙ ap (λ (u : List ℕ). put_mid (from + first) (end - first) bytes (map f u)) (part_is count from bytes h first (end - first) (omega arith));
        }

    pub scale_all : f 0 ≡ 0 → put_mid first (end - first) (take count (drop from bytes)) (map f (take (end - first) (drop first (take count (drop from bytes))))) ≡ map f (take count (drop from bytes))
    scale_all none = map-touched f (take count (drop from bytes)) first end none touched
