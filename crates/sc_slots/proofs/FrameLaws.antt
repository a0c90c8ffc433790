-- Frames and the bytes that spell them.
use Rattle.std.proofs.Common.{◌≡◌, ◌≢◌, ℕ, suc, ◌+◌, ◌-◌, ◌^◌, ◌<◌, ◌≤◌, List, [], ◌∷◌, ◌++◌, length, take, drop, replicate, get_or, refl, sym, ap, ◌∙◌, subst, arith, length-append, length-drop}
use Rattle.std.proofs.lemmas.List.{length-replicate, length-take-le, take_at, drop_at, take-append-drop}
use Rattle.std.proofs.lemmas.Nat.{from_be_bytes-to_be_bytes_2, from_be_bytes-to_be_bytes_4}
use Rattle.std.specs.Int.{w16, w32, to_be_bytes}
use Rattle.sc_rtp.specs.Head.{number16, number32}
use Rattle.sc_rtp.specs.Reading.{AreBytes}
use Rattle.sc_rtp.proofs.WordLaws.{to_be_bytes-number16, to_be_bytes-number32, number16-fits, number32-fits}
use Rattle.sc_slots.specs.Frame.{frame_bytes, IsBlank, IsFrame, Unframed, blank, framed, bad, Unframes}
use Rattle.sc_slots.proofs.BlankLaws.{blank-replicate}

-- ---- what is spelled

-- the first two bytes of a block, and the next four
abbrev pub length_in : List ℕ → ℕ
length_in block = number16 (get_or block 0 0) (get_or block 1 0)

abbrev pub offset_in : List ℕ → ℕ
offset_in block = number32 (get_or block 2 0) (get_or block 3 0) (get_or block 4 0) (get_or block 5 0)

pub length-frame_bytes : (offset : ℕ) (packet : List ℕ) (len : ℕ) → 6 + length packet ≤ len → length (frame_bytes offset packet len) ≡ len
unfolding frame_bytes
length-frame_bytes offset packet len room =
    let n = len - (6 + length packet) in
    omega (arith, length-append packet (replicate n 0), length-replicate {A = ℕ} n 0)

spelled-length : (offset : ℕ) (packet : List ℕ) (len : ℕ) → length packet < 2 ^ 16 → length_in (frame_bytes offset packet len) ≡ length packet
unfolding frame_bytes
spelled-length offset packet len fits = from_be_bytes-to_be_bytes_2 (length packet) fits

spelled-offset : (offset : ℕ) (packet : List ℕ) (len : ℕ) → offset < 2 ^ 32 → offset_in (frame_bytes offset packet len) ≡ offset
unfolding frame_bytes
spelled-offset offset packet len fits = from_be_bytes-to_be_bytes_4 offset fits

spelled-packet : (offset : ℕ) (packet : List ℕ) (len : ℕ) → take (length packet) (drop 6 (frame_bytes offset packet len)) ≡ packet
unfolding frame_bytes
spelled-packet offset packet len = take_at packet (replicate (len - (6 + length packet)) 0) (length packet) refl

spelled-tail : (offset : ℕ) (packet : List ℕ) (len : ℕ) → drop (length packet) (drop 6 (frame_bytes offset packet len)) ≡ replicate (len - (6 + length packet)) 0
unfolding frame_bytes
spelled-tail offset packet len = drop_at packet (replicate (len - (6 + length packet)) 0) (length packet) refl

pub frame-there : (offset : ℕ) (packet : List ℕ) (len : ℕ) → offset < 2 ^ 32 → 1 ≤ length packet → length packet < 2 ^ 16 → 6 + length packet ≤ len
    → IsFrame (frame_bytes offset packet len) offset packet
frame-there offset packet len small some fits room =
    let long = length-frame_bytes offset packet len room in
    record {
      some = some;
      length_fits = fits;
      offset_fits = small;
      room = omega (arith, long, room);
      spelled = ap (frame_bytes offset packet) (sym long);
    }

-- what is written over a block
pub frame-written : (offset : ℕ) (packet front body : List ℕ) (back len : ℕ) → front ≡ to_be_bytes w16 (length packet) ++ to_be_bytes w32 offset
    → body ≡ packet ++ replicate (back - length packet) 0 → 6 + back ≡ len → front ++ body ≡ frame_bytes offset packet len
unfolding frame_bytes
frame-written offset packet front body back len is_front is_body size =
    let left : back - length packet ≡ len - (6 + length packet) = omega (arith, size) in
    ap (λ (l : List ℕ). l ++ body) is_front
    ∙ ap (λ (l : List ℕ). to_be_bytes w16 (length packet) ++ (to_be_bytes w32 offset ++ l)) is_body
    ∙ ap (λ (n : ℕ). to_be_bytes w16 (length packet) ++ (to_be_bytes w32 offset ++ (packet ++ replicate n 0))) left

-- ---- what is read

frame-length : (block : List ℕ) (offset : ℕ) (packet : List ℕ) → IsFrame block offset packet → length_in block ≡ length packet
frame-length block offset packet f = ap length_in f.spelled ∙ spelled-length offset packet (length block) f.length_fits

frame-offset : (block : List ℕ) (offset : ℕ) (packet : List ℕ) → IsFrame block offset packet → offset_in block ≡ offset
frame-offset block offset packet f = ap offset_in f.spelled ∙ spelled-offset offset packet (length block) f.offset_fits

frame-packet : (block : List ℕ) (offset : ℕ) (packet : List ℕ) → IsFrame block offset packet → take (length packet) (drop 6 block) ≡ packet
frame-packet block offset packet f = ap (λ (b : List ℕ). take (length packet) (drop 6 b)) f.spelled ∙ spelled-packet offset packet (length block)

frame-tail : (block : List ℕ) (offset : ℕ) (packet : List ℕ) → IsFrame block offset packet → IsBlank (drop (length packet) (drop 6 block))
frame-tail block offset packet f =
    blank-replicate (drop (length packet) (drop 6 block)) (length block - (6 + length packet))
    (ap (λ (b : List ℕ). drop (length packet) (drop 6 b)) f.spelled ∙ spelled-tail offset packet (length block))

-- ---- what isn't a frame

pub no_frame-empty : (block : List ℕ) (n offset : ℕ) (packet : List ℕ) → n ≡ length_in block → n ≡ 0 → IsFrame block offset packet → ⊥
no_frame-empty block n offset packet is none f = omega (arith, is, none, f.some, frame-length block offset packet f)

pub no_frame-long : (block : List ℕ) (n offset : ℕ) (packet : List ℕ) → n ≡ length_in block → length (drop 6 block) < n → IsFrame block offset packet → ⊥
no_frame-long block n offset packet is long f =
    omega (arith, is, long, f.room, f.some, frame-length block offset packet f, length-drop 6 block)

pub no_frame-tail : (block : List ℕ) (n offset : ℕ) (packet : List ℕ) → n ≡ length_in block → (IsBlank (drop n (drop 6 block)) → ⊥) → IsFrame block offset packet → ⊥
no_frame-tail block n offset packet is other f =
    let same : length packet ≡ n = sym (is ∙ frame-length block offset packet f) in
    other (subst (λ (k : ℕ). IsBlank (drop k (drop 6 block))) same (frame-tail block offset packet f))

-- ---- what is a frame

six : (bytes : List ℕ) → 6 ≤ length bytes
    → bytes ≡ (get_or bytes 0 0 ∷ get_or bytes 1 0 ∷ []) ++ ((get_or bytes 2 0 ∷ get_or bytes 3 0 ∷ get_or bytes 4 0 ∷ get_or bytes 5 0 ∷ []) ++ drop 6 bytes)
six (a ∷ b ∷ c ∷ d ∷ e ∷ f ∷ bytes) size = refl
six bytes size = absurd (omega arith)

pub frame-read : (block : List ℕ) (n offset : ℕ) → AreBytes block → 6 ≤ length block → n ≡ length_in block → offset ≡ offset_in block
    → n ≢ 0 → n ≤ length (drop 6 block) → IsBlank (drop n (drop 6 block)) → IsFrame block offset (take n (drop 6 block))
unfolding frame_bytes
frame-read block n offset are size is_length is_offset some fits zeros =
    let body : List ℕ = drop 6 block in
    let packet : List ℕ = take n body in
    let tail : List ℕ = drop n body in
    let count : length packet ≡ n = length-take-le n body fits in
    let field : length packet ≡ length_in block = count ∙ is_length in
    let left : length tail ≡ length block - (6 + length packet) = omega (arith, length-drop n body, length-drop 6 block, count) in
    let first : to_be_bytes w16 (length packet) ≡ get_or block 0 0 ∷ get_or block 1 0 ∷ [] =
    ap (to_be_bytes w16) field ∙ to_be_bytes-number16 (get_or block 0 0) (get_or block 1 0) (are 0) (are 1) in
    let second : to_be_bytes w32 offset ≡ get_or block 2 0 ∷ get_or block 3 0 ∷ get_or block 4 0 ∷ get_or block 5 0 ∷ [] =
    ap (to_be_bytes w32) is_offset ∙ to_be_bytes-number32 (get_or block 2 0) (get_or block 3 0) (get_or block 4 0) (get_or block 5 0) (are 2) (are 3) (are 4) (are 5) in
    let behind : body ≡ packet ++ replicate (length block - (6 + length packet)) 0 =
    sym (take-append-drop n body) ∙ ap (λ (l : List ℕ). packet ++ l) (zeros ∙ ap (λ (k : ℕ). replicate k 0) left) in
    record {
      some = omega (arith, count, some);
      length_fits = omega (arith, field, number16-fits (get_or block 0 0) (get_or block 1 0) (are 0) (are 1));
      offset_fits = subst (λ (o : ℕ). o < 2 ^ 32) (sym is_offset) (number32-fits (get_or block 2 0) (get_or block 3 0) (get_or block 4 0) (get_or block 5 0) (are 2) (are 3) (are 4) (are 5));
      room = omega (arith, count, fits, size, length-drop 6 block);
      spelled =
          six block size
          ∙ ap (λ (l : List ℕ). l ++ ((get_or block 2 0 ∷ get_or block 3 0 ∷ get_or block 4 0 ∷ get_or block 5 0 ∷ []) ++ body)) (sym first)
          ∙ ap (λ (l : List ℕ). to_be_bytes w16 (length packet) ++ (l ++ body)) (sym second)
          ∙ ap (λ (l : List ℕ). to_be_bytes w16 (length packet) ++ (to_be_bytes w32 offset ++ l)) behind;
    }

-- ---- one reading

zeros-length : (n : ℕ) → 2 ≤ n → length_in (replicate n 0) ≡ 0
zeros-length (suc (suc n)) size = refl
zeros-length n size = absurd (omega arith)

not_both : (block : List ℕ) (offset : ℕ) (packet : List ℕ) → IsBlank block → IsFrame block offset packet → ⊥
not_both block offset packet b f =
    let none : length_in block ≡ 0 = ap length_in b ∙ zeros-length (length block) (omega (arith, f.room)) in
    omega (arith, none, f.some, frame-length block offset packet f)

one_packet : (block : List ℕ) (o u : ℕ) (p q : List ℕ) → IsFrame block o p → IsFrame block u q → framed o p ≡ framed u q
one_packet block o u p q f g =
    let long : length p ≡ length q = sym (frame-length block o p f) ∙ frame-length block u q g in
    let offsets : o ≡ u = sym (frame-offset block o p f) ∙ frame-offset block u q g in
    let packets : p ≡ q = sym (frame-packet block o p f) ∙ ap (λ (n : ℕ). take n (drop 6 block)) long ∙ frame-packet block u q g in
    ap (λ (n : ℕ). framed n p) offsets ∙ ap (framed u) packets

pub blocks_once : (block : List ℕ) (a b : Unframed) → Unframes block a → Unframes block b → a ≡ b
blocks_once block blank blank x y = refl
blocks_once block blank (framed o p) x y = absurd (not_both block o p x y)
blocks_once block blank bad x y = absurd (y.0 x)
blocks_once block (framed o p) blank x y = absurd (not_both block o p y x)
blocks_once block (framed o p) (framed u q) x y = one_packet block o u p q x y
blocks_once block (framed o p) bad x y = absurd (y.1 o p x)
blocks_once block bad blank x y = absurd (x.0 y)
blocks_once block bad (framed o p) x y = absurd (x.1 o p y)
blocks_once block bad bad x y = refl
