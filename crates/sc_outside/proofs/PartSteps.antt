-- A part of a buffer that was lent for a read, put back into the whole.
use Rattle.std.proofs.Common.{◌≡◌, ℕ, ◌+◌, ◌-◌, ◌≤◌, List, ◌++◌, arith, length, take, drop, sym, ap, ◌∙◌, length-take-le, take_all, length-append, length-drop}
use Rattle.std.proofs.lemmas.List.{take-append-le}
use Rattle.std.proofs.Math.Seq.{take-append-add}
use borrow.Rule.Slice.PartMut.{put_mid, post_of, same_len_mid, mid_of}

-- the whole begins with what stood before the part, and then with the start of the part
pub take-put_part : (f t k : ℕ) (buf part : List ℕ) → f ≤ length buf → t ≤ length part → take (f + t) (put_mid f k buf part) ≡ take f buf ++ take t part
take-put_part f t k buf part within fits =
    let before : length (take f buf) ≡ f = length-take-le f buf within in
    let after = post_of f k buf in
    ap (λ n. take (n + t) (take f buf ++ (part ++ after))) (sym before)
    ∙ take-append-add (take f buf) (part ++ after) t
    ∙ ap (λ l. take f buf ++ l) (take-append-le t part after fits)

-- the whole has its length still
pub length-put_part : (f k : ℕ) (buf part : List ℕ) → length part ≡ length (mid_of f k buf) → length (put_mid f k buf part) ≡ length buf
length-put_part f k buf part size = same_len_mid f k buf part size

-- a slice from a place on is all that follows it
pub take-rest : (n : ℕ) (xs : List ℕ) → take (length xs - n) (drop n xs) ≡ drop n xs
take-rest n xs = take_all (length xs - n) (drop n xs) (omega (arith, length-drop n xs))

-- a list written from its start on has its length still
pub length-written_over : (n : ℕ) (start xs : List ℕ) → n ≡ length xs → length (take n (start ++ drop (length start) xs)) ≡ n
length-written_over n start xs e =
    length-take-le n _ (omega (arith, length-append start (drop (length start) xs), length-drop (length start) xs, e))
