-- An extension at the front of bytes and padding at their end: what is spelled is read, and what is read is spelled.
use Rattle.std.proofs.Common.{◌≡◌, ℕ, suc, ◌+◌, ◌-◌, ◌*◌, ◌^◌, ◌<◌, ◌≤◌, ◌==◌, ◌⊎◌, inl, inr, Bool, true, false, cond, nat_lt, is_some, Option, Some, None, Result, Ok, Err, List, [], ◌∷◌, ◌++◌, length, take, drop, get_or, refl, sym, ap, ◌∙◌, subst, arith, append_assoc, append-nil, take_all, length-append, length-drop, take-append-drop}
use Rattle.std.proofs.lemmas.Bool.{eq-eqb, eqb-true, eqb-false, ne_eqb, ltb-true, ltb-false, lt-ltb, le-ltb}
use Rattle.std.proofs.lemmas.List.{drop-drop, length-take-le}
use Rattle.std.proofs.lemmas.Nat.{from_be_bytes-to_be_bytes_2}
use Rattle.std.proofs.Math.Seq.{take-append_seam, drop-append_seam, drop-cons, drop-length, get_or-append_seam}
use Rattle.std.specs.Int.{w16, to_be_bytes}
use Rattle.sc_rtp.specs.declared.not_rtp.NotRtp.{NotRtp}
use Rattle.sc_rtp.specs.declared.not_rtp.NotRtp.TheVariants.{Extension, Padding}
use Rattle.sc_rtp.specs.Head.{number16}
use Rattle.sc_rtp.specs.Packet.{HeaderExtension, words_bytes, extension_bytes, extension_len, IsExtension, padding_bytes, IsPadding}
use Rattle.sc_rtp.specs.Reading.{AreBytes, words_of, word_count, extension_size, extension_of, last_byte, padding_size, padding_of}
use Rattle.sc_rtp.specs.Refusal.{CutsExtension, MiscountsPadding}
use Rattle.sc_rtp.proofs.WordLaws.{to_be_bytes-number16, number16-fits, AreBytes-drop, front_four, length-words_bytes, length-words_of, words_of-fit, words_of-spelled, words_bytes-of}

-- what two tests tell, of which each refuses for the same reason
two_pass : (a b : Bool) (c : NotRtp) (k n : ℕ) → cond a (Err c) (cond b (Err c) (Ok k)) ≡ Ok n → (a ≡ false) × (b ≡ false) × (n ≡ k)
two_pass false false c k n e = (refl, refl, cc)
two_pass false true c k n e = absurd (cc)
two_pass true b c k n e = absurd (cc)

two_refuse : (a b : Bool) (c e : NotRtp) (k : ℕ) → (let r : Result ℕ NotRtp = cond a (Err c) (cond b (Err c) (Ok k)) in r) ≡ Err e → (e ≡ c) × ((a ≡ true) ⊎ ((a ≡ false) × (b ≡ true)))
two_refuse false false c e k is = absurd (cc)
two_refuse false true c e k is = (cc, inr (refl, refl))
two_refuse true b c e k is = (cc, inl refl)

pub cond_true : {X : Type 0} (t : Bool) (a b : X) → t ≡ true → cond t a b ≡ a
cond_true t a b e = ap (λ u. cond u a b) e

pub cond_false : {X : Type 0} (t : Bool) (a b : X) → t ≡ false → cond t a b ≡ b
cond_false t a b e = ap (λ u. cond u a b) e

pub drop-front : (front rest : List ℕ) (n : ℕ) → length front ≡ n → drop n (front ++ rest) ≡ rest
drop-front front rest n e = ap (λ k. drop k (front ++ rest)) (sym e) ∙ drop-append_seam front rest

pub take-front : (front rest : List ℕ) (n : ℕ) → length front ≡ n → take n (front ++ rest) ≡ front
take-front front rest n e = ap (λ k. take k (front ++ rest)) (sym e) ∙ take-append_seam front rest

-- ---- an extension

-- the size of an extension that is announced, by the number of bytes and of the words that it counts
abbrev size_with : ℕ → ℕ → Result ℕ NotRtp
size_with size count = cond (nat_lt size 4) (Err Extension) (cond (nat_lt size (4 + 4 * count)) (Err Extension) (Ok (4 + 4 * count)))

size_with-whole : (size count n : ℕ) → 4 + 4 * count ≡ n → n ≤ size → size_with size count ≡ Ok n
size_with-whole size count n e whole =
    cond_false (nat_lt size 4) (Err Extension) _ (le-ltb size 4 (omega arith))
    ∙ cond_false (nat_lt size (4 + 4 * count)) (Err Extension) (Ok (4 + 4 * count)) (le-ltb size (4 + 4 * count) (omega arith))
    ∙ ap Ok e

size_with-few : (size count : ℕ) → size < 4 → size_with size count ≡ Err Extension
size_with-few size count few = cond_true (nat_lt size 4) (Err Extension) _ (lt-ltb size 4 few)

size_with-cut : (size count : ℕ) → 4 ≤ size → size < 4 + 4 * count → size_with size count ≡ Err Extension
size_with-cut size count whole cut =
    cond_false (nat_lt size 4) (Err Extension) _ (le-ltb size 4 whole)
    ∙ cond_true (nat_lt size (4 + 4 * count)) (Err Extension) (Ok (4 + 4 * count)) (lt-ltb size (4 + 4 * count) cut)

-- what a size tells, and what a refusal
record SizeTells (size count n : ℕ) : Type 0 where
  is : n ≡ 4 + 4 * count
  whole : 4 + 4 * count ≤ size

size_with-ok : (size count n : ℕ) → size_with size count ≡ Ok n → SizeTells size count n
size_with-ok size count n e =
    let t = two_pass (nat_lt size 4) (nat_lt size (4 + 4 * count)) Extension (4 + 4 * count) n e in
    record { is = t.2; whole = ltb-false size (4 + 4 * count) t.1 }

record CutTells (size count : ℕ) (e : NotRtp) : Type 0 where
  is : e ≡ Extension
  cut : (size < 4) ⊎ ((4 ≤ size) × (size < 4 + 4 * count))

size_with-err : (size count : ℕ) (c : NotRtp) → size_with size count ≡ Err c → CutTells size count c
size_with-err size count c e =
    let t = two_refuse (nat_lt size 4) (nat_lt size (4 + 4 * count)) Extension c (4 + 4 * count) e in
    record {
      is = t.0;
      cut = elim t.1 as (λ _. (size < 4) ⊎ ((4 ≤ size) × (size < 4 + 4 * count))) [
        | inl few ↦ inl (ltb-true size 4 few)
        | inr cut ↦ inr (ltb-false size 4 cut.0, ltb-true size (4 + 4 * count) cut.1)
      ];
    }

-- bytes that begin with an extension, or with none, are read so
pub record ExtensionIsRead (e : Option HeaderExtension) (rest bytes : List ℕ) : Type 0 where
  pub size : extension_size (is_some e) bytes ≡ Ok (extension_len e)
  pub is : extension_of (is_some e) bytes ≡ e
  pub behind : drop (extension_len e) bytes ≡ rest

pub length-extension_bytes : (e : Option HeaderExtension) → length (extension_bytes e) ≡ extension_len e
length-extension_bytes None = refl
length-extension_bytes (Some e) = omega (arith, length-words_bytes e.words)

some_extension : (profile count : ℕ) (words : List ℕ) (e : HeaderExtension) → profile ≡ e.profile → words ≡ e.words
    → (let x : Option HeaderExtension = Some (record { profile = profile; words = words }) in x) ≡ Some (record { profile = e.profile; words = e.words })
some_extension profile count words e p w = cc

pub extension-read : (e : Option HeaderExtension) (rest : List ℕ) → IsExtension e → ExtensionIsRead e rest (extension_bytes e ++ rest)
extension-read None rest fits = record { size = refl; is = refl; behind = refl }
extension-read (Some e) rest fits =
    let bytes = extension_bytes (Some e) ++ rest in
    let count : word_count bytes ≡ length e.words = from_be_bytes-to_be_bytes_2 (length e.words) fits.1 in
    let size : length bytes ≡ 4 + (4 * length e.words + length rest) = length-append (extension_bytes (Some e)) rest ∙ omega (arith, length-extension_bytes (Some e)) in
    record {
      size = size_with-whole (length bytes) (word_count bytes) (4 + 4 * length e.words) (omega (arith, count)) (omega (arith, size));
      is = some_extension _ 0 _ e (from_be_bytes-to_be_bytes_2 e.profile fits.0) (ap (λ n. words_of n (words_bytes e.words ++ rest)) count ∙ words_of-spelled e.words rest fits.2);
      behind = drop-front (extension_bytes (Some e)) rest _ (length-extension_bytes (Some e));
    }

-- an extension that is read, or none, is there
pub record ExtensionIsThere (x : Bool) (bytes : List ℕ) (n : ℕ) : Type 0 where
  pub parts : extension_bytes (extension_of x bytes) ++ drop n bytes ≡ bytes
  pub fits : IsExtension (extension_of x bytes)
  pub announced : is_some (extension_of x bytes) ≡ x
  pub size : n ≡ extension_len (extension_of x bytes)

pub extension-there : (x : Bool) (bytes : List ℕ) (n : ℕ) → AreBytes bytes → extension_size x bytes ≡ Ok n → ExtensionIsThere x bytes n
extension-there false bytes n fits e =
    let none : n ≡ 0 = cc in
    record { parts = ap (λ k. drop k bytes) none; fits = tt; announced = refl; size = none }
extension-there true bytes n fits e =
    let count = word_count bytes in
    let tells = size_with-ok (length bytes) count n e in
    let rest = drop 4 bytes in
    let words = words_of count rest in
    let many : length words ≡ count = length-words_of count rest in
    let four : 4 ≤ length bytes = omega (arith, tells.whole) in
    let again : words_bytes words ++ drop (4 * count) rest ≡ rest = words_bytes-of count rest (AreBytes-drop 4 bytes fits) (omega (arith, tells.whole, length-drop 4 bytes)) in
    let behind : drop n bytes ≡ drop (4 * count) rest = ap (λ k. drop k bytes) tells.is ∙ sym (drop-drop (4 * count) 4 bytes) in
    record {
      parts =
          ap (λ l. extension_bytes (extension_of true bytes) ++ l) behind
          ∙ ap (λ l. (l ++ (to_be_bytes w16 (length words) ++ words_bytes words)) ++ drop (4 * count) rest) (to_be_bytes-number16 _ _ (fits 0) (fits 1))
          ∙ ap (λ l. ((get_or bytes 0 0 ∷ get_or bytes 1 0 ∷ []) ++ (l ++ words_bytes words)) ++ drop (4 * count) rest) (ap (to_be_bytes w16) many ∙ to_be_bytes-number16 _ _ (fits 2) (fits 3))
          ∙ ap (λ l. get_or bytes 0 0 ∷ get_or bytes 1 0 ∷ get_or bytes 2 0 ∷ get_or bytes 3 0 ∷ l) again
          ∙ sym (front_four bytes four);
      fits = (number16-fits _ _ (fits 0) (fits 1), subst (λ (k : ℕ). k < 2 ^ 16) (sym many) (number16-fits _ _ (fits 2) (fits 3)), words_of-fit count rest (AreBytes-drop 4 bytes fits));
      announced = refl;
      size = omega (arith, tells.is, many);
    }

-- an extension that isn't all there is refused
pub extension-cut : (bytes : List ℕ) → CutsExtension bytes → extension_size true bytes ≡ Err Extension
extension-cut bytes (inl few) = size_with-few (length bytes) (word_count bytes) few
extension-cut bytes (inr cut) =
    let spelled = to_be_bytes w16 cut.profile ++ (to_be_bytes w16 cut.count ++ cut.rest) in
    let count : word_count spelled ≡ cut.count = from_be_bytes-to_be_bytes_2 cut.count cut.count_fits in
    ap (extension_size true) cut.parts ∙ size_with-cut (length spelled) (word_count spelled) (omega arith) (omega (arith, count, cut.short))

-- a refusal is one of an extension that isn't all there
pub record ExtensionIsCut (x : Bool) (bytes : List ℕ) (e : NotRtp) : Type 0 where
  pub is : e ≡ Extension
  pub announced : x ≡ true
  pub cut : CutsExtension bytes

pub extension-refused : (x : Bool) (bytes : List ℕ) (e : NotRtp) → AreBytes bytes → extension_size x bytes ≡ Err e → ExtensionIsCut x bytes e
extension-refused false bytes e fits is = absurd (cc)
extension-refused true bytes e fits is =
    let count = word_count bytes in
    let tells = size_with-err (length bytes) count e is in
    elim tells.cut as (λ _. ExtensionIsCut true bytes e) [
      | inl few ↦ record { is = tells.is; announced = refl; cut = inl few }
      | inr cut ↦ record {
        is = tells.is;
        announced = refl;
        cut = inr (record {
          profile = number16 (get_or bytes 0 0) (get_or bytes 1 0);
          count = count;
          rest = drop 4 bytes;
          profile_fits = number16-fits _ _ (fits 0) (fits 1);
          count_fits = number16-fits _ _ (fits 2) (fits 3);
          parts =
              front_four bytes cut.0
              ∙ sym (ap (λ l. l ++ (to_be_bytes w16 count ++ drop 4 bytes)) (to_be_bytes-number16 _ _ (fits 0) (fits 1))
              ∙ ap (λ l. (get_or bytes 0 0 ∷ get_or bytes 1 0 ∷ []) ++ (l ++ drop 4 bytes)) (to_be_bytes-number16 _ _ (fits 2) (fits 3)));
          short = omega (arith, cut.0, cut.1, length-drop 4 bytes);
        });
      }
    ]

-- ---- padding

-- the size of padding that is announced, by the number of bytes and the last one
abbrev padding_with : ℕ → ℕ → Result ℕ NotRtp
padding_with size count = cond (count == 0) (Err Padding) (cond (nat_lt size count) (Err Padding) (Ok count))

not_zero : (n : ℕ) → 0 < n → (n == 0) ≡ false
not_zero n some = ne_eqb n 0 (λ e. omega arith)

padding_with-whole : (size count n : ℕ) → count ≡ n → 0 < n → n ≤ size → padding_with size count ≡ Ok n
padding_with-whole size count n e some whole =
    cond_false (count == 0) (Err Padding) _ (not_zero count (omega arith))
    ∙ cond_false (nat_lt size count) (Err Padding) (Ok count) (le-ltb size count (omega arith))
    ∙ ap Ok e

padding_with-none : (size count : ℕ) → count ≡ 0 → padding_with size count ≡ Err Padding
padding_with-none size count e = cond_true (count == 0) (Err Padding) _ (eq-eqb count 0 e)

padding_with-more : (size count : ℕ) → size < count → padding_with size count ≡ Err Padding
padding_with-more size count more =
    cond_false (count == 0) (Err Padding) _ (not_zero count (omega arith))
    ∙ cond_true (nat_lt size count) (Err Padding) (Ok count) (lt-ltb size count more)

record CountTells (size count n : ℕ) : Type 0 where
  is : n ≡ count
  some : 0 < count
  whole : count ≤ size

padding_with-ok : (size count n : ℕ) → padding_with size count ≡ Ok n → CountTells size count n
padding_with-ok size count n e =
    let t = two_pass (count == 0) (nat_lt size count) Padding count n e in
    let other = eqb-false count 0 t.0 in
    record { is = t.2; some = omega arith; whole = ltb-false size count t.1 }

record MiscountTells (size count : ℕ) (e : NotRtp) : Type 0 where
  is : e ≡ Padding
  wrong : (count ≡ 0) ⊎ (size < count)

padding_with-err : (size count : ℕ) (c : NotRtp) → padding_with size count ≡ Err c → MiscountTells size count c
padding_with-err size count c e =
    let t = two_refuse (count == 0) (nat_lt size count) Padding c count e in
    record {
      is = t.0;
      wrong = elim t.1 as (λ _. (count ≡ 0) ⊎ (size < count)) [
        | inl none ↦ inl (eqb-true count 0 none)
        | inr more ↦ inr (ltb-true size count more.1)
      ];
    }

-- the last byte of bytes
last_byte-append : (front : List ℕ) (b : ℕ) → last_byte (front ++ b ∷ []) ≡ b
last_byte-append front b =
    ap (λ i. get_or (front ++ b ∷ []) i 0) (omega (arith, length-append front (b ∷ []))) ∙ get_or-append_seam front b [] 0

at_end : (bytes : List ℕ) (n : ℕ) → n ≡ length bytes → drop n bytes ≡ []
at_end bytes n e = ap (λ k. drop k bytes) e ∙ drop-length bytes

end_of : (bytes : List ℕ) → 0 < length bytes → drop (length bytes - 1) bytes ≡ last_byte bytes ∷ []
end_of bytes some =
    drop-cons bytes (length bytes - 1) 0 (omega arith)
    ∙ ap (λ l. last_byte bytes ∷ l) (at_end bytes (suc (length bytes - 1)) (omega arith))

front_of-end : (bytes : List ℕ) → 0 < length bytes → bytes ≡ take (length bytes - 1) bytes ++ last_byte bytes ∷ []
front_of-end bytes some = sym (take-append-drop (length bytes - 1) bytes) ∙ ap (λ l. take (length bytes - 1) bytes ++ l) (end_of bytes some)

-- bytes that end with padding, or with none, are read so
pub record PaddingIsRead (payload : List ℕ) (p : Option (List ℕ)) (bytes : List ℕ) (n : ℕ) : Type 0 where
  pub size : padding_size (is_some p) bytes ≡ Ok n
  pub front : take (length bytes - n) bytes ≡ payload
  pub is : padding_of (is_some p) bytes n ≡ p

pub padding-read : (payload : List ℕ) (p : Option (List ℕ)) → PaddingIsRead payload p (payload ++ padding_bytes p) (length (padding_bytes p))
padding-read payload None = record {
  size = refl;
  front = take-front payload [] _ (omega (arith, length-append payload []));
  is = refl;
}
padding-read payload (Some zeros) =
    let padding = zeros ++ (length zeros + 1) ∷ [] in
    let bytes = payload ++ padding in
    let long : length padding ≡ length zeros + 1 = length-append zeros ((length zeros + 1) ∷ []) in
    let size : length bytes ≡ length payload + (length zeros + 1) = length-append payload padding ∙ omega (arith, long) in
    let whole : bytes ≡ (payload ++ zeros) ++ (length zeros + 1) ∷ [] = sym (append_assoc payload zeros ((length zeros + 1) ∷ [])) in
    let last : last_byte bytes ≡ length zeros + 1 = ap last_byte whole ∙ last_byte-append (payload ++ zeros) (length zeros + 1) in
    let before : length payload ≡ length bytes - length padding = omega (arith, size, long) in
    record {
      size = padding_with-whole (length bytes) (last_byte bytes) (length padding) (omega (arith, last, long)) (omega (arith, long)) (omega (arith, size, long));
      front = take-front payload padding _ before;
      is = ap Some (
          ap (take (length padding - 1)) (drop-front payload padding _ before)
          ∙ take-front zeros ((length zeros + 1) ∷ []) _ (omega (arith, long))
          );
    }

-- padding that is read, or none, is there
pub record PaddingIsThere (b : Bool) (bytes : List ℕ) (n : ℕ) : Type 0 where
  pub parts : take (length bytes - n) bytes ++ padding_bytes (padding_of b bytes n) ≡ bytes
  pub fits : IsPadding (padding_of b bytes n)
  pub announced : is_some (padding_of b bytes n) ≡ b

pub padding-there : (b : Bool) (bytes : List ℕ) (n : ℕ) → AreBytes bytes → padding_size b bytes ≡ Ok n → PaddingIsThere b bytes n
padding-there false bytes n fits e =
    let none : n ≡ 0 = cc in
    record {
      parts = append-nil (take (length bytes - n) bytes) ∙ take_all (length bytes - n) bytes (omega arith);
      fits = tt;
      announced = refl;
    }
padding-there true bytes n fits e =
    let tells = padding_with-ok (length bytes) (last_byte bytes) n e in
    let start = length bytes - n in
    let tail = drop start bytes in
    let zeros = take (n - 1) tail in
    let small = fits (length bytes - 1) in
    let count : length zeros ≡ n - 1 = length-take-le (n - 1) tail (omega (arith, tells.is, tells.some, tells.whole, length-drop start bytes)) in
    let last : drop (n - 1) tail ≡ (length zeros + 1) ∷ [] =
    drop-drop (n - 1) start bytes
    ∙ ap (λ k. drop k bytes) (omega (arith, tells.is, tells.some, tells.whole))
    ∙ end_of bytes (omega (arith, tells.some, tells.whole))
    ∙ ap (λ k. k ∷ []) (omega (arith, tells.is, tells.some, count)) in
    record {
      parts =
          ap (λ l. take start bytes ++ (zeros ++ l)) (sym last)
          ∙ ap (λ l. take start bytes ++ l) (take-append-drop (n - 1) tail)
          ∙ take-append-drop start bytes;
      fits = omega (arith, count, small, tells.is, tells.some);
      announced = refl;
    }

-- padding with a wrong count is refused
pub padding-wrong : (bytes : List ℕ) → (bytes ≡ []) ⊎ MiscountsPadding bytes → padding_size true bytes ≡ Err Padding
padding-wrong bytes (inl none) = ap (padding_size true) none
padding-wrong bytes (inr m) =
    let spelled = m.front ++ m.count ∷ [] in
    let last : last_byte spelled ≡ m.count = last_byte-append m.front m.count in
    let size : length spelled ≡ length m.front + 1 = length-append m.front (m.count ∷ []) in
    ap (padding_size true) m.parts
    ∙ elim m.wrong as (λ _. padding_size true spelled ≡ Err Padding) [
      | inl none ↦ padding_with-none (length spelled) (last_byte spelled) (omega (arith, last, none))
      | inr more ↦ padding_with-more (length spelled) (last_byte spelled) (omega (arith, last, size, more))
    ]

-- a refusal is one of padding with a wrong count
pub record PaddingIsWrong (b : Bool) (bytes : List ℕ) (e : NotRtp) : Type 0 where
  pub is : e ≡ Padding
  pub announced : b ≡ true
  pub wrong : (bytes ≡ []) ⊎ MiscountsPadding bytes

wrong_at : (bytes : List ℕ) → (last_byte bytes ≡ 0) ⊎ (length bytes < last_byte bytes) → (bytes ≡ []) ⊎ MiscountsPadding bytes
wrong_at [] h = inl refl
wrong_at (x ∷ xs) h =
    let bytes = x ∷ xs in
    let some : 0 < length bytes = omega arith in
    let size : length (take (length bytes - 1) bytes) ≡ length bytes - 1 = length-take-le (length bytes - 1) bytes (omega arith) in
    inr (record {
      front = take (length bytes - 1) bytes;
      count = last_byte bytes;
      parts = front_of-end bytes some;
      wrong = elim h as (λ _. (last_byte bytes ≡ 0) ⊎ (length (take (length bytes - 1) bytes) + 1 < last_byte bytes)) [ inl none ↦ inl none | inr more ↦ inr (omega (arith, size, more, some)) ];
    })

pub padding-refused : (b : Bool) (bytes : List ℕ) (e : NotRtp) → padding_size b bytes ≡ Err e → PaddingIsWrong b bytes e
padding-refused false bytes e is = absurd (cc)
padding-refused true bytes e is =
    let tells = padding_with-err (length bytes) (last_byte bytes) e is in
    record { is = tells.is; announced = refl; wrong = wrong_at bytes tells.wrong }
