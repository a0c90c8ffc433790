-- The reading of bytes is the one that the grammar gives.
use Rattle.std.proofs.Common.{◌≡◌, ◌≢◌, ℕ, ◌*◌, ◌^◌, ◌<◌, ◌==◌, Bool, true, false, cond, nat_lt, is_some, Option, Result, Ok, Err, List, ◌++◌, length, drop, refl, sym, ap, ◌∙◌, subst, arith, append-nil, length-append}
use Rattle.std.proofs.lemmas.Bool.{eq-eqb, eqb-true, eqb-false, ne_eqb, ltb-true, ltb-false, lt-ltb, le-ltb}
use Rattle.sc_rtp.specs.declared.head.Head.{Head}
use Rattle.sc_rtp.specs.declared.not_rtp.NotRtp.{NotRtp}
use Rattle.sc_rtp.specs.declared.not_rtp.NotRtp.TheVariants.{Short, Version, Csrc, Extension, Padding}
use Rattle.sc_rtp.specs.Head.{IsHead, head_bytes, head_of}
use Rattle.sc_rtp.specs.Packet.{HeaderExtension, Packet, AreWords, words_bytes, extension_bytes, extension_len, IsExtension, padding_bytes, IsPacket, plain_head, plain_packet}
use Rattle.sc_rtp.specs.Reading.{AreBytes, words_of, extension_size, extension_of, padding_size, padding_of, with_padding, with_extension, with_head, reading_of}
use Rattle.sc_rtp.specs.Refusal.{BeginsWithHead, HasOtherVersion, LacksCsrcs, BeginsWithCsrcs, LacksExtension, LacksPadding, IsRefused, ReadGives}
use Rattle.sc_rtp.proofs.WordLaws.{AreBytes-drop, length-words_bytes, length-words_of, words_of-fit, words_of-spelled, words_bytes-of}
use Rattle.sc_rtp.proofs.HeadLaws.{head_of-spelled, head_of-fits, head_bytes-of}
use Rattle.sc_rtp.proofs.PartLaws.{cond_true, cond_false, drop-front, extension-read, extension-there, extension-cut, extension-refused, padding-read, padding-there, padding-wrong, padding-refused}

-- ---- what is spelled is read

reading_of-head : (h : Head) (rest : List ℕ) → IsHead h → reading_of (head_bytes h ++ rest) ≡ with_head h rest
unfolding reading_of
reading_of-head h rest fits =
    cond_false (nat_lt (length (head_bytes h ++ rest)) 12) (Err Short) _ (le-ltb (length (head_bytes h ++ rest)) 12 (omega arith))
    ∙ ap (λ g. with_head g rest) (head_of-spelled h rest fits)

pub reading_of-short : (bytes : List ℕ) → length bytes < 12 → reading_of bytes ≡ Err Short
unfolding reading_of
reading_of-short bytes few = cond_true (nat_lt (length bytes) 12) (Err Short) _ (lt-ltb (length bytes) 12 few)

pub with_head-other : (h : Head) (rest : List ℕ) → h.version ≢ 2 → with_head h rest ≡ Err Version
with_head-other h rest other = cond_false (h.version == 2) _ (Err Version) (ne_eqb h.version 2 other)

pub with_head-few : (h : Head) (rest : List ℕ) → h.version ≡ 2 → length rest < 4 * h.csrc_count → with_head h rest ≡ Err Csrc
with_head-few h rest version few =
    cond_true (h.version == 2) _ (Err Version) (eq-eqb h.version 2 version)
    ∙ cond_true (nat_lt (length rest) (4 * h.csrc_count)) (Err Csrc) _ (lt-ltb (length rest) (4 * h.csrc_count) few)

with_csrcs : Head → List ℕ → List ℕ → Result Packet NotRtp
with_csrcs h csrcs rest = with_extension h csrcs rest (extension_size h.extended rest)

with_head-csrcs : (h : Head) (csrcs rest : List ℕ) → h.version ≡ 2 → length csrcs ≡ h.csrc_count → AreWords csrcs
    → with_head h (words_bytes csrcs ++ rest) ≡ with_csrcs h csrcs rest
unfolding with_csrcs
with_head-csrcs h csrcs rest version count fit =
    let bytes = words_bytes csrcs ++ rest in
    let n = 4 * h.csrc_count in
    let long : length (words_bytes csrcs) ≡ n = omega (arith, length-words_bytes csrcs, count) in
    let words : words_of h.csrc_count bytes ≡ csrcs = ap (λ k. words_of k bytes) (sym count) ∙ words_of-spelled csrcs rest fit in
    let behind : drop n bytes ≡ rest = drop-front (words_bytes csrcs) rest n long in
    cond_true (h.version == 2) _ (Err Version) (eq-eqb h.version 2 version)
    ∙ cond_false (nat_lt (length bytes) n) (Err Csrc) _ (le-ltb (length bytes) n (omega (arith, length-append (words_bytes csrcs) rest, long)))
    ∙ ap (λ ws. with_csrcs h ws (drop n bytes)) words
    ∙ ap (with_csrcs h csrcs) behind

with_csrcs-extension : (h : Head) (csrcs rest : List ℕ) (e : Option HeaderExtension) → is_some e ≡ h.extended → IsExtension e
    → with_csrcs h csrcs (extension_bytes e ++ rest) ≡ with_padding h csrcs e rest (padding_size h.padded rest)
unfolding with_csrcs
with_csrcs-extension h csrcs rest e same fits =
    let bytes = extension_bytes e ++ rest in
    let r = extension-read e rest fits in
    ap (λ x. with_extension h csrcs bytes (extension_size x bytes)) (sym same)
    ∙ ap (with_extension h csrcs bytes) r.size
    ∙ ap (λ x. with_padding h csrcs (extension_of x bytes) (drop (extension_len e) bytes) (padding_size h.padded (drop (extension_len e) bytes))) (sym same)
    ∙ ap (λ x. with_padding h csrcs x (drop (extension_len e) bytes) (padding_size h.padded (drop (extension_len e) bytes))) r.is
    ∙ ap (λ l. with_padding h csrcs e l (padding_size h.padded l)) r.behind

with_padding-padding : (h : Head) (csrcs payload : List ℕ) (e : Option HeaderExtension) (p : Option (List ℕ)) → is_some p ≡ h.padded
    → with_padding h csrcs e (payload ++ padding_bytes p) (padding_size h.padded (payload ++ padding_bytes p))
    ≡ Ok (record { head = h; csrcs = csrcs; extension = e; payload = payload; padding = p })
with_padding-padding h csrcs payload e p same =
    let bytes = payload ++ padding_bytes p in
    let n = length (padding_bytes p) in
    let r = padding-read payload p in
    let is : padding_of h.padded bytes n ≡ p = ap (λ b. padding_of b bytes n) (sym same) ∙ r.is in
    ap (λ b. with_padding h csrcs e bytes (padding_size b bytes)) (sym same)
    ∙ ap (with_padding h csrcs e bytes) r.size
    ∙ ap (λ l. Ok (record { head = h; csrcs = csrcs; extension = e; payload = l; padding = padding_of h.padded bytes n })) r.front
    ∙ ap (λ l. Ok (record { head = h; csrcs = csrcs; extension = e; payload = payload; padding = l })) is

-- a packet is read as its parts
pub reading_of-packet : (bytes : List ℕ) (p : Packet) → IsPacket bytes p → reading_of bytes ≡ Ok p
reading_of-packet bytes p is =
    ap reading_of is.parts
    ∙ reading_of-head p.head _ is.head
    ∙ with_head-csrcs p.head p.csrcs _ is.version is.csrc_count is.csrcs
    ∙ with_csrcs-extension p.head p.csrcs _ p.extension is.extended is.extension
    ∙ with_padding-padding p.head p.csrcs p.payload p.extension p.padding is.padded

-- a plain head before any payload is read back
pub reading_of-plain : (payload_type sequence timestamp ssrc : ℕ) (payload : List ℕ) → payload_type < 128 → sequence < 2 ^ 16 → timestamp < 2 ^ 32 → ssrc < 2 ^ 32
    → let h = plain_head payload_type sequence timestamp ssrc in reading_of (head_bytes h ++ payload) ≡ Ok (plain_packet h payload)
reading_of-plain payload_type sequence timestamp ssrc payload a b c d =
    let h = plain_head payload_type sequence timestamp ssrc in
    reading_of-packet (head_bytes h ++ payload) (plain_packet h payload) (record {
      head = record { version = omega arith; csrc_count = omega arith; payload_type = a; sequence = b; timestamp = c; ssrc = d };
      version = refl;
      csrc_count = refl;
      csrcs = tt;
      extended = refl;
      extension = tt;
      padded = refl;
      padding = tt;
      parts = ap (λ l. head_bytes h ++ l) (sym (append-nil payload));
    })

begins_with_csrcs : (bytes rest : List ℕ) (h : Head) (b : BeginsWithCsrcs bytes h rest) → reading_of bytes ≡ with_csrcs h b.csrcs rest
begins_with_csrcs bytes rest h b =
    ap reading_of b.begins.parts
    ∙ reading_of-head h _ b.begins.fits
    ∙ with_head-csrcs h b.csrcs rest b.version b.count b.fit

other_version : (bytes : List ℕ) → HasOtherVersion bytes → reading_of bytes ≡ Err Version
other_version bytes r = ap reading_of r.begins.parts ∙ reading_of-head r.head r.rest r.begins.fits ∙ with_head-other r.head r.rest r.other

lacks_csrcs : (bytes : List ℕ) → LacksCsrcs bytes → reading_of bytes ≡ Err Csrc
lacks_csrcs bytes r = ap reading_of r.begins.parts ∙ reading_of-head r.head r.rest r.begins.fits ∙ with_head-few r.head r.rest r.version r.short

lacks_extension : (bytes : List ℕ) → LacksExtension bytes → reading_of bytes ≡ Err Extension
unfolding with_csrcs
lacks_extension bytes r =
    begins_with_csrcs bytes r.rest r.head r.begins
    ∙ ap (with_extension r.head r.begins.csrcs r.rest) (ap (λ x. extension_size x r.rest) r.extended ∙ extension-cut r.rest r.cut)

lacks_padding : (bytes : List ℕ) → LacksPadding bytes → reading_of bytes ≡ Err Padding
lacks_padding bytes r =
    begins_with_csrcs bytes (extension_bytes r.extension ++ r.rest) r.head r.begins
    ∙ with_csrcs-extension r.head r.begins.csrcs r.rest r.extension r.extended r.fits
    ∙ ap (with_padding r.head r.begins.csrcs r.extension r.rest) (ap (λ x. padding_size x r.rest) r.padded ∙ padding-wrong r.rest r.wrong)

-- bytes that are refused for a reason are read as refused for it
pub reading_of-refused : (bytes : List ℕ) (e : NotRtp) → IsRefused bytes e → reading_of bytes ≡ Err e
reading_of-refused bytes Short r = reading_of-short bytes r
reading_of-refused bytes Version r = other_version bytes r
reading_of-refused bytes Csrc r = lacks_csrcs bytes r
reading_of-refused bytes Extension r = lacks_extension bytes r
reading_of-refused bytes Padding r = lacks_padding bytes r

-- ---- what is read is there

-- behind the header, where the padding was read or refused
given_padding : (bytes rest : List ℕ) (h : Head) (e : Option HeaderExtension) (b : BeginsWithCsrcs bytes h (extension_bytes e ++ rest))
    → is_some e ≡ h.extended → IsExtension e → AreBytes rest → (s : Result ℕ NotRtp) → padding_size h.padded rest ≡ s
    → ReadGives bytes (with_padding h b.csrcs e rest s)
given_padding bytes rest h e b same fits are (Ok n) is =
    let t = padding-there h.padded rest n are is in
    record {
      head = b.begins.fits;
      version = b.version;
      csrc_count = b.count;
      csrcs = b.fit;
      extended = same;
      extension = fits;
      padded = t.announced;
      padding = t.fits;
      parts = b.begins.parts ∙ ap (λ l. head_bytes h ++ (words_bytes b.csrcs ++ (extension_bytes e ++ l))) (sym t.parts);
    }
given_padding bytes rest h e b same fits are (Err c) is =
    let t = padding-refused h.padded rest c is in
    subst (IsRefused bytes) (sym t.is)
    (record { head = h; extension = e; rest = rest; begins = b; extended = same; fits = fits; padded = t.announced; wrong = t.wrong })

-- behind the CSRC words, where the extension was read or refused
given_extension : (bytes rest : List ℕ) (h : Head) (b : BeginsWithCsrcs bytes h rest) → AreBytes rest
    → (s : Result ℕ NotRtp) → extension_size h.extended rest ≡ s → ReadGives bytes (with_extension h b.csrcs rest s)
given_extension bytes rest h b are (Ok n) is =
    let t = extension-there h.extended rest n are is in
    let e = extension_of h.extended rest in
    let begins : BeginsWithCsrcs bytes h (extension_bytes e ++ drop n rest) = record {
      csrcs = b.csrcs;
      begins = record { fits = b.begins.fits; parts = b.begins.parts ∙ ap (λ l. head_bytes h ++ (words_bytes b.csrcs ++ l)) (sym t.parts) };
      version = b.version;
      count = b.count;
      fit = b.fit;
    } in
    given_padding bytes (drop n rest) h e begins t.announced t.fits (AreBytes-drop n rest are) (padding_size h.padded (drop n rest)) refl
given_extension bytes rest h b are (Err c) is =
    let t = extension-refused h.extended rest c are is in
    subst (IsRefused bytes) (sym t.is) (record { head = h; rest = rest; begins = b; extended = t.announced; cut = t.cut })

-- behind the fixed head, by its two tests
given_head : (bytes rest : List ℕ) (h : Head) → BeginsWithHead bytes h rest → AreBytes rest
    → (a b : Bool) → (h.version == 2) ≡ a → nat_lt (length rest) (4 * h.csrc_count) ≡ b
    → ReadGives bytes (cond a (cond b (Err Csrc) (with_csrcs h (words_of h.csrc_count rest) (drop (4 * h.csrc_count) rest))) (Err Version))
unfolding with_csrcs
given_head bytes rest h begins are false b s t = record { head = h; rest = rest; begins = begins; other = eqb-false h.version 2 s }
given_head bytes rest h begins are true true s t =
    record { head = h; rest = rest; begins = begins; version = eqb-true h.version 2 s; short = ltb-true (length rest) (4 * h.csrc_count) t }
given_head bytes rest h begins are true false s t =
    let n = 4 * h.csrc_count in
    let csrcs = words_of h.csrc_count rest in
    let behind = drop n rest in
    let again : words_bytes csrcs ++ behind ≡ rest = words_bytes-of h.csrc_count rest are (ltb-false (length rest) n t) in
    let begins_csrcs : BeginsWithCsrcs bytes h behind = record {
      csrcs = csrcs;
      begins = record { fits = begins.fits; parts = begins.parts ∙ ap (λ l. head_bytes h ++ l) (sym again) };
      version = eqb-true h.version 2 s;
      count = length-words_of h.csrc_count rest;
      fit = words_of-fit h.csrc_count rest are;
    } in
    given_extension bytes behind h begins_csrcs (AreBytes-drop n rest are) (extension_size h.extended behind) refl

given_bytes : (bytes : List ℕ) → AreBytes bytes → (a : Bool) → nat_lt (length bytes) 12 ≡ a
    → ReadGives bytes (cond a (Err Short) (with_head (head_of bytes) (drop 12 bytes)))
unfolding with_csrcs
given_bytes bytes are true s = ltb-true (length bytes) 12 s
given_bytes bytes are false s =
    let begins : BeginsWithHead bytes (head_of bytes) (drop 12 bytes) = record {
      fits = head_of-fits bytes are;
      parts = sym (head_bytes-of bytes are (ltb-false (length bytes) 12 s));
    } in
    given_head bytes (drop 12 bytes) (head_of bytes) begins (AreBytes-drop 12 bytes are) _ _ refl refl

pub reading_of-given : (bytes : List ℕ) → AreBytes bytes → ReadGives bytes (reading_of bytes)
unfolding reading_of
reading_of-given bytes are = given_bytes bytes are _ refl

-- the parts that are read are those of a packet
pub reading_of-there : (bytes : List ℕ) (p : Packet) → AreBytes bytes → reading_of bytes ≡ Ok p → IsPacket bytes p
reading_of-there bytes p are is = subst (ReadGives bytes) is (reading_of-given bytes are)

-- a reason that is read is there
pub refusal-there : (bytes : List ℕ) (e : NotRtp) → AreBytes bytes → reading_of bytes ≡ Err e → IsRefused bytes e
refusal-there bytes e are is = subst (ReadGives bytes) is (reading_of-given bytes are)

-- bytes are one packet at most
pub one_packet : (bytes : List ℕ) (p q : Packet) → IsPacket bytes p → IsPacket bytes q → p ≡ q
one_packet bytes p q f g =
    let same : (let r : Result Packet NotRtp = Ok p in r) ≡ Ok q = sym (reading_of-packet bytes p f) ∙ reading_of-packet bytes q g in
    cc

-- bytes are refused for one reason at most
pub one_reason : (bytes : List ℕ) (e f : NotRtp) → IsRefused bytes e → IsRefused bytes f → e ≡ f
one_reason bytes e f a b =
    let same : (let r : Result Packet NotRtp = Err e in r) ≡ Err f = sym (reading_of-refused bytes e a) ∙ reading_of-refused bytes f b in
    cc

-- no packet is refused
pub packet_accepted : (bytes : List ℕ) (p : Packet) (e : NotRtp) → IsPacket bytes p → IsRefused bytes e → ⊥
packet_accepted bytes p e f r =
    let same : (let r : Result Packet NotRtp = Ok p in r) ≡ Err e = sym (reading_of-packet bytes p f) ∙ reading_of-refused bytes e r in
    cc
