-- The steps of reading a packet by slices, each what the reading of its bytes is.
use Rattle.std.proofs.Common.{◌≡◌, ◌≢◌, ℕ, ◌+◌, ◌-◌, ◌*◌, ◌<◌, ◌≤◌, ◌==◌, nat_lt, Result, Ok, Err, List, length, take, drop, refl, sym, ap, ◌∙◌, subst, arith, rules, Fits, w8, get_or, take_all, length-append, length-drop}
use Rattle.std.proofs.lemmas.Bool.{eq-eqb, le-ltb}
use Rattle.sc_rtp.specs.declared.head.Head.{Head}
use Rattle.sc_rtp.specs.declared.not_rtp.NotRtp.{NotRtp}
use Rattle.sc_rtp.specs.declared.not_rtp.NotRtp.TheVariants.{Short, Version, Csrc}
use Rattle.sc_rtp.specs.Head.{IsHead, head_of}
use Rattle.sc_rtp.specs.Packet.{Packet, extension_bytes, header_size, plain_packet}
use Rattle.sc_rtp.specs.Reading.{AreBytes, words_of, extension_size, extension_of, padding_size, padding_of, with_padding, with_extension, with_head, reading_of, packet_or, packet_in, Holds}
use Rattle.sc_rtp.specs.Refusal.{ReadGives}
use Rattle.sc_rtp.proofs.WordLaws.{AreBytes-drop, length-words_of}
use Rattle.sc_rtp.proofs.HeadLaws.{head_of-fits}
use Rattle.sc_rtp.proofs.PartLaws.{cond_true, cond_false, length-extension_bytes, extension-there}
use Rattle.sc_rtp.proofs.ReadingLaws.{with_head-other, with_head-few, reading_of-given}

-- a slice of bytes
pub are_bytes : (bytes : List ℕ) → ((i : ℕ) → Fits w8 (get_or bytes i 0)) → AreBytes bytes
are_bytes bytes fits i = let f = fits i in search rules

-- a slice to the end of bytes
pub slice_to_end : (n : ℕ) (bytes : List ℕ) → take (length bytes - n) (drop n bytes) ≡ drop n bytes
slice_to_end n bytes = take_all (length bytes - n) (drop n bytes) (omega (arith, length-drop n bytes))

reading_of-whole : (bytes : List ℕ) → 12 ≤ length bytes → reading_of bytes ≡ with_head (head_of bytes) (drop 12 bytes)
unfolding reading_of
reading_of-whole bytes whole = cond_false (nat_lt (length bytes) 12) (Err Short) _ (le-ltb (length bytes) 12 whole)

reading_of-with : (bytes rest : List ℕ) (h : Head) → 12 ≤ length bytes → h ≡ head_of bytes → rest ≡ drop 12 bytes → reading_of bytes ≡ with_head h rest
reading_of-with bytes rest h whole head behind =
    reading_of-whole bytes whole ∙ ap (λ g. with_head g (drop 12 bytes)) (sym head) ∙ ap (with_head h) (sym behind)

pub reading_of-other : (bytes : List ℕ) (h : Head) → 12 ≤ length bytes → h ≡ head_of bytes → h.version ≢ 2 → reading_of bytes ≡ Err Version
reading_of-other bytes h whole head other = reading_of-with bytes (drop 12 bytes) h whole head refl ∙ with_head-other h (drop 12 bytes) other

pub reading_of-few : (bytes rest : List ℕ) (h : Head) → 12 ≤ length bytes → h ≡ head_of bytes → rest ≡ drop 12 bytes
    → h.version ≡ 2 → length rest < 4 * h.csrc_count → reading_of bytes ≡ Err Csrc
reading_of-few bytes rest h whole head behind version few = reading_of-with bytes rest h whole head behind ∙ with_head-few h rest version few

-- the head and the CSRC words were passed, and this follows them
pub record PassesCsrcs (bytes : List ℕ) (h : Head) (rest : List ℕ) : Type 0 where
  pub head : IsHead h
  pub csrcs : List ℕ
  pub reads : reading_of bytes ≡ with_extension h csrcs rest (extension_size h.extended rest)
  pub count : length csrcs ≡ h.csrc_count
  pub size : length bytes ≡ 12 + 4 * h.csrc_count + length rest
  pub fits : AreBytes rest

pub passes_csrcs : (bytes rest behind : List ℕ) (h : Head) (n : ℕ) → AreBytes bytes → 12 ≤ length bytes → h ≡ head_of bytes → rest ≡ drop 12 bytes
    → h.version ≡ 2 → n ≡ h.csrc_count → 4 * n ≤ length rest → behind ≡ drop (4 * n) rest → PassesCsrcs bytes h behind
passes_csrcs bytes rest behind h n are whole head rest_is version count enough is =
    let csrcs = words_of h.csrc_count rest in
    let all : behind ≡ drop (4 * h.csrc_count) rest = is ∙ ap (λ k. drop (4 * k) rest) count in
    let some : 4 * h.csrc_count ≤ length rest = omega arith in
    let are_rest : AreBytes rest = subst AreBytes (sym rest_is) (AreBytes-drop 12 bytes are) in
    record {
      head = subst IsHead (sym head) (head_of-fits bytes are);
      csrcs = csrcs;
      reads =
          reading_of-with bytes rest h whole head rest_is
          ∙ cond_true (h.version == 2) _ (Err Version) (eq-eqb h.version 2 version)
          ∙ cond_false (nat_lt (length rest) (4 * h.csrc_count)) (Err Csrc) _ (le-ltb (length rest) (4 * h.csrc_count) some)
          ∙ ap (λ l. with_extension h csrcs l (extension_size h.extended l)) (sym all);
      count = length-words_of h.csrc_count rest;
      size = omega (arith, ap length all, length-drop (4 * h.csrc_count) rest, ap length rest_is, length-drop 12 bytes);
      fits = subst AreBytes (sym all) (AreBytes-drop (4 * h.csrc_count) rest are_rest);
    }

pub reading_of-no_extension : (bytes rest : List ℕ) (h : Head) (e : NotRtp) → PassesCsrcs bytes h rest → extension_size h.extended rest ≡ Err e → reading_of bytes ≡ Err e
reading_of-no_extension bytes rest h e p is = p.reads ∙ ap (with_extension h p.csrcs rest) is

-- the extension was passed too
with_rest : (bytes rest behind : List ℕ) (h : Head) (n : ℕ) (p : PassesCsrcs bytes h rest) → extension_size h.extended rest ≡ Ok n → behind ≡ drop n rest
    → reading_of bytes ≡ with_padding h p.csrcs (extension_of h.extended rest) behind (padding_size h.padded behind)
with_rest bytes rest behind h n p size is =
    p.reads
    ∙ ap (with_extension h p.csrcs rest) size
    ∙ ap (λ l. with_padding h p.csrcs (extension_of h.extended rest) l (padding_size h.padded l)) (sym is)

pub reading_of-no_padding : (bytes rest behind : List ℕ) (h : Head) (n : ℕ) (e : NotRtp) → PassesCsrcs bytes h rest → extension_size h.extended rest ≡ Ok n
    → behind ≡ drop n rest → padding_size h.padded behind ≡ Err e → reading_of bytes ≡ Err e
reading_of-no_padding bytes rest behind h n e p size is wrong =
    with_rest bytes rest behind h n p size is ∙ ap (with_padding h p.csrcs (extension_of h.extended rest) behind) wrong

packet_in-ok : (bytes : List ℕ) (p : Packet) → reading_of bytes ≡ Ok p → packet_in bytes ≡ p
unfolding packet_in
packet_in-ok bytes p e = ap (packet_or (plain_packet (head_of bytes) _)) e

holds_packet : (bytes payload : List ℕ) (h : Head) (n : ℕ) (p : Packet) → IsHead h → reading_of bytes ≡ Ok p → h ≡ p.head → p.head.csrc_count ≡ length p.csrcs
    → n ≡ header_size p → payload ≡ p.payload → Holds bytes h n payload
holds_packet bytes payload h n p fits reads head csrcs header is =
    let same : p ≡ packet_in bytes = sym (packet_in-ok bytes p reads) in
    record {
      read = reads ∙ ap Ok same;
      head_is = head ∙ ap (λ (q : Packet). q.head) same;
      fits = fits;
      csrcs = subst (λ (q : Packet). q.head.csrc_count ≡ length q.csrcs) same csrcs;
      header = header ∙ ap header_size same;
      payload_is = is ∙ ap (λ (q : Packet). q.payload) same;
    }

-- what the reader keeps of a packet holds
pub holds : (bytes rest behind payload : List ℕ) (h : Head) (n k header : ℕ) → PassesCsrcs bytes h rest → extension_size h.extended rest ≡ Ok n
    → behind ≡ drop n rest → padding_size h.padded behind ≡ Ok k → header ≡ length bytes - length behind → payload ≡ take (length behind - k) behind
    → Holds bytes h header payload
holds bytes rest behind payload h n k header p size is padding header_is payload_is =
    let e = extension_of h.extended rest in
    let t = extension-there h.extended rest n p.fits size in
    let packet : Packet = record { head = h; csrcs = p.csrcs; extension = e; payload = take (length behind - k) behind; padding = padding_of h.padded behind k } in
    let reads : reading_of bytes ≡ Ok packet = with_rest bytes rest behind h n p size is ∙ ap (with_padding h p.csrcs e behind) padding in
    let long : length rest ≡ n + length behind =
    omega (arith, ap length t.parts, length-append (extension_bytes e) (drop n rest), length-extension_bytes e, t.size, ap length is) in
    holds_packet bytes payload h header packet p.head reads refl (sym p.count) (omega (arith, header_is, long, p.size, p.count, t.size)) payload_is

-- from what is read follows what the grammar gives
pub gives : (bytes : List ℕ) (r : Result Packet NotRtp) → AreBytes bytes → r ≡ reading_of bytes → ReadGives bytes r
gives bytes r are e = subst (ReadGives bytes) (sym e) (reading_of-given bytes are)
