-- The stream of a protected capture, and the slots of it that are taken of those that a loss leaves: some stream fits them, and
-- no block that is put out is bad.
use Rattle.std.proofs.Common.{◌≡◌, inl, inr, ℕ, zero as naught, suc, ◌+◌, ◌*◌, ◌-◌, ◌<◌, ◌≤◌, min, Bool, true, false, cond, List, [], ◌∷◌, ◌++◌, length, get_or, take, map, replicate, position, option_map, Option, Some, None, refl, sym, ap, ap₂, ◌∙◌, subst, arith}
use Rattle.std.specs.List.{AllByRecursion, concat, range_with_len}
use Rattle.std.proofs.lemmas.Bool.{cases_lt}
use Rattle.std.proofs.lemmas.List.{take_at, drop_at, length-append, length-map, length-replicate, length-take-le, get_or-append_right, get_or-replicate, get_or-map, get_or_default}
use Rattle.std.proofs.lemmas.List.Elements.{All-map}
use Rattle.std.proofs.lemmas.List.FromFn.{length-map-range_with_len}
use Rattle.sc_field.specs.Gf256.{gf256_product}
use Rattle.sc_matrix.specs.Module.{IsByte}
use Rattle.sc_matrix.specs.Layout.{cut}
use Rattle.sc_matrix.proofs.LayoutLaws.{length-cut, vectors-cut}
use Rattle.sc_matrix.proofs.MatrixLaws.{map-replicate}
use Rattle.sc_rtpdump.specs.Record.{Record, empty_record}
use Rattle.sc_code.specs.declared.code.CodeFile.{CodeFile}
use Rattle.sc_code.specs.Stream.{IsBlock, IsStream, block_at, zero_block}
use Rattle.sc_code.specs.Parity.{parity}
use Rattle.sc_code.proofs.ColumnLaws.{IsStream-zeros}
use Rattle.sc_slots.specs.ProtectSteps.{source_stream}
use Rattle.sc_slots.specs.Protected.{Protection, blocks, stream, slot_at}
use Rattle.sc_slots.specs.Taken.{Taken, taken_slot, taken_from, IsRisingFrom, AllBelow}
use Rattle.sc_slots.specs.Sent.{HasEnds, flushed, left_by}
use Rattle.sc_slots.specs.Repair.{IsMatch, Fits, IsSettled}
use Rattle.sc_slots.proofs.FrameLaws.{length-frame_bytes}
use Rattle.sc_slots.proofs.FitLaws.{IsStream-take, IsStream-append, block_at-take, IsMatch-take, Fits-take, Fits-push}
use Rattle.sc_slots.proofs.LeftLaws.{IsRisingFrom-less, taken_from-rising}
use Rattle.sc_slots.proofs.SettledLaws.{HasNoClash-iff_consistent}
use Rattle.sc_slots.proofs.ProtectedLaws.{frame_in, zero_blocks, block-front, length-source_stream, stream-parts}
use Rattle.sc_repair.specs.Readings.{is_bad_block}
use Rattle.sc_repair.specs.Repairing.{is_bad_value, bad_among, put_of}
use Rattle.sc_repair.proofs.Growth.{position-cons, bad_among-lacks}
use Rattle.sc_repair.proofs.ValueLaws.{put_values-le, put_values-one}
use Rattle.sc_repair.proofs.SentSlots.{left_by-map, left_in}
use Rattle.sc_repair.proofs.SentBlocks.{IsWhole, all_at, cut-zeros, frame_are_bytes, frame-good, zeros-good}

-- rows of m symbols, one after the other, are cut into the same rows
cut-rows : (m : ℕ) (xss : List (List ℕ)) → AllByRecursion (λ xs. length xs ≡ m) xss → cut (length xss) m (concat xss) ≡ xss
cut-rows m [] h = refl
cut-rows m (xs ∷ xss) h = rw (take_at xs (concat xss) m h.0, drop_at xs (concat xss) m h.0, cut-rows m xss h.1) refl

all_rows : {A : Type 0} (P : A → Type 0) (f : ℕ → A) (a n : ℕ) → ((j : ℕ) → P (f j)) → AllByRecursion P (map f (range_with_len a n))
all_rows P f a naught each = tt
all_rows P f a (suc n) each = (each a, all_rows P f (a + 1) n each)

map-map : {A B C : Type 0} (f : B → C) (g : A → B) (xs : List A) → map f (map g xs) ≡ map (λ x. f (g x)) xs
map-map f g [] = refl
map-map f g (x ∷ xs) = ap (λ l. f (g x) ∷ l) (map-map f g xs)

map-same : {A : Type 0} (f g : ℕ → A) (a n : ℕ) → ((i : ℕ) → i < a + n → f i ≡ g i) → map f (range_with_len a n) ≡ map g (range_with_len a n)
map-same f g a naught each = refl
map-same f g a (suc n) each = ap₂ (λ x xs. x ∷ xs) (each a (omega arith)) (map-same f g (a + 1) n (λ i lt. each i (omega arith)))

-- a test that fails everywhere
pub position-lacks : {X : Type 0} (test : X → Bool) (xs : List X) (d : X) → ((i : ℕ) → i < length xs → test (get_or xs i d) ≡ false) → position test xs ≡ None
position-lacks test [] d each = refl
position-lacks test (x ∷ xs) d each =
    position-cons test x xs
    ∙ ap₂ (λ here o. cond here (Some 0) (option_map (λ i. suc i) o)) (each 0 (omega arith)) (position-lacks test xs d (λ i lt. each (suc i) (omega arith)))

-- the records that are protected are whole, and their frames fit into blocks
pub record AreSources (p : Protection) (rtp : List Record) : Type 0 where
  pub whole : AllByRecursion IsWhole rtp
  pub room : (i : ℕ) → i < length rtp → 6 + length (get_or rtp i empty_record).body ≤ p.code.k * p.m

module _ (p : Protection) (rtp : List Record) where
  -- ---- the stream

  pub stream-flushed : stream p rtp ≡ flushed p.code.k p.m p.deadline (source_stream p rtp)
  stream-flushed =
      stream-parts p rtp (zero_blocks p)
      ∙ ap (λ l. source_stream p rtp ++ l)
      (map-replicate (cut p.code.k p.m) p.deadline (replicate (p.code.k * p.m) 0) ∙ ap (λ b. replicate p.deadline b) (cut-zeros p.code.k p.m))

  pub length-stream : length (stream p rtp) ≡ length rtp + p.deadline
  length-stream =
      ap length stream-flushed ∙ length-append (source_stream p rtp) (replicate p.deadline (zero_block p.code.k p.m))
      ∙ ap₂ (λ a b. a + b) (length-source_stream p rtp) (length-replicate p.deadline (zero_block p.code.k p.m))

  block_there : (e : Record) → IsWhole e → 6 + length e.body ≤ p.code.k * p.m → IsBlock p.code.k p.m (cut p.code.k p.m (frame_in p e))
  block_there e is room =
      let bytes = frame_in p e in
      let are = frame_are_bytes e.offset e.body (p.code.k * p.m) is.bytes in
      record {
        width = length-cut p.code.k p.m bytes;
        entries = vectors-cut IsByte p.code.k p.m bytes (length-frame_bytes e.offset e.body (p.code.k * p.m) room)
            (λ i d lt. subst IsByte (sym (get_or_default (frame_in p e) i d 0 lt)) (are i));
      }

  pub IsStream-sources : AreSources p rtp → IsStream p.code.k p.m (source_stream p rtp)
  IsStream-sources h =
      All-map (IsBlock p.code.k p.m) (λ e. cut p.code.k p.m (frame_in p e)) rtp (λ i d lt.
      subst (λ e. IsBlock p.code.k p.m (cut p.code.k p.m (frame_in p e))) (sym (get_or_default rtp i d empty_record lt))
      (block_there (get_or rtp i empty_record) (all_at IsWhole rtp i h.whole lt) (h.room i lt)))

  pub IsStream-sent : AreSources p rtp → IsStream p.code.k p.m (stream p rtp)
  IsStream-sent h =
      subst (IsStream p.code.k p.m) (sym stream-flushed)
      (IsStream-append p.code.k p.m (source_stream p rtp) (replicate p.deadline (zero_block p.code.k p.m)) (IsStream-sources h) (IsStream-zeros p.code.k p.m p.deadline))

  -- the block of a slot
  cut_at : (i : ℕ) → i < length rtp + p.deadline → block_at (stream p rtp) i ≡ cut p.code.k p.m (get_or (blocks p rtp) i [])
  cut_at i lt =
      get_or-map (cut p.code.k p.m) (blocks p rtp) i [] [] (omega (arith, lt, length-stream, length-map (blocks p rtp) (cut p.code.k p.m)))

  pub source_block : (i : ℕ) → i < length rtp → block_at (stream p rtp) i ≡ cut p.code.k p.m (frame_in p (get_or rtp i empty_record))
  source_block i lt = cut_at i (omega arith) ∙ ap (cut p.code.k p.m) (block-front p rtp (zero_blocks p) i lt)

  pub flush_block : (i : ℕ) → length rtp ≤ i → i < length rtp + p.deadline → block_at (stream p rtp) i ≡ zero_block p.code.k p.m
  flush_block i past lt =
      let zeros : List ℕ = replicate (p.code.k * p.m) 0 in
      cut_at i lt
      ∙ ap (cut p.code.k p.m)
      (get_or-append_right (map (frame_in p) rtp) (zero_blocks p) (length rtp) i [] (length-map rtp (frame_in p)) past
      ∙ get_or-replicate p.deadline (i - length rtp) zeros [] (omega arith))
      ∙ cut-zeros p.code.k p.m

  -- none of them is bad
  pub block-good : AreSources p rtp → (i : ℕ) → i < length rtp + p.deadline → is_bad_block (block_at (stream p rtp) i) ≡ false
  block-good h i lt =
      elim (cases_lt i (length rtp)) [
        | inl source ↦ ap is_bad_block (source_block i source) ∙ frame-good p (get_or rtp i empty_record) (all_at IsWhole rtp i h.whole source) (h.room i source)
        | inr past ↦ ap is_bad_block (flush_block i past lt) ∙ zeros-good p
      ]

  -- ---- its slots

  -- slot i
  abbrev pub sent_slot : ℕ → Taken ℕ
  sent_slot i = record {
    number = i;
    end = i + 1 - length rtp;
    version = 1;
    code = p.code;
    block = block_at (stream p rtp) i;
    parity = parity 0 gf256_product p.code p.m (stream p rtp) i;
  }

  same_taken : (number end version : ℕ) (block block' par par' : List (List ℕ)) → block ≡ block' → par ≡ par'
      → (let t : Taken ℕ = record { number = number; end = end; version = version; code = p.code; block = block; parity = par } in t)
      ≡ record { number = number; end = end; version = version; code = p.code; block = block'; parity = par' }
  same_taken number end version block block' par par' a b =
      ap (λ x. record { number = number; end = end; version = version; code = p.code; block = x; parity = par }) a
      ∙ ap (λ x. record { number = number; end = end; version = version; code = p.code; block = block'; parity = x }) b

  parity_cut : (i : ℕ) → cut p.code.r p.m (concat (parity 0 gf256_product p.code p.m (stream p rtp) i)) ≡ parity 0 gf256_product p.code p.m (stream p rtp) i
  parity_cut i =
      let rows = parity 0 gf256_product p.code p.m (stream p rtp) i in
      subst (λ (n : ℕ). cut n p.m (concat (parity 0 gf256_product p.code p.m (stream p rtp) i)) ≡ parity 0 gf256_product p.code p.m (stream p rtp) i)
      (length-map-range_with_len _ 0 p.code.r)
      (cut-rows p.m rows (all_rows (λ xs. length xs ≡ p.m) _ 0 p.code.r (λ j. length-map-range_with_len _ 0 p.m)))

  pub taken-is : (i : ℕ) → i < length rtp + p.deadline → taken_slot p.code (slot_at p rtp i) ≡ sent_slot i
  taken-is i lt =
      same_taken i (i + 1 - length rtp) 1 (cut p.code.k p.m (get_or (blocks p rtp) i [])) (block_at (stream p rtp) i)
      (cut p.code.r p.m (concat (parity 0 gf256_product p.code p.m (stream p rtp) i))) (parity 0 gf256_product p.code p.m (stream p rtp) i)
      (sym (cut_at i lt)) (parity_cut i)

  -- what is left of the first n
  abbrev pub left_slots : List Bool → ℕ → List (Taken ℕ)
  left_slots flags n = left_by flags (map sent_slot (range_with_len 0 n))

  rising : (flags : List Bool) (a n : ℕ) → IsRisingFrom a (left_by flags (map sent_slot (range_with_len a n)))
  rising [] a n = tt
  rising (flag ∷ flags) a naught = tt
  rising (true ∷ flags) a (suc n) = IsRisingFrom-less a (a + 1) (left_by flags (map sent_slot (range_with_len (a + 1) n))) (omega arith) (rising flags (a + 1) n)
  rising (false ∷ flags) a (suc n) = (omega arith, rising flags (a + 1) n)

  -- all of them are taken
  pub taken-left : (flags : List Bool) (n : ℕ) → n ≤ length rtp + p.deadline
      → taken_from 0 (map (taken_slot p.code) (left_by flags (map (slot_at p rtp) (range_with_len 0 n)))) ≡ left_slots flags n
  taken-left flags n le =
      ap (taken_from 0)
      (left_by-map (taken_slot p.code) flags (map (slot_at p rtp) (range_with_len 0 n))
      ∙ ap (left_by flags) (map-map (taken_slot p.code) (slot_at p rtp) (range_with_len 0 n) ∙ map-same (λ i. taken_slot p.code (slot_at p rtp i)) sent_slot 0 n (λ i lt. taken-is i (omega arith))))
      ∙ taken_from-rising 0 (left_slots flags n) (rising flags 0 n)

  pub left-ends : (flags : List Bool) (n : ℕ) → HasEnds (length rtp) (left_slots flags n)
  left-ends flags n x c =
      let from = left_in sent_slot flags 0 n x c in
      subst (λ (s : Taken ℕ). s.end ≡ s.number + 1 - length rtp) from.3 refl

  pub left-below : (flags : List Bool) (n : ℕ) → AllBelow (left_slots flags n) n
  left-below flags n x c =
      let from = left_in sent_slot flags 0 n x c in
      let within : from.0 < 0 + n = from.2 in
      subst (λ (s : Taken ℕ). s.number < n) from.3 (omega arith)

  -- ---- what fits them

  sent_match : (i w : ℕ) → i < w → IsMatch 0 gf256_product p.m (take w (stream p rtp)) (sent_slot i)
  sent_match i w lt = IsMatch-take 0 gf256_product p.m w (stream p rtp) (sent_slot i) lt (record { same_block = refl; same_parity = refl })

  pub left-fits : AreSources p rtp → (flags : List Bool) (n w : ℕ) → w ≤ length rtp + p.deadline → Fits 0 gf256_product p.code.k p.m (left_slots flags n) w (take w (stream p rtp))
  left-fits h flags n w le = record {
    is_stream = IsStream-take p.code.k p.m w (stream p rtp) (IsStream-sent h);
    count = length-take-le w (stream p rtp) (omega (arith, length-stream));
    slots = λ x c lt.
        let from = left_in sent_slot flags 0 n x c in
        let number : from.0 ≡ x.number = ap (λ (s : Taken ℕ). s.number) from.3 in
        subst (IsMatch 0 gf256_product p.m (take w (stream p rtp))) from.3 (sent_match from.0 w (omega arith));
  }

  pub next-fits : AreSources p rtp → (flags : List Bool) (n : ℕ) → n < length rtp + p.deadline → Fits 0 gf256_product p.code.k p.m (left_slots flags n ++ sent_slot n ∷ []) (n + 1) (take (n + 1) (stream p rtp))
  next-fits h flags n lt =
      Fits-push 0 gf256_product p.code.k p.m (left_slots flags n) (sent_slot n) (n + 1) (take (n + 1) (stream p rtp)) (left-fits h flags n (n + 1) (omega arith)) (sent_match n (n + 1) (omega arith))

  -- no value is bad that is settled as a stream of good blocks has it
  settled_good : (file : CodeFile) (m w t : ℕ) (taken : List (Taken ℕ)) (xs : List (List (List ℕ))) (x : Option (List (List ℕ))) → Fits 0 gf256_product file.code.k m taken w xs → t < w
      → is_bad_block (block_at xs t) ≡ false → IsSettled 0 gf256_product file.code.k m file.channel.t taken w t x → is_bad_value x ≡ false
  settled_good file m w t taken xs None f lt good h = refl
  settled_good file m w t taken xs (Some b) f lt good h =
      let v = min w (t + file.channel.t + 1) in
      let same : block_at xs t ≡ b =
      sym (block_at-take (min w (t + file.channel.t + 1)) xs t (omega arith))
      ∙ h.all_have (take (min w (t + file.channel.t + 1)) xs) (Fits-take 0 gf256_product file.code.k m taken w (min w (t + file.channel.t + 1)) xs (omega arith) f) in
      subst (λ c. is_bad_block c ≡ false) same good

  pub put-good : (file : CodeFile) (m w : ℕ) (taken : List (Taken ℕ)) (xs : List (List (List ℕ))) → Fits 0 gf256_product file.code.k m taken w xs
      → ((i : ℕ) → i < w → is_bad_block (block_at xs i) ≡ false) → bad_among (put_of file m taken w) ≡ None
  put-good file m w taken xs f good =
      let values = put_of file m taken w in
      let none = (HasNoClash-iff_consistent 0 gf256_product file.code.k m taken w).1 (xs, f) in
      let le : length (put_of file m taken w) ≤ w = put_values-le file.code.k m file.channel.t taken w in
      bad_among-lacks values (position-lacks is_bad_value values None (λ i lt.
      settled_good file m w i taken xs (get_or (put_of file m taken w) i None) f (omega arith) (good i (omega arith))
      (put_values-one file.code.k m file.channel.t taken w i none lt)))
