-- Blocks and their symbols, in the order of the columns: what is known of the symbols is known of the blocks, and the first
-- places are given up by giving up their symbols.
use Rattle.std.proofs.Common.{◌≡◌, ℕ, zero as nought, suc, ◌+◌, ◌-◌, ◌*◌, ◌<◌, ◌≤◌, ◌↔◌, List, [], ◌∷◌, ◌++◌, length, get_or, take, drop, All, refl, sym, ap, ap₂, ◌∙◌, subst, arith, suc-mul}
use Rattle.std.proofs.lemmas.List.{length-append, length-take-le, length-drop, take-append-drop, take_at, drop_at, get_or_append_left, get_or-append_right, nil_from_length}
use Rattle.std.proofs.lemmas.List.Elements.{All-nil, All-cons, All-head, All-tail, All-append, All-take, All-drop}
use Rattle.std.proofs.lemmas.List.Concat.{flat_map-append}
use Rattle.sc_matrix.specs.Module.{IsByte}
use Rattle.sc_matrix.specs.Vector.{IsVector}
use Rattle.sc_code.specs.Stream.{IsBlock, IsStream, block_at}
use Rattle.sc_slots.specs.Kept.{IsAfterFree, IsAfterForget}
use Rattle.sc_slots.specs.Rows.{symbols_of, blocks_of, HasSymbolsIn}
use Rattle.sc_slots.proofs.FitLaws.{IsStream-append}

tail_of : (k m : ℕ) (b : List (List ℕ)) (blocks : List (List (List ℕ))) → IsStream k m (b ∷ blocks) → IsStream k m blocks
tail_of k m b blocks h = All-tail (IsBlock k m) b blocks h

pub length-symbols_of : (k m n : ℕ) (blocks : List (List (List ℕ))) → IsStream k m blocks → length blocks ≡ n → length (symbols_of blocks) ≡ n * k
length-symbols_of k m nought [] h e = omega arith
length-symbols_of k m (suc n) [] h e = absurd (omega arith)
length-symbols_of k m nought (b ∷ blocks) h e = absurd (omega arith)
length-symbols_of k m (suc n) (b ∷ blocks) h e =
    let first : length b ≡ k = (All-head (IsBlock k m) b blocks h).width in
    omega (arith, length-append b (symbols_of blocks), length-symbols_of k m n blocks (tail_of k m b blocks h) (omega arith), suc-mul n k)

pub symbols-of_stream : (k m : ℕ) (blocks : List (List (List ℕ))) → IsStream k m blocks → All (IsVector IsByte m) (symbols_of blocks)
symbols-of_stream k m [] h = All-nil (IsVector IsByte m)
symbols-of_stream k m (b ∷ blocks) h = All-append (IsVector IsByte m) b (symbols_of blocks) (All-head (IsBlock k m) b blocks h).entries (symbols-of_stream k m blocks (tail_of k m b blocks h))

-- symbol i of the block at a place stands in column place * k + i
pub symbol_at : (k m : ℕ) (blocks : List (List (List ℕ))) (place i : ℕ) → IsStream k m blocks → place < length blocks → i < k → get_or (symbols_of blocks) (place * k + i) [] ≡ get_or (block_at blocks place) i []
symbol_at k m [] place i h lt hi = absurd (omega arith)
symbol_at k m (b ∷ blocks) nought i h lt hi =
    let first : length b ≡ k = (All-head (IsBlock k m) b blocks h).width in
    let at : 0 * k + i ≡ i = omega arith in
    ap (λ (c : ℕ). get_or (b ++ symbols_of blocks) c []) at ∙ get_or_append_left b (symbols_of blocks) [] i (omega arith)
symbol_at k m (b ∷ blocks) (suc place) i h lt hi =
    let first : length b ≡ k = (All-head (IsBlock k m) b blocks h).width in
    let at : suc place * k + i - k ≡ place * k + i = omega (arith, suc-mul place k) in
    get_or-append_right b (symbols_of blocks) k (suc place * k + i) [] first (omega (arith, suc-mul place k))
    ∙ ap (λ (c : ℕ). get_or (symbols_of blocks) c []) at ∙ symbol_at k m blocks place i (tail_of k m b blocks h) (omega arith) hi

-- ---- from symbols to blocks and back

pub length-blocks_of : (k n : ℕ) (symbols : List (List ℕ)) → length (blocks_of k n symbols) ≡ n
length-blocks_of k nought symbols = refl
length-blocks_of k (suc n) symbols = ap suc (length-blocks_of k n (drop k symbols))

pub IsStream-blocks_of : (k m n : ℕ) (symbols : List (List ℕ)) → length symbols ≡ n * k → All (IsVector IsByte m) symbols → IsStream k m (blocks_of k n symbols)
IsStream-blocks_of k m nought symbols e h = All-nil (IsBlock k m)
IsStream-blocks_of k m (suc n) symbols e h =
    let room : k ≤ length symbols = omega (arith, suc-mul n k) in
    All-cons (IsBlock k m) (take k symbols) (blocks_of k n (drop k symbols))
    (record { width = length-take-le k symbols room; entries = All-take (IsVector IsByte m) k symbols h })
    (IsStream-blocks_of k m n (drop k symbols) (omega (arith, length-drop k symbols, suc-mul n k)) (All-drop (IsVector IsByte m) k symbols h))

pub symbols_of-blocks_of : (k n : ℕ) (symbols : List (List ℕ)) → length symbols ≡ n * k → symbols_of (blocks_of k n symbols) ≡ symbols
symbols_of-blocks_of k nought symbols e = sym (nil_from_length symbols (omega arith))
symbols_of-blocks_of k (suc n) symbols e =
    ap (λ rest. take k symbols ++ rest) (symbols_of-blocks_of k n (drop k symbols) (omega (arith, length-drop k symbols, suc-mul n k))) ∙ take-append-drop k symbols

-- the symbols of the first blocks are the first symbols
pub symbols_of-take : (k m n : ℕ) (blocks : List (List (List ℕ))) → IsStream k m blocks → n ≤ length blocks → take (n * k) (symbols_of blocks) ≡ symbols_of (take n blocks)
symbols_of-take k m n blocks h le =
    let front : IsStream k m (take n blocks) = All-take (IsBlock k m) n blocks h in
    ap (λ (xs : List (List (List ℕ))). take (n * k) (symbols_of xs)) (sym (take-append-drop n blocks))
    ∙ ap (take (n * k)) (flat_map-append (λ block. block) (take n blocks) (drop n blocks))
    ∙ take_at (symbols_of (take n blocks)) (symbols_of (drop n blocks)) (n * k) (length-symbols_of k m n (take n blocks) front (length-take-le n blocks le))

-- ---- sets of symbols

-- The first c places of n are given up, and as many free ones appended, where this is done with their symbols: a list of
-- symbols is in the new set exactly where some symbols in front of it, less its last ones, make a list of the old set.
pub after_forgetting_symbols : (k m n c : ℕ) (old new : List (List ℕ) → Type 0) → c ≤ n
    → ((symbols : List (List ℕ)) → length symbols ≡ n * k → All (IsVector IsByte m) symbols → new symbols ↔ ((front : List (List ℕ)) × (length front ≡ c * k) × All (IsVector IsByte m) front × old (front ++ take ((n - c) * k) symbols)))
    → (blocks : List (List (List ℕ))) → HasSymbolsIn k m n new blocks ↔ IsAfterFree k m c (IsAfterForget c (HasSymbolsIn k m n old)) blocks
after_forgetting_symbols k m n c old new le forgets blocks = (
  λ x.
      let count : length blocks ≡ n = x.count in
      let some = (forgets (symbols_of blocks) (length-symbols_of k m n blocks x.is_stream count) (symbols-of_stream k m blocks x.is_stream)).0 x.is_in in
      let us : List (List ℕ) = some.0 in
      let first : List (List (List ℕ)) = blocks_of k c us in
      let longer : List (List (List ℕ)) = blocks_of k c us ++ take (n - c) blocks in
      let is_front : IsStream k m (blocks_of k c us) = IsStream-blocks_of k m c us some.1 some.2 in
      let is_rest : IsStream k m (take (n - c) blocks) = All-take (IsBlock k m) (n - c) blocks x.is_stream in
      let same : us ++ take ((n - c) * k) (symbols_of blocks) ≡ symbols_of (blocks_of k c us ++ take (n - c) blocks) =
      ap₂ (λ (a b : List (List ℕ)). a ++ b) (sym (symbols_of-blocks_of k c us some.1)) (symbols_of-take k m (n - c) blocks x.is_stream (omega arith))
      ∙ sym (flat_map-append (λ block. block) (blocks_of k c us) (take (n - c) blocks)) in
      record {
        before = take (n - c) blocks;
        more = drop (n - c) blocks;
        is_kept = record {
          longer = longer;
          is_kept = record {
            is_stream = IsStream-append k m (blocks_of k c us) (take (n - c) blocks) is_front is_rest;
            count = omega (arith, length-append (blocks_of k c us) (take (n - c) blocks), length-blocks_of k c us, length-take-le (n - c) blocks (omega arith));
            is_in = subst old same some.3;
          };
          cut = drop_at (blocks_of k c us) (take (n - c) blocks) c (length-blocks_of k c us);
        };
        is_stream = All-drop (IsBlock k m) (n - c) blocks x.is_stream;
        count = omega (arith, length-drop (n - c) blocks);
        appended = sym (take-append-drop (n - c) blocks);
      },
  λ x.
      let y = x.is_kept in
      let z = y.is_kept in
      let long : length y.longer ≡ n = z.count in
      let cut : drop c y.longer ≡ x.before = y.cut in
      let more : length x.more ≡ c = x.count in
      let length_before : length x.before ≡ n - c = sym (ap length cut) ∙ length-drop c y.longer ∙ ap (λ (l : ℕ). l - c) long in
      let is_before : IsStream k m x.before = subst (IsStream k m) cut (All-drop (IsBlock k m) c y.longer z.is_stream) in
      let is_front : IsStream k m (take c y.longer) = All-take (IsBlock k m) c y.longer z.is_stream in
      let all : IsStream k m blocks = subst (IsStream k m) (sym x.appended) (IsStream-append k m x.before x.more is_before x.is_stream) in
      let count : length blocks ≡ n = ap length x.appended ∙ omega (arith, length-append x.before x.more) in
      let first : take (n - c) blocks ≡ x.before = ap (take (n - c)) x.appended ∙ take_at x.before x.more (n - c) length_before in
      let same : symbols_of y.longer ≡ symbols_of (take c y.longer) ++ take ((n - c) * k) (symbols_of blocks) =
      ap symbols_of (sym (take-append-drop c y.longer)) ∙ flat_map-append (λ block. block) (take c y.longer) (drop c y.longer)
      ∙ ap (λ (s : List (List ℕ)). symbols_of (take c y.longer) ++ s) (ap symbols_of (cut ∙ sym first) ∙ sym (symbols_of-take k m (n - c) blocks all (omega arith))) in
      record {
        is_stream = all;
        count = count;
        is_in = (forgets (symbols_of blocks) (length-symbols_of k m n blocks all count) (symbols-of_stream k m blocks all)).1 (
          symbols_of (take c y.longer),
          length-symbols_of k m c (take c y.longer) is_front (length-take-le c y.longer (omega arith)),
          symbols-of_stream k m (take c y.longer) is_front,
          subst old same z.is_in,
        );
      },
)
