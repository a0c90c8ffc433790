-- What is kept, where it is kept as what is known of columns of symbols: each step of a repairer and each of its questions, by
-- the set of the lists of symbols that solve it.
use Rattle.std.proofs.Common.{◌≡◌, ◌≢◌, ℕ, ◌+◌, ◌*◌, ◌<◌, ◌↔◌, List, [], length, get_or, All, sym, ap, ◌∙◌, subst, arith}
use Rattle.std.proofs.lemmas.List.{ext_get_or}
use Rattle.sc_field.specs.Field.{IsField, IsAction}
use Rattle.sc_matrix.specs.Module.{IsByte}
use Rattle.sc_matrix.specs.Vector.{IsVector}
use Rattle.sc_code.specs.Code.{IsCode}
use Rattle.sc_code.specs.Stream.{IsBlock, IsStream, block_at}
use Rattle.sc_slots.specs.Taken.{Taken}
use Rattle.sc_slots.specs.Kept.{IsAfterTake}
use Rattle.sc_slots.specs.Rows.{symbols_of, blocks_of, HasSymbolsIn, MeetsRows}
use Rattle.sc_slots.proofs.RowLaws.{IsAfterTake-iff_rows}
use Rattle.sc_slots.proofs.SymbolLaws.{length-symbols_of, symbols-of_stream, symbol_at, length-blocks_of, IsStream-blocks_of, symbols_of-blocks_of}

-- a list of symbols in a set gives blocks whose symbols are in it
pub HasSymbolsIn-blocks_of : (k m n : ℕ) (set : List (List ℕ) → Type 0) (symbols : List (List ℕ)) → length symbols ≡ n * k → All (IsVector IsByte m) symbols → set symbols → HasSymbolsIn k m n set (blocks_of k n symbols)
HasSymbolsIn-blocks_of k m n set symbols e h x =
    record { is_stream = IsStream-blocks_of k m n symbols e h; count = length-blocks_of k n symbols; is_in = subst set (sym (symbols_of-blocks_of k n symbols e)) x }

-- where nothing is known, every stream of n blocks is kept
pub HasSymbolsIn-any : (k m n : ℕ) (set : List (List ℕ) → Type 0) → ((symbols : List (List ℕ)) → length symbols ≡ n * k → All (IsVector IsByte m) symbols → set symbols)
    → (blocks : List (List (List ℕ))) → (IsStream k m blocks × (length blocks ≡ n)) ↔ HasSymbolsIn k m n set blocks
HasSymbolsIn-any k m n set any blocks = (
  λ x. record { is_stream = x.0; count = x.1; is_in = any (symbols_of blocks) (length-symbols_of k m n blocks x.0 x.1) (symbols-of_stream k m blocks x.0) },
  λ x. (x.is_stream, x.count),
)

-- some list of symbols is in a set exactly where something is kept
pub some_kept-iff_some_symbols : (k m n : ℕ) (set : List (List ℕ) → Type 0)
    → ((symbols : List (List ℕ)) × (length symbols ≡ n * k) × All (IsVector IsByte m) symbols × set symbols) ↔ ((blocks : List (List (List ℕ))) × HasSymbolsIn k m n set blocks)
some_kept-iff_some_symbols k m n set = (
  λ x. (blocks_of k n x.0, HasSymbolsIn-blocks_of k m n set x.0 x.1 x.2 x.3),
  λ x. (symbols_of x.0, length-symbols_of k m n x.0 x.1.is_stream x.1.count, symbols-of_stream k m x.0 x.1.is_stream, x.1.is_in),
)

-- All that is kept has a block at a place exactly where all lists of symbols have the block's symbols in its columns.
pub block_kept-iff_symbols : (k m n : ℕ) (set : List (List ℕ) → Type 0) (place : ℕ) (b : List (List ℕ)) → length b ≡ k → place < n
    → ((i : ℕ) → i < k → (symbols : List (List ℕ)) → length symbols ≡ n * k → All (IsVector IsByte m) symbols → set symbols → get_or symbols (place * k + i) [] ≡ get_or b i [])
    ↔ ((blocks : List (List (List ℕ))) → HasSymbolsIn k m n set blocks → block_at blocks place ≡ b)
block_kept-iff_symbols k m n set place b e lt = (
  λ all blocks x.
      let count : length blocks ≡ n = x.count in
      let block : IsBlock k m (block_at blocks place) = x.is_stream place [] (omega arith) in
      let width : length (block_at blocks place) ≡ k = block.width in
      ext_get_or [] (block_at blocks place) b (width ∙ sym e) (λ i h.
      sym (symbol_at k m blocks place i x.is_stream (omega arith) (omega arith))
      ∙ all i (omega arith) (symbols_of blocks) (length-symbols_of k m n blocks x.is_stream count) (symbols-of_stream k m blocks x.is_stream) x.is_in),
  λ all i hi symbols es hs x.
      let is_stream : IsStream k m (blocks_of k n symbols) = IsStream-blocks_of k m n symbols es hs in
      ap (λ (s : List (List ℕ)). get_or s (place * k + i) []) (sym (symbols_of-blocks_of k n symbols es))
      ∙ symbol_at k m (blocks_of k n symbols) place i is_stream (omega (arith, length-blocks_of k n symbols)) hi
      ∙ ap (λ (a : List (List ℕ)). get_or a i []) (all (blocks_of k n symbols) (HasSymbolsIn-blocks_of k m n set symbols es hs x)),
)

-- Where two lists of symbols differ in a column of a place, no block is in all that is kept.
pub no_block_where_open : (k m n : ℕ) (set : List (List ℕ) → Type 0) (place i : ℕ) (one two : List (List ℕ)) → place < n → i < k → length one ≡ n * k → length two ≡ n * k → All (IsVector IsByte m) one → All (IsVector IsByte m) two
    → set one → set two → get_or one (place * k + i) [] ≢ get_or two (place * k + i) [] → (b : List (List ℕ)) → ¬ ((blocks : List (List (List ℕ))) → HasSymbolsIn k m n set blocks → block_at blocks place ≡ b)
no_block_where_open k m n set place i one two lt hi e1 e2 h1 h2 x1 x2 differ b all =
    let symbol : (s : List (List ℕ)) → length s ≡ n * k → All (IsVector IsByte m) s → set s → get_or s (place * k + i) [] ≡ get_or b i [] =
    λ s es hs x.
    ap (λ (y : List (List ℕ)). get_or y (place * k + i) []) (sym (symbols_of-blocks_of k n s es))
    ∙ symbol_at k m (blocks_of k n s) place i (IsStream-blocks_of k m n s es hs) (omega (arith, length-blocks_of k n s)) hi
    ∙ ap (λ (a : List (List ℕ)). get_or a i []) (all (blocks_of k n s) (HasSymbolsIn-blocks_of k m n set s es hs x)) in
    differ (symbol one e1 h1 x1 ∙ sym (symbol two e2 h2 x2))

module _ {A : Type 0} {IsElement : A → Type 0} {zero one : A} {add sub mul : A → A → A} {inv : A → A} {act : A → ℕ → ℕ} (laws : IsField IsElement zero one add sub mul inv) (action : IsAction IsElement zero one add mul act) where
  -- A slot is taken by adding its rows.
  pub after_adding_rows : (m n : ℕ) (slot : Taken A) (place : ℕ) (set : List (List ℕ) → Type 0) (blocks : List (List (List ℕ))) → IsCode IsElement slot.code → IsBlock slot.code.k m slot.block → IsBlock slot.code.r m slot.parity → place < n
      → HasSymbolsIn slot.code.k m n (λ symbols. set symbols × MeetsRows zero one act slot.code.k m n slot place symbols) blocks ↔ IsAfterTake zero act m slot place (HasSymbolsIn slot.code.k m n set) blocks
  after_adding_rows m n slot place set blocks hc hb hp lt = (
    λ x. (IsAfterTake-iff_rows laws action m n slot place (HasSymbolsIn slot.code.k m n set) blocks hc hb hp x.is_stream x.count lt).1
        (record { is_stream = x.is_stream; count = x.count; is_in = x.is_in.0 }, x.is_in.1),
    λ x. (
        let old = x.is_kept in
        let both = (IsAfterTake-iff_rows laws action m n slot place (HasSymbolsIn slot.code.k m n set) blocks hc hb hp old.is_stream old.count lt).0 x in
        record { is_stream = old.is_stream; count = old.count; is_in = (old.is_in, both.1) }),
  )
