-- What the taken slots determine, as functions of them. Each is said by a search among all streams of bytes, which nothing
-- ever runs: streams that fit the taken slots, and what all of them have at a slot.
use Rattle.std.specs.Prelude.{ℕ, ◌+◌, ◌*◌, ◌&&◌, ◌||◌, Bool, true, false, min, List, [], ◌∷◌, map, Option, Some, None, option_map, is_none, is_some, not, nat_lt, bytes_eq, if◌then◌else◌}
use Rattle.std.specs.Cmp.Lexicographic.{pointwise}
use Rattle.std.specs.List.{list_all, range_with_len}
use Rattle.sc_field.specs.Gf256.{gf256_product}
use Rattle.sc_matrix.specs.Layout.{cut}
use Rattle.sc_code.specs.FirstBytes.{first_bytes}
use Rattle.sc_code.specs.Parity.{parity}
use Rattle.sc_code.specs.Stream.{block_at}
use Rattle.sc_slots.specs.Taken.{Taken}

-- two blocks have the same symbols
abbrev pub same_block : List (List ℕ) → List (List ℕ) → Bool
same_block a b = pointwise bytes_eq a b

-- the values from the front on, as long as each is there
abbrev pub while_there : {X : Type 0} → List (Option X) → List X
while_there [] = []
while_there (None ∷ xs) = []
while_there (Some x ∷ xs) = x ∷ while_there xs

-- streams are of blocks of k symbols of m bytes
module _ (k m : ℕ) where
  -- the stream of w blocks whose bytes these are, one after the other
  abbrev pub stream_of : ℕ → List ℕ → List (List (List ℕ))
  stream_of w bytes = map (cut k m) (cut w (k * m) bytes)

  -- the first stream of w blocks that passes a test
  unfoldable pub first_stream : ℕ → (List (List (List ℕ)) → Bool) → Option (List (List (List ℕ)))
  first_stream w test = option_map (stream_of w) (first_bytes (w * (k * m)) (λ bytes. test (stream_of w bytes)))

  -- a stream has the taken slot at its number, in block and parity
  abbrev pub has_slot : List (List (List ℕ)) → Taken ℕ → Bool
  has_slot stream slot =
      same_block (block_at stream slot.number) slot.block
      && same_block (parity 0 gf256_product slot.code m stream slot.number) slot.parity

  -- it has each taken slot below w
  abbrev pub does_fit : List (Taken ℕ) → ℕ → List (List (List ℕ)) → Bool
  does_fit taken w stream = list_all (λ slot. not (nat_lt slot.number w) || has_slot stream slot) taken

  -- some stream of w blocks fits
  abbrev pub is_consistent : List (Taken ℕ) → ℕ → Bool
  is_consistent taken w = is_some (first_stream w (does_fit taken w))

  -- no stream of w blocks that fits has another block t than this one
  abbrev pub is_only : List (Taken ℕ) → ℕ → ℕ → List (List ℕ) → Bool
  is_only taken w t block =
      is_none (first_stream w (λ stream. does_fit taken w stream && not (same_block (block_at stream t) block)))

  -- block t of a stream that fits, where all that fit have it
  abbrev pub only_block_in : List (Taken ℕ) → ℕ → ℕ → Option (List (List (List ℕ))) → Option (List (List ℕ))
  only_block_in taken w t None = None
  only_block_in taken w t (Some stream) = if is_only taken w t (block_at stream t) then Some (block_at stream t) else None

  -- the block t that all streams of w blocks that fit have, where there is one
  unfoldable pub only_block : List (Taken ℕ) → ℕ → ℕ → Option (List (List ℕ))
  only_block taken w t = only_block_in taken w t (first_stream w (does_fit taken w))

-- a slot whose block is determined is settled as that block, and one whose deadline is over as missed where it isn't
abbrev pub settled_by : Bool → Option (List (List ℕ)) → Option (Option (List (List ℕ)))
settled_by over (Some block) = Some (Some block)
settled_by true None = Some None
settled_by false None = None

module _ (k m deadline : ℕ) where
  -- how slot t is settled once w slots are passed, where it is
  abbrev pub value_at : List (Taken ℕ) → ℕ → ℕ → Option (Option (List (List ℕ)))
  value_at taken w t = settled_by (nat_lt (t + deadline) w) (only_block k m taken (min w (t + deadline + 1)) t)

  -- the values of the slots that are put out once w slots are passed: from slot 0 on, as long as each is settled
  unfoldable pub put_values : List (Taken ℕ) → ℕ → List (Option (List (List ℕ)))
  put_values taken w = while_there (map (value_at taken w) (range_with_len 0 w))

  -- what the end of the input leaves of slot t: its block, where it is recovered
  abbrev pub outcome_at : List (Taken ℕ) → ℕ → Option (List (List ℕ))
  outcome_at taken t = only_block k m taken (t + deadline + 1) t

  -- what it leaves of the slots below n
  unfoldable pub outcomes : List (Taken ℕ) → ℕ → List (Option (List (List ℕ)))
  outcomes taken n = map (outcome_at taken) (range_with_len 0 n)
