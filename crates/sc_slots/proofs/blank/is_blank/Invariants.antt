use Rattle.std.proofs.Common.{◌≡◌, ℕ, ◌<◌, get_or}
use Rattle.sc_slots.proofs.blank.is_blank.Given as goal

-- no bit so far exactly where each byte so far is 0
abbrev pub invariant-loop-byte : goal.invariant-loop-byte
invariant-loop-byte l =
    (l.bits ≡ 0 → (k : ℕ) → k < l.byte-index → get_or l.bytes k 0 ≡ 0)
    × (((k : ℕ) → k < l.byte-index → get_or l.bytes k 0 ≡ 0) → l.bits ≡ 0)
