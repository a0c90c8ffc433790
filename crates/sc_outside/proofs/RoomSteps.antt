-- Room that is left, where neither a refusal nor a full output was found.
use Rattle.std.proofs.Common.{◌≡◌, ℕ, ◌<◌, ◌||◌, Bool, true, false, nat_le}
use Rattle.std.proofs.lemmas.Bool.{leb-false}

-- where neither of two tests holds, the second doesn't
second_false : (a b : Bool) → (a || b) ≡ false → b ≡ false
second_false false b h = h
second_false true b h = absurd (cc)

pub room_left : (a : Bool) (room used : ℕ) → (a || nat_le room used) ≡ false → used < room
room_left a room used h = leb-false room used (second_false a (nat_le room used) h)
