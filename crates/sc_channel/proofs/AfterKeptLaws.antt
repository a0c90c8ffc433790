-- Admissible losses with slots in front of which none is lost.
use Rattle.std.proofs.Common.{◌≡◌, ℕ, zero, suc, ◌+◌, ◌<◌, ◌≤◌, Bool, false, List, [], ◌∷◌, ◌++◌, length, refl, sym, subst, arith}
use Rattle.std.proofs.Math.ListN.{replicate}
use Rattle.std.proofs.lemmas.Bool.{both_ways}
use Rattle.sc_channel.specs.Channel.{ChannelNumbers}
use Rattle.sc_channel.specs.Loss.{IsFine, few, close, IsAdmissible}
use Rattle.sc_channel.proofs.FineLaws.{IsFine-nil}
use Rattle.sc_channel.proofs.SetCountSteps.{set_count-cons}
use Rattle.sc_channel.proofs.SpanSteps.{SetWithin, span-le}

SetWithin-unset : (b : ℕ) (flags : List Bool) → SetWithin b flags → SetWithin b (false ∷ flags)
SetWithin-unset b flags within zero j set_i set_j = absurd (both_ways _ refl set_i)
SetWithin-unset b flags within (suc i) zero set_i set_j = absurd (both_ways _ refl set_j)
SetWithin-unset b flags within (suc i) (suc j) set_i set_j = let h : j < i + b = within i j set_i set_j in omega arith

-- fine flags stay fine with an unset one in front
IsFine-unset : (b n : ℕ) (flags : List Bool) → IsFine b n flags → IsFine b n (false ∷ flags)
IsFine-unset b n flags (few h) = few (omega (arith, set_count-cons false flags))
IsFine-unset b n flags (close h) = close ((span-le b (false ∷ flags)).1 (SetWithin-unset b flags ((span-le b flags).0 h)))

unset_part : (channel : ChannelNumbers) (flags : List Bool) → IsAdmissible channel flags → (before part after : List Bool)
    → before ++ (part ++ after) ≡ false ∷ flags → length part ≤ channel.w → IsFine channel.b channel.n part
unset_part channel flags ok (x ∷ before) part after e short =
    let rest : before ++ (part ++ after) ≡ flags = cc in
    ok.part_is_fine before part after rest short
unset_part channel flags ok [] [] after e short = IsFine-nil channel.b channel.n
unset_part channel flags ok [] (x ∷ part) after e short =
    let first : x ≡ false = cc in
    let rest : part ++ after ≡ flags = cc in
    subst (λ (y : Bool). IsFine channel.b channel.n (y ∷ part)) (sym first)
    (IsFine-unset channel.b channel.n part (ok.part_is_fine [] part after rest (omega arith)))

-- a loss that is admissible stays so where slots that are kept come before it
pub IsAdmissible-after_kept : (channel : ChannelNumbers) (flags : List Bool) (n : ℕ) → IsAdmissible channel flags → IsAdmissible channel (replicate n false ++ flags)
IsAdmissible-after_kept channel flags zero ok = ok
IsAdmissible-after_kept channel flags (suc n) ok =
    record { part_is_fine = unset_part channel (replicate n false ++ flags) (IsAdmissible-after_kept channel flags n ok) }
