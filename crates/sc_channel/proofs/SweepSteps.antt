-- The walk over a loss: what it keeps at each flag, and what that says of the last w flags.
use Rattle.std.proofs.Common.{◌≡◌, ℕ, ◌+◌, ◌-◌, ◌<◌, ◌≤◌, Bool, true, false, cond, List, ◌++◌, length, get_or, take, refl, ap, subst, arith, sym, ◌∙◌, inl, inr}
use Rattle.std.specs.Int.{from_bool}
use Rattle.std.proofs.lemmas.Bool.{both_ways, cases_lt, cases_eq}
use Rattle.std.proofs.lemmas.List.{length-append}
use Rattle.sc_channel.specs.Channel.{ChannelNumbers}
use Rattle.sc_channel.specs.Flags.{IsSet, set_count, window}
use Rattle.sc_channel.specs.Loss.{IsFine, few, close, IsAdmissible, IsFirstBadWindow}
use Rattle.sc_channel.specs.Sweep.{recent, IsRecentCount, IsEarlyEnd}
use Rattle.sc_channel.proofs.SetCountSteps.{IsSet-in_range, IsSet-take, IsSet-take_from, IsSet-drop, IsSet-drop_from, set_count_more, set_count_up_to, set_count-between}
use Rattle.sc_channel.proofs.SpanSteps.{span-le}
use Rattle.sc_channel.proofs.FineLaws.{IsFine-moved, IsFine-fewer, IsSet-window, IsSet-window_from, IsSet-of_part}

from_bool-cond : (flag : Bool) → cond flag 1 0 ≡ from_bool flag
from_bool-cond true = refl
from_bool-cond false = refl

-- where w flags are behind, flag i enters and flag i - w leaves
pub recent_sums : (w : ℕ) (flags : List Bool) (i set : ℕ) → i < length flags → w ≤ i → IsRecentCount w flags i set → (set_count (take (i + 1 - w) flags) + (set + from_bool (get_or flags i false)) ≡ set_count (take (i + 1) flags) + from_bool (get_or flags (i - w) false)) × (from_bool (get_or flags (i - w) false) ≤ set + from_bool (get_or flags i false))
recent_sums w flags i set within behind before =
    let at : i + 1 - w ≡ i - w + 1 = omega arith in
    let leaving : set_count (take (i + 1 - w) flags) ≡ set_count (take (i - w) flags) + from_bool (get_or flags (i - w) false) =
    ap (λ k. set_count (take k flags)) at ∙ (set_count_more flags (i - w) (omega arith) ∙ ap (λ k. set_count (take (i - w) flags) + k) (from_bool-cond (get_or flags (i - w) false))) in
    let entering : set_count (take (i + 1) flags) ≡ set_count (take i flags) + from_bool (get_or flags i false) =
    set_count_more flags i within ∙ ap (λ k. set_count (take i flags) + k) (from_bool-cond (get_or flags i false)) in
    let rises : set_count (take (i + 1 - w) flags) ≤ set_count (take (i + 1) flags) = set_count_up_to flags (i + 1 - w) (i + 1) (omega arith) in
    (omega (arith, before.sum_is), omega (arith, before.sum_is))

-- a set flag of the last w ones, by its place in the loss
pub IsSet-recent : (w e : ℕ) (flags : List Bool) (k : ℕ) → IsSet (recent w e flags) k → (e - w + k < e) × IsSet flags (e - w + k)
IsSet-recent w e flags k set = IsSet-take e flags (e - w + k) (IsSet-drop (e - w) (take e flags) k set)

pub IsSet-recent_from : (w e : ℕ) (flags : List Bool) (k : ℕ) → e - w + k < e → IsSet flags (e - w + k) → IsSet (recent w e flags) k
IsSet-recent_from w e flags k below set =
    IsSet-drop_from (e - w) (take e flags) k (IsSet-take_from e flags (e - w + k) below set)

-- the same, where the flag's place in the loss is known by an equation
IsSet-recent_at : (w e : ℕ) (flags : List Bool) (k place : ℕ) → e - w + k ≡ place → place < e → IsSet flags place → IsSet (recent w e flags) k
IsSet-recent_at w e flags k place at below set =
    let P : ℕ → Type 0 = λ i. IsSet flags i in
    IsSet-recent_from w e flags k (omega arith) (subst P (sym at) set)

pub set_count-recent : (w e : ℕ) (flags : List Bool) (set : ℕ) → IsRecentCount w flags e set → set_count (recent w e flags) ≡ set
set_count-recent w e flags set count =
    omega (arith, count.sum_is, set_count-between flags (e - w) e (omega arith))

-- more than n of the last w flags are set, and a set one lies at least b places before the set flag e - 1
pub recent_bad : (w b n : ℕ) (flags : List Bool) (i set after : ℕ) → IsRecentCount w flags (i + 1) set → IsEarlyEnd b flags (i + 1) after → IsSet flags i → n < set → i + 1 - w < after → IsFine b n (recent w (i + 1) flags) → ⊥
recent_bad w b n flags i set after count early set_i many wide (few h) =
    absurd (omega (arith, set_count-recent w (i + 1) flags set count))
recent_bad w b n flags i set after count early set_i many wide (close h) =
    let some : 0 < after = omega arith in
    let lies_early : after + b < i + 1 + 1 = early.is_early some in
    let start = i + 1 - w in
    let apart : i - start < after - 1 - start + b =
    (span-le b (recent w (i + 1) flags)).0 h (after - 1 - start) (i - start)
    (IsSet-recent_at w (i + 1) flags (after - 1 - start) (after - 1) (omega arith) (omega arith) (early.is_set some))
    (IsSet-recent_at w (i + 1) flags (i - start) i (omega arith) (omega arith) set_i) in
    absurd (omega arith)

-- at most n of the last w flags are set
pub recent_few : (w b n : ℕ) (flags : List Bool) (e set : ℕ) → IsRecentCount w flags e set → set ≤ n → IsFine b n (recent w e flags)
recent_few w b n flags e set count le = few (omega (arith, set_count-recent w e flags set count))

-- each set flag that lies b places or more before another lies before the last w flags
pub recent_close : (w b n : ℕ) (flags : List Bool) (e after : ℕ) → IsEarlyEnd b flags e after → after ≤ e - w → IsFine b n (recent w e flags)
recent_close w b n flags e after early le =
    close ((span-le b (recent w e flags)).1 (λ i j set_i set_j.
    let at_i : (e - w + i < e) × IsSet flags (e - w + i) = IsSet-recent w e flags i set_i in
    let at_j : (e - w + j < e) × IsSet flags (e - w + j) = IsSet-recent w e flags j set_j in
    elim (cases_lt j (i + b)) [
      | inl near ↦ near
      | inr far ↦
          let below : e - w + i < after = early.is_last (e - w + i) at_i.1 (omega (arith, at_j.0)) in
          absurd (omega arith)
    ]))

-- a flag that isn't set leaves the last w flags fine
pub recent_kept : (w b n : ℕ) (flags : List Bool) (i : ℕ) → get_or flags i false ≡ false → IsFine b n (recent w i flags) → IsFine b n (recent w (i + 1) flags)
recent_kept w b n flags i unset fine =
    IsFine-moved b n (recent w i flags) (recent w (i + 1) flags) (i + 1 - w - (i - w))
    (λ k set.
    let at : (i + 1 - w + k < i + 1) × IsSet flags (i + 1 - w + k) = IsSet-recent w (i + 1) flags k set in
    elim (cases_eq (i + 1 - w + k) i) [
      | inl here ↦
          let P : ℕ → Type 0 = λ place. IsSet flags place in
          absurd (both_ways _ unset (subst P here at.1))
      | inr other ↦
          IsSet-recent_at w i flags (i + 1 - w - (i - w) + k) (i + 1 - w + k) (omega arith) (omega (arith, at.0, other)) at.1
    ])
    fine

-- the last w of the first e flags are fine for each e up to here
abbrev pub RecentFine : ℕ → ℕ → ℕ → List Bool → ℕ → Type 0
RecentFine w b n flags here = (e : ℕ) → e ≤ here → IsFine b n (recent w e flags)

pub RecentFine-more : (w b n : ℕ) (flags : List Bool) (i : ℕ) → RecentFine w b n flags i → IsFine b n (recent w (i + 1) flags) → RecentFine w b n flags (i + 1)
RecentFine-more w b n flags i fine next e le =
    elim (cases_lt e (i + 1)) [
      | inl below ↦ fine e (omega arith)
      | inr above ↦
          let same : i + 1 ≡ e = omega arith in
          let P : ℕ → Type 0 = λ k. IsFine b n (recent w k flags) in
          subst P same next
    ]

-- a loss is admissible where at each flag the last w flags are fine
pub IsAdmissible-from_recent : (channel : ChannelNumbers) (flags : List Bool) → RecentFine channel.w channel.b channel.n flags (length flags) → IsAdmissible channel flags
IsAdmissible-from_recent channel flags fine =
    record {
      part_is_fine = λ before part after e short.
          let w = channel.w in
          let end = length before + length part in
          IsFine-moved channel.b channel.n (recent w end flags) part (length before - (end - w))
          (λ k set.
          let within : k < length part = IsSet-in_range part k set in
          IsSet-recent_at w end flags (length before - (end - w) + k) (length before + k) (omega arith) (omega arith)
          (IsSet-of_part flags before part after k e set))
          (fine end (omega (arith, ap length e, length-append before (part ++ after), length-append part after)));
    }

-- a window is the last w flags at its end
window_from_recent : (channel : ChannelNumbers) (flags : List Bool) (k : ℕ) → IsFine channel.b channel.n (recent channel.w (k + channel.w) flags) → IsFine channel.b channel.n (window channel.w k flags)
window_from_recent channel flags k fine =
    IsFine-fewer channel.b channel.n (recent channel.w (k + channel.w) flags) (window channel.w k flags)
    (λ j set.
    let at : (j < channel.w) × IsSet flags (k + j) = IsSet-window channel.w k flags j set in
    IsSet-recent_at channel.w (k + channel.w) flags j (k + j) (omega arith) (omega (arith, at.0)) at.1)
    fine

-- the last w flags at a flag stand at the beginning of a window
recent_from_window : (channel : ChannelNumbers) (flags : List Bool) (e : ℕ) → IsFine channel.b channel.n (window channel.w (e - channel.w) flags) → IsFine channel.b channel.n (recent channel.w e flags)
recent_from_window channel flags e fine =
    IsFine-fewer channel.b channel.n (window channel.w (e - channel.w) flags) (recent channel.w e flags)
    (λ k set.
    let at : (e - channel.w + k < e) × IsSet flags (e - channel.w + k) = IsSet-recent channel.w e flags k set in
    IsSet-window_from channel.w (e - channel.w) flags k (omega (arith, at.0)) at.1)
    fine

-- where the last w flags are bad for the first time, the window that they begin is the first bad one
pub IsFirstBadWindow-from_recent : (channel : ChannelNumbers) (flags : List Bool) (i : ℕ) → 0 < channel.w → i < length flags → RecentFine channel.w channel.b channel.n flags i → (IsFine channel.b channel.n (recent channel.w (i + 1) flags) → ⊥) → IsFirstBadWindow channel flags (i + 1 - channel.w)
IsFirstBadWindow-from_recent channel flags i some within fine bad =
    record {
      in_range = omega arith;
      bad = λ window_fine. bad (recent_from_window channel flags (i + 1) window_fine);
      earlier_fine = λ k below. window_from_recent channel flags k (fine (k + channel.w) (omega arith));
    }

-- what is said of three numbers holds of a channel that has them
RecentFine-of : (channel : ChannelNumbers) (w b n : ℕ) (flags : List Bool) (here : ℕ) → w ≡ channel.w → b ≡ channel.b → n ≡ channel.n → RecentFine w b n flags here → RecentFine channel.w channel.b channel.n flags here
RecentFine-of channel w b n flags here same_w same_b same_n fine e le =
    rw (← same_w, ← same_b, ← same_n) (fine e le)

-- the walk stops at the first bad window
pub bad_found : (channel : ChannelNumbers) (flags : List Bool) (w b n i set after : ℕ) → w ≡ channel.w → b ≡ channel.b → n ≡ channel.n → 0 < channel.w → i < length flags → RecentFine w b n flags i → IsRecentCount w flags (i + 1) set → IsEarlyEnd b flags (i + 1) after → IsSet flags i → n < set → i + 1 - w < after → IsFirstBadWindow channel flags (i + 1 - w)
bad_found channel flags w b n i set after same_w same_b same_n some within fine count early set_i many wide =
    rw same_w
    (IsFirstBadWindow-from_recent channel flags i some within (RecentFine-of channel w b n flags i same_w same_b same_n fine)
    (λ recent_fine.
    recent_bad w b n flags i set after count early set_i many wide
    (rw (same_w, same_b, same_n) recent_fine)))

-- the walk ends where the loss is admissible
pub all_fine : (channel : ChannelNumbers) (flags : List Bool) (w b n i : ℕ) → w ≡ channel.w → b ≡ channel.b → n ≡ channel.n → length flags ≤ i → RecentFine w b n flags i → IsAdmissible channel flags
all_fine channel flags w b n i same_w same_b same_n end fine =
    IsAdmissible-from_recent channel flags
    (λ e le. RecentFine-of channel w b n flags i same_w same_b same_n fine e (omega arith))
