-- Parts of fine flags are fine, and a loss is admissible where all its windows are fine.
use Rattle.std.proofs.Common.{◌≡◌, ℕ, ◌+◌, ◌<◌, ◌≤◌, Bool, List, [], ◌++◌, ◌↔◌, length, take, drop, ap, subst, arith, ◌∙◌, inl, inr, zero-add}
use Rattle.std.proofs.lemmas.Bool.{cases_lt}
use Rattle.std.proofs.lemmas.List.{append_assoc, take-append-drop, length-take, length-append, nil_from_length}
use Rattle.sc_channel.specs.Channel.{ChannelNumbers}
use Rattle.sc_channel.specs.Flags.{IsSet, window}
use Rattle.sc_channel.specs.Loss.{IsFine, few, close, IsAdmissible, AllWindowsFine, IsFirstBadWindow}
use Rattle.sc_channel.proofs.SetCountSteps.{IsSet-in_range, IsSet-part, IsSet-take, IsSet-take_from, IsSet-drop, IsSet-drop_from, set_count-drop, set_count-fewer}
use Rattle.sc_channel.proofs.SpanSteps.{span-le}

-- no flags are fine
pub IsFine-nil : (b n : ℕ) → IsFine b n []
IsFine-nil b n = few (omega arith)

-- flags stay fine where they are moved and fewer of them are set
pub IsFine-moved : (b n : ℕ) (xs ys : List Bool) (places : ℕ) → ((k : ℕ) → IsSet ys k → IsSet xs (places + k)) → IsFine b n xs → IsFine b n ys
IsFine-moved b n xs ys places only (few h) =
    few (omega (arith, set_count-drop places xs, set_count-fewer (drop places xs) ys (λ k set. IsSet-drop_from places xs k (only k set))))
IsFine-moved b n xs ys places only (close h) =
    close ((span-le b ys).1 (λ i j set_i set_j. omega (arith, (span-le b xs).0 h (places + i) (places + j) (only i set_i) (only j set_j))))

-- flags stay fine where fewer of them are set
pub IsFine-fewer : (b n : ℕ) (xs ys : List Bool) → ((k : ℕ) → IsSet ys k → IsSet xs k) → IsFine b n xs → IsFine b n ys
IsFine-fewer b n xs ys only fine = IsFine-moved b n xs ys 0 (λ k set. rw zero-add (only k set)) fine

-- a part of fine flags is fine
pub IsFine-part : (b n : ℕ) (before part after : List Bool) → IsFine b n (before ++ (part ++ after)) → IsFine b n part
IsFine-part b n before part after fine =
    IsFine-moved b n (before ++ (part ++ after)) part (length before) (IsSet-part before part after) fine

-- a set flag of a window is one of the loss
pub IsSet-window : (w i : ℕ) (loss : List Bool) (k : ℕ) → IsSet (window w i loss) k → (k < w) × IsSet loss (i + k)
IsSet-window w i loss k set =
    let here : (k < w) × IsSet (drop i loss) k = IsSet-take w (drop i loss) k set in
    (here.0, IsSet-drop i loss k here.1)

pub IsSet-window_from : (w i : ℕ) (loss : List Bool) (k : ℕ) → k < w → IsSet loss (i + k) → IsSet (window w i loss) k
IsSet-window_from w i loss k below set = IsSet-take_from w (drop i loss) k below (IsSet-drop_from i loss k set)

-- a contiguous part of an admissible loss is admissible
pub IsAdmissible-part : (channel : ChannelNumbers) (before part after : List Bool) → IsAdmissible channel (before ++ (part ++ after)) → IsAdmissible channel part
IsAdmissible-part channel before part after admissible =
    record {
      part_is_fine = λ b p a e short.
          admissible.part_is_fine (before ++ b) p (a ++ after) (rw (← e) (simp append_assoc)) short;
    }

-- the windows of an admissible loss are fine
pub IsAdmissible-window : (channel : ChannelNumbers) (loss : List Bool) (i : ℕ) → IsAdmissible channel loss → IsFine channel.b channel.n (window channel.w i loss)
IsAdmissible-window channel loss i admissible =
    admissible.part_is_fine (take i loss) (window channel.w i loss) (drop channel.w (drop i loss))
    (ap (λ rest. take i loss ++ rest) (take-append-drop channel.w (drop i loss)) ∙ take-append-drop i loss)
    (omega (arith, length-take channel.w (drop i loss)))

-- a set flag of a part, by its place in the loss
pub IsSet-of_part : (loss before part after : List Bool) (k : ℕ) → before ++ (part ++ after) ≡ loss → IsSet part k → IsSet loss (length before + k)
IsSet-of_part loss before part after k e set =
    let P : List Bool → Type 0 = λ xs. IsSet xs (length before + k) in
    subst P e (IsSet-part before part after k set)

-- a part of at most w flags is fine where the window that begins with it is
part_from_window : (channel : ChannelNumbers) (loss before part after : List Bool) → before ++ (part ++ after) ≡ loss → length part ≤ channel.w → IsFine channel.b channel.n (window channel.w (length before) loss) → IsFine channel.b channel.n part
part_from_window channel loss before part after e short fine =
    IsFine-fewer channel.b channel.n (window channel.w (length before) loss) part
    (λ k set.
    let within : k < length part = IsSet-in_range part k set in
    IsSet-window_from channel.w (length before) loss k (omega arith) (IsSet-of_part loss before part after k e set))
    fine

-- a loss whose windows are all fine is admissible
pub IsAdmissible-from_windows : (channel : ChannelNumbers) (loss : List Bool) → AllWindowsFine channel loss → IsAdmissible channel loss
IsAdmissible-from_windows channel loss fine =
    record {
      part_is_fine = λ before part after e short.
          elim (cases_lt (length before) (length loss)) [
            | inl within ↦ part_from_window channel loss before part after e short (fine (length before) within)
            | inr past ↦
                let empty : part ≡ [] =
                nil_from_length part (omega (arith, ap length e, length-append before (part ++ after), length-append part after)) in
                rw empty (IsFine-nil channel.b channel.n)
          ];
    }

-- the two ways of saying it: every contiguous part of at most w flags is fine, and all windows are
pub IsAdmissible-iff_windows : (channel : ChannelNumbers) (loss : List Bool) → IsAdmissible channel loss ↔ AllWindowsFine channel loss
IsAdmissible-iff_windows channel loss =
    (λ admissible i within. IsAdmissible-window channel loss i admissible, IsAdmissible-from_windows channel loss)

-- an admissible loss stays admissible where fewer flags are set
pub IsAdmissible-fewer : (channel : ChannelNumbers) (xs ys : List Bool) → ((k : ℕ) → IsSet ys k → IsSet xs k) → IsAdmissible channel xs → IsAdmissible channel ys
IsAdmissible-fewer channel xs ys only admissible =
    IsAdmissible-from_windows channel ys (λ i within.
    IsFine-fewer channel.b channel.n (window channel.w i xs) (window channel.w i ys)
    (λ k set.
    let here : (k < channel.w) × IsSet ys (i + k) = IsSet-window channel.w i ys k set in
    IsSet-window_from channel.w i xs k here.0 (only (i + k) here.1))
    (IsAdmissible-window channel xs i admissible))

-- an admissible loss has no bad window
pub IsAdmissible-no_bad : (channel : ChannelNumbers) (loss : List Bool) (i : ℕ) → IsAdmissible channel loss → IsFirstBadWindow channel loss i → ⊥
IsAdmissible-no_bad channel loss i admissible first = first.bad (IsAdmissible-window channel loss i admissible)
