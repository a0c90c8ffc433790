-- Where the window is longer than the deadline, every loss that matters is part of a class: a code meets the channel
-- exactly where each class decides.
use Rattle.std.proofs.Common.{◌≡◌, ℕ, ◌+◌, ◌<◌, ◌↔◌, Bool, true, List, length, get_or, sym, ◌∙◌, arith, inl, inr}
use Rattle.std.proofs.lemmas.Bool.{both_ways, cases_Bool}
use Rattle.sc_field.specs.Field.{IsField, IsAction}
use Rattle.sc_channel.specs.Channel.{ChannelNumbers, IsOrdered}
use Rattle.sc_channel.specs.Flags.{IsSet}
use Rattle.sc_channel.specs.Loss.{IsAdmissible}
use Rattle.sc_channel.specs.Classes.{IsClass}
use Rattle.sc_channel.proofs.ClassLaws.{length-class, IsAdmissible-class, part_of_class}
use Rattle.sc_code.specs.Code.{Code, IsCode}
use Rattle.sc_code.specs.Determined.{IsKept, Meets, IsDecided}
use Rattle.sc_code.specs.Classes.{DecidesClasses}
use Rattle.sc_code.proofs.MeetsLaws.{IsKept-in_range, IsSet-from_true, IsSet-to_true, decided_from_Meets, Meets-from_decided}

-- ---- fewer losses decide more

-- a slot that is kept under a loss is kept where fewer flags are set
IsKept-fewer : (xs ys : List Bool) (i : ℕ) → length ys ≡ length xs → ((k : ℕ) → IsSet ys k → IsSet xs k) → IsKept xs i → IsKept ys i
IsKept-fewer xs ys i e only kept =
    let within : i < length xs = IsKept-in_range xs i kept in
    elim (cases_Bool (get_or ys i true)) [
      | inl set ↦ absurd (both_ways _ kept (IsSet-to_true xs i within (only i (IsSet-from_true ys i (omega arith) set))))
      | inr clear ↦ clear
    ]

-- Where a class decides, so does each loss of as many flags that are set only where its are.
pub IsDecided-fewer : {A : Type 0} (zero : A) (act : A → ℕ → ℕ) (code : Code A) (xs ys : List Bool) → length ys ≡ length xs → ((k : ℕ) → IsSet ys k → IsSet xs k) → IsDecided zero act code xs → IsDecided zero act code ys
IsDecided-fewer zero act code xs ys e only decided stream hs l zeros =
    decided stream hs (l ∙ e) (λ i kept. zeros i (IsKept-fewer xs ys i e only kept))

-- ---- what the classes decide

module _ {A : Type 0} (zero : A) (act : A → ℕ → ℕ) where
  decided_from_classes : (code : Code A) (channel : ChannelNumbers) (loss : List Bool) → IsOrdered channel.w channel.b channel.n channel.t → length loss ≡ channel.t + 1 → IsSet loss 0 → IsAdmissible channel loss → DecidesClasses zero act code channel → IsDecided zero act code loss
  decided_from_classes code channel loss ordered l first admissible classes =
      let part : (class : List Bool) × (IsClass channel class × ((place : ℕ) → IsSet loss place → IsSet class place)) = part_of_class channel loss ordered l first admissible in
      let is_class : IsClass channel part.0 = part.1.0 in
      IsDecided-fewer zero act code part.0 loss (l ∙ sym (length-class channel part.0 ordered is_class)) part.1.1 (classes part.0 is_class)

module _ {A : Type 0} {IsElement : A → Type 0} {zero one : A} {add sub mul : A → A → A} {inv : A → A} {act : A → ℕ → ℕ} (laws : IsField IsElement zero one add sub mul inv) (action : IsAction IsElement zero one add mul act) where
  -- A code meets a channel exactly where each class decides.
  pub Meets-iff_classes : (code : Code A) (channel : ChannelNumbers) → IsCode IsElement code → IsOrdered channel.w channel.b channel.n channel.t → Meets zero act code channel ↔ DecidesClasses zero act code channel
  Meets-iff_classes code channel hc ordered = (
    λ meets class is_class. decided_from_Meets laws action code channel class hc meets (length-class channel class ordered is_class) (IsAdmissible-class channel class is_class),
    λ classes. Meets-from_decided laws action code channel hc (λ loss l first admissible.
        decided_from_classes zero act code channel loss ordered l first admissible classes),
  )
