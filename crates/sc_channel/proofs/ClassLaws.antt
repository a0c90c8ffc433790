-- The classes of a channel: they are exactly those of its list, they are admissible losses, and every admissible loss that
-- matters is part of one.
use Rattle.std.proofs.Common.{◌≡◌, ℕ, zero as none, suc, ◌+◌, ◌-◌, ◌<◌, ◌≤◌, Bool, true, false, cond, List, [], ◌∷◌, length, get_or, map, replicate, All, Contains, refl, sym, ap, ◌∙◌, subst, arith, inl, inr}
use Rattle.std.proofs.lemmas.Bool.{both_ways, cases_lt}
use Rattle.std.proofs.lemmas.List.{append-nil, length-append, length-map, length-replicate, get_or-map, get_or-replicate, get_or_append_left, get_or-append_right, get_or_past}
use Rattle.std.proofs.lemmas.List.Elements.{All-nil, All-cons, All-append, All-map, All-weaker, Contains-append_left, Contains-append_right}
use Rattle.sc_channel.specs.Channel.{ChannelNumbers, IsOrdered, IsChannel}
use Rattle.sc_channel.specs.Flags.{IsSet, set_count}
use Rattle.sc_channel.specs.Loss.{IsFine, few, close, IsAdmissible}
use Rattle.sc_channel.specs.Classes.{flags_with, burst_class, IsClass, burst, spread, classes_of, class_count}
use Rattle.sc_channel.proofs.SetCountSteps.{set_count-cons}
use Rattle.sc_channel.proofs.SpanSteps.{SetWithin, span-le}
use Rattle.sc_channel.proofs.FineLaws.{IsFine-part}
use Rattle.sc_channel.proofs.OrderSteps.{length-flags_with}

-- ---- the lists of so many flags with so many set are exactly those of the list
pub record IsCounted (places n : ℕ) (flags : List Bool) : Type 0 where
  pub places_are : length flags ≡ places
  pub set_are : set_count flags ≡ n

counted-cons : (flag : Bool) (places n m : ℕ) (flags : List Bool) → m ≡ cond flag 1 0 + n → IsCounted places n flags → IsCounted (suc places) m (flag ∷ flags)
counted-cons flag places n m flags e c = record { places_are = ap suc c.places_are; set_are = set_count-cons flag flags ∙ ap (λ (k : ℕ). cond flag 1 0 + k) c.set_are ∙ sym e }

pub All-counted : (places n : ℕ) → All (IsCounted places n) (flags_with places n)
All-counted none none = All-cons (IsCounted 0 0) [] [] (record { places_are = refl; set_are = refl }) (All-nil (IsCounted 0 0))
All-counted none (suc n) = All-nil (IsCounted 0 (suc n))
All-counted (suc places) none =
    All-map (IsCounted (suc places) 0) (λ flags. false ∷ flags) (flags_with places none)
    (All-weaker (IsCounted places 0) (λ flags. IsCounted (suc places) 0 (false ∷ flags)) (λ flags c. counted-cons false places 0 0 flags refl c) (flags_with places none) (All-counted places none))
All-counted (suc places) (suc n) =
    All-append (IsCounted (suc places) (suc n)) (map (λ flags. true ∷ flags) (flags_with places n)) (map (λ flags. false ∷ flags) (flags_with places (suc n)))
    (All-map (IsCounted (suc places) (suc n)) (λ flags. true ∷ flags) (flags_with places n)
    (All-weaker (IsCounted places n) (λ flags. IsCounted (suc places) (suc n) (true ∷ flags)) (λ flags c. counted-cons true places n (suc n) flags (omega arith) c) (flags_with places n) (All-counted places n)))
    (All-map (IsCounted (suc places) (suc n)) (λ flags. false ∷ flags) (flags_with places (suc n))
    (All-weaker (IsCounted places (suc n)) (λ flags. IsCounted (suc places) (suc n) (false ∷ flags)) (λ flags c. counted-cons false places (suc n) (suc n) flags (omega arith) c) (flags_with places (suc n)) (All-counted places (suc n))))

Contains-map : (f : List Bool → List Bool) (xs : List (List Bool)) (x : List Bool) → Contains xs x → Contains (map f xs) (f x)
Contains-map f xs x (k, lt, e) = (k, omega (arith, length-map xs f), get_or-map f xs k x (f x) lt ∙ ap f e)

pub Contains-counted : (flags : List Bool) (places n : ℕ) → IsCounted places n flags → Contains (flags_with places n) flags
Contains-counted [] none none c = (0, omega arith, refl)
Contains-counted [] none (suc n) c = absurd (omega (arith, c.set_are))
Contains-counted [] (suc places) n c = absurd (omega (arith, c.places_are))
Contains-counted (flag ∷ flags) none n c = absurd (omega (arith, c.places_are))
Contains-counted (true ∷ flags) (suc places) none c = absurd (omega (arith, c.set_are, set_count-cons true flags))
Contains-counted (true ∷ flags) (suc places) (suc n) c =
    Contains-append_left (map (λ flags. true ∷ flags) (flags_with places n)) (map (λ flags. false ∷ flags) (flags_with places (suc n))) (true ∷ flags)
    (Contains-map (λ flags. true ∷ flags) (flags_with places n) flags
    (Contains-counted flags places n (record { places_are = omega (arith, c.places_are); set_are = omega (arith, c.set_are, set_count-cons true flags) })))
Contains-counted (false ∷ flags) (suc places) none c =
    Contains-map (λ flags. false ∷ flags) (flags_with places none) flags
    (Contains-counted flags places none (record { places_are = omega (arith, c.places_are); set_are = omega (arith, c.set_are, set_count-cons false flags) }))
Contains-counted (false ∷ flags) (suc places) (suc n) c =
    Contains-append_right (map (λ flags. true ∷ flags) (flags_with places n)) (map (λ flags. false ∷ flags) (flags_with places (suc n))) (false ∷ flags)
    (Contains-map (λ flags. false ∷ flags) (flags_with places (suc n)) flags
    (Contains-counted flags places (suc n) (record { places_are = omega (arith, c.places_are); set_are = omega (arith, c.set_are, set_count-cons false flags) })))

-- ---- a loss of few flags is part of one of exactly n

cond-le : (flag : Bool) → cond flag 1 0 ≤ 1
cond-le true = omega arith
cond-le false = omega arith

set_count-length : (flags : List Bool) → set_count flags ≤ length flags
set_count-length [] = omega arith
set_count-length (flag ∷ flags) = omega (arith, set_count-cons flag flags, cond-le flag, set_count-length flags)

-- flags that are set wherever the given ones are, and of which n are set
pub record IsPadded (flags : List Bool) (n : ℕ) (more : List Bool) : Type 0 where
  pub same_length : length more ≡ length flags
  pub count : set_count more ≡ n
  pub only : (k : ℕ) → IsSet flags k → IsSet more k

-- one flag more in front
only-cons : (a b : Bool) (xs ys : List Bool) → (a ≡ true → b ≡ true) → ((k : ℕ) → IsSet xs k → IsSet ys k) → (k : ℕ) → IsSet (a ∷ xs) k → IsSet (b ∷ ys) k
only-cons a b xs ys first rest none set = first set
only-cons a b xs ys first rest (suc k) set = rest k set

padded : (flags : List Bool) (n : ℕ) → set_count flags ≤ n → n ≤ length flags → (more : List Bool) × IsPadded flags n more
padded [] n low high = ([], record { same_length = refl; count = omega arith; only = λ k set. set })
padded (true ∷ flags) n low high =
    let counted = set_count-cons true flags in
    let rest : (more : List Bool) × IsPadded flags (n - 1) more = padded flags (n - 1) (omega arith) (omega arith) in
    let p = rest.1 in (
      true ∷ rest.0,
      record {
        same_length = ap suc p.same_length;
        count = omega (arith, set_count-cons true rest.0, p.count);
        only = only-cons true true flags rest.0 (λ e. e) p.only;
      },
    )
padded (false ∷ flags) n low high =
    let counted = set_count-cons false flags in
    elim (cases_lt (length flags) n) [
      | inl all ↦
          let rest : (more : List Bool) × IsPadded flags (n - 1) more = padded flags (n - 1) (omega (arith, set_count-length flags)) (omega arith) in
          let p = rest.1 in (
            true ∷ rest.0,
            record {
              same_length = ap suc p.same_length;
              count = omega (arith, set_count-cons true rest.0, p.count);
              only = only-cons false true flags rest.0 (λ e. refl) p.only;
            },
          )
      | inr room ↦
          let rest : (more : List Bool) × IsPadded flags n more = padded flags n (omega arith) room in
          let p = rest.1 in (
            false ∷ rest.0,
            record {
              same_length = ap suc p.same_length;
              count = omega (arith, set_count-cons false rest.0, p.count);
              only = only-cons false false flags rest.0 (λ e. e) p.only;
            },
          )
    ]

-- ---- the burst from flag 0 on

length-burst : (channel : ChannelNumbers) → channel.b ≤ channel.t → length (burst_class channel) ≡ channel.t + 1
length-burst channel le =
    omega (arith, length-append (replicate channel.b true) (replicate (channel.t + 1 - channel.b) false), length-replicate channel.b true, length-replicate (channel.t + 1 - channel.b) false)

clear : (n i : ℕ) → get_or (replicate n false) i false ≡ false
clear n i =
    elim (cases_lt i n) [
      | inl within ↦ get_or-replicate n i false false within
      | inr past ↦ get_or_past (replicate n false) i false (omega (arith, length-replicate n false))
    ]

IsSet-burst_from : (channel : ChannelNumbers) (i : ℕ) → i < channel.b → IsSet (burst_class channel) i
IsSet-burst_from channel i lt =
    let within : i < length (replicate channel.b true) = omega (arith, length-replicate channel.b true) in
    get_or_append_left (replicate channel.b true) (replicate (channel.t + 1 - channel.b) false) false i within ∙ get_or-replicate channel.b i true false lt

IsSet-burst : (channel : ChannelNumbers) (i : ℕ) → IsSet (burst_class channel) i → i < channel.b
IsSet-burst channel i set =
    elim (cases_lt i channel.b) [
      | inl below ↦ below
      | inr past ↦
          absurd (both_ways _
          (get_or-append_right (replicate channel.b true) (replicate (channel.t + 1 - channel.b) false) channel.b i false (length-replicate channel.b true) past
          ∙ clear (channel.t + 1 - channel.b) (i - channel.b)) set)
    ]

-- ---- classes are admissible losses, and every admissible loss that matters is part of a class

pub IsAdmissible-from_fine : (channel : ChannelNumbers) (loss : List Bool) → IsFine channel.b channel.n loss → IsAdmissible channel loss
IsAdmissible-from_fine channel loss fine =
    record {
      part_is_fine = λ before part after e short.
          IsFine-part channel.b channel.n before part after (subst (IsFine channel.b channel.n) (sym e) fine);
    }

fine_from_admissible : (channel : ChannelNumbers) (loss : List Bool) → length loss ≤ channel.w → IsAdmissible channel loss → IsFine channel.b channel.n loss
fine_from_admissible channel loss short admissible = admissible.part_is_fine [] loss [] (append-nil loss) short

burst_fine : (channel : ChannelNumbers) → IsFine channel.b channel.n (burst_class channel)
burst_fine channel =
    close ((span-le channel.b (burst_class channel)).1 (λ i j set_i set_j. omega (arith, IsSet-burst channel j set_j)))

pub length-class : (channel : ChannelNumbers) (class : List Bool) → IsOrdered channel.w channel.b channel.n channel.t → IsClass channel class → length class ≡ channel.t + 1
length-class channel class ordered (burst e) = ap length e ∙ length-burst channel ordered.span_in_deadline
length-class channel class ordered (spread l set count) = l

pub IsSet-class : (channel : ChannelNumbers) (class : List Bool) → IsOrdered channel.w channel.b channel.n channel.t → IsClass channel class → IsSet class 0
IsSet-class channel class ordered (burst e) = subst (λ (flags : List Bool). IsSet flags 0) (sym e) (IsSet-burst_from channel 0 (omega (arith, ordered.some_loss, ordered.count_in_span)))
IsSet-class channel class ordered (spread l set count) = set

pub IsAdmissible-class : (channel : ChannelNumbers) (class : List Bool) → IsClass channel class → IsAdmissible channel class
IsAdmissible-class channel class (burst e) = subst (IsAdmissible channel) (sym e) (IsAdmissible-from_fine channel (burst_class channel) (burst_fine channel))
IsAdmissible-class channel class (spread l set count) = IsAdmissible-from_fine channel class (few (omega arith))

-- every admissible loss of deadline + 1 flags with flag 0 set is part of a class
pub part_of_class : (channel : ChannelNumbers) (loss : List Bool) → IsOrdered channel.w channel.b channel.n channel.t → length loss ≡ channel.t + 1 → IsSet loss 0 → IsAdmissible channel loss
    → (class : List Bool) × (IsClass channel class × ((place : ℕ) → IsSet loss place → IsSet class place))
part_of_class channel loss ordered l first admissible =
    elim (fine_from_admissible channel loss (omega (arith, ordered.deadline_in_window)) admissible) [
      | few h ↦
          let more : (more : List Bool) × IsPadded loss channel.n more = padded loss channel.n h (omega (arith, ordered.count_in_span, ordered.span_in_deadline)) in
          let p = more.1 in
          (more.0, (spread (p.same_length ∙ l) (p.only 0 first) p.count, p.only))
      | close h ↦
          let within : SetWithin channel.b loss = (span-le channel.b loss).0 h in
          (burst_class channel, (burst refl, λ place set. IsSet-burst_from channel place (omega (arith, within 0 place first set))))
    ]

-- ---- the list of classes

pub length-classes_of : (channel : ChannelNumbers) → length (classes_of channel) ≡ class_count channel
length-classes_of channel =
    omega (arith, length-map (flags_with channel.t (channel.n - 1)) (λ flags. true ∷ flags), length-flags_with channel.t (channel.n - 1))

-- the listed ones are classes
pub All-classes : (channel : ChannelNumbers) → IsOrdered channel.w channel.b channel.n channel.t → All (IsClass channel) (classes_of channel)
All-classes channel ordered =
    let others = flags_with channel.t (channel.n - 1) in
    All-cons (IsClass channel) (burst_class channel) (map (λ flags. true ∷ flags) others) (burst refl)
    (All-map (IsClass channel) (λ flags. true ∷ flags) others
    (All-weaker (IsCounted channel.t (channel.n - 1)) (λ flags. IsClass channel (true ∷ flags))
    (λ flags c. spread (omega (arith, c.places_are)) refl (omega (arith, c.set_are, set_count-cons true flags, ordered.some_loss)))
    others (All-counted channel.t (channel.n - 1))))

-- and all of them
spread_listed : (channel : ChannelNumbers) (class : List Bool) → length class ≡ channel.t + 1 → IsSet class 0 → set_count class ≡ channel.n → Contains (classes_of channel) class
spread_listed channel [] l set count = absurd (both_ways _ refl set)
spread_listed channel (false ∷ flags) l set count = absurd (both_ways _ refl set)
spread_listed channel (true ∷ flags) l set count =
    let others = flags_with channel.t (channel.n - 1) in
    Contains-append_right (burst_class channel ∷ []) (map (λ flags. true ∷ flags) others) (true ∷ flags)
    (Contains-map (λ flags. true ∷ flags) others flags
    (Contains-counted flags channel.t (channel.n - 1) (record { places_are = omega (arith, l); set_are = omega (arith, count, set_count-cons true flags) })))

pub Contains-class : (channel : ChannelNumbers) (class : List Bool) → IsClass channel class → Contains (classes_of channel) class
Contains-class channel class (burst e) = (0, omega arith, sym e)
Contains-class channel class (spread l set count) = spread_listed channel class l set count

pub class-from_contains : (channel : ChannelNumbers) (class : List Bool) → IsOrdered channel.w channel.b channel.n channel.t → Contains (classes_of channel) class → IsClass channel class
class-from_contains channel class ordered (k, lt, e) = subst (IsClass channel) e (All-classes channel ordered k class lt)

-- the one at an index
pub IsClass-at : (channel : ChannelNumbers) (index : ℕ) → IsOrdered channel.w channel.b channel.n channel.t → index < class_count channel → IsClass channel (get_or (classes_of channel) index [])
IsClass-at channel index ordered lt = All-classes channel ordered index [] (omega (arith, length-classes_of channel))

pub IsClass-written : (made channel : ChannelNumbers) (index : ℕ) (flags : List Bool) → made ≡ channel → IsChannel made → index < class_count channel → flags ≡ get_or (classes_of channel) index [] → IsClass channel flags
IsClass-written made channel index flags same numbers lt e =
    let at : IsChannel channel = subst IsChannel same numbers in
    subst (IsClass channel) (sym e) (IsClass-at channel index at.ordered lt)
