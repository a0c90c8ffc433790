-- The classes of the list decide exactly where a code meets its channel, and the first that doesn't gives a refutation.
use Rattle.std.proofs.Common.{◌≡◌, ℕ, ◌↔◌, Bool, List, All, MatchOption, Option, Some, None, Result, Ok, Err, IfOk, IfSome, length, bit_xor, refl, ◌∙◌, subst}
use Rattle.std.proofs.lemmas.List.Elements.{All-weaker}
use Rattle.sc_field.specs.Field.{IsField, IsAction}
use Rattle.sc_field.specs.Gf256.{gf256_product}
use Rattle.sc_field.specs.Laws.Gf256Laws.{gf256_field, gf256_action}
use Rattle.sc_matrix.specs.Module.{IsByte}
use Rattle.sc_channel.specs.Channel.{ChannelNumbers, IsChannel, IsOrdered}
use Rattle.sc_channel.specs.Classes.{classes_of, IsClass}
use Rattle.sc_channel.proofs.ClassLaws.{All-classes, Contains-class, length-class, IsSet-class, IsAdmissible-class}
use Rattle.sc_channel.proofs.SetCountSteps.{IsSet-in_range}
use Rattle.sc_code.specs.Code.{Code, IsCode}
use Rattle.sc_code.specs.Determined.{IsDecided, Meets}
use Rattle.sc_code.specs.Classes.{DecidesClasses}
use Rattle.sc_code.specs.Elements.{IsDecidedOver}
use Rattle.sc_code.proofs.MeetsLaws.{IsRefutation-from_undecided, not_Meets-from_refutation}
use Rattle.sc_code.proofs.ClassLaws.{Meets-iff_classes}
use Rattle.sc_code.proofs.ElementLaws.{IsDecidedOver-iff_bytes}
use Rattle.sc_window.specs.Difference.{IsLeastDifference, IsByteDifference, IsLeastByteDifference}
use Rattle.sc_window.proofs.ByteSteps.{IsLeastByteDifference-as_bytes}
use Rattle.sc_check.specs.Failing.{class_at, DecidesAll, IsFirstFailing}
use Rattle.sc_check.specs.Verdict.{width_one, IsLeastRefutation, IsVerdict}
use Rattle.sc_check.specs.declared.verdict.Verdict.{Verdict}
use Rattle.sc_check.specs.declared.verdict.Verdict.TheVariants.{Meets as meets, Fails}

module _ {A : Type 0} (zero : A) (act : A → ℕ → ℕ) where
  -- the listed classes are the classes
  DecidesClasses-iff_listed : (code : Code A) (channel : ChannelNumbers) → IsOrdered channel.w channel.b channel.n channel.t → DecidesClasses zero act code channel ↔ All (IsDecided zero act code) (classes_of channel)
  DecidesClasses-iff_listed code channel ordered = (
    λ classes. All-weaker (IsClass channel) (IsDecided zero act code) classes (classes_of channel) (All-classes channel ordered),
    λ listed class is_class.
        let at = Contains-class channel class is_class in
        subst (IsDecided zero act code) at.2 (listed at.0 class at.1),
  )

module _ {A : Type 0} {IsElement : A → Type 0} {zero one : A} {add sub mul : A → A → A} {inv : A → A} {act : A → ℕ → ℕ} (laws : IsField IsElement zero one add sub mul inv) (action : IsAction IsElement zero one add mul act) where
  -- a code meets a channel exactly where each listed class decides
  pub Meets-iff_listed : (code : Code A) (channel : ChannelNumbers) → IsCode IsElement code → IsOrdered channel.w channel.b channel.n channel.t → Meets zero act code channel ↔ All (IsDecided zero act code) (classes_of channel)
  Meets-iff_listed code channel hc ordered =
      let classes = Meets-iff_classes laws action code channel hc ordered in
      let listed = DecidesClasses-iff_listed zero act code channel ordered in
      (λ m. listed.0 (classes.0 m), λ all. classes.1 (listed.1 all))

-- a class that decides elements isn't the first that fails
pub not_first_failing : (code : Code ℕ) (channel : ChannelNumbers) (index : ℕ) (loss : List Bool) → IsChannel channel → IsClass channel loss → loss ≡ class_at channel index → IsFirstFailing code channel index
    → IsDecidedOver IsByte 0 bit_xor gf256_product code loss → ⊥
not_first_failing code channel index loss limits is_class e first decided =
    let P : List Bool → Type 0 = λ class. IsDecided 0 gf256_product code class in
    let set = IsSet-class channel loss limits.ordered is_class in
    let same = IsDecidedOver-iff_bytes gf256_product code loss (IsSet-in_range loss 0 set) in
    first.fails (subst P e (same.0 decided))

-- the least difference of the first class that fails is the least refutation
pub least_refutation : (code : Code ℕ) (channel : ChannelNumbers) (index : ℕ) (loss : List Bool) (numbers : List (List ℕ)) → IsCode IsByte code → IsChannel channel → IsClass channel loss → loss ≡ class_at channel index
    → IsFirstFailing code channel index → IsLeastDifference IsByte 0 bit_xor gf256_product (λ n. n) code loss numbers → length numbers ≡ length loss → All (λ block. length block ≡ code.k) numbers
    → IsLeastRefutation code channel index loss numbers
least_refutation code channel index loss numbers hc limits is_class e first least blocks symbols =
    let set = IsSet-class channel loss limits.ordered is_class in
    let bytes : IsLeastByteDifference 0 gf256_product code loss (width_one numbers) = IsLeastByteDifference-as_bytes gf256_product code loss numbers (IsSet-in_range loss 0 set) least in
    let d : IsByteDifference 0 gf256_product code loss (width_one numbers) = bytes.belongs in
    record {
      first = first;
      loss_is = e;
      flags = length-class channel loss limits.ordered is_class;
      blocks = blocks ∙ length-class channel loss limits.ordered is_class;
      symbols = symbols;
      least = bytes;
      refutes = IsRefutation-from_undecided gf256_field gf256_action code channel loss (width_one numbers) hc (length-class channel loss limits.ordered is_class) set (IsAdmissible-class channel loss is_class)
          d.stream d.blocks d.zeros d.block_differs;
    }

-- ---- what the search of a least difference tells of the class that it was given

pub told_none : (code : Code ℕ) (slice class : List Bool) (found : Option (List (List ℕ))) → slice ≡ class → found ≡ None
    → MatchOption found (IsDecidedOver IsByte 0 bit_xor gf256_product code slice) (IsLeastDifference IsByte 0 bit_xor gf256_product (λ n. n) code slice)
    → IsDecidedOver IsByte 0 bit_xor gf256_product code class
told_none code slice class None same e told = let P : List Bool → Type 0 = λ flags. IsDecidedOver IsByte 0 bit_xor gf256_product code flags in subst P same told
told_none code slice class (Some numbers) same e told = absurd (cc)

pub told_some : (code : Code ℕ) (slice class : List Bool) (found : Option (List (List ℕ))) (numbers : List (List ℕ)) → slice ≡ class → found ≡ Some numbers
    → MatchOption found (IsDecidedOver IsByte 0 bit_xor gf256_product code slice) (IsLeastDifference IsByte 0 bit_xor gf256_product (λ n. n) code slice)
    → IsLeastDifference IsByte 0 bit_xor gf256_product (λ n. n) code class numbers
told_some code slice class None numbers same e told = absurd (cc)
told_some code slice class (Some other) numbers same e told =
    let P : List Bool → Type 0 = λ flags. IsLeastDifference IsByte 0 bit_xor gf256_product (λ n. n) code flags numbers in
    let Q : List (List ℕ) → Type 0 = λ ns. IsLeastDifference IsByte 0 bit_xor gf256_product (λ n. n) code slice ns in
    let at : other ≡ numbers = cc in
    subst P same (subst Q at told)

pub told_of : {X : Type 0} (P : X → Type 0) (found : Option X) (x : X) → found ≡ Some x → IfSome found P → P x
told_of P None x e told = absurd (cc)
told_of P (Some y) x e told = let at : y ≡ x = cc in subst P at told

-- where all classes decide the code meets the channel
pub meets-from_all : (code : Code ℕ) (given channel : ChannelNumbers) → IsCode IsByte code → IsChannel channel → given ≡ channel → DecidesAll code given → Meets 0 gf256_product code channel
meets-from_all code given channel hc limits same all = (Meets-iff_listed gf256_field gf256_action code channel hc limits.ordered).1 (subst (DecidesAll code) same all)

-- a verdict of a refutation is one that the code doesn't meet the channel
pub verdict_tells : (code : Code ℕ) (channel : ChannelNumbers) (verdict : Verdict) → IsVerdict code channel verdict → (verdict ≡ meets) ↔ Meets 0 gf256_product code channel
verdict_tells code channel meets told = (λ e. told, λ m. refl)
verdict_tells code channel (Fails class loss stream) told =
    (λ e. absurd (cc), λ m. absurd (not_Meets-from_refutation gf256_field gf256_action code channel loss (width_one stream) told.refutes m))

pub verdicts_tell : {E : Type 0} (code : Code ℕ) (channel : ChannelNumbers) (r : Result Verdict E) → IfOk r (IsVerdict code channel) → IfOk r (λ verdict. (verdict ≡ meets) ↔ Meets 0 gf256_product code channel)
verdicts_tell code channel (Ok verdict) told = verdict_tells code channel verdict told
verdicts_tell code channel (Err e) told = told
