-- The first list of bytes that passes a test: where there is none all fail, and one that is found passes.
use Rattle.std.proofs.Common.{◌≡◌, inl, inr, ℕ, zero as naught, suc, ◌<◌, Bool, true, false, cond, Option, Some, None, List, [], ◌∷◌, refl, sym, ◌∙◌, subst, arith}
use Rattle.std.specs.Prelude.{All}
use Rattle.std.specs.Option.{option_map}
use Rattle.std.proofs.lemmas.Bool.Decides.{eqb_tells}
use Rattle.sc_matrix.specs.Module.{IsByte}
use Rattle.sc_matrix.specs.Vector.{IsVector}
use Rattle.sc_code.specs.FirstBytes.{first_there, first_below, first_bytes}

-- ---- the first of some that is there
first_there-cases : {A : Type 0} (a b : Option A) → (first_there a b ≡ None) → (a ≡ None) × (b ≡ None)
first_there-cases (Some x) b h = absurd (cc)
first_there-cases None b h = (refl, h)

pub first_below-none : {A : Type 0} (n : ℕ) (f : ℕ → Option A) → first_below n f ≡ None → (i : ℕ) → i < n → f i ≡ None
unfolding first_below
first_below-none naught f none i h = absurd (omega arith)
first_below-none (suc n) f none i h =
    let parts = first_there-cases (first_below n f) (f n) none in
    elim (eqb_tells i n) [
      | inl same ↦ subst (λ j. f j ≡ None) (sym same.1) parts.1
      | inr other ↦ first_below-none n f parts.0 i (omega (arith, other.1))
    ]

-- it is one of them, and those before aren't there
pub record IsFirstBelow {A : Type 0} (n : ℕ) (f : ℕ → Option A) (x : A) : Type 0 where
  pub place : ℕ
  pub within : place < n
  pub there : f place ≡ Some x
  pub before : (i : ℕ) → i < place → f i ≡ None

first_below-some_by : {A : Type 0} (n : ℕ) (f : ℕ → Option A) (x : A) (before : Option A) → first_below n f ≡ before → first_there before (f n) ≡ Some x
    → ((y : A) → before ≡ Some y → IsFirstBelow n f y) → IsFirstBelow (suc n) f x
first_below-some_by n f x (Some y) is some h =
    let it = h y refl in
    record {
      place = it.place;
      within = omega (arith, it.within);
      there = it.there ∙ some;
      before = it.before;
    }
first_below-some_by n f x None is some h = record { place = n; within = omega arith; there = some; before = first_below-none n f is }

pub first_below-some : {A : Type 0} (n : ℕ) (f : ℕ → Option A) (x : A) → first_below n f ≡ Some x → IsFirstBelow n f x
unfolding first_below
first_below-some naught f x is = absurd (cc)
first_below-some (suc n) f x is =
    first_below-some_by n f x (first_below n f) refl is (λ y there. first_below-some n f y there)

-- ---- the first list of bytes that passes a test
pub option_map-none : {A B : Type 0} (f : A → B) (o : Option A) → option_map f o ≡ None → o ≡ None
option_map-none f None h = refl
option_map-none f (Some x) h = absurd (cc)

pub record IsMapped {A B : Type 0} (f : A → B) (o : Option A) (y : B) : Type 0 where
  pub from : A
  pub there : o ≡ Some from
  pub is : f from ≡ y

pub option_map-some : {A B : Type 0} (f : A → B) (o : Option A) (y : B) → option_map f o ≡ Some y → IsMapped f o y
option_map-some f None y h = absurd (cc)
option_map-some f (Some x) y h = record { from = x; there = refl; is = cc }

-- a list of n bytes
abbrev pub AreBytes : ℕ → List ℕ → Type 0
AreBytes n xs = IsVector IsByte n xs

pub head_byte : (n : ℕ) (x : ℕ) (xs : List ℕ) → AreBytes (suc n) (x ∷ xs) → x < 256
head_byte n x xs h = h.entries 0 0 (omega arith)

pub tail_bytes : (n : ℕ) (x : ℕ) (xs : List ℕ) → AreBytes (suc n) (x ∷ xs) → AreBytes n xs
tail_bytes n x xs h = record { width = omega (arith, h.width); entries = λ i d lt. h.entries (suc i) d (omega (arith, lt)) }

All-cons : (P : ℕ → Type 0) (x : ℕ) (xs : List ℕ) → P x → All P xs → All P (x ∷ xs)
All-cons P x xs px h naught d lt = px
All-cons P x xs px h (suc i) d lt = h i d (omega (arith, lt))

pub more_bytes : (n : ℕ) (x : ℕ) (xs : List ℕ) → x < 256 → AreBytes n xs → AreBytes (suc n) (x ∷ xs)
more_bytes n x xs small h = record { width = omega (arith, h.width); entries = All-cons IsByte x xs small h.entries }

pub nothing : {A : Type 0} (b : Bool) (x : A) → cond b (Some x) None ≡ None → b ≡ false
nothing true x h = absurd (cc)
nothing false x h = refl

pub something : (b : Bool) (xs : List ℕ) → cond b (Some []) None ≡ Some xs → (b ≡ true) × (xs ≡ [])
something true xs h = (refl, cc)
something false xs h = absurd (cc)

pub first_bytes-none : (n : ℕ) (test : List ℕ → Bool) → first_bytes n test ≡ None → (xs : List ℕ) → AreBytes n xs → test xs ≡ false
unfolding first_bytes
first_bytes-none naught test none [] h = nothing (test []) [] none
first_bytes-none naught test none (x ∷ xs) h = absurd (omega (arith, h.width))
first_bytes-none (suc n) test none [] h = absurd (omega (arith, h.width))
first_bytes-none (suc n) test none (x ∷ xs) h =
    let at : first_bytes n (λ bytes. test (x ∷ bytes)) ≡ None =
    option_map-none (λ bytes. x ∷ bytes) (first_bytes n (λ bytes. test (x ∷ bytes)))
    (first_below-none 256 (λ byte. option_map (λ bytes. byte ∷ bytes) (first_bytes n (λ bytes. test (byte ∷ bytes)))) none x (head_byte n x xs h)) in
    first_bytes-none n (λ bytes. test (x ∷ bytes)) at xs (tail_bytes n x xs h)

-- a list that is found passes
pub record Passes (n : ℕ) (test : List ℕ → Bool) (xs : List ℕ) : Type 0 where
  pub bytes : AreBytes n xs
  pub passes : test xs ≡ true

no_bytes_passes : (test : List ℕ → Bool) (xs : List ℕ) → (test [] ≡ true) × (xs ≡ []) → Passes 0 test xs
no_bytes_passes test xs h =
    subst (Passes 0 test) (sym h.1) (record { bytes = record { width = refl; entries = λ i d lt. absurd (omega (arith, lt)) }; passes = h.0 })

pub first_bytes-passes : (n : ℕ) (test : List ℕ → Bool) (xs : List ℕ) → first_bytes n test ≡ Some xs → Passes n test xs
unfolding first_bytes
first_bytes-passes naught test xs is = no_bytes_passes test xs (something (test []) xs is)
first_bytes-passes (suc n) test xs is =
    let f : ℕ → Option (List ℕ) = λ byte. option_map (λ bytes. byte ∷ bytes) (first_bytes n (λ bytes. test (byte ∷ bytes))) in
    let at = first_below-some 256 f xs is in
    let mapped = option_map-some (λ bytes. at.place ∷ bytes) (first_bytes n (λ bytes. test (at.place ∷ bytes))) xs at.there in
    let rest = first_bytes-passes n (λ bytes. test (at.place ∷ bytes)) mapped.from mapped.there in
    subst (Passes (suc n) test) mapped.is (record { bytes = more_bytes n at.place mapped.from at.within rest.bytes; passes = rest.passes })
