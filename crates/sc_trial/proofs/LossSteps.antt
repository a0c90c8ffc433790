-- The generated loss flag by flag: which flags decide whether one more is admitted, and what the flags so far are.
use Rattle.std.proofs.Common.{◌≡◌, ℕ, zero, suc, ◌+◌, ◌-◌, ◌%◌, ◌<◌, ◌≤◌, ◌==◌, ◌&&◌, ◌↔◌, not, Bool, true, false, Option, None, Some, is_none, is_some, List, [], ◌∷◌, ◌++◌, length, get_or, take, drop, refl, sym, ap, ◌∙◌, subst, arith, inl, inr}
use Rattle.std.proofs.lemmas.Bool.{both_ways, cases_lt}
use Rattle.std.proofs.lemmas.Bool.Decides.{nat_tests}
use Rattle.std.proofs.lemmas.List.{length-append, append-nil, take-append-drop, take-append-le, get_or-take, get_or_append_left}
use Rattle.std.proofs.Math.Seq.{take-length, take-suc, get_or-append_seam}
use Rattle.rand_pcg.specs.Lcg.{Lcg, advance}
use Rattle.rand_pcg.specs.Pcg.{multiplier_64}
use Rattle.sc_channel.specs.Channel.{ChannelNumbers}
use Rattle.sc_channel.specs.Flags.{IsSet, window}
use Rattle.sc_channel.specs.Loss.{IsFine, IsAdmissible, bad_window}
use Rattle.sc_channel.proofs.SetCountSteps.{IsSet-take_from, IsSet-drop_from}
use Rattle.sc_channel.proofs.FineLaws.{IsFine-fewer, IsSet-window, IsSet-window_from, IsAdmissible-window, IsAdmissible-from_windows, IsAdmissible-fewer, IsAdmissible-part}
use Rattle.sc_channel.proofs.WindowLaws.{bad_window-admissible, admissible-no_bad_window}
use Rattle.sc_trial.specs.Draw.{word_at}
use Rattle.sc_trial.specs.Loss.{IsLostNext, IsGeneratedLoss, is_admissible, next_flag, generated_loss}
use Rattle.sc_trial.proofs.DrawSteps.{word_at-advance}

-- a window that ends before the last flag is one of the loss without that flag
window_before : (channel : ChannelNumbers) (loss : List Bool) (i : ℕ) → i + channel.w ≤ length loss - 1 → IsAdmissible channel (take (length loss - 1) loss)
    → IsFine channel.b channel.n (window channel.w i loss)
window_before channel loss i early ok =
    let front = take (length loss - 1) loss in
    IsFine-fewer channel.b channel.n (window channel.w i front) (window channel.w i loss)
    (λ k set.
    let here : (k < channel.w) × IsSet loss (i + k) = IsSet-window channel.w i loss k set in
    IsSet-window_from channel.w i front k here.0 (IsSet-take_from (length loss - 1) loss (i + k) (omega (arith, here.0)) here.1))
    (IsAdmissible-window channel front i ok)

-- the others stand within the last flags, as many as a window has
window_behind : (channel : ChannelNumbers) (loss : List Bool) (i : ℕ) → length loss - channel.w ≤ i → IsAdmissible channel (drop (length loss - channel.w) loss)
    → IsFine channel.b channel.n (window channel.w i loss)
window_behind channel loss i late ok =
    let s = length loss - channel.w in
    let tail = drop s loss in
    IsFine-fewer channel.b channel.n (window channel.w (i - s) tail) (window channel.w i loss)
    (λ k set.
    let here : (k < channel.w) × IsSet loss (i + k) = IsSet-window channel.w i loss k set in
    let at : i + k ≡ s + (i - s + k) = omega arith in
    IsSet-window_from channel.w (i - s) tail k here.0 (IsSet-drop_from s loss (i - s + k) (subst (IsSet loss) at here.1)))
    (IsAdmissible-window channel tail (i - s) ok)

-- a loss that is admissible without its last flag is so exactly where its last flags are, as many as a window has
admissible-from_last : (channel : ChannelNumbers) (loss : List Bool) → 0 < channel.w → IsAdmissible channel (take (length loss - 1) loss)
    → IsAdmissible channel (drop (length loss - channel.w) loss) → IsAdmissible channel loss
admissible-from_last channel loss some before last =
    IsAdmissible-from_windows channel loss (λ i within.
    elim (cases_lt (length loss - 1) (i + channel.w)) [
      | inl late ↦ window_behind channel loss i (omega (arith, late)) last
      | inr early ↦ window_before channel loss i early before
    ])

-- the first bad windows of two losses are both none or both some
both_none : (x y : Option ℕ) → (x ≡ None → y ≡ None) → (y ≡ None → x ≡ None) → is_none x ≡ is_none y
both_none None None f g = refl
both_none None (Some j) f g = absurd (cc (f refl))
both_none (Some i) None f g = absurd (cc (g refl))
both_none (Some i) (Some j) f g = refl

pub is_admissible-from_last : (channel : ChannelNumbers) (loss : List Bool) → 0 < channel.w → IsAdmissible channel (take (length loss - 1) loss)
    → is_admissible channel (drop (length loss - channel.w) loss) ≡ is_admissible channel loss
is_admissible-from_last channel loss some before =
    let s = length loss - channel.w in
    let tail = drop s loss in
    both_none (bad_window channel tail) (bad_window channel loss)
    (λ e. bad_window-admissible channel loss (admissible-from_last channel loss some before (admissible-no_bad_window channel tail e)))
    (λ e.
    let ok : IsAdmissible channel loss = admissible-no_bad_window channel loss e in
    let parts : loss ≡ take s loss ++ (tail ++ []) = sym (take-append-drop s loss) ∙ ap (λ l. take s loss ++ l) (sym (append-nil tail)) in
    bad_window-admissible channel tail (IsAdmissible-part channel (take s loss) tail [] (subst (IsAdmissible channel) parts ok)))

-- the answer of `is_none`
pub none_answer : (x : Option ℕ) (answer : Bool) → is_some x ≡ not answer → answer ≡ is_none x
none_answer None true e = refl
none_answer None false e = absurd (cc e)
none_answer (Some i) true e = absurd (cc e)
none_answer (Some i) false e = refl

-- ---- the flags so far
is_admissible-true : (channel : ChannelNumbers) (loss : List Bool) → is_admissible channel loss ≡ true → IsAdmissible channel loss
is_admissible-true channel loss e = admissible-no_bad_window channel loss (none_from (bad_window channel loss) e)
  where
    none_from : (x : Option ℕ) → is_none x ≡ true → x ≡ None
    none_from None e = refl
    none_from (Some i) e = absurd (cc e)

is_admissible-of : (channel : ChannelNumbers) (loss : List Bool) → IsAdmissible channel loss → is_admissible channel loss ≡ true
is_admissible-of channel loss ok = ap (λ (x : Option ℕ). is_none x) (bad_window-admissible channel loss ok)

-- a kept slot behind an admissible loss
admissible-kept : (channel : ChannelNumbers) (loss : List Bool) → IsAdmissible channel loss → IsAdmissible channel (loss ++ false ∷ [])
admissible-kept channel loss ok =
    IsAdmissible-fewer channel loss (loss ++ false ∷ [])
    (λ k set. elim (cases_lt k (length loss)) [
      | inl within ↦ sym (get_or_append_left loss (false ∷ []) false k within) ∙ set
      | inr past ↦ absurd (both_ways _ (unset_behind loss k past) set)
    ])
    ok
  where
    unset_behind : (loss : List Bool) (k : ℕ) → length loss ≤ k → get_or (loss ++ false ∷ []) k false ≡ false
    unset_behind [] zero le = refl
    unset_behind [] (suc k) le = refl
    unset_behind (x ∷ xs) zero le = absurd (omega arith)
    unset_behind (x ∷ xs) (suc k) le = unset_behind xs k (omega arith)

admissible-next : (channel : ChannelNumbers) (loss : List Bool) (drawn admitted : Bool) → (admitted ≡ true → IsAdmissible channel (loss ++ true ∷ [])) → IsAdmissible channel loss
    → IsAdmissible channel (loss ++ (drawn && admitted) ∷ [])
admissible-next channel loss true true next ok = next refl
admissible-next channel loss true false next ok = admissible-kept channel loss ok
admissible-next channel loss false admitted next ok = admissible-kept channel loss ok

pub generated_loss-admissible : (g : Lcg) (channel : ChannelNumbers) (n : ℕ) → IsAdmissible channel (generated_loss g channel n)
unfolding generated_loss
generated_loss-admissible g channel zero = IsAdmissible-from_windows channel [] (λ i within. absurd (omega arith))
generated_loss-admissible g channel (suc n) =
    let before = generated_loss g channel n in
    admissible-next channel before (word_at g (length before) % 3 == 0) (is_admissible channel (before ++ true ∷ []))
    (is_admissible-true channel (before ++ true ∷ []))
    (generated_loss-admissible g channel n)

pub length-generated_loss : (g : Lcg) (channel : ChannelNumbers) (n : ℕ) → length (generated_loss g channel n) ≡ n
unfolding generated_loss
length-generated_loss g channel zero = refl
length-generated_loss g channel (suc n) =
    let before = generated_loss g channel n in
    omega (arith, length-append before (next_flag g channel before ∷ []), length-generated_loss g channel n)

pub generated_loss-none : (g : Lcg) (channel : ChannelNumbers) → [] ≡ generated_loss g channel 0
unfolding generated_loss
generated_loss-none g channel = refl

generated_loss-next : (g : Lcg) (channel : ChannelNumbers) (n m : ℕ) → m ≡ suc n
    → generated_loss g channel m ≡ generated_loss g channel n ++ next_flag g channel (generated_loss g channel n) ∷ []
unfolding generated_loss
generated_loss-next g channel n m e = ap (generated_loss g channel) e

-- one flag more, drawn by a generator behind its first words
pub generated_loss-more : (g h : Lcg) (channel : ChannelNumbers) (n : ℕ) (before flags : List Bool) → before ≡ generated_loss g channel n
    → h ≡ advance 64 multiplier_64 n g
    → flags ≡ before ++ ((word_at h 0 % 3 == 0) && is_admissible channel (before ++ true ∷ [])) ∷ []
    → flags ≡ generated_loss g channel (n + 1)
generated_loss-more g h channel n before flags eb eh ef =
    let word : word_at h 0 ≡ word_at g (length before) =
    ap (λ (k : Lcg). word_at k 0) eh ∙ word_at-advance n 0 g ∙ ap (word_at g) (omega (arith, ap length eb, length-generated_loss g channel n)) in
    ef ∙ ap (λ (w : ℕ). before ++ ((w % 3 == 0) && is_admissible channel (before ++ true ∷ [])) ∷ []) word
    ∙ ap (λ (l : List Bool). l ++ next_flag g channel l ∷ []) eb
    ∙ sym (generated_loss-next g channel n (n + 1) (omega arith))

-- the first flags of it are the loss of fewer slots
take-generated_loss : (g : Lcg) (channel : ChannelNumbers) (n i : ℕ) → i ≤ n → take i (generated_loss g channel n) ≡ generated_loss g channel i
unfolding generated_loss
take-generated_loss g channel zero i le = let e : i ≡ 0 = omega arith in rw e refl
take-generated_loss g channel (suc n) i le =
    let before = generated_loss g channel n in
    elim (cases_lt n i) [
      | inl last ↦
          let e : i ≡ suc n = omega arith in
          let long : i ≡ length (generated_loss g channel (suc n)) = omega (arith, e, length-generated_loss g channel (suc n)) in
          ap (λ (k : ℕ). take k (generated_loss g channel (suc n))) long ∙ take-length (generated_loss g channel (suc n)) ∙ ap (generated_loss g channel) (sym e)
      | inr earlier ↦
          take-append-le i before (next_flag g channel before ∷ []) (omega (arith, earlier, length-generated_loss g channel n))
          ∙ take-generated_loss g channel n i earlier
    ]

-- flag i of it
flag-generated_loss : (g : Lcg) (channel : ChannelNumbers) (n i : ℕ) → i < n → get_or (generated_loss g channel n) i false ≡ next_flag g channel (generated_loss g channel i)
flag-generated_loss g channel n i small =
    let here = generated_loss g channel i in
    sym (get_or-take (i + 1) (generated_loss g channel n) i false (omega arith))
    ∙ ap (λ (l : List Bool). get_or l i false)
    (take-generated_loss g channel n (i + 1) (omega arith) ∙ generated_loss-next g channel i (i + 1) (omega arith))
    ∙ ap (λ (k : ℕ). get_or (here ++ next_flag g channel here ∷ []) k false) (sym (length-generated_loss g channel i))
    ∙ get_or-append_seam here (next_flag g channel here) [] false

and_both : (a b : Bool) → (a && b) ≡ true → (a ≡ true) × (b ≡ true)
and_both true true e = (refl, refl)
and_both true false e = absurd (cc e)
and_both false b e = absurd (cc e)

next_flag-is : (g : Lcg) (channel : ChannelNumbers) (before : List Bool) → (next_flag g channel before ≡ true) ↔ IsLostNext g channel before
next_flag-is g channel before = (
  λ e.
      let both = and_both (word_at g (length before) % 3 == 0) (is_admissible channel (before ++ true ∷ [])) e in
      record {
        drawn = grind (arith, nat_tests, both.0);
        admitted = is_admissible-true channel (before ++ true ∷ []) both.1;
      },
  λ lost.
      ap (λ (w : ℕ). (w == 0) && is_admissible channel (before ++ true ∷ [])) lost.drawn
      ∙ is_admissible-of channel (before ++ true ∷ []) lost.admitted,
)

pub generated_loss-is : (g : Lcg) (channel : ChannelNumbers) (n : ℕ) (loss : List Bool) → loss ≡ generated_loss g channel n → IsGeneratedLoss g channel loss
generated_loss-is g channel n loss e = subst (IsGeneratedLoss g channel) (sym e) (record {
  slot = λ i within.
      let small : i < n = omega (arith, within, length-generated_loss g channel n) in
      let is = next_flag-is g channel (generated_loss g channel i) in
      let flag = flag-generated_loss g channel n i small in
      let front = take-generated_loss g channel n i (omega arith) in (
        λ set. subst (IsLostNext g channel) (sym front) (is.0 (sym flag ∙ set)),
        λ lost. flag ∙ is.1 (subst (IsLostNext g channel) front lost),
      );
})

-- ---- the only one
same_flag : (a b : Bool) → (a ≡ true → b ≡ true) → (b ≡ true → a ≡ true) → a ≡ b
same_flag true b f g = sym (f refl)
same_flag false true f g = g refl
same_flag false false f g = refl

front_is : (g : Lcg) (channel : ChannelNumbers) (loss : List Bool) → IsGeneratedLoss g channel loss → (n : ℕ) → n ≤ length loss → take n loss ≡ generated_loss g channel n
front_is g channel loss is zero le = generated_loss-none g channel
front_is g channel loss is (suc n) le =
    let front : take n loss ≡ generated_loss g channel n = front_is g channel loss is n (omega arith) in
    let next = next_flag-is g channel (take n loss) in
    let slot = is.slot n (omega arith) in
    let flag : get_or loss n false ≡ next_flag g channel (take n loss) =
    same_flag (get_or loss n false) (next_flag g channel (take n loss)) (λ set. next.1 (slot.0 set)) (λ set. slot.1 (next.0 set)) in
    take-suc loss n false (omega arith)
    ∙ ap (λ (f : Bool). take n loss ++ f ∷ []) flag
    ∙ ap (λ (l : List Bool). l ++ next_flag g channel l ∷ []) front
    ∙ sym (generated_loss-next g channel n (suc n) refl)

pub generated_loss-one : (g : Lcg) (channel : ChannelNumbers) (loss : List Bool) → IsGeneratedLoss g channel loss ↔ (loss ≡ generated_loss g channel (length loss))
generated_loss-one g channel loss = (
  λ is. sym (take-length loss) ∙ front_is g channel loss is (length loss) (omega arith),
  λ e. generated_loss-is g channel (length loss) loss e,
)
