-- Under the periodic loss, what is kept up to the deadline of a slot determines all numbers up to that slot.
use Rattle.std.proofs.Common.{◌≡◌, ℕ, zero, suc, ◌+◌, ◌-◌, ◌%◌, ◌<◌, ◌≤◌, Bool, false, List, ◌++◌, length, map, get_or, take, eqb, refl, sym, ap, ◌∙◌, subst, arith, inl, inr, add-one}
use Rattle.std.specs.List.{list_any, range_with_len}
use Rattle.std.proofs.Math.ListN.{replicate}
use Rattle.std.proofs.Math.Nat.{mod-lt, mod-add-mod}
use Rattle.std.proofs.lemmas.Bool.{cases_lt}
use Rattle.std.proofs.lemmas.List.{ext_get_or, get_or-append_right, get_or-take, length-append, length-replicate, length-take-le, take-take, take_more_same}
use Rattle.std.proofs.lemmas.List.Elements.{All-take}
use Rattle.std.proofs.lemmas.List.FromFn.{length-map-range_with_len, get_or-map-range_with_len}
use Rattle.sc_channel.specs.Channel.{ChannelNumbers}
use Rattle.sc_channel.specs.Loss.{IsAdmissible}
use Rattle.sc_channel.specs.Certificate.{CertificateNumbers, IsCertificate, IsAccepted, is_lost, periodic_flags}
use Rattle.sc_rate.specs.TableCode.{AreSymbols, TableMeets, IsNumberDetermined, ArriveAlike, sent}
use Rattle.sc_channel.proofs.AfterKeptLaws.{IsAdmissible-after_kept}

-- lists of n symbols for which the same is sent in each slot that the periodic loss keeps
pub record AreAlike (certificate : CertificateNumbers) (a : ℕ) (table : List ℕ → ℕ) (n : ℕ) (xs ys : List ℕ) : Type 0 where
  pub count_x : length xs ≡ n
  pub count_y : length ys ≡ n
  pub symbols_x : AreSymbols a xs
  pub symbols_y : AreSymbols a ys
  pub kept : (slot : ℕ) → slot < n → is_lost certificate slot ≡ false → sent table xs slot ≡ sent table ys slot

-- all slots before slot t are kept, and from there on those that the periodic loss keeps
abbrev kept_before : CertificateNumbers → ℕ → ℕ → List Bool
kept_before certificate t count = replicate t false ++ periodic_flags certificate t count

length-kept_before : (certificate : CertificateNumbers) (t count : ℕ) → length (kept_before certificate t count) ≡ t + count
length-kept_before certificate t count =
    omega (arith, length-append (replicate t false) (periodic_flags certificate t count), length-replicate t false, length-map-range_with_len (is_lost certificate) t count)

-- the periodic loss from a slot on is that from its residue on
periodic_flags-residue : (certificate : CertificateNumbers) (t count : ℕ) → periodic_flags certificate (t % certificate.period) count ≡ periodic_flags certificate t count
periodic_flags-residue certificate t count =
    let lost = is_lost certificate in
    let r = t % certificate.period in
    ext_get_or false (map lost (range_with_len r count)) (map lost (range_with_len t count))
    (length-map-range_with_len lost r count ∙ sym (length-map-range_with_len lost t count))
    (λ i within.
    let within_count : i < count = omega (arith, length-map-range_with_len lost r count) in
    get_or-map-range_with_len lost r count i (r + i) false within_count refl
    ∙ ap (λ (q : ℕ). list_any (eqb q) certificate.lost) (mod-add-mod t certificate.period i)
    ∙ sym (get_or-map-range_with_len lost t count i (t + i) false within_count refl))

IsAdmissible-kept_before : (channel : ChannelNumbers) (certificate : CertificateNumbers) → IsCertificate certificate → IsAccepted channel certificate → (t : ℕ)
    → IsAdmissible channel (kept_before certificate t (channel.t + 1))
IsAdmissible-kept_before channel certificate valid accepted t =
    IsAdmissible-after_kept channel (periodic_flags certificate t (channel.t + 1)) t
    (subst (IsAdmissible channel) (periodic_flags-residue certificate t (channel.t + 1))
    (accepted.each (t % certificate.period) (mod-lt t valid.some_slot)))

-- a slot from t on that is kept there is kept by the periodic loss
is_lost-kept_before : (certificate : CertificateNumbers) (t count slot : ℕ) → t ≤ slot → slot < t + count
    → get_or (kept_before certificate t count) slot false ≡ is_lost certificate slot
is_lost-kept_before certificate t count slot from within =
    get_or-append_right (replicate t false) (periodic_flags certificate t count) t slot false (length-replicate t false) from
    ∙ get_or-map-range_with_len (is_lost certificate) t count (slot - t) slot false (omega arith) (omega arith)

-- lists that are alike, and equal before slot t, are alike under the loss that keeps all slots before t
arrives : (certificate : CertificateNumbers) (a : ℕ) (table : List ℕ → ℕ) (n : ℕ) (xs ys : List ℕ) → AreAlike certificate a table n xs ys
    → (t d : ℕ) → t + d < n → take t xs ≡ take t ys
    → ArriveAlike table (kept_before certificate t (d + 1)) (take (t + d + 1) xs) (take (t + d + 1) ys)
arrives certificate a table n xs ys alike t d short front slot within unset =
    let near : slot < t + (d + 1) = omega (arith, length-kept_before certificate t (d + 1)) in
    let m = t + d + 1 in
    let in_xs : sent table (take m xs) slot ≡ sent table xs slot = ap table (take-take (slot + 1) m xs (omega arith)) in
    let in_ys : sent table (take m ys) slot ≡ sent table ys slot = ap table (take-take (slot + 1) m ys (omega arith)) in
    let between : sent table xs slot ≡ sent table ys slot =
    elim (cases_lt slot t) [
      | inl before ↦ ap table (sym (take-take (slot + 1) t xs (omega arith)) ∙ ap (take (slot + 1)) front ∙ take-take (slot + 1) t ys (omega arith))
      | inr from ↦ alike.kept slot (omega arith) (sym (is_lost-kept_before certificate t (d + 1) slot from near) ∙ unset)
    ] in
    in_xs ∙ between ∙ sym in_ys

-- one more number is determined
next_same : (channel : ChannelNumbers) (certificate : CertificateNumbers) (a horizon : ℕ) (table : List ℕ → ℕ) (n : ℕ) (xs ys : List ℕ)
    → IsCertificate certificate → IsAccepted channel certificate → TableMeets channel a horizon table → n ≤ horizon → AreAlike certificate a table n xs ys
    → (t : ℕ) → t + channel.t < n → take t xs ≡ take t ys → get_or xs t 0 ≡ get_or ys t 0
next_same channel certificate a horizon table n xs ys valid accepted meets fits alike t short front =
    let m = t + channel.t + 1 in
    let of_t : IsNumberDetermined channel a table t (kept_before certificate t (channel.t + 1)) =
    meets.determined t (kept_before certificate t (channel.t + 1)) (omega arith) (omega (arith, length-kept_before certificate t (channel.t + 1)))
    (IsAdmissible-kept_before channel certificate valid accepted t) in
    let lx : length xs ≡ n = alike.count_x in
    let ly : length ys ≡ n = alike.count_y in
    let same : get_or (take m xs) t 0 ≡ get_or (take m ys) t 0 =
    of_t.same (take m xs) (take m ys) (length-take-le m xs (omega arith)) (length-take-le m ys (omega arith))
    (All-take (λ number. number < a) m xs alike.symbols_x) (All-take (λ number. number < a) m ys alike.symbols_y)
    (arrives certificate a table n xs ys alike t channel.t short front) in
    sym (get_or-take m xs t 0 (omega arith)) ∙ same ∙ get_or-take m ys t 0 (omega arith)

-- the symbols that are kept determine all numbers whose deadline comes before the end
pub fronts_same : (channel : ChannelNumbers) (certificate : CertificateNumbers) (a horizon : ℕ) (table : List ℕ → ℕ) (n : ℕ) (xs ys : List ℕ)
    → IsCertificate certificate → IsAccepted channel certificate → TableMeets channel a horizon table → n ≤ horizon → AreAlike certificate a table n xs ys
    → (t : ℕ) → t + channel.t ≤ n → take t xs ≡ take t ys
fronts_same channel certificate a horizon table n xs ys valid accepted meets fits alike zero short = refl
fronts_same channel certificate a horizon table n xs ys valid accepted meets fits alike (suc t) short =
    let lx : length xs ≡ n = alike.count_x in
    let ly : length ys ≡ n = alike.count_y in
    let before : take t xs ≡ take t ys = fronts_same channel certificate a horizon table n xs ys valid accepted meets fits alike t (omega arith) in
    let more : take (t + 1) xs ≡ take (t + 1) ys =
    take_more_same xs ys t 0 (omega arith) (omega arith) before
    (next_same channel certificate a horizon table n xs ys valid accepted meets fits alike t (omega arith) before) in
    subst (λ (k : ℕ). take k xs ≡ take k ys) (add-one t) more
