-- An accepted certificate bounds the rate of every causal code.
use Rattle.std.proofs.Common.{◌≡◌, ℕ, ◌+◌, ◌*◌, ◌^◌, ◌<◌, ◌≤◌, List, ◌++◌, length, map, get_or, take, not, sym, ap, ◌∙◌, subst, arith}
use Rattle.std.specs.List.{All, Contains, range_with_len}
use Rattle.std.proofs.Math.ListN.{replicate}
use Rattle.std.proofs.Math.Nat.{pow-le-pow_right, one-le-pow}
use Rattle.std.proofs.lemmas.List.{get_or-map, length-append, length-map, length-replicate, length-take, take_at}
use Rattle.std.proofs.lemmas.List.Elements.{All-append, All-filter, All-from_get_or, All-map, All-replicate, All-take}
use Rattle.std.proofs.lemmas.List.FromFn.{length-range_with_len, get_or-range_with_len}
use Rattle.sc_channel.specs.Channel.{ChannelNumbers}
use Rattle.sc_channel.specs.Certificate.{CertificateNumbers, IsCertificate, IsAccepted, is_lost}
use Rattle.sc_rate.specs.TableCode.{AreSymbols, IsTable, TableMeets, sent}
use Rattle.sc_rate.specs.Rate.{kept_count}
use Rattle.sc_rate.proofs.PowerSteps.{le-from_powers, le-from_pow, pow-mul}
use Rattle.sc_rate.proofs.WordSteps.{words_told_apart}
use Rattle.sc_rate.proofs.KeptSteps.{kept_slots, Contains-kept_slots, length-kept_slots}
use Rattle.sc_rate.proofs.DeadlineSteps.{AreAlike, fronts_same}

-- a word, and as many zeros as there are slots to the last deadline
abbrev with_zeros : ℕ → List ℕ → List ℕ
with_zeros t word = word ++ replicate t 0

-- what is sent for a word of n numbers in the slots that the periodic loss keeps
abbrev arriving : CertificateNumbers → (List ℕ → ℕ) → ℕ → ℕ → List ℕ → List ℕ
arriving certificate table t n word = map (sent table (with_zeros t word)) (kept_slots certificate 0 (n + t))

length-with_zeros : (t n : ℕ) (word : List ℕ) → length word ≡ n → length (with_zeros t word) ≡ n + t
length-with_zeros t n word count = omega (arith, length-append word (replicate {A = ℕ} t 0), length-replicate {A = ℕ} t 0)

AreSymbols-with_zeros : (a t : ℕ) (word : List ℕ) → 1 ≤ a → AreSymbols a word → AreSymbols a (with_zeros t word)
AreSymbols-with_zeros a t word some small =
    All-append (λ number. number < a) word (replicate t 0) small (All-replicate (λ number. number < a) t 0 some)

-- what a table sends for numbers within its horizon is below b
sent_below : (a b horizon : ℕ) (table : List ℕ → ℕ) (numbers : List ℕ) (slot : ℕ) → IsTable a b horizon table → AreSymbols a numbers → length numbers ≤ horizon → slot < length numbers
    → sent table numbers slot < b
sent_below a b horizon table numbers slot is_table small short within =
    is_table.entry (take (slot + 1) numbers) (All-take (λ number. number < a) (slot + 1) numbers small)
    (omega (arith, length-take (slot + 1) numbers)) (omega (arith, length-take (slot + 1) numbers))

AreSymbols-arriving : (certificate : CertificateNumbers) (a b horizon : ℕ) (table : List ℕ → ℕ) (t n : ℕ) (word : List ℕ)
    → IsTable a b horizon table → 1 ≤ a → n + t ≤ horizon → length word ≡ n → AreSymbols a word → AreSymbols b (arriving certificate table t n word)
AreSymbols-arriving certificate a b horizon table t n word is_table some short count small =
    let numbers = with_zeros t word in
    let all = length-with_zeros t n word count in
    let slots = range_with_len 0 (n + t) in
    let Small : ℕ → Type 0 = λ slot. sent table numbers slot < b in
    let in_range : All Small slots = All-from_get_or Small slots 0 (λ i within.
    let within_n : i < n + t = omega (arith, length-range_with_len 0 (n + t)) in
    let at : get_or slots i 0 ≡ i = get_or-range_with_len 0 (n + t) i 0 within_n ∙ omega arith in
    subst Small (sym at) (sent_below a b horizon table numbers i is_table (AreSymbols-with_zeros a t word some small) (omega arith) (omega arith))) in
    All-map (λ symbol. symbol < b) (sent table numbers) (kept_slots certificate 0 (n + t))
    (All-filter (λ slot. not (is_lost certificate slot)) Small slots in_range)

-- functions that make one list of xs are equal at each of its elements
same_at : (f g : ℕ → ℕ) (xs : List ℕ) → map f xs ≡ map g xs → (x : ℕ) → Contains xs x → f x ≡ g x
same_at f g xs same x there =
    ap f (sym there.2) ∙ sym (get_or-map f xs there.0 x 0 there.1) ∙ ap (λ (l : List ℕ). get_or l there.0 0) same ∙ get_or-map g xs there.0 x 0 there.1 ∙ ap g there.2

-- words of which the same arrives are equal
same_word : (channel : ChannelNumbers) (certificate : CertificateNumbers) (a horizon : ℕ) (table : List ℕ → ℕ) (n : ℕ) (xs ys : List ℕ)
    → IsCertificate certificate → IsAccepted channel certificate → TableMeets channel a horizon table → 1 ≤ a → n + channel.t ≤ horizon
    → length xs ≡ n → length ys ≡ n → AreSymbols a xs → AreSymbols a ys
    → arriving certificate table channel.t n xs ≡ arriving certificate table channel.t n ys → xs ≡ ys
same_word channel certificate a horizon table n xs ys valid accepted meets some short count_x count_y small_x small_y same =
    let t = channel.t in
    let alike : AreAlike certificate a table (n + t) (with_zeros t xs) (with_zeros t ys) =
    record {
      count_x = length-with_zeros t n xs count_x;
      count_y = length-with_zeros t n ys count_y;
      symbols_x = AreSymbols-with_zeros a t xs some small_x;
      symbols_y = AreSymbols-with_zeros a t ys some small_y;
      kept = λ slot within kept.
          same_at (sent table (with_zeros t xs)) (sent table (with_zeros t ys)) (kept_slots certificate 0 (n + t)) same slot (Contains-kept_slots certificate (n + t) slot within kept);
    } in
    sym (take_at xs (replicate t 0) n count_x)
    ∙ fronts_same channel certificate a horizon table (n + t) (with_zeros t xs) (with_zeros t ys) valid accepted meets short alike n (omega arith)
    ∙ take_at ys (replicate t 0) n count_y

-- in x periods there are no more words than there are ways of what is kept
words_bounded : (channel : ChannelNumbers) (certificate : CertificateNumbers) (a b horizon : ℕ) (table : List ℕ → ℕ) (x : ℕ)
    → IsCertificate certificate → IsAccepted channel certificate → 1 ≤ a → 1 ≤ b → IsTable a b horizon table → TableMeets channel a horizon table
    → certificate.period * x + channel.t ≤ horizon
    → a ^ (certificate.period * x) ≤ b ^ (kept_count certificate * x + channel.t)
words_bounded channel certificate a b horizon table x valid accepted some_a some_b is_table meets short =
    let n = certificate.period * x in
    let slots = kept_slots certificate 0 (n + channel.t) in
    let words : a ^ n ≤ b ^ length slots =
    words_told_apart a b n (length slots) (arriving certificate table channel.t n) some_a
    (λ xs count small. (length-map slots (sent table (with_zeros channel.t xs)), AreSymbols-arriving certificate a b horizon table channel.t n xs is_table some_a short count small))
    (λ xs ys count_x count_y small_x small_y same. same_word channel certificate a horizon table n xs ys valid accepted meets some_a short count_x count_y small_x small_y same) in
    let fewer : b ^ length slots ≤ b ^ (kept_count certificate * x + channel.t) = pow-le-pow_right some_b (length-kept_slots certificate valid x channel.t) in
    omega arith

-- the bound
pub rate_bounded : (channel : ChannelNumbers) (certificate : CertificateNumbers) (a b horizon : ℕ) (table : List ℕ → ℕ)
    → IsCertificate certificate → IsAccepted channel certificate → 1 ≤ a → 1 ≤ b
    → IsTable a b horizon table → TableMeets channel a horizon table
    → certificate.period * b ^ (kept_count certificate + channel.t) + channel.t ≤ horizon
    → a ^ certificate.period ≤ b ^ kept_count certificate
rate_bounded channel certificate a b horizon table valid accepted some_a some_b is_table meets long =
    le-from_powers a b certificate.period (kept_count certificate) channel.t some_b
    (words_bounded channel certificate a b horizon table (b ^ (kept_count certificate + channel.t)) valid accepted some_a some_b is_table meets long)

-- the bound in bytes
pub byte_rate_bounded : (channel : ChannelNumbers) (certificate : CertificateNumbers) (k n horizon : ℕ) (table : List ℕ → ℕ)
    → IsCertificate certificate → IsAccepted channel certificate
    → IsTable (256 ^ k) (256 ^ n) horizon table → TableMeets channel (256 ^ k) horizon table
    → certificate.period * (256 ^ n) ^ (kept_count certificate + channel.t) + channel.t ≤ horizon
    → k * certificate.period ≤ kept_count certificate * n
byte_rate_bounded channel certificate k n horizon table valid accepted is_table meets long =
    let some : 0 < 256 = omega arith in
    let powers : (256 ^ k) ^ certificate.period ≤ (256 ^ n) ^ kept_count certificate =
    rate_bounded channel certificate (256 ^ k) (256 ^ n) horizon table valid accepted (one-le-pow k 256 some) (one-le-pow n 256 some) is_table meets long in
    let exponents : k * certificate.period ≤ n * kept_count certificate =
    le-from_pow 256 (k * certificate.period) (n * kept_count certificate) (omega arith)
    (rw (pow-mul 256 k certificate.period, pow-mul 256 n (kept_count certificate)) powers) in
    omega arith
