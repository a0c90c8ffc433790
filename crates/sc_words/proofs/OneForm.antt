-- Words ask for a command exactly where they are its words.
use Rattle.std.proofs.Common.{◌≡◌, ℕ, ◌≤◌, List, [], ◌∷◌, Bool, true, false, Option, Some, None, codes, cond, nat_le, arith, refl, ap, sym, ◌∙◌, subst}
use Rattle.std.proofs.lemmas.Bool.Decides.{nat_tests}
use Rattle.std.proofs.lemmas.Option.{cond_some}
use Rattle.std.proofs.lemmas.Slice.Eq.{bytes_eq-Decides}
use Rattle.std.specs.Fmt.{decimal}
use Rattle.std.specs.Str.{bytes_eq}
use Rattle.sc_channel.specs.Channel.{ChannelNumbers, IsChannel, is_channel}
use Rattle.sc_channel.proofs.ChannelLaws.{is_channel-to, is_channel-from}
use Rattle.sc_words.specs.declared.words.Kind.{Kind}
use Rattle.sc_words.specs.declared.words.Kind.TheVariants.{Ms, Layered, Optimal}
use Rattle.sc_words.specs.Words.{Command, lose, generate, protect, check, repair, bound, certify, design, trial, number_to, channel_at, channel_of, lose_of, gen_at, gen_of, protect_at, protect_of, check_at, check_of, repair_of, bound_at, bound_of, certify_of, kind_of, design_at, design_of, trial_at, trial_of, command_of}
use Rattle.sc_words.specs.Forms.{kind_word, words_of, IsWithinLimits}
use Rattle.sc_words.proofs.Numbers.{number_to-to_decimal, number_to-decimal}

-- the parts of a channel's words, and of a command's
record AreNumbers (w b n t : Option ℕ) (c : ChannelNumbers) : Type 0 where
  w_is : w ≡ Some c.w
  b_is : b ≡ Some c.b
  n_is : n ≡ Some c.n
  t_is : t ≡ Some c.t
  channel : is_channel c ≡ true

channel_at-to : (w b n t : Option ℕ) (c : ChannelNumbers) → channel_at w b n t ≡ Some c → AreNumbers w b n t c
channel_at-to (Some w) (Some b) (Some n) (Some t) c is =
    let numbers : ChannelNumbers = record { w = w; b = b; n = n; t = t } in
    let parts = cond_some (is_channel numbers) numbers c is in
    record {
      w_is = ap (λ (d : ChannelNumbers). Some d.w) parts.1;
      b_is = ap (λ (d : ChannelNumbers). Some d.b) parts.1;
      n_is = ap (λ (d : ChannelNumbers). Some d.n) parts.1;
      t_is = ap (λ (d : ChannelNumbers). Some d.t) parts.1;
      channel = subst (λ (d : ChannelNumbers). is_channel d ≡ true) parts.1 parts.0;
    }
channel_at-to (Some w) (Some b) (Some n) None c is = absurd (cc)
channel_at-to (Some w) (Some b) None t c is = absurd (cc)
channel_at-to (Some w) None n t c is = absurd (cc)
channel_at-to None b n t c is = absurd (cc)

-- Of each command, its words: where they ask for a command, they are its words, and it is within its limits.
abbrev AreItsWords : List (List ℕ) → Command → Type 0
AreItsWords words command = (words ≡ words_of command) × IsWithinLimits command

lose_of-to : (words : List (List ℕ)) (command : Command) → lose_of words ≡ Some command → AreItsWords (codes "lose" ∷ words) command
lose_of-to [] command is = absurd (cc)
lose_of-to (code ∷ []) command is = absurd (cc)
lose_of-to (code ∷ loss ∷ []) command is =
    let same : lose code loss ≡ command = cc in
    subst (AreItsWords (codes "lose" ∷ code ∷ loss ∷ [])) same (refl, tt)
lose_of-to (code ∷ loss ∷ more ∷ rest) command is = absurd (cc)

record GenParts (a b c : Option ℕ) (command : Command) : Type 0 where
  seed : ℕ
  count : ℕ
  size : ℕ
  a_is : a ≡ Some seed
  b_is : b ≡ Some count
  c_is : c ≡ Some size
  least : 12 ≤ size
  is : generate seed count size ≡ command

gen_at-to : (a b c : Option ℕ) (command : Command) → gen_at a b c ≡ Some command → GenParts a b c command
gen_at-to (Some a) (Some b) (Some c) command is =
    let parts = cond_some (nat_le 12 c) (generate a b c) command is in
    record { seed = a; count = b; size = c; a_is = refl; b_is = refl; c_is = refl; least = grind (arith, nat_tests, parts.0); is = parts.1 }
gen_at-to (Some a) (Some b) None command is = absurd (cc)
gen_at-to (Some a) None c command is = absurd (cc)
gen_at-to None b c command is = absurd (cc)

gen_of-to : (words : List (List ℕ)) (command : Command) → gen_of words ≡ Some command → AreItsWords (codes "gen" ∷ words) command
gen_of-to [] command is = absurd (cc)
gen_of-to (a ∷ []) command is = absurd (cc)
gen_of-to (a ∷ b ∷ []) command is = absurd (cc)
gen_of-to (a ∷ b ∷ c ∷ []) command is =
    let parts = gen_at-to (number_to 18446744073709551615 a) (number_to 3999960 b) (number_to 1472 c) command is in
    let seed_text = number_to-to_decimal 18446744073709551615 a parts.seed (omega arith) parts.a_is in
    let count_text = number_to-to_decimal 3999960 b parts.count (omega arith) parts.b_is in
    let size_text = number_to-to_decimal 1472 c parts.size (omega arith) parts.c_is in
    let a_is : a ≡ decimal parts.seed = seed_text.0 in
    let b_is : b ≡ decimal parts.count = count_text.0 in
    let c_is : c ≡ decimal parts.size = size_text.0 in
    subst (AreItsWords (codes "gen" ∷ a ∷ b ∷ c ∷ [])) parts.is (cc, (seed_text.1, count_text.1, parts.least, size_text.1))
gen_of-to (a ∷ b ∷ c ∷ more ∷ rest) command is = absurd (cc)

record ProtectParts (code : List ℕ) (a : Option ℕ) (command : Command) : Type 0 where
  size : ℕ
  a_is : a ≡ Some size
  least : 12 ≤ size
  is : protect code size ≡ command

protect_at-to : (code : List ℕ) (a : Option ℕ) (command : Command) → protect_at code a ≡ Some command → ProtectParts code a command
protect_at-to code (Some a) command is =
    let parts = cond_some (nat_le 12 a) (protect code a) command is in
    record { size = a; a_is = refl; least = grind (arith, nat_tests, parts.0); is = parts.1 }
protect_at-to code None command is = absurd (cc)

protect_of-to : (words : List (List ℕ)) (command : Command) → protect_of words ≡ Some command → AreItsWords (codes "protect" ∷ words) command
protect_of-to [] command is = absurd (cc)
protect_of-to (code ∷ []) command is = absurd (cc)
protect_of-to (code ∷ a ∷ []) command is =
    let parts = protect_at-to code (number_to 1472 a) command is in
    let size_text = number_to-to_decimal 1472 a parts.size (omega arith) parts.a_is in
    let a_is : a ≡ decimal parts.size = size_text.0 in
    subst (AreItsWords (codes "protect" ∷ code ∷ a ∷ [])) parts.is (cc, (parts.least, size_text.1))
protect_of-to (code ∷ a ∷ more ∷ rest) command is = absurd (cc)

record CheckParts (code : List ℕ) (a : Option ℕ) (command : Command) : Type 0 where
  workers : ℕ
  a_is : a ≡ Some workers
  least : 1 ≤ workers
  is : check code workers ≡ command

check_at-to : (code : List ℕ) (a : Option ℕ) (command : Command) → check_at code a ≡ Some command → CheckParts code a command
check_at-to code (Some a) command is =
    let parts = cond_some (nat_le 1 a) (check code a) command is in
    record { workers = a; a_is = refl; least = grind (arith, nat_tests, parts.0); is = parts.1 }
check_at-to code None command is = absurd (cc)

check_of-to : (words : List (List ℕ)) (command : Command) → check_of words ≡ Some command → AreItsWords (codes "check" ∷ words) command
check_of-to [] command is = absurd (cc)
check_of-to (code ∷ []) command is = absurd (cc)
check_of-to (code ∷ a ∷ []) command is =
    let parts = check_at-to code (number_to 64 a) command is in
    let workers_text = number_to-to_decimal 64 a parts.workers (omega arith) parts.a_is in
    let a_is : a ≡ decimal parts.workers = workers_text.0 in
    subst (AreItsWords (codes "check" ∷ code ∷ a ∷ [])) parts.is (cc, (parts.least, workers_text.1))
check_of-to (code ∷ a ∷ more ∷ rest) command is = absurd (cc)

repair_of-to : (words : List (List ℕ)) (command : Command) → repair_of words ≡ Some command → AreItsWords (codes "repair" ∷ words) command
repair_of-to [] command is = absurd (cc)
repair_of-to (code ∷ []) command is =
    let same : repair code ≡ command = cc in
    subst (AreItsWords (codes "repair" ∷ code ∷ [])) same (refl, tt)
repair_of-to (code ∷ more ∷ rest) command is = absurd (cc)

-- the words of a channel
record ChannelTexts (w b n t : List ℕ) (c : ChannelNumbers) : Type 0 where
  w_is : w ≡ decimal c.w
  b_is : b ≡ decimal c.b
  n_is : n ≡ decimal c.n
  t_is : t ≡ decimal c.t
  channel : IsChannel c

channel_of-to : (w b n t : List ℕ) (c : ChannelNumbers) → channel_of w b n t ≡ Some c → ChannelTexts w b n t c
channel_of-to w b n t c is =
    let numbers = channel_at-to (number_to 4294967295 w) (number_to 4294967295 b) (number_to 4294967295 n) (number_to 4294967295 t) c is in
    record {
      w_is = (number_to-to_decimal 4294967295 w c.w (omega arith) numbers.w_is).0;
      b_is = (number_to-to_decimal 4294967295 b c.b (omega arith) numbers.b_is).0;
      n_is = (number_to-to_decimal 4294967295 n c.n (omega arith) numbers.n_is).0;
      t_is = (number_to-to_decimal 4294967295 t c.t (omega arith) numbers.t_is).0;
      channel = is_channel-to c numbers.channel;
    }

record BoundParts (o : Option ChannelNumbers) (command : Command) : Type 0 where
  channel : ChannelNumbers
  o_is : o ≡ Some channel
  is : bound channel ≡ command

bound_at-to : (o : Option ChannelNumbers) (command : Command) → bound_at o ≡ Some command → BoundParts o command
bound_at-to (Some c) command is = record { channel = c; o_is = refl; is = cc }
bound_at-to None command is = absurd (cc)

bound_of-to : (words : List (List ℕ)) (command : Command) → bound_of words ≡ Some command → AreItsWords (codes "bound" ∷ words) command
bound_of-to [] command is = absurd (cc)
bound_of-to (w ∷ []) command is = absurd (cc)
bound_of-to (w ∷ b ∷ []) command is = absurd (cc)
bound_of-to (w ∷ b ∷ n ∷ []) command is = absurd (cc)
bound_of-to (w ∷ b ∷ n ∷ t ∷ []) command is =
    let parts = bound_at-to (channel_of w b n t) command is in
    let texts = channel_of-to w b n t parts.channel parts.o_is in
    let w_text : w ≡ decimal parts.channel.w = texts.w_is in
    let b_text : b ≡ decimal parts.channel.b = texts.b_is in
    let n_text : n ≡ decimal parts.channel.n = texts.n_is in
    let t_text : t ≡ decimal parts.channel.t = texts.t_is in
    subst (AreItsWords (codes "bound" ∷ w ∷ b ∷ n ∷ t ∷ [])) parts.is (cc, texts.channel)
bound_of-to (w ∷ b ∷ n ∷ t ∷ more ∷ rest) command is = absurd (cc)

certify_of-to : (words : List (List ℕ)) (command : Command) → certify_of words ≡ Some command → AreItsWords (codes "certify" ∷ words) command
certify_of-to [] command is = absurd (cc)
certify_of-to (code ∷ []) command is = absurd (cc)
certify_of-to (code ∷ cert ∷ []) command is =
    let same : certify code cert ≡ command = cc in
    subst (AreItsWords (codes "certify" ∷ code ∷ cert ∷ [])) same (refl, tt)
certify_of-to (code ∷ cert ∷ more ∷ rest) command is = absurd (cc)

-- a kind's name after another
named_optimal : (word : List ℕ) (kind : Kind) (is_optimal : Bool) → bytes_eq word (codes "optimal") ≡ is_optimal
    → cond is_optimal (Some Optimal) None ≡ Some kind → word ≡ kind_word kind
named_optimal word kind true asked is =
    let same : Optimal ≡ kind = cc in
    (bytes_eq-Decides word (codes "optimal")).0 asked ∙ ap kind_word same
named_optimal word kind false asked is = absurd (cc)

named_layered : (word : List ℕ) (kind : Kind) (is_layered : Bool) → bytes_eq word (codes "layered") ≡ is_layered
    → cond is_layered (Some Layered) (cond (bytes_eq word (codes "optimal")) (Some Optimal) None) ≡ Some kind → word ≡ kind_word kind
named_layered word kind true asked is =
    let same : Layered ≡ kind = cc in
    (bytes_eq-Decides word (codes "layered")).0 asked ∙ ap kind_word same
named_layered word kind false asked is = named_optimal word kind (bytes_eq word (codes "optimal")) refl is

named_ms : (word : List ℕ) (kind : Kind) (is_ms : Bool) → bytes_eq word (codes "ms") ≡ is_ms
    → cond is_ms (Some Ms) (cond (bytes_eq word (codes "layered")) (Some Layered) (cond (bytes_eq word (codes "optimal")) (Some Optimal) None)) ≡ Some kind
    → word ≡ kind_word kind
named_ms word kind true asked is =
    let same : Ms ≡ kind = cc in
    (bytes_eq-Decides word (codes "ms")).0 asked ∙ ap kind_word same
named_ms word kind false asked is = named_layered word kind (bytes_eq word (codes "layered")) refl is

kind_of-to : (word : List ℕ) (kind : Kind) → kind_of word ≡ Some kind → word ≡ kind_word kind
kind_of-to word kind is = named_ms word kind (bytes_eq word (codes "ms")) refl is

kind_of-word : (kind : Kind) → kind_of (kind_word kind) ≡ Some kind
kind_of-word Ms = refl
kind_of-word Layered = refl
kind_of-word Optimal = refl

record DesignParts (k : Option Kind) (o : Option ChannelNumbers) (command : Command) : Type 0 where
  kind : Kind
  channel : ChannelNumbers
  k_is : k ≡ Some kind
  o_is : o ≡ Some channel
  is : design kind channel ≡ command

design_at-to : (k : Option Kind) (o : Option ChannelNumbers) (command : Command) → design_at k o ≡ Some command → DesignParts k o command
design_at-to (Some kind) (Some c) command is = record { kind = kind; channel = c; k_is = refl; o_is = refl; is = cc }
design_at-to (Some kind) None command is = absurd (cc)
design_at-to None o command is = absurd (cc)

design_of-to : (words : List (List ℕ)) (command : Command) → design_of words ≡ Some command → AreItsWords (codes "design" ∷ words) command
design_of-to [] command is = absurd (cc)
design_of-to (kind ∷ []) command is = absurd (cc)
design_of-to (kind ∷ w ∷ []) command is = absurd (cc)
design_of-to (kind ∷ w ∷ b ∷ []) command is = absurd (cc)
design_of-to (kind ∷ w ∷ b ∷ n ∷ []) command is = absurd (cc)
design_of-to (kind ∷ w ∷ b ∷ n ∷ t ∷ []) command is =
    let parts = design_at-to (kind_of kind) (channel_of w b n t) command is in
    let texts = channel_of-to w b n t parts.channel parts.o_is in
    let kind_text : kind ≡ kind_word parts.kind = kind_of-to kind parts.kind parts.k_is in
    let w_text : w ≡ decimal parts.channel.w = texts.w_is in
    let b_text : b ≡ decimal parts.channel.b = texts.b_is in
    let n_text : n ≡ decimal parts.channel.n = texts.n_is in
    let t_text : t ≡ decimal parts.channel.t = texts.t_is in
    subst (AreItsWords (codes "design" ∷ kind ∷ w ∷ b ∷ n ∷ t ∷ [])) parts.is (cc, texts.channel)
design_of-to (kind ∷ w ∷ b ∷ n ∷ t ∷ more ∷ rest) command is = absurd (cc)

record TrialParts (code : List ℕ) (a b c : Option ℕ) (command : Command) : Type 0 where
  seed : ℕ
  count : ℕ
  size : ℕ
  a_is : a ≡ Some seed
  b_is : b ≡ Some count
  c_is : c ≡ Some size
  least : 12 ≤ size
  is : trial code seed count size ≡ command

trial_at-to : (code : List ℕ) (a b c : Option ℕ) (command : Command) → trial_at code a b c ≡ Some command → TrialParts code a b c command
trial_at-to code (Some a) (Some b) (Some c) command is =
    let parts = cond_some (nat_le 12 c) (trial code a b c) command is in
    record { seed = a; count = b; size = c; a_is = refl; b_is = refl; c_is = refl; least = grind (arith, nat_tests, parts.0); is = parts.1 }
trial_at-to code (Some a) (Some b) None command is = absurd (cc)
trial_at-to code (Some a) None c command is = absurd (cc)
trial_at-to code None b c command is = absurd (cc)

trial_of-to : (words : List (List ℕ)) (command : Command) → trial_of words ≡ Some command → AreItsWords (codes "trial" ∷ words) command
trial_of-to [] command is = absurd (cc)
trial_of-to (code ∷ []) command is = absurd (cc)
trial_of-to (code ∷ a ∷ []) command is = absurd (cc)
trial_of-to (code ∷ a ∷ b ∷ []) command is = absurd (cc)
trial_of-to (code ∷ a ∷ b ∷ c ∷ []) command is =
    let parts = trial_at-to code (number_to 18446744073709551615 a) (number_to 10000 b) (number_to 1472 c) command is in
    let seed_text = number_to-to_decimal 18446744073709551615 a parts.seed (omega arith) parts.a_is in
    let count_text = number_to-to_decimal 10000 b parts.count (omega arith) parts.b_is in
    let size_text = number_to-to_decimal 1472 c parts.size (omega arith) parts.c_is in
    let a_is : a ≡ decimal parts.seed = seed_text.0 in
    let b_is : b ≡ decimal parts.count = count_text.0 in
    let c_is : c ≡ decimal parts.size = size_text.0 in
    subst (AreItsWords (codes "trial" ∷ code ∷ a ∷ b ∷ c ∷ [])) parts.is (cc, (seed_text.1, count_text.1, parts.least, size_text.1))
trial_of-to (code ∷ a ∷ b ∷ c ∷ more ∷ rest) command is = absurd (cc)

-- By a command's name: the words behind it ask for the command, or what is left does.
named : (name word : List ℕ) (words : List (List ℕ)) (command : Command) (its others : Option Command) (is_named : Bool) → bytes_eq name word ≡ is_named
    → (its ≡ Some command → AreItsWords (word ∷ words) command) → (others ≡ Some command → AreItsWords (name ∷ words) command)
    → cond is_named its others ≡ Some command → AreItsWords (name ∷ words) command
named name word words command its others true asked one other is = subst (λ n. AreItsWords (n ∷ words) command) (sym ((bytes_eq-Decides name word).0 asked)) (one is)
named name word words command its others false asked one other is = other is

named_none : (name : List ℕ) (words : List (List ℕ)) (command : Command) → None ≡ Some command → AreItsWords (name ∷ words) command
named_none name words command is = absurd (cc)

pub command_of-to : (words : List (List ℕ)) (command : Command) → command_of words ≡ Some command → (words ≡ words_of command) × IsWithinLimits command
command_of-to [] command is = absurd (cc)
command_of-to (name ∷ words) command is =
    named name (codes "lose") words command _ _ _ refl (lose_of-to words command)
    (named name (codes "gen") words command _ _ _ refl (gen_of-to words command)
    (named name (codes "protect") words command _ _ _ refl (protect_of-to words command)
    (named name (codes "check") words command _ _ _ refl (check_of-to words command)
    (named name (codes "repair") words command _ _ _ refl (repair_of-to words command)
    (named name (codes "bound") words command _ _ _ refl (bound_of-to words command)
    (named name (codes "certify") words command _ _ _ refl (certify_of-to words command)
    (named name (codes "design") words command _ _ _ refl (design_of-to words command)
    (named name (codes "trial") words command _ _ _ refl (trial_of-to words command) (named_none name words command))))))))) is

channel_of-decimal : (c : ChannelNumbers) → IsChannel c → channel_of (decimal c.w) (decimal c.b) (decimal c.n) (decimal c.t) ≡ Some c
channel_of-decimal c is =
    let w = number_to-decimal 4294967295 c.w (omega arith) (omega arith) in
    let b = number_to-decimal 4294967295 c.b (omega arith) (omega arith) in
    let n = number_to-decimal 4294967295 c.n (omega arith) (omega arith) in
    let t = number_to-decimal 4294967295 c.t (omega arith) (omega arith) in
    let channel = is_channel-from c is in
    rw (w, b, n, t, channel) refl

pub command_of-words_of : (command : Command) → IsWithinLimits command → command_of (words_of command) ≡ Some command
command_of-words_of (lose code loss) within = refl
command_of-words_of (generate seed count size) within =
    let seed_is = number_to-decimal 18446744073709551615 seed (omega arith) within.0 in
    let count_is = number_to-decimal 3999960 count (omega arith) within.1 in
    let size_is = number_to-decimal 1472 size (omega arith) within.3 in
    let least : nat_le 12 size ≡ true = grind (arith, nat_tests, within.2) in
    rw (seed_is, count_is, size_is, least) refl
command_of-words_of (protect code size) within =
    let size_is = number_to-decimal 1472 size (omega arith) within.1 in
    let least : nat_le 12 size ≡ true = grind (arith, nat_tests, within.0) in
    rw (size_is, least) refl
command_of-words_of (check code workers) within =
    let workers_is = number_to-decimal 64 workers (omega arith) within.1 in
    let least : nat_le 1 workers ≡ true = grind (arith, nat_tests, within.0) in
    rw (workers_is, least) refl
command_of-words_of (repair code) within = refl
command_of-words_of (bound c) within = rw (channel_of-decimal c within) refl
command_of-words_of (certify code cert) within = refl
command_of-words_of (design kind c) within = rw (kind_of-word kind, channel_of-decimal c within) refl
command_of-words_of (trial code seed count size) within =
    let seed_is = number_to-decimal 18446744073709551615 seed (omega arith) within.0 in
    let count_is = number_to-decimal 10000 count (omega arith) within.1 in
    let size_is = number_to-decimal 1472 size (omega arith) within.3 in
    let least : nat_le 12 size ≡ true = grind (arith, nat_tests, within.2) in
    rw (seed_is, count_is, size_is, least) refl
