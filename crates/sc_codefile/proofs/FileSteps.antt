-- A value and the code file that it is.
use Rattle.std.proofs.Common.{◌≡◌, ℕ, ◌<◌, true, false, not, List, Option, Some, None, is_none, unwrap_or, map, refl, sym, ap, ap₂, ◌∙◌}
use Rattle.std.proofs.lemmas.Bool.{not-false}
use Rattle.std.proofs.lemmas.Option.{none-some, same_Some}
use Rattle.serde_json.specs.Data.{Data, null, boolean, number, string, array, object}
use Rattle.serde_json.proofs.OnLiterals.{serde_json_on_literals}
use Rattle.sc_matrix.specs.Matrix.{Matrix}
use Rattle.sc_channel.specs.Channel.{ChannelNumbers, IsChannel, is_channel}
use Rattle.sc_channel.proofs.ChannelLaws.{is_channel-to, is_channel-from}
use Rattle.sc_code.specs.Code.{Code, IsCode}
use Rattle.sc_code.specs.declared.code.CodeFile.{CodeFile}
use Rattle.sc_codefile.specs.declared.fault.FileFault.{FileFault}
use Rattle.sc_codefile.specs.declared.fault.FileFault.TheVariants.{Memory}
use Rattle.sc_codefile.specs.declared.numbers.CodeNumbers.{CodeNumbers}
use Rattle.sc_codefile.specs.Value.{is_object, has_other_key}
use Rattle.sc_codefile.specs.Fault.{first_of, fails, IsRefusedFor}
use Rattle.sc_codefile.specs.CodeFile.{code_keys, channel_at, k_at, lags_at, r_at, is_k, are_lags, is_r, rows_of, code_faults, IsCodeFile, IsCodeFileText}
use Rattle.sc_codefile.specs.CodeText.{code_value}
use Rattle.sc_codefile.specs.Numbers.{HasNumbers, with_cols, HasFile}
use Rattle.sc_codefile.proofs.FaultSteps.{none_from_clear, clear_from_none, is_some_value, refused-clear}
use Rattle.sc_codefile.proofs.ValueSteps.{lags-array}
use Rattle.sc_codefile.proofs.CodeSteps.{k_in, lags_in, r_in, is_code-from, rows_of-with_cols, with_cols-rows_of}

-- the numbers that were read make this file
pub is_file-numbers : (d : Data) (n : CodeNumbers) (file : CodeFile) → HasNumbers d n → HasFile n file → IsCodeFile d file
is_file-numbers d n file has made = record {
  keys = has.keys;
  channel = has.channel ∙ ap Some (sym made.channel);
  k = has.k ∙ ap Some (sym made.k);
  lags = has.lags ∙ ap Some (sym (ap rows_of made.lags ∙ rows_of-with_cols n.r n.lags));
  r = has.r ∙ ap Some (sym made.r);
  is_channel = made.is_channel;
  is_code = made.is_code;
}

-- the value of a code file is this file
pub is_file-value : (file : CodeFile) → IsChannel file.channel → IsCode (λ x. x < 256) file.code → IsCodeFile (code_value file) file
unfolding has_other_key channel_at k_at lags_at r_at serde_json_on_literals
is_file-value file channel code = record {
  keys = refl;
  channel = refl;
  k = refl;
  lags = lags-array (rows_of file.code.lags);
  r = refl;
  is_channel = channel;
  is_code = code;
}

-- ---- a value is a code file of at most one file

same_code : (c e : Code ℕ) → c.k ≡ e.k → c.r ≡ e.r → c.lags ≡ e.lags → c ≡ e
same_code c e k r lags =
    ap₂ (λ (x y : ℕ). let code : Code ℕ = record { k = x; r = y; lags = c.lags } in code) k r
    ∙ ap (λ (ms : List (Matrix ℕ)). let code : Code ℕ = record { k = e.k; r = e.r; lags = ms } in code) lags

pub same_file : (d : Data) (file other : CodeFile) → IsCodeFile d file → IsCodeFile d other → file ≡ other
same_file d file other is too =
    let k : file.code.k ≡ other.code.k = same_Some _ _ (sym is.k ∙ too.k) in
    let r : file.code.r ≡ other.code.r = same_Some _ _ (sym is.r ∙ too.r) in
    let rows : rows_of file.code.lags ≡ rows_of other.code.lags = same_Some _ _ (sym is.lags ∙ too.lags) in
    let lags : file.code.lags ≡ other.code.lags =
    sym (with_cols-rows_of file.code.k file.code.r file.code.lags is.is_code.shapes)
    ∙ ap₂ (λ (n : ℕ) (xs : List (List (List ℕ))). map (with_cols n) xs) r rows
    ∙ with_cols-rows_of other.code.k other.code.r other.code.lags too.is_code.shapes in
    ap₂ (λ (c : ChannelNumbers) (e : Code ℕ). let f : CodeFile = record { channel = c; code = e } in f)
    (same_Some _ _ (sym is.channel ∙ too.channel)) (same_code file.code other.code k r lags)

-- ---- a value is a code file exactly where it has no fault

object_from_channel : (d : Data) (channel : ChannelNumbers) → channel_at d ≡ Some channel → is_object d ≡ true
unfolding is_object channel_at
object_from_channel null channel e = absurd (none-some channel e)
object_from_channel (boolean b) channel e = absurd (none-some channel e)
object_from_channel (number n) channel e = absurd (none-some channel e)
object_from_channel (string s) channel e = absurd (none-some channel e)
object_from_channel (array ds) channel e = absurd (none-some channel e)
object_from_channel (object ms) channel e = refl

pub no_fault-file : (d : Data) (file : CodeFile) → IsCodeFile d file → first_of (code_faults d) ≡ None
no_fault-file d file is =
    none_from_clear (code_faults d) (
      ap not (object_from_channel d file.channel is.channel),
      (
        is.keys,
        (
          ap is_none is.channel,
          (
            ap is_none is.k,
            (
              ap is_none is.lags,
              (
                ap is_none is.r,
                (
                  ap (fails is_channel) is.channel ∙ ap not (is_channel-from file.channel is.is_channel),
                  (
                    ap (fails is_k) is.k ∙ ap not (k_in file.code is.is_code),
                    (
                      ap₂ (λ (k r : Option ℕ). fails (are_lags (unwrap_or k 0) (unwrap_or r 0)) (lags_at d)) is.k is.r
                          ∙ ap (fails (are_lags file.code.k file.code.r)) is.lags ∙ ap not (lags_in file.code is.is_code),
                      (
                        ap₂ (λ (k r : Option ℕ). fails (is_r (unwrap_or k 0)) r) is.k is.r ∙ ap not (r_in file.code is.is_code),
                        tt,
                      ),
                    ),
                  ),
                ),
              ),
            ),
          ),
        ),
      ),
    )

-- the file of numbers in range
made_file : (d : Data) (channel : ChannelNumbers) (k r : ℕ) (lags : List (List (List ℕ)))
    → has_other_key code_keys d ≡ false → channel_at d ≡ Some channel → k_at d ≡ Some k → lags_at d ≡ Some lags → r_at d ≡ Some r
    → is_channel channel ≡ true → is_k k ≡ true → are_lags k r lags ≡ true → is_r k r ≡ true → (file : CodeFile) × IsCodeFile d file
made_file d channel k r lags keys c is_k_at is_lags_at is_r_at channel_fits k_fits lags_fit r_fits = (
  record { channel = channel; code = record { k = k; r = r; lags = map (with_cols r) lags } },
  record {
    keys = keys;
    channel = c;
    k = is_k_at;
    lags = is_lags_at ∙ ap Some (sym (rows_of-with_cols r lags));
    r = is_r_at;
    is_channel = is_channel-to channel channel_fits;
    is_code = is_code-from k r lags k_fits lags_fit r_fits;
  },
)

pub some_file-no_fault : (d : Data) → first_of (code_faults d) ≡ None → (file : CodeFile) × IsCodeFile d file
some_file-no_fault d none =
    let p1 = clear_from_none (code_faults d) none in
    let p2 = p1.1 in
    let p3 = p2.1 in
    let p4 = p3.1 in
    let p5 = p4.1 in
    let p6 = p5.1 in
    let p7 = p6.1 in
    let p8 = p7.1 in
    let p9 = p8.1 in
    let p10 = p9.1 in
    let c = is_some_value (channel_at d) p3.0 in
    let k = is_some_value (k_at d) p4.0 in
    let l = is_some_value (lags_at d) p5.0 in
    let r = is_some_value (r_at d) p6.0 in
    made_file d c.0 k.0 r.0 l.0 p2.0 c.1 k.1 l.1 r.1
    (not-false _ (sym (ap (fails is_channel) c.1) ∙ p7.0))
    (not-false _ (sym (ap (fails is_k) k.1) ∙ p8.0))
    (not-false _ (sym (ap₂ (λ (x y : Option ℕ). fails (are_lags (unwrap_or x 0) (unwrap_or y 0)) (lags_at d)) k.1 r.1
    ∙ ap (fails (are_lags k.0 r.0)) l.1) ∙ p9.0))
    (not-false _ (sym (ap₂ (λ (x y : Option ℕ). fails (is_r (unwrap_or x 0)) y) k.1 r.1) ∙ p10.0))

-- ---- bytes have one answer

pub refused-file : (text : List ℕ) (file : CodeFile) (fault : FileFault) → IsCodeFileText text file → IsRefusedFor code_faults text fault → fault ≡ Memory
refused-file text file fault is refused =
    refused-clear code_faults text fault is.value is.is_value (no_fault-file is.value file is.is_file) refused
