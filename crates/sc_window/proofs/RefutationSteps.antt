-- The streams of width 1 that refute a code with an admissible loss are the differences under the loss.
use Rattle.std.proofs.Common.{◌≡◌, ℕ, ◌+◌, Bool, List, [], length, replicate, ◌∙◌, arith}
use Rattle.std.proofs.lemmas.List.{get_or-replicate}
use Rattle.sc_field.specs.Field.{IsField, IsAction}
use Rattle.sc_channel.specs.Channel.{ChannelNumbers}
use Rattle.sc_channel.specs.Flags.{IsSet}
use Rattle.sc_channel.specs.Loss.{IsAdmissible}
use Rattle.sc_matrix.proofs.Modules.{byte_module}
use Rattle.sc_code.specs.Code.{Code, IsCode}
use Rattle.sc_code.specs.Stream.{zero_block, column}
use Rattle.sc_code.specs.Parity.{parity}
use Rattle.sc_code.specs.Determined.{IsRefutation}
use Rattle.sc_code.proofs.ParityLaws.{parity_symbol-zeros}
use Rattle.sc_code.proofs.ColumnLaws.{column-zeros, zero_parity_from_bytes}
use Rattle.sc_code.proofs.MeetsLaws.{IsKept-in_range, IsRefutation-from_undecided}
use Rattle.sc_window.specs.Difference.{IsByteDifference, IsLeastByteDifference, IsLeastRefutation}

module _ {A : Type 0} {IsElement : A → Type 0} {zero one : A} {add sub mul : A → A → A} {inv : A → A} {act : A → ℕ → ℕ} (laws : IsField IsElement zero one add sub mul inv) (action : IsAction IsElement zero one add mul act) where
  -- the parities of the stream of zeros
  parity-zeros : (code : Code A) (n t : ℕ) → IsCode IsElement code → parity zero act code 1 (replicate n (zero_block code.k 1)) t ≡ zero_block code.r 1
  parity-zeros code n t hc =
      zero_parity_from_bytes zero act code 1 (replicate n (zero_block code.k 1)) t (λ j c hj hb.
      parity_symbol-zeros laws (byte_module action) code (column (replicate n (zero_block code.k 1)) c) t j hc (λ u i hu hi. column-zeros code.k 1 n c u i))

  -- a refutation is zero in each kept slot
  difference_from_refutation : (code : Code A) (channel : ChannelNumbers) (loss : List Bool) (xs : List (List (List ℕ))) → IsCode IsElement code → IsRefutation zero act code channel loss xs → IsByteDifference zero act code loss xs
  difference_from_refutation code channel loss xs hc r =
      let flags = r.flags in
      let blocks = r.blocks in
      record {
        stream = r.stream;
        blocks = omega arith;
        zeros = λ i kept.
            let within = IsKept-in_range loss i kept in
            let same = r.agree i (omega arith) kept in
            record {
              zero_symbols = same.same_block ∙ get_or-replicate (channel.t + 1) i (zero_block code.k 1) [] (omega arith);
              zero_parity = same.same_parity ∙ parity-zeros code (channel.t + 1) i hc;
            };
        block_differs = r.block_differs;
      }

  pub IsLeastRefutation-from_difference : (code : Code A) (channel : ChannelNumbers) (loss : List Bool) (xs : List (List (List ℕ))) → IsCode IsElement code → length loss ≡ channel.t + 1 → IsSet loss 0 → IsAdmissible channel loss
      → IsLeastByteDifference zero act code loss xs → IsLeastRefutation zero act code channel loss xs
  IsLeastRefutation-from_difference code channel loss xs hc flags set admissible h =
      let d = h.belongs in
      record {
        belongs = IsRefutation-from_undecided laws action code channel loss xs hc flags set admissible d.stream d.blocks d.zeros d.block_differs;
        least = λ ys r. h.least ys (difference_from_refutation code channel loss ys hc r);
      }
