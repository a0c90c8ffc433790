use Rattle.std.proofs.Common.{◌≡◌, ◌*◌, ◌%◌, ◌/◌, replicate, length, ap, ◌∙◌, arith}
use Rattle.std.proofs.Math.Nat.{mul-mod_left, mul-div_cancel}
use Rattle.std.proofs.lemmas.List.{length-replicate}
use Rattle.sc_matrix.specs.Layout.{cut}
use Rattle.sc_matrix.proofs.LayoutLaws.{cut-replicate}
use Rattle.streamcode.proofs.verdict.zero_stream.Goals as goal

pub new-requires-clause-whole : goal.new-requires-clause-whole
new-requires-clause-whole c =
    let items : c.in_ok-vec.field-0.items ≡ replicate (c.args.blocks * c.args.k) 0 = c.in_ok-vec.ensures.items_if_clones_equal (λ y e. e) in
    ap (λ xs. length xs % c.args.k) items ∙ ap (λ n. n % c.args.k) (length-replicate (c.args.blocks * c.args.k) 0) ∙ mul-mod_left c.args.blocks c.args.k

pub returns : goal.returns
returns c =
    let items : c.in_ok-vec.field-0.items ≡ replicate (c.args.blocks * c.args.k) 0 = c.in_ok-vec.ensures.items_if_clones_equal (λ y e. e) in
    let count : length c.in_ok-vec.field-0.items / c.args.k ≡ c.args.blocks =
    ap (λ xs. length xs / c.args.k) items ∙ ap (λ n. n / c.args.k) (length-replicate (c.args.blocks * c.args.k) 0) ∙ mul-div_cancel c.args.blocks (omega (arith, c.requires.some)) in
    c.new.ensures ∙ ap (λ n. cut n c.args.k c.in_ok-vec.field-0.items) count ∙ ap (cut c.args.blocks c.args.k) items ∙ cut-replicate c.args.blocks c.args.k 0
