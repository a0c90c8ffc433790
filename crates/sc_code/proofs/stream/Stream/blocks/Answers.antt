use Rattle.std.proofs.Common.{ℕ, ◌/◌, length, sym, ap, ◌∙◌}
use Rattle.sc_matrix.proofs.LayoutLaws.{length-cut}
use Rattle.sc_code.proofs.stream.Stream.blocks.Goals as goal

pub returns : goal.returns
returns c =
    let s = c.self.inside in
    ap (λ (n : ℕ). n / s.k) (ap length c.as_slice-count.ensures.value)
    ∙ sym (length-cut (length s.symbols.items / s.k) s.k s.symbols.items) ∙ ap length c.self.view_is
