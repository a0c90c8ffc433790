use Rattle.std.proofs.Common.{◌≡◌, ℕ, refl, sym, ◌∙◌, subst}
use Rattle.sc_echelon.specs.Knowledge.{Knowledge}
use Rattle.sc_echelon.specs.declared.knowledge.Added.TheVariants.{New, Known}
use Rattle.sc_repair.specs.Equations.{Gives, Learns}
use Rattle.sc_repair.specs.Columns.{all_known}
use Rattle.sc_repair.proofs.ColumnSteps.{free_more, columns_more, within_more, learns_new, learns_known, refuses_clash}
use Rattle.sc_repair.proofs.columns.add_touched.Goals as goal

pub returns-in-New-clause-columns : goal.returns-in-New-clause-columns
returns-in-New-clause-columns c =
    let known = c.args.known.now in
    let h = c.requires.columns in
    let new = c.add_row.new.self in
    columns_more known new c.args.whole.now c.args.free.now c.args.free.now c.args.bytes.now h c.add_row.ensures.cols c.add_row.ensures.width refl
    (within_more known new c.args.whole.now c.args.free.now c.args.bytes.now h c.add_row.ensures.cols c.add_row.ensures.width (λ vs s. (((c.add_row.ensures.adds c.in-New.is) vs).0 s).0))
    (free_more known new c.args.free.now c.args.free.now c.args.row.now c.args.sum.now h.is_free c.add_row.ensures.cols c.add_row.ensures.width c.requires.elements c.requires.row (λ i e. (e, c.requires.touched i e)) (c.add_row.ensures.adds c.in-New.is))

pub returns-in-New-clause-learns : goal.returns-in-New-clause-learns
returns-in-New-clause-learns c e =
    let row = c.args.row.now in
    let sum = c.args.sum.now in
    learns_new c.args.known.now c.add_row.new.self c.args.whole.now c.args.free.now c.args.bytes.now row sum row sum c.requires.columns c.add_row.ensures.cols c.add_row.ensures.width
    (λ vs s. (λ g. g, λ g. g)) (c.add_row.ensures.adds c.in-New.is)

pub returns-in-Known-clause-learns : goal.returns-in-Known-clause-learns
returns-in-Known-clause-learns c e =
    let known = c.args.known.now in
    let row = c.args.row.now in
    let sum = c.args.sum.now in
    let same : c.add_row.new.self ≡ known = c.add_row.ensures.stays (λ x. absurd (let other : Known ≡ New = sym c.in-Known.is ∙ x in cc)) in
    subst (λ (k : Knowledge ℕ). Learns (all_known known c.args.whole.now c.args.bytes.now) (all_known k c.args.whole.now c.args.bytes.now) (Gives known.width row sum)) (sym same)
    (learns_known known c.args.whole.now c.args.free.now c.args.bytes.now row sum row sum c.requires.columns (λ vs s. (λ g. g, λ g. g)) (c.add_row.ensures.known.0 c.in-Known.is))

pub returns-in-Clash-clause-refuses : goal.returns-in-Clash-clause-refuses
returns-in-Clash-clause-refuses c e =
    let row = c.args.row.now in
    let sum = c.args.sum.now in
    refuses_clash c.args.known.now c.args.whole.now c.args.free.now c.args.bytes.now row sum row sum c.requires.columns (λ vs s. (λ g. g, λ g. g)) (c.add_row.ensures.clash.0 c.in-Clash.is)
