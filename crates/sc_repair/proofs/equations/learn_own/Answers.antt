use Rattle.std.proofs.Common.{◌≡◌, ℕ, true, false, sym, ◌∙◌, subst}
use Rattle.sc_repair.specs.Equations.{Learns, Refuses, HasSymbols, HasParities, at_block, at_parity}
use Rattle.sc_repair.proofs.equations.learn_own.Goals as goal
use Rattle.sc_repair.proofs.equations.learn_own.Goals.{then-learn_block, else-learn_block}

pub returns-clause-learns : goal.returns-clause-learns
returns-clause-learns c e =
    let code = c.args.code.now in
    let m = c.args.m in
    let n = c.args.places in
    let place = c.args.place in
    let block = c.args.block.now in
    let parity = c.args.parity.now in
    elim c.if-learn_block.branch [
      | then-learn_block w ↦ record {
        mid = c.learn_block.new.known;
        of_block = subst (λ (k : ℕ). Learns c.args.known.now c.learn_block.new.known (HasSymbols k m n place k block)) c.k.ensures.number (c.learn_block.ensures.learns w.if-learn_block.true);
        of_parity = subst (λ known. Learns c.learn_block.new.known known (HasParities code m n place code.r parity)) (sym w.known-is) (w.learn_and_settle-fits.ensures.learns (sym w.fits-is ∙ e));
      }
      | else-learn_block w ↦ absurd (let other : true ≡ false = sym e ∙ w.fits-is ∙ w.if-learn_block.false in cc)
    ]

pub returns-clause-refuses : goal.returns-clause-refuses
returns-clause-refuses c e =
    let code = c.args.code.now in
    let m = c.args.m in
    let n = c.args.places in
    let place = c.args.place in
    let block = c.args.block.now in
    elim c.if-learn_block.branch [
      | then-learn_block w ↦
          at_parity c.learn_block.new.known
          (subst (λ (k : ℕ). Learns c.args.known.now c.learn_block.new.known (HasSymbols k m n place k block)) c.k.ensures.number (c.learn_block.ensures.learns w.if-learn_block.true))
          (w.learn_and_settle-fits.ensures.refuses (sym w.fits-is ∙ e))
      | else-learn_block w ↦
          at_block (subst (λ (k : ℕ). Refuses c.args.known.now (HasSymbols k m n place k block)) c.k.ensures.number (c.learn_block.ensures.refuses w.if-learn_block.false))
    ]
