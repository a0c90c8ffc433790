use Rattle.std.proofs.Common.{◌≤◌, ap, subst, Some, Ok}
use Rattle.std.proofs.lemmas.Result.{err_from_is_err_and}
use Rattle.sc_repair.specs.Repairer.{Repairer}
use Rattle.sc_repair.specs.Stands.{IsNext, IsLeft, OutCounts}
use Rattle.sc_repair.specs.Steps.{PutsBlock}
use Rattle.sc_repair.proofs.NextSteps.{next_put, next_bad, next_fails, next_missed, next_ended, none_settled}
use Rattle.sc_repair.proofs.put.put_next.Goals as goal

-- src/put.rt:87:16
pub returns-in_err-put_block-in-Some-Block-clause-gives :
    goal.returns-in_err-put_block-in-Some-Block-clause-gives
returns-in_err-put_block-in-Some-Block-clause-gives g c taken text st le d =
    let failed = err_from_is_err_and c.from_residual.result c.from_residual.ensures.1 in
    rw failed.1
    (next_fails c.args.repairer.now c.next_out.new.self taken st c.in-Some-Block.slot c.block.result.now _ _ _ c.put_block.new.pending text _ (subst (λ p. OutCounts c.args.repairer.now c.next_out.new.self (Some p)) c.in-Some-Block.field-0-is c.in-Some-Block.ensures.counts) c.block.ensures.bytes c.block.ensures.count
    (λ e. subst (λ p. IsNext c.args.repairer.now taken c.next_out.new.self.block (Some p)) c.in-Some-Block.field-0-is (c.in-Some-Block.ensures.next e taken st)) (λ e. subst (λ p. IsLeft c.args.repairer.now taken c.next_out.new.self.block (Some p)) c.in-Some-Block.field-0-is (c.in-Some-Block.ensures.left e taken st)) d failed.0 c.in_err-put_block-in-Some-Block.ensures)

-- src/put.rt:65:1
pub returns-in-None-clause-gives : goal.returns-in-None-clause-gives
returns-in-None-clause-gives g c taken text st le d =
    next_ended c.args.repairer.now c.next_out.new.self taken st _ _ text _ (λ e. c.in-None.ensures.next e taken st) (λ e. c.in-None.ensures.left e taken st) le d

-- src/put.rt:65:1
pub returns-in-None-clause-counts : goal.returns-in-None-clause-counts
returns-in-None-clause-counts g c =
    (c.in-None.ensures.counts.0, c.in-None.ensures.counts.1, λ e taken st. none_settled c.args.repairer.now taken st e (c.in-None.ensures.next e taken st))

-- src/put.rt:65:1
pub returns-in-Some-Missed-clause-gives : goal.returns-in-Some-Missed-clause-gives
returns-in-Some-Missed-clause-gives g c taken text st le d =
    next_missed c.args.repairer.now c.next_out.new.self taken st c.in-Some-Missed.field-0-0 _ _ text _ (subst (λ p. OutCounts c.args.repairer.now c.next_out.new.self (Some p)) c.in-Some-Missed.field-0-is c.in-Some-Missed.ensures.counts)
    (subst (λ n. n ≤ 4000000) (ap (λ (x : Repairer). x.passed) (subst (λ p. OutCounts c.args.repairer.now c.next_out.new.self (Some p)) c.in-Some-Missed.field-0-is c.in-Some-Missed.ensures.counts).0) c.next_out.ensures.sound.few)
    (λ e. subst (λ p. IsNext c.args.repairer.now taken c.next_out.new.self.block (Some p)) c.in-Some-Missed.field-0-is (c.in-Some-Missed.ensures.next e taken st)) (λ e. subst (λ p. IsLeft c.args.repairer.now taken c.next_out.new.self.block (Some p)) c.in-Some-Missed.field-0-is (c.in-Some-Missed.ensures.left e taken st)) d

-- src/put.rt:65:1
pub returns-then-branch-clause-gives : goal.returns-then-branch-clause-gives
returns-then-branch-clause-gives g c taken text st le d =
    next_put c.args.repairer.now c.next_out.new.self taken st c.in-Some-Block.slot c.block.result.now _ _ _ _ text _ (subst (λ p. OutCounts c.args.repairer.now c.next_out.new.self (Some p)) c.in-Some-Block.field-0-is c.in-Some-Block.ensures.counts) c.block.ensures.bytes c.block.ensures.count
    (λ e. subst (λ p. IsNext c.args.repairer.now taken c.next_out.new.self.block (Some p)) c.in-Some-Block.field-0-is (c.in-Some-Block.ensures.next e taken st)) (λ e. subst (λ p. IsLeft c.args.repairer.now taken c.next_out.new.self.block (Some p)) c.in-Some-Block.field-0-is (c.in-Some-Block.ensures.left e taken st)) d
    (subst (λ b. PutsBlock (g.P.Port.told c.args.port.now) (g.P.Port.told c.put_block.new.port) c.block.result.now c.args.pending.now c.put_block.new.pending (Ok b)) c.if-branch.true c.in_ok-put_block-in-Some-Block.ensures)

-- src/put.rt:65:1
pub returns-else-branch-clause-gives : goal.returns-else-branch-clause-gives
returns-else-branch-clause-gives g c taken text st le d =
    next_bad c.args.repairer.now c.next_out.new.self taken st c.in-Some-Block.slot c.block.result.now _ _ _ _ text _ (subst (λ p. OutCounts c.args.repairer.now c.next_out.new.self (Some p)) c.in-Some-Block.field-0-is c.in-Some-Block.ensures.counts) c.block.ensures.bytes c.block.ensures.count
    (λ e. subst (λ p. IsNext c.args.repairer.now taken c.next_out.new.self.block (Some p)) c.in-Some-Block.field-0-is (c.in-Some-Block.ensures.next e taken st)) (λ e. subst (λ p. IsLeft c.args.repairer.now taken c.next_out.new.self.block (Some p)) c.in-Some-Block.field-0-is (c.in-Some-Block.ensures.left e taken st)) d
    (subst (λ b. PutsBlock (g.P.Port.told c.args.port.now) (g.P.Port.told c.put_block.new.port) c.block.result.now c.args.pending.now c.put_block.new.pending (Ok b)) c.if-branch.false c.in_ok-put_block-in-Some-Block.ensures)
