use Rattle.sc_repair.specs.Equations.{Gives}
use Rattle.sc_repair.specs.Columns.{all_known}
use Rattle.sc_repair.proofs.ColumnSteps.{says_here}
use Rattle.sc_repair.proofs.SumSteps.{learns_alike, refuses_alike}
use Rattle.sc_repair.proofs.columns.add_rest.Goals as goal

pub returns-clause-learns : goal.returns-clause-learns
returns-clause-learns c yes' =
    let known = c.args.known.now in
    let whole = c.args.whole.now in
    let bytes = c.args.bytes.now in
    let row = c.args.row.now in
    let sum = c.args.sum.now in
    let row' = c.take_out.new.row in
    let sum' = c.take_out.new.sum in
    learns_alike (all_known known whole bytes) (all_known c.add_open.new.known whole bytes) (Gives known.width row sum) (Gives known.width row' sum')
    (says_here known whole c.args.free.now bytes row sum row' sum' c.requires.columns c.requires.row c.requires.sum c.take_out.ensures.elements c.take_out.ensures.same) (c.add_open.ensures.learns yes')

pub returns-clause-refuses : goal.returns-clause-refuses
returns-clause-refuses c no' =
    let known = c.args.known.now in
    let whole = c.args.whole.now in
    let bytes = c.args.bytes.now in
    let row = c.args.row.now in
    let sum = c.args.sum.now in
    let row' = c.take_out.new.row in
    let sum' = c.take_out.new.sum in
    refuses_alike (all_known known whole bytes) (Gives known.width row sum) (Gives known.width row' sum')
    (says_here known whole c.args.free.now bytes row sum row' sum' c.requires.columns c.requires.row c.requires.sum c.take_out.ensures.elements c.take_out.ensures.same) (c.add_open.ensures.refuses no')
