use Rattle.std.proofs.Common.{sym}
use Rattle.streamcode.specs.Runs.{plan_of}
use Rattle.sc_words.specs.Words.{command_of, texts}
use Rattle.streamcode.proofs.RunLaws.{run_decided, run_quiet, run_prefix, run_usage, run_read_fault, run_write_fault, run_untouched}
use Rattle.streamcode.proofs.program.run.Goals as goal

pub returns-clause-decided : goal.returns-clause-decided
returns-clause-decided g c =
    run_decided g.P.Port.told _ _ c.answer-end.result c.conclude.result (sym c.conclude.ensures.status) (command_of (texts c.args.words.now.items)) _ _ c.answer-end.ensures.ends

pub returns-clause-quiet : goal.returns-clause-quiet
returns-clause-quiet g c = run_quiet (plan_of (texts c.args.words.now.items)) _ _ _ _ c.conclude.result (returns-clause-decided g c)

pub returns-clause-prefix : goal.returns-clause-prefix
returns-clause-prefix g c = run_prefix g.P.Port.told _ _ c.answer-end.result (command_of (texts c.args.words.now.items)) _ _ c.answer-end.ensures.ends

pub returns-clause-usage : goal.returns-clause-usage
returns-clause-usage g c =
    run_usage g.P.Port.told _ _ c.answer-end.result c.conclude.result (sym c.conclude.ensures.status) (command_of (texts c.args.words.now.items)) _ _ c.answer-end.ensures.ends

pub returns-clause-read_fault : goal.returns-clause-read_fault
returns-clause-read_fault g c =
    run_read_fault g.P.Port.told _ _ c.answer-end.result c.conclude.result (sym c.conclude.ensures.status) (command_of (texts c.args.words.now.items)) _ _ c.answer-end.ensures.ends

pub returns-clause-write_fault : goal.returns-clause-write_fault
returns-clause-write_fault g c =
    run_write_fault g.P.Port.told _ _ c.answer-end.result c.conclude.result (sym c.conclude.ensures.status) (command_of (texts c.args.words.now.items)) _ _ c.answer-end.ensures.ends

pub returns-clause-untouched : goal.returns-clause-untouched
returns-clause-untouched g c = run_untouched g.P.Port.told _ _ c.answer-end.result (plan_of (texts c.args.words.now.items)) _ _ c.answer-end.ensures.ends

pub returns-clause-in_time : goal.returns-clause-in_time
returns-clause-in_time g c = c.answer-end.ensures.in_time
