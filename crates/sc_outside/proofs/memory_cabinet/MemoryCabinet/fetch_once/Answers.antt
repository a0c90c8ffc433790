use Rattle.std.proofs.Common.{rules, refl}
use Rattle.sc_outside.specs.MemoryCabinet.{FetchesAs}
use Rattle.sc_outside.proofs.memory_cabinet.MemoryCabinet.fetch_once.Goals as goal

pub returns-then-refused-clause-exact : goal.returns-then-refused-clause-exact
returns-then-refused-clause-exact c = FetchesAs.refused (search rules) refl (search rules)

pub returns-in_default-clause-exact : goal.returns-in_default-clause-exact
returns-in_default-clause-exact c = FetchesAs.served (search rules) (search rules) (search rules)

pub returns-in-Ok-clause-exact : goal.returns-in-Ok-clause-exact
returns-in-Ok-clause-exact c = FetchesAs.served (search rules) (c.in-Some.file.now, search rules, search rules) (search rules)

pub returns-in-Err-clause-exact : goal.returns-in-Err-clause-exact
returns-in-Err-clause-exact c = FetchesAs.served (search rules) (c.in-Some.file.now, search rules) (search rules)
