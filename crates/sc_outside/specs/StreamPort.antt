-- What a port over a reader and a writer of std tells.
use Rattle.std.specs.Prelude.{ℕ, List, Option, None}
use Rattle.std.specs.Io.Buffered.{reader_remaining}
use Rattle.sc_outside.specs.declared.stream_port.StreamPort.{StreamPort}
use Rattle.sc_outside.specs.Port.{Told}

-- the bytes that the reader has left and those that the writer holds, as far as these tell them
abbrev pub port_told : {R W : Type 0} → (R → Option (List ℕ)) → (W → Option (List ℕ)) → StreamPort R W → Told
port_told remaining contents port = record {
  left = reader_remaining remaining port.input;
  given = contents port.output;
  journal = None;
  read_faults = port.read_faults;
  write_faults = port.write_faults;
}
